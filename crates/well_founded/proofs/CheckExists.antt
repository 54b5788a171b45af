-- The check of a grammar always says something.
use Rattle.std.proofs.Common.{◌≡◌, ◌⊎◌, ◌↔◌, inl, inr, ℕ, Bool, true, false, not, List, length, refl, sym, ap, ◌∙◌, true≢false, slice_get, Option, Some, None}
use Rattle.std.specs.Option.{option_or}
use Rattle.std.proofs.lemmas.Bool.{not-false}
use Rattle.spec_syntax.specs.Expression as expr
use Rattle.spec_syntax.specs.Expression.{Expression, preorder}
use Rattle.spec_syntax.specs.Rules.{Rules, symbol}
use Rattle.spec_syntax.specs.Grammar.{Grammar}
use Rattle.spec_syntax.proofs.RuleNames.{symbol_of_rule}
use Rattle.lists.specs.Enumeration.{IsIn}
use Rattle.well_founded.specs.declared.refused.Refused.{Refused}
use Rattle.well_founded.specs.declared.refused.Refused.TheVariants.{Undefined, CycleUnlabelled, Unproductive, NullElement, Endless}
use Rattle.well_founded.specs.Names.{undefined_name, symbol_without_rule, name_without_rule}
use Rattle.well_founded.specs.Sizes.{IsProductive, IsLeast}
use Rattle.well_founded.specs.Least.{IsSize, least_with, size_of_name}
use Rattle.spec_syntax.specs.Nodes.{right_node}
use Rattle.graphs.specs.Graph.{Graph, Leads, Reaches}
use Rattle.well_founded.specs.SameSize.{is_null, same_size_graph}
use Rattle.well_founded.specs.Containers.{is_not_over_null, is_without_null}
use Rattle.well_founded.specs.WellFounded.{may_hold_cycles, HasNullElement, HoldsItself, HoldsCycle, HasNoStructure, HoldsNull, IsEndless, OfNone, IsFirst, IsEachProductive, Checks}
use Rattle.well_founded.specs.Laws.{SaysSome, SaysOne}
use Rattle.lists.proofs.Tests.{passes, one_fails}
use Rattle.well_founded.proofs.CyclesLaws.{name_allowed, inside_allowed, rule_allowed}
use Rattle.well_founded.proofs.SameSizeLaws.{null_size, from_null}
use Rattle.well_founded.proofs.LeastRounds.{sizes_exist}
use Rattle.graphs.proofs.Reached.{marks_exist}
use Rattle.well_founded.proofs.EndlessLaws.{endless_is}
use Rattle.well_founded.proofs.RankLaws.{is_graph}
use Rattle.well_founded.proofs.CheckLaws.{first_or_none, first_in, one_check}

-- ---- what is told of containers

-- the test of a container over one that can be empty, by the least sizes, tells what is said of the rule
module _ (g : Grammar) (sizes : Expression → Option ℕ) (sized : (e : Expression) → may_hold_cycles g e ≡ true → IsSize g e (sizes e)) where
  pub no_null_where : (right : Expression) → may_hold_cycles g right ≡ true → is_without_null sizes right ≡ true → HasNullElement g right → ⊥
  no_null_where right allowed without null =
      let passed = passes (is_not_over_null sizes) (expr.Many null.kind null.element null.card) (preorder right) without null.held in
      let empty = null_size g sizes sized null.element null.empty (inside_allowed g right null.kind null.element null.card allowed null.held) null.is_of null.is_empty in
      true≢false (sym passed ∙ ap not empty)

  pub null_where : (right : Expression) → may_hold_cycles g right ≡ true → is_without_null sizes right ≡ false → HasNullElement g right
  null_where right allowed fails =
      let failing = one_fails (is_not_over_null sizes) (preorder right) fails in
      by failing.0 failing.1 failing.2
    where
      by : (e : Expression) → IsIn e (preorder right) → is_not_over_null sizes e ≡ false → HasNullElement g right
      by (expr.Many kind element card) there fails =
          let smallest = from_null g sizes sized element (inside_allowed g right kind element card allowed there) (not-false (is_null (sizes element)) fails) in
          record { kind = kind; element = element; card = card; held = there; empty = smallest.0; is_of = smallest.1; is_empty = ap length smallest.2 }
      by e there fails = absurd (true≢false fails)

-- no name is undefined without the class symbol
without_start : (rules : Rules) (start : Option (List ℕ)) → undefined_name rules start ≡ None → undefined_name rules None ≡ None
without_start rules start h = by (name_without_rule rules) h
  where
    by : (first : Option (List ℕ)) → option_or first (symbol_without_rule rules start) ≡ None → option_or first None ≡ None
    by None h = refl
    by (Some name) h = absurd (cc)

no_mark : (mark : Option Bool) → mark ≡ None → mark ≡ Some true → ⊥
no_mark mark e f = absurd (cc)

other_mark : (mark : Option Bool) → mark ≡ Some false → mark ≡ Some true → ⊥
other_mark mark e f = absurd (cc)

-- ---- something is said

tell : {A : Type 0} (b : Bool) → (b ≡ true → A → ⊥) → (b ≡ false → A) → A ⊎ (A → ⊥)
tell true fails holds = inr (fails refl)
tell false fails holds = inl (holds refl)

module _ (g : Grammar) (start : Option (List ℕ)) (sizes : Expression → Option ℕ) (allows : OfNone (HoldsCycle g) g.rules)
    (sized : (e : Expression) → may_hold_cycles g e ≡ true → IsSize g e (sizes e)) where
  productive_or_not : (name : List ℕ) → IsProductive g (expr.Name name) ⊎ (IsProductive g (expr.Name name) → ⊥)
  productive_or_not name = by (sizes (expr.Name name)) (sized (expr.Name name) (name_allowed g name))
    where
      by : (size : Option ℕ) → IsSize g (expr.Name name) size → IsProductive g (expr.Name name) ⊎ (IsProductive g (expr.Name name) → ⊥)
      by None none = inr none
      by (Some n) some = inl some.0

  least_of : (name : List ℕ) → IsProductive g (expr.Name name) → (n : ℕ) × IsLeast g (expr.Name name) n
  least_of name productive = by (sizes (expr.Name name)) (sized (expr.Name name) (name_allowed g name))
    where
      by : (size : Option ℕ) → IsSize g (expr.Name name) size → (n : ℕ) × IsLeast g (expr.Name name) n
      by None none = absurd (none productive)
      by (Some n) some = (n, some.1)

  null_or_not : (name : List ℕ) (right : Expression) → IsIn (name, right) g.rules → HasNullElement g right ⊎ (HasNullElement g right → ⊥)
  null_or_not name right there =
      let allowed = rule_allowed g name right allows there in
      tell (is_without_null sizes right) (no_null_where g sizes sized right allowed) (null_where g sizes sized right allowed)

  module _ (full : OfNone (HoldsNull g) g.rules) where
    endless_or_not : (name : List ℕ) (right : Expression) → IsIn (name, right) g.rules → IsProductive g (expr.Name name) → HoldsItself g name ⊎ (HoldsItself g name → ⊥)
    endless_or_not name right there productive = by (slice_get marks.0 node) refl
      where
        graph : Graph
        graph = same_size_graph g.rules sizes

        numbered : (n : ℕ) × (symbol g.rules name ≡ Some n)
        numbered = symbol_of_rule g.rules name right there

        node : ℕ
        node = right_node g.rules numbered.0

        marks : (marks : List Bool) × Reaches graph node marks
        marks = marks_exist graph (is_graph g sizes) node

        way : HoldsItself g name ↔ Leads graph node node
        way = endless_is g sizes allows sized full name numbered.0 numbered.1 productive

        by : (mark : Option Bool) → slice_get marks.0 node ≡ mark → HoldsItself g name ⊎ (HoldsItself g name → ⊥)
        by None is = inr (λ holds. no_mark (slice_get marks.0 node) is (marks.1.complete node (way.0 holds)))
        by (Some false) is = inr (λ holds. other_mark (slice_get marks.0 node) is (marks.1.complete node (way.0 holds)))
        by (Some true) is = inl (way.1 (marks.1.sound node is))

    said_of_endless : undefined_name g.rules start ≡ None → IsEachProductive g → (said : Option Refused) × Checks g start said
    said_of_endless named productive = by (first_or_none (IsEndless g) g.rules (λ name right there. endless_or_not name right there (productive name right there)))
      where
        by : OfNone (IsEndless g) g.rules ⊎ ((name : List ℕ) × IsFirst (IsEndless g) g.rules name) → (said : Option Refused) × Checks g start said
        by (inl none) = (
          None,
          (
            record {
              named = without_start g.rules start named;
              no_cycles = allows;
              productive = productive;
              no_null_elements = full;
              finite = none;
            },
            named,
          ),
        )
        by (inr (name, first)) =
            let least = least_of name (productive name first.right (first_in (IsEndless g) g.rules name first)) in
            (Some (Endless name least.0), (named, allows, productive, full, first, least.1))

  said_of_null : undefined_name g.rules start ≡ None → IsEachProductive g → (said : Option Refused) × Checks g start said
  said_of_null named productive = by (first_or_none (HoldsNull g) g.rules null_or_not)
    where
      by : OfNone (HoldsNull g) g.rules ⊎ ((name : List ℕ) × IsFirst (HoldsNull g) g.rules name) → (said : Option Refused) × Checks g start said
      by (inl none) = said_of_endless none named productive
      by (inr (name, first)) = (Some (NullElement name), (named, allows, productive, first))

  said_of_productive : undefined_name g.rules start ≡ None → (said : Option Refused) × Checks g start said
  said_of_productive named = by (first_or_none (HasNoStructure g) g.rules (λ name right there. swap (productive_or_not name)))
    where
      swap : {A : Type 0} → A ⊎ (A → ⊥) → (A → ⊥) ⊎ ((A → ⊥) → ⊥)
      swap (inl a) = inr (λ not_a. not_a a)
      swap (inr not_a) = inl not_a

      has : (name : List ℕ) → (HasNoStructure g name expr.Epsilon → ⊥) → IsProductive g (expr.Name name)
      has name not_none = elim (productive_or_not name) [ inl some ↦ some | inr none ↦ absurd (not_none none) ]

      by : OfNone (HasNoStructure g) g.rules ⊎ ((name : List ℕ) × IsFirst (HasNoStructure g) g.rules name) → (said : Option Refused) × Checks g start said
      by (inl none) = said_of_null named (λ name right there. has name (none name right there))
      by (inr (name, first)) = (Some (Unproductive name), (named, allows, first))

cycle_or_not : (g : Grammar) (name : List ℕ) (right : Expression) → IsIn (name, right) g.rules → HoldsCycle g name right ⊎ (HoldsCycle g name right → ⊥)
cycle_or_not g name right there = tell (may_hold_cycles g right) (λ may holds. true≢false (sym may ∙ holds)) (λ holds. holds)

said_of_cycles : (g : Grammar) (start : Option (List ℕ)) → undefined_name g.rules start ≡ None → (said : Option Refused) × Checks g start said
said_of_cycles g start named = by (first_or_none (HoldsCycle g) g.rules (cycle_or_not g))
  where
    by : OfNone (HoldsCycle g) g.rules ⊎ ((name : List ℕ) × IsFirst (HoldsCycle g) g.rules name) → (said : Option Refused) × Checks g start said
    by (inl none) =
        let table = sizes_exist g.rules in
        said_of_productive g start (least_with (size_of_name g.rules table.0)) none (λ e allowed. table.1.each g.universe e none allowed) named
    by (inr (name, first)) = (Some (CycleUnlabelled name), (named, first))

pub some_check : (g : Grammar) (start : Option (List ℕ)) → (said : Option Refused) × Checks g start said
some_check g start = by (undefined_name g.rules start) refl
  where
    by : (undefined : Option (List ℕ)) → undefined_name g.rules start ≡ undefined → (said : Option Refused) × Checks g start said
    by (Some name) is = (Some (Undefined name), is)
    by None is = said_of_cycles g start is

pub says_some : SaysSome
says_some g start spec = some_check g start

pub says_one : SaysOne
says_one g start said other spec p q = one_check g start said other p q
