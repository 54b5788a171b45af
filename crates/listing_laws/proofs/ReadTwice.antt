-- Where each PowerSet is read as Set, it may be read so again, and a well founded grammar stays so.
use Rattle.std.proofs.Common.{◌≡◌, ℕ, not, ◌&&◌, ◌||◌, is_some, List, [], ◌∷◌, ◌++◌, map, None, refl, sym, ap, ◌∙◌, subst}
use Rattle.std.specs.Prelude.{find}
use Rattle.std.specs.Option.{option_or}
use Rattle.std.specs.List.{list_all, flat_map}
use Rattle.std.proofs.lemmas.List.{map-append}
use Rattle.spec_syntax.specs.declared.expr.Card.{Card}
use Rattle.spec_syntax.specs.declared.expr.Kind.{Kind}
use Rattle.spec_syntax.specs.declared.expr.Kind.TheVariants as kind
use Rattle.spec_syntax.specs.Expression as expr
use Rattle.spec_syntax.specs.Expression.{Expression, Expressions, no_expressions, more_expressions, preorder, preorder_of_all}
use Rattle.spec_syntax.specs.Rules.{Rules}
use Rattle.spec_syntax.specs.Grammar.{Grammar}
use Rattle.struct_model.specs.Structure.{Structure}
use Rattle.struct_model.specs.Membership.{is_of, is_labelled}
use Rattle.lists.specs.Enumeration.{IsIn}
use Rattle.lists.proofs.Enumerated.{from_map}
use Rattle.well_founded.specs.Names.{name_in, used_names, names_used_in, undefined_name}
use Rattle.well_founded.specs.Sets.{set_kind, with_sets, all_with_sets, reading_sets}
use Rattle.well_founded.specs.Sizes.{IsOf}
use Rattle.well_founded.specs.WellFounded.{is_no_cycle, may_hold_cycles, HasNullElement, HoldsCycle, HoldsNull, OfNone, IsWellFounded}
use Rattle.well_founded.proofs.SetsLaws.{symbol_reading}

-- ---- twice

kind_twice : (kind : Kind) → set_kind (set_kind kind) ≡ set_kind kind
kind_twice kind.Sequence = refl
kind_twice kind.Set = refl
kind_twice kind.PowerSet = refl
kind_twice kind.Cycle = refl

mutual
  with_sets_twice : (e : Expression) → with_sets (with_sets e) ≡ with_sets e
  with_sets_twice expr.Epsilon = refl
  with_sets_twice expr.Atom = refl
  with_sets_twice (expr.Name name) = refl
  with_sets_twice (expr.Union es) = ap expr.Union (all_with_sets_twice es)
  with_sets_twice (expr.Prod es) = ap expr.Prod (all_with_sets_twice es)
  with_sets_twice (expr.Many kind e card) = λ i. expr.Many (kind_twice kind i) (with_sets_twice e i) card

  all_with_sets_twice : (es : Expressions) → all_with_sets (all_with_sets es) ≡ all_with_sets es
  all_with_sets_twice no_expressions = refl
  all_with_sets_twice (more_expressions e es) = λ i. more_expressions (with_sets_twice e i) (all_with_sets_twice es i)

abbrev read_rules : Rules → Rules
read_rules rules = map (λ rule. (rule.0, with_sets rule.1)) rules

rules_twice : (rules : Rules) → read_rules (read_rules rules) ≡ read_rules rules
rules_twice [] = refl
rules_twice (rule ∷ rules) = λ i. (rule.0, with_sets_twice rule.1 i) ∷ rules_twice rules i

-- the second reading has the structures of the first
of_twice : (g : Grammar) (e : Expression) (s : Structure) → is_of (reading_sets (reading_sets g)) (with_sets (with_sets e)) s ≡ is_of (reading_sets g) (with_sets e) s
of_twice g e s = λ i. is_of (record { rules = rules_twice g.rules i; universe = g.universe }) (with_sets_twice e i) s

-- ---- what stands in the rules

-- the nodes are read one by one
mutual
  preorder_reading : (e : Expression) → preorder (with_sets e) ≡ map with_sets (preorder e)
  preorder_reading expr.Epsilon = refl
  preorder_reading expr.Atom = refl
  preorder_reading (expr.Name name) = refl
  preorder_reading (expr.Union es) = ap (λ others. expr.Union (all_with_sets es) ∷ others) (preorder_of_all_reading es)
  preorder_reading (expr.Prod es) = ap (λ others. expr.Prod (all_with_sets es) ∷ others) (preorder_of_all_reading es)
  preorder_reading (expr.Many kind e card) = ap (λ others. expr.Many (set_kind kind) (with_sets e) card ∷ others) (preorder_reading e)

  preorder_of_all_reading : (es : Expressions) → preorder_of_all (all_with_sets es) ≡ map with_sets (preorder_of_all es)
  preorder_of_all_reading no_expressions = refl
  preorder_of_all_reading (more_expressions e es) =
      (λ i. preorder_reading e i ++ preorder_of_all_reading es i) ∙ sym (map-append with_sets (preorder e) (preorder_of_all es))

name_in_reading : (e : Expression) → name_in (with_sets e) ≡ name_in e
name_in_reading expr.Epsilon = refl
name_in_reading expr.Atom = refl
name_in_reading (expr.Name name) = refl
name_in_reading (expr.Union es) = refl
name_in_reading (expr.Prod es) = refl
name_in_reading (expr.Many kind e card) = refl

names_in_reading : (es : List Expression) → flat_map name_in (map with_sets es) ≡ flat_map name_in es
names_in_reading [] = refl
names_in_reading (e ∷ es) = λ i. name_in_reading e i ++ names_in_reading es i

used_names_reading : (e : Expression) → used_names (with_sets e) ≡ used_names e
used_names_reading e = ap (flat_map name_in) (preorder_reading e) ∙ names_in_reading (preorder e)

names_used_reading : (rules : Rules) → names_used_in (read_rules rules) ≡ names_used_in rules
names_used_reading [] = refl
names_used_reading (rule ∷ rules) = λ i. used_names_reading rule.1 i ++ names_used_reading rules i

-- the same names have no rule
undefined_reading : (g : Grammar) → undefined_name (reading_sets g).rules None ≡ undefined_name g.rules None
undefined_reading g = λ i. option_or (find (λ name. not (is_some (symbol_reading g name i))) (names_used_reading g.rules i)) None

no_cycle_reading : (e : Expression) → is_no_cycle (with_sets e) ≡ is_no_cycle e
no_cycle_reading expr.Epsilon = refl
no_cycle_reading expr.Atom = refl
no_cycle_reading (expr.Name name) = refl
no_cycle_reading (expr.Union es) = refl
no_cycle_reading (expr.Prod es) = refl
no_cycle_reading (expr.Many kind.Sequence e card) = refl
no_cycle_reading (expr.Many kind.Set e card) = refl
no_cycle_reading (expr.Many kind.PowerSet e card) = refl
no_cycle_reading (expr.Many kind.Cycle e card) = refl

no_cycles_reading : (es : List Expression) → list_all is_no_cycle (map with_sets es) ≡ list_all is_no_cycle es
no_cycles_reading [] = refl
no_cycles_reading (e ∷ es) = λ i. no_cycle_reading e i && no_cycles_reading es i

cycles_reading : (g : Grammar) (e : Expression) → may_hold_cycles (reading_sets g) (with_sets e) ≡ may_hold_cycles g e
cycles_reading g e = ap (λ none. is_labelled g.universe || none) (ap (list_all is_no_cycle) (preorder_reading e) ∙ no_cycles_reading (preorder e))

-- ---- containers

-- what is read as a container with this element is a container
record IsRead (e element : Expression) (card : Card) : Type 0 where
  kind : Kind
  unread : Expression
  is : e ≡ expr.Many kind unread card
  element_is : element ≡ with_sets unread

container_unread : (e : Expression) (kind : Kind) (element : Expression) (card : Card) → expr.Many kind element card ≡ with_sets e → IsRead e element card
container_unread (expr.Many kind unread bound) read element card h =
    let same : bound ≡ card = cc in
    record { kind = kind; unread = unread; is = ap (expr.Many kind unread) same; element_is = cc }
container_unread expr.Epsilon read element card h = absurd (cc)
container_unread expr.Atom read element card h = absurd (cc)
container_unread (expr.Name name) read element card h = absurd (cc)
container_unread (expr.Union es) read element card h = absurd (cc)
container_unread (expr.Prod es) read element card h = absurd (cc)

null_unread : (g : Grammar) (right : Expression) → HasNullElement (reading_sets g) (with_sets right) → HasNullElement g right
null_unread g right null =
    let found = from_map with_sets (expr.Many null.kind null.element null.card) (preorder right)
    (subst (IsIn (expr.Many null.kind null.element null.card)) (preorder_reading right) null.held) in
    let read : IsRead found.0 null.element null.card = container_unread found.0 null.kind null.element null.card found.2 in
    record {
      kind = read.kind;
      element = read.unread;
      card = null.card;
      held = subst (λ (e : Expression). IsIn e (preorder right)) read.is found.1;
      empty = null.empty;
      is_of = sym (of_twice g read.unread null.empty) ∙ subst (λ (e : Expression). IsOf (reading_sets g) e null.empty) read.element_is null.is_of;
      is_empty = null.is_empty;
    }

-- ---- the rules

-- a rule that is read is a rule
rule_unread : (rules : Rules) (name : List ℕ) (read : Expression) → IsIn (name, read) (read_rules rules)
    → (right : Expression) × IsIn (name, right) rules × (read ≡ with_sets right)
rule_unread rules name read there =
    let found = from_map (λ (rule : List ℕ × Expression). (rule.0, with_sets rule.1)) (name, read) rules there in
    let same : name ≡ found.0.0 = ap (λ (rule : List ℕ × Expression). rule.0) found.2 in
    (found.0.1, subst (λ (x : List ℕ). IsIn (x, found.0.1) rules) (sym same) found.1, ap (λ (rule : List ℕ × Expression). rule.1) found.2)

-- where no container has an empty element, none has one in the reading
pub no_nulls_read : (g : Grammar) → OfNone (HoldsNull g) g.rules → OfNone (HoldsNull (reading_sets g)) (reading_sets g).rules
no_nulls_read g none name read there null =
    let rule = rule_unread g.rules name read there in
    none name rule.0 rule.1 (null_unread g rule.0 (subst (HasNullElement (reading_sets g)) rule.2 null))

pub well_founded_read : (g : Grammar) → IsWellFounded g → IsWellFounded (reading_sets g)
well_founded_read g founded = record {
  named = undefined_reading g ∙ founded.named;
  no_cycles = λ name read there holds.
      let rule = rule_unread g.rules name read there in
      founded.no_cycles name rule.0 rule.1 (sym (cycles_reading g rule.0) ∙ subst (HoldsCycle (reading_sets g) name) rule.2 holds);
  productive = λ name read there.
      let rule = rule_unread g.rules name read there in
      let some = founded.productive name rule.0 rule.1 in
      (some.0, of_twice g (expr.Name name) some.0 ∙ some.1);
  no_null_elements = no_nulls_read g founded.no_null_elements;
  finite = λ name read there holds.
      let rule = rule_unread g.rules name read there in
      founded.finite name rule.0 rule.1
      (record {
        outer = holds.outer;
        inner = holds.inner;
        is_outer = sym (of_twice g (expr.Name name) holds.outer) ∙ holds.is_outer;
        is_inner = sym (of_twice g (expr.Name name) holds.inner) ∙ holds.is_inner;
        inside = holds.inside;
        same_size = holds.same_size;
      });
}
