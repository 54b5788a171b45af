-- When its turn comes, what a node needs of the nodes below it is told.
use Rattle.std.proofs.Common.{◌≡◌, ◌⊎◌, ℕ, ◌<◌, ◌≤◌, Bool, true, false, true≢false, List, [], ◌∷◌, length, Option, Some, slice_get, unwrap_or, sym, ap, ◌∙◌, subst, inl, inr, arith, IsTrue}
use Rattle.std.specs.Prelude.{nat_le}
use Rattle.std.specs.Option.{option_and_then}
use Rattle.std.proofs.lemmas.Bool.{cases_lt}
use Rattle.std.proofs.lemmas.Bool.Decides.{nat_tests}
use Rattle.std.proofs.lemmas.Option.{slice_get_within, slice_get_past}
use Rattle.lists.proofs.Places.{in_of_get}
use Rattle.lists.proofs.Positions.{slice_some}
use Rattle.spec_syntax.specs.declared.expr.Card.{Card}
use Rattle.spec_syntax.specs.declared.expr.Kind.{Kind}
use Rattle.spec_syntax.specs.declared.expr.Kind.TheVariants as kinds
use Rattle.spec_syntax.specs.Card.{admits}
use Rattle.spec_syntax.specs.Expression as expr
use Rattle.spec_syntax.specs.Expression.{Expression, Expressions, expression_list}
use Rattle.spec_syntax.specs.Rules.{all_nodes}
use Rattle.spec_syntax.specs.Nodes.{node_at, children_at, children_of, below}
use Rattle.spec_syntax.proofs.NodesLemmas.{in_nodes, child_node, length-children_of}
use Rattle.graphs.specs.Graph.{IsMarked}
use Rattle.struct_model.specs.Bounded.{number}
use Rattle.well_founded.specs.declared.node.NodeKind.TheVariants as told
use Rattle.well_founded.specs.NodeKinds.{kind_of}
use Rattle.well_founded.specs.SameSize.{is_told_inside}
use Rattle.well_founded.specs.Sizes.{no_least}
use Rattle.well_founded.specs.Checked.{Checked, grammar}
use Rattle.well_founded.specs.Rank.{FallsBySizes, CanHaveAll}
use Rattle.splits.specs.Capped.{Tells}
use Rattle.size_counts.specs.Tables.{Layer}
use Rattle.size_counts.specs.Told.{AreTold, TellNow}
use Rattle.size_counts.specs.Suffixes.{ArgumentsTold, needs_atoms}
use Rattle.size_counts.specs.Turns.{EachTold, NameTold}
use Rattle.size_counts.proofs.Law.{recur}
use Rattle.size_counts.proofs.ReachedLemmas.{children_here}
use Rattle.size_counts.proofs.SuffixLemmas.{needs_at}

pub positive_is : (n : ℕ) → nat_le 1 n ≡ true → 0 < n
positive_is n is = grind (arith, nat_tests)

pub is_none : (n : ℕ) → nat_le 1 n ≡ false → n ≡ 0
is_none n is = grind (arith, nat_tests)

module _ (checked : Checked) (marks : List Bool) (layers : List Layer) (told_tables : AreTold checked marks layers) (node m rank : ℕ) (now : List (Option ℕ)) (e : Expression)
    (marked : IsMarked marks node) (at : node_at checked.rules node ≡ Some e) (falls : FallsBySizes checked.rules checked.leasts checked.ranks node e rank)
    (now_told : TellNow checked marks m rank now) (small : m ≤ 1000) where
  -- what can have all the atoms is told
  child_told : (place child : ℕ) (f : Expression) (one : Option ℕ) → slice_get (below checked.rules node e) place ≡ Some child → node_at checked.rules child ≡ Some f → slice_get now child ≡ Some one
      → CanHaveAll checked.rules checked.leasts node e place child ⊎ ((least : ℕ) → slice_get checked.leasts child ≡ Some least → m < least) → Tells one (number (grammar checked) f m)
  child_told place child f one there child_at now_at can = by can
    where
      within : child < length (all_nodes checked.rules)
      within = slice_get_within (all_nodes checked.rules) child f child_at

      least : (l : ℕ) × (slice_get checked.leasts child ≡ Some l)
      least = slice_some checked.leasts child (omega (arith, within, told_tables.is_checked.least.for_each))

      ranked : (r : ℕ) × (slice_get checked.ranks child ≡ Some r)
      ranked = slice_some checked.ranks child (omega (arith, within, told_tables.is_checked.ranked.for_each))

      child_marked : IsMarked marks child
      child_marked = told_tables.closed node child e marked at (in_of_get (below checked.rules node e) place child there)

      here : (ranked.0 < rank) ⊎ (m < least.0) → Tells one (number (grammar checked) f m)
      here may = now_told.each child least.0 ranked.0 f one child_marked child_at least.1 ranked.1 may now_at

      by : CanHaveAll checked.rules checked.leasts node e place child ⊎ ((least : ℕ) → slice_get checked.leasts child ≡ Some least → m < least) → Tells one (number (grammar checked) f m)
      by (inr later) = here (inr (later least.0 least.1))
      by (inl can) = elim (cases_lt least.0 no_least) [
        | inl less ↦ here (inl (falls place child least.0 ranked.0 there least.1 ranked.1 less can))
        | inr past ↦ here (inr (omega arith))
      ]

-- a Union
pub turn_union : (checked : Checked) (marks : List Bool) (layers : List Layer) → AreTold checked marks layers → (node m rank : ℕ) (now : List (Option ℕ)) (es : Expressions) → IsMarked marks node
    → node_at checked.rules node ≡ Some (expr.Union es) → FallsBySizes checked.rules checked.leasts checked.ranks node (expr.Union es) rank → TellNow checked marks m rank now → m ≤ 1000
    → EachTold (grammar checked) (expression_list es) (children_at checked.rules node) now m
turn_union checked marks layers told_tables node m rank now es marked at falls now_told small k child f one f_at child_is now_at =
    let place : slice_get (children_of node (expr.Union es)) k ≡ Some child = subst (λ (all : List ℕ). slice_get all k ≡ Some child) (children_here checked.rules node _ at) child_is in
    child_told checked marks layers told_tables node m rank now (expr.Union es) marked at falls now_told small k child f one place (child_node checked.rules node (expr.Union es) k child at place ∙ f_at) now_at (inl tt)

-- a container that may have one component
pub turn_container : (checked : Checked) (marks : List Bool) (layers : List Layer) → AreTold checked marks layers → (node m rank : ℕ) (now : List (Option ℕ)) (kind : Kind) (element : Expression) (card : Card) → IsMarked marks node
    → node_at checked.rules node ≡ Some (expr.Many kind element card) → FallsBySizes checked.rules checked.leasts checked.ranks node (expr.Many kind element card) rank
    → TellNow checked marks m rank now → m ≤ 1000 → admits card 1 ≡ true → EachTold (grammar checked) (element ∷ []) (children_at checked.rules node) now m
turn_container checked marks layers told_tables node m rank now kind element card marked at falls now_told small one_admitted k child f one f_at child_is now_at =
    let place : slice_get (children_of node (expr.Many kind element card)) k ≡ Some child = subst (λ (all : List ℕ). slice_get all k ≡ Some child) (children_here checked.rules node _ at) child_is in
    child_told checked marks layers told_tables node m rank now (expr.Many kind element card) marked at falls now_told small k child f one place
    (child_node checked.rules node (expr.Many kind element card) k child at place ∙ f_at) now_at (inl one_admitted)

-- the name of a rule
pub turn_name : (checked : Checked) (marks : List Bool) (layers : List Layer) → AreTold checked marks layers → (node m rank : ℕ) (now : List (Option ℕ)) (e : Expression) → IsMarked marks node
    → node_at checked.rules node ≡ Some e → FallsBySizes checked.rules checked.leasts checked.ranks node e rank → TellNow checked marks m rank now → m ≤ 1000 → kind_of e ≡ told.Rule
    → NameTold checked node e now m
turn_name checked marks layers told_tables node m rank now expr.Epsilon marked at falls now_told small is = absurd (cc)
turn_name checked marks layers told_tables node m rank now expr.Atom marked at falls now_told small is = absurd (cc)
turn_name checked marks layers told_tables node m rank now (expr.Union es) marked at falls now_told small is = absurd (cc)
turn_name checked marks layers told_tables node m rank now (expr.Prod es) marked at falls now_told small is = absurd (cc)
turn_name checked marks layers told_tables node m rank now (expr.Many kinds.Sequence e card) marked at falls now_told small is = absurd (cc)
turn_name checked marks layers told_tables node m rank now (expr.Many kinds.Set e card) marked at falls now_told small is = absurd (cc)
turn_name checked marks layers told_tables node m rank now (expr.Many kinds.PowerSet e card) marked at falls now_told small is = absurd (cc)
turn_name checked marks layers told_tables node m rank now (expr.Many kinds.Cycle e card) marked at falls now_told small is = absurd (cc)
turn_name checked marks layers told_tables node m rank now (expr.Name name) marked at falls now_told small is = λ right f one there f_at inside now_at.
    child_told checked marks layers told_tables node m rank now (expr.Name name) marked at falls now_told small 0 right f one there f_at now_at
    (inl (λ other other_at. let same : f ≡ other = let here : Some f ≡ Some other = sym f_at ∙ other_at in cc in subst (λ (x : Expression). IsTrue (is_told_inside x)) same inside))

-- a Prod
module _ (checked : Checked) (marks : List Bool) (layers : List Layer) (told_tables : AreTold checked marks layers) (node m rank : ℕ) (now : List (Option ℕ)) (es : Expressions)
    (marked : IsMarked marks node) (at : node_at checked.rules node ≡ Some (expr.Prod es)) where
  least_here : (k child l : ℕ) → slice_get (children_at checked.rules node) k ≡ Some child → slice_get checked.leasts child ≡ Some l → needs_atoms checked (children_at checked.rules node) k ≡ nat_le 1 l
  least_here k child l child_is least = needs_at checked (children_at checked.rules node) k child l child_is least

  count : length (children_at checked.rules node) ≡ length (expression_list es)
  count = ap (λ (all : List ℕ). length all) (children_here checked.rules node _ at) ∙ length-children_of node (expr.Prod es)

  place_of_child : (k child : ℕ) → slice_get (children_at checked.rules node) k ≡ Some child → slice_get (children_of node (expr.Prod es)) k ≡ Some child
  place_of_child k child child_is = subst (λ (all : List ℕ). slice_get all k ≡ Some child) (children_here checked.rules node _ at) child_is

  child_at : (k child : ℕ) (f : Expression) → slice_get (expression_list es) k ≡ Some f → slice_get (children_at checked.rules node) k ≡ Some child → node_at checked.rules child ≡ Some f
  child_at k child f f_at child_is = child_node checked.rules node (expr.Prod es) k child at (place_of_child k child child_is) ∙ f_at

  within_list : (k : ℕ) → needs_atoms checked (children_at checked.rules node) k ≡ true → k < length (expression_list es)
  within_list k is = elim (cases_lt k (length (children_at checked.rules node))) [
    | inl less ↦ omega (arith, count)
    | inr past ↦ absurd (true≢false (sym is ∙ ap (λ (found : Option ℕ). nat_le 1 (unwrap_or (option_and_then (slice_get checked.leasts) found) 0)) (slice_get_past (children_at checked.rules node) k past)))
  ]

  zero_number : (k : ℕ) (f : Expression) → slice_get (expression_list es) k ≡ Some f → needs_atoms checked (children_at checked.rules node) k ≡ true → number (grammar checked) f 0 ≡ 0
  zero_number k f f_at is =
      let child = slice_some (children_at checked.rules node) k (omega (arith, slice_get_within (expression_list es) k f f_at, count)) in
      let f_node = child_at k child.0 f f_at child.1 in
      let least = slice_some checked.leasts child.0 (omega (arith, slice_get_within (all_nodes checked.rules) child.0 f f_node, told_tables.is_checked.least.for_each)) in
      recur.below_least (grammar checked) f least.0 0 told_tables.is_checked.spec told_tables.is_checked.well_founded (in_nodes checked.rules child.0 f f_node)
      (told_tables.is_checked.least.each child.0 least.0 f f_node least.1) (positive_is least.0 (sym (least_here k child.0 least.0 child.1 least.1) ∙ is))

  pub turn_prod : FallsBySizes checked.rules checked.leasts checked.ranks node (expr.Prod es) rank → TellNow checked marks m rank now → m ≤ 1000
      → ArgumentsTold (grammar checked) es (children_at checked.rules node) now m (needs_atoms checked (children_at checked.rules node))
  turn_prod falls now_told small = record {
    within = within_list;
    zeros = zero_number;
    told = λ k child f one f_at child_is now_at may.
        child_told checked marks layers told_tables node m rank now (expr.Prod es) marked at falls now_told small k child f one (place_of_child k child child_is) (child_at k child f f_at child_is) now_at (elim may [
          | inl none ↦ inl (λ other j j_is differs. none_least other j j_is (none other differs))
          | inr here ↦ inr (λ least least_is. omega (arith, here.0, positive_is least (sym (least_here k child least child_is least_is) ∙ here.1)))
        ]);
  }
    where
      none_least : (other j : ℕ) → slice_get (children_of node (expr.Prod es)) other ≡ Some j → needs_atoms checked (children_at checked.rules node) other ≡ false → slice_get checked.leasts j ≡ Some 0
      none_least other j j_is none =
          let j_child : slice_get (children_at checked.rules node) other ≡ Some j = subst (λ (all : List ℕ). slice_get all other ≡ Some j) (sym (children_here checked.rules node _ at)) j_is in
          let f = slice_some (expression_list es) other (omega (arith, slice_get_within (children_at checked.rules node) other j j_child, count)) in
          let least = slice_some checked.leasts j (omega (arith, slice_get_within (all_nodes checked.rules) j f.0 (child_at other j f.0 f.1 j_child), told_tables.is_checked.least.for_each)) in
          least.1 ∙ ap Some (is_none least.0 (sym (least_here other j least.0 j_child least.1) ∙ none))
