-- The arguments of a Union behind a number.
use Rattle.std.proofs.Common.{◌≡◌, ℕ, ◌+◌, ◌-◌, ◌≤◌, ◌<◌, true, List, [], ◌∷◌, ◌++◌, map, length, slice_get, Some, refl, sym, ap, ◌∙◌, subst, arith}
use Rattle.std.specs.Prelude.{IsTrue}
use Rattle.std.proofs.lemmas.Option.{slice_get_within}
use Rattle.lists.proofs.Places.{drop_at}
use Rattle.spec_syntax.specs.declared.statement.Universe.{Universe}
use Rattle.spec_syntax.specs.Nodes.{children_at}
use Rattle.struct_model.specs.Structure.{Structure, Alt}
use Rattle.struct_model.specs.Membership.{is_supply}
use Rattle.struct_model.specs.declared.supplies.Supply.{Supply}
use Rattle.struct_model.specs.SupplyView.{supply_labels}
use Rattle.struct_model.proofs.SupplyLaws.{in_order_is}
use Rattle.well_founded.specs.Checked.{Checked, IsChecked}
use Rattle.listing_laws.specs.Lister.{alternatives}
use Rattle.listing_laws.specs.NodeListing.{listing_on, number_of_node}
use Rattle.size_counts.specs.CountedView.{Counts, IsCounted, IsReachedIn, number_of}
use Rattle.struct_walk.specs.declared.later.Later as later
use Rattle.struct_walk.specs.declared.later.Later.{Later}
use Rattle.struct_walk.specs.After.{arguments_behind, structures_after}
use Rattle.struct_walk.specs.Stands.{IsAsked, CanGoOn}
use Rattle.struct_walk.specs.Opened.{IsNextArgument, HasNoArgument, NextArgument, Opens}
use Rattle.struct_walk.proofs.TailLemmas.{listing_number, counted_number}
use Rattle.struct_walk.proofs.ReachedNodes.{reached_child}
use Rattle.struct_walk.proofs.Measures.{node_measure, union_measure, union_down}

-- the next one and those behind it
pub behind_next : (checked : Checked) (node place child : ℕ) (u : List ℕ) → slice_get (children_at checked.rules node) place ≡ Some child
    → arguments_behind checked node place u ≡ map (Alt (place + 1)) (listing_on checked child u) ++ arguments_behind checked node (place + 1) u
behind_next checked node place child u at =
    ap (λ (children : List ℕ). alternatives (place + 1) (map (λ child. listing_on checked child u) children)) (drop_at (children_at checked.rules node) place child at)

pub no_structures : (checked : Checked) → IsChecked checked → (node : ℕ) (u : List ℕ) → IsTrue (is_supply checked.universe u) → number_of_node checked node (length u) ≡ 0
    → listing_on checked node u ≡ []
no_structures checked passed node u is none = empty (listing_on checked node u) (listing_number checked passed node u is ∙ none)
  where
    empty : (ss : List Structure) → length ss ≡ 0 → ss ≡ []
    empty [] h = refl
    empty (s ∷ ss) h = absurd (omega arith)

-- an argument that has no structure may be passed over
pub behind_passed : (checked : Checked) → IsChecked checked → (node place child : ℕ) (u : List ℕ) → slice_get (children_at checked.rules node) place ≡ Some child
    → IsTrue (is_supply checked.universe u) → number_of_node checked child (length u) ≡ 0 → arguments_behind checked node place u ≡ arguments_behind checked node (place + 1) u
behind_passed checked passed node place child u at is none =
    behind_next checked node place child u at
    ∙ ap (λ ss. map (Alt (place + 1)) ss ++ arguments_behind checked node (place + 1) u) (no_structures checked passed child u is none)

-- the child that the code reads
pub child_at : (checked grammar : Checked) (node place child : ℕ) → grammar ≡ checked → slice_get (children_at grammar.rules node) (place + 1 - 1) ≡ Some child
    → slice_get (children_at checked.rules node) place ≡ Some child
child_at checked grammar node place child same at =
    subst (λ (i : ℕ). slice_get (children_at checked.rules node) i ≡ Some child) (let e : place + 1 - 1 ≡ place = omega arith in e)
    (subst (λ (g : Checked). slice_get (children_at g.rules node) (place + 1 - 1) ≡ Some child) same at)

module _ (counts : Counts) (is : IsCounted counts) (node number n place child : ℕ)
    (before : (u : List ℕ) → IsTrue (is_supply counts.checked.universe u) → length u ≡ n → arguments_behind counts.checked node number u ≡ arguments_behind counts.checked node place u)
    (at : slice_get (children_at counts.checked.rules node) place ≡ Some child) (told : ℕ) (tells : told ≡ number_of counts child n) where
  pub passes_on : told ≡ 0 → (u : List ℕ) → IsTrue (is_supply counts.checked.universe u) → length u ≡ n
      → arguments_behind counts.checked node number u ≡ arguments_behind counts.checked node (place + 1) u
  passes_on none u supplied long =
      before u supplied long
      ∙ behind_passed counts.checked is.passed node place child u at supplied
      (ap (λ (m : ℕ). number_of_node counts.checked child m) long ∙ sym (counted_number counts child n) ∙ sym tells ∙ none)

  pub comes_next : number ≤ place → 0 < told → IsNextArgument counts.checked node number n (place + 1)
  comes_next low some = record {
    low = omega arith;
    high = let within = slice_get_within (children_at counts.checked.rules node) place child at in omega arith;
    child = child;
    at = subst (λ (i : ℕ). slice_get (children_at counts.checked.rules node) i ≡ Some child) (let e : place ≡ place + 1 - 1 = omega arith in e) at;
    some = let same = tells ∙ counted_number counts child n in subst (λ (m : ℕ). 0 < m) same some;
    passes = λ u supplied long. before u supplied long ∙ behind_next counts.checked node place child u at;
  }

-- the labels of what can be asked for are a supply
pub asked_supplied : (counts : Counts) (supply : Supply) → IsAsked counts supply → IsTrue (is_supply counts.checked.universe (supply_labels supply))
asked_supplied counts supply asked = subst (λ (universe : Universe). IsTrue (is_supply universe (supply_labels supply))) asked.universe (in_order_is supply asked.in_order)

module _ (counts : Counts) (node : ℕ) (supply : Supply) (stands : CanGoOn counts node supply) (number n : ℕ) (long : n ≡ length (supply_labels supply)) where
  -- where no argument behind this one has a structure, nothing is left
  pub none_later : HasNoArgument counts.checked node number n → arguments_behind counts.checked node number (supply_labels supply) ≡ []
  none_later none = none (supply_labels supply) (asked_supplied counts supply stands.asked) (sym long)

  -- and nothing comes later where nothing does inside
  pub nothing_later : (inner : Later) → inner ≡ later.Nothing → HasNoArgument counts.checked node number n → (s : Structure)
      → [] ≡ map (Alt number) (structures_after counts.checked inner s) ++ arguments_behind counts.checked node number (supply_labels supply)
  nothing_later inner is none s =
      sym (ap (λ (l : Later). map (Alt number) (structures_after counts.checked l s) ++ arguments_behind counts.checked node number (supply_labels supply)) is ∙ none_later none)

  -- the argument that comes next is opened
  module _ (is : IsCounted counts) (grammar : Checked) (same : grammar ≡ counts.checked) (k child : ℕ) (next : IsNextArgument counts.checked node number n k)
      (at : slice_get (children_at grammar.rules node) (k - 1) ≡ Some child) where
    here : slice_get (children_at counts.checked.rules node) (k - 1) ≡ Some child
    here = subst (λ (g : Checked). slice_get (children_at g.rules node) (k - 1) ≡ Some child) same at

    next_child : next.child ≡ child
    next_child = let e : Some next.child ≡ Some child = sym next.at ∙ here in cc

    some_number : 0 < number_of_node counts.checked child (length (supply_labels supply))
    some_number =
        subst (λ (m : ℕ). 0 < number_of_node counts.checked child m) long (subst (λ (x : ℕ). 0 < number_of_node counts.checked x n) next_child next.some)

    pub next_reached : IsReachedIn counts child
    next_reached = reached_child counts is node (k - 1) child stands.reached here

    pub next_some : (copied : Supply) → copied ≡ supply → 0 < length (listing_on counts.checked child (supply_labels copied))
    next_some copied copy =
        subst (λ (s : Supply). 0 < length (listing_on counts.checked child (supply_labels s))) (sym copy) (
        subst (λ (m : ℕ). 0 < m) (sym (listing_number counts.checked is.passed child (supply_labels supply) (asked_supplied counts supply stands.asked))) some_number)

    pub next_down : node_measure counts.checked child (length (supply_labels supply)) < union_measure counts.checked node (length (supply_labels supply))
    next_down =
        union_down counts.checked is.passed node (k - 1) child (length (supply_labels supply)) stands.union here (omega (arith, stands.asked.within, is.small)) some_number

    pub next_opens : (copied : Supply) (later : Later) (s : Structure) → copied ≡ supply → Opens counts (listing_on counts.checked child (supply_labels copied)) (later, s)
        → NextArgument counts node supply (arguments_behind counts.checked node number (supply_labels supply)) k later s true
    next_opens copied later s copy opens = (
      next.passes (supply_labels supply) (asked_supplied counts supply stands.asked) (sym long)
          ∙ ap (λ ss. map (Alt k) ss ++ arguments_behind counts.checked node k (supply_labels supply)) (
          ap (λ (x : ℕ). listing_on counts.checked x (supply_labels supply)) next_child
          ∙ ap (λ (s : Supply). listing_on counts.checked child (supply_labels s)) (sym copy) ∙ opens.whole),
      opens.stands,
    )
