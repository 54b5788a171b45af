-- Sorted lists of components without labels, size by size.
use Rattle.std.proofs.Common.{◌≡◌, ℕ, zero, suc, ◌+◌, ◌-◌, ◌≤◌, ◌<◌, Bool, true, false, List, [], ◌∷◌, ◌++◌, map, filter, flat_map, length, replicate, Option, Some, None, slice_get, refl, sym, ap, ◌∙◌, subst, inl, inr, arith, Less, nat_cmp}
use Rattle.std.specs.Prelude.{if◌then◌else◌, IsTrue}
use Rattle.std.specs.Option.{option_map, option_map_or}
use Rattle.std.specs.Cmp.Lexicographic.{slice_cmp}
use Rattle.std.specs.List.{range_with_len}
use Rattle.std.proofs.lemmas.Bool.Decides.{nat_tests}
use Rattle.std.proofs.lemmas.List.{append_assoc}
use Rattle.std.proofs.lemmas.Grind.{flat_map-append}
use Rattle.lists.specs.Enumeration.{IsIn, Ascends}
use Rattle.lists.proofs.FlatMaps.{same_made, nothing_of, range-append}
use Rattle.lists.proofs.Filters.{filter_all}
use Rattle.lists.proofs.RangeSums.{in_range}
use Rattle.spec_syntax.specs.declared.expr.Card.{Card}
use Rattle.spec_syntax.specs.declared.expr.Kind.{Kind}
use Rattle.spec_syntax.specs.declared.expr.Kind.TheVariants as kind
use Rattle.spec_syntax.specs.declared.statement.Universe.TheVariants.{Unlabelled}
use Rattle.spec_syntax.specs.Card.{admits, is_within}
use Rattle.spec_syntax.specs.Expression as expr
use Rattle.spec_syntax.specs.Expression.{Expression}
use Rattle.spec_syntax.specs.Nodes.{node_at, card_at}
use Rattle.spec_syntax.proofs.NodesLemmas.{in_nodes}
use Rattle.struct_model.specs.Structure.{Structure, key, size}
use Rattle.struct_model.specs.Membership.{supply, is_supply}
use Rattle.struct_model.specs.Bounded.{listing}
use Rattle.struct_model.specs.Listing.{Before}
use Rattle.struct_model.proofs.SupplyLaws.{supply_is, supply_size}
use Rattle.well_founded.specs.NodeKinds.{container}
use Rattle.well_founded.specs.Checked.{Checked, IsChecked, grammar}
use Rattle.splits.proofs.ZeroParts.{zeros_before}
use Rattle.listing_laws.specs.Lister.{each_going_on, after_one, admits_some, list_empty}
use Rattle.listing_laws.specs.NodeListing.{HasKind, listing_on, number_of_node}
use Rattle.listing_laws.specs.SortedListing.{follows}
use Rattle.listing_laws.specs.SortedNodes.{IsContained, sorted_at, following_at, sorted_by_sizes}
use Rattle.listing_laws.proofs.Listed.{listing_sound, listed_size}
use Rattle.listing_laws.proofs.NodeLemmas.{ContainerNode, container_node}
use Rattle.listing_laws.proofs.Numbers.{numbers_recur}
use Rattle.listing_laws.proofs.Recursion.{well_founded_is_listed}
use Rattle.listing_laws.proofs.SortedNodes.{sorted_nodes_are_listed}
use Rattle.size_counts.specs.CountedView.{Counts, IsCounted}
use Rattle.struct_walk.specs.declared.later.Later.{Later}
use Rattle.struct_walk.specs.declared.later.LaterSorted.{LaterSorted}
use Rattle.struct_walk.specs.declared.sorted_tail.SortedTail.{SortedTail}
use Rattle.struct_walk.specs.declared.sorted_tail.SortedLevel.{SortedLevel}
use Rattle.struct_walk.specs.After.{structures_after, sorted_after}
use Rattle.struct_walk.proofs.StepArguments.{no_structures}
use Rattle.struct_walk.specs.SortedTails.{sorted_kind, IsSortedTail, behind_one, sorted_from, going_on_from, with_greater, at_sorted_level}

-- ---- the structures of a node

module _ (checked : Checked) (node : ℕ) (u : List ℕ) where
  pub listed_key : (s : Structure) → IsIn s (listing_on checked node u) → key s ≡ u
  listed_key s there = by (node_at checked.rules node) there
    where
      by : (o : Option Expression) → IsIn s (option_map_or (λ e. listing (grammar checked) e u) o []) → key s ≡ u
      by None there = absurd there
      by (Some e) there = (listing_sound (grammar checked) e u s there).1

  -- each has as many atoms as there are labels
  pub listed_atoms : (s : Structure) → IsIn s (listing_on checked node u) → size s ≡ length u
  listed_atoms s there = by (node_at checked.rules node) there
    where
      by : (o : Option Expression) → IsIn s (option_map_or (λ e. listing (grammar checked) e u) o []) → size s ≡ length u
      by None there = absurd there
      by (Some e) there = listed_size (grammar checked) e u s there

  pub listed_ascend : IsChecked checked → is_supply checked.universe u ≡ true → Ascends Before (listing_on checked node u)
  listed_ascend passed supplied = by (node_at checked.rules node) refl
    where
      by : (o : Option Expression) → node_at checked.rules node ≡ o → Ascends Before (option_map_or (λ e. listing (grammar checked) e u) o [])
      by None at = tt
      by (Some e) at =
          ((well_founded_is_listed.nodes (grammar checked) e passed.spec passed.well_founded (in_nodes checked.rules node e at)).lists u supplied).ascends

-- those of a size without labels
pub atoms_of_size : (checked : Checked) (node d : ℕ) (s : Structure) → IsIn s (listing_on checked node (supply Unlabelled d)) → size s ≡ d
atoms_of_size checked node d s there = listed_atoms checked node (supply Unlabelled d) s there ∙ supply_size Unlabelled d

module _ {X : Type 0} (R : X → X → Type 0) where
  pub comes_before : (xs : List X) (y : X) (ys : List X) → Ascends R (xs ++ y ∷ ys) → (z : X) → IsIn z ys → R y z
  comes_before [] y ys ascends z there = ascends.0 z there
  comes_before (x ∷ xs) y ys ascends z there = comes_before xs y ys ascends.1 z there

-- ---- ranges

pub range_cut : (k n : ℕ) → 0 < k → k ≤ n → range_with_len 1 n ≡ range_with_len 1 (k - 1) ++ k ∷ range_with_len (k + 1) (n - k)
range_cut k n low within =
    ap (range_with_len 1) (let e : n ≡ (k - 1) + suc (n - k) = omega arith in e) ∙ range-append 1 (k - 1) (suc (n - k))
    ∙ ap (λ (d : ℕ). range_with_len 1 (k - 1) ++ d ∷ range_with_len (d + 1) (n - k)) (let e : 1 + (k - 1) ≡ k = omega arith in e)

range_next : (d n : ℕ) → d < n → range_with_len (d + 1) (n - d) ≡ (d + 1) ∷ range_with_len (d + 1 + 1) (n - (d + 1))
range_next d n less = ap (range_with_len (d + 1)) (let e : n - d ≡ suc (n - (d + 1)) = omega arith in e)

-- ---- sorted lists

abbrev pub the_kind : Bool → Kind
the_kind true = kind.PowerSet
the_kind false = kind.Set

pub kind_same : (strict : Bool) → sorted_kind strict ≡ container (the_kind strict)
kind_same true = refl
kind_same false = refl

still_within : (high : Option ℕ) (c : ℕ) → is_within (option_map (λ n. n - 1) high) c ≡ true → is_within high c ≡ true
still_within None c within = refl
still_within (Some high) c within = grind (arith, nat_tests)

module _ (counts : Counts) (is : IsCounted counts) (tail : SortedTail) (stands : IsSortedTail counts tail) where
  abbrev pub contained : IsContained counts.checked tail.element
  contained = record {
    node = tail.node;
    kind = the_kind tail.strict;
    is = subst (HasKind counts.checked tail.node) (kind_same tail.strict) stands.kind;
    child = stands.child;
  }

  abbrev holder : ContainerNode counts.checked (the_kind tail.strict) tail.node tail.element
  holder = container_node counts.checked (the_kind tail.strict) tail.node tail.element contained.is contained.child

  pub supplied : (n : ℕ) → is_supply counts.checked.universe (supply Unlabelled n) ≡ true
  supplied n = subst (λ universe. is_supply universe (supply Unlabelled n) ≡ true) (sym stands.universe) (supply_is Unlabelled n)

  -- what stands behind the first component
  pub behind_stands : IsSortedTail counts (behind_one tail)
  behind_stands = record {
    reached = stands.reached;
    kind = stands.kind;
    child = stands.child;
    below = λ own c at within. stands.below own c at (still_within tail.card.high c within);
    universe = stands.universe;
  }

  -- no component is without atoms
  pub none_empty : (s : Structure) → IsIn s (listing_on counts.checked tail.element (supply Unlabelled (size s))) → 0 < size s
  none_empty s there = by (size s) refl
    where
      none : (n : ℕ) → n ≡ 0 → listing_on counts.checked tail.element (supply Unlabelled n) ≡ []
      none n no_atoms = ap (λ (k : ℕ). listing_on counts.checked tail.element (supply Unlabelled k)) no_atoms ∙ no_structures counts.checked is.passed tail.element [] (supplied 0) nothing
        where
          nothing : number_of_node counts.checked tail.element 0 ≡ 0
          nothing =
              ap (λ (o : Option Expression). length (option_map_or (λ e. listing (grammar counts.checked) e (supply counts.checked.universe 0)) o [])) holder.inside
              ∙ numbers_recur.element (grammar counts.checked) (the_kind tail.strict) holder.e holder.card is.passed.spec is.passed.well_founded
              (in_nodes counts.checked.rules tail.node (expr.Many (the_kind tail.strict) holder.e holder.card) holder.at)

      by : (n : ℕ) → size s ≡ n → 0 < size s
      by zero same = absurd (subst (IsIn s) (none (size s) same) there)
      by (suc n) same = omega arith

  pub without_atoms : (from : Option Structure) → sorted_from counts.checked tail from 0 ≡ list_empty tail.card
  without_atoms from = sorted_nodes_are_listed.empty counts.checked tail.element tail.strict tail.card from contained

  -- the lists that go on with a component of one of these sizes
  abbrev pub on_sizes : Option Structure → ℕ → List ℕ → List (List Structure)
  on_sizes from n sizes =
      flat_map (λ d. going_on_from counts.checked (behind_one tail) (filter (follows tail.strict from) (listing_on counts.checked tail.element (supply Unlabelled d))) (n - d)) sizes

  pub no_component : (from : Option Structure) (n : ℕ) → 0 < n → admits_some tail.card ≡ false → sorted_from counts.checked tail from n ≡ []
  no_component from n some none =
      sorted_nodes_are_listed.size_by_size counts.checked tail.element tail.strict tail.card from n contained some
      ∙ ap (λ (b : Bool). if b then sorted_by_sizes counts.checked tail.element tail.strict tail.card from n else []) none

  module _ (n : ℕ) (some : 0 < n) (admitted : admits_some tail.card ≡ true) where
    pub by_sizes : (from : Option Structure) → sorted_from counts.checked tail from n ≡ on_sizes from n (range_with_len 1 n)
    by_sizes from =
        sorted_nodes_are_listed.size_by_size counts.checked tail.element tail.strict tail.card from n contained some
        ∙ ap (λ (b : Bool). if b then sorted_by_sizes counts.checked tail.element tail.strict tail.card from n else []) admitted

    -- where no component stands in front, the first one has an atom or more
    pub from_none : sorted_from counts.checked tail None n ≡ with_greater counts.checked (behind_one tail) 0 n
    from_none =
        by_sizes None
        ∙ (λ i. flat_map (λ d. going_on_from counts.checked (behind_one tail) (all_follow (listing_on counts.checked tail.element (supply Unlabelled d)) i) (n - d)) (range_with_len 1 (all_left i)))
      where
        all_follow : (ss : List Structure) → filter (follows tail.strict None) ss ≡ ss
        all_follow ss = filter_all (follows tail.strict None) ss (λ s there. refl)

        all_left : n ≡ n - 0
        all_left = omega arith

    module _ (front : Structure) (there : IsIn front (listing_on counts.checked tail.element (supply Unlabelled (size front)))) where
      abbrev of_size : ℕ → List Structure
      of_size d = following_at counts.checked tail.element tail.strict front (supply Unlabelled d)

      front_key : key front ≡ supply Unlabelled (size front)
      front_key = listed_key counts.checked tail.element (supply Unlabelled (size front)) front there

      none_smaller : (d : ℕ) → d < size front → of_size d ≡ []
      none_smaller d less =
          sorted_nodes_are_listed.none_lesser counts.checked tail.element tail.strict front (supply Unlabelled d)
          (ap (slice_cmp nat_cmp (supply Unlabelled d)) front_key ∙ zeros_before d (size front) less)

      all_larger : (d : ℕ) → size front < d → of_size d ≡ listing_on counts.checked tail.element (supply Unlabelled d)
      all_larger d less =
          sorted_nodes_are_listed.all_greater counts.checked tail.element tail.strict front (supply Unlabelled d)
          (ap (λ (ls : List ℕ). slice_cmp nat_cmp ls (supply Unlabelled d)) front_key ∙ zeros_before (size front) d less)

      smaller_sizes : (m : ℕ) → m < size front → on_sizes (Some front) n (range_with_len 1 m) ≡ []
      smaller_sizes m less =
          nothing_of (λ d. going_on_from counts.checked (behind_one tail) (of_size d) (n - d)) (range_with_len 1 m) (λ d inside.
          let within = in_range d 1 m inside in
          ap (λ (ss : List Structure). going_on_from counts.checked (behind_one tail) ss (n - d)) (none_smaller d (omega (arith, within.1))))

      larger_sizes : (m : ℕ) → on_sizes (Some front) n (range_with_len (size front + 1) m)
          ≡ flat_map (λ d. going_on_from counts.checked (behind_one tail) (listing_on counts.checked tail.element (supply Unlabelled d)) (n - d)) (range_with_len (size front + 1) m)
      larger_sizes m =
          same_made (λ d. going_on_from counts.checked (behind_one tail) (of_size d) (n - d))
          (λ d. going_on_from counts.checked (behind_one tail) (listing_on counts.checked tail.element (supply Unlabelled d)) (n - d)) (range_with_len (size front + 1) m) (λ d inside.
          let within = in_range d (size front + 1) m inside in
          ap (λ (ss : List Structure). going_on_from counts.checked (behind_one tail) ss (n - d)) (all_larger d (omega (arith, within.0))))

      -- behind a component stand those of its size that may follow it, and then the greater ones
      pub from_front : size front ≤ n
          → sorted_from counts.checked tail (Some front) n
          ≡ going_on_from counts.checked (behind_one tail) (of_size (size front)) (n - size front) ++ with_greater counts.checked (behind_one tail) (size front) n
      from_front within =
          by_sizes (Some front)
          ∙ ap (on_sizes (Some front) n) (range_cut (size front) n (none_empty front there) within)
          ∙ flat_map-append (λ d. going_on_from counts.checked (behind_one tail) (of_size d) (n - d)) (range_with_len 1 (size front - 1)) (size front ∷ range_with_len (size front + 1) (n - size front))
          ∙ ap (λ (lists : List (List Structure)). lists ++ on_sizes (Some front) n (size front ∷ range_with_len (size front + 1) (n - size front)))
          (smaller_sizes (size front - 1) (omega (arith, none_empty front there)))
          ∙ ap (λ (lists : List (List Structure)). going_on_from counts.checked (behind_one tail) (of_size (size front)) (n - size front) ++ lists) (larger_sizes (n - size front))

      -- a component that has more atoms than are left isn't followed
      pub past_front : n < size front → sorted_from counts.checked tail (Some front) n ≡ with_greater counts.checked (behind_one tail) (size front) n
      past_front less =
          by_sizes (Some front) ∙ smaller_sizes n less
          ∙ ap (λ (m : ℕ). flat_map (λ d. going_on_from counts.checked (behind_one tail) (listing_on counts.checked tail.element (supply Unlabelled d)) (n - d)) (range_with_len (size front + 1) m))
          (let e : 0 ≡ n - size front = omega arith in e)

  -- ---- dead ends

  -- where nothing goes on from these components, there are no lists with them
  pub nothing_goes_on : (firsts : List Structure) (n : ℕ) → ((s : Structure) → IsIn s firsts → sorted_from counts.checked tail (Some s) n ≡ [])
      → going_on_from counts.checked tail firsts n ≡ []
  nothing_goes_on firsts n none =
      nothing_of (λ first. map (λ rest. first ∷ rest) (sorted_from counts.checked tail (Some first) n)) firsts (λ s inside. ap (map (λ rest. s ∷ rest)) (none s inside))

  -- where nothing goes on from a component, nothing does from those that come later
  pub dead_end : (d n : ℕ) (earlier : List Structure) (s : Structure) (later : List Structure)
      → listing_on counts.checked tail.element (supply Unlabelled d) ≡ earlier ++ s ∷ later → sorted_from counts.checked tail (Some s) n ≡ []
      → going_on_from counts.checked tail (s ∷ later) n ≡ []
  dead_end d n earlier s later whole none = nothing_goes_on (s ∷ later) n each
    where
      each : (t : Structure) → IsIn t (s ∷ later) → sorted_from counts.checked tail (Some t) n ≡ []
      each t (inl same) = subst (λ (x : Structure). sorted_from counts.checked tail (Some x) n ≡ []) (sym same) none
      each t (inr inside) =
          sorted_nodes_are_listed.dead_ends counts.checked tail.element tail.strict tail.card s t (supply Unlabelled n) is.passed contained (supplied n)
          (comes_before Before earlier s later
          (subst (Ascends Before) whole (listed_ascend counts.checked tail.element (supply Unlabelled d) is.passed (supplied d))) t inside) none

  -- ---- sizes

  -- those of a size, and then those of greater ones
  pub next_size : (d n : ℕ) → 0 < d → d ≤ n
      → with_greater counts.checked tail (d - 1) n
      ≡ going_on_from counts.checked tail (listing_on counts.checked tail.element (supply Unlabelled d)) (n - d) ++ with_greater counts.checked tail d n
  next_size d n low within =
      ap (flat_map (λ k. going_on_from counts.checked tail (listing_on counts.checked tail.element (supply Unlabelled k)) (n - k)))
      (range_next (d - 1) n (omega arith)
      ∙ ap (λ (k : ℕ). k ∷ range_with_len (k + 1) (n - k)) (let e : d - 1 + 1 ≡ d = omega arith in e))

-- the first of the components before the first list of the others, and then all that come later
pub first_sorted : (counts : Counts) (level : SortedLevel) (first : Later) (others : LaterSorted) (s : Structure) (added : List Structure)
    → sorted_from counts.checked level.behind (Some s) level.left ≡ added ∷ sorted_after counts.checked others added
    → at_sorted_level counts.checked level (s ∷ structures_after counts.checked first s)
    ≡ (s ∷ added) ∷ map (λ rest. s ∷ rest) (sorted_after counts.checked others added) ++ at_sorted_level counts.checked level (structures_after counts.checked first s)
first_sorted counts level first others s added each_other =
    append_assoc (map (λ rest. s ∷ rest) (sorted_from counts.checked level.behind (Some s) level.left))
    (going_on_from counts.checked level.behind (structures_after counts.checked first s) level.left)
    (with_greater counts.checked level.behind level.taken (level.taken + level.left))
    ∙ ap (λ lists. map (λ rest. s ∷ rest) lists ++ at_sorted_level counts.checked level (structures_after counts.checked first s)) each_other
