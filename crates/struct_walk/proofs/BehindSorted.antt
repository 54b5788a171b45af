-- The sorted list of components without labels that comes next behind one of them.
use Rattle.std.proofs.Common.{◌≡◌, ℕ, zero, suc, ◌+◌, ◌-◌, ◌≤◌, ◌<◌, ◌^◌, Bool, true, false, List, [], ◌∷◌, ◌++◌, map, filter, flat_map, length, drop, Option, Some, None, refl, sym, ap, ◌∙◌, subst, inl, inr, arith, nat_cmp}
use Rattle.std.specs.Prelude.{if◌then◌else◌, IfSome, IfNone}
use Rattle.std.specs.Cmp.Lexicographic.{slice_cmp}
use Rattle.std.specs.List.{range_with_len}
use Rattle.std.proofs.Math.Seq.{append_snoc}
use Rattle.std.proofs.lemmas.List.{append_assoc, map-append, length-append}
use Rattle.std.proofs.lemmas.List.Elements.{filter-append}
use Rattle.std.proofs.lemmas.Grind.{flat_map-append}
use Rattle.lists.specs.Enumeration.{IsIn, Ascends}
use Rattle.lists.proofs.Enumerated.{from_filter, from_map, from_flat_map}
use Rattle.lists.proofs.Filters.{filter_all}
use Rattle.lists.proofs.FlatMaps.{same_made}
use Rattle.lists.proofs.RangeSums.{in_range}
use Rattle.lists.proofs.Within.{in_right}
use Rattle.spec_syntax.specs.declared.statement.Universe.TheVariants.{Unlabelled}
use Rattle.spec_syntax.specs.Card.{admits}
use Rattle.spec_syntax.specs.Nodes.{card_at}
use Rattle.struct_model.specs.declared.supplies.Supply.{Supply}
use Rattle.struct_model.specs.declared.tree.Form5.{Form5}
use Rattle.struct_model.specs.declared.tree.Shape.{Shape}
use Rattle.struct_model.specs.declared.tree.Shape.TheVariants as shape
use Rattle.struct_model.specs.StructureView.{structure_of}
use Rattle.struct_model.specs.SupplyView.{supply_labels}
use Rattle.struct_model.specs.Structure.{Structure, Tup, size, part_list, parts_of, labels_of_parts}
use Rattle.struct_model.specs.Membership.{supply}
use Rattle.struct_model.specs.Listing.{Before}
use Rattle.struct_model.proofs.OrderLaws.{order_strict}
use Rattle.struct_model.proofs.SupplyLaws.{supply_size}
use Rattle.splits.proofs.ZeroParts.{zeros_before}
use Rattle.listing_laws.specs.Lister.{after_one, admits_some}
use Rattle.listing_laws.specs.NodeListing.{listing_on, number_of_node}
use Rattle.listing_laws.specs.SortedListing.{follows}
use Rattle.listing_laws.proofs.Components.{list_back, same_components}
use Rattle.listing_laws.proofs.OrderFacts.{before_by_key}
use Rattle.listing_laws.proofs.SortedParts.{follows_from, follows_is}
use Rattle.size_counts.specs.CountedView.{Counts, IsCounted}
use Rattle.struct_walk.specs.declared.later.Later as later
use Rattle.struct_walk.specs.declared.later.Later.{Later}
use Rattle.struct_walk.specs.declared.later.LaterSorted as sorted
use Rattle.struct_walk.specs.declared.later.LaterSorted.{LaterSorted}
use Rattle.struct_walk.specs.declared.sorted_tail.SortedTail.{SortedTail}
use Rattle.struct_walk.specs.declared.sorted_tail.SortedLevel.{SortedLevel}
use Rattle.struct_walk.specs.After.{structures_after, sorted_after}
use Rattle.struct_walk.specs.SortedTails.{sorted_form, IsSortedTail, behind_one, IsFrontOf, in_front, sorted_from, going_on_from, with_greater, at_sorted_level}
use Rattle.struct_walk.specs.Stands.{IsAsked, SortedLevelStands, SortedStand}
use Rattle.struct_walk.specs.Opened.{OpensSorted, OpensBehind, OpensBehindSorted, OpensBehindFirst, Resumes}
use Rattle.struct_walk.proofs.SortedLemmas.{behind_stands, without_atoms, no_component, by_sizes, range_cut, listed_key, listed_ascend, comes_before, supplied, none_empty, atoms_of_size, listed_atoms}
use Rattle.struct_walk.proofs.SortedOpens.{pushed_front, node_listed}
use Rattle.struct_walk.proofs.StepParts.{last_same}
use Rattle.struct_walk.proofs.TailLemmas.{listing_number}

-- a structure that is listed is counted
pub number_there : (counts : Counts) → IsCounted counts → (tail : SortedTail) → IsSortedTail counts tail → (d : ℕ) (s : Structure)
    → IsIn s (listing_on counts.checked tail.element (supply Unlabelled d)) → 0 < number_of_node counts.checked tail.element d
number_there counts is tail stands d s there =
    omega (
      arith,
      some (listing_on counts.checked tail.element (supply Unlabelled d)) there,
      listing_number counts.checked is.passed tail.element (supply Unlabelled d) (supplied counts is tail stands d),
      ap (λ (m : ℕ). number_of_node counts.checked tail.element m) (supply_size Unlabelled d),
    )
  where
    some : (all : List Structure) → IsIn s all → 0 < length all
    some [] there = absurd there
    some (x ∷ xs) there = omega arith

-- and has atoms
pub atoms_there : (counts : Counts) → IsCounted counts → (tail : SortedTail) → IsSortedTail counts tail → (d : ℕ) (s : Structure)
    → IsIn s (listing_on counts.checked tail.element (supply Unlabelled d)) → 0 < d
atoms_there counts is tail stands d s there =
    let same : size s ≡ d = atoms_of_size counts.checked tail.element d s there in
    omega (
      arith,
      same,
      none_empty counts is tail stands s (subst (λ (n : ℕ). IsIn s (listing_on counts.checked tail.element (supply Unlabelled n))) (sym same) there),
    )

-- ---- lists

regroup : {X : Type 0} (front near mid next last : List X) → front ++ ((near ++ (mid ++ next)) ++ last) ≡ (front ++ near) ++ (mid ++ (next ++ last))
regroup [] [] mid next last = append_assoc mid next last
regroup [] (x ∷ near) mid next last = ap (λ xs. x ∷ xs) (regroup [] near mid next last)
regroup (x ∷ front) near mid next last = ap (λ xs. x ∷ xs) (regroup front near mid next last)

cut_at : {X : Type 0} (front near : List X) (x : X) (next last : List X) → front ++ ((near ++ x ∷ next) ++ last) ≡ (front ++ near) ++ x ∷ (next ++ last)
cut_at [] [] x next last = refl
cut_at [] (y ∷ near) x next last = ap (λ xs. y ∷ xs) (cut_at [] near x next last)
cut_at (y ∷ front) near x next last = ap (λ xs. y ∷ xs) (cut_at front near x next last)

-- what comes after a structure that follows follows too
all_follow : (strict : Bool) (from : Option Structure) (s t : Structure) → follows strict from s ≡ true → Before s t → follows strict from t ≡ true
all_follow strict None s t h before = refl
all_follow true (Some first) s t h before = follows_is true first t (order_strict.transitive first s t (follows_from true first s h) before)
all_follow false (Some first) s t h before = follows_is false first t (λ back. follows_from false first s h (order_strict.transitive s t first before back))

-- ---- one of the sorted lists

module _ (counts : Counts) (is : IsCounted counts) (tail : SortedTail) (stands : IsSortedTail counts tail) (n : ℕ) (from : Option Structure) (ss : List Structure)
    (one : IsIn ss (sorted_from counts.checked tail from n)) where
  -- without atoms there is the empty list alone
  only_empty : n ≡ 0 → (ss ≡ []) × (sorted_from counts.checked tail from n ≡ ss ∷ [])
  only_empty none = by (admits tail.card 0) (ap (sorted_from counts.checked tail from) none ∙ without_atoms counts is tail stands from)
    where
      by : (b : Bool) → sorted_from counts.checked tail from n ≡ (if b then [] ∷ [] else []) → (ss ≡ []) × (sorted_from counts.checked tail from n ≡ ss ∷ [])
      by true all =
          let empty : ss ≡ [] = elim (subst (λ (lists : List (List Structure)). IsIn ss lists) all one) [ inl here ↦ here | inr there ↦ absurd there ] in
          (empty, all ∙ ap (λ ts. ts ∷ []) (sym empty))
      by false all = absurd (subst (λ (lists : List (List Structure)). IsIn ss lists) all one)

  some_admitted : 0 < n → admits_some tail.card ≡ true
  some_admitted some = by (admits_some tail.card) refl
    where
      by : (b : Bool) → admits_some tail.card ≡ b → b ≡ true
      by true admitted = refl
      by false refused = absurd (subst (λ (lists : List (List Structure)). IsIn ss lists) (no_component counts is tail stands from n some refused) one)

  -- a first component, and the others
  record IsCutAt : Type 0 where
    d : ℕ
    low : 1 ≤ d
    high : d ≤ n
    first : Structure
    others : List Structure
    is_list : ss ≡ first ∷ others
    firsts : IsIn first (listing_on counts.checked tail.element (supply Unlabelled d))
    passes : follows tail.strict from first ≡ true
    behind : IsIn others (sorted_from counts.checked (behind_one tail) (Some first) (n - d))

  abbrev with_size : ℕ → List (List Structure)
  with_size d = going_on_from counts.checked (behind_one tail) (filter (follows tail.strict from) (listing_on counts.checked tail.element (supply Unlabelled d))) (n - d)

  by_size : 0 < n → sorted_from counts.checked tail from n ≡ flat_map with_size (range_with_len 1 n)
  by_size some = by_sizes counts is tail stands n some (some_admitted some) from

  cut : 0 < n → IsCutAt
  cut some =
      let found = from_flat_map with_size (range_with_len 1 n) ss (subst (λ (all : List (List Structure)). IsIn ss all) (by_size some) one) in
      let between = in_range found.0 1 n found.1 in
      let chosen = from_flat_map (λ (first : Structure). map (λ rest. first ∷ rest) (sorted_from counts.checked (behind_one tail) (Some first) (n - found.0)))
      (filter (follows tail.strict from) (listing_on counts.checked tail.element (supply Unlabelled found.0))) ss found.2 in
      let kept = from_filter (follows tail.strict from) chosen.0 (listing_on counts.checked tail.element (supply Unlabelled found.0)) chosen.1 in
      let put = from_map (λ (rest : List Structure). chosen.0 ∷ rest) ss (sorted_from counts.checked (behind_one tail) (Some chosen.0) (n - found.0)) chosen.2 in
      record {
        d = found.0;
        low = between.0;
        high = omega (arith, between.1);
        first = chosen.0;
        others = put.0;
        is_list = put.2;
        firsts = kept.0;
        passes = kept.1;
        behind = put.1;
      }

  -- behind the empty list comes none
  pub none_behind_empty : ss ≡ [] → (before : List Structure) → OpensBehindSorted counts (sorted_from counts.checked tail from n) ss before before None
  none_behind_empty empty before = by n refl
    where
      by : (m : ℕ) → n ≡ m → OpensBehindSorted counts (sorted_from counts.checked tail from n) ss before before None
      by zero none = record { earlier = []; next = []; whole = (only_empty none).1; opens = record { kept = refl; none = refl } }
      by (suc m) some =
          let at : IsCutAt = cut (omega (arith, some)) in
          let e : [] ≡ at.first ∷ at.others = sym empty ∙ at.is_list in absurd (cc)

  module _ (c : Structure) (more : List Structure) (off : ss ≡ c ∷ more) where
    pub some_atoms : 0 < n
    some_atoms = by n refl
      where
        by : (m : ℕ) → n ≡ m → 0 < n
        by zero none = let e : [] ≡ c ∷ more = sym (only_empty none).0 ∙ off in absurd (cc)
        by (suc m) some = omega (arith, some)

    pub admitted : admits_some tail.card ≡ true
    admitted = some_admitted some_atoms

    abbrev at : IsCutAt
    at = cut some_atoms

    same_first : at.first ≡ c
    same_first = let same : at.first ∷ at.others ≡ c ∷ more = sym at.is_list ∙ off in cc

    same_others : at.others ≡ more
    same_others = let same : at.first ∷ at.others ≡ c ∷ more = sym at.is_list ∙ off in cc

    first_in : IsIn c (listing_on counts.checked tail.element (supply Unlabelled at.d))
    first_in = subst (λ (s : Structure). IsIn s (listing_on counts.checked tail.element (supply Unlabelled at.d))) same_first at.firsts

    same_size : at.d ≡ size c
    same_size = sym (atoms_of_size counts.checked tail.element at.d c first_in)

    pub component_low : 0 < size c
    component_low = omega (arith, same_size, at.low)

    pub component_high : size c ≤ n
    component_high = omega (arith, same_size, at.high)

    -- the first component is one of those of its size
    pub component_listed : IsIn c (listing_on counts.checked tail.element (supply Unlabelled (size c)))
    component_listed = subst (λ (d : ℕ). IsIn c (listing_on counts.checked tail.element (supply Unlabelled d))) same_size first_in

    c_follows : follows tail.strict from c ≡ true
    c_follows = subst (λ (s : Structure). follows tail.strict from s ≡ true) same_first at.passes

    -- the others go on from it
    pub others_listed : IsIn more (sorted_from counts.checked (behind_one tail) (Some c) (n - size c))
    others_listed =
        subst (λ (d : ℕ). IsIn more (sorted_from counts.checked (behind_one tail) (Some c) (n - d))) same_size
        (subst (λ (s : Structure). IsIn more (sorted_from counts.checked (behind_one tail) (Some s) (n - at.d))) same_first
        (subst (λ (ts : List Structure). IsIn ts (sorted_from counts.checked (behind_one tail) (Some at.first) (n - at.d))) same_others at.behind))

    -- a component that has all atoms may stand alone
    pub may_be_alone : n - size c ≡ 0 → admits (after_one tail.card) 0 ≡ true
    may_be_alone none =
        by (admits (after_one tail.card) 0)
        (ap (sorted_from counts.checked (behind_one tail) (Some c)) none ∙ without_atoms counts is (behind_one tail) (behind_stands counts is tail stands) (Some c))
      where
        by : (b : Bool) → sorted_from counts.checked (behind_one tail) (Some c) (n - size c) ≡ (if b then [] ∷ [] else []) → b ≡ true
        by true all = refl
        by false all = absurd (subst (λ (lists : List (List Structure)). IsIn more lists) all others_listed)

    -- ---- all lists

    -- each greater component may follow too
    greater_follow : (d : ℕ) → IsIn d (range_with_len (size c + 1) (n - size c))
        → with_size d ≡ going_on_from counts.checked (behind_one tail) (listing_on counts.checked tail.element (supply Unlabelled d)) (n - d)
    greater_follow d there =
        ap (λ firsts. going_on_from counts.checked (behind_one tail) firsts (n - d))
        (filter_all (follows tail.strict from) (listing_on counts.checked tail.element (supply Unlabelled d)) (λ t listed.
        all_follow tail.strict from c t c_follows (before_by_key c t (
        (λ i. slice_cmp nat_cmp (listed_key counts.checked tail.element (supply Unlabelled (size c)) c component_listed i) (listed_key counts.checked tail.element (supply Unlabelled d) t listed i))
        ∙ zeros_before (size c) d (omega (arith, (in_range d (size c + 1) (n - size c) there).0))))))

    greater : flat_map with_size (range_with_len (size c + 1) (n - size c)) ≡ with_greater counts.checked (behind_one tail) (size c) n
    greater =
        same_made with_size (λ d. going_on_from counts.checked (behind_one tail) (listing_on counts.checked tail.element (supply Unlabelled d)) (n - d))
        (range_with_len (size c + 1) (n - size c)) greater_follow

    module _ (earlier later : List Structure) (whole : listing_on counts.checked tail.element (supply Unlabelled (size c)) ≡ earlier ++ c ∷ later) where
      abbrev going_on : Structure → List (List Structure)
      going_on s = sorted_from counts.checked (behind_one tail) (Some s) (n - size c)

      abbrev front : List Structure
      front = filter (follows tail.strict from) earlier

      those : filter (follows tail.strict from) (listing_on counts.checked tail.element (supply Unlabelled (size c))) ≡ front ++ c ∷ later
      those =
          ap (filter (follows tail.strict from)) whole
          ∙ filter-append (follows tail.strict from) earlier (c ∷ later)
          ∙ ap (λ (b : Bool). front ++ (if b then c ∷ filter (follows tail.strict from) later else filter (follows tail.strict from) later)) c_follows
          ∙ ap (λ (ts : List Structure). front ++ c ∷ ts)
          (filter_all (follows tail.strict from) later (λ t there.
          all_follow tail.strict from c t c_follows
          (comes_before Before earlier c later
          (subst (Ascends Before) whole (listed_ascend counts.checked tail.element (supply Unlabelled (size c)) is.passed (supplied counts is tail stands (size c)))) t there)))

      -- the lists with a lesser first component
      abbrev lesser : List (List Structure)
      lesser = flat_map with_size (range_with_len 1 (size c - 1)) ++ going_on_from counts.checked (behind_one tail) front (n - size c)

      all_are : sorted_from counts.checked tail from n
          ≡ lesser
          ++ (map (λ rest. c ∷ rest) (going_on c)
          ++ (going_on_from counts.checked (behind_one tail) later (n - size c) ++ with_greater counts.checked (behind_one tail) (size c) n))
      all_are =
          by_size some_atoms
          ∙ ap (flat_map with_size) (range_cut (size c) n component_low component_high)
          ∙ flat_map-append with_size (range_with_len 1 (size c - 1)) (size c ∷ range_with_len (size c + 1) (n - size c))
          ∙ (λ i. flat_map with_size (range_with_len 1 (size c - 1)) ++ (here i ++ greater i))
          ∙ regroup (flat_map with_size (range_with_len 1 (size c - 1))) (going_on_from counts.checked (behind_one tail) front (n - size c)) (map (λ rest. c ∷ rest) (going_on c))
          (going_on_from counts.checked (behind_one tail) later (n - size c)) (with_greater counts.checked (behind_one tail) (size c) n)
        where
          here : with_size (size c)
              ≡ going_on_from counts.checked (behind_one tail) front (n - size c) ++ (map (λ rest. c ∷ rest) (going_on c) ++ going_on_from counts.checked (behind_one tail) later (n - size c))
          here =
              ap (λ firsts. going_on_from counts.checked (behind_one tail) firsts (n - size c)) those
              ∙ flat_map-append (λ (s : Structure). map (λ rest. s ∷ rest) (going_on s)) front (c ∷ later)

      -- with what the code reads
      module _ (behind : SortedTail) (taken : ℕ) (stands_behind : behind ≡ behind_one tail) (has_size : taken ≡ size c) where
        abbrev here_level : SortedLevel
        here_level = record { behind = behind; taken = taken; left = n - taken }

        level_are : going_on_from counts.checked (behind_one tail) later (n - size c) ++ with_greater counts.checked (behind_one tail) (size c) n
            ≡ at_sorted_level counts.checked here_level later
        level_are =
            ap (λ (m : ℕ). going_on_from counts.checked (behind_one tail) later (n - size c) ++ with_greater counts.checked (behind_one tail) (size c) m)
            (let e : n ≡ size c + (n - size c) = omega (arith, component_high) in e)
            ∙ (λ i. at_sorted_level counts.checked (record { behind = sym stands_behind i; taken = sym has_size i; left = n - sym has_size i }) later)

        -- behind the list come those that differ from it behind the first component, and then the others of the level
        behind_whole : (before_more next : List (List Structure)) → sorted_from counts.checked (behind_one tail) (Some c) (n - size c) ≡ before_more ++ more ∷ next
            → sorted_from counts.checked tail from n
            ≡ (lesser ++ map (λ rest. c ∷ rest) before_more) ++ ss ∷ (map (λ rest. c ∷ rest) next ++ at_sorted_level counts.checked here_level later)
        behind_whole before_more next others =
            all_are
            ∙ (λ i. lesser ++ (with_c i ++ level_are i))
            ∙ cut_at lesser (map (λ rest. c ∷ rest) before_more) (c ∷ more) (map (λ rest. c ∷ rest) next) (at_sorted_level counts.checked here_level later)
            ∙ ap (λ (ts : List Structure). (lesser ++ map (λ rest. c ∷ rest) before_more) ++ ts ∷ (map (λ rest. c ∷ rest) next ++ at_sorted_level counts.checked here_level later)) (sym off)
          where
            with_c : map (λ rest. c ∷ rest) (going_on c) ≡ map (λ rest. c ∷ rest) before_more ++ (c ∷ more) ∷ map (λ rest. c ∷ rest) next
            with_c = ap (map (λ rest. c ∷ rest)) others ∙ map-append (λ rest. c ∷ rest) before_more (more ∷ next)

    -- ---- what the code asks for

    module _ (behind : SortedTail) (taken : ℕ) (stands_behind : behind ≡ behind_one tail) (has_size : taken ≡ size c) where
      pub level_component : IsIn c (listing_on counts.checked behind.element (supply Unlabelled taken))
      level_component =
          subst (λ (b : SortedTail). IsIn c (listing_on counts.checked b.element (supply Unlabelled taken))) (sym stands_behind)
          (subst (λ (d : ℕ). IsIn c (listing_on counts.checked tail.element (supply Unlabelled d))) (sym has_size) component_listed)

      pub level_alone : n - taken ≡ 0 → admits behind.card 0 ≡ true
      level_alone none = subst (λ (b : SortedTail). admits b.card 0 ≡ true) (sym stands_behind) (may_be_alone (omega (arith, none, has_size)))

    -- ---- what is opened

    module _ (behind : SortedTail) (taken : ℕ) (stands_behind : behind ≡ behind_one tail) (has_size : taken ≡ size c)
        (before pushed : List Structure) (copied : Structure) (copy : copied ≡ c) (push : pushed ≡ before ++ copied ∷ []) where
      now_front : in_front pushed ≡ Some c
      now_front = ap in_front push ∙ pushed_front before copied ∙ ap (λ s. Some s) copy

      others_from : sorted_from counts.checked (behind_one tail) (Some c) (n - size c) ≡ sorted_from counts.checked behind (in_front pushed) (n - taken)
      others_from = λ i. sorted_from counts.checked (sym stands_behind i) (sym now_front i) (n - sym has_size i)

      -- it stands in front of the others
      pub now_in_front : IsFrontOf counts.checked behind.element pushed
      now_in_front =
          subst (λ (b : SortedTail). IsFrontOf counts.checked b.element pushed) (sym stands_behind)
          (subst (λ (o : Option Structure). IfSome o (λ s. IsIn s (listing_on counts.checked tail.element (supply Unlabelled (size s))))) (sym now_front) component_listed)

      pub others_there : IsIn more (sorted_from counts.checked behind (in_front pushed) (n - taken))
      others_there = subst (IsIn more) others_from others_listed

      -- another list of the others is opened behind the same component
      pub others_open : (first : Later) (after : List Structure) (opened now : LaterSorted) (p : _) → now ≡ opened → n ≤ counts.size
          → Resumes counts (listing_on counts.checked tail.element (supply Unlabelled taken)) c first
          → OpensBehindSorted counts (sorted_from counts.checked behind (in_front pushed) (n - taken)) more pushed after (Some opened)
          → OpensBehindSorted counts (sorted_from counts.checked tail from n) ss before after
          (Some (sorted.Level' (record { behind = behind; taken = taken; left = n - taken }) first p now))
      others_open first after opened now p same within resumed opens = record {
        earlier = lesser resumed.0.earlier (structures_after counts.checked first c) whole ++ map (λ rest. c ∷ rest) opens.earlier;
        next =
            (c ∷ opens.opens.added)
            ∷ (map (λ rest. c ∷ rest) (sorted_after counts.checked now opens.opens.added)
            ++ at_sorted_level counts.checked (record { behind = behind; taken = taken; left = n - taken }) (structures_after counts.checked first c));
        whole =
            behind_whole resumed.0.earlier (structures_after counts.checked first c) whole behind taken stands_behind has_size opens.earlier
            (opens.opens.added ∷ sorted_after counts.checked now opens.opens.added)
            (others_from ∙ opens.whole ∙ ap (λ lists. opens.earlier ++ more ∷ lists) (opens.opens.whole ∙ ap (λ (l : LaterSorted). opens.opens.added ∷ sorted_after counts.checked l opens.opens.added) (sym same)));
        opens = record {
          added = c ∷ opens.opens.added;
          put = opens.opens.put ∙ ap (λ ts. ts ++ opens.opens.added) (push ∙ ap (λ s. before ++ s ∷ []) copy) ∙ append_snoc before c opens.opens.added;
          whole = refl;
          stands = (level_stands, (resumed.1, subst (λ (l : LaterSorted). SortedStand counts l opens.opens.added) (sym same) opens.opens.stands));
        };
      }
        where
          whole : listing_on counts.checked tail.element (supply Unlabelled (size c)) ≡ resumed.0.earlier ++ c ∷ structures_after counts.checked first c
          whole = ap (λ (d : ℕ). listing_on counts.checked tail.element (supply Unlabelled d)) (sym has_size) ∙ resumed.0.whole

          level_stands : SortedLevelStands counts (record { behind = behind; taken = taken; left = n - taken }) first c
          level_stands = subst (λ (b : SortedTail). SortedLevelStands counts (record { behind = b; taken = taken; left = n - taken }) first c) (sym stands_behind) (record {
            tail = behind_stands counts is tail stands;
            within = omega (arith, within, component_high, has_size);
            goes_on = resumed.0;
          })

      -- the component that was put is taken off again
      pub taken_off : (middle left : List Structure) (popped : Option Structure)
          → OpensBehindSorted counts (sorted_from counts.checked behind (in_front pushed) (n - taken)) more pushed middle None
          → IfSome popped (λ s. middle ≡ left ++ s ∷ []) → IfNone popped (middle ≡ []) → left ≡ before
      taken_off middle left (Some s) opens some none = (last_same left before s copied (sym some ∙ opens.opens.kept ∙ push)).0
      taken_off middle left None opens some none =
          let long : length (before ++ copied ∷ []) ≡ 0 = ap length (sym push ∙ sym opens.opens.kept ∙ none) in
          absurd (omega (arith, long, length-append before (copied ∷ [])))

      -- where none comes behind the others, a later component is opened
      pub later_opens : (middle left after : List Structure) (opened : Option LaterSorted) → left ≡ before
          → OpensBehindSorted counts (sorted_from counts.checked behind (in_front pushed) (n - taken)) more pushed middle None
          → OpensBehindFirst counts (record { behind = behind; taken = taken; left = n - taken }) c left after opened
          → OpensBehindSorted counts (sorted_from counts.checked tail from n) ss before after opened
      later_opens middle left after opened off_again others opens = record {
        earlier = lesser opens.earlier opens.next whole ++ map (λ rest. c ∷ rest) others.earlier;
        next = at_sorted_level counts.checked (record { behind = behind; taken = taken; left = n - taken }) opens.next;
        whole =
            behind_whole opens.earlier opens.next whole behind taken stands_behind has_size others.earlier []
            (others_from ∙ others.whole ∙ ap (λ lists. others.earlier ++ more ∷ lists) others.opens.none);
        opens =
            subst (λ (ts : List Structure). OpensSorted counts (at_sorted_level counts.checked (record { behind = behind; taken = taken; left = n - taken }) opens.next) ts after opened)
            off_again opens.opens;
      }
        where
          whole : listing_on counts.checked tail.element (supply Unlabelled (size c)) ≡ opens.earlier ++ c ∷ opens.next
          whole =
              (λ i. listing_on counts.checked (sym stands_behind i).element (supply Unlabelled (sym has_size i))) ∙ opens.whole

-- ---- the whole node

-- a structure of components has their shape
only_components : (sh : Shape) (form : Form5) (ss : List Structure) → structure_of sh ≡ Tup form (parts_of ss) → ((f : Form5) (parts : List Structure) → sh ≡ shape.Tup f parts → ⊥) → ⊥
only_components (shape.Eps rule) form ss is left = absurd (cc)
only_components (shape.Atom rule label) form ss is left = absurd (cc)
only_components (shape.Named rule inside) form ss is left = absurd (cc)
only_components (shape.Alt argument inside) form ss is left = absurd (cc)
only_components (shape.Tup f parts) form ss is left = left f parts refl

module _ (counts : Counts) (is : IsCounted counts) (tail : SortedTail) (stands : IsSortedTail counts tail) (own : card_at counts.checked.rules tail.node ≡ Some tail.card)
    (given : Supply) (asked : IsAsked counts given) (n : ℕ) (long : n ≡ length (supply_labels given)) (s : Structure)
    (one : IsIn s (listing_on counts.checked tail.node (supply_labels given))) where
  abbrev formed : List Structure → Structure
  formed ss = Tup (sorted_form tail.strict) (parts_of ss)

  all_formed : listing_on counts.checked tail.node (supply_labels given) ≡ map formed (sorted_from counts.checked tail None n)
  all_formed = node_listed counts is tail stands own given asked n long

  -- it is made of one of the sorted lists
  of_list : (ss : List Structure) × IsIn ss (sorted_from counts.checked tail None n) × (s ≡ formed ss)
  of_list = from_map formed s (sorted_from counts.checked tail None n) (subst (IsIn s) all_formed one)

  pub has_components : (sh : Shape) → structure_of sh ≡ s → ((f : Form5) (parts : List Structure) → sh ≡ shape.Tup f parts → ⊥) → ⊥
  has_components sh view left = only_components sh (sorted_form tail.strict) of_list.0 (view ∙ of_list.2) left

  module _ (f : Form5) (parts : List Structure) (view : Tup f (parts_of parts) ≡ s) where
    same_parts : parts ≡ of_list.0
    same_parts =
        let same : Tup f (parts_of parts) ≡ Tup (sorted_form tail.strict) (parts_of of_list.0) = view ∙ of_list.2 in
        let form_same : f ≡ sorted_form tail.strict = cc in
        same_components (sorted_form tail.strict) parts of_list.0 (ap (λ (g : Form5). Tup g (parts_of parts)) (sym form_same) ∙ same)

    is_formed : s ≡ formed parts
    is_formed = of_list.2 ∙ ap formed (sym same_parts)

    pub parts_listed : (before : List Structure) → before ≡ [] → IsIn (drop 0 parts) (sorted_from counts.checked tail (in_front before) n)
    parts_listed before none =
        subst (λ (ts : List Structure). IsIn parts (sorted_from counts.checked tail (in_front ts) n)) (sym none)
        (subst (λ (ts : List Structure). IsIn ts (sorted_from counts.checked tail None n)) (sym same_parts) of_list.1)

    module _ (before after : List Structure) (none : before ≡ []) where
      whole_formed : (earlier next : List (List Structure)) → sorted_from counts.checked tail (in_front before) n ≡ earlier ++ parts ∷ next
          → listing_on counts.checked tail.node (supply_labels given) ≡ map formed earlier ++ s ∷ map formed next
      whole_formed earlier next whole =
          all_formed
          ∙ ap (map formed) (ap (λ (ts : List Structure). sorted_from counts.checked tail (in_front ts) n) (sym none) ∙ whole)
          ∙ map-append formed earlier (parts ∷ next)
          ∙ ap (λ (t : Structure). map formed earlier ++ t ∷ map formed next) (sym is_formed)

      -- none comes behind it
      pub none_comes : OpensBehindSorted counts (sorted_from counts.checked tail (in_front before) n) (drop 0 parts) before after None
          → OpensBehind counts (listing_on counts.checked tail.node (supply_labels given)) s None
      none_comes opens = record {
        earlier = map formed opens.earlier;
        whole = whole_formed opens.earlier opens.next opens.whole ∙ ap (λ lists. map formed opens.earlier ++ s ∷ map formed lists) opens.opens.none;
      }

      module _ (opened now : LaterSorted) (same : now ≡ opened) (opens : OpensBehindSorted counts (sorted_from counts.checked tail (in_front before) n) (drop 0 parts) before after (Some opened)) where
        put_alone : after ≡ opens.opens.added
        put_alone = opens.opens.put ∙ ap (λ ss. ss ++ opens.opens.added) none

        as_told : opens.opens.added ≡ part_list (parts_of after)
        as_told = sym put_alone ∙ sym (list_back after)

        comes_whole : listing_on counts.checked tail.node (supply_labels given)
            ≡ map formed opens.earlier ++ s ∷ formed opens.opens.added ∷ map formed (sorted_after counts.checked opened opens.opens.added)
        comes_whole = whole_formed opens.earlier opens.next opens.whole ∙ ap (λ lists. map formed opens.earlier ++ s ∷ map formed lists) opens.opens.whole

        -- what comes next has few atoms
        pub next_few : length (labels_of_parts (parts_of after)) < 2 ^ 32
        next_few =
            let there : IsIn (formed opens.opens.added) (listing_on counts.checked tail.node (supply_labels given)) =
            subst (IsIn (formed opens.opens.added)) (sym comes_whole)
            (in_right (formed opens.opens.added) (map formed opens.earlier) (s ∷ formed opens.opens.added ∷ map formed (sorted_after counts.checked opened opens.opens.added)) (inr (inl refl))) in
            omega (
              arith,
              ap (λ ss. length (labels_of_parts (parts_of ss))) put_alone,
              listed_atoms counts.checked tail.node (supply_labels given) (formed opens.opens.added) there,
              asked.within,
              is.small,
            )

        -- and comes with all that comes later
        pub next_comes : (p : _) → OpensBehind counts (listing_on counts.checked tail.node (supply_labels given)) s (Some (later.Sorted' p now, Tup (sorted_form tail.strict) (parts_of after)))
        next_comes p = (
          record {
            earlier = map formed opens.earlier;
            whole =
                comes_whole
                ∙ (λ i. map formed opens.earlier ++ s ∷ formed (sym put_alone i) ∷ map formed (sorted_after counts.checked (sym same i) (as_told i)));
          },
          subst (λ (ss : List Structure). SortedStand counts now ss) as_told (subst (λ (l : LaterSorted). SortedStand counts l opens.opens.added) (sym same) opens.opens.stands),
        )

-- ---- a later first component

-- the one behind it is opened
pub next_level : (counts : Counts) (level : SortedLevel) (c : Structure) (first : Later) (next : Structure) → IsSortedTail counts level.behind → level.taken + level.left ≤ counts.size
    → OpensBehind counts (listing_on counts.checked level.behind.element (supply Unlabelled level.taken)) c (Some (first, next)) → SortedLevelStands counts level first next
next_level counts level c first next tail within opens = record {
  tail = tail;
  within = within;
  goes_on = record {
    earlier = opens.0.earlier ++ c ∷ [];
    whole = opens.0.whole ∙ sym (append_snoc opens.0.earlier c (next ∷ structures_after counts.checked first next));
  };
}
