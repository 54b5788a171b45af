-- What comes later than sorted components of a Set or a PowerSet without labels.
use Rattle.std.proofs.Common.{◌≡◌, ℕ, ◌+◌, ◌-◌, ◌<◌, ◌≤◌, zero, suc, Bool, true, false, List, [], ◌∷◌, ◌++◌, map, filter, flat_map, length, take, slice_get, Option, Some, None, refl, sym, ap, ◌∙◌, subst, inl, inr, arith}
use Rattle.std.specs.Prelude.{IsTrue, if◌then◌else◌}
use Rattle.std.specs.Option.{option_map}
use Rattle.std.specs.List.{range_with_len}
use Rattle.std.proofs.lemmas.Bool.Decides.{nat_tests}
use Rattle.std.proofs.lemmas.List.{map-append, length-replicate}
use Rattle.std.proofs.lemmas.List.Elements.{filter-append}
use Rattle.std.proofs.lemmas.Grind.{flat_map-append}
use Rattle.lists.specs.Enumeration.{IsIn}
use Rattle.lists.proofs.Filters.{filter_all}
use Rattle.lists.proofs.FlatMaps.{same_made, range-append}
use Rattle.lists.proofs.RangeSums.{in_range}
use Rattle.lists.proofs.Enumerated.{from_filter, from_map, from_flat_map}
use Rattle.spec_syntax.specs.declared.statement.Universe.{Universe}
use Rattle.spec_syntax.specs.declared.statement.Universe.TheVariants.{Labelled, Unlabelled}
use Rattle.spec_syntax.specs.declared.expr.Kind.TheVariants as kind
use Rattle.spec_syntax.specs.Card.{is_within, admits}
use Rattle.spec_syntax.specs.Nodes.{card_at}
use Rattle.struct_model.specs.declared.tree.Form5.{Form5}
use Rattle.struct_model.specs.Structure.{Structure, Tup, parts_of, size}
use Rattle.struct_model.specs.Membership.{supply as made, is_supply}
use Rattle.struct_model.specs.declared.supplies.Supply.{Supply}
use Rattle.struct_model.specs.declared.supplies.Supply.TheVariants.{Zeros, Labels}
use Rattle.struct_model.specs.SupplyView.{supply_labels}
use Rattle.struct_model.proofs.SupplyLaws.{supply_is}
use Rattle.well_founded.specs.declared.node.NodeKind.TheVariants as told
use Rattle.well_founded.specs.Checked.{Checked}
use Rattle.listing_laws.specs.Lister.{each_going_on, admits_some, list_empty}
use Rattle.listing_laws.specs.NodeListing.{HasKind, listing_on}
use Rattle.listing_laws.specs.SortedListing.{follows}
use Rattle.listing_laws.specs.SortedNodes.{IsContained, sorted_at, sorted_by_sizes}
use Rattle.listing_laws.proofs.Components.{list_back}
use Rattle.listing_laws.proofs.SortedNodes.{sorted_nodes_are_listed}
use Rattle.size_counts.specs.CountedView.{Counts, IsCounted, IsReachedIn}
use Rattle.struct_walk.specs.declared.later.Later as later
use Rattle.struct_walk.specs.declared.later.Later.{Later}
use Rattle.struct_walk.specs.declared.later.LaterSorted as sorted
use Rattle.struct_walk.specs.declared.later.LaterSorted.{LaterSorted}
use Rattle.struct_walk.specs.declared.sorted_tail.SortedTail.{SortedTail}
use Rattle.struct_walk.specs.declared.sorted_tail.SortedLevel.{SortedLevel}
use Rattle.struct_walk.specs.SortedTails.{sorted_kind, sorted_form, IsSortedTail, behind_one, in_front, sorted_from, going_on_from, with_greater, at_sorted_level}
use Rattle.struct_walk.specs.After.{structures_after, sorted_after}
use Rattle.struct_walk.specs.Stands.{IsAsked, IsSetOf, SortedLevelStands, SortedStand, Stands}
use Rattle.struct_walk.specs.Opened.{Resumes}
use Rattle.struct_walk.specs.Resumed.{ResumesSorted}
use Rattle.struct_walk.proofs.ReachedNodes.{reached_child}
use Rattle.struct_walk.proofs.TailLemmas.{structure_size}
use Rattle.struct_walk.proofs.NodeOrder.{node_behind, follows_later, greater_later}
use Rattle.struct_walk.proofs.ResumedLists.{nested, node_key}

-- ---- the node's own

form_is : (checked : Checked) (node : ℕ) (strict : Bool) (f : Form5) → HasKind checked node (sorted_kind strict) → IsSetOf checked node f → f ≡ sorted_form strict
form_is checked node true f has (inl (h, same)) = let e : Some told.PowerSet ≡ Some told.Set = sym has ∙ h in absurd (cc)
form_is checked node true f has (inr (h, same)) = same
form_is checked node false f has (inl (h, same)) = same
form_is checked node false f has (inr (h, same)) = let e : Some told.Set ≡ Some told.PowerSet = sym has ∙ h in absurd (cc)

-- a Set or a PowerSet without labels is its sorted lists of components in its form
pub sorted_set : (counts : Counts) → IsCounted counts → (tail : SortedTail) (f : Form5) (supply : Supply) (n : ℕ) → IsSortedTail counts tail
    → card_at counts.checked.rules tail.node ≡ Some tail.card → IsSetOf counts.checked tail.node f → IsAsked counts supply → n ≡ length (supply_labels supply)
    → listing_on counts.checked tail.node (supply_labels supply) ≡ map (λ ss. Tup f (parts_of ss)) (sorted_from counts.checked tail None n)
sorted_set counts is tail f (Labels labels) n stands own of asked long = let e : Labelled ≡ Unlabelled = asked.universe ∙ stands.universe in absurd (cc)
sorted_set counts is tail f (Zeros m) n stands own of asked long =
    by tail.strict stands.kind
    ∙ (λ i. map (λ ss. Tup (sym (form_is counts.checked tail.node tail.strict f stands.kind of) i) (parts_of ss)) (sorted_from counts.checked tail None (same i)))
  where
    same : m ≡ n
    same = omega (arith, long, length-replicate {A = ℕ} m 0)

    supplied : IsTrue (is_supply counts.checked.universe (made Unlabelled m))
    supplied = subst (λ (u : Universe). is_supply u (made Unlabelled m) ≡ true) (sym stands.universe) (supply_is Unlabelled m)

    by : (strict : Bool) → HasKind counts.checked tail.node (sorted_kind strict)
        → listing_on counts.checked tail.node (made Unlabelled m)
        ≡ map (λ ss. Tup (sorted_form strict) (parts_of ss)) (sorted_at counts.checked tail.element strict tail.card None (made Unlabelled m))
    by true has = sorted_nodes_are_listed.power_sets counts.checked tail.node tail.element tail.card (made Unlabelled m) is.passed supplied has stands.child own
    by false has = sorted_nodes_are_listed.sets counts.checked tail.node tail.element tail.card (made Unlabelled m) is.passed supplied has stands.child own

pub sorted_resume : (counts : Counts) (form other : Form5) (all : List (List Structure)) (parts : List Structure) (whole : Structure) (opened now : LaterSorted) (p : _)
    → Tup other (parts_of parts) ≡ whole → other ≡ form → now ≡ opened → ResumesSorted counts all parts opened
    → Resumes counts (map (λ ss. Tup form (parts_of ss)) all) whole (later.Sorted' p now)
sorted_resume counts form other all parts whole opened now p is formed same resumes =
    subst (λ (s : Structure). Resumes counts (map (λ ss. Tup form (parts_of ss)) all) s (later.Sorted' p now)) (ap (λ (f : Form5). Tup f (parts_of parts)) (sym formed) ∙ is) (
      record {
        earlier = map (λ ss. Tup form (parts_of ss)) resumes.0.earlier;
        whole =
            ap (map (λ ss. Tup form (parts_of ss))) resumes.0.whole
            ∙ map-append (λ ss. Tup form (parts_of ss)) resumes.0.earlier (parts ∷ sorted_after counts.checked opened parts)
            ∙ (λ i. map (λ ss. Tup form (parts_of ss)) resumes.0.earlier
            ++ Tup form (parts_of parts) ∷ map (λ ss. Tup form (parts_of ss)) (sorted_after counts.checked (sym same i) (sym (list_back parts) i)));
      },
      subst (λ (ss : List Structure). SortedStand counts now ss) (sym (list_back parts)) (subst (λ (l : LaterSorted). SortedStand counts l parts) (sym same) resumes.1),
    )

-- ---- the component in front

-- behind the component at a place stands that one in front
pub in_front_of : (parts : List Structure) (place : ℕ) (c : Structure) → slice_get parts place ≡ Some c → in_front (take (place + 1) parts) ≡ Some c
in_front_of parts place c at =
    ap (λ (k : ℕ). in_front (take k parts)) (let e : place + 1 ≡ suc place = omega arith in e)
    ∙ ap (slice_get (take (suc place) parts)) (taken parts place at)
    ∙ still parts place at
  where
    taken : (xs : List Structure) (i : ℕ) → slice_get xs i ≡ Some c → length (take (suc i) xs) - 1 ≡ i
    taken [] i at = absurd (cc)
    taken (x ∷ xs) zero at = refl
    taken (x ∷ xs) (suc i) at = let before = taken xs i at in omega (arith, before, some xs i at)
      where
        some : (ys : List Structure) (j : ℕ) → slice_get ys j ≡ Some c → 0 < length (take (suc j) ys)
        some [] j at = absurd (cc)
        some (y ∷ ys) j at = omega arith

    still : (xs : List Structure) (i : ℕ) → slice_get xs i ≡ Some c → slice_get (take (suc i) xs) i ≡ Some c
    still [] i at = absurd (cc)
    still (x ∷ xs) zero at = at
    still (x ∷ xs) (suc i) at = still xs i at

still_within : (high : Option ℕ) (c : ℕ) → is_within (option_map (λ n. n - 1) high) c ≡ true → is_within high c ≡ true
still_within None c h = refl
still_within (Some n) c h = grind (arith, nat_tests)

-- ---- lists

module _ (counts : Counts) (is : IsCounted counts) (tail : SortedTail) (stands : IsSortedTail counts tail) where
  contained : IsContained counts.checked tail.element
  contained = by tail.strict stands.kind
    where
      by : (strict : Bool) → HasKind counts.checked tail.node (sorted_kind strict) → IsContained counts.checked tail.element
      by true has = record { node = tail.node; kind = kind.PowerSet; is = has; child = stands.child }
      by false has = record { node = tail.node; kind = kind.Set; is = has; child = stands.child }

  pub behind_stands : IsSortedTail counts (behind_one tail)
  behind_stands = record {
    reached = stands.reached;
    kind = stands.kind;
    child = stands.child;
    below = λ own c its within. stands.below own c its (still_within tail.card.high c within);
    universe = stands.universe;
  }

  pub element_reached : IsReachedIn counts tail.element
  element_reached = reached_child counts is tail.node 0 tail.element stands.reached stands.child

  module _ (n : ℕ) (from : Option Structure) (ss : List Structure) (one : IsIn ss (sorted_from counts.checked tail from n)) where
    -- without atoms there is no component
    pub no_atoms : n ≡ 0 → ResumesSorted counts (sorted_from counts.checked tail from n) ss sorted.Nothing
    no_atoms none = by (admits tail.card 0) only
      where
        only : sorted_from counts.checked tail from n ≡ list_empty tail.card
        only = ap (λ (k : ℕ). sorted_from counts.checked tail from k) none ∙ sorted_nodes_are_listed.empty counts.checked tail.element tail.strict tail.card from contained

        by : (b : Bool) → sorted_from counts.checked tail from n ≡ (if b then [] ∷ [] else []) → ResumesSorted counts (sorted_from counts.checked tail from n) ss sorted.Nothing
        by true all =
            let empty : ss ≡ [] = elim (subst (λ (sss : List (List Structure)). IsIn ss sss) all one) [ inl here ↦ here | inr there ↦ absurd there ] in
            (record { earlier = []; whole = all ∙ ap (λ ts. ts ∷ []) (sym empty) }, empty)
        by false all = absurd (subst (λ (sss : List (List Structure)). IsIn ss sss) all one)

    module _ (atoms : 0 < n) where
      -- the lists whose first component has so many atoms
      abbrev with_size : ℕ → List (List Structure)
      with_size d = each_going_on (filter (follows tail.strict from) (listing_on counts.checked tail.element (made Unlabelled d))) (λ s. sorted_from counts.checked (behind_one tail) (Some s) (n - d))

      by_sizes : sorted_from counts.checked tail from n ≡ flat_map with_size (range_with_len 1 n)
      by_sizes = by (admits_some tail.card) (sorted_nodes_are_listed.size_by_size counts.checked tail.element tail.strict tail.card from n contained atoms)
        where
          by : (b : Bool) → sorted_from counts.checked tail from n ≡ (if b then sorted_by_sizes counts.checked tail.element tail.strict tail.card from n else [])
              → sorted_from counts.checked tail from n ≡ flat_map with_size (range_with_len 1 n)
          by true all = all
          by false all = absurd (subst (λ (sss : List (List Structure)). IsIn ss sss) all one)

      record IsSizeAt : Type 0 where
        d : ℕ
        low : 1 ≤ d
        high : d ≤ n
        first : Structure
        others : List Structure
        is_list : ss ≡ first ∷ others
        firsts : IsIn first (listing_on counts.checked tail.element (made Unlabelled d))
        passes : follows tail.strict from first ≡ true
        behind : IsIn others (sorted_from counts.checked (behind_one tail) (Some first) (n - d))

      size_at : IsSizeAt
      size_at =
          let found = from_flat_map with_size (range_with_len 1 n) ss (subst (λ (all : List (List Structure)). IsIn ss all) by_sizes one) in
          let between = in_range found.0 1 n found.1 in
          let chosen = from_flat_map (λ (first : Structure). map (λ rest. first ∷ rest) (sorted_from counts.checked (behind_one tail) (Some first) (n - found.0)))
          (filter (follows tail.strict from) (listing_on counts.checked tail.element (made Unlabelled found.0))) ss found.2 in
          let kept = from_filter (follows tail.strict from) chosen.0 (listing_on counts.checked tail.element (made Unlabelled found.0)) chosen.1 in
          let put = from_map (λ (rest : List Structure). chosen.0 ∷ rest) ss (sorted_from counts.checked (behind_one tail) (Some chosen.0) (n - found.0)) chosen.2 in
          record {
            d = found.0;
            low = between.0;
            high = omega (arith, between.1);
            first = chosen.0;
            others = put.0;
            is_list = put.2;
            firsts = kept.0;
            passes = kept.1;
            behind = put.1;
          }

      -- there is a component
      pub some_sorted : 0 < length ss
      some_sorted = omega (arith, ap length size_at.is_list)

      module _ (c : Structure) (more : List Structure) (cuts_off : ss ≡ c ∷ more) (taken : ℕ) (told : taken ≡ size c) where
        same_first : size_at.first ≡ c
        same_first = let same : size_at.first ∷ size_at.others ≡ c ∷ more = sym size_at.is_list ∙ cuts_off in cc

        same_others : size_at.others ≡ more
        same_others = let same : size_at.first ∷ size_at.others ≡ c ∷ more = sym size_at.is_list ∙ cuts_off in cc

        supplied : (d : ℕ) → is_supply counts.checked.universe (made Unlabelled d) ≡ true
        supplied d = subst (λ (u : Universe). is_supply u (made Unlabelled d) ≡ true) (sym stands.universe) (supply_is Unlabelled d)

        first_in : IsIn c (listing_on counts.checked tail.element (made Unlabelled size_at.d))
        first_in = subst (λ (s : Structure). IsIn s (listing_on counts.checked tail.element (made Unlabelled size_at.d))) same_first size_at.firsts

        same_size : size_at.d ≡ taken
        same_size =
            omega (arith, told, structure_size counts is tail.element (made Unlabelled size_at.d) c (supplied size_at.d) first_in, length-replicate {A = ℕ} size_at.d 0)

        pub taken_low : 1 ≤ taken
        taken_low = omega (arith, same_size, size_at.low)

        pub taken_high : taken ≤ n
        taken_high = omega (arith, same_size, size_at.high)

        pub taken_asked : n ≤ counts.size → IsAsked counts (Zeros taken)
        taken_asked within = record { in_order = refl; universe = sym stands.universe; within = omega (arith, taken_high, length-replicate {A = ℕ} taken 0) }

        pub taken_there : IsIn c (listing_on counts.checked tail.element (supply_labels (Zeros taken)))
        taken_there = subst (λ (d : ℕ). IsIn c (listing_on counts.checked tail.element (made Unlabelled d))) same_size first_in

        c_follows : follows tail.strict from c ≡ true
        c_follows = subst (λ (s : Structure). follows tail.strict from s ≡ true) same_first size_at.passes

        pub behind_there : IsIn more (sorted_from counts.checked (behind_one tail) (Some c) (n - taken))
        behind_there =
            subst (λ (d : ℕ). IsIn more (sorted_from counts.checked (behind_one tail) (Some c) (n - d))) same_size
            (subst (λ (s : Structure). IsIn more (sorted_from counts.checked (behind_one tail) (Some s) (n - size_at.d))) same_first
            (subst (λ (ts : List Structure). IsIn ts (sorted_from counts.checked (behind_one tail) (Some size_at.first) (n - size_at.d))) same_others size_at.behind))

        -- ---- all lists

        cut_range : range_with_len 1 n ≡ range_with_len 1 (taken - 1) ++ taken ∷ range_with_len (taken + 1) (n - taken)
        cut_range =
            ap (range_with_len 1) (let e : n ≡ (taken - 1) + suc (n - taken) = omega (arith, taken_low, taken_high) in e)
            ∙ range-append 1 (taken - 1) (suc (n - taken))
            ∙ ap (λ (k : ℕ). range_with_len 1 (taken - 1) ++ k ∷ range_with_len (k + 1) (n - taken)) (let e : 1 + (taken - 1) ≡ taken = omega (arith, taken_low) in e)

        -- each greater component comes after this one
        greater_follow : (d : ℕ) → IsIn d (range_with_len (taken + 1) (n - taken)) → with_size d ≡ going_on_from counts.checked (behind_one tail) (listing_on counts.checked tail.element (made Unlabelled d)) (n - d)
        greater_follow d there =
            ap (λ firsts. each_going_on firsts (λ s. sorted_from counts.checked (behind_one tail) (Some s) (n - d)))
            (filter_all (follows tail.strict from) (listing_on counts.checked tail.element (made Unlabelled d)) (λ t listed.
            follows_later tail.strict from c t c_follows
            (greater_later taken d c t (node_key counts.checked tail.element (made Unlabelled taken) c taken_there) (node_key counts.checked tail.element (made Unlabelled d) t listed)
            (omega (arith, (in_range d (taken + 1) (n - taken) there).0)))))

        greater : flat_map with_size (range_with_len (taken + 1) (n - taken)) ≡ with_greater counts.checked (behind_one tail) taken n
        greater =
            same_made with_size (λ d. going_on_from counts.checked (behind_one tail) (listing_on counts.checked tail.element (made Unlabelled d)) (n - d)) (range_with_len (taken + 1) (n - taken)) greater_follow

        module _ (first : Later) (others others_now : LaterSorted) (same_later : others_now ≡ others) (level : SortedLevel) (left : ℕ)
            (same_level : level ≡ record { behind = behind_one tail; taken = taken; left = left }) (same_left : left ≡ n - taken) (within : n ≤ counts.size)
            (first_resumes : Resumes counts (listing_on counts.checked tail.element (supply_labels (Zeros taken))) c first)
            (others_resume : ResumesSorted counts (sorted_from counts.checked (behind_one tail) (Some c) left) more others) where
          abbrev going_on : Structure → List (List Structure)
          going_on s = sorted_from counts.checked (behind_one tail) (Some s) (n - taken)

          abbrev firsts : List Structure
          firsts = structures_after counts.checked first c

          abbrev front : List Structure
          front = filter (follows tail.strict from) first_resumes.0.earlier

          those : filter (follows tail.strict from) (listing_on counts.checked tail.element (made Unlabelled taken)) ≡ front ++ c ∷ firsts
          those =
              ap (filter (follows tail.strict from)) first_resumes.0.whole
              ∙ filter-append (follows tail.strict from) first_resumes.0.earlier (c ∷ firsts)
              ∙ ap (λ (b : Bool). front ++ (if b then c ∷ filter (follows tail.strict from) firsts else filter (follows tail.strict from) firsts)) c_follows
              ∙ ap (λ (ts : List Structure). front ++ c ∷ ts)
              (filter_all (follows tail.strict from) firsts (λ t there.
              follows_later tail.strict from c t c_follows
              (node_behind counts.checked is.passed tail.element (made Unlabelled taken) c first_resumes.0.earlier firsts (supplied taken) first_resumes.0.whole t there)))

          lists_are : going_on c ≡ others_resume.0.earlier ++ more ∷ sorted_after counts.checked others more
          lists_are = ap (λ (k : ℕ). sorted_from counts.checked (behind_one tail) (Some c) k) (sym same_left) ∙ others_resume.0.whole

          here : with_size taken
              ≡ each_going_on front going_on
              ++ ((map (λ ts. c ∷ ts) others_resume.0.earlier ++ (c ∷ more) ∷ map (λ ts. c ∷ ts) (sorted_after counts.checked others more)) ++ each_going_on firsts going_on)
          here =
              ap (λ fs. each_going_on fs going_on) those
              ∙ flat_map-append (λ (s : Structure). map (λ ts. s ∷ ts) (going_on s)) front (c ∷ firsts)
              ∙ ap (λ bs. each_going_on front going_on ++ (bs ++ each_going_on firsts going_on))
              (ap (map (λ ts. c ∷ ts)) lists_are ∙ map-append (λ ts. c ∷ ts) others_resume.0.earlier (more ∷ sorted_after counts.checked others more))

          all_are : sorted_from counts.checked tail from n
              ≡ (flat_map with_size (range_with_len 1 (taken - 1)) ++ (each_going_on front going_on ++ map (λ ts. c ∷ ts) others_resume.0.earlier))
              ++ (c ∷ more)
              ∷ (map (λ ts. c ∷ ts) (sorted_after counts.checked others more) ++ (each_going_on firsts going_on ++ with_greater counts.checked (behind_one tail) taken n))
          all_are =
              by_sizes
              ∙ ap (flat_map with_size) cut_range
              ∙ flat_map-append with_size (range_with_len 1 (taken - 1)) (taken ∷ range_with_len (taken + 1) (n - taken))
              ∙ (λ i. flat_map with_size (range_with_len 1 (taken - 1)) ++ (here i ++ greater i))
              ∙ nested (flat_map with_size (range_with_len 1 (taken - 1))) (each_going_on front going_on) (map (λ ts. c ∷ ts) others_resume.0.earlier) (c ∷ more)
              (map (λ ts. c ∷ ts) (sorted_after counts.checked others more)) (each_going_on firsts going_on) (with_greater counts.checked (behind_one tail) taken n)

          level_are : each_going_on firsts going_on ++ with_greater counts.checked (behind_one tail) taken n ≡ at_sorted_level counts.checked level firsts
          level_are =
              (λ i. going_on_from counts.checked (behind_one tail) firsts (sym same_left i) ++ with_greater counts.checked (behind_one tail) taken (total i))
              ∙ ap (λ (l : SortedLevel). at_sorted_level counts.checked l firsts) (sym same_level)
            where
              total : n ≡ taken + left
              total = omega (arith, taken_high, same_left)

          level_stands : SortedLevelStands counts level first c
          level_stands = subst (λ (l : SortedLevel). SortedLevelStands counts l first c) (sym same_level) (record {
            tail = behind_stands;
            within = omega (arith, within, taken_high, same_left);
            goes_on = first_resumes.0;
          })

          pub level_resumes : (later : LaterSorted)
              → sorted_after counts.checked later (c ∷ more) ≡ map (λ ts. c ∷ ts) (sorted_after counts.checked others_now more) ++ at_sorted_level counts.checked level (structures_after counts.checked first c)
              → (SortedLevelStands counts level first c × (Stands counts first c × SortedStand counts others_now more) → SortedStand counts later (c ∷ more))
              → ResumesSorted counts (sorted_from counts.checked tail from n) ss later
          level_resumes later same stand =
              subst (λ (now : List Structure). ResumesSorted counts (sorted_from counts.checked tail from n) now later) (sym cuts_off) (
                record {
                  earlier = flat_map with_size (range_with_len 1 (taken - 1)) ++ (each_going_on front going_on ++ map (λ ts. c ∷ ts) others_resume.0.earlier);
                  whole =
                      all_are
                      ∙ (λ i. (flat_map with_size (range_with_len 1 (taken - 1)) ++ (each_going_on front going_on ++ map (λ ts. c ∷ ts) others_resume.0.earlier))
                      ++ (c ∷ more) ∷ (map (λ ts. c ∷ ts) (sorted_after counts.checked (sym same_later i) more) ++ level_are i))
                      ∙ ap (λ lists.
                      (flat_map with_size (range_with_len 1 (taken - 1)) ++ (each_going_on front going_on ++ map (λ ts. c ∷ ts) others_resume.0.earlier)) ++ (c ∷ more) ∷ lists)
                      (sym same);
                },
                stand (level_stands, (first_resumes.1, subst (λ (l : LaterSorted). SortedStand counts l more) (sym same_later) others_resume.1)),
              )
