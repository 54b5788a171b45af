-- How sorted lists of components without labels are opened.
use Rattle.std.proofs.Common.{◌≡◌, ℕ, zero, suc, ◌+◌, ◌-◌, ◌≤◌, ◌<◌, ◌^◌, Bool, true, false, List, [], ◌∷◌, ◌++◌, map, flat_map, length, replicate, Option, Some, None, slice_get, refl, sym, ap, ◌∙◌, subst, inl, inr, arith, true≢false}
use Rattle.std.specs.Prelude.{if◌then◌else◌, IsTrue, IfSome, IfNone}
use Rattle.std.specs.List.{range_with_len}
use Rattle.std.specs.Option.{option_map_or}
use Rattle.std.proofs.Math.Seq.{append_snoc}
use Rattle.std.proofs.lemmas.List.{append-nil, append_assoc, length-append, length-map, length-replicate}
use Rattle.lists.specs.Enumeration.{IsIn}
use Rattle.lists.proofs.Enumerated.{from_filter}
use Rattle.lists.proofs.Within.{in_right}
use Rattle.spec_syntax.specs.declared.expr.Card.{Card}
use Rattle.spec_syntax.specs.declared.statement.Universe.TheVariants.{Unlabelled}
use Rattle.spec_syntax.specs.Card.{admits}
use Rattle.spec_syntax.specs.Nodes.{card_at, children_at}
use Rattle.struct_model.specs.declared.supplies.Supply.{Supply}
use Rattle.struct_model.specs.declared.supplies.Supply.TheVariants.{Zeros, Labels}
use Rattle.struct_model.specs.Structure.{Structure, Tup, size, part_list, parts_of, labels_of_parts}
use Rattle.struct_model.specs.Membership.{supply, is_supply}
use Rattle.struct_model.specs.SupplyView.{supply_labels, supply_universe}
use Rattle.struct_model.proofs.SupplyLaws.{supply_size}
use Rattle.well_founded.specs.Checked.{Checked, IsChecked}
use Rattle.listing_laws.specs.Lister.{admits_some, list_empty}
use Rattle.listing_laws.specs.NodeListing.{HasKind, listing_on, number_of_node}
use Rattle.listing_laws.specs.SortedNodes.{sorted_at, following_at}
use Rattle.listing_laws.proofs.Components.{list_back}
use Rattle.listing_laws.proofs.SortedNodes.{sorted_nodes_are_listed}
use Rattle.size_counts.specs.CountedView.{Counts, IsCounted}
use Rattle.struct_walk.specs.declared.later.Later as later
use Rattle.struct_walk.specs.declared.later.Later.{Later}
use Rattle.struct_walk.specs.declared.later.LaterSorted as sorted
use Rattle.struct_walk.specs.declared.later.LaterSorted.{LaterSorted}
use Rattle.struct_walk.specs.declared.sorted_tail.SortedTail.{SortedTail}
use Rattle.struct_walk.specs.declared.sorted_tail.SortedLevel.{SortedLevel}
use Rattle.struct_walk.specs.After.{structures_after, sorted_after}
use Rattle.struct_walk.specs.SortedTails.{sorted_kind, sorted_form, IsSortedTail, IsFrontOf, behind_one, in_front, size_in_front, sorted_from, going_on_from, with_greater, at_sorted_level}
use Rattle.struct_walk.specs.Stands.{IsAsked, GoesOn, SortedLevelStands, Stands, SortedStand}
use Rattle.struct_walk.specs.Opened.{Opens, OpensSorted, OpensSortedList, OpensNothing, OpensSortedOr, OpensFollowing, OpensBehind, Behind, Resumes}
use Rattle.struct_walk.proofs.OpenLemmas.{asked_supply}
use Rattle.struct_walk.proofs.SortedLemmas.{contained, supplied, behind_stands, none_empty, without_atoms, no_component, from_none, from_front, past_front, nothing_goes_on, dead_end, next_size, first_sorted, listed_atoms, atoms_of_size}
use Rattle.struct_walk.proofs.StepArguments.{no_structures}
use Rattle.struct_walk.proofs.StepParts.{last_same}

-- ---- the whole node

-- a supply without labels is told by its size
pub zeros_alone : (u : Supply) → supply_universe u ≡ Unlabelled → supply_labels u ≡ supply Unlabelled (length (supply_labels u))
zeros_alone (Zeros n) is = ap (λ (k : ℕ). replicate k 0) (sym (length-replicate {A = ℕ} n 0))
zeros_alone (Labels labels) is = absurd (cc)

whole_listed : (checked : Checked) → IsChecked checked → (node element : ℕ) (card : Card) (u : List ℕ) → is_supply checked.universe u ≡ true
    → slice_get (children_at checked.rules node) 0 ≡ Some element → card_at checked.rules node ≡ Some card → (strict : Bool) → HasKind checked node (sorted_kind strict)
    → listing_on checked node u ≡ map (λ ss. Tup (sorted_form strict) (parts_of ss)) (sorted_at checked element strict card None u)
whole_listed checked passed node element card u supplied child own true kind = sorted_nodes_are_listed.power_sets checked node element card u passed supplied kind child own
whole_listed checked passed node element card u supplied child own false kind = sorted_nodes_are_listed.sets checked node element card u passed supplied kind child own

module _ (counts : Counts) (is : IsCounted counts) (tail : SortedTail) (stands : IsSortedTail counts tail) (own : card_at counts.checked.rules tail.node ≡ Some tail.card)
    (given : Supply) (asked : IsAsked counts given) (n : ℕ) (long : n ≡ length (supply_labels given)) where
  -- the node lists what is made of its sorted lists
  pub node_listed : listing_on counts.checked tail.node (supply_labels given) ≡ map (λ ss. Tup (sorted_form tail.strict) (parts_of ss)) (sorted_from counts.checked tail None n)
  node_listed =
      whole_listed counts.checked is.passed tail.node tail.element tail.card (supply_labels given) (asked_supply counts given asked) stands.child own tail.strict stands.kind
      ∙ ap (λ (u : List ℕ). map (λ ss. Tup (sorted_form tail.strict) (parts_of ss)) (sorted_at counts.checked tail.element tail.strict tail.card None u))
      (zeros_alone given (asked.universe ∙ stands.universe) ∙ ap (supply Unlabelled) (sym long))

  -- there is one
  pub some_sorted : (before after : List Structure) → before ≡ [] → 0 < length (listing_on counts.checked tail.node (supply_labels given))
      → OpensNothing (sorted_from counts.checked tail (in_front before) n) before after → ⊥
  some_sorted before after none some nothing =
      omega (
        arith,
        some,
        ap length node_listed,
        ap (λ (ss : List Structure). length (map (λ ss. Tup (sorted_form tail.strict) (parts_of ss)) (sorted_from counts.checked tail (in_front ss) n))) none,
        ap (λ (sss : List (List Structure)). length (map (λ ss. Tup (sorted_form tail.strict) (parts_of ss)) sss)) nothing.none,
      )

  module _ (before after : List Structure) (none : before ≡ []) (opened now : LaterSorted) (same : now ≡ opened)
      (opens : OpensSortedList counts (sorted_from counts.checked tail (in_front before) n) before after opened) where
    put_alone : after ≡ opens.added
    put_alone = opens.put ∙ ap (λ ss. ss ++ opens.added) none

    from_start : sorted_from counts.checked tail None n ≡ opens.added ∷ sorted_after counts.checked opened opens.added
    from_start = ap (λ (ss : List Structure). sorted_from counts.checked tail (in_front ss) n) (sym none) ∙ opens.whole

    as_told : opens.added ≡ part_list (parts_of after)
    as_told = sym put_alone ∙ sym (list_back after)

    -- the structure that has these components has few atoms
    pub sorted_few : length (labels_of_parts (parts_of after)) < 2 ^ 32
    sorted_few =
        let there : IsIn (Tup (sorted_form tail.strict) (parts_of opens.added)) (listing_on counts.checked tail.node (supply_labels given)) =
        subst (IsIn (Tup (sorted_form tail.strict) (parts_of opens.added))) (sym (node_listed ∙ ap (map (λ ss. Tup (sorted_form tail.strict) (parts_of ss))) from_start)) (inl refl) in
        omega (
          arith,
          ap (λ ss. length (labels_of_parts (parts_of ss))) put_alone,
          listed_atoms counts.checked tail.node (supply_labels given) (Tup (sorted_form tail.strict) (parts_of opens.added)) there,
          asked.within,
          is.small,
        )

    pub sorted_opens : (p : _) → Opens counts (listing_on counts.checked tail.node (supply_labels given)) (later.Sorted' p now, Tup (sorted_form tail.strict) (parts_of after))
    sorted_opens p = record {
      whole =
          node_listed ∙ ap (map (λ ss. Tup (sorted_form tail.strict) (parts_of ss))) from_start
          ∙ (λ i. Tup (sorted_form tail.strict) (parts_of (sym put_alone i))
          ∷ map (λ ss. Tup (sorted_form tail.strict) (parts_of ss)) (sorted_after counts.checked (sym same i) (as_told i)));
      stands = subst (λ (ss : List Structure). SortedStand counts now ss) as_told (subst (λ (l : LaterSorted). SortedStand counts l opens.added) (sym same) opens.stands);
    }

-- ---- sorted lists

-- no component stands in front of the first one
pub no_front : (checked : Checked) (element : ℕ) (before : List Structure) → before ≡ [] → IsFrontOf checked element before
no_front checked element before none = subst (IsFrontOf checked element) (sym none) tt

-- what is pushed stands in front of what comes
pub pushed_front : (before : List Structure) (s : Structure) → in_front (before ++ s ∷ []) ≡ Some s
pushed_front [] s = refl
pushed_front (x ∷ before) s =
    ap (λ (n : ℕ). slice_get (x ∷ (before ++ s ∷ [])) n) (let e : length (x ∷ (before ++ s ∷ [])) - 1 ≡ suc (length (before ++ s ∷ []) - 1) = omega (arith, length-append before (s ∷ [])) in e)
    ∙ pushed_front before s

module _ (counts : Counts) (is : IsCounted counts) (tail : SortedTail) (stands : IsSortedTail counts tail) where
  -- without atoms there is the empty list alone, where the bound admits it
  pub empty_opens : (from : Option Structure) (n : ℕ) (before : List Structure) → n ≡ 0 → admits tail.card 0 ≡ true
      → OpensSortedList counts (sorted_from counts.checked tail from n) before before sorted.Nothing
  empty_opens from n before none admitted = record {
    added = [];
    put = sym (append-nil before);
    whole =
        ap (sorted_from counts.checked tail from) none ∙ without_atoms counts is tail stands from
        ∙ ap (λ (b : Bool). if b then [] ∷ [] else []) admitted;
    stands = refl;
  }

  pub nothing_opens : (from : Option Structure) (n : ℕ) (before : List Structure) → n ≡ 0 → admits tail.card 0 ≡ false
      → OpensNothing (sorted_from counts.checked tail from n) before before
  nothing_opens from n before none refused = record {
    kept = refl;
    none =
        ap (sorted_from counts.checked tail from) none ∙ without_atoms counts is tail stands from
        ∙ ap (λ (b : Bool). if b then [] ∷ [] else []) refused;
  }

  pub none_admitted : (from : Option Structure) (n : ℕ) (before : List Structure) → 0 < n → admits_some tail.card ≡ false
      → OpensNothing (sorted_from counts.checked tail from n) before before
  none_admitted from n before some refused = record { kept = refl; none = no_component counts is tail stands from n some refused }

  -- where none comes of the size of the one in front, a greater one is opened
  pub greater_opens : (n d : ℕ) (before middle after : List Structure) (opened : Option LaterSorted) → d ≡ size_in_front middle
      → (middle ≡ before) × (sorted_from counts.checked tail (in_front before) n ≡ with_greater counts.checked (behind_one tail) (size_in_front before) n)
      → OpensSorted counts (with_greater counts.checked (behind_one tail) d n) middle after opened
      → OpensSorted counts (sorted_from counts.checked tail (in_front before) n) before after opened
  greater_opens n d before middle after opened size same opens = by opened opens
    where
      all_are : with_greater counts.checked (behind_one tail) d n ≡ sorted_from counts.checked tail (in_front before) n
      all_are =
          ap (λ (k : ℕ). with_greater counts.checked (behind_one tail) k n) (size ∙ ap size_in_front same.0)
          ∙ sym same.1

      by : (opened : Option LaterSorted) → OpensSorted counts (with_greater counts.checked (behind_one tail) d n) middle after opened
          → OpensSorted counts (sorted_from counts.checked tail (in_front before) n) before after opened
      by (Some opened) opens = record { added = opens.added; put = opens.put ∙ ap (λ ss. ss ++ opens.added) same.0; whole = sym all_are ∙ opens.whole; stands = opens.stands }
      by None opens = record { kept = opens.kept ∙ same.0; none = sym all_are ∙ opens.none }

  -- ---- a component of the size of the one in front

  module _ (n : ℕ) (some : 0 < n) (admitted : admits_some tail.card ≡ true) (before : List Structure) where
    -- none stands in front
    pub first_of_all : in_front before ≡ None
        → (before ≡ before) × (sorted_from counts.checked tail (in_front before) n ≡ with_greater counts.checked (behind_one tail) (size_in_front before) n)
    first_of_all none = (
      refl,
      ap (λ (from : Option Structure). sorted_from counts.checked tail from n) none ∙ from_none counts is tail stands n some admitted
          ∙ ap (λ (from : Option Structure). with_greater counts.checked (behind_one tail) (option_map_or size from 0) n) (sym none),
    )

    module _ (front : Structure) (at : in_front before ≡ Some front) (there : IsIn front (listing_on counts.checked tail.element (supply Unlabelled (size front)))) where
      abbrev behind_front : List Structure
      behind_front = following_at counts.checked tail.element tail.strict front (supply Unlabelled (size front))

      by_greater : sorted_from counts.checked tail (Some front) n ≡ with_greater counts.checked (behind_one tail) (size front) n
          → (before ≡ before) × (sorted_from counts.checked tail (in_front before) n ≡ with_greater counts.checked (behind_one tail) (size_in_front before) n)
      by_greater greater = (
        refl,
        ap (λ (from : Option Structure). sorted_from counts.checked tail from n) at ∙ greater
            ∙ ap (λ (from : Option Structure). with_greater counts.checked (behind_one tail) (option_map_or size from 0) n) (sym at),
      )

      -- it has more atoms than are left
      pub too_large : n < size front
          → (before ≡ before) × (sorted_from counts.checked tail (in_front before) n ≡ with_greater counts.checked (behind_one tail) (size_in_front before) n)
      too_large less = by_greater (past_front counts is tail stands n some admitted front there less)

      -- nothing goes on from any of its size
      nothing_there : size front ≤ n → going_on_from counts.checked (behind_one tail) behind_front (n - size front) ≡ []
          → (before ≡ before) × (sorted_from counts.checked tail (in_front before) n ≡ with_greater counts.checked (behind_one tail) (size_in_front before) n)
      nothing_there within none =
          by_greater (from_front counts is tail stands n some admitted front there within ∙ ap (λ (lists : List (List Structure)). lists ++ with_greater counts.checked (behind_one tail) (size front) n) none)

      pub cannot_go_on : size front ≤ n → ((s : Structure) → size front ≤ size s → sorted_from counts.checked (behind_one tail) (Some s) (n - size front) ≡ [])
          → (before ≡ before) × (sorted_from counts.checked tail (in_front before) n ≡ with_greater counts.checked (behind_one tail) (size_in_front before) n)
      cannot_go_on within none =
          nothing_there within (nothing_goes_on counts is (behind_one tail) (behind_stands counts is tail stands) behind_front (n - size front) (λ s inside.
          none s (omega (arith, atoms_of_size counts.checked tail.element (size front) s (from_filter _ s _ inside).0))))

      -- no component of its size follows
      pub none_follows : size front ≤ n → behind_front ≡ []
          → (before ≡ before) × (sorted_from counts.checked tail (in_front before) n ≡ with_greater counts.checked (behind_one tail) (size_in_front before) n)
      none_follows within none = nothing_there within (ap (λ (ss : List Structure). going_on_from counts.checked (behind_one tail) ss (n - size front)) none)

      -- the first that follows is opened
      pub follower_opens : (left : ℕ) (first : Later) (component : Structure) (after : List Structure) (opened : Option LaterSorted) → size front ≤ n → left ≡ n - size front
          → behind_front ≡ component ∷ structures_after counts.checked first component
          → OpensSortedOr counts (at_sorted_level counts.checked (record { behind = behind_one tail; taken = size front; left = left }) (component ∷ structures_after counts.checked first component))
          (with_greater counts.checked (behind_one tail) (size front) (size front + left)) before after opened
          → OpensSortedOr counts (sorted_from counts.checked tail (in_front before) n) (with_greater counts.checked (behind_one tail) (size_in_front before) n) before after opened
      follower_opens left first component after opened within rest follows opens =
          subst (λ (lists : List (List Structure)). OpensSortedOr counts lists (with_greater counts.checked (behind_one tail) (size_in_front before) n) before after opened) (sym lists_are)
          (subst (λ (lists : List (List Structure)). OpensSortedOr counts (at_sorted_level counts.checked (record { behind = behind_one tail; taken = size front; left = left }) (component ∷ structures_after counts.checked first component)) lists before after opened) others_are opens)
        where
          total : size front + left ≡ n
          total = omega (arith, within, rest)

          others_are : with_greater counts.checked (behind_one tail) (size front) (size front + left) ≡ with_greater counts.checked (behind_one tail) (size_in_front before) n
          others_are =
              ap (with_greater counts.checked (behind_one tail) (size front)) total
              ∙ ap (λ (from : Option Structure). with_greater counts.checked (behind_one tail) (option_map_or size from 0) n) (sym at)

          lists_are : sorted_from counts.checked tail (in_front before) n
              ≡ at_sorted_level counts.checked (record { behind = behind_one tail; taken = size front; left = left }) (component ∷ structures_after counts.checked first component)
          lists_are =
              ap (λ (from : Option Structure). sorted_from counts.checked tail from n) at
              ∙ from_front counts is tail stands n some admitted front there within
              ∙ (λ i. going_on_from counts.checked (behind_one tail) (follows i) (sym rest i) ++ with_greater counts.checked (behind_one tail) (size front) (sym total i))

      -- the same with what the code reads
      module _ (behind : SortedTail) (taken : ℕ) (stands_behind : behind ≡ behind_one tail) (has_size : taken ≡ size front) (within : taken ≤ n) where
        pub none_fills : ((s : Structure) → taken ≤ size s → sorted_from counts.checked behind (Some s) (n - taken) ≡ [])
            → (before ≡ before) × (sorted_from counts.checked tail (in_front before) n ≡ with_greater counts.checked (behind_one tail) (size_in_front before) n)
        none_fills none = cannot_go_on (omega (arith, within, has_size)) (λ s large.
            subst (λ (b : SortedTail). sorted_from counts.checked b (Some s) (n - size front) ≡ []) stands_behind
            (subst (λ (k : ℕ). sorted_from counts.checked behind (Some s) (n - k) ≡ []) has_size (none s (omega (arith, large, has_size)))))

        pub follower_level : (first : Later) (component : Structure) → n ≤ counts.size → OpensFollowing counts tail front (Some (first, component))
            → SortedLevelStands counts (record { behind = behind; taken = taken; left = n - taken }) first component
        follower_level first component small opens =
            subst (λ (b : SortedTail). SortedLevelStands counts (record { behind = b; taken = taken; left = n - taken }) first component) (sym stands_behind) (record {
              tail = behind_stands counts is tail stands;
              within = omega (arith, within, small);
              goes_on = subst (λ (k : ℕ). GoesOn counts (listing_on counts.checked tail.element (supply Unlabelled k)) first component) (sym has_size) opens.0.1;
            })

        pub follower_put : (first : Later) (component : Structure) (after : List Structure) (opened : Option LaterSorted) → OpensFollowing counts tail front (Some (first, component))
            → OpensSortedOr counts (at_sorted_level counts.checked (record { behind = behind; taken = taken; left = n - taken }) (component ∷ structures_after counts.checked first component))
            (with_greater counts.checked behind taken (taken + (n - taken))) before after opened
            → OpensSortedOr counts (sorted_from counts.checked tail (in_front before) n) (with_greater counts.checked (behind_one tail) (size_in_front before) n) before after opened
        follower_put first component after opened follows opens =
            follower_opens (n - taken) first component after opened (omega (arith, within, has_size)) (ap (λ (k : ℕ). n - k) has_size) follows.0.0
            (subst (λ (k : ℕ). OpensSortedOr counts (at_sorted_level counts.checked (record { behind = behind_one tail; taken = k; left = n - taken }) (component ∷ structures_after counts.checked first component))
            (with_greater counts.checked (behind_one tail) k (k + (n - taken))) before after opened) has_size
            (subst (λ (b : SortedTail). OpensSortedOr counts (at_sorted_level counts.checked (record { behind = b; taken = taken; left = n - taken }) (component ∷ structures_after counts.checked first component))
            (with_greater counts.checked b taken (taken + (n - taken))) before after opened) stands_behind opens))

  -- ---- the structures of its size that may follow the one in front

  module _ (front : Structure) (there : IsIn front (listing_on counts.checked tail.element (supply Unlabelled (size front)))) where
    abbrev of_its_size : List Structure
    of_its_size = listing_on counts.checked tail.element (supply Unlabelled (size front))

    -- in a PowerSet the one behind it
    pub behind_follows : (opened : Option (Later × Structure)) → tail.strict ≡ true → OpensBehind counts of_its_size front opened → OpensFollowing counts tail front opened
    behind_follows (Some opened) strict opens =
        let whole = opens.0.whole in (
          (
            ap (λ (b : Bool). following_at counts.checked tail.element b front (supply Unlabelled (size front))) strict
                ∙ sorted_nodes_are_listed.behind_itself counts.checked tail.element front (supply Unlabelled (size front)) opens.0.earlier (opened.1 ∷ structures_after counts.checked opened.0 opened.1) is.passed
                (contained counts is tail stands) (supplied counts is tail stands (size front)) whole,
            record {
              earlier = opens.0.earlier ++ front ∷ [];
              whole = whole ∙ sym (append_snoc opens.0.earlier front (opened.1 ∷ structures_after counts.checked opened.0 opened.1));
            },
          ),
          opens.1,
        )
    behind_follows None strict opens =
        ap (λ (b : Bool). following_at counts.checked tail.element b front (supply Unlabelled (size front))) strict
        ∙ sorted_nodes_are_listed.behind_itself counts.checked tail.element front (supply Unlabelled (size front)) opens.earlier [] is.passed
        (contained counts is tail stands) (supplied counts is tail stands (size front)) opens.whole

    -- in a Set the structure itself
    pub itself_follows : (first : Later) (copied : Structure) → tail.strict ≡ false → copied ≡ front → Resumes counts of_its_size front first → OpensFollowing counts tail front (Some (first, copied))
    itself_follows first copied strict same resumed =
        subst (λ (s : Structure). OpensFollowing counts tail front (Some (first, s))) (sym same) (
          (
            ap (λ (b : Bool). following_at counts.checked tail.element b front (supply Unlabelled (size front))) strict
                ∙ sorted_nodes_are_listed.from_itself counts.checked tail.element front (supply Unlabelled (size front)) resumed.0.earlier (structures_after counts.checked first front) is.passed
                (contained counts is tail stands) (supplied counts is tail stands (size front)) resumed.0.whole,
            resumed.0,
          ),
          resumed.1,
        )

-- ---- a level

module _ (counts : Counts) (is : IsCounted counts) (level : SortedLevel) (first : Later) (component : Structure) (stands : SortedLevelStands counts level first component)
    (inside : Stands counts first component) (before pushed : List Structure) (push : pushed ≡ before ++ component ∷ []) where
  component_there : IsIn component (listing_on counts.checked level.behind.element (supply Unlabelled level.taken))
  component_there =
      subst (IsIn component) (sym stands.goes_on.whole) (in_right component stands.goes_on.earlier (component ∷ structures_after counts.checked first component) (inl refl))

  -- the component has the size of the level
  pub component_size : size component ≡ level.taken
  component_size = atoms_of_size counts.checked level.behind.element level.taken component component_there

  now_front : in_front pushed ≡ Some component
  now_front = ap in_front push ∙ pushed_front before component

  -- it stands in front of the others
  pub component_front : IsFrontOf counts.checked level.behind.element pushed
  component_front =
      subst (λ (o : Option Structure). IfSome o (λ s. IsIn s (listing_on counts.checked level.behind.element (supply Unlabelled (size s))))) (sym now_front)
      (subst (λ (n : ℕ). IsIn component (listing_on counts.checked level.behind.element (supply Unlabelled n))) (sym component_size) component_there)

  pub component_some : 0 < level.taken
  component_some =
      omega (
        arith,
        component_size,
        none_empty counts is level.behind stands.tail component
            (subst (λ (n : ℕ). IsIn component (listing_on counts.checked level.behind.element (supply Unlabelled n))) (sym component_size) component_there),
      )

  -- the others are opened behind it
  pub first_opens : (after : List Structure) (opened now : LaterSorted) (p : _) → now ≡ opened
      → OpensSortedList counts (sorted_from counts.checked level.behind (in_front pushed) level.left) pushed after opened
      → OpensSortedList counts (at_sorted_level counts.checked level (component ∷ structures_after counts.checked first component)) before after (sorted.Level' level first p now)
  first_opens after opened now p same opens = record {
    added = component ∷ opens.added;
    put = opens.put ∙ ap (λ ss. ss ++ opens.added) push ∙ append_snoc before component opens.added;
    whole =
        first_sorted counts level first now component opens.added
        (ap (λ (from : Option Structure). sorted_from counts.checked level.behind from level.left) (sym now_front) ∙ opens.whole
        ∙ ap (λ (l : LaterSorted). opens.added ∷ sorted_after counts.checked l opens.added) (sym same));
    stands = (stands, (inside, subst (λ (l : LaterSorted). SortedStand counts l opens.added) (sym same) opens.stands));
  }

  -- or nothing goes on from it, and so from none of its size that comes later
  pub first_fails : (middle popped : List Structure) (s : Structure) → OpensNothing (sorted_from counts.checked level.behind (in_front pushed) level.left) pushed middle
      → middle ≡ popped ++ s ∷ []
      → (popped ≡ before)
      × (at_sorted_level counts.checked level (component ∷ structures_after counts.checked first component) ≡ with_greater counts.checked level.behind level.taken (level.taken + level.left))
  first_fails middle popped s nothing taken = (
    (last_same popped before s component (sym taken ∙ nothing.kept ∙ push)).0,
    ap (λ (lists : List (List Structure)). lists ++ with_greater counts.checked level.behind level.taken (level.taken + level.left))
        (dead_end counts is level.behind stands.tail level.taken level.left stands.goes_on.earlier component (structures_after counts.checked first component) stands.goes_on.whole
        (ap (λ (from : Option Structure). sorted_from counts.checked level.behind from level.left) (sym now_front) ∙ nothing.none)),
  )

  -- where the code takes it off again
  pub none_behind : (middle left : List Structure) (popped : Option Structure) → OpensNothing (sorted_from counts.checked level.behind (in_front pushed) level.left) pushed middle
      → IfSome popped (λ s. middle ≡ left ++ s ∷ []) → IfNone popped (middle ≡ [])
      → (left ≡ before)
      × (at_sorted_level counts.checked level (component ∷ structures_after counts.checked first component) ≡ with_greater counts.checked level.behind level.taken (level.taken + level.left))
  none_behind middle left (Some s) nothing some none = first_fails middle left s nothing some
  none_behind middle left None nothing some none =
      let long : length (before ++ component ∷ []) ≡ 0 = ap length (sym push ∙ sym nothing.kept ∙ none) in
      absurd (omega (arith, long, length-append before (component ∷ [])))

-- a supply of so many zeros
pub zeros_asked : (counts : Counts) (n : ℕ) → counts.checked.universe ≡ Unlabelled → n ≤ counts.size → IsAsked counts (Zeros n)
zeros_asked counts n universe within = record { in_order = refl; universe = sym universe; within = omega (arith, within, supply_size Unlabelled n) }

-- ---- size by size

module _ (counts : Counts) (behind : SortedTail) (d n : ℕ) (before middle : List Structure) (below : ℕ) (same : middle ≡ before)
    (passed : with_greater counts.checked behind d n ≡ with_greater counts.checked behind below n) where
  -- no size is left
  pub sizes_end : n ≤ below → OpensNothing (with_greater counts.checked behind d n) before middle
  sizes_end past = record {
    kept = same;
    none =
        passed
        ∙ ap (λ (m : ℕ). flat_map (λ k. going_on_from counts.checked behind (listing_on counts.checked behind.element (supply Unlabelled k)) (n - k)) (range_with_len (below + 1) m))
        (let e : n - below ≡ 0 = omega arith in e);
  }

  module _ (less : below < n) where
    from_below : with_greater counts.checked behind (below + 1 - 1) (below + 1 + (n - below - 1)) ≡ with_greater counts.checked behind below n
    from_below = λ i. with_greater counts.checked behind (back i) (total i)
      where
        back : below + 1 - 1 ≡ below
        back = omega arith

        total : below + 1 + (n - below - 1) ≡ n
        total = omega arith

    -- one of the next size is opened
    pub size_found : (after : List Structure) (opened : LaterSorted) → OpensSortedList counts (with_greater counts.checked behind (below + 1 - 1) (below + 1 + (n - below - 1))) middle after opened
        → OpensSortedList counts (with_greater counts.checked behind d n) before after opened
    size_found after opened opens = record {
      added = opens.added;
      put = opens.put ∙ ap (λ ss. ss ++ opens.added) same;
      whole = passed ∙ sym from_below ∙ opens.whole;
      stands = opens.stands;
    }

    -- or the size is left
    pub size_left : (after : List Structure)
        → (after ≡ middle)
        × (with_greater counts.checked behind (below + 1 - 1) (below + 1 + (n - below - 1)) ≡ with_greater counts.checked behind (below + 1) (below + 1 + (n - below - 1)))
        → (after ≡ before) × (with_greater counts.checked behind d n ≡ with_greater counts.checked behind (below + 1) n)
    size_left after none = (
      none.0 ∙ same,
      passed ∙ sym from_below ∙ none.1 ∙ ap (with_greater counts.checked behind (below + 1)) (let e : below + 1 + (n - below - 1) ≡ n = omega arith in e),
    )

module _ (counts : Counts) (is : IsCounted counts) (level : SortedLevel) (behind : IsSortedTail counts level.behind) (some : 0 < level.taken) where
  by_level : with_greater counts.checked level.behind (level.taken - 1) (level.taken + level.left)
      ≡ at_sorted_level counts.checked level (listing_on counts.checked level.behind.element (supply Unlabelled level.taken))
  by_level =
      next_size counts is level.behind behind level.taken (level.taken + level.left) some (omega arith)
      ∙ ap (λ (n : ℕ). going_on_from counts.checked level.behind (listing_on counts.checked level.behind.element (supply Unlabelled level.taken)) n
      ++ with_greater counts.checked level.behind level.taken (level.taken + level.left)) (let e : level.taken + level.left - level.taken ≡ level.left = omega arith in e)

  nothing_here : (before : List Structure) → going_on_from counts.checked level.behind (listing_on counts.checked level.behind.element (supply Unlabelled level.taken)) level.left ≡ []
      → (before ≡ before)
      × (with_greater counts.checked level.behind (level.taken - 1) (level.taken + level.left) ≡ with_greater counts.checked level.behind level.taken (level.taken + level.left))
  nothing_here before none = (
    refl,
    by_level ∙ ap (λ (lists : List (List Structure)). lists ++ with_greater counts.checked level.behind level.taken (level.taken + level.left)) none,
  )

  -- no component of the size is gone on from
  pub size_fails : (before : List Structure) → ((s : Structure) → level.taken ≤ size s → sorted_from counts.checked level.behind (Some s) level.left ≡ [])
      → (before ≡ before)
      × (with_greater counts.checked level.behind (level.taken - 1) (level.taken + level.left) ≡ with_greater counts.checked level.behind level.taken (level.taken + level.left))
  size_fails before none =
      nothing_here before (nothing_goes_on counts is level.behind behind (listing_on counts.checked level.behind.element (supply Unlabelled level.taken)) level.left (λ s inside.
      none s (omega (arith, atoms_of_size counts.checked level.behind.element level.taken s inside))))

  -- there is no component of the size
  pub size_empty : (before : List Structure) → number_of_node counts.checked level.behind.element level.taken ≡ 0
      → (before ≡ before)
      × (with_greater counts.checked level.behind (level.taken - 1) (level.taken + level.left) ≡ with_greater counts.checked level.behind level.taken (level.taken + level.left))
  size_empty before none =
      nothing_here before (ap (λ (ss : List Structure). going_on_from counts.checked level.behind ss level.left)
      (no_structures counts.checked is.passed level.behind.element (supply Unlabelled level.taken) (supplied counts is level.behind behind level.taken)
      (ap (number_of_node counts.checked level.behind.element) (supply_size Unlabelled level.taken) ∙ none)))

  -- the first one is opened
  pub size_opens : (before after : List Structure) (first : Later) (component : Structure) (opened : Option LaterSorted)
      → listing_on counts.checked level.behind.element (supply Unlabelled level.taken) ≡ component ∷ structures_after counts.checked first component
      → OpensSortedOr counts (at_sorted_level counts.checked level (component ∷ structures_after counts.checked first component))
      (with_greater counts.checked level.behind level.taken (level.taken + level.left)) before after opened
      → OpensSortedOr counts (with_greater counts.checked level.behind (level.taken - 1) (level.taken + level.left))
      (with_greater counts.checked level.behind level.taken (level.taken + level.left)) before after opened
  size_opens before after first component opened all opens =
      subst (λ (lists : List (List Structure)). OpensSortedOr counts lists (with_greater counts.checked level.behind level.taken (level.taken + level.left)) before after opened)
      (sym (by_level ∙ ap (at_sorted_level counts.checked level) all)) opens
