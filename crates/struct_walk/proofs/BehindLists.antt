-- What comes next behind a list of components without labels.
use Rattle.std.proofs.Common.{◌≡◌, ℕ, ◌+◌, ◌-◌, ◌≤◌, ◌<◌, ◌^◌, true, Bool, List, [], ◌∷◌, ◌++◌, map, flat_map, length, slice_get, Option, Some, None, refl, sym, ap, ◌∙◌, subst, inl, inr, arith, filter}
use Rattle.spec_syntax.specs.Expression as expr
use Rattle.spec_syntax.specs.declared.expr.Kind.TheVariants as kind
use Rattle.spec_syntax.specs.declared.statement.Universe.TheVariants.{Labelled, Unlabelled}
use Rattle.spec_syntax.specs.Nodes.{node_at, children_at}
use Rattle.well_founded.specs.Checked.{IsChecked, Checked}
use Rattle.well_founded.specs.declared.node.NodeKind.TheVariants as told
use Rattle.splits.specs.Parts.{has_admitted, comes_before, parts_of as parts_with, after, IsPart}
use Rattle.splits.proofs.SplitSupplies.{split_length}
use Rattle.lists.proofs.Enumerated.{from_filter, from_map}
use Rattle.listing_laws.specs.NodeListing.{HasKind, listing_on, number_of_node}
use Rattle.listing_laws.proofs.KindLemmas.{many_is}
use Rattle.listing_laws.proofs.NodeLemmas.{kind_at, children_at_is}
use Rattle.struct_walk.specs.Stands.{CanOpen, IsAsked, IsCut, LevelStands, ListsStand}
use Rattle.struct_walk.proofs.TailListings.{cycle_labelled}
use Rattle.std.specs.Prelude.{IfSome, IfNone, IsTrue}
use Rattle.std.proofs.lemmas.List.{append_assoc, append-nil, length-map}
use Rattle.std.proofs.lemmas.Grind.{flat_map-append}
use Rattle.std.proofs.Math.Seq.{append_snoc}
use Rattle.lists.specs.Enumeration.{IsIn}
use Rattle.lists.proofs.Within.{in_right}
use Rattle.struct_model.specs.declared.tree.Form5.{Form5}
use Rattle.struct_model.specs.declared.tree.Shape.{Shape}
use Rattle.struct_model.specs.declared.tree.Shape.TheVariants as shape
use Rattle.struct_model.specs.StructureView.{structure_of}
use Rattle.struct_model.specs.Structure.{Structure, Structures, Tup, size, key, part_list, parts_of, labels_of_parts}
use Rattle.struct_model.specs.Membership.{supply as labels_of_size, is_supply}
use Rattle.struct_model.specs.declared.supplies.Supply.{Supply}
use Rattle.struct_model.specs.declared.supplies.Supply.TheVariants.{Zeros}
use Rattle.struct_model.specs.SupplyView.{supply_labels}
use Rattle.struct_model.proofs.SupplyLaws.{supply_size}
use Rattle.splits.specs.Splits.{Split, splits}
use Rattle.splits.specs.WalkView.{split_into}
use Rattle.splits.proofs.ZeroParts.{zeros_split}
use Rattle.listing_laws.specs.Lister.{each_before}
use Rattle.listing_laws.proofs.Components.{list_back}
use Rattle.size_counts.specs.CountedView.{Counts, IsCounted, IsReachedIn}
use Rattle.struct_walk.specs.declared.tail.Tail.{Tail}
use Rattle.struct_walk.specs.declared.tail.Cut.{Cut}
use Rattle.struct_walk.specs.declared.later.Later as later
use Rattle.struct_walk.specs.declared.later.Later.{Later}
use Rattle.struct_walk.specs.declared.later.LaterLists as lists
use Rattle.struct_walk.specs.declared.later.LaterLists.{LaterLists}
use Rattle.struct_walk.specs.declared.later.Level.{Level}
use Rattle.struct_walk.specs.Tails.{IsTail, tail_on, tail_number, on_splits, cut_of, is_end, open_lengths, first_splits, first_parts}
use Rattle.struct_walk.specs.After.{structures_after, lists_after}
use Rattle.struct_walk.specs.Opened.{Resumes, OpensLists, OpensParts, OpensNothing, OpensAny, OpensBehind, OpensBehindList, OpensBehindSplit, OpensOnSplit, level_from}
use Rattle.struct_walk.proofs.Measures.{node_measure, lists_measure, split_measure, lists_down}
use Rattle.struct_walk.proofs.TailLemmas.{listing_number, tail_length, tail_end, end_number, lists_size}
use Rattle.struct_walk.proofs.OpenLemmas.{asked_supply, last_whole, last_down}
use Rattle.struct_walk.proofs.StepParts.{last_same}
use Rattle.struct_walk.proofs.PartLabels.{zeros_key}
use Rattle.struct_walk.proofs.ResumedLists.{components_in, cut_stands, some_component, by_splits, last_there, none_behind, key_supplied, part_total, same_part, part_there, part_admitted, first_there, first_asked, rest_there, among, level_stands}
use Rattle.struct_walk.proofs.BehindNodes.{lone, map_cut, within_front, one_there, zeros_asked}
use Rattle.struct_walk.specs.declared.tail.Tail.TheVariants.{Components, Elements, SetElements, CycleElements}

-- ---- components in their form

module _ (counts : Counts) (form other : Form5) (all : List (List Structure)) (parts : List Structure) (whole : Structure) (told : Tup other (parts_of parts) ≡ whole)
    (there : IsIn whole (map (λ ss. Tup form (parts_of ss)) all)) where
  parts_in : IsIn parts all × (other ≡ form)
  parts_in = components_in form other all parts whole told there

  whole_is : Tup form (parts_of parts) ≡ whole
  whole_is = ap (λ (f : Form5). Tup f (parts_of parts)) (sym parts_in.1) ∙ told

  pub parts_there : IsIn parts all
  parts_there = parts_in.0

  module _ (before after : List Structure) (none : before ≡ []) where
    pub components_behind : (opened now : LaterLists) (p : _) → now ≡ opened → OpensBehindList counts all parts before after (Some opened)
        → OpensBehind counts (map (λ ss. Tup form (parts_of ss)) all) whole (Some (later.Components' p now, Tup form (parts_of after)))
    components_behind opened now p same behind =
        let opens : OpensLists counts behind.next before after opened = behind.opens in
        let put : after ≡ opens.added = opens.put ∙ ap (λ ss. ss ++ opens.added) none in
        let as_told : opens.added ≡ part_list (parts_of after) = sym put ∙ sym (list_back after) in (
          record {
            earlier = map (λ ss. Tup form (parts_of ss)) behind.earlier;
            whole =
                map_cut (λ ss. Tup form (parts_of ss)) all behind.earlier parts (opens.added ∷ lists_after counts.checked opened opens.added) (behind.whole ∙ ap (λ next. behind.earlier ++ parts ∷ next) opens.whole)
                ∙ (λ i. map (λ ss. Tup form (parts_of ss)) behind.earlier
                ++ whole_is i ∷ Tup form (parts_of (sym put i)) ∷ map (λ ss. Tup form (parts_of ss)) (lists_after counts.checked (sym same i) (as_told i)));
          },
          subst (λ (ss : List Structure). ListsStand counts now ss) as_told (subst (λ (l : LaterLists). ListsStand counts l opens.added) (sym same) opens.stands),
        )

    pub no_components_behind : OpensBehindList counts all parts before after None → OpensBehind counts (map (λ ss. Tup form (parts_of ss)) all) whole None
    no_components_behind behind =
        let opens : OpensNothing behind.next before after = behind.opens in record {
          earlier = map (λ ss. Tup form (parts_of ss)) behind.earlier;
          whole =
              map_cut (λ ss. Tup form (parts_of ss)) all behind.earlier parts [] (behind.whole ∙ ap (λ next. behind.earlier ++ parts ∷ next) opens.none)
              ∙ ap (λ t. map (λ ss. Tup form (parts_of ss)) behind.earlier ++ t ∷ []) whole_is;
        }

    -- what was put there is one of the lists
    pub put_there : (opened : LaterLists) → OpensBehindList counts all parts before after (Some opened) → IsIn after all
    put_there opened behind =
        let opens : OpensLists counts behind.next before after opened = behind.opens in
        let put : after ≡ opens.added = opens.put ∙ ap (λ ss. ss ++ opens.added) none in
        subst (λ (ss : List Structure). IsIn ss all) (sym put) (subst (λ (sss : List (List Structure)). IsIn opens.added sss) (sym (behind.whole ∙ ap (λ next. behind.earlier ++ parts ∷ next) opens.whole))
        (in_right opens.added behind.earlier (parts ∷ opens.added ∷ lists_after counts.checked opened opens.added) (inr (inl refl))))

-- ---- the last component

pub last_behind : (counts : Counts) (all : List Structure) (c t : Structure) (later : Later) (before after : List Structure) → OpensBehind counts all c (Some (later, t)) → after ≡ before ++ t ∷ []
    → OpensBehindList counts (map (λ s. s ∷ []) all) (c ∷ []) before after (Some (lists.Last later))
last_behind counts all c t later before after behind put = record {
  earlier = map (λ s. s ∷ []) behind.0.earlier;
  next = (t ∷ []) ∷ map (λ s. s ∷ []) (structures_after counts.checked later t);
  whole = map_cut (λ s. s ∷ []) all behind.0.earlier c (t ∷ structures_after counts.checked later t) behind.0.whole;
  opens = record { added = t ∷ []; put = put; whole = refl; stands = (behind.1, refl) };
}

pub none_behind_last : (counts : Counts) (all : List Structure) (c : Structure) (before : List Structure) → OpensBehind counts all c None
    → OpensBehindList counts (map (λ s. s ∷ []) all) (c ∷ []) before before None
none_behind_last counts all c before none = record {
  earlier = map (λ s. s ∷ []) none.earlier;
  next = [];
  whole = map_cut (λ s. s ∷ []) all none.earlier c [] none.whole;
  opens = record { kept = refl; none = refl };
}

-- ---- one split

each_before_cut : (firsts earlier next : List Structure) (others earlier_others next_others : List (List Structure)) (c : Structure) (more : List Structure)
    → firsts ≡ earlier ++ c ∷ next → others ≡ earlier_others ++ more ∷ next_others
    → each_before firsts others ≡ (each_before earlier others ++ map (λ ts. c ∷ ts) earlier_others) ++ (c ∷ more) ∷ (map (λ ts. c ∷ ts) next_others ++ each_before next others)
each_before_cut firsts earlier next others earlier_others next_others c more first other =
    ap (λ fs. each_before fs others) first
    ∙ flat_map-append (λ (s : Structure). map (λ ts. s ∷ ts) others) earlier (c ∷ next)
    ∙ ap (λ lists. each_before earlier others ++ (lists ++ each_before next others)) (map_cut (λ ts. c ∷ ts) others earlier_others more next_others other)
    ∙ within_front (each_before earlier others) (map (λ ts. c ∷ ts) earlier_others) (c ∷ more) (map (λ ts. c ∷ ts) next_others) (each_before next others)

-- what is left where the last one is taken off again
pub taken_off : (before now : List Structure) (c : Structure) (popped : Option Structure) → IfSome popped (λ item. before ++ c ∷ [] ≡ now ++ item ∷ []) → IfNone popped (before ++ c ∷ [] ≡ []) → now ≡ before
taken_off before now c (Some item) some none = sym ((last_same before now c item some).0)
taken_off before now c None some none = absurd (no_list before none)
  where
    no_list : (xs : List Structure) → xs ++ c ∷ [] ≡ [] → ⊥
    no_list [] is = cc
    no_list (x ∷ xs) is = cc

module _ (counts : Counts) (firsts : List Structure) (others : List (List Structure)) (ss : List Structure) (c : Structure) (more : List Structure) (cuts_off : ss ≡ c ∷ more)
    (before pushed : List Structure) (put : pushed ≡ before ++ c ∷ []) where
  -- the same component, and those that come next behind it
  pub others_found : (first : Later) (later : LaterLists) (after : List Structure) → Resumes counts firsts c first → OpensBehindList counts others more pushed after (Some later)
      → OpensBehindSplit counts firsts others ss before after (Some (first, later))
  others_found first later after resumes behind =
      let opens : OpensLists counts behind.next pushed after later = behind.opens in record {
        earlier = each_before resumes.0.earlier others ++ map (λ ts. c ∷ ts) behind.earlier;
        next = map (λ ts. c ∷ ts) behind.next ++ each_before (structures_after counts.checked first c) others;
        whole =
            each_before_cut firsts resumes.0.earlier (structures_after counts.checked first c) others behind.earlier behind.next c more resumes.0.whole behind.whole
            ∙ ap (λ list. (each_before resumes.0.earlier others ++ map (λ ts. c ∷ ts) behind.earlier) ++ list ∷ (map (λ ts. c ∷ ts) behind.next ++ each_before (structures_after counts.checked first c) others)) (sym cuts_off);
        opens = record {
          first = c;
          added = opens.added;
          put = opens.put ∙ ap (λ front. front ++ opens.added) put ∙ append_snoc before c opens.added;
          whole = ap (λ lists. map (λ ts. c ∷ ts) lists ++ each_before (structures_after counts.checked first c) others) opens.whole;
          first_stands = resumes.1;
          others_stand = opens.stands;
        };
      }

  module _ (mid popped : List Structure) (off : popped ≡ before) (none : OpensBehindList counts others more pushed mid None) where
    no_others : none.next ≡ []
    no_others = let opens : OpensNothing none.next pushed mid = none.opens in opens.none

    cut_at : (earlier next : List Structure) → firsts ≡ earlier ++ c ∷ next
        → each_before firsts others ≡ (each_before earlier others ++ map (λ ts. c ∷ ts) none.earlier) ++ ss ∷ each_before next others
    cut_at earlier next whole =
        each_before_cut firsts earlier next others none.earlier none.next c more whole none.whole
        ∙ (λ i. (each_before earlier others ++ map (λ ts. c ∷ ts) none.earlier) ++ sym cuts_off i ∷ (map (λ ts. c ∷ ts) (no_others i) ++ each_before next others))

    -- the component that comes next, and the first of the others
    pub first_found : (first : Later) (next : Structure) (later : LaterLists) (again after : List Structure) → OpensBehind counts firsts c (Some (first, next)) → again ≡ popped ++ next ∷ []
        → OpensLists counts others again after later → OpensBehindSplit counts firsts others ss before after (Some (first, later))
    first_found first next later again after behind new opens = record {
      earlier = each_before behind.0.earlier others ++ map (λ ts. c ∷ ts) none.earlier;
      next = each_before (next ∷ structures_after counts.checked first next) others;
      whole = cut_at behind.0.earlier (next ∷ structures_after counts.checked first next) behind.0.whole;
      opens = record {
        first = next;
        added = opens.added;
        put = opens.put ∙ (λ i. (new ∙ ap (λ front. front ++ next ∷ []) off) i ++ opens.added) ∙ append_snoc before next opens.added;
        whole = ap (λ lists. map (λ ts. next ∷ ts) lists ++ each_before (structures_after counts.checked first next) others) opens.whole;
        first_stands = behind.1;
        others_stand = opens.stands;
      };
    }

    -- or none
    pub none_found : OpensBehind counts firsts c None → OpensBehindSplit counts firsts others ss before popped None
    none_found behind = record {
      earlier = each_before behind.earlier others ++ map (λ ts. c ∷ ts) none.earlier;
      next = [];
      whole = cut_at behind.earlier [] behind.whole;
      opens = record { kept = off; none = refl };
    }

-- the code takes it off again where nothing else was put
pub popped_off : (before pushed mid popped : List Structure) (c : Structure) (last : Option Structure) → pushed ≡ before ++ c ∷ [] → mid ≡ pushed
    → IfSome last (λ item. mid ≡ popped ++ item ∷ []) → IfNone last (mid ≡ []) → popped ≡ before
popped_off before pushed mid popped c last put kept some none =
    taken_off before popped c last (subst (λ (ss : List Structure). IfSome last (λ item. ss ≡ popped ++ item ∷ [])) (kept ∙ put) some)
    (subst (λ (ss : List Structure). IfNone last (ss ≡ [])) (kept ∙ put) none)

pub kept_there : (counts : Counts) (all : List (List Structure)) (ss before after : List Structure) → OpensBehindList counts all ss before after None → after ≡ before
kept_there counts all ss before after behind = let opens : OpensNothing behind.next before after = behind.opens in opens.kept

-- ---- lists of components

-- without labels the first component may have any of the atoms
plain_splits : (counts : Counts) (tail : Tail) (u : List ℕ) → IsTail counts tail → counts.checked.universe ≡ Unlabelled → first_splits tail u ≡ splits u
plain_splits counts (Components node place) u stands unlabelled = refl
plain_splits counts (Elements node element card) u stands unlabelled = refl
plain_splits counts (SetElements node element card) u stands unlabelled = let e : Labelled ≡ Unlabelled = sym stands.labelled ∙ unlabelled in absurd (cc)
plain_splits counts (CycleElements node element card) u stands unlabelled = let e : Labelled ≡ Unlabelled = sym stands.labelled ∙ unlabelled in absurd (cc)

module _ (counts : Counts) (is : IsCounted counts) (unlabelled : counts.checked.universe ≡ Unlabelled) (tail : Tail) (n : ℕ) (stands : IsTail counts tail) (within : n ≤ counts.size)
    (ss : List Structure) (one : IsIn ss (tail_on counts.checked tail (labels_of_size Unlabelled n))) where
  asked : IsAsked counts (Zeros n)
  asked = zeros_asked counts n unlabelled within

  supplied : is_supply counts.checked.universe (labels_of_size Unlabelled n) ≡ true
  supplied = asked_supply counts (Zeros n) asked

  long : n ≡ length (labels_of_size Unlabelled n)
  long = sym (supply_size Unlabelled n)

  some : 0 < length (tail_on counts.checked tail (labels_of_size Unlabelled n))
  some = one_there ss (tail_on counts.checked tail (labels_of_size Unlabelled n)) one

  some_lists : 0 < tail_number counts.checked tail n
  some_lists =
      subst (λ (m : ℕ). 0 < tail_number counts.checked tail m) (sym long)
      (subst (λ (m : ℕ). 0 < m) (tail_length counts is tail (labels_of_size Unlabelled n) stands supplied) some)

  plain : (lengths : List Bool) → first_parts tail lengths (labels_of_size Unlabelled n) ≡ parts_with lengths (labels_of_size Unlabelled n)
  plain lengths = ap (filter (has_admitted lengths)) (plain_splits counts tail (labels_of_size Unlabelled n) stands unlabelled)

  -- each has so many atoms
  pub list_few : (list : List Structure) → IsIn list (tail_on counts.checked tail (labels_of_size Unlabelled n)) → length (labels_of_parts (parts_of list)) < 2 ^ 32
  list_few list there =
      let few : length (labels_of_parts (parts_of list)) ≡ length (labels_of_size Unlabelled n) = lists_size counts is tail (labels_of_size Unlabelled n) list stands supplied there in
      omega (arith, few, long, within, is.small)

  -- where no list has a component, there is one alone
  pub end_behind : cut_of counts.checked tail n ≡ None → (before : List Structure) → OpensBehindList counts (tail_on counts.checked tail (labels_of_size Unlabelled n)) ss before before None
  end_behind none before =
      let only = tail_end counts is tail (labels_of_size Unlabelled n) stands supplied (ap (cut_of counts.checked tail) (sym long) ∙ none) some in record {
        earlier = [];
        next = [];
        whole = lone ss (tail_on counts.checked tail (labels_of_size Unlabelled n)) (omega (arith, ap length only)) one;
        opens = record { kept = refl; none = refl };
      }

  module _ (cut : Cut) (cut_here : cut_of counts.checked tail n ≡ Some cut) where
    cuts : cut_of counts.checked tail (length (supply_labels (Zeros n))) ≡ Some cut
    cuts = ap (cut_of counts.checked tail) (sym long) ∙ cut_here

    pub cut_is_there : IsCut counts cut
    cut_is_there = cut_stands counts is tail (Zeros n) stands asked ss one cut cuts

    pub a_component : 0 < length ss
    a_component = some_component counts is tail (Zeros n) stands asked ss one cut cuts

    module _ (c : Structure) (more : List Structure) (cuts_off : ss ≡ c ∷ more) where
      -- ---- the last component

      module _ (ends : is_end counts.checked cut.behind ≡ true) where
        pub last_one : IsIn c (listing_on counts.checked cut.first (labels_of_size Unlabelled n))
        last_one = last_there counts is tail (Zeros n) stands asked ss one cut cuts c more cuts_off ends

        pub last_falls : node_measure counts.checked cut.first n + 1 < lists_measure counts.checked tail n
        last_falls =
            subst (λ (m : ℕ). node_measure counts.checked cut.first m + 1 < lists_measure counts.checked tail m) (sym long)
            (last_down counts is tail (Zeros n) stands asked some cut cuts ends)

        pub behind_lone : (before after : List Structure) (opened : Option LaterLists)
            → OpensBehindList counts (map (λ s. s ∷ []) (listing_on counts.checked cut.first (labels_of_size Unlabelled n))) (c ∷ []) before after opened
            → OpensBehindList counts (tail_on counts.checked tail (labels_of_size Unlabelled n)) ss before after opened
        behind_lone before after opened behind = record {
          earlier = behind.earlier;
          next = behind.next;
          whole =
              sym (last_whole counts is tail (Zeros n) stands asked some cut cuts ends)
              ∙ behind.whole
              ∙ ap (λ list. behind.earlier ++ list ∷ behind.next) (sym (cuts_off ∙ ap (λ ts. c ∷ ts) (none_behind counts is tail (Zeros n) stands asked ss one cut cuts c more cuts_off ends)));
          opens = behind.opens;
        }

      -- ---- a component before others

      module _ (taken : ℕ) (taken_is : taken ≡ size c) where
        labels_are : supply_labels (Zeros taken) ≡ key c
        labels_are = ap (labels_of_size Unlabelled) taken_is ∙ zeros_key (Zeros n) c (key_supplied counts is tail (Zeros n) stands asked ss one cut cuts c more cuts_off) n refl

        pub taken_within : taken ≤ n
        taken_within =
            omega (
              arith,
              part_total counts is tail (Zeros n) stands asked ss one cut cuts c more cuts_off (Zeros taken) labels_are,
              ap length (same_part counts is tail (Zeros n) stands asked ss one cut cuts c more cuts_off (Zeros taken) labels_are),
              supply_size Unlabelled taken,
              long,
            )

        remains : IsIn (split_into (Zeros taken) (Zeros (n - taken))) (splits (supply_labels (Zeros n)))
        remains = zeros_split taken (n - taken) n (omega (arith, taken_within))

        pub part_there_too : IsPart (labels_of_size Unlabelled taken) (parts_with (open_lengths counts.checked cut n) (labels_of_size Unlabelled n))
        part_there_too =
            subst (IsPart (labels_of_size Unlabelled taken)) (plain (open_lengths counts.checked cut n))
            (part_admitted counts is tail (Zeros n) stands asked ss one cut cuts c more cuts_off (Zeros taken) labels_are n (open_lengths counts.checked cut n) long refl)

        pub first_in : IsIn c (listing_on counts.checked cut.first (labels_of_size Unlabelled taken))
        first_in = first_there counts is tail (Zeros n) stands asked ss one cut cuts c more cuts_off (Zeros taken) labels_are

        pub others_in : IsIn more (tail_on counts.checked cut.behind (labels_of_size Unlabelled (n - taken)))
        others_in = rest_there counts is tail (Zeros n) stands asked ss one cut cuts c more cuts_off (Zeros taken) labels_are (Zeros (n - taken)) remains

        pub split_falls : split_measure counts.checked cut taken (n - taken) < lists_measure counts.checked tail n
        split_falls =
            lists_down counts is tail n taken (n - taken) cut stands cut_here (omega (arith, taken_within)) (omega (arith, within, is.small)) some_lists
            (subst (λ (m : ℕ). 0 < number_of_node counts.checked cut.first m) (supply_size Unlabelled taken)
            (subst (λ (m : ℕ). 0 < m) (listing_number counts.checked is.passed cut.first (labels_of_size Unlabelled taken) (asked_supply counts (Zeros taken) (zeros_asked counts taken unlabelled (omega (arith, taken_within, within)))))
            (one_there c (listing_on counts.checked cut.first (labels_of_size Unlabelled taken)) first_in)))
            (subst (λ (m : ℕ). 0 < tail_number counts.checked cut.behind m) (supply_size Unlabelled (n - taken))
            (subst (λ (m : ℕ). 0 < m) (tail_length counts is cut.behind (labels_of_size Unlabelled (n - taken)) cut_is_there.behind (asked_supply counts (Zeros (n - taken)) (zeros_asked counts (n - taken) unlabelled (omega (arith, within)))))
            (one_there more (tail_on counts.checked cut.behind (labels_of_size Unlabelled (n - taken))) others_in)))

        -- where it stands
        abbrev level : Level
        level = level_from counts.checked cut n taken

        pub level_there : LevelStands counts (level_from counts.checked cut n taken)
        level_there =
            level_stands counts is tail (Zeros n) stands asked ss one cut cuts c more cuts_off (Zeros taken) labels_are (Zeros (n - taken)) remains n (open_lengths counts.checked cut n) long refl
            (level_from counts.checked cut n taken).splits (Zeros (n - taken)) (level_from counts.checked cut n taken)
            (ap (after (labels_of_size Unlabelled taken)) (sym (plain (open_lengths counts.checked cut n)))) refl refl refl
            (zeros_asked counts (n - taken) unlabelled (omega (arith, within)))

        abbrev before_it : List Split
        before_it = (among counts is tail (Zeros n) stands asked ss one cut cuts c more cuts_off (Zeros taken) labels_are (Zeros (n - taken)) remains).0

        all_are : tail_on counts.checked tail (labels_of_size Unlabelled n)
            ≡ on_splits counts.checked cut before_it
            ++ (each_before (listing_on counts.checked cut.first (labels_of_size Unlabelled taken)) (tail_on counts.checked cut.behind (labels_of_size Unlabelled (n - taken)))
            ++ on_splits counts.checked cut (level_from counts.checked cut n taken).splits.left)
        all_are =
            by_splits counts is tail (Zeros n) stands asked ss one cut cuts
            ∙ ap (on_splits counts.checked cut) (among counts is tail (Zeros n) stands asked ss one cut cuts c more cuts_off (Zeros taken) labels_are (Zeros (n - taken)) remains).1
            ∙ flat_map-append (λ (split : Split). each_before (listing_on counts.checked cut.first split.part) (tail_on counts.checked cut.behind split.rest)) before_it
            (split_into (Zeros taken) (Zeros (n - taken)) ∷ after (labels_of_size Unlabelled taken) (first_parts tail (open_lengths counts.checked cut (length (labels_of_size Unlabelled n))) (labels_of_size Unlabelled n)))
            ∙ ap (λ (ss : List Split). on_splits counts.checked cut before_it
            ++ (each_before (listing_on counts.checked cut.first (labels_of_size Unlabelled taken)) (tail_on counts.checked cut.behind (labels_of_size Unlabelled (n - taken)))
            ++ on_splits counts.checked cut (after (labels_of_size Unlabelled taken) ss)))
            (plain (open_lengths counts.checked cut (length (labels_of_size Unlabelled n)))
            ∙ ap (λ (m : ℕ). parts_with (open_lengths counts.checked cut m) (labels_of_size Unlabelled n)) (sym long))

        -- the list that comes next on the same split, or else the first one on those to come
        module _ (before mid : List Structure) (found : Option (Later × LaterLists))
            (behind : OpensBehindSplit counts (listing_on counts.checked cut.first (labels_of_size Unlabelled taken)) (tail_on counts.checked cut.behind (labels_of_size Unlabelled (n - taken))) ss before mid found) where
          cut_lists : tail_on counts.checked tail (labels_of_size Unlabelled n)
              ≡ (on_splits counts.checked cut before_it ++ behind.earlier) ++ ss ∷ (behind.next ++ on_splits counts.checked cut (level_from counts.checked cut n taken).splits.left)
          cut_lists =
              all_are
              ∙ ap (λ lists. on_splits counts.checked cut before_it ++ (lists ++ on_splits counts.checked cut (level_from counts.checked cut n taken).splits.left)) behind.whole
              ∙ within_front (on_splits counts.checked cut before_it) behind.earlier ss behind.next (on_splits counts.checked cut (level_from counts.checked cut n taken).splits.left)

          pub on_split : (first : Later) (others opened : LaterLists) → found ≡ Some (first, others)
              → ((all : List (List Structure)) (front back : List Structure) → OpensParts counts all front (level_from counts.checked cut n taken) first others back → OpensLists counts all front back opened)
              → OpensBehindList counts (tail_on counts.checked tail (labels_of_size Unlabelled n)) ss before mid (Some opened)
          on_split first others opened is_found opens_lists =
              let opens : OpensOnSplit counts behind.next (tail_on counts.checked cut.behind (labels_of_size Unlabelled (n - taken))) before mid (first, others) = rw is_found at behind.opens in record {
                earlier = on_splits counts.checked cut before_it ++ behind.earlier;
                next = behind.next ++ on_splits counts.checked cut (level_from counts.checked cut n taken).splits.left;
                whole = cut_lists;
                opens = opens_lists (behind.next ++ on_splits counts.checked cut (level_from counts.checked cut n taken).splits.left) before mid (record {
                  added = opens.first ∷ opens.added;
                  put = opens.put;
                  whole =
                      ap (λ lists. lists ++ on_splits counts.checked cut (level_from counts.checked cut n taken).splits.left) opens.whole
                      ∙ ap (λ lists. (opens.first ∷ opens.added) ∷ lists)
                      (append_assoc (map (λ rest. opens.first ∷ rest) (lists_after counts.checked others opens.added))
                      (each_before (structures_after counts.checked first opens.first) (tail_on counts.checked cut.behind (labels_of_size Unlabelled (n - taken))))
                      (on_splits counts.checked cut (level_from counts.checked cut n taken).splits.left));
                  level_stands = level_there;
                  stand = (opens.first_stands, opens.others_stand);
                });
              }

          pub on_later_split : found ≡ None → (after : List Structure) (opened : Option LaterLists) → OpensAny counts (on_splits counts.checked cut (level_from counts.checked cut n taken).splits.left) mid after opened
              → OpensBehindList counts (tail_on counts.checked tail (labels_of_size Unlabelled n)) ss before after opened
          on_later_split is_found after opened opens =
              let nothing : OpensNothing behind.next before mid = rw is_found at behind.opens in record {
                earlier = on_splits counts.checked cut before_it ++ behind.earlier;
                next = on_splits counts.checked cut (level_from counts.checked cut n taken).splits.left;
                whole = cut_lists ∙ ap (λ lists. (on_splits counts.checked cut before_it ++ behind.earlier) ++ ss ∷ (lists ++ on_splits counts.checked cut (level_from counts.checked cut n taken).splits.left)) nothing.none;
                opens = subst (λ (front : List Structure). OpensAny counts (on_splits counts.checked cut (level_from counts.checked cut n taken).splits.left) front after opened) nothing.kept opens;
              }

-- a split that comes later leads down too
pub later_falls : (counts : Counts) (is : IsCounted counts) (unlabelled : counts.checked.universe ≡ Unlabelled) (tail : Tail) (n : ℕ) (stands : IsTail counts tail) (within : n ≤ counts.size)
    (ss : List Structure) (one : IsIn ss (tail_on counts.checked tail (labels_of_size Unlabelled n))) (cut : Cut) (cut_here : cut_of counts.checked tail n ≡ Some cut)
    (taken : ℕ) (part rest : Supply) (left : List Split) → (level_from counts.checked cut n taken).splits.left ≡ split_into part rest ∷ left
    → IsAsked counts part → IsAsked counts rest → CanOpen counts cut (split_into part rest)
    → split_measure counts.checked cut (length (supply_labels part)) (length (supply_labels rest)) < lists_measure counts.checked tail n
later_falls counts is unlabelled tail n stands within ss one cut cut_here taken part rest left whole of_part of_rest can =
    lists_down counts is tail n (length (supply_labels part)) (length (supply_labels rest)) cut stands cut_here (total ∙ supply_size Unlabelled n) (omega (arith, within, is.small))
    (some_lists counts is unlabelled tail n stands within ss one)
    (subst (λ (m : ℕ). 0 < m) (listing_number counts.checked is.passed cut.first (supply_labels part) (asked_supply counts part of_part)) can.first)
    (subst (λ (m : ℕ). 0 < m) (tail_length counts is cut.behind (supply_labels rest) (cut_is_there counts is unlabelled tail n stands within ss one cut cut_here).behind (asked_supply counts rest of_rest)) can.others)
  where
    u : List ℕ
    u = labels_of_size Unlabelled n

    admitted : List Split
    admitted = parts_with (open_lengths counts.checked cut n) (labels_of_size Unlabelled n)

    comes : IsIn (split_into part rest) (after (labels_of_size Unlabelled taken) (parts_with (open_lengths counts.checked cut n) (labels_of_size Unlabelled n)))
    comes = subst (λ (splits_left : List Split). IsIn (split_into part rest) splits_left) (sym whole) (inl refl)

    total : length (supply_labels part) + length (supply_labels rest) ≡ length (labels_of_size Unlabelled n)
    total =
        split_length (labels_of_size Unlabelled n) (split_into part rest)
        (from_filter (has_admitted (open_lengths counts.checked cut n)) (split_into part rest) (splits (labels_of_size Unlabelled n))
        (from_filter (λ (split : Split). comes_before (labels_of_size Unlabelled taken) split.part) (split_into part rest) (parts_with (open_lengths counts.checked cut n) (labels_of_size Unlabelled n)) comes).0).0

-- no Cycle stands in a grammar without labels
pub no_cycle : (checked : Checked) → IsChecked checked → (node : ℕ) → HasKind checked node told.Cycle → checked.universe ≡ Unlabelled → ⊥
no_cycle checked passed node h unlabelled =
    let at = kind_at checked node told.Cycle h in
    let is = many_is kind.Cycle at.0 at.2 in
    let there : node_at checked.rules node ≡ Some (expr.Many kind.Cycle is.0 is.1) = at.1 ∙ ap Some is.2 in
    let child : slice_get (children_at checked.rules node) 0 ≡ Some (node + 1) = ap (λ (ms : List ℕ). slice_get ms 0) (children_at_is checked.rules node (expr.Many kind.Cycle is.0 is.1) there) in
    let both : Labelled ≡ Unlabelled = sym (cycle_labelled checked passed node (node + 1) h child) ∙ unlabelled in cc
