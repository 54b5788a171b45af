-- The choices of a container are even, where those of its element are.
use Rattle.std.proofs.Common.{◌≡◌, ℕ, zero, suc, ◌+◌, ◌*◌, ◌<◌, ◌≤◌, Bool, true, false, List, [], ◌∷◌, map, flat_map, length, take, drop, replicate, slice_get, Some, refl, sym, ap, ◌∙◌, subst, inl, inr, arith}
use Rattle.std.specs.Prelude.{if◌then◌else◌}
use Rattle.std.specs.Option.{option_map_or, option_and_then}
use Rattle.std.specs.List.{range_with_len}
use Rattle.std.proofs.lemmas.Bool.{cond-true, cond-false}
use Rattle.std.proofs.lemmas.List.{length-map, take-append-drop}
use Rattle.lists.specs.Enumeration.{IsIn}
use Rattle.lists.proofs.Enumerated.{in_map, in_flat_map}
use Rattle.lists.proofs.Within.{in_left, in_right, in_either}
use Rattle.spec_syntax.specs.declared.expr.Card.{Card}
use Rattle.spec_syntax.specs.declared.expr.Kind.{Kind}
use Rattle.spec_syntax.specs.declared.expr.Kind.TheVariants as kinds
use Rattle.spec_syntax.specs.declared.statement.Universe.{Universe}
use Rattle.spec_syntax.specs.declared.statement.Universe.TheVariants.{Labelled, Unlabelled}
use Rattle.spec_syntax.specs.Card.{admits}
use Rattle.spec_syntax.specs.Expression.{Expression, Many}
use Rattle.spec_syntax.specs.Nodes.{node_at, arguments_of, card_of}
use Rattle.spec_syntax.specs.Rules.{all_nodes, is_spec}
use Rattle.spec_syntax.specs.Grammar.{Grammar}
use Rattle.spec_syntax.proofs.NodesLemmas.{in_nodes}
use Rattle.struct_model.specs.declared.tree.Form5.{Form5}
use Rattle.struct_model.specs.declared.tree.Form5.TheVariants as form
use Rattle.struct_model.specs.Structure.{Structure, Tup, parts_of}
use Rattle.struct_model.specs.Order.{rotated}
use Rattle.struct_model.specs.Membership.{is_supply, supply}
use Rattle.struct_model.specs.Listing.{IsOne}
use Rattle.struct_model.specs.Bounded.{listing, number}
use Rattle.struct_model.proofs.SupplyLaws.{supply_is}
use Rattle.well_founded.specs.declared.node.NodeKind.{NodeKind}
use Rattle.well_founded.specs.declared.node.NodeKind.TheVariants as told
use Rattle.well_founded.specs.NodeKinds.{container}
use Rattle.well_founded.specs.Checked.{grammar}
use Rattle.well_founded.specs.WellFounded.{IsWellFounded}
use Rattle.count_laws.specs.Pointed.{MeetsTimes}
use Rattle.count_laws.proofs.MetTimes as met
use Rattle.listing_laws.specs.Lister.{sequence}
use Rattle.listing_laws.specs.Numbers.{exactly}
use Rattle.listing_laws.specs.SetListing.{set}
use Rattle.listing_laws.specs.LeastFirst.{cycle}
use Rattle.listing_laws.proofs.ByComponents as components
use Rattle.listing_laws.proofs.ContainersRecur.{containers_recur}
use Rattle.listing_laws.proofs.LeastListed.{labelled_containers_are_listed}
use Rattle.listing_laws.proofs.Repeated.{sequences_are}
use Rattle.listing_laws.proofs.UnlabelledSets.{unlabelled_sets_are_listed}
use Rattle.size_counts.specs.CountedView.{Counts, number_of, lists_of, sets_of, with_exactly}
use Rattle.size_counts.specs.Numbers.{list_number}
use Rattle.size_counts.proofs.Containers.{cycle_labelled}
use Rattle.struct_walk.proofs.PartLabels.{zeros_are}
use Rattle.canon.specs.Sorted.{with_item}
use Rattle.choice_laws.specs.Trees.{Tree, choose}
use Rattle.choice_laws.specs.Even.{IsEven}
use Rattle.choice_laws.proofs.Evens.{choice_even, instead}
use Rattle.choice_laws.proofs.Rearranged.{same_enumerated, alike_meet}
use Rattle.draw_steps.specs.declared.missing.Lists.TheVariants.{Elements, Members}
use Rattle.draw_steps.specs.Choices.{child_of, admits_at, number_with, count_step, members_by, container_choices, list_choices, repeated_choices}
use Rattle.draw_steps.specs.Containers.{sorted, turned, contained}
use Rattle.draw_steps.specs.Heights.{height}
use Rattle.draw_steps.specs.Laws.{AreLower}
use Rattle.draw_steps.specs.Steps.{ending}
use Rattle.draw_steps.proofs.FairCycles as cycles
use Rattle.draw_steps.proofs.FairCycles.{Turns, turns}
use Rattle.draw_steps.proofs.FairHeights.{lists_lower}
use Rattle.draw_steps.proofs.FairListings as listings
use Rattle.draw_steps.proofs.FairListings.{same_number}
use Rattle.draw_steps.proofs.FairLists.{AreMade, lists_even}
use Rattle.draw_steps.proofs.FairMultisets as multisets
use Rattle.draw_steps.proofs.FairMultisets.{multisets_even}
use Rattle.draw_steps.proofs.FairPulled.{item_holds}
use Rattle.draw_steps.proofs.FairSets as sets
use Rattle.draw_steps.proofs.FairTrees.{ending_even, ending_ending, ending_graft, graft_among}
use Rattle.choice_laws.proofs.Grafts.{graft_end}

-- a rotation has the same components
in_rotated : (s : Structure) (ss : List Structure) (i : ℕ) → IsIn s ss → IsIn s (rotated ss i)
in_rotated s ss i at =
    elim (in_either s (take i ss) (drop i ss) (subst (IsIn s) (sym (take-append-drop i ss)) at)) [
      | inl front ↦ in_right s (drop i ss) (take i ss) front
      | inr behind ↦ in_left s (drop i ss) (take i ss) behind
    ]

in_turned : (s : Structure) (ss : List Structure) → IsIn s ss → IsIn s (turned ss)
in_turned s [] at = absurd at
in_turned s (t ∷ ts) at = let t_is = turns t ts in subst (IsIn s) (sym t_is.rotation.same) (in_rotated s (t ∷ ts) t_is.rotation.place at)

module _ (counts : Counts) (spec : is_spec counts.checked.rules ≡ true) (founded : IsWellFounded (grammar counts.checked)) (node : ℕ) (kind : Kind) (e : Expression) (card : Card)
    (at : node_at counts.checked.rules node ≡ Some (Many kind e card)) (inside : node_at counts.checked.rules (child_of counts node 1) ≡ Some e) where
  abbrev g : Grammar
  g = grammar counts.checked

  abbrev universe : Universe
  universe = counts.checked.universe

  abbrev element : ℕ
  element = child_of counts node 1

  abbrev there : IsIn (Many kind e card) (all_nodes g.rules)
  there = in_nodes counts.checked.rules node (Many kind e card) at

  element_number : (u : List ℕ) → is_supply universe u ≡ true → length (listing g e u) ≡ number_of counts element (length u)
  element_number u supplied =
      same_number g e u (listings.element_listed g kind e card spec founded there) supplied
      ∙ sym (ap (λ o. option_map_or (λ f. number g f (length u)) o 0) inside)

  -- the structures with exactly so many components
  abbrev exact : Kind → ℕ → List ℕ → List Structure
  exact k c u = listing g (Many k e (exactly c)) u

  exact_number : (k : Kind) (c : ℕ) (u : List ℕ) → is_supply universe u ≡ true → length (exact k c u) ≡ number g (Many k e (exactly c)) (length u)
  exact_number k c u supplied = same_number g (Many k e (exactly c)) u (listings.container_listed g kind e card spec founded there k (exactly c)) supplied

  module _ (inner : ℕ → List ℕ → Tree Structure) (h : ℕ)
      (fair : (u : List ℕ) → is_supply universe u ≡ true → 0 < length (listing g e u) → AreLower h (listing g e u) → IsEven (inner element u) (listing g e u)) where
    abbrev Good : Structure → Type 0
    Good s = height s < h

    -- ---- lists

    abbrev repeated : ℕ → List ℕ → List (List Structure)
    repeated c u = listings.repeated g kind e card spec founded there c u

    repeated_is : (c : ℕ) (u : List ℕ) → is_supply universe u ≡ true → exact kinds.Sequence c u ≡ map sequence (repeated c u)
    repeated_is c u supplied =
        sym ((listings.container_listed g kind e card spec founded there kinds.Sequence (exactly c)).only u (map sequence (repeated c u)) supplied
        (sequences_are g e (exactly c) u (repeated c u) (listings.repeated_listed g kind e card spec founded there c u supplied)))

    repeated_number : (c : ℕ) (u : List ℕ) → is_supply universe u ≡ true → length (repeated c u) ≡ lists_of counts node c (length u)
    repeated_number c u supplied =
        sym (length-map (repeated c u) sequence) ∙ ap length (sym (repeated_is c u supplied)) ∙ exact_number kinds.Sequence c u supplied
        ∙ sym (ap (λ o. option_map_or (λ f. list_number g f c (length u)) (slice_get (option_map_or arguments_of o []) 0) 0) at)

    lists_made : (most : ℕ) → AreMade counts inner (Elements node element) most (λ behind u. listing g e u) repeated (λ s ss. s ∷ ss) (λ ss. ss) (λ c. 1) Good
    lists_made most = record {
      finish_none = refl;
      finish_more = λ s ss. refl;
      holds = λ x s ys within. within;
      none = listings.none_repeated g kind e card spec founded there;
      first_number = λ behind u few supplied. element_number u supplied;
      others_number = λ c u few supplied. repeated_number c u supplied;
      meets = λ c u few supplied. listings.repeated_meet g kind e card spec founded there c u supplied;
      some = λ c few. omega arith;
      fair = λ behind u few supplied some good. fair u supplied some good;
    }

    pub repeated_even : (c : ℕ) (u : List ℕ) → is_supply universe u ≡ true → 0 < length (repeated c u)
        → ((ss : List Structure) → IsIn ss (repeated c u) → (s : Structure) → IsIn s ss → Good s)
        → IsEven (list_choices counts inner (Elements node element) c u) (repeated c u)
    repeated_even c u supplied some good =
        subst (λ tree. IsEven tree (repeated c u)) (graft_end (list_choices counts inner (Elements node element) c u))
        (lists_even counts inner (Elements node element) c (λ behind v. listing g e v) repeated (λ s ss. s ∷ ss) (λ ss. ss) (λ b. 1) Good (lists_made c) c u (omega arith) supplied some good)

    -- ---- labelled sets

    module _ (labelled : universe ≡ Labelled) where
      abbrev members : ℕ → List ℕ → List (List Structure)
      members c u = sets.sets g kind e card spec founded there labelled c u

      members_number : (k : Kind) (c : ℕ) (u : List ℕ) → is_supply universe u ≡ true → (make : List Structure → Structure) → exact k c u ≡ map make (members c u) → k ≡ kind
          → length (members c u) ≡ sets_of counts node c (length u)
      members_number k c u supplied make is own =
          sym (length-map (members c u) make) ∙ ap length (sym is) ∙ exact_number k c u supplied ∙ ap (λ (z : Kind). number g (Many z e (exactly c)) (length u)) own
          ∙ sym (ap (λ o. option_map_or (λ f. number g (with_exactly c f) (length u)) o 0) at)

      members_made : (most : ℕ) → ((c : ℕ) (u : List ℕ) → is_supply universe u ≡ true → length (members c u) ≡ sets_of counts node c (length u))
          → AreMade counts inner (Members node element) most (λ behind u. listing g e u) members with_item sorted (λ c. suc c) Good
      members_made most numbers = record {
        finish_none = refl;
        finish_more = λ s ss. refl;
        holds = λ x s ys within. item_holds x s ys within;
        none = sets.none_set g kind e card spec founded there labelled;
        first_number = λ behind u few supplied. element_number u supplied;
        others_number = λ c u few supplied. numbers c u supplied;
        meets = λ c u few supplied. sets.sets_meet g kind e card spec founded there labelled c u supplied;
        some = λ c few. omega arith;
        fair = λ behind u few supplied some good. fair u supplied some good;
      }

      pub members_even : (c : ℕ) (u : List ℕ) → is_supply universe u ≡ true → ((b : ℕ) (v : List ℕ) → is_supply universe v ≡ true → length (members b v) ≡ sets_of counts node b (length v))
          → 0 < length (members c u)
          → ((ss : List Structure) → IsIn ss (members c u) → (s : Structure) → IsIn s ss → Good s)
          → IsEven (ending sorted (list_choices counts inner (Members node element) c u)) (members c u)
      members_even c u supplied numbers some good =
          lists_even counts inner (Members node element) c (λ behind v. listing g e v) members with_item sorted (λ b. suc b) Good (members_made c numbers) c u (omega arith) supplied some good

    -- ---- those of so many components, kind by kind

    abbrev chosen : NodeKind → ℕ → List ℕ → Tree Structure
    chosen told_kind c u = ending (contained told_kind) (members_by counts inner told_kind universe node c u)

    -- what is put together of even lists
    together : (f : Form5) (tree : Tree (List Structure)) (sss : List (List Structure)) (ss : List Structure) → ss ≡ map (λ ts. Tup f (parts_of ts)) sss
        → 0 < length ss → AreLower (suc h) ss
        → (0 < length sss → ((ts : List Structure) → IsIn ts sss → (s : Structure) → IsIn s ts → Good s) → IsEven tree sss)
        → IsEven (ending (λ ts. Tup f (parts_of ts)) tree) ss
    together f tree sss ss is some lower even =
        subst (IsEven (ending (λ ts. Tup f (parts_of ts)) tree)) (sym is)
        (ending_even (λ ts. Tup f (parts_of ts)) tree sss
        (even (omega (arith, some, ap length is, length-map sss (λ ts. Tup f (parts_of ts))))
        (lists_lower h f sss (subst (AreLower (suc h)) is lower))))

    pub sequence_even : (c : ℕ) (u : List ℕ) → is_supply universe u ≡ true → 0 < length (exact kinds.Sequence c u) → AreLower (suc h) (exact kinds.Sequence c u)
        → IsEven (chosen told.Sequence c u) (exact kinds.Sequence c u)
    sequence_even c u supplied some lower =
        together form.Sequence (list_choices counts inner (Elements node element) c u) (repeated c u) (exact kinds.Sequence c u) (repeated_is c u supplied) some lower
        (λ more good. repeated_even c u supplied more good)

    -- a Set or PowerSet with labels
    labelled_even : (k : Kind) (f : Form5) (labelled : universe ≡ Labelled) → k ≡ kind
        → ((c : ℕ) (u : List ℕ) → is_supply universe u ≡ true → exact k c u ≡ map (λ ts. Tup f (parts_of ts)) (members labelled c u))
        → (c : ℕ) (u : List ℕ) → is_supply universe u ≡ true → 0 < length (exact k c u) → AreLower (suc h) (exact k c u)
        → IsEven (ending (λ ss. Tup f (parts_of (sorted ss))) (list_choices counts inner (Members node element) c u)) (exact k c u)
    labelled_even k f labelled own are c u supplied some lower =
        subst (λ tree. IsEven tree (exact k c u)) (ending_ending sorted (λ ts. Tup f (parts_of ts)) (list_choices counts inner (Members node element) c u))
        (together f (ending sorted (list_choices counts inner (Members node element) c u)) (members labelled c u) (exact k c u) (are c u supplied) some lower
        (λ more good.
        members_even labelled c u supplied (λ b v given. members_number labelled k b v given (λ ts. Tup f (parts_of ts)) (are b v given) own) more good))

    -- a Set without labels
    unlabelled_even : kind ≡ kinds.Set → universe ≡ Unlabelled → (c : ℕ) (u : List ℕ) → is_supply universe u ≡ true → 0 < length (exact kinds.Set c u) → AreLower (suc h) (exact kinds.Set c u)
        → IsEven (ending (λ ss. set (sorted ss)) (repeated_choices counts inner node element c c (length u))) (exact kinds.Set c u)
    unlabelled_even own unlabelled c u supplied some lower =
        subst (λ tree. IsEven tree (exact kinds.Set c u)) (ending_ending sorted set (repeated_choices counts inner node element c c (length u)))
        (together form.Set (ending sorted (repeated_choices counts inner node element c c (length u))) (multisets.target g e card spec founded set_there unlabelled c (length u)) (exact kinds.Set c u)
        (ap (λ v. exact kinds.Set c v) (sym zeros) ∙ unlabelled_sets_are_listed.sets g e card c (length u) spec founded unlabelled set_there) some lower
        (λ more good.
        multisets_even g e card spec founded set_there unlabelled counts node element refl (at ∙ ap (λ (z : Kind). Some (Many z e card)) own) inside inner Good
        (λ d some_of_size good_of_size. fair (supply Unlabelled d) (zeros_supplied d) some_of_size good_of_size)
        c c (length u) (omega arith) more good))
      where
        set_there : IsIn (Many kinds.Set e card) (all_nodes g.rules)
        set_there = subst (λ (z : Kind). IsIn (Many z e card) (all_nodes g.rules)) own there

        zeros : replicate (length u) 0 ≡ u
        zeros = zeros_are u (ap (λ (z : Universe). is_supply z u) (sym unlabelled) ∙ supplied)

        zeros_supplied : (d : ℕ) → is_supply universe (supply Unlabelled d) ≡ true
        zeros_supplied d = ap (λ (z : Universe). is_supply z (supply Unlabelled d)) unlabelled ∙ supply_is Unlabelled d

    -- a Cycle with labels
    cycle_even : kind ≡ kinds.Cycle → (c : ℕ) (u : List ℕ) → is_supply universe u ≡ true → 0 < length (exact kinds.Cycle c u) → AreLower (suc h) (exact kinds.Cycle c u)
        → IsEven (chosen told.Cycle c u) (exact kinds.Cycle c u)
    cycle_even own c u supplied some lower = by c some lower
      where
        cycle_there : IsIn (Many kinds.Cycle e card) (all_nodes g.rules)
        cycle_there = subst (λ (z : Kind). IsIn (Many z e card) (all_nodes g.rules)) own there

        labelled : universe ≡ Labelled
        labelled = cycle_labelled g e card spec founded cycle_there

        by : (c : ℕ) → 0 < length (exact kinds.Cycle c u) → AreLower (suc h) (exact kinds.Cycle c u) → IsEven (chosen told.Cycle c u) (exact kinds.Cycle c u)
        by zero some lower =
            absurd (let none : length (exact kinds.Cycle 0 u) ≡ 0 = exact_number kinds.Cycle 0 u supplied ∙ containers_recur.no_cycles g e card (length u) spec founded cycle_there in omega (arith, some, none))
        by (suc c) some lower =
            subst (λ tree. IsEven tree (exact kinds.Cycle (suc c) u)) (ending_ending turned cycle (list_choices counts inner (Elements node element) (suc c) u))
            (together form.Cycle (ending turned (list_choices counts inner (Elements node element) (suc c) u)) around (exact kinds.Cycle (suc c) u)
            (labelled_containers_are_listed.cycles g kind e card (exactly (suc c)) u spec founded labelled there supplied) some lower
            (λ more good. turned_even more good))
          where
            around : List (List Structure)
            around = cycles.cycles g kind e card spec founded there labelled (suc c) u

            meets : MeetsTimes (suc c) (map turned (repeated (suc c) u)) around
            meets = cycles.cycles_meet g kind e card spec founded there labelled c u supplied

            turned_even : 0 < length around → ((ts : List Structure) → IsIn ts around → (s : Structure) → IsIn s ts → Good s)
                → IsEven (ending turned (list_choices counts inner (Elements node element) (suc c) u)) around
            turned_even more good =
                instead (suc c) (ending turned (list_choices counts inner (Elements node element) (suc c) u)) (map turned (repeated (suc c) u)) around (omega arith)
                (ending_even turned (list_choices counts inner (Elements node element) (suc c) u) (repeated (suc c) u)
                (repeated_even (suc c) u supplied
                (omega (arith, more, length-map (repeated (suc c) u) turned, met.met_number (suc c) (map turned (repeated (suc c) u)) around meets, at_least c (length around)))
                (λ ss in_lists s stands. good (turned ss) (meets.within (turned ss) (in_map turned ss (repeated (suc c) u) in_lists)) s (in_turned s ss stands))))
                meets
              where
                at_least : (c n : ℕ) → n ≤ suc c * n
                at_least c n = grind arith

    -- each kind; of PowerSets without labels there are no choices
    pub of_count_even : (universe ≡ Unlabelled → kind ≡ kinds.PowerSet → ⊥) → (c : ℕ) (u : List ℕ) → is_supply universe u ≡ true
        → 0 < length (exact kind c u) → AreLower (suc h) (exact kind c u) → IsEven (chosen (container kind) c u) (exact kind c u)
    of_count_even no_power_set c u supplied some lower = by kind universe refl refl some lower
      where
        by : (k : Kind) (all : Universe) → k ≡ kind → all ≡ universe → 0 < length (exact k c u) → AreLower (suc h) (exact k c u)
            → IsEven (ending (contained (container k)) (members_by counts inner (container k) all node c u)) (exact k c u)
        by kinds.Sequence all own is some lower = sequence_even c u supplied some lower
        by kinds.Set Labelled own is some lower =
            labelled_even kinds.Set form.Set (sym is) own (λ b v given. labelled_containers_are_listed.sets g kind e card (exactly b) v spec founded (sym is) there given) c u supplied some lower
        by kinds.Set Unlabelled own is some lower = unlabelled_even (sym own) (sym is) c u supplied some lower
        by kinds.PowerSet Labelled own is some lower =
            labelled_even kinds.PowerSet form.PowerSet (sym is) own (λ b v given. labelled_containers_are_listed.power_sets g kind e card (exactly b) v spec founded (sym is) there given) c u
            supplied some lower
        by kinds.PowerSet Unlabelled own is some lower = absurd (no_power_set (sym is) (sym own))
        by kinds.Cycle all own is some lower = cycle_even (sym own) c u supplied some lower

    -- ---- all of them

    number_is : (c m : ℕ) → number_with counts (container kind) node c m ≡ number g (Many kind e (exactly c)) m
    number_is c m = by kind refl
      where
        by : (k : Kind) → k ≡ kind → number_with counts (container k) node c m ≡ number g (Many k e (exactly c)) m
        by kinds.Sequence own = ap (λ o. option_map_or (λ f. list_number g f c m) (slice_get (option_map_or arguments_of o []) 0) 0) at
        by kinds.Set own = ap (λ o. option_map_or (λ f. number g (with_exactly c f) m) o 0) at ∙ ap (λ (z : Kind). number g (Many z e (exactly c)) m) (sym own)
        by kinds.PowerSet own = ap (λ o. option_map_or (λ f. number g (with_exactly c f) m) o 0) at ∙ ap (λ (z : Kind). number g (Many z e (exactly c)) m) (sym own)
        by kinds.Cycle own = ap (λ o. option_map_or (λ f. number g (Many kinds.Cycle f (exactly c)) m) (slice_get (option_map_or arguments_of o []) 0) 0) at

    module _ (no_power_set : universe ≡ Unlabelled → kind ≡ kinds.PowerSet → ⊥) (u : List ℕ) (supplied : is_supply universe u ≡ true) (lower : AreLower (suc h) (listing g (Many kind e card) u)) where
      abbrev counts_to : List ℕ
      counts_to = range_with_len 0 (length u + 1)

      abbrev row : ℕ → List Structure
      row c = if admits card c then exact kind c u else []

      abbrev weight : ℕ → ℕ
      weight c = if admits_at counts node c then number_with counts (container kind) node c (length u) else 0

      pub container_even : IsEven (container_choices counts inner (container kind) node u) (listing g (Many kind e card) u)
      container_even =
          instead 1 (container_choices counts inner (container kind) node u) (flat_map row counts_to) (listing g (Many kind e card) u) (omega arith)
          (subst (λ tree. IsEven tree (flat_map row counts_to)) (sym by_count)
          (choice_even 1 weight (λ c. chosen (container kind) c u) row counts_to (λ c within. row_number c) (λ c within heavy. row_even c within heavy)))
          rows_meet
        where
          admitted : (c : ℕ) → admits_at counts node c ≡ admits card c
          admitted c = ap (λ o. option_map_or (λ bound. admits bound c) (option_and_then card_of o) false) at

          by_count : container_choices counts inner (container kind) node u ≡ choose (map {B = ℕ × Tree Structure} (λ c. (weight c, chosen (container kind) c u)) counts_to)
          by_count =
              ending_graft (λ c. members_by counts inner (container kind) universe node c u) (contained (container kind)) (count_step counts (container kind) node (length u))
              ∙ graft_among (λ c. chosen (container kind) c u) weight counts_to

          rows_meet : MeetsTimes 1 (flat_map row counts_to) (listing g (Many kind e card) u)
          rows_meet =
              alike_meet (flat_map row counts_to) (listing g (Many kind e card) u)
              (same_enumerated (IsOne g (Many kind e card) u) (flat_map row counts_to) (listing g (Many kind e card) u)
              (components.rows_are g e (listings.never_empty g kind e card spec founded there) kind card (listings.container_listed g kind e card spec founded there kind) u supplied)
              (components.each_listed g e (listings.never_empty g kind e card spec founded there) kind card (listings.container_listed g kind e card spec founded there kind) u supplied card))

          row_number : (c : ℕ) → length (row c) ≡ 1 * weight c
          row_number c = by (admits card c) ∙ ap (λ (b : Bool). if b then number_with counts (container kind) node c (length u) else 0) (sym (admitted c)) ∙ once (weight c)
            where
              by : (b : Bool) → length (if b then exact kind c u else []) ≡ (if b then number_with counts (container kind) node c (length u) else 0)
              by true = exact_number kind c u supplied ∙ sym (number_is c (length u))
              by false = refl

              once : (k : ℕ) → k ≡ 1 * k
              once k = omega arith

          row_even : (c : ℕ) → IsIn c counts_to → 0 < weight c → IsEven (chosen (container kind) c u) (row c)
          row_even c within heavy = by (admits card c) refl
            where
              by : (b : Bool) → admits card c ≡ b → IsEven (chosen (container kind) c u) (row c)
              by true is =
                  let all : row c ≡ exact kind c u = cond-true (admits card c) (exact kind c u) [] is in
                  subst (IsEven (chosen (container kind) c u)) (sym all)
                  (of_count_even no_power_set c u supplied (omega (arith, heavy, row_number c, ap length all))
                  (λ s stands. lower s (rows_meet.within s (in_flat_map row c counts_to s within (subst (IsIn s) (sym all) stands)))))
              by false is =
                  let none : row c ≡ [] = cond-false (admits card c) (exact kind c u) [] is in
                  absurd (omega (arith, heavy, row_number c, ap length none))
