-- A step on sorted components without labels, from one of them on.
use Rattle.std.proofs.Common.{◌≡◌, ℕ, ◌+◌, ◌≤◌, ◌<◌, ◌^◌, Bool, true, false, List, [], ◌∷◌, ◌++◌, map, take, drop, length, Option, Some, None, refl, sym, ap, ◌∙◌, subst, inl, inr, arith}
use Rattle.std.specs.Prelude.{IfSome, IfNone}
use Rattle.std.proofs.Math.Seq.{append_snoc, take-append_seam, drop-append_seam}
use Rattle.std.proofs.lemmas.List.{length-append, length-take-le, length-drop, append-nil, take-append-drop}
use Rattle.lists.specs.Enumeration.{IsIn}
use Rattle.lists.proofs.Within.{in_right}
use Rattle.spec_syntax.specs.declared.statement.Universe.TheVariants.{Unlabelled}
use Rattle.struct_model.specs.Structure.{Structure, size, labels_of_parts, parts_of}
use Rattle.struct_model.specs.Membership.{supply}
use Rattle.listing_laws.specs.NodeListing.{listing_on}
use Rattle.size_counts.specs.CountedView.{Counts, IsCounted}
use Rattle.struct_walk.specs.declared.later.Later.{Later}
use Rattle.struct_walk.specs.declared.later.LaterSorted as sorted
use Rattle.struct_walk.specs.declared.later.LaterSorted.{LaterSorted}
use Rattle.struct_walk.specs.declared.sorted_tail.SortedLevel.{SortedLevel}
use Rattle.struct_walk.specs.After.{structures_after, sorted_after}
use Rattle.struct_walk.specs.SortedTails.{IsFrontOf, in_front, sorted_from, with_greater, at_sorted_level}
use Rattle.struct_walk.specs.Stands.{SortedLevelStands, Stands, SortedStand, AreSmall, AreSmallLists}
use Rattle.struct_walk.specs.Opened.{Next, OpensSorted, OpensSortedList, OpensNothing, SortedStepOn, SortedEnd, SortedStepTo, FirstStepOn, FirstStepTo}
use Rattle.struct_walk.proofs.SortedLemmas.{atoms_of_size, first_sorted}
use Rattle.struct_walk.proofs.SortedOpens.{pushed_front, none_behind, component_front}
use Rattle.struct_walk.proofs.StepParts.{here, from_here, to_here, last_same, same_front}

-- where nothing comes later, no component stands from the place on
pub sorted_ended : (counts : Counts) (whole : LaterSorted) (place : ℕ) (ss : List Structure) → whole ≡ sorted.Nothing → SortedStand counts whole (drop place ss)
    → SortedEnd counts place whole ss ss
sorted_ended counts whole place ss is stand = record {
  kept =
      let none : drop place ss ≡ [] = subst (λ (w : LaterSorted). SortedStand counts w (drop place ss)) is stand in
      sym (take-append-drop place ss) ∙ ap (λ rest. take place ss ++ rest) none ∙ append-nil (take place ss);
  none = ap (λ (w : LaterSorted). sorted_after counts.checked w (drop place ss)) is;
}

-- ---- a component that has another one of its size after it

module _ (counts : Counts) (is : IsCounted counts) (level : SortedLevel) (first : Later) (component : Structure) (stands : SortedLevelStands counts level first component) where
  -- those that come later have as many atoms
  pub later_small : AreSmall (structures_after counts.checked first component)
  later_small s there =
      let inside : IsIn s (listing_on counts.checked level.behind.element (supply Unlabelled level.taken)) =
      subst (IsIn s) (sym stands.goes_on.whole) (in_right s stands.goes_on.earlier (component ∷ structures_after counts.checked first component) (inr there)) in
      omega (arith, atoms_of_size counts.checked level.behind.element level.taken s inside, stands.within, is.small)

  -- the next one stands on the level
  pub next_stands : (first' : Later) (next : Structure) → structures_after counts.checked first component ≡ next ∷ structures_after counts.checked first' next
      → SortedLevelStands counts level first' next
  next_stands first' next comes = record {
    tail = stands.tail;
    within = stands.within;
    goes_on = record {
      earlier = stands.goes_on.earlier ++ component ∷ [];
      whole =
          stands.goes_on.whole ∙ ap (λ (ss : List Structure). stands.goes_on.earlier ++ component ∷ ss) comes
          ∙ sym (append_snoc stands.goes_on.earlier component (next ∷ structures_after counts.checked first' next));
    };
  }

  -- none comes
  pub none_next : (before : List Structure) (first' : Later) (others' : LaterSorted) → structures_after counts.checked first component ≡ []
      → FirstStepTo counts level (structures_after counts.checked first component) before first' others' before false
  none_next before first' others' none = (refl, ap (at_sorted_level counts.checked level) none)

  module _ (first' : Later) (next : Structure) (steps : Next counts (structures_after counts.checked first component) first' next true) (before pushed : List Structure) (push : pushed ≡ before ++ next ∷ []) where
    -- the others are opened behind it
    pub next_opens : (after : List Structure) (others' : LaterSorted)
        → OpensSortedList counts (sorted_from counts.checked level.behind (in_front pushed) level.left) pushed after others'
        → FirstStepTo counts level (structures_after counts.checked first component) before first' others' after true
    next_opens after others' opens = record {
      component = next;
      added = opens.added;
      put = opens.put ∙ ap (λ ss. ss ++ opens.added) push ∙ append_snoc before next opens.added;
      whole =
          ap (at_sorted_level counts.checked level) steps.0
          ∙ first_sorted counts level first' others' next opens.added
          (ap (λ (from : Option Structure). sorted_from counts.checked level.behind from level.left) (sym (ap in_front push ∙ pushed_front before next)) ∙ opens.whole);
      level_stands = next_stands first' next steps.0;
      first_stands = steps.1;
      others_stand = opens.stands;
    }

    -- or nothing goes on from it, and the code takes it off again
    pub next_fails : (middle left : List Structure) (popped : Option Structure) (others' : LaterSorted)
        → OpensNothing (sorted_from counts.checked level.behind (in_front pushed) level.left) pushed middle
        → IfSome popped (λ s. middle ≡ left ++ s ∷ []) → IfNone popped (middle ≡ [])
        → FirstStepTo counts level (structures_after counts.checked first component) before first' others' left false
    next_fails middle left popped others' nothing some none =
        let fails = none_behind counts is level first' next (next_stands first' next steps.0) steps.1 before pushed push middle left popped nothing some none in
        (fails.0, ap (at_sorted_level counts.checked level) steps.0 ∙ fails.1)

    -- it stands in front of the others
    pub next_front : IsFrontOf counts.checked level.behind.element pushed
    next_front = component_front counts is level first' next (next_stands first' next steps.0) steps.1 before pushed push

-- ---- a list from a component on

some_there : (counts : Counts) (level : SortedLevel) (first : Later) (p : _) (others : LaterSorted) (ss : List Structure) → SortedStand counts (sorted.Level' level first p others) ss → 0 < length ss
some_there counts level first p others [] stand = absurd stand
some_there counts level first p others (s ∷ ss) stand = omega arith

module _ (counts : Counts) (whole : LaterSorted) (level : SortedLevel) (first : Later) (p : _) (others now : LaterSorted) (is : whole ≡ sorted.Level' level first p others) (same : now ≡ others)
    (before : List Structure) (place : ℕ) (stand : SortedStand counts whole (drop place before)) where
  pub sorted_within : place < length before
  sorted_within =
      let some : 0 < length (drop place before) = some_there counts level first p others (drop place before) (subst (λ (w : LaterSorted). SortedStand counts w (drop place before)) is stand) in
      omega (arith, some, length-drop place before)

  abbrev s : Structure
  s = here before place sorted_within

  abbrev more : List Structure
  more = drop (place + 1) before

  pub at_place : drop place before ≡ here before place sorted_within ∷ drop (place + 1) before
  at_place = from_here before place sorted_within

  pub all_stand : SortedLevelStands counts level first (here before place sorted_within) × (Stands counts first (here before place sorted_within) × SortedStand counts now (drop (place + 1) before))
  all_stand =
      let three : SortedStand counts (sorted.Level' level first p others) (s ∷ more) =
      subst (λ (ss : List Structure). SortedStand counts (sorted.Level' level first p others) ss) at_place (subst (λ (w : LaterSorted). SortedStand counts w (drop place before)) is stand) in
      (three.0, (three.1.0, subst (λ (l : LaterSorted). SortedStand counts l more) (sym same) three.1.1))

  all_are : sorted_after counts.checked whole (drop place before)
      ≡ map (λ rest. here before place sorted_within ∷ rest) (sorted_after counts.checked now (drop (place + 1) before))
      ++ at_sorted_level counts.checked level (structures_after counts.checked first (here before place sorted_within))
  all_are =
      (λ i. sorted_after counts.checked (is i) (at_place i))
      ∙ ap (λ (l : LaterSorted). map (λ rest. s ∷ rest) (sorted_after counts.checked l more) ++ at_sorted_level counts.checked level (structures_after counts.checked first s)) (sym same)

  -- those behind the component are stepped
  pub sorted_others_step : (q : _) (others' : LaterSorted) (after : List Structure) → SortedStepOn counts (place + 1) now before others' after
      → SortedStepOn counts place whole before (sorted.Level' level first q others') after
  sorted_others_step q others' after steps =
      let both = same_front after before place s more steps.kept steps.long at_place in
      record {
        kept = both.0;
        long = omega (arith, steps.long);
        next =
            all_are
            ∙ ap (λ lists. map (λ rest. s ∷ rest) lists ++ at_sorted_level counts.checked level (structures_after counts.checked first s)) steps.next
            ∙ ap (λ ss. ss ∷ sorted_after counts.checked (sorted.Level' level first q others') ss) (sym both.1);
        stands = subst (λ (ss : List Structure). SortedStand counts (sorted.Level' level first q others') ss) (sym both.1) (all_stand.0, (all_stand.1.0, steps.stands));
      }

  -- they have ended, and the component is taken off
  module _ (middle popped : List Structure) (component : Structure) (ended : SortedEnd counts (place + 1) now before middle) (taken : middle ≡ popped ++ component ∷ []) where
    pub sorted_front : (popped ≡ take place before) × (component ≡ here before place sorted_within)
    sorted_front = last_same popped (take place before) component s (sym taken ∙ ended.kept ∙ to_here before place sorted_within)

    pub on_level : SortedLevelStands counts level first component
    on_level = subst (λ (t : Structure). SortedLevelStands counts level first t) (sym sorted_front.1) all_stand.0

    pub first_stand : Stands counts first component
    first_stand = subst (λ (t : Structure). Stands counts first t) (sym sorted_front.1) all_stand.1.0

    sorted_left : sorted_after counts.checked whole (drop place before) ≡ at_sorted_level counts.checked level (structures_after counts.checked first component)
    sorted_left =
        all_are
        ∙ ap (λ lists. map (λ rest. s ∷ rest) lists ++ at_sorted_level counts.checked level (structures_after counts.checked first s)) ended.none
        ∙ ap (λ t. at_sorted_level counts.checked level (structures_after counts.checked first t)) (sym sorted_front.1)

    popped_long : length popped ≡ place
    popped_long = ap length sorted_front.0 ∙ length-take-le place before (omega (arith, sorted_within))

    front_of : (added : List Structure) → (take place (popped ++ added) ≡ take place before) × (drop place (popped ++ added) ≡ added)
    unfolding popped_long
    front_of added = (
      subst (λ (n : ℕ). take n (popped ++ added) ≡ take place before) popped_long (take-append_seam popped added ∙ sorted_front.0),
      subst (λ (n : ℕ). drop n (popped ++ added) ≡ added) popped_long (drop-append_seam popped added),
    )

    put_behind : (opened : LaterSorted) (added after : List Structure) → after ≡ popped ++ added
        → at_sorted_level counts.checked level (structures_after counts.checked first component) ≡ added ∷ sorted_after counts.checked opened added
        → SortedStand counts opened added → SortedStepOn counts place whole before opened after
    put_behind opened added after put all stands =
        let front = front_of added in
        record {
          kept = ap (take place) put ∙ front.0;
          long = let long = ap length put in omega (arith, length-append popped added, popped_long);
          next = sorted_left ∙ all ∙ ap (λ ss. ss ∷ sorted_after counts.checked opened ss) (sym (ap (drop place) put ∙ front.1));
          stands = subst (λ (ss : List Structure). SortedStand counts opened ss) (sym (ap (drop place) put ∙ front.1)) stands;
        }

    -- the next one of its size is put there, and the others are opened again
    pub size_steps : (q : _) (first' : Later) (others' boxed : LaterSorted) (after : List Structure) → boxed ≡ others'
        → FirstStepTo counts level (structures_after counts.checked first component) popped first' others' after true
        → SortedStepOn counts place whole before (sorted.Level' level first' q boxed) after
    size_steps q first' others' boxed after kept steps =
        subst (λ (l : LaterSorted). SortedStepOn counts place whole before (sorted.Level' level first' q l) after) (sym kept)
        (put_behind (sorted.Level' level first' q others') (steps.component ∷ steps.added) after steps.put steps.whole (steps.level_stands, (steps.first_stands, steps.others_stand)))

    -- or a greater one, if one comes
    pub greater_steps : (first' : Later) (others' : LaterSorted) (left after : List Structure) (opened : LaterSorted)
        → FirstStepTo counts level (structures_after counts.checked first component) popped first' others' left false
        → OpensSorted counts (with_greater counts.checked level.behind level.taken (level.taken + level.left)) left after (Some opened)
        → SortedStepOn counts place whole before opened after
    greater_steps first' others' left after opened fails opens =
        put_behind opened opens.added after (opens.put ∙ ap (λ ss. ss ++ opens.added) fails.0) (fails.1 ∙ opens.whole) opens.stands

    pub greater_ends : (first' : Later) (others' : LaterSorted) (left after : List Structure)
        → FirstStepTo counts level (structures_after counts.checked first component) popped first' others' left false
        → OpensSorted counts (with_greater counts.checked level.behind level.taken (level.taken + level.left)) left after None
        → SortedEnd counts place whole before after
    greater_ends first' others' left after fails nothing = record {
      kept = nothing.kept ∙ fails.0 ∙ sorted_front.0;
      none = sorted_left ∙ fails.1 ∙ nothing.none;
    }
