-- A step on a list of components, from one of them on.
use Rattle.std.proofs.Common.{◌≡◌, ℕ, zero, suc, ◌+◌, ◌≤◌, ◌<◌, ◌^◌, List, [], ◌∷◌, ◌++◌, map, take, drop, length, Bool, true, false, refl, sym, ap, ◌∙◌, subst, inl, arith}
use Rattle.std.proofs.Math.Seq.{append_snoc, take-append_seam, drop-append_seam}
use Rattle.std.proofs.lemmas.List.{length-append, length-take-le}
use Rattle.lists.specs.Enumeration.{IsIn}
use Rattle.lists.proofs.Within.{in_left, in_right}
use Rattle.lists.proofs.Enumerated.{in_map, in_flat_map}
use Rattle.struct_model.specs.Structure.{Structure, labels, size, labels_of_parts, parts_of}
use Rattle.struct_model.specs.declared.supplies.Supply.{Supply}
use Rattle.struct_model.specs.SupplyView.{supply_labels}
use Rattle.listing_laws.specs.Lister.{each_before}
use Rattle.size_counts.specs.CountedView.{Counts}
use Rattle.struct_walk.specs.declared.later.Later.{Later}
use Rattle.struct_walk.specs.declared.later.LaterLists.{LaterLists}
use Rattle.struct_walk.specs.declared.later.Level.{Level}
use Rattle.struct_walk.specs.Tails.{tail_on, on_splits}
use Rattle.struct_walk.specs.After.{at_level, structures_after, lists_after, parts_after}
use Rattle.struct_walk.specs.Stands.{LevelStands, Stands, ListsStand, PartsStand, AreSmall, AreSmallLists}
use Rattle.struct_walk.specs.Opened.{Next, OpensLists, ListsStepOn, ListsEnd, PartsStepOn, PartsStepTo, PartsOpen}
use Rattle.struct_walk.proofs.StepSplits.{first_at_level}

-- ---- fronts of lists

module _ {X : Type 0} where
  -- what stands at a place
  pub here : (xs : List X) (i : ℕ) → i < length xs → X
  here [] i within = absurd (omega arith)
  here (x ∷ xs) zero within = x
  here (x ∷ xs) (suc i) within = here xs i (omega arith)

  pub from_here : (xs : List X) (i : ℕ) (within : i < length xs) → drop i xs ≡ here xs i within ∷ drop (i + 1) xs
  unfolding here
  from_here [] i within = absurd (omega arith)
  from_here (x ∷ xs) zero within = refl
  from_here (x ∷ xs) (suc i) within =
      from_here xs i (omega arith) ∙ ap (λ (n : ℕ). here xs i (omega arith) ∷ drop n (x ∷ xs)) (let e : suc (i + 1) ≡ suc i + 1 = omega arith in e)

  pub to_here : (xs : List X) (i : ℕ) (within : i < length xs) → take (i + 1) xs ≡ take i xs ++ here xs i within ∷ []
  unfolding here
  to_here [] i within = absurd (omega arith)
  to_here (x ∷ xs) zero within = refl
  to_here (x ∷ xs) (suc i) within =
      ap (λ (n : ℕ). take n (x ∷ xs)) (let e : suc i + 1 ≡ suc (i + 1) = omega arith in e) ∙ ap (λ rest. x ∷ rest) (to_here xs i (omega arith))

  pub last_same : (xs ys : List X) (x y : X) → xs ++ x ∷ [] ≡ ys ++ y ∷ [] → (xs ≡ ys) × (x ≡ y)
  last_same [] [] x y same = (refl, cc)
  last_same [] (b ∷ ys) x y same = let long : 1 ≡ suc (length (ys ++ y ∷ [])) = ap length same in absurd (omega (arith, length-append ys (y ∷ [])))
  last_same (a ∷ xs) [] x y same = let long : suc (length (xs ++ x ∷ [])) ≡ 1 = ap length same in absurd (omega (arith, length-append xs (x ∷ [])))
  last_same (a ∷ xs) (b ∷ ys) x y same =
      let heads : a ≡ b = cc in
      let tails : xs ++ x ∷ [] ≡ ys ++ y ∷ [] = cc in
      let both = last_same xs ys x y tails in
      ((λ i. heads i ∷ both.0 i), both.1)

  -- a list that begins as another one up to a place and the item there
  pub same_front : (xs ys : List X) (i : ℕ) (x : X) (more : List X) → take (i + 1) xs ≡ take (i + 1) ys → i + 1 ≤ length xs → drop i ys ≡ x ∷ more
      → (take i xs ≡ take i ys) × (drop i xs ≡ x ∷ drop (i + 1) xs)
  same_front xs ys i x more same long at =
      let within : i < length xs = omega arith in
      let other : i < length ys = within_of ys i x more at in
      let both = last_same (take i xs) (take i ys) (here xs i within) (here ys i other) (sym (to_here xs i within) ∙ same ∙ to_here ys i other) in
      let first : here ys i other ≡ x = firsts (sym (from_here ys i other) ∙ at) in
      (both.0, from_here xs i within ∙ ap (λ z. z ∷ drop (i + 1) xs) (both.1 ∙ first))
    where
      firsts : {a b : X} {xs ys : List X} → a ∷ xs ≡ b ∷ ys → a ≡ b
      firsts e = cc

      none : {a : X} {xs : List X} → [] ≡ a ∷ xs → ⊥
      none e = cc

      within_of : (ys : List X) (i : ℕ) (x : X) (more : List X) → drop i ys ≡ x ∷ more → i < length ys
      within_of [] zero x more at = absurd (none at)
      within_of [] (suc i) x more at = absurd (none at)
      within_of (y ∷ ys) zero x more at = omega arith
      within_of (y ∷ ys) (suc i) x more at = let below = within_of ys i x more at in omega arith

-- ---- a component on a level, and what stands behind it

module _ (counts : Counts) (level : Level) (first : Later) (others : LaterLists) (before : List Structure) (place : ℕ) (s : Structure) (at : drop place before ≡ s ∷ drop (place + 1) before) where
  -- all that come later, by the component and those behind it
  pub all_are : parts_after counts.checked level first others (drop place before)
      ≡ map (λ rest. s ∷ rest) (lists_after counts.checked others (drop (place + 1) before)) ++ at_level counts.checked level (structures_after counts.checked first s)
  all_are = ap (parts_after counts.checked level first others) at

  pub both_stand : PartsStand counts first others (drop place before) → Stands counts first s × ListsStand counts others (drop (place + 1) before)
  both_stand stand = subst (λ (ss : List Structure). PartsStand counts first others ss) at stand

  -- each list that comes later behind the component has fewer atoms than with it
  pub small_others : AreSmallLists (parts_after counts.checked level first others (drop place before)) → AreSmallLists (lists_after counts.checked others (drop (place + 1) before))
  small_others small rest there =
      let inside : IsIn (s ∷ rest) (parts_after counts.checked level first others (drop place before)) =
      subst (λ (lists : List (List Structure)). IsIn (s ∷ rest) lists) (sym all_are)
      (in_left (s ∷ rest) (map (λ rest. s ∷ rest) (lists_after counts.checked others (drop (place + 1) before))) (at_level counts.checked level (structures_after counts.checked first s))
      (in_map (λ rest. s ∷ rest) rest (lists_after counts.checked others (drop (place + 1) before)) there)) in
      let whole : length (labels s ++ labels_of_parts (parts_of rest)) < 2 ^ 32 = small (s ∷ rest) inside in
      omega (arith, length-append (labels s) (labels_of_parts (parts_of rest)))

  -- each further component stands before a list of the others
  pub small_firsts : 0 < length (tail_on counts.checked level.cut.behind (supply_labels level.rest)) → AreSmallLists (parts_after counts.checked level first others (drop place before))
      → AreSmall (structures_after counts.checked first s)
  small_firsts some small t there = by (tail_on counts.checked level.cut.behind (supply_labels level.rest)) refl some
    where
      by : (tail : List (List Structure)) → tail_on counts.checked level.cut.behind (supply_labels level.rest) ≡ tail → 0 < length tail → size t < 2 ^ 32
      by [] is none = absurd (omega arith)
      by (rest ∷ more) is some =
          let before_rest : IsIn (t ∷ rest) (each_before (structures_after counts.checked first s) (rest ∷ more)) =
          in_flat_map (λ first. map (λ rest. first ∷ rest) (rest ∷ more)) t (structures_after counts.checked first s) (t ∷ rest) there (inl refl) in
          let on_tail : IsIn (t ∷ rest) (each_before (structures_after counts.checked first s) (tail_on counts.checked level.cut.behind (supply_labels level.rest))) =
          subst (λ (tail : List (List Structure)). IsIn (t ∷ rest) (each_before (structures_after counts.checked first s) tail)) (sym is) before_rest in
          let inside : IsIn (t ∷ rest) (parts_after counts.checked level first others (drop place before)) =
          subst (λ (lists : List (List Structure)). IsIn (t ∷ rest) lists) (sym all_are)
          (in_right (t ∷ rest) (map (λ rest. s ∷ rest) (lists_after counts.checked others (drop (place + 1) before))) (at_level counts.checked level (structures_after counts.checked first s))
          (in_left (t ∷ rest) (each_before (structures_after counts.checked first s) (tail_on counts.checked level.cut.behind (supply_labels level.rest)))
          (on_splits counts.checked level.cut level.splits.left) on_tail)) in
          let whole : length (labels t ++ labels_of_parts (parts_of rest)) < 2 ^ 32 = small (t ∷ rest) inside in
          omega (arith, length-append (labels t) (labels_of_parts (parts_of rest)))

  module _ (level_stands : LevelStands counts level) (stand : PartsStand counts first others (drop place before)) where
    -- those behind the component are stepped
    pub others_step : (others' : LaterLists) (after : List Structure) → ListsStepOn counts (place + 1) others before others' after
        → PartsStepOn counts place (parts_after counts.checked level first others (drop place before)) before level first others' after
    others_step others' after steps =
        let both = same_front after before place s (drop (place + 1) before) steps.kept steps.long at in
        record {
          kept = both.0;
          long = omega (arith, steps.long);
          next =
              all_are
              ∙ ap (λ lists. map (λ rest. s ∷ rest) lists ++ at_level counts.checked level (structures_after counts.checked first s)) steps.next
              ∙ ap (λ ss. ss ∷ parts_after counts.checked level first others' ss) (sym both.1);
          level_stands = level_stands;
          stand = subst (λ (ss : List Structure). PartsStand counts first others' ss) (sym both.1) ((both_stand stand).0, steps.stands);
        }

    -- they have ended, and the component is taken off
    module _ (within : place < length before) (middle popped : List Structure) (component : Structure) (ended : ListsEnd counts (place + 1) others before middle)
        (taken : middle ≡ popped ++ component ∷ []) where
      pub front_left : (popped ≡ take place before) × (component ≡ s)
      front_left =
          let same = last_same popped (take place before) component (here before place within) (sym taken ∙ ended.kept ∙ to_here before place within) in
          let heads : here before place within ∷ drop (place + 1) before ≡ s ∷ drop (place + 1) before = sym (from_here before place within) ∙ at in
          let head : here before place within ≡ s = cc in
          (same.0, same.1 ∙ head)

      pub component_stands : Stands counts first component
      component_stands = subst (λ (t : Structure). Stands counts first t) (sym front_left.1) (both_stand stand).0

      pub component_small : AreSmallLists (parts_after counts.checked level first others (drop place before)) → AreSmall (structures_after counts.checked first component)
      component_small small = subst (λ (t : Structure). AreSmall (structures_after counts.checked first t)) (sym front_left.1) (small_firsts level_stands.some small)

      -- all that come later begin with another component
      pub left_are : parts_after counts.checked level first others (drop place before) ≡ at_level counts.checked level (structures_after counts.checked first component)
      left_are =
          all_are
          ∙ ap (λ lists. map (λ rest. s ∷ rest) lists ++ at_level counts.checked level (structures_after counts.checked first s)) ended.none
          ∙ ap (λ t. at_level counts.checked level (structures_after counts.checked first t)) (sym front_left.1)

      popped_long : length popped ≡ place
      popped_long = ap length front_left.0 ∙ length-take-le place before (omega arith)

      front_of : (added : List Structure) → (take place (popped ++ added) ≡ take place before) × (drop place (popped ++ added) ≡ added)
      unfolding popped_long
      front_of added = (
        subst (λ (n : ℕ). take n (popped ++ added) ≡ take place before) popped_long (take-append_seam popped added ∙ front_left.0),
        subst (λ (n : ℕ). drop n (popped ++ added) ≡ added) popped_long (drop-append_seam popped added),
      )

      -- the next component is put there, and the others are opened again
      pub component_steps : (first' : Later) (next : Structure) (pushed after : List Structure) (rest : Supply) (others' : LaterLists)
          → Next counts (structures_after counts.checked first component) first' next true → pushed ≡ popped ++ next ∷ [] → rest ≡ level.rest
          → OpensLists counts (tail_on counts.checked level.cut.behind (supply_labels rest)) pushed after others'
          → PartsStepOn counts place (parts_after counts.checked level first others (drop place before)) before level first' others' after
      component_steps first' next pushed after rest others' steps put same opens =
          let all : after ≡ popped ++ next ∷ opens.added = opens.put ∙ ap (λ ss. ss ++ opens.added) put ∙ append_snoc popped next opens.added in
          let front = front_of (next ∷ opens.added) in
          record {
            kept = ap (take place) all ∙ front.0;
            long = let long = ap length all in omega (arith, length-append popped (next ∷ opens.added), popped_long);
            next =
                left_are
                ∙ first_at_level counts level first' others' (structures_after counts.checked first component) next opens.added steps.0
                (ap (λ (r : Supply). tail_on counts.checked level.cut.behind (supply_labels r)) (sym same) ∙ opens.whole)
                ∙ ap (λ ss. ss ∷ parts_after counts.checked level first' others' ss) (sym (ap (drop place) all ∙ front.1));
            level_stands = level_stands;
            stand = subst (λ (ss : List Structure). PartsStand counts first' others' ss) (sym (ap (drop place) all ∙ front.1)) (steps.1, opens.stands);
          }

      -- no component comes next, and the split that comes next is opened
      pub split_steps : (first'' : Later) (level' : Level) (others' : LaterLists) (after : List Structure) (opened : Bool)
          → structures_after counts.checked first component ≡ []
          → PartsOpen counts (on_splits counts.checked level.cut level.splits.left) popped level' first'' others' after opened
          → PartsStepTo counts place (parts_after counts.checked level first others (drop place before)) before level' first'' others' after opened
      split_steps first'' level' others' after true none opens =
          let front = front_of opens.added in
          record {
            kept = ap (take place) opens.put ∙ front.0;
            long = let long = ap length opens.put in omega (arith, length-append popped opens.added, popped_long);
            next =
                left_are ∙ ap (at_level counts.checked level) none ∙ opens.whole
                ∙ ap (λ ss. ss ∷ parts_after counts.checked level' first'' others' ss) (sym (ap (drop place) opens.put ∙ front.1));
            level_stands = opens.level_stands;
            stand = subst (λ (ss : List Structure). PartsStand counts first'' others' ss) (sym (ap (drop place) opens.put ∙ front.1)) opens.stand;
          }
      split_steps first'' level' others' after false none opens = record {
        kept = opens.kept ∙ front_left.0;
        none = left_are ∙ ap (at_level counts.checked level) none ∙ opens.none;
      }
