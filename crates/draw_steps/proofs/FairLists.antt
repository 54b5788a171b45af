-- The choices of lists of components are even, where those of the first components are and each list is met equally often.
use Rattle.std.proofs.Common.{◌≡◌, ◌⊎◌, ℕ, zero, suc, ◌+◌, ◌-◌, ◌*◌, ◌<◌, ◌≤◌, List, [], ◌∷◌, map, flat_map, length, length-append, true, refl, sym, ap, ◌∙◌, subst, inl, inr, arith}
use Rattle.std.specs.List.{range_with_len}
use Rattle.lists.specs.Enumeration.{IsIn}
use Rattle.lists.proofs.Enumerated.{in_map, in_flat_map}
use Rattle.lists.proofs.RangeSums.{in_range}
use Rattle.spec_syntax.specs.declared.statement.Universe.{Universe}
use Rattle.struct_model.specs.Structure.{Structure}
use Rattle.struct_model.specs.Membership.{is_supply}
use Rattle.splits.specs.Splits.{Split, splits}
use Rattle.splits.specs.Parts.{parts}
use Rattle.listing_laws.specs.Numbers.{ways}
use Rattle.size_counts.specs.CountedView.{Counts, number_of}
use Rattle.count_laws.specs.Pointed.{MeetsTimes}
use Rattle.count_laws.proofs.MetTimes as met
use Rattle.choice_laws.specs.Trees.{Tree, end, choose, graft}
use Rattle.choice_laws.specs.Even.{IsEven}
use Rattle.choice_laws.proofs.Evens.{choice_even, graft_even, instead}
use Rattle.choice_laws.proofs.Grafts.{graft_graft}
use Rattle.choice_laws.proofs.Arithmetic.{first_factor, second_factor}
use Rattle.choice_laws.proofs.Rearranged.{alike_of_alike, made_of_made}
use Rattle.draw_steps.specs.declared.missing.Lists.{Lists}
use Rattle.draw_steps.specs.Steps.{ending, in_front}
use Rattle.draw_steps.specs.Choices.{first_of, lists_number, length_weight, length_step, part_step, split_step, list_choices}
use Rattle.draw_steps.proofs.FairTrees.{end_even, among_even, graft_among, length_pairs, pairs_even, ending_ending, ending_graft}
use Rattle.draw_steps.proofs.FairParts.{part_is, parts_number, by_lengths}

-- some element of a list that isn't empty
pub some_of : {X : Type 0} (xs : List X) → 0 < length xs → (x : X) × IsIn x xs
some_of [] some = absurd (omega (arith, some))
some_of (x ∷ xs) some = (x, inl refl)

one_less : (c : ℕ) → c ≡ suc c - 1
one_less c = omega arith

-- what is made of each has the same length
pub same_length : {X Y : Type 0} (k : ℕ) (make : X → List Y) (xs : List X) → ((x : X) → IsIn x xs → length (make x) ≡ k) → length (flat_map make xs) ≡ length xs * k
same_length k make [] long = nothing k
  where
    nothing : (k : ℕ) → 0 ≡ 0 * k
    nothing k = omega arith
same_length k make (x ∷ xs) long =
    length-append (make x) (flat_map make xs) ∙ (λ i. long x (inl refl) i + same_length k make xs (λ y there. long y (inr there)) i) ∙ one_more (length xs) k
  where
    one_more : (n k : ℕ) → k + n * k ≡ suc n * k
    one_more n k = grind arith

module _ (counts : Counts) (inner : ℕ → List ℕ → Tree Structure) (lists : Lists) where
  abbrev universe : Universe
  universe = counts.checked.universe

  -- How lists of components are made: `firsts behind u` has the structures of the first one on a supply, where so many are missing
  -- behind it, `target c u` the lists of c components, each of which comes of what `put` makes of a first one and a list of the
  -- others so many times, and `finish` is what becomes of the components that were chosen.
  pub record AreMade (most : ℕ) (firsts : ℕ → List ℕ → List Structure) (target : ℕ → List ℕ → List (List Structure)) (put : Structure → List Structure → List Structure)
      (finish : List Structure → List Structure) (times : ℕ → ℕ) (Good : Structure → Type 0) : Type 0 where
    pub finish_none : finish [] ≡ []
    pub finish_more : (s : Structure) (ss : List Structure) → finish (s ∷ ss) ≡ put s (finish ss)
    pub holds : (x s : Structure) (ys : List Structure) → (x ≡ s) ⊎ IsIn x ys → IsIn x (put s ys)
    pub none : (u : List ℕ) → is_supply universe u ≡ true → 0 < length (target 0 u) → target 0 u ≡ [] ∷ []
    pub first_number : (behind : ℕ) (u : List ℕ) → behind < most → is_supply universe u ≡ true → length (firsts behind u) ≡ number_of counts (first_of counts lists (suc behind)) (length u)
    pub others_number : (c : ℕ) (u : List ℕ) → c < most → is_supply universe u ≡ true → length (target c u) ≡ lists_number counts lists c (length u)
    pub meets : (c : ℕ) (u : List ℕ) → c < most → is_supply universe u ≡ true
        → MeetsTimes (times c) (flat_map (λ split. flat_map (λ s. map (put s) (target c split.rest)) (firsts c split.part)) (splits u)) (target (suc c) u)
    pub some : (c : ℕ) → c < most → 0 < times c
    pub fair : (behind : ℕ) (u : List ℕ) → behind < most → is_supply universe u ≡ true → 0 < length (firsts behind u) → ((s : Structure) → IsIn s (firsts behind u) → Good s)
        → IsEven (inner (first_of counts lists (suc behind)) u) (firsts behind u)

  module _ (most : ℕ) (firsts : ℕ → List ℕ → List Structure) (target : ℕ → List ℕ → List (List Structure)) (put : Structure → List Structure → List Structure)
      (finish : List Structure → List Structure) (times : ℕ → ℕ) (Good : Structure → Type 0) (made : AreMade most firsts target put finish times Good) where
    abbrev AreGood : List (List Structure) → Type 0
    AreGood sss = (ss : List Structure) → IsIn ss sss → (s : Structure) → IsIn s ss → Good s

    -- the choices of the others, with what becomes of them
    abbrev finished : ℕ → List ℕ → Tree (List Structure)
    finished c u = ending finish (list_choices counts inner lists c u)

    -- what is chosen on a split
    abbrev on_split : ℕ → Split → Tree (List Structure)
    on_split c split = graft (λ s. ending (put s) (finished c split.rest)) (inner (first_of counts lists (suc c)) split.part)

    -- what there is on a split
    abbrev lists_on_split : ℕ → Split → List (List Structure)
    lists_on_split c split = flat_map (λ s. map (put s) (target c split.rest)) (firsts c split.part)

    -- the choices of a list by the number of atoms of the first component
    module _ (c : ℕ) (u : List ℕ) where
      abbrev weight : ℕ → ℕ
      weight d = length_weight counts lists (suc c) (length u) d

      abbrev lengths : List ℕ
      lengths = range_with_len 0 (length u + 1)

      put_later : (s : Structure) (tree : Tree (List Structure)) → ending finish (ending (λ ss. s ∷ ss) tree) ≡ ending (put s) (ending finish tree)
      put_later s tree =
          ending_ending (λ ss. s ∷ ss) finish tree ∙ (λ i. graft (λ ss. end (made.finish_more s ss i)) tree) ∙ sym (ending_ending finish (put s) tree)

      split_later : (split : Split)
          → ending finish (in_front (inner (first_of counts lists (suc c)) split.part) (list_choices counts inner lists c split.rest)) ≡ on_split c split
      split_later split =
          ending_graft (λ s. ending (λ ss. s ∷ ss) (list_choices counts inner lists c split.rest)) finish (inner (first_of counts lists (suc c)) split.part)
          ∙ (λ i. graft (λ s. put_later s (list_choices counts inner lists c split.rest) i) (inner (first_of counts lists (suc c)) split.part))

      pub by_length : finished (suc c) u ≡ choose (map {B = ℕ × Tree (List Structure)} (λ d. (weight d, graft (on_split c) (part_step u d))) lengths)
      by_length =
          ending_graft (λ split. in_front (inner (first_of counts lists (suc c)) split.part) (list_choices counts inner lists c split.rest)) finish (split_step counts lists (suc c) u)
          ∙ (λ i. graft (λ split. split_later split i) (split_step counts lists (suc c) u))
          ∙ graft_graft (part_step u) (on_split c) (length_step counts lists (suc c) (length u))
          ∙ graft_among (λ d. graft (on_split c) (part_step u d)) weight lengths

      abbrev of_length : ℕ → List (List Structure)
      of_length d = flat_map (lists_on_split c) (parts d d u)

      module _ (few : c < most) (supplied : is_supply universe u ≡ true) where
        split_number : (d : ℕ) (split : Split) → IsIn split (parts d d u)
            → length (lists_on_split c split) ≡ number_of counts (first_of counts lists (suc c)) d * lists_number counts lists c (length u - d)
        split_number d split there =
            let is = part_is universe u supplied d split there in
            length_pairs put (firsts c split.part) (target c split.rest)
            ∙ (λ i. (made.first_number c split.part few is.part ∙ ap (number_of counts (first_of counts lists (suc c))) is.part_length) i
            * (made.others_number c split.rest few is.rest ∙ ap (lists_number counts lists c) is.rest_length) i)

        length_number : (d : ℕ) → IsIn d lengths → length (of_length d) ≡ 1 * weight d
        length_number d there =
            same_length (number_of counts (first_of counts lists (suc c)) d * lists_number counts lists c (length u - d)) (lists_on_split c) (parts d d u) (split_number d)
            ∙ ap (λ (k : ℕ). k * (number_of counts (first_of counts lists (suc c)) d * lists_number counts lists c (length u - d)))
            (parts_number universe u supplied d (let within = in_range d 0 (length u + 1) there in omega (arith, within.1)))
            ∙ ap (λ (n : ℕ). ways universe (length u) d * (number_of counts (first_of counts lists (suc c)) d * lists_number counts lists n (length u - d))) (one_less c)
            ∙ once (weight d)
          where
            once : (k : ℕ) → k ≡ 1 * k
            once k = omega arith

        all_meet : MeetsTimes (times c) (flat_map of_length lengths) (target (suc c) u)
        all_meet =
            met.instead (times c) (flat_map of_length lengths) (flat_map (lists_on_split c) (splits u)) (target (suc c) u)
            (met.alike_trans (met.same (sym (made_of_made (λ d. parts d d u) (lists_on_split c) lengths)))
            (alike_of_alike (lists_on_split c) (flat_map (λ d. parts d d u) lengths) (splits u) (by_lengths universe u supplied)))
            (made.meets c u few supplied)

        -- what stands in what is on a split
        module _ (good : AreGood (target (suc c) u)) (split : Split) (is_split : IsIn split (splits u)) where
          within : (s : Structure) → IsIn s (firsts c split.part) → (ys : List Structure) → IsIn ys (target c split.rest) → IsIn (put s ys) (target (suc c) u)
          within s at ys there =
              (made.meets c u few supplied).within (put s ys)
              (in_flat_map (lists_on_split c) split (splits u) (put s ys) is_split
              (in_flat_map (λ z. map (put z) (target c split.rest)) s (firsts c split.part) (put s ys) at (in_map (put s) ys (target c split.rest) there)))

          first_good : 0 < length (target c split.rest) → (s : Structure) → IsIn s (firsts c split.part) → Good s
          first_good some s at =
              let other = some_of (target c split.rest) some in
              good (put s other.0) (within s at other.0 other.1) s (made.holds s s other.0 (inl refl))

          others_good : 0 < length (firsts c split.part) → AreGood (target c split.rest)
          others_good some ys there x at =
              let first = some_of (firsts c split.part) some in
              good (put first.0 ys) (within first.0 first.1 ys there) x (made.holds x first.0 ys (inr at))

    even_behind : (c : ℕ) (u : List ℕ) (few : c < most) (supplied : is_supply universe u ≡ true) → AreGood (target (suc c) u)
        → ((v : List ℕ) → is_supply universe v ≡ true → 0 < length (target c v) → AreGood (target c v) → IsEven (finished c v) (target c v))
        → IsEven (finished (suc c) u) (target (suc c) u)
    even_behind c u few supplied good others =
        instead (times c) (finished (suc c) u) (flat_map (of_length c u) (lengths c u)) (target (suc c) u) (made.some c few)
        (subst (λ tree. IsEven tree (flat_map (of_length c u) (lengths c u))) (sym (by_length c u))
        (choice_even 1 (weight c u) (λ d. graft (on_split c) (part_step u d)) (of_length c u) (lengths c u) (length_number c u few supplied) (λ d there heavy. of_length_even d heavy)))
        (all_meet c u few supplied)
      where
        of_length_even : (d : ℕ) → 0 < weight c u d → IsEven (graft (on_split c) (part_step u d)) (of_length c u d)
        of_length_even d heavy =
            graft_even (number_of counts (first_of counts lists (suc c)) d * lists_number counts lists c (length u - d)) (on_split c) (lists_on_split c) (part_step u d) (parts d d u)
            (among_even (parts d d u)) (split_number c u few supplied d) (λ split there. on_split_even split there)
          where
            both : 0 < number_of counts (first_of counts lists (suc c)) d * lists_number counts lists c (length u - d)
            both =
                second_factor (ways universe (length u) d) (number_of counts (first_of counts lists (suc c)) d * lists_number counts lists c (length u - d))
                (subst (λ (n : ℕ). 0 < ways universe (length u) d * (number_of counts (first_of counts lists (suc c)) d * lists_number counts lists n (length u - d))) (sym (one_less c)) heavy)

            on_split_even : (split : Split) → IsIn split (parts d d u) → IsEven (on_split c split) (lists_on_split c split)
            on_split_even split there =
                let is = part_is universe u supplied d split there in
                let first_some : 0 < length (firsts c split.part) =
                omega (
                  arith,
                  made.first_number c split.part few is.part,
                  ap (number_of counts (first_of counts lists (suc c))) is.part_length,
                  first_factor (number_of counts (first_of counts lists (suc c)) d) (lists_number counts lists c (length u - d)) both,
                ) in
                let others_some : 0 < length (target c split.rest) =
                omega (
                  arith,
                  made.others_number c split.rest few is.rest,
                  ap (lists_number counts lists c) is.rest_length,
                  second_factor (number_of counts (first_of counts lists (suc c)) d) (lists_number counts lists c (length u - d)) both,
                ) in
                pairs_even put (inner (first_of counts lists (suc c)) split.part) (finished c split.rest) (firsts c split.part) (target c split.rest)
                (made.fair c split.part few is.part first_some (first_good c u few supplied good split is.is_split others_some))
                (others split.rest is.rest others_some (others_good c u few supplied good split is.is_split first_some))

    -- the choices of lists of components are even over these lists
    pub lists_even : (c : ℕ) (u : List ℕ) → c ≤ most → is_supply universe u ≡ true → 0 < length (target c u) → AreGood (target c u) → IsEven (finished c u) (target c u)
    lists_even zero u few supplied some good =
        subst (IsEven (end (finish []))) (sym (made.none u supplied some)) (subst (λ ss. IsEven (end (finish [])) (ss ∷ [])) made.finish_none (end_even (finish [])))
    lists_even (suc c) u few supplied some good =
        even_behind c u (omega (arith, few)) supplied good (λ v given more well. lists_even c v (omega (arith, few)) given more well)
