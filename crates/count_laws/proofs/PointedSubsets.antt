-- Lists without repeats pointed at their elements: each is met as often as it has elements.
use Rattle.std.proofs.Common.{◌≡◌, ℕ, zero, suc, Bool, true, false, List, [], ◌∷◌, ◌++◌, flat_map, filter, cond, refl, sym, ap, ◌∙◌, subst, inl, inr}
use Rattle.std.specs.Prelude.{◌||◌}
use Rattle.std.proofs.lemmas.List.{append_assoc}
use Rattle.lists.specs.Enumeration.{IsIn, Ascends}
use Rattle.lists.proofs.Within.{in_either}
use Rattle.lists.proofs.Filters.{filter_all}
use Rattle.count_laws.specs.Multisets.{in_front, subsets}
use Rattle.count_laws.specs.Pointed.{put, enlarged, differs, avoiding, pointed_subsets, MeetsTimes}
use Rattle.count_laws.proofs.MetTimes.{Alike, same, alike_trans, alike_joined, alike_made, made_apart, instead, none_met, none_of_none, times_joined, once_more}
use Rattle.count_laws.proofs.Enlarged.{enlarged_both, enlarged_none, enlarged_made, enlarged_times, enlarged_same, enlarged_exchanged, from_enlarged}
use Rattle.count_laws.proofs.Pointed.{put_before, put_behind}

module _ {X : Type 0} (is_before : X → X → Bool) (size : X → ℕ) where
  -- no element is before this one
  put_first : (x : X) (xs : List X) → ((y : X) → IsIn y xs → is_before y x ≡ false) → (c n : ℕ) (ys : List X) → IsIn ys (subsets size xs c n)
      → put is_before x ys ≡ x ∷ ys
  put_first x [] none zero zero ys (inl is_empty) = subst (λ zs. put is_before x zs ≡ x ∷ zs) (sym is_empty) refl
  put_first x [] none zero zero ys (inr there) = absurd there
  put_first x [] none zero (suc n) ys there = absurd there
  put_first x [] none (suc c) n ys there = absurd there
  put_first x (y ∷ xs) none zero n ys there = put_first x xs (λ z within. none z (inr within)) zero n ys there
  put_first x (y ∷ xs) none (suc c) n ys there =
      elim (in_either ys (in_front (size y) y (subsets size xs c) n) (subsets size xs (suc c) n) there) [
        | inl left ↦
            let found = from_enlarged (λ zs. y ∷ zs) (size y) (subsets size xs c) n ys left in
            subst (λ zs. put is_before x zs ≡ x ∷ zs) (sym found.2) (put_before is_before x y found.0 (none y (inl refl)))
        | inr right ↦ put_first x xs (λ z within. none z (inr within)) (suc c) n ys right
      ]

  module _ (x : X) (xs : List X) (irreflexive : (y : X) → is_before y y ≡ false)
      (first : (y : X) → IsIn y xs → (is_before x y ≡ true) × (is_before y x ≡ false)) where
    pub avoiding_first : filter (differs is_before x) (x ∷ xs) ≡ xs
    avoiding_first =
        (λ i. cond (irreflexive x i || irreflexive x i) (x ∷ filter (differs is_before x) xs) (filter (differs is_before x) xs))
        ∙ filter_all (differs is_before x) xs (λ y there. ap (λ (b : Bool). b || is_before y x) (first y there).0)

    pub avoiding_later : (y : X) → IsIn y xs → filter (differs is_before y) (x ∷ xs) ≡ x ∷ filter (differs is_before y) xs
    avoiding_later y there =
        (λ i. cond ((first y there).1 i || (first y there).0 i) (x ∷ filter (differs is_before y) xs) (filter (differs is_before y) xs))

    pub at_first : (c n : ℕ) → enlarged (put is_before x) (size x) (avoiding is_before size x (x ∷ xs) c) n ≡ in_front (size x) x (subsets size xs c) n
    at_first c n =
        (λ i. enlarged (put is_before x) (size x) (subsets size (avoiding_first i) c) n)
        ∙ enlarged_same (put is_before x) (λ ys. x ∷ ys) (size x) (subsets size xs c) n (λ m ys there. put_first x xs (λ y within. (first y within).1) c m ys there)

    -- a later element stays behind the one in front
    pub at_later : (y : X) → IsIn y xs → (c n : ℕ)
        → enlarged (put is_before y) (size y) (avoiding is_before size y (x ∷ xs) (suc c)) n
        ≡ in_front (size x) x (enlarged (put is_before y) (size y) (avoiding is_before size y xs c)) n ++ enlarged (put is_before y) (size y) (avoiding is_before size y xs (suc c)) n
    at_later y there c n =
        (λ i. enlarged (put is_before y) (size y) (subsets size (avoiding_later y there i) (suc c)) n)
        ∙ enlarged_both (put is_before y) (size y) (in_front (size x) x (avoiding is_before size y xs c)) (avoiding is_before size y xs (suc c)) n
        ∙ ap (λ front. front ++ enlarged (put is_before y) (size y) (avoiding is_before size y xs (suc c)) n)
        (enlarged_exchanged (put is_before y) (λ ys. x ∷ ys) (size y) (size x) (avoiding is_before size y xs c) n
        (λ ys. put_behind is_before y x ys (first y there).0))

    abbrev later : ℕ → ℕ → List (List X)
    later c n = flat_map (λ y. enlarged (put is_before y) (size y) (avoiding is_before size y (x ∷ xs) c) n) xs

    later_front : (c n : ℕ) → Alike (later c n) (in_front (size x) x (pointed_subsets is_before size xs c) n ++ pointed_subsets is_before size xs (suc c) n)
    later_front zero n =
        alike_trans
        (alike_made (λ y. enlarged (put is_before y) (size y) (avoiding is_before size y (x ∷ xs) 0) n) (λ y. enlarged (put is_before y) (size y) (avoiding is_before size y xs 0) n) xs
        (λ y there. same (λ i. enlarged (put is_before y) (size y) (subsets size (avoiding_later y there i) 0) n)))
        (same (ap (λ front. front ++ pointed_subsets is_before size xs 1 n) (sym (enlarged_none (λ ys. x ∷ ys) (size x) n))))
    later_front (suc c) n =
        alike_trans
        (alike_made (λ y. enlarged (put is_before y) (size y) (avoiding is_before size y (x ∷ xs) (suc c)) n)
        (λ y. in_front (size x) x (enlarged (put is_before y) (size y) (avoiding is_before size y xs c)) n ++ enlarged (put is_before y) (size y) (avoiding is_before size y xs (suc c)) n) xs
        (λ y there. same (at_later y there c n)))
        (alike_trans
        (made_apart (λ y. in_front (size x) x (enlarged (put is_before y) (size y) (avoiding is_before size y xs c)) n)
        (λ y. enlarged (put is_before y) (size y) (avoiding is_before size y xs (suc c)) n) xs)
        (same (ap (λ front. front ++ pointed_subsets is_before size xs (suc (suc c)) n)
        (enlarged_made (λ ys. x ∷ ys) (size x) (λ y. enlarged (put is_before y) (size y) (avoiding is_before size y xs c)) n xs))))

    step : (c n : ℕ) → ((m : ℕ) → MeetsTimes c (pointed_subsets is_before size xs c m) (subsets size xs c m))
        → MeetsTimes (suc c) (pointed_subsets is_before size xs (suc c) n) (subsets size xs (suc c) n)
        → MeetsTimes (suc c) (pointed_subsets is_before size (x ∷ xs) (suc c) n) (subsets size (x ∷ xs) (suc c) n)
    step c n fewer others =
        instead (suc c) (pointed_subsets is_before size (x ∷ xs) (suc c) n)
        (in_front (size x) x (λ m. subsets size xs c m ++ pointed_subsets is_before size xs c m) n ++ pointed_subsets is_before size xs (suc c) n)
        (subsets size (x ∷ xs) (suc c) n)
        (alike_trans
        (alike_joined (enlarged (put is_before x) (size x) (avoiding is_before size x (x ∷ xs) c) n) (in_front (size x) x (subsets size xs c) n) (later c n)
        (in_front (size x) x (pointed_subsets is_before size xs c) n ++ pointed_subsets is_before size xs (suc c) n) (same (at_first c n)) (later_front c n))
        (same (sym (append_assoc (in_front (size x) x (subsets size xs c) n) (in_front (size x) x (pointed_subsets is_before size xs c) n) (pointed_subsets is_before size xs (suc c) n))
        ∙ ap (λ front. front ++ pointed_subsets is_before size xs (suc c) n)
        (sym (enlarged_both (λ ys. x ∷ ys) (size x) (subsets size xs c) (pointed_subsets is_before size xs c) n)))))
        (times_joined (suc c) (in_front (size x) x (λ m. subsets size xs c m ++ pointed_subsets is_before size xs c m) n) (pointed_subsets is_before size xs (suc c) n)
        (in_front (size x) x (subsets size xs c) n) (subsets size xs (suc c) n)
        (enlarged_times (suc c) (λ ys. x ∷ ys) (size x) (λ m. subsets size xs c m ++ pointed_subsets is_before size xs c m) (subsets size xs c) n
        (λ m. once_more c (pointed_subsets is_before size xs c m) (subsets size xs c m) (fewer m)))
        others)

  pub subsets_met : (irreflexive : (y : X) → is_before y y ≡ false) (xs : List X) → Ascends (λ x y. (is_before x y ≡ true) × (is_before y x ≡ false)) xs → (c n : ℕ)
      → MeetsTimes c (pointed_subsets is_before size xs c n) (subsets size xs c n)
  subsets_met irreflexive xs climbs zero n = none_met (subsets size xs 0 n)
  subsets_met irreflexive [] climbs (suc c) n = none_of_none (suc c)
  subsets_met irreflexive (x ∷ xs) climbs (suc c) n =
      step x xs irreflexive climbs.0 c n (subsets_met irreflexive xs climbs.1 c) (subsets_met irreflexive xs climbs.1 (suc c) n)
