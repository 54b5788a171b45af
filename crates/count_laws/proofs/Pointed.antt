-- Multisets pointed at their elements: each is met as often as it has elements.
use Rattle.std.proofs.Common.{◌≡◌, ℕ, zero, suc, ◌+◌, ◌-◌, ◌*◌, Bool, true, false, List, [], ◌∷◌, ◌++◌, flat_map, refl, sym, ap, ◌∙◌, subst, inl, inr, arith}
use Rattle.std.specs.Prelude.{if◌then◌else◌}
use Rattle.std.specs.List.{range_with_len}
use Rattle.std.proofs.lemmas.List.{append_assoc}
use Rattle.lists.specs.Enumeration.{IsIn, Ascends}
use Rattle.lists.proofs.Within.{in_either}
use Rattle.count_laws.specs.Multisets.{Sized, none_taken, in_front, multisets}
use Rattle.count_laws.specs.Laws.{MultisetsAreMet}
use Rattle.count_laws.specs.Pointed.{put, put_times, enlarged, pointed_at, pointed, MeetsTimes}
use Rattle.count_laws.proofs.MetTimes.{Alike, same, alike_trans, alike_joined, alike_made, made_apart, exchanged, instead, none_met, none_of_none, times_joined, once_more}
use Rattle.count_laws.proofs.Enlarged.{enlarged_both, enlarged_none, enlarged_made, enlarged_alike, enlarged_times, enlarged_same, enlarged_twice, enlarged_exchanged, from_enlarged}

-- a loop over numbers, each one more
made_later : {A : Type 0} (f : ℕ → List A) (start n : ℕ) → flat_map f (range_with_len (start + 1) n) ≡ flat_map (λ j. f (suc j)) (range_with_len start n)
made_later f start zero = refl
made_later f start (suc n) = λ i. f (next start i) ++ made_later f (start + 1) n i
  where
    next : (n : ℕ) → n + 1 ≡ suc n
    next n = omega arith

module _ {X : Type 0} (is_before : X → X → Bool) where
  pub put_before : (x y : X) (ys : List X) → is_before y x ≡ false → put is_before x (y ∷ ys) ≡ x ∷ y ∷ ys
  put_before x y ys not_before = ap (λ (b : Bool). if b then y ∷ put is_before x ys else x ∷ y ∷ ys) not_before

  pub put_behind : (x y : X) (ys : List X) → is_before y x ≡ true → put is_before x (y ∷ ys) ≡ y ∷ put is_before x ys
  put_behind x y ys before = ap (λ (b : Bool). if b then y ∷ put is_before x ys else x ∷ y ∷ ys) before

  module _ (size : X → ℕ) where
    -- by the first of the elements put in: once into a multiset, or once more into a pointed one
    by_first : (x : X) (lists : Sized X) (c n : ℕ)
        → pointed_at is_before size x lists (suc c) n ≡ enlarged (put is_before x) (size x) (λ m. lists c m ++ pointed_at is_before size x lists c m) n
    by_first x lists c n =
        (λ i. once i ++ more i)
        ∙ sym (enlarged_both (put is_before x) (size x) (lists c) (pointed_at is_before size x lists c) n)
      where
        once : enlarged (put_times is_before 1 x) (1 * size x) (lists (suc c - 1)) n ≡ enlarged (put is_before x) (size x) (lists c) n
        once = λ i. enlarged (put is_before x) (one (size x) i) (lists (less c i)) n
          where
            one : (k : ℕ) → 1 * k ≡ k
            one k = omega arith

            less : (k : ℕ) → suc k - 1 ≡ k
            less k = omega arith

        again : (j : ℕ)
            → enlarged (put_times is_before (suc j) x) (suc j * size x) (lists (suc c - suc j)) n
            ≡ enlarged (put is_before x) (size x) (enlarged (put_times is_before j x) (j * size x) (lists (c - j))) n
        again j =
            (λ i. enlarged (put_times is_before (suc j) x) (longer j (size x) i) (lists (less c j i)) n)
            ∙ sym (enlarged_twice (put is_before x) (put_times is_before j x) (size x) (j * size x) (lists (c - j)) n)
          where
            longer : (j k : ℕ) → suc j * k ≡ k + j * k
            longer j k = grind arith

            less : (k j : ℕ) → suc k - suc j ≡ k - j
            less k j = omega arith

        more : flat_map (λ j. enlarged (put_times is_before j x) (j * size x) (lists (suc c - j)) n) (range_with_len 2 c)
            ≡ enlarged (put is_before x) (size x) (pointed_at is_before size x lists c) n
        more =
            made_later (λ j. enlarged (put_times is_before j x) (j * size x) (lists (suc c - j)) n) 1 c
            ∙ (λ i. flat_map (λ j. again j i) (range_with_len 1 c))
            ∙ enlarged_made (put is_before x) (size x) (λ j. enlarged (put_times is_before j x) (j * size x) (lists (c - j))) n (range_with_len 1 c)

    -- no element is before this one
    put_first : (x : X) (xs : List X) → ((y : X) → IsIn y xs → is_before y x ≡ false) → (c n : ℕ) (ys : List X) → IsIn ys (multisets size xs c n)
        → put is_before x ys ≡ x ∷ ys
    put_first x [] none zero zero ys (inl is_empty) = subst (λ zs. put is_before x zs ≡ x ∷ zs) (sym is_empty) refl
    put_first x [] none zero zero ys (inr there) = absurd there
    put_first x [] none zero (suc n) ys there = absurd there
    put_first x [] none (suc c) n ys there = absurd there
    put_first x (y ∷ xs) none zero n ys there = put_first x xs (λ z within. none z (inr within)) zero n ys there
    put_first x (y ∷ xs) none (suc c) n ys there =
        elim (in_either ys (in_front (size y) y (multisets size (y ∷ xs) c) n) (multisets size xs (suc c) n) there) [
          | inl left ↦
              let found = from_enlarged (λ zs. y ∷ zs) (size y) (multisets size (y ∷ xs) c) n ys left in
              subst (λ zs. put is_before x zs ≡ x ∷ zs) (sym found.2) (put_before x y found.0 (none y (inl refl)))
          | inr right ↦ put_first x xs (λ z within. none z (inr within)) (suc c) n ys right
        ]

    module _ (x : X) (xs : List X) (irreflexive : (y : X) → is_before y y ≡ false)
        (first : (y : X) → IsIn y xs → (is_before x y ≡ true) × (is_before y x ≡ false)) where
      abbrev all : Sized X
      all = multisets size (x ∷ xs)

      none_before : (y : X) → IsIn y (x ∷ xs) → is_before y x ≡ false
      none_before y (inl is_first) = subst (λ z. is_before z x ≡ false) (sym is_first) (irreflexive x)
      none_before y (inr there) = (first y there).1

      first_by : (c : ℕ) → ((m : ℕ) (ys : List X) → IsIn ys (pointed_at is_before size x all c m) → put is_before x ys ≡ x ∷ ys) → (n : ℕ)
          → pointed_at is_before size x all (suc c) n ≡ in_front (size x) x (λ m. all c m ++ pointed_at is_before size x all c m) n
      first_by c begins n =
          by_first x all c n
          ∙ enlarged_same (put is_before x) (λ ys. x ∷ ys) (size x) (λ m. all c m ++ pointed_at is_before size x all c m) n
          (λ m ys there. elim (in_either ys (all c m) (pointed_at is_before size x all c m) there) [
            | inl left ↦ put_first x (x ∷ xs) none_before c m ys left
            | inr right ↦ begins m ys right
          ])

      at_first : (c n : ℕ) → pointed_at is_before size x all (suc c) n ≡ in_front (size x) x (λ m. all c m ++ pointed_at is_before size x all c m) n
      at_first zero n = first_by zero (λ m ys there. absurd there) n
      at_first (suc c) n = first_by (suc c) (begins (at_first c)) n
        where
          begins : ((m : ℕ) → pointed_at is_before size x all (suc c) m ≡ in_front (size x) x (λ m. all c m ++ pointed_at is_before size x all c m) m)
              → (m : ℕ) (ys : List X) → IsIn ys (pointed_at is_before size x all (suc c) m) → put is_before x ys ≡ x ∷ ys
          begins earlier m ys there =
              let found = from_enlarged (λ zs. x ∷ zs) (size x) (λ k. all c k ++ pointed_at is_before size x all c k) m ys (subst (IsIn ys) (earlier m) there) in
              subst (λ zs. put is_before x zs ≡ x ∷ zs) (sym found.2) (put_before x x found.0 (irreflexive x))

      -- a later element stays behind those in front
      at_later : (y : X) → is_before x y ≡ true → (c n : ℕ)
          → Alike (pointed_at is_before size y all (suc c) n)
          (in_front (size x) x (pointed_at is_before size y all c) n ++ pointed_at is_before size y (multisets size xs) (suc c) n)
      at_later y before zero n =
          same
          (by_first y all 0 n ∙ sym (by_first y (multisets size xs) 0 n)
          ∙ ap (λ front. front ++ pointed_at is_before size y (multisets size xs) 1 n) (sym (enlarged_none (λ ys. x ∷ ys) (size x) n)))
      at_later y before (suc c) n =
          alike_trans (same (by_first y all (suc c) n))
          (alike_trans (enlarged_alike (put is_before y) (size y) (λ m. all (suc c) m ++ pointed_at is_before size y all (suc c) m) (λ m. front m ++ back m) n
          (λ m. apart m (at_later y before c m)))
          (same (enlarged_both (put is_before y) (size y) front back n ∙ (λ i. front_is i ++ sym (by_first y (multisets size xs) (suc c) n) i))))
        where
          front : ℕ → List (List X)
          front m = in_front (size x) x (all c) m ++ in_front (size x) x (pointed_at is_before size y all c) m

          back : ℕ → List (List X)
          back m = multisets size xs (suc c) m ++ pointed_at is_before size y (multisets size xs) (suc c) m

          apart : (m : ℕ) → Alike (pointed_at is_before size y all (suc c) m) (in_front (size x) x (pointed_at is_before size y all c) m ++ pointed_at is_before size y (multisets size xs) (suc c) m)
              → Alike (all (suc c) m ++ pointed_at is_before size y all (suc c) m) (front m ++ back m)
          apart m earlier =
              alike_trans
              (alike_joined (all (suc c) m) (all (suc c) m) (pointed_at is_before size y all (suc c) m)
              (in_front (size x) x (pointed_at is_before size y all c) m ++ pointed_at is_before size y (multisets size xs) (suc c) m)
              (same refl) earlier)
              (exchanged (in_front (size x) x (all c) m) (multisets size xs (suc c) m)
              (in_front (size x) x (pointed_at is_before size y all c) m) (pointed_at is_before size y (multisets size xs) (suc c) m))

          front_is : enlarged (put is_before y) (size y) front n ≡ in_front (size x) x (pointed_at is_before size y all (suc c)) n
          front_is =
              (λ i. enlarged (put is_before y) (size y) (λ m. sym (enlarged_both (λ ys. x ∷ ys) (size x) (all c) (pointed_at is_before size y all c) m) i) n)
              ∙ enlarged_exchanged (put is_before y) (λ ys. x ∷ ys) (size y) (size x) (λ m. all c m ++ pointed_at is_before size y all c m) n
              (λ ys. put_behind y x ys before)
              ∙ (λ i. in_front (size x) x (λ m. sym (by_first y all c m) i) n)

      pointed_front : (c n : ℕ)
          → Alike (pointed is_before size (x ∷ xs) (suc c) n)
          (in_front (size x) x (λ m. all c m ++ pointed is_before size (x ∷ xs) c m) n ++ pointed is_before size xs (suc c) n)
      pointed_front c n =
          alike_trans
          (alike_joined (pointed_at is_before size x all (suc c) n) (in_front (size x) x (λ m. all c m ++ pointed_at is_before size x all c m) n)
          (flat_map (λ y. pointed_at is_before size y all (suc c) n) xs)
          (in_front (size x) x (λ m. flat_map (λ y. pointed_at is_before size y all c m) xs) n ++ pointed is_before size xs (suc c) n)
          (same (at_first c n)) later)
          (same
          (sym (append_assoc (in_front (size x) x (λ m. all c m ++ pointed_at is_before size x all c m) n)
          (in_front (size x) x (λ m. flat_map (λ y. pointed_at is_before size y all c m) xs) n) (pointed is_before size xs (suc c) n))
          ∙ ap (λ front. front ++ pointed is_before size xs (suc c) n)
          (sym (enlarged_both (λ ys. x ∷ ys) (size x) (λ m. all c m ++ pointed_at is_before size x all c m) (λ m. flat_map (λ y. pointed_at is_before size y all c m) xs) n)
          ∙ (λ i. in_front (size x) x (λ m. append_assoc (all c m) (pointed_at is_before size x all c m) (flat_map (λ y. pointed_at is_before size y all c m) xs) i) n))))
        where
          later : Alike (flat_map (λ y. pointed_at is_before size y all (suc c) n) xs)
              (in_front (size x) x (λ m. flat_map (λ y. pointed_at is_before size y all c m) xs) n ++ pointed is_before size xs (suc c) n)
          later =
              alike_trans
              (alike_made (λ y. pointed_at is_before size y all (suc c) n)
              (λ y. in_front (size x) x (pointed_at is_before size y all c) n ++ pointed_at is_before size y (multisets size xs) (suc c) n) xs
              (λ y there. at_later y (first y there).0 c n))
              (alike_trans
              (made_apart (λ y. in_front (size x) x (pointed_at is_before size y all c) n) (λ y. pointed_at is_before size y (multisets size xs) (suc c) n) xs)
              (same (ap (λ front. front ++ pointed is_before size xs (suc c) n)
              (enlarged_made (λ ys. x ∷ ys) (size x) (λ y. pointed_at is_before size y all c) n xs))))

      step : (c n : ℕ) → ((m : ℕ) → MeetsTimes c (pointed is_before size (x ∷ xs) c m) (all c m)) → MeetsTimes (suc c) (pointed is_before size xs (suc c) n) (multisets size xs (suc c) n)
          → MeetsTimes (suc c) (pointed is_before size (x ∷ xs) (suc c) n) (all (suc c) n)
      step c n fewer others =
          instead (suc c) (pointed is_before size (x ∷ xs) (suc c) n)
          (in_front (size x) x (λ m. all c m ++ pointed is_before size (x ∷ xs) c m) n ++ pointed is_before size xs (suc c) n) (all (suc c) n)
          (pointed_front c n)
          (times_joined (suc c) (in_front (size x) x (λ m. all c m ++ pointed is_before size (x ∷ xs) c m) n) (pointed is_before size xs (suc c) n)
          (in_front (size x) x (all c) n) (multisets size xs (suc c) n)
          (enlarged_times (suc c) (λ ys. x ∷ ys) (size x) (λ m. all c m ++ pointed is_before size (x ∷ xs) c m) (all c) n
          (λ m. once_more c (pointed is_before size (x ∷ xs) c m) (all c m) (fewer m)))
          others)

    none_pointed : (xs : List X) (lists : Sized X) (n : ℕ) → flat_map (λ x. pointed_at is_before size x lists 0 n) xs ≡ []
    none_pointed [] lists n = refl
    none_pointed (x ∷ xs) lists n = none_pointed xs lists n

    pub multisets_met : (irreflexive : (y : X) → is_before y y ≡ false) (xs : List X) → Ascends (λ x y. (is_before x y ≡ true) × (is_before y x ≡ false)) xs → (c n : ℕ)
        → MeetsTimes c (pointed is_before size xs c n) (multisets size xs c n)
    multisets_met irreflexive [] climbs zero n = none_met (none_taken 0 n)
    multisets_met irreflexive [] climbs (suc c) n = none_of_none (suc c)
    multisets_met irreflexive (x ∷ xs) climbs zero n =
        instead 0 (pointed is_before size (x ∷ xs) 0 n) [] (multisets size (x ∷ xs) 0 n) (same (none_pointed (x ∷ xs) (multisets size (x ∷ xs)) n))
        (none_met (multisets size (x ∷ xs) 0 n))
    multisets_met irreflexive (x ∷ xs) climbs (suc c) n =
        step x xs irreflexive climbs.0 c n (multisets_met irreflexive (x ∷ xs) climbs c) (multisets_met irreflexive xs climbs.1 (suc c) n)

pub multisets_are_met : (X : Type 0) → MultisetsAreMet X
multisets_are_met X = record {
  meets = λ is_before size xs c n ascending. multisets_met is_before size ascending.irreflexive xs ascending.ascends c n;
}
