-- Lists that have the same elements as often, in another order.
use Rattle.std.proofs.Common.{◌≡◌, ◌⊎◌, ℕ, zero, suc, ◌+◌, ◌*◌, List, [], ◌∷◌, ◌++◌, map, flat_map, length, refl, sym, ap, ◌∙◌, subst, inl, inr, arith}
use Rattle.std.specs.List.{sum}
use Rattle.std.proofs.lemmas.Grind.{flat_map-append}
use Rattle.lists.specs.Enumeration.{IsIn, Ascends, Enumerated}
use Rattle.lists.proofs.Within.{in_left, in_right, in_either}
use Rattle.lists.proofs.Enumerated as enumerated
use Rattle.lists.proofs.Enumerated.{in_map, from_map, in_flat_map, from_flat_map}
use Rattle.lists.proofs.Places.{is_empty}
use Rattle.lists.proofs.Sums.{sum_more}
use Rattle.lists.proofs.RangeSums.{sum_append, sum_map, sum_exchanged}
use Rattle.count_laws.specs.Pointed.{MeetsTimes}
use Rattle.count_laws.proofs.MetTimes.{Alike, alike_trans, same}

module _ {X : Type 0} where
  abbrev pub Differs : X → X → Type 0
  Differs x y = x ≡ y → ⊥

  -- ---- the same elements, each once

  -- where an element stands
  record Cut (x : X) (ys : List X) : Type 0 where
    pub front : List X
    pub back : List X
    pub is : ys ≡ front ++ x ∷ back

  cut_at : (x : X) (ys : List X) → IsIn x ys → Cut x ys
  cut_at x [] there = absurd there
  cut_at x (y ∷ ys) (inl here) = record { front = []; back = ys; is = ap (λ z. z ∷ ys) (sym here) }
  cut_at x (y ∷ ys) (inr there) =
      let later = cut_at x ys there in record { front = y ∷ later.front; back = later.back; is = ap (λ zs. y ∷ zs) later.is }

  widened : (x y : X) (front back : List X) → IsIn y (front ++ back) → IsIn y (front ++ x ∷ back)
  widened x y front back there =
      elim (in_either y front back there) [ inl left ↦ in_left y front (x ∷ back) left | inr right ↦ in_right y front (x ∷ back) (inr right) ]

  -- without the element the others are still different, and none is it
  removed : (x : X) (front back : List X) → Ascends Differs (front ++ x ∷ back) → Ascends Differs (front ++ back) × (IsIn x (front ++ back) → ⊥)
  removed x [] back a = (a.1, λ there. a.0 x there refl)
  removed x (y ∷ front) back a =
      let later = removed x front back a.1 in (
        ((λ z there. a.0 z (widened x z front back there)), later.0),
        (λ there. elim there [ inl same ↦ a.0 x (in_right x front (x ∷ back) (inl refl)) (sym same) | inr behind ↦ later.1 behind ]),
      )

  moved : (x : X) (front back : List X) → Alike (x ∷ (front ++ back)) (front ++ x ∷ back)
  moved x front back = record {
    sums = λ f.
        omega (
          arith,
          sum_more (f x) (map f (front ++ back)),
          sum_append f front back,
          sum_append f front (x ∷ back),
          sum_more (f x) (map f back),
        );
    within = λ y there. elim there [ inl here ↦ in_right y front (x ∷ back) (inl here) | inr behind ↦ widened x y front back behind ];
  }

  with_first : (x : X) (xs ys : List X) → Alike xs ys → Alike (x ∷ xs) (x ∷ ys)
  with_first x xs ys alike = record {
    sums = λ f. sum_more (f x) (map f xs) ∙ ap (λ (k : ℕ). f x + k) (alike.sums f) ∙ sym (sum_more (f x) (map f ys));
    within = λ y there. elim there [ inl here ↦ inl here | inr behind ↦ inr (alike.within y behind) ];
  }

  pub same_members : (xs ys : List X) → Ascends Differs xs → Ascends Differs ys → ((x : X) → IsIn x xs → IsIn x ys) → ((y : X) → IsIn y ys → IsIn y xs) → Alike xs ys
  same_members [] ys a b to from = same (sym (is_empty ys (λ y there. from y there)))
  same_members (x ∷ xs) ys a b to from =
      let cut = cut_at x ys (to x (inl refl)) in
      let left = removed x cut.front cut.back (subst (Ascends Differs) cut.is b) in
      let others = same_members xs (cut.front ++ cut.back) a.1 left.0
      (λ y there. stays cut y (subst (IsIn y) cut.is (to y (inr there))) (λ is_x. a.0 y there (sym is_x)))
      (λ y there. elim (from y (subst (IsIn y) (sym cut.is) (widened x y cut.front cut.back there))) [
        | inl is_x ↦ absurd (left.1 (subst (λ z. IsIn z (cut.front ++ cut.back)) is_x there))
        | inr behind ↦ behind
      ]) in
      alike_trans (with_first x xs (cut.front ++ cut.back) others) (alike_trans (moved x cut.front cut.back) (same (sym cut.is)))
    where
      stays : (cut : Cut x ys) (y : X) → IsIn y (cut.front ++ x ∷ cut.back) → (y ≡ x → ⊥) → IsIn y (cut.front ++ cut.back)
      stays cut y there other = elim (in_either y cut.front (x ∷ cut.back) there) [
        | inl left ↦ in_left y cut.front cut.back left
        | inr right ↦ elim right [ inl is_x ↦ absurd (other is_x) | inr behind ↦ in_right y cut.front cut.back behind ]
      ]

  -- two lists that have what has a property, each once
  pub same_enumerated : (P : X → Type 0) (xs ys : List X) → Enumerated Differs P xs → Enumerated Differs P ys → Alike xs ys
  same_enumerated P xs ys e f =
      same_members xs ys e.ascends f.ascends (λ x there. f.complete x (e.sound x there)) (λ y there. e.complete y (f.sound y there))

  pub alike_meet : (xs ys : List X) → Alike xs ys → MeetsTimes 1 xs ys
  alike_meet xs ys alike = record { sums = λ f. alike.sums f ∙ once (sum (map f ys)); within = alike.within }
    where
      once : (k : ℕ) → k ≡ 1 * k
      once k = omega arith

module _ {X Y : Type 0} where
  sums_made : (f : Y → ℕ) (make : X → List Y) (xs : List X) → sum (map f (flat_map make xs)) ≡ sum (map (λ x. sum (map f (make x))) xs)
  sums_made f make [] = refl
  sums_made f make (x ∷ xs) =
      sum_append f (make x) (flat_map make xs) ∙ ap (λ (k : ℕ). sum (map f (make x)) + k) (sums_made f make xs)
      ∙ sym (sum_more (sum (map f (make x))) (map (λ z. sum (map f (make z))) xs))

  -- what is made of the same elements
  pub alike_of_alike : (make : X → List Y) (xs ys : List X) → Alike xs ys → Alike (flat_map make xs) (flat_map make ys)
  alike_of_alike make xs ys alike = record {
    sums = λ f. sums_made f make xs ∙ alike.sums (λ x. sum (map f (make x))) ∙ sym (sums_made f make ys);
    within = λ y there. let found = from_flat_map make xs y there in in_flat_map make found.0 ys y (alike.within found.0 found.1) found.2;
  }

  -- ---- elements by what becomes of them

  -- Where each of some elements becomes one of others, and those that become one of these are a list of c elements, what becomes of
  -- all has each of these c times.
  pub met_by_fibres : (c : ℕ) (become : X → Y) (fibre : Y → List X) (W : X → Type 0) (P : Y → Type 0) (xs : List X) (ys : List Y)
      → Enumerated Differs W xs → Enumerated Differs P ys
      → ((y : Y) → P y → Ascends Differs (fibre y))
      → ((y : Y) → P y → length (fibre y) ≡ c)
      → ((y : Y) → P y → (x : X) → IsIn x (fibre y) → W x × (become x ≡ y))
      → ((x : X) → W x → P (become x) × IsIn x (fibre (become x)))
      → MeetsTimes c (map become xs) ys
  met_by_fibres c become fibre W P xs ys e f differ long each all = record {
    sums = λ h. sum_map h become xs ∙ by_fibres.sums (λ x. h (become x)) ∙ counted h ys (λ y there. f.sound y there);
    within = λ y there.
        let found = from_map become y xs there in
        f.complete y (subst P (sym found.2) (all found.0 (e.sound found.0 found.1)).0);
  }
    where
      fibres : Enumerated Differs W (flat_map fibre ys)
      fibres =
          enumerated.made Differs P Differs (λ y x. IsIn x (fibre y)) W fibre ys f
          (λ y p. record { ascends = differ y p; sound = λ x there. there; complete = λ x there. there })
          (λ y z p q apart x w there here same_x. apart (sym (each y p x there).1 ∙ ap become same_x ∙ (each z q w here).1))
          (λ y x p there. (each y p x there).0)
          (λ x w. let found = all x w in (become x, found.0, found.1))

      by_fibres : Alike xs (flat_map fibre ys)
      by_fibres = same_enumerated W xs (flat_map fibre ys) e fibres

      all_alike : (h : Y → ℕ) (y : Y) (zs : List X) → ((x : X) → IsIn x zs → become x ≡ y) → sum (map (λ x. h (become x)) zs) ≡ length zs * h y
      all_alike h y [] same_y = nothing (h y)
        where
          nothing : (k : ℕ) → 0 ≡ 0 * k
          nothing k = omega arith
      all_alike h y (z ∷ zs) same_y =
          sum_more (h (become z)) (map (λ x. h (become x)) zs) ∙ (λ i. h (same_y z (inl refl) i) + all_alike h y zs (λ x there. same_y x (inr there)) i)
          ∙ one_more (length zs) (h y)
        where
          one_more : (n k : ℕ) → k + n * k ≡ suc n * k
          one_more n k = grind arith

      counted : (h : Y → ℕ) (zs : List Y) → ((y : Y) → IsIn y zs → P y) → sum (map (λ x. h (become x)) (flat_map fibre zs)) ≡ c * sum (map h zs)
      counted h [] ps = nothing c
        where
          nothing : (k : ℕ) → 0 ≡ k * 0
          nothing k = omega arith
      counted h (z ∷ zs) ps =
          let p = ps z (inl refl) in
          sum_append (λ x. h (become x)) (fibre z) (flat_map fibre zs)
          ∙ (λ i. (all_alike h z (fibre z) (λ x there. (each z p x there).1) ∙ ap (λ (k : ℕ). k * h z) (long z p)) i + counted h zs (λ y there. ps y (inr there)) i)
          ∙ spread c (h z) (sum (map h zs)) ∙ ap (λ (k : ℕ). c * k) (sym (sum_more (h z) (map h zs)))
        where
          spread : (k m n : ℕ) → k * m + k * n ≡ k * (m + n)
          spread k m n = grind arith

module _ {X Y Z : Type 0} where
  -- rows first or columns first
  pub alike_exchanged : (make : X → Y → List Z) (xs : List X) (ys : List Y) → Alike (flat_map (λ x. flat_map (make x) ys) xs) (flat_map (λ y. flat_map (λ x. make x y) xs) ys)
  alike_exchanged make xs ys = record {
    sums = λ f.
        sums_made f (λ x. flat_map (make x) ys) xs
        ∙ (λ i. sum (map (λ x. sums_made f (make x) ys i) xs))
        ∙ sum_exchanged (λ x y. sum (map f (make x y))) xs ys
        ∙ (λ i. sum (map (λ y. sym (sums_made f (λ x. make x y) xs) i) ys))
        ∙ sym (sums_made f (λ y. flat_map (λ x. make x y) xs) ys);
    within = λ z there.
        let row = from_flat_map (λ x. flat_map (make x) ys) xs z there in
        let cell = from_flat_map (make row.0) ys z row.2 in
        in_flat_map (λ y. flat_map (λ x. make x y) xs) cell.0 ys z cell.1 (in_flat_map (λ x. make x cell.0) row.0 xs z row.1 cell.2);
  }

  -- what is made of what is made
  pub made_of_made : (first : X → List Y) (second : Y → List Z) (xs : List X) → flat_map second (flat_map first xs) ≡ flat_map (λ x. flat_map second (first x)) xs
  made_of_made first second [] = refl
  made_of_made first second (x ∷ xs) = flat_map-append second (first x) (flat_map first xs) ∙ ap (λ rest. flat_map second (first x) ++ rest) (made_of_made first second xs)
