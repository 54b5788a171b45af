-- Enumerations under joining, mapping, choosing and replacing each element by a list.
use Rattle.std.specs.Prelude.{◌≡◌, ◌⊎◌, Bool, true, false, List, [], ◌∷◌, ◌++◌, map, refl}
use Rattle.std.specs.List.{flat_map, filter}
use Rattle.std.proofs.Common.{ap, ◌∙◌, sym, subst, cond, inl, inr, true≢false}
use Rattle.lists.specs.Enumeration.{IsIn, Ascends, Enumerated}
use Rattle.lists.proofs.Within.{in_left, in_right, in_either}

module _ {X : Type 0} where
  pub ascends_append : (R : X → X → Type 0) (xs ys : List X) → Ascends R xs → Ascends R ys
      → ((x : X) → IsIn x xs → (y : X) → IsIn y ys → R x y) → Ascends R (xs ++ ys)
  ascends_append R [] ys first second between = second
  ascends_append R (x ∷ xs) ys first second between = (
    (λ y within. elim (in_either y xs ys within) [ inl left ↦ first.0 y left | inr right ↦ between x (inl refl) y right ]),
    ascends_append R xs ys first.1 second (λ z here. between z (inr here)),
  )

  pub append : (R : X → X → Type 0) (P Q W : X → Type 0) (xs ys : List X) → Enumerated R P xs → Enumerated R Q ys
      → ((x : X) → P x → (y : X) → Q y → R x y) → ((x : X) → P x → W x) → ((x : X) → Q x → W x) → ((x : X) → W x → P x ⊎ Q x)
      → Enumerated R W (xs ++ ys)
  append R P Q W xs ys first second between from_first from_second split = record {
    ascends = ascends_append R xs ys first.ascends second.ascends (λ x left y right. between x (first.sound x left) y (second.sound y right));
    sound = λ x within. elim (in_either x xs ys within) [ inl left ↦ from_first x (first.sound x left) | inr right ↦ from_second x (second.sound x right) ];
    complete = λ x w. elim (split x w) [ inl p ↦ in_left x xs ys (first.complete x p) | inr q ↦ in_right x xs ys (second.complete x q) ];
  }

  pub none : (R : X → X → Type 0) (P : X → Type 0) → ((x : X) → P x → ⊥) → Enumerated R P []
  none R P never = record { ascends = tt; sound = λ x h. absurd h; complete = λ x p. absurd (never x p) }

  pub one : (R : X → X → Type 0) (P : X → Type 0) (x : X) → P x → ((y : X) → P y → y ≡ x) → Enumerated R P (x ∷ [])
  one R P x p only = record {
    ascends = ((λ y h. absurd h), tt);
    sound = λ y h. elim h [ inl same ↦ subst P (sym same) p | inr within ↦ absurd within ];
    complete = λ y q. inl (only y q);
  }

  -- one property in place of another that says the same
  pub same_property : (R : X → X → Type 0) (P Q : X → Type 0) (xs : List X) → Enumerated R P xs → ((x : X) → P x → Q x) → ((x : X) → Q x → P x) → Enumerated R Q xs
  same_property R P Q xs e to from = record {
    ascends = e.ascends;
    sound = λ x within. to x (e.sound x within);
    complete = λ x q. e.complete x (from x q);
  }

  in_filter_at : (p : X → Bool) (x y : X) (ys : List X) (passes : Bool) → p y ≡ passes → IsIn x (y ∷ ys) → p x ≡ true
      → (IsIn x ys → IsIn x (filter p ys)) → IsIn x (cond passes (y ∷ filter p ys) (filter p ys))
  in_filter_at p x y ys true is (inl same) good later = inl same
  in_filter_at p x y ys true is (inr within) good later = inr (later within)
  in_filter_at p x y ys false is (inl same) good later = absurd (true≢false (sym good ∙ ap p same ∙ is))
  in_filter_at p x y ys false is (inr within) good later = later within

  pub in_filter : (p : X → Bool) (x : X) (xs : List X) → IsIn x xs → p x ≡ true → IsIn x (filter p xs)
  in_filter p x [] h good = absurd h
  in_filter p x (y ∷ ys) h good = in_filter_at p x y ys (p y) refl h good (λ within. in_filter p x ys within good)

  from_filter_at : (p : X → Bool) (x y : X) (ys : List X) (passes : Bool) → p y ≡ passes → (IsIn x (filter p ys) → IsIn x ys × (p x ≡ true))
      → IsIn x (cond passes (y ∷ filter p ys) (filter p ys)) → IsIn x (y ∷ ys) × (p x ≡ true)
  from_filter_at p x y ys true is later (inl same) = (inl same, ap p same ∙ is)
  from_filter_at p x y ys true is later (inr within) = (inr (later within).0, (later within).1)
  from_filter_at p x y ys false is later within = (inr (later within).0, (later within).1)

  pub from_filter : (p : X → Bool) (x : X) (xs : List X) → IsIn x (filter p xs) → IsIn x xs × (p x ≡ true)
  from_filter p x [] h = absurd h
  from_filter p x (y ∷ ys) h = from_filter_at p x y ys (p y) refl (from_filter p x ys) h

  ascends_filter_at : (R : X → X → Type 0) (p : X → Bool) (x : X) (xs : List X) (passes : Bool) → Ascends R (x ∷ xs) → Ascends R (filter p xs)
      → Ascends R (cond passes (x ∷ filter p xs) (filter p xs))
  ascends_filter_at R p x xs true a later = ((λ y within. a.0 y (from_filter p y xs within).0), later)
  ascends_filter_at R p x xs false a later = later

  ascends_filter : (R : X → X → Type 0) (p : X → Bool) (xs : List X) → Ascends R xs → Ascends R (filter p xs)
  ascends_filter R p [] a = tt
  ascends_filter R p (x ∷ xs) a = ascends_filter_at R p x xs (p x) a (ascends_filter R p xs a.1)

  pub filtered : (R : X → X → Type 0) (P : X → Type 0) (p : X → Bool) (xs : List X) → Enumerated R P xs → Enumerated R (λ x. P x × (p x ≡ true)) (filter p xs)
  filtered R P p xs e = record {
    ascends = ascends_filter R p xs e.ascends;
    sound = λ x within. let found : IsIn x xs × (p x ≡ true) = from_filter p x xs within in (e.sound x found.0, found.1);
    complete = λ x both. in_filter p x xs (e.complete x both.0) both.1;
  }

module _ {X Y : Type 0} where
  pub in_map : (f : X → Y) (x : X) (xs : List X) → IsIn x xs → IsIn (f x) (map f xs)
  in_map f x [] h = absurd h
  in_map f x (z ∷ xs) (inl same) = inl (ap f same)
  in_map f x (z ∷ xs) (inr within) = inr (in_map f x xs within)

  pub from_map : (f : X → Y) (y : Y) (xs : List X) → IsIn y (map f xs) → (x : X) × IsIn x xs × (y ≡ f x)
  from_map f y [] h = absurd h
  from_map f y (z ∷ xs) (inl same) = (z, inl refl, same)
  from_map f y (z ∷ xs) (inr within) = let found : (x : X) × IsIn x xs × (y ≡ f x) = from_map f y xs within in (found.0, inr found.1, found.2)

  pub in_flat_map : (f : X → List Y) (x : X) (xs : List X) (y : Y) → IsIn x xs → IsIn y (f x) → IsIn y (flat_map f xs)
  in_flat_map f x [] y h within = absurd h
  in_flat_map f x (z ∷ xs) y (inl same) within = in_left y (f z) (flat_map f xs) (subst (λ w. IsIn y (f w)) same within)
  in_flat_map f x (z ∷ xs) y (inr later) within = in_right y (f z) (flat_map f xs) (in_flat_map f x xs y later within)

  pub from_flat_map : (f : X → List Y) (xs : List X) (y : Y) → IsIn y (flat_map f xs) → (x : X) × IsIn x xs × IsIn y (f x)
  from_flat_map f [] y h = absurd h
  from_flat_map f (z ∷ xs) y h = elim (in_either y (f z) (flat_map f xs) h) [
    | inl left ↦ (z, inl refl, left)
    | inr right ↦ let found : (x : X) × IsIn x xs × IsIn y (f x) = from_flat_map f xs y right in (found.0, inr found.1, found.2)
  ]

  ascends_flat_map : (R : X → X → Type 0) (S : Y → Y → Type 0) (f : X → List Y) (xs : List X) → Ascends R xs
      → ((x : X) → IsIn x xs → Ascends S (f x))
      → ((x : X) → IsIn x xs → (z : X) → IsIn z xs → R x z → (y : Y) → IsIn y (f x) → (w : Y) → IsIn w (f z) → S y w)
      → Ascends S (flat_map f xs)
  ascends_flat_map R S f [] a each between = tt
  ascends_flat_map R S f (x ∷ xs) a each between =
      ascends_append S (f x) (flat_map f xs) (each x (inl refl)) (ascends_flat_map R S f xs a.1 (λ z later. each z (inr later)) (λ z at w before. between z (inr at) w (inr before)))
      (λ y here w there.
      let found : (z : X) × IsIn z xs × IsIn w (f z) = from_flat_map f xs w there in
      between x (inl refl) found.0 (inr found.1) (a.0 found.0 found.1) y here w found.2)

  -- The list of what each element makes: where one element comes before another, so does what they make.
  pub made : (R : X → X → Type 0) (P : X → Type 0) (S : Y → Y → Type 0) (Q : X → Y → Type 0) (W : Y → Type 0) (f : X → List Y) (xs : List X)
      → Enumerated R P xs
      → ((x : X) → P x → Enumerated S (Q x) (f x))
      → ((x z : X) → P x → P z → R x z → (y w : Y) → Q x y → Q z w → S y w)
      → ((x : X) (y : Y) → P x → Q x y → W y)
      → ((y : Y) → W y → (x : X) × P x × Q x y)
      → Enumerated S W (flat_map f xs)
  made R P S Q W f xs e each between to from = record {
    ascends = ascends_flat_map R S f xs e.ascends (λ x at. (each x (e.sound x at)).ascends)
        (λ x at z there before y here w last.
        between x z (e.sound x at) (e.sound z there) before y w ((each x (e.sound x at)).sound y here) ((each z (e.sound z there)).sound w last));
    sound = λ y within.
        let found : (x : X) × IsIn x xs × IsIn y (f x) = from_flat_map f xs y within in
        let p : P found.0 = e.sound found.0 found.1 in
        to found.0 y p ((each found.0 p).sound y found.2);
    complete = λ y w.
        let found : (x : X) × P x × Q x y = from y w in
        in_flat_map f found.0 xs y (e.complete found.0 found.1) ((each found.0 found.1).complete y found.2);
  }

  ascends_map : (R : X → X → Type 0) (S : Y → Y → Type 0) (f : X → Y) (xs : List X) → Ascends R xs
      → ((x : X) → IsIn x xs → (z : X) → IsIn z xs → R x z → S (f x) (f z)) → Ascends S (map f xs)
  ascends_map R S f [] a keeps = tt
  ascends_map R S f (x ∷ xs) a keeps = (
    (λ y within.
        let found : (z : X) × IsIn z xs × (y ≡ f z) = from_map f y xs within in
        subst (S (f x)) (sym found.2) (keeps x (inl refl) found.0 (inr found.1) (a.0 found.0 found.1))),
    ascends_map R S f xs a.1 (λ z at w later. keeps z (inr at) w (inr later)),
  )

  pub mapped : (R : X → X → Type 0) (P : X → Type 0) (S : Y → Y → Type 0) (W : Y → Type 0) (f : X → Y) (xs : List X)
      → Enumerated R P xs
      → ((x z : X) → P x → P z → R x z → S (f x) (f z))
      → ((x : X) → P x → W (f x))
      → ((y : Y) → W y → (x : X) × P x × (y ≡ f x))
      → Enumerated S W (map f xs)
  mapped R P S W f xs e keeps to from = record {
    ascends = ascends_map R S f xs e.ascends (λ x at z there. keeps x z (e.sound x at) (e.sound z there));
    sound = λ y within.
        let found : (x : X) × IsIn x xs × (y ≡ f x) = from_map f y xs within in
        subst W (sym found.2) (to found.0 (e.sound found.0 found.1));
    complete = λ y w.
        let found : (x : X) × P x × (y ≡ f x) = from y w in
        subst (λ v. IsIn v (map f xs)) (sym found.2) (in_map f found.0 xs (e.complete found.0 found.1));
  }

  ascends_unmapped : (R : X → X → Type 0) (S : Y → Y → Type 0) (f : X → Y) (xs : List X) → Ascends S (map f xs)
      → ((x : X) → IsIn x xs → (z : X) → IsIn z xs → S (f x) (f z) → R x z) → Ascends R xs
  ascends_unmapped R S f [] a back = tt
  ascends_unmapped R S f (x ∷ xs) a back = (
    (λ z within. back x (inl refl) z (inr within) (a.0 (f z) (in_map f z xs within))),
    ascends_unmapped R S f xs a.1 (λ z at w later. back z (inr at) w (inr later)),
  )

  -- the elements themselves, where what one function makes of them is enumerated
  pub unmapped : (R : X → X → Type 0) (S : Y → Y → Type 0) (W : Y → Type 0) (f : X → Y) (xs : List X)
      → Enumerated S W (map f xs)
      → ((x z : X) → W (f x) → W (f z) → S (f x) (f z) → R x z)
      → ((x z : X) → f x ≡ f z → x ≡ z)
      → Enumerated R (λ x. W (f x)) xs
  unmapped R S W f xs e back injective = record {
    ascends = ascends_unmapped R S f xs e.ascends
        (λ x at z there. back x z (e.sound (f x) (in_map f x xs at)) (e.sound (f z) (in_map f z xs there)));
    sound = λ x within. e.sound (f x) (in_map f x xs within);
    complete = λ x w.
        let found : (z : X) × IsIn z xs × (f x ≡ f z) = from_map f (f x) xs (e.complete (f x) w) in
        subst (λ v. IsIn v xs) (sym (injective x found.0 found.2)) found.1;
  }
