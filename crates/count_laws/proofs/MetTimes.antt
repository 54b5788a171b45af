-- Lists that have the elements of another list, each so many times, in whatever order.
use Rattle.std.proofs.Common.{◌≡◌, ℕ, suc, ◌+◌, ◌*◌, List, [], ◌∷◌, ◌++◌, map, flat_map, length, refl, sym, ap, ◌∙◌, subst, inl, inr, arith}
use Rattle.std.specs.List.{sum}
use Rattle.lists.specs.Enumeration.{IsIn}
use Rattle.lists.proofs.Within.{in_left, in_right, in_either}
use Rattle.lists.proofs.Enumerated.{in_map, from_map}
use Rattle.lists.proofs.Sums.{sum_more}
use Rattle.lists.proofs.RangeSums.{sum_append, sum_map}
use Rattle.count_laws.specs.Pointed.{MeetsTimes}

-- the same elements, each as often
pub record Alike {X : Type 0} (xs ys : List X) : Type 0 where
  pub sums : (f : X → ℕ) → sum (map f xs) ≡ sum (map f ys)
  pub within : (x : X) → IsIn x xs → IsIn x ys

module _ {X : Type 0} where
  pub same : {xs ys : List X} → xs ≡ ys → Alike xs ys
  same is_same = record {
    sums = λ f. ap (λ zs. sum (map f zs)) is_same;
    within = λ x there. subst (IsIn x) is_same there;
  }

  pub alike_trans : {xs ys zs : List X} → Alike xs ys → Alike ys zs → Alike xs zs
  alike_trans first second = record {
    sums = λ f. first.sums f ∙ second.sums f;
    within = λ x there. second.within x (first.within x there);
  }

  pub alike_joined : (xs ys zs ws : List X) → Alike xs ys → Alike zs ws → Alike (xs ++ zs) (ys ++ ws)
  alike_joined xs ys zs ws first second = record {
    sums = λ f. sum_append f xs zs ∙ (λ i. first.sums f i + second.sums f i) ∙ sym (sum_append f ys ws);
    within = λ x there. elim (in_either x xs zs there) [
      | inl left ↦ in_left x ys ws (first.within x left)
      | inr right ↦ in_right x ys ws (second.within x right)
    ];
  }

  -- the inner two exchanged
  pub exchanged : (xs ys zs ws : List X) → Alike ((xs ++ ys) ++ (zs ++ ws)) ((xs ++ zs) ++ (ys ++ ws))
  exchanged xs ys zs ws = record {
    sums = λ f. omega (
      arith,
      sum_append f (xs ++ ys) (zs ++ ws),
      sum_append f (xs ++ zs) (ys ++ ws),
      sum_append f xs ys,
      sum_append f zs ws,
      sum_append f xs zs,
      sum_append f ys ws,
    );
    within = λ x there. elim (in_either x (xs ++ ys) (zs ++ ws) there) [
      | inl left ↦ elim (in_either x xs ys left) [
        | inl here ↦ in_left x (xs ++ zs) (ys ++ ws) (in_left x xs zs here)
        | inr here ↦ in_right x (xs ++ zs) (ys ++ ws) (in_left x ys ws here)
      ]
      | inr right ↦ elim (in_either x zs ws right) [
        | inl here ↦ in_left x (xs ++ zs) (ys ++ ws) (in_right x xs zs here)
        | inr here ↦ in_right x (xs ++ zs) (ys ++ ws) (in_right x ys ws here)
      ]
    ];
  }

  pub swapped : (xs ys : List X) → Alike (xs ++ ys) (ys ++ xs)
  swapped xs ys = record {
    sums = λ f. omega (arith, sum_append f xs ys, sum_append f ys xs);
    within = λ x there. elim (in_either x xs ys there) [ inl left ↦ in_right x ys xs left | inr right ↦ in_left x ys xs right ];
  }

  -- ---- so many times

  pub instead : (c : ℕ) (met also xs : List X) → Alike met also → MeetsTimes c also xs → MeetsTimes c met xs
  instead c met also xs alike meets = record {
    sums = λ f. alike.sums f ∙ meets.sums f;
    within = λ x there. meets.within x (alike.within x there);
  }

  pub none_met : (xs : List X) → MeetsTimes 0 [] xs
  none_met xs = record {
    sums = λ f. nothing (sum (map f xs));
    within = λ x there. absurd there;
  }
    where
      nothing : (k : ℕ) → 0 ≡ 0 * k
      nothing k = omega arith

  pub none_of_none : (c : ℕ) → MeetsTimes {X = X} c [] []
  none_of_none c = record {
    sums = λ f. nothing c;
    within = λ x there. there;
  }
    where
      nothing : (k : ℕ) → 0 ≡ k * 0
      nothing k = omega arith

  pub times_joined : (c : ℕ) (met also xs ys : List X) → MeetsTimes c met xs → MeetsTimes c also ys → MeetsTimes c (met ++ also) (xs ++ ys)
  times_joined c met also xs ys first second = record {
    sums = λ f. sum_append f met also ∙ (λ i. first.sums f i + second.sums f i) ∙ spread c (sum (map f xs)) (sum (map f ys)) ∙ ap (λ (k : ℕ). c * k) (sym (sum_append f xs ys));
    within = λ x there. elim (in_either x met also there) [
      | inl left ↦ in_left x xs ys (first.within x left)
      | inr right ↦ in_right x xs ys (second.within x right)
    ];
  }
    where
      spread : (k m n : ℕ) → k * m + k * n ≡ k * (m + n)
      spread k m n = grind arith

  pub once_more : (c : ℕ) (met xs : List X) → MeetsTimes c met xs → MeetsTimes (suc c) (xs ++ met) xs
  once_more c met xs meets = record {
    sums = λ f. sum_append f xs met ∙ ap (λ (k : ℕ). sum (map f xs) + k) (meets.sums f) ∙ one_more c (sum (map f xs));
    within = λ x there. elim (in_either x xs met there) [ inl left ↦ left | inr right ↦ meets.within x right ];
  }
    where
      one_more : (c k : ℕ) → k + c * k ≡ suc c * k
      one_more c k = grind arith

module _ {X Y : Type 0} where
  pub alike_mapped : (f : X → Y) (xs ys : List X) → Alike xs ys → Alike (map f xs) (map f ys)
  alike_mapped f xs ys alike = record {
    sums = λ h. sum_map h f xs ∙ alike.sums (λ x. h (f x)) ∙ sym (sum_map h f ys);
    within = λ y there.
        let found = from_map f y xs there in
        subst (λ z. IsIn z (map f ys)) (sym found.2) (in_map f found.0 ys (alike.within found.0 found.1));
  }

  pub times_mapped : (c : ℕ) (f : X → Y) (met xs : List X) → MeetsTimes c met xs → MeetsTimes c (map f met) (map f xs)
  times_mapped c f met xs meets = record {
    sums = λ h. sum_map h f met ∙ meets.sums (λ x. h (f x)) ∙ ap (λ (k : ℕ). c * k) (sym (sum_map h f xs));
    within = λ y there.
        let found = from_map f y met there in
        subst (λ z. IsIn z (map f xs)) (sym found.2) (in_map f found.0 xs (meets.within found.0 found.1));
  }

  pub alike_made : (f h : X → List Y) (xs : List X) → ((x : X) → IsIn x xs → Alike (f x) (h x)) → Alike (flat_map f xs) (flat_map h xs)
  alike_made f h [] alike = same refl
  alike_made f h (x ∷ xs) alike =
      alike_joined (f x) (h x) (flat_map f xs) (flat_map h xs) (alike x (inl refl)) (alike_made f h xs (λ y there. alike y (inr there)))

  -- what is made of each by one and by another
  pub made_apart : (f h : X → List Y) (xs : List X) → Alike (flat_map (λ x. f x ++ h x) xs) (flat_map f xs ++ flat_map h xs)
  made_apart f h [] = same refl
  made_apart f h (x ∷ xs) =
      alike_trans
      (alike_joined (f x ++ h x) (f x ++ h x) (flat_map (λ y. f y ++ h y) xs) (flat_map f xs ++ flat_map h xs) (same refl) (made_apart f h xs))
      (exchanged (f x) (h x) (flat_map f xs) (flat_map h xs))

-- ---- how many

sum_ones : {X : Type 0} (xs : List X) → sum (map (λ x. 1) xs) ≡ length xs
sum_ones [] = refl
sum_ones (x ∷ xs) = omega (arith, sum_more 1 (map (λ y. 1) xs), sum_ones xs)

pub met_number : {X : Type 0} (c : ℕ) (met xs : List X) → MeetsTimes c met xs → length met ≡ c * length xs
met_number c met xs meets = sym (sum_ones met) ∙ meets.sums (λ x. 1) ∙ ap (λ (k : ℕ). c * k) (sum_ones xs)

pub alike_number : {X : Type 0} (xs ys : List X) → Alike xs ys → length xs ≡ length ys
alike_number xs ys alike = sym (sum_ones xs) ∙ alike.sums (λ x. 1) ∙ sum_ones ys
