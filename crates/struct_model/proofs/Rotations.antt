-- A list that is its own least rotation is after none of its rotations.
use Rattle.std.proofs.Common.{◌≡◌, ℕ, zero, suc, ◌<◌, Bool, true, false, not, ◌&&◌, List, refl, ap, subst, inl, inr, arith}
use Rattle.std.specs.declared.cmp.Ordering.{Ordering}
use Rattle.std.specs.declared.cmp.Ordering.TheVariants.{Less, Equal, Greater}
use Rattle.std.specs.Ordering.{is_gt}
use Rattle.std.proofs.lemmas.Bool.{cases_lt}
use Rattle.struct_model.specs.Structure.{Structure}
use Rattle.struct_model.specs.Order.{list_order, rotated, is_least_of}

not_gt : (o : Ordering) → (o ≡ Greater → ⊥) → is_gt o ≡ false
not_gt Less h = refl
not_gt Equal h = refl
not_gt Greater h = absurd (h refl)

-- the list is after none of its first rotations
pub none_before : (n : ℕ) (ss : List Structure) → ((k : ℕ) → k < n → list_order ss (rotated ss k) ≡ Greater → ⊥) → is_least_of n ss ≡ true
none_before zero ss h = refl
none_before (suc n) ss h =
    let here : is_gt (list_order ss (rotated ss n)) ≡ false = not_gt (list_order ss (rotated ss n)) (h n (omega arith)) in
    let later : is_least_of n ss ≡ true = none_before n ss (λ k less. h k (up k less)) in
    cc
  where
    up : (k : ℕ) → k < n → k < suc n
    up k less = omega arith

-- the list is after one of them
pub one_before : (n : ℕ) (ss : List Structure) (k : ℕ) → k < n → list_order ss (rotated ss k) ≡ Greater → is_least_of n ss ≡ false
one_before zero ss k less h = absurd (omega arith)
one_before (suc n) ss k less h = elim (cases_lt k n) [
  | inl before ↦ second (is_gt (list_order ss (rotated ss n))) (is_least_of n ss) (one_before n ss k before h)
  | inr here ↦
      let same : k ≡ n = omega arith in
      let after : is_gt (list_order ss (rotated ss n)) ≡ true = ap is_gt (subst (λ (m : ℕ). list_order ss (rotated ss m) ≡ Greater) same h) in
      first (is_gt (list_order ss (rotated ss n))) (is_least_of n ss) after
]
  where
    first : (a b : Bool) → a ≡ true → not a && b ≡ false
    first a b e = cc

    second : (a b : Bool) → b ≡ false → not a && b ≡ false
    second true b e = refl
    second false b e = e
