-- Where a structure goes into a sorted list.
use Rattle.std.proofs.Common.{◌≡◌, ℕ, zero, suc, ◌+◌, ◌<◌, ◌≤◌, Bool, true, false, not, ◌&&◌, List, [], ◌∷◌, length, insert, slice_get, Some, refl, sym, ap, ◌∙◌, subst, arith}
use Rattle.std.specs.Prelude.{cond}
use Rattle.std.specs.declared.cmp.Ordering.{Ordering}
use Rattle.std.specs.declared.cmp.Ordering.TheVariants.{Less, Equal, Greater}
use Rattle.std.specs.Ordering.{is_gt, ordering_reverse}
use Rattle.std.proofs.lemmas.Cmp.{upto, tied_itself}
use Rattle.std.proofs.lemmas.Option.{slice_get_within}
use Rattle.struct_model.specs.Structure.{Structure}
use Rattle.struct_model.specs.Order.{order, is_after, is_sorted}
use Rattle.struct_model.proofs.OrderLaws.{order_total}
use Rattle.canon.specs.Sorted.{with_item}

both : (a b : Bool) → a ≡ false → b ≡ true → not a && b ≡ true
both a b first second = cc

first_of : (a b : Bool) → not a && b ≡ true → a ≡ false
first_of true b h = cc
first_of false b h = refl

second_of : (a b : Bool) → not a && b ≡ true → b ≡ true
second_of true b h = cc
second_of false b h = h

-- of two structures at most one is after the other
not_after : (s t : Structure) → is_after t s ≡ true → is_after s t ≡ false
not_after s t h = ap is_gt (order_total.antisymm s t) ∙ by (order t s) h
  where
    by : (o : Ordering) → is_gt o ≡ true → is_gt (ordering_reverse o) ≡ false
    by Less e = cc
    by Equal e = cc
    by Greater e = refl

-- ---- sorted lists

rest_sorted : (s : Structure) (ss : List Structure) → is_sorted (s ∷ ss) ≡ true → is_sorted ss ≡ true
rest_sorted s [] h = refl
rest_sorted s (t ∷ ts) h = second_of (is_after s t) (is_sorted (t ∷ ts)) h

first_sorted : (s : Structure) (ss : List Structure) (k : ℕ) (t : Structure) → is_sorted (s ∷ ss) ≡ true → slice_get ss k ≡ Some t
    → is_after s t ≡ false
first_sorted s [] k t h at = absurd (cc)
first_sorted s (u ∷ us) zero t h at = let same : u ≡ t = cc in subst (λ (x : Structure). is_after s x ≡ false) same (first_of (is_after s u) (is_sorted (u ∷ us)) h)
first_sorted s (u ∷ us) (suc k) t h at =
    upto order_total s u t (first_of (is_after s u) (is_sorted (u ∷ us)) h) (first_sorted u us k t (rest_sorted s (u ∷ us) h) at)

-- no structure of a sorted list is after one that stands there or later
pub in_order : (ss : List Structure) (j k : ℕ) (s t : Structure) → is_sorted ss ≡ true → j ≤ k → slice_get ss j ≡ Some s
    → slice_get ss k ≡ Some t → is_after s t ≡ false
in_order [] j k s t h less at there = absurd (cc)
in_order (x ∷ xs) zero zero s t h less at there = let same : s ≡ t = cc in subst (λ (u : Structure). is_after s u ≡ false) same (ap is_gt (tied_itself order_total s))
in_order (x ∷ xs) zero (suc k) s t h less at there =
    let same : x ≡ s = cc in subst (λ (u : Structure). is_after u t ≡ false) same (first_sorted x xs k t h there)
in_order (x ∷ xs) (suc j) zero s t h less at there = absurd (omega arith)
in_order (x ∷ xs) (suc j) (suc k) s t h less at there = in_order xs j k s t (rest_sorted x xs h) (omega arith) at there

-- ---- one more structure

before_item : (t s : Structure) (ts : List Structure) → is_after t s ≡ false → is_sorted (t ∷ ts) ≡ true → is_sorted (with_item s ts) ≡ true
    → is_sorted (t ∷ with_item s ts) ≡ true
before_item t s [] within h g = both (is_after t s) true within refl
before_item t s (u ∷ us) within h g = by (is_after u s) g
  where
    by : (b : Bool) → is_sorted (cond b (s ∷ u ∷ us) (u ∷ with_item s us)) ≡ true → is_sorted (t ∷ cond b (s ∷ u ∷ us) (u ∷ with_item s us)) ≡ true
    by true k = both (is_after t s) (is_sorted (s ∷ u ∷ us)) within k
    by false k = both (is_after t u) (is_sorted (u ∷ with_item s us)) (first_of (is_after t u) (is_sorted (u ∷ us)) h) k

pub with_item_sorted : (s : Structure) (ss : List Structure) → is_sorted ss ≡ true → is_sorted (with_item s ss) ≡ true
with_item_sorted s [] h = refl
with_item_sorted s (t ∷ ts) h = by (is_after t s) refl (with_item_sorted s ts (rest_sorted t ts h))
  where
    by : (b : Bool) → is_after t s ≡ b → is_sorted (with_item s ts) ≡ true → is_sorted (cond b (s ∷ t ∷ ts) (t ∷ with_item s ts)) ≡ true
    by true e later = both (is_after s t) (is_sorted (t ∷ ts)) (not_after s t e) h
    by false e later = before_item t s ts e h later

-- ---- the search for the place

-- those before the one place aren't after the structure, and those from the other on are
pub record IsParted (ss : List Structure) (s : Structure) (low high : ℕ) : Type 0 where
  pub ordered : low ≤ high
  pub within : high ≤ length ss
  pub below : (k : ℕ) (t : Structure) → k < low → slice_get ss k ≡ Some t → is_after t s ≡ false
  pub above : (k : ℕ) (t : Structure) → high ≤ k → slice_get ss k ≡ Some t → is_after t s ≡ true

pub parted_none : (ss : List Structure) (s : Structure) → IsParted ss s 0 (length ss)
parted_none ss s = record {
  ordered = omega arith;
  within = omega arith;
  below = λ k t less at. absurd (none k less);
  above = λ k t past at. absurd (beyond k past (slice_get_within ss k t at));
}
  where
    none : (k : ℕ) → k < 0 → ⊥
    none k less = omega arith

    beyond : (k : ℕ) → length ss ≤ k → k < length ss → ⊥
    beyond k past within = omega arith

false_or : (b : Bool) → (b ≡ false → ⊥) → b ≡ true
false_or true h = refl
false_or false h = absurd (h refl)

pub parted_high : (ss : List Structure) (s t : Structure) (low high middle : ℕ) → is_sorted ss ≡ true → IsParted ss s low high → low ≤ middle
    → middle < high → slice_get ss middle ≡ Some t → order t s ≡ Greater → IsParted ss s low middle
parted_high ss s t low high middle h parted from to at after = record {
  ordered = from;
  within = omega (arith, parted.within);
  below = parted.below;
  above = λ k u past there. false_or (is_after u s) (λ e. wrong (sym (ap is_gt after) ∙ upto order_total t u s (in_order ss middle k t u h past at there) e));
}
  where
    wrong : true ≡ false → ⊥
    wrong e = cc

pub parted_low : (ss : List Structure) (s t : Structure) (low high middle : ℕ) → is_sorted ss ≡ true → IsParted ss s low high → low ≤ middle
    → middle < high → slice_get ss middle ≡ Some t → is_after t s ≡ false → IsParted ss s (middle + 1) high
parted_low ss s t low high middle h parted from to at within = record {
  ordered = omega arith;
  within = parted.within;
  below = λ k u less there. upto order_total u t s (in_order ss k middle u t h (up_to k less) there at) within;
  above = parted.above;
}
  where
    up_to : (k : ℕ) → k < middle + 1 → k ≤ middle
    up_to k less = omega arith

tail_parted : (x s : Structure) (xs : List Structure) (p : ℕ) → IsParted (x ∷ xs) s (suc p) (suc p) → IsParted xs s p p
tail_parted x s xs p parted = record {
  ordered = omega arith;
  within = omega (arith, parted.within);
  below = λ k t less at. parted.below (suc k) t (ap_suc k less) at;
  above = λ k t past at. parted.above (suc k) t (le_suc k past) at;
}
  where
    ap_suc : (k : ℕ) → k < p → suc k < suc p
    ap_suc k less = omega arith

    le_suc : (k : ℕ) → p ≤ k → suc p ≤ suc k
    le_suc k past = omega arith

-- at the place that is found the structure goes in
pub placed : (ss : List Structure) (s : Structure) (p : ℕ) → IsParted ss s p p → insert ss p s ≡ with_item s ss
placed [] s zero parted = refl
placed [] s (suc p) parted = absurd (omega (arith, parted.within))
placed (x ∷ xs) s zero parted = let after : is_after x s ≡ true = parted.above 0 x (omega arith) refl in cc
placed (x ∷ xs) s (suc p) parted =
    let here : is_after x s ≡ false = parted.below 0 x (omega arith) refl in
    let later : insert xs p s ≡ with_item s xs = placed xs s p (tail_parted x s xs p parted) in
    cc
