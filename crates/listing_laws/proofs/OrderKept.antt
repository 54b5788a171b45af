-- A change of structures that keeps their order keeps what is sorted and which rotations are least.
use Rattle.std.proofs.Common.{◌≡◌, ℕ, zero, suc, not, ◌&&◌, List, [], ◌∷◌, ◌++◌, map, take, drop, refl, sym, ap, ◌∙◌}
use Rattle.std.specs.Ordering.{ordering_then, is_lt, is_gt}
use Rattle.std.proofs.lemmas.List.{map-append, drop-map, take-map, length-map}
use Rattle.struct_model.specs.Structure.{Structure}
use Rattle.struct_model.specs.Order.{order, list_order, is_sorted, is_strictly_sorted, rotated, is_least_of, is_least_rotation}

-- has each structure the property
abbrev pub EachOne : (Structure → Type 0) → List Structure → Type 0
EachOne P [] = Unit {0}
EachOne P (s ∷ ss) = P s × EachOne P ss

each_one_append : (P : Structure → Type 0) (ss ts : List Structure) → EachOne P ss → EachOne P ts → EachOne P (ss ++ ts)
each_one_append P [] ts a b = b
each_one_append P (s ∷ ss) ts a b = (a.0, each_one_append P ss ts a.1 b)

each_one_drop : (P : Structure → Type 0) (n : ℕ) (ss : List Structure) → EachOne P ss → EachOne P (drop n ss)
each_one_drop P zero ss a = a
each_one_drop P (suc n) [] a = tt
each_one_drop P (suc n) (s ∷ ss) a = each_one_drop P n ss a.1

each_one_take : (P : Structure → Type 0) (n : ℕ) (ss : List Structure) → EachOne P ss → EachOne P (take n ss)
each_one_take P zero ss a = tt
each_one_take P (suc n) [] a = tt
each_one_take P (suc n) (s ∷ ss) a = (a.0, each_one_take P n ss a.1)

module _ (change : Structure → Structure) (P : Structure → Type 0) (keeps : (s t : Structure) → P s → P t → order (change s) (change t) ≡ order s t) where
  pub sorted_kept : (ss : List Structure) → EachOne P ss → is_sorted (map change ss) ≡ is_sorted ss
  sorted_kept [] a = refl
  sorted_kept (s ∷ []) a = refl
  sorted_kept (s ∷ t ∷ ss) a = λ i. not (is_gt (keeps s t a.0 a.1.0 i)) && sorted_kept (t ∷ ss) a.1 i

  pub strictly_sorted_kept : (ss : List Structure) → EachOne P ss → is_strictly_sorted (map change ss) ≡ is_strictly_sorted ss
  strictly_sorted_kept [] a = refl
  strictly_sorted_kept (s ∷ []) a = refl
  strictly_sorted_kept (s ∷ t ∷ ss) a = λ i. is_lt (keeps s t a.0 a.1.0 i) && strictly_sorted_kept (t ∷ ss) a.1 i

  list_order_kept : (ss ts : List Structure) → EachOne P ss → EachOne P ts → list_order (map change ss) (map change ts) ≡ list_order ss ts
  list_order_kept [] [] a b = refl
  list_order_kept [] (t ∷ ts) a b = refl
  list_order_kept (s ∷ ss) [] a b = refl
  list_order_kept (s ∷ ss) (t ∷ ts) a b = λ i. ordering_then (keeps s t a.0 b.0 i) (list_order_kept ss ts a.1 b.1 i)

  rotated_changed : (ss : List Structure) (n : ℕ) → rotated (map change ss) n ≡ map change (rotated ss n)
  rotated_changed ss n = (λ i. drop-map change n ss i ++ take-map change n ss i) ∙ sym (map-append change (drop n ss) (take n ss))

  least_of_kept : (n : ℕ) (ss : List Structure) → EachOne P ss → is_least_of n (map change ss) ≡ is_least_of n ss
  least_of_kept zero ss a = refl
  least_of_kept (suc n) ss a =
      let turned = each_one_append P (drop n ss) (take n ss) (each_one_drop P n ss a) (each_one_take P n ss a) in
      let compared : list_order (map change ss) (rotated (map change ss) n) ≡ list_order ss (rotated ss n) =
      ap (list_order (map change ss)) (rotated_changed ss n) ∙ list_order_kept ss (rotated ss n) a turned in
      λ i. not (is_gt (compared i)) && least_of_kept n ss a i

  pub least_rotation_kept : (ss : List Structure) → EachOne P ss → is_least_rotation (map change ss) ≡ is_least_rotation ss
  least_rotation_kept ss a = ap (λ (n : ℕ). is_least_of n (map change ss)) (length-map ss change) ∙ least_of_kept _ ss a
