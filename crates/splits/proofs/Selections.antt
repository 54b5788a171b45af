-- Selections of labels: the parts of ascending labels, and what remains of each.
use Rattle.std.proofs.Common.{◌≡◌, ◌⊎◌, ℕ, zero, suc, ◌<◌, ◌≤◌, true, cond, List, [], ◌∷◌, map, filter, take, length, nat_lt, nat_eq, refl, sym, subst, inl, inr, arith, Less, nat_cmp}
use Rattle.std.specs.Cmp.Lexicographic.{slice_cmp}
use Rattle.std.proofs.lemmas.Bool.{and_parts, ltb-true, lt-ltb, eq-eqb, ne_eqb, cond-true, cond-false}
use Rattle.lists.specs.Ascending.{ascends_above}
use Rattle.lists.specs.Enumeration.{IsIn}
use Rattle.lists.proofs.Within.{in_left, in_right}
use Rattle.lists.proofs.Enumerated.{in_map, in_filter}
use Rattle.splits.specs.Splits.{Split, taking, leaving, begins_above, splits}
use Rattle.splits.proofs.SplitSupplies.{split_cases}
use Rattle.lists.proofs.NumberOrder.{from_first}

-- are the first labels some of the second ones, in their order
abbrev pub Selects : List ℕ → List ℕ → Type 0
Selects [] ys = Unit {0}
Selects (x ∷ xs) [] = ⊥
Selects (x ∷ xs) (y ∷ ys) = ((x ≡ y) × Selects xs ys) ⊎ Selects (x ∷ xs) ys

pub selects_more : (x : ℕ) (part xs : List ℕ) → Selects part xs → Selects part (x ∷ xs)
selects_more x [] xs s = tt
selects_more x (p ∷ ps) xs s = inr s

pub selects_length : (part xs : List ℕ) → Selects part xs → length part ≤ length xs
selects_length [] xs s = omega arith
selects_length (p ∷ ps) [] s = absurd s
selects_length (p ∷ ps) (x ∷ xs) (inl both) = omega (arith, selects_length ps xs both.1)
selects_length (p ∷ ps) (x ∷ xs) (inr later) = omega (arith, selects_length (p ∷ ps) xs later)

pub selects_front : (n : ℕ) (xs : List ℕ) → Selects (take n xs) xs
selects_front zero xs = tt
selects_front (suc n) [] = tt
selects_front (suc n) (x ∷ xs) = inl (refl, selects_front n xs)

-- a first label that is selected is above all that the labels are above
pub selects_above : (low p : ℕ) (ps xs : List ℕ) → ascends_above low xs ≡ true → Selects (p ∷ ps) xs → low < p
selects_above low p ps [] h s = absurd s
selects_above low p ps (x ∷ xs) h (inl both) = let here = and_parts (nat_lt low x) (ascends_above x xs) h in omega (arith, ltb-true low x here.0)
selects_above low p ps (x ∷ xs) h (inr later) =
    let here = and_parts (nat_lt low x) (ascends_above x xs) h in
    omega (arith, ltb-true low x here.0, selects_above x p ps xs here.1 later)

-- no selection that is long enough is before the first labels
pub front_is_least : (low n : ℕ) (part xs : List ℕ) → ascends_above low xs ≡ true → Selects part xs → n ≤ length part → slice_cmp nat_cmp part (take n xs) ≡ Less → ⊥
front_is_least low zero [] xs h s long before = cc
front_is_least low zero (p ∷ ps) xs h s long before = cc
front_is_least low (suc n) [] xs h s long before = absurd (omega arith)
front_is_least low (suc n) (p ∷ ps) [] h s long before = absurd s
front_is_least low (suc n) (p ∷ ps) (x ∷ xs) h (inl both) long before =
    let here = and_parts (nat_lt low x) (ascends_above x xs) h in
    elim (from_first p x ps (take n xs) before) [
      | inl below ↦ absurd (omega (arith, both.0))
      | inr same ↦ front_is_least x n ps xs here.1 both.1 (omega arith) same.1
    ]
front_is_least low (suc n) (p ∷ ps) (x ∷ xs) h (inr later) long before =
    let here = and_parts (nat_lt low x) (ascends_above x xs) h in
    let above : x < p = selects_above x p ps xs here.1 later in
    elim (from_first p x ps (take n xs) before) [
      | inl below ↦ absurd (omega arith)
      | inr same ↦ absurd (omega (arith, same.0))
    ]

-- ---- what remains

-- the labels without those of a selection
abbrev pub remaining : List ℕ → List ℕ → List ℕ
remaining [] xs = xs
remaining (p ∷ ps) [] = []
remaining (p ∷ ps) (x ∷ xs) = cond (nat_eq p x) (remaining ps xs) (x ∷ remaining (p ∷ ps) xs)

abbrev pub split_at : List ℕ → List ℕ → Split
split_at part xs = record { part = part; rest = remaining part xs }

split_of : List ℕ → List ℕ → Split
split_of part rest = record { part = part; rest = rest }

pub remaining_same : (p x : ℕ) (ps xs : List ℕ) → p ≡ x → remaining (p ∷ ps) (x ∷ xs) ≡ remaining ps xs
remaining_same p x ps xs same = cond-true (nat_eq p x) _ _ (eq-eqb p x same)

pub remaining_other : (p x : ℕ) (ps xs : List ℕ) → (p ≡ x → ⊥) → remaining (p ∷ ps) (x ∷ xs) ≡ x ∷ remaining (p ∷ ps) xs
remaining_other p x ps xs other = cond-false (nat_eq p x) _ _ (ne_eqb p x other)

same_split : (part other rest remains : List ℕ) → part ≡ other → rest ≡ remains → split_of part rest ≡ split_of other remains
same_split part other rest remains p q = cc

taken_is : (p x : ℕ) (ps xs : List ℕ) → p ≡ x → split_at (p ∷ ps) (x ∷ xs) ≡ taking x (split_at ps xs)
unfolding split_of
taken_is p x ps xs same = same_split (p ∷ ps) (x ∷ ps) (remaining (p ∷ ps) (x ∷ xs)) (remaining ps xs) (cc) (remaining_same p x ps xs same)

left_is : (p x : ℕ) (ps xs : List ℕ) → x < p → split_at (p ∷ ps) (x ∷ xs) ≡ leaving x (split_at (p ∷ ps) xs)
unfolding split_of
left_is p x ps xs above =
    same_split (p ∷ ps) (p ∷ ps) (remaining (p ∷ ps) (x ∷ xs)) (x ∷ remaining (p ∷ ps) xs) refl (remaining_other p x ps xs (λ same. absurd (omega (arith, same))))

-- a selection of ascending labels and what remains are a split of them
pub selection_splits : (low : ℕ) (part xs : List ℕ) → ascends_above low xs ≡ true → Selects part xs → IsIn (split_at part xs) (splits xs)
selection_splits low [] [] h s = inl refl
selection_splits low [] (x ∷ xs) h s = inl refl
selection_splits low (p ∷ ps) [] h s = absurd s
selection_splits low (p ∷ ps) (x ∷ xs) h (inl both) =
    let here = and_parts (nat_lt low x) (ascends_above x xs) h in
    let taken : split_at (p ∷ ps) (x ∷ xs) ≡ taking x (split_at ps xs) = taken_is p x ps xs both.0 in
    inr (in_left _ _ _ (subst (λ (s : Split). IsIn s (map (taking x) (splits xs))) (sym taken) (in_map (taking x) (split_at ps xs) (splits xs) (selection_splits x ps xs here.1 both.1))))
selection_splits low (p ∷ ps) (x ∷ xs) h (inr later) =
    let here = and_parts (nat_lt low x) (ascends_above x xs) h in
    let above : x < p = selects_above x p ps xs here.1 later in
    let left : split_at (p ∷ ps) (x ∷ xs) ≡ leaving x (split_at (p ∷ ps) xs) = left_is p x ps xs above in
    inr (in_right _ _ _ (subst (λ (s : Split). IsIn s (map (leaving x) (filter (begins_above x) (splits xs)))) (sym left)
    (in_map (leaving x) (split_at (p ∷ ps) xs) (filter (begins_above x) (splits xs))
    (in_filter (begins_above x) (split_at (p ∷ ps) xs) (splits xs) (selection_splits x (p ∷ ps) xs here.1 later) (lt-ltb x p above)))))

-- the part of each split is a selection
pub split_selects : (xs : List ℕ) (split : Split) → IsIn split (splits xs) → Selects split.part xs
split_selects [] split (inl same) = subst (λ (s : Split). Selects s.part []) (sym same) tt
split_selects [] split (inr there) = absurd there
split_selects (x ∷ xs) split there = elim (split_cases x xs split there) [
  | inl same ↦ subst (λ (s : Split). Selects s.part (x ∷ xs)) (sym same) tt
  | inr found ↦
      let others : Selects found.0.part xs = split_selects xs found.0 found.1 in
      elim found.2 [
        | inl same ↦ subst (λ (s : Split). Selects s.part (x ∷ xs)) (sym same) (inl (refl, others))
        | inr same ↦ subst (λ (s : Split). Selects s.part (x ∷ xs)) (sym same) (selects_more x found.0.part xs others)
      ]
]
