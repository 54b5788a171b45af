-- Numbers put in ascending order.
use Rattle.std.proofs.Common.{◌≡◌, ℕ, zero, suc, length, replicate, ◌<◌, ◌≤◌, List, [], ◌∷◌, ◌++◌, refl, sym, ap, ◌∙◌, subst, inl, inr, arith}
use Rattle.std.proofs.lemmas.Bool.{cases_lt, cases_order}
use Rattle.std.proofs.lemmas.Bool.Decides.{nat_tests}
use Rattle.lists.specs.Ascending.{inserted, ascending}

-- has each number the property
abbrev pub Each : (ℕ → Type 0) → List ℕ → Type 0
Each P [] = Unit {0}
Each P (n ∷ ns) = P n × Each P ns

abbrev pub From : ℕ → ℕ → Type 0
From low n = low ≤ n

-- is each number at least low
abbrev pub AtLeast : ℕ → List ℕ → Type 0
AtLeast low ns = Each (From low) ns

-- is each number at most the next one
abbrev pub Rises : List ℕ → Type 0
Rises [] = Unit {0}
Rises (n ∷ ns) = AtLeast n ns × Rises ns

pub inserted_first : (x m : ℕ) (ms : List ℕ) → x ≤ m → inserted x (m ∷ ms) ≡ x ∷ m ∷ ms
inserted_first x m ms h = grind (arith, nat_tests)

pub inserted_later : (x m : ℕ) (ms : List ℕ) → m < x → inserted x (m ∷ ms) ≡ m ∷ inserted x ms
inserted_later x m ms h = grind (arith, nat_tests)

pub inserted_least : (x : ℕ) (ms : List ℕ) → AtLeast x ms → inserted x ms ≡ x ∷ ms
inserted_least x [] h = refl
inserted_least x (m ∷ ms) h = inserted_first x m ms h.0

pub lower : (low x : ℕ) (ns : List ℕ) → low ≤ x → AtLeast x ns → AtLeast low ns
lower low x [] h a = tt
lower low x (n ∷ ns) h a = (omega (arith, a.0), lower low x ns h a.1)

pub each_append : (P : ℕ → Type 0) (xs ys : List ℕ) → Each P xs → Each P ys → Each P (xs ++ ys)
each_append P [] ys a b = b
each_append P (x ∷ xs) ys a b = (a.0, each_append P xs ys a.1 b)

pub each_left : (P : ℕ → Type 0) (xs ys : List ℕ) → Each P (xs ++ ys) → Each P xs
each_left P [] ys a = tt
each_left P (x ∷ xs) ys a = (a.0, each_left P xs ys a.1)

pub each_right : (P : ℕ → Type 0) (xs ys : List ℕ) → Each P (xs ++ ys) → Each P ys
each_right P [] ys a = a
each_right P (x ∷ xs) ys a = each_right P xs ys a.1

each_inserted : (P : ℕ → Type 0) (x : ℕ) (ms : List ℕ) → P x → Each P ms → Each P (inserted x ms)
each_inserted P x [] h a = (h, tt)
each_inserted P x (m ∷ ms) h a = elim (cases_lt m x) [
  | inl above ↦ subst (Each P) (sym (inserted_later x m ms above)) (a.0, each_inserted P x ms h a.1)
  | inr within ↦ subst (Each P) (sym (inserted_first x m ms within)) (h, a)
]

from_inserted : (P : ℕ → Type 0) (x : ℕ) (ms : List ℕ) → Each P (inserted x ms) → P x × Each P ms
from_inserted P x [] a = (a.0, tt)
from_inserted P x (m ∷ ms) a = elim (cases_lt m x) [
  | inl above ↦
      let b : Each P (m ∷ inserted x ms) = subst (Each P) (inserted_later x m ms above) a in
      let c : P x × Each P ms = from_inserted P x ms b.1 in
      (c.0, (b.0, c.1))
  | inr within ↦ let b : Each P (x ∷ m ∷ ms) = subst (Each P) (inserted_first x m ms within) a in (b.0, b.1)
]

pub each_ascending : (P : ℕ → Type 0) (xs : List ℕ) → Each P xs → Each P (ascending xs)
each_ascending P [] a = tt
each_ascending P (x ∷ xs) a = each_inserted P x (ascending xs) a.0 (each_ascending P xs a.1)

pub from_ascending : (P : ℕ → Type 0) (xs : List ℕ) → Each P (ascending xs) → Each P xs
from_ascending P [] a = tt
from_ascending P (x ∷ xs) a =
    let b : P x × Each P (ascending xs) = from_inserted P x (ascending xs) a in
    (b.0, from_ascending P xs b.1)

rises_inserted : (x : ℕ) (ms : List ℕ) → Rises ms → Rises (inserted x ms)
rises_inserted x [] r = (tt, tt)
rises_inserted x (m ∷ ms) r = elim (cases_lt m x) [
  | inl above ↦ subst Rises (sym (inserted_later x m ms above)) (each_inserted (From m) x ms (omega arith) r.0, rises_inserted x ms r.1)
  | inr within ↦ subst Rises (sym (inserted_first x m ms within)) ((within, lower x m ms within r.0), r)
]

pub rises_ascending : (xs : List ℕ) → Rises (ascending xs)
rises_ascending [] = tt
rises_ascending (x ∷ xs) = rises_inserted x (ascending xs) (rises_ascending xs)

pub ascending_same : (xs : List ℕ) → Rises xs → ascending xs ≡ xs
ascending_same [] r = refl
ascending_same (x ∷ xs) r = ap (inserted x) (ascending_same xs r.1) ∙ inserted_least x xs r.0

-- two numbers may go in in either order
inserted_swap : (x y : ℕ) (ms : List ℕ) → x < y → inserted x (inserted y ms) ≡ inserted y (inserted x ms)
inserted_swap x y [] h = inserted_first x y [] (omega arith) ∙ sym (inserted_later y x [] h)
inserted_swap x y (m ∷ ms) h = elim (cases_lt m x) [
  | inl above ↦
      ap (inserted x) (inserted_later y m ms (omega arith)) ∙ inserted_later x m (inserted y ms) above ∙ ap (λ ns. m ∷ ns) (inserted_swap x y ms h)
      ∙ sym (inserted_later y m (inserted x ms) (omega arith)) ∙ ap (inserted y) (sym (inserted_later x m ms above))
  | inr within ↦
      first_in within ∙ sym (inserted_later y x (m ∷ ms) h) ∙ ap (inserted y) (sym (inserted_first x m ms within))
]
  where
    first_in : x ≤ m → inserted x (inserted y (m ∷ ms)) ≡ x ∷ inserted y (m ∷ ms)
    first_in within = elim (cases_lt m y) [
      | inl below ↦ ap (inserted x) (inserted_later y m ms below) ∙ inserted_first x m (inserted y ms) within ∙ ap (λ ns. x ∷ ns) (sym (inserted_later y m ms below))
      | inr there ↦ ap (inserted x) (inserted_first y m ms there) ∙ inserted_first x y (m ∷ ms) (omega arith) ∙ ap (λ ns. x ∷ ns) (sym (inserted_first y m ms there))
    ]

pub inserted_either : (x y : ℕ) (ms : List ℕ) → inserted x (inserted y ms) ≡ inserted y (inserted x ms)
inserted_either x y ms = elim (cases_order x y) [
  | inl same ↦ subst (λ w. inserted x (inserted w ms) ≡ inserted w (inserted x ms)) same refl
  | inr (inl below) ↦ inserted_swap x y ms below
  | inr (inr above) ↦ sym (inserted_swap y x ms above)
]

ascending_inserted : (x : ℕ) (xs ys : List ℕ) → ascending (inserted x xs ++ ys) ≡ inserted x (ascending (xs ++ ys))
ascending_inserted x [] ys = refl
ascending_inserted x (m ∷ ms) ys = elim (cases_lt m x) [
  | inl above ↦
      ap (λ ns. ascending (ns ++ ys)) (inserted_later x m ms above) ∙ ap (inserted m) (ascending_inserted x ms ys) ∙ inserted_either m x (ascending (ms ++ ys))
  | inr within ↦ ap (λ ns. ascending (ns ++ ys)) (inserted_first x m ms within)
]

ascending_left : (xs ys : List ℕ) → ascending (ascending xs ++ ys) ≡ ascending (xs ++ ys)
ascending_left [] ys = refl
ascending_left (x ∷ xs) ys = ascending_inserted x (ascending xs) ys ∙ ap (inserted x) (ascending_left xs ys)

ascending_right : (xs ys : List ℕ) → ascending (xs ++ ascending ys) ≡ ascending (xs ++ ys)
ascending_right [] ys = ascending_same (ascending ys) (rises_ascending ys)
ascending_right (x ∷ xs) ys = ap (inserted x) (ascending_right xs ys)

-- numbers in two parts, each put in order first
pub ascending_both : (xs ys : List ℕ) → ascending (ascending xs ++ ascending ys) ≡ ascending (xs ++ ys)
ascending_both xs ys = ascending_left xs (ascending ys) ∙ ascending_right xs ys

-- a number in front of the second part
pub ascending_middle : (x : ℕ) (xs ys : List ℕ) → ascending (xs ++ x ∷ ys) ≡ inserted x (ascending (xs ++ ys))
ascending_middle x [] ys = refl
ascending_middle x (y ∷ xs) ys = ap (inserted y) (ascending_middle x xs ys) ∙ inserted_either y x (ascending (xs ++ ys))

-- ---- lengths

length-inserted : (x : ℕ) (ms : List ℕ) → length (inserted x ms) ≡ suc (length ms)
length-inserted x [] = refl
length-inserted x (m ∷ ms) = elim (cases_lt m x) [
  | inl above ↦ ap length (inserted_later x m ms above) ∙ ap suc (length-inserted x ms)
  | inr below ↦ ap length (inserted_first x m ms below)
]

pub length-ascending : (xs : List ℕ) → length (ascending xs) ≡ length xs
length-ascending [] = refl
length-ascending (x ∷ xs) = length-inserted x (ascending xs) ∙ ap suc (length-ascending xs)

-- ---- a number that is there more than once

-- a number above those of a run goes in after the run
pub inserted_after : (x m n : ℕ) (ms : List ℕ) → m < x → inserted x (replicate n m ++ ms) ≡ replicate n m ++ inserted x ms
inserted_after x m zero ms h = refl
inserted_after x m (suc n) ms h = inserted_later x m (replicate n m ++ ms) h ∙ ap (λ ns. m ∷ ns) (inserted_after x m n ms h)

pub inserted_before : (x m n : ℕ) (ms : List ℕ) → 1 ≤ n → x ≤ m → inserted x (replicate n m ++ ms) ≡ x ∷ replicate n m ++ ms
inserted_before x m zero ms some h = absurd (omega arith)
inserted_before x m (suc n) ms some h = inserted_first x m (replicate n m ++ ms) h
