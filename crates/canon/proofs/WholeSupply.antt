-- So many labels are those of a size, where each of those from 1 to the size is there, or where all are 0.
use Rattle.std.proofs.Common.{◌≡◌, ℕ, zero, suc, ◌+◌, ◌<◌, ◌≤◌, Bool, true, false, cond, nat_eq, List, [], ◌∷◌, ◌++◌, length, get_or, drop, replicate, refl, sym, ap, ◌∙◌, subst, inl, inr, length-append, true≢false, arith}
use Rattle.std.specs.List.{count_by}
use Rattle.std.specs.Cmp.Lexicographic.{same_text}
use Rattle.std.proofs.lemmas.List.Sums.{sum_by-cons, sum_by-append, count_by-le-length}
use Rattle.std.proofs.lemmas.List.Folds.{sum_by-replicate}
use Rattle.std.proofs.lemmas.Bool.{and_from, cases_lt, cases_order, eq-eqb, eqb-true}
use Rattle.std.proofs.lemmas.Bool.Decides.{nat_tests}
use Rattle.spec_syntax.specs.declared.statement.Universe.{Universe}
use Rattle.lists.specs.Ascending.{inserted, ascending, one_to}
use Rattle.lists.proofs.Ascending.{Each, inserted_later, inserted_first, ascending_middle, length-ascending}
use Rattle.lists.proofs.AscendingAbove.{one_to_below}
use Rattle.struct_model.specs.Structure.{Structure, labels, labels_of_parts, parts_of}
use Rattle.struct_model.specs.Membership.{same_labels, supply}
use Rattle.struct_model.proofs.Parts.{labels_step}
use Rattle.struct_model.proofs.SupplyLaws.{supply_size}

abbrev occurs : ℕ → List ℕ → ℕ
occurs k xs = count_by (nat_eq k) xs

abbrev once : ℕ → ℕ → ℕ
once k x = cond (nat_eq k x) 1 0

-- ---- how often a label is there

occurs_cons : (k x : ℕ) (xs : List ℕ) → occurs k (x ∷ xs) ≡ once k x + occurs k xs
occurs_cons k x xs = sum_by-cons (once k) x xs

occurs_append : (k : ℕ) (xs ys : List ℕ) → occurs k (xs ++ ys) ≡ occurs k xs + occurs k ys
occurs_append k xs ys = sum_by-append (once k) xs ys

occurs_same : (k x : ℕ) (xs : List ℕ) → k ≡ x → 1 ≤ occurs k (x ∷ xs)
occurs_same k x xs same = grind (arith, nat_tests, occurs_cons k x xs)

occurs_other : (k x : ℕ) (xs : List ℕ) → (k ≡ x → ⊥) → occurs k (x ∷ xs) ≡ occurs k xs
occurs_other k x xs other = grind (arith, nat_tests, occurs_cons k x xs)

-- the labels of the parts from place i on, by the part there
pub occurs_step : (k : ℕ) (parts : List Structure) (i : ℕ) (part : Structure) → i < length parts → part ≡ get_or parts i part
    → occurs k (labels_of_parts (parts_of (drop i parts))) ≡ occurs k (labels part) + occurs k (labels_of_parts (parts_of (drop (i + 1) parts)))
occurs_step k parts i part within at =
    ap (occurs k) (labels_step parts i part within at)
    ∙ occurs_append k (labels part) (labels_of_parts (parts_of (drop (i + 1) parts)))

-- ---- putting labels in order keeps it

occurs_later : (k x m : ℕ) (ms : List ℕ) → occurs k (inserted x ms) ≡ occurs k (x ∷ ms) → occurs k (m ∷ inserted x ms) ≡ occurs k (x ∷ m ∷ ms)
occurs_later k x m ms so_far =
    omega (arith, so_far, occurs_cons k m (inserted x ms), occurs_cons k x ms, occurs_cons k x (m ∷ ms), occurs_cons k m ms)

occurs_inserted : (k x : ℕ) (ms : List ℕ) → occurs k (inserted x ms) ≡ occurs k (x ∷ ms)
occurs_inserted k x [] = refl
occurs_inserted k x (m ∷ ms) = elim (cases_lt m x) [
  | inl above ↦ ap (occurs k) (inserted_later x m ms above) ∙ occurs_later k x m ms (occurs_inserted k x ms)
  | inr within ↦ ap (occurs k) (inserted_first x m ms within)
]

occurs_ascending : (k : ℕ) (xs : List ℕ) → occurs k (ascending xs) ≡ occurs k xs
occurs_ascending k [] = refl
occurs_ascending k (x ∷ xs) =
    occurs_inserted k x (ascending xs) ∙ occurs_cons k x (ascending xs) ∙ ap (λ (n : ℕ). once k x + n) (occurs_ascending k xs) ∙ sym (occurs_cons k x xs)

-- ---- the labels from 1 on

-- a label that is there, with those before and after it
record Split (k : ℕ) (xs : List ℕ) : Type 0 where
  before : List ℕ
  after : List ℕ
  whole : xs ≡ before ++ k ∷ after

split_more : (k x : ℕ) (xs : List ℕ) → Split k xs → Split k (x ∷ xs)
split_more k x xs split = record { before = x ∷ split.before; after = split.after; whole = ap (λ rest. x ∷ rest) split.whole }

split_at : (k : ℕ) (xs : List ℕ) → 1 ≤ occurs k xs → Split k xs
split_at k [] some = absurd (omega (arith, some))
split_at k (x ∷ xs) some = elim (cases_order k x) [
  | inl same ↦ record { before = []; after = xs; whole = ap (λ y. y ∷ xs) (sym same) }
  | inr (inl below) ↦ split_more k x xs (split_at k xs (omega (arith, some, occurs_other k x xs (λ same. omega arith))))
  | inr (inr above) ↦ split_more k x xs (split_at k xs (omega (arith, some, occurs_other k x xs (λ same. omega arith))))
]

occurs_without : (k m : ℕ) (xs ys : List ℕ) → (k ≡ m → ⊥) → occurs k (xs ++ m ∷ ys) ≡ occurs k (xs ++ ys)
occurs_without k m xs ys other = omega (arith, occurs_append k xs (m ∷ ys), occurs_append k xs ys, occurs_other k m ys other)

inserted_last : (x : ℕ) (ms : List ℕ) → Each (λ m. m < x) ms → inserted x ms ≡ ms ++ x ∷ []
inserted_last x [] below = refl
inserted_last x (m ∷ ms) below = inserted_later x m ms below.0 ∙ ap (λ rest. m ∷ rest) (inserted_last x ms below.1)

-- so many labels, among which is each from 1 on, are these
whole_from : (n : ℕ) (xs : List ℕ) → length xs ≡ n → ((k : ℕ) → 1 ≤ k → k ≤ n → 1 ≤ occurs k xs) → ascending xs ≡ one_to n
whole_from zero [] size each = refl
whole_from zero (x ∷ xs) size each = absurd (omega (arith, size))
whole_from (suc n) xs size each =
    let split : Split (suc n) xs = split_at (suc n) xs (each (suc n) (omega arith) (omega arith)) in
    let rest : List ℕ = split.before ++ split.after in
    let all_size : length xs ≡ length split.before + length (suc n ∷ split.after) = ap length split.whole ∙ length-append split.before (suc n ∷ split.after) in
    let fewer : length rest ≡ n = omega (arith, size, all_size, length-append split.before split.after) in
    let others : (k : ℕ) → 1 ≤ k → k ≤ n → 1 ≤ occurs k rest = λ k low high.
    omega (arith, each k low (omega (arith, high)), ap (occurs k) split.whole, occurs_without k (suc n) split.before split.after (λ same. omega (arith, same, high))) in
    ap ascending split.whole
    ∙ ascending_middle (suc n) split.before split.after
    ∙ ap (inserted (suc n)) (whole_from n rest fewer others)
    ∙ inserted_last (suc n) (one_to n) (one_to_below n (suc n) (omega arith))

occurs_one_to : (k n : ℕ) → 1 ≤ k → k ≤ n → 1 ≤ occurs k (one_to n)
occurs_one_to k zero low high = absurd (omega (arith, low, high))
occurs_one_to k (suc n) low high = elim (cases_lt n k) [
  | inl above ↦ omega (arith, occurs_append k (one_to n) (suc n ∷ []), occurs_same k (suc n) [] (omega (arith, high, above)))
  | inr within ↦ omega (arith, occurs_append k (one_to n) (suc n ∷ []), occurs_one_to k n low within)
]

-- ---- zeros

inserted_zero : (ms : List ℕ) → inserted 0 ms ≡ 0 ∷ ms
inserted_zero [] = refl
inserted_zero (m ∷ ms) = inserted_first 0 m ms (omega arith)

zeros_from : (xs : List ℕ) → occurs 0 xs ≡ length xs → ascending xs ≡ replicate (length xs) 0
zeros_from [] all = refl
zeros_from (x ∷ xs) all =
    let few : occurs 0 xs ≤ length xs = count_by-le-length (nat_eq 0) xs in
    let none : x ≡ 0 = grind (arith, nat_tests, few, occurs_cons 0 x xs) in
    let others : occurs 0 xs ≡ length xs = grind (arith, nat_tests, few, occurs_cons 0 x xs) in
    ap (λ (y : ℕ). inserted y (ascending xs)) none ∙ ap (inserted 0) (zeros_from xs others) ∙ inserted_zero (replicate (length xs) 0)

occurs_zeros : (n : ℕ) → occurs 0 (replicate n 0) ≡ n
occurs_zeros n = omega (arith, sum_by-replicate (once 0) n 0)

-- ---- the test of labels

same_itself : (xs : List ℕ) → same_labels xs xs ≡ true
same_itself [] = refl
same_itself (x ∷ xs) = and_from _ _ (eq-eqb x x refl) (same_itself xs)

same_from : (xs ys : List ℕ) → xs ≡ ys → true ≡ same_labels xs ys
same_from xs ys same = sym (subst (λ zs. same_labels xs zs ≡ true) same (same_itself xs))

not_true : (b : Bool) → (true ≡ b → ⊥) → false ≡ b
not_true true h = absurd (h refl)
not_true false h = refl

size_told : (universe : Universe) (n : ℕ) (xs : List ℕ) → true ≡ same_labels (ascending xs) (supply universe n) → length xs ≡ n
size_told universe n xs told = sym (length-ascending xs) ∙ ap length (same_text (ascending xs) (supply universe n) told) ∙ supply_size universe n

-- labels of another number are not those of the size
pub other_size : (universe : Universe) (n : ℕ) (xs : List ℕ) → (length xs ≡ n → ⊥) → false ≡ same_labels (ascending xs) (supply universe n)
other_size universe n xs other = not_true _ (λ told. other (size_told universe n xs told))

-- where one of the labels is missing, they are not those
pub one_is_missing : (n k : ℕ) (xs : List ℕ) → 1 ≤ k → k ≤ n → count_by (nat_eq k) xs ≡ 0 → false ≡ same_labels (ascending xs) (one_to n)
one_is_missing n k xs low high missing =
    not_true _ (λ told. omega (arith, missing, occurs_ascending k xs, ap (occurs k) (same_text (ascending xs) (one_to n) told), occurs_one_to k n low high))

-- where none is missing, they are
pub none_is_missing : (n : ℕ) (xs : List ℕ) → length xs ≡ n → ((k : ℕ) → k < n → 1 ≤ count_by (nat_eq (k + 1)) xs)
    → true ≡ same_labels (ascending xs) (one_to n)
none_is_missing n xs size each = same_from _ _ (whole_from n xs size there)
  where
    there : (k : ℕ) → 1 ≤ k → k ≤ n → 1 ≤ occurs k xs
    there zero low high = absurd (omega (arith, low))
    there (suc k) low high = let next : k + 1 ≡ suc k = omega arith in subst (λ (j : ℕ). 1 ≤ occurs j xs) next (each k (omega (arith, high)))

-- where each label below one is there, and this one too
pub one_more_there : (n : ℕ) (xs : List ℕ) → ((k : ℕ) → k < n → 1 ≤ count_by (nat_eq (k + 1)) xs) → (count_by (nat_eq (n + 1)) xs ≡ 0 → ⊥)
    → (k : ℕ) → k < n + 1 → 1 ≤ count_by (nat_eq (k + 1)) xs
one_more_there n xs each some k below = elim (cases_lt k n) [
  | inl before ↦ each k before
  | inr last ↦
      let same : n ≡ k = omega (arith, below, last) in
      subst (λ (j : ℕ). 1 ≤ count_by (nat_eq (j + 1)) xs) same (not_none (count_by (nat_eq (n + 1)) xs) some)
]
  where
    not_none : (m : ℕ) → (m ≡ 0 → ⊥) → 1 ≤ m
    not_none m some = omega (arith, some)

all_zero : (n : ℕ) (xs : List ℕ) → true ≡ same_labels (ascending xs) (replicate n 0) → occurs 0 xs ≡ n
all_zero n xs same = sym (occurs_ascending 0 xs) ∙ ap (occurs 0) (same_text (ascending xs) (replicate n 0) same) ∙ occurs_zeros n

-- so many labels are zeros, where so many of them are
pub zeros_decide : (n zeros : ℕ) (xs : List ℕ) → length xs ≡ n → zeros ≡ count_by (nat_eq 0) xs
    → nat_eq zeros n ≡ same_labels (ascending xs) (replicate n 0)
zeros_decide n zeros xs size counted = by (nat_eq zeros n) refl
  where
    by : (b : Bool) → nat_eq zeros n ≡ b → b ≡ same_labels (ascending xs) (replicate n 0)
    by true told = same_from _ _ (zeros_from xs (sym counted ∙ eqb-true zeros n told ∙ sym size) ∙ ap (λ (k : ℕ). replicate k 0) size)
    by false told = not_true _ (λ same. true≢false (sym (eq-eqb zeros n (counted ∙ all_zero n xs same)) ∙ told))
