-- Steps of the sums over the splits of a size.
use Rattle.std.proofs.Common.{◌≡◌, ◌⊎◌, ℕ, zero, suc, ◌+◌, ◌-◌, ◌*◌, ◌<◌, ◌≤◌, ◌^◌, List, [], ◌∷◌, map, length, replicate, Option, Some, slice_get, sym, ap, ◌∙◌, subst, inl, inr, refl, arith}
use Rattle.std.specs.Prelude.{Result, Ok, Err}
use Rattle.std.specs.Result.{IfOk}
use Rattle.std.specs.List.{sum, range_with_len}
use Rattle.std.proofs.Math.Nat.{mul_assoc, mul-zero, zero-mul}
use Rattle.std.proofs.Math.ListN.{set}
use Rattle.std.proofs.lemmas.Bool.{cases_lt}
use Rattle.std.proofs.lemmas.List.{length-set}
use Rattle.std.proofs.lemmas.List.FromFn.{sum_by-map-range_with_len_more}
use Rattle.std.proofs.lemmas.Option.{slice_get_within}
use Rattle.lists.proofs.Positions.{slice_some}
use Rattle.spec_syntax.specs.declared.statement.Universe.{Universe}
use Rattle.listing_laws.specs.Numbers.{ways, joined}
use Rattle.splits.specs.Capped.{Tells}
use Rattle.size_counts.specs.Sums.{ProductTold, AddsProduct}

-- ---- lists

-- what stands in a list after one entry is set
pub set_at : {X : Type 0} (xs : List X) (i j : ℕ) (x y : X) → slice_get (set xs i x) j ≡ Some y → ((j ≡ i) × (y ≡ x)) ⊎ ((j ≡ i → ⊥) × (slice_get xs j ≡ Some y))
set_at [] i j x y at = absurd (none j at)
  where
    none : {X : Type 0} {y : X} (j : ℕ) → slice_get [] j ≡ Some y → ⊥
    none zero at = cc
    none (suc j) at = cc
set_at (first ∷ xs) zero zero x y at = let same : y ≡ x = cc in inl (refl, same)
set_at (first ∷ xs) zero (suc j) x y at = inr ((λ same. omega (arith, same)), at)
set_at (first ∷ xs) (suc i) zero x y at = inr ((λ same. omega (arith, same)), at)
set_at (first ∷ xs) (suc i) (suc j) x y at = elim (set_at xs i j x y at) [
  | inl here ↦ inl (ap suc here.0, here.1)
  | inr other ↦ inr ((λ same. other.0 (omega (arith, same))), other.1)
]

-- and in one that has only zeros
pub zeros_at : (n i : ℕ) (one : Option ℕ) → slice_get (replicate n (Some 0)) i ≡ Some one → one ≡ Some 0
zeros_at zero zero one there = absurd (cc)
zeros_at zero (suc i) one there = absurd (cc)
zeros_at (suc n) zero one there = cc
zeros_at (suc n) (suc i) one there = zeros_at n i one there

-- what holds of a result
pub if_ok : {T E : Type 0} (result : Result T E) (P Q : T → Type 0) → ((x : T) → P x → Q x) → IfOk result P → IfOk result Q
if_ok (Ok x) P Q more is = more x is
if_ok (Err e) P Q more is = tt

-- ---- one sum

-- the splits with a first part below size d alone
abbrev pub joined_to : (ℕ → ℕ) → (ℕ → ℕ) → (ℕ → ℕ) → ℕ → ℕ → ℕ
joined_to weight first other n d = sum (map (λ k. weight k * (first k * other (n - k))) (range_with_len 0 d))

pub joined_more : (weight : ℕ → ℕ) (first other : ℕ → ℕ) (n d : ℕ)
    → joined_to weight first other n (d + 1) ≡ joined_to weight first other n d + weight d * (first d * other (n - d))
joined_more weight first other n d = sum_by-map-range_with_len_more (λ (x : ℕ). x) (λ (k : ℕ). weight k * (first k * other (n - k))) 0 d d (omega arith)

-- one more split
pub joined_step : (weight : ℕ → ℕ) (first other : ℕ → ℕ) (n d : ℕ) (before step after : Option ℕ)
    → Tells before (joined_to weight first other n d) → Tells step (weight d * (first d * other (n - d)))
    → ((x y : ℕ) → Tells before x → Tells step y → Tells after (x + y)) → Tells after (joined_to weight first other n (d + 1))
joined_step weight first other n d before step after one two plus =
    subst (λ (k : ℕ). Tells after k) (sym (joined_more weight first other n d)) (plus _ _ one two)

-- where one of two numbers is told to be 0, their product is
pub none_split : (one other : Option ℕ) (w x y : ℕ) → (one ≡ Some 0) ⊎ (other ≡ Some 0) → ProductTold one other x y → Tells (Some 0) (w * (x * y))
none_split one other w x y none told = let zero : x * y ≡ 0 = by none told in let at : 0 ≡ w * 0 = omega arith in subst (λ (k : ℕ). Tells (Some 0) (w * k)) (sym zero) (at, omega arith)
  where
    by : (one ≡ Some 0) ⊎ (other ≡ Some 0) → ProductTold one other x y → x * y ≡ 0
    by none (inr product) = product.1
    by (inl first) (inl both) =
        let is : Tells (Some 0) x = subst (λ (o : Option ℕ). Tells o x) first both.0 in let zero : x ≡ 0 = sym is.0 in subst (λ (k : ℕ). k * y ≡ 0) (sym zero) (omega arith)
    by (inr second) (inl both) =
        let is : Tells (Some 0) y = subst (λ (o : Option ℕ). Tells o y) second both.1 in let zero : y ≡ 0 = sym is.0 in subst (λ (k : ℕ). x * k ≡ 0) (sym zero) (omega arith)

-- and otherwise both are told
pub some_split : (one other product ways_told result : Option ℕ) (w x y : ℕ) → (one ≡ Some 0 → ⊥) → (other ≡ Some 0 → ⊥) → ((m n : ℕ) → Tells one m → Tells other n → Tells product (m * n)) → Tells ways_told w
    → ((m n : ℕ) → Tells ways_told m → Tells product n → Tells result (m * n)) → ProductTold one other x y → Tells result (w * (x * y))
some_split one other product ways_told result w x y not_first not_second times by_ways last (inl both) = last w (x * y) by_ways (times x y both.0 both.1)
some_split one other product ways_told result w x y not_first not_second times by_ways last (inr none) = absurd (elim (none.0) [ inl first ↦ not_first first | inr second ↦ not_second second ])

-- a way to tell each number of a column
pub joined_all : (universe : Universe) (first other : ℕ → ℕ) (n d : ℕ) (sum : Option ℕ) → d ≡ n + 1 → Tells sum (joined_to (ways universe n) first other n d) → Tells sum (joined universe first other n)
joined_all universe first other n d sum same told = subst (λ (k : ℕ). Tells sum (joined_to (ways universe n) first other n k)) same told

-- ---- sums side by side, by the number of components

-- the first n sums have so many times the numbers of rests added to them, and the others are as before
pub record AreAddedTo (n : ℕ) (before after : List (Option ℕ)) (many : Option ℕ) (rests : ℕ → ℕ) : Type 0 where
  pub for_each : length after ≡ length before
  pub done : (i : ℕ) (one two : Option ℕ) → i < n → slice_get before i ≡ Some one → slice_get after i ≡ Some two → AddsProduct one two many (rests i)
  pub left : (i : ℕ) (two : Option ℕ) → n ≤ i → slice_get after i ≡ Some two → slice_get before i ≡ Some two

pub added_none : (before : List (Option ℕ)) (many : Option ℕ) (rests : ℕ → ℕ) → AreAddedTo 0 before before many rests
added_none before many rests = record { for_each = refl; done = λ i one two below. absurd (omega arith); left = λ i two past there. there }

pub added_more : (n value : ℕ) (before after : List (Option ℕ)) (many current product one : Option ℕ) (rests : ℕ → ℕ) → AreAddedTo n before after many rests
    → slice_get after n ≡ Some current → rests n ≡ value → value < 2 ^ 128 → ((x y : ℕ) → Tells many x → Tells (Some value) y → Tells product (x * y))
    → ((x y : ℕ) → Tells current x → Tells product y → Tells one (x + y)) → AreAddedTo (n + 1) before (set after n one) many rests
added_more n value before after many current product one rests added here in_row small product_told sum_told = record {
  for_each = length-set after n one ∙ added.for_each;
  done = λ i first two below earlier there. elim (set_at after n i one two there) [
    | inl same ↦ at_n i first two same earlier
    | inr other ↦ added.done i first two (omega (arith, below, other.0)) earlier other.1
  ];
  left = λ i two past there. elim (set_at after n i one two there) [
    | inl same ↦ absurd (omega (arith, past, same.0))
    | inr other ↦ added.left i two (omega (arith, past)) other.1
  ];
}
  where
    sums : AddsProduct current one many value
    sums x w told by_many = sum_told x (w * value) told (product_told w value by_many (refl, small))

    at_n : (i : ℕ) (first two : Option ℕ) → (i ≡ n) × (two ≡ one) → slice_get before i ≡ Some first → AddsProduct first two many (rests i)
    at_n i first two same earlier x w told by_many =
        let before_it : Some first ≡ Some current = sym earlier ∙ ap (slice_get before) same.0 ∙ added.left n current (omega arith) here in
        let is_current : first ≡ current = cc in
        let number : rests i ≡ value = ap rests same.0 ∙ in_row in
        subst (λ (k : ℕ). Tells two (x + w * k)) (sym number)
        (subst (λ (o : Option ℕ). Tells o (x + w * value)) (sym same.1) (sums x w (subst (λ (o : Option ℕ). Tells o x) is_current told) by_many))

-- where there are no more rests, nothing is added
pub added_all : (n : ℕ) (before after : List (Option ℕ)) (many : Option ℕ) (rests : ℕ → ℕ) → AreAddedTo n before after many rests → (length before ≤ n) ⊎ ((i : ℕ) → n ≤ i → rests i ≡ 0)
    → (i : ℕ) (one two : Option ℕ) → slice_get before i ≡ Some one → slice_get after i ≡ Some two → AddsProduct one two many (rests i)
added_all n before after many rests added end i one two earlier there = elim (cases_lt i n) [
  | inl below ↦ added.done i one two below earlier there
  | inr past ↦ beyond past
]
  where
    beyond : n ≤ i → AddsProduct one two many (rests i)
    beyond past x w told by_many =
        let none : rests i ≡ 0 = elim end [
          | inl all ↦ absurd (omega (arith, slice_get_within before i one earlier, all, past))
          | inr short ↦ short i past
        ] in
        let same : Some one ≡ Some two = sym earlier ∙ added.left i two past there in
        let is_one : one ≡ two = cc in
        let sum : x ≡ x + w * 0 = omega arith in
        subst (λ (k : ℕ). Tells two (x + w * k)) (sym none) (subst (λ (k : ℕ). Tells two k) sum (subst (λ (o : Option ℕ). Tells o x) is_one told))

-- sum number i, from 0, is over the splits with a first part below size d and a list of i + 1 others
pub record AreSummed (weight : ℕ → ℕ) (first : ℕ → ℕ) (lists : ℕ → ℕ → ℕ) (n d : ℕ) (sums : List (Option ℕ)) : Type 0 where
  pub each : (i : ℕ) (one : Option ℕ) → slice_get sums i ≡ Some one → Tells one (joined_to weight first (lists (i + 1)) n d)

none_first : (w x y : ℕ) → x ≡ 0 → w * (x * y) ≡ 0
none_first w x y none = ap (λ (k : ℕ). w * (k * y)) none ∙ ap (λ (k : ℕ). w * k) (zero-mul y) ∙ mul-zero w

-- a size that no first part has
pub summed_pass : (weight : ℕ → ℕ) (first : ℕ → ℕ) (lists : ℕ → ℕ → ℕ) (n d : ℕ) (sums : List (Option ℕ)) → first d ≡ 0 → AreSummed weight first lists n d sums → AreSummed weight first lists n (d + 1) sums
summed_pass weight first lists n d sums none before = record {
  each = λ i one there.
      let product : weight d * (first d * lists (i + 1) (n - d)) ≡ 0 = none_first (weight d) (first d) (lists (i + 1) (n - d)) none in
      let same : joined_to weight first (lists (i + 1)) n d ≡ joined_to weight first (lists (i + 1)) n (d + 1) = omega (arith, joined_more weight first (lists (i + 1)) n d, product) in
      subst (λ (k : ℕ). Tells one k) same (before.each i one there);
}

-- below size 1 there is none
pub summed_none : (weight : ℕ → ℕ) (first : ℕ → ℕ) (lists : ℕ → ℕ → ℕ) (n : ℕ) (sums : List (Option ℕ)) → first 0 ≡ 0 → ((i : ℕ) (one : Option ℕ) → slice_get sums i ≡ Some one → one ≡ Some 0)
    → AreSummed weight first lists n 1 sums
summed_none weight first lists n sums none zeros = summed_pass weight first lists n 0 sums none (record {
  each = λ i one there. subst (λ (o : Option ℕ). Tells o 0) (sym (zeros i one there)) (refl, omega arith);
})

-- a size of the first part
pub summed_more : (weight : ℕ → ℕ) (first : ℕ → ℕ) (lists : ℕ → ℕ → ℕ) (n d : ℕ) (before after : List (Option ℕ)) (many : Option ℕ) (rests : ℕ → ℕ) → length after ≡ length before
    → ((i : ℕ) (one two : Option ℕ) → slice_get before i ≡ Some one → slice_get after i ≡ Some two → AddsProduct one two many (rests i))
    → Tells many (weight d * first d) → ((i : ℕ) → i < length before → rests i ≡ lists (i + 1) (n - d))
    → AreSummed weight first lists n d before → AreSummed weight first lists n (d + 1) after
summed_more weight first lists n d before after many rests same added by_many in_row summed = record {
  each = λ i two there.
      let within : i < length before = omega (arith, slice_get_within after i two there, same) in
      let found = slice_some before i within in
      subst (λ (k : ℕ). Tells two k) (total i within) (added i found.0 two found.1 there (joined_to weight first (lists (i + 1)) n d) (weight d * first d) (summed.each i found.0 found.1) by_many);
}
  where
    total : (i : ℕ) → i < length before
        → joined_to weight first (lists (i + 1)) n d + weight d * first d * rests i ≡ joined_to weight first (lists (i + 1)) n (d + 1)
    total i within =
        ap (λ (k : ℕ). joined_to weight first (lists (i + 1)) n d + weight d * first d * k) (in_row i within)
        ∙ ap (λ (k : ℕ). joined_to weight first (lists (i + 1)) n d + k) (mul_assoc (weight d) (first d) (lists (i + 1) (n - d)))
        ∙ sym (joined_more weight first (lists (i + 1)) n d)

-- all splits, where there are no others of size 0
pub summed_all : (weight : ℕ → ℕ) (first : ℕ → ℕ) (lists : ℕ → ℕ → ℕ) (n d i : ℕ) (sums : List (Option ℕ)) (one : Option ℕ) → d ≡ n → lists (i + 1) 0 ≡ 0 → AreSummed weight first lists n d sums
    → slice_get sums i ≡ Some one → Tells one (joined_to weight first (lists (i + 1)) n (n + 1))
summed_all weight first lists n d i sums one same none summed there =
    subst (λ (k : ℕ). Tells one k)
    (ap (joined_to weight first (lists (i + 1)) n) same ∙ last ∙ sym (joined_more weight first (lists (i + 1)) n n)) (summed.each i one there)
  where
    none_other : (w x y : ℕ) → y ≡ 0 → w * (x * y) ≡ 0
    none_other w x y none_there = ap (λ (k : ℕ). w * (x * k)) none_there ∙ ap (λ (k : ℕ). w * k) (mul-zero x) ∙ mul-zero w

    behind : n - n ≡ 0
    behind = omega arith

    last : joined_to weight first (lists (i + 1)) n n ≡ joined_to weight first (lists (i + 1)) n n + weight n * (first n * lists (i + 1) (n - n))
    last = omega (arith, none_other (weight n) (first n) (lists (i + 1) (n - n)) (ap (lists (i + 1)) behind ∙ none))
