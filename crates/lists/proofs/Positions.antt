-- Where a search by number stops, and what stands at a place.
use Rattle.std.proofs.Common.{◌≡◌, ℕ, zero, suc, ◌+◌, ◌<◌, ◌≤◌, Bool, true, false, cond, List, [], ◌∷◌, length, slice_get, Option, Some, None, refl, sym, ap, ◌∙◌, arith}
use Rattle.std.specs.List.{position_from}
use Rattle.std.proofs.lemmas.Option.{slice_get_within}
use Rattle.lists.specs.Enumeration.{IsIn}
use Rattle.lists.proofs.Places.{get_of_in}

module _ {X : Type 0} (test : X → Bool) where
  -- the element that passes at the number at which the search stops, where the list starts at the first number: those
  -- before it fail
  pub record IsFound (xs : List X) (first n : ℕ) : Type 0 where
    pub i : ℕ
    pub x : X
    pub number : first + i ≡ n
    pub at : slice_get xs i ≡ Some x
    pub passes : test x ≡ true
    pub before : (j : ℕ) (y : X) → j < i → slice_get xs j ≡ Some y → test y ≡ false

  pub found_at : (xs : List X) (first n : ℕ) → position_from test first xs ≡ Some n → IsFound xs first n
  found_at [] first n found = absurd (cc)
  found_at (x ∷ xs) first n found = by (test x) refl found (λ later. found_at xs (first + 1) n later)
    where
      passed : test x ≡ false → (i j : ℕ) (y : X) → ((k : ℕ) (z : X) → k < i → slice_get xs k ≡ Some z → test z ≡ false) → j < suc i → slice_get (x ∷ xs) j ≡ Some y → test y ≡ false
      passed fails i zero y before less at = let same : x ≡ y = cc in ap test (sym same) ∙ fails
      passed fails i (suc j) y before less at = before j y (omega (arith, less)) at

      by : (b : Bool) → test x ≡ b → cond b (Some first) (position_from test (first + 1) xs) ≡ Some n → (position_from test (first + 1) xs ≡ Some n → IsFound xs (first + 1) n)
          → IsFound (x ∷ xs) first n
      by true told found later =
          let same : first ≡ n = cc in
          record { i = 0; x = x; number = omega (arith, same); at = refl; passes = told; before = λ j y less at. absurd (omega (arith, less)) }
      by false told found later =
          let rest = later found in
          record {
            i = suc rest.i;
            x = rest.x;
            number = omega (arith, rest.number);
            at = rest.at;
            passes = rest.passes;
            before = λ j y less at. passed told rest.i j y rest.before less at;
          }

  -- where it stops nowhere, each element fails
  pub not_found : (xs : List X) (first i : ℕ) (x : X) → position_from test first xs ≡ None → slice_get xs i ≡ Some x → test x ≡ false
  not_found [] first i x none at = absurd (cc)
  not_found (y ∷ ys) first i x none at = by (test y) refl none i at (λ later. not_found ys (first + 1) later x)
    where
      by : (b : Bool) → test y ≡ b → cond b (Some first) (position_from test (first + 1) ys) ≡ None → (i : ℕ) → slice_get (y ∷ ys) i ≡ Some x
          → ((j : ℕ) → position_from test (first + 1) ys ≡ None → slice_get ys j ≡ Some x → test x ≡ false) → test x ≡ false
      by true told none i at later = absurd (cc)
      by false told none zero at later = let same : y ≡ x = cc in ap test (sym same) ∙ told
      by false told none (suc j) at later = later j none at

  -- where an element passes, it stops somewhere
  pub found_some : (xs : List X) (first : ℕ) (x : X) → IsIn x xs → test x ≡ true → (n : ℕ) × (position_from test first xs ≡ Some n)
  found_some xs first x there passes = by (position_from test first xs) refl
    where
      by : (found : Option ℕ) → position_from test first xs ≡ found → (n : ℕ) × (position_from test first xs ≡ Some n)
      by (Some n) is = (n, is)
      by None is =
          let place = get_of_in xs x there in
          let wrong : true ≡ false = sym passes ∙ not_found xs first place.0 x is place.1 in cc

  -- the number is one of the elements'
  pub found_within : (xs : List X) (first n : ℕ) → position_from test first xs ≡ Some n → (first ≤ n) × (n < first + length xs)
  found_within xs first n found =
      let at = found_at xs first n found in
      let within = slice_get_within xs at.i at.x at.at in
      (omega (arith, at.number), omega (arith, at.number, within))

-- at each place within a list stands an element
pub slice_some : {X : Type 0} (xs : List X) (i : ℕ) → i < length xs → (x : X) × (slice_get xs i ≡ Some x)
slice_some [] i h = absurd (omega arith)
slice_some (x ∷ xs) zero h = (x, refl)
slice_some (x ∷ xs) (suc i) h = slice_some xs i (omega arith)
