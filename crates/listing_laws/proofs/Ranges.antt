-- Ranges of numbers as enumerations.
use Rattle.std.proofs.Common.{ℕ, zero, suc, ◌+◌, ◌<◌, ◌≤◌, inl, inr, arith}
use Rattle.std.specs.List.{range_with_len}
use Rattle.std.proofs.lemmas.Bool.{cases_lt}
use Rattle.lists.specs.Enumeration.{IsIn, Ascends, Enumerated}
use Rattle.lists.proofs.RangeSums.{in_range}

abbrev pub Less : ℕ → ℕ → Type 0
Less a b = a < b

abbrev pub IsBetween : ℕ → ℕ → ℕ → Type 0
IsBetween start n d = (start ≤ d) × (d < start + n)

range_ascends : (start n : ℕ) → Ascends Less (range_with_len start n)
range_ascends start zero = tt
range_ascends start (suc n) = ((λ d there. let found = in_range d (start + 1) n there in omega (arith, found.0)), range_ascends (start + 1) n)

range_complete : (start n d : ℕ) → IsBetween start n d → IsIn d (range_with_len start n)
range_complete start zero d b = absurd (omega (arith, b.0, b.1))
range_complete start (suc n) d b = elim (cases_lt start d) [
  | inl later ↦ inr (range_complete (start + 1) n d (omega arith, omega (arith, b.1)))
  | inr first ↦ inl (omega (arith, b.0))
]

-- the numbers of a range are those between its ends, in their order
pub range_is : (start n : ℕ) → Enumerated Less (IsBetween start n) (range_with_len start n)
range_is start n = record { ascends = range_ascends start n; sound = λ d there. in_range d start n there; complete = λ d b. range_complete start n d b }
