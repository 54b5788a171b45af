-- The list is its own least rotation where the first of the least places is 0.
use Rattle.std.proofs.Common.{◌≡◌, ◌<◌, ℕ, List, true, false, nat_eq, sym, ◌∙◌, inl, inr, arith}
use Rattle.std.proofs.lemmas.Bool.{cases_lt}
use Rattle.std.proofs.lemmas.Bool.Decides.{nat_tests}
use Rattle.struct_model.specs.Structure.{Structure}
use Rattle.struct_model.specs.Order.{is_least_rotation}
use Rattle.canon.specs.Rotations.{IsLeastPlace}
use Rattle.canon.proofs.LeastPlaces.{at_first, not_at_first}
use Rattle.canon.proofs.rotation.is_least.Goals as goal

above_none : (i : ℕ) → 0 < i → nat_eq i 0 ≡ false
above_none i some = grind (arith, nat_tests)

is_none : (i : ℕ) → i ≡ 0 → nat_eq i 0 ≡ true
is_none i none = grind (arith, nat_tests)

by_place : (ss : List Structure) (i : ℕ) → IsLeastPlace ss i → nat_eq i 0 ≡ is_least_rotation ss
by_place ss i least = elim (cases_lt 0 i) [
  | inl above ↦ above_none i above ∙ sym (not_at_first ss i least above)
  | inr within ↦ let first : i ≡ 0 = omega arith in is_none i first ∙ sym (at_first ss i least first)
]

pub returns-else-is_empty : goal.returns-else-is_empty
returns-else-is_empty c = by_place c.args.items.now c.least_rotation.result c.least_rotation.ensures
