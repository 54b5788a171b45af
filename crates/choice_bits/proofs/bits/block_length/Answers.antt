use Rattle.std.proofs.Common.{◌≡◌, ℕ, ◌-◌, ◌<◌, ◌≤◌, ◌^◌, arith}
use Rattle.std.proofs.lemmas.Nat.{leading_length}
use Rattle.std.specs.Int.Count.{count_leading_zeros}
use Rattle.choice_laws.specs.Bits.{block_length}
use Rattle.choice_laws.proofs.Blocks.{block_length_is}
use Rattle.choice_bits.proofs.bits.block_length.Goals as goal

is_rest : (bound : ℕ) → 1 ≤ bound → bound < 2 ^ 128 → 128 - count_leading_zeros 128 (bound - 1) ≡ block_length bound
is_rest bound some fits =
    let told = leading_length 128 (bound - 1) (omega (arith, some, fits)) in
    let length_is = block_length_is bound told.0 (omega (arith, told.2, some)) (omega (arith, told.3, some)) in
    omega (arith, told.1, length_is)

-- src/bits.rt:40:1
pub returns-clause-length : goal.returns-clause-length
returns-clause-length c = is_rest c.args.bound c.requires c.ranges.bound.fits
