use Rattle.std.proofs.Common.{◌≡◌, drop}
use Rattle.choice_bits.specs.Bits.{bits_of_digits}
use Rattle.choice_bits.proofs.Digits.{in_front}
use Rattle.choice_bits.proofs.hex.HexBits.new.Given as goal

abbrev pub invariant-loop-digit : goal.invariant-loop-digit
invariant-loop-digit l = in_front l.bits.items (drop l.digit-index l.digits) ≡ bits_of_digits l.fn.digits
