use Rattle.std.proofs.Common.{◌≡◌, drop}
use Rattle.std.specs.List.{fold}
use Rattle.spec_reader.specs.Tokens.{with_digit, value}
use Rattle.spec_reader.proofs.token.number.Given as goal

abbrev pub invariant-loop-digit : goal.invariant-loop-digit
invariant-loop-digit l = fold with_digit l.number (drop l.digit-index l.digits) ≡ value l.digits
