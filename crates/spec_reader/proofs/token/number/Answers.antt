use Rattle.std.proofs.Common.{◌*◌, ◌≤◌, ◌^◌, arith}
use Rattle.spec_reader.specs.Tokens.{value}
use Rattle.spec_reader.proofs.NumberLemmas.{value-big}
use Rattle.spec_reader.proofs.token.number.Goals as goal

pub returns-in_err-checked_mul-clause-big : goal.returns-in_err-checked_mul-clause-big
returns-in_err-checked_mul-clause-big c =
    let over : 2 ^ 128 ≤ c.loop-digit.number * 10 = omega (arith, c.in_err-checked_mul.ensures) in
    let big : 2 ^ 128 ≤ value c.args.digits.now =
    rw (← c.loop-digit.invariant) (value-big c.loop-digit.number c.loop-digit.digit-index (2 ^ 128) c.args.digits.now (omega arith) (omega arith)) in
    rw c.from_residual.ensures big

pub returns-in_err-number-clause-big : goal.returns-in_err-number-clause-big
returns-in_err-number-clause-big c =
    let big : 2 ^ 128 ≤ value c.args.digits.now =
    rw (← c.loop-digit.invariant) (value-big c.loop-digit.number c.loop-digit.digit-index (2 ^ 128) c.args.digits.now (omega arith) (omega (arith, c.in_err-number.ensures, c.in_ok-checked_mul.ensures))) in
    rw c.from_residual-in_err-number.ensures big
