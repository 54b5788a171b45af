-- A number is read digit by digit.
use Rattle.std.proofs.Common.{◌+◌, ◌*◌, ◌≤◌, arith}
use Rattle.struct_text.proofs.FirstWords.{no_digit, zero_first, first_digit, grown, number_grows}
use Rattle.struct_text.proofs.lexing.Left.take_number.Goals as goal

pub returns-in_default-clause-none : goal.returns-in_default-clause-none
returns-in_default-clause-none c = λ number rest low small ends same. no_digit c.args.self.now number rest c.in_default.ensures.end same

pub returns-then-first-eq0-clause-none : goal.returns-then-first-eq0-clause-none
returns-then-first-eq0-clause-none c =
    λ number rest low small ends same.
    zero_first c.args.self.now c.take_digit.new.self c.in-Some.first number rest c.if-first-eq0.true c.in-Some.ensures.some.1 low same

pub loop-digit-init : goal.loop-digit-init
loop-digit-init c =
    let first = first_digit c.args.self.now c.take_digit.new.self c.in-Some.first c.if-first-eq0.false c.in-Some.ensures.some.0 c.in-Some.ensures.some.1 in
    (first.0, omega (arith, c.in-Some.ensures.some.0), first.1)

pub returns-then-longer-from-clause-none : goal.returns-then-longer-from-clause-none
returns-then-longer-from-clause-none c =
    λ number rest low small ends same.
    let more = grown c.args.self.now c.loop-digit.self c.take_digit-in-loop-digit.new.self c.loop-digit.number c.in-Some-take_digit.digit c.from.result
    c.from-in-Some-take_digit.result c.loop-digit.invariant.0 c.from.ensures c.from-in-Some-take_digit.ensures c.in-Some-take_digit.ensures.some.0
    c.loop-digit.invariant.2 c.in-Some-take_digit.ensures.some.1 in
    let least : c.from.result * 10 + c.from-in-Some-take_digit.result ≤ number =
    number_grows c.args.self.now (c.from.result * 10 + c.from-in-Some-take_digit.result) number c.take_digit-in-loop-digit.new.self rest
    (omega (arith, more.0)) (omega (arith, low)) ends more.1 same in
    omega (arith, least, small, c.if-longer-from.true, c.from-in-Some-take_digit-2.ensures)

pub loop-digit-preserved : goal.loop-digit-preserved
loop-digit-preserved c =
    let more = grown c.args.self.now c.loop-digit.self c.take_digit-in-loop-digit.new.self c.loop-digit.number c.in-Some-take_digit.digit c.from.result
    c.from-in-Some-take_digit.result c.loop-digit.invariant.0 c.from.ensures c.from-in-Some-take_digit.ensures c.in-Some-take_digit.ensures.some.0
    c.loop-digit.invariant.2 c.in-Some-take_digit.ensures.some.1 in
    (more.0, omega (arith, c.if-longer-from.false, c.from-in-Some-take_digit-2.ensures), more.1)
