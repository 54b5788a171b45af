use Rattle.std.proofs.Common.{◌-◌, ◌/◌, arith}
use Rattle.size_counts.proofs.TotalsTable.{quotient_within, greatest_is}
use Rattle.size_counts.proofs.totals.greatest.Goals as goal

pub returns-then-can_begin : goal.returns-then-can_begin
returns-then-can_begin c =
    greatest_is c.args.limits.now c.args.most c.args.rows.now c.requires.totals c.args.n c.requires.small c.requires.rows c.args.c c.requires.low c.requires.high (c.args.n / c.args.c - c.loop-smaller.smaller)
    (λ some. (quotient_within c.args.n c.args.c (c.args.n / c.args.c - c.loop-smaller.smaller) c.requires.low (omega arith), c.can_begin.ensures.some c.if-can_begin.true)) c.loop-smaller.invariant

pub returns : goal.returns
returns c =
    greatest_is c.args.limits.now c.args.most c.args.rows.now c.requires.totals c.args.n c.requires.small c.requires.rows c.args.c c.requires.low c.requires.high 0 (λ some. absurd (omega arith))
    (λ d some within b. c.loop-smaller.invariant d (omega arith) within b)
