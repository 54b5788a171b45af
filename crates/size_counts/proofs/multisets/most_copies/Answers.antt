use Rattle.std.proofs.Common.{arith}
use Rattle.size_counts.proofs.MultisetLemmas.{copies_room, copies_most}
use Rattle.size_counts.proofs.multisets.most_copies.Goals as goal

pub returns-clause-room : goal.returns-clause-room
returns-clause-room c = λ times within.
    copies_room times c.args.d c.args.c c.args.m (omega (arith, c.requires.low, c.if-d-eq1.false)) (omega (arith, within, c.min.ensures)) (omega (arith, within, c.min.ensures)) c.requires.high

pub returns-clause-most : goal.returns-clause-most
returns-clause-most c = λ times more few.
    copies_most times c.args.d c.args.c c.args.m (omega (arith, c.requires.low, c.if-d-eq1.false)) (omega (arith, more, few, c.min.ensures)) few c.requires.high
