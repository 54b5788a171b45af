use Rattle.std.proofs.Common.{sym}
use Rattle.size_counts.proofs.FilledLemmas.{read_room, read_cycles}
use Rattle.size_counts.proofs.counted.Counted.cycles.Goals as goal

pub cell-requires : goal.cell-requires
cell-requires c = read_room c.args.self.now c.self.inside c.self.invariant (sym c.self.view_is) c.args.node c.args.m c.index.result.now c.requires.reached c.requires.within c.index.ensures

pub returns : goal.returns
returns c =
    read_cycles c.args.self.now c.self.inside c.self.invariant (sym c.self.view_is) c.args.node c.args.c c.args.m c.cell.result c.index.result.now c.requires.reached c.requires.within c.requires.cycle c.requires.low c.requires.high
    c.index.ensures c.cell.ensures
