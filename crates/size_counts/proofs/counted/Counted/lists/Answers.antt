use Rattle.std.proofs.Common.{◌≡◌, ℕ, subst, sym, arith}
use Rattle.size_counts.specs.CountedView.{lists_of}
use Rattle.size_counts.proofs.FilledLemmas.{read_room, read_lists, read_no_lists, zero_size, other_size}
use Rattle.size_counts.proofs.counted.Counted.lists.Goals as goal

pub returns-then-m-eq0 : goal.returns-then-m-eq0
returns-then-m-eq0 c =
    subst (λ (k : ℕ). 1 ≡ lists_of c.args.self.now c.args.node k c.args.m) (sym c.if-c-eq0.true)
    (read_no_lists c.args.self.now c.self.inside c.self.invariant (sym c.self.view_is) c.args.node c.args.m 1 c.requires.kind (zero_size c.args.m c.if-m-eq0.true))

pub returns-else-m-eq0 : goal.returns-else-m-eq0
returns-else-m-eq0 c =
    subst (λ (k : ℕ). 0 ≡ lists_of c.args.self.now c.args.node k c.args.m) (sym c.if-c-eq0.true)
    (read_no_lists c.args.self.now c.self.inside c.self.invariant (sym c.self.view_is) c.args.node c.args.m 0 c.requires.kind (other_size c.args.m c.if-m-eq0.false))

pub cell-requires : goal.cell-requires
cell-requires c = read_room c.args.self.now c.self.inside c.self.invariant (sym c.self.view_is) c.args.node c.args.m c.index-layer.result.now c.requires.reached c.requires.within c.index-layer.ensures

pub returns : goal.returns
returns c =
    read_lists c.args.self.now c.self.inside c.self.invariant (sym c.self.view_is) c.args.node c.args.c c.args.m c.cell.result c.index-layer.result.now c.requires.reached c.requires.within c.requires.kind (omega arith) c.requires.high
    c.index-layer.ensures c.cell.ensures
