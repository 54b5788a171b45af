use Rattle.std.proofs.Common.{◌≡◌, ℕ, subst, sym, arith}
use Rattle.size_counts.specs.CountedView.{sets_of}
use Rattle.size_counts.proofs.FilledLemmas.{read_room, read_sets, read_no_sets, zero_size, other_size}
use Rattle.size_counts.proofs.counted.Counted.sets.Goals as goal

pub returns-then-m-eq0-clause-value : goal.returns-then-m-eq0-clause-value
returns-then-m-eq0-clause-value c =
    subst (λ (k : ℕ). 1 ≡ sets_of c.args.self.now c.args.node k c.args.m) (sym c.if-c-eq0.true)
    (read_no_sets c.args.self.now c.self.inside c.self.invariant (sym c.self.view_is) c.args.node c.args.m 1 c.requires.kind (zero_size c.args.m c.if-m-eq0.true))

pub returns-else-m-eq0-clause-value : goal.returns-else-m-eq0-clause-value
returns-else-m-eq0-clause-value c =
    subst (λ (k : ℕ). 0 ≡ sets_of c.args.self.now c.args.node k c.args.m) (sym c.if-c-eq0.true)
    (read_no_sets c.args.self.now c.self.inside c.self.invariant (sym c.self.view_is) c.args.node c.args.m 0 c.requires.kind (other_size c.args.m c.if-m-eq0.false))

pub cell-requires : goal.cell-requires
cell-requires c = read_room c.args.self.now c.self.inside c.self.invariant (sym c.self.view_is) c.args.node c.args.m c.index-layer.result.now c.requires.reached c.requires.within c.index-layer.ensures

pub returns-clause-value : goal.returns-clause-value
returns-clause-value c =
    read_sets c.args.self.now c.self.inside c.self.invariant (sym c.self.view_is) c.args.node c.args.c c.args.m c.cell.result c.index-layer.result.now c.requires.reached c.requires.within c.requires.kind (omega arith) c.requires.high
    c.index-layer.ensures c.cell.ensures
