use Rattle.size_counts.specs.Layers.{HaveNoNone}
use Rattle.size_counts.proofs.layer.too_large.Given as goal

abbrev pub invariant-loop-node : goal.invariant-loop-node
invariant-loop-node l = HaveNoNone l.rows l.node
