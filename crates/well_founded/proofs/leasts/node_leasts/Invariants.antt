use Rattle.std.proofs.Common.{◌≡◌, ◌++◌, map, drop}
use Rattle.spec_syntax.specs.Rules.{all_nodes}
use Rattle.well_founded.specs.Least.{least_by, leasts_of}
use Rattle.well_founded.proofs.leasts.node_leasts.Given as goal

abbrev pub invariant-loop-place : goal.invariant-loop-place
invariant-loop-place l = leasts_of l.spec l.sizes ≡ l.leasts.items ++ map (least_by l.spec l.sizes) (all_nodes (drop l.place l.spec))
