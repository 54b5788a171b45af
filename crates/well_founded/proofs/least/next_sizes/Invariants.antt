use Rattle.std.proofs.Common.{◌≡◌, ℕ, List, map, take}
use Rattle.spec_syntax.specs.Expression.{Expression}
use Rattle.well_founded.specs.Least.{least_with, size_of_name}
use Rattle.well_founded.proofs.least.next_sizes.Given as goal

abbrev pub invariant-loop-place : goal.invariant-loop-place
invariant-loop-place l = l.next.items ≡ map (λ (rule : List ℕ × Expression). least_with (size_of_name l.spec l.sizes) rule.1) (take l.place l.spec)
