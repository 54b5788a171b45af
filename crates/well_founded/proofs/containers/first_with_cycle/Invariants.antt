use Rattle.std.proofs.Common.{◌≡◌, ◌+◌, not, drop}
use Rattle.std.specs.List.{position_from}
use Rattle.well_founded.specs.Containers.{is_allowed}
use Rattle.well_founded.proofs.containers.first_with_cycle.Given as goal

abbrev pub invariant-loop-place : goal.invariant-loop-place
invariant-loop-place l =
    position_from (λ rule. not (is_allowed l.universe rule.1)) 1 l.spec ≡ position_from (λ rule. not (is_allowed l.universe rule.1)) (l.place + 1) (drop l.place l.spec)
