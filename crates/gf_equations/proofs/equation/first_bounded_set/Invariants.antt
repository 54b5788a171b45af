use Rattle.std.proofs.Common.{◌≡◌, ◌+◌, not, drop}
use Rattle.std.specs.List.{position_from}
use Rattle.gf_equations.specs.Bounds.{is_without_bounded_set, first_bounded_set}
use Rattle.gf_equations.proofs.equation.first_bounded_set.Given as goal

abbrev pub invariant-loop-place : goal.invariant-loop-place
invariant-loop-place l = first_bounded_set l.spec ≡ position_from (λ rule. not (is_without_bounded_set rule.1)) (l.place + 1) (drop l.place l.spec)
