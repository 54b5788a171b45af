use Rattle.std.proofs.Common.{◌≡◌, ◌++◌, codes, drop}
use Rattle.std.specs.List.{join_by}
use Rattle.gf_equations.specs.Text.{equation}
use Rattle.gf_equations.proofs.Rules.{coming}
use Rattle.gf_equations.proofs.equation.equations_of.Given as goal

abbrev pub invariant-loop-place : goal.invariant-loop-place
invariant-loop-place l =
    l.text ++ coming (equation l.universe l.variable) (codes ", ") l.place (drop l.place l.spec) ≡ codes "[" ++ join_by (equation l.universe l.variable) (codes ", ") l.spec
