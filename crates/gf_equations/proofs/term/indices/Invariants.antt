use Rattle.std.proofs.Common.{◌≡◌}
use Rattle.gf_equations.specs.Text.{indices}
use Rattle.gf_equations.proofs.term.indices.Given as goal

abbrev pub invariant-loop-earlier : goal.invariant-loop-earlier
invariant-loop-earlier l = l.text ≡ indices l.earlier
