use Rattle.std.proofs.Common.{◌≡◌, ◌++◌, codes, drop}
use Rattle.std.specs.List.{join_by, flat_map}
use Rattle.gf_equations.proofs.term.sum_text.Given as goal

abbrev pub invariant-loop-other : goal.invariant-loop-other
invariant-loop-other l = l.text ++ flat_map (λ t. codes " + " ++ t.text) (drop l.other-index l.others) ≡ join_by (λ t. t.text) (codes " + ") l.terms
