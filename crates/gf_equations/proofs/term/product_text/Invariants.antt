use Rattle.std.proofs.Common.{◌≡◌, ◌++◌, codes, drop}
use Rattle.std.specs.List.{join_by, flat_map}
use Rattle.gf_equations.specs.Text.{factor}
use Rattle.gf_equations.proofs.term.product_text.Given as goal

abbrev pub invariant-loop-other : goal.invariant-loop-other
invariant-loop-other l = l.text ++ flat_map (λ t. codes "*" ++ factor t) (drop l.other-index l.others) ≡ join_by factor (codes "*") l.terms
