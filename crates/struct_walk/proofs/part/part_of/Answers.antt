use Rattle.std.proofs.Common.{ℕ, replicate, ap, ◌∙◌}
use Rattle.struct_walk.proofs.PartLabels.{zeros_key}
use Rattle.struct_walk.proofs.part.part_of.Goals as goal

pub returns-in-Zeros-clause-labels : goal.returns-in-Zeros-clause-labels
returns-in-Zeros-clause-labels c =
    ap (λ (n : ℕ). replicate n 0) c.size.ensures ∙ zeros_key c.args.supply.now c.args.s.now c.requires c.in-Zeros.field-0 c.in-Zeros.is
