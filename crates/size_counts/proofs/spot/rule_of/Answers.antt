use Rattle.std.proofs.Common.{arith, ap, length}
use Rattle.size_counts.proofs.SpotLemmas.{rule_is}
use Rattle.size_counts.proofs.spot.rule_of.Goals as goal

pub returns-clause-rule : goal.returns-clause-rule
returns-clause-rule c = λ r k place.
    rule_is c.args.grammar.now.rules c.args.node c.loop-earlier.rule r k c.requires place c.loop-earlier.invariant.low c.loop-earlier.invariant.before
    (λ sym low high before. c.loop-earlier.invariant.most sym low (omega (arith, high, c.rules-earlier-end.ensures.value, ap length c.spec.ensures.value)) before)
