use Rattle.std.proofs.Common.{sym, ◌∙◌}
use Rattle.size_counts.proofs.FilledLemmas.{read_count}
use Rattle.size_counts.proofs.counted.Counted.count.Goals as goal

pub returns : goal.returns
returns c = λ number_of_rule start.
    read_count c.args.self.now c.self.inside c.self.invariant (sym c.self.view_is) number_of_rule c.unwrap-sym.result c.rule_node.result c.number.result start (sym c.start.ensures.value ∙ c.unwrap-sym.ensures)
    c.rule_node.ensures.value c.number.ensures
