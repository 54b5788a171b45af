use Rattle.std.proofs.Common.{arith, sym}
use Rattle.std.proofs.lemmas.Option.{slice_get-get_or}
use Rattle.size_counts.proofs.CountLemmas.{name_word, name_other}
use Rattle.size_counts.proofs.counts.name_count.Goals as goal

pub returns-in-Some : goal.returns-in-Some
returns-in-Some c = λ e at known.
    name_word c.args.tables.now.grammar c.requires.ready.told.is_checked c.args.node c.args.m c.sym.result c.rule_node-right.result e at c.requires.name c.sym.ensures.value
    c.rule_node-right.ensures.value c.rule_node-right.ensures.right c.rule_node-right.ensures.within c.kind.result c.in-Some.size _ c.kind.ensures (sym c.in-Some.ensures) c.one_at.ensures

pub returns-in-None : goal.returns-in-None
returns-in-None c = λ e at known.
    name_other c.args.tables.now.grammar c.requires.ready.told.is_checked c.args.node c.args.m c.sym.result c.rule_node-right.result e at c.requires.name c.sym.ensures.value
    c.rule_node-right.ensures.value c.rule_node-right.ensures.right c.rule_node-right.ensures.within c.kind.result c.args.now.now _ c.kind.ensures (sym c.in-None.ensures) known
    (slice_get-get_or c.args.now.now c.rule_node-right.result _ (omega (arith, c.rule_node-right.ensures.within, c.requires.for_each)))
