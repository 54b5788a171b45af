use Rattle.std.proofs.Common.{ap, subst, arith, sym, ◌∙◌, Some, length, refl}
use Rattle.spec_syntax.specs.Expression.{Expression}
use Rattle.well_founded.specs.declared.node.NodeKind.TheVariants as told
use Rattle.well_founded.specs.Checked.{grammar}
use Rattle.size_counts.specs.Numbers.{others_at}
use Rattle.size_counts.specs.Told.{values, TellAll}
use Rattle.size_counts.proofs.CountLemmas.{kind_here, prod_there}
use Rattle.size_counts.proofs.RowLemmas.{all_suffixes, firsts_within, suffixes_more, suffixes_all}
use Rattle.size_counts.proofs.rows.later_suffixes.Goals as goal

pub overflow_cast-firsts : goal.overflow_cast-firsts
overflow_cast-firsts c = omega (arith, firsts_within c.args.tables.now.grammar c.args.node c.args.m c.args.firsts.now c.requires.prod c.requires.firsts)

pub suffixes-requires-clause-low : goal.suffixes-requires-clause-low
suffixes-requires-clause-low c = omega (arith, firsts_within c.args.tables.now.grammar c.args.node c.args.m c.args.firsts.now c.requires.prod c.requires.firsts)

pub loop-earlier-preserved : goal.loop-earlier-preserved
loop-earlier-preserved c = λ es at.
    let all = all_suffixes c.args.tables.now.grammar c.args.tables.now.marks.items c.args.tables.now.layers.items c.requires.ready.told c.args.m c.args.node c.args.now.now es c.requires.now c.requires.marked at
    (length c.args.firsts.now) c.children-arguments.result c.in_ok-reversed.reversed c.args.firsts.now c.extend_from_slice.new.self c.children-arguments.ensures refl c.requires.firsts c.in_ok-reversed.ensures.told c.in_ok-extend_from_slice.ensures.ok in
    suffixes_more (grammar c.args.tables.now.grammar) es c.args.m c.loop-earlier.earlier _ c.extend_from_slice.new.self c.loop-earlier.made c.push.new.self _ all (omega arith) (omega arith) c.at.ensures c.in_ok-push.ensures.ok (c.loop-earlier.invariant es at)

pub returns : goal.returns
returns c = λ e at.
    let is = prod_there e (kind_here c.args.tables.now.grammar.rules c.args.node e told.Prod at c.requires.prod) in
    let here = at ∙ ap Some is.1 in
    let all = all_suffixes c.args.tables.now.grammar c.args.tables.now.marks.items c.args.tables.now.layers.items c.requires.ready.told c.args.m c.args.node c.args.now.now is.0 c.requires.now c.requires.marked here
    (length c.args.firsts.now) c.children-arguments.result c.in_ok-reversed.reversed c.args.firsts.now c.extend_from_slice.new.self c.children-arguments.ensures refl c.requires.firsts c.in_ok-reversed.ensures.told c.in_ok-extend_from_slice.ensures.ok in
    subst (λ (x : Expression). TellAll c.loop-earlier.made (values (others_at (grammar c.args.tables.now.grammar) x c.args.m))) (sym is.1)
    (suffixes_all (grammar c.args.tables.now.grammar) is.0 c.args.m c.loop-earlier.earlier c.extend_from_slice.new.self c.loop-earlier.made all (omega arith) (c.loop-earlier.invariant is.0 here))
