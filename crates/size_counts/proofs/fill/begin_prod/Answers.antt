use Rattle.std.proofs.Common.{◌≡◌, Some, length, rules}
use Rattle.std.specs.Option.{option_map}
use Rattle.spec_syntax.specs.Rules.{all_nodes}
use Rattle.spec_syntax.specs.Nodes.{node_at}
use Rattle.well_founded.specs.declared.node.NodeKind.TheVariants as told
use Rattle.well_founded.specs.NodeKinds.{kind_of}
use Rattle.size_counts.proofs.TurnLemmas.{turn_prod}
use Rattle.size_counts.proofs.FillLemmas.{beside_firsts, beside_set}
use Rattle.size_counts.proofs.fill.begin_prod.Goals as goal

pub returns-clause-beside : goal.returns-clause-beside
returns-clause-beside c =
    let is : option_map kind_of (node_at c.args.tables.now.grammar.rules c.args.node) ≡ Some told.Prod = search rules in
    beside_set c.args.tables.now c.args.m (length (all_nodes c.args.tables.now.grammar.rules)) c.args.node c.args.beside.now _ c.requires.beside
    (beside_firsts c.args.tables.now.grammar c.args.node c.args.m _ is (λ arguments at. c.in_ok-beside.ensures.told arguments at
    (turn_prod c.args.tables.now.grammar c.args.tables.now.marks.items c.args.tables.now.layers.items c.requires.turn.ready.told c.args.node c.args.m c.args.rank c.args.now.now arguments c.requires.turn.marked at
    (c.requires.turn.falls _ at) c.requires.turn.now_told c.requires.turn.ready.small)))
