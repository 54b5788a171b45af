use Rattle.std.proofs.Common.{◌≡◌, ap, ◌∙◌, arith, sym, Some}
use Rattle.well_founded.specs.NodeTable.{nodes_of}
use Rattle.well_founded.proofs.NodeTables.{length-table, table_card}
use Rattle.well_founded.proofs.grammar.Grammar.card.Goals as goal

pub index-requires : goal.index-requires
index-requires c =
    let is : c.self.inside.nodes.items ≡ nodes_of c.args.self.now.rules = c.self.invariant.nodes ∙ ap (λ checked. nodes_of checked.rules) c.self.view_is in
    omega (arith, length-table c.args.self.now.rules c.self.inside.nodes.items is)

pub returns : goal.returns
returns c =
    let is : c.self.inside.nodes.items ≡ nodes_of c.args.self.now.rules = c.self.invariant.nodes ∙ ap (λ checked. nodes_of checked.rules) c.self.view_is in
    table_card c.args.self.now.rules c.self.inside.nodes.items is c.args.node c.index.result.now c.requires.within c.index.ensures c.requires.container ∙ ap Some (sym c.card.ensures)
