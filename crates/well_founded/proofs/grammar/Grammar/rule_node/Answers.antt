use Rattle.std.proofs.Common.{◌≡◌, ap, ◌∙◌, arith}
use Rattle.spec_syntax.specs.Nodes.{all_right_nodes}
use Rattle.well_founded.proofs.NodeTables.{length-right_table, table_right, table_right_side, table_right_within}
use Rattle.well_founded.proofs.grammar.Grammar.rule_node.Goals as goal

pub index-requires : goal.index-requires
index-requires c =
    let is : c.self.inside.right_nodes.items ≡ all_right_nodes c.args.self.now.rules = c.self.invariant.right_nodes ∙ ap (λ checked. all_right_nodes checked.rules) c.self.view_is in
    omega (arith, length-right_table c.args.self.now.rules c.self.inside.right_nodes.items is)

pub returns-clause-value : goal.returns-clause-value
returns-clause-value c =
    let is : c.self.inside.right_nodes.items ≡ all_right_nodes c.args.self.now.rules = c.self.invariant.right_nodes ∙ ap (λ checked. all_right_nodes checked.rules) c.self.view_is in
    table_right c.args.self.now.rules c.self.inside.right_nodes.items is c.args.sym c.index.result.now c.requires.low c.requires.high c.index.ensures

pub returns-clause-right : goal.returns-clause-right
returns-clause-right c =
    let is : c.self.inside.right_nodes.items ≡ all_right_nodes c.args.self.now.rules = c.self.invariant.right_nodes ∙ ap (λ checked. all_right_nodes checked.rules) c.self.view_is in
    table_right_side c.args.self.now.rules c.self.inside.right_nodes.items is c.args.sym c.index.result.now c.requires.low c.requires.high c.index.ensures

pub returns-clause-within : goal.returns-clause-within
returns-clause-within c =
    let is : c.self.inside.right_nodes.items ≡ all_right_nodes c.args.self.now.rules = c.self.invariant.right_nodes ∙ ap (λ checked. all_right_nodes checked.rules) c.self.view_is in
    table_right_within c.args.self.now.rules c.self.inside.right_nodes.items is c.args.sym c.index.result.now c.requires.low c.requires.high c.index.ensures
