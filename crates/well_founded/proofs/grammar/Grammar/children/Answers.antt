use Rattle.std.proofs.Common.{◌≡◌, ap, ◌∙◌, arith, length, subst}
use Rattle.spec_syntax.proofs.RulesLemmas.{all_nodes-from_spec}
use Rattle.well_founded.specs.Checked.{IsChecked}
use Rattle.well_founded.specs.NodeTable.{nodes_of}
use Rattle.well_founded.proofs.NodeTables.{length-table, table_children, table_children_few}
use Rattle.well_founded.proofs.grammar.Grammar.children.Goals as goal

pub index-requires : goal.index-requires
index-requires c =
    let is : c.self.inside.nodes.items ≡ nodes_of c.args.self.now.rules = c.self.invariant.nodes ∙ ap (λ checked. nodes_of checked.rules) c.self.view_is in
    omega (arith, length-table c.args.self.now.rules c.self.inside.nodes.items is)

pub children-requires : goal.children-requires
children-requires c =
    let is : c.self.inside.nodes.items ≡ nodes_of c.args.self.now.rules = c.self.invariant.nodes ∙ ap (λ checked. nodes_of checked.rules) c.self.view_is in
    let checked : IsChecked c.args.self.now = subst IsChecked c.self.view_is c.self.invariant.checked in
    omega (arith, table_children_few c.args.self.now.rules c.self.inside.nodes.items is c.args.node c.index.result.now c.requires c.index.ensures, all_nodes-from_spec c.args.self.now.rules checked.spec)

pub returns : goal.returns
returns c =
    let is : c.self.inside.nodes.items ≡ nodes_of c.args.self.now.rules = c.self.invariant.nodes ∙ ap (λ checked. nodes_of checked.rules) c.self.view_is in
    c.children.ensures ∙ ap length (table_children c.args.self.now.rules c.self.inside.nodes.items is c.args.node c.index.result.now c.requires c.index.ensures)
