use Rattle.std.proofs.Common.{◌≡◌, ap, ◌∙◌, arith}
use Rattle.spec_syntax.proofs.RulesLemmas.{all_nodes-from_spec}
use Rattle.well_founded.specs.NodeTable.{nodes_of}
use Rattle.well_founded.proofs.NodeTables.{length-table}
use Rattle.well_founded.proofs.grammar.Grammar.nodes.Goals as goal

pub overflow_cast-result : goal.overflow_cast-result
overflow_cast-result c =
    omega (arith, length-table c.self.inside.spec c.self.inside.nodes.items c.self.invariant.nodes, all_nodes-from_spec c.self.inside.spec c.self.invariant.checked.spec)

pub returns-clause-value : goal.returns-clause-value
returns-clause-value c =
    let is : c.self.inside.nodes.items ≡ nodes_of c.args.self.now.rules = c.self.invariant.nodes ∙ ap (λ checked. nodes_of checked.rules) c.self.view_is in
    omega (arith, length-table c.args.self.now.rules c.self.inside.nodes.items is)
