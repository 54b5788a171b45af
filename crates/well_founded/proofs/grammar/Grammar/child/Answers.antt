use Rattle.std.proofs.Common.{◌≡◌, ℕ, List, ap, ◌∙◌, sym, arith, length, slice_get, ◌-◌}
use Rattle.well_founded.specs.NodeTable.{nodes_of}
use Rattle.well_founded.proofs.NodeTables.{length-table, table_children, table_child, table_child_within}
use Rattle.well_founded.proofs.grammar.Grammar.child.Goals as goal

pub index-requires : goal.index-requires
index-requires c =
    let is : c.self.inside.nodes.items ≡ nodes_of c.args.self.now.rules = c.self.invariant.nodes ∙ ap (λ checked. nodes_of checked.rules) c.self.view_is in
    omega (arith, length-table c.args.self.now.rules c.self.inside.nodes.items is)

pub child-requires : goal.child-requires
child-requires c =
    let is : c.self.inside.nodes.items ≡ nodes_of c.args.self.now.rules = c.self.invariant.nodes ∙ ap (λ checked. nodes_of checked.rules) c.self.view_is in
    omega (arith, ap length (table_children c.args.self.now.rules c.self.inside.nodes.items is c.args.node c.index.result.now c.requires.within c.index.ensures))

pub returns-clause-value : goal.returns-clause-value
returns-clause-value c =
    let is : c.self.inside.nodes.items ≡ nodes_of c.args.self.now.rules = c.self.invariant.nodes ∙ ap (λ checked. nodes_of checked.rules) c.self.view_is in
    ap (λ (places : List ℕ). slice_get places (c.args.i - 1)) (sym (table_children c.args.self.now.rules c.self.inside.nodes.items is c.args.node c.index.result.now c.requires.within c.index.ensures)) ∙ c.child.ensures

pub returns-clause-argument : goal.returns-clause-argument
returns-clause-argument c =
    let is : c.self.inside.nodes.items ≡ nodes_of c.args.self.now.rules = c.self.invariant.nodes ∙ ap (λ checked. nodes_of checked.rules) c.self.view_is in
    table_child c.args.self.now.rules c.self.inside.nodes.items is c.args.node (c.args.i - 1) c.child.result c.index.result.now c.requires.within c.index.ensures c.child.ensures

pub returns-clause-within : goal.returns-clause-within
returns-clause-within c =
    let is : c.self.inside.nodes.items ≡ nodes_of c.args.self.now.rules = c.self.invariant.nodes ∙ ap (λ checked. nodes_of checked.rules) c.self.view_is in
    table_child_within c.args.self.now.rules c.self.inside.nodes.items is c.args.node (c.args.i - 1) c.child.result c.index.result.now c.requires.within c.index.ensures c.child.ensures
