use Rattle.std.proofs.Common.{◌≡◌, ap, ◌∙◌, sym, arith, subst, Some}
use Rattle.well_founded.specs.Checked.{IsChecked}
use Rattle.well_founded.specs.NodeTable.{nodes_of}
use Rattle.well_founded.proofs.NodeTables.{length-table, table_rule, named_within}
use Rattle.well_founded.proofs.grammar.Grammar.sym.Goals as goal

pub index-requires : goal.index-requires
index-requires c =
    let is : c.self.inside.nodes.items ≡ nodes_of c.args.self.now.rules = c.self.invariant.nodes ∙ ap (λ checked. nodes_of checked.rules) c.self.view_is in
    omega (arith, length-table c.args.self.now.rules c.self.inside.nodes.items is)

pub returns-clause-value : goal.returns-clause-value
returns-clause-value c =
    let is : c.self.inside.nodes.items ≡ nodes_of c.args.self.now.rules = c.self.invariant.nodes ∙ ap (λ checked. nodes_of checked.rules) c.self.view_is in
    let checked : IsChecked c.args.self.now = subst IsChecked c.self.view_is c.self.invariant.checked in
    table_rule c.args.self.now.rules c.self.inside.nodes.items is c.args.node c.index.result.now c.requires.within c.index.ensures checked.well_founded.named c.requires.rule ∙ ap Some (sym c.rule.ensures)

pub returns-clause-low : goal.returns-clause-low
returns-clause-low c =
    let is : c.self.inside.nodes.items ≡ nodes_of c.args.self.now.rules = c.self.invariant.nodes ∙ ap (λ checked. nodes_of checked.rules) c.self.view_is in
    let checked : IsChecked c.args.self.now = subst IsChecked c.self.view_is c.self.invariant.checked in
    (named_within c.args.self.now.rules c.args.node c.rule.result
    (table_rule c.args.self.now.rules c.self.inside.nodes.items is c.args.node c.index.result.now c.requires.within c.index.ensures checked.well_founded.named c.requires.rule ∙ ap Some (sym c.rule.ensures))).0

pub returns-clause-high : goal.returns-clause-high
returns-clause-high c =
    let is : c.self.inside.nodes.items ≡ nodes_of c.args.self.now.rules = c.self.invariant.nodes ∙ ap (λ checked. nodes_of checked.rules) c.self.view_is in
    let checked : IsChecked c.args.self.now = subst IsChecked c.self.view_is c.self.invariant.checked in
    (named_within c.args.self.now.rules c.args.node c.rule.result
    (table_rule c.args.self.now.rules c.self.inside.nodes.items is c.args.node c.index.result.now c.requires.within c.index.ensures checked.well_founded.named c.requires.rule ∙ ap Some (sym c.rule.ensures))).1
