-- In front of a structure of a node.
use Rattle.std.proofs.Common.{◌+◌, ◌*◌, Some, IsTrue, refl, sym, ap, ◌∙◌, subst, arith}
use Rattle.std.proofs.lemmas.Option.{slice_get_within}
use Rattle.spec_syntax.specs.declared.statement.Universe.{Universe}
use Rattle.spec_syntax.specs.Rules.{all_nodes}
use Rattle.spec_syntax.specs.Nodes.{right_node}
use Rattle.spec_syntax.proofs.RulesLemmas.{some_right}
use Rattle.spec_syntax.proofs.NodesLemmas.{right_node_is}
use Rattle.struct_text.specs.Reading.{is_of_node, rank_of, name_weight, is_epsilon_of, is_atom_of}
use Rattle.struct_text.proofs.RuleSteps.{bare_epsilon, bare_atom, ends_from, name_fits, name_weighs}
use Rattle.struct_text.proofs.entering.enter.Goals as goal

pub returns-in-Epsilon : goal.returns-in-Epsilon
returns-in-Epsilon c =
    ends_from c.args.grammar.now c.args.holes.now _ _ 0 (2 * rank_of c.args.grammar.now c.args.node + 1) c.args.left.now c.behind.result c.args.holes.now c.read_epsilon.new.left (λ s of. of) (omega arith)
    (c.behind.ensures c.args.grammar.now c.args.holes.now (is_epsilon_of 0) (is_of_node c.args.grammar.now c.args.node) c.args.left.now c.read_epsilon.new.left
    (bare_epsilon c.args.grammar.now c.args.node (c.kind.ensures ∙ ap Some c.in-Epsilon.is)) c.requires.holes (c.read_epsilon.ensures c.args.grammar.now.rules refl))

pub returns-in-Atom : goal.returns-in-Atom
returns-in-Atom c =
    ends_from c.args.grammar.now c.args.holes.now _ _ 0 (2 * rank_of c.args.grammar.now c.args.node + 1) c.args.left.now c.behind-in-Atom.result c.args.holes.now c.read_atom.new.left (λ s of. of) (omega arith)
    (c.behind-in-Atom.ensures c.args.grammar.now c.args.holes.now (is_atom_of c.universe.result 0) (is_of_node c.args.grammar.now c.args.node) c.args.left.now c.read_atom.new.left
    (λ s of small. subst (λ (u : Universe). IsTrue (is_atom_of u 0 s)) (sym c.universe.ensures) (bare_atom c.args.grammar.now c.args.node (c.kind.ensures ∙ ap Some c.in-Atom.is) s of small))
    c.requires.holes (c.read_atom.ensures c.args.grammar.now.rules refl))

pub returns-in-Rule : goal.returns-in-Rule
returns-in-Rule c =
    let right = some_right c.args.grammar.now.rules c.sym.result c.sym.ensures.low c.sym.ensures.high in
    let at = right_node_is c.args.grammar.now.rules c.sym.result right.0 right.1 in
    let told_is = c.kind.ensures ∙ ap Some c.in-Rule.is in
    ends_from c.args.grammar.now c.args.holes.now _ _ (name_weight c.args.grammar.now c.sym.result) (2 * rank_of c.args.grammar.now c.args.node + 1) c.args.left.now c.enter_rule.result
    c.enter_rule.new.holes c.enter_rule.new.left
    (name_fits c.args.grammar.now c.nodes.ensures.kept c.args.node c.sym.result c.requires.within told_is c.sym.ensures.value)
    (name_weighs c.args.grammar.now c.nodes.ensures.kept c.args.node c.sym.result c.requires.within told_is c.sym.ensures.value right.0 right.1 at
    (slice_get_within (all_nodes c.args.grammar.now.rules) (right_node c.args.grammar.now.rules c.sym.result) right.0 at))
    c.enter_rule.ensures
