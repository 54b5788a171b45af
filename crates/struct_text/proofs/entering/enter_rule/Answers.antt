-- In front of a structure of a rule.
use Rattle.std.proofs.Common.{◌≡◌, Some, codes, IsTrue, refl, sym, ap, ◌∙◌, subst, arith}
use Rattle.spec_syntax.specs.declared.statement.Universe.{Universe}
use Rattle.spec_syntax.specs.Expression as expr
use Rattle.spec_syntax.specs.Rules.{Rules, rule_name}
use Rattle.spec_syntax.specs.Nodes.{node_at}
use Rattle.spec_syntax.proofs.RulesLemmas.{some_right}
use Rattle.struct_model.specs.Membership.{is_of}
use Rattle.well_founded.specs.Checked.{grammar}
use Rattle.struct_text.specs.Reading.{name_weight, is_epsilon_of, is_atom_of}
use Rattle.struct_text.proofs.BehindSteps.{moves_to}
use Rattle.struct_text.proofs.RuleSteps.{epsilon_kind, atom_kind, inside_kind, no_word, name_some, name_stands, rule_epsilon, rule_atom, name_moves, ends_from}
use Rattle.struct_text.proofs.entering.enter_rule.Goals as goal

pub read_epsilon-requires : goal.read_epsilon-requires
read_epsilon-requires c =
    name_some c.args.grammar.now.rules c.args.sym c.as_slice-name.result.now c.nodes.ensures.kept.spec c.requires.low c.requires.high
    (c.as_slice-name.ensures ∙ c.name.ensures ∙ ap (λ (rules : Rules). rule_name rules c.args.sym) c.spec.ensures.value)

pub read_atom-requires : goal.read_atom-requires
read_atom-requires c =
    name_some c.args.grammar.now.rules c.args.sym c.as_slice-name.result.now c.nodes.ensures.kept.spec c.requires.low c.requires.high
    (c.as_slice-name.ensures ∙ c.name.ensures ∙ ap (λ (rules : Rules). rule_name rules c.args.sym) c.spec.ensures.value)

pub returns-in-Epsilon : goal.returns-in-Epsilon
returns-in-Epsilon c =
    let right = some_right c.args.grammar.now.rules c.args.sym c.requires.low c.requires.high in
    ends_from c.args.grammar.now c.args.holes.now _ _ 0 (name_weight c.args.grammar.now c.args.sym) c.args.left.now c.behind.result c.args.holes.now c.read_epsilon.new.left (λ s of. of) (omega arith)
    (c.behind.ensures c.args.grammar.now c.args.holes.now (is_epsilon_of c.args.sym)
    (λ s. is_of (grammar c.args.grammar.now) (expr.Name (rule_name c.args.grammar.now.rules c.args.sym)) s) c.args.left.now c.read_epsilon.new.left
    (rule_epsilon c.args.grammar.now c.nodes.ensures.kept c.args.sym c.requires.low c.requires.high right.0 right.1
    (epsilon_kind (node_at c.args.grammar.now.rules c.rule_node-right.result) right.0 (c.rule_node-right.ensures.right ∙ right.1) (c.kind.ensures ∙ ap Some c.in-Epsilon.is)))
    c.requires.holes
    (c.read_epsilon.ensures c.args.grammar.now.rules (name_stands c.args.grammar.now.rules (codes "Epsilon") c.as_slice-name.result.now c.args.sym c.requires.low
    (c.as_slice-name.ensures ∙ c.name.ensures ∙ ap (λ (rules : Rules). rule_name rules c.args.sym) c.spec.ensures.value))))

pub returns-in-Atom : goal.returns-in-Atom
returns-in-Atom c =
    let right = some_right c.args.grammar.now.rules c.args.sym c.requires.low c.requires.high in
    ends_from c.args.grammar.now c.args.holes.now _ _ 0 (name_weight c.args.grammar.now c.args.sym) c.args.left.now c.behind-in-Atom.result c.args.holes.now c.read_atom.new.left (λ s of. of) (omega arith)
    (c.behind-in-Atom.ensures c.args.grammar.now c.args.holes.now (is_atom_of c.universe.result c.args.sym)
    (λ s. is_of (grammar c.args.grammar.now) (expr.Name (rule_name c.args.grammar.now.rules c.args.sym)) s) c.args.left.now c.read_atom.new.left
    (λ s of small. subst (λ (u : Universe). IsTrue (is_atom_of u c.args.sym s)) (sym c.universe.ensures)
    (rule_atom c.args.grammar.now c.nodes.ensures.kept c.args.sym c.requires.low c.requires.high right.0 right.1
    (atom_kind (node_at c.args.grammar.now.rules c.rule_node-right.result) right.0 (c.rule_node-right.ensures.right ∙ right.1) (c.kind.ensures ∙ ap Some c.in-Atom.is)) s of small))
    c.requires.holes
    (c.read_atom.ensures c.args.grammar.now.rules (name_stands c.args.grammar.now.rules (codes "Z") c.as_slice-name.result.now c.args.sym c.requires.low
    (c.as_slice-name.ensures ∙ c.name.ensures ∙ ap (λ (rules : Rules). rule_name rules c.args.sym) c.spec.ensures.value))))

pub returns-in_ok-push-in-Rule : goal.returns-in_ok-push-in-Rule
returns-in_ok-push-in-Rule c =
    let right = some_right c.args.grammar.now.rules c.args.sym c.requires.low c.requires.high in
    let at : node_at c.args.grammar.now.rules c.rule_node-right.result ≡ Some right.0 = c.rule_node-right.ensures.right ∙ right.1 in
    let other = no_word c.kind.result c.in-Rule.is in
    moves_to c.args.grammar.now _ _ c.push.new.self _ c.args.left.now c.args.left.now c.in_ok-push-in-Rule.ensures.ok refl
    (name_moves c.args.grammar.now c.nodes.ensures.kept c.args.sym c.requires.low c.requires.high right.0 right.1 c.args.holes.now c.requires.holes c.args.left.now c.rule_node-right.result
    c.rule_node-right.ensures.value (inside_kind (node_at c.args.grammar.now.rules c.rule_node-right.result) right.0 c.kind.result at c.kind.ensures other.0 other.1)
    c.rule_node-right.ensures.within at)
