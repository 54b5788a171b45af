-- In front of a Prod's first component.
use Rattle.std.proofs.Common.{List, ◌∷◌, refl, ap, ◌∙◌, arith}
use Rattle.struct_model.specs.Structure.{Structure}
use Rattle.struct_text.specs.declared.holes.Hole.TheVariants as hole
use Rattle.struct_text.proofs.Shapes.{prod_has_child}
use Rattle.struct_text.proofs.AheadSteps.{prod_moves}
use Rattle.struct_text.proofs.BehindSteps.{moves_to}
use Rattle.struct_text.proofs.entering.enter_prod.Goals as goal

pub child-requires-clause-high : goal.child-requires-clause-high
child-requires-clause-high c = omega (arith, prod_has_child c.args.grammar.now c.args.node c.nodes.ensures.kept.spec c.requires.kind)

pub returns : goal.returns
returns c =
    moves_to c.args.grammar.now _ _ c.push.new.self _ c.take.new.self c.take.new.self
    (c.in_ok-push.ensures.ok ∙ ap (λ (ps : List Structure). hole.Factor c.args.node ps ∷ c.args.holes.now) c.new.ensures) refl
    (prod_moves c.args.grammar.now c.nodes.ensures.kept c.args.holes.now c.requires.holes c.args.node c.args.left.now c.requires.kind c.child.result c.take.new.self
    (c.take.ensures.taken c.if-not-take.false) c.requires.within c.child.ensures.within
    (prod_has_child c.args.grammar.now c.args.node c.nodes.ensures.kept.spec c.requires.kind) c.child.ensures.argument)
