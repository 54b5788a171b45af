-- In front of a Union's argument.
use Rattle.std.proofs.Common.{refl, arith}
use Rattle.struct_text.proofs.AheadSteps.{no_number, number_beyond, no_colon, union_moves}
use Rattle.struct_text.proofs.BehindSteps.{moves_to}
use Rattle.struct_text.proofs.entering.enter_union.Goals as goal

pub returns-in_default : goal.returns-in_default
returns-in_default c = no_number c.args.grammar.now c.nodes.ensures.kept c.args.holes.now c.requires.holes c.args.node c.args.left.now c.requires.kind c.in_default.ensures.none

pub returns-then-number-children : goal.returns-then-number-children
returns-then-number-children c =
    number_beyond c.args.grammar.now c.nodes.ensures.kept c.args.holes.now c.requires.holes c.args.node c.args.left.now c.requires.kind c.in-Some.number c.take_number.new.self
    c.in-Some.ensures.taken c.in-Some.ensures.end (omega (arith, c.if-number-children.true, c.children.ensures))

pub returns-then-not-take : goal.returns-then-not-take
returns-then-not-take c =
    no_colon c.args.grammar.now c.nodes.ensures.kept c.args.holes.now c.requires.holes c.args.node c.args.left.now c.requires.kind c.in-Some.number c.take_number.new.self
    c.in-Some.ensures.taken c.in-Some.ensures.end (c.take.ensures.other c.if-not-take.true)

pub returns : goal.returns
returns c =
    moves_to c.args.grammar.now _ _ c.push.new.self _ c.take.new.self c.take.new.self c.in_ok-push.ensures.ok refl
    (union_moves c.args.grammar.now c.nodes.ensures.kept c.args.holes.now c.requires.holes c.args.node c.args.left.now c.requires.kind c.in-Some.number c.take_number.new.self
    c.in-Some.ensures.taken c.in-Some.ensures.end c.child.result c.take.new.self (c.take.ensures.taken c.if-not-take.false) c.child.ensures.within c.child.ensures.argument)
