-- In front of a container's first component, or behind an empty container.
use Rattle.std.proofs.Common.{List, ◌∷◌, sym, ap, ◌∙◌, subst}
use Rattle.struct_model.specs.Structure.{Structure, Tup, parts_of}
use Rattle.struct_text.specs.declared.holes.Hole.TheVariants as hole
use Rattle.struct_text.specs.declared.holes.Place.TheVariants.{Behind}
use Rattle.struct_text.specs.Reading.{is_of_node, Moves, ahead}
use Rattle.struct_text.proofs.AheadSteps.{word_opened, empty_moves, many_moves}
use Rattle.struct_text.proofs.BehindSteps.{moves_to}
use Rattle.struct_text.proofs.entering.enter_many.Goals as goal

pub returns-then-take : goal.returns-then-take
returns-then-take c =
    subst (λ (ps : List Structure). Moves c.args.grammar.now (ahead c.args.grammar.now c.args.holes.now (is_of_node c.args.grammar.now c.args.node) 0 c.args.left.now) c.args.holes.now
    (Behind (Tup c.args.form (parts_of ps))) c.take-3.new.self) (sym c.new-parts.ensures)
    (empty_moves c.args.grammar.now c.nodes.ensures.kept c.args.holes.now c.requires.holes c.args.node c.args.left.now c.args.form c.requires.kind c.take-2.new.self
    (word_opened c.args.left.now c.form_word.result.now c.take.new.self c.take-2.new.self c.args.form c.form_word.ensures (c.take.ensures.taken c.if-not-take.false)
    (c.take-2.ensures.taken c.if-not-take-2.false)) c.take-3.new.self (c.take-3.ensures.taken c.if-take.true))

pub returns : goal.returns
returns c =
    moves_to c.args.grammar.now _ _ c.push.new.self _ c.take-2.new.self c.take-3.new.self
    (c.in_ok-push.ensures.ok ∙ ap (λ (ps : List Structure). hole.Element c.args.form c.child-element.result ps ∷ c.args.holes.now) c.new-parts.ensures)
    (c.take-3.ensures.kept c.if-take.false)
    (many_moves c.args.grammar.now c.nodes.ensures.kept c.args.holes.now c.requires.holes c.args.node c.args.left.now c.args.form c.requires.kind c.take-2.new.self
    (word_opened c.args.left.now c.form_word.result.now c.take.new.self c.take-2.new.self c.args.form c.form_word.ensures (c.take.ensures.taken c.if-not-take.false)
    (c.take-2.ensures.taken c.if-not-take-2.false)) c.child-element.result (c.take-3.ensures.other c.if-take.false) c.child-element.ensures.within c.child-element.ensures.argument)
