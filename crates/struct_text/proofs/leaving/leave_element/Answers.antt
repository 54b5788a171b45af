-- Behind a component of a container.
use Rattle.std.proofs.Common.{List, ◌∷◌, length, refl, sym, ap, ◌∙◌, subst}
use Rattle.struct_model.specs.Structure.{Structure, Tup, parts_of}
use Rattle.struct_text.specs.declared.holes.Hole.TheVariants as hole
use Rattle.struct_text.specs.declared.holes.Place.TheVariants.{Behind}
use Rattle.struct_text.specs.Reading.{atoms_in, Moves, behind}
use Rattle.struct_text.proofs.PartTexts.{list_room}
use Rattle.struct_text.proofs.BehindSteps.{moves_to, element_closed, element_goes, element_stuck}
use Rattle.struct_text.proofs.leaving.leave_element.Goals as goal

pub invariant_of-result : goal.invariant_of-result
invariant_of-result c =
    list_room c.args.parts c.push.new.self c.args.s (atoms_in c.args.holes.now) (length c.args.left.now) c.in_ok-push.ensures.ok c.requires.room

pub returns-then-take : goal.returns-then-take
returns-then-take c =
    subst (λ (ps : List Structure). Moves c.args.grammar.now (behind c.args.grammar.now (hole.Element c.args.form c.args.node c.args.parts) c.args.holes.now c.args.s c.args.left.now) c.args.holes.now
    (Behind (Tup c.args.form (parts_of ps))) c.take.new.self) (sym c.in_ok-push.ensures.ok)
    (element_closed c.args.grammar.now c.nodes.ensures.kept c.args.holes.now c.requires.holes c.args.s c.args.left.now c.args.form c.args.node c.args.parts c.requires.hole c.take.new.self
    (c.take.ensures.taken c.if-take.true))

pub returns-then-not-take : goal.returns-then-not-take
returns-then-not-take c =
    λ t has. element_stuck c.args.grammar.now c.nodes.ensures.kept c.args.holes.now c.requires.holes c.args.s c.args.left.now c.args.form c.args.node c.args.parts c.requires.hole t
    (c.take.ensures.other c.if-take.false) (λ rest same. c.take-2.ensures.other c.if-not-take.true rest (c.take.ensures.kept c.if-take.false ∙ same)) has

pub returns : goal.returns
returns c =
    moves_to c.args.grammar.now _ _ c.push-2.new.self _ c.take-2.new.self c.take-2.new.self
    (c.in_ok-push-2.ensures.ok ∙ ap (λ (ps : List Structure). hole.Element c.args.form c.args.node ps ∷ c.args.holes.now) c.in_ok-push.ensures.ok) refl
    (element_goes c.args.grammar.now c.nodes.ensures.kept c.args.holes.now c.requires.holes c.args.s c.args.left.now c.args.form c.args.node c.args.parts c.requires.hole c.take-2.new.self
    (c.take.ensures.other c.if-take.false) (sym (c.take.ensures.kept c.if-take.false) ∙ c.take-2.ensures.taken c.if-not-take.false))
