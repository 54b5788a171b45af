-- Behind a component of a Prod.
use Rattle.std.proofs.Common.{List, ◌∷◌, length, slice_get, refl, sym, ap, ◌∙◌, subst, arith}
use Rattle.spec_syntax.specs.Nodes.{arguments_at}
use Rattle.struct_model.specs.declared.tree.Form5.TheVariants as form
use Rattle.struct_model.specs.Structure.{Structure, Tup, parts_of}
use Rattle.struct_text.specs.declared.holes.Hole.TheVariants as hole
use Rattle.struct_text.specs.declared.holes.Place.TheVariants.{Behind}
use Rattle.struct_text.specs.Reading.{atoms_in, Moves, behind}
use Rattle.struct_text.proofs.PartTexts.{list_room}
use Rattle.struct_text.proofs.BehindSteps.{length_last, moves_to, factor_closed, factor_open, factor_goes, factor_stuck}
use Rattle.struct_text.proofs.leaving.leave_factor.Goals as goal

pub overflow_cast-count : goal.overflow_cast-count
overflow_cast-count c =
    omega (arith, c.len-count.ensures, ap length c.in_ok-push.ensures.ok, length_last c.args.parts c.args.s, c.requires.hole.1, c.children-all.ensures, c.children-all.type_inv)

pub returns-then-not-take : goal.returns-then-not-take
returns-then-not-take c =
    λ t has. factor_open c.args.grammar.now c.nodes.ensures.kept c.args.holes.now c.requires.holes c.args.s c.args.left.now c.args.node c.args.parts c.requires.hole.0 t
    (omega (arith, c.len-count.ensures, ap length c.in_ok-push.ensures.ok, length_last c.args.parts c.args.s, c.children-all.ensures, c.if-count-all.true))
    (c.take.ensures.other c.if-not-take.true) has

pub invariant_of-result : goal.invariant_of-result
invariant_of-result c =
    list_room c.args.parts c.push.new.self c.args.s (atoms_in c.args.holes.now) (length c.args.left.now) c.in_ok-push.ensures.ok c.requires.room

pub returns-then-count-all : goal.returns-then-count-all
returns-then-count-all c =
    subst (λ (ps : List Structure). Moves c.args.grammar.now (behind c.args.grammar.now (hole.Factor c.args.node c.args.parts) c.args.holes.now c.args.s c.args.left.now) c.args.holes.now
    (Behind (Tup form.Prod (parts_of ps))) c.take.new.self) (sym c.in_ok-push.ensures.ok)
    (factor_closed c.args.grammar.now c.nodes.ensures.kept c.args.holes.now c.requires.holes c.args.s c.args.left.now c.args.node c.args.parts c.requires.hole.0 c.take.new.self
    (c.take.ensures.taken c.if-not-take.false))

pub returns-then-not-take-2 : goal.returns-then-not-take-2
returns-then-not-take-2 c =
    λ t has. factor_stuck c.args.grammar.now c.nodes.ensures.kept c.args.holes.now c.requires.holes c.args.s c.args.left.now c.args.node c.args.parts c.requires.hole.0 c.child-next.result
    (omega (arith, c.len-count.ensures, ap length c.in_ok-push.ensures.ok, length_last c.args.parts c.args.s, c.children-all.ensures, c.if-count-all.false, c.requires.hole.1))
    (c.child-next.ensures.argument ∙ ap (slice_get (arguments_at c.args.grammar.now.rules c.args.node))
    (omega (arith, c.len-count.ensures, ap length c.in_ok-push.ensures.ok, length_last c.args.parts c.args.s)))
    t (c.take-2.ensures.other c.if-not-take-2.true) has

pub returns : goal.returns
returns c =
    moves_to c.args.grammar.now _ _ c.push-2.new.self _ c.take-2.new.self c.take-2.new.self
    (c.in_ok-push-2.ensures.ok ∙ ap (λ (ps : List Structure). hole.Factor c.args.node ps ∷ c.args.holes.now) c.in_ok-push.ensures.ok) refl
    (factor_goes c.args.grammar.now c.nodes.ensures.kept c.args.holes.now c.requires.holes c.args.s c.args.left.now c.args.node c.args.parts c.requires.hole.0 c.child-next.result
    (omega (arith, c.len-count.ensures, ap length c.in_ok-push.ensures.ok, length_last c.args.parts c.args.s, c.children-all.ensures, c.if-count-all.false, c.requires.hole.1))
    (c.child-next.ensures.argument ∙ ap (slice_get (arguments_at c.args.grammar.now.rules c.args.node))
    (omega (arith, c.len-count.ensures, ap length c.in_ok-push.ensures.ok, length_last c.args.parts c.args.s)))
    c.take-2.new.self c.child-next.ensures.within (c.take-2.ensures.taken c.if-not-take-2.false))
