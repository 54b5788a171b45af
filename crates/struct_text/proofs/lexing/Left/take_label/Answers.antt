-- A label is a number in brackets.
use Rattle.std.proofs.Common.{IsTrue, subst, sym, arith}
use Rattle.struct_model.specs.Membership.{is_label}
use Rattle.struct_text.specs.Lexing.{IsLabelRead}
use Rattle.struct_text.proofs.FirstWords.{no_number, no_end, label_read}
use Rattle.struct_text.proofs.lexing.Left.take_label.Goals as goal

pub returns-in_default : goal.returns-in_default
returns-in_default c =
    λ label rest is small same.
    no_number c.args.self.now c.take.new.self label rest (c.take.ensures.taken (grind (arith, c.if-not-take.false)))
    (subst (λ universe. IsTrue (is_label universe label)) c.in-Labelled.is is) small same c.in_default.ensures.none

pub returns-then-not-take-2 : goal.returns-then-not-take-2
returns-then-not-take-2 c =
    λ label rest is small same.
    no_end c.args.self.now c.take.new.self c.take_number.new.self c.in-Some.label label rest (c.take.ensures.taken (grind (arith, c.if-not-take.false)))
    c.in-Some.ensures.taken c.in-Some.ensures.end (subst (λ universe. IsTrue (is_label universe label)) c.in-Labelled.is is) same
    (c.take-in-Labelled.ensures.other (grind (arith, c.if-not-take-2.true)))

pub returns-else-not-take-2 : goal.returns-else-not-take-2
returns-else-not-take-2 c =
    subst (λ universe. IsLabelRead universe c.args.self.now c.in-Some.label c.take-in-Labelled.new.self) (sym c.in-Labelled.is)
    (label_read c.args.self.now c.take.new.self c.take_number.new.self c.take-in-Labelled.new.self c.in-Some.label c.in-Some.ensures.low
    (c.take.ensures.taken (grind (arith, c.if-not-take.false))) c.in-Some.ensures.taken
    (c.take-in-Labelled.ensures.taken (grind (arith, c.if-not-take-2.false))))
