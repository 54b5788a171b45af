use Rattle.std.proofs.Common.{arith}
use Rattle.spec_syntax.proofs.RulesLemmas.{position_from-drop}
use Rattle.spec_syntax.proofs.spec.Spec.find.Goals as goal

pub returns-then-eq : goal.returns-then-eq
returns-then-eq c = grind (arith, c.loop-place.invariant, position_from-drop c.args.self.now c.loop-place.place c.args.name.now (omega arith), c.name.ensures, c.as_slice.ensures, c.if-eq.ensures)

pub loop-place-preserved : goal.loop-place-preserved
loop-place-preserved c = grind (arith, c.loop-place.invariant, position_from-drop c.args.self.now c.loop-place.place c.args.name.now (omega arith), c.name.ensures, c.as_slice.ensures, c.if-eq.ensures)
