-- The text is read to its end.
use Rattle.struct_text.specs.Reading.{name_weight}
use Rattle.struct_text.proofs.ReadSteps.{first_refused, passed_on}
use Rattle.struct_text.proofs.reading.read_tagged.Goals as goal

pub returns-in_err-place-clause-none : goal.returns-in_err-place-clause-none
returns-in_err-place-clause-none c =
    passed_on c.from_residual.result c.in_err-place.field-0.0 c.from_residual.ensures.1
    (first_refused c.args.grammar.now c.args.sym c.args.text.now (name_weight c.args.grammar.now c.args.sym) c.new-holes.result c.enter_rule.new.holes c.of-left.result c.enter_rule.new.left
    c.enter_rule.result c.in_err-place.field-0.0 c.new-holes.ensures c.of-left.ensures c.in_err-place.was c.enter_rule.ensures)
