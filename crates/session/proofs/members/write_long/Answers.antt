use Rattle.session.proofs.MakesLemmas.{cause_passed}
use Rattle.session.proofs.members.write_long.Goals as goal

pub returns-in_err-write_out-clause-cause : goal.returns-in_err-write_out-clause-cause
returns-in_err-write_out-clause-cause g c =
    λ err. cause_passed c.from_residual.result c.in_err-write_out.field-0.0 _ _ err err c.from_residual.ensures.1 (c.in_err-write_out.ensures.cause err)
