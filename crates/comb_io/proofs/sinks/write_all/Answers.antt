use Rattle.std.proofs.Common.{arith, sym, subst, ◌∙◌, ◌<◌, length}
use Rattle.std.proofs.lemmas.Grind.{common_steps}
use Rattle.comb_io.specs.Parts.{AppendsBefore}
use Rattle.comb_io.proofs.Parts.{AppendsBefore-more, AppendsBefore-stop, AppendsBefore-some, take-rest}
use Rattle.comb_io.proofs.Results.{OnErr-of}
use Rattle.comb_io.proofs.sinks.write_all.Goals as goal

pub returns-in_err-count-clause-part : goal.returns-in_err-count-clause-part
returns-in_err-count-clause-part g c =
    let some : 0 < length c.loop-rest.rest.now = grind (arith, common_steps) in
    let part = AppendsBefore-stop _ _ _ _ _ c.loop-rest.invariant.so_far some c.in_err-count.ensures.bytes in
    OnErr-of c.from_residual.result _ part

pub loop-rest-preserved : goal.loop-rest-preserved
loop-rest-preserved g c =
    let some : 0 < length c.loop-rest.rest.now = grind (arith, common_steps) in
    let more = AppendsBefore-more _ _ _ _ _ c.in_ok-count.count c.loop-rest.invariant.so_far c.in_ok-count.ensures.bytes in
    record {
      so_far = subst (AppendsBefore _ _ _) (sym (take-rest c.in_ok-count.count c.loop-rest.rest.now)) more;
      kept = c.in_ok-count.ensures.cause.kept ∙ c.loop-rest.invariant.kept;
      untouched = λ none. absurd (AppendsBefore-some _ _ _ _ c.loop-rest.invariant.so_far some none);
    }
