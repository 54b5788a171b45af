use Rattle.std.proofs.Common.{◌≡◌, ◌-◌, ◌<◌, arith, length}
use Rattle.std.proofs.lemmas.Grind.{common_steps}
use Rattle.std.proofs.lemmas.Bool.Decides.{nat_tests}
use Rattle.std.proofs.lemmas.Option.{slice_get-get_or}
use Rattle.size_counts.proofs.CountLemmas.{prod_empty, prod_last}
use Rattle.size_counts.proofs.counts.prod_count.Goals as goal

pub returns-then-is_empty : goal.returns-then-is_empty
returns-then-is_empty c = λ g arguments told begun.
    let none : length c.args.firsts.now ≡ 0 = grind (arith, nat_tests, common_steps) in prod_empty g arguments c.args.m c.args.firsts.now c.one_at.result begun none c.one_at.ensures

pub returns : goal.returns
returns c = λ g arguments told begun.
    let some : 0 < length c.args.firsts.now = grind (arith, nat_tests, common_steps) in
    prod_last g arguments c.args.m c.args.firsts.now _ (length c.args.firsts.now - 1) told some (omega arith) (slice_get-get_or c.args.firsts.now (length c.args.firsts.now - 1) _ (omega arith))
