use Rattle.std.proofs.Common.{◌-◌, arith}
use Rattle.std.proofs.lemmas.Option.{slice_get-get_or}
use Rattle.listing_laws.specs.Numbers.{ways}
use Rattle.size_counts.specs.Ways.{universe_of}
use Rattle.size_counts.proofs.SumLemmas.{joined_step, joined_all}
use Rattle.size_counts.proofs.sums.joined.Goals as goal

pub loop-d-preserved : goal.loop-d-preserved
loop-d-preserved c = λ first other told.
    joined_step (ways (universe_of c.args.ways.now) c.args.n) first other c.args.n c.loop-d.d c.loop-d.sum c.split.result c.plus-sum.result (c.loop-d.invariant first other told)
    (c.split.ensures (first c.loop-d.d) (other (c.args.n - c.loop-d.d))
    (told c.loop-d.d _ _ (omega arith) (slice_get-get_or c.args.firsts.now c.loop-d.d _ (omega arith)) (slice_get-get_or c.args.others.now (c.args.n - c.loop-d.d) _ (omega arith))))
    c.plus-sum.ensures

pub returns : goal.returns
returns c = λ first other told. joined_all (universe_of c.args.ways.now) first other c.args.n c.loop-d.d c.loop-d.sum (omega arith) (c.loop-d.invariant first other told)
