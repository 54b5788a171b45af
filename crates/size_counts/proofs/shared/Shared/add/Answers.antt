use Rattle.std.proofs.Common.{arith}
use Rattle.size_counts.proofs.SharedLemmas.{stands_more}
use Rattle.size_counts.proofs.shared.Shared.add.Goals as goal

pub returns-clause-sum : goal.returns-clause-sum
returns-clause-sum c = λ n stands.
    stands_more c.args.self.now.parts c.args.first c.args.second c.args.self.now.rest n c.args.self.now.each c.times-whole.result c.times-of_rest.result c.plus.result c.plus-2.result c.plus-self.result c.requires.left
    (omega (arith, c.ranges.first.fits)) (omega (arith, c.ranges.second.fits)) c.requires.few c.times-whole.ensures c.times-of_rest.ensures c.plus.ensures c.plus-2.ensures c.plus-self.ensures stands
