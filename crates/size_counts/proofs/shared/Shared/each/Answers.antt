use Rattle.size_counts.proofs.SharedLemmas.{part_told}
use Rattle.size_counts.proofs.shared.Shared.each.Goals as goal

pub returns : goal.returns
returns c = λ n stands. part_told c.args.self.now n stands
