use Rattle.std.proofs.Common.{◌∙◌, ap, arith, length}
use Rattle.size_counts.proofs.FilledLemmas.{told_start, can_split_none}
use Rattle.size_counts.proofs.counted.Counted.new.Goals as goal

pub filled-requires-clause-ready : goal.filled-requires-clause-ready
filled-requires-clause-ready c = record {
  told = told_start c.args.grammar c.unwrap-sym.result c.in_ok-marks.marks.items c.new-2.result.items c.in_ok-marks.ensures.kept c.in_ok-marks.ensures.reached c.new-2.ensures.items;
  filled = ap length c.new-2.ensures.items;
  small = omega arith;
  universe = c.in_ok-ways.ensures.universe ∙ c.universe.ensures;
  ways = can_split_none c.in_ok-ways.ways;
}
