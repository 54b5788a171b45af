use Rattle.std.proofs.Common.{length}
use Rattle.spec_syntax.specs.Rules.{all_nodes}
use Rattle.size_counts.specs.Told.{TellNow}
use Rattle.size_counts.specs.Turns.{AreBeside}
use Rattle.size_counts.proofs.fill.counts.Given as goal

abbrev pub invariant-loop-rank : goal.invariant-loop-rank
invariant-loop-rank l = record {
  beside : AreBeside l.tables l.m (length (all_nodes l.tables.grammar.rules)) l.beside;
  now_told : TellNow l.tables.grammar l.tables.marks.items l.m l.rank l.now.items;
}
