use Rattle.std.proofs.Common.{length}
use Rattle.spec_syntax.specs.Rules.{all_nodes}
use Rattle.size_counts.specs.Turns.{AreBeside}
use Rattle.size_counts.proofs.FillLemmas.{TellSoFar}
use Rattle.size_counts.proofs.fill.fill_rank.Given as goal

abbrev pub invariant-loop-node : goal.invariant-loop-node
invariant-loop-node l = record {
  beside : AreBeside l.tables l.m (length (all_nodes l.tables.grammar.rules)) l.beside;
  so_far : TellSoFar l.tables.grammar l.tables.marks.items l.m l.rank l.node l.now;
}
