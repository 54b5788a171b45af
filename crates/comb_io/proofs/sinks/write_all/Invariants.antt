use Rattle.std.proofs.Common.{◌≡◌, [], length}
use Rattle.comb_io.specs.Parts.{AppendsBefore}
use Rattle.comb_io.proofs.sinks.write_all.Given as goal

abbrev pub invariant-loop-rest : goal.invariant-loop-rest
invariant-loop-rest g l = record {
  so_far : AppendsBefore (g.O.Sink.written l.fn.sink) (g.O.Sink.written l.sink) l.fn.piece l.rest;
  kept : g.O.Sink.faults l.sink ≡ g.O.Sink.faults l.fn.sink;
  untouched : l.fn.piece ≡ [] → l.sink ≡ l.fn.sink;
}

abbrev pub decreases-loop-rest : goal.decreases-loop-rest
decreases-loop-rest g l = length l.rest
