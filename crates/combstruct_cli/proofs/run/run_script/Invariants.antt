use Rattle.std.proofs.Common.{◌≡◌, ◌≤◌, ◌-◌, length, IsTrue}
use Rattle.std.specs.List.{filter}
use Rattle.spec_reader.specs.Cutting.{pieces}
use Rattle.session.specs.Effect.{first_state}
use Rattle.combstruct_cli.specs.Answer.{Part, is_early, place_in, RunsPieces}
use Rattle.combstruct_cli.specs.Steps.{Did}
use Rattle.combstruct_cli.proofs.run.run_script.Given as goal

abbrev pub invariant-loop-ran : goal.invariant-loop-ran
invariant-loop-ran g l =
    ((whole : Part) → RunsPieces l.script (filter is_early (pieces l.script)) l.fn.texts first_state whole
    → Did l.script l.at l.session.texts l.session.state (g.O.Sink.written l.fn.out) (g.O.Sink.written l.out) (g.E.Sink.written l.fn.err) (g.E.Sink.written l.err) whole l.outcome)
    × IsTrue l.session.is_live
    × (l.at ≤ length l.script)
    × (l.at ≤ 16777216)
    × (l.place ≡ place_in l.script l.at)
    × (g.O.Sink.faults l.out ≡ g.O.Sink.faults l.fn.out)
    × (g.E.Sink.faults l.err ≡ g.E.Sink.faults l.fn.err)

abbrev pub decreases-loop-ran : goal.decreases-loop-ran
decreases-loop-ran g l = length l.script - l.at
