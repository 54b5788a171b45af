use Rattle.std.proofs.Common.{◌≡◌, ◌++◌, false, length}
use Rattle.comb_io.specs.Parts.{AppendsBefore}
use Rattle.struct_model.specs.Structure.{parts_of}
use Rattle.struct_text.specs.Text.{others_text}
use Rattle.session.proofs.members.write_later.Given as goal

abbrev pub invariant-loop-alloc : goal.invariant-loop-alloc
invariant-loop-alloc g l = record {
  written : AppendsBefore (g.O.Sink.written l.initial.out) (g.O.Sink.written l.out) (l.initial.text ++ others_text l.texts l.initial.members.counts.checked.rules (parts_of l.initial.members.rest))
      (l.text ++ others_text l.texts l.members.counts.checked.rules (parts_of l.members.rest));
  faults : g.O.Sink.faults l.out ≡ g.O.Sink.faults l.initial.out;
  whole : l.members.is_broken ≡ false;
  counts : l.members.counts ≡ l.initial.members.counts;
}

abbrev pub decreases-loop-alloc : goal.decreases-loop-alloc
decreases-loop-alloc g l = length l.members.rest
