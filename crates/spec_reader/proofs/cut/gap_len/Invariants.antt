use Rattle.std.proofs.Common.{◌≡◌, ◌+◌, drop}
use Rattle.spec_reader.specs.declared.cut.Region.TheVariants.{Open}
use Rattle.spec_reader.specs.Cutting.{gap_len}
use Rattle.spec_reader.proofs.cut.gap_len.Given as goal

abbrev pub invariant-loop-i : goal.invariant-loop-i
invariant-loop-i l = gap_len Open l.text ≡ l.i + gap_len l.region (drop l.i l.text)
