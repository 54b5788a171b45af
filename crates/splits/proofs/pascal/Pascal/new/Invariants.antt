use Rattle.std.proofs.Common.{◌≡◌, ◌+◌, ◌≤◌, length}
use Rattle.splits.specs.Pascal.{AreInPlace}
use Rattle.splits.proofs.pascal.Pascal.new.Given as goal

abbrev pub invariant-loop-row : goal.invariant-loop-row
invariant-loop-row l = (length l.rows.items ≡ l.row + 1) × (l.row ≤ l.n) × AreInPlace l.rows.items
