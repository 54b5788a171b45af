use Rattle.std.proofs.Common.{◌≡◌, ◌<◌, ◌≤◌, length}
use Rattle.splits.specs.Pascal.{AreChoices}
use Rattle.splits.proofs.pascal.Row.next.Given as goal

abbrev pub invariant-loop-d : goal.invariant-loop-d
invariant-loop-d l =
    (length l.numbers.items ≡ l.d) × (0 < l.d) × (l.d ≤ length l.self-inside.numbers.items) × AreChoices (length l.self-inside.numbers.items) l.numbers.items
