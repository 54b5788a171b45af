use Rattle.std.proofs.Common.{◌≡◌, ◌≤◌, ◌+◌, min, max, drop}
use Rattle.spec_reader.specs.Places.{place_behind}
use Rattle.spec_reader.proofs.place.behind.Given as goal

abbrev pub invariant-loop-byte : goal.invariant-loop-byte
invariant-loop-byte l =
    (place_behind l.place (drop l.byte-index l.bytes) ≡ place_behind l.fn.start l.bytes)
    × (l.place.line ≤ l.fn.start.line + l.byte-index) × (l.place.column ≤ max l.fn.start.column 1 + l.byte-index)
    × (l.fn.start.line ≤ l.place.line) × (min l.fn.start.column 1 ≤ l.place.column)
