-- Lines and columns.
use Rattle.std.specs.Prelude.{ℕ, ◌+◌, ◌==◌, if◌then◌else◌, List}
use Rattle.std.specs.List.{fold}
use Rattle.spec_reader.specs.declared.place.Place.{Place}

-- a line feed ends a line, and any other byte takes a column
abbrev pub place_after : Place → ℕ → Place
place_after place b =
    if b == 10 then record { line = place.line + 1; column = 1 } else record { line = place.line; column = place.column + 1 }

-- the place behind some bytes, the first of which stands at a place
abbrev pub place_behind : Place → List ℕ → Place
place_behind place bytes = fold place_after place bytes
