-- The law of the numbers of a class.
use Rattle.std.specs.Prelude.{◌≡◌, ◌≤◌, ℕ, length, Option, IsTrue}
use Rattle.spec_syntax.specs.Rules.{is_spec}
use Rattle.spec_syntax.specs.Grammar.{Grammar}
use Rattle.size_counts.specs.declared.place.Place.{Place}
use Rattle.size_counts.specs.Numbers.{NumbersSay}

-- the numbers of each class up to each size say something
abbrev pub SaysSome : Type 0
SaysSome = (g : Grammar) (sym n : ℕ) → IsTrue (is_spec g.rules) → 1 ≤ sym → sym ≤ length g.rules → (said : Option Place) × NumbersSay g sym n said

-- and no two things
abbrev pub SaysOne : Type 0
SaysOne = (g : Grammar) (sym n : ℕ) (said other : Option Place) → NumbersSay g sym n said → NumbersSay g sym n other → said ≡ other
