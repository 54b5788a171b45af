-- The laws of the check.
use Rattle.std.specs.Prelude.{◌≡◌, List, ℕ, Option, IsTrue}
use Rattle.spec_syntax.specs.Rules.{is_spec}
use Rattle.spec_syntax.specs.Grammar.{Grammar}
use Rattle.well_founded.specs.declared.refused.Refused.{Refused}
use Rattle.well_founded.specs.WellFounded.{Checks}

-- the check of a specification and a class symbol says something
abbrev pub SaysSome : Type 0
SaysSome = (g : Grammar) (start : Option (List ℕ)) → IsTrue (is_spec g.rules) → (said : Option Refused) × Checks g start said

-- and no two things
abbrev pub SaysOne : Type 0
SaysOne = (g : Grammar) (start : Option (List ℕ)) (said other : Option Refused) → IsTrue (is_spec g.rules) → Checks g start said → Checks g start other → said ≡ other
