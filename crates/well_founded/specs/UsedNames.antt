-- The parts of the search for a name without a rule.
use Rattle.std.specs.Prelude.{ℕ, Bool, not, List}
use Rattle.std.specs.List.{flat_map}
use Rattle.spec_syntax.specs.Expression.{Expression}
use Rattle.spec_syntax.specs.Rules.{Rules}
use Rattle.well_founded.specs.Names.{used_names, has_rule}

abbrev pub lacks_rule : Rules → List ℕ → Bool
lacks_rule rules name = not (has_rule rules name)

-- the names in these expressions, from left to right
abbrev pub used_in_all : List Expression → List (List ℕ)
used_in_all es = flat_map used_names es
