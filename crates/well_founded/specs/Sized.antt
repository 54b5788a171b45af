-- What the check knows of a grammar once it has the least sizes of the names.
use Rattle.std.specs.Prelude.{◌≡◌, ℕ, None, Option, List, All, IsTrue}
use Rattle.spec_syntax.specs.Rules.{is_spec}
use Rattle.spec_syntax.specs.Grammar.{Grammar}
use Rattle.well_founded.specs.Names.{name_without_rule}
use Rattle.well_founded.specs.Least.{AreSizes, IsSmall}
use Rattle.well_founded.specs.WellFounded.{HoldsCycle, HoldsNull, OfNone, IsEachProductive}

-- the rules are a specification's, no Cycle stands in them that the universe doesn't allow, and the table has their least sizes
pub record IsSized (g : Grammar) (table : List (Option ℕ)) : Type 0 where
  pub spec : IsTrue (is_spec g.rules)
  pub no_cycles : OfNone (HoldsCycle g) g.rules
  pub sizes : AreSizes g.rules table
  pub small : All IsSmall table

-- no fault is left but an endless rule
pub record IsAllButFinite (g : Grammar) (table : List (Option ℕ)) : Type 0 where
  pub sized : IsSized g table
  pub named : name_without_rule g.rules ≡ None
  pub productive : IsEachProductive g
  pub no_nulls : OfNone (HoldsNull g) g.rules
