-- What contracts see of a checked grammar.
use Rattle.std.specs.Prelude.{◌≡◌, ◌≤◌, IfSome, ℕ, List, Option, Some, IsTrue, length, slice_get}
use Rattle.spec_syntax.specs.declared.statement.Universe.{Universe}
use Rattle.spec_syntax.specs.Expression.{Expression}
use Rattle.spec_syntax.specs.Rules.{Rules, is_spec, all_nodes}
use Rattle.spec_syntax.specs.Grammar.{Grammar}
use Rattle.well_founded.specs.Sizes.{IsLeast}
use Rattle.well_founded.specs.WellFounded.{IsWellFounded}
use Rattle.spec_syntax.specs.Nodes.{node_at}
use Rattle.well_founded.specs.Rank.{AreRanks}

-- the rules, the universe, the number of the class's rule where there is a class symbol, and the least sizes and the ranks of
-- the nodes
pub record Checked : Type 0 where
  pub rules : Rules
  pub universe : Universe
  pub start : Option ℕ
  pub leasts : List ℕ
  pub ranks : List ℕ

abbrev pub grammar : Checked → Grammar
grammar checked = record { rules = checked.rules; universe = checked.universe }

-- each node has its least size
pub record AreLeasts (g : Grammar) (leasts : List ℕ) : Type 0 where
  pub for_each : length leasts ≡ length (all_nodes g.rules)
  pub each : (n l : ℕ) (e : Expression) → node_at g.rules n ≡ Some e → slice_get leasts n ≡ Some l → IsLeast g e l

-- it passed the check
pub record IsChecked (checked : Checked) : Type 0 where
  pub spec : IsTrue (is_spec checked.rules)
  pub well_founded : IsWellFounded (grammar checked)
  pub least : AreLeasts (grammar checked) checked.leasts
  pub ranked : AreRanks (grammar checked) checked.ranks
  pub started : IfSome checked.start (λ sym. (1 ≤ sym) × (sym ≤ length checked.rules))
