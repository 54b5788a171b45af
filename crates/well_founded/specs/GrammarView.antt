-- The checked grammar of the code.
use Rattle.std.specs.Prelude.{◌≡◌}
use Rattle.well_founded.specs.declared.grammar.Grammar.TheInside.{Inside}
use Rattle.well_founded.specs.Checked.{Checked, IsChecked}
use Rattle.spec_syntax.specs.Nodes.{all_right_nodes}
use Rattle.well_founded.specs.NodeTable.{nodes_of}

abbrev pub checked_of : Inside → Checked
checked_of a = record { rules = a.spec; universe = a.universe; start = a.start; leasts = a.leasts.items; ranks = a.ranks.items }

-- it passed the check, and its tables are those of its rules
pub record IsKept (a : Inside) : Type 0 where
  pub checked : IsChecked (checked_of a)
  pub nodes : a.nodes.items ≡ nodes_of a.spec
  pub right_nodes : a.right_nodes.items ≡ all_right_nodes a.spec
