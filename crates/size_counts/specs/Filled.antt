-- What is known of tables as they are filled, and once they are full.
use Rattle.std.specs.Prelude.{◌≡◌, ℕ, ◌+◌, ◌≤◌, length, find, Option, Some, None, Result, Ok, Err}
use Rattle.std.specs.List.{flat_map, range_with_len}
use Rattle.spec_syntax.specs.Rules.{all_nodes}
use Rattle.well_founded.specs.Checked.{grammar}
use Rattle.size_counts.specs.declared.place.CountFault.{CountFault}
use Rattle.size_counts.specs.declared.place.CountFault.TheVariants.{TooLarge, Memory}
use Rattle.size_counts.specs.declared.tables.Tables.{Tables}
use Rattle.size_counts.specs.declared.counted.Counted.TheInside.{Inside}
use Rattle.size_counts.specs.Numbers.{Spot, numbers_of_size, is_large_spot, place_of}
use Rattle.size_counts.specs.Reached.{AreReached}
use Rattle.size_counts.specs.Tables.{Layer}
use Rattle.size_counts.specs.Told.{IsLayer, AreTold}
use Rattle.size_counts.specs.Totals.{AreKept}
use Rattle.size_counts.specs.CountedView.{Counts}

-- the first of the numbers at size m that is too large
abbrev pub large_at : Tables → ℕ → Option Spot
large_at tables m = find is_large_spot (numbers_of_size (grammar tables.grammar) tables.marks.items m)

-- where it stands
abbrev pub FaultAt : Tables → Option Spot → CountFault → Type 0
FaultAt tables large (TooLarge place) = (spot : Spot) × (large ≡ Some spot) × (place ≡ place_of tables.grammar.rules spot)
FaultAt tables large Memory = Unit {0}

-- the numbers at size m, or the first that is too large
abbrev pub LayerSays : Tables → ℕ → Result Layer CountFault → Type 0
LayerSays tables m (Ok layer) = IsLayer (grammar tables.grammar) tables.marks.items m layer × (large_at tables m ≡ None)
LayerSays tables m (Err fault) = FaultAt tables (large_at tables m) fault

-- no number is too large below size m, and the tables have them
pub record IsFilledTo (before tables : Tables) (m : ℕ) : Type 0 where
  pub grammar_kept : tables.grammar ≡ before.grammar
  pub marks_kept : tables.marks.items ≡ before.marks.items
  pub told : AreTold tables.grammar tables.marks.items tables.layers.items
  pub filled : length tables.layers.items ≡ m
  pub none : find is_large_spot (flat_map (numbers_of_size (grammar before.grammar) before.marks.items) (range_with_len 0 m)) ≡ None

-- what is seen
abbrev pub counts_of : Inside → Counts
counts_of a = record { checked = a.tables.grammar; size = a.size }

-- the tables are full, their marks are those of what the class reaches, and the rows of its nodes are there
pub record IsFull (a : Inside) : Type 0 where
  pub sym : ℕ
  pub start : a.tables.grammar.start ≡ Some sym
  pub reached : AreReached a.tables.grammar.rules sym a.tables.marks.items
  pub told : AreTold a.tables.grammar a.tables.marks.items a.tables.layers.items
  pub filled : length a.tables.layers.items ≡ a.size + 1
  pub small : a.size ≤ 1000
  pub kept : AreKept a.tables (length (all_nodes a.tables.grammar.rules)) a.totals.items
