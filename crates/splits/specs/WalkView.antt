-- What contracts see of a walk over parts.
use Rattle.std.specs.Prelude.{◌≡◌, ℕ, Bool, List, [], Option, Some, None, IsTrue}
use Rattle.std.specs.Option.{option_map}
use Rattle.spec_syntax.specs.declared.statement.Universe.{Universe}
use Rattle.struct_model.specs.declared.supplies.Supply.{Supply}
use Rattle.struct_model.specs.declared.supplies.Supply.TheVariants.{Zeros, Labels}
use Rattle.struct_model.specs.SupplyView.{supply_labels, supply_universe, is_in_order}
use Rattle.splits.specs.Splits.{Split}
use Rattle.splits.specs.Parts.{parts_of, from_part, IsPart}

-- the universe of the supply that is split, and the splits that are still to come
pub record Walk : Type 0 where
  pub universe : Universe
  pub left : List Split

-- the labels of a supply of labels, and none of zeros
abbrev pub given_labels : Supply → List ℕ
given_labels (Zeros n) = []
given_labels (Labels labels) = labels

-- the split of a supply in these two
abbrev pub split_into : Supply → Supply → Split
split_into part rest = record { part = supply_labels part; rest = supply_labels rest }

-- the splits of the supply from the coming part on
abbrev pub to_come : Supply → List Bool → Option Supply → List Split
to_come supply lengths coming = from_part (option_map supply_labels coming) (parts_of lengths (supply_labels supply))

-- what contracts see of a walk over the supply's parts from the coming one on
abbrev pub walk_of : Supply → List Bool → Option Supply → Walk
walk_of supply lengths coming = record { universe = supply_universe supply; left = to_come supply lengths coming }

-- the coming part, if there is one, is a part of the supply of an admitted length, and of its universe
abbrev pub IsToCome : Supply → List Bool → Option Supply → Type 0
IsToCome supply lengths None = Unit {0}
IsToCome supply lengths (Some part) =
    IsTrue (is_in_order part) × (supply_universe part ≡ supply_universe supply) × IsPart (supply_labels part) (parts_of lengths (supply_labels supply))
