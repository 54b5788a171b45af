-- The laws of splits.
use Rattle.std.specs.Prelude.{◌≡◌, ℕ, ◌≤◌, List, ◌++◌, length, IsTrue}
use Rattle.std.specs.declared.cmp.Ordering.TheVariants.{Less}
use Rattle.std.specs.Ordering.{nat_cmp}
use Rattle.std.specs.Cmp.Lexicographic.{slice_cmp}
use Rattle.spec_syntax.specs.declared.statement.Universe.{Universe}
use Rattle.lists.specs.Ascending.{ascending}
use Rattle.struct_model.specs.Membership.{is_supply}
use Rattle.lists.specs.Enumeration.{Enumerated}
use Rattle.splits.specs.Splits.{Split, splits}
use Rattle.struct_model.specs.declared.supplies.Supply.{Supply}
use Rattle.struct_model.specs.SupplyView.{supply_labels, is_in_order}
use Rattle.splits.specs.Parts.{has_length, parts, number_of_parts}

-- the two lists are supplies, and together they are the supply
pub record IsSplit (universe : Universe) (u : List ℕ) (split : Split) : Type 0 where
  pub part : IsTrue (is_supply universe split.part)
  pub rest : IsTrue (is_supply universe split.rest)
  pub whole : ascending (split.part ++ split.rest) ≡ u

-- the parts label by label, a prefix first
abbrev pub PartBefore : Split → Split → Type 0
PartBefore a b = slice_cmp nat_cmp a.part b.part ≡ Less

-- Each split of a supply is there once, in the order of the parts.
abbrev pub SplitsAreListed : Type 0
SplitsAreListed = (universe : Universe) (u : List ℕ) → IsTrue (is_supply universe u) → Enumerated PartBefore (IsSplit universe u) (splits u)

-- Each split of a supply whose part has from low to high labels is there once, in the order of the parts.
abbrev pub PartsAreListed : Type 0
PartsAreListed =
    (universe : Universe) (u : List ℕ) (low high : ℕ) → IsTrue (is_supply universe u)
    → Enumerated PartBefore (λ split. IsSplit universe u split × IsTrue (has_length low high split)) (parts low high u)

-- Of d labels a supply of at least so many has as many parts as there are ways to choose them, and one of zeros has one.
abbrev pub PartsAreCounted : Type 0
PartsAreCounted = (supply : Supply) (d : ℕ) → IsTrue (is_in_order supply) → d ≤ length (supply_labels supply) → length (parts d d (supply_labels supply)) ≡ number_of_parts supply d
