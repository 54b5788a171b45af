-- What contracts see of the ways to split a supply.
use Rattle.std.specs.Prelude.{ℕ, ◌≤◌}
use Rattle.spec_syntax.specs.declared.statement.Universe.{Universe}
use Rattle.spec_syntax.specs.declared.statement.Universe.TheVariants as universe
use Rattle.size_counts.specs.declared.sums.Ways.{Ways}
use Rattle.size_counts.specs.declared.sums.Ways.TheVariants.{Labelled, Unlabelled}

abbrev pub universe_of : Ways → Universe
universe_of (Labelled pascal) = universe.Labelled
universe_of Unlabelled = universe.Unlabelled

-- they serve for supplies of n labels
abbrev pub CanSplit : Ways → ℕ → Type 0
CanSplit (Labelled greatest) n = n ≤ greatest
CanSplit Unlabelled n = Unit {0}
