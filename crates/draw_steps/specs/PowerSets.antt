-- The first PowerSet without labels that a class reaches.
use Rattle.std.specs.Prelude.{◌≡◌, ◌<◌, ℕ, Some}
use Rattle.spec_syntax.specs.declared.statement.Universe.TheVariants.{Unlabelled}
use Rattle.spec_syntax.specs.Nodes.{place_in_rule}
use Rattle.well_founded.specs.declared.node.NodeKind.TheVariants as told
use Rattle.listing_laws.specs.NodeListing.{HasKind}
use Rattle.size_counts.specs.CountedView.{Counts, IsReachedIn}

-- the node is a PowerSet without labels, and is reached from the class
pub record IsPowerSet (counts : Counts) (node : ℕ) : Type 0 where
  pub unlabelled : counts.checked.universe ≡ Unlabelled
  pub reached : IsReachedIn counts node
  pub is : HasKind counts.checked node told.PowerSet

-- no node before it is one
pub record IsFirstPowerSet (counts : Counts) (node : ℕ) : Type 0 where
  pub is : IsPowerSet counts node
  pub first : (other : ℕ) → other < node → IsPowerSet counts other → ⊥

-- the first one stands in rule number x
pub record HasFirstPowerSet (counts : Counts) (x : ℕ) : Type 0 where
  pub node : ℕ
  pub place : ℕ
  pub first : IsFirstPowerSet counts node
  pub rule : place_in_rule counts.checked.rules node ≡ Some (x, place)
