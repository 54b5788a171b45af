-- What the functions of a draw are asked for.
use Rattle.std.specs.Prelude.{◌≡◌, ◌⊎◌, ◌≤◌, ◌<◌, ℕ, true, List, length, slice_get, Some, IsTrue}
use Rattle.spec_syntax.specs.declared.statement.Universe.TheVariants.{Labelled, Unlabelled}
use Rattle.spec_syntax.specs.declared.expr.Card.{Card}
use Rattle.spec_syntax.specs.Card.{is_within}
use Rattle.spec_syntax.specs.Nodes.{children_at, card_at}
use Rattle.struct_model.specs.declared.supplies.Supply.{Supply}
use Rattle.struct_model.specs.Structure.{Structure, size}
use Rattle.struct_model.specs.SupplyView.{supply_labels, supply_universe, is_in_order}
use Rattle.well_founded.specs.declared.node.NodeKind.{NodeKind}
use Rattle.well_founded.specs.declared.node.NodeKind.TheVariants as told
use Rattle.listing_laws.specs.NodeListing.{HasKind}
use Rattle.size_counts.specs.CountedView.{Counts, IsReachedIn}
use Rattle.draw_steps.specs.PowerSets.{IsPowerSet}
use Rattle.draw_steps.specs.declared.missing.Lists.{Lists}
use Rattle.draw_steps.specs.declared.missing.Lists.TheVariants.{Components, Elements, Members}

-- the supply is one of the class's universe, and has no more labels than the size
pub record IsAsked (counts : Counts) (supply : Supply) : Type 0 where
  pub in_order : IsTrue (is_in_order supply)
  pub universe : supply_universe supply ≡ counts.checked.universe
  pub within : length (supply_labels supply) ≤ counts.size

-- the node is a container over this element, and its bound doesn't forbid so many components as too many
pub record IsOver (counts : Counts) (node element missing : ℕ) : Type 0 where
  pub reached : IsReachedIn counts node
  pub child : slice_get (children_at counts.checked.rules node) 0 ≡ Some element
  pub within : (card : Card) → card_at counts.checked.rules node ≡ Some card → is_within card.high missing ≡ true

-- the last components of a Prod
pub record AreComponents (counts : Counts) (node missing : ℕ) : Type 0 where
  pub reached : IsReachedIn counts node
  pub prod : HasKind counts.checked node told.Prod
  pub few : missing ≤ length (children_at counts.checked.rules node)

-- elements of a Sequence or a Cycle
pub record AreElements (counts : Counts) (node element missing : ℕ) : Type 0 where
  pub over : IsOver counts node element missing
  pub kind : HasKind counts.checked node told.Sequence ⊎ HasKind counts.checked node told.Cycle

-- elements of a labelled Set or PowerSet
pub record AreMembers (counts : Counts) (node element missing : ℕ) : Type 0 where
  pub over : IsOver counts node element missing
  pub kind : HasKind counts.checked node told.Set ⊎ HasKind counts.checked node told.PowerSet
  pub labelled : counts.checked.universe ≡ Labelled

-- elements of an unlabelled Set
pub record AreRepeated (counts : Counts) (node element missing : ℕ) : Type 0 where
  pub over : IsOver counts node element missing
  pub kind : HasKind counts.checked node told.Set
  pub unlabelled : counts.checked.universe ≡ Unlabelled

-- so many components are missing of a list
abbrev pub AreMissing : Counts → Lists → ℕ → Type 0
AreMissing counts (Components node) missing = AreComponents counts node missing
AreMissing counts (Elements node element) missing = AreElements counts node element missing
AreMissing counts (Members node element) missing = AreMembers counts node element missing

-- the class reaches no PowerSet without labels
abbrev pub NoPowerSets : Counts → Type 0
NoPowerSets counts = (node : ℕ) → IsPowerSet counts node → ⊥

-- the node is a container, of this kind
pub record IsContainer (counts : Counts) (node : ℕ) (kind : NodeKind) : Type 0 where
  pub reached : IsReachedIn counts node
  pub is : HasKind counts.checked node kind
  pub one_of : (kind ≡ told.Sequence) ⊎ ((kind ≡ told.Set) ⊎ ((kind ≡ told.PowerSet) ⊎ (kind ≡ told.Cycle)))

-- a structure of the kind can have the components: a Cycle has one at least
abbrev pub CanHold : NodeKind → List Structure → Type 0
CanHold told.Epsilon ss = Unit {0}
CanHold told.Atom ss = Unit {0}
CanHold told.Rule ss = Unit {0}
CanHold told.Union ss = Unit {0}
CanHold told.Prod ss = Unit {0}
CanHold told.Sequence ss = Unit {0}
CanHold told.Set ss = Unit {0}
CanHold told.PowerSet ss = Unit {0}
CanHold told.Cycle ss = 0 < length ss

-- a structure of the kind with components has their atoms
abbrev pub HoldsAtoms : NodeKind → ℕ → Structure → Type 0
HoldsAtoms told.Epsilon n s = Unit {0}
HoldsAtoms told.Atom n s = Unit {0}
HoldsAtoms told.Rule n s = Unit {0}
HoldsAtoms told.Union n s = Unit {0}
HoldsAtoms told.Prod n s = size s ≡ n
HoldsAtoms told.Sequence n s = size s ≡ n
HoldsAtoms told.Set n s = size s ≡ n
HoldsAtoms told.PowerSet n s = size s ≡ n
HoldsAtoms told.Cycle n s = size s ≡ n
