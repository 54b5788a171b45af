-- What contracts see of the numbers of a class.
use Rattle.std.specs.Prelude.{◌≡◌, ◌≤◌, ℕ, Some, slice_get, IsSome}
use Rattle.std.specs.Option.{option_map_or}
use Rattle.spec_syntax.specs.declared.expr.Kind.TheVariants as kind
use Rattle.spec_syntax.specs.Expression.{Expression, Epsilon, Atom, Name, Union, Prod, Many}
use Rattle.spec_syntax.specs.Nodes.{node_at, arguments_at}
use Rattle.spec_syntax.specs.Grammar.{Grammar}
use Rattle.struct_model.specs.Bounded.{number}
use Rattle.well_founded.specs.Checked.{Checked, IsChecked, grammar}
use Rattle.listing_laws.specs.Numbers.{exactly}
use Rattle.listing_laws.specs.ContainersRecur.{of_components}
use Rattle.size_counts.specs.declared.place.CountFault.{CountFault}
use Rattle.size_counts.specs.declared.place.CountFault.TheVariants.{TooLarge, Memory}
use Rattle.size_counts.specs.Reached.{IsReached}
use Rattle.size_counts.specs.Numbers.{NumbersSay, suffix_number, list_number}

-- the checked grammar, and the greatest size
pub record Counts : Type 0 where
  pub checked : Checked
  pub size : ℕ

-- what holds of the numbers of each class: the grammar passed the check, it has a class symbol, and the size is at most 1000
pub record IsCounted (counts : Counts) : Type 0 where
  pub passed : IsChecked counts.checked
  pub started : IsSome counts.checked.start
  pub small : counts.size ≤ 1000

-- the node is reached from the class
pub record IsReachedIn (counts : Counts) (node : ℕ) : Type 0 where
  pub sym : ℕ
  pub start : counts.checked.start ≡ Some sym
  pub reached : IsReached counts.checked.rules sym node

-- the number of structures of the node with m atoms
abbrev pub number_of : Counts → ℕ → ℕ → ℕ
number_of counts node m = option_map_or (λ e. number (grammar counts.checked) e m) (node_at counts.checked.rules node) 0

-- of the Prod, the number of lists of structures of its arguments from number i on, with m atoms
abbrev pub suffix_of : Counts → ℕ → ℕ → ℕ → ℕ
suffix_of counts node i m = suffix_number (grammar counts.checked) (arguments_at counts.checked.rules node) i m

-- of the Sequence or the Cycle, the number of lists of c components with m atoms
abbrev pub lists_of : Counts → ℕ → ℕ → ℕ → ℕ
lists_of counts node c m = option_map_or (λ element. list_number (grammar counts.checked) element c m) (slice_get (arguments_at counts.checked.rules node) 0) 0

-- of the Cycle, the number of those of exactly c components with m atoms
abbrev pub cycles_of : Counts → ℕ → ℕ → ℕ → ℕ
cycles_of counts node c m = option_map_or (λ element. of_components (grammar counts.checked) kind.Cycle element c m) (slice_get (arguments_at counts.checked.rules node) 0) 0

-- a container with the bound that admits c components alone, and what is none as it is
abbrev pub with_exactly : ℕ → Expression → Expression
with_exactly c Epsilon = Epsilon
with_exactly c Atom = Atom
with_exactly c (Name name) = Name name
with_exactly c (Union arguments) = Union arguments
with_exactly c (Prod arguments) = Prod arguments
with_exactly c (Many kind element card) = Many kind element (exactly c)

-- of the Set or the PowerSet, the number of those of exactly c components with m atoms
abbrev pub sets_of : Counts → ℕ → ℕ → ℕ → ℕ
sets_of counts node c m = option_map_or (λ e. number (grammar counts.checked) (with_exactly c e) m) (node_at counts.checked.rules node) 0

-- why there are no numbers
abbrev pub FaultSays : Grammar → ℕ → ℕ → CountFault → Type 0
FaultSays g sym n (TooLarge place) = NumbersSay g sym n (Some place)
FaultSays g sym n Memory = Unit {0}
