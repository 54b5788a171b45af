-- What stands behind the first components of a list.
use Rattle.std.specs.Prelude.{◌≡◌, ◌⊎◌, ℕ, zero, suc, ◌+◌, ◌-◌, ◌≤◌, ◌<◌, Bool, true, false, ◌&&◌, nat_lt, nat_le, List, length, map, Option, Some, None, slice_get}
use Rattle.std.specs.Option.{option_map}
use Rattle.std.specs.List.{filter, flat_map, range_with_len}
use Rattle.spec_syntax.specs.declared.expr.Card.{Card}
use Rattle.spec_syntax.specs.declared.statement.Universe.TheVariants.{Labelled}
use Rattle.spec_syntax.specs.Card.{is_within}
use Rattle.spec_syntax.specs.Nodes.{children_at, card_at}
use Rattle.struct_model.specs.Structure.{Structure}
use Rattle.struct_model.specs.Membership.{supply}
use Rattle.struct_model.specs.declared.supplies.Supply.{Supply}
use Rattle.struct_model.specs.SupplyView.{supply_labels, supply_universe}
use Rattle.well_founded.specs.declared.node.NodeKind.TheVariants as told
use Rattle.well_founded.specs.Checked.{Checked}
use Rattle.splits.specs.Splits.{Split, splits}
use Rattle.splits.specs.Parts.{has_admitted}
use Rattle.listing_laws.specs.Lister.{each_before, after_one}
use Rattle.listing_laws.specs.NodeListing.{HasKind, listing_on, later_on, lists_on, number_of_node}
use Rattle.listing_laws.specs.LeastNodes.{set_lists_on, cycle_lists_on}
use Rattle.size_counts.specs.CountedView.{Counts, IsReachedIn}
use Rattle.struct_walk.specs.declared.tail.Tail.{Tail}
use Rattle.struct_walk.specs.declared.tail.Tail.TheVariants.{Components, Elements, SetElements, CycleElements}
use Rattle.struct_walk.specs.declared.tail.Cut.{Cut}
use Rattle.struct_walk.specs.SplitWalkView.{least_splits}

-- the lists of components with the labels of a supply
abbrev pub tail_on : Checked → Tail → List ℕ → List (List Structure)
tail_on checked (Components node place) u = later_on checked node place u
tail_on checked (Elements node element card) u = lists_on checked element card u
tail_on checked (SetElements node element card) u = set_lists_on checked element card u
tail_on checked (CycleElements node element card) u = cycle_lists_on checked element card u

-- how many there are with n atoms
abbrev pub tail_number : Checked → Tail → ℕ → ℕ
tail_number checked tail n = length (tail_on checked tail (supply checked.universe n))

-- the place is one of the Prod's components, or behind the last
pub record AreComponents (counts : Counts) (node place : ℕ) : Type 0 where
  pub reached : IsReachedIn counts node
  pub prod : HasKind counts.checked node told.Prod
  pub within : place ≤ length (children_at counts.checked.rules node)

-- the element is that of the Sequence or the Cycle, and the bound admits no greater number of components than its own
pub record AreElements (counts : Counts) (node element : ℕ) (card : Card) : Type 0 where
  pub reached : IsReachedIn counts node
  pub kind : HasKind counts.checked node told.Sequence ⊎ HasKind counts.checked node told.Cycle
  pub child : slice_get (children_at counts.checked.rules node) 0 ≡ Some element
  pub below : (own : Card) (c : ℕ) → card_at counts.checked.rules node ≡ Some own → is_within card.high c ≡ true → is_within own.high c ≡ true

-- the same of a Set or a PowerSet with labels
pub record AreSetElements (counts : Counts) (node element : ℕ) (card : Card) : Type 0 where
  pub labelled : counts.checked.universe ≡ Labelled
  pub reached : IsReachedIn counts node
  pub kind : HasKind counts.checked node told.Set ⊎ HasKind counts.checked node told.PowerSet
  pub child : slice_get (children_at counts.checked.rules node) 0 ≡ Some element
  pub below : (own : Card) (c : ℕ) → card_at counts.checked.rules node ≡ Some own → is_within card.high c ≡ true → is_within own.high c ≡ true

-- the element and the bound are those of the Cycle
pub record AreCycleElements (counts : Counts) (node element : ℕ) (card : Card) : Type 0 where
  pub labelled : counts.checked.universe ≡ Labelled
  pub reached : IsReachedIn counts node
  pub cycle : HasKind counts.checked node told.Cycle
  pub child : slice_get (children_at counts.checked.rules node) 0 ≡ Some element
  pub own : card_at counts.checked.rules node ≡ Some card

-- there is what the tail tells of
abbrev pub IsTail : Counts → Tail → Type 0
IsTail counts (Components node place) = AreComponents counts node place
IsTail counts (Elements node element card) = AreElements counts node element card
IsTail counts (SetElements node element card) = AreSetElements counts node element card
IsTail counts (CycleElements node element card) = AreCycleElements counts node element card

-- the first component, where lists with n atoms have one
abbrev pub cut_of : Checked → Tail → ℕ → Option Cut
cut_of checked (Components node place) n =
    option_map (λ child. record { first = child; behind = Components node (place + 1) }) (slice_get (children_at checked.rules node) place)
cut_of checked (Elements node element card) zero = None
cut_of checked (Elements node element card) (suc n) = Some (record { first = element; behind = Elements node element (after_one card) })
cut_of checked (SetElements node element card) zero = None
cut_of checked (SetElements node element card) (suc n) = Some (record { first = element; behind = SetElements node element (after_one card) })
cut_of checked (CycleElements node element card) zero = None
cut_of checked (CycleElements node element card) (suc n) = Some (record { first = element; behind = Elements node element (after_one card) })

-- does no component stand from the place on
abbrev pub is_end : Checked → Tail → Bool
is_end checked (Components node place) = nat_le (length (children_at checked.rules node)) place
is_end checked (Elements node element card) = false
is_end checked (SetElements node element card) = false
is_end checked (CycleElements node element card) = false

-- the splits of a supply on which lists have their first component: all, and of Sets and Cycles those whose part has the least label
abbrev pub first_splits : Tail → List ℕ → List Split
first_splits (Components node place) u = splits u
first_splits (Elements node element card) u = splits u
first_splits (SetElements node element card) u = least_splits u
first_splits (CycleElements node element card) u = least_splits u

-- where these are those with the least label there is one
abbrev pub HasFirst : Tail → Supply → Type 0
HasFirst (Components node place) supply = Unit {0}
HasFirst (Elements node element card) supply = Unit {0}
HasFirst (SetElements node element card) supply = (supply_universe supply ≡ Labelled) × (0 < length (supply_labels supply))
HasFirst (CycleElements node element card) supply = (supply_universe supply ≡ Labelled) × (0 < length (supply_labels supply))

-- those of them whose part has an admitted length
abbrev pub first_parts : Tail → List Bool → List ℕ → List Split
first_parts tail lengths u = filter (has_admitted lengths) (first_splits tail u)

-- each first component on the part before each list of the others on the rest, split by split
abbrev pub on_splits : Checked → Cut → List Split → List (List Structure)
on_splits checked cut ss = flat_map (λ split. each_before (listing_on checked cut.first split.part) (tail_on checked cut.behind split.rest)) ss

-- of n atoms, can the first component have so many
abbrev pub is_open : Checked → Cut → ℕ → ℕ → Bool
is_open checked cut n taken = nat_lt 0 (number_of_node checked cut.first taken) && nat_lt 0 (tail_number checked cut.behind (n - taken))

-- for each number from 0 to n whether the first component can have so many atoms
abbrev pub open_lengths : Checked → Cut → ℕ → List Bool
open_lengths checked cut n = map (is_open checked cut n) (range_with_len 0 (n + 1))
