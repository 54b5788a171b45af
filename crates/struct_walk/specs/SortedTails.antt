-- The sorted components of a Set or a PowerSet without labels.
use Rattle.std.specs.Prelude.{◌≡◌, ℕ, ◌+◌, ◌-◌, ◌≤◌, Bool, true, false, List, ◌++◌, length, Option, Some, slice_get, IfSome}
use Rattle.std.specs.Option.{option_map_or}
use Rattle.std.specs.List.{flat_map, range_with_len}
use Rattle.lists.specs.Enumeration.{IsIn}
use Rattle.spec_syntax.specs.declared.expr.Card.{Card}
use Rattle.spec_syntax.specs.declared.statement.Universe.TheVariants.{Unlabelled}
use Rattle.spec_syntax.specs.Card.{is_within}
use Rattle.spec_syntax.specs.Nodes.{children_at, card_at}
use Rattle.struct_model.specs.Structure.{Structure, size}
use Rattle.struct_model.specs.declared.tree.Form5.{Form5}
use Rattle.struct_model.specs.declared.tree.Form5.TheVariants as form
use Rattle.struct_model.specs.Membership.{supply}
use Rattle.well_founded.specs.declared.node.NodeKind.{NodeKind}
use Rattle.well_founded.specs.declared.node.NodeKind.TheVariants as told
use Rattle.well_founded.specs.Checked.{Checked}
use Rattle.listing_laws.specs.Lister.{each_going_on, after_one}
use Rattle.listing_laws.specs.NodeListing.{HasKind, listing_on}
use Rattle.listing_laws.specs.SortedNodes.{sorted_at}
use Rattle.size_counts.specs.CountedView.{Counts, IsReachedIn}
use Rattle.struct_walk.specs.declared.sorted_tail.SortedTail.{SortedTail}
use Rattle.struct_walk.specs.declared.sorted_tail.SortedLevel.{SortedLevel}

-- a PowerSet has no component twice
abbrev pub sorted_kind : Bool → NodeKind
sorted_kind true = told.PowerSet
sorted_kind false = told.Set

abbrev pub sorted_form : Bool → Form5
sorted_form true = form.PowerSet
sorted_form false = form.Set

-- there is what the tail tells of: the element is that of the Set or the PowerSet, the universe has no labels, and the bound admits
-- no greater number of components than the node's own
pub record IsSortedTail (counts : Counts) (tail : SortedTail) : Type 0 where
  pub reached : IsReachedIn counts tail.node
  pub kind : HasKind counts.checked tail.node (sorted_kind tail.strict)
  pub child : slice_get (children_at counts.checked.rules tail.node) 0 ≡ Some tail.element
  pub below : (own : Card) (c : ℕ) → card_at counts.checked.rules tail.node ≡ Some own → is_within tail.card.high c ≡ true → is_within own.high c ≡ true
  pub universe : counts.checked.universe ≡ Unlabelled

-- what stands behind the first of the components
abbrev pub behind_one : SortedTail → SortedTail
behind_one tail = record { node = tail.node; element = tail.element; strict = tail.strict; card = after_one tail.card }

-- the component behind which those that come are put
abbrev pub in_front : List Structure → Option Structure
in_front components = slice_get components (length components - 1)

-- how many atoms it has, if there is one
abbrev pub size_in_front : List Structure → ℕ
size_in_front components = option_map_or size (in_front components) 0

-- it is one of the structures of the node, if there is one
abbrev pub IsFrontOf : Checked → ℕ → List Structure → Type 0
IsFrontOf checked element components = IfSome (in_front components) (λ s. IsIn s (listing_on checked element (supply Unlabelled (size s))))

-- the sorted lists with n atoms that go on from the component in front, if there is one
abbrev pub sorted_from : Checked → SortedTail → Option Structure → ℕ → List (List Structure)
sorted_from checked tail from n = sorted_at checked tail.element tail.strict tail.card from (supply Unlabelled n)

-- each of the components with the sorted lists with n atoms that go on from it
abbrev pub going_on_from : Checked → SortedTail → List Structure → ℕ → List (List Structure)
going_on_from checked tail firsts n = each_going_on firsts (λ s. sorted_from checked tail (Some s) n)

-- the sorted lists with n atoms whose first component has more than d, size by size; this stands behind it
abbrev pub with_greater : Checked → SortedTail → ℕ → ℕ → List (List Structure)
with_greater checked behind d n =
    flat_map (λ size. going_on_from checked behind (listing_on checked behind.element (supply Unlabelled size)) (n - size)) (range_with_len (d + 1) (n - d))

-- the sorted lists with one of these first components, which have the size of the level, and then those with a greater one
abbrev pub at_sorted_level : Checked → SortedLevel → List Structure → List (List Structure)
at_sorted_level checked level firsts =
    going_on_from checked level.behind firsts level.left ++ with_greater checked level.behind level.taken (level.taken + level.left)
