-- The listings of the nodes of a checked grammar that are Sets and PowerSets.
use Rattle.std.specs.Prelude.{◌≡◌, ◌<◌, ◌-◌, ℕ, Bool, true, false, List, [], ◌∷◌, ◌++◌, map, length, slice_get, IsTrue, Option, Some, None, if◌then◌else◌}
use Rattle.std.specs.Option.{option_map_or}
use Rattle.std.specs.declared.cmp.Ordering.TheVariants.{Less}
use Rattle.std.specs.Ordering.{nat_cmp}
use Rattle.std.specs.Cmp.Lexicographic.{slice_cmp}
use Rattle.std.specs.List.{filter, flat_map, range_with_len}
use Rattle.spec_syntax.specs.declared.statement.Universe.TheVariants.{Unlabelled}
use Rattle.spec_syntax.specs.declared.expr.Card.{Card}
use Rattle.spec_syntax.specs.declared.expr.Kind.{Kind}
use Rattle.spec_syntax.specs.Nodes.{node_at, children_at, card_at}
use Rattle.struct_model.specs.Structure.{Structure, key}
use Rattle.struct_model.specs.Membership.{supply, is_supply}
use Rattle.struct_model.specs.Listing.{Before}
use Rattle.well_founded.specs.declared.node.NodeKind.TheVariants as told
use Rattle.well_founded.specs.NodeKinds.{container}
use Rattle.well_founded.specs.Checked.{Checked, IsChecked, grammar}
use Rattle.listing_laws.specs.Lister.{each_going_on, after_one, admits_some, list_empty}
use Rattle.listing_laws.specs.NodeListing.{HasKind, listing_on}
use Rattle.listing_laws.specs.SetListing.{set, power_set}
use Rattle.listing_laws.specs.SortedListing.{follows, by_following, sorted_on}

-- the node is the element of a container
pub record IsContained (checked : Checked) (element : ℕ) : Type 0 where
  pub node : ℕ
  pub kind : Kind
  pub is : HasKind checked node (container kind)
  pub child : slice_get (children_at checked.rules node) 0 ≡ Some element

-- the sorted lists of structures of the node that go on from the structure in front, with the labels of a supply
abbrev pub sorted_at : Checked → ℕ → Bool → Card → Option Structure → List ℕ → List (List Structure)
sorted_at checked element strict card from u = option_map_or (λ e. sorted_on (grammar checked) e strict card from u) (node_at checked.rules element) []

-- the structures of the node with the labels that may follow this one
abbrev pub following_at : Checked → ℕ → Bool → Structure → List ℕ → List Structure
following_at checked element strict from u = filter (follows strict (Some from)) (listing_on checked element u)

-- the sorted lists with n atoms without labels, size by size of the first one
abbrev pub sorted_by_sizes : Checked → ℕ → Bool → Card → Option Structure → ℕ → List (List Structure)
sorted_by_sizes checked element strict card from n =
    flat_map (λ d. each_going_on (filter (follows strict from) (listing_on checked element (supply Unlabelled d)))
    (λ s. sorted_at checked element strict (after_one card) (Some s) (supply Unlabelled (n - d)))) (range_with_len 1 n)

-- The listing of a Set and a PowerSet by the node of its element: the sorted lists of structures, part by part of the supply, and
-- without labels size by size. Behind a structure come none of those with a key before its own and all with a key after it, and
-- of those with the same key the structure itself, unless none repeats, and what is listed behind it. Where the labels that are
-- left can't be filled behind one structure, they can't be behind a later one.
pub record SortedNodesAreListed : Type 0 where
  pub sets : (checked : Checked) (node element : ℕ) (card : Card) (u : List ℕ) → IsChecked checked → IsTrue (is_supply checked.universe u)
      → HasKind checked node told.Set → slice_get (children_at checked.rules node) 0 ≡ Some element → card_at checked.rules node ≡ Some card
      → listing_on checked node u ≡ map set (sorted_at checked element false card None u)
  pub power_sets : (checked : Checked) (node element : ℕ) (card : Card) (u : List ℕ) → IsChecked checked → IsTrue (is_supply checked.universe u)
      → HasKind checked node told.PowerSet → slice_get (children_at checked.rules node) 0 ≡ Some element → card_at checked.rules node ≡ Some card
      → listing_on checked node u ≡ map power_set (sorted_at checked element true card None u)
  pub empty : (checked : Checked) (element : ℕ) (strict : Bool) (card : Card) (from : Option Structure) → IsContained checked element
      → sorted_at checked element strict card from [] ≡ list_empty card
  pub going_on : (checked : Checked) (element : ℕ) (strict : Bool) (card : Card) (from : Option Structure) (u : List ℕ) → IsContained checked element → 0 < length u
      → sorted_at checked element strict card from u
      ≡ (if admits_some card then by_following strict from (listing_on checked element) (λ s. sorted_at checked element strict (after_one card) (Some s)) u else [])
  pub size_by_size : (checked : Checked) (element : ℕ) (strict : Bool) (card : Card) (from : Option Structure) (n : ℕ) → IsContained checked element → 0 < n
      → sorted_at checked element strict card from (supply Unlabelled n) ≡ (if admits_some card then sorted_by_sizes checked element strict card from n else [])
  pub none_lesser : (checked : Checked) (element : ℕ) (strict : Bool) (from : Structure) (u : List ℕ) → slice_cmp nat_cmp u (key from) ≡ Less
      → following_at checked element strict from u ≡ []
  pub all_greater : (checked : Checked) (element : ℕ) (strict : Bool) (from : Structure) (u : List ℕ) → slice_cmp nat_cmp (key from) u ≡ Less
      → following_at checked element strict from u ≡ listing_on checked element u
  pub from_itself : (checked : Checked) (element : ℕ) (from : Structure) (u : List ℕ) (earlier later : List Structure) → IsChecked checked → IsContained checked element
      → IsTrue (is_supply checked.universe u) → listing_on checked element u ≡ earlier ++ from ∷ later → following_at checked element false from u ≡ from ∷ later
  pub behind_itself : (checked : Checked) (element : ℕ) (from : Structure) (u : List ℕ) (earlier later : List Structure) → IsChecked checked → IsContained checked element
      → IsTrue (is_supply checked.universe u) → listing_on checked element u ≡ earlier ++ from ∷ later → following_at checked element true from u ≡ later
  pub dead_ends : (checked : Checked) (element : ℕ) (strict : Bool) (card : Card) (s t : Structure) (u : List ℕ) → IsChecked checked → IsContained checked element
      → IsTrue (is_supply checked.universe u) → Before s t
      → sorted_at checked element strict card (Some s) u ≡ [] → sorted_at checked element strict card (Some t) u ≡ []
