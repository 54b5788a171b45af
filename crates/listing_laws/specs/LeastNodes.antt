-- Labelled Sets, PowerSets and Cycles among the nodes of a checked grammar.
use Rattle.std.specs.Prelude.{◌≡◌, ◌<◌, ℕ, suc, ◌*◌, List, [], Some, map, length, slice_get, IsTrue, if◌then◌else◌}
use Rattle.std.specs.Option.{option_map_or}
use Rattle.spec_syntax.specs.declared.statement.Universe.TheVariants.{Labelled}
use Rattle.spec_syntax.specs.declared.expr.Card.{Card}
use Rattle.spec_syntax.specs.Nodes.{node_at, children_at, card_at}
use Rattle.struct_model.specs.Structure.{Structure}
use Rattle.struct_model.specs.Membership.{supply, is_supply}
use Rattle.well_founded.specs.declared.node.NodeKind.TheVariants as told
use Rattle.well_founded.specs.Checked.{Checked, IsChecked, grammar}
use Rattle.count_laws.specs.Convolution.{shifted}
use Rattle.count_laws.specs.LabelledSets.{labelled_sets, labelled_lists, labelled_cycles}
use Rattle.listing_laws.specs.Lister.{by_parts, after_one, admits_some, list_empty}
use Rattle.listing_laws.specs.Relabelled.{relabelled}
use Rattle.listing_laws.specs.Numbers.{joined, exactly, admitted}
use Rattle.listing_laws.specs.NodeListing.{HasKind, listing_on, lists_on, number_of_node, number_of_lists}
use Rattle.listing_laws.specs.SetListing.{set, power_set}
use Rattle.listing_laws.specs.SortedNodes.{IsContained}
use Rattle.listing_laws.specs.LeastFirst.{cycle, by_least, sets_on, cycles_on}

-- the lists of components of a set of the node with the bound, with the labels of a supply
abbrev pub set_lists_on : Checked → ℕ → Card → List ℕ → List (List Structure)
set_lists_on checked element card u = option_map_or (λ e. sets_on (grammar checked) e card u) (node_at checked.rules element) []

-- those of a cycle
abbrev pub cycle_lists_on : Checked → ℕ → Card → List ℕ → List (List Structure)
cycle_lists_on checked element card u = option_map_or (λ e. cycles_on (grammar checked) e card u) (node_at checked.rules element) []

-- the number of sets of c components of the node, with n atoms in all
abbrev pub number_of_sets : Checked → ℕ → ℕ → ℕ → ℕ
number_of_sets checked element c n = length (set_lists_on checked element (exactly c) (supply checked.universe n))

-- the number of cycles
abbrev pub number_of_cycles : Checked → ℕ → ℕ → ℕ → ℕ
number_of_cycles checked element c n = length (cycle_lists_on checked element (exactly c) (supply checked.universe n))

-- The listing of a labelled Set, PowerSet or Cycle by that of its element: the component with the least label first, split by split
-- of the other labels, and then the others, a set, or a list in a Cycle. The lists of an element of whatever container go part by
-- part, as those of a Sequence's do. On each supply they are those on the first labels, with the labels of the supply in their places.
pub record LabelledNodesAreListed : Type 0 where
  pub set_node : (checked : Checked) (node element : ℕ) (card : Card) (u : List ℕ) → IsChecked checked → checked.universe ≡ Labelled → IsTrue (is_supply checked.universe u)
      → HasKind checked node told.Set → slice_get (children_at checked.rules node) 0 ≡ Some element → card_at checked.rules node ≡ Some card
      → listing_on checked node u ≡ map set (set_lists_on checked element card u)
  pub power_set_node : (checked : Checked) (node element : ℕ) (card : Card) (u : List ℕ) → IsChecked checked → checked.universe ≡ Labelled → IsTrue (is_supply checked.universe u)
      → HasKind checked node told.PowerSet → slice_get (children_at checked.rules node) 0 ≡ Some element → card_at checked.rules node ≡ Some card
      → listing_on checked node u ≡ map power_set (set_lists_on checked element card u)
  pub cycle_node : (checked : Checked) (node element : ℕ) (card : Card) (u : List ℕ) → IsChecked checked → checked.universe ≡ Labelled → IsTrue (is_supply checked.universe u)
      → HasKind checked node told.Cycle → slice_get (children_at checked.rules node) 0 ≡ Some element → card_at checked.rules node ≡ Some card
      → listing_on checked node u ≡ map cycle (cycle_lists_on checked element card u)
  pub no_set : (checked : Checked) (element : ℕ) (card : Card) → IsContained checked element → set_lists_on checked element card [] ≡ list_empty card
  pub sets : (checked : Checked) (element : ℕ) (card : Card) (u : List ℕ) → IsContained checked element → 0 < length u
      → set_lists_on checked element card u ≡ (if admits_some card then by_least (listing_on checked element) (set_lists_on checked element (after_one card)) u else [])
  pub no_cycle : (checked : Checked) (element : ℕ) (card : Card) → IsContained checked element → cycle_lists_on checked element card [] ≡ []
  pub cycles : (checked : Checked) (element : ℕ) (card : Card) (u : List ℕ) → IsContained checked element → 0 < length u
      → cycle_lists_on checked element card u ≡ (if admits_some card then by_least (listing_on checked element) (lists_on checked element (after_one card)) u else [])
  pub no_list : (checked : Checked) (element : ℕ) (card : Card) → IsContained checked element → lists_on checked element card [] ≡ list_empty card
  pub lists : (checked : Checked) (element : ℕ) (card : Card) (u : List ℕ) → IsContained checked element → 0 < length u
      → lists_on checked element card u ≡ (if admits_some card then by_parts 1 (length u) (listing_on checked element) (lists_on checked element (after_one card)) u else [])
  pub alike_sets : (checked : Checked) (element : ℕ) (card : Card) (u : List ℕ) → IsChecked checked → checked.universe ≡ Labelled → IsTrue (is_supply checked.universe u)
      → IsContained checked element → set_lists_on checked element card u ≡ map (map (relabelled u)) (set_lists_on checked element card (supply checked.universe (length u)))
  pub alike_cycles : (checked : Checked) (element : ℕ) (card : Card) (u : List ℕ) → IsChecked checked → checked.universe ≡ Labelled → IsTrue (is_supply checked.universe u)
      → IsContained checked element → cycle_lists_on checked element card u ≡ map (map (relabelled u)) (cycle_lists_on checked element card (supply checked.universe (length u)))
  pub alike_lists : (checked : Checked) (element : ℕ) (card : Card) (u : List ℕ) → IsChecked checked → IsTrue (is_supply checked.universe u)
      → IsContained checked element → lists_on checked element card u ≡ map (map (relabelled u)) (lists_on checked element card (supply checked.universe (length u)))

-- The numbers of labelled Sets, PowerSets and Cycles by those of their elements. A set of one component more is one with the first
-- label, joined with a set on what it leaves, and a cycle the same with a list. It is met from each of its components, so the sets
-- times the number of components are the pairs of a component and a set of the others, and the cycles times it the lists. None has
-- more components than atoms.
pub record LabelledNodesAreCounted : Type 0 where
  pub set_node : (checked : Checked) (node element : ℕ) (card : Card) (n : ℕ) → IsChecked checked → checked.universe ≡ Labelled
      → HasKind checked node told.Set → slice_get (children_at checked.rules node) 0 ≡ Some element → card_at checked.rules node ≡ Some card
      → number_of_node checked node n ≡ admitted card (λ c. number_of_sets checked element c n) n
  pub power_set_node : (checked : Checked) (node element : ℕ) (card : Card) (n : ℕ) → IsChecked checked → checked.universe ≡ Labelled
      → HasKind checked node told.PowerSet → slice_get (children_at checked.rules node) 0 ≡ Some element → card_at checked.rules node ≡ Some card
      → number_of_node checked node n ≡ admitted card (λ c. number_of_sets checked element c n) n
  pub cycle_node : (checked : Checked) (node element : ℕ) (card : Card) (n : ℕ) → IsChecked checked → checked.universe ≡ Labelled
      → HasKind checked node told.Cycle → slice_get (children_at checked.rules node) 0 ≡ Some element → card_at checked.rules node ≡ Some card
      → number_of_node checked node n ≡ admitted card (λ c. number_of_cycles checked element c n) n
  pub sets : (checked : Checked) (element c n : ℕ) → IsChecked checked → checked.universe ≡ Labelled → IsContained checked element
      → number_of_sets checked element c n ≡ labelled_sets (number_of_node checked element) c n
  pub cycles : (checked : Checked) (element c n : ℕ) → IsChecked checked → checked.universe ≡ Labelled → IsContained checked element
      → number_of_cycles checked element c n ≡ labelled_cycles (number_of_node checked element) c n
  pub lists : (checked : Checked) (element c n : ℕ) → IsChecked checked → checked.universe ≡ Labelled → IsContained checked element
      → number_of_lists checked element c n ≡ labelled_lists (number_of_node checked element) c n
  pub sets_by_first : (checked : Checked) (element c n : ℕ) → IsChecked checked → checked.universe ≡ Labelled → IsContained checked element
      → number_of_sets checked element (suc c) (suc n) ≡ joined checked.universe (shifted (number_of_node checked element)) (number_of_sets checked element c) n
  pub cycles_by_first : (checked : Checked) (element c n : ℕ) → IsChecked checked → checked.universe ≡ Labelled → IsContained checked element
      → number_of_cycles checked element (suc c) (suc n) ≡ joined checked.universe (shifted (number_of_node checked element)) (number_of_lists checked element c) n
  pub lists_by_first : (checked : Checked) (element c n : ℕ) → IsChecked checked → checked.universe ≡ Labelled → IsContained checked element
      → number_of_lists checked element (suc c) n ≡ joined checked.universe (number_of_node checked element) (number_of_lists checked element c) n
  pub sets_met : (checked : Checked) (element c n : ℕ) → IsChecked checked → checked.universe ≡ Labelled → IsContained checked element
      → suc c * number_of_sets checked element (suc c) n ≡ joined checked.universe (number_of_node checked element) (number_of_sets checked element c) n
  pub cycles_met : (checked : Checked) (element c n : ℕ) → IsChecked checked → checked.universe ≡ Labelled → IsContained checked element
      → suc c * number_of_cycles checked element (suc c) n ≡ number_of_lists checked element (suc c) n
  pub few_sets : (checked : Checked) (element c n : ℕ) → IsChecked checked → checked.universe ≡ Labelled → IsContained checked element
      → n < c → number_of_sets checked element c n ≡ 0
  pub few_cycles : (checked : Checked) (element c n : ℕ) → IsChecked checked → checked.universe ≡ Labelled → IsContained checked element
      → n < c → number_of_cycles checked element c n ≡ 0
  pub few_lists : (checked : Checked) (element c n : ℕ) → IsChecked checked → checked.universe ≡ Labelled → IsContained checked element
      → n < c → number_of_lists checked element c n ≡ 0
  pub one_set : (checked : Checked) (element n : ℕ) → IsChecked checked → checked.universe ≡ Labelled → IsContained checked element
      → number_of_sets checked element 1 n ≡ number_of_node checked element n
  pub one_cycle : (checked : Checked) (element n : ℕ) → IsChecked checked → checked.universe ≡ Labelled → IsContained checked element
      → number_of_cycles checked element 1 n ≡ number_of_node checked element n
  pub one_list : (checked : Checked) (element n : ℕ) → IsChecked checked → checked.universe ≡ Labelled → IsContained checked element
      → number_of_lists checked element 1 n ≡ number_of_node checked element n
  pub element : (checked : Checked) (element : ℕ) → IsChecked checked → IsContained checked element → number_of_node checked element 0 ≡ 0
