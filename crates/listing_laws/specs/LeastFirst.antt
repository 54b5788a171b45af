-- Labelled Sets, PowerSets and Cycles, by the component with the least label.
use Rattle.std.specs.Prelude.{◌≡◌, ◌<◌, ℕ, zero, suc, List, [], ◌∷◌, length, map, IsTrue, if◌then◌else◌}
use Rattle.std.specs.List.{flat_map}
use Rattle.spec_syntax.specs.declared.statement.Universe.TheVariants.{Labelled}
use Rattle.spec_syntax.specs.declared.expr.Card.{Card}
use Rattle.spec_syntax.specs.declared.expr.Kind.{Kind}
use Rattle.spec_syntax.specs.declared.expr.Kind.TheVariants as kind
use Rattle.spec_syntax.specs.Expression.{Expression, Many}
use Rattle.spec_syntax.specs.Rules.{all_nodes, is_spec}
use Rattle.spec_syntax.specs.Grammar.{Grammar}
use Rattle.struct_model.specs.declared.tree.Form5.TheVariants as form
use Rattle.struct_model.specs.Structure.{Structure, Tup, parts_of}
use Rattle.struct_model.specs.Membership.{supply, is_supply}
use Rattle.struct_model.specs.Bounded.{listing, number}
use Rattle.lists.specs.Enumeration.{IsIn}
use Rattle.well_founded.specs.WellFounded.{IsWellFounded}
use Rattle.count_laws.specs.LabelledSets.{labelled_sets, labelled_lists, labelled_cycles}
use Rattle.splits.specs.Splits.{splits}
use Rattle.listing_laws.specs.Lister.{sequence, each_before, after_one, admits_some, list_empty, list_repeated}
use Rattle.listing_laws.specs.Recursion.{repeated_on}
use Rattle.listing_laws.specs.Relabelled.{relabelled}
use Rattle.listing_laws.specs.Numbers.{exactly}
use Rattle.listing_laws.specs.SetListing.{set, power_set}

-- the Cycle of these components
abbrev pub cycle : List Structure → Structure
cycle components = Tup form.Cycle (parts_of components)

-- the lists of components whose first one has the least label: split by split of the other labels, then by the first component,
-- then by the others. There is none where there is no label
abbrev pub by_least : (List ℕ → List Structure) → (List ℕ → List (List Structure)) → List ℕ → List (List Structure)
by_least first others [] = []
by_least first others (label ∷ labels) = flat_map (λ split. each_before (first (label ∷ split.part)) (others split.rest)) (splits labels)

-- the lists of components of a set, as many as the bound admits and at most n: where there is no label the empty list, and
-- otherwise the component with the least label comes first, and the others are a set
abbrev pub list_set : (List ℕ → List Structure) → ℕ → Card → List ℕ → List (List Structure)
list_set first n card [] = list_empty card
list_set first zero card (label ∷ labels) = []
list_set first (suc n) card (label ∷ labels) = if admits_some card then by_least first (list_set first n (after_one card)) (label ∷ labels) else []

-- those of a cycle: the component with the least label comes first, and the others are a list
abbrev pub list_cycle : (List ℕ → List Structure) → ℕ → Card → List ℕ → List (List Structure)
list_cycle first n card [] = []
list_cycle first zero card (label ∷ labels) = []
list_cycle first (suc n) card (label ∷ labels) = if admits_some card then by_least first (list_repeated first n (after_one card)) (label ∷ labels) else []

-- the lists of components of a set of structures of the expression with the bound, on the supply
abbrev pub sets_on : Grammar → Expression → Card → List ℕ → List (List Structure)
sets_on g e card u = list_set (listing g e) (length u) card u

-- those of a cycle
abbrev pub cycles_on : Grammar → Expression → Card → List ℕ → List (List Structure)
cycles_on g e card u = list_cycle (listing g e) (length u) card u

-- In a well founded grammar a Sequence with any bound over the element of a container of the rules is its lists of components.
-- Labelled Sets, PowerSets and Cycles are listed with the component first that has the least label: split by split of the other
-- labels, and then by the others, which are a set, or a list in a Cycle. On each supply they are those on the first labels of the
-- universe, with the labels of the supply in their places.
pub record LabelledContainersAreListed : Type 0 where
  pub sequences : (g : Grammar) (container : Kind) (e : Expression) (card other : Card) (u : List ℕ) → IsTrue (is_spec g.rules) → IsWellFounded g
      → IsIn (Many container e card) (all_nodes g.rules) → IsTrue (is_supply g.universe u)
      → listing g (Many kind.Sequence e other) u ≡ map sequence (repeated_on g e other u)
  pub sets : (g : Grammar) (container : Kind) (e : Expression) (card other : Card) (u : List ℕ) → IsTrue (is_spec g.rules) → IsWellFounded g → g.universe ≡ Labelled
      → IsIn (Many container e card) (all_nodes g.rules) → IsTrue (is_supply g.universe u)
      → listing g (Many kind.Set e other) u ≡ map set (sets_on g e other u)
  pub power_sets : (g : Grammar) (container : Kind) (e : Expression) (card other : Card) (u : List ℕ) → IsTrue (is_spec g.rules) → IsWellFounded g → g.universe ≡ Labelled
      → IsIn (Many container e card) (all_nodes g.rules) → IsTrue (is_supply g.universe u)
      → listing g (Many kind.PowerSet e other) u ≡ map power_set (sets_on g e other u)
  pub cycles : (g : Grammar) (container : Kind) (e : Expression) (card other : Card) (u : List ℕ) → IsTrue (is_spec g.rules) → IsWellFounded g → g.universe ≡ Labelled
      → IsIn (Many container e card) (all_nodes g.rules) → IsTrue (is_supply g.universe u)
      → listing g (Many kind.Cycle e other) u ≡ map cycle (cycles_on g e other u)
  pub empty_set : (g : Grammar) (e : Expression) (card : Card) → sets_on g e card [] ≡ list_empty card
  pub some_set : (g : Grammar) (e : Expression) (card : Card) (u : List ℕ) → 0 < length u
      → sets_on g e card u ≡ (if admits_some card then by_least (listing g e) (sets_on g e (after_one card)) u else [])
  pub empty_cycle : (g : Grammar) (e : Expression) (card : Card) → cycles_on g e card [] ≡ []
  pub some_cycle : (g : Grammar) (e : Expression) (card : Card) (u : List ℕ) → 0 < length u
      → cycles_on g e card u ≡ (if admits_some card then by_least (listing g e) (repeated_on g e (after_one card)) u else [])
  pub alike_sequences : (g : Grammar) (container : Kind) (e : Expression) (card other : Card) (u : List ℕ) → IsTrue (is_spec g.rules) → IsWellFounded g
      → IsIn (Many container e card) (all_nodes g.rules) → IsTrue (is_supply g.universe u)
      → repeated_on g e other u ≡ map (map (relabelled u)) (repeated_on g e other (supply g.universe (length u)))
  pub alike_sets : (g : Grammar) (container : Kind) (e : Expression) (card other : Card) (u : List ℕ) → IsTrue (is_spec g.rules) → IsWellFounded g → g.universe ≡ Labelled
      → IsIn (Many container e card) (all_nodes g.rules) → IsTrue (is_supply g.universe u)
      → sets_on g e other u ≡ map (map (relabelled u)) (sets_on g e other (supply g.universe (length u)))
  pub alike_cycles : (g : Grammar) (container : Kind) (e : Expression) (card other : Card) (u : List ℕ) → IsTrue (is_spec g.rules) → IsWellFounded g → g.universe ≡ Labelled
      → IsIn (Many container e card) (all_nodes g.rules) → IsTrue (is_supply g.universe u)
      → cycles_on g e other u ≡ map (map (relabelled u)) (cycles_on g e other (supply g.universe (length u)))

-- In a well founded grammar the labelled Sets of so many components are counted by the component with the first label, and so are
-- the PowerSets and the Cycles; the Sequences are the lists of the elements.
pub record LabelledContainersAreCounted : Type 0 where
  pub sequences : (g : Grammar) (container : Kind) (e : Expression) (card : Card) (c n : ℕ) → IsTrue (is_spec g.rules) → IsWellFounded g → g.universe ≡ Labelled
      → IsIn (Many container e card) (all_nodes g.rules) → number g (Many kind.Sequence e (exactly c)) n ≡ labelled_lists (number g e) c n
  pub sets : (g : Grammar) (container : Kind) (e : Expression) (card : Card) (c n : ℕ) → IsTrue (is_spec g.rules) → IsWellFounded g → g.universe ≡ Labelled
      → IsIn (Many container e card) (all_nodes g.rules) → number g (Many kind.Set e (exactly c)) n ≡ labelled_sets (number g e) c n
  pub power_sets : (g : Grammar) (container : Kind) (e : Expression) (card : Card) (c n : ℕ) → IsTrue (is_spec g.rules) → IsWellFounded g → g.universe ≡ Labelled
      → IsIn (Many container e card) (all_nodes g.rules) → number g (Many kind.PowerSet e (exactly c)) n ≡ labelled_sets (number g e) c n
  pub cycles : (g : Grammar) (container : Kind) (e : Expression) (card : Card) (c n : ℕ) → IsTrue (is_spec g.rules) → IsWellFounded g → g.universe ≡ Labelled
      → IsIn (Many container e card) (all_nodes g.rules) → number g (Many kind.Cycle e (exactly c)) n ≡ labelled_cycles (number g e) c n
