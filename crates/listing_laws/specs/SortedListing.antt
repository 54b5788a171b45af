-- What a Set and a PowerSet list on a supply: the sorted lists of components, by the first of them.
use Rattle.std.specs.Prelude.{◌≡◌, ◌<◌, ℕ, zero, suc, Bool, true, false, not, List, [], ◌∷◌, map, length, IsTrue, Option, Some, None, if◌then◌else◌}
use Rattle.std.specs.List.{filter, flat_map}
use Rattle.spec_syntax.specs.declared.expr.Card.{Card}
use Rattle.spec_syntax.specs.declared.expr.Kind.TheVariants as kind
use Rattle.spec_syntax.specs.Expression.{Expression, Many}
use Rattle.spec_syntax.specs.Rules.{all_nodes, is_spec}
use Rattle.spec_syntax.specs.Grammar.{Grammar}
use Rattle.struct_model.specs.Structure.{Structure}
use Rattle.struct_model.specs.Order.{is_before, is_after}
use Rattle.struct_model.specs.Membership.{supply, is_supply}
use Rattle.struct_model.specs.Bounded.{listing}
use Rattle.lists.specs.Enumeration.{IsIn}
use Rattle.well_founded.specs.WellFounded.{IsWellFounded}
use Rattle.splits.specs.Parts.{parts}
use Rattle.listing_laws.specs.Lister.{each_going_on, after_one, admits_some, list_empty}
use Rattle.listing_laws.specs.Relabelled.{relabelled}
use Rattle.listing_laws.specs.SetListing.{set, power_set}

-- may the second structure be next to the first one: where none repeats it stands after it, and otherwise not before it
abbrev pub may_follow : Bool → Structure → Structure → Bool
may_follow true s t = is_before s t
may_follow false s t = not (is_after s t)

-- may the structure be next to the one in front of it, if there is one
abbrev pub follows : Bool → Option Structure → Structure → Bool
follows strict None s = true
follows strict (Some first) s = may_follow strict first s

-- the lists of components part by part of the supply, each with a label or more, by those of the first components that follow
-- the one in front, and then by the others, which go on from the first one
abbrev pub by_following : Bool → Option Structure → (List ℕ → List Structure) → (Structure → List ℕ → List (List Structure)) → List ℕ → List (List Structure)
by_following strict from first others u =
    flat_map (λ split. each_going_on (filter (follows strict from) (first split.part)) (λ s. others s split.rest)) (parts 1 (length u) u)

-- the sorted lists of components that go on from the structure in front, as many as the bound admits and at most n
abbrev pub list_sorted : Bool → (List ℕ → List Structure) → ℕ → Card → Option Structure → List ℕ → List (List Structure)
list_sorted strict first n card from [] = list_empty card
list_sorted strict first zero card from (label ∷ labels) = []
list_sorted strict first (suc n) card from (label ∷ labels) =
    if admits_some card then by_following strict from first (λ s. list_sorted strict first n (after_one card) (Some s)) (label ∷ labels) else []

-- the sorted lists of structures of the expression that go on from the structure in front, with the labels of the supply
abbrev pub sorted_on : Grammar → Expression → Bool → Card → Option Structure → List ℕ → List (List Structure)
sorted_on g e strict card from u = list_sorted strict (listing g e) (length u) card from u

-- In a well founded grammar the Sets are the lists of components in which none stands before the one in front of it, and the
-- PowerSets those in which each stands after it. Such lists go part by part of the supply, by the first components that may
-- follow, and then by the lists that go on from it. On each supply they are those on the first labels of the universe, with the
-- labels of the supply in their places.
pub record SortedListingsRecur : Type 0 where
  pub sets : (g : Grammar) (e : Expression) (card other : Card) (u : List ℕ) → IsTrue (is_spec g.rules) → IsWellFounded g
      → IsIn (Many kind.Set e card) (all_nodes g.rules) → IsTrue (is_supply g.universe u)
      → listing g (Many kind.Set e other) u ≡ map set (sorted_on g e false other None u)
  pub power_sets : (g : Grammar) (e : Expression) (card other : Card) (u : List ℕ) → IsTrue (is_spec g.rules) → IsWellFounded g
      → IsIn (Many kind.PowerSet e card) (all_nodes g.rules) → IsTrue (is_supply g.universe u)
      → listing g (Many kind.PowerSet e other) u ≡ map power_set (sorted_on g e true other None u)
  pub empty : (g : Grammar) (e : Expression) (strict : Bool) (card : Card) (from : Option Structure) → sorted_on g e strict card from [] ≡ list_empty card
  pub going_on : (g : Grammar) (e : Expression) (strict : Bool) (card : Card) (from : Option Structure) (u : List ℕ) → 0 < length u
      → sorted_on g e strict card from u
      ≡ (if admits_some card then by_following strict from (listing g e) (λ s. sorted_on g e strict (after_one card) (Some s)) u else [])
  pub alike_sets : (g : Grammar) (e : Expression) (card other : Card) (u : List ℕ) → IsTrue (is_spec g.rules) → IsWellFounded g
      → IsIn (Many kind.Set e card) (all_nodes g.rules) → IsTrue (is_supply g.universe u)
      → sorted_on g e false other None u ≡ map (map (relabelled u)) (sorted_on g e false other None (supply g.universe (length u)))
  pub alike_power_sets : (g : Grammar) (e : Expression) (card other : Card) (u : List ℕ) → IsTrue (is_spec g.rules) → IsWellFounded g
      → IsIn (Many kind.PowerSet e card) (all_nodes g.rules) → IsTrue (is_supply g.universe u)
      → sorted_on g e true other None u ≡ map (map (relabelled u)) (sorted_on g e true other None (supply g.universe (length u)))
