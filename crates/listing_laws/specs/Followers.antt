-- Which components may follow a component of a Set or a PowerSet, and by which there is nothing.
use Rattle.std.specs.Prelude.{◌≡◌, ◌<◌, ◌-◌, ℕ, Bool, true, false, List, [], ◌∷◌, ◌++◌, IsTrue, Option, Some, if◌then◌else◌}
use Rattle.std.specs.declared.cmp.Ordering.TheVariants.{Less}
use Rattle.std.specs.Ordering.{nat_cmp}
use Rattle.std.specs.Cmp.Lexicographic.{slice_cmp}
use Rattle.std.specs.List.{filter, flat_map, range_with_len}
use Rattle.spec_syntax.specs.declared.statement.Universe.TheVariants.{Unlabelled}
use Rattle.spec_syntax.specs.declared.expr.Card.{Card}
use Rattle.spec_syntax.specs.declared.expr.Kind.{Kind}
use Rattle.spec_syntax.specs.Expression.{Expression, Many}
use Rattle.spec_syntax.specs.Rules.{all_nodes, is_spec}
use Rattle.spec_syntax.specs.Grammar.{Grammar}
use Rattle.struct_model.specs.Structure.{Structure, key}
use Rattle.struct_model.specs.Membership.{supply, is_supply}
use Rattle.struct_model.specs.Listing.{Before}
use Rattle.struct_model.specs.Bounded.{listing}
use Rattle.lists.specs.Enumeration.{IsIn}
use Rattle.well_founded.specs.WellFounded.{IsWellFounded}
use Rattle.listing_laws.specs.Lister.{each_going_on, after_one, admits_some}
use Rattle.listing_laws.specs.Laws.{IsListing}
use Rattle.listing_laws.specs.SortedListing.{follows, sorted_on}

-- the structures of the expression with the labels that may follow this one
abbrev pub following : Grammar → Expression → Bool → Structure → List ℕ → List Structure
following g e strict from u = filter (follows strict (Some from)) (listing g e u)

-- the sorted lists of structures of the expression with n atoms without labels, size by size of the first one
abbrev pub by_sizes : Grammar → Expression → Bool → Card → Option Structure → ℕ → List (List Structure)
by_sizes g e strict card from n =
    flat_map (λ d. each_going_on (filter (follows strict from) (listing g e (supply Unlabelled d)))
    (λ s. sorted_on g e strict (after_one card) (Some s) (supply Unlabelled (n - d)))) (range_with_len 1 n)

-- Behind a structure come none of those with a key before its own and all with a key after it. Of those with the same key there
-- come the structure itself and what is listed behind it, and, where none repeats, what is listed behind it alone. Where the
-- labels that are left can't be filled behind one structure, they can't be behind a later one. Without labels the sorted lists go
-- size by size of the first component.
pub record FollowersAreListed : Type 0 where
  pub none_lesser : (g : Grammar) (e : Expression) (strict : Bool) (from : Structure) (u : List ℕ) → slice_cmp nat_cmp u (key from) ≡ Less
      → following g e strict from u ≡ []
  pub all_greater : (g : Grammar) (e : Expression) (strict : Bool) (from : Structure) (u : List ℕ) → slice_cmp nat_cmp (key from) u ≡ Less
      → following g e strict from u ≡ listing g e u
  pub from_itself : (g : Grammar) (e : Expression) (from : Structure) (u : List ℕ) (earlier later : List Structure) → IsListing g e → IsTrue (is_supply g.universe u)
      → listing g e u ≡ earlier ++ from ∷ later → following g e false from u ≡ from ∷ later
  pub behind_itself : (g : Grammar) (e : Expression) (from : Structure) (u : List ℕ) (earlier later : List Structure) → IsListing g e → IsTrue (is_supply g.universe u)
      → listing g e u ≡ earlier ++ from ∷ later → following g e true from u ≡ later
  pub dead_ends : (g : Grammar) (kind : Kind) (e : Expression) (card other : Card) (strict : Bool) (s t : Structure) (u : List ℕ) → IsTrue (is_spec g.rules) → IsWellFounded g
      → IsIn (Many kind e card) (all_nodes g.rules) → IsTrue (is_supply g.universe u) → Before s t
      → sorted_on g e strict other (Some s) u ≡ [] → sorted_on g e strict other (Some t) u ≡ []
  pub size_by_size : (g : Grammar) (e : Expression) (strict : Bool) (card : Card) (from : Option Structure) (n : ℕ) → 0 < n
      → sorted_on g e strict card from (supply Unlabelled n) ≡ (if admits_some card then by_sizes g e strict card from n else [])
