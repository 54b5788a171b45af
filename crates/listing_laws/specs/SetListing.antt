-- The listings of Sets and PowerSets without labels.
use Rattle.std.specs.Prelude.{◌≡◌, ℕ, ◌≤◌, List, map, replicate, IsTrue}
use Rattle.std.specs.List.{flat_map, range_with_len}
use Rattle.spec_syntax.specs.declared.statement.Universe.TheVariants.{Unlabelled}
use Rattle.spec_syntax.specs.declared.expr.Card.{Card}
use Rattle.spec_syntax.specs.declared.expr.Kind.{Kind}
use Rattle.spec_syntax.specs.declared.expr.Kind.TheVariants as kind
use Rattle.spec_syntax.specs.Expression.{Expression, Many}
use Rattle.spec_syntax.specs.Rules.{all_nodes, is_spec}
use Rattle.spec_syntax.specs.Grammar.{Grammar}
use Rattle.struct_model.specs.declared.tree.Form5.TheVariants as form
use Rattle.struct_model.specs.Structure.{Structure, Tup, parts_of, size}
use Rattle.struct_model.specs.Membership.{supply}
use Rattle.struct_model.specs.Listing.{Before, IsOne}
use Rattle.struct_model.specs.Bounded.{listing, number}
use Rattle.lists.specs.Enumeration.{IsIn, Enumerated}
use Rattle.well_founded.specs.WellFounded.{IsWellFounded}
use Rattle.count_laws.specs.Multisets.{multisets, subsets}
use Rattle.listing_laws.specs.Numbers.{exactly}

-- the Set of these components
abbrev pub set : List Structure → Structure
set components = Tup form.Set (parts_of components)

-- the PowerSet of these components
abbrev pub power_set : List Structure → Structure
power_set components = Tup form.PowerSet (parts_of components)

-- the structures of the expression with 1, 2 and up to n atoms without labels
abbrev pub elements : Grammar → Expression → ℕ → List Structure
elements g e n = flat_map (λ d. listing g e (supply Unlabelled d)) (range_with_len 1 n)

-- the sizes of these structures
abbrev pub element_sizes : Grammar → Expression → ℕ → List ℕ
element_sizes g e n = flat_map (λ d. replicate (number g e d) d) (range_with_len 1 n)

-- is a structure of the expression with at most n atoms without labels
abbrev pub IsUpTo : Grammar → Expression → ℕ → Structure → Type 0
IsUpTo g e n s = (d : ℕ) × (d ≤ n) × IsOne g e (supply Unlabelled d) s

-- In a well founded grammar without labels the structures of the element of a container ascend, where they are listed one size
-- after another. The Sets with c components are the multisets of these, and the PowerSets the subsets.
pub record UnlabelledSetsAreListed : Type 0 where
  pub ascend : (g : Grammar) (kind : Kind) (e : Expression) (card : Card) (n : ℕ) → IsTrue (is_spec g.rules) → IsWellFounded g → g.universe ≡ Unlabelled
      → IsIn (Many kind e card) (all_nodes g.rules) → Enumerated Before (IsUpTo g e n) (elements g e n)
  pub sizes : (g : Grammar) (e : Expression) (n : ℕ) → g.universe ≡ Unlabelled → map size (elements g e n) ≡ element_sizes g e n
  pub sets : (g : Grammar) (e : Expression) (card : Card) (c n : ℕ) → IsTrue (is_spec g.rules) → IsWellFounded g → g.universe ≡ Unlabelled
      → IsIn (Many kind.Set e card) (all_nodes g.rules)
      → listing g (Many kind.Set e (exactly c)) (supply Unlabelled n) ≡ map set (multisets size (elements g e n) c n)
  pub power_sets : (g : Grammar) (e : Expression) (card : Card) (c n : ℕ) → IsTrue (is_spec g.rules) → IsWellFounded g → g.universe ≡ Unlabelled
      → IsIn (Many kind.PowerSet e card) (all_nodes g.rules)
      → listing g (Many kind.PowerSet e (exactly c)) (supply Unlabelled n) ≡ map power_set (subsets size (elements g e n) c n)
