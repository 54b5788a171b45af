-- The numbers of structures of containers by the number of components.
use Rattle.std.specs.Prelude.{◌≡◌, ◌<◌, ℕ, length, IsTrue}
use Rattle.spec_syntax.specs.declared.statement.Universe.TheVariants.{Unlabelled}
use Rattle.spec_syntax.specs.declared.expr.Card.{Card}
use Rattle.spec_syntax.specs.declared.expr.Kind.{Kind}
use Rattle.spec_syntax.specs.declared.expr.Kind.TheVariants as kind
use Rattle.spec_syntax.specs.Expression.{Expression, Many}
use Rattle.spec_syntax.specs.Rules.{all_nodes, is_spec}
use Rattle.spec_syntax.specs.Grammar.{Grammar}
use Rattle.struct_model.specs.Bounded.{number}
use Rattle.lists.specs.Enumeration.{IsIn}
use Rattle.well_founded.specs.WellFounded.{IsWellFounded}
use Rattle.count_laws.specs.Multisets.{multisets, subsets}
use Rattle.listing_laws.specs.Numbers.{exactly, admitted}
use Rattle.listing_laws.specs.SetListing.{element_sizes}

-- In a well founded grammar a container has the structures of each number of components that its bound admits, and none has more
-- components than atoms. Without labels there are as many Sets with c components as multisets of the elements' sizes, and as
-- many PowerSets as subsets.
pub record ContainersAreCounted : Type 0 where
  pub by_components : (g : Grammar) (kind : Kind) (e : Expression) (card : Card) (n : ℕ) → IsTrue (is_spec g.rules) → IsWellFounded g
      → IsIn (Many kind e card) (all_nodes g.rules)
      → number g (Many kind e card) n ≡ admitted card (λ c. number g (Many kind e (exactly c)) n) n
  pub few : (g : Grammar) (kind : Kind) (e : Expression) (card : Card) (c n : ℕ) → IsTrue (is_spec g.rules) → IsWellFounded g
      → IsIn (Many kind e card) (all_nodes g.rules) → n < c → number g (Many kind e (exactly c)) n ≡ 0
  pub sets : (g : Grammar) (e : Expression) (card : Card) (c n : ℕ) → IsTrue (is_spec g.rules) → IsWellFounded g → g.universe ≡ Unlabelled
      → IsIn (Many kind.Set e card) (all_nodes g.rules)
      → number g (Many kind.Set e (exactly c)) n ≡ length (multisets (λ d. d) (element_sizes g e n) c n)
  pub power_sets : (g : Grammar) (e : Expression) (card : Card) (c n : ℕ) → IsTrue (is_spec g.rules) → IsWellFounded g → g.universe ≡ Unlabelled
      → IsIn (Many kind.PowerSet e card) (all_nodes g.rules)
      → number g (Many kind.PowerSet e (exactly c)) n ≡ length (subsets (λ d. d) (element_sizes g e n) c n)
