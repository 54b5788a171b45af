-- The numbers of structures of containers, by those of their elements.
use Rattle.std.specs.Prelude.{◌≡◌, ◌<◌, ◌≤◌, ℕ, suc, ◌-◌, ◌*◌, map, IsTrue}
use Rattle.std.specs.List.{sum, range_with_len}
use Rattle.spec_syntax.specs.declared.statement.Universe.TheVariants.{Labelled, Unlabelled}
use Rattle.spec_syntax.specs.declared.expr.Card.{Card}
use Rattle.spec_syntax.specs.declared.expr.Kind.{Kind}
use Rattle.spec_syntax.specs.declared.expr.Kind.TheVariants as kind
use Rattle.spec_syntax.specs.Expression.{Expression, Many}
use Rattle.spec_syntax.specs.Rules.{all_nodes, is_spec}
use Rattle.spec_syntax.specs.Grammar.{Grammar}
use Rattle.struct_model.specs.Bounded.{number}
use Rattle.lists.specs.Enumeration.{IsIn}
use Rattle.well_founded.specs.WellFounded.{IsWellFounded}
use Rattle.count_laws.specs.SetNumbers.{with_less, number_pointed, number_avoiding}
use Rattle.listing_laws.specs.Numbers.{joined, exactly, one_at}

-- the number of containers with exactly c components and n atoms
abbrev pub of_components : Grammar → Kind → Expression → ℕ → ℕ → ℕ
of_components g kind e c n = number g (Many kind e (exactly c)) n

-- In a well founded grammar, of an expression that is the element of a container in the rules, the numbers of containers with c
-- components follow from those with fewer. A labelled set of c components is met c times by a component and a set of the others,
-- and a labelled cycle c times by a list. Without labels a set is met c times by a component, put in from once to c times, and a
-- set of the others; one without repeats by a component and those of the others that avoid it. Of these no more have a component
-- than there are in all.
pub record ContainersRecur : Type 0 where
  pub no_sets : (g : Grammar) (e : Expression) (card : Card) (n : ℕ) → IsTrue (is_spec g.rules) → IsWellFounded g
      → IsIn (Many kind.Set e card) (all_nodes g.rules) → of_components g kind.Set e 0 n ≡ one_at 0 n
  pub no_power_sets : (g : Grammar) (e : Expression) (card : Card) (n : ℕ) → IsTrue (is_spec g.rules) → IsWellFounded g
      → IsIn (Many kind.PowerSet e card) (all_nodes g.rules) → of_components g kind.PowerSet e 0 n ≡ one_at 0 n
  pub no_cycles : (g : Grammar) (e : Expression) (card : Card) (n : ℕ) → IsTrue (is_spec g.rules) → IsWellFounded g
      → IsIn (Many kind.Cycle e card) (all_nodes g.rules) → of_components g kind.Cycle e 0 n ≡ 0
  pub one : (g : Grammar) (kind : Kind) (e : Expression) (card : Card) (n : ℕ) → IsTrue (is_spec g.rules) → IsWellFounded g
      → IsIn (Many kind e card) (all_nodes g.rules) → of_components g kind e 1 n ≡ number g e n
  pub labelled_sets : (g : Grammar) (e : Expression) (card : Card) (c n : ℕ) → IsTrue (is_spec g.rules) → IsWellFounded g → g.universe ≡ Labelled
      → IsIn (Many kind.Set e card) (all_nodes g.rules)
      → suc c * of_components g kind.Set e (suc c) n ≡ joined Labelled (number g e) (of_components g kind.Set e c) n
  pub labelled_power_sets : (g : Grammar) (e : Expression) (card : Card) (c n : ℕ) → IsTrue (is_spec g.rules) → IsWellFounded g → g.universe ≡ Labelled
      → IsIn (Many kind.PowerSet e card) (all_nodes g.rules)
      → suc c * of_components g kind.PowerSet e (suc c) n ≡ joined Labelled (number g e) (of_components g kind.PowerSet e c) n
  pub cycles : (g : Grammar) (e : Expression) (card : Card) (c n : ℕ) → IsTrue (is_spec g.rules) → IsWellFounded g
      → IsIn (Many kind.Cycle e card) (all_nodes g.rules)
      → suc c * of_components g kind.Cycle e (suc c) n ≡ of_components g kind.Sequence e (suc c) n
  pub lists : (g : Grammar) (e : Expression) (card : Card) (c n : ℕ) → IsTrue (is_spec g.rules) → IsWellFounded g
      → IsIn (Many kind.Cycle e card) (all_nodes g.rules)
      → of_components g kind.Sequence e (suc c) n ≡ joined Labelled (number g e) (of_components g kind.Sequence e c) n
  pub no_lists : (g : Grammar) (e : Expression) (card : Card) (n : ℕ) → IsTrue (is_spec g.rules) → IsWellFounded g
      → IsIn (Many kind.Cycle e card) (all_nodes g.rules) → of_components g kind.Sequence e 0 n ≡ one_at 0 n
  pub sets : (g : Grammar) (e : Expression) (card : Card) (c n : ℕ) → IsTrue (is_spec g.rules) → IsWellFounded g → g.universe ≡ Unlabelled
      → IsIn (Many kind.Set e card) (all_nodes g.rules)
      → c * of_components g kind.Set e c n ≡ sum (map (λ d. number g e d * number_pointed (of_components g kind.Set e) d c n) (range_with_len 1 n))
  pub power_sets : (g : Grammar) (e : Expression) (card : Card) (c n : ℕ) → IsTrue (is_spec g.rules) → IsWellFounded g → g.universe ≡ Unlabelled
      → IsIn (Many kind.PowerSet e card) (all_nodes g.rules)
      → suc c * of_components g kind.PowerSet e (suc c) n ≡ sum (map (λ d. number g e d * number_avoiding (of_components g kind.PowerSet e) d c (n - d)) (range_with_len 1 n))
  pub exact : (g : Grammar) (e : Expression) (card : Card) (c n d : ℕ) → IsTrue (is_spec g.rules) → IsWellFounded g → g.universe ≡ Unlabelled
      → IsIn (Many kind.PowerSet e card) (all_nodes g.rules) → 0 < number g e d
      → with_less d (number_avoiding (of_components g kind.PowerSet e) d c) n ≤ of_components g kind.PowerSet e (suc c) n
