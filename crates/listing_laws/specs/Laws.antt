-- The laws of listings.
use Rattle.std.specs.Prelude.{◌≡◌, ◌<◌, ℕ, true, false, List, [], ◌∷◌, ◌++◌, map, length, IsTrue, Option, Some, None, if◌then◌else◌}
use Rattle.spec_syntax.specs.declared.expr.Card.{Card}
use Rattle.spec_syntax.specs.declared.expr.Kind.{Kind}
use Rattle.spec_syntax.specs.declared.expr.Kind.TheVariants as kind
use Rattle.spec_syntax.specs.Expression.{Expression, Expressions, Epsilon, Atom, Name, Union, Prod, Many, no_expressions, more_expressions, expressions_of, expression_list}
use Rattle.spec_syntax.specs.Rules.{symbol, right_side, all_nodes, is_spec}
use Rattle.spec_syntax.specs.Grammar.{Grammar}
use Rattle.struct_model.specs.Structure.{Structure, size}
use Rattle.struct_model.specs.Membership.{is_of, supply, is_supply}
use Rattle.lists.specs.Enumeration.{IsIn}
use Rattle.struct_model.specs.Listing.{Lists}
use Rattle.struct_model.specs.Bounded.{listing}
use Rattle.well_founded.specs.declared.refused.Refused.TheVariants.{Endless}
use Rattle.well_founded.specs.Sizes.{no_least}
use Rattle.well_founded.specs.Names.{undefined_name}
use Rattle.well_founded.specs.WellFounded.{HoldsCycle, HoldsNull, OfNone, IsEachProductive, IsWellFounded, IsCulprit}
use Rattle.splits.specs.Splits.{Split, splits}
use Rattle.splits.specs.Parts.{parts}
use Rattle.listing_laws.specs.Lister.{alternatives, by_splits, by_parts, product, sequence, after_one, admits_some, list_empty, list_no_components, list_epsilon, list_atom, named}
use Rattle.listing_laws.specs.Recursion.{components_on, repeated_on}
use Rattle.listing_laws.specs.Relabelled.{relabelled}
use Rattle.listing_laws.specs.Endless.{HasEndlesslyMany}

-- these are listings of the expressions on the supply, one of each
abbrev pub ListsEach : Grammar → Expressions → List ℕ → List (List Structure) → Type 0
ListsEach g no_expressions u [] = Unit {0}
ListsEach g no_expressions u (ss ∷ others) = ⊥
ListsEach g (more_expressions e es) u [] = ⊥
ListsEach g (more_expressions e es) u (ss ∷ others) = Lists g e u ss × ListsEach g es u others

-- The listing of a Union is those of its arguments one after another.
pub record UnionIsListed : Type 0 where
  pub lists : (g : Grammar) (es : Expressions) (u : List ℕ) (each : List (List Structure)) → ListsEach g es u each → Lists g (Union es) u (alternatives 1 each)
  pub only : (g : Grammar) (es : Expressions) (u : List ℕ) (each : List (List Structure)) (ss : List Structure)
      → ListsEach g es u each → Lists g (Union es) u ss → ss ≡ alternatives 1 each

-- on each split of the supply, first lists the expression on the part and the products of others list those of the rest
abbrev pub ListsSplits : Grammar → Expression → Expressions → List ℕ → (List ℕ → List Structure) → (List ℕ → List (List Structure)) → Type 0
ListsSplits g e es u first others =
    (split : Split) → IsIn split (splits u) → Lists g e split.part (first split.part) × Lists g (Prod es) split.rest (map product (others split.rest))

-- The listing of a Prod is, split by split of the supply, by its first component and then by the listing of the others.
pub record ProdIsListed : Type 0 where
  pub empty : (g : Grammar) (u : List ℕ) → Lists g (Prod no_expressions) u (map product (list_no_components u))
  pub lists : (g : Grammar) (e : Expression) (es : Expressions) (u : List ℕ) (first : List ℕ → List Structure) (others : List ℕ → List (List Structure))
      → IsTrue (is_supply g.universe u) → ListsSplits g e es u first others → Lists g (Prod (more_expressions e es)) u (map product (by_splits first others u))
  pub only : (g : Grammar) (e : Expression) (es : Expressions) (u : List ℕ) (first : List ℕ → List Structure) (others : List ℕ → List (List Structure)) (ss : List Structure)
      → IsTrue (is_supply g.universe u) → ListsSplits g e es u first others → Lists g (Prod (more_expressions e es)) u ss → ss ≡ map product (by_splits first others u)

-- no structure of the expression has size 0
abbrev pub IsNeverEmpty : Grammar → Expression → Type 0
IsNeverEmpty g e = (s : Structure) → IsTrue (is_of g e s) → size s ≡ 0 → ⊥

-- on each split of the supply with a label or more in the part, first lists the expression on the part and the Sequences of
-- others list those with the other components on the rest
abbrev pub ListsParts : Grammar → Expression → Card → List ℕ → (List ℕ → List Structure) → (List ℕ → List (List Structure)) → Type 0
ListsParts g e card u first others =
    (split : Split) → IsIn split (parts 1 (length u) u)
    → Lists g e split.part (first split.part) × Lists g (Many kind.Sequence e (after_one card)) split.rest (map sequence (others split.rest))

-- The listing of a Sequence, over a class without a structure of size 0: on no label it is the empty one, where the bound admits
-- that. On a label or more, where the bound admits a component, it is, part by part of the supply, by its first component and
-- then by the listing of the others.
pub record SequenceIsListed : Type 0 where
  pub empty : (g : Grammar) (e : Expression) (card : Card) → IsNeverEmpty g e → Lists g (Many kind.Sequence e card) [] (map sequence (list_empty card))
  pub none : (g : Grammar) (e : Expression) (card : Card) (u : List ℕ) → 0 < length u → admits_some card ≡ false → Lists g (Many kind.Sequence e card) u []
  pub lists : (g : Grammar) (e : Expression) (card : Card) (u : List ℕ) (first : List ℕ → List Structure) (others : List ℕ → List (List Structure))
      → IsNeverEmpty g e → IsTrue (is_supply g.universe u) → 0 < length u → admits_some card ≡ true → ListsParts g e card u first others
      → Lists g (Many kind.Sequence e card) u (map sequence (by_parts 1 (length u) first others u))
  pub only : (g : Grammar) (e : Expression) (card : Card) (u : List ℕ) (first : List ℕ → List Structure) (others : List ℕ → List (List Structure)) (ss : List Structure)
      → IsNeverEmpty g e → IsTrue (is_supply g.universe u) → 0 < length u → admits_some card ≡ true → ListsParts g e card u first others
      → Lists g (Many kind.Sequence e card) u ss → ss ≡ map sequence (by_parts 1 (length u) first others u)

-- What an expression lists on a supply is what it lists on the first labels of the universe, with the labels of the supply in
-- their places. So it lists as many structures on each supply of so many labels.
pub record SuppliesAreAlike : Type 0 where
  pub lists : (g : Grammar) (e : Expression) (u : List ℕ) (ss : List Structure) → IsTrue (is_supply g.universe u)
      → Lists g e (supply g.universe (length u)) ss → Lists g e u (map (relabelled u) ss)
  pub alike : (g : Grammar) (e : Expression) (u v : List ℕ) (ss ts : List Structure) → IsTrue (is_supply g.universe u) → IsTrue (is_supply g.universe v)
      → length u ≡ length v → Lists g e u ss → Lists g e v ts → length ss ≡ length ts

-- The words are listed on supplies of no label and of one, and the name of a rule as its right side is, told by the number.
pub record WordsAreListed : Type 0 where
  pub epsilon : (g : Grammar) (u : List ℕ) → Lists g Epsilon u (list_epsilon u)
  pub atom : (g : Grammar) (u : List ℕ) → IsTrue (is_supply g.universe u) → Lists g Atom u (list_atom u)
  pub name : (g : Grammar) (name : List ℕ) (n : ℕ) (right : Expression) (u : List ℕ) (ss : List Structure)
      → symbol g.rules name ≡ Some n → right_side g.rules n ≡ Some right → Lists g right u ss → Lists g (Name name) u (map (named n) ss)

-- on each supply the structures that are picked within the bounds are the listing of the expression, and there is no other
pub record IsListing (g : Grammar) (e : Expression) : Type 0 where
  pub lists : (u : List ℕ) → IsTrue (is_supply g.universe u) → Lists g e u (listing g e u)
  pub only : (u : List ℕ) (ss : List Structure) → IsTrue (is_supply g.universe u) → Lists g e u ss → ss ≡ listing g e u

-- Where a grammar is well founded there is exactly one listing of each name, of each expression in the rules and of the last
-- components of each Prod, and the structures that are picked within the bounds are it. The same holds of a container of any
-- kind and with any bound over the element of a container in the rules, in either universe.
pub record WellFoundedIsListed : Type 0 where
  pub names : (g : Grammar) (name : List ℕ) → IsTrue (is_spec g.rules) → IsWellFounded g → IsListing g (Name name)
  pub nodes : (g : Grammar) (e : Expression) → IsTrue (is_spec g.rules) → IsWellFounded g → IsIn e (all_nodes g.rules) → IsListing g e
  pub suffixes : (g : Grammar) (earlier later : List Expression) → IsTrue (is_spec g.rules) → IsWellFounded g
      → IsIn (Prod (expressions_of (earlier ++ later))) (all_nodes g.rules) → IsListing g (Prod (expressions_of later))
  pub containers : (g : Grammar) (container kind : Kind) (e : Expression) (card other : Card) → IsTrue (is_spec g.rules) → IsWellFounded g
      → IsIn (Many container e card) (all_nodes g.rules) → IsListing g (Many kind e other)

-- In a well founded grammar the listings are made of the listings inside. A Prod goes split by split of the supply, and a Sequence
-- part by part, by the Sequences of the components after the first one. On each supply a listing is that on the first labels of
-- the universe, with the labels of the supply in their places.
pub record ListingsRecur : Type 0 where
  pub epsilon : (g : Grammar) (u : List ℕ) → IsTrue (is_supply g.universe u) → listing g Epsilon u ≡ list_epsilon u
  pub atom : (g : Grammar) (u : List ℕ) → IsTrue (is_supply g.universe u) → listing g Atom u ≡ list_atom u
  pub no_rule : (g : Grammar) (name : List ℕ) (u : List ℕ) → IsTrue (is_supply g.universe u) → symbol g.rules name ≡ None → listing g (Name name) u ≡ []
  pub name : (g : Grammar) (name : List ℕ) (n : ℕ) (right : Expression) (u : List ℕ) → IsTrue (is_spec g.rules) → IsWellFounded g
      → symbol g.rules name ≡ Some n → right_side g.rules n ≡ Some right → IsTrue (is_supply g.universe u) → listing g (Name name) u ≡ map (named n) (listing g right u)
  pub union : (g : Grammar) (es : Expressions) (u : List ℕ) → IsTrue (is_spec g.rules) → IsWellFounded g
      → IsIn (Union es) (all_nodes g.rules) → IsTrue (is_supply g.universe u) → listing g (Union es) u ≡ alternatives 1 (map (λ e. listing g e u) (expression_list es))
  pub prod : (g : Grammar) (earlier later : List Expression) (u : List ℕ) → IsTrue (is_spec g.rules) → IsWellFounded g
      → IsIn (Prod (expressions_of (earlier ++ later))) (all_nodes g.rules) → IsTrue (is_supply g.universe u)
      → listing g (Prod (expressions_of later)) u ≡ map product (components_on g (expressions_of later) u)
  pub sequence : (g : Grammar) (e : Expression) (card other : Card) (u : List ℕ) → IsTrue (is_spec g.rules) → IsWellFounded g
      → IsIn (Many kind.Sequence e card) (all_nodes g.rules) → IsTrue (is_supply g.universe u)
      → listing g (Many kind.Sequence e other) u ≡ map sequence (repeated_on g e other u)
  pub empty : (g : Grammar) (e : Expression) (card : Card) → repeated_on g e card [] ≡ list_empty card
  pub repeated : (g : Grammar) (e : Expression) (card : Card) (u : List ℕ) → 0 < length u
      → repeated_on g e card u ≡ (if admits_some card then by_parts 1 (length u) (listing g e) (repeated_on g e (after_one card)) u else [])
  pub alike : (g : Grammar) (e : Expression) (u : List ℕ) → IsTrue (is_supply g.universe u) → IsListing g e
      → listing g e u ≡ map (relabelled u) (listing g e (supply g.universe (length u)))
  pub alike_components : (g : Grammar) (earlier later : List Expression) (u : List ℕ) → IsTrue (is_spec g.rules) → IsWellFounded g
      → IsIn (Prod (expressions_of (earlier ++ later))) (all_nodes g.rules) → IsTrue (is_supply g.universe u)
      → components_on g (expressions_of later) u ≡ map (map (relabelled u)) (components_on g (expressions_of later) (supply g.universe (length u)))
  pub alike_repeated : (g : Grammar) (e : Expression) (card other : Card) (u : List ℕ) → IsTrue (is_spec g.rules) → IsWellFounded g
      → IsIn (Many kind.Sequence e card) (all_nodes g.rules) → IsTrue (is_supply g.universe u)
      → repeated_on g e other u ≡ map (map (relabelled u)) (repeated_on g e other (supply g.universe (length u)))

-- Where the other refusals don't hold, a rule is refused as endless exactly where some class has endlessly many members of one
-- size, in the grammar with each PowerSet read as Set. The rule itself has endlessly many of the size that is told, unless that
-- is too great.
pub record EndlessByMembers : Type 0 where
  pub many : (g : Grammar) (start : Option (List ℕ)) (name : List ℕ) (n : ℕ) → IsCulprit g start (Endless name n) → (x : List ℕ) × (m : ℕ) × HasEndlesslyMany g x m
  pub told : (g : Grammar) (start : Option (List ℕ)) (name : List ℕ) (n : ℕ) → IsCulprit g start (Endless name n) → n < no_least → HasEndlesslyMany g name n
  pub endless : (g : Grammar) (start : Option (List ℕ)) (x : List ℕ) (m : ℕ)
      → undefined_name g.rules start ≡ None → OfNone (HoldsCycle g) g.rules → IsEachProductive g → OfNone (HoldsNull g) g.rules
      → HasEndlesslyMany g x m → (name : List ℕ) × (n : ℕ) × IsCulprit g start (Endless name n)
