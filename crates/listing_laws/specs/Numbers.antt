-- The numbers of structures of a size, by the numbers of those inside them.
use Rattle.std.specs.Prelude.{◌≡◌, ◌<◌, ℕ, suc, ◌+◌, ◌-◌, ◌*◌, nat_eq, List, ◌∷◌, ◌++◌, map, IsTrue, Some, if◌then◌else◌}
use Rattle.std.specs.List.{sum, range_with_len}
use Rattle.spec_syntax.specs.declared.statement.Universe.{Universe}
use Rattle.spec_syntax.specs.declared.statement.Universe.TheVariants.{Labelled, Unlabelled}
use Rattle.spec_syntax.specs.declared.expr.Card.{Card}
use Rattle.spec_syntax.specs.declared.expr.Kind.{Kind}
use Rattle.spec_syntax.specs.declared.expr.Kind.TheVariants as kind
use Rattle.spec_syntax.specs.Card.{admits}
use Rattle.spec_syntax.specs.Expression.{Expression, Expressions, Epsilon, Atom, Name, Union, Prod, Many, no_expressions, expressions_of, expression_list}
use Rattle.spec_syntax.specs.Rules.{symbol, right_side, all_nodes, is_spec}
use Rattle.spec_syntax.specs.Grammar.{Grammar}
use Rattle.lists.specs.Enumeration.{IsIn}
use Rattle.struct_model.specs.Bounded.{number}
use Rattle.well_founded.specs.Sizes.{IsLeast}
use Rattle.well_founded.specs.WellFounded.{IsWellFounded}
use Rattle.count_laws.specs.Choose.{choose}

-- in how many ways a part of d labels can be taken from a supply of n
abbrev pub ways : Universe → ℕ → ℕ → ℕ
ways Labelled n d = choose n d
ways Unlabelled n d = 1

-- how many pairs of a first and another one there are of n atoms in all, where first and others tell the numbers of each size
abbrev pub joined : Universe → (ℕ → ℕ) → (ℕ → ℕ) → ℕ → ℕ
joined universe first others n = sum (map (λ d. ways universe n d * (first d * others (n - d))) (range_with_len 0 (n + 1)))

-- the bound that admits c components alone
abbrev pub exactly : ℕ → Card
exactly c = record { low = c; high = Some c }

-- 1 at this size and 0 at the others
abbrev pub one_at : ℕ → ℕ → ℕ
one_at size n = if nat_eq n size then 1 else 0

-- how many lists of at most n components the bound admits, where lists c is the number of those with c components
abbrev pub admitted : Card → (ℕ → ℕ) → ℕ → ℕ
admitted card lists n = sum (map (λ c. if admits card c then lists c else 0) (range_with_len 0 (n + 1)))

-- In a well founded grammar the numbers of structures of a size follow from the numbers of those inside. A Prod from a component
-- on is that component joined with the Prod of the later ones, and a list of one component more in a Sequence is one of the element
-- joined with a list. A Sequence has the lists of each length that its bound admits, and none is longer than its size. An element
-- of a container has no structure of size 0, and no expression has one below its least size.
pub record NumbersRecur : Type 0 where
  pub epsilon : (g : Grammar) (n : ℕ) → number g Epsilon n ≡ one_at 0 n
  pub atom : (g : Grammar) (n : ℕ) → number g Atom n ≡ one_at 1 n
  pub name : (g : Grammar) (name : List ℕ) (k : ℕ) (right : Expression) (n : ℕ) → IsTrue (is_spec g.rules) → IsWellFounded g
      → symbol g.rules name ≡ Some k → right_side g.rules k ≡ Some right → number g (Name name) n ≡ number g right n
  pub union : (g : Grammar) (es : Expressions) (n : ℕ) → IsTrue (is_spec g.rules) → IsWellFounded g
      → IsIn (Union es) (all_nodes g.rules) → number g (Union es) n ≡ sum (map (λ e. number g e n) (expression_list es))
  pub no_components : (g : Grammar) (n : ℕ) → number g (Prod no_expressions) n ≡ one_at 0 n
  pub prod : (g : Grammar) (earlier : List Expression) (e : Expression) (later : List Expression) (n : ℕ) → IsTrue (is_spec g.rules) → IsWellFounded g
      → IsIn (Prod (expressions_of (earlier ++ e ∷ later))) (all_nodes g.rules)
      → number g (Prod (expressions_of (e ∷ later))) n ≡ joined g.universe (number g e) (number g (Prod (expressions_of later))) n
  pub no_lists : (g : Grammar) (e : Expression) (card : Card) (n : ℕ) → IsTrue (is_spec g.rules) → IsWellFounded g
      → IsIn (Many kind.Sequence e card) (all_nodes g.rules) → number g (Many kind.Sequence e (exactly 0)) n ≡ one_at 0 n
  pub lists : (g : Grammar) (e : Expression) (card : Card) (c n : ℕ) → IsTrue (is_spec g.rules) → IsWellFounded g
      → IsIn (Many kind.Sequence e card) (all_nodes g.rules)
      → number g (Many kind.Sequence e (exactly (suc c))) n ≡ joined g.universe (number g e) (number g (Many kind.Sequence e (exactly c))) n
  pub one_list : (g : Grammar) (e : Expression) (card : Card) (n : ℕ) → IsTrue (is_spec g.rules) → IsWellFounded g
      → IsIn (Many kind.Sequence e card) (all_nodes g.rules) → number g (Many kind.Sequence e (exactly 1)) n ≡ number g e n
  pub few : (g : Grammar) (e : Expression) (card : Card) (c n : ℕ) → IsTrue (is_spec g.rules) → IsWellFounded g
      → IsIn (Many kind.Sequence e card) (all_nodes g.rules) → n < c → number g (Many kind.Sequence e (exactly c)) n ≡ 0
  pub sequence : (g : Grammar) (e : Expression) (card : Card) (n : ℕ) → IsTrue (is_spec g.rules) → IsWellFounded g
      → IsIn (Many kind.Sequence e card) (all_nodes g.rules)
      → number g (Many kind.Sequence e card) n ≡ admitted card (λ c. number g (Many kind.Sequence e (exactly c)) n) n
  pub element : (g : Grammar) (kind : Kind) (e : Expression) (card : Card) → IsTrue (is_spec g.rules) → IsWellFounded g
      → IsIn (Many kind e card) (all_nodes g.rules) → number g e 0 ≡ 0
  pub below_least : (g : Grammar) (e : Expression) (least n : ℕ) → IsTrue (is_spec g.rules) → IsWellFounded g
      → IsIn e (all_nodes g.rules) → IsLeast g e least → n < least → number g e n ≡ 0
