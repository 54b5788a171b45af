-- Expressions as plain trees.
use Rattle.std.specs.Prelude.{ℕ, Bool, true, false, ◌&&◌, List, [], ◌∷◌, ◌++◌, length}
use Rattle.spec_syntax.specs.declared.expr.Kind.{Kind}
use Rattle.spec_syntax.specs.declared.expr.Kind.TheVariants.{Sequence, Set, PowerSet, Cycle}
use Rattle.spec_syntax.specs.declared.expr.Card.{Card}
use Rattle.spec_syntax.specs.Card.{is_writable}

mutual
  pub data Expression : Type 0 where
    Epsilon : Expression
    Atom : Expression
    Name : (name : List ℕ) → Expression
    Union : (arguments : Expressions) → Expression
    Prod : (arguments : Expressions) → Expression
    Many : (kind : Kind) → (element : Expression) → (card : Card) → Expression

  pub data Expressions : Type 0 where
    no_expressions : Expressions
    more_expressions : Expression → Expressions → Expressions

abbrev pub expression_list : Expressions → List Expression
expression_list no_expressions = []
expression_list (more_expressions e es) = e ∷ expression_list es

abbrev pub expressions_of : List Expression → Expressions
expressions_of [] = no_expressions
expressions_of (e ∷ es) = more_expressions e (expressions_of es)

abbrev mutual
  -- the expression itself, and then those inside it from left to right
  pub preorder : Expression → List Expression
  preorder Epsilon = Epsilon ∷ []
  preorder Atom = Atom ∷ []
  preorder (Name name) = Name name ∷ []
  preorder (Union arguments) = Union arguments ∷ preorder_of_all arguments
  preorder (Prod arguments) = Prod arguments ∷ preorder_of_all arguments
  preorder (Many kind element card) = Many kind element card ∷ preorder element

  pub preorder_of_all : Expressions → List Expression
  preorder_of_all no_expressions = []
  preorder_of_all (more_expressions e es) = preorder e ++ preorder_of_all es

-- the number of expressions in an expression, itself counted
abbrev pub nodes : Expression → ℕ
nodes e = length (preorder e)

abbrev pub nodes_of_all : Expressions → ℕ
nodes_of_all es = length (preorder_of_all es)

abbrev pub has_some : Expressions → Bool
has_some no_expressions = false
has_some (more_expressions e es) = true

abbrev mutual
  -- has each Union and each Prod an argument, and can each bound be written
  pub is_well_formed : Expression → Bool
  is_well_formed Epsilon = true
  is_well_formed Atom = true
  is_well_formed (Name name) = true
  is_well_formed (Union arguments) = has_some arguments && are_well_formed arguments
  is_well_formed (Prod arguments) = has_some arguments && are_well_formed arguments
  is_well_formed (Many kind element card) = is_writable card && is_well_formed element

  pub are_well_formed : Expressions → Bool
  are_well_formed no_expressions = true
  are_well_formed (more_expressions e es) = is_well_formed e && are_well_formed es
