-- The grammar of statements: how each part of a statement is written as tokens.
--
-- Each token has a role, which says what it is in the statement as far as a limit asks.
use Rattle.std.specs.Prelude.{ℕ, suc, List, [], ◌∷◌, ◌++◌, Option, Some, None}
use Rattle.spec_syntax.specs.declared.expr.Kind.{Kind}
use Rattle.spec_syntax.specs.declared.expr.Kind.TheVariants as kind
use Rattle.spec_reader.specs.declared.token.Sign.{Sign}
use Rattle.spec_reader.specs.declared.token.Sign.TheVariants.{Equals, AtMost, AtLeast, Semicolon, Colon, Comma, OpenParen, CloseParen, OpenBracket, CloseBracket, OpenBrace, CloseBrace}
use Rattle.spec_reader.specs.declared.token.Keyword.{Keyword}
use Rattle.spec_reader.specs.declared.token.Keyword.TheVariants as keyword
use Rattle.spec_reader.specs.declared.table.Role.{Role}
use Rattle.spec_reader.specs.declared.table.Role.TheVariants.{Plain, RuleName, ExprStart, BoundStart, SizeNumber}
use Rattle.spec_reader.specs.declared.table.Command.{Command}
use Rattle.spec_reader.specs.declared.table.Command.TheVariants as command
use Rattle.spec_reader.specs.declared.table.Comparison.{Comparison}
use Rattle.spec_reader.specs.declared.table.Comparison.TheVariants as compare
use Rattle.spec_reader.specs.Tokens.{Token, Mark, Reserved, Name, Number}

-- a token and its role
pub record Marked : Type 0 where
  pub role : Role
  pub token : Token

abbrev pub sign : Sign → Marked
sign s = record { role = Plain; token = Mark s }

abbrev pub word : Keyword → Marked
word k = record { role = Plain; token = Reserved k }

abbrev pub name : List ℕ → Marked
name text = record { role = Plain; token = Name text }

-- the left side of a rule
abbrev pub rule_name : Token → Marked
rule_name token = record { role = RuleName; token = token }

abbrev pub size : List ℕ → Marked
size digits = record { role = SizeNumber; token = Number digits }

-- the first token of an expression at a depth: a right side has depth 1, an argument one more
abbrev pub starts : ℕ → Token → Marked
starts depth token = record { role = ExprStart depth; token = token }

-- the first token of a bound
abbrev pub bound_starts : Token → Marked
bound_starts token = record { role = BoundStart; token = token }

-- "=" | "<=" | ">="
abbrev pub comparison : Comparison → Marked
comparison compare.Equal = sign Equals
comparison compare.AtMost = sign AtMost
comparison compare.AtLeast = sign AtLeast

-- a bound as it is written, from either side
pub data BoundTree : Type 0 where
  CardFirst : (compared : Comparison) (number : List ℕ) → BoundTree
  NumberFirst : (number : List ℕ) (compared : Comparison) → BoundTree

-- bound = "card" ( "=" | "<=" | ">=" ) NUMBER | NUMBER ( "=" | "<=" | ">=" ) "card"
abbrev pub bound : BoundTree → List Marked
bound (CardFirst compared digits) = bound_starts (Reserved keyword.Card) ∷ comparison compared ∷ size digits ∷ []
bound (NumberFirst digits compared) = bound_starts (Number digits) ∷ comparison compared ∷ word keyword.Card ∷ []

-- [ "," bound ] ")"
abbrev pub container_end : Option BoundTree → List Marked
container_end None = sign CloseParen ∷ []
container_end (Some b) = sign Comma ∷ bound b ++ sign CloseParen ∷ []

-- "Sequence" | "Set" | "PowerSet" | "Cycle"
abbrev pub container_word : Kind → Keyword
container_word kind.Sequence = keyword.Sequence
container_word kind.Set = keyword.Set
container_word kind.PowerSet = keyword.PowerSet
container_word kind.Cycle = keyword.Cycle

mutual
  -- an expression as it is written
  pub data ExprTree : Type 0 where
    Epsilon : ExprTree
    Atom : ExprTree
    Z : ExprTree
    Named : (name : List ℕ) → ExprTree
    Union : (first : ExprTree) (others : ExprTrees) → ExprTree
    Prod : (first : ExprTree) (others : ExprTrees) → ExprTree
    Container : (of : Kind) (element : ExprTree) (bound : Option BoundTree) → ExprTree

  pub data ExprTrees : Type 0 where
    no_more : ExprTrees
    more : ExprTree → ExprTrees → ExprTrees

-- expr = "Epsilon" | "Atom" | "Z" | NAME | ( "Union" | "Prod" ) "(" expr { "," expr } ")"
--      | ( "Sequence" | "Set" | "PowerSet" | "Cycle" ) "(" expr [ "," bound ] ")"
abbrev mutual
  pub expr : ℕ → ExprTree → List Marked
  expr depth Epsilon = starts depth (Reserved keyword.Epsilon) ∷ []
  expr depth Atom = starts depth (Reserved keyword.Atom) ∷ []
  expr depth Z = starts depth (Reserved keyword.Z) ∷ []
  expr depth (Named text) = starts depth (Name text) ∷ []
  expr depth (Union first others) = starts depth (Reserved keyword.Union) ∷ sign OpenParen ∷ expr (suc depth) first ++ more_exprs (suc depth) others
  expr depth (Prod first others) = starts depth (Reserved keyword.Prod) ∷ sign OpenParen ∷ expr (suc depth) first ++ more_exprs (suc depth) others
  expr depth (Container of element b) = starts depth (Reserved (container_word of)) ∷ sign OpenParen ∷ expr (suc depth) element ++ container_end b

  -- { "," expr } ")"
  pub more_exprs : ℕ → ExprTrees → List Marked
  more_exprs depth no_more = sign CloseParen ∷ []
  more_exprs depth (more e es) = sign Comma ∷ expr depth e ++ more_exprs depth es

-- the right side of the rule for Z: "Z" | "Atom"
pub data AtomTree : Type 0 where
  ByZ : AtomTree
  ByAtom : AtomTree

abbrev pub right_of_z : AtomTree → List Marked
right_of_z ByZ = starts 1 (Reserved keyword.Z) ∷ []
right_of_z ByAtom = starts 1 (Reserved keyword.Atom) ∷ []

-- a rule as it is written, with a name or with Z on its left side
pub data RuleTree : Type 0 where
  Rule : (name : List ℕ) (right : ExprTree) → RuleTree
  RuleOfZ : (right : AtomTree) → RuleTree

-- rule = NAME "=" expr | "Z" "=" ( "Z" | "Atom" )
abbrev pub rule : RuleTree → List Marked
rule (Rule text right) = rule_name (Name text) ∷ sign Equals ∷ expr 1 right
rule (RuleOfZ right) = rule_name (Reserved keyword.Z) ∷ sign Equals ∷ right_of_z right

-- { "," rule } "}"
abbrev pub more_rules : List RuleTree → List Marked
more_rules [] = sign CloseBrace ∷ []
more_rules (r ∷ rs) = sign Comma ∷ rule r ++ more_rules rs

pub record RulesTree : Type 0 where
  pub first : RuleTree
  pub others : List RuleTree

-- rules = "{" rule { "," rule } "}"
abbrev pub rules : RulesTree → List Marked
rules rs = sign OpenBrace ∷ rule rs.first ++ more_rules rs.others

-- the symbol of a class: NAME | "Z"
pub data SymbolTree : Type 0 where
  SymbolName : (name : List ℕ) → SymbolTree
  SymbolZ : SymbolTree

abbrev pub symbol : SymbolTree → List Marked
symbol (SymbolName text) = name text ∷ []
symbol SymbolZ = word keyword.Z ∷ []

-- universe = "labelled" | "unlabelled" | "labeled" | "unlabeled"
pub data UniverseTree : Type 0 where
  Labelled : UniverseTree
  Unlabelled : UniverseTree
  Labeled : UniverseTree
  Unlabeled : UniverseTree

abbrev pub universe : UniverseTree → List Marked
universe Labelled = word keyword.Labelled ∷ []
universe Unlabelled = word keyword.Unlabelled ∷ []
universe Labeled = word keyword.Labeled ∷ []
universe Unlabeled = word keyword.Unlabeled ∷ []

-- [ "," universe ] "]"
abbrev pub class_end : Option UniverseTree → List Marked
class_end None = sign CloseBracket ∷ []
class_end (Some u) = sign Comma ∷ universe u ++ sign CloseBracket ∷ []

pub record ClassTree : Type 0 where
  pub symbol : SymbolTree
  pub rules : RulesTree
  pub universe : Option UniverseTree

-- class = "[" ( NAME | "Z" ) "," rules [ "," universe ] "]"
abbrev pub class : ClassTree → List Marked
class c = sign OpenBracket ∷ symbol c.symbol ++ (sign Comma ∷ rules c.rules ++ class_end c.universe)

-- "allstructs" | "count"
abbrev pub command_word : Command → Keyword
command_word command.AllStructs = keyword.AllStructs
command_word command.Count = keyword.Count

pub data FormTree : Type 0 where
  About : (asked : Command) (class : ClassTree) (size : List ℕ) → FormTree

-- form = ( "allstructs" | "count" ) "(" class "," "size" "=" NUMBER ")"
abbrev pub form : FormTree → List Marked
form (About asked c digits) =
    word (command_word asked) ∷ sign OpenParen ∷ class c ++ sign Comma ∷ word keyword.Size ∷ sign Equals ∷ size digits ∷ sign CloseParen ∷ []

-- what ends a statement
pub data EndTree : Type 0 where
  BySemicolon : EndTree
  ByColon : EndTree

-- ";" | ":"
abbrev pub end_sign : EndTree → Sign
end_sign BySemicolon = Semicolon
end_sign ByColon = Colon

pub data StatementTree : Type 0 where
  Bare : (end : EndTree) → StatementTree
  Asks : (form : FormTree) (end : EndTree) → StatementTree

-- statement = [ form ] ( ";" | ":" )
abbrev pub statement : StatementTree → List Marked
statement (Bare e) = sign (end_sign e) ∷ []
statement (Asks f e) = form f ++ sign (end_sign e) ∷ []
