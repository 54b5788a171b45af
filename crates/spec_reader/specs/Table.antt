-- The table of the grammar: what a token may be where something is expected, and what is expected after it.
use Rattle.std.specs.Prelude.{ℕ, suc, Bool, true, false, ◌||◌, List, [], ◌∷◌, ◌++◌, ◌≡◌, nat_le, is_some, Option, Some, None, if◌then◌else◌}
use Rattle.std.specs.Option.{option_map}
use Rattle.std.specs.Str.{bytes_eq}
use Rattle.spec_syntax.specs.declared.expr.Kind.{Kind}
use Rattle.spec_syntax.specs.declared.expr.Kind.TheVariants as kind
use Rattle.spec_syntax.specs.declared.statement.Universe.{Universe}
use Rattle.spec_syntax.specs.declared.statement.Universe.TheVariants as universe
use Rattle.spec_reader.specs.declared.token.Sign.{Sign}
use Rattle.spec_reader.specs.declared.token.Sign.TheVariants as sign
use Rattle.spec_reader.specs.declared.token.Keyword.{Keyword}
use Rattle.spec_reader.specs.declared.token.Keyword.TheVariants as word
use Rattle.spec_reader.specs.declared.table.Role.{Role}
use Rattle.spec_reader.specs.declared.table.Role.TheVariants as role
use Rattle.spec_reader.specs.declared.table.Item.{Item}
use Rattle.spec_reader.specs.declared.table.Item.TheVariants as item
use Rattle.spec_reader.specs.declared.table.Head.{Head}
use Rattle.spec_reader.specs.declared.table.Head.TheVariants as head
use Rattle.spec_reader.specs.declared.table.Former.TheVariants as former
use Rattle.spec_reader.specs.declared.table.Command.{Command}
use Rattle.spec_reader.specs.declared.table.Command.TheVariants as command
use Rattle.spec_reader.specs.declared.table.Comparison.{Comparison}
use Rattle.spec_reader.specs.declared.table.Comparison.TheVariants as compare
use Rattle.spec_reader.specs.Tokens.{Token, Mark, Reserved, Name, Number, sign_text, keyword_text}

abbrev pub is_mark : Sign → Token → Bool
is_mark sign (Mark other) = bytes_eq (sign_text sign) (sign_text other)
is_mark sign _ = false

abbrev pub is_reserved : Keyword → Token → Bool
is_reserved keyword (Reserved other) = bytes_eq (keyword_text keyword) (keyword_text other)
is_reserved keyword _ = false

abbrev pub is_name : Token → Bool
is_name (Name _) = true
is_name _ = false

abbrev pub is_number : Token → Bool
is_number (Number _) = true
is_number _ = false

-- a sign that ends a statement
abbrev pub is_end : Token → Bool
is_end token = is_mark sign.Semicolon token || is_mark sign.Colon token

-- the command that a word names
abbrev pub command_of : Token → Option Command
command_of token =
    if is_reserved word.AllStructs token then Some command.AllStructs
    else (if is_reserved word.Count token then Some command.Count else None)

-- the kind of container that a word names
abbrev pub kind_of : Token → Option Kind
kind_of token =
    if is_reserved word.Sequence token then Some kind.Sequence
    else (if is_reserved word.Set token then Some kind.Set
    else (if is_reserved word.PowerSet token then Some kind.PowerSet
    else (if is_reserved word.Cycle token then Some kind.Cycle else None)))

-- how an expression begins with a token
abbrev pub head_of : Token → Option Head
head_of token =
    if is_reserved word.Epsilon token then Some head.Epsilon
    else (if is_reserved word.Atom token then Some head.Atom
    else (if is_reserved word.Z token then Some head.Atom
    else (if is_name token then Some head.Name
    else (if is_reserved word.Union token then Some (head.Former former.Union)
    else (if is_reserved word.Prod token then Some (head.Former former.Prod)
    else option_map head.Container (kind_of token))))))

-- the comparison that a sign writes
abbrev pub comparison_of : Token → Option Comparison
comparison_of token =
    if is_mark sign.Equals token then Some compare.Equal
    else (if is_mark sign.AtMost token then Some compare.AtMost
    else (if is_mark sign.AtLeast token then Some compare.AtLeast else None))

-- the universe that a word names
abbrev pub universe_of : Token → Option Universe
universe_of token =
    if is_reserved word.Labelled token then Some universe.Labelled
    else (if is_reserved word.Labeled token then Some universe.Labelled
    else (if is_reserved word.Unlabelled token then Some universe.Unlabelled
    else (if is_reserved word.Unlabeled token then Some universe.Unlabelled else None)))

abbrev pub arguments : ℕ → Option Head → Option (List Item)
arguments depth None = None
arguments depth (Some head.Epsilon) = Some []
arguments depth (Some head.Atom) = Some []
arguments depth (Some head.Name) = Some []
arguments depth (Some (head.Former former.Union)) = Some (item.Mark sign.OpenParen ∷ item.Expr (suc depth) ∷ item.MoreExprs (suc depth) ∷ [])
arguments depth (Some (head.Former former.Prod)) = Some (item.Mark sign.OpenParen ∷ item.Expr (suc depth) ∷ item.MoreExprs (suc depth) ∷ [])
arguments depth (Some (head.Container _)) = Some (item.Mark sign.OpenParen ∷ item.Expr (suc depth) ∷ item.ContainerEnd ∷ [])

abbrev pub only_if : Bool → List Item → Option (List Item)
only_if fits row = if fits then Some row else None

-- a comma and what is expected after it, or the sign that closes
abbrev pub more_or_end : Sign → Token → List Item → Option (List Item)
more_or_end close token row = if is_mark sign.Comma token then Some row else only_if (is_mark close token) []

-- what is expected behind the word of a command
abbrev pub behind_command : List Item
behind_command =
    item.Mark sign.OpenParen ∷ item.Class ∷ item.Mark sign.Comma ∷ item.Reserved word.Size ∷ item.Mark sign.Equals ∷ item.Size
    ∷ item.Mark sign.CloseParen ∷ item.End ∷ []

-- what is expected after the token, in place of the item that takes it; None where the item can't take it
abbrev pub step : Item → Token → Option (List Item)
step item.Statement token = if is_end token then Some [] else only_if (is_some (command_of token)) behind_command
step item.End token = only_if (is_end token) []
step item.Class token =
    only_if (is_mark sign.OpenBracket token)
    (item.Symbol ∷ item.Mark sign.Comma ∷ item.Rules ∷ item.ClassEnd ∷ [])
step item.Symbol token = if is_name token then Some [] else only_if (is_reserved word.Z token) []
step item.ClassEnd token = more_or_end sign.CloseBracket token (item.Universe ∷ item.Mark sign.CloseBracket ∷ [])
step item.Universe token = only_if (is_some (universe_of token)) []
step item.Rules token = only_if (is_mark sign.OpenBrace token) (item.Rule ∷ item.MoreRules ∷ [])
step item.Rule token =
    if is_name token then Some (item.Mark sign.Equals ∷ item.Expr 1 ∷ [])
    else only_if (is_reserved word.Z token) (item.Mark sign.Equals ∷ item.RightOfZ ∷ [])
step item.RightOfZ token = if is_reserved word.Z token then Some [] else only_if (is_reserved word.Atom token) []
step item.MoreRules token = more_or_end sign.CloseBrace token (item.Rule ∷ item.MoreRules ∷ [])
step (item.Expr depth) token = arguments depth (head_of token)
step (item.MoreExprs depth) token = more_or_end sign.CloseParen token (item.Expr depth ∷ item.MoreExprs depth ∷ [])
step item.ContainerEnd token = more_or_end sign.CloseParen token (item.Bound ∷ item.BoundEnd ∷ [])
step item.BoundEnd token = only_if (is_mark sign.CloseParen token) []
step item.Bound token =
    if is_reserved word.Card token then Some (item.Comparison ∷ item.CardNumber ∷ [])
    else only_if (is_number token) (item.TurnedComparison ∷ item.Reserved word.Card ∷ [])
step item.Comparison token = only_if (is_some (comparison_of token)) []
step item.TurnedComparison token = only_if (is_some (comparison_of token)) []
step item.CardNumber token = only_if (is_number token) []
step item.Size token = only_if (is_number token) []
step (item.Mark sign) token = only_if (is_mark sign token) []
step (item.Reserved keyword) token = only_if (is_reserved keyword token) []

-- the role of the token that an item takes
abbrev pub role_of : Item → Role
role_of item.Rule = role.RuleName
role_of item.RightOfZ = role.ExprStart 1
role_of (item.Expr depth) = role.ExprStart depth
role_of item.Bound = role.BoundStart
role_of item.CardNumber = role.SizeNumber
role_of item.Size = role.SizeNumber
role_of item.Statement = role.Plain
role_of item.End = role.Plain
role_of item.Class = role.Plain
role_of item.Symbol = role.Plain
role_of item.ClassEnd = role.Plain
role_of item.Universe = role.Plain
role_of item.Rules = role.Plain
role_of item.MoreRules = role.Plain
role_of (item.MoreExprs depth) = role.Plain
role_of item.ContainerEnd = role.Plain
role_of item.BoundEnd = role.Plain
role_of item.Comparison = role.Plain
role_of item.TurnedComparison = role.Plain
role_of (item.Mark sign) = role.Plain
role_of (item.Reserved keyword) = role.Plain

-- is the item of a depth that is looked at
abbrev pub is_shallow : Item → Bool
is_shallow (item.Expr depth) = nat_le depth 33
is_shallow (item.MoreExprs depth) = nat_le depth 33
is_shallow _ = true

-- the row stands in front of what was expected; where there is none the token doesn't fit
abbrev pub Takes : Option (List Item) → Bool → List Item → List Item → Type 0
Takes None fits before after = (fits ≡ false) × (after ≡ before)
Takes (Some row) fits before after = (fits ≡ true) × (after ≡ row ++ before)
