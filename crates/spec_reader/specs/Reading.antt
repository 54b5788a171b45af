-- What a piece reads as, and its fault where it reads as nothing.
use Rattle.std.specs.Prelude.{IsTrue, ◌≡◌, ◌<◌, ◌≤◌, ◌⊎◌, ℕ, Bool, true, ◌&&◌, is_none, Option, Some, Result, Ok, Err, List, [], ◌∷◌, ◌++◌, length, take, map, count_by, if◌then◌else◌}
use Rattle.std.specs.Str.{IsUtf8}
use Rattle.spec_syntax.specs.declared.statement.Statement.{Statement}
use Rattle.spec_reader.specs.declared.place.Place.{Place}
use Rattle.spec_reader.specs.declared.refusal.Which.TheVariants as which
use Rattle.spec_reader.specs.declared.refusal.ReadRefused.{ReadRefused}
use Rattle.spec_reader.specs.declared.refusal.ReadRefused.TheVariants as refused
use Rattle.spec_reader.specs.Tokens.{Token, Placed, tokens, text_of}
use Rattle.spec_reader.specs.Grammar.{Marked, StatementTree, statement}
use Rattle.spec_reader.specs.Meaning.{meaning}
use Rattle.spec_reader.specs.Limits.{is_rule_name, is_expr_start, Reason, Passes, Repeats, reason}
use Rattle.spec_reader.specs.Places.{place_behind}

-- tokens without their roles, and without their places
abbrev pub unmarked : List Marked → List Token
unmarked = map (λ marked. marked.token)

abbrev pub unplaced : List Placed → List Token
unplaced = map (λ placed. placed.token)

-- the names of the rules among tokens
abbrev pub names_in : List Marked → List (List ℕ)
names_in [] = []
names_in (marked ∷ rest) = if is_rule_name marked.role then text_of marked.token ∷ names_in rest else names_in rest

-- the number of expressions that begin among tokens
abbrev pub expressions_in : List Marked → ℕ
expressions_in marks = count_by (λ marked. is_expr_start marked.role) marks

-- why a token is at fault after those before it, though it fits
abbrev pub reason_after : List Marked → Marked → Option Reason
reason_after before marked = reason (names_in before) (expressions_in before) marked.role marked.token

-- is none of the tokens at fault, after those before them
abbrev pub pass_after : List Marked → List Marked → Bool
pass_after before [] = true
pass_after before (marked ∷ rest) = is_none (reason_after before marked) && pass_after (before ++ marked ∷ []) rest

-- the tokens are those of a statement, and none is at fault
pub record ReadAs (placed : List Placed) (read : Statement) : Type 0 where
  pub tree : StatementTree
  pub spelled : unmarked (statement tree) ≡ unplaced placed
  pub pass : IsTrue (pass_after [] (statement tree))
  pub means : meaning tree ≡ read

-- the tokens begin a statement, and none is at fault
pub record InOrder (front : List Placed) : Type 0 where
  pub tree : StatementTree
  pub marks : List Marked
  pub rest : List Marked
  pub whole : statement tree ≡ marks ++ rest
  pub spelled : unmarked marks ≡ unplaced front
  pub pass : IsTrue (pass_after [] marks)

-- some statement begins with the tokens
abbrev pub Opens : List Token → Type 0
Opens tokens = (tree : StatementTree) × (rest : List Token) × (unmarked (statement tree) ≡ tokens ++ rest)

-- some statement has just these tokens
abbrev pub IsWhole : List Token → Type 0
IsWhole tokens = (tree : StatementTree) × (unmarked (statement tree) ≡ tokens)

-- no statement goes on after the tokens in front with the next token, or ends where there is none; this is its place,
-- or the end of the piece
abbrev pub StopsAt : List Token → List Placed → ℕ → ℕ → Type 0
StopsAt front [] end at = ¬ (IsWhole front) × (at ≡ end)
StopsAt front (placed ∷ rest) end at = ¬ (Opens (front ++ placed.token ∷ [])) × (at ≡ placed.at)

-- the tokens before a place are in order, and no statement goes on with what stands there
pub record UnfitAt (placed : List Placed) (end at : ℕ) : Type 0 where
  pub front : List Placed
  pub rest : List Placed
  pub split : placed ≡ front ++ rest
  pub in_order : InOrder front
  pub stops : StopsAt (unplaced front) rest end at

-- the tokens before a token are in order and with it they begin a statement, but it is at fault after them
pub record FailsBy (placed : List Placed) (why : Reason) : Type 0 where
  pub front : List Placed
  pub here : Placed
  pub rest : List Placed
  pub split : placed ≡ front ++ here ∷ rest
  pub tree : StatementTree
  pub before : List Marked
  pub marked : Marked
  pub after : List Marked
  pub whole : statement tree ≡ before ++ marked ∷ after
  pub spelled : unmarked before ≡ unplaced front
  pub token : marked.token ≡ here.token
  pub pass : IsTrue (pass_after [] before)
  pub fault : reason_after before marked ≡ Some why

-- is the piece short enough, and UTF-8
pub record IsText (piece : List ℕ) : Type 0 where
  pub short : length piece ≤ 65536
  pub utf8 : IsUtf8 piece

-- the piece reads as a statement
pub record ReadsAs (piece : List ℕ) (read : Statement) : Type 0 where
  pub text : IsText piece
  pub reads : ReadAs (tokens piece) read

-- the first token at fault, or the end of the piece, stands at this line and column
pub record IsSyntaxAt (start : Place) (piece : List ℕ) (line column : ℕ) : Type 0 where
  pub text : IsText piece
  pub at : ℕ
  pub unfit : UnfitAt (tokens piece) (length piece) at
  pub place : place_behind start (take at piece) ≡ record { line = line; column = column }

-- the first token at fault is so for this reason
pub record IsFaultBy (piece : List ℕ) (why : Reason) : Type 0 where
  pub text : IsText piece
  pub fails : FailsBy (tokens piece) why

-- the piece is too long
pub record IsTooLong (piece : List ℕ) : Type 0 where
  pub long : 65536 < length piece

-- the piece is short enough, but not UTF-8
pub record IsNotText (piece : List ℕ) : Type 0 where
  pub short : length piece ≤ 65536
  pub other : ¬ (IsUtf8 piece)

-- the refusal is the fault of the piece, whose first byte stands at `start`
abbrev pub IsFault : Place → List ℕ → ReadRefused → Type 0
IsFault start piece (refused.Syntax line column) = IsSyntaxAt start piece line column
IsFault start piece (refused.DuplicateRule name) = IsFaultBy piece (Repeats name)
IsFault start piece (refused.Limit w) = ((w ≡ which.Statement) × IsTooLong piece) ⊎ IsFaultBy piece (Passes w)
IsFault start piece refused.NotText = IsNotText piece
IsFault start piece refused.Memory = ⊥

-- the refusal is the fault of the piece, or memory is wanting
abbrev pub IsRefused : Place → List ℕ → ReadRefused → Type 0
IsRefused start piece (refused.Syntax line column) = IsFault start piece (refused.Syntax line column)
IsRefused start piece (refused.DuplicateRule name) = IsFault start piece (refused.DuplicateRule name)
IsRefused start piece (refused.Limit w) = IsFault start piece (refused.Limit w)
IsRefused start piece refused.NotText = IsFault start piece refused.NotText
IsRefused start piece refused.Memory = Unit {0}

-- what a piece at `start` is: the statement that it reads as, or its fault
abbrev pub Answers : Place → List ℕ → Result Statement ReadRefused → Type 0
Answers start piece (Ok read) = ReadsAs piece read
Answers start piece (Err why) = IsFault start piece why
