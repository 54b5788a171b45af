-- The answer to words and a script: what is written to the two outputs, and the status.
use Rattle.std.specs.Prelude.{◌≡◌, ℕ, ◌+◌, Bool, true, false, ◌||◌, nat_le, nat_lt, is_some, List, [], ◌∷◌, ◌++◌, length, take, slice_range, codes, Option, Some, None, Result, Ok, Err, if◌then◌else◌}
use Rattle.std.specs.List.{filter}
use Rattle.spec_syntax.specs.declared.statement.Statement.{Statement}
use Rattle.spec_reader.specs.declared.place.Place.{Place}
use Rattle.spec_reader.specs.declared.refusal.Which.TheVariants as which
use Rattle.spec_reader.specs.declared.refusal.ReadRefused.{ReadRefused}
use Rattle.spec_reader.specs.declared.refusal.ReadRefused.TheVariants as read
use Rattle.spec_reader.specs.Cutting.{pieces}
use Rattle.spec_reader.specs.Places.{place_behind}
use Rattle.spec_reader.specs.Reading.{Answers}
use Rattle.comb_io.specs.Writes.{Write, to_err}
use Rattle.struct_text.specs.declared.form.TextForm.{TextForm}
use Rattle.session.specs.declared.refusal.Refusal.{Refusal}
use Rattle.session.specs.declared.refusal.Refusal.TheVariants as refusal
use Rattle.session.specs.Refusals.{refusal_line}
use Rattle.session.specs.Effect.{State, first_state, Effect, refusing, StatementDoes}
use Rattle.combstruct_cli.specs.declared.run.Status.{Status}
use Rattle.combstruct_cli.specs.declared.run.Status.TheVariants as status
use Rattle.combstruct_cli.specs.Words.{words_form}

-- ---- parts of a script

-- what a part of a script does: its writes, and whether something in it is refused
pub record Part : Type 0 where
  pub writes : List Write
  pub is_refused : Bool

-- it does nothing
abbrev pub nothing : Part
nothing = record { writes = []; is_refused = false }

-- one piece, by its effect
abbrev pub part_of : Effect → Part
part_of effect = record { writes = effect.writes; is_refused = is_some effect.refused }

-- a line of a refusal
abbrev pub telling : ℕ → Refusal → Part
telling line why = record { writes = to_err (refusal_line line why); is_refused = true }

-- one after the other
abbrev pub followed_by : Part → Part → Part
followed_by first second = record { writes = first.writes ++ second.writes; is_refused = first.is_refused || second.is_refused }

-- ---- the pieces of a script

-- the piece, which begins in this line, does this as it reads, to a session that keeps this
abbrev pub PieceDoes : Result Statement ReadRefused → ℕ → TextForm → State → Effect → Type 0
PieceDoes (Ok statement) line texts state effect = StatementDoes statement line texts state effect
PieceDoes (Err why) line texts state effect = effect ≡ refusing (record { is_quiet = false; line = line; state = state }) (refusal.Read why)

abbrev pub first_place : Place
first_place = record { line = 1; column = 1 }

-- where the byte at a place of a script stands
abbrev pub place_in : List ℕ → ℕ → Place
place_in script at = place_behind first_place (take at script)

-- the piece from a place of the script to another does this to a session that keeps this
pub record RunsPiece (script : List ℕ) (piece : ℕ × ℕ) (texts : TextForm) (state : State) (effect : Effect) : Type 0 where
  pub reading : Result Statement ReadRefused
  pub reads : Answers (place_in script piece.0) (slice_range script piece.0 piece.1) reading
  pub does : PieceDoes reading (place_in script piece.0).line texts state effect

-- the most bytes of a script
abbrev pub most_bytes : ℕ
most_bytes = 16777216

-- a script of too many bytes is refused in the line of the first byte that is too many
abbrev pub refusing_long : List ℕ → Part
refusing_long script = if nat_lt most_bytes (length script) then telling (place_in script most_bytes).line (refusal.Read (read.Limit which.Script)) else nothing

-- these pieces of the script do this one after another, each to what the one before leaves; then a script that is too long is refused
abbrev pub RunsPieces : List ℕ → List (ℕ × ℕ) → TextForm → State → Part → Type 0
RunsPieces script [] texts state whole = whole ≡ refusing_long script
RunsPieces script (piece ∷ later) texts state whole =
    (effect : Effect) × (rest : Part) × RunsPiece script piece texts state effect × RunsPieces script later texts effect.next rest
    × (whole ≡ followed_by (part_of effect) rest)

-- does the piece end within the most bytes
abbrev pub is_early : ℕ × ℕ → Bool
is_early piece = nat_le piece.1 most_bytes

-- what a script does with texts in this form: its pieces that end early enough. Of one with too many bytes one byte more than
-- the most is looked at
abbrev pub Runs : TextForm → List ℕ → Part → Type 0
Runs texts script whole = RunsPieces (take (most_bytes + 1) script) (filter is_early (pieces (take (most_bytes + 1) script))) texts first_state whole

-- ---- answers

abbrev pub usage : List ℕ
usage = codes "usage: combstruct [--form=maple|tagged] [--seed=N | --bits=HEX] [--sample=N] [FILE]\n"

-- the writes and the status
pub record Answer : Type 0 where
  pub writes : List Write
  pub status : Status

abbrev pub status_of : Bool → Status
status_of true = status.SomeRefused
status_of false = status.Well

-- the answer to words that aren't in form
abbrev pub usage_answer : Answer
usage_answer = record { writes = to_err usage; status = status.Words }

-- what is answered to a script whose texts are in this form: what it does
pub record AnswersScript (texts : TextForm) (script : List ℕ) (answer : Answer) : Type 0 where
  pub whole : Part
  pub runs : Runs texts script whole
  pub writes : answer.writes ≡ whole.writes
  pub status : answer.status ≡ status_of whole.is_refused

-- the answer to a script where the words ask for this form, or are out of form
abbrev pub AnswersForm : Option TextForm → List ℕ → Answer → Type 0
AnswersForm None script answer = answer ≡ usage_answer
AnswersForm (Some texts) script answer = AnswersScript texts script answer

-- the answer to words and a script
abbrev pub IsAnswer : List (List ℕ) → List ℕ → Answer → Type 0
IsAnswer words script answer = AnswersForm (words_form words) script answer
