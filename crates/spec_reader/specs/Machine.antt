-- Reading tokens one by one, by the table: what is expected, what was seen, and what is built.
use Rattle.std.specs.Prelude.{ℕ, ◌≡◌, ◌≤◌, Bool, true, ◌&&◌, not, nat_le, Option, Some, None, Result, Ok, Err, List, [], ◌∷◌, ◌++◌, reverse, length, zip}
use Rattle.std.specs.List.{list_all}
use Rattle.spec_syntax.specs.declared.statement.RulesRef.TheVariants as rules_ref
use Rattle.spec_syntax.specs.declared.statement.ClassRef.TheVariants as class_ref
use Rattle.spec_syntax.specs.declared.statement.Job.TheVariants as job
use Rattle.spec_syntax.specs.declared.statement.Form.{Form}
use Rattle.spec_syntax.specs.declared.statement.Form.TheVariants as form
use Rattle.spec_syntax.specs.declared.statement.Statement.{Statement}
use Rattle.spec_syntax.specs.Expression.{Expression}
use Rattle.spec_syntax.specs.Rules.{Rules}
use Rattle.spec_syntax.specs.Word.{is_word}
use Rattle.spec_reader.specs.declared.refusal.Fault.{Fault}
use Rattle.spec_reader.specs.declared.refusal.Fault.TheVariants as fault
use Rattle.spec_reader.specs.declared.table.Item.{Item}
use Rattle.spec_reader.specs.declared.table.Item.TheVariants as item
use Rattle.spec_reader.specs.declared.table.Command.{Command}
use Rattle.spec_reader.specs.declared.seen.Seen.{Seen}
use Rattle.spec_reader.specs.declared.read.Reader.{Reader}
use Rattle.spec_reader.specs.Tokens.{Token, Placed}
use Rattle.spec_reader.specs.Limits.{Reason, Passes, Repeats, repeats}
use Rattle.spec_reader.specs.Meaning.{asks}
use Rattle.spec_reader.specs.Seen.{reason_in, seen_after}
use Rattle.spec_reader.specs.Table.{step, role_of, is_shallow}
use Rattle.spec_reader.specs.Drafts.{empty, act, is_ready, is_draft}

-- a reader of a whole statement
abbrev pub start : Reader
start = record {
  expected = item.Statement ∷ [];
  seen = record { names = []; expressions = 0 };
  draft = empty;
}

-- what comes of a token: the reader after it, or that it doesn't fit, or why it is at fault though it fits
pub data Advance : Type 0 where
  Goes : Reader → Advance
  Unfit : Advance
  Stops : Reason → Advance

abbrev pub pass : Option Reason → Item → List Item → Token → Reader → Advance
pass (Some reason) item expected token reader = Stops reason
pass None item expected token reader =
    Goes (record { expected = expected; seen = seen_after (role_of item) token reader.seen; draft = act item token reader.draft })

abbrev pub take_row : Option (List Item) → Item → List Item → Token → Reader → Advance
take_row None item rest token reader = Unfit
take_row (Some row) item rest token reader = pass (reason_in reader.seen (role_of item) token) item (row ++ rest) token reader

abbrev pub take_on : List Item → Token → Reader → Advance
take_on [] token reader = Unfit
take_on (item ∷ rest) token reader = take_row (step item token) item rest token reader

abbrev pub advance : Reader → Token → Advance
advance reader token = take_on reader.expected token reader

-- the rules with these names and right sides, both from the last to the first
abbrev pub rules_from : List (List ℕ) → List Expression → Rules
rules_from names rights = zip (reverse names) (reverse rights)

abbrev pub form_of : Option Command → Reader → Form
form_of None reader = form.Empty
form_of (Some command) reader =
    asks command (job.Grammar (class_ref.Written reader.draft.symbol (rules_ref.Written (rules_from reader.seen.names reader.draft.rights)) reader.draft.universe) reader.draft.size)

-- the statement that is built where nothing is expected any more
abbrev pub finished : List Item → ℕ → Reader → Result Statement Fault
finished (item ∷ items) end reader = Err (fault.Syntax end)
finished [] end reader = Ok (record { form = form_of reader.draft.command reader; quiet = reader.draft.quiet })

abbrev pub fault_of : Reason → Fault
fault_of (Passes which) = fault.Limit which
fault_of (Repeats name) = fault.DuplicateRule name

abbrev pub go_on : Advance → ℕ → (Reader → Result Statement Fault) → Result Statement Fault
go_on (Goes reader) at more = more reader
go_on Unfit at more = Err (fault.Syntax at)
go_on (Stops reason) at more = Err (fault_of reason)

-- what a reader answers to tokens, where the piece ends at place `end`
abbrev pub run : Reader → ℕ → List Placed → Result Statement Fault
run reader end [] = finished reader.expected end reader
run reader end (placed ∷ rest) = go_on (advance reader placed.token) placed.at (λ next. run next end rest)

-- is it the fault at a place that an answer names, or want of memory
abbrev pub IsStop : Advance → ℕ → Fault → Type 0
IsStop advance at (fault.Syntax place) = (advance ≡ Unfit) × (place ≡ at)
IsStop advance at (fault.DuplicateRule name) = advance ≡ Stops (Repeats name)
IsStop advance at (fault.Limit which) = advance ≡ Stops (Passes which)
IsStop advance at fault.Memory = Unit {0}

-- is it the answer, or want of memory
abbrev pub IsAnswer : Result Statement Fault → Result Statement Fault → Type 0
IsAnswer answer (Ok statement) = answer ≡ Ok statement
IsAnswer answer (Err (fault.Syntax at)) = answer ≡ Err (fault.Syntax at)
IsAnswer answer (Err (fault.DuplicateRule name)) = answer ≡ Err (fault.DuplicateRule name)
IsAnswer answer (Err (fault.Limit which)) = answer ≡ Err (fault.Limit which)
IsAnswer answer (Err fault.Memory) = Unit {0}

-- is the place of the fault, if it has one, at most n
abbrev pub IsWithin : ℕ → Fault → Type 0
IsWithin n (fault.Syntax at) = at ≤ n
IsWithin n (fault.DuplicateRule name) = Unit {0}
IsWithin n (fault.Limit which) = Unit {0}
IsWithin n fault.Memory = Unit {0}

abbrev pub are_distinct : List (List ℕ) → Bool
are_distinct [] = true
are_distinct (name ∷ names) = not (repeats names name) && are_distinct names

abbrev pub is_sound_seen : Seen → Bool
is_sound_seen seen =
    are_distinct (reverse seen.names) && list_all is_word (reverse seen.names) && nat_le (length seen.names) 64 && nat_le seen.expressions 128

-- what a reader keeps: its rules are within the limits, and the table can go on
abbrev pub is_sound : Reader → Bool
is_sound reader =
    list_all is_shallow reader.expected && is_ready reader.expected reader.draft.pending
    && is_sound_seen reader.seen && is_draft reader.seen.expressions reader.draft
