-- Laws of pieces, from those of their tokens.
use Rattle.std.proofs.Common.{◌≡◌, ◌<◌, ◌≤◌, ℕ, Bool, true, false, Result, Ok, Err, List, length, take, refl, sym, ap, ◌∙◌, subst, arith, inl, inr, ◌⊎◌}
use Rattle.std.proofs.lemmas.Bool.{cases_lt}
use Rattle.std.specs.Str.{IsUtf8, is_utf8}
use Rattle.std.proofs.lemmas.Str.{IsUtf8-from_is_utf8, is_utf8-from_IsUtf8}
use Rattle.spec_syntax.specs.declared.statement.Statement.{Statement}
use Rattle.spec_reader.specs.declared.place.Place.{Place}
use Rattle.spec_reader.specs.declared.refusal.Fault.{Fault}
use Rattle.spec_reader.specs.declared.refusal.Fault.TheVariants as fault
use Rattle.spec_reader.specs.declared.refusal.Which.{Which}
use Rattle.spec_reader.specs.declared.refusal.Which.TheVariants as which
use Rattle.spec_reader.specs.declared.refusal.ReadRefused.{ReadRefused}
use Rattle.spec_reader.specs.declared.refusal.ReadRefused.TheVariants as refused
use Rattle.spec_reader.specs.Tokens.{tokens}
use Rattle.spec_reader.specs.Limits.{Passes, Repeats}
use Rattle.spec_reader.specs.Places.{place_behind}
use Rattle.spec_reader.specs.Machine.{start, run}
use Rattle.spec_reader.specs.Reading.{IsText, ReadsAs, IsSyntaxAt, IsFaultBy, IsTooLong, IsNotText, IsFault, Answers}
use Rattle.spec_reader.specs.Laws.{OneReading, OneFault, SomeAnswer, NeverBoth}
use Rattle.spec_reader.proofs.Verdict.{Verdict, verdict}
use Rattle.spec_reader.proofs.Agree.{agree}

-- the answer to the tokens of a piece
abbrev pub answer_to : List ℕ → Result Statement Fault
answer_to piece = run start (length piece) (tokens piece)

-- the refusal that a fault of the tokens is
abbrev pub refusal_of : Place → List ℕ → Fault → ReadRefused
refusal_of begin piece (fault.Syntax at) = refused.Syntax (place_behind begin (take at piece)).line (place_behind begin (take at piece)).column
refusal_of begin piece (fault.DuplicateRule name) = refused.DuplicateRule name
refusal_of begin piece (fault.Limit w) = refused.Limit w
refusal_of begin piece fault.Memory = refused.Memory

pub one-reading : OneReading
one-reading piece read other first second =
    let both : Ok read ≡ Ok other = sym (agree (tokens piece) (length piece) (Ok read) first.reads) ∙ agree (tokens piece) (length piece) (Ok other) second.reads in
    cc

-- why a piece is refused
data Cause (begin : Place) (piece : List ℕ) (why : ReadRefused) : Type 0 where
  too_long : IsTooLong piece → why ≡ refused.Limit which.Statement → Cause begin piece why
  no_text : IsNotText piece → why ≡ refused.NotText → Cause begin piece why
  of_tokens : IsText piece → (f : Fault) → answer_to piece ≡ Err f → why ≡ refusal_of begin piece f → Cause begin piece why

cause : (begin : Place) (piece : List ℕ) (why : ReadRefused) → IsFault begin piece why → Cause begin piece why
cause begin piece (refused.Syntax line column) is_so =
    of_tokens is_so.text (fault.Syntax is_so.at) (agree (tokens piece) (length piece) (Err (fault.Syntax is_so.at)) is_so.unfit)
    (λ k. refused.Syntax (sym is_so.place k).line (sym is_so.place k).column)
cause begin piece (refused.DuplicateRule name) is_so =
    of_tokens is_so.text (fault.DuplicateRule name) (agree (tokens piece) (length piece) (Err (fault.DuplicateRule name)) is_so.fails) refl
cause begin piece (refused.Limit w) (inl is_so) = too_long is_so.1 (ap (λ other. refused.Limit other) is_so.0)
cause begin piece (refused.Limit w) (inr is_so) = of_tokens is_so.text (fault.Limit w) (agree (tokens piece) (length piece) (Err (fault.Limit w)) is_so.fails) refl
cause begin piece refused.NotText is_so = no_text is_so refl
cause begin piece refused.Memory is_so = absurd is_so

one-cause : (begin : Place) (piece : List ℕ) (why other : ReadRefused) → Cause begin piece why → Cause begin piece other → why ≡ other
one-cause begin piece why other (too_long long e) (too_long also f) = e ∙ sym f
one-cause begin piece why other (too_long long e) (no_text short f) = absurd (omega (arith, long.long, short.short))
one-cause begin piece why other (too_long long e) (of_tokens text g h f) = absurd (omega (arith, long.long, text.short))
one-cause begin piece why other (no_text short e) (too_long long f) = absurd (omega (arith, long.long, short.short))
one-cause begin piece why other (no_text short e) (no_text also f) = e ∙ sym f
one-cause begin piece why other (no_text short e) (of_tokens text g h f) = absurd (short.other text.utf8)
one-cause begin piece why other (of_tokens text g h e) (too_long long f) = absurd (omega (arith, long.long, text.short))
one-cause begin piece why other (of_tokens text g h e) (no_text short f) = absurd (short.other text.utf8)
one-cause begin piece why other (of_tokens text g h e) (of_tokens also k l f) =
    let both : Err g ≡ Err k = sym h ∙ l in
    let same : g ≡ k = cc in
    e ∙ ap (refusal_of begin piece) same ∙ sym f

pub one-fault : OneFault
one-fault begin piece why other first second = one-cause begin piece why other (cause begin piece why first) (cause begin piece other second)

not-both : (begin : Place) (piece : List ℕ) (read : Statement) (why : ReadRefused) → ReadsAs piece read → Cause begin piece why → ⊥
not-both begin piece read why reads (too_long long e) = omega (arith, long.long, reads.text.short)
not-both begin piece read why reads (no_text short e) = short.other reads.text.utf8
not-both begin piece read why reads (of_tokens text g h e) =
    let both : Ok read ≡ Err g = sym (agree (tokens piece) (length piece) (Ok read) reads.reads) ∙ h in
    cc

pub never-both : NeverBoth
never-both begin piece read why reads is_so = not-both begin piece read why reads (cause begin piece why is_so)

-- an answer to tokens is one to their piece
pub answers-of : (begin : Place) (piece : List ℕ) (answer : Result Statement Fault) → IsText piece → Verdict (tokens piece) (length piece) answer
    → (result : Result Statement ReadRefused) × Answers begin piece result
answers-of begin piece (Ok read) text is_so = (Ok read, record { text = text; reads = is_so })
answers-of begin piece (Err (fault.Syntax at)) text is_so =
    (Err (refusal_of begin piece (fault.Syntax at)), record { text = text; at = at; unfit = is_so; place = refl })
answers-of begin piece (Err (fault.DuplicateRule name)) text is_so = (Err (refused.DuplicateRule name), record { text = text; fails = is_so })
answers-of begin piece (Err (fault.Limit w)) text is_so = (Err (refused.Limit w), inr (record { text = text; fails = is_so }))
answers-of begin piece (Err fault.Memory) text is_so = absurd is_so

text-or-not : (begin : Place) (piece : List ℕ) (utf8 : Bool) → is_utf8 piece ≡ utf8 → length piece ≤ 65536 → (result : Result Statement ReadRefused) × Answers begin piece result
text-or-not begin piece true e short =
    answers-of begin piece (answer_to piece) (record { short = short; utf8 = IsUtf8-from_is_utf8 piece e }) (verdict (tokens piece) (length piece))
text-or-not begin piece false e short = (Err refused.NotText, record { short = short; other = λ utf8. cc (is_utf8-from_IsUtf8 piece utf8, e) })

short-or-not : (begin : Place) (piece : List ℕ) → (65536 < length piece) ⊎ (length piece ≤ 65536) → (result : Result Statement ReadRefused) × Answers begin piece result
short-or-not begin piece (inl long) = (Err (refused.Limit which.Statement), inl (refl, record { long = long }))
short-or-not begin piece (inr short) = text-or-not begin piece (is_utf8 piece) refl short

pub some-answer : SomeAnswer
some-answer begin piece = short-or-not begin piece (cases_lt 65536 (length piece))

-- what a piece is by the answer to its tokens
pub read-as : (piece : List ℕ) (read : Statement) → length piece ≤ 65536 → IsUtf8 piece → answer_to piece ≡ Ok read → ReadsAs piece read
read-as piece read short utf8 answer =
    record { text = record { short = short; utf8 = utf8 }; reads = subst (Verdict (tokens piece) (length piece)) answer (verdict (tokens piece) (length piece)) }

pub syntax-at : (begin : Place) (piece : List ℕ) (at : ℕ) (place : Place) → length piece ≤ 65536 → IsUtf8 piece → answer_to piece ≡ Err (fault.Syntax at)
    → place ≡ place_behind begin (take at piece) → IsSyntaxAt begin piece place.line place.column
syntax-at begin piece at place short utf8 answer there = record {
  text = record { short = short; utf8 = utf8 };
  at = at;
  unfit = subst (Verdict (tokens piece) (length piece)) answer (verdict (tokens piece) (length piece));
  place = sym there;
}

pub repeats-by : (piece name : List ℕ) → length piece ≤ 65536 → IsUtf8 piece → answer_to piece ≡ Err (fault.DuplicateRule name) → IsFaultBy piece (Repeats name)
repeats-by piece name short utf8 answer =
    record { text = record { short = short; utf8 = utf8 }; fails = subst (Verdict (tokens piece) (length piece)) answer (verdict (tokens piece) (length piece)) }

pub passes-by : (piece : List ℕ) (w : Which) → length piece ≤ 65536 → IsUtf8 piece → answer_to piece ≡ Err (fault.Limit w) → IsFaultBy piece (Passes w)
passes-by piece w short utf8 answer =
    record { text = record { short = short; utf8 = utf8 }; fails = subst (Verdict (tokens piece) (length piece)) answer (verdict (tokens piece) (length piece)) }
