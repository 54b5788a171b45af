-- Each script has one answer.
use Rattle.std.proofs.Common.{◌≡◌, ℕ, ◌+◌, false, List, [], ◌∷◌, Option, Some, None, Result, Ok, Err, subst, take, slice_range, refl, sym, ap, ◌∙◌}
use Rattle.std.specs.List.{filter}
use Rattle.spec_syntax.specs.declared.statement.Statement.{Statement}
use Rattle.spec_reader.specs.declared.place.Place.{Place}
use Rattle.spec_reader.specs.declared.refusal.ReadRefused.{ReadRefused}
use Rattle.spec_reader.specs.Cutting.{pieces}
use Rattle.spec_reader.specs.Reading.{Answers}
use Rattle.spec_reader.proofs.InForce.{readings-in-force}
use Rattle.spec_reader.proofs.Keeps.{readings-keep}
use Rattle.spec_reader.proofs.Pieces.{some-answer}
use Rattle.struct_text.specs.declared.form.TextForm.{TextForm}
use Rattle.session.specs.declared.refusal.Refusal.TheVariants as refusal
use Rattle.session.specs.Effect.{State, first_state, Effect, refusing}
use Rattle.session.proofs.EffectsExist.{some_effect, one_effect}
use Rattle.combstruct_cli.specs.Answer.{Part, Answer, PieceDoes, RunsPiece, RunsPieces, Runs, followed_by, part_of, place_in, refusing_long, is_early, most_bytes, status_of, usage_answer, AnswersForm}
use Rattle.combstruct_cli.specs.Words.{words_form}
use Rattle.combstruct_cli.specs.Laws.{SomeAnswer, OneAnswer}
use Rattle.combstruct_cli.proofs.ReadingLemmas.{answers_same}

-- a piece that is read does something
some-piece : (place : Place) (piece : List ℕ) (reading : Result Statement ReadRefused) (line : ℕ) (texts : TextForm) (state : State) → Answers place piece reading
    → (effect : Effect) × PieceDoes reading line texts state effect
some-piece place piece (Ok statement) line texts state reads = some_effect statement line texts state (readings-in-force piece statement reads) (readings-keep piece statement reads)
some-piece place piece (Err why) line texts state reads = (refusing (record { is_quiet = false; line = line; state = state }) (refusal.Read why), refl)

some-run : (script : List ℕ) (piece : ℕ × ℕ) (texts : TextForm) (state : State) → (effect : Effect) × RunsPiece script piece texts state effect
some-run script piece texts state =
    let place = place_in script piece.0 in
    let bytes = slice_range script piece.0 piece.1 in
    let read = some-answer place bytes in
    let does = some-piece place bytes read.0 place.line texts state read.1 in
    (does.0, record { reading = read.0; reads = read.1; does = does.1 })

some-part : (script : List ℕ) (ps : List (ℕ × ℕ)) (texts : TextForm) (state : State) → (whole : Part) × RunsPieces script ps texts state whole
some-part script [] texts state = (refusing_long script, refl)
some-part script (piece ∷ later) texts state =
    let first = some-run script piece texts state in
    let rest = some-part script later texts first.0.next in
    (followed_by (part_of first.0) rest.0, (first.0, rest.0, first.1, rest.1, refl))

some-whole : (texts : TextForm) (script : List ℕ) → (whole : Part) × Runs texts script whole
some-whole texts script = let seen = take (most_bytes + 1) script in some-part seen (filter is_early (pieces seen)) texts first_state

some-answer-in : (form : Option TextForm) (script : List ℕ) → (answer : Answer) × AnswersForm form script answer
some-answer-in None script = (usage_answer, refl)
some-answer-in (Some texts) script =
    let does = some-whole texts script in
    (record { writes = does.0.writes; status = status_of does.0.is_refused }, record { whole = does.0; runs = does.1; writes = refl; status = refl })

pub some-script : (words : List (List ℕ)) → SomeAnswer words
some-script words script = some-answer-in (words_form words) script

-- it does nothing else
one-piece : (place : Place) (piece : List ℕ) (reading : Result Statement ReadRefused) (line : ℕ) (texts : TextForm) (state : State) (one other : Effect) → Answers place piece reading
    → PieceDoes reading line texts state one → PieceDoes reading line texts state other → one ≡ other
one-piece place piece (Ok statement) line texts state one other reads p q =
    one_effect statement line texts state one other (readings-in-force piece statement reads) (readings-keep piece statement reads) p q
one-piece place piece (Err why) line texts state one other reads p q = p ∙ sym q

one-run : (script : List ℕ) (piece : ℕ × ℕ) (texts : TextForm) (state : State) (one other : Effect) → RunsPiece script piece texts state one → RunsPiece script piece texts state other → one ≡ other
one-run script piece texts state one other p q =
    let place = place_in script piece.0 in
    let bytes = slice_range script piece.0 piece.1 in
    let same = answers_same place bytes p.reading q.reading p.reads q.reads in
    one-piece place bytes q.reading place.line texts state one other q.reads (subst (λ (r : Result Statement ReadRefused). PieceDoes r place.line texts state one) same p.does) q.does

one-part : (script : List ℕ) (ps : List (ℕ × ℕ)) (texts : TextForm) (state : State) (one other : Part) → RunsPieces script ps texts state one → RunsPieces script ps texts state other → one ≡ other
one-part script [] texts state one other p q = p ∙ sym q
one-part script (piece ∷ later) texts state one other p q =
    let first : p.0 ≡ q.0 = one-run script piece texts state p.0 q.0 p.2 q.2 in
    let rest : p.1 ≡ q.1 = one-part script later texts q.0.next p.1 q.1 (subst (λ (effect : Effect). RunsPieces script later texts effect.next p.1) first p.3) q.3 in
    p.4 ∙ ap (λ (effect : Effect). followed_by (part_of effect) p.1) first ∙ ap (followed_by (part_of q.0)) rest ∙ sym q.4

one-of : (one other : Answer) → one.writes ≡ other.writes → one.status ≡ other.status → one ≡ other
one-of one other same_writes same_status = λ i. record { writes = same_writes i; status = same_status i }

one-answer-in : (form : Option TextForm) (script : List ℕ) (one other : Answer) → AnswersForm form script one → AnswersForm form script other → one ≡ other
one-answer-in None script one other p q = p ∙ sym q
one-answer-in (Some texts) script one other p q =
    let seen = take (most_bytes + 1) script in
    let same = one-part seen (filter is_early (pieces seen)) texts first_state p.whole q.whole p.runs q.runs in
    one-of one other (p.writes ∙ ap (λ (part : Part). part.writes) same ∙ sym q.writes) (p.status ∙ ap (λ (part : Part). status_of part.is_refused) same ∙ sym q.status)

pub one-script : (words : List (List ℕ)) → OneAnswer words
one-script words script one other p q = one-answer-in (words_form words) script one other p q
