use Rattle.std.proofs.Common.{◌≡◌, ◌+◌, ◌≤◌, ℕ, List, ◌∷◌, Option, Some, None, Result, Ok, Err, drop, slice_range, refl, sym, ap, subst, ◌∙◌, arith}
use Rattle.comb_io.proofs.Parts.{take-rest}
use Rattle.comb_io.proofs.Written.{Wrote-nil}
use Rattle.spec_syntax.specs.declared.statement.Statement.{Statement}
use Rattle.spec_reader.specs.declared.place.Place.{Place}
use Rattle.spec_reader.specs.declared.refusal.ReadRefused.{ReadRefused}
use Rattle.spec_reader.specs.Cutting.{first_piece_of}
use Rattle.spec_reader.specs.Reading.{Answers}
use Rattle.spec_reader.proofs.PieceLemmas.{piece-behind}
use Rattle.struct_text.specs.declared.form.TextForm.{TextForm}
use Rattle.session.specs.Effect.{State, Effect}
use Rattle.combstruct_cli.specs.declared.fault.Fault.{Fault}
use Rattle.combstruct_cli.specs.declared.run.Outcome.{Outcome}
use Rattle.combstruct_cli.specs.Answer.{Part, PieceDoes, RunsPiece, RunsPieces, part_of, followed_by, place_in}
use Rattle.combstruct_cli.specs.Outcome.{Makes}
use Rattle.combstruct_cli.specs.Steps.{early_behind, Did}
use Rattle.combstruct_cli.proofs.PieceLemmas.{none_left, late_left, early_left}
use Rattle.combstruct_cli.proofs.RunLemmas.{Makes-first, Makes-same}
use Rattle.combstruct_cli.proofs.run.run_next.Goals as goal

pub returns-in_default-clause-makes : goal.returns-in_default-clause-makes
returns-in_default-clause-makes g c =
    λ whole runs.
    let script : List ℕ = c.args.script.now in
    let none : first_piece_of (drop c.args.at script) ≡ None = sym (c.in_default.ensures.piece ∙ ap first_piece_of (take-rest c.args.at script)) in (
      Wrote-nil (g.O.Sink.written c.args.out.now) (g.E.Sink.written c.args.err.now),
      subst (λ (ps : List (ℕ × ℕ)). RunsPieces script ps c.args.session.now.texts c.args.session.now.state whole) (none_left script c.args.at none) runs,
    )

pub returns-then-end-gt-MOST_BYTES-clause-makes : goal.returns-then-end-gt-MOST_BYTES-clause-makes
returns-then-end-gt-MOST_BYTES-clause-makes g c =
    λ whole runs.
    let script : List ℕ = c.args.script.now in
    let found : first_piece_of (drop c.args.at script) ≡ Some (c.in-Some.gap, c.in-Some.length) = sym (c.in-Some.ensures.piece ∙ ap first_piece_of (take-rest c.args.at script)) in (
      Wrote-nil (g.O.Sink.written c.args.out.now) (g.E.Sink.written c.args.err.now),
      subst (λ (ps : List (ℕ × ℕ)). RunsPieces script ps c.args.session.now.texts c.args.session.now.state whole)
          (late_left script c.args.at c.in-Some.gap c.in-Some.length found (omega (arith, c.if-end-gt-MOST_BYTES.true))) runs,
    )

pub run_piece-requires-clause-begins : goal.run_piece-requires-clause-begins
run_piece-requires-clause-begins g c =
    let script : List ℕ = c.args.script.now in
    let found : first_piece_of (drop c.args.at script) ≡ Some (c.in-Some.gap, c.in-Some.length) = sym (c.in-Some.ensures.piece ∙ ap first_piece_of (take-rest c.args.at script)) in
    (piece-behind script c.args.at (c.in-Some.gap, c.in-Some.length) found).begins

-- what was made of the first piece of those that are left, at the place where it begins
module _ (script : List ℕ) (at start end : ℕ) (place : Place) (texts texts' : TextForm) (state state' : State) (out out' err err' : Option (List ℕ)) (whole : Part) (made : Result Outcome Fault)
    (found : first_piece_of (drop at script) ≡ Some (start, end)) (early : at + end ≤ 16777216) (placed : place ≡ place_in script (at + start))
    (makes : (reading : Result Statement ReadRefused) (effect : Effect) → Answers place (slice_range script (at + start) (at + end)) reading → PieceDoes reading place.line texts state effect
    → Makes out out' err err' (part_of effect) made)
    (runs : RunsPieces script (early_behind script at) texts state whole) where
  does : RunsPieces script ((at + start, at + end) ∷ early_behind script (at + end)) texts state whole
  does = subst (λ (ps : List (ℕ × ℕ)). RunsPieces script ps texts state whole) (early_left script at start end found early) runs

  piece : RunsPiece script (at + start, at + end) texts state does.0
  piece = does.2

  made-first : Makes out out' err err' (part_of does.0) made
  made-first =
      let Made : Place → Type 0 = λ p. Answers p (slice_range script (at + start) (at + end)) piece.reading → PieceDoes piece.reading p.line texts state does.0 → Makes out out' err err' (part_of does.0) made in
      subst Made placed (makes piece.reading does.0) piece.reads piece.does

  did : (outcome : Outcome) → made ≡ Ok outcome → texts' ≡ texts
      → ((reading : Result Statement ReadRefused) (effect : Effect) → Answers place (slice_range script (at + start) (at + end)) reading → PieceDoes reading place.line texts state effect → state' ≡ effect.next)
      → Did script (at + end) texts' state' out out' err err' whole outcome
  did outcome ended same_texts next =
      let Next : Place → Type 0 = λ p. Answers p (slice_range script (at + start) (at + end)) piece.reading → PieceDoes piece.reading p.line texts state does.0 → state' ≡ does.0.next in
      let state_is : state' ≡ does.0.next = subst Next placed (next piece.reading does.0) piece.reads piece.does in
      record {
        done = part_of does.0;
        rest = does.1;
        made = subst (Makes out out' err err' (part_of does.0)) ended made-first;
        left =
            subst (λ (t : TextForm). RunsPieces script (early_behind script (at + end)) t state' does.1) (sym same_texts)
            (subst (λ (s : State). RunsPieces script (early_behind script (at + end)) texts s does.1) (sym state_is) does.3);
        is_whole = does.4;
      }

  failed : (whose : Fault) → made ≡ Err whose → Makes out out' err err' whole (Err whose)
  failed whose ended =
      Makes-same out out' err err' (followed_by (part_of does.0) does.1) whole (Err whose) (sym does.4)
      (Makes-first out out' err err' (part_of does.0) does.1 whose (subst (Makes out out' err err' (part_of does.0)) ended made-first))

pub returns-in-Ok-clause-makes : goal.returns-in-Ok-clause-makes
returns-in-Ok-clause-makes g c =
    λ whole runs.
    let script : List ℕ = c.args.script.now in
    let found : first_piece_of (drop c.args.at script) ≡ Some (c.in-Some.gap, c.in-Some.length) = sym (c.in-Some.ensures.piece ∙ ap first_piece_of (take-rest c.args.at script)) in
    did script c.args.at c.in-Some.gap c.in-Some.length c.place_further-begins.result c.args.session.now.texts c.run_piece.new.session.texts c.args.session.now.state c.run_piece.new.session.state
    (g.O.Sink.written c.args.out.now) (g.O.Sink.written c.run_piece.new.out) (g.E.Sink.written c.args.err.now) (g.E.Sink.written c.run_piece.new.err) whole (Ok c.in-Ok.outcome)
    found (omega (arith, c.if-end-gt-MOST_BYTES.false)) c.place_further-begins.ensures.value c.in-Ok.ensures.makes runs c.in-Ok.outcome refl c.in-Ok.ensures.texts c.in-Ok.ensures.state

pub returns-in-Err-clause-makes : goal.returns-in-Err-clause-makes
returns-in-Err-clause-makes g c =
    λ whole runs.
    let script : List ℕ = c.args.script.now in
    let found : first_piece_of (drop c.args.at script) ≡ Some (c.in-Some.gap, c.in-Some.length) = sym (c.in-Some.ensures.piece ∙ ap first_piece_of (take-rest c.args.at script)) in
    failed script c.args.at c.in-Some.gap c.in-Some.length c.place_further-begins.result c.args.session.now.texts c.run_piece.new.session.texts c.args.session.now.state c.run_piece.new.session.state
    (g.O.Sink.written c.args.out.now) (g.O.Sink.written c.run_piece.new.out) (g.E.Sink.written c.args.err.now) (g.E.Sink.written c.run_piece.new.err) whole (Err c.in-Err.fault)
    found (omega (arith, c.if-end-gt-MOST_BYTES.false)) c.place_further-begins.ensures.value c.in-Err.ensures.makes runs c.in-Err.fault refl
