-- Laws of parts of a script that are run one after the other, and of the counts of faults at their end.
use Rattle.std.proofs.Common.{◌≡◌, ◌⊎◌, inl, inr, ◌≤◌, arith, ℕ, Bool, true, false, List, ◌||◌, Option, Result, Ok, Err, refl, sym, subst, ◌∙◌}
use Rattle.std.specs.Io.KnownBytes.{Appends}
use Rattle.comb_io.specs.Parts.{AppendsProperPrefix}
use Rattle.comb_io.specs.Writes.{Wrote, WrotePart}
use Rattle.comb_io.proofs.Written.{Wrote-nil, Wrote-append, Wrote-to_err, WrotePart-append, WrotePart-after, WrotePart-to_err, WrotePart-fewer}
use Rattle.struct_text.specs.declared.form.TextForm.{TextForm}
use Rattle.combstruct_cli.specs.declared.fault.Fault.{Fault}
use Rattle.combstruct_cli.specs.declared.fault.Fault.TheVariants as fault
use Rattle.combstruct_cli.specs.declared.run.Outcome.{Outcome}
use Rattle.combstruct_cli.specs.declared.run.Outcome.TheVariants.{Done, Refused}
use Rattle.combstruct_cli.specs.declared.run.Status.{Status}
use Rattle.combstruct_cli.specs.declared.run.Status.TheVariants as status
use Rattle.session.specs.declared.refusal.Refusal.{Refusal}
use Rattle.session.specs.Refusals.{refusal_line}
use Rattle.combstruct_cli.specs.Answer.{Part, Answer, AnswersScript, telling, followed_by}
use Rattle.combstruct_cli.specs.Outcome.{outcome_of, either, unwritten_by, end_status, Makes, Ends, Gives, NoneRises, Blames, HasRunCause, HasStatusCause, DidNotRise}
use Rattle.combstruct_cli.proofs.AnswerLemmas.{status-done, status-refused}

at_most_one : (whose : Fault) → unwritten_by whose ≤ 1
at_most_one fault.Input = omega arith
at_most_one fault.Output = omega arith
at_most_one fault.Errors = omega arith
at_most_one fault.Memory = omega arith

either-outcome_of : (first second : Bool) → either (outcome_of first) (outcome_of second) ≡ outcome_of (first || second)
either-outcome_of true second = refl
either-outcome_of false second = refl

module _ (out mid out' err mid_err err' : Option (List ℕ)) (first second : Part) (outcome : Outcome) (made : Makes out mid err mid_err first (Ok outcome)) where
  -- a fault in the second part
  pub Makes-second : (whose : Fault) → Makes mid out' mid_err err' second (Err whose) → Makes out out' err err' (followed_by first second) (Err whose)
  Makes-second whose part = WrotePart-after made.0 part

  -- both parts
  pub Makes-both : (other : Outcome) → Makes mid out' mid_err err' second (Ok other) → Makes out out' err err' (followed_by first second) (Ok (either outcome other))
  Makes-both other also =
      (Wrote-append made.0 also.0, (λ i. either (made.1 i) (also.1 i)) ∙ either-outcome_of first.is_refused second.is_refused)

module _ (out out' err err' : Option (List ℕ)) where
  -- a fault in the first part ends both
  pub Makes-first : (first second : Part) (whose : Fault) → Makes out out' err err' first (Err whose) → Makes out out' err err' (followed_by first second) (Err whose)
  Makes-first first second whose part = WrotePart-append second.writes part

  -- a refusal was told whole
  pub Makes-refused : (text : List ℕ) (line : ℕ) (why : Refusal) → Appends err err' text → text ≡ refusal_line line why → Makes out out err err' (telling line why) (Ok Refused)
  Makes-refused text line why grown is = (Wrote-to_err out err err' (refusal_line line why) (subst (Appends err err') is grown), refl)

  -- and in part
  pub Makes-refused-part : (text : List ℕ) (line : ℕ) (why : Refusal) (whose : Fault) → AppendsProperPrefix err err' text → text ≡ refusal_line line why → Makes out out err err' (telling line why) (Err whose)
  Makes-refused-part text line why whose part is =
      WrotePart-fewer (at_most_one whose) (WrotePart-to_err out err err' (refusal_line line why) (subst (AppendsProperPrefix err err') is part))

  -- the same part under another name
  pub Makes-same : (one other : Part) (result : Result Outcome Fault) → one ≡ other → Makes out out' err err' one result → Makes out out' err err' other result
  Makes-same one other result same made = let P : Part → Type 0 = λ e. Makes out out' err err' e result in subst P same made

module _ (out out' err err' : Option (List ℕ)) (texts : TextForm) (given : List ℕ) (answer : Answer) (runs : AnswersScript texts given answer) where
  wrote-answer : Wrote out out' err err' runs.whole.writes → Wrote out out' err err' answer.writes
  wrote-answer made = subst (Wrote out out' err err') (sym runs.writes) made

  part-answer : (unwritten : ℕ) → WrotePart unwritten out out' err err' runs.whole.writes → WrotePart unwritten out out' err err' answer.writes
  part-answer unwritten made = subst (WrotePart unwritten out out' err err') (sym runs.writes) made

  -- what a run of the script made is the answer to it
  pub Ends-made : (ended : Result Outcome Fault) → Makes out out' err err' runs.whole ended → Ends out out' err err' answer (end_status ended)
  Ends-made (Ok Done) made = (wrote-answer made.0, runs.status ∙ status-done runs.whole.is_refused made.1)
  Ends-made (Ok Refused) made = (wrote-answer made.0, runs.status ∙ status-refused runs.whole.is_refused made.1)
  Ends-made (Err fault.Input) made = part-answer 0 made
  Ends-made (Err fault.Output) made = part-answer 1 made
  Ends-made (Err fault.Errors) made = part-answer 1 made
  Ends-made (Err fault.Memory) made = part-answer 0 made

-- ---- the counts of faults

-- no count rose, and then some part of a run ended
pub HasRunCause-after : {A : Type 0} (input mid input' out mid_out out' err mid_err err' : ℕ) (ended : Result A Fault) → NoneRises input mid out mid_out err mid_err
    → HasRunCause mid input' mid_out out' mid_err err' ended → HasRunCause input input' out out' err err' ended
HasRunCause-after input mid input' out mid_out out' err mid_err err' ended same cause =
    let P : ℕ → Type 0 = λ i. HasRunCause i input' mid_out out' mid_err err' ended in
    let Q : ℕ → Type 0 = λ o. HasRunCause input input' o out' mid_err err' ended in
    let R : ℕ → Type 0 = λ e. HasRunCause input input' out out' e err' ended in
    subst R same.2 (subst Q same.1 (subst P same.0 cause))

-- where the outputs can't be to blame, nothing was written
pub Makes-nothing : (out err : Option (List ℕ)) (input input' : ℕ) (whole : Part) (whose : Fault) → ((o e : ℕ) → Blames input input' o o e e whose) → Makes out out err err whole (Err whose)
Makes-nothing out err input input' whole fault.Input blames = record { count = 0; within = omega arith; wrote = Wrote-nil out err }
Makes-nothing out err input input' whole fault.Output blames = let rises = (blames 0 0).1 in absurd (omega (arith, rises.rose))
Makes-nothing out err input input' whole fault.Errors blames = let rises = (blames 0 0).2 in absurd (omega (arith, rises.rose))
Makes-nothing out err input input' whole fault.Memory blames = record { count = 0; within = omega arith; wrote = Wrote-nil out err }

module _ (input input' out out' err err' : ℕ) where
  pub HasStatusCause-of : (ended : Result Outcome Fault) → HasRunCause input input' out out' err err' ended → HasStatusCause input input' out out' err err' (end_status ended)
  HasStatusCause-of (Ok Done) cause = cause
  HasStatusCause-of (Ok Refused) cause = cause
  HasStatusCause-of (Err fault.Input) cause = cause
  HasStatusCause-of (Err fault.Output) cause = inl cause
  HasStatusCause-of (Err fault.Errors) cause = inr cause
  HasStatusCause-of (Err fault.Memory) cause = cause

  -- where no count shows a fault, the run gave the answer whole or wanted memory
  pub complete : (out_bytes out_bytes' err_bytes err_bytes' : Option (List ℕ)) (answer : Answer) (ended : Status) → HasStatusCause input input' out out' err err' ended
      → Ends out_bytes out_bytes' err_bytes err_bytes' answer ended → DidNotRise input input' → DidNotRise out out' → DidNotRise err err'
      → Gives out_bytes out_bytes' err_bytes err_bytes' answer ended ⊎ (ended ≡ status.Memory)
  complete _ _ _ _ answer status.Well cause ends _ _ _ = inl (ends.0, sym ends.1)
  complete _ _ _ _ answer status.SomeRefused cause ends _ _ _ = inl (ends.0, sym ends.1)
  complete _ _ _ _ answer status.Words cause ends _ _ _ = inl (ends.0, sym ends.1)
  complete _ _ _ _ answer status.Input cause ends unfailed _ _ = absurd (unfailed cause.0.rose)
  complete _ _ _ _ answer status.Output (inl cause) ends _ unfailed _ = absurd (unfailed cause.1.rose)
  complete _ _ _ _ answer status.Output (inr cause) ends _ _ unfailed = absurd (unfailed cause.2.rose)
  complete _ _ _ _ answer status.Memory cause ends _ _ _ = inr refl
