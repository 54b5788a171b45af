-- How the effects of statements are made, by what was written.
use Rattle.std.proofs.Common.{◌≡◌, ◌≤◌, [], ◌++◌, arith, ℕ, Bool, true, false, List, if◌then◌else◌, Option, Result, Ok, Err, IfErr, IsErrAnd, refl, sym, ap, subst}
use Rattle.std.specs.Io.KnownBytes.{Appends}
use Rattle.comb_io.specs.Parts.{AppendsPart, AppendsProperPrefix, AppendsBefore}
use Rattle.comb_io.proofs.Parts.{AppendsBefore-part, AppendsPart-nothing, AppendsPart-append}
use Rattle.comb_io.specs.Writes.{to_out, Wrote, WrotePart}
use Rattle.comb_io.proofs.Written.{Wrote-nil, Wrote-to_out, Wrote-to_err, WrotePart-to_out, WrotePart-to_err, WrotePart-fewer}
use Rattle.session.specs.declared.fault.SessionFault.{SessionFault}
use Rattle.session.specs.declared.fault.SessionFault.TheVariants as fault
use Rattle.session.specs.declared.fault.Outcome.{Outcome}
use Rattle.session.specs.declared.fault.Outcome.TheVariants.{Done, Refused}
use Rattle.session.specs.declared.refusal.Refusal.{Refusal}
use Rattle.session.specs.Refusals.{refusal_number, refusal_line}
use Rattle.session.specs.Effect.{Effect, Setting, answering, refusing}
use Rattle.session.specs.Ending.{unwritten_by, Blames, HasStepCause, Makes}

at_most_one : (whose : SessionFault) → unwritten_by whose ≤ 1
at_most_one fault.Out = omega arith
at_most_one fault.Err = omega arith
at_most_one fault.Memory = omega arith

-- nothing is written where memory was wanting before
pub Makes-nothing : (out err : Option (List ℕ)) (whole : Effect) → Makes out out err err whole (Err fault.Memory)
Makes-nothing out err whole = record { count = 0; within = omega arith; wrote = Wrote-nil out err }

-- the same effect under another name
pub Makes-same : (out out' err err' : Option (List ℕ)) (one other : Effect) (result : Result Outcome SessionFault) → one ≡ other → Makes out out' err err' one result → Makes out out' err err' other result
Makes-same out out' err err' one other result same made = let P : Effect → Type 0 = λ e. Makes out out' err err' e result in subst P same made

-- a statement that ends with a colon writes no text
pub Makes-quiet : (out err : Option (List ℕ)) (setting : Setting) (text : List ℕ) → setting.is_quiet ≡ true → Makes out out err err (answering setting text) (Ok Done)
Makes-quiet out err setting text quiet =
    (subst (Wrote out out err err) (ap (λ (b : Bool). if b then [] else to_out text) (sym quiet)) (Wrote-nil out err), refl)

module _ (out out' err : Option (List ℕ)) (setting : Setting) (text told : List ℕ) (is : told ≡ text) (loud : setting.is_quiet ≡ false) where
  all_written : to_out text ≡ (answering setting text).writes
  all_written = ap (λ (b : Bool). if b then [] else to_out text) (sym loud)

  -- another one writes it whole
  pub Makes-wrote : Appends out out' told → Makes out out' err err (answering setting text) (Ok Done)
  Makes-wrote grown = (subst (Wrote out out' err err) all_written (Wrote-to_out out out' err text (subst (Appends out out') is grown)), refl)

  -- or a part of it
  pub Makes-wrote-part : (whose : SessionFault) → AppendsPart (unwritten_by whose) out out' told → Makes out out' err err (answering setting text) (Err whose)
  Makes-wrote-part whose part =
      let one : WrotePart (unwritten_by whose) out out' err err (to_out text) = WrotePart-to_out out out' err text (subst (AppendsPart (unwritten_by whose) out out') is part) in
      subst (WrotePart (unwritten_by whose) out out' err err) all_written one

module _ (out err err' : Option (List ℕ)) (setting : Setting) (why : Refusal) (told : List ℕ) (is : told ≡ refusal_line setting.line why) where
  -- a refusal was told whole
  pub Makes-refused : (number : ℕ) → number ≡ refusal_number why → Appends err err' told → Makes out out err err' (refusing setting why) (Ok (Refused number))
  Makes-refused number same grown = (Wrote-to_err out err err' (refusal_line setting.line why) (subst (Appends err err') is grown), ap Refused same)

  -- and in part
  pub Makes-refused-part : (whose : SessionFault) → AppendsProperPrefix err err' told → Makes out out err err' (refusing setting why) (Err whose)
  Makes-refused-part whose part =
      WrotePart-fewer (at_most_one whose) (WrotePart-to_err out err err' (refusal_line setting.line why) (subst (AppendsProperPrefix err err') is part))

-- ---- a fault that is passed on

pub cause_passed : {A : Type 0} (result : Result A SessionFault) (whose : SessionFault) (out out' err err' : ℕ) → IsErrAnd result (λ passed. passed ≡ whose) → Blames out out' err err' whose
    → HasStepCause out out' err err' result
cause_passed (Ok a) whose out out' err err' gives blames = absurd gives
cause_passed (Err passed) whose out out' err err' gives blames = subst (Blames out out' err err') (sym gives) blames

pub makes_passed : (out out' err err' : Option (List ℕ)) (whole : Effect) (result : Result Outcome SessionFault) (whose : SessionFault) → IsErrAnd result (λ passed. passed ≡ whose)
    → Makes out out' err err' whole (Err whose) → Makes out out' err err' whole result
makes_passed out out' err err' whole (Ok outcome) whose gives made = absurd gives
makes_passed out out' err err' whole (Err passed) whose gives made = subst (λ (f : SessionFault). Makes out out' err err' whole (Err f)) (sym gives) made

pub part_passed : {A : Type 0} (result : Result A SessionFault) (whose : SessionFault) (old new : Option (List ℕ)) (piece : List ℕ) → IsErrAnd result (λ passed. passed ≡ whose)
    → AppendsPart (unwritten_by whose) old new piece → IfErr result (λ fault. AppendsPart (unwritten_by fault) old new piece)
part_passed (Ok a) whose old new piece gives part = tt
part_passed (Err passed) whose old new piece gives part = subst (λ (f : SessionFault). AppendsPart (unwritten_by f) old new piece) (sym gives) part

-- memory was wanting when a part of the piece was written
pub part_so_far : {A : Type 0} (result : Result A SessionFault) (old new : Option (List ℕ)) (piece rest : List ℕ) → IsErrAnd result (λ passed. passed ≡ fault.Memory)
    → AppendsBefore old new piece rest → IfErr result (λ fault. AppendsPart (unwritten_by fault) old new piece)
part_so_far result old new piece rest gives so_far =
    part_passed result fault.Memory old new piece gives (AppendsBefore-part 0 old new new piece rest so_far (AppendsPart-nothing new rest))

-- and a sink failed when it was to take the rest, or what begins with it
pub part_behind : {A : Type 0} (result : Result A SessionFault) (whose : SessionFault) (old mid new : Option (List ℕ)) (piece rest begun more : List ℕ) → IsErrAnd result (λ passed. passed ≡ whose)
    → AppendsBefore old mid piece rest → rest ≡ begun ++ more → AppendsPart (unwritten_by whose) mid new begun → IfErr result (λ fault. AppendsPart (unwritten_by fault) old new piece)
part_behind result whose old mid new piece rest begun more gives so_far is part =
    part_passed result whose old new piece gives
    (AppendsBefore-part (unwritten_by whose) old mid new piece rest so_far
    (subst (AppendsPart (unwritten_by whose) mid new) (sym is) (AppendsPart-append (unwritten_by whose) mid new begun more part)))
