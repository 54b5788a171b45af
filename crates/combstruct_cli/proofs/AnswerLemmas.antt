-- Laws of the answer to a script.
use Rattle.std.specs.Io.KnownBytes.{Consumes}
use Rattle.std.proofs.lemmas.Bool.Decides.{nat_tests}
use Rattle.std.proofs.lemmas.List.{take_all, take-append-le, append-nil}
use Rattle.std.proofs.Common.{◌≡◌, ◌⊎◌, inl, inr, ◌<◌, ◌≤◌, ◌+◌, Bool, true, false, [], take, subst, leb, arith, ℕ, List, ◌++◌, length, Option, Some, None, refl, sym, ap, ◌∙◌}
use Rattle.spec_reader.specs.declared.refusal.Which.TheVariants as which
use Rattle.spec_reader.specs.declared.refusal.ReadRefused.TheVariants as read
use Rattle.session.specs.declared.refusal.Refusal.TheVariants as refusal
use Rattle.struct_text.specs.declared.form.TextForm.{TextForm}
use Rattle.combstruct_cli.specs.declared.run.Status.TheVariants as status
use Rattle.combstruct_cli.specs.declared.run.Outcome.TheVariants.{Done, Refused}
use Rattle.combstruct_cli.specs.Outcome.{outcome_of}
use Rattle.combstruct_cli.specs.Input.{IsSpent, TookOver}
use Rattle.combstruct_cli.specs.Answer.{telling, nothing, place_in, refusing_long, usage_answer, Answer, status_of, AnswersForm, AnswersScript, IsAnswer}
use Rattle.combstruct_cli.specs.Words.{words_form}

-- a script is too long or not
pub refusing_long-short : (script : List ℕ) → length script ≤ 16777216 → nothing ≡ refusing_long script
refusing_long-short script short = grind (arith, nat_tests)

pub refusing_long-long : (script : List ℕ) → 16777216 < length script → telling (place_in script 16777216).line (refusal.Read (read.Limit which.Script)) ≡ refusing_long script
refusing_long-long script long = grind (arith, nat_tests)

taken_within : (most : ℕ) (given script rest : List ℕ) → given ≡ script ++ rest → (length script ≤ most → rest ≡ []) → length script ≤ most + 1 → script ≡ take (most + 1) given
taken_within most given script rest split at_end bound = cut (leb (length script) most) refl
  where
    front : take (most + 1) script ≡ script
    front = take_all (most + 1) script bound

    cut : (b : Bool) → leb (length script) most ≡ b → script ≡ take (most + 1) given
    cut true short =
        let within : length script ≤ most = grind (arith, nat_tests, short) in
        sym (ap (take (most + 1)) (split ∙ ap (λ more. script ++ more) (at_end within) ∙ append-nil script) ∙ front)
    cut false long =
        let full : most + 1 ≤ length script = grind (arith, nat_tests, long) in
        sym (ap (take (most + 1)) split ∙ take-append-le (most + 1) script rest full ∙ front)

-- the bytes that were taken are those of the script, up to one more than the most
pub taken_whole : (most : ℕ) (given script : List ℕ) (left left' : Option (List ℕ)) → left ≡ Some given → Consumes left left' script → (length script ≤ most → IsSpent left left')
    → length script ≤ most + 1 → script ≡ take (most + 1) given
taken_whole most given script left left' told taken at_end bound =
    by left' (subst (λ (l : Option (List ℕ)). Consumes l left' script) told taken) (λ short. subst (λ (l : Option (List ℕ)). IsSpent l left') told (at_end short))
  where
    some_injective : {xs ys : List ℕ} → Some xs ≡ Some ys → xs ≡ ys
    some_injective same = cc

    by : (left' : Option (List ℕ)) → Consumes (Some given) left' script → (length script ≤ most → left' ≡ Some []) → script ≡ take (most + 1) given
    by None gone at_end = absurd gone
    by (Some rest) split at_end = taken_within most given script rest split (λ short. some_injective (at_end short)) bound

-- an answer to words out of form is the usage line
pub IsAnswer-words : (words : List (List ℕ)) (given : List ℕ) (answer : Answer) → words_form words ≡ None → IsAnswer words given answer → answer ≡ usage_answer
IsAnswer-words words given answer none is = subst (λ (form : Option TextForm). AnswersForm form given answer) none is

-- and one to words in form is what the script does
pub IsAnswer-script : (words : List (List ℕ)) (texts : TextForm) (given : List ℕ) (answer : Answer) → words_form words ≡ Some texts → IsAnswer words given answer
    → AnswersScript texts given answer
IsAnswer-script words texts given answer some is = subst (λ (form : Option TextForm). AnswersForm form given answer) some is

pub status-done : (b : Bool) → Done ≡ outcome_of b → status_of b ≡ status.Well
status-done true e = absurd (cc)
status-done false e = refl

pub status-refused : (b : Bool) → Refused ≡ outcome_of b → status_of b ≡ status.SomeRefused
status-refused true e = refl
status-refused false e = absurd (cc)

pub within_or_over : (n m : ℕ) → (n ≤ m) ⊎ (m < n)
within_or_over n m = grind (arith)

-- what was taken ends with the source, or is over the most
pub end_or_over : (most : ℕ) (script : List ℕ) (left left' : Option (List ℕ)) → Consumes left left' script → (length script ≤ most → IsSpent left left') → IsSpent left left' ⊎ TookOver most left left'
end_or_over most script left left' taken at_end = by (within_or_over (length script) most)
  where
    by : (length script ≤ most) ⊎ (most < length script) → IsSpent left left' ⊎ TookOver most left left'
    by (inl within) = inl (at_end within)
    by (inr over) = inr (record { taken = script; over = over; took = taken })
