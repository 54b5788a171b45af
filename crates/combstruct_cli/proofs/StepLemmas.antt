-- Laws of a run that goes on from piece to piece.
use Rattle.std.proofs.Common.{◌≡◌, ℕ, List, [], Option, Ok, Err, refl, sym, ap, ◌∙◌, subst}
use Rattle.comb_io.specs.Writes.{Wrote}
use Rattle.comb_io.proofs.Written.{Wrote-nil}
use Rattle.struct_text.specs.declared.form.TextForm.{TextForm}
use Rattle.session.specs.Effect.{State}
use Rattle.combstruct_cli.specs.declared.fault.Fault.{Fault}
use Rattle.combstruct_cli.specs.declared.run.Outcome.{Outcome}
use Rattle.combstruct_cli.specs.declared.run.Outcome.TheVariants.{Done, Refused}
use Rattle.combstruct_cli.specs.Answer.{Part, nothing, followed_by, refusing_long, RunsPieces}
use Rattle.combstruct_cli.specs.Outcome.{either, Makes}
use Rattle.combstruct_cli.specs.Steps.{early_behind, Did}
use Rattle.combstruct_cli.proofs.PieceLemmas.{followed-assoc}
use Rattle.combstruct_cli.proofs.RunLemmas.{Makes-both, Makes-second, Makes-same}

-- before the first piece nothing was done
pub did_nothing : (script : List ℕ) (texts : TextForm) (state : State) (out err : Option (List ℕ)) (whole : Part) → RunsPieces script (early_behind script 0) texts state whole
    → Did script 0 texts state out out err err whole Done
did_nothing script texts state out err whole runs = record { done = nothing; rest = whole; made = (Wrote-nil out err, refl); left = runs; is_whole = refl }

either-done : (outcome : Outcome) → either outcome Done ≡ outcome
either-done Done = refl
either-done Refused = refl

module _ (script : List ℕ) (at : ℕ) (texts : TextForm) (state : State) (out mid out' err mid_err err' : Option (List ℕ)) (whole : Part) (outcome : Outcome)
    (did : Did script at texts state out mid err mid_err whole outcome) where
  -- a further piece was done
  pub did_more : (at' : ℕ) (texts' : TextForm) (state' : State) (other : Outcome)
      → ((rest : Part) → RunsPieces script (early_behind script at) texts state rest → Did script at' texts' state' mid out' mid_err err' rest other)
      → Did script at' texts' state' out out' err err' whole (either outcome other)
  did_more at' texts' state' other next = let more = next did.rest did.left in record {
    done = followed_by did.done more.done;
    rest = more.rest;
    made = Makes-both out mid out' err mid_err err' did.done more.done outcome did.made other more.made;
    left = more.left;
    is_whole = did.is_whole ∙ ap (followed_by did.done) more.is_whole ∙ followed-assoc did.done more.done more.rest;
  }

  -- a fault ended what was left
  pub did_fail : (whose : Fault) → ((rest : Part) → RunsPieces script (early_behind script at) texts state rest → Makes mid out' mid_err err' rest (Err whose))
      → Makes out out' err err' whole (Err whose)
  did_fail whose fails =
      Makes-same out out' err err' (followed_by did.done did.rest) whole (Err whose) (sym did.is_whole)
      (Makes-second out mid out' err mid_err err' did.done did.rest outcome did.made whose (fails did.rest did.left))

  module _ (last : (rest : Part) → RunsPieces script (early_behind script at) texts state rest → Wrote mid out' mid_err err' [] × (rest ≡ refusing_long script)) where
    -- no piece was left
    abbrev done : Part
    done = followed_by did.done nothing

    made : Makes out out' err err' done (Ok outcome)
    made =
        subst (λ (o : Outcome). Makes out out' err err' done (Ok o)) (either-done outcome)
        (Makes-both out mid out' err mid_err err' did.done nothing outcome did.made Done ((last did.rest did.left).0, refl))

    is_whole : followed_by done (refusing_long script) ≡ whole
    is_whole = sym (did.is_whole ∙ ap (followed_by did.done) (last did.rest did.left).1 ∙ followed-assoc did.done nothing (refusing_long script))

    -- and the end was told
    pub did_end : (out'' err'' : Option (List ℕ)) (other : Outcome) → Makes out' out'' err' err'' (refusing_long script) (Ok other) → Makes out out'' err err'' whole (Ok (either outcome other))
    did_end out'' err'' other end =
        Makes-same out out'' err err'' (followed_by done (refusing_long script)) whole (Ok (either outcome other)) is_whole
        (Makes-both out out' out'' err err' err'' done (refusing_long script) outcome made other end)

    pub did_end_fail : (out'' err'' : Option (List ℕ)) (whose : Fault) → Makes out' out'' err' err'' (refusing_long script) (Err whose) → Makes out out'' err err'' whole (Err whose)
    did_end_fail out'' err'' whose end =
        Makes-same out out'' err err'' (followed_by done (refusing_long script)) whole (Err whose) is_whole
        (Makes-second out out' out'' err err' err'' done (refusing_long script) outcome made whose end)
