-- How a run goes on from piece to piece.
use Rattle.std.specs.Prelude.{◌≡◌, ℕ, List, [], Option, Some, None, Result, Ok, Err}
use Rattle.std.specs.List.{filter}
use Rattle.spec_reader.specs.Cutting.{pieces_behind}
use Rattle.comb_io.specs.Writes.{Wrote}
use Rattle.struct_text.specs.declared.form.TextForm.{TextForm}
use Rattle.session.specs.Effect.{State}
use Rattle.combstruct_cli.specs.declared.fault.Fault.{Fault}
use Rattle.combstruct_cli.specs.declared.run.Outcome.{Outcome}
use Rattle.combstruct_cli.specs.declared.run.Ran.{Ran}
use Rattle.combstruct_cli.specs.Answer.{Part, followed_by, is_early, refusing_long, RunsPieces}
use Rattle.combstruct_cli.specs.Outcome.{Makes}

-- the pieces behind a place of the script that end early enough
abbrev pub early_behind : List ℕ → ℕ → List (ℕ × ℕ)
early_behind script at = filter is_early (pieces_behind script at)

-- a first part of the whole was made and ended so, and the pieces behind a place are left
pub record Did (script : List ℕ) (at : ℕ) (texts : TextForm) (state : State) (out out' err err' : Option (List ℕ)) (whole : Part) (outcome : Outcome) : Type 0 where
  pub done : Part
  pub rest : Part
  pub made : Makes out out' err err' done (Ok outcome)
  pub left : RunsPieces script (early_behind script at) texts state rest
  pub is_whole : whole ≡ followed_by done rest

-- the next piece was run, if there is one that ends early enough
abbrev pub RunsNext : List ℕ → TextForm → State → Option (List ℕ) → Option (List ℕ) → Option (List ℕ) → Option (List ℕ) → Part → Result (Option Ran) Fault → Type 0
RunsNext script texts state out out' err err' whole (Ok None) = Wrote out out' err err' [] × (whole ≡ refusing_long script)
RunsNext script texts state out out' err err' whole (Ok (Some ran)) = Did script ran.at texts state out out' err err' whole ran.outcome
RunsNext script texts state out out' err err' whole (Err whose) = Makes out out' err err' whole (Err whose)
