-- How a statement ends: what was written by then, and whose count of faults rose.
use Rattle.std.specs.Prelude.{◌≡◌, ℕ, List, Option, Some, None, Result, Ok, Err}
use Rattle.comb_io.specs.Faults.{Rises}
use Rattle.comb_io.specs.Writes.{Wrote, WrotePart}
use Rattle.session.specs.declared.fault.Outcome.{Outcome}
use Rattle.session.specs.declared.fault.Outcome.TheVariants.{Done, Refused}
use Rattle.session.specs.declared.fault.SessionFault.{SessionFault}
use Rattle.session.specs.declared.fault.SessionFault.TheVariants as fault
use Rattle.session.specs.Effect.{Effect}

-- the count of the sink whose fault it was rose, and no other; for want of memory none did
abbrev pub Blames : ℕ → ℕ → ℕ → ℕ → SessionFault → Type 0
Blames out out' err err' fault.Out = Rises out out' × (err' ≡ err)
Blames out out' err err' fault.Err = (out' ≡ out) × Rises err err'
Blames out out' err err' fault.Memory = (out' ≡ out) × (err' ≡ err)

-- the counts of faults at the end of a statement: none rises without a fault
abbrev pub HasStepCause : {A : Type 0} → ℕ → ℕ → ℕ → ℕ → Result A SessionFault → Type 0
HasStepCause out out' err err' (Ok _) = (out' ≡ out) × (err' ≡ err)
HasStepCause out out' err err' (Err fault) = Blames out out' err err' fault

abbrev pub outcome_of : Option ℕ → Outcome
outcome_of None = Done
outcome_of (Some number) = Refused number

-- how many writes at least weren't made where this fault ended a statement: one where a write failed
abbrev pub unwritten_by : SessionFault → ℕ
unwritten_by fault.Out = 1
unwritten_by fault.Err = 1
unwritten_by fault.Memory = 0

-- an effect was made: its writes whole, and the outcome tells whether it is refused, or a part of its writes from their front, and
-- not all where a sink failed
abbrev pub Makes : Option (List ℕ) → Option (List ℕ) → Option (List ℕ) → Option (List ℕ) → Effect → Result Outcome SessionFault → Type 0
Makes out out' err err' whole (Ok outcome) = Wrote out out' err err' whole.writes × (outcome ≡ outcome_of whole.refused)
Makes out out' err err' whole (Err fault) = WrotePart (unwritten_by fault) out out' err err' whole.writes
