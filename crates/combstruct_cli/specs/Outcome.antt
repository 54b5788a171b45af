-- How a run and its parts end: what was written by then, and whose count of faults rose.
use Rattle.std.specs.Prelude.{◌≡◌, ℕ, ◌⊎◌, Bool, true, false, List, Option, Result, Ok, Err}
use Rattle.comb_io.specs.Faults.{Rose, Rises}
use Rattle.comb_io.specs.Writes.{Wrote, WrotePart, WrotePrefix, WroteProperPrefix}
use Rattle.session.specs.declared.fault.SessionFault.{SessionFault}
use Rattle.session.specs.declared.fault.SessionFault.TheVariants as session_fault
use Rattle.session.specs.declared.fault.Outcome.{Outcome as SessionOutcome}
use Rattle.session.specs.declared.fault.Outcome.TheVariants as session_outcome
use Rattle.combstruct_cli.specs.declared.fault.Fault.{Fault}
use Rattle.combstruct_cli.specs.declared.fault.Fault.TheVariants as fault
use Rattle.combstruct_cli.specs.declared.run.Outcome.{Outcome}
use Rattle.combstruct_cli.specs.declared.run.Outcome.TheVariants.{Done, Refused}
use Rattle.combstruct_cli.specs.declared.run.Status.{Status}
use Rattle.combstruct_cli.specs.declared.run.Status.TheVariants as status
use Rattle.combstruct_cli.specs.Answer.{Part, Answer}

-- ---- whose fault it was

-- the counts of faults of the source, of the output and of the error output are as they were
abbrev pub NoneRises : ℕ → ℕ → ℕ → ℕ → ℕ → ℕ → Type 0
NoneRises input input' out out' err err' = (input' ≡ input) × (out' ≡ out) × (err' ≡ err)

-- the count of the object whose fault it was rose, and no other; for want of memory none did
abbrev pub Blames : ℕ → ℕ → ℕ → ℕ → ℕ → ℕ → Fault → Type 0
Blames input input' out out' err err' fault.Input = Rises input input' × (out' ≡ out) × (err' ≡ err)
Blames input input' out out' err err' fault.Output = (input' ≡ input) × Rises out out' × (err' ≡ err)
Blames input input' out out' err err' fault.Errors = (input' ≡ input) × (out' ≡ out) × Rises err err'
Blames input input' out out' err err' fault.Memory = NoneRises input input' out out' err err'

-- the counts at the end of a part of a run
abbrev pub HasRunCause : {A : Type 0} → ℕ → ℕ → ℕ → ℕ → ℕ → ℕ → Result A Fault → Type 0
HasRunCause input input' out out' err err' (Ok _) = NoneRises input input' out out' err err'
HasRunCause input input' out out' err err' (Err whose) = Blames input input' out out' err err' whose

-- whose fault ends a run where a statement ends with one
abbrev pub fault_of : SessionFault → Fault
fault_of session_fault.Out = fault.Output
fault_of session_fault.Err = fault.Errors
fault_of session_fault.Memory = fault.Memory

abbrev pub fault_status : Fault → Status
fault_status fault.Input = status.Input
fault_status fault.Output = status.Output
fault_status fault.Errors = status.Output
fault_status fault.Memory = status.Memory

abbrev pub end_status : Result Outcome Fault → Status
end_status (Ok Done) = status.Well
end_status (Ok Refused) = status.SomeRefused
end_status (Err whose) = fault_status whose

-- the counts at the end of a run, by its status: at 3 that of the source rose and no other, at 4 that of one of the two
-- outputs and no other, and at any other status none
abbrev pub HasStatusCause : ℕ → ℕ → ℕ → ℕ → ℕ → ℕ → Status → Type 0
HasStatusCause input input' out out' err err' status.Well = NoneRises input input' out out' err err'
HasStatusCause input input' out out' err err' status.SomeRefused = NoneRises input input' out out' err err'
HasStatusCause input input' out out' err err' status.Words = NoneRises input input' out out' err err'
HasStatusCause input input' out out' err err' status.Input = Blames input input' out out' err err' fault.Input
HasStatusCause input input' out out' err err' status.Output = Blames input input' out out' err err' fault.Output ⊎ Blames input input' out out' err err' fault.Errors
HasStatusCause input input' out out' err err' status.Memory = NoneRises input input' out out' err err'

-- the count of faults shows none
abbrev pub DidNotRise : ℕ → ℕ → Type 0
DidNotRise before now = Rose before now → ⊥

-- the exit status of the program
abbrev pub status_code : Status → ℕ
status_code status.Well = 0
status_code status.SomeRefused = 1
status_code status.Words = 2
status_code status.Input = 3
status_code status.Output = 4
status_code status.Memory = 5

-- ---- what was written

abbrev pub outcome_of : Bool → Outcome
outcome_of true = Refused
outcome_of false = Done

-- was a statement refused, as a session tells it
abbrev pub ran_of : SessionOutcome → Outcome
ran_of session_outcome.Done = Done
ran_of (session_outcome.Refused number) = Refused

-- was one of two parts refused
abbrev pub either : Outcome → Outcome → Outcome
either Done other = other
either Refused other = Refused

-- how many writes at least weren't made where this fault ended a part of a run: one where a write failed
abbrev pub unwritten_by : Fault → ℕ
unwritten_by fault.Input = 0
unwritten_by fault.Output = 1
unwritten_by fault.Errors = 1
unwritten_by fault.Memory = 0

-- a part of a script was run: whole, and told so, or its writes were made from their front on, and not all where a sink failed
abbrev pub Makes : Option (List ℕ) → Option (List ℕ) → Option (List ℕ) → Option (List ℕ) → Part → Result Outcome Fault → Type 0
Makes out out' err err' whole (Ok outcome) = Wrote out out' err err' whole.writes × (outcome ≡ outcome_of whole.is_refused)
Makes out out' err err' whole (Err whose) = WrotePart (unwritten_by whose) out out' err err' whole.writes

-- a run ended with this status: at 0, 1 and 2 the answer was written whole and has this status, at 4 not whole, and at 3
-- and 5 a part of it from its front
abbrev pub Ends : Option (List ℕ) → Option (List ℕ) → Option (List ℕ) → Option (List ℕ) → Answer → Status → Type 0
Ends out out' err err' answer status.Well = Wrote out out' err err' answer.writes × (answer.status ≡ status.Well)
Ends out out' err err' answer status.SomeRefused = Wrote out out' err err' answer.writes × (answer.status ≡ status.SomeRefused)
Ends out out' err err' answer status.Words = Wrote out out' err err' answer.writes × (answer.status ≡ status.Words)
Ends out out' err err' answer status.Input = WrotePrefix out out' err err' answer.writes
Ends out out' err err' answer status.Output = WroteProperPrefix out out' err err' answer.writes
Ends out out' err err' answer status.Memory = WrotePrefix out out' err err' answer.writes

-- the answer was written whole, and the status is its status
abbrev pub Gives : Option (List ℕ) → Option (List ℕ) → Option (List ℕ) → Option (List ℕ) → Answer → Status → Type 0
Gives out out' err err' answer result = Wrote out out' err err' answer.writes × (result ≡ answer.status)
