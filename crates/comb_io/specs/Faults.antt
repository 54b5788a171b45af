-- What the count of faults tells of a call on a source, a shelf or a sink.
use Rattle.std.specs.Prelude.{◌≡◌, ℕ, ◌+◌, ◌-◌, ◌^◌, ◌≤◌, min, OnOk, OnErr, IfErr, MatchResult, Result}
use Rattle.comb_io.specs.declared.sinks.SinkFault.{SinkFault}
use Rattle.comb_io.specs.declared.sinks.SinkFault.TheVariants.{Failed, Memory}

-- the count rose, or stands at the last value of its counter
abbrev pub Rose : ℕ → ℕ → Type 0
Rose before now = min (before + 1) (2 ^ 64 - 1) ≤ now

-- the count rose or stands at the last value of its counter, and isn't lower than before
pub record Rises (before now : ℕ) : Type 0 where
  pub later : before ≤ now
  pub rose : Rose before now

-- the count of a call on a source: it doesn't fall, it rose where the call failed, and it is as it was where it didn't
pub record HasCause {A E : Type 0} (before now : ℕ) (result : Result A E) : Type 0 where
  pub later : before ≤ now
  pub failed : OnErr result (Rose before now)
  pub kept : OnOk result (now ≡ before)

-- the count where a call on a sink ended with this fault: it rose where the sink failed, and is as it was for want of memory
abbrev pub FaultCounts : SinkFault → ℕ → ℕ → Type 0
FaultCounts Failed before now = Rose before now
FaultCounts Memory before now = now ≡ before

-- the count of a call on a sink: it doesn't fall, it rose where the sink failed, and it is as it was where it didn't
pub record HasSinkCause {A : Type 0} (before now : ℕ) (result : Result A SinkFault) : Type 0 where
  pub later : before ≤ now
  pub fault : IfErr result (λ fault. FaultCounts fault before now)
  pub kept : OnOk result (now ≡ before)

-- one more for a fault, up to the last value of a 64-bit counter, and the same for a success
abbrev pub CountsFault : {A E : Type 0} → ℕ → ℕ → Result A E → Type 0
CountsFault before now result = MatchResult result (λ _. now ≡ before) (λ _. now ≡ min (before + 1) (2 ^ 64 - 1))
