-- What contracts see of a source and a sink in memory that fail at chosen calls.
use Rattle.std.specs.Prelude.{◌==◌, ℕ, ◌+◌, ◌-◌, ◌^◌, min, Bool, if◌then◌else◌, List}
use Rattle.std.specs.List.{list_any}

-- the numbers of the calls that fail, the number of the next call, and how many calls failed
pub record Calls : Type 0 where
  pub failing : List ℕ
  pub number : ℕ
  pub faults : ℕ

-- the next call fails
abbrev pub is_failing : Calls → Bool
is_failing calls = list_any (λ number. number == calls.number) calls.failing

-- after the next call, which failed or didn't: each of the two counters stops at its last value
abbrev pub after : Bool → Calls → Calls
after failed calls = record {
  failing = calls.failing;
  number = min (calls.number + 1) (2 ^ 128 - 1);
  faults = if failed then min (calls.faults + 1) (2 ^ 64 - 1) else calls.faults;
}

-- after the next call, which fails exactly where its number is one of those
abbrev pub after_call : Calls → Calls
after_call calls = after (is_failing calls) calls

-- the bytes of a source that are left, or of a sink that were written, how many a call moves at most, and its calls
pub record InMemory : Type 0 where
  pub bytes : List ℕ
  pub most : ℕ
  pub calls : Calls
