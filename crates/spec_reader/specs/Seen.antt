-- What came before a token, as far as limits and repeated names ask.
use Rattle.std.specs.Prelude.{◌+◌, ◌≡◌, Option, Some, ◌∷◌, reverse}
use Rattle.spec_reader.specs.declared.refusal.Fault.{Fault}
use Rattle.spec_reader.specs.declared.refusal.Fault.TheVariants as fault
use Rattle.spec_reader.specs.declared.table.Role.{Role}
use Rattle.spec_reader.specs.declared.table.Role.TheVariants.{Plain, RuleName, ExprStart, BoundStart, SizeNumber}
use Rattle.spec_reader.specs.declared.seen.Seen.{Seen}
use Rattle.spec_reader.specs.Tokens.{Token, text_of}
use Rattle.spec_reader.specs.Limits.{Reason, Passes, Repeats, reason}

-- why the token is at fault after what was seen
abbrev pub reason_in : Seen → Role → Token → Option Reason
reason_in seen role token = reason (reverse seen.names) seen.expressions role token

-- what was seen, and the token
abbrev pub seen_after : Role → Token → Seen → Seen
seen_after RuleName token seen = record seen { names = text_of token ∷ seen.names }
seen_after (ExprStart depth) token seen = record seen { expressions = seen.expressions + 1 }
seen_after Plain token seen = seen
seen_after BoundStart token seen = seen
seen_after SizeNumber token seen = seen

-- is it the fault that a reason names, or want of memory
abbrev pub IsFaultFor : Option Reason → Fault → Type 0
IsFaultFor reason (fault.Syntax at) = ⊥
IsFaultFor reason (fault.DuplicateRule name) = reason ≡ Some (Repeats name)
IsFaultFor reason (fault.Limit which) = reason ≡ Some (Passes which)
IsFaultFor reason fault.Memory = Unit {0}
