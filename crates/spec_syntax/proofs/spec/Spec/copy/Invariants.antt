use Rattle.std.proofs.Common.{◌≡◌, ◌++◌}
use Rattle.spec_syntax.proofs.spec.Spec.copy.Given as goal

abbrev pub invariant-loop-name : goal.invariant-loop-name
invariant-loop-name l = l.self ≡ l.rules.entries ++ l.name-iterator
