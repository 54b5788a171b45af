use Rattle.std.proofs.Common.{◌≡◌, ◌+◌, drop}
use Rattle.std.specs.List.{position_from}
use Rattle.spec_syntax.specs.Rules.{symbol, is_same_name}
use Rattle.spec_syntax.proofs.spec.Spec.find.Given as goal

abbrev pub invariant-loop-place : goal.invariant-loop-place
invariant-loop-place l = symbol l.self l.name ≡ position_from (λ rule. is_same_name rule.0 l.name) (l.place + 1) (drop l.place l.self)
