use Rattle.std.proofs.Common.{◌≡◌, ◌++◌, length}
use Rattle.std.specs.Prelude.{zip}
use Rattle.spec_reader.specs.Machine.{rules_from}
use Rattle.spec_reader.proofs.read.specification.Given as goal

abbrev pub invariant-loop-name : goal.invariant-loop-name
invariant-loop-name l = l.spec ++ zip l.names l.rights ≡ rules_from l.fn.names l.fn.rights

abbrev pub decreases-loop-name : goal.decreases-loop-name
decreases-loop-name l = length l.names
