use Rattle.std.proofs.Common.{◌≡◌, ◌+◌, ◌*◌, drop, find}
use Rattle.spec_syntax.specs.Expression.{nodes, nodes_of_all, expressions_of}
use Rattle.well_founded.specs.UsedNames.{lacks_rule, used_in_all}
use Rattle.well_founded.proofs.names.+naming.Given as goal

abbrev pub decreases-first_name : goal.decreases-first_name
decreases-first_name l = 2 * nodes l.expr.now

abbrev pub decreases-first_name_of : goal.decreases-first_name_of
decreases-first_name_of l = 2 * nodes_of_all (expressions_of l.exprs.now) + 1

abbrev pub invariant-first_name_of-loop-expr : goal.invariant-first_name_of-loop-expr
invariant-first_name_of-loop-expr l = find (lacks_rule l.spec) (used_in_all l.exprs) ≡ find (lacks_rule l.spec) (used_in_all (drop l.expr-index l.exprs))
