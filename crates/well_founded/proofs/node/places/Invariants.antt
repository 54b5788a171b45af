use Rattle.std.proofs.Common.{◌≡◌, ◌+◌, ◌++◌, drop}
use Rattle.spec_syntax.specs.Expression.{nodes_of_all, expressions_of}
use Rattle.spec_syntax.specs.Nodes.{places_from}
use Rattle.well_founded.proofs.node.places.Given as goal

abbrev pub invariant-loop-expr : goal.invariant-loop-expr
invariant-loop-expr l =
    (places_from l.first (expressions_of l.exprs) ≡ l.places ++ places_from l.next (expressions_of (drop l.expr-index l.exprs)))
    × (l.next + nodes_of_all (expressions_of (drop l.expr-index l.exprs)) ≡ l.first + nodes_of_all (expressions_of l.exprs))
