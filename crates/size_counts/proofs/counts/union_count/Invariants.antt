use Rattle.std.proofs.Common.{◌≡◌, Some, map, take}
use Rattle.std.specs.List.{sum}
use Rattle.spec_syntax.specs.Expression.{Expressions, Union, expression_list}
use Rattle.spec_syntax.specs.Nodes.{node_at, children_at}
use Rattle.struct_model.specs.Bounded.{number}
use Rattle.well_founded.specs.Checked.{grammar}
use Rattle.splits.specs.Capped.{Tells}
use Rattle.size_counts.specs.Turns.{EachTold}
use Rattle.size_counts.proofs.counts.union_count.Given as goal

abbrev pub invariant-loop-i : goal.invariant-loop-i
invariant-loop-i l = (arguments : Expressions) → node_at l.tables.grammar.rules l.node ≡ Some (Union arguments)
    → EachTold (grammar l.tables.grammar) (expression_list arguments) (children_at l.tables.grammar.rules l.node) l.now l.m
    → Tells l.sum (sum (map (λ e. number (grammar l.tables.grammar) e l.m) (take l.i (expression_list arguments))))
