-- Each expression that stands directly inside another has fewer nodes.
use Rattle.std.specs.Prelude.{◌≤◌, ◌+◌, max, List, [], ◌∷◌}
use Rattle.std.proofs.Common.{arith, length-append}
use denote.Param.Weighed.{most}
use Rattle.spec_syntax.specs.declared.expr.ExprShape.{ExprShape}
use Rattle.spec_syntax.specs.declared.expr.ExprShape.TheVariants as shape
use Rattle.spec_syntax.specs.declared.expr.Expr.TheDeep.{deep-ExprShape}
use Rattle.spec_syntax.specs.Expression.{Expression, preorder, preorder_of_all, nodes, nodes_of_all, expressions_of}
use Rattle.spec_syntax.specs.ExpressionView.{expression_of}

most_le-nodes_of_all : (es : List Expression) → most (λ e. nodes e + 1) es ≤ nodes_of_all (expressions_of es) + 1
most_le-nodes_of_all [] = omega arith
most_le-nodes_of_all (e ∷ es) = omega (arith, most_le-nodes_of_all es, length-append (preorder e) (preorder_of_all (expressions_of es)))

pub deep-shape_le : (s : ExprShape) → max (deep-ExprShape s) 0 ≤ nodes (expression_of s)
deep-shape_le shape.Epsilon = omega arith
deep-shape_le shape.Atom = omega arith
deep-shape_le (shape.Name name) = omega arith
deep-shape_le (shape.Union arguments) = omega (arith, most_le-nodes_of_all arguments)
deep-shape_le (shape.Prod arguments) = omega (arith, most_le-nodes_of_all arguments)
deep-shape_le (shape.Many kind element card) = omega arith
