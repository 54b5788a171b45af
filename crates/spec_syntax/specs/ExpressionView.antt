-- The tree of an expression of the code.
use Rattle.spec_syntax.specs.declared.expr.ExprShape.{ExprShape}
use Rattle.spec_syntax.specs.declared.expr.ExprShape.TheVariants as shape
use Rattle.spec_syntax.specs.Expression.{Expression, Epsilon, Atom, Name, Union, Prod, Many, expressions_of}

abbrev pub expression_of : ExprShape → Expression
expression_of shape.Epsilon = Epsilon
expression_of shape.Atom = Atom
expression_of (shape.Name name) = Name name
expression_of (shape.Union arguments) = Union (expressions_of arguments)
expression_of (shape.Prod arguments) = Prod (expressions_of arguments)
expression_of (shape.Many kind element card) = Many kind element.value card
