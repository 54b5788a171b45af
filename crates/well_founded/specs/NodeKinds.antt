-- What a node is.
use Rattle.std.specs.Prelude.{Bool, true, false}
use Rattle.spec_syntax.specs.declared.expr.Kind.{Kind}
use Rattle.spec_syntax.specs.declared.expr.Kind.TheVariants as kind
use Rattle.spec_syntax.specs.Expression as expr
use Rattle.spec_syntax.specs.Expression.{Expression}
use Rattle.well_founded.specs.declared.node.NodeKind.{NodeKind}
use Rattle.well_founded.specs.declared.node.NodeKind.TheVariants as told

-- the kind of a container
abbrev pub container : Kind → NodeKind
container kind.Sequence = told.Sequence
container kind.Set = told.Set
container kind.PowerSet = told.PowerSet
container kind.Cycle = told.Cycle

-- what the expression is
abbrev pub kind_of : Expression → NodeKind
kind_of expr.Epsilon = told.Epsilon
kind_of expr.Atom = told.Atom
kind_of (expr.Name name) = told.Rule
kind_of (expr.Union arguments) = told.Union
kind_of (expr.Prod arguments) = told.Prod
kind_of (expr.Many kind element card) = container kind

-- is it one of the four containers
abbrev pub is_container : NodeKind → Bool
is_container told.Epsilon = false
is_container told.Atom = false
is_container told.Rule = false
is_container told.Union = false
is_container told.Prod = false
is_container told.Sequence = true
is_container told.Set = true
is_container told.PowerSet = true
is_container told.Cycle = true
