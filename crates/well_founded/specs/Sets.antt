-- Reading every PowerSet as Set.
use Rattle.std.specs.Prelude.{map}
use Rattle.spec_syntax.specs.declared.expr.Kind.{Kind}
use Rattle.spec_syntax.specs.declared.expr.Kind.TheVariants as kind
use Rattle.spec_syntax.specs.Expression.{Expression, Epsilon, Atom, Name, Union, Prod, Many, Expressions, no_expressions, more_expressions}
use Rattle.spec_syntax.specs.Grammar.{Grammar}

abbrev pub set_kind : Kind → Kind
set_kind kind.Sequence = kind.Sequence
set_kind kind.Set = kind.Set
set_kind kind.PowerSet = kind.Set
set_kind kind.Cycle = kind.Cycle

abbrev mutual
  -- the expression with each PowerSet read as Set
  pub with_sets : Expression → Expression
  with_sets Epsilon = Epsilon
  with_sets Atom = Atom
  with_sets (Name name) = Name name
  with_sets (Union arguments) = Union (all_with_sets arguments)
  with_sets (Prod arguments) = Prod (all_with_sets arguments)
  with_sets (Many kind element card) = Many (set_kind kind) (with_sets element) card

  pub all_with_sets : Expressions → Expressions
  all_with_sets no_expressions = no_expressions
  all_with_sets (more_expressions e es) = more_expressions (with_sets e) (all_with_sets es)

-- the grammar with each PowerSet read as Set
abbrev pub reading_sets : Grammar → Grammar
reading_sets g = record { rules = map (λ rule. (rule.0, with_sets rule.1)) g.rules; universe = g.universe }
