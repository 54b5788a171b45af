-- What a listing is made of: the listings of the expressions inside, on parts of the supply.
use Rattle.std.specs.Prelude.{ℕ, List, length}
use Rattle.spec_syntax.specs.declared.expr.Card.{Card}
use Rattle.spec_syntax.specs.Expression.{Expression, Expressions, no_expressions, more_expressions}
use Rattle.spec_syntax.specs.Grammar.{Grammar}
use Rattle.struct_model.specs.Structure.{Structure}
use Rattle.struct_model.specs.Bounded.{listing}
use Rattle.listing_laws.specs.Lister.{by_splits, list_no_components, list_repeated}

-- the lists of components, one of each expression, on the supply
abbrev pub components_on : Grammar → Expressions → List ℕ → List (List Structure)
components_on g no_expressions u = list_no_components u
components_on g (more_expressions e es) u = by_splits (listing g e) (components_on g es) u

-- the lists of components of a Sequence of the expression with the bound, on the supply
abbrev pub repeated_on : Grammar → Expression → Card → List ℕ → List (List Structure)
repeated_on g e card u = list_repeated (listing g e) (length u) card u
