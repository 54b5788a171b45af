-- What is asked of the containers in an expression, one by one.
use Rattle.std.specs.Prelude.{Bool, true, not, ◌||◌, ℕ, Option}
use Rattle.std.specs.List.{list_all}
use Rattle.spec_syntax.specs.declared.statement.Universe.{Universe}
use Rattle.spec_syntax.specs.Expression.{Expression, Epsilon, Atom, Name, Union, Prod, Many, preorder}
use Rattle.struct_model.specs.Membership.{is_labelled}
use Rattle.well_founded.specs.SameSize.{is_null}
use Rattle.well_founded.specs.WellFounded.{is_no_cycle}

-- does no Cycle stand in the expression
abbrev pub is_without_cycle : Expression → Bool
is_without_cycle e = list_all is_no_cycle (preorder e)

-- may the Cycles in the expression stand in the universe
abbrev pub is_allowed : Universe → Expression → Bool
is_allowed universe e = is_labelled universe || is_without_cycle e

-- is the expression no container over one whose least size is 0
abbrev pub is_not_over_null : (Expression → Option ℕ) → Expression → Bool
is_not_over_null sizes Epsilon = true
is_not_over_null sizes Atom = true
is_not_over_null sizes (Name name) = true
is_not_over_null sizes (Union arguments) = true
is_not_over_null sizes (Prod arguments) = true
is_not_over_null sizes (Many kind element card) = not (is_null (sizes element))

-- does no container in the expression stand over one whose least size is 0
abbrev pub is_without_null : (Expression → Option ℕ) → Expression → Bool
is_without_null sizes e = list_all (is_not_over_null sizes) (preorder e)
