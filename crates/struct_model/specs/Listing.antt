-- The listing of an expression on a supply of labels.
use Rattle.std.specs.Prelude.{◌≡◌, ℕ, List, IsTrue}
use Rattle.std.specs.declared.cmp.Ordering.TheVariants.{Less}
use Rattle.lists.specs.Enumeration.{Enumerated}
use Rattle.spec_syntax.specs.Expression.{Expression}
use Rattle.spec_syntax.specs.Grammar.{Grammar}
use Rattle.struct_model.specs.Structure.{Structure, key}
use Rattle.struct_model.specs.Order.{order}
use Rattle.struct_model.specs.Membership.{is_of}

abbrev pub Before : Structure → Structure → Type 0
Before s t = order s t ≡ Less

-- is a structure of the expression with these labels
abbrev pub IsOne : Grammar → Expression → List ℕ → Structure → Type 0
IsOne g e u s = IsTrue (is_of g e s) × (key s ≡ u)

-- the list has each structure of the expression with these labels once, in ascending order
abbrev pub Lists : Grammar → Expression → List ℕ → List Structure → Type 0
Lists g e u ss = Enumerated Before (IsOne g e u) ss
