-- A sorted list with one more structure.
use Rattle.std.specs.Prelude.{cond, List, [], ◌∷◌}
use Rattle.struct_model.specs.Structure.{Structure}
use Rattle.struct_model.specs.Order.{is_after}

-- the list with the structure before the first that is after it
abbrev pub with_item : Structure → List Structure → List Structure
with_item s [] = s ∷ []
with_item s (t ∷ ts) = cond (is_after t s) (s ∷ t ∷ ts) (t ∷ with_item s ts)
