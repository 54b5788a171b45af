-- The first of the least rotations of a list.
use Rattle.std.specs.Prelude.{◌≡◌, ℕ, ◌<◌, List, length}
use Rattle.std.specs.declared.cmp.Ordering.TheVariants.{Less, Greater}
use Rattle.struct_model.specs.Structure.{Structure}
use Rattle.struct_model.specs.Order.{list_order, rotated}

-- the rotation at place i is after none, and before those at earlier places
pub record IsLeastPlace (ss : List Structure) (i : ℕ) : Type 0 where
  pub within : i < length ss
  pub least : (k : ℕ) → k < length ss → list_order (rotated ss i) (rotated ss k) ≡ Greater → ⊥
  pub first : (k : ℕ) → k < i → list_order (rotated ss i) (rotated ss k) ≡ Less

-- one list is a rotation of the other
pub record IsRotation (ss ts : List Structure) : Type 0 where
  pub place : ℕ
  pub within : place < length ss
  pub same : ts ≡ rotated ss place
