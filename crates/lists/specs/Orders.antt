-- What an order is.
use Rattle.std.specs.Prelude.{◌≡◌}
use Rattle.std.specs.declared.cmp.Ordering.{Ordering}
use Rattle.std.specs.declared.cmp.Ordering.TheVariants.{Equal}

-- nothing stands before itself, before is passed on, and where neither of two stands before the other they are equal
pub record IsStrictTotalOrder {X : Type 0} (R : X → X → Type 0) : Type 0 where
  pub irreflexive : (x : X) → R x x → ⊥
  pub transitive : (x y z : X) → R x y → R y z → R x z
  pub connected : (x y : X) → (R x y → ⊥) → (R y x → ⊥) → x ≡ y

-- the comparison answers Equal of the same alone
pub record EqualIsSame {X : Type 0} (compare : X → X → Ordering) : Type 0 where
  pub same : (x y : X) → compare x y ≡ Equal → x ≡ y
  pub itself : (x : X) → compare x x ≡ Equal
