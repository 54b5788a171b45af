-- What a sum stands for that comes in so many equal parts.
use Rattle.std.specs.Prelude.{◌≡◌, ℕ, ◌+◌, ◌*◌, ◌<◌}
use Rattle.splits.specs.Capped.{Tells}
use Rattle.size_counts.specs.declared.shared.Shared.{Shared}

-- each part has so much of it, and less than one for each part is left
pub record StandsFor (shared : Shared) (n : ℕ) : Type 0 where
  pub each : ℕ
  pub told : Tells shared.each each
  pub sum : n ≡ shared.parts * each + shared.rest
  pub left : shared.rest < shared.parts
