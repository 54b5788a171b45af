-- What stands inside a structure.
use Rattle.std.specs.Prelude.{◌≡◌, ◌⊎◌}
use Rattle.struct_model.specs.Structure.{Structure, Eps, Atom, Named, Alt, Tup, Structures, no_parts, more_parts}

abbrev mutual
  -- the first stands strictly inside the second
  pub IsInside : Structure → Structure → Type 0
  IsInside t (Eps rule) = ⊥
  IsInside t (Atom rule label) = ⊥
  IsInside t (Named rule s) = (t ≡ s) ⊎ IsInside t s
  IsInside t (Alt argument s) = (t ≡ s) ⊎ IsInside t s
  IsInside t (Tup form ss) = IsAmong t ss

  -- it is one of these or stands strictly inside one
  pub IsAmong : Structure → Structures → Type 0
  IsAmong t no_parts = ⊥
  IsAmong t (more_parts s ss) = (t ≡ s) ⊎ IsInside t s ⊎ IsAmong t ss
