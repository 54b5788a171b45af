-- How one part of so many labels is found among all of them.
use Rattle.std.specs.Prelude.{ℕ, zero, suc, nat_lt, Option, Some, None, if◌then◌else◌}
use Rattle.count_laws.specs.Choose.{choose}

-- how many parts come before those without the next label, where so many labels stand behind it and so many are still to be taken;
-- none is passed over where the part that has so many before it takes the label
abbrev pub passed : ℕ → ℕ → ℕ → Option ℕ
passed behind zero earlier = Some 0
passed behind (suc missing) earlier = if nat_lt earlier (choose behind missing) then None else Some (choose behind missing)
