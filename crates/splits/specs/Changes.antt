-- How a part is made of another one.
use Rattle.std.specs.Prelude.{ℕ, ◌-◌, cond, nat_le, List, ◌++◌, take, drop, Option, Some, None}
use Rattle.splits.specs.declared.labelled.Change.{Change}

-- the first labels of a part, and then labels of the supply from the place on
abbrev pub changed : List ℕ → List ℕ → Change → List ℕ
changed labels part change = take change.kept part ++ take change.taken (drop change.place labels)

-- the change to a part of the length, where enough of so many labels stand from the place on
abbrev pub change_to : Option ℕ → ℕ → ℕ → ℕ → Option Change
change_to None kept place end = None
change_to (Some length) kept place end = cond (nat_le (length - kept) (end - place)) (Some (record { kept = kept; place = place; taken = length - kept })) None
