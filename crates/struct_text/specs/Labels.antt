-- Labels that a `Struct` of the code can hold.
use Rattle.std.specs.Prelude.{Bool, ◌^◌, nat_lt}
use Rattle.std.specs.List.{list_all}
use Rattle.struct_model.specs.Structure.{Structure, labels}

-- is each label at most 2^32 - 1
abbrev pub are_small : Structure → Bool
are_small s = list_all (λ label. nat_lt label (2 ^ 32)) (labels s)
