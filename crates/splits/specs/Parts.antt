-- The parts of a supply whose length is admitted, or lies within bounds.
use Rattle.std.specs.Prelude.{ℕ, Bool, not, ◌&&◌, nat_le, List, [], length, map, Option, Some, None}
use Rattle.std.specs.List.{filter}
use Rattle.std.specs.Ordering.{nat_cmp, is_lt}
use Rattle.std.specs.Cmp.Lexicographic.{slice_cmp}
use Rattle.count_laws.specs.Choose.{choose}
use Rattle.lists.specs.Enumeration.{IsIn}
use Rattle.struct_model.specs.declared.supplies.Supply.{Supply}
use Rattle.struct_model.specs.declared.supplies.Supply.TheVariants.{Zeros, Labels}
use Rattle.splits.specs.Splits.{Split, splits}
use Rattle.splits.specs.Lengths.{is_admitted}

-- has the part from low to high labels
abbrev pub has_length : ℕ → ℕ → Split → Bool
has_length low high split = nat_le low (length split.part) && nat_le (length split.part) high

-- the splits of a supply whose part has from low to high labels, in the order of the parts
abbrev pub parts : ℕ → ℕ → List ℕ → List Split
parts low high u = filter (has_length low high) (splits u)

-- is the length of the part admitted
abbrev pub has_admitted : List Bool → Split → Bool
has_admitted lengths split = is_admitted lengths (length split.part)

-- the splits of a supply whose part has an admitted length, in the order of the parts
abbrev pub parts_of : List Bool → List ℕ → List Split
parts_of lengths u = filter (has_admitted lengths) (splits u)

-- do the first labels come before the second ones, label by label, a prefix first
abbrev pub comes_before : List ℕ → List ℕ → Bool
comes_before first second = is_lt (slice_cmp nat_cmp first second)

-- those of the splits whose part comes after this one
abbrev pub after : List ℕ → List Split → List Split
after part ss = filter (λ split. comes_before part split.part) ss

-- those of the splits from this part on, or none where there is no part
abbrev pub from_part : Option (List ℕ) → List Split → List Split
from_part None ss = []
from_part (Some part) ss = filter (λ split. not (comes_before split.part part)) ss

-- is it the part of one of the splits
abbrev pub IsPart : List ℕ → List Split → Type 0
IsPart part ss = IsIn part (map (λ split. split.part) ss)

-- how many parts of d labels a supply has
abbrev pub number_of_parts : Supply → ℕ → ℕ
number_of_parts (Zeros n) d = 1
number_of_parts (Labels labels) d = choose (length labels) d
