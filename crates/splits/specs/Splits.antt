-- The ways to split a supply of labels in two.
use Rattle.std.specs.Prelude.{ℕ, Bool, false, nat_lt, List, [], ◌∷◌, ◌++◌, map}
use Rattle.std.specs.List.{filter}

-- a part of a supply, and the labels that remain
pub record Split : Type 0 where
  pub part : List ℕ
  pub rest : List ℕ

-- the split with one more label in the part
abbrev pub taking : ℕ → Split → Split
taking label split = record { part = label ∷ split.part; rest = split.rest }

-- the split with one more label in the rest
abbrev pub leaving : ℕ → Split → Split
leaving label split = record { part = split.part; rest = label ∷ split.rest }

abbrev starts_above : ℕ → List ℕ → Bool
starts_above low [] = false
starts_above low (label ∷ labels) = nat_lt low label

-- is there a first label in the part, and is it above the number
abbrev pub begins_above : ℕ → Split → Bool
begins_above low split = starts_above low split.part

-- The splits of ascending labels, each once, in the lexicographic order of the parts: the empty part, then those that
-- begin with the first label, then those that begin with a greater one. Of zeros these are the numbers of them from 0
-- up, and of distinct labels all selections.
abbrev pub splits : List ℕ → List Split
splits [] = record { part = []; rest = [] } ∷ []
splits (label ∷ labels) =
    record { part = []; rest = label ∷ labels }
    ∷ map (taking label) (splits labels) ++ map (leaving label) (filter (begins_above label) (splits labels))
