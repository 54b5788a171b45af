-- Bounds on the number of components of a container.
use Rattle.std.specs.Prelude.{ℕ, Bool, true, ◌&&◌, ◌||◌, nat_le, nat_eq, Option, Some, None}
use Rattle.spec_syntax.specs.declared.expr.Card.{Card}

-- is the number at most the upper bound, where there is one
abbrev pub is_within : Option ℕ → ℕ → Bool
is_within None n = true
is_within (Some high) n = nat_le n high

-- does a list of n components keep the bound
abbrev pub admits : Card → ℕ → Bool
admits card n = nat_le card.low n && is_within card.high n

abbrev is_writable_with : ℕ → Option ℕ → Bool
is_writable_with low None = true
is_writable_with low (Some high) = nat_eq low 0 || nat_eq low high

-- can the bound be written: as none, `card = k`, `card <= k` or `card >= k`
abbrev pub is_writable : Card → Bool
is_writable card = is_writable_with card.low card.high
