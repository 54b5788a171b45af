-- Single steps of choices, and what becomes of what is chosen.
use Rattle.std.specs.Prelude.{ℕ, ◌+◌, ◌-◌, nat_lt, Bool, [], ◌∷◌, List, map, Option, Some, None, if◌then◌else◌}
use Rattle.std.specs.List.{enumerate_from}
use Rattle.choice_laws.specs.Trees.{Tree, end, choose, graft}

-- one of these, each by its weight
abbrev pub among : {X : Type 0} → (X → ℕ) → List X → Tree X
among weight xs = choose (map (λ x. (weight x, end x)) xs)

-- the place of one of these weights, counted from 0
abbrev pub by_weight : List ℕ → Tree ℕ
by_weight weights = choose (map (λ p. (p.1, end p.0)) (enumerate_from 0 weights))

-- the place of the first weight that with those before it adds to more than the value, counted from a number on
abbrev pub place_from : ℕ → List ℕ → ℕ → List Bool → Option (ℕ × List Bool)
place_from first [] value bits = None
place_from first (weight ∷ weights) value bits = if nat_lt value weight then Some (first, bits) else place_from (first + 1) weights (value - weight) bits

-- the same choices, with what they end in changed
abbrev pub ending : {X Y : Type 0} → (X → Y) → Tree X → Tree Y
ending f t = graft (λ x. end (f x)) t

-- the choices of a first one and then those of a list, with the first one in front
abbrev pub in_front : {X : Type 0} → Tree X → Tree (List X) → Tree (List X)
in_front first others = graft (λ x. ending (λ xs. x ∷ xs) others) first
