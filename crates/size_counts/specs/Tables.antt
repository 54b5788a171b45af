-- Tables of numbers: by size and by node the numbers of the node, in the order of their groups and indices.
use Rattle.std.specs.Prelude.{ℕ, List, [], map, Option, Some, slice_get, unwrap_or}

abbrev pub Layer : Type 0
Layer = List (List ℕ)

-- number i of those of the node in the layer, or 0 where there are no more
abbrev pub cell : Layer → ℕ → ℕ → ℕ
cell layer node i = unwrap_or (slice_get (unwrap_or (slice_get layer node) []) i) 0

-- the same of each layer
abbrev pub column : List Layer → ℕ → ℕ → List (Option ℕ)
column layers node i = map (λ layer. Some (cell layer node i)) layers
