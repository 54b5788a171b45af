-- Unlabelled Sets and PowerSets by those with fewer components and fewer atoms, which the layers have.
use Rattle.std.specs.Prelude.{◌≡◌, ℕ, ◌+◌, ◌-◌, ◌*◌, ◌/◌, ◌<◌, List, [], ◌∷◌, length, map, Some, slice_get, unwrap_or}
use Rattle.std.specs.List.{sum, range_with_len}
use Rattle.count_laws.specs.SetNumbers.{number_pointed, number_avoiding}
use Rattle.listing_laws.specs.Numbers.{one_at}
use Rattle.size_counts.specs.Tables.{Layer, cell}

-- each layer has the node
abbrev pub HaveNode : List Layer → ℕ → Type 0
HaveNode layers node = (size : ℕ) (layer : Layer) → slice_get layers size ≡ Some layer → node < length layer

-- the count of the node at size d
abbrev pub count_at : List Layer → ℕ → ℕ → ℕ
count_at layers node d = cell (unwrap_or (slice_get layers d) []) node 0

-- The numbers of those with m atoms by the number of components, from 0 on: a row has c times as many of c components.
abbrev pub by_components : List ℕ → ℕ → List ℕ
by_components row m = one_at 0 m ∷ map (λ c. unwrap_or (slice_get row c) 0 / c) (range_with_len 1 (length row - 1))

-- the same of the node's row in each layer, by size
abbrev pub by_sizes : List Layer → ℕ → List (List ℕ)
by_sizes layers node =
    map (λ m. by_components (unwrap_or (slice_get (unwrap_or (slice_get layers m) []) node) []) m) (range_with_len 0 (length layers))

-- the number of those of c components with m atoms
abbrev pub fewer : List (List ℕ) → ℕ → ℕ → ℕ
fewer numbers c m = cell numbers m c

-- the multisets of c elements with m atoms, each with each of its elements: the others have at least one atom each
abbrev pub multisets_met : List Layer → List (List ℕ) → ℕ → ℕ → ℕ → ℕ
multisets_met layers numbers element c m =
    sum (map (λ d. count_at layers element d * number_pointed (fewer numbers) d c m) (range_with_len 1 (m + 1 - c)))

-- the same of sets without repeats: the others avoid the element
abbrev pub subsets_met : List Layer → List (List ℕ) → ℕ → ℕ → ℕ → ℕ
subsets_met layers numbers element c m =
    sum (map (λ d. count_at layers element d * number_avoiding (fewer numbers) d (c - 1) (m - d)) (range_with_len 1 (m + 1 - c)))
