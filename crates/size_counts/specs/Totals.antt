-- What the components of a container have in all, by the numbers of the structures of its element by size.
use Rattle.std.specs.Prelude.{◌≡◌, ℕ, zero, suc, ◌+◌, ◌-◌, ◌*◌, ◌^◌, ◌≤◌, ◌<◌, min, max, nat_eq, nat_le, nat_lt, Bool, true, false, ◌&&◌, ◌||◌, List, [], ◌∷◌, map, length, Some, slice_get, slice_index, unwrap_or}
use Rattle.std.specs.List.{list_any, range_with_len}
use Rattle.spec_syntax.specs.declared.statement.Universe.TheVariants.{Unlabelled}
use Rattle.spec_syntax.specs.declared.expr.Card.{Card}
use Rattle.spec_syntax.specs.Card.{admits}
use Rattle.spec_syntax.specs.Nodes.{children_at, card_at}
use Rattle.graphs.specs.Graph.{IsMarked}
use Rattle.well_founded.specs.declared.node.NodeKind.TheVariants as told
use Rattle.listing_laws.specs.NodeListing.{HasKind}
use Rattle.size_counts.specs.declared.tables.Tables.{Tables}
use Rattle.size_counts.specs.Numbers.{most_components}
use Rattle.size_counts.specs.Tables.{Layer, cell}

-- where there are so many structures of a size, do so many components of it stand in a container: where none repeats, no more than
-- there are structures
abbrev pub can_stand : Bool → ℕ → ℕ → Bool
can_stand true number times = nat_le times number
can_stand false number times = nat_eq times 0 || nat_lt 0 number

-- can n atoms be shared out among c components of these sizes, so many of the first size and then the others of the later ones
abbrev pub can_share : (ℕ → ℕ) → Bool → List ℕ → ℕ → ℕ → Bool
can_share numbers strict [] c n = nat_eq c 0 && nat_eq n 0
can_share numbers strict (size ∷ sizes) c n =
    list_any (λ times. can_stand strict (numbers size) times && (nat_le (times * size) n && can_share numbers strict sizes (c - times) (n - times * size))) (range_with_len 0 (c + 1))

-- can n atoms be shared out among as many components as the bound admits, each of at least `least` atoms and of one or more
abbrev pub may_fill : (ℕ → ℕ) → Bool → Card → ℕ → ℕ → Bool
may_fill numbers strict card least n = list_any (λ c. admits card c && can_share numbers strict (range_with_len (max least 1) (n + 1 - max least 1)) c n) (range_with_len 0 (n + 1))

-- ---- as facts

-- where there are so many structures of a size, may a component or more of this size stand in a container: where none repeats,
-- no more than there are structures
abbrev pub MayStand : Bool → ℕ → ℕ → Type 0
MayStand true number times = times ≤ number
MayStand false number times = 0 < number

-- c components with n atoms in all begin with as many as may stand there of a size, which is `least` or more, and then come others of
-- greater sizes
pub record Begins (may : ℕ → ℕ → Type 0) (Others : ℕ → ℕ → ℕ → Type 0) (least c n : ℕ) : Type 0 where
  pub size : ℕ
  pub times : ℕ
  pub low : least ≤ size
  pub some : 1 ≤ times
  pub may_stand : may size times
  pub components : times ≤ c
  pub atoms : times * size ≤ n
  pub others : Others (suc size) (c - times) (n - times * size)

-- c components of so many sizes, each of at least `least` atoms, have n atoms in all
abbrev pub SharesBy : (ℕ → ℕ → Type 0) → ℕ → ℕ → ℕ → ℕ → Type 0
SharesBy may zero least c n = (c ≡ 0) × (n ≡ 0)
SharesBy may (suc sizes) least c n = Begins may (SharesBy may sizes) least c n

-- c components, each of at least `least` atoms, have n atoms in all
abbrev pub Shares : (ℕ → ℕ → Type 0) → ℕ → ℕ → ℕ → Type 0
Shares may least c n = (sizes : ℕ) × SharesBy may sizes least c n

-- ---- by tables

-- how many components of a size may stand in a container, of at most 1000, where there are so many structures of the size
abbrev pub limit_of : Bool → ℕ → ℕ
limit_of true number = min number 1000
limit_of false zero = 0
limit_of false (suc number) = 1000

-- the same of each size
abbrev pub limits_of : List Layer → ℕ → Bool → List ℕ
limits_of layers element strict = map (λ layer. limit_of strict (cell layer element 0)) layers

-- of a size there are as many components as its limit, or fewer
abbrev pub WithinLimit : List ℕ → ℕ → ℕ → Type 0
WithinLimit limits size times = times ≤ slice_index limits size

-- the value is the greatest least size of c components with n atoms in all, or 0 where there are none; of no components each is
pub record IsGreatestLeast (may : ℕ → ℕ → Type 0) (c n value : ℕ) : Type 0 where
  pub sound : (least : ℕ) → 1 ≤ least → least ≤ value → Shares may least c n
  pub complete : (least : ℕ) → 1 ≤ least → least < 2 ^ 32 → Shares may least c n → least ≤ value

-- the rows have the greatest least sizes of up to so many components: by the number of atoms, and by that of components
pub record AreTotals (limits : List ℕ) (most : ℕ) (rows : List (List ℕ)) : Type 0 where
  pub each : (n c : ℕ) → n < length rows → c ≤ most → IsGreatestLeast (WithinLimit limits) c n (cell rows n c)

-- the row is that of n atoms
pub record IsRow (limits : List ℕ) (most n : ℕ) (row : List ℕ) : Type 0 where
  pub each : (c : ℕ) → c ≤ most → IsGreatestLeast (WithinLimit limits) c n (unwrap_or (slice_get row c) 0)

-- by the rows c components with n atoms can begin with some of size d, and at most so many, before others of greater sizes
pub record CanBegin (rows : List (List ℕ)) (limit d c n : ℕ) : Type 0 where
  pub times : ℕ
  pub some : 1 ≤ times
  pub within : times ≤ limit
  pub components : times ≤ c
  pub others : d < cell rows (n - times * d) (c - times)

-- the rows of a Set or a PowerSet
pub record HasTotals (tables : Tables) (strict : Bool) (node : ℕ) (rows : List (List ℕ)) : Type 0 where
  pub element : ℕ
  pub child : slice_get (children_at tables.grammar.rules node) 0 ≡ Some element
  pub card : Card
  pub bound : card_at tables.grammar.rules node ≡ Some card
  pub for_each : length rows ≡ length tables.layers.items
  pub totals : AreTotals (limits_of tables.layers.items element strict) (most_components card 1000) rows

-- the rows of a node, where it is marked and is a Set or a PowerSet without labels
pub record NodeTotals (tables : Tables) (node : ℕ) (rows : List (List ℕ)) : Type 0 where
  pub sets : tables.grammar.universe ≡ Unlabelled → IsMarked tables.marks.items node → HasKind tables.grammar node told.Set → HasTotals tables false node rows
  pub power_sets : tables.grammar.universe ≡ Unlabelled → IsMarked tables.marks.items node → HasKind tables.grammar node told.PowerSet → HasTotals tables true node rows

-- the rows of the first nodes
pub record AreKept (tables : Tables) (nodes : ℕ) (totals : List (List (List ℕ))) : Type 0 where
  pub for_each : length totals ≡ nodes
  pub each : (node : ℕ) (rows : List (List ℕ)) → slice_get totals node ≡ Some rows → NodeTotals tables node rows

-- by the rows as many components as the bound admits, each of at least `least` atoms, have n atoms in all
pub record IsFilled (rows : List (List ℕ)) (card : Card) (least n : ℕ) : Type 0 where
  pub components : ℕ
  pub admitted : admits card components ≡ true
  pub within : components ≤ n
  pub large : least ≤ cell rows n components
