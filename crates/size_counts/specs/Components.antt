-- Containers by the number of their components.
use Rattle.std.specs.Prelude.{ℕ, ◌-◌, ◌*◌, ◌/◌}
use Rattle.spec_syntax.specs.declared.statement.Universe.{Universe}
use Rattle.spec_syntax.specs.declared.expr.Kind.{Kind}
use Rattle.spec_syntax.specs.declared.expr.Kind.TheVariants as kind
use Rattle.well_founded.specs.declared.node.NodeKind.{NodeKind}
use Rattle.well_founded.specs.declared.node.NodeKind.TheVariants as told
use Rattle.listing_laws.specs.Numbers.{ways, one_at}

-- what the components behind the first one are: those of a Cycle are a list
abbrev pub rest_kind : Kind → Kind
rest_kind kind.Sequence = kind.Sequence
rest_kind kind.Set = kind.Set
rest_kind kind.PowerSet = kind.PowerSet
rest_kind kind.Cycle = kind.Sequence

-- in how many ways a first component takes d of m labels: in a Sequence any of them, and in other containers the first label
-- and any of the others
abbrev pub first_ways : Universe → NodeKind → ℕ → ℕ → ℕ
first_ways universe told.Epsilon m d = 0
first_ways universe told.Atom m d = 0
first_ways universe told.Rule m d = 0
first_ways universe told.Union m d = 0
first_ways universe told.Prod m d = 0
first_ways universe told.Sequence m d = ways universe m d
first_ways universe told.Set m d = ways universe (m - 1) (d - 1)
first_ways universe told.PowerSet m d = ways universe (m - 1) (d - 1)
first_ways universe told.Cycle m d = ways universe (m - 1) (d - 1)

-- the number of containers of no components with m atoms
abbrev pub of_none : NodeKind → ℕ → ℕ
of_none told.Epsilon m = 0
of_none told.Atom m = 0
of_none told.Rule m = 0
of_none told.Union m = 0
of_none told.Prod m = 0
of_none told.Sequence m = one_at 0 m
of_none told.Set m = one_at 0 m
of_none told.PowerSet m = one_at 0 m
of_none told.Cycle m = 0

-- what a row has where there are n containers of c components: of a Cycle the lists, which are c times as many
abbrev pub in_row : NodeKind → ℕ → ℕ → ℕ
in_row told.Epsilon c n = 0
in_row told.Atom c n = 0
in_row told.Rule c n = 0
in_row told.Union c n = 0
in_row told.Prod c n = 0
in_row told.Sequence c n = n
in_row told.Set c n = c * n
in_row told.PowerSet c n = c * n
in_row told.Cycle c n = c * n

-- how many rests of c components there are where a row has this number
abbrev pub rests_of : NodeKind → ℕ → ℕ → ℕ
rests_of told.Epsilon c number = 0
rests_of told.Atom c number = 0
rests_of told.Rule c number = 0
rests_of told.Union c number = 0
rests_of told.Prod c number = 0
rests_of told.Sequence c number = number
rests_of told.Set c number = number / c
rests_of told.PowerSet c number = number / c
rests_of told.Cycle c number = number
