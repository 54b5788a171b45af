-- The numbers of a class at a size, and the first of them that is too large.
use Rattle.std.specs.Prelude.{◌≡◌, ℕ, ◌+◌, ◌-◌, ◌*◌, ◌^◌, min, nat_le, Bool, false, List, [], ◌∷◌, map, drop, length, find, Option, slice_get, unwrap_or, if◌then◌else◌}
use Rattle.std.specs.Option.{option_map, option_map_or}
use Rattle.std.specs.List.{flat_map, range_with_len}
use Rattle.spec_syntax.specs.declared.expr.Kind.{Kind}
use Rattle.spec_syntax.specs.declared.expr.Kind.TheVariants as kind
use Rattle.spec_syntax.specs.declared.expr.Card.{Card}
use Rattle.spec_syntax.specs.Expression.{Expression, Epsilon, Atom, Name, Union, Prod, Many, expressions_of, expression_list}
use Rattle.spec_syntax.specs.Rules.{Rules}
use Rattle.spec_syntax.specs.Nodes.{node_at, place_in_rule}
use Rattle.spec_syntax.specs.Grammar.{Grammar}
use Rattle.struct_model.specs.Bounded.{number}
use Rattle.listing_laws.specs.Numbers.{exactly}
use Rattle.size_counts.specs.declared.place.Group.{Group}
use Rattle.size_counts.specs.declared.place.Group.TheVariants as group
use Rattle.size_counts.specs.declared.place.Place.{Place}
use Rattle.size_counts.specs.Reached.{AreReached}

-- ---- the numbers of an expression at a size

-- a number of an expression, with its group and its index there
pub record Numbered : Type 0 where
  pub group : Group
  pub index : ℕ
  pub number : ℕ

-- lists of structures of the arguments of a Prod from number i on, counted from 1
abbrev pub suffix_number : Grammar → List Expression → ℕ → ℕ → ℕ
suffix_number g arguments i m = number g (Prod (expressions_of (drop (i - 1) arguments))) m

abbrev pub suffixes_at : Grammar → List Expression → ℕ → List Numbered
suffixes_at g arguments m =
    map (λ i. record { group = group.Suffix; index = i; number = suffix_number g arguments i m }) (range_with_len 2 (length arguments - 1))

-- the greatest number of components that is looked at with m atoms: m, or the upper bound where that is less
abbrev pub most_components : Card → ℕ → ℕ
most_components card m = option_map_or (min m) card.high m

-- lists of exactly c components
abbrev pub list_number : Grammar → Expression → ℕ → ℕ → ℕ
list_number g element c m = number g (Many kind.Sequence element (exactly c)) m

abbrev pub lists_at : Grammar → Expression → Card → ℕ → List Numbered
lists_at g element card m =
    map (λ c. record { group = group.Lists; index = c; number = list_number g element c m }) (range_with_len 1 (most_components card m))

-- c times the containers of exactly c components
abbrev pub sets_at : Grammar → Kind → Expression → Card → ℕ → List Numbered
sets_at g kind element card m =
    map (λ c. record { group = group.Sets; index = c; number = c * number g (Many kind element (exactly c)) m }) (range_with_len 1 (most_components card m))

-- the numbers of an expression beside its count: of a Prod those of its later arguments, of a container those by the number of
-- components
abbrev pub others_at : Grammar → Expression → ℕ → List Numbered
others_at g Epsilon m = []
others_at g Atom m = []
others_at g (Name name) m = []
others_at g (Union arguments) m = []
others_at g (Prod arguments) m = suffixes_at g (expression_list arguments) m
others_at g (Many kind.Sequence element card) m = lists_at g element card m
others_at g (Many kind.Set element card) m = sets_at g kind.Set element card m
others_at g (Many kind.PowerSet element card) m = sets_at g kind.PowerSet element card m
others_at g (Many kind.Cycle element card) m = lists_at g element card m

-- the count, and then the others
abbrev pub numbers_at : Grammar → Expression → ℕ → List Numbered
numbers_at g e m = record { group = group.Count; index = 0; number = number g e m } ∷ others_at g e m

-- ---- the numbers of a class up to a size

-- a number of a node at a size
pub record Spot : Type 0 where
  pub size : ℕ
  pub node : ℕ
  pub numbered : Numbered

-- the numbers of node number `node` at size m
abbrev pub numbers_of_node : Grammar → ℕ → ℕ → List Spot
numbers_of_node g m node =
    map (λ numbered. record { size = m; node = node; numbered = numbered }) (option_map_or (λ e. numbers_at g e m) (node_at g.rules node) [])

-- does the node have a mark
abbrev pub is_marked : List Bool → ℕ → Bool
is_marked marks node = unwrap_or (slice_get marks node) false

-- the numbers of the marked nodes at size m
abbrev pub numbers_of_size : Grammar → List Bool → ℕ → List Spot
numbers_of_size g marks m = flat_map (λ node. if is_marked marks node then numbers_of_node g m node else []) (range_with_len 0 (length marks))

-- those at the sizes up to n: by size, then by node, then by group, then by index
abbrev pub numbers_to : Grammar → List Bool → ℕ → List Spot
numbers_to g marks n = flat_map (numbers_of_size g marks) (range_with_len 0 (n + 1))

-- ---- numbers that are too large

-- has the number more than 128 bits
abbrev pub is_large : ℕ → Bool
is_large n = nat_le (2 ^ 128) n

abbrev pub is_large_spot : Spot → Bool
is_large_spot spot = is_large spot.numbered.number

abbrev pub first_large : Grammar → List Bool → ℕ → Option Spot
first_large g marks n = find is_large_spot (numbers_to g marks n)

-- where a number stands: the rule of its node and the node's place there, both counted from 1, group, index and size
abbrev pub place_of : Rules → Spot → Place
place_of rules spot = record {
  rule = (unwrap_or (place_in_rule rules spot.node) (0, 0)).0;
  node = (unwrap_or (place_in_rule rules spot.node) (0, 0)).1;
  group = spot.numbered.group;
  index = spot.numbered.index;
  size = spot.size;
}

-- what the numbers of the class of rule number sym up to size n say: nothing, or the place of the first that is too large
pub record NumbersSay (g : Grammar) (sym n : ℕ) (said : Option Place) : Type 0 where
  pub marks : List Bool
  pub reached : AreReached g.rules sym marks
  pub found : said ≡ option_map (place_of g.rules) (first_large g marks n)
