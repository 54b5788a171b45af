-- What is known of the tables, and of the numbers at the size that is being filled.
use Rattle.std.specs.Prelude.{◌≡◌, ◌⊎◌, ℕ, Bool, ◌≤◌, ◌<◌, ◌^◌, List, length, map, Option, Some, slice_get}
use Rattle.spec_syntax.specs.Expression.{Expression}
use Rattle.spec_syntax.specs.Rules.{Rules, all_nodes}
use Rattle.spec_syntax.specs.Nodes.{node_at, below}
use Rattle.spec_syntax.specs.Grammar.{Grammar}
use Rattle.lists.specs.Enumeration.{IsIn}
use Rattle.graphs.specs.Graph.{IsMarked}
use Rattle.struct_model.specs.Bounded.{number}
use Rattle.well_founded.specs.Checked.{Checked, IsChecked, grammar}
use Rattle.size_counts.specs.declared.tables.Tables.{Tables}
use Rattle.size_counts.specs.Numbers.{Numbered, numbers_at}
use Rattle.size_counts.specs.Tables.{Layer}
use Rattle.splits.specs.Capped.{Tells}
use Rattle.size_counts.specs.Ways.{universe_of, CanSplit}

-- the numbers alone
abbrev pub values : List Numbered → List ℕ
values numbers = map (λ numbered. numbered.number) numbers

-- the layer has the numbers of the marked nodes at size m, and none of them is too large
pub record IsLayer (g : Grammar) (marks : List Bool) (m : ℕ) (layer : Layer) : Type 0 where
  pub for_each : length layer ≡ length (all_nodes g.rules)
  pub each : (node : ℕ) (e : Expression) → IsMarked marks node → node_at g.rules node ≡ Some e → slice_get layer node ≡ Some (values (numbers_at g e m))
  pub small : (node : ℕ) (e : Expression) → IsMarked marks node → node_at g.rules node ≡ Some e → (i v : ℕ) → slice_get (values (numbers_at g e m)) i ≡ Some v → v < 2 ^ 128

-- what stands below a marked node is marked
abbrev pub AreClosed : Rules → List Bool → Type 0
AreClosed rules marks = (n m : ℕ) (e : Expression) → IsMarked marks n → node_at rules n ≡ Some e → IsIn m (below rules n e) → IsMarked marks m

-- the layers have the numbers of the marked nodes of a checked grammar, by size from 0 on
pub record AreTold (checked : Checked) (marks : List Bool) (layers : List Layer) : Type 0 where
  pub is_checked : IsChecked checked
  pub for_each : length marks ≡ length (all_nodes checked.rules)
  pub closed : AreClosed checked.rules marks
  pub layer_is : (m : ℕ) (layer : Layer) → slice_get layers m ≡ Some layer → IsLayer (grammar checked) marks m layer

-- the tables serve for size m: they have all that is smaller
pub record IsReady (tables : Tables) (m : ℕ) : Type 0 where
  pub told : AreTold tables.grammar tables.marks.items tables.layers.items
  pub filled : length tables.layers.items ≡ m
  pub small : m ≤ 1000
  pub universe : universe_of tables.ways ≡ tables.grammar.universe
  pub ways : CanSplit tables.ways m

-- the first tell the second
pub record TellAll (told : List (Option ℕ)) (numbers : List ℕ) : Type 0 where
  pub for_each : length told ≡ length numbers
  pub each : (i n : ℕ) (one : Option ℕ) → slice_get told i ≡ Some one → slice_get numbers i ≡ Some n → Tells one n

-- the counts at size m are told of the marked nodes whose rank is below r or whose least size is above m
pub record TellNow (checked : Checked) (marks : List Bool) (m r : ℕ) (now : List (Option ℕ)) : Type 0 where
  pub for_each : length now ≡ length (all_nodes checked.rules)
  pub each : (node least rank : ℕ) (e : Expression) (told : Option ℕ) → IsMarked marks node → node_at checked.rules node ≡ Some e → slice_get checked.leasts node ≡ Some least
      → slice_get checked.ranks node ≡ Some rank → (rank < r) ⊎ (m < least) → slice_get now node ≡ Some told → Tells told (number (grammar checked) e m)
