-- When the count of a node can be told from what is told of others at the same size.
use Rattle.std.specs.Prelude.{◌≡◌, ℕ, ◌-◌, List, [], length, map, Option, Some, None, slice_get, IsTrue}
use Rattle.std.specs.List.{range_with_len}
use Rattle.spec_syntax.specs.declared.expr.Card.{Card}
use Rattle.spec_syntax.specs.declared.expr.Kind.{Kind}
use Rattle.spec_syntax.specs.Expression.{Expression, Expressions, Prod, Many}
use Rattle.spec_syntax.specs.Nodes.{node_at, below}
use Rattle.spec_syntax.specs.Grammar.{Grammar}
use Rattle.graphs.specs.Graph.{IsMarked}
use Rattle.struct_model.specs.Bounded.{number}
use Rattle.well_founded.specs.declared.node.NodeKind.{NodeKind}
use Rattle.well_founded.specs.declared.node.NodeKind.TheVariants as told
use Rattle.well_founded.specs.Checked.{Checked, grammar}
use Rattle.well_founded.specs.Rank.{FallsBySizes}
use Rattle.well_founded.specs.SameSize.{is_told_inside}
use Rattle.splits.specs.Capped.{Tells}
use Rattle.listing_laws.specs.ContainersRecur.{of_components}
use Rattle.size_counts.specs.declared.tables.Tables.{Tables}
use Rattle.size_counts.specs.Numbers.{most_components, numbers_at}
use Rattle.size_counts.specs.Suffixes.{FirstsTold}
use Rattle.size_counts.specs.Told.{values, IsReady, TellAll, TellNow}

-- the size of a word, where the node is one
abbrev pub word_size : NodeKind → Option ℕ
word_size told.Epsilon = Some 0
word_size told.Atom = Some 1
word_size told.Rule = None
word_size told.Union = None
word_size told.Prod = None
word_size told.Sequence = None
word_size told.Set = None
word_size told.PowerSet = None
word_size told.Cycle = None

-- the count at size m is told of each of these, which stand at these nodes
abbrev pub EachTold : Grammar → List Expression → List ℕ → List (Option ℕ) → ℕ → Type 0
EachTold g es nodes now m =
    (k node : ℕ) (e : Expression) (one : Option ℕ) → slice_get es k ≡ Some e → slice_get nodes k ≡ Some node → slice_get now node ≡ Some one → Tells one (number g e m)

-- the count at size m is told of what stands below the expression, which is node number n, unless it is a word
abbrev pub NameTold : Checked → ℕ → Expression → List (Option ℕ) → ℕ → Type 0
NameTold checked n e now m =
    (right : ℕ) (f : Expression) (one : Option ℕ) → slice_get (below checked.rules n e) 0 ≡ Some right → node_at checked.rules right ≡ Some f → IsTrue (is_told_inside f) → slice_get now right ≡ Some one
    → Tells one (number (grammar checked) f m)

-- of the node, where it is a container, the numbers of those of two components or more are told
abbrev pub LongerTold : Checked → ℕ → ℕ → List (Option ℕ) → Type 0
LongerTold checked node m longer =
    (kind : Kind) (element : Expression) (card : Card) → node_at checked.rules node ≡ Some (Many kind element card)
    → TellAll longer (map (λ c. of_components (grammar checked) kind element c m) (range_with_len 2 (most_components card m - 1)))

-- what is told of the numbers of the node beside its count: of a container those of two components or more, and of a Prod the
-- first suffixes, as far as they are made
pub record BesideTold (checked : Checked) (node m : ℕ) (beside : List (Option ℕ)) : Type 0 where
  pub longer : LongerTold checked node m beside
  pub firsts : (arguments : Expressions) → node_at checked.rules node ≡ Some (Prod arguments) → FirstsTold (grammar checked) arguments m beside

-- the same of each marked node below n
pub record AreBeside (tables : Tables) (m n : ℕ) (beside : List (List (Option ℕ))) : Type 0 where
  pub for_each : length beside ≡ n
  pub each : (node : ℕ) (one : List (Option ℕ)) → slice_get beside node ≡ Some one → IsMarked tables.marks.items node → BesideTold tables.grammar node m one

-- the node is marked and has the rank, and the counts at size m are told of all of lower rank
pub record IsTurn (tables : Tables) (node m rank : ℕ) (now : List (Option ℕ)) : Type 0 where
  pub ready : IsReady tables m
  pub marked : IsMarked tables.marks.items node
  pub ranked : slice_get tables.grammar.ranks node ≡ Some rank
  pub falls : (e : Expression) → node_at tables.grammar.rules node ≡ Some e → FallsBySizes tables.grammar.rules tables.grammar.leasts tables.grammar.ranks node e rank
  pub now_told : TellNow tables.grammar tables.marks.items m rank now

-- the numbers of each marked node below n at size m are told, in the order of their groups and indices
pub record AreRows (tables : Tables) (m n : ℕ) (rows : List (List (Option ℕ))) : Type 0 where
  pub for_each : length rows ≡ n
  pub each : (node : ℕ) (e : Expression) (row : List (Option ℕ)) → slice_get rows node ≡ Some row → IsMarked tables.marks.items node → node_at tables.grammar.rules node ≡ Some e
      → TellAll row (values (numbers_at (grammar tables.grammar) e m))
  pub empty : (node : ℕ) (row : List (Option ℕ)) → slice_get rows node ≡ Some row → (IsMarked tables.marks.items node → ⊥) → row ≡ []
