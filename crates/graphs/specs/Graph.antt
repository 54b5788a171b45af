-- Graphs whose nodes are the numbers from 0: for each node those that follow it.
use Rattle.std.specs.Prelude.{◌≡◌, ◌⊎◌, ℕ, zero, suc, ◌<◌, Bool, true, false, List, [], length, slice_get, unwrap_or, count_by, Some}
use Rattle.lists.specs.Enumeration.{IsIn}

abbrev pub Graph : Type 0
Graph = List (List ℕ)

-- the nodes that follow node i
abbrev pub next : Graph → ℕ → List ℕ
next graph i = unwrap_or (slice_get graph i) []

-- from i one gets to j with so many nodes in between
abbrev pub LeadsBy : Graph → ℕ → ℕ → ℕ → Type 0
LeadsBy graph zero i j = IsIn j (next graph i)
LeadsBy graph (suc between) i j = (middle : ℕ) × IsIn middle (next graph i) × LeadsBy graph between middle j

-- from i one gets to j in one step or more
abbrev pub Leads : Graph → ℕ → ℕ → Type 0
Leads graph i j = (between : ℕ) × LeadsBy graph between i j

-- each node that follows one is a node
abbrev pub IsGraph : Graph → Type 0
IsGraph graph = (i j : ℕ) → IsIn j (next graph i) → j < length graph

-- node j has a mark
abbrev pub IsMarked : List Bool → ℕ → Type 0
IsMarked marks j = slice_get marks j ≡ Some true

-- node j has none
abbrev pub IsUnmarked : List Bool → ℕ → Type 0
IsUnmarked marks j = slice_get marks j ≡ Some false

-- the nodes with a mark are those that one gets to from node i
pub record Reaches (graph : Graph) (i : ℕ) (marks : List Bool) : Type 0 where
  pub for_each : length marks ≡ length graph
  pub sound : (j : ℕ) → IsMarked marks j → Leads graph i j
  pub complete : (j : ℕ) → Leads graph i j → IsMarked marks j

-- how many nodes have a mark
abbrev pub count_true : List Bool → ℕ
count_true marks = count_by (λ mark. mark) marks

-- node i leads to so many nodes
pub record IsCount (graph : Graph) (i : ℕ) (count : ℕ) : Type 0 where
  pub marks : List Bool
  pub reached : Reaches graph i marks
  pub counted : count_true marks ≡ count

-- for each node the number of nodes that it leads to
pub record AreCounts (graph : Graph) (counts : List ℕ) : Type 0 where
  pub for_each : length counts ≡ length graph
  pub each : (i count : ℕ) → slice_get counts i ≡ Some count → IsCount graph i count

-- node j follows a node that has a mark
abbrev pub IsBehindMarked : Graph → List Bool → ℕ → Type 0
IsBehindMarked graph marks j = (middle : ℕ) × IsMarked marks middle × IsIn j (next graph middle)

-- node j has no mark, and follows node i or one that has a mark
pub record IsNew (graph : Graph) (i : ℕ) (marks : List Bool) (j : ℕ) : Type 0 where
  pub unmarked : IsUnmarked marks j
  pub follows : IsIn j (next graph i) ⊎ IsBehindMarked graph marks j

-- what follows node i has a mark, and so has what follows a node that has a mark
pub record IsClosed (graph : Graph) (i : ℕ) (marks : List Bool) : Type 0 where
  pub begins : (j : ℕ) → IsIn j (next graph i) → IsMarked marks j
  pub goes_on : (middle j : ℕ) → IsMarked marks middle → IsIn j (next graph middle) → IsMarked marks j

-- the first of the nodes that lead to themselves stands at this place, from 0
pub record IsFirstRound (graph : Graph) (nodes : List ℕ) (place : ℕ) : Type 0 where
  pub node : ℕ
  pub at : slice_get nodes place ≡ Some node
  pub leads : Leads graph node node
  pub before : (i other : ℕ) → i < place → slice_get nodes i ≡ Some other → Leads graph other other → ⊥

-- none of the nodes leads to itself
abbrev pub IsNoRound : Graph → List ℕ → Type 0
IsNoRound graph nodes = (i node : ℕ) → slice_get nodes i ≡ Some node → Leads graph node node → ⊥
