-- Marks that grow one by one: what a step that marks a node, or that looks for one without a mark, is told.
use Rattle.std.proofs.Common.{◌≡◌, ℕ, ◌+◌, ◌-◌, ◌<◌, ◌≤◌, Bool, true, false, List, length, get_or, take, slice_get, Some, add-one, sym, ap, ◌∙◌, subst, inl, inr, arith}
use Rattle.std.proofs.Math.ListN.{set}
use Rattle.std.proofs.lemmas.List.{take_all}
use Rattle.std.proofs.lemmas.Option.{slice_get-get_or}
use Rattle.lists.specs.Enumeration.{IsIn}
use Rattle.lists.proofs.Places.{is_in_more}
use Rattle.graphs.specs.Graph.{Graph, next, IsGraph, IsMarked, IsUnmarked, count_true, IsNew, IsClosed, IsBehindMarked}
use Rattle.graphs.proofs.Reached.{next_at, IsSound, count_more, count_below, ClosedBelow, marked_within}

-- each of these nodes has a mark
abbrev pub AllMarked : List Bool → List ℕ → Type 0
AllMarked marks nodes = (j : ℕ) → IsIn j nodes → IsMarked marks j

-- steps of a loop over nodes
pub all_marked_more : (marks : List Bool) (nodes : List ℕ) (i d : ℕ) → i < length nodes → AllMarked marks (take i nodes) → IsMarked marks (get_or nodes i d) → AllMarked marks (take (i + 1) nodes)
all_marked_more marks nodes i d within before here = rw add-one (λ j at. elim (is_in_more nodes i j d within at) [
  | inl earlier ↦ before j earlier
  | inr same ↦ subst (λ (k : ℕ). IsMarked marks k) (sym same) here
])

-- what follows a node that has a mark has one, where that holds below the number of nodes
pub behind_all : (graph : Graph) (marks : List Bool) (n : ℕ) → length marks ≤ n → ClosedBelow graph marks n → (j : ℕ) → IsBehindMarked graph marks j → IsMarked marks j
behind_all graph marks n past before j behind = before behind.0 j (omega (arith, marked_within marks behind.0 behind.1)) behind.1 behind.2

-- the nodes behind one are nodes, which have places among the marks
pub next_within : (graph : Graph) (marks : List Bool) (i : ℕ) (nodes : List ℕ) → IsGraph graph → length marks ≡ length graph → slice_get graph i ≡ Some nodes
    → (j : ℕ) → IsIn j nodes → j < length marks
next_within graph marks i nodes graph_is same at j inside = omega (arith, graph_is i j (subst (λ (some : List ℕ). IsIn j some) (sym (next_at graph i nodes at)) inside))

-- what code reads at a place
pub mark_read : (marks : List Bool) (j : ℕ) (mark : Bool) → j < length marks → get_or marks j false ≡ mark → slice_get marks j ≡ Some mark
mark_read marks j mark within same = slice_get-get_or marks j false within ∙ ap Some same

pub graph_read : (graph : Graph) (i : ℕ) (nodes slice : List ℕ) → i < length graph → nodes ≡ get_or graph i nodes → slice ≡ nodes → slice_get graph i ≡ Some slice
graph_read graph i nodes slice within same read = slice_get-get_or graph i nodes within ∙ ap Some (sym same ∙ sym read)

-- what follows node i has marks, where the nodes that are read there have
pub begins_marked : (graph : Graph) (marks : List Bool) (i : ℕ) (nodes : List ℕ) → slice_get graph i ≡ Some nodes → AllMarked marks nodes → AllMarked marks (next graph i)
begins_marked graph marks i nodes at all = subst (λ (some : List ℕ). AllMarked marks some) (sym (next_at graph i nodes at)) all

pub is_in_next : (graph : Graph) (i : ℕ) (nodes : List ℕ) (j : ℕ) → slice_get graph i ≡ Some nodes → IsIn j nodes → IsIn j (next graph i)
is_in_next graph i nodes j at inside = subst (λ (some : List ℕ). IsIn j some) (sym (next_at graph i nodes at)) inside

-- there is less room for marks after one more
pub room_falls : (graph : Graph) (i : ℕ) (marks : List Bool) (j : ℕ) → IsSound graph i marks → IsNew graph i marks j → length graph - count_true (set marks j true) < length graph - count_true marks
room_falls graph i marks j sound new = omega (arith, sound.for_each, count_more marks j new.unmarked, count_below marks j new.unmarked)

-- what the search finds at marks holds of the marks that they are read from
pub new_at : (graph : Graph) (i : ℕ) (marks read : List Bool) (j : ℕ) → read ≡ marks → IsNew graph i read j → IsNew graph i marks j
new_at graph i marks read j same new = subst (λ (some : List Bool). IsNew graph i some j) same new

pub closed_at : (graph : Graph) (i : ℕ) (marks read : List Bool) → read ≡ marks → IsClosed graph i read → IsClosed graph i marks
closed_at graph i marks read same closed = subst (λ (some : List Bool). IsClosed graph i some) same closed

pub closed_by : (graph : Graph) (i : ℕ) (marks : List Bool) → AllMarked marks (next graph i) → ((j : ℕ) → IsBehindMarked graph marks j → IsMarked marks j) → IsClosed graph i marks
closed_by graph i marks begins goes_on = record { begins = begins; goes_on = λ middle j marked step. goes_on j (middle, marked, step) }

-- a node has no mark beside none
pub mark_or_none : (marks : List Bool) (j : ℕ) → IsMarked marks j → IsUnmarked marks j → ⊥
mark_or_none marks j marked unmarked = let wrong : Some true ≡ Some false = sym marked ∙ unmarked in cc
