-- What one gets to in a graph: marks that grow until nothing is new are those of all that one gets to.
use Rattle.std.proofs.Common.{◌≡◌, ◌⊎◌, ℕ, zero, suc, ◌+◌, ◌<◌, ◌≤◌, Bool, true, false, cond, List, [], ◌∷◌, length, unwrap_or, replicate, slice_get, Option, Some, None, refl, add-one, sym, ap, ◌∙◌, subst, inl, inr, arith}
use Rattle.std.proofs.Math.ListN.{set}
use Rattle.std.proofs.lemmas.List.{length-set, length-replicate}
use Rattle.std.proofs.lemmas.Bool.{cases_lt}
use Rattle.std.proofs.lemmas.List.Sums.{count_by-le-length, sum_by-cons}
use Rattle.std.proofs.lemmas.Option.{slice_get_within}
use Rattle.lists.specs.Enumeration.{IsIn}
use Rattle.graphs.specs.Graph.{Graph, next, LeadsBy, Leads, IsGraph, IsMarked, IsUnmarked, Reaches, count_true, IsNew, IsClosed}

pub next_at : (graph : Graph) (i : ℕ) (nodes : List ℕ) → slice_get graph i ≡ Some nodes → next graph i ≡ nodes
next_at graph i nodes at = ap (λ (found : Option (List ℕ)). unwrap_or found []) at

-- a step, and then a way
pub step_leads : (graph : Graph) (i middle j : ℕ) → IsIn middle (next graph i) → Leads graph middle j → Leads graph i j
step_leads graph i middle j step way = (suc way.0, (middle, step, way.1))

leads_by_trans : (graph : Graph) (between other i j k : ℕ) → LeadsBy graph between i j → LeadsBy graph other j k → Leads graph i k
leads_by_trans graph zero other i j k first second = (suc other, (j, first, second))
leads_by_trans graph (suc between) other i j k first second =
    step_leads graph i first.0 k first.1 (leads_by_trans graph between other first.0 j k first.2 second)

pub leads_trans : (graph : Graph) (i j k : ℕ) → Leads graph i j → Leads graph j k → Leads graph i k
leads_trans graph i j k first second = leads_by_trans graph first.0 second.0 i j k first.1 second.1

-- a way, and then a step
pub leads_step : (graph : Graph) (i middle j : ℕ) → Leads graph i middle → IsIn j (next graph middle) → Leads graph i j
leads_step graph i middle j way step = leads_trans graph i middle j way (zero, step)

-- a way is a step, or a way and then a step
last_step_by : (graph : Graph) (between i j : ℕ) → LeadsBy graph between i j → (middle : ℕ) × ((i ≡ middle) ⊎ Leads graph i middle) × IsIn j (next graph middle)
last_step_by graph zero i j way = (i, inl refl, way)
last_step_by graph (suc between) i j way =
    let rest = last_step_by graph between way.0 j way.2 in
    (rest.0, inr (elim (rest.1) [ inl same ↦ (zero, subst (λ (middle : ℕ). IsIn middle (next graph i)) same way.1) | inr more ↦ step_leads graph i way.0 rest.0 way.1 more ]), rest.2)

pub last_step : (graph : Graph) (i j : ℕ) → Leads graph i j → (middle : ℕ) × ((i ≡ middle) ⊎ Leads graph i middle) × IsIn j (next graph middle)
last_step graph i j way = last_step_by graph way.0 i j way.1

-- where marks are closed, what one gets to from a node with a mark has one
closed_from : (graph : Graph) (i : ℕ) (marks : List Bool) → IsClosed graph i marks → (between middle j : ℕ) → IsMarked marks middle → LeadsBy graph between middle j → IsMarked marks j
closed_from graph i marks closed zero middle j marked way = closed.goes_on middle j marked way
closed_from graph i marks closed (suc between) middle j marked way =
    closed_from graph i marks closed between way.0 j (closed.goes_on middle way.0 marked way.1) way.2

closed_all : (graph : Graph) (i : ℕ) (marks : List Bool) → IsClosed graph i marks → (between j : ℕ) → LeadsBy graph between i j → IsMarked marks j
closed_all graph i marks closed zero j way = closed.begins j way
closed_all graph i marks closed (suc between) j way = closed_from graph i marks closed between way.0 j (closed.begins way.0 way.1) way.2

-- one gets from node i to each node with a mark
pub record IsSound (graph : Graph) (i : ℕ) (marks : List Bool) : Type 0 where
  pub for_each : length marks ≡ length graph
  pub sound : (j : ℕ) → IsMarked marks j → Leads graph i j

-- sound and closed marks are those of what one gets to
pub reaches_closed : (graph : Graph) (i : ℕ) (marks : List Bool) → IsSound graph i marks → IsClosed graph i marks → Reaches graph i marks
reaches_closed graph i marks sound closed =
    record { for_each = sound.for_each; sound = sound.sound; complete = λ j way. closed_all graph i marks closed way.0 j way.1 }

-- one gets to what is new
pub new_is_led_to : (graph : Graph) (i : ℕ) (marks : List Bool) (j : ℕ) → IsSound graph i marks → IsNew graph i marks j → Leads graph i j
new_is_led_to graph i marks j sound new =
    elim (new.follows) [ inl step ↦ (zero, step) | inr step ↦ leads_step graph i step.0 j (sound.sound step.0 step.1) step.2 ]

-- a node with a mark after one more is marked had it before or is the one
pub marked_before : (marks : List Bool) (j k : ℕ) → IsMarked (set marks j true) k → (k ≡ j) ⊎ IsMarked marks k
marked_before [] j k marked = inr marked
marked_before (mark ∷ marks) zero zero marked = inl refl
marked_before (mark ∷ marks) zero (suc k) marked = inr marked
marked_before (mark ∷ marks) (suc j) zero marked = inr marked
marked_before (mark ∷ marks) (suc j) (suc k) marked =
    elim (marked_before marks j k marked) [ inl same ↦ inl (ap suc same) | inr before ↦ inr before ]

-- marking what is new keeps marks sound
pub sound_more : (graph : Graph) (i : ℕ) (marks : List Bool) (j : ℕ) → IsSound graph i marks → IsNew graph i marks j → IsSound graph i (set marks j true)
sound_more graph i marks j sound new = record {
  for_each = length-set marks j true ∙ sound.for_each;
  sound = λ k marked. elim (marked_before marks j k marked) [
    | inl same ↦ subst (λ (node : ℕ). Leads graph i node) (sym same) (new_is_led_to graph i marks j sound new)
    | inr before ↦ sound.sound k before
  ];
}

-- a first mark counts
pub count_first : (mark : Bool) (marks : List Bool) → count_true (mark ∷ marks) ≡ cond mark 1 0 + count_true marks
count_first mark marks = sum_by-cons (λ (first : Bool). cond first 1 0) mark marks

-- it is one mark more
pub count_more : (marks : List Bool) (j : ℕ) → IsUnmarked marks j → count_true (set marks j true) ≡ count_true marks + 1
count_more [] j unmarked = cc
count_more (true ∷ marks) zero unmarked = cc
count_more (false ∷ marks) zero unmarked = omega (arith, count_first true marks, count_first false marks)
count_more (mark ∷ marks) (suc j) unmarked =
    omega (arith, count_first mark (set marks j true), count_first mark marks, count_more marks j unmarked)

-- where a node has no mark there are fewer marks than nodes
pub count_below : (marks : List Bool) (j : ℕ) → IsUnmarked marks j → count_true marks < length marks
count_below [] j unmarked = cc
count_below (true ∷ marks) zero unmarked = cc
count_below (false ∷ marks) zero unmarked = omega (arith, count_first false marks, count_by-le-length (λ (mark : Bool). mark) marks)
count_below (true ∷ marks) (suc j) unmarked = omega (arith, count_first true marks, count_below marks j unmarked)
count_below (false ∷ marks) (suc j) unmarked = omega (arith, count_first false marks, count_below marks j unmarked)

none_marked : (n k : ℕ) → IsMarked (replicate n false) k → ⊥
none_marked zero k marked = cc
none_marked (suc n) zero marked = cc
none_marked (suc n) (suc k) marked = none_marked n k marked

pub sound_none : (graph : Graph) (i : ℕ) → IsSound graph i (replicate (length graph) false)
sound_none graph i = record { for_each = length-replicate (length graph) false; sound = λ k marked. absurd (none_marked (length graph) k marked) }

-- a node has a mark or has none
pub marked_or_not : (marks : List Bool) (j : ℕ) → j < length marks → IsMarked marks j ⊎ IsUnmarked marks j
marked_or_not [] j within = absurd (omega arith)
marked_or_not (true ∷ marks) zero within = inl refl
marked_or_not (false ∷ marks) zero within = inr refl
marked_or_not (mark ∷ marks) (suc j) within = marked_or_not marks j (omega arith)

-- what follows these nodes: one that has no mark, or all have marks
unmarked_in : (marks : List Bool) (nodes : List ℕ) → ((j : ℕ) → IsIn j nodes → j < length marks)
    → ((j : ℕ) × IsIn j nodes × IsUnmarked marks j) ⊎ ((j : ℕ) → IsIn j nodes → IsMarked marks j)
unmarked_in marks [] within = inr (λ j at. absurd at)
unmarked_in marks (node ∷ nodes) within =
    elim (marked_or_not marks node (within node (inl refl))) [
      | inr unmarked ↦ inl (node, inl refl, unmarked)
      | inl marked ↦ elim (unmarked_in marks nodes (λ j at. within j (inr at))) [
        | inl found ↦ inl (found.0, inr found.1, found.2)
        | inr all ↦ inr (λ j at. elim at [ inl same ↦ subst (λ (k : ℕ). IsMarked marks k) (sym same) marked | inr later ↦ all j later ])
      ]
    ]

-- is node n the one that has a mark, or has it none
told_apart : (marks : List Bool) (n : ℕ) → IsMarked marks n ⊎ (IsMarked marks n → ⊥)
told_apart [] n = inr (λ marked. let wrong : ◌≡◌ {A = Option Bool} None (Some true) = marked in cc)
told_apart (true ∷ marks) zero = inl refl
told_apart (false ∷ marks) zero = inr (λ marked. let wrong : Some false ≡ Some true = marked in cc)
told_apart (mark ∷ marks) (suc n) = told_apart marks n

-- what follows the nodes below n that have a mark has one
abbrev pub ClosedBelow : Graph → List Bool → ℕ → Type 0
ClosedBelow graph marks n = (middle j : ℕ) → middle < n → IsMarked marks middle → IsIn j (next graph middle) → IsMarked marks j

pub closed_none : (graph : Graph) (marks : List Bool) → ClosedBelow graph marks 0
closed_none graph marks middle j below marked step = absurd (omega arith)

pub closed_more : (graph : Graph) (marks : List Bool) (n : ℕ) → ClosedBelow graph marks n → (IsMarked marks n → (j : ℕ) → IsIn j (next graph n) → IsMarked marks j)
    → ClosedBelow graph marks (n + 1)
closed_more graph marks n before here middle j below marked step = by (cases_lt middle n)
  where
    by : (middle < n) ⊎ (n ≤ middle) → IsMarked marks j
    by (inl earlier) = before middle j earlier marked step
    by (inr later) =
        let same : middle ≡ n = omega arith in
        here (subst (λ (k : ℕ). IsMarked marks k) same marked) j (subst (λ (k : ℕ). IsIn j (next graph k)) same step)

-- of the nodes below n: one that is new behind them, or none
new_behind : (graph : Graph) → IsGraph graph → (i : ℕ) (marks : List Bool) → length marks ≡ length graph → (n : ℕ)
    → ((j : ℕ) × IsNew graph i marks j) ⊎ ClosedBelow graph marks n
new_behind graph graph_is i marks same zero = inr (closed_none graph marks)
new_behind graph graph_is i marks same (suc n) =
    let within : (j : ℕ) → IsIn j (next graph n) → j < length marks = λ j at. subst (λ (k : ℕ). j < k) (sym same) (graph_is n j at) in
    by (new_behind graph graph_is i marks same n) (told_apart marks n) (unmarked_in marks (next graph n) within)
  where
    more : (IsMarked marks n → (j : ℕ) → IsIn j (next graph n) → IsMarked marks j) → ClosedBelow graph marks n → ClosedBelow graph marks (suc n)
    more here before = rw (← add-one) (closed_more graph marks n before here)

    by : ((j : ℕ) × IsNew graph i marks j) ⊎ ClosedBelow graph marks n → IsMarked marks n ⊎ (IsMarked marks n → ⊥)
        → ((j : ℕ) × IsIn j (next graph n) × IsUnmarked marks j) ⊎ ((j : ℕ) → IsIn j (next graph n) → IsMarked marks j)
        → ((j : ℕ) × IsNew graph i marks j) ⊎ ClosedBelow graph marks (suc n)
    by (inl found) told inside = inl found
    by (inr before) (inr not_marked) inside = inr (more (λ marked. absurd (not_marked marked)) before)
    by (inr before) (inl marked) (inl found) = inl (found.0, record { unmarked = found.2; follows = inr (n, marked, found.1) })
    by (inr before) (inl marked) (inr all) = inr (more (λ _. all) before)

pub marked_within : (marks : List Bool) (j : ℕ) → IsMarked marks j → j < length marks
marked_within marks j marked = slice_get_within marks j true marked

-- closed below the number of nodes is closed
pub is_closed : (graph : Graph) (i : ℕ) (marks : List Bool) → ((j : ℕ) → IsIn j (next graph i) → IsMarked marks j) → ClosedBelow graph marks (length marks) → IsClosed graph i marks
is_closed graph i marks begins goes_on =
    record { begins = begins; goes_on = λ middle j marked step. goes_on middle j (marked_within marks middle marked) marked step }

-- one node is new, or the marks are closed
pub new_or_closed : (graph : Graph) → IsGraph graph → (i : ℕ) (marks : List Bool) → length marks ≡ length graph → ((j : ℕ) × IsNew graph i marks j) ⊎ IsClosed graph i marks
new_or_closed graph graph_is i marks same =
    let within : (j : ℕ) → IsIn j (next graph i) → j < length marks = λ j at. subst (λ (k : ℕ). j < k) (sym same) (graph_is i j at) in
    by (unmarked_in marks (next graph i) within) (new_behind graph graph_is i marks same (length marks))
  where
    by : ((j : ℕ) × IsIn j (next graph i) × IsUnmarked marks j) ⊎ ((j : ℕ) → IsIn j (next graph i) → IsMarked marks j)
        → ((j : ℕ) × IsNew graph i marks j) ⊎ ClosedBelow graph marks (length marks) → ((j : ℕ) × IsNew graph i marks j) ⊎ IsClosed graph i marks
    by (inl found) behind = inl (found.0, record { unmarked = found.2; follows = inl found.1 })
    by (inr begins) (inl found) = inl found
    by (inr begins) (inr goes_on) = inr (is_closed graph i marks begins goes_on)

-- the marks that sound ones grow to
marks_from : (graph : Graph) → IsGraph graph → (i room : ℕ) (marks : List Bool) → IsSound graph i marks → length marks ≤ count_true marks + room
    → (more : List Bool) × Reaches graph i more
marks_from graph graph_is i zero marks sound room =
    elim (new_or_closed graph graph_is i marks (sound.for_each)) [
      | inl found ↦ absurd (omega (arith, count_below marks found.0 found.1.unmarked))
      | inr closed ↦ (marks, reaches_closed graph i marks sound closed)
    ]
marks_from graph graph_is i (suc left) marks sound room =
    elim (new_or_closed graph graph_is i marks (sound.for_each)) [
      | inl found ↦ marks_from graph graph_is i left (set marks found.0 true) (sound_more graph i marks found.0 sound found.1)
          (omega (arith, length-set marks found.0 true, count_more marks found.0 found.1.unmarked))
      | inr closed ↦ (marks, reaches_closed graph i marks sound closed)
    ]

-- each node has its marks
pub marks_exist : (graph : Graph) → IsGraph graph → (i : ℕ) → (marks : List Bool) × Reaches graph i marks
marks_exist graph graph_is i =
    marks_from graph graph_is i (length graph) (replicate (length graph) false) (sound_none graph i) (omega (arith, length-replicate (length graph) false))
