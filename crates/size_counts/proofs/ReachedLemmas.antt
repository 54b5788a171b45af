-- The nodes below each node, and marks of those that are reached.
use Rattle.std.proofs.Common.{◌≡◌, ◌⊎◌, ℕ, zero, suc, ◌+◌, ◌-◌, ◌<◌, ◌≤◌, Bool, true, false, List, [], ◌∷◌, ◌++◌, length, map, take, get_or, Option, Some, None, slice_get, unwrap_or, refl, sym, ap, ◌∙◌, subst, inl, inr, arith}
use Rattle.std.specs.Option.{option_map, option_map_or, option_and_then}
use Rattle.std.specs.List.{enumerate_from}
use Rattle.std.proofs.Math.ListN.{set}
use Rattle.std.proofs.lemmas.List.{length-set, take_more, length-map}
use Rattle.std.proofs.lemmas.Option.{slice_get-get_or, slice_get_within, slice_get-map, slice_get_past}
use Rattle.std.proofs.lemmas.List.FromFn.{length-enumerate_from}
use Rattle.std.proofs.lemmas.Bool.{cases_lt}
use Rattle.lists.specs.Enumeration.{IsIn}
use Rattle.lists.proofs.Indexed.{slice_get-enumerate_from}
use Rattle.lists.proofs.Positions.{slice_some}
use Rattle.spec_syntax.specs.Expression as expr
use Rattle.spec_syntax.specs.Expression.{Expression}
use Rattle.spec_syntax.specs.Rules.{Rules, all_nodes, symbol}
use Rattle.spec_syntax.specs.Nodes.{node_at, name_at, name_of, children_at, children_of, below, right_node}
use Rattle.spec_syntax.proofs.NodesLemmas.{below_nodes}
use Rattle.well_founded.specs.declared.node.NodeKind.{NodeKind}
use Rattle.well_founded.specs.declared.node.NodeKind.TheVariants as told
use Rattle.well_founded.specs.NodeKinds.{kind_of}
use Rattle.graphs.specs.Graph.{Graph, next, IsGraph, IsMarked, Reaches}
use Rattle.graphs.proofs.Reached.{next_at, marked_before, leads_step}
use Rattle.size_counts.specs.Reached.{below_graph, AreReached}

-- what is read at a place
pub at_read : {X : Type 0} (xs : List X) (i : ℕ) (x : X) → i < length xs → x ≡ get_or xs i x → slice_get xs i ≡ Some x
at_read xs i x within same = slice_get-get_or xs i x within ∙ ap Some (sym same)

-- one more
pub take_one : {X : Type 0} (xs : List X) (i : ℕ) (x : X) → slice_get xs i ≡ Some x → take (i + 1) xs ≡ take i xs ++ x ∷ []
take_one {X} xs i x at = take_more xs i x (slice_get_within xs i x at) ∙ ap (λ (y : X). take i xs ++ y ∷ []) read
  where
    read : get_or xs i x ≡ x
    read = let e : Some (get_or xs i x) ≡ Some x = sym (slice_get-get_or xs i x (slice_get_within xs i x at)) ∙ at in cc

pub children_here : (rules : Rules) (n : ℕ) (e : Expression) → node_at rules n ≡ Some e → children_at rules n ≡ children_of n e
children_here rules n e at = ap (λ (found : Option Expression). option_map_or (children_of n) found []) at

-- ---- the nodes below a node

kind_here : (rules : Rules) (n : ℕ) (e : Expression) (kind : NodeKind) → node_at rules n ≡ Some e → option_map kind_of (node_at rules n) ≡ Some kind → kind_of e ≡ kind
kind_here rules n e kind at is = let here : Some (kind_of e) ≡ Some kind = sym (ap (option_map kind_of) at) ∙ is in cc

pub below_children : (n : ℕ) (rules : Rules) (e : Expression) → (kind_of e ≡ told.Rule → ⊥) → below rules n e ≡ children_of n e
below_children n rules expr.Epsilon other = refl
below_children n rules expr.Atom other = refl
below_children n rules (expr.Name name) other = absurd (other refl)
below_children n rules (expr.Union es) other = refl
below_children n rules (expr.Prod es) other = refl
below_children n rules (expr.Many kind e card) other = refl

below_name : (n sym : ℕ) (rules : Rules) (e : Expression) → kind_of e ≡ told.Rule → option_and_then (symbol rules) (name_of e) ≡ Some sym → below rules n e ≡ right_node rules sym ∷ []
below_name n sym rules expr.Epsilon is named = absurd (cc)
below_name n sym rules expr.Atom is named = absurd (cc)
below_name n sym rules (expr.Name name) is named = ap (λ (found : Option ℕ). option_map_or (λ k. right_node rules k ∷ []) found []) named
below_name n sym rules (expr.Union es) is named = absurd (cc)
below_name n sym rules (expr.Prod es) is named = absurd (cc)
below_name n sym rules (expr.Many kind e card) is named = absurd (cc)

-- what is told of a node that names a rule
pub told_name : (rules : Rules) (n sym right : ℕ) → option_map kind_of (node_at rules n) ≡ Some told.Rule → option_and_then (symbol rules) (name_at rules n) ≡ Some sym → right ≡ right_node rules sym
    → (e : Expression) → node_at rules n ≡ Some e → [] ++ right ∷ [] ≡ below rules n e
told_name rules n sym right is named same e at =
    ap (λ (m : ℕ). m ∷ []) same ∙ Rattle.std.proofs.Common.sym (below_name n sym rules e (kind_here rules n e told.Rule at is) (subst (λ (found : Option Expression). option_and_then (symbol rules) (option_and_then name_of found) ≡ Some sym) at named))

-- and of one that doesn't
pub told_children : (rules : Rules) (n : ℕ) (kind : NodeKind) (made : List ℕ) → option_map kind_of (node_at rules n) ≡ Some kind → (kind ≡ told.Rule → ⊥) → made ≡ children_at rules n
    → (e : Expression) → node_at rules n ≡ Some e → made ≡ below rules n e
told_children rules n kind made is other same e at =
    same ∙ children_here rules n e at ∙ sym (below_children n rules e (λ named. other (sym (kind_here rules n e kind at is) ∙ named)))

-- ---- the graph

pub graph_at : (rules : Rules) (n : ℕ) (e : Expression) → node_at rules n ≡ Some e → slice_get (below_graph rules) n ≡ Some (below rules n e)
graph_at rules n e at =
    slice_get-map (λ (node : ℕ × Expression). below rules node.0 node.1) (enumerate_from 0 (all_nodes rules)) n
    ∙ ap (option_map (λ (node : ℕ × Expression). below rules node.0 node.1)) (slice_get-enumerate_from 0 n n (all_nodes rules) (omega arith) ∙ ap (option_map (λ (x : Expression). (n, x))) at)

pub length-below_graph : (rules : Rules) → length (below_graph rules) ≡ length (all_nodes rules)
length-below_graph rules =
    length-map (enumerate_from 0 (all_nodes rules)) (λ (node : ℕ × Expression). below rules node.0 node.1) ∙ length-enumerate_from 0 (all_nodes rules)

pub next_below : (rules : Rules) (n : ℕ) (e : Expression) → node_at rules n ≡ Some e → next (below_graph rules) n ≡ below rules n e
next_below rules n e at = next_at (below_graph rules) n (below rules n e) (graph_at rules n e at)

pub below_is_graph : (rules : Rules) → IsGraph (below_graph rules)
below_is_graph rules i j inside = by (cases_lt i (length (all_nodes rules)))
  where
    by : (i < length (all_nodes rules)) ⊎ (length (all_nodes rules) ≤ i) → j < length (below_graph rules)
    by (inl within) =
        let node = slice_some (all_nodes rules) i within in
        let here : IsIn j (below rules i node.0) = subst (λ (nodes : List ℕ). IsIn j nodes) (next_below rules i node.0 node.1) inside in
        omega (arith, length-below_graph rules, below_nodes rules i node.0 j node.1 here)
    by (inr past) =
        let none : next (below_graph rules) i ≡ [] = ap (λ (found : Option (List ℕ)). unwrap_or found []) (slice_get_past (below_graph rules) i (omega (arith, length-below_graph rules))) in
        let wrong : IsIn j [] = subst (λ (nodes : List ℕ). IsIn j nodes) none inside in absurd wrong

pub graph_step : (rules : Rules) (n : ℕ) (graph : List (List ℕ)) (row : List ℕ) → n < length (all_nodes rules) → ((e : Expression) → node_at rules n ≡ Some e → row ≡ below rules n e)
    → graph ≡ take n (below_graph rules) → graph ++ row ∷ [] ≡ take (n + 1) (below_graph rules)
graph_step rules n graph row within same so_far =
    let node = slice_some (all_nodes rules) n within in
    let at : slice_get (below_graph rules) n ≡ Some row = graph_at rules n node.0 node.1 ∙ ap Some (sym (same node.0 node.1)) in
    ap (λ (rows : List (List ℕ)). rows ++ row ∷ []) so_far ∙ sym (take_one (below_graph rules) n row at)

-- ---- the marks

marked_here : (marks : List Bool) (j : ℕ) → j < length marks → IsMarked (set marks j true) j
marked_here [] j within = absurd (omega arith)
marked_here (mark ∷ marks) zero within = refl
marked_here (mark ∷ marks) (suc j) within = marked_here marks j (omega arith)

marked_still : (marks : List Bool) (j k : ℕ) → IsMarked marks k → IsMarked (set marks j true) k
marked_still [] j k marked = marked
marked_still (mark ∷ marks) zero zero marked = refl
marked_still (mark ∷ marks) zero (suc k) marked = marked
marked_still (mark ∷ marks) (suc j) zero marked = marked
marked_still (mark ∷ marks) (suc j) (suc k) marked = marked_still marks j k marked

-- those that the node of the right side leads to, and that node itself
pub reached_all : (rules : Rules) (sym : ℕ) (marks : List Bool) → right_node rules sym < length (all_nodes rules) → Reaches (below_graph rules) (right_node rules sym) marks
    → AreReached rules sym (set marks (right_node rules sym) true)
reached_all rules number marks within reaches =
    record {
      for_each = length-set marks right true ∙ reaches.for_each ∙ length-below_graph rules;
      sound = λ node marked. elim (marked_before marks right node marked) [ inl same ↦ inl same | inr before ↦ inr (reaches.sound node before) ];
      complete = λ node reached. elim reached [
        | inl same ↦ subst (λ (k : ℕ). IsMarked (set marks right true) k) (sym same) (marked_here marks right within_marks)
        | inr way ↦ marked_still marks right node (reaches.complete node way)
      ];
    }
  where
    right : ℕ
    right = right_node rules number

    within_marks : right_node rules number < length marks
    within_marks = omega (arith, reaches.for_each, length-below_graph rules)

-- the same of a list of nodes and a node that are read
pub reached_by : (rules : Rules) (number right : ℕ) (graph : Graph) (marks : List Bool) → right ≡ right_node rules number → right < length (all_nodes rules) → graph ≡ below_graph rules → Reaches graph right marks
    → AreReached rules number (set marks right true)
reached_by rules number right graph marks same within is reaches =
    let of_graph : Reaches (below_graph rules) right marks = subst (λ (some : Graph). Reaches some right marks) is reaches in
    let of_right : Reaches (below_graph rules) (right_node rules number) marks = subst (λ (k : ℕ). Reaches (below_graph rules) k marks) same of_graph in
    let there : right_node rules number < length (all_nodes rules) = subst (λ (k : ℕ). k < length (all_nodes rules)) same within in
    subst (λ (k : ℕ). AreReached rules number (set marks k true)) (sym same) (reached_all rules number marks there of_right)

pub is_graph_by : (rules : Rules) (graph : Graph) → graph ≡ below_graph rules → IsGraph graph
is_graph_by rules graph is = subst (λ (some : Graph). IsGraph some) (sym is) (below_is_graph rules)

pub length_by : (rules : Rules) (graph : Graph) → graph ≡ below_graph rules → length graph ≡ length (all_nodes rules)
length_by rules graph is = ap (λ (some : Graph). length some) is ∙ length-below_graph rules

-- what the marks of reached nodes are closed under
pub reached_closed : (rules : Rules) (number : ℕ) (marks : List Bool) → AreReached rules number marks → (n m : ℕ) (e : Expression) → IsMarked marks n → node_at rules n ≡ Some e → IsIn m (below rules n e)
    → IsMarked marks m
reached_closed rules number marks reached n m e marked at inside = reached.complete m (inr (elim (reached.sound n marked) [
  | inl same ↦ (zero, subst (λ (k : ℕ). IsIn m (next (below_graph rules) k)) same step)
  | inr way ↦ leads_step (below_graph rules) (right_node rules number) n m way step
]))
  where
    step : IsIn m (next (below_graph rules) n)
    step = subst (λ (nodes : List ℕ). IsIn m nodes) (sym (next_below rules n e at)) inside
