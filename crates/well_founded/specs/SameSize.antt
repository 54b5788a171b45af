-- Which nodes' structures can stand directly inside a node's of the same size, as told by least sizes.
use Rattle.std.specs.Prelude.{ℕ, Bool, true, false, not, ◌&&◌, ◌||◌, nat_eq, List, [], ◌∷◌, map, Option, is_some}
use Rattle.std.specs.Option.{option_map_or, option_and_then}
use Rattle.std.specs.List.{list_all, enumerate_from}
use Rattle.spec_syntax.specs.Card.{admits}
use Rattle.spec_syntax.specs.Expression as expr
use Rattle.spec_syntax.specs.Expression.{Expression, Expressions, no_expressions, more_expressions, expression_list}
use Rattle.spec_syntax.specs.Rules.{Rules, symbol, right_side, all_nodes}
use Rattle.struct_model.specs.Membership.{is_epsilon, is_atom}
use Rattle.spec_syntax.specs.Nodes.{below}
use Rattle.graphs.specs.Graph.{Graph}

-- is the least size 0
abbrev pub is_null : Option ℕ → Bool
is_null size = option_map_or (nat_eq 0) size false

-- for each of these, where those before them can all be empty or not: has it a structure, and can all others be empty
abbrev pub alone_from : (Expression → Option ℕ) → Bool → Expressions → List Bool
alone_from sizes before no_expressions = []
alone_from sizes before (more_expressions e es) =
    (before && is_some (sizes e) && list_all (λ other. is_null (sizes other)) (expression_list es)) ∷ alone_from sizes (before && is_null (sizes e)) es

-- is a structure of this right side told inside the rule's name, as those of the two words are not
abbrev pub is_told_inside : Expression → Bool
is_told_inside right = not (is_epsilon right || is_atom right)

-- for each node below the expression: can a structure of it stand inside one of the expression's of the same size. In a
-- container it can where it is the only component, since each one has an atom
abbrev pub fillable : Rules → (Expression → Option ℕ) → Expression → List Bool
fillable rules sizes expr.Epsilon = []
fillable rules sizes expr.Atom = []
fillable rules sizes (expr.Name name) = option_map_or (λ right. is_told_inside right ∷ []) (option_and_then (right_side rules) (symbol rules name)) []
fillable rules sizes (expr.Union es) = map (λ e. is_some (sizes e)) (expression_list es)
fillable rules sizes (expr.Prod es) = alone_from sizes true es
fillable rules sizes (expr.Many kind element card) = (admits card 1 && is_some (sizes element)) ∷ []

abbrev pub picked : List Bool → List ℕ → List ℕ
picked [] nodes = []
picked (flag ∷ flags) [] = []
picked (true ∷ flags) (node ∷ nodes) = node ∷ picked flags nodes
picked (false ∷ flags) (node ∷ nodes) = picked flags nodes

-- the nodes whose structures can stand directly inside those of the expression, which is node number n, of the same size
abbrev pub followers : Rules → (Expression → Option ℕ) → ℕ → Expression → List ℕ
followers rules sizes n e = picked (fillable rules sizes e) (below rules n e)

-- the same for each of these expressions, the first of which is node number n
abbrev pub followers_from : Rules → (Expression → Option ℕ) → ℕ → List Expression → Graph
followers_from rules sizes n es = map (λ node. followers rules sizes node.0 node.1) (enumerate_from n es)

-- for each node those whose structures can stand directly inside it of the same size
abbrev pub same_size_graph : Rules → (Expression → Option ℕ) → Graph
same_size_graph rules sizes = followers_from rules sizes 0 (all_nodes rules)
