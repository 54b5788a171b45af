-- The numbers of nodes: what stands at the nodes inside an expression, at those below it and at a rule's right side.
use Rattle.std.proofs.Common.{◌≡◌, ℕ, zero, suc, ◌+◌, ◌<◌, Bool, true, List, [], ◌∷◌, ◌++◌, length, take, slice_get, Option, Some, None, option_map, refl, sym, ap, ◌∙◌, subst, inl, inr, arith, length-append, ◌≤◌, ◌-◌, drop, get_or}
use Rattle.std.specs.List.{list_all}
use Rattle.std.specs.Option.{option_map_or}
use Rattle.std.proofs.lemmas.Bool.{and_parts, and_from}
use Rattle.std.proofs.lemmas.Option.{slice_get_within, slice_get-get_or, get_or_from_slice_get}
use Rattle.spec_syntax.specs.Expression as expr
use Rattle.spec_syntax.specs.Expression.{Expression, Expressions, no_expressions, more_expressions, expression_list, preorder, preorder_of_all, nodes}
use Rattle.spec_syntax.specs.Rules.{Rules, symbol, right_side, all_nodes}
use Rattle.spec_syntax.specs.Nodes.{all_right_nodes, node_at, right_node, places_from, children_of, arguments_of, below}
use Rattle.spec_syntax.proofs.RulesLemmas.{symbol_right}
use Rattle.lists.specs.Enumeration.{IsIn}
use Rattle.lists.proofs.Indexed.{length-made, get-made}
use Rattle.lists.proofs.Places.{Holds, get_either, holds_itself, holds_left, holds_right, holds_tail, holds_within, in_of_get, get_of_in}

-- ---- nodes inside an expression

-- the expression is node number n of the list, with all that is inside it behind
abbrev pub Stands : List Expression → ℕ → Expression → Type 0
Stands all n e = Holds all n (preorder e)

first_is : (e : Expression) → slice_get (preorder e) 0 ≡ Some e
first_is expr.Epsilon = refl
first_is expr.Atom = refl
first_is (expr.Name name) = refl
first_is (expr.Union es) = refl
first_is (expr.Prod es) = refl
first_is (expr.Many kind element card) = refl

-- where an expression stands, it is the element
pub stands_at : (all : List Expression) (n : ℕ) (e : Expression) → Stands all n e → slice_get all n ≡ Some e
stands_at all n e h = h.at 0 n e (omega arith) (first_is e)

begins : (all : List Expression) (n m : ℕ) (e f : Expression) → Stands all n e → n + 0 ≡ m → Some e ≡ Some f → Stands all m f
begins all n m e f h number same =
    let number : n ≡ m = omega arith in
    let same : e ≡ f = cc in
    subst (λ (j : ℕ). Stands all j f) number (subst (λ x. Stands all n x) same h)

further : (size n i m k : ℕ) → n + i ≡ m → size + k ≡ i → n + size + k ≡ m
further size n i m k number same = omega arith

mutual
  stands_one : (all : List Expression) (n : ℕ) (e : Expression) → Stands all n e → (i m : ℕ) (f : Expression) → n + i ≡ m → slice_get (preorder e) i ≡ Some f → Stands all m f
  stands_one all n expr.Epsilon h zero m f number at = begins all n m expr.Epsilon f h number at
  stands_one all n expr.Epsilon h (suc i) m f number at = absurd (cc)
  stands_one all n expr.Atom h zero m f number at = begins all n m expr.Atom f h number at
  stands_one all n expr.Atom h (suc i) m f number at = absurd (cc)
  stands_one all n (expr.Name name) h zero m f number at = begins all n m (expr.Name name) f h number at
  stands_one all n (expr.Name name) h (suc i) m f number at = absurd (cc)
  stands_one all n (expr.Union es) h zero m f number at = begins all n m (expr.Union es) f h number at
  stands_one all n (expr.Union es) h (suc i) m f number at =
      stands_many all (n + 1) es (holds_tail all n (expr.Union es) (preorder_of_all es) h) i m f (omega arith) at
  stands_one all n (expr.Prod es) h zero m f number at = begins all n m (expr.Prod es) f h number at
  stands_one all n (expr.Prod es) h (suc i) m f number at =
      stands_many all (n + 1) es (holds_tail all n (expr.Prod es) (preorder_of_all es) h) i m f (omega arith) at
  stands_one all n (expr.Many kind element card) h zero m f number at = begins all n m (expr.Many kind element card) f h number at
  stands_one all n (expr.Many kind element card) h (suc i) m f number at =
      stands_one all (n + 1) element (holds_tail all n (expr.Many kind element card) (preorder element) h) i m f (omega arith) at

  stands_many : (all : List Expression) (n : ℕ) (es : Expressions) → Holds all n (preorder_of_all es) → (i m : ℕ) (f : Expression) → n + i ≡ m
      → slice_get (preorder_of_all es) i ≡ Some f → Stands all m f
  stands_many all n no_expressions h i m f number at = absurd (cc)
  stands_many all n (more_expressions e es) h i m f number at = elim (get_either (preorder e) (preorder_of_all es) i f at) [
    | inl here ↦ stands_one all n e (holds_left all n (preorder e) (preorder_of_all es) h) i m f number here
    | inr there ↦ stands_many all (n + nodes e) es (holds_right all n (n + nodes e) (preorder e) (preorder_of_all es) refl h) there.0 m f (further (nodes e) n i m there.0 number there.1) there.2
  ]

-- each node stands where it is with all that is inside it
rules_holds : (all : List Expression) (n : ℕ) (rules : Rules) → Holds all n (all_nodes rules) → (i m : ℕ) (f : Expression) → n + i ≡ m
    → slice_get (all_nodes rules) i ≡ Some f → Stands all m f
rules_holds all n [] h i m f number at = absurd (cc)
rules_holds all n (rule ∷ rules) h i m f number at = elim (get_either (preorder rule.1) (all_nodes rules) i f at) [
  | inl here ↦ stands_one all n rule.1 (holds_left all n (preorder rule.1) (all_nodes rules) h) i m f number here
  | inr there ↦ rules_holds all (n + nodes rule.1) rules (holds_right all n (n + nodes rule.1) (preorder rule.1) (all_nodes rules) refl h) there.0 m f
      (further (nodes rule.1) n i m there.0 number there.1) there.2
]

pub node_stands : (rules : Rules) (n : ℕ) (e : Expression) → node_at rules n ≡ Some e → Stands (all_nodes rules) n e
node_stands rules n e at = rules_holds (all_nodes rules) 0 rules (holds_itself (all_nodes rules)) n n e (omega arith) at

-- ---- the nodes directly inside a node

-- the arguments stand at the places of the numbering
pub place_stands : (all : List Expression) (es : Expressions) (n : ℕ) → Holds all n (preorder_of_all es) → (i m : ℕ) → slice_get (places_from n es) i ≡ Some m
    → (e : Expression) × (slice_get (expression_list es) i ≡ Some e) × Stands all m e
place_stands all no_expressions n h i m at = absurd (cc)
place_stands all (more_expressions e es) n h zero m at =
    let same : n ≡ m = cc in
    (e, refl, subst (λ (j : ℕ). Stands all j e) same (holds_left all n (preorder e) (preorder_of_all es) h))
place_stands all (more_expressions e es) n h (suc i) m at =
    place_stands all es (n + nodes e) (holds_right all n (n + nodes e) (preorder e) (preorder_of_all es) refl h) i m at

-- a child of a node, and the expression that stands there
pub child_stands : (all : List Expression) (n : ℕ) (e : Expression) → Stands all n e → (i m : ℕ) → slice_get (children_of n e) i ≡ Some m
    → (f : Expression) × (slice_get (arguments_of e) i ≡ Some f) × Stands all m f
child_stands all n expr.Epsilon h i m at = absurd (cc)
child_stands all n expr.Atom h i m at = absurd (cc)
child_stands all n (expr.Name name) h i m at = absurd (cc)
child_stands all n (expr.Union es) h i m at = place_stands all es (n + 1) (holds_tail all n (expr.Union es) (preorder_of_all es) h) i m at
child_stands all n (expr.Prod es) h i m at = place_stands all es (n + 1) (holds_tail all n (expr.Prod es) (preorder_of_all es) h) i m at
child_stands all n (expr.Many kind element card) h zero m at =
    let same : n + 1 ≡ m = cc in
    (element, refl, subst (λ (j : ℕ). Stands all j element) same (holds_tail all n (expr.Many kind element card) (preorder element) h))
child_stands all n (expr.Many kind element card) h (suc i) m at = absurd (cc)

-- the children of a node are its expression's arguments
pub child_node : (rules : Rules) (n : ℕ) (e : Expression) (i m : ℕ) → node_at rules n ≡ Some e → slice_get (children_of n e) i ≡ Some m
    → node_at rules m ≡ slice_get (arguments_of e) i
child_node rules n e i m at child =
    let found : (f : Expression) × (slice_get (arguments_of e) i ≡ Some f) × Stands (all_nodes rules) m f = child_stands (all_nodes rules) n e (node_stands rules n e at) i m child in
    stands_at (all_nodes rules) m found.0 found.2 ∙ sym found.1

places-length : (n : ℕ) (es : Expressions) → length (places_from n es) ≡ length (expression_list es)
places-length n no_expressions = refl
places-length n (more_expressions e es) = ap suc (places-length (n + nodes e) es)

pub length-children_of : (n : ℕ) (e : Expression) → length (children_of n e) ≡ length (arguments_of e)
length-children_of n expr.Epsilon = refl
length-children_of n expr.Atom = refl
length-children_of n (expr.Name name) = refl
length-children_of n (expr.Union es) = places-length (n + 1) es
length-children_of n (expr.Prod es) = places-length (n + 1) es
length-children_of n (expr.Many kind element card) = refl

pub nodes-positive : (e : Expression) → 0 < nodes e
nodes-positive e = slice_get_within (preorder e) 0 e (first_is e)

arguments-few : (es : Expressions) → length (expression_list es) ≤ length (preorder_of_all es)
arguments-few no_expressions = omega arith
arguments-few (more_expressions e es) = omega (arith, arguments-few es, nodes-positive e, length-append (preorder e) (preorder_of_all es))

length-arguments_of_le : (e : Expression) → length (arguments_of e) ≤ nodes e
length-arguments_of_le expr.Epsilon = omega arith
length-arguments_of_le expr.Atom = omega arith
length-arguments_of_le (expr.Name name) = omega arith
length-arguments_of_le (expr.Union es) = omega (arith, arguments-few es)
length-arguments_of_le (expr.Prod es) = omega (arith, arguments-few es)
length-arguments_of_le (expr.Many kind element card) = omega arith

-- a node has fewer children than there are nodes
pub children_few : (rules : Rules) (n : ℕ) (e : Expression) → node_at rules n ≡ Some e → length (children_of n e) ≤ length (all_nodes rules)
children_few rules n e at =
    omega (arith, length-children_of n e, length-arguments_of_le e, holds_within (all_nodes rules) n (preorder e) (nodes-positive e) (node_stands rules n e at))

-- ---- the nodes of right sides

right_stands_from : (all : List Expression) (n : ℕ) (rules : Rules) → Holds all n (all_nodes rules) → (i : ℕ) (right : Expression)
    → option_map (λ (rule : List ℕ × Expression). rule.1) (slice_get rules i) ≡ Some right → Stands all (n + length (all_nodes (take i rules))) right
right_stands_from all n [] h i right at = absurd (cc)
right_stands_from all n (rule ∷ rules) h zero right at =
    let same : rule.1 ≡ right = cc in
    let start : n ≡ n + 0 = omega arith in
    subst (λ (j : ℕ). Stands all j right) start (subst (λ e. Stands all n e) same (holds_left all n (preorder rule.1) (all_nodes rules) h))
right_stands_from all n (rule ∷ rules) h (suc i) right at =
    let number : n + nodes rule.1 + length (all_nodes (take i rules)) ≡ n + length (preorder rule.1 ++ all_nodes (take i rules)) =
    omega (arith, length-append (preorder rule.1) (all_nodes (take i rules))) in
    subst (λ (j : ℕ). Stands all j right) number
    (right_stands_from all (n + nodes rule.1) rules (holds_right all n (n + nodes rule.1) (preorder rule.1) (all_nodes rules) refl h) i right at)

-- the right side of a rule stands at its node
pub right_stands : (rules : Rules) (sym : ℕ) (right : Expression) → right_side rules sym ≡ Some right → Stands (all_nodes rules) (right_node rules sym) right
right_stands rules zero right at = absurd (cc)
right_stands rules (suc earlier) right at =
    let number : 0 + length (all_nodes (take earlier rules)) ≡ length (all_nodes (take earlier rules)) = omega arith in
    subst (λ (j : ℕ). Stands (all_nodes rules) j right) number (right_stands_from (all_nodes rules) 0 rules (holds_itself (all_nodes rules)) earlier right at)

pub right_node_is : (rules : Rules) (sym : ℕ) (right : Expression) → right_side rules sym ≡ Some right → node_at rules (right_node rules sym) ≡ Some right
right_node_is rules sym right at = stands_at (all_nodes rules) (right_node rules sym) right (right_stands rules sym right at)

-- ---- the nodes below a node

name_below : (rules : Rules) (found : Option ℕ) (name : List ℕ) → symbol rules name ≡ found → (i m : ℕ)
    → slice_get (option_map_or (λ number. right_node rules number ∷ []) found []) i ≡ Some m → (f : Expression) × (node_at rules m ≡ Some f)
name_below rules None name is i m at = absurd (cc)
name_below rules (Some number) name is (suc i) m at = absurd (cc)
name_below rules (Some number) name is zero m at =
    let right : (f : Expression) × (right_side rules number ≡ Some f) = symbol_right rules name number is in
    let same : right_node rules number ≡ m = cc in
    (right.0, subst (λ (j : ℕ). node_at rules j ≡ Some right.0) same (right_node_is rules number right.0 right.1))

pub child_is : (rules : Rules) (n : ℕ) (e : Expression) (i m : ℕ) → node_at rules n ≡ Some e → slice_get (children_of n e) i ≡ Some m → (f : Expression) × (node_at rules m ≡ Some f)
child_is rules n e i m at child =
    let found : (f : Expression) × (slice_get (arguments_of e) i ≡ Some f) × Stands (all_nodes rules) m f = child_stands (all_nodes rules) n e (node_stands rules n e at) i m child in
    (found.0, stands_at (all_nodes rules) m found.0 found.2)

-- an expression stands at each node below a node
pub below_is : (rules : Rules) (n : ℕ) (e : Expression) (i m : ℕ) → node_at rules n ≡ Some e → slice_get (below rules n e) i ≡ Some m
    → (f : Expression) × (node_at rules m ≡ Some f)
below_is rules n (expr.Name name) i m at h = name_below rules (symbol rules name) name refl i m h
below_is rules n expr.Epsilon i m at h = child_is rules n expr.Epsilon i m at h
below_is rules n expr.Atom i m at h = child_is rules n expr.Atom i m at h
below_is rules n (expr.Union es) i m at h = child_is rules n (expr.Union es) i m at h
below_is rules n (expr.Prod es) i m at h = child_is rules n (expr.Prod es) i m at h
below_is rules n (expr.Many kind element card) i m at h = child_is rules n (expr.Many kind element card) i m at h

-- each node below a node is a node
pub below_nodes : (rules : Rules) (n : ℕ) (e : Expression) (m : ℕ) → node_at rules n ≡ Some e → IsIn m (below rules n e) → m < length (all_nodes rules)
below_nodes rules n e m at h =
    let place : (i : ℕ) × (slice_get (below rules n e) i ≡ Some m) = get_of_in (below rules n e) m h in
    let found : (f : Expression) × (node_at rules m ≡ Some f) = below_is rules n e place.0 m at place.1 in
    slice_get_within (all_nodes rules) m found.0 found.1

-- ---- what the expressions of nodes are

pub in_nodes : (rules : Rules) (n : ℕ) (e : Expression) → node_at rules n ≡ Some e → IsIn e (all_nodes rules)
in_nodes rules n e at = in_of_get (all_nodes rules) n e at

pub node_of : (rules : Rules) (e : Expression) → IsIn e (all_nodes rules) → (n : ℕ) × (node_at rules n ≡ Some e)
node_of rules e h = get_of_in (all_nodes rules) e h

-- what all expressions in the rules pass all nodes pass
pub all_of_rules : (test : Expression → Bool) (rules : Rules) → list_all (λ (rule : List ℕ × Expression). list_all test (preorder rule.1)) rules ≡ true → list_all test (all_nodes rules) ≡ true
all_of_rules test [] h = refl
all_of_rules test (rule ∷ rules) h =
    let both : (list_all test (preorder rule.1) ≡ true) × (list_all (λ (other : List ℕ × Expression). list_all test (preorder other.1)) rules ≡ true) = and_parts _ _ h in
    joined (preorder rule.1) (all_nodes rules) both.0 (all_of_rules test rules both.1)
  where
    joined : (xs ys : List Expression) → list_all test xs ≡ true → list_all test ys ≡ true → list_all test (xs ++ ys) ≡ true
    joined [] ys first others = others
    joined (x ∷ xs) ys first others = let parts = and_parts (test x) (list_all test xs) first in and_from _ _ parts.0 (joined xs ys parts.1 others)

-- ---- the table of right sides' nodes

pub length-all_right_nodes : (rules : Rules) → length (all_right_nodes rules) ≡ length rules
length-all_right_nodes rules = length-made (λ (rule : ℕ × (List ℕ × Expression)). right_node rules rule.0) 1 rules

pub get-all_right_nodes : (rules : Rules) (i : ℕ) → i < length rules → slice_get (all_right_nodes rules) i ≡ Some (right_node rules (suc i))
get-all_right_nodes rules i within =
    get-made (λ (rule : ℕ × (List ℕ × Expression)). right_node rules rule.0) 1 i (suc i) rules (omega arith)
    ∙ ap (option_map (λ (rule : List ℕ × Expression). right_node rules (suc i))) (slice_get-get_or rules i ([], expr.Epsilon) within)

pub read-all_right_nodes : (rules : Rules) (number d : ℕ) → 1 ≤ number → number ≤ length rules → get_or (all_right_nodes rules) (number - 1) d ≡ right_node rules number
read-all_right_nodes rules zero d low high = absurd (omega arith)
read-all_right_nodes rules (suc i) d low high =
    ap (λ (k : ℕ). get_or (all_right_nodes rules) k d) less
    ∙ get_or_from_slice_get (all_right_nodes rules) i (right_node rules (suc i)) d (get-all_right_nodes rules i (omega arith))
  where
    less : suc i - 1 ≡ i
    less = omega arith

-- the nodes of the first rules and those of the others
pub all_nodes_split : (rules : Rules) (i : ℕ) → length (all_nodes (take i rules)) + length (all_nodes (drop i rules)) ≡ length (all_nodes rules)
all_nodes_split rules zero = omega arith
all_nodes_split [] (suc i) = omega arith
all_nodes_split (rule ∷ rules) (suc i) =
    omega (arith, all_nodes_split rules i, length-append (preorder rule.1) (all_nodes (take i rules)), length-append (preorder rule.1) (all_nodes rules))
