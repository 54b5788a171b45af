-- Walks over expressions and rules, one after the other.
use Rattle.std.proofs.Common.{◌≡◌, ℕ, zero, suc, ◌+◌, ◌<◌, ◌≤◌, List, [], ◌∷◌, ◌++◌, length, get_or, drop, sym, ap, ◌∙◌, arith, length-append, add-one, slice_get, option_map, Some}
use Rattle.std.proofs.lemmas.List.{drop_more}
use Rattle.spec_syntax.specs.Expression.{Expression, preorder, preorder_of_all, nodes, nodes_of_all, expressions_of}
use Rattle.spec_syntax.specs.Rules.{Rules, right_side, all_nodes}
use Rattle.spec_syntax.specs.Nodes.{places_from}

-- the expressions from place i on are the one there and those after it
pub expressions_step : (es : List Expression) (i : ℕ) (e : Expression) → i < length es → e ≡ get_or es i e → drop i es ≡ e ∷ drop (i + 1) es
expressions_step es i e within is = drop_more es i e within ∙ ap (λ f. f ∷ drop (i + 1) es) (sym is)

pub preorder_step : (es : List Expression) (i : ℕ) (e : Expression) → i < length es → e ≡ get_or es i e
    → preorder_of_all (expressions_of (drop i es)) ≡ preorder e ++ preorder_of_all (expressions_of (drop (i + 1) es))
preorder_step es i e within is = ap (λ fs. preorder_of_all (expressions_of fs)) (expressions_step es i e within is)

pub nodes_step : (es : List Expression) (i : ℕ) (e : Expression) → i < length es → e ≡ get_or es i e
    → nodes_of_all (expressions_of (drop i es)) ≡ nodes e + nodes_of_all (expressions_of (drop (i + 1) es))
nodes_step es i e within is =
    ap (λ fs. nodes_of_all (expressions_of fs)) (expressions_step es i e within is) ∙ length-append (preorder e) (preorder_of_all (expressions_of (drop (i + 1) es)))

pub places_step : (n : ℕ) (es : List Expression) (i : ℕ) (e : Expression) → i < length es → e ≡ get_or es i e
    → places_from n (expressions_of (drop i es)) ≡ n ∷ places_from (n + nodes e) (expressions_of (drop (i + 1) es))
places_step n es i e within is = ap (λ fs. places_from n (expressions_of fs)) (expressions_step es i e within is)

-- no expression of a list has more nodes than all of them
pub nodes_of_one : (es : List Expression) (i : ℕ) (e : Expression) → i < length es → e ≡ get_or es i e → nodes e ≤ nodes_of_all (expressions_of es)
nodes_of_one [] i e within is = absurd (omega arith)
nodes_of_one (f ∷ es) zero e within is = omega (arith, ap nodes is, length-append (preorder f) (preorder_of_all (expressions_of es)))
nodes_of_one (f ∷ es) (suc i) e within is =
    omega (arith, nodes_of_one es i e (omega arith) is, length-append (preorder f) (preorder_of_all (expressions_of es)))

-- a rule, and those after it
pub record NextRule (rules : Rules) (place : ℕ) (right : Expression) : Type 0 where
  pub name : List ℕ
  pub split : drop place rules ≡ (name, right) ∷ drop (place + 1) rules

next_at : (rules : Rules) (place : ℕ) (right : Expression) → option_map (λ (rule : List ℕ × Expression). rule.1) (slice_get rules place) ≡ Some right → NextRule rules place right
next_at [] place right at = cc
next_at (rule ∷ rules) zero right at = record { name = rule.0; split = ap (λ e. (rule.0, e) ∷ rules) (let same : rule.1 ≡ right = cc in same) }
next_at (rule ∷ rules) (suc place) right at =
    let next = next_at rules place right at in
    record { name = next.name; split = next.split ∙ ap (λ ds. (next.name, right) ∷ ds) (ap (λ n. drop n rules) (add-one place) ∙ ap (λ n. drop n (rule ∷ rules)) (sym (add-one (suc place)))) }

pub next_rule : (rules : Rules) (place : ℕ) (right : Expression) → right_side rules (place + 1) ≡ Some right → NextRule rules place right
next_rule rules place right at = next_at rules place right (ap (right_side rules) (sym (add-one place)) ∙ at)

-- the nodes of the rules from one on are those of its right side and those of the rules after it
pub all_nodes_step : (rules : Rules) (place : ℕ) (right : Expression) → right_side rules (place + 1) ≡ Some right
    → all_nodes (drop place rules) ≡ preorder right ++ all_nodes (drop (place + 1) rules)
all_nodes_step rules place right at = ap (λ (others : Rules). all_nodes others) (next_rule rules place right at).split

pub length_all_nodes_step : (rules : Rules) (place : ℕ) (right : Expression) → right_side rules (place + 1) ≡ Some right
    → length (all_nodes (drop place rules)) ≡ nodes right + length (all_nodes (drop (place + 1) rules))
length_all_nodes_step rules place right at =
    ap length (all_nodes_step rules place right at) ∙ length-append (preorder right) (all_nodes (drop (place + 1) rules))
