-- The nodes of an expression follow one another, so that no right side's node stands inside another node and no two rules have one.
use Rattle.std.proofs.Common.{◌≡◌, inl, inr, ℕ, zero, suc, ◌+◌, ◌≤◌, ◌<◌, [], ◌∷◌, ◌++◌, length, take, sym, subst, arith, slice_get, Some, length-append}
use Rattle.std.proofs.lemmas.Bool.{cases_lt, cases_order}
use Rattle.spec_syntax.specs.Expression as expr
use Rattle.spec_syntax.specs.Expression.{Expression, Expressions, no_expressions, more_expressions, preorder, preorder_of_all, nodes, nodes_of_all}
use Rattle.spec_syntax.specs.Rules.{Rules, all_nodes}
use Rattle.spec_syntax.specs.Nodes.{node_at, places_from, children_of}
use Rattle.spec_syntax.proofs.NodesLemmas.{nodes-positive}
use Rattle.lists.proofs.Places.{get_either}

no_more : (e f : Expression) → Some e ≡ Some f → 0 + nodes f ≤ nodes e
no_more e f same =
    let this : e ≡ f = cc in
    subst (λ (h : Expression). 0 + nodes h ≤ nodes e) this (omega arith)

mutual
  -- what stands inside an expression ends with it
  within_one : (e : Expression) (k : ℕ) (f : Expression) → slice_get (preorder e) k ≡ Some f → k + nodes f ≤ nodes e
  within_one expr.Epsilon zero f at = no_more expr.Epsilon f at
  within_one expr.Epsilon (suc k) f at = absurd (cc)
  within_one expr.Atom zero f at = no_more expr.Atom f at
  within_one expr.Atom (suc k) f at = absurd (cc)
  within_one (expr.Name name) zero f at = no_more (expr.Name name) f at
  within_one (expr.Name name) (suc k) f at = absurd (cc)
  within_one (expr.Union es) zero f at = no_more (expr.Union es) f at
  within_one (expr.Union es) (suc k) f at = omega (arith, within_all es k f at)
  within_one (expr.Prod es) zero f at = no_more (expr.Prod es) f at
  within_one (expr.Prod es) (suc k) f at = omega (arith, within_all es k f at)
  within_one (expr.Many kind element card) zero f at = no_more (expr.Many kind element card) f at
  within_one (expr.Many kind element card) (suc k) f at = omega (arith, within_one element k f at)

  within_all : (es : Expressions) (k : ℕ) (f : Expression) → slice_get (preorder_of_all es) k ≡ Some f → k + nodes f ≤ nodes_of_all es
  within_all no_expressions k f at = absurd (cc)
  within_all (more_expressions e es) k f at = elim (get_either (preorder e) (preorder_of_all es) k f at) [
    | inl here ↦ left (within_one e k f here)
    | inr there ↦ right there.0 there.1 (within_all es there.0 f there.2)
  ]
    where
      left : k + nodes f ≤ nodes e → k + nodes f ≤ length (preorder e ++ preorder_of_all es)
      left h = omega (arith, length-append (preorder e) (preorder_of_all es))

      right : (i : ℕ) → length (preorder e) + i ≡ k → i + nodes f ≤ nodes_of_all es → k + nodes f ≤ length (preorder e ++ preorder_of_all es)
      right i number h = omega (arith, length-append (preorder e) (preorder_of_all es))

place_within : (n : ℕ) (es : Expressions) (i m : ℕ) → slice_get (places_from n es) i ≡ Some m → (n ≤ m) × (m < n + nodes_of_all es)
place_within n no_expressions i m at = absurd (cc)
place_within n (more_expressions e es) zero m at =
    let same : n ≡ m = cc in
    (omega arith, omega (arith, length-append (preorder e) (preorder_of_all es), nodes-positive e))
place_within n (more_expressions e es) (suc i) m at =
    let rest : (n + nodes e ≤ m) × (m < n + nodes e + nodes_of_all es) = place_within (n + nodes e) es i m at in
    (omega (arith, rest.0), omega (arith, rest.1, length-append (preorder e) (preorder_of_all es)))

-- a child comes after its node, within the node's expression
pub child_within : (n : ℕ) (e : Expression) (i m : ℕ) → slice_get (children_of n e) i ≡ Some m → (n < m) × (m < n + nodes e)
child_within n expr.Epsilon i m at = absurd (cc)
child_within n expr.Atom i m at = absurd (cc)
child_within n (expr.Name name) i m at = absurd (cc)
child_within n (expr.Union es) i m at = let found = place_within (n + 1) es i m at in (omega (arith, found.0), omega (arith, found.1))
child_within n (expr.Prod es) i m at = let found = place_within (n + 1) es i m at in (omega (arith, found.0), omega (arith, found.1))
child_within n (expr.Many kind element card) zero m at =
    let same : n + 1 ≡ m = cc in
    (omega arith, omega (arith, nodes-positive element))
child_within n (expr.Many kind element card) (suc i) m at = absurd (cc)

-- the number of nodes of the first rules
abbrev pub first_nodes : Rules → ℕ → ℕ
first_nodes rules i = length (all_nodes (take i rules))

first_up : (rules : Rules) (i j : ℕ) → i ≤ j → first_nodes rules i ≤ first_nodes rules j
first_up rules zero j h = omega arith
first_up [] (suc i) zero h = absurd (omega arith)
first_up [] (suc i) (suc j) h = omega arith
first_up (rule ∷ rules) (suc i) zero h = absurd (omega arith)
first_up (rule ∷ rules) (suc i) (suc j) h =
    omega (arith, first_up rules i j (omega arith), length-append (preorder rule.1) (all_nodes (take i rules)), length-append (preorder rule.1) (all_nodes (take j rules)))

first_next : (rules : Rules) (i : ℕ) → i < length rules → first_nodes rules i < first_nodes rules (suc i)
first_next [] i h = absurd (omega arith)
first_next (rule ∷ rules) zero h = omega (arith, length-append (preorder rule.1) (all_nodes (take 0 rules)), nodes-positive rule.1)
first_next (rule ∷ rules) (suc i) h =
    omega (arith, first_next rules i (omega arith), length-append (preorder rule.1) (all_nodes (take i rules)), length-append (preorder rule.1) (all_nodes (take (suc i) rules)))

-- a node lies within the nodes of a rule
rule_of_node : (rules : Rules) (n : ℕ) (e : Expression) → slice_get (all_nodes rules) n ≡ Some e → (i : ℕ) × (first_nodes rules i ≤ n) × (n + nodes e ≤ first_nodes rules (suc i))
rule_of_node [] n e at = absurd (cc)
rule_of_node (rule ∷ rules) n e at = elim (get_either (preorder rule.1) (all_nodes rules) n e at) [
  | inl here ↦ (0, omega arith, left (within_one rule.1 n e here))
  | inr there ↦ let found = rule_of_node rules there.0 e there.2 in (suc found.0, low found.0 there.0 there.1 found.1, high found.0 there.0 there.1 found.2)
]
  where
    left : n + nodes e ≤ nodes rule.1 → n + nodes e ≤ length (preorder rule.1 ++ all_nodes (take 0 rules))
    left h = omega (arith, length-append (preorder rule.1) (all_nodes (take 0 rules)))

    low : (i k : ℕ) → length (preorder rule.1) + k ≡ n → first_nodes rules i ≤ k → length (preorder rule.1 ++ all_nodes (take i rules)) ≤ n
    low i k number h = omega (arith, length-append (preorder rule.1) (all_nodes (take i rules)))

    high : (i k : ℕ) → length (preorder rule.1) + k ≡ n → k + nodes e ≤ first_nodes rules (suc i) → n + nodes e ≤ length (preorder rule.1 ++ all_nodes (take (suc i) rules))
    high i k number h = omega (arith, length-append (preorder rule.1) (all_nodes (take (suc i) rules)))

-- no child of a node is where a rule begins
pub child_is_no_root : (rules : Rules) (n : ℕ) (e : Expression) (i m j : ℕ) → node_at rules n ≡ Some e → slice_get (children_of n e) i ≡ Some m → m ≡ first_nodes rules j → ⊥
child_is_no_root rules n e i m j at child same =
    let rule : (k : ℕ) × (first_nodes rules k ≤ n) × (n + nodes e ≤ first_nodes rules (suc k)) = rule_of_node rules n e at in
    let within : (n < m) × (m < n + nodes e) = child_within n e i m child in
    elim (cases_lt rule.0 j) [
      | inl above ↦ later rule.0 rule.2 within.1 (first_up rules (suc rule.0) j above)
      | inr below ↦ earlier rule.0 rule.1 within.0 (first_up rules j rule.0 below)
    ]
  where
    later : (k : ℕ) → n + nodes e ≤ first_nodes rules (suc k) → m < n + nodes e → first_nodes rules (suc k) ≤ first_nodes rules j → ⊥
    later k a b c = omega arith

    earlier : (k : ℕ) → first_nodes rules k ≤ n → n < m → first_nodes rules j ≤ first_nodes rules k → ⊥
    earlier k a b c = omega arith

-- no two rules begin at one node
pub roots_differ : (rules : Rules) (i j : ℕ) → i < length rules → j < length rules → first_nodes rules i ≡ first_nodes rules j → i ≡ j
roots_differ rules i j left right same = elim (cases_order i j) [
  | inl equal ↦ equal
  | inr (inl below) ↦ absurd (apart i j (first_next rules i left) (first_up rules (suc i) j below) same)
  | inr (inr above) ↦ absurd (apart j i (first_next rules j right) (first_up rules (suc j) i above) (sym same))
]
  where
    apart : (a b : ℕ) → first_nodes rules a < first_nodes rules (suc a) → first_nodes rules (suc a) ≤ first_nodes rules b → first_nodes rules a ≡ first_nodes rules b → ⊥
    apart a b next up same = omega arith
