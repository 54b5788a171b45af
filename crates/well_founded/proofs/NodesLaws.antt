-- The names in the expressions of nodes.
use Rattle.std.proofs.Common.{◌≡◌, ℕ, ◌+◌, true, not, List, slice_get, Option, Some, None, is_some, refl, sym, inl, true≢false}
use Rattle.std.proofs.lemmas.Bool.{not-false}
use Rattle.spec_syntax.specs.Expression as expr
use Rattle.spec_syntax.specs.Expression.{Expression, preorder}
use Rattle.spec_syntax.specs.Rules.{Rules, symbol, all_nodes}
use Rattle.spec_syntax.specs.Nodes.{node_at}
use Rattle.spec_syntax.proofs.NodesLemmas.{node_stands}
use Rattle.lists.specs.Enumeration.{IsIn}
use Rattle.lists.proofs.Enumerated.{in_flat_map, from_flat_map}
use Rattle.lists.proofs.Places.{in_of_get, get_of_in}
use Rattle.lists.proofs.Tests.{found_none}
use Rattle.well_founded.specs.Names.{name_in, used_names, names_used_in, has_rule, name_without_rule}

-- a name in the expression of a node is one of those that the rules use
pub node_uses : (rules : Rules) (n : ℕ) (e : Expression) (name : List ℕ) → node_at rules n ≡ Some e → IsIn name (used_names e) → IsIn name (names_used_in rules)
node_uses rules n e name at h =
    let word : (x : Expression) × IsIn x (preorder e) × IsIn name (name_in x) = from_flat_map name_in (preorder e) name h in
    let place : (i : ℕ) × (slice_get (preorder e) i ≡ Some word.0) = get_of_in (preorder e) word.0 word.1 in
    let inside : IsIn word.0 (all_nodes rules) = in_of_get (all_nodes rules) (n + place.0) word.0 ((node_stands rules n e at).at place.0 (n + place.0) word.0 refl place.1) in
    let rule : (r : List ℕ × Expression) × IsIn r rules × IsIn word.0 (preorder r.1) = from_flat_map (λ (r : List ℕ × Expression). preorder r.1) rules word.0 inside in
    in_flat_map (λ (r : List ℕ × Expression). used_names r.1) rule.0 rules name rule.1 (in_flat_map name_in word.0 (preorder rule.0.1) name rule.2 word.2)

-- where no name is without a rule, each of these has one
pub used_has_rule : (rules : Rules) (name : List ℕ) → name_without_rule rules ≡ None → IsIn name (names_used_in rules) → has_rule rules name ≡ true
used_has_rule rules name none h = not-false (has_rule rules name) (found_none (λ other. not (has_rule rules other)) name (names_used_in rules) none h)

pub node_has_rules : (rules : Rules) (n : ℕ) (e : Expression) (name : List ℕ) → name_without_rule rules ≡ None → node_at rules n ≡ Some e → IsIn name (used_names e)
    → has_rule rules name ≡ true
node_has_rules rules n e name none at h = used_has_rule rules name none (node_uses rules n e name at h)

-- the rule of a name that is a node
pub name_node_rule : (rules : Rules) (n : ℕ) (name : List ℕ) → name_without_rule rules ≡ None → node_at rules n ≡ Some (expr.Name name)
    → (sym : ℕ) × (symbol rules name ≡ Some sym)
name_node_rule rules n name none at = by (symbol rules name) refl (node_has_rules rules n (expr.Name name) name none at (inl refl))
  where
    by : (found : Option ℕ) → symbol rules name ≡ found → is_some found ≡ true → (sym : ℕ) × (symbol rules name ≡ Some sym)
    by None is some = absurd (true≢false (sym some))
    by (Some number) is some = (number, is)
