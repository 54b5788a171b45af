-- The place of a number is in a rule.
use Rattle.std.proofs.Common.{◌≡◌, ℕ, zero, suc, ◌+◌, ◌<◌, ◌≤◌, Bool, true, false, cond, List, [], ◌∷◌, length, find, if◌then◌else◌, slice_get, unwrap_or, Option, Some, None, refl, sym, ap, ◌∙◌, inl, inr, arith}
use Rattle.std.specs.Option.{option_map}
use Rattle.std.specs.List.{range_with_len}
use Rattle.std.proofs.lemmas.Option.{slice_get_within}
use Rattle.spec_syntax.specs.Expression.{Expression}
use Rattle.spec_syntax.specs.Rules.{Rules, all_nodes, right_side}
use Rattle.spec_syntax.specs.Nodes.{place_in_rule}
use Rattle.spec_syntax.specs.Grammar.{Grammar}
use Rattle.spec_syntax.proofs.NodePlaces.{place_is, place_there}
use Rattle.lists.specs.Enumeration.{IsIn}
use Rattle.lists.proofs.Enumerated.{from_map, from_flat_map}
use Rattle.lists.proofs.RangeSums.{in_range}
use Rattle.size_counts.specs.declared.place.Place.{Place}
use Rattle.size_counts.specs.Numbers.{Spot, numbers_of_node, numbers_of_size, numbers_to, is_marked, is_large_spot, first_large, place_of, NumbersSay}

find_in : {X : Type 0} (test : X → Bool) (xs : List X) (x : X) → find test xs ≡ Some x → IsIn x xs
find_in test [] x found = absurd (cc)
find_in test (y ∷ ys) x found = by (test y) found (find_in test ys x)
  where
    by : (b : Bool) → cond b (Some y) (find test ys) ≡ Some x → (find test ys ≡ Some x → IsIn x ys) → IsIn x (y ∷ ys)
    by true found later = inl (cc)
    by false found later = inr (later found)

-- a number that is looked at is of a node
spot_within : (g : Grammar) (marks : List Bool) (n : ℕ) (spot : Spot) → IsIn spot (numbers_to g marks n) → spot.node < length marks
spot_within g marks n spot there =
    let sized = from_flat_map (numbers_of_size g marks) (range_with_len 0 (n + 1)) spot there in
    let noded = from_flat_map (λ node. if is_marked marks node then numbers_of_node g sized.0 node else []) (range_with_len 0 (length marks)) spot sized.2 in
    by (is_marked marks noded.0) sized.0 noded.0 (in_range noded.0 0 (length marks) noded.1).1 noded.2
  where
    by : (b : Bool) (m node : ℕ) → node < 0 + length marks → IsIn spot (if b then numbers_of_node g m node else []) → spot.node < length marks
    by false m node within none = absurd none
    by true m node within some =
        let made = from_map (λ numbered. record { size = m; node = node; numbered = numbered }) spot _ some in
        let same : spot.node ≡ node = ap (λ (s : Spot). s.node) made.2 in
        omega (arith, same, within)

rule_within : (rules : Rules) (r : ℕ) (right : Expression) → right_side rules r ≡ Some right → (1 ≤ r) × (r ≤ length rules)
rule_within rules zero right is = absurd (cc)
rule_within rules (suc a) right is = (omega arith, inside (slice_get rules a) refl)
  where
    inside : (found : Option (List ℕ × Expression)) → slice_get rules a ≡ found → suc a ≤ length rules
    inside None none = absurd (let e : ◌≡◌ {A = Option Expression} None (Some right) = sym (ap (option_map (λ (rule : List ℕ × Expression). rule.1)) none) ∙ is in cc)
    inside (Some rule) at = omega (arith, slice_get_within rules a rule at)

-- the rule of the first number that is too large is a rule
pub place_within : (g : Grammar) (sym n : ℕ) (place : Place) → NumbersSay g sym n (Some place) → (1 ≤ place.rule) × (place.rule ≤ length g.rules)
place_within g number n place says = by (first_large g says.marks n) refl says.found
  where
    by : (found : Option Spot) → first_large g says.marks n ≡ found → Some place ≡ option_map (place_of g.rules) found → (1 ≤ place.rule) × (place.rule ≤ length g.rules)
    by None is told = absurd (cc)
    by (Some spot) is told =
        let within : spot.node < length (all_nodes g.rules) =
        omega (arith, spot_within g says.marks n spot (find_in is_large_spot (numbers_to g says.marks n) spot is), says.reached.for_each) in
        let there = place_there g.rules spot.node within in
        let stands = place_is g.rules spot.node there.0 there.1 there.2 in
        let bounds = rule_within g.rules there.0 stands.right stands.right_is in
        let rule : there.0 ≡ (unwrap_or (place_in_rule g.rules spot.node) (0, 0)).0 = sym (ap (λ (o : Option (ℕ × ℕ)). (unwrap_or o (0, 0)).0) there.2) in
        let placed : place ≡ place_of g.rules spot = cc in
        let same : place.rule ≡ there.0 = ap (λ (p : Place). p.rule) placed ∙ sym rule in
        (omega (arith, same, bounds.0), omega (arith, same, bounds.1))
