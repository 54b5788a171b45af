-- Where nodes stand: the rule of a node, and its place there.
use Rattle.std.proofs.Common.{◌≡◌, ℕ, suc, ◌+◌, ◌<◌, List, [], ◌∷◌, length, map, take, slice_get, get_or, Option, Some, None, option_map, refl, sym, ap, ◌∙◌, inl, inr, arith, length-append}
use Rattle.std.specs.List.{flat_map, enumerate_from}
use Rattle.std.proofs.lemmas.List.{length-map}
use Rattle.std.proofs.lemmas.List.FromFn.{length-enumerate_from}
use Rattle.std.proofs.lemmas.Option.{slice_get-map, slice_get-get_or, same_Some}
use Rattle.spec_syntax.specs.Expression.{Expression, preorder, nodes}
use Rattle.spec_syntax.specs.Rules.{Rules, right_side, all_nodes}
use Rattle.spec_syntax.specs.Nodes.{node_at, right_node, places_in_rules, place_in_rule}
use Rattle.lists.proofs.Indexed.{slice_get-enumerate_from}
use Rattle.lists.proofs.Places.{get_left, get_right, get_either}

abbrev numbered : ℕ → Expression → ℕ × Expression
numbered number e = (number, e)

abbrev in_rule : ℕ → ℕ × Expression → ℕ × ℕ
in_rule number node = (number, node.0)

abbrev row : ℕ → Expression → List (ℕ × ℕ)
row number right = map (in_rule number) (enumerate_from 1 (preorder right))

abbrev rows : ℕ → Rules → List (ℕ × ℕ)
rows start rules = flat_map (λ rule. row rule.0 rule.1.1) (enumerate_from start rules)

length-row : (number : ℕ) (right : Expression) → length (row number right) ≡ nodes right
length-row number right = length-map (enumerate_from 1 (preorder right)) (in_rule number) ∙ length-enumerate_from 1 (preorder right)

length-rows : (start : ℕ) (rules : Rules) → length (rows start rules) ≡ length (all_nodes rules)
length-rows start [] = refl
length-rows start (rule ∷ rules) =
    omega (
      arith,
      length-append (row start rule.1) (rows (start + 1) rules),
      length-append (preorder rule.1) (all_nodes rules),
      length-row start rule.1,
      length-rows (start + 1) rules,
    )

-- each node has a place
pub length-places_in_rules : (rules : Rules) → length (places_in_rules rules) ≡ length (all_nodes rules)
length-places_in_rules rules = length-rows 1 rules

-- node number n is the expression at place k of the right side of rule number r
pub record StandsIn (rules : Rules) (n r k : ℕ) : Type 0 where
  pub right : Expression
  pub earlier : ℕ
  pub right_is : right_side rules r ≡ Some right
  pub number : k ≡ earlier + 1
  pub node : right_node rules r + earlier ≡ n
  pub at : slice_get (preorder right) earlier ≡ node_at rules n

-- the same of the rules from one on, which is number `start`
record Found (start : ℕ) (rules : Rules) (n r k : ℕ) : Type 0 where
  rule : List ℕ × Expression
  before : ℕ
  earlier : ℕ
  there : slice_get rules before ≡ Some rule
  rule_number : r ≡ start + before
  number : k ≡ earlier + 1
  node : length (all_nodes (take before rules)) + earlier ≡ n
  at : slice_get (preorder rule.1) earlier ≡ slice_get (all_nodes rules) n

none_is_some : (place : ℕ × ℕ) → None ≡ Some place → ⊥
none_is_some place h = cc

found_here : (start : ℕ) (rule : List ℕ × Expression) (rules : Rules) (n r k : ℕ) → slice_get (row start rule.1) n ≡ Some (r, k) → Found start (rule ∷ rules) n r k
found_here start rule rules n r k here = by (slice_get (preorder rule.1) n) refl
  where
    is : option_map (in_rule start) (option_map (numbered (1 + n)) (slice_get (preorder rule.1) n)) ≡ Some (r, k)
    is =
        ap (option_map (in_rule start)) (sym (slice_get-enumerate_from 1 n (1 + n) (preorder rule.1) refl))
        ∙ sym (slice_get-map (in_rule start) (enumerate_from 1 (preorder rule.1)) n) ∙ here

    by : (o : Option Expression) → slice_get (preorder rule.1) n ≡ o → Found start (rule ∷ rules) n r k
    by None none = absurd (none_is_some (r, k) (ap (λ (o : Option Expression). option_map (in_rule start) (option_map (numbered (1 + n)) o)) (sym none) ∙ is))
    by (Some e) at =
        let both : Some (in_rule start (numbered (1 + n) e)) ≡ Some (r, k) = ap (λ (o : Option Expression). option_map (in_rule start) (option_map (numbered (1 + n)) o)) (sym at) ∙ is in
        let pair : in_rule start (numbered (1 + n) e) ≡ (r, k) = same_Some (in_rule start (numbered (1 + n) e)) (r, k) both in
        let first : start ≡ r = ap (λ (place : ℕ × ℕ). place.0) pair in
        let second : 1 + n ≡ k = ap (λ (place : ℕ × ℕ). place.1) pair in
        record {
          rule = rule;
          before = 0;
          earlier = n;
          there = refl;
          rule_number = omega arith;
          number = omega arith;
          node = omega arith;
          at = at ∙ sym (get_left (preorder rule.1) (all_nodes rules) n e at);
        }

found : (start : ℕ) (rules : Rules) (n r k : ℕ) → slice_get (rows start rules) n ≡ Some (r, k) → Found start rules n r k
found start [] n r k at = absurd (cc)
found start (rule ∷ rules) n r k at = elim (get_either (row start rule.1) (rows (start + 1) rules) n (r, k) at) [
  | inl here ↦ found_here start rule rules n r k here
  | inr there ↦ later there.0 (there.1) (found (start + 1) rules there.0 r k there.2)
]
  where
    later : (m : ℕ) → length (row start rule.1) + m ≡ n → Found (start + 1) rules m r k → Found start (rule ∷ rules) n r k
    later m place f = record {
      rule = f.rule;
      before = suc f.before;
      earlier = f.earlier;
      there = f.there;
      rule_number = omega (arith, f.rule_number);
      number = f.number;
      node = omega (arith, f.node, place, length-row start rule.1, length-append (preorder rule.1) (all_nodes (take f.before rules)));
      at = f.at ∙ sym (get_right (preorder rule.1) (all_nodes rules) n m (omega (arith, place, length-row start rule.1)));
    }

-- what the table of places says of a node
pub place_is : (rules : Rules) (n r k : ℕ) → place_in_rule rules n ≡ Some (r, k) → StandsIn rules n r k
place_is rules n r k at =
    let f : Found 1 rules n r k = found 1 rules n r k at in
    let number : r ≡ suc f.before = omega (arith, f.rule_number) in
    record {
      right = f.rule.1;
      earlier = f.earlier;
      right_is = ap (right_side rules) number ∙ ap (option_map (λ (rule : List ℕ × Expression). rule.1)) f.there;
      number = f.number;
      node = ap (λ (sym : ℕ). right_node rules sym + f.earlier) number ∙ f.node;
      at = f.at;
    }

-- and it says something of each
pub place_there : (rules : Rules) (n : ℕ) → n < length (all_nodes rules) → (r : ℕ) × (k : ℕ) × (place_in_rule rules n ≡ Some (r, k))
place_there rules n within =
    let place : ℕ × ℕ = get_or (places_in_rules rules) n (0, 0) in
    (place.0, place.1, slice_get-get_or (places_in_rules rules) n (0, 0) (omega (arith, length-places_in_rules rules)))
