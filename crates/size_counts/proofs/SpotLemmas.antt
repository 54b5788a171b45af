-- Where a number stands.
use Rattle.std.proofs.Common.{◌≡◌, ◌⊎◌, ℕ, zero, suc, ◌+◌, ◌-◌, ◌<◌, ◌≤◌, List, [], ◌∷◌, length, map, take, Option, Some, None, slice_get, unwrap_or, refl, sym, ap, ◌∙◌, inl, inr, arith, length-append}
use Rattle.std.specs.Option.{option_map}
use Rattle.std.specs.List.{range_with_len}
use Rattle.std.proofs.lemmas.Bool.{cases_lt}
use Rattle.std.proofs.lemmas.Option.{slice_get_within}
use Rattle.lists.proofs.Positions.{slice_some}
use Rattle.spec_syntax.specs.declared.expr.Kind.TheVariants as kind
use Rattle.spec_syntax.specs.Expression as expr
use Rattle.spec_syntax.specs.Expression.{Expression, preorder, nodes, expression_list}
use Rattle.spec_syntax.specs.Rules.{Rules, all_nodes, right_side}
use Rattle.spec_syntax.specs.Nodes.{right_node, place_in_rule}
use Rattle.spec_syntax.specs.Grammar.{Grammar}
use Rattle.spec_syntax.proofs.NodePlaces.{StandsIn, place_is, place_there}
use Rattle.well_founded.specs.NodeKinds.{kind_of}
use Rattle.size_counts.specs.declared.place.Group.{Group}
use Rattle.size_counts.specs.declared.place.Group.TheVariants as group
use Rattle.size_counts.specs.declared.place.Place.{Place}
use Rattle.struct_model.specs.Bounded.{number}
use Rattle.size_counts.specs.Numbers.{Numbered, numbers_at, place_of}
use Rattle.size_counts.specs.Spots.{group_at, index_at}
use Rattle.size_counts.proofs.TableLemmas.{made_at, none_made}

-- ---- rules

-- the right side of a rule stands wholly before those of later ones
right_after : (rules : Rules) (a b : ℕ) (right : Expression) → right_side rules (suc a) ≡ Some right → a < b → right_node rules (suc a) + nodes right ≤ right_node rules (suc b)
right_after [] zero b right is below = absurd (cc)
right_after [] (suc a) b right is below = absurd (cc)
right_after (rule ∷ rules) zero zero right is below = absurd (omega arith)
right_after (rule ∷ rules) zero (suc b) right is below =
    let same : rule.1 ≡ right = cc in
    let count : nodes rule.1 ≡ nodes right = ap nodes same in
    omega (arith, count, length-append (preorder rule.1) (all_nodes (take b rules)))
right_after (rule ∷ rules) (suc a) zero right is below = absurd (omega arith)
right_after (rule ∷ rules) (suc a) (suc b) right is below =
    omega (arith, right_after rules a b right is (omega arith), length-append (preorder rule.1) (all_nodes (take a rules)), length-append (preorder rule.1) (all_nodes (take b rules)))

pub rule_is : (rules : Rules) (node rule r k : ℕ) → node < length (all_nodes rules) → place_in_rule rules node ≡ Some (r, k) → 1 ≤ rule → right_node rules rule ≤ node
    → ((sym : ℕ) → 1 ≤ sym → sym ≤ length rules → right_node rules sym ≤ node → sym ≤ rule) → rule ≡ r
rule_is rules node rule r k within place low before most = by (cases_lt r rule)
  where
    stands : StandsIn rules node r k
    stands = place_is rules node r k place

    range : (r : ℕ) (right : Expression) → right_side rules r ≡ Some right → (1 ≤ r) × (r ≤ length rules)
    range zero right is = absurd (cc)
    range (suc a) right is = (omega arith, inside (slice_get rules a) refl)
      where
        inside : (found : Option (List ℕ × Expression)) → slice_get rules a ≡ found → suc a ≤ length rules
        inside None none = absurd (let e : ◌≡◌ {A = Option Expression} None (Some right) = sym (ap (option_map (λ (rule : List ℕ × Expression). rule.1)) none) ∙ is in cc)
        inside (Some rule) at = omega (arith, slice_get_within rules a rule at)

    room : stands.earlier < nodes stands.right
    room =
        let e = slice_some (all_nodes rules) node within in
        slice_get_within (preorder stands.right) stands.earlier e.0 (stands.at ∙ e.1)

    later : (r rule : ℕ) → right_side rules r ≡ Some stands.right → r < rule → right_node rules r + nodes stands.right ≤ right_node rules rule
    later zero rule is below = absurd (cc)
    later (suc a) zero is below = absurd (omega arith)
    later (suc a) (suc b) is below = right_after rules a b stands.right is (omega arith)

    by : (r < rule) ⊎ (rule ≤ r) → rule ≡ r
    by (inl less) = absurd (omega (arith, later r rule stands.right_is less, room, stands.node, before))
    by (inr at_most) = omega (arith, most r (range r stands.right stands.right_is).0 (range r stands.right stands.right_is).1 (omega (arith, stands.node)), at_most)

-- ---- numbers

made_found : (f : ℕ → Numbered) (start n j : ℕ) (y : Numbered) → slice_get (map f (range_with_len start n)) j ≡ Some y → f (start + j) ≡ y
made_found f start n j y at = elim (cases_lt j n) [
  | inl less ↦ let e : Some (f (start + j)) ≡ Some y = sym (made_at f start n j less) ∙ at in cc
  | inr past ↦ absurd (let e : ◌≡◌ {A = Option Numbered} None (Some y) = sym (none_made f start n j past) ∙ at in cc)
]

pub number_at : (g : Grammar) (e : Expression) (m i : ℕ) (numbered : Numbered) → slice_get (numbers_at g e m) i ≡ Some numbered → (group_at (kind_of e) i ≡ numbered.group) × (index_at (kind_of e) i ≡ numbered.index)
number_at g e m zero numbered at = let same : ◌≡◌ {A = Numbered} (record { group = group.Count; index = 0; number = number g e m }) numbered = cc in (ap (λ (n : Numbered). n.group) same, ap (λ (n : Numbered). n.index) same)
number_at g expr.Epsilon m (suc j) numbered at = absurd (cc)
number_at g expr.Atom m (suc j) numbered at = absurd (cc)
number_at g (expr.Name name) m (suc j) numbered at = absurd (cc)
number_at g (expr.Union es) m (suc j) numbered at = absurd (cc)
number_at g (expr.Prod es) m (suc j) numbered at = let same = made_found _ 2 _ j numbered at in (ap (λ (n : Numbered). n.group) same, two j ∙ ap (λ (n : Numbered). n.index) same)
  where
    two : (j : ℕ) → suc (suc j) ≡ 2 + j
    two j = omega arith
number_at g (expr.Many kind.Sequence e card) m (suc j) numbered at = let same = made_found _ 1 _ j numbered at in (ap (λ (n : Numbered). n.group) same, one j ∙ ap (λ (n : Numbered). n.index) same)
  where
    one : (j : ℕ) → suc j ≡ 1 + j
    one j = omega arith
number_at g (expr.Many kind.Set e card) m (suc j) numbered at = let same = made_found _ 1 _ j numbered at in (ap (λ (n : Numbered). n.group) same, one j ∙ ap (λ (n : Numbered). n.index) same)
  where
    one : (j : ℕ) → suc j ≡ 1 + j
    one j = omega arith
number_at g (expr.Many kind.PowerSet e card) m (suc j) numbered at = let same = made_found _ 1 _ j numbered at in (ap (λ (n : Numbered). n.group) same, one j ∙ ap (λ (n : Numbered). n.index) same)
  where
    one : (j : ℕ) → suc j ≡ 1 + j
    one j = omega arith
number_at g (expr.Many kind.Cycle e card) m (suc j) numbered at = let same = made_found _ 1 _ j numbered at in (ap (λ (n : Numbered). n.group) same, one j ∙ ap (λ (n : Numbered). n.index) same)
  where
    one : (j : ℕ) → suc j ≡ 1 + j
    one j = omega arith

-- ---- the place

pub place_made : (rules : Rules) (node m rule in_rule index : ℕ) (right : ℕ) (its_group : Group) (numbered : Numbered) → node < length (all_nodes rules)
    → ((r k : ℕ) → place_in_rule rules node ≡ Some (r, k) → rule ≡ r) → right ≡ right_node rules rule → in_rule ≡ node - right + 1 → its_group ≡ numbered.group → index ≡ numbered.index
    → ◌≡◌ {A = Place} (record { rule = rule; node = in_rule; group = its_group; index = index; size = m }) (place_of rules (record { size = m; node = node; numbered = numbered }))
place_made rules node m rule in_rule index right its_group numbered within rule_of right_is in_rule_is group_is index_is =
    λ i. record { rule = (first ∙ ap (λ (p : ℕ × ℕ). p.0) found) i; node = (second ∙ ap (λ (p : ℕ × ℕ). p.1) found) i; group = group_is i; index = index_is i; size = m }
  where
    there : (r : ℕ) × (k : ℕ) × (place_in_rule rules node ≡ Some (r, k))
    there = place_there rules node within

    stands : StandsIn rules node there.0 there.1
    stands = place_is rules node there.0 there.1 there.2

    found : (there.0, there.1) ≡ unwrap_or (place_in_rule rules node) (0, 0)
    found = sym (ap (λ (o : Option (ℕ × ℕ)). unwrap_or o (0, 0)) there.2)

    first : rule ≡ there.0
    first = rule_of there.0 there.1 there.2

    second : in_rule ≡ there.1
    second = let same : right_node rules rule ≡ right_node rules there.0 = ap (right_node rules) first in omega (arith, in_rule_is, right_is, same, stands.node, stands.number)
