-- What a step weighs: ranks are small, and fall from a name to a right side that isn't a word.
use Rattle.std.proofs.Common.{◌≡◌, ◌≤◌, ◌<◌, ℕ, suc, ◌+◌, ◌*◌, true, not, ◌||◌, List, [], ◌∷◌, length, slice_get, unwrap_or, Option, Some, None, refl, sym, ap, ◌∙◌, arith, subst, true≢false}
use Rattle.std.specs.Option.{option_map_or}
use Rattle.lists.proofs.Positions.{slice_some}
use Rattle.spec_syntax.specs.Expression as expr
use Rattle.spec_syntax.specs.Expression.{Expression}
use Rattle.spec_syntax.specs.Rules.{symbol, right_side, all_nodes}
use Rattle.spec_syntax.specs.Nodes.{node_at, right_node, below}
use Rattle.spec_syntax.proofs.RulesLemmas.{all_nodes-from_spec, own_name}
use Rattle.struct_model.specs.Structure.{Structure, Eps, Atom, Named, Alt, Tup}
use Rattle.struct_model.specs.Membership.{is_epsilon, is_atom}
use Rattle.well_founded.specs.Checked.{Checked, IsChecked, grammar}
use Rattle.well_founded.specs.Rank.{CanFill}
use Rattle.well_founded.specs.SameSize.{is_told_inside}
use Rattle.well_founded.specs.Sizes.{IsOf}
use Rattle.well_founded.proofs.LeastLaws.{name_is, name_inside, rule_read}
use Rattle.well_founded.proofs.SetsLaws.{epsilon_reading, atom_reading}
use Rattle.std.proofs.lemmas.Bool.{and_parts, or_left, or_right}
use Rattle.struct_text.specs.Reading.{rank_of}

module _ (checked : Checked) (ok : IsChecked checked) where
  pub rank_low : (node : ℕ) → node < length (all_nodes checked.rules) → rank_of checked node < 128
  rank_low node within = of_rank (slice_get checked.ranks node) refl
    where
      of_rank : (o : Option ℕ) → slice_get checked.ranks node ≡ o → unwrap_or o 0 < 128
      of_rank None at = omega arith
      of_rank (Some r) at =
          let e = slice_some (all_nodes checked.rules) node within in
          let low = (ok.ranked.each node r e.0 e.1 at).within in
          omega (arith, low, all_nodes-from_spec checked.rules ok.spec)

  -- a byte outweighs a hole and a rank
  pub byte_falls : (node bytes bytes' holes holes' : ℕ) → node < length (all_nodes checked.rules) → bytes' < bytes → holes' ≤ suc holes
      → 300 * bytes' + holes' + (2 * rank_of checked node + 1) < 300 * bytes + holes + 0
  byte_falls node bytes bytes' holes holes' within shorter few = omega (arith, rank_low node within, shorter, few)

  -- a structure of a right side that isn't a word, in one of the rule's of the same size
  right_fills : (name : List ℕ) (sym_number : ℕ) (right : Expression) → symbol checked.rules name ≡ Some sym_number → right_side checked.rules sym_number ≡ Some right
      → is_told_inside right ≡ true → CanFill (grammar checked) (expr.Name name) 0 right
  right_fills name n right numbered sided inside =
      let own = own_name checked.rules name n numbered in
      let some = ok.well_founded.productive name own.0 own.1 in
      let t = inner some.0 some.1 in
      record { outer = Named n t.0; inner = t.0; is_outer = name_is (grammar checked) name n right t.0 numbered sided inside t.1; is_inner = t.1; stands = (refl, refl); same_size = refl }
    where
      same_number : (m : ℕ) → symbol checked.rules name ≡ Some m → m ≡ n
      same_number m found = let both : Some m ≡ Some n = sym found ∙ numbered in cc

      same_right : (m : ℕ) (side : Expression) → symbol checked.rules name ≡ Some m → right_side checked.rules m ≡ Some side → side ≡ right
      same_right m side found at = let both : Some side ≡ Some right = sym at ∙ ap (right_side checked.rules) (same_number m found) ∙ sided in cc

      no_word : (side : Expression) → side ≡ right → (is_epsilon side || is_atom side) ≡ true → ⊥
      no_word side same word = true≢false (sym (ap is_told_inside same ∙ inside) ∙ ap not word)

      inner : (s : Structure) → IsOf (grammar checked) (expr.Name name) s → (t : Structure) × IsOf (grammar checked) right t
      inner (Eps x) of =
          let rule = rule_read (grammar checked) name x is_epsilon of in
          absurd (no_word rule.right (same_right x rule.right rule.numbered rule.sided) (or_left _ _ (sym (epsilon_reading rule.right) ∙ rule.holds)))
      inner (Atom x l) of =
          let rule = rule_read (grammar checked) name x is_atom (and_parts _ _ of).0 in
          absurd (no_word rule.right (same_right x rule.right rule.numbered rule.sided) (or_right _ _ (sym (atom_reading rule.right) ∙ rule.holds)))
      inner (Named x t) of =
          let rule = name_inside (grammar checked) name x t of in
          (t, subst (λ (e : Expression). IsOf (grammar checked) e t) (same_right x rule.right rule.numbered rule.sided) rule.is)
      inner (Alt k t) of = absurd (true≢false (sym of))
      inner (Tup f ss) of = absurd (true≢false (sym of))

  -- the rank of a name is above that of a right side that isn't a word
  pub rank_falls : (node number : ℕ) (name : List ℕ) (right : Expression) → node < length (all_nodes checked.rules) → node_at checked.rules node ≡ Some (expr.Name name)
      → symbol checked.rules name ≡ Some number → right_side checked.rules number ≡ Some right → node_at checked.rules (right_node checked.rules number) ≡ Some right → is_told_inside right ≡ true
      → right_node checked.rules number < length (all_nodes checked.rules) → rank_of checked (right_node checked.rules number) < rank_of checked node
  rank_falls node number name right within at numbered sided right_at inside right_within =
      let long = ok.ranked.for_each in
      let r = slice_some checked.ranks node (omega (arith, long, within)) in
      let lower = slice_some checked.ranks (right_node checked.rules number) (omega (arith, long, right_within)) in
      let first : slice_get (below checked.rules node (expr.Name name)) 0 ≡ Some (right_node checked.rules number) =
      ap (λ o. slice_get (option_map_or (λ number. right_node checked.rules number ∷ []) o []) 0) numbered in
      let falls : lower.0 < r.0 =
      (ok.ranked.each node r.0 (expr.Name name) at r.1).falls 0 (right_node checked.rules number) lower.0 right first right_at lower.1
      (right_fills name number right numbered sided inside) in
      let upper_is : rank_of checked node ≡ r.0 = ap (λ o. unwrap_or o 0) r.1 in
      let lower_is : rank_of checked (right_node checked.rules number) ≡ lower.0 = ap (λ o. unwrap_or o 0) lower.1 in
      omega (arith, falls, upper_is, lower_is)
