-- Membership as a walk tells it: arguments by their places, components from the left, and containers by their kinds.
use Rattle.std.proofs.Common.{◌≡◌, ℕ, zero, suc, ◌-◌, ◌<◌, ◌≤◌, Bool, true, false, ◌&&◌, nat_lt, List, [], ◌∷◌, length, get_or, Some, None, refl, sym, ap, ◌∙◌, subst, arith}
use Rattle.std.proofs.Math.Bool.{and-true, and-false}
use Rattle.spec_syntax.specs.declared.expr.Kind.{Kind}
use Rattle.spec_syntax.specs.declared.expr.Kind.TheVariants as kind
use Rattle.spec_syntax.specs.declared.expr.Card.{Card}
use Rattle.spec_syntax.specs.Card.{admits}
use Rattle.spec_syntax.specs.Expression as expr
use Rattle.spec_syntax.specs.Expression.{Expression, expressions_of}
use Rattle.spec_syntax.specs.Grammar.{Grammar}
use Rattle.struct_model.specs.declared.tree.Form5.{Form5}
use Rattle.struct_model.specs.declared.tree.Form5.TheVariants as form
use Rattle.struct_model.specs.Structure.{Structure, Tup, nodes_of_parts, part_list, parts_of}
use Rattle.struct_model.specs.Order.{is_sorted, is_strictly_sorted, is_least_rotation}
use Rattle.struct_model.specs.Membership.{argument, is_labelled, is_of, are_of, are_of_each}

-- ---- arguments

argument_from : (es : List Expression) (j : ℕ) (e : Expression) → j < length es → e ≡ get_or es j e → argument (expressions_of es) (suc j) ≡ Some e
argument_from [] j e within at = absurd (omega arith)
argument_from (first ∷ es) zero e within at = ap Some (sym at)
argument_from (first ∷ es) (suc j) e within at = argument_from es j e (omega (arith, within)) at

-- the argument of a number is that at its place
pub argument_at : (es : List Expression) (k : ℕ) (e : Expression) → 1 ≤ k → k ≤ length es → e ≡ get_or es (k - 1) e
    → argument (expressions_of es) k ≡ Some e
argument_at es k e low high at =
    let number : suc (k - 1) ≡ k = omega (arith, low) in
    subst (λ i. argument (expressions_of es) i ≡ Some e) number (argument_from es (k - 1) e (omega (arith, low, high)) at)

pub argument_zero : (es : List Expression) → argument (expressions_of es) 0 ≡ None
argument_zero [] = refl
argument_zero (e ∷ es) = refl

-- there is no argument of a greater number
pub argument_beyond : (es : List Expression) (k : ℕ) → length es < k → argument (expressions_of es) k ≡ None
argument_beyond [] k beyond = refl
argument_beyond (e ∷ es) zero beyond = absurd (omega (arith, beyond))
argument_beyond (e ∷ es) (suc zero) beyond = absurd (omega (arith, beyond))
argument_beyond (e ∷ es) (suc (suc k)) beyond = argument_beyond es (suc k) (omega (arith, beyond))

pub parts_back : (ss : List Structure) → part_list (parts_of ss) ≡ ss
parts_back [] = refl
parts_back (s ∷ ss) = ap (λ rest. s ∷ rest) (parts_back ss)

module _ (g : Grammar) where
  -- ---- components of an expression each

  -- where the numbers differ, they are not
  pub other_number : (es : List Expression) (ss : List Structure) → (length es ≡ length ss → ⊥)
      → are_of_each g (expressions_of es) (parts_of ss) ≡ false
  other_number [] [] differ = absurd (differ refl)
  other_number [] (s ∷ ss) differ = refl
  other_number (e ∷ es) [] differ = refl
  other_number (e ∷ es) (s ∷ ss) differ =
      ap (λ b. is_of g e s && b) (other_number es ss (λ same. differ (ap suc same))) ∙ and-false (is_of g e s)

  -- these expressions and components are left, and decide
  pub record IsLeft (es : List Expression) (ss : List Structure) (es' : List Expression) (ss' : List Structure) : Type 0 where
    pub decides : are_of_each g (expressions_of es') (parts_of ss') ≡ are_of_each g (expressions_of es) (parts_of ss)
    pub lengths : length es' ≡ length ss'
    pub nodes : nodes_of_parts (parts_of ss') ≤ nodes_of_parts (parts_of ss)

  -- ---- containers

  module _ (e : Expression) (card : Card) (ss : List Structure) where
    abbrev of_form : Kind → Form5 → Bool
    of_form k f = is_of g (expr.Many k e card) (Tup f (parts_of ss))

    abbrev each : Bool
    each = are_of g e (parts_of ss)

    abbrev within : Bool
    within = admits card (length ss)

    sequence_by : of_form kind.Sequence form.Sequence ≡ (within && each)
    sequence_by = ap (λ zs. admits card (length zs) && each) (parts_back ss)

    set_by : of_form kind.Set form.Set ≡ (within && is_sorted ss && each)
    set_by = ap (λ zs. admits card (length zs) && is_sorted zs && each) (parts_back ss)

    powerset_by : of_form kind.PowerSet form.PowerSet ≡ (within && is_strictly_sorted ss && each)
    powerset_by = ap (λ zs. admits card (length zs) && is_strictly_sorted zs && each) (parts_back ss)

    cycle_by : of_form kind.Cycle form.Cycle ≡ (is_labelled g.universe && within && nat_lt 0 (length ss) && is_least_rotation ss && each)
    cycle_by = ap (λ zs. is_labelled g.universe && admits card (length zs) && nat_lt 0 (length zs) && is_least_rotation zs && each) (parts_back ss)

    -- a list that breaks the bound
    pub bound_broken : (k : Kind) (f : Form5) → within ≡ false → false ≡ of_form k f
    bound_broken kind.Sequence form.Prod broken = refl
    bound_broken kind.Sequence form.Sequence broken = sym (sequence_by ∙ ap (λ b. b && each) broken)
    bound_broken kind.Sequence form.Set broken = refl
    bound_broken kind.Sequence form.PowerSet broken = refl
    bound_broken kind.Sequence form.Cycle broken = refl
    bound_broken kind.Set form.Prod broken = refl
    bound_broken kind.Set form.Sequence broken = refl
    bound_broken kind.Set form.Set broken = sym (set_by ∙ ap (λ b. b && is_sorted ss && each) broken)
    bound_broken kind.Set form.PowerSet broken = refl
    bound_broken kind.Set form.Cycle broken = refl
    bound_broken kind.PowerSet form.Prod broken = refl
    bound_broken kind.PowerSet form.Sequence broken = refl
    bound_broken kind.PowerSet form.Set broken = refl
    bound_broken kind.PowerSet form.PowerSet broken = sym (powerset_by ∙ ap (λ b. b && is_strictly_sorted ss && each) broken)
    bound_broken kind.PowerSet form.Cycle broken = refl
    bound_broken kind.Cycle form.Prod broken = refl
    bound_broken kind.Cycle form.Sequence broken = refl
    bound_broken kind.Cycle form.Set broken = refl
    bound_broken kind.Cycle form.PowerSet broken = refl
    bound_broken kind.Cycle form.Cycle broken =
        sym (cycle_by ∙ ap (λ b. is_labelled g.universe && b && nat_lt 0 (length ss) && is_least_rotation ss && each) broken
        ∙ ap (λ b. b && nat_lt 0 (length ss) && is_least_rotation ss && each) (and-false (is_labelled g.universe)))

    -- a list that keeps the bound
    module _ (k : Kind) (f : Form5) (kept : within ≡ true) where
      pub sequence_kept : k ≡ kind.Sequence → f ≡ form.Sequence → of_form k f ≡ each
      sequence_kept is form_is = (λ i. of_form (is i) (form_is i)) ∙ sequence_by ∙ ap (λ b. b && each) kept

      pub set_kept : k ≡ kind.Set → f ≡ form.Set → of_form k f ≡ (is_sorted ss && each)
      set_kept is form_is = (λ i. of_form (is i) (form_is i)) ∙ set_by ∙ ap (λ b. b && is_sorted ss && each) kept

      pub powerset_kept : k ≡ kind.PowerSet → f ≡ form.PowerSet → of_form k f ≡ (is_strictly_sorted ss && each)
      powerset_kept is form_is = (λ i. of_form (is i) (form_is i)) ∙ powerset_by ∙ ap (λ b. b && is_strictly_sorted ss && each) kept

      pub cycle_kept : k ≡ kind.Cycle → f ≡ form.Cycle
          → of_form k f ≡ (is_labelled g.universe && nat_lt 0 (length ss) && is_least_rotation ss && each)
      cycle_kept is form_is =
          (λ i. of_form (is i) (form_is i)) ∙ cycle_by
          ∙ ap (λ b. is_labelled g.universe && b && nat_lt 0 (length ss) && is_least_rotation ss && each) kept
          ∙ ap (λ b. b && nat_lt 0 (length ss) && is_least_rotation ss && each) (and-true (is_labelled g.universe))

-- ---- a test and then another

-- where the first passes, the second decides
pub second_decides : (whole first second told answer : Bool) → whole ≡ (first && second) → told ≡ first → told ≡ true → answer ≡ second
    → answer ≡ whole
second_decides whole first second told answer both is passes decided = decided ∙ ap (λ b. b && second) (sym passes ∙ is) ∙ sym both

-- where the first fails, so do both
pub first_fails : (whole first second told : Bool) → whole ≡ (first && second) → told ≡ first → told ≡ false → told ≡ whole
first_fails whole first second told both is fails = fails ∙ ap (λ b. b && second) (sym fails ∙ is) ∙ sym both
