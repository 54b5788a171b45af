-- What the code that asks something of each container needs at each step.
use Rattle.std.proofs.Common.{◌≡◌, ℕ, ◌+◌, ◌<◌, Bool, ◌&&◌, List, length, drop, get_or, cond, Option, Some, true, false, sym, ap, ◌∙◌}
use Rattle.std.specs.List.{list_all, position_from}
use Rattle.std.proofs.lemmas.List.Folds.{list_all-append as all-append}
use Rattle.spec_syntax.specs.Expression.{Expression, preorder, preorder_of_all, expressions_of}
use Rattle.spec_syntax.specs.Rules.{Rules, right_side}
use Rattle.spec_syntax.proofs.NodeSteps.{preorder_step, next_rule}

-- a test of all that is in some expressions goes on from one expression to the next
pub all_step : (test : Expression → Bool) (es : List Expression) (i : ℕ) (e : Expression) → i < length es → e ≡ get_or es i e
    → list_all test (preorder_of_all (expressions_of (drop i es))) ≡ (list_all test (preorder e) && list_all test (preorder_of_all (expressions_of (drop (i + 1) es))))
all_step test es i e within is = ap (list_all test) (preorder_step es i e within is) ∙ all-append test (preorder e) (preorder_of_all (expressions_of (drop (i + 1) es)))

-- a search for a rule goes on from one rule to the next
pub rule_step : (test : Expression → Bool) (rules : Rules) (place : ℕ) (right : Expression) → right_side rules (place + 1) ≡ Some right
    → position_from (λ (rule : List ℕ × Expression). test rule.1) (place + 1) (drop place rules)
    ≡ cond (test right) (Some (place + 1)) (position_from (λ (rule : List ℕ × Expression). test rule.1) (place + 1 + 1) (drop (place + 1) rules))
rule_step test rules place right at = ap (λ (others : Rules). position_from (λ (rule : List ℕ × Expression). test rule.1) (place + 1) others) (next_rule rules place right at).split

-- it stops at a rule that passes
pub rule_found : (test : Expression → Bool) (rules : Rules) (place : ℕ) (right : Expression) (whole : Option ℕ) → right_side rules (place + 1) ≡ Some right
    → whole ≡ position_from (λ (rule : List ℕ × Expression). test rule.1) (place + 1) (drop place rules) → test right ≡ true → Some (place + 1) ≡ whole
rule_found test rules place right whole at so_far passes =
    sym (so_far ∙ rule_step test rules place right at ∙ ap (λ b. cond b (Some (place + 1)) (position_from (λ (rule : List ℕ × Expression). test rule.1) (place + 1 + 1) (drop (place + 1) rules))) passes)

-- and goes on after one that doesn't
pub rule_passed : (test : Expression → Bool) (rules : Rules) (place : ℕ) (right : Expression) (whole : Option ℕ) → right_side rules (place + 1) ≡ Some right
    → whole ≡ position_from (λ (rule : List ℕ × Expression). test rule.1) (place + 1) (drop place rules) → test right ≡ false
    → whole ≡ position_from (λ (rule : List ℕ × Expression). test rule.1) (place + 1 + 1) (drop (place + 1) rules)
rule_passed test rules place right whole at so_far fails =
    so_far ∙ rule_step test rules place right at ∙ ap (λ b. cond b (Some (place + 1)) (position_from (λ (rule : List ℕ × Expression). test rule.1) (place + 1 + 1) (drop (place + 1) rules))) fails
