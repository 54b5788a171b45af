-- The names of rules: each rule is found by its own.
use Rattle.std.proofs.Common.{◌≡◌, ℕ, zero, suc, ◌+◌, ◌≤◌, Bool, true, false, not, cond, List, [], ◌∷◌, length, slice_get, unwrap_or, nat_eq, option_map, Option, Some, IsTrue, refl, sym, ap, ◌∙◌, arith, true≢false}
use Rattle.std.specs.List.{list_any, position_from}
use Rattle.std.specs.Cmp.Lexicographic.{same_text}
use Rattle.std.proofs.lemmas.Bool.{and_parts, and_from, eq-eqb, not-true}
use Rattle.lists.specs.Enumeration.{IsIn}
use Rattle.lists.proofs.Tests.{any_at}
use Rattle.lists.proofs.Positions.{found_at, found_some, slice_some}
use Rattle.spec_syntax.specs.Expression.{Expression}
use Rattle.spec_syntax.specs.Rules.{Rules, is_same_name, symbol, rule_name, are_names_distinct, is_spec}
use Rattle.spec_syntax.proofs.RulesLemmas.{distinct-from_spec}

pub same_name : (name : List ℕ) → is_same_name name name ≡ true
same_name [] = refl
same_name (b ∷ name) = and_from (nat_eq b b) (is_same_name name name) (eq-eqb b b refl) (same_name name)

-- names that are not the same one way are not the other way
other_name : (one other : List ℕ) → is_same_name other one ≡ false → is_same_name one other ≡ false
other_name one other differ = by (is_same_name one other) refl
  where
    by : (b : Bool) → is_same_name one other ≡ b → is_same_name one other ≡ false
    by false is = is
    by true is = absurd (true≢false (sym (same_name one) ∙ ap (λ (name : List ℕ). is_same_name name one) (same_text one other (sym is)) ∙ differ))

own_from : (rules : Rules) (first i : ℕ) (rule : List ℕ × Expression) → are_names_distinct rules ≡ true → slice_get rules i ≡ Some rule
    → position_from (λ other. is_same_name other.0 rule.0) first rules ≡ Some (first + i)
own_from [] first i rule distinct at = absurd (cc)
own_from (head ∷ rules) first zero rule distinct at =
    let same : head ≡ rule = cc in
    ap (λ (b : Bool). cond b (Some first) (position_from (λ other. is_same_name other.0 rule.0) (first + 1) rules))
    (ap (λ (r : List ℕ × Expression). is_same_name r.0 rule.0) same ∙ same_name rule.0)
    ∙ ap Some (number first)
  where
    number : (n : ℕ) → n ≡ n + 0
    number n = omega arith
own_from (head ∷ rules) first (suc i) rule distinct at =
    let both = and_parts (not (list_any (λ other. is_same_name other.0 head.0) rules)) (are_names_distinct rules) distinct in
    ap (λ (b : Bool). cond b (Some first) (position_from (λ other. is_same_name other.0 rule.0) (first + 1) rules))
    (other_name head.0 rule.0 (any_at (λ (other : List ℕ × Expression). is_same_name other.0 head.0) rules i rule (not-true (list_any (λ other. is_same_name other.0 head.0) rules) both.0) at))
    ∙ own_from rules (first + 1) i rule both.1 at
    ∙ ap Some (number first i)
  where
    number : (n m : ℕ) → n + 1 + m ≡ n + suc m
    number n m = omega arith

-- a rule is found by its own name
pub symbol_own : (rules : Rules) (i : ℕ) (rule : List ℕ × Expression) → IsTrue (is_spec rules) → slice_get rules i ≡ Some rule → symbol rules rule.0 ≡ Some (suc i)
symbol_own rules i rule spec at = own_from rules 1 i rule (distinct-from_spec rules spec) at ∙ ap Some (number i)
  where
    number : (n : ℕ) → 1 + n ≡ suc n
    number n = omega arith

-- the name of a rule has a number, also where names are not distinct
pub symbol_of_rule : (rules : Rules) (name : List ℕ) (right : Expression) → IsIn (name, right) rules → (n : ℕ) × (symbol rules name ≡ Some n)
symbol_of_rule rules name right there = found_some (λ (rule : List ℕ × Expression). is_same_name rule.0 name) rules 1 (name, right) there (same_name name)

-- the name of the rule at a place, by its number
pub name_found : (rules : Rules) (i number : ℕ) (rule : List ℕ × Expression) → i + 1 ≡ number → slice_get rules i ≡ Some rule → rule_name rules number ≡ rule.0
name_found rules i number rule same at =
    ap (rule_name rules) (sym (next i number same)) ∙ ap (λ (o : Option (List ℕ × Expression)). unwrap_or (option_map (λ (r : List ℕ × Expression). r.0) o) []) at
  where
    next : (j k : ℕ) → j + 1 ≡ k → suc j ≡ k
    next j k h = omega (arith, h)

-- a rule that is found by its name has the name
pub name_own : (rules : Rules) (name : List ℕ) (number : ℕ) → symbol rules name ≡ Some number → rule_name rules number ≡ name
name_own rules name number found =
    let rule = found_at (λ (rule : List ℕ × Expression). is_same_name rule.0 name) rules 1 number found in
    name_found rules rule.i number rule.x (omega (arith, rule.number)) rule.at ∙ same_text rule.x.0 name (sym rule.passes)

-- the rule of each number is found by its name
pub number_own : (rules : Rules) (number : ℕ) → IsTrue (is_spec rules) → 1 ≤ number → number ≤ length rules → symbol rules (rule_name rules number) ≡ Some number
number_own rules zero spec low high = absurd (omega arith)
number_own rules (suc i) spec low high =
    let rule = slice_some rules i (omega arith) in
    ap (symbol rules) (name_found rules i (suc i) rule.0 (next i) rule.1) ∙ symbol_own rules i rule.0 spec rule.1
  where
    next : (n : ℕ) → n + 1 ≡ suc n
    next n = omega arith
