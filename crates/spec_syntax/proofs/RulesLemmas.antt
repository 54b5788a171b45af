-- Laws of the rules of a specification.
use Rattle.std.proofs.Common.{◌≡◌, ◌≤◌, subst, ℕ, zero, suc, ◌+◌, ◌<◌, length, drop, add-one, Some, Bool, true, false, cond, List, [], ◌∷◌, ◌++◌, None, IsTrue, refl, sym, ap, ◌∙◌, arith}
use Rattle.std.specs.List.{list_any, position_from}
use Rattle.std.specs.Map.{lookup}
use Rattle.std.specs.Option.{option_map}
use Rattle.std.specs.Cmp.Lexicographic.{same_text}
use Rattle.lists.specs.Enumeration.{IsIn}
use Rattle.lists.proofs.Places.{in_of_get}
use Rattle.lists.proofs.Positions.{found_at, found_within}
use Rattle.spec_syntax.specs.Expression.{Expression}
use Rattle.spec_syntax.specs.Rules.{Rules, is_same_name, symbol, right_side, all_nodes, rule_name, are_names_distinct, is_spec}

-- what no element of a list passes, an element in the middle does not
pub list_any-middle : {X : Type 0} (test : X → Bool) (xs : List X) (y : X) (zs : List X) → list_any test (xs ++ y ∷ zs) ≡ false → test y ≡ false
list_any-middle test [] y zs none = grind (arith, none)
list_any-middle test (x ∷ xs) y zs none = grind (arith, list_any-middle test xs y zs)

-- where names are distinct, the name of a rule is not among those before it
pub lookup-distinct : (before : Rules) (rule : List ℕ × Expression) (after : Rules) → are_names_distinct (before ++ rule ∷ after) ≡ true
    → lookup (is_same_name rule.0) before ≡ None
lookup-distinct [] rule after distinct = refl
lookup-distinct (e ∷ before) rule after distinct =
    grind (arith, list_any-middle (λ (other : List ℕ × Expression). is_same_name other.0 e.0) before rule after, lookup-distinct before rule after)

step-suc : (rules : Rules) (place start : ℕ) (name : List ℕ) → place < length rules
    → position_from (λ rule. is_same_name rule.0 name) start (drop place rules)
    ≡ cond (is_same_name (rule_name rules (suc place)) name) (Some start) (position_from (λ rule. is_same_name rule.0 name) (start + 1) (drop (suc place) rules))
step-suc [] place start name within = absurd (omega arith)
step-suc (rule ∷ rules) zero start name within = refl
step-suc (rule ∷ rules) (suc place) start name within = step-suc rules place start name (omega arith)

-- the search for a name goes on from one rule to the next
pub position_from-drop : (rules : Rules) (place : ℕ) (name : List ℕ) → place < length rules
    → position_from (λ rule. is_same_name rule.0 name) (place + 1) (drop place rules)
    ≡ cond (is_same_name (rule_name rules (place + 1)) name) (Some (place + 1)) (position_from (λ rule. is_same_name rule.0 name) (place + 1 + 1) (drop (place + 1) rules))
position_from-drop rules place name within = rw add-one (step-suc rules place (suc place) name within)

pub distinct-from_spec : (rules : Rules) → IsTrue (is_spec rules) → are_names_distinct rules ≡ true
distinct-from_spec rules facts = grind (arith, facts)

-- a name that a specification has after other rules is not among theirs
pub lookup-from_spec : (rules before : Rules) (name : List ℕ) (right : Expression) (after : Rules) → rules ≡ before ++ (name, right) ∷ after
    → IsTrue (is_spec rules) → lookup (is_same_name name) before ≡ None
lookup-from_spec rules before name right after split facts =
    lookup-distinct before (name, right) after (ap are_names_distinct (sym split) ∙ distinct-from_spec rules facts)

-- the number of a rule that has the name is the number of a rule
pub symbol-within : (rules : Rules) (name : List ℕ) (n : ℕ) → symbol rules name ≡ Some n → (1 ≤ n) × (n ≤ length rules)
symbol-within rules name n found =
    let within : (1 ≤ n) × (n < 1 + length rules) = found_within (λ (rule : List ℕ × Expression). is_same_name rule.0 name) rules 1 n found in (omega arith, omega arith)

-- a specification has at most 128 nodes
pub all_nodes-from_spec : (rules : Rules) → IsTrue (is_spec rules) → length (all_nodes rules) ≤ 128
all_nodes-from_spec rules facts = grind (arith, facts)

-- a name with a rule has the right side of the rule
pub symbol_right : (rules : Rules) (name : List ℕ) (sym : ℕ) → symbol rules name ≡ Some sym → (right : Expression) × (right_side rules sym ≡ Some right)
symbol_right rules name number found =
    let rule = found_at (λ (rule : List ℕ × Expression). is_same_name rule.0 name) rules 1 number found in
    let next : suc rule.i ≡ number = after rule.i rule.number in
    (rule.x.1, subst (λ (j : ℕ). right_side rules j ≡ Some rule.x.1) next (ap (option_map (λ (other : List ℕ × Expression). other.1)) rule.at))
  where
    after : (i : ℕ) → 1 + i ≡ number → suc i ≡ number
    after i same = omega arith

-- a rule that is found by its name has the name
pub own_name : (rules : Rules) (name : List ℕ) (r : ℕ) → symbol rules name ≡ Some r → (right : Expression) × IsIn (name, right) rules
own_name rules name r numbered =
    let found = found_at (λ (rule : List ℕ × Expression). is_same_name rule.0 name) rules 1 r numbered in
    (found.x.1, subst (λ (own : List ℕ). IsIn (own, found.x.1) rules) (same_text found.x.0 name (sym found.passes)) (in_of_get rules found.i found.x found.at))

-- a number of a rule has a right side
pub some_right : (rules : Rules) (sym : ℕ) → 1 ≤ sym → sym ≤ length rules → (right : Expression) × (right_side rules sym ≡ Some right)
some_right rules zero low high = absurd (omega arith)
some_right [] (suc i) low high = absurd (omega arith)
some_right (rule ∷ rules) (suc zero) low high = (rule.1, refl)
some_right (rule ∷ rules) (suc (suc i)) low high = some_right rules (suc i) (omega arith) (omega arith)
