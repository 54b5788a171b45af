-- The equations of rules, one by one.
use Rattle.std.proofs.Common.{◌≡◌, ℕ, zero, suc, ◌+◌, ◌≤◌, List, [], ◌∷◌, ◌++◌, length, drop, Bool, true, false, true≢false, nat_eq, if◌then◌else◌, Some, slice_get, option_map, IsTrue, refl, sym, ap, ◌∙◌, arith, add-one, length-append, append_assoc}
use Rattle.std.specs.List.{join_by, flat_map}
use Rattle.spec_syntax.specs.Expression.{Expression, nodes, preorder}
use Rattle.spec_syntax.specs.Rules.{Rules, right_side, rule_name, all_nodes, is_spec}
use Rattle.spec_syntax.proofs.RulesLemmas.{all_nodes-from_spec}

nodes_at : (rules : Rules) (place : ℕ) (right : Expression) → option_map (λ (rule : List ℕ × Expression). rule.1) (slice_get rules place) ≡ Some right → nodes right ≤ length (all_nodes rules)
nodes_at [] place right at = absurd (cc)
nodes_at (rule ∷ rules) zero right at =
    let same : rule.1 ≡ right = cc in omega (arith, ap nodes same, length-append (preorder rule.1) (all_nodes rules))
nodes_at (rule ∷ rules) (suc place) right at = omega (arith, nodes_at rules place right at, length-append (preorder rule.1) (all_nodes rules))

-- a right side has at most as many expressions as a specification
pub nodes_of_right : (rules : Rules) (place : ℕ) (right : Expression) → IsTrue (is_spec rules) → right_side rules (place + 1) ≡ Some right → nodes right ≤ 128
nodes_of_right rules place right spec at =
    omega (arith, nodes_at rules place right (ap (right_side rules) (sym (add-one place)) ∙ at), all_nodes-from_spec rules spec)

named_at : (rules : Rules) (place : ℕ) (right : Expression) → option_map (λ (rule : List ℕ × Expression). rule.1) (slice_get rules place) ≡ Some right
    → drop place rules ≡ (rule_name rules (suc place), right) ∷ drop (suc place) rules
named_at [] place right at = absurd (cc)
named_at (rule ∷ rules) zero right at = ap (λ e. (rule.0, e) ∷ rules) (let same : rule.1 ≡ right = cc in same)
named_at (rule ∷ rules) (suc place) right at = named_at rules place right at

-- a rule and those behind it
pub rule_next : (rules : Rules) (place : ℕ) (right : Expression) → right_side rules (place + 1) ≡ Some right
    → drop place rules ≡ (rule_name rules (place + 1), right) ∷ drop (place + 1) rules
rule_next rules place right at = rw add-one (named_at rules place right (ap (right_side rules) (sym (add-one place)) ∙ at))

-- what is to come of joined pieces at a place
abbrev pub coming : {X : Type 0} → (X → List ℕ) → List ℕ → ℕ → List X → List ℕ
coming f sign zero xs = join_by f sign xs
coming f sign (suc place) xs = flat_map (λ x. sign ++ f x) xs

coming_more : {X : Type 0} (f : X → List ℕ) (sign : List ℕ) (place : ℕ) (x : X) (xs : List X)
    → coming f sign place (x ∷ xs) ≡ (if nat_eq place 0 then [] else sign) ++ (f x ++ coming f sign (place + 1) xs)
coming_more f sign zero x xs = refl
coming_more f sign (suc place) x xs =
    let rest : List ℕ = flat_map (λ y. sign ++ f y) xs in
    append_assoc sign (f x) rest
    ∙ by (nat_eq (suc place) 0) (f x ++ rest) (grind (arith))
    ∙ ap (λ n. (if nat_eq (suc place) 0 then [] else sign) ++ (f x ++ coming f sign n xs)) (sym (add-one (suc place)))
  where
    by : (b : Bool) (more : List ℕ) → b ≡ false → sign ++ more ≡ (if b then [] else sign) ++ more
    by false more is = refl
    by true more is = absurd (true≢false is)

-- one more piece
pub coming_step : {X : Type 0} (f : X → List ℕ) (sign : List ℕ) (place : ℕ) (x : X) (xs ys : List X) (text mid new whole : List ℕ) → xs ≡ x ∷ ys
    → mid ≡ text ++ (if nat_eq place 0 then [] else sign) → new ≡ mid ++ f x → text ++ coming f sign place xs ≡ whole → new ++ coming f sign (place + 1) ys ≡ whole
coming_step f sign place x xs ys text mid new whole split half put so_far =
    let before : List ℕ = if nat_eq place 0 then [] else sign in
    let rest : List ℕ = coming f sign (place + 1) ys in
    ap (λ t. t ++ rest) (put ∙ ap (λ t. t ++ f x) half)
    ∙ ap (λ t. t ++ rest) (append_assoc text before (f x))
    ∙ append_assoc text (before ++ f x) rest
    ∙ ap (λ t. text ++ t) (append_assoc before (f x) rest ∙ sym (ap (coming f sign place) split ∙ coming_more f sign place x ys))
    ∙ so_far

-- none is left
pub coming_none : {X : Type 0} (f : X → List ℕ) (sign : List ℕ) (place : ℕ) → coming f sign place [] ≡ []
coming_none f sign zero = refl
coming_none f sign (suc place) = refl
