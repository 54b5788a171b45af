-- What the code that finds least sizes needs at each step.
use Rattle.std.proofs.Common.{◌≡◌, ℕ, zero, suc, ◌+◌, ◌-◌, List, [], ◌∷◌, ◌++◌, map, take, get_or, slice_get, unwrap_or, nat_eq, true, false, Option, Some, None, All, refl, sym, ap, true≢false, ◌∙◌, arith, add-one}
use Rattle.std.specs.Option.{option_map, option_map_or, option_eq}
use Rattle.std.specs.Cmp.Lexicographic.{pointwise}
use Rattle.std.proofs.lemmas.Bool.{and_parts, and_from, eqb-true, eq-eqb}
use Rattle.std.proofs.lemmas.Option.{unwrap_or-slice_get}
use Rattle.spec_syntax.specs.Expression.{Expression, expressions_of}
use Rattle.spec_syntax.specs.Rules.{Rules, symbol, right_side}
use Rattle.well_founded.specs.Least.{together, least_of_all, size_of_name, IsSmall}
use Rattle.well_founded.proofs.LeastRounds.{all_small, name_small}

-- the entry of a rule is the size of its name
pub size_of_name-entry : (rules : Rules) (table : List (Option ℕ)) (name : List ℕ) (n : ℕ) → symbol rules name ≡ Some n → get_or table (n - 1) None ≡ size_of_name rules table name
size_of_name-entry rules table name n numbered =
    sym (unwrap_or-slice_get table (n - 1) None) ∙ ap (λ o. option_map_or (λ number. unwrap_or (slice_get table (number - 1)) None) o None) (sym numbered)

zero_together : (a : Option ℕ) → IsSmall a → a ≡ together (Some 0) a
zero_together None small = refl
zero_together (Some x) small = ap Some (omega arith)

-- that of all expressions begins with nothing
pub least_of_all-start : (rules : Rules) (table : List (Option ℕ)) (es : List Expression) → All IsSmall table
    → least_of_all (size_of_name rules table) (expressions_of es) ≡ together (Some 0) (least_of_all (size_of_name rules table) (expressions_of es))
least_of_all-start rules table es small =
    zero_together (least_of_all (size_of_name rules table) (expressions_of es)) (all_small (size_of_name rules table) (name_small table small rules) (expressions_of es))

map_take-right : (f : Expression → Option ℕ) (rules : Rules) (i : ℕ) (right : Expression) → option_map (λ (rule : List ℕ × Expression). rule.1) (slice_get rules i) ≡ Some right
    → map (λ (rule : List ℕ × Expression). f rule.1) (take (i + 1) rules) ≡ map (λ (rule : List ℕ × Expression). f rule.1) (take i rules) ++ f right ∷ []
map_take-right f [] i right at = cc
map_take-right f (rule ∷ rules) zero right at = let same : rule.1 ≡ right = cc in ap (λ e. f e ∷ []) same
map_take-right f (rule ∷ rules) (suc i) right at =
    ap (λ (k : ℕ). map (λ (r : List ℕ × Expression). f r.1) (take k (rule ∷ rules))) (next i) ∙ ap (λ others. f rule.1 ∷ others) (map_take-right f rules i right at)
  where
    next : (k : ℕ) → suc k + 1 ≡ suc (k + 1)
    next k = omega arith

-- one more rule
pub next_sizes-step : (f : Expression → Option ℕ) (rules : Rules) (place : ℕ) (right : Expression) (old new : List (Option ℕ)) (found : Option ℕ)
    → right_side rules (place + 1) ≡ Some right → new ≡ old ++ found ∷ [] → found ≡ f right → old ≡ map (λ (rule : List ℕ × Expression). f rule.1) (take place rules)
    → new ≡ map (λ (rule : List ℕ × Expression). f rule.1) (take (place + 1) rules)
next_sizes-step f rules place right old new found at grown found_is so_far =
    grown ∙ (λ i. so_far i ++ found_is i ∷ []) ∙ sym (map_take-right f rules place right (ap (right_side rules) (sym (add-one place)) ∙ at))

-- ---- what a test of two tables tells

same_entry : (a b : Option ℕ) → option_eq nat_eq a b ≡ true → a ≡ b
same_entry None None h = refl
same_entry None (Some y) h = absurd (true≢false (sym h))
same_entry (Some x) None h = absurd (true≢false (sym h))
same_entry (Some x) (Some y) h = ap Some (eqb-true x y h)

pub same_tables : (xs ys : List (Option ℕ)) → pointwise (option_eq nat_eq) xs ys ≡ true → xs ≡ ys
same_tables [] [] h = refl
same_tables [] (y ∷ ys) h = absurd (true≢false (sym h))
same_tables (x ∷ xs) [] h = absurd (true≢false (sym h))
same_tables (x ∷ xs) (y ∷ ys) h = let both = and_parts _ _ h in (λ i. same_entry x y both.0 i ∷ same_tables xs ys both.1 i)

entry_same : (a : Option ℕ) → option_eq nat_eq a a ≡ true
entry_same None = refl
entry_same (Some x) = eq-eqb x x refl

table_same : (xs : List (Option ℕ)) → pointwise (option_eq nat_eq) xs xs ≡ true
table_same [] = refl
table_same (x ∷ xs) = and_from _ _ (entry_same x) (table_same xs)

pub other_tables : (xs ys : List (Option ℕ)) → pointwise (option_eq nat_eq) xs ys ≡ false → xs ≡ ys → ⊥
other_tables xs ys h same = true≢false (sym (table_same ys) ∙ ap (λ zs. pointwise (option_eq nat_eq) zs ys) (sym same) ∙ h)
