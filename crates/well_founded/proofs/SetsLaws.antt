-- What stays where each PowerSet is read as Set.
use Rattle.std.proofs.Common.{◌≡◌, ℕ, zero, suc, ◌+◌, cond, List, [], ◌∷◌, map, slice_get, Option, Some, None, option_map, refl, ap, ◌∙◌}
use Rattle.std.specs.List.{position_from}
use Rattle.std.proofs.lemmas.Option.{slice_get-map}
use Rattle.spec_syntax.specs.Expression as expr
use Rattle.spec_syntax.specs.Expression.{Expression, Expressions, no_expressions, more_expressions}
use Rattle.spec_syntax.specs.Rules.{Rules, is_same_name, symbol, right_side}
use Rattle.spec_syntax.specs.Grammar.{Grammar}
use Rattle.struct_model.specs.Membership.{is_epsilon, is_atom, argument}
use Rattle.well_founded.specs.Sets.{with_sets, all_with_sets, reading_sets}

position_reading : (name : List ℕ) (n : ℕ) (rules : Rules)
    → position_from (λ (rule : List ℕ × Expression). is_same_name rule.0 name) n (map (λ (rule : List ℕ × Expression). (rule.0, with_sets rule.1)) rules)
    ≡ position_from (λ (rule : List ℕ × Expression). is_same_name rule.0 name) n rules
position_reading name n [] = refl
position_reading name n (rule ∷ rules) = ap (λ (rest : Option ℕ). cond (is_same_name rule.0 name) (Some n) rest) (position_reading name (n + 1) rules)

-- the rules keep their numbers
pub symbol_reading : (g : Grammar) (name : List ℕ) → symbol (reading_sets g).rules name ≡ symbol g.rules name
symbol_reading g name = position_reading name 1 g.rules

-- and each right side is read
pub right_reading : (g : Grammar) (n : ℕ) → right_side (reading_sets g).rules n ≡ option_map with_sets (right_side g.rules n)
right_reading g zero = refl
right_reading g (suc i) = ap (option_map (λ (rule : List ℕ × Expression). rule.1)) (slice_get-map (λ (rule : List ℕ × Expression). (rule.0, with_sets rule.1)) g.rules i) ∙ by (slice_get g.rules i)
  where
    by : (found : Option (List ℕ × Expression))
        → option_map (λ (rule : List ℕ × Expression). rule.1) (option_map (λ (rule : List ℕ × Expression). (rule.0, with_sets rule.1)) found)
        ≡ option_map with_sets (option_map (λ (rule : List ℕ × Expression). rule.1) found)
    by None = refl
    by (Some rule) = refl

pub argument_reading : (es : Expressions) (k : ℕ) → argument (all_with_sets es) k ≡ option_map with_sets (argument es k)
argument_reading no_expressions k = refl
argument_reading (more_expressions e es) zero = refl
argument_reading (more_expressions e es) (suc zero) = refl
argument_reading (more_expressions e es) (suc (suc k)) = argument_reading es (suc k)

-- the words stay words, and nothing else becomes one
words_reading : (e : Expression) → (is_epsilon (with_sets e) ≡ is_epsilon e) × (is_atom (with_sets e) ≡ is_atom e)
words_reading expr.Epsilon = (refl, refl)
words_reading expr.Atom = (refl, refl)
words_reading (expr.Name name) = (refl, refl)
words_reading (expr.Union es) = (refl, refl)
words_reading (expr.Prod es) = (refl, refl)
words_reading (expr.Many kind element card) = (refl, refl)

pub epsilon_reading : (e : Expression) → is_epsilon (with_sets e) ≡ is_epsilon e
epsilon_reading e = (words_reading e).0

pub atom_reading : (e : Expression) → is_atom (with_sets e) ≡ is_atom e
atom_reading e = (words_reading e).1

-- what is mapped to something is there
pub mapped : {X Y : Type 0} (f : X → Y) (found : Option X) (y : Y) → option_map f found ≡ Some y → (x : X) × (found ≡ Some x) × (f x ≡ y)
mapped f None y h = absurd (cc)
mapped f (Some x) y h = (x, refl, let same : f x ≡ y = cc in same)
