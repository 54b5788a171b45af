-- The rules of a grammar in written order, each a name and its right side. They are numbered from 1.
use Rattle.std.specs.Prelude.{ℕ, zero, suc, Bool, true, not, ◌&&◌, nat_eq, nat_le, List, [], ◌∷◌, length, Option, None, slice_get, unwrap_or}
use Rattle.std.specs.Option.{option_map}
use Rattle.std.specs.List.{list_all, list_any, flat_map, position_from}
use Rattle.std.specs.Cmp.Lexicographic.{pointwise}
use Rattle.std.specs.Coded.{Coded, coded_list, coded×, coded_ℕ}
use Rattle.spec_syntax.specs.Expression.{Expression, preorder, is_well_formed}
use Rattle.spec_syntax.specs.ExpressionCode.{expression_code}
use Rattle.spec_syntax.specs.Word.{is_word}

abbrev pub Rules : Type 0
Rules = List (List ℕ × Expression)

abbrev pub rules_code : Coded Rules
rules_code = coded_list (coded× (coded_list coded_ℕ) expression_code)

-- is it the same text
abbrev pub is_same_name : List ℕ → List ℕ → Bool
is_same_name = pointwise nat_eq

-- the number of the rule with the name
abbrev pub symbol : Rules → List ℕ → Option ℕ
symbol rules name = position_from (λ rule. is_same_name rule.0 name) 1 rules

-- rule number n
abbrev pub rule_at : Rules → ℕ → Option (List ℕ × Expression)
rule_at rules zero = None
rule_at rules (suc i) = slice_get rules i

-- the right side of rule number n
abbrev pub right_side : Rules → ℕ → Option Expression
right_side rules n = option_map (λ rule. rule.1) (rule_at rules n)

-- the name of rule number n
abbrev pub rule_name : Rules → ℕ → List ℕ
rule_name rules n = unwrap_or (option_map (λ rule. rule.0) (rule_at rules n)) []

-- the expressions of all right sides in preorder, rule by rule. The place of one, from 0, is its number as a node
abbrev pub all_nodes : Rules → List Expression
all_nodes rules = flat_map (λ rule. preorder rule.1) rules

-- have no two rules one name
abbrev pub are_names_distinct : Rules → Bool
are_names_distinct [] = true
are_names_distinct (rule ∷ rules) = not (list_any (λ other. is_same_name other.0 rule.0) rules) && are_names_distinct rules

-- the facts that a specification keeps
abbrev pub is_spec : Rules → Bool
is_spec rules =
    are_names_distinct rules
    && list_all (λ rule. is_word rule.0 && is_well_formed rule.1) rules
    && nat_le (length rules) 64
    && nat_le (length (all_nodes rules)) 128
