-- The names that rules use, and those without a rule.
use Rattle.std.specs.Prelude.{ℕ, Bool, not, List, [], ◌∷◌, Option, Some, None, is_some, if◌then◌else◌, find}
use Rattle.std.specs.Option.{option_or}
use Rattle.std.specs.List.{flat_map}
use Rattle.spec_syntax.specs.Expression as expr
use Rattle.spec_syntax.specs.Expression.{Expression, preorder}
use Rattle.spec_syntax.specs.Rules.{Rules, symbol}

-- the name, where the expression is one
abbrev pub name_in : Expression → List (List ℕ)
name_in expr.Epsilon = []
name_in expr.Atom = []
name_in (expr.Name name) = name ∷ []
name_in (expr.Union arguments) = []
name_in (expr.Prod arguments) = []
name_in (expr.Many kind element card) = []

-- the names in the expression, from left to right
abbrev pub used_names : Expression → List (List ℕ)
used_names e = flat_map name_in (preorder e)

-- the names in the right sides, in written order
abbrev pub names_used_in : Rules → List (List ℕ)
names_used_in rules = flat_map (λ rule. used_names rule.1) rules

abbrev pub has_rule : Rules → List ℕ → Bool
has_rule rules name = is_some (symbol rules name)

-- the first name in the right sides that has no rule
abbrev pub name_without_rule : Rules → Option (List ℕ)
name_without_rule rules = find (λ name. not (has_rule rules name)) (names_used_in rules)

-- the class symbol, where there is one and it has no rule
abbrev pub symbol_without_rule : Rules → Option (List ℕ) → Option (List ℕ)
symbol_without_rule rules None = None
symbol_without_rule rules (Some start) = if has_rule rules start then None else Some start

-- the first name in written order that has no rule. The class symbol stands last
abbrev pub undefined_name : Rules → Option (List ℕ) → Option (List ℕ)
undefined_name rules start = option_or (name_without_rule rules) (symbol_without_rule rules start)
