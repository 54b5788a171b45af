-- Least sizes by recursion on the expression, given those of the names. Sizes above 1000 count as 1001.
use Rattle.std.specs.Prelude.{◌≡◌, ℕ, zero, suc, ◌+◌, ◌*◌, ◌-◌, ◌≤◌, min, max, List, length, map, Option, Some, None, slice_get, unwrap_or, if◌then◌else◌, IsTrue}
use Rattle.std.specs.Option.{option_map, option_map_or, option_and_then}
use Rattle.spec_syntax.specs.declared.expr.Kind.{Kind}
use Rattle.spec_syntax.specs.declared.expr.Kind.TheVariants as kind
use Rattle.spec_syntax.specs.declared.expr.Card.{Card}
use Rattle.spec_syntax.specs.Card.{admits}
use Rattle.spec_syntax.specs.Expression as expr
use Rattle.spec_syntax.specs.Expression.{Expression, Expressions, no_expressions, more_expressions}
use Rattle.spec_syntax.specs.declared.statement.Universe.{Universe}
use Rattle.spec_syntax.specs.Rules.{Rules, symbol, all_nodes}
use Rattle.spec_syntax.specs.Grammar.{Grammar}
use Rattle.well_founded.specs.Sizes.{IsProductive, IsLeast, no_least}
use Rattle.well_founded.specs.WellFounded.{may_hold_cycles, HoldsCycle, OfNone}

-- the lesser of two least sizes, where there is one
abbrev pub lesser : Option ℕ → Option ℕ → Option ℕ
lesser None other = other
lesser (Some n) None = Some n
lesser (Some n) (Some m) = Some (min n m)

-- the least size of two structures together
abbrev pub together : Option ℕ → Option ℕ → Option ℕ
together None other = None
together (Some n) None = None
together (Some n) (Some m) = Some (min (n + m) no_least)

-- the least number of components that a container of the kind asks for
abbrev pub low_count : Kind → Card → ℕ
low_count kind.Sequence card = card.low
low_count kind.Set card = card.low
low_count kind.PowerSet card = card.low
low_count kind.Cycle card = max card.low 1

-- the least number of components that kind and bound admit, where there is one
abbrev pub fewest : Kind → Card → Option ℕ
fewest kind card = if admits card (low_count kind card) then Some (low_count kind card) else None

-- the least size of so many structures together, given that of one
abbrev pub copies : ℕ → Option ℕ → Option ℕ
copies zero size = Some 0
copies (suc others) size = option_map (λ n. min (suc others * n) no_least) size

-- the least size of a container, given that of its element
abbrev pub least_of_many : Kind → Card → Option ℕ → Option ℕ
least_of_many kind card size = option_and_then (λ count. copies count size) (fewest kind card)

abbrev mutual
  -- the least size of a structure of the expression, given those of names
  pub least_with : (List ℕ → Option ℕ) → Expression → Option ℕ
  least_with names expr.Epsilon = Some 0
  least_with names expr.Atom = Some 1
  least_with names (expr.Name name) = names name
  least_with names (expr.Union arguments) = least_of_some names arguments
  least_with names (expr.Prod arguments) = least_of_all names arguments
  least_with names (expr.Many kind element card) = least_of_many kind card (least_with names element)

  -- that of a structure of one of these
  pub least_of_some : (List ℕ → Option ℕ) → Expressions → Option ℕ
  least_of_some names no_expressions = None
  least_of_some names (more_expressions e es) = lesser (least_with names e) (least_of_some names es)

  -- that of structures of all of these together
  pub least_of_all : (List ℕ → Option ℕ) → Expressions → Option ℕ
  least_of_all names no_expressions = Some 0
  least_of_all names (more_expressions e es) = together (least_with names e) (least_of_all names es)

-- none where there is no structure, and the least size otherwise, or 1001 where it is greater
abbrev pub IsSize : Grammar → Expression → Option ℕ → Type 0
IsSize g e None = IsProductive g e → ⊥
IsSize g e (Some n) = IsProductive g e × IsLeast g e n

-- what a table, which has an entry for each rule, says of a name
abbrev pub size_of_name : Rules → List (Option ℕ) → List ℕ → Option ℕ
size_of_name rules table name = option_map_or (λ number. unwrap_or (slice_get table (number - 1)) None) (symbol rules name) None

-- for each rule the least size of its right side, by what the table says of names
abbrev pub next_sizes : Rules → List (Option ℕ) → List (Option ℕ)
next_sizes rules table = map (λ rule. least_with (size_of_name rules table) rule.1) rules

-- it is none, or it is at most 1001
abbrev pub IsSmall : Option ℕ → Type 0
IsSmall None = Unit {0}
IsSmall (Some n) = n ≤ no_least

-- by the table each expression gets its least size, in each universe that allows the Cycles in the rules and in it
pub record AreSizes (rules : Rules) (table : List (Option ℕ)) : Type 0 where
  pub for_each : length table ≡ length rules
  pub each : (universe : Universe) (e : Expression) → OfNone (HoldsCycle (record { rules = rules; universe = universe })) rules
      → IsTrue (may_hold_cycles (record { rules = rules; universe = universe }) e) → IsSize (record { rules = rules; universe = universe }) e (least_with (size_of_name rules table) e)

-- the least size of the expression by the table, or 1001 where it has no structure
abbrev pub least_by : Rules → List (Option ℕ) → Expression → ℕ
least_by rules table e = unwrap_or (least_with (size_of_name rules table) e) no_least

-- the least sizes of all nodes by the table
abbrev pub leasts_of : Rules → List (Option ℕ) → List ℕ
leasts_of rules table = map (least_by rules table) (all_nodes rules)
