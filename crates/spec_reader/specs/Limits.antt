-- The limits on a statement, and repeated names: tests of one token in what comes before it.
use Rattle.std.specs.Prelude.{ℕ, Bool, true, false, ◌&&◌, nat_le, nat_lt, List, [], ◌∷◌, length, Option, Some, None, if◌then◌else◌}
use Rattle.spec_reader.specs.declared.refusal.Which.{Which}
use Rattle.spec_reader.specs.declared.refusal.Which.TheVariants as which
use Rattle.spec_reader.specs.declared.table.Role.{Role}
use Rattle.spec_reader.specs.declared.table.Role.TheVariants.{Plain, RuleName, ExprStart, BoundStart, SizeNumber}
use Rattle.spec_reader.specs.Tokens.{Token, Mark, Reserved, Name, Number, Text, Stray, value, text_of}
use Rattle.std.specs.List.{list_any}
use Rattle.spec_syntax.specs.Rules.{is_same_name}

-- a word longer than 32 bytes
abbrev pub is_long : Token → Bool
is_long (Name text) = nat_lt 32 (length text)
is_long (Mark sign) = false
is_long (Reserved keyword) = false
is_long (Number digits) = false
is_long (Text text) = false
is_long Stray = false

-- a number above n
abbrev pub is_above : ℕ → Token → Bool
is_above n (Number digits) = nat_lt n (value digits)
is_above n (Mark sign) = false
is_above n (Reserved keyword) = false
is_above n (Name text) = false
is_above n (Text text) = false
is_above n Stray = false

-- what the limits ask of a role: may its token be a size or the number of a bound, does it name a rule, does an expression
-- begin with it, and at which depth
pub record Asked : Type 0 where
  pub size : Bool
  pub rule_name : Bool
  pub expr_start : Bool
  pub depth : ℕ

abbrev pub asked : Role → Asked
asked Plain = record { size = false; rule_name = false; expr_start = false; depth = 0 }
asked RuleName = record { size = false; rule_name = true; expr_start = false; depth = 0 }
asked (ExprStart depth) = record { size = false; rule_name = false; expr_start = true; depth = depth }
asked BoundStart = record { size = true; rule_name = false; expr_start = false; depth = 0 }
asked SizeNumber = record { size = true; rule_name = false; expr_start = false; depth = 0 }

abbrev pub is_size : Role → Bool
is_size role = (asked role).size

abbrev pub is_rule_name : Role → Bool
is_rule_name role = (asked role).rule_name

abbrev pub is_expr_start : Role → Bool
is_expr_start role = (asked role).expr_start

-- an expression deeper than n
abbrev pub is_deeper : ℕ → Role → Bool
is_deeper n role = nat_lt n (asked role).depth

abbrev pub first_that_holds : List (Bool × Which) → Option Which
first_that_holds [] = None
first_that_holds (test ∷ tests) = if test.0 then Some test.1 else first_that_holds tests

-- the tests of a token in order, where so many rules and so many expressions begin before it
abbrev pub tests : ℕ → ℕ → Role → Token → List (Bool × Which)
tests rules expressions role token =
    (is_long token, which.Name)
    ∷ (is_above 340282366920938463463374607431768211455 token, which.Number)
    ∷ (is_size role && is_above 1000 token, which.Size)
    ∷ (is_rule_name role && nat_le 64 rules, which.Rules)
    ∷ (is_expr_start role && nat_le 128 expressions, which.Nodes)
    ∷ (is_deeper 32 role, which.Depth)
    ∷ []

-- the first limit that a token passes
abbrev pub limit : ℕ → ℕ → Role → Token → Option Which
limit rules expressions role token = first_that_holds (tests rules expressions role token)

-- is a text one of the names
abbrev pub repeats : List (List ℕ) → List ℕ → Bool
repeats names text = list_any (λ name. is_same_name name text) names

-- why a token is at fault where it fits: it passes a limit, or its rule is named as an earlier one
pub data Reason : Type 0 where
  Passes : Which → Reason
  Repeats : List ℕ → Reason

abbrev pub repeat : List (List ℕ) → Role → Token → Option Reason
repeat names role token = if is_rule_name role && repeats names (text_of token) then Some (Repeats (text_of token)) else None

abbrev pub limit_or : Option Which → Option Reason → Option Reason
limit_or (Some which) reason = Some (Passes which)
limit_or None reason = reason

-- why a token is at fault after rules of these names and so many expressions
abbrev pub reason : List (List ℕ) → ℕ → Role → Token → Option Reason
reason names expressions role token = limit_or (limit (length names) expressions role token) (repeat names role token)
