-- What it means that a token passes no limit and repeats no name.
use Rattle.std.specs.Prelude.{if◌then◌else◌}
use Rattle.std.specs.List.{list_all}
use Rattle.std.proofs.Common.{◌≡◌, ℕ, Bool, true, false, not, ◌&&◌, nat_le, Option, Some, None, List, [], ◌∷◌, length, refl, arith}
use Rattle.spec_reader.specs.declared.refusal.Which.{Which}
use Rattle.spec_reader.specs.declared.table.Role.{Role}
use Rattle.spec_reader.specs.declared.table.Role.TheVariants as role
use Rattle.spec_reader.specs.Tokens.{Token, text_of}
use Rattle.spec_reader.specs.Limits.{is_long, is_above, is_size, is_rule_name, is_expr_start, is_deeper, first_that_holds, tests, limit, limit_or, repeat, repeats, reason, Reason, Repeats}

none-holds : (tests : List (Bool × Which)) → first_that_holds tests ≡ None → list_all (λ test. not test.0) tests ≡ true
none-holds [] e = refl
none-holds ((true, which) ∷ tests) e = cc
none-holds ((false, which) ∷ tests) e = none-holds tests e

no-reason : (which : Option Which) (other : Option Reason) → limit_or which other ≡ None → (which ≡ None) × (other ≡ None)
no-reason None other e = (refl, e)
no-reason (Some which) other e = cc

no-repeat : (b : Bool) (text : List ℕ) → (if b then Some (Repeats text) else None) ≡ None → b ≡ false
no-repeat true text e = cc
no-repeat false text e = refl

pub record Passes (names : List (List ℕ)) (expressions : ℕ) (role : Role) (token : Token) : Type 0 where
  pub long : is_long token ≡ false
  pub big : is_above 340282366920938463463374607431768211455 token ≡ false
  pub size : (is_size role && is_above 1000 token) ≡ false
  pub rules : (is_rule_name role && nat_le 64 (length names)) ≡ false
  pub nodes : (is_expr_start role && nat_le 128 expressions) ≡ false
  pub depth : is_deeper 32 role ≡ false
  pub repeated : repeat names role token ≡ None

-- a token that is at no fault passes each test
pub reason-none : (names : List (List ℕ)) (expressions : ℕ) (role : Role) (token : Token) → reason names expressions role token ≡ None → Passes names expressions role token
reason-none names expressions role token none =
    let both = no-reason (limit (length names) expressions role token) (repeat names role token) none in
    let all = none-holds (tests (length names) expressions role token) both.0 in
    record {
      long = grind (arith, all);
      big = grind (arith, all);
      size = grind (arith, all);
      rules = grind (arith, all);
      nodes = grind (arith, all);
      depth = grind (arith, all);
      repeated = both.1;
    }

pub fresh-name : (names : List (List ℕ)) (token : Token) → repeat names role.RuleName token ≡ None → repeats names (text_of token) ≡ false
fresh-name names token none = no-repeat (repeats names (text_of token)) (text_of token) none
