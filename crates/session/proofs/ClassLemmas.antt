-- The rule of a class symbol, and the texts of the class by the number of the rule.
use Rattle.std.proofs.Common.{is_some, if◌then◌else◌, ◌≡◌, ◌≢◌, ℕ, List, ◌++◌, codes, decimal, Option, Some, None, refl, sym, ap, ◌∙◌}
use Rattle.std.specs.Option.{option_or}
use Rattle.spec_syntax.specs.Expression.{Name}
use Rattle.spec_syntax.specs.Rules.{Rules, rule_name, symbol as symbol_of}
use Rattle.spec_syntax.specs.Grammar.{Grammar}
use Rattle.spec_syntax.proofs.RuleNames.{name_own}
use Rattle.struct_model.specs.Membership.{supply}
use Rattle.struct_model.specs.Bounded.{listing, number}
use Rattle.struct_text.specs.declared.form.TextForm.{TextForm}
use Rattle.well_founded.specs.Names.{name_without_rule, symbol_without_rule, undefined_name}
use Rattle.well_founded.specs.declared.refused.Refused.{Refused}
use Rattle.well_founded.specs.declared.refused.Refused.TheVariants as check
use Rattle.well_founded.specs.WellFounded.{Checks}
use Rattle.well_founded.specs.Checked.{Checked, grammar}
use Rattle.listing_laws.specs.NodeListing.{listing_of_rule}
use Rattle.session.specs.Refusals.{CheckIsTold}
use Rattle.session.specs.Effect.{structures_text, listing_text, number_text}

-- the text of the listing of a checked class is that of the class
pub text_listed : (texts : TextForm) (checked : Checked) (symbol : List ℕ) (n size : ℕ) → symbol_of checked.rules symbol ≡ Some n
    → structures_text texts checked.rules (listing_of_rule checked n size) ≡ listing_text texts (grammar checked) symbol size
text_listed texts checked symbol n size found =
    ap (structures_text texts checked.rules)
    (ap (λ (name : List ℕ). listing (grammar checked) (Name name) (supply checked.universe size)) (name_own checked.rules symbol n found))

-- and so is the text of its number
pub text_counted : (checked : Checked) (symbol : List ℕ) (n size : ℕ) → symbol_of checked.rules symbol ≡ Some n
    → decimal (number (grammar checked) (Name (rule_name checked.rules n)) size) ++ codes "\n" ≡ number_text (grammar checked) symbol size
text_counted checked symbol n size found =
    ap (λ (name : List ℕ). decimal (number (grammar checked) (Name name) size) ++ codes "\n") (name_own checked.rules symbol n found)

-- where no name is undefined, the class symbol has a rule
pub symbol_defined : (rules : Rules) (symbol : List ℕ) → undefined_name rules (Some symbol) ≡ None → symbol_of rules symbol ≢ None
symbol_defined rules symbol defined none = by (name_without_rule rules) defined
  where
    lacking : symbol_without_rule rules (Some symbol) ≡ Some symbol
    lacking = ap (λ (found : Option ℕ). if is_some found then None else Some symbol) none

    by : (first : Option (List ℕ)) → option_or first (symbol_without_rule rules (Some symbol)) ≡ None → ⊥
    by None h = let some : Some symbol ≡ None = sym lacking ∙ h in absurd (cc)
    by (Some name) h = absurd (cc)

-- the symbol of a class that passes the check has a rule
pub has_rule : (g : Grammar) (symbol : List ℕ) → Checks g (Some symbol) None → (n : ℕ) × (symbol_of g.rules symbol ≡ Some n)
has_rule g symbol passes = by (symbol_of g.rules symbol) refl
  where
    by : (found : Option ℕ) → symbol_of g.rules symbol ≡ found → (n : ℕ) × (symbol_of g.rules symbol ≡ Some n)
    by None none = absurd (symbol_defined g.rules symbol passes.1 none)
    by (Some n) found = (n, found)

-- what a line can tell isn't want of memory
pub told_not_memory : (refused : Refused) → CheckIsTold refused → refused ≢ check.Memory
told_not_memory (check.Undefined name) told = λ e. cc
told_not_memory (check.CycleUnlabelled name) told = λ e. cc
told_not_memory (check.Unproductive name) told = λ e. cc
told_not_memory (check.NullElement name) told = λ e. cc
told_not_memory (check.Endless name n) told = λ e. cc
told_not_memory check.Memory told = absurd told
