-- Bounds on the number of components, as they decide what an equation looks like, and which grammars have equations.
use Rattle.std.specs.Prelude.{◌≡◌, ◌≤◌, ℕ, length, Bool, true, false, not, nat_eq, Option, None, Some, if◌then◌else◌}
use Rattle.std.specs.List.{list_all, position_from}
use Rattle.spec_syntax.specs.declared.expr.Kind.TheVariants as kind
use Rattle.spec_syntax.specs.declared.expr.Card.{Card}
use Rattle.spec_syntax.specs.declared.statement.Universe.{Universe}
use Rattle.spec_syntax.specs.declared.statement.Universe.TheVariants.{Labelled, Unlabelled}
use Rattle.spec_syntax.specs.Expression.{Expression, Epsilon, Atom, Name, Union, Prod, Many, preorder}
use Rattle.spec_syntax.specs.Rules.{Rules}
use Rattle.spec_syntax.specs.Grammar.{Grammar}
use Rattle.gf_equations.specs.declared.bound.Bound.{Bound}
use Rattle.gf_equations.specs.declared.bound.Bound.TheVariants.{Any, Exactly, AtMost, AtLeast}
use Rattle.gf_equations.specs.declared.fault.GfFault.{GfFault}
use Rattle.gf_equations.specs.declared.fault.GfFault.TheVariants.{CardUnlabelled, Memory}

abbrev bound_of : ℕ → Option ℕ → Bound
bound_of low None = if nat_eq low 0 then Any else AtLeast low
bound_of low (Some high) = if nat_eq low high then Exactly high else AtMost high

-- how the bound is written; a list of any length keeps `card >= 0`, which is no bound
abbrev pub bound : Card → Bound
bound card = bound_of card.low card.high

abbrev pub is_any : Bound → Bool
is_any Any = true
is_any (Exactly k) = false
is_any (AtMost k) = false
is_any (AtLeast k) = false

-- is the expression no Set and no PowerSet with a bound
abbrev pub is_no_bounded_set : Expression → Bool
is_no_bounded_set Epsilon = true
is_no_bounded_set Atom = true
is_no_bounded_set (Name name) = true
is_no_bounded_set (Union arguments) = true
is_no_bounded_set (Prod arguments) = true
is_no_bounded_set (Many kind.Sequence element card) = true
is_no_bounded_set (Many kind.Set element card) = is_any (bound card)
is_no_bounded_set (Many kind.PowerSet element card) = is_any (bound card)
is_no_bounded_set (Many kind.Cycle element card) = true

-- does no Set and no PowerSet with a bound stand in the expression
abbrev pub is_without_bounded_set : Expression → Bool
is_without_bounded_set e = list_all is_no_bounded_set (preorder e)

-- the number of the first rule in which one stands
abbrev pub first_bounded_set : Rules → Option ℕ
first_bounded_set rules = position_from (λ rule. not (is_without_bounded_set rule.1)) 1 rules

-- the number of the rule for which the grammar has no equations: in an unlabelled one the first with a Set or a PowerSet that
-- has a bound; a labelled one has equations always
abbrev pub unlabelled_bound : Universe → Rules → Option ℕ
unlabelled_bound Labelled rules = None
unlabelled_bound Unlabelled rules = first_bounded_set rules

abbrev pub rule_without_equation : Grammar → Option ℕ
rule_without_equation g = unlabelled_bound g.universe g.rules

-- why no equations are given, where this is the rule for which there are none
abbrev pub Blames : Option ℕ → GfFault → Type 0
Blames rule (CardUnlabelled x) = rule ≡ Some x
Blames rule Memory = Unit {0}

-- the number that is told is that of a rule
abbrev pub TellsRule : Rules → GfFault → Type 0
TellsRule rules (CardUnlabelled x) = (1 ≤ x) × (x ≤ length rules)
TellsRule rules Memory = Unit {0}
