-- Which grammars have sensible listings, and how the others are refused.
use Rattle.std.specs.Prelude.{◌≡◌, ℕ, Bool, true, false, ◌||◌, List, ◌∷◌, ◌++◌, Option, Some, None}
use Rattle.std.specs.List.{list_all}
use Rattle.spec_syntax.specs.declared.expr.Kind.{Kind}
use Rattle.spec_syntax.specs.declared.expr.Kind.TheVariants as kind
use Rattle.spec_syntax.specs.declared.expr.Card.{Card}
use Rattle.spec_syntax.specs.Expression.{Expression, Epsilon, Atom, Name, Union, Prod, Many, preorder}
use Rattle.spec_syntax.specs.Rules.{Rules}
use Rattle.spec_syntax.specs.Grammar.{Grammar}
use Rattle.struct_model.specs.Structure.{Structure, size}
use Rattle.struct_model.specs.Membership.{is_labelled}
use Rattle.lists.specs.Enumeration.{IsIn}
use Rattle.well_founded.specs.declared.refused.Refused.{Refused}
use Rattle.well_founded.specs.declared.refused.Refused.TheVariants.{Undefined, CycleUnlabelled, Unproductive, NullElement, Endless, Memory}
use Rattle.well_founded.specs.Names.{undefined_name}
use Rattle.well_founded.specs.Sizes.{IsOf, IsProductive, IsLeast}
use Rattle.well_founded.specs.Inside.{IsInside}

abbrev pub is_no_cycle : Expression → Bool
is_no_cycle Epsilon = true
is_no_cycle Atom = true
is_no_cycle (Name name) = true
is_no_cycle (Union arguments) = true
is_no_cycle (Prod arguments) = true
is_no_cycle (Many kind.Sequence element card) = true
is_no_cycle (Many kind.Set element card) = true
is_no_cycle (Many kind.PowerSet element card) = true
is_no_cycle (Many kind.Cycle element card) = false

-- does the rule hold no Cycle, or may it
abbrev pub may_hold_cycles : Grammar → Expression → Bool
may_hold_cycles g right = is_labelled g.universe || list_all is_no_cycle (preorder right)

-- a container in the right side has an element expression with a structure of size 0
pub record HasNullElement (g : Grammar) (right : Expression) : Type 0 where
  pub kind : Kind
  pub element : Expression
  pub card : Card
  pub held : IsIn (Many kind element card) (preorder right)
  pub empty : Structure
  pub is_of : IsOf g element empty
  pub is_empty : size empty ≡ 0

-- a structure of the rule with the name stands strictly inside another one of it of the same size
pub record HoldsItself (g : Grammar) (name : List ℕ) : Type 0 where
  pub outer : Structure
  pub inner : Structure
  pub is_outer : IsOf g (Name name) outer
  pub is_inner : IsOf g (Name name) inner
  pub inside : IsInside inner outer
  pub same_size : size inner ≡ size outer

-- what is said of a rule, its name and its right side
abbrev pub OfRule : Type 1
OfRule = List ℕ → Expression → Type 0

abbrev pub HoldsCycle : Grammar → OfRule
HoldsCycle g name right = may_hold_cycles g right ≡ false

abbrev pub HasNoStructure : Grammar → OfRule
HasNoStructure g name right = IsProductive g (Name name) → ⊥

abbrev pub HoldsNull : Grammar → OfRule
HoldsNull g name right = HasNullElement g right

abbrev pub IsEndless : Grammar → OfRule
IsEndless g name right = HoldsItself g name

-- it is said of none of the rules
abbrev pub OfNone : OfRule → Rules → Type 0
OfNone P rules = (name : List ℕ) (right : Expression) → IsIn (name, right) rules → P name right → ⊥

-- the first of the rules, in written order, of which it is said has this name
pub record IsFirst (P : OfRule) (rules : Rules) (name : List ℕ) : Type 0 where
  pub earlier : Rules
  pub right : Expression
  pub later : Rules
  pub whole : rules ≡ earlier ++ (name, right) ∷ later
  pub none_before : OfNone P earlier
  pub holds : P name right

-- each rule has a structure
abbrev pub IsEachProductive : Grammar → Type 0
IsEachProductive g = (name : List ℕ) (right : Expression) → IsIn (name, right) g.rules → IsProductive g (Name name)

-- names have rules, no Cycle stands in an unlabelled grammar, each rule has a structure, no container is over a class with
-- a structure of size 0, and no structure of a rule stands strictly inside one of the same rule and size
pub record IsWellFounded (g : Grammar) : Type 0 where
  pub named : undefined_name g.rules None ≡ None
  pub no_cycles : OfNone (HoldsCycle g) g.rules
  pub productive : IsEachProductive g
  pub no_null_elements : OfNone (HoldsNull g) g.rules
  pub finite : OfNone (IsEndless g) g.rules

-- the refusal of a grammar and of a class symbol, where there is one: the first fault, with the first rule that has it
abbrev pub IsCulprit : Grammar → Option (List ℕ) → Refused → Type 0
IsCulprit g start (Undefined name) = undefined_name g.rules start ≡ Some name
IsCulprit g start (CycleUnlabelled name) = (undefined_name g.rules start ≡ None) × IsFirst (HoldsCycle g) g.rules name
IsCulprit g start (Unproductive name) =
    (undefined_name g.rules start ≡ None) × OfNone (HoldsCycle g) g.rules × IsFirst (HasNoStructure g) g.rules name
IsCulprit g start (NullElement name) =
    (undefined_name g.rules start ≡ None) × OfNone (HoldsCycle g) g.rules × IsEachProductive g × IsFirst (HoldsNull g) g.rules name
IsCulprit g start (Endless name n) =
    (undefined_name g.rules start ≡ None) × OfNone (HoldsCycle g) g.rules × IsEachProductive g × OfNone (HoldsNull g) g.rules
    × IsFirst (IsEndless g) g.rules name × IsLeast g (Name name) n
IsCulprit g start Memory = ⊥

-- what the check of a grammar and a class symbol says: nothing, where the grammar is well founded and the symbol has a rule, or the refusal
abbrev pub Checks : Grammar → Option (List ℕ) → Option Refused → Type 0
Checks g start None = IsWellFounded g × (undefined_name g.rules start ≡ None)
Checks g start (Some refused) = IsCulprit g start refused
