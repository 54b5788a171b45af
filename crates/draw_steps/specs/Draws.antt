-- What a draw and its steps come to: where bits lead in choices, from some depth on.
use Rattle.std.specs.Prelude.{◌≡◌, ℕ, ◌≤◌, Bool, List, [], ◌++◌, Option, Some, None, Result, Ok, Err}
use Rattle.std.specs.Option.{option_map_or}
use Rattle.spec_syntax.specs.Expression.{Name}
use Rattle.spec_syntax.specs.Rules.{rule_name}
use Rattle.struct_model.specs.Bounded.{number}
use Rattle.struct_model.specs.Structure.{Structure}
use Rattle.well_founded.specs.Checked.{grammar}
use Rattle.size_counts.specs.CountedView.{Counts}
use Rattle.choice_laws.specs.Trees.{Tree}
use Rattle.choice_laws.specs.Bits.{follow, picked}
use Rattle.draw_steps.specs.Choices.{class_choices}
use Rattle.draw_steps.specs.declared.fault.StepFault.{StepFault}
use Rattle.draw_steps.specs.declared.fault.StepFault.TheVariants.{Spent, Memory}

-- following the bits from before comes to this, and leaves the bits after; where memory is wanting nothing is said
abbrev pub Follows : {X : Type 0} → Tree X → List Bool → Result X StepFault → List Bool → Type 0
Follows tree before (Ok x) after = follow tree before ≡ Some (x, after)
Follows tree before (Err Spent) after = (follow tree before ≡ None) × (after ≡ [])
Follows tree before (Err Memory) after = Unit {0}

-- what the bits pick below a bound, in the same way
abbrev pub Picks : ℕ → List Bool → Result ℕ StepFault → List Bool → Type 0
Picks bound before (Ok value) after = picked bound before ≡ Some (value, after)
Picks bound before (Err Spent) after = (picked bound before ≡ None) × (after ≡ [])
Picks bound before (Err Memory) after = Unit {0}

-- the same from some depth of the choices on
pub record Draws {X : Type 0} (tree : ℕ → Tree X) (before : List Bool) (result : Result X StepFault) (after : List Bool) : Type 0 where
  pub depth : ℕ
  pub always : (h : ℕ) → depth ≤ h → Follows (tree h) before result after

-- a list was drawn and put behind the old one
pub record DrawsOnto {X : Type 0} (tree : ℕ → Tree (List X)) (before : List Bool) (old new : List X) (after : List Bool) : Type 0 where
  pub added : List X
  pub put : new ≡ old ++ added
  pub follows : Draws tree before (Ok added) after

-- the same, or why it wasn't
abbrev pub DrawsList : {X U : Type 0} → (ℕ → Tree (List X)) → List Bool → Result U StepFault → List X → List X → List Bool → Type 0
DrawsList tree before (Ok done) old new after = DrawsOnto tree before old new after
DrawsList tree before (Err fault) old new after = Draws tree before (Err fault) after

-- what is answered, seen as something else
abbrev pub told_as : {X Y : Type 0} → (X → Y) → Result X StepFault → Result Y StepFault
told_as f (Ok x) = Ok (f x)
told_as f (Err fault) = Err fault

-- following the bits in the choices of the class's members comes to this, from some depth of the choices on
pub record DrawsMember (counts : Counts) (bits : List Bool) (drawn : Option (Structure × List Bool)) : Type 0 where
  pub depth : ℕ
  pub always : (h : ℕ) → depth ≤ h → follow (class_choices counts h) bits ≡ drawn

-- the number of members of the class at the size
abbrev pub member_number : Counts → ℕ
member_number counts = option_map_or (λ sym. number (grammar counts.checked) (Name (rule_name counts.checked.rules sym)) counts.size) counts.checked.start 0
