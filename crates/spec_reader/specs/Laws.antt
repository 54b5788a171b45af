-- Laws of pieces and of what they read as.
use Rattle.std.specs.Prelude.{◌≡◌, ◌≤◌, ℕ, IsTrue, Bool, Result, List, [], ◌∷◌, drop}
use Rattle.std.specs.Option.{option_map_or}
use Rattle.spec_syntax.specs.Rules.{Rules, is_spec}
use Rattle.spec_syntax.specs.declared.statement.RulesRef.{RulesRef}
use Rattle.spec_syntax.specs.declared.statement.RulesRef.TheVariants as rules_ref
use Rattle.spec_syntax.specs.declared.statement.ClassRef.{ClassRef}
use Rattle.spec_syntax.specs.declared.statement.ClassRef.TheVariants as class_ref
use Rattle.spec_syntax.specs.declared.statement.Job.{Job}
use Rattle.spec_syntax.specs.declared.statement.Job.TheVariants as job
use Rattle.spec_syntax.specs.declared.statement.Form.{Form}
use Rattle.spec_syntax.specs.declared.statement.Form.TheVariants as form
use Rattle.spec_syntax.specs.declared.statement.Statement.{Statement}
use Rattle.spec_reader.specs.declared.place.Place.{Place}
use Rattle.spec_reader.specs.declared.refusal.ReadRefused.{ReadRefused}
use Rattle.spec_reader.specs.Cutting.{first_piece_of, pieces, moved, FollowEachOther}
use Rattle.spec_reader.specs.Reading.{ReadsAs, IsFault, Answers}

-- the pieces of a script are its first piece and, further on by its end, those of what follows it
abbrev pub PiecesGoOn : Type 0
PiecesGoOn =
    (script : List ℕ)
    → pieces script ≡ option_map_or (λ piece. piece ∷ moved piece.1 (pieces (drop piece.1 script))) (first_piece_of script) []

-- each piece of a script stands behind the one before it
abbrev pub PiecesFollow : Type 0
PiecesFollow = (script : List ℕ) → FollowEachOther script 0 (pieces script)

-- a piece reads as at most one statement
abbrev pub OneReading : Type 0
OneReading = (piece : List ℕ) (read other : Statement) → ReadsAs piece read → ReadsAs piece other → read ≡ other

-- a piece has at most one fault
abbrev pub OneFault : Type 0
OneFault = (start : Place) (piece : List ℕ) (why other : ReadRefused) → IsFault start piece why → IsFault start piece other → why ≡ other

-- a piece has a statement or a fault
abbrev pub SomeAnswer : Type 0
SomeAnswer = (start : Place) (piece : List ℕ) → (answer : Result Statement ReadRefused) × Answers start piece answer

-- a piece has not both a statement and a fault
abbrev pub NeverBoth : Type 0
NeverBoth = (start : Place) (piece : List ℕ) (read : Statement) (why : ReadRefused) → ReadsAs piece read → IsFault start piece why → ⊥

abbrev pub RulesAreInForce : RulesRef → Type 0
RulesAreInForce (rules_ref.Written rules) = Unit {0}
RulesAreInForce (rules_ref.Bound name) = ⊥

abbrev pub ClassIsInForce : ClassRef → Type 0
ClassIsInForce (class_ref.Written symbol rules universe) = RulesAreInForce rules
ClassIsInForce (class_ref.Bound name) = ⊥

abbrev pub JobIsInForce : Job → Type 0
JobIsInForce (job.Grammar class size) = ClassIsInForce class
JobIsInForce (job.Ready family over size) = ⊥

-- is the form in force: to ask for nothing, or for the number of structures or all structures of a class that is written out
-- with its rules
abbrev pub FormIsInForce : Form → Type 0
FormIsInForce form.Empty = Unit {0}
FormIsInForce (form.Rules name rules) = ⊥
FormIsInForce (form.Class name class) = ⊥
FormIsInForce (form.Iterate name work cursor) = ⊥
FormIsInForce (form.Count work) = JobIsInForce work
FormIsInForce (form.List work) = JobIsInForce work
FormIsInForce (form.Draw work) = ⊥
FormIsInForce (form.Next name) = ⊥
FormIsInForce (form.Finished name) = ⊥
FormIsInForce (form.Cursor name) = ⊥
FormIsInForce (form.Rest name) = ⊥
FormIsInForce (form.Equations rules universe variable) = ⊥

-- each statement that a piece reads as is in force
abbrev pub ReadingsAreInForce : Type 0
ReadingsAreInForce = (piece : List ℕ) (read : Statement) → ReadsAs piece read → FormIsInForce read.form

-- do the rules pass the test, where they are written out
abbrev pub RulesPass : (Rules → Bool) → RulesRef → Type 0
RulesPass test (rules_ref.Written rules) = IsTrue (test rules)
RulesPass test (rules_ref.Bound name) = Unit {0}

abbrev pub ClassPasses : (Rules → Bool) → ClassRef → Type 0
ClassPasses test (class_ref.Written symbol rules universe) = RulesPass test rules
ClassPasses test (class_ref.Bound name) = Unit {0}

abbrev pub JobPasses : (Rules → Bool) → Job → Type 0
JobPasses test (job.Grammar class size) = ClassPasses test class
JobPasses test (job.Ready family over size) = Unit {0}

-- do the rules that are written in a form pass the test
abbrev pub FormPasses : (Rules → Bool) → Form → Type 0
FormPasses test form.Empty = Unit {0}
FormPasses test (form.Rules name rules) = IsTrue (test rules)
FormPasses test (form.Class name class) = ClassPasses test class
FormPasses test (form.Iterate name work cursor) = JobPasses test work
FormPasses test (form.Count work) = JobPasses test work
FormPasses test (form.List work) = JobPasses test work
FormPasses test (form.Draw work) = JobPasses test work
FormPasses test (form.Next name) = Unit {0}
FormPasses test (form.Finished name) = Unit {0}
FormPasses test (form.Cursor name) = Unit {0}
FormPasses test (form.Rest name) = Unit {0}
FormPasses test (form.Equations rules universe variable) = RulesPass test rules

-- are the rules that are written in a form a specification
abbrev pub FormKeeps : Form → Type 0
FormKeeps = FormPasses is_spec

-- the rules in a statement that is read are a specification
abbrev pub ReadingsKeep : Type 0
ReadingsKeep = (piece : List ℕ) (read : Statement) → ReadsAs piece read → FormKeeps read.form

abbrev pub JobIsSmall : Job → Type 0
JobIsSmall (job.Grammar class size) = size ≤ 1000
JobIsSmall (job.Ready family over size) = Unit {0}

abbrev pub FormIsSmall : Form → Type 0
FormIsSmall form.Empty = Unit {0}
FormIsSmall (form.Rules name rules) = Unit {0}
FormIsSmall (form.Class name class) = Unit {0}
FormIsSmall (form.Iterate name work cursor) = JobIsSmall work
FormIsSmall (form.Count work) = JobIsSmall work
FormIsSmall (form.List work) = JobIsSmall work
FormIsSmall (form.Draw work) = JobIsSmall work
FormIsSmall (form.Next name) = Unit {0}
FormIsSmall (form.Finished name) = Unit {0}
FormIsSmall (form.Cursor name) = Unit {0}
FormIsSmall (form.Rest name) = Unit {0}
FormIsSmall (form.Equations rules universe variable) = Unit {0}

-- the size in a statement that is read is at most 1000
abbrev pub ReadingsAreSmall : Type 0
ReadingsAreSmall = (piece : List ℕ) (read : Statement) → ReadsAs piece read → FormIsSmall read.form
