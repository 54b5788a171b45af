-- Laws of the effects of statements.
use Rattle.std.specs.Prelude.{◌≡◌, ℕ}
use Rattle.spec_syntax.specs.declared.statement.Statement.{Statement}
use Rattle.spec_reader.specs.Laws.{FormIsInForce, FormKeeps}
use Rattle.struct_text.specs.declared.form.TextForm.{TextForm}
use Rattle.session.specs.Effect.{State, Effect, StatementDoes}

-- each statement that is in force has an effect, with texts in either form
abbrev pub SomeEffect : Type 0
SomeEffect = (statement : Statement) (line : ℕ) (texts : TextForm) (state : State) → FormIsInForce statement.form → FormKeeps statement.form
    → (whole : Effect) × StatementDoes statement line texts state whole

-- and no other
abbrev pub OneEffect : Type 0
OneEffect = (statement : Statement) (line : ℕ) (texts : TextForm) (state : State) (one other : Effect) → FormIsInForce statement.form → FormKeeps statement.form
    → StatementDoes statement line texts state one → StatementDoes statement line texts state other → one ≡ other
