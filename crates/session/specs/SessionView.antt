-- What contracts see of a session.
use Rattle.std.specs.Prelude.{Bool}
use Rattle.struct_text.specs.declared.form.TextForm.{TextForm}
use Rattle.session.specs.Effect.{State}

-- the form of its texts, what it keeps from one statement to the next, and whether it is live: no statement ended with a fault
pub record Standing : Type 0 where
  pub texts : TextForm
  pub state : State
  pub is_live : Bool
