-- Laws of what a piece reads as.
use Rattle.std.proofs.Common.{◌≡◌, ◌≢◌, ℕ, List, Result, Ok, Err, refl, ap}
use Rattle.std.specs.Prelude.{OnOk}
use Rattle.spec_syntax.specs.declared.statement.Statement.{Statement}
use Rattle.spec_reader.specs.declared.place.Place.{Place}
use Rattle.spec_reader.specs.declared.refusal.ReadRefused.{ReadRefused}
use Rattle.spec_reader.specs.declared.refusal.ReadRefused.TheVariants as read
use Rattle.spec_reader.specs.Reading.{Answers, IsFault, IsRefused}
use Rattle.spec_reader.proofs.Pieces.{one-reading, one-fault, never-both}

-- a piece has one answer
pub answers_same : (start : Place) (piece : List ℕ) (one other : Result Statement ReadRefused) → Answers start piece one → Answers start piece other → one ≡ other
answers_same start piece (Ok read) (Ok other) p q = ap Ok (one-reading piece read other p q)
answers_same start piece (Ok read) (Err why) p q = absurd (never-both start piece read why p q)
answers_same start piece (Err why) (Ok read) p q = absurd (never-both start piece read why q p)
answers_same start piece (Err why) (Err other) p q = ap Err (one-fault start piece why other p q)

-- where a piece isn't read and memory isn't wanting, the piece has that fault
pub fault_of_reading : (start : Place) (piece : List ℕ) (why : ReadRefused) → IsRefused start piece why → why ≢ read.Memory → IsFault start piece why
fault_of_reading start piece (read.Syntax line column) refused other = refused
fault_of_reading start piece (read.DuplicateRule name) refused other = refused
fault_of_reading start piece (read.Limit limit) refused other = refused
fault_of_reading start piece read.NotText refused other = refused
fault_of_reading start piece read.Memory refused other = absurd (other refl)

-- memory is wanting, or not
pub memory_or_not : (why : ReadRefused) (P : Type 0) → (why ≡ read.Memory → P) → (why ≢ read.Memory → P) → P
memory_or_not (read.Syntax line column) P memory told = told (λ e. cc)
memory_or_not (read.DuplicateRule name) P memory told = told (λ e. cc)
memory_or_not (read.Limit limit) P memory told = told (λ e. cc)
memory_or_not read.NotText P memory told = told (λ e. cc)
memory_or_not read.Memory P memory told = memory refl

-- what follows from what holds of a call that succeeded
pub where_ok : {A E : Type 0} (result : Result A E) {P Q : Type 0} → (P → Q) → OnOk result P → OnOk result Q
where_ok (Ok value) f holds = f holds
where_ok (Err fault) f holds = holds
