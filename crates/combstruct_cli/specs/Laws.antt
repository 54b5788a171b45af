-- Laws of the answers.
use Rattle.std.specs.Prelude.{◌≡◌, ℕ, List}
use Rattle.combstruct_cli.specs.Answer.{Answer, IsAnswer}

-- to these words and each script there is an answer
abbrev pub SomeAnswer : List (List ℕ) → Type 0
SomeAnswer words = (script : List ℕ) → (answer : Answer) × IsAnswer words script answer

-- and no other
abbrev pub OneAnswer : List (List ℕ) → Type 0
OneAnswer words = (script : List ℕ) (one other : Answer) → IsAnswer words script one → IsAnswer words script other → one ≡ other
