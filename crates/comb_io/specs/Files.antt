-- The files of a shelf, by name.
use Rattle.std.specs.Prelude.{◌≡◌, ℕ, List, ⊤, Option, None, Some, IsSome, if◌then◌else◌, bytes_eq}

-- from a name to the bytes of its file, and to nothing where there is none
abbrev pub Files : Type 0
Files = List ℕ → Option (List ℕ)

-- where the files are told: the name has a file, and its bytes are what is left
abbrev pub IsFetched : Option Files → List ℕ → Option (List ℕ) → Type 0
IsFetched None name left = ⊤
IsFetched (Some files) name left = IsSome (files name) × (left ≡ files name)

-- the files after these bytes were put under a name
abbrev pub put_file : Files → List ℕ → List ℕ → Files
put_file files name bytes = λ other. if bytes_eq other name then Some bytes else files other
