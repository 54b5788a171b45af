-- What contracts see of a shelf in memory that fails at chosen calls.
use Rattle.std.specs.Prelude.{ℕ, ◌<◌, ◌≤◌, ◌-◌, Bool, ◌||◌, List, [], Option, None, Some, is_none, IfSome, length, drop, slice_get, bytes_eq}
use Rattle.std.specs.Map.{lookup}
use Rattle.comb_io.specs.Files.{Files}
use Rattle.comb_io.specs.Memory.{Calls, is_failing}

-- names with the bytes of their files, the newest first; the bytes left of the file in hand; the calls of both kinds
pub record InMemoryShelf : Type 0 where
  pub files : List (List ℕ × List ℕ)
  pub left : List ℕ
  pub calls : Calls

-- the newest bytes of a name
abbrev pub newest : List (List ℕ × List ℕ) → Files
newest files = λ name. lookup (bytes_eq name) files

-- a fetch of this name fails: its number is one of those, or the name has no file
abbrev pub fetch_fails : InMemoryShelf → List ℕ → Bool
fetch_fails shelf name = is_failing shelf.calls || is_none (newest shelf.files name)

-- the bytes of the file at this place
abbrev pub bytes_at : List (List ℕ × List ℕ) → Option ℕ → List ℕ
bytes_at files None = []
bytes_at files (Some place) = bytes_of (slice_get files place)
  where
    bytes_of : Option (List ℕ × List ℕ) → List ℕ
    bytes_of None = []
    bytes_of (Some file) = file.1

-- so many bytes from the end of the file at this place
abbrev pub last_at : List (List ℕ × List ℕ) → Option ℕ → ℕ → List ℕ
last_at files place unread = drop (length (bytes_at files place) - unread) (bytes_at files place)

-- the file at this place, where there is one, is in the list and has so many bytes at least
pub record IsInHand (files : List (List ℕ × List ℕ)) (place : Option ℕ) (unread : ℕ) : Type 0 where
  pub listed : IfSome place (λ p. p < length files)
  pub within : unread ≤ length (bytes_at files place)
