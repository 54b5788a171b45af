-- Lemmas on the newest file of a name.
use Rattle.std.proofs.Common.{◌≡◌, ℕ, ◌+◌, ◌<◌, ◌≤◌, nat_lt, Bool, true, false, cond, not, List, [], ◌∷◌, Option, None, Some, is_none, OnSome, length, position, bytes_eq, suc, refl, sym, ap, ◌∙◌, arith}
use Rattle.std.specs.List.{position_or_len}
use Rattle.comb_io.specs.Shelves.{bytes_at, newest}

-- where the newest file of the name stands, or the length
abbrev pub place : List ℕ → List (List ℕ × List ℕ) → ℕ
place name files = position_or_len (λ file. bytes_eq name file.0) files

pub newest-found : (name : List ℕ) (files : List (List ℕ × List ℕ)) → place name files < length files
    → newest files name ≡ Some (bytes_at files (Some (place name files)))
newest-found name [] within = absurd (omega arith)
newest-found name (file ∷ files) within = by (bytes_eq name file.0) (newest-found name files) within
  where
    by : (b : Bool) → (place name files < length files → newest files name ≡ Some (bytes_at files (Some (place name files))))
        → cond (not b) (1 + place name files) 0 < length (file ∷ files)
        → cond b (Some file.1) (newest files name) ≡ Some (bytes_at (file ∷ files) (Some (cond (not b) (1 + place name files) 0)))
    by true more below = refl
    by false more below =
        let next : suc (place name files) ≡ 1 + place name files = omega arith in
        more (omega arith) ∙ ap (λ p. Some (bytes_at (file ∷ files) (Some p))) next

pub newest-missing : (name : List ℕ) (files : List (List ℕ × List ℕ)) → length files ≤ place name files → newest files name ≡ None
newest-missing name [] past = refl
newest-missing name (file ∷ files) past = by (bytes_eq name file.0) (newest-missing name files) past
  where
    by : (b : Bool) → (length files ≤ place name files → newest files name ≡ None) → length (file ∷ files) ≤ cond (not b) (1 + place name files) 0
        → cond b (Some file.1) (newest files name) ≡ None
    by true more beyond = absurd (omega arith)
    by false more beyond = more (omega arith)

-- what is found at the first place of the name is its newest file
pub newest-position : (name : List ℕ) (files : List (List ℕ × List ℕ)) (found : Option ℕ) → found ≡ position (λ file. bytes_eq name file.0) files
    → (is_none found ≡ is_none (newest files name)) × OnSome found (newest files name ≡ Some (bytes_at files found))
newest-position name files found e = rw e (by (nat_lt (place name files) (length files)) refl)
  where
    by : (b : Bool) → nat_lt (place name files) (length files) ≡ b
        → (is_none (cond b (Some (place name files)) None) ≡ is_none (newest files name))
        × OnSome (cond b (Some (place name files)) None) (newest files name ≡ Some (bytes_at files (cond b (Some (place name files)) None)))
    by true within = let found_there = newest-found name files (grind (arith, within)) in (sym (ap is_none found_there), found_there)
    by false past = (sym (ap is_none (newest-missing name files (grind (arith, past)))), tt)
