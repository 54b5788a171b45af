-- Laws of the pieces of a script that are run one after another.
use Rattle.std.proofs.Common.{◌≡◌, ℕ, ◌+◌, ◌-◌, ◌<◌, ◌≤◌, Bool, true, false, List, [], ◌∷◌, ◌||◌, length, length-take, take, drop, slice_range, Some, None, refl, sym, ap, ◌∙◌, arith}
use Rattle.std.proofs.lemmas.Bool.Decides.{nat_tests}
use Rattle.std.proofs.lemmas.List.{append_assoc}
use Rattle.std.specs.List.{filter}
use Rattle.spec_reader.specs.declared.place.Place.{Place}
use Rattle.spec_reader.specs.Cutting.{first_piece_of, pieces_behind, FollowEachOther}
use Rattle.spec_reader.specs.Places.{place_after, place_behind}
use Rattle.spec_reader.proofs.PieceLemmas.{pieces-none, pieces-some, pieces-follow-behind}
use Rattle.spec_reader.proofs.PlaceLemmas.{place_behind-further}
use Rattle.combstruct_cli.specs.Answer.{Part, followed_by, is_early, most_bytes, first_place, place_in}
use Rattle.combstruct_cli.specs.Steps.{early_behind}

-- ---- pieces that end early enough

-- where no piece follows, none does
pub none_left : (script : List ℕ) (at : ℕ) → first_piece_of (drop at script) ≡ None → early_behind script at ≡ []
none_left script at none = ap (filter is_early) (pieces-none script at none)

-- behind the most bytes no piece ends early enough
none_early : (script : List ℕ) (at : ℕ) (ps : List (ℕ × ℕ)) → most_bytes < at → FollowEachOther script at ps → filter is_early ps ≡ []
none_early script at [] late follow = refl
none_early script at (piece ∷ ps) late follow =
    let behind = follow.0 in
    let further : most_bytes < piece.1 = omega (arith, late, behind.behind, behind.some) in
    let rest = none_early script piece.1 ps further follow.1 in
    grind (arith, nat_tests, further, rest)

-- where the first piece ends too late, none is early enough
pub late_left : (script : List ℕ) (at start end : ℕ) → first_piece_of (drop at script) ≡ Some (start, end) → most_bytes < at + end → early_behind script at ≡ []
late_left script at start end first late = ap (filter is_early) (pieces-some script at (start, end) first) ∙ dropped
  where
    dropped : filter is_early ((at + start, at + end) ∷ pieces_behind script (at + end)) ≡ []
    dropped = let rest = none_early script (at + end) (pieces_behind script (at + end)) late (pieces-follow-behind script (at + end)) in grind (arith, nat_tests, late, rest)

-- otherwise it is the first of them
pub early_left : (script : List ℕ) (at start end : ℕ) → first_piece_of (drop at script) ≡ Some (start, end) → at + end ≤ most_bytes
    → early_behind script at ≡ (at + start, at + end) ∷ early_behind script (at + end)
early_left script at start end first early = ap (filter is_early) (pieces-some script at (start, end) first) ∙ kept
  where
    kept : filter is_early ((at + start, at + end) ∷ pieces_behind script (at + end)) ≡ (at + start, at + end) ∷ early_behind script (at + end)
    kept = grind (arith, nat_tests, early)

-- ---- places

-- behind the bytes from a place on is the place where they end
pub place_later : (script : List ℕ) (at to : ℕ) (place : Place) → at ≤ to → place ≡ place_in script at → place_behind place (slice_range script at to) ≡ place_in script to
place_later script at to place order is =
    ap (λ (p : Place). place_behind p (slice_range script at to)) is ∙ sym (place_behind-further first_place script at (to - at))
    ∙ ap (λ (n : ℕ). place_behind first_place (take n script)) (whole at to order)
  where
    whole : (n m : ℕ) → n ≤ m → n + (m - n) ≡ m
    whole n m h = omega (arith, h)

-- a line or a column more for each byte at most
record IsNear (place later : Place) (bytes : ℕ) : Type 0 where
  line_low : place.line ≤ later.line
  line_high : later.line ≤ place.line + bytes
  column_low : 1 ≤ later.column
  column_high : later.column ≤ place.column + bytes

near : (place : Place) (bytes : List ℕ) → 1 ≤ place.column → IsNear place (place_behind place bytes) (length bytes)
near place [] low = record { line_low = omega arith; line_high = omega arith; column_low = low; column_high = omega arith }
near place (b ∷ bytes) low = let rest = near (place_after place b) bytes (grind (arith, nat_tests, low)) in record {
  line_low = grind (arith, nat_tests, rest.line_low);
  line_high = grind (arith, nat_tests, rest.line_high);
  column_low = rest.column_low;
  column_high = grind (arith, nat_tests, low, rest.column_high);
}

-- how far lines and columns go
pub record IsPlaced (at : ℕ) (place : Place) : Type 0 where
  pub line_low : 1 ≤ place.line
  pub line_high : place.line ≤ at + 1
  pub column_low : 1 ≤ place.column
  pub column_high : place.column ≤ at + 1

pub placed : (script : List ℕ) (at : ℕ) → IsPlaced at (place_in script at)
placed script at =
    let is = near first_place (take at script) (omega arith) in
    let short : length (take at script) ≤ at = omega (arith, length-take at script) in
    record {
      line_low = is.line_low;
      line_high = omega (arith, is.line_high, short);
      column_low = is.column_low;
      column_high = omega (arith, is.column_high, short);
    }

-- ---- parts one after another

or-assoc : (a b c : Bool) → (a || (b || c)) ≡ ((a || b) || c)
or-assoc true b c = refl
or-assoc false b c = refl

pub followed-assoc : (first second third : Part) → followed_by first (followed_by second third) ≡ followed_by (followed_by first second) third
followed-assoc first second third = λ i. record {
  writes = sym (append_assoc first.writes second.writes third.writes) i;
  is_refused = or-assoc first.is_refused second.is_refused third.is_refused i;
}
