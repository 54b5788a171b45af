-- How a script is cut into pieces.
use Rattle.std.specs.Prelude.{IsTrue, ◌≤◌, ◌<◌, ℕ, zero, suc, ◌+◌, Bool, true, false, ◌&&◌, ◌||◌, not, ◌==◌, if◌then◌else◌, List, [], ◌∷◌, length, drop, map, slice_range, Option, Some, None}
use Rattle.std.specs.Option.{option_map_or}
use Rattle.spec_reader.specs.declared.cut.Region.{Region}
use Rattle.spec_reader.specs.declared.cut.Region.TheVariants.{Open, Comment, Quoted}

-- a space, a tab, a carriage return or a line feed
abbrev pub is_blank : ℕ → Bool
is_blank b = b == 32 || b == 9 || b == 13 || b == 10

-- `#` begins a comment, which goes to the next line feed; within a piece, `"` begins a string, which goes to the next `"`
-- or line feed: where the byte after this one stands
abbrev pub region_after : Region → ℕ → Region
region_after Open b = if b == 35 then Comment else (if b == 34 then Quoted else Open)
region_after Comment b = if b == 10 then Open else Comment
region_after Quoted b = if b == 34 || b == 10 then Open else Quoted

-- is the byte a blank, the beginning of a comment or a byte of one
abbrev pub is_skipped : Region → ℕ → Bool
is_skipped Open b = is_blank b || b == 35
is_skipped Comment b = true
is_skipped Quoted b = false

-- the number of bytes of blanks and comments at the front
abbrev pub gap_len : Region → List ℕ → ℕ
gap_len region [] = 0
gap_len region (b ∷ bs) = if is_skipped region b then suc (gap_len (region_after region b) bs) else 0

abbrev pub begins_with : ℕ → List ℕ → Bool
begins_with b [] = false
begins_with b (c ∷ cs) = b == c

-- outside comments and strings a piece ends with `;`, and with a `:` that no `=` follows
abbrev pub is_end : Region → ℕ → List ℕ → Bool
is_end Open b rest = b == 59 || (b == 58 && not (begins_with 61 rest))
is_end Comment b rest = false
is_end Quoted b rest = false

-- the number of bytes of the piece at the front: up to its end, or where there is none all of them
abbrev pub piece_len : Region → List ℕ → ℕ
piece_len region [] = 0
piece_len region (b ∷ bs) = if is_end region b bs then 1 else suc (piece_len (region_after region b) bs)

-- does a piece begin with the first byte
abbrev pub begins_piece : List ℕ → Bool
begins_piece [] = false
begins_piece (b ∷ bs) = not (is_skipped Open b)

abbrev pub piece_at : ℕ → List ℕ → Option (ℕ × ℕ)
piece_at start [] = None
piece_at start (b ∷ bs) = Some (start, start + piece_len Open (b ∷ bs))

-- the first piece of a script, by the place of its first byte and the place after its last
abbrev pub first_piece_of : List ℕ → Option (ℕ × ℕ)
first_piece_of script = piece_at (gap_len Open script) (drop (gap_len Open script) script)

-- the pieces from a place on, of which there are at most so many
abbrev pub pieces_from : ℕ → List ℕ → ℕ → List (ℕ × ℕ)
pieces_from zero script at = []
pieces_from (suc more) script at =
    option_map_or (λ piece. (at + piece.0, at + piece.1) ∷ pieces_from more script (at + piece.1)) (first_piece_of (drop at script)) []

-- the pieces behind a place of a script in order. A script has no more of them than bytes
abbrev pub pieces_behind : List ℕ → ℕ → List (ℕ × ℕ)
pieces_behind script at = pieces_from (length script) script at

-- the pieces of a script in order
abbrev pub pieces : List ℕ → List (ℕ × ℕ)
pieces script = pieces_behind script 0

-- pieces that stand so many bytes further on
abbrev pub moved : ℕ → List (ℕ × ℕ) → List (ℕ × ℕ)
moved by pieces = map (λ piece. (by + piece.0, by + piece.1)) pieces

-- a piece that stands behind a place of a script: it has a byte, and its first one begins a piece
pub record IsPieceBehind (script : List ℕ) (at : ℕ) (piece : ℕ × ℕ) : Type 0 where
  pub behind : at ≤ piece.0
  pub some : piece.0 < piece.1
  pub within : piece.1 ≤ length script
  pub begins : IsTrue (begins_piece (slice_range script piece.0 piece.1))

-- each piece stands behind the one before it, and the first one behind a place
abbrev pub FollowEachOther : List ℕ → ℕ → List (ℕ × ℕ) → Type 0
FollowEachOther script at [] = Unit {0}
FollowEachOther script at (piece ∷ rest) = IsPieceBehind script at piece × FollowEachOther script piece.1 rest
