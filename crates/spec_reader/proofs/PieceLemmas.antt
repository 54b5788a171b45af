-- The pieces of a script, one after another.
use Rattle.std.specs.Option.{option_map_or}
use Rattle.std.proofs.Common.{◌≡◌, ℕ, zero, suc, ◌+◌, ◌-◌, ◌<◌, ◌≤◌, Bool, true, false, cond, Option, Some, None, List, [], ◌∷◌, length, length-drop, take, drop, slice_range, refl, sym, ap, ◌∙◌, subst, arith}
use Rattle.std.proofs.lemmas.List.{drop-drop, drop_all}
use Rattle.spec_reader.specs.declared.cut.Region.{Region}
use Rattle.spec_reader.specs.declared.cut.Region.TheVariants.{Open}
use Rattle.spec_reader.specs.Cutting.{begins_piece, is_end, piece_len, gap_len, region_after, piece_at, first_piece_of, pieces_from, pieces_behind, pieces, moved, IsPieceBehind, FollowEachOther}
use Rattle.spec_reader.specs.Laws.{PiecesGoOn, PiecesFollow}
use Rattle.spec_reader.proofs.CutLemmas.{begins_piece-at, piece_len-some}

end-within : (ends : Bool) (n m : ℕ) → n ≤ m → cond ends 1 (suc n) ≤ suc m
end-within true n m within = omega arith
end-within false n m within = omega (arith, within)

piece_len-within : (region : Region) (bs : List ℕ) → piece_len region bs ≤ length bs
piece_len-within region [] = omega arith
piece_len-within region (b ∷ bs) =
    end-within (is_end region b bs) (piece_len (region_after region b) bs) (length bs) (piece_len-within (region_after region b) bs)

first-at : (script rest : List ℕ) (piece : ℕ × ℕ) → drop (gap_len Open script) script ≡ rest → piece_at (gap_len Open script) rest ≡ Some piece → IsPieceBehind script 0 piece
first-at script [] piece same found = cc
first-at script (b ∷ bs) piece same found =
    let start = gap_len Open script in
    let len = piece_len Open (b ∷ bs) in
    let is_so : (start, start + len) ≡ piece = cc in
    let left : suc (length bs) ≡ length script - start = ap length (sym same) ∙ length-drop start script in
    let some : 0 < len = piece_len-some (b ∷ bs) (omega arith) in
    let short : len ≤ suc (length bs) = piece_len-within Open (b ∷ bs) in
    subst (λ (p : ℕ × ℕ). IsPieceBehind script 0 p) is_so (record {
      behind = omega arith;
      some = omega (arith, some);
      within = omega (arith, short, left);
      begins = begins_piece-at script start len refl (omega (arith, left)) some;
    })

-- the first piece of a script is one
pub first-piece : (script : List ℕ) (piece : ℕ × ℕ) → first_piece_of script ≡ Some piece → IsPieceBehind script 0 piece
first-piece script piece found = first-at script (drop (gap_len Open script) script) piece refl found

-- the first piece of what follows a place stands behind it
pub piece-behind : (script : List ℕ) (at : ℕ) (piece : ℕ × ℕ) → first_piece_of (drop at script) ≡ Some piece → IsPieceBehind script at (at + piece.0, at + piece.1)
piece-behind script at piece found =
    let first = first-piece (drop at script) piece found in
    let left = length-drop at script in
    let len : (at + piece.1) - (at + piece.0) ≡ piece.1 - piece.0 = omega arith in
    let same : slice_range (drop at script) piece.0 piece.1 ≡ slice_range script (at + piece.0) (at + piece.1) =
    ap (take (piece.1 - piece.0)) (drop-drop piece.0 at script) ∙ ap (λ n. take n (drop (at + piece.0) script)) (sym len) in
    record {
      behind = omega arith;
      some = omega (arith, first.some);
      within = omega (arith, first.some, first.within, left);
      begins = subst (λ bs. begins_piece bs ≡ true) same first.begins;
    }

none-left : (script : List ℕ) (at : ℕ) → length script ≤ at → first_piece_of (drop at script) ≡ None
none-left script at all = ap first_piece_of (drop_all at script all)

-- what the pieces from a place on are, by the first one
abbrev with_next : ℕ → (ℕ → List (ℕ × ℕ)) → Option (ℕ × ℕ) → List (ℕ × ℕ)
with_next at others found = option_map_or (λ piece. (at + piece.0, at + piece.1) ∷ others (at + piece.1)) found []

next-same : (at : ℕ) (others more : ℕ → List (ℕ × ℕ)) (found : Option (ℕ × ℕ)) → ((piece : ℕ × ℕ) → found ≡ Some piece → others (at + piece.1) ≡ more (at + piece.1))
    → with_next at others found ≡ with_next at more found
next-same at others more None same = refl
next-same at others more (Some piece) same = ap (λ rest. (at + piece.0, at + piece.1) ∷ rest) (same piece refl)

-- no more pieces can be wanted than bytes are left
enough : (n m : ℕ) (script : List ℕ) (at : ℕ) → length script ≤ at + n → length script ≤ at + m → pieces_from n script at ≡ pieces_from m script at
enough zero zero script at all also = refl
enough zero (suc m) script at all also = sym (ap (with_next at (pieces_from m script)) (none-left script at (omega (arith, all))))
enough (suc n) zero script at all also = ap (with_next at (pieces_from n script)) (none-left script at (omega (arith, also)))
enough (suc n) (suc m) script at all also = next-same at (pieces_from n script) (pieces_from m script) (first_piece_of (drop at script)) (λ piece is.
    let some = (first-piece (drop at script) piece is).some in
    enough n m script (at + piece.1) (omega (arith, some, all)) (omega (arith, some, also)))

-- the pieces behind a place are the first one there and those behind it
pub pieces-next : (script : List ℕ) (at : ℕ)
    → pieces_behind script at ≡ option_map_or (λ piece. (at + piece.0, at + piece.1) ∷ pieces_behind script (at + piece.1)) (first_piece_of (drop at script)) []
pieces-next script at = enough (length script) (suc (length script)) script at (omega arith) (omega arith)

-- where none follows, there are no further pieces
pub pieces-none : (script : List ℕ) (at : ℕ) → first_piece_of (drop at script) ≡ None → pieces_behind script at ≡ []
pieces-none script at none = pieces-next script at ∙ ap (with_next at (pieces_behind script)) none

-- where one follows, it is the next piece
pub pieces-some : (script : List ℕ) (at : ℕ) (piece : ℕ × ℕ) → first_piece_of (drop at script) ≡ Some piece
    → pieces_behind script at ≡ (at + piece.0, at + piece.1) ∷ pieces_behind script (at + piece.1)
pieces-some script at piece some = pieces-next script at ∙ ap (with_next at (pieces_behind script)) some

next-moved : (by at there : ℕ) (others more : ℕ → List (ℕ × ℕ)) (found : Option (ℕ × ℕ)) → there ≡ by + at
    → ((end last : ℕ) → last ≡ by + end → others last ≡ moved by (more end)) → with_next there others found ≡ moved by (with_next at more found)
next-moved by at there others more None is rest = refl
next-moved by at there others more (Some piece) is rest =
    let first : there + piece.0 ≡ by + (at + piece.0) = omega (arith, is) in
    let last : there + piece.1 ≡ by + (at + piece.1) = omega (arith, is) in
    (λ k. (first k, last k) ∷ rest (at + piece.1) (there + piece.1) last k)

shift : (n : ℕ) (script : List ℕ) (by at there : ℕ) → there ≡ by + at → pieces_from n script there ≡ moved by (pieces_from n (drop by script) at)
shift zero script by at there is = refl
shift (suc n) script by at there is =
    let same : drop there script ≡ drop at (drop by script) = ap (λ i. drop i script) is ∙ sym (drop-drop at by script) in
    ap (λ bs. with_next there (pieces_from n script) (first_piece_of bs)) same
    ∙ next-moved by at there (pieces_from n script) (pieces_from n (drop by script)) (first_piece_of (drop at (drop by script))) is
    (λ end last same-end. shift n script by end last same-end)

-- the pieces behind a place are those of what follows it, moved by the place
pub pieces-moved : (script : List ℕ) (at : ℕ) → pieces_behind script at ≡ moved at (pieces (drop at script))
pieces-moved script at =
    shift (length script) script at 0 at (omega arith)
    ∙ ap (moved at) (enough (length script) (length (drop at script)) (drop at script) 0 (omega (arith, length-drop at script)) (omega arith))

go-on : (script : List ℕ) (found : Option (ℕ × ℕ)) → with_next 0 (pieces_behind script) found ≡ option_map_or (λ piece. piece ∷ moved piece.1 (pieces (drop piece.1 script))) found []
go-on script None = refl
go-on script (Some piece) =
    let first : 0 + piece.0 ≡ piece.0 = omega arith in
    let last : 0 + piece.1 ≡ piece.1 = omega arith in
    (λ k. (first k, last k) ∷ (ap (pieces_behind script) last ∙ pieces-moved script piece.1) k)

pub pieces-go-on : PiecesGoOn
pieces-go-on script = pieces-next script 0 ∙ go-on script (first_piece_of script)

next-follows : (script : List ℕ) (at : ℕ) (others : ℕ → List (ℕ × ℕ)) (found : Option (ℕ × ℕ)) → first_piece_of (drop at script) ≡ found
    → ((end : ℕ) → FollowEachOther script end (others end)) → FollowEachOther script at (with_next at others found)
next-follows script at others None is rest = tt
next-follows script at others (Some piece) is rest = (piece-behind script at piece is, rest (at + piece.1))

follow : (n : ℕ) (script : List ℕ) (at : ℕ) → FollowEachOther script at (pieces_from n script at)
follow zero script at = tt
follow (suc n) script at = next-follows script at (pieces_from n script) (first_piece_of (drop at script)) refl (λ end. follow n script end)

-- each piece behind a place stands behind the one before it
pub pieces-follow-behind : (script : List ℕ) (at : ℕ) → FollowEachOther script at (pieces_behind script at)
pieces-follow-behind script at = follow (length script) script at

pub pieces-follow : PiecesFollow
pieces-follow script = pieces-follow-behind script 0
