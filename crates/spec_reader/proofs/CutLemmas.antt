-- Laws of cutting a script.
use Rattle.std.proofs.Common.{◌≡◌, ℕ, zero, suc, ◌+◌, ◌-◌, ◌<◌, Bool, true, false, not, cond, List, [], ◌∷◌, length, length-drop, take, drop, slice_range, refl, ap, ◌∙◌, arith}
use Rattle.std.proofs.lemmas.Bool.Decides.{nat_tests}
use Rattle.spec_reader.specs.declared.cut.Region.TheVariants.{Open, Comment}
use Rattle.spec_reader.specs.Cutting.{begins_piece, is_end, piece_len, gap_len, region_after, is_skipped}

mutual
  -- what follows a gap begins with no byte of a gap
  pub gap-ends : (bs : List ℕ) → gap_len Open (drop (gap_len Open bs) bs) ≡ 0
  gap-ends [] = refl
  gap-ends (b ∷ bs) = grind (arith, nat_tests, gap-ends bs, comment-ends bs)

  comment-ends : (bs : List ℕ) → gap_len Open (drop (gap_len Comment bs) bs) ≡ 0
  comment-ends [] = refl
  comment-ends (b ∷ bs) = grind (arith, nat_tests, gap-ends bs, comment-ends bs)

pub no-gap : (skipped : Bool) (b : ℕ) (bs : List ℕ) → is_skipped Open b ≡ skipped → gap_len Open (b ∷ bs) ≡ 0 → is_skipped Open b ≡ false
no-gap true b bs e none = absurd (let h : suc (gap_len (region_after Open b) bs) ≡ 0 = rw e at none in omega arith)
no-gap false b bs e none = e

begins-front : (len : ℕ) (bs : List ℕ) → gap_len Open bs ≡ 0 → 0 < length bs → 0 < len → begins_piece (take len bs) ≡ true
begins-front zero bs none some more = absurd (omega arith)
begins-front (suc len) [] none some more = absurd (omega arith)
begins-front (suc len) (b ∷ bs) none some more = ap not (no-gap (is_skipped Open b) b bs refl none)

-- a piece begins behind the gap
pub begins_piece-at : (script : List ℕ) (start len : ℕ) → start ≡ gap_len Open script → start < length script → 0 < len → begins_piece (slice_range script start (start + len)) ≡ true
begins_piece-at script start len is some more =
    let none : gap_len Open (drop start script) ≡ 0 = ap (λ n. gap_len Open (drop n script)) is ∙ gap-ends script in
    let same : start + len - start ≡ len = omega arith in
    ap (λ n. begins_piece (take n (drop start script))) same ∙ begins-front len (drop start script) none (omega (arith, length-drop start script)) more

end-some : (ends : Bool) (n : ℕ) → 0 < cond ends 1 (suc n)
end-some true n = omega arith
end-some false n = omega arith

-- a piece that has begun has a byte
pub piece_len-some : (bs : List ℕ) → 0 < length bs → 0 < piece_len Open bs
piece_len-some [] some = absurd (omega arith)
piece_len-some (b ∷ bs) some = end-some (is_end Open b bs) (piece_len (region_after Open b) bs)
