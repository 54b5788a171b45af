-- Laws of the tokens of a piece.
use Rattle.std.proofs.Common.{◌≡◌, ℕ, zero, suc, ◌+◌, ◌-◌, ◌<◌, ◌≤◌, Bool, true, false, List, [], ◌∷◌, length, length-drop, drop, refl, sym, ap, ◌∙◌, arith, add-zero}
use Rattle.std.proofs.lemmas.List.{drop-drop}
use Rattle.std.proofs.Math.ListN.{drop_of_length-le}
use Rattle.spec_reader.specs.declared.cut.Region.TheVariants.{Open}
use Rattle.spec_reader.specs.Cutting.{gap_len, region_after, is_skipped}
use Rattle.spec_reader.proofs.CutLemmas.{gap-ends, no-gap}
use Rattle.spec_reader.specs.Tokens.{Token, tokens_from, front_of, front_at}

-- the bytes of the token or the gap before are passed over
pub tokens_from-covered : (covered at : ℕ) (bs : List ℕ) → tokens_from covered at bs ≡ tokens_from 0 (at + covered) (drop covered bs)
tokens_from-covered zero at [] = refl
tokens_from-covered (suc covered) at [] = refl
tokens_from-covered zero at (b ∷ bs) = ap (λ n. tokens_from 0 n (b ∷ bs)) (sym (add-zero at))
tokens_from-covered (suc covered) at (b ∷ bs) =
    let e : suc at + covered ≡ at + suc covered = omega arith in
    tokens_from-covered covered (suc at) bs ∙ ap (λ n. tokens_from 0 n (drop covered bs)) e

gap-step : (skipped : Bool) (at b : ℕ) (bs : List ℕ) → is_skipped Open b ≡ skipped
    → tokens_from 0 at (b ∷ bs) ≡ tokens_from 0 (at + gap_len Open (b ∷ bs)) (drop (gap_len Open (b ∷ bs)) (b ∷ bs))
gap-step true at b bs e =
    let same : suc at + gap_len (region_after Open b) bs ≡ at + suc (gap_len (region_after Open b) bs) = omega arith in
    rw e (tokens_from-covered (gap_len (region_after Open b) bs) (suc at) bs ∙ ap (λ n. tokens_from 0 n (drop (gap_len (region_after Open b) bs) bs)) same)
gap-step false at b bs e = rw e (rw add-zero (rw e refl))

-- a gap is passed over
pub tokens_from-gap : (at : ℕ) (bs : List ℕ) → tokens_from 0 at bs ≡ tokens_from 0 (at + gap_len Open bs) (drop (gap_len Open bs) bs)
tokens_from-gap at [] = ap (λ n. tokens_from 0 n []) (sym (add-zero at))
tokens_from-gap at (b ∷ bs) = gap-step (is_skipped Open b) at b bs refl

after-token : (len at b : ℕ) (bs : List ℕ) → 0 < len → tokens_from (len - 1) (suc at) bs ≡ tokens_from 0 (at + len) (drop len (b ∷ bs))
after-token zero at b bs some = absurd (omega arith)
after-token (suc len) at b bs some =
    let e : suc len - 1 ≡ len = omega arith in
    let same : suc at + len ≡ at + suc len = omega arith in
    rw e (tokens_from-covered len (suc at) bs ∙ ap (λ n. tokens_from 0 n (drop len bs)) same)

token-step : (at : ℕ) (bs : List ℕ) → gap_len Open bs ≡ 0 → 0 < length bs → 0 < (front_at bs).len
    → tokens_from 0 at bs ≡ record { token = (front_at bs).token; at = at + (front_at bs).place } ∷ tokens_from 0 (at + (front_at bs).len) (drop (front_at bs).len bs)
token-step at [] none some forward = absurd (omega arith)
token-step at (b ∷ bs) none some forward =
    rw (no-gap (is_skipped Open b) b bs refl none)
    (ap (λ rest. record { token = (front_of b bs).token; at = at + (front_of b bs).place } ∷ rest) (after-token (front_of b bs).len at b bs forward))

-- nothing stands behind the gap
pub tokens_from-none : (at gap : ℕ) (bs : List ℕ) → gap ≡ gap_len Open bs → length bs ≤ gap → tokens_from 0 at bs ≡ []
tokens_from-none at gap bs is all =
    tokens_from-gap at bs
    ∙ ap (λ n. tokens_from 0 (at + n) (drop n bs)) (sym is)
    ∙ ap (λ rest. tokens_from 0 (at + gap) rest) (drop_of_length-le bs all)

-- the token behind the gap from a place of a piece on
pub tokens_from-next : (piece : List ℕ) (from gap place len : ℕ) (token : Token) → gap ≡ gap_len Open (drop from piece) → from + gap < length piece
    → token ≡ (front_at (drop (from + gap) piece)).token → place ≡ (front_at (drop (from + gap) piece)).place → len ≡ (front_at (drop (from + gap) piece)).len → 0 < len
    → tokens_from 0 from (drop from piece) ≡ record { token = token; at = from + gap + place } ∷ tokens_from 0 (from + gap + len) (drop (from + gap + len) piece)
tokens_from-next piece from gap place len token is some token_is place_is len_is forward =
    let text = drop (from + gap) piece in
    let same : drop gap (drop from piece) ≡ text = drop-drop gap from piece in
    let none : gap_len Open text ≡ 0 = ap (λ rest. gap_len Open rest) (sym same) ∙ ap (λ n. gap_len Open (drop n (drop from piece))) is ∙ gap-ends (drop from piece) in
    let longer : 0 < length text = omega (arith, length-drop (from + gap) piece) in
    let long : 0 < (front_at text).len = rw (← len_is) forward in
    let placed : from + gap + (front_at text).place ≡ from + gap + place = ap (λ n. from + gap + n) (sym place_is) in
    let rest : tokens_from 0 (from + gap + (front_at text).len) (drop (front_at text).len text) ≡ tokens_from 0 (from + gap + len) (drop (from + gap + len) piece) =
    ap (λ n. tokens_from 0 (from + gap + n) (drop n text)) (sym len_is) ∙ ap (λ bs. tokens_from 0 (from + gap + len) bs) (drop-drop len (from + gap) piece) in
    tokens_from-gap from (drop from piece)
    ∙ ap (λ n. tokens_from 0 (from + n) (drop n (drop from piece))) (sym is)
    ∙ ap (λ bs. tokens_from 0 (from + gap) bs) same
    ∙ token-step (from + gap) text none longer long
    ∙ (λ i. record { token = sym token_is i; at = placed i } ∷ rest i)
