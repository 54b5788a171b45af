-- Lemmas on pieces that are written part by part.
use Rattle.std.proofs.Common.{◌≡◌, ℕ, ◌+◌, ◌-◌, ◌<◌, ◌≤◌, min, List, [], ◌∷◌, ◌++◌, Option, length, take, drop, refl, sym, ap, ◌∙◌, subst, arith, append_assoc, append-nil, length-append, length-drop, length-take, take-append-drop, take-take, drop-drop}
use Rattle.std.proofs.Math.Seq.{take-append_seam, take-append-add, take-length}
use Rattle.std.proofs.lemmas.List.{nil_from_length, take-append-le}
use Rattle.std.proofs.KnownBytes.{Appends-nil, Appends-trans, Appends-kept}
use Rattle.std.specs.Io.KnownBytes.{Appends, Keeps}
use Rattle.comb_io.specs.Parts.{AppendsPart, AppendsProperPrefix, AppendsBefore}

pub AppendsBefore-start : (a : Option (List ℕ)) (piece : List ℕ) → AppendsBefore a a piece piece
AppendsBefore-start a piece = record { front = []; whole = refl; bytes = Appends-nil a }

pub AppendsBefore-more : (a b c : Option (List ℕ)) (piece rest : List ℕ) (n : ℕ) → AppendsBefore a b piece rest → Appends b c (take n rest)
    → AppendsBefore a c piece (drop n rest)
AppendsBefore-more a b c piece rest n so_far more = record {
  front = so_far.front ++ take n rest;
  whole = append_assoc so_far.front (take n rest) (drop n rest) ∙ ap (λ l. so_far.front ++ l) (take-append-drop n rest) ∙ so_far.whole;
  bytes = Appends-trans a b c so_far.front (take n rest) so_far.bytes more;
}

-- the rest of a slice past its first n bytes
pub take-rest : (n : ℕ) (xs : List ℕ) → take (length xs - n) (drop n xs) ≡ drop n xs
take-rest n xs = ap (λ m. take m (drop n xs)) (sym (length-drop n xs)) ∙ take-length (drop n xs)

pub AppendsBefore-end : (a b : Option (List ℕ)) (piece rest : List ℕ) → AppendsBefore a b piece rest → length rest ≡ 0 → Appends a b piece
AppendsBefore-end a b piece [] so_far none = subst (Appends a b) (sym (append-nil so_far.front) ∙ so_far.whole) so_far.bytes
AppendsBefore-end a b piece (x ∷ rest) so_far none = absurd (omega arith)

pub AppendsBefore-stop : (a b c : Option (List ℕ)) (piece rest : List ℕ) → AppendsBefore a b piece rest → 0 < length rest → Keeps b c → AppendsProperPrefix a c piece
AppendsBefore-stop a b c piece rest so_far some kept = record {
  count = length so_far.front;
  within = let e : length piece ≡ length so_far.front + length rest = ap length (sym so_far.whole) ∙ length-append so_far.front rest in omega arith;
  bytes = subst (Appends a c) (sym (take-append_seam so_far.front rest) ∙ ap (take (length so_far.front)) so_far.whole) (Appends-kept a b c so_far.front so_far.bytes kept);
}

-- a rest means that the piece wasn't empty
pub AppendsBefore-some : (a b : Option (List ℕ)) (piece rest : List ℕ) → AppendsBefore a b piece rest → 0 < length rest → piece ≡ [] → ⊥
AppendsBefore-some a b piece rest so_far some none =
    let e : length rest + length so_far.front ≡ 0 = omega (arith, length-append so_far.front rest, ap length (so_far.whole ∙ none)) in omega arith

-- ---- pieces that are made as they are written

-- all of it was appended
pub AppendsBefore-all : (a b : Option (List ℕ)) (piece : List ℕ) → Appends a b piece → AppendsBefore a b piece []
AppendsBefore-all a b piece h = record { front = piece; whole = append-nil piece; bytes = h }

-- what follows is left too
pub AppendsBefore-append : (a b : Option (List ℕ)) (piece rest more : List ℕ) → AppendsBefore a b piece rest → AppendsBefore a b (piece ++ more) (rest ++ more)
AppendsBefore-append a b piece rest more h = record {
  front = h.front;
  whole = sym (append_assoc h.front rest more) ∙ ap (λ l. l ++ more) h.whole;
  bytes = h.bytes;
}

pub AppendsBefore-then : (a b c : Option (List ℕ)) (piece rest left : List ℕ) → AppendsBefore a b piece rest → AppendsBefore b c rest left → AppendsBefore a c piece left
AppendsBefore-then a b c piece rest left so_far more = record {
  front = so_far.front ++ more.front;
  whole = append_assoc so_far.front more.front left ∙ ap (λ l. so_far.front ++ l) more.whole ∙ so_far.whole;
  bytes = Appends-trans a b c so_far.front more.front so_far.bytes more.bytes;
}

-- and then the rest
pub AppendsBefore-last : (a b c : Option (List ℕ)) (piece rest : List ℕ) → AppendsBefore a b piece rest → Appends b c rest → Appends a c piece
AppendsBefore-last a b c piece rest so_far more = subst (Appends a c) so_far.whole (Appends-trans a b c so_far.front rest so_far.bytes more)

-- and then a part of the rest
pub AppendsBefore-part : (unwritten : ℕ) (a b c : Option (List ℕ)) (piece rest : List ℕ) → AppendsBefore a b piece rest → AppendsPart unwritten b c rest → AppendsPart unwritten a c piece
AppendsBefore-part unwritten a b c piece rest so_far more = record {
  count = length so_far.front + more.count;
  within = omega (arith, ap length so_far.whole, length-append so_far.front rest, more.within);
  bytes = subst (Appends a c) (sym (take-append-add so_far.front rest more.count) ∙ ap (take (length so_far.front + more.count)) so_far.whole)
      (Appends-trans a b c so_far.front (take more.count rest) so_far.bytes more.bytes);
}

-- nothing is appended
pub AppendsPart-nothing : (a : Option (List ℕ)) (piece : List ℕ) → AppendsPart 0 a a piece
AppendsPart-nothing a piece = record { count = 0; within = omega arith; bytes = Appends-nil a }

-- what follows wasn't appended either
pub AppendsPart-append : (unwritten : ℕ) (a b : Option (List ℕ)) (piece more : List ℕ) → AppendsPart unwritten a b piece → AppendsPart unwritten a b (piece ++ more)
AppendsPart-append unwritten a b piece more h = record {
  count = h.count;
  within = omega (arith, length-append piece more, h.within);
  bytes = let within : h.count ≤ length piece = omega (arith, h.within) in subst (Appends a b) (sym (take-append-le h.count piece more within)) h.bytes;
}

-- ---- a read of the front of what is left, of at most `most` bytes

pub front_read : (left buf : List ℕ) (most room m k : ℕ) → take k buf ≡ take k (take m left) → m ≡ min (length left) most → k ≡ min (length (take m left)) room → 0 < most
    → (left ≡ take k buf ++ drop k left) × (k ≡ 0 → 0 < room → drop k left ≡ [])
front_read left buf most room m k copied least count some =
    let within : k ≤ m = omega (arith, length-take m left) in
    let front : take k buf ≡ take k left = copied ∙ take-take k m left within in (
      sym (take-append-drop k left) ∙ ap (λ l. l ++ drop k left) (sym front),
      λ none room_left. nil_from_length (drop k left) (omega (arith, length-drop k left, length-take m left)),
    )

-- the same where the bytes before them were taken already
pub rest_read : (all rest buf : List ℕ) (taken most room m k : ℕ) → rest ≡ drop taken all → take k buf ≡ take k (take m rest) → m ≡ min (length rest) most
    → k ≡ min (length (take m rest)) room → 0 < most → (drop taken all ≡ take k buf ++ drop (taken + k) all) × (k ≡ 0 → 0 < room → drop (taken + k) all ≡ [])
rest_read all rest buf taken most room m k e copied least count some =
    let read = front_read rest buf most room m k copied least count some in
    let after : drop k rest ≡ drop (taken + k) all = ap (drop k) e ∙ drop-drop k taken all in
    (sym e ∙ read.0 ∙ ap (λ l. take k buf ++ l) after, λ none room_left. sym after ∙ read.1 none room_left)

-- a read of as much as there is, where so many bytes from the end are left
pub last_read : (all buf : List ℕ) (unread room k : ℕ) → unread ≤ length all → take k buf ≡ take k (drop (length all - unread) all) → k ≡ min unread room
    → (drop (length all - unread) all ≡ take k buf ++ drop (length all - (unread - k)) all) × (k ≡ 0 → 0 < room → drop (length all - (unread - k)) all ≡ [])
last_read all buf unread room k within copied count =
    let taken = length all - unread in
    let next : taken + k ≡ length all - (unread - k) = omega (arith, count) in
    let after : drop k (drop taken all) ≡ drop (length all - (unread - k)) all = drop-drop k taken all ∙ ap (λ n. drop n all) next in (
      sym (take-append-drop k (drop taken all)) ∙ ap (λ l. l ++ drop k (drop taken all)) (sym copied) ∙ ap (λ l. take k buf ++ l) after,
      λ none room_left. nil_from_length (drop (length all - (unread - k)) all) (omega (arith, length-drop (length all - (unread - k)) all, count)),
    )
