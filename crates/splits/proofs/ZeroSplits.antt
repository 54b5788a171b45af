-- The splits of zeros are the numbers of them, from 0 upwards.
use Rattle.std.specs.Prelude.{◌≡◌, ℕ, zero, suc, ◌+◌, ◌-◌, List, [], ◌∷◌, ◌++◌, map, replicate, refl}
use Rattle.std.specs.List.{filter, range_with_len}
use Rattle.std.proofs.Common.{arith, ap, ◌∙◌}
use Rattle.std.proofs.lemmas.List.{append-nil}
use Rattle.splits.specs.Splits.{Split, taking, leaving, begins_above, splits}

-- the split of n zeros that takes so many
abbrev pub of_zeros : ℕ → ℕ → Split
of_zeros n taken = record { part = replicate taken 0; rest = replicate (n - taken) 0 }

no_part_begins_above : (n start count : ℕ) → filter (begins_above 0) (map (of_zeros n) (range_with_len start count)) ≡ []
no_part_begins_above n start zero = refl
no_part_begins_above n zero (suc count) = no_part_begins_above n 1 count
no_part_begins_above n (suc start) (suc count) = no_part_begins_above n (suc start + 1) count

split_of : ℕ → ℕ → Split
split_of taken left = record { part = replicate taken 0; rest = replicate left 0 }

same_split : (taken other left remaining : ℕ) → taken ≡ other → left ≡ remaining → split_of taken left ≡ split_of other remaining
same_split taken other left remaining p q = cc

one_taken : (n start : ℕ) → taking 0 (of_zeros n start) ≡ of_zeros (suc n) (start + 1)
unfolding split_of
one_taken n start = same_split (suc start) (start + 1) (n - start) (suc n - (start + 1)) (omega arith) (omega arith)

none_taken : (n : ℕ) → record { part = []; rest = 0 ∷ replicate n 0 } ≡ of_zeros (suc n) 0
unfolding split_of
none_taken n = same_split 0 0 (suc n) (suc n - 0) refl (omega arith)

one_more : (n start count : ℕ) → map (taking 0) (map (of_zeros n) (range_with_len start count)) ≡ map (of_zeros (suc n)) (range_with_len (start + 1) count)
one_more n start zero = refl
one_more n start (suc count) = cc (one_taken n start, one_more n (start + 1) count)

tail_of_zeros : (n : ℕ) (ss : List Split) → ss ≡ map (of_zeros n) (range_with_len 0 (n + 1))
    → map (taking 0) ss ++ map (leaving 0) (filter (begins_above 0) ss) ≡ map (of_zeros (suc n)) (range_with_len 1 (n + 1))
tail_of_zeros n ss same =
    rw same (rw (no_part_begins_above n 0 (n + 1)) (append-nil (map (taking 0) (map (of_zeros n) (range_with_len 0 (n + 1)))) ∙ one_more n 0 (n + 1)))

suc_more : (n : ℕ) → suc (n + 1) ≡ suc n + 1
suc_more n = omega arith

pub splits-replicate : (n : ℕ) → splits (replicate n 0) ≡ map (of_zeros n) (range_with_len 0 (n + 1))
splits-replicate zero = refl
splits-replicate (suc n) =
    let tail : map (taking 0) (splits (replicate n 0)) ++ map (leaving 0) (filter (begins_above 0) (splits (replicate n 0))) ≡ map (of_zeros (suc n)) (range_with_len 1 (n + 1))
    = tail_of_zeros n (splits (replicate n 0)) (splits-replicate n) in
    let all : splits (replicate (suc n) 0) ≡ of_zeros (suc n) 0 ∷ map (of_zeros (suc n)) (range_with_len 1 (n + 1)) = cc (tail, none_taken n) in
    all ∙ ap (λ (count : ℕ). map (of_zeros (suc n)) (range_with_len 0 count)) (suc_more n)
