-- Numbers of which each is above the one before it.
use Rattle.std.proofs.Common.{◌≡◌, ℕ, zero, suc, ◌+◌, ◌<◌, true, List, [], ◌∷◌, ◌++◌, nat_lt, length, get_or, length-append, refl, ◌∙◌, arith}
use Rattle.std.proofs.lemmas.Bool.{and_parts, and_from, ltb-true, lt-ltb}
use Rattle.lists.specs.Ascending.{ascends_above, one_to}
use Rattle.lists.proofs.Ascending.{Each, AtLeast, Rises, lower, each_append}

pub above_all : (low : ℕ) (u : List ℕ) → ascends_above low u ≡ true → AtLeast (low + 1) u
above_all low [] h = tt
above_all low (n ∷ ns) h =
    let both = and_parts (nat_lt low n) (ascends_above n ns) h in
    let above : low < n = ltb-true low n both.0 in
    (omega arith, lower (low + 1) (n + 1) ns (omega arith) (above_all n ns both.1))

pub rises_above : (low : ℕ) (u : List ℕ) → ascends_above low u ≡ true → Rises u
rises_above low [] h = tt
rises_above low (n ∷ ns) h =
    let both = and_parts (nat_lt low n) (ascends_above n ns) h in
    (lower n (n + 1) ns (omega arith) (above_all n ns both.1), rises_above n ns both.1)

-- so many numbers above low have room below a number that is above all of them
pub few_ascend : (low bound : ℕ) (u : List ℕ) → ascends_above low u ≡ true → ((i : ℕ) → get_or u i 0 < bound) → low < bound → low + length u < bound
few_ascend low bound [] h fits small = omega arith
few_ascend low bound (n ∷ ns) h fits small =
    let both = and_parts (nat_lt low n) (ascends_above n ns) h in
    let above : low < n = ltb-true low n both.0 in
    let room : n + length ns < bound = few_ascend n bound ns both.1 (λ i. fits (suc i)) (fits 0) in
    omega arith

-- ---- the numbers from 1 on

ascends_end : (low m : ℕ) (u : List ℕ) → ascends_above low u ≡ true → low < m → Each (λ l. l < m) u → ascends_above low (u ++ m ∷ []) ≡ true
ascends_end low m [] h above below = and_from _ _ (lt-ltb low m above) refl
ascends_end low m (n ∷ ns) h above below =
    let both = and_parts (nat_lt low n) (ascends_above n ns) h in
    and_from _ _ both.0 (ascends_end n m ns both.1 below.0 below.1)

pub one_to_below : (n m : ℕ) → n < m → Each (λ l. l < m) (one_to n)
one_to_below zero m h = tt
one_to_below (suc n) m h = each_append (λ l. l < m) (one_to n) (suc n ∷ []) (one_to_below n m (omega arith)) (h, tt)

pub one_to_ascends : (n : ℕ) → ascends_above 0 (one_to n) ≡ true
one_to_ascends zero = refl
one_to_ascends (suc n) = ascends_end 0 (suc n) (one_to n) (one_to_ascends n) (omega arith) (one_to_below n (suc n) (omega arith))

pub one_to_size : (n : ℕ) → length (one_to n) ≡ n
one_to_size zero = refl
one_to_size (suc n) = length-append (one_to n) (suc n ∷ []) ∙ more n (length (one_to n)) (one_to_size n)
  where
    more : (n k : ℕ) → k ≡ n → k + 1 ≡ suc n
    more n k same = omega arith
