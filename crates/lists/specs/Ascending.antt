-- Numbers in ascending order.
use Rattle.std.specs.Prelude.{ℕ, zero, suc, Bool, true, ◌&&◌, nat_lt, nat_le, List, [], ◌∷◌, ◌++◌, if◌then◌else◌}

-- the number put in its place among ascending ones
abbrev pub inserted : ℕ → List ℕ → List ℕ
inserted n [] = n ∷ []
inserted n (m ∷ ms) = if nat_le n m then n ∷ m ∷ ms else m ∷ inserted n ms

-- the numbers in ascending order
abbrev pub ascending : List ℕ → List ℕ
ascending [] = []
ascending (n ∷ ns) = inserted n (ascending ns)

-- is each number above the one before it, and the first one above low
abbrev pub ascends_above : ℕ → List ℕ → Bool
ascends_above low [] = true
ascends_above low (n ∷ ns) = nat_lt low n && ascends_above n ns

-- the numbers from 1 to n
abbrev pub one_to : ℕ → List ℕ
one_to zero = []
one_to (suc n) = one_to n ++ suc n ∷ []
