-- Products and sums of which shares are made.
use Rattle.std.proofs.Common.{◌≡◌, ℕ, zero, suc, ◌+◌, ◌*◌, ◌<◌, sym, ap, ◌∙◌, arith}

-- what is behind a factor above 0
pub cancelled : (k m n : ℕ) → 0 < k → k * m ≡ k * n → m ≡ n
cancelled k m n some same = grind (arith, some, same)

-- a first branch and the others: its list has `length` elements, whose sum is s
pub branch_and_others : (times weight all num den more_num more_den length s rest : ℕ)
    → length ≡ times * weight → length * num ≡ s * den → times * all * more_num ≡ rest * more_den
    → times * all * (weight * num * more_den + more_num * (all * den)) ≡ (s + rest) * (all * den * more_den)
branch_and_others times weight all num den more_num more_den length s rest long first others =
    spread times weight all num den more_num more_den
    ∙ (λ i. all * more_den * (sym long i * num) + all * den * (others i))
    ∙ ap (λ (k : ℕ). all * more_den * k + all * den * (rest * more_den)) first
    ∙ gather all den more_den s rest
  where
    spread : (times weight all num den more_num more_den : ℕ) → times * all * (weight * num * more_den + more_num * (all * den)) ≡ all * more_den * (times * weight * num) + all * den * (times * all * more_num)
    spread times weight all num den more_num more_den = grind arith

    gather : (all den more_den s rest : ℕ) → all * more_den * (s * den) + all * den * (rest * more_den) ≡ (s + rest) * (all * den * more_den)
    gather all den more_den s rest = grind arith

-- two means of which one is so many times the other, by branches
pub both_means : (size weight all num den more_num more_den also_num also_den also_more also_more_den : ℕ)
    → size * num * also_den ≡ also_num * den
    → size * more_num * also_more_den ≡ also_more * more_den
    → size * (weight * num * more_den + more_num * (all * den)) * (all * also_den * also_more_den)
    ≡ (weight * also_num * also_more_den + also_more * (all * also_den)) * (all * den * more_den)
both_means size weight all num den more_num more_den also_num also_den also_more also_more_den first others =
    spread size weight all num den more_num more_den also_den also_more_den
    ∙ (λ i. weight * all * more_den * also_more_den * first i + all * all * den * also_den * others i)
    ∙ gather weight all den more_den also_num also_den also_more also_more_den
  where
    spread : (size weight all num den more_num more_den also_den also_more_den : ℕ)
        → size * (weight * num * more_den + more_num * (all * den)) * (all * also_den * also_more_den)
        ≡ weight * all * more_den * also_more_den * (size * num * also_den) + all * all * den * also_den * (size * more_num * also_more_den)
    spread size weight all num den more_num more_den also_den also_more_den = grind arith

    gather : (weight all den more_den also_num also_den also_more also_more_den : ℕ)
        → weight * all * more_den * also_more_den * (also_num * den) + all * all * den * also_den * (also_more * more_den)
        ≡ (weight * also_num * also_more_den + also_more * (all * also_den)) * (all * den * more_den)
    gather weight all den more_den also_num also_den also_more also_more_den = grind arith

-- the mean of one by that of the other
pub by_the_other : (length size num den also_num also_den s : ℕ) → 0 < also_den
    → size * num * also_den ≡ also_num * den → length * also_num ≡ s * also_den → length * size * num ≡ s * den
by_the_other length size num den also_num also_den s some first second =
    cancelled also_den (length * size * num) (s * den) some
    (front also_den length size num ∙ ap (λ (k : ℕ). length * k) first ∙ middle length also_num den ∙ ap (λ (k : ℕ). k * den) second ∙ back s also_den den)
  where
    front : (a b c d : ℕ) → a * (b * c * d) ≡ b * (c * d * a)
    front a b c d = grind arith

    middle : (a b c : ℕ) → a * (b * c) ≡ a * b * c
    middle a b c = grind arith

    back : (a b c : ℕ) → a * b * c ≡ b * (a * c)
    back a b c = grind arith

pub times_cancelled : (times length num den s : ℕ) → 0 < times → times * length * num ≡ times * s * den → length * num ≡ s * den
times_cancelled times length num den s some same =
    cancelled times (length * num) (s * den) some (grouped times length num ∙ same ∙ sym (grouped times s den))
  where
    grouped : (a b c : ℕ) → a * (b * c) ≡ a * b * c
    grouped a b c = grind arith

pub factors : (m n : ℕ) → 0 < m → 0 < n → 0 < m * n
factors m n first second = grind (arith, first, second)

pub first_factor : (m n : ℕ) → 0 < m * n → 0 < m
first_factor zero n some = absurd (let none : 0 * n ≡ 0 = nothing n in omega (arith, some, none))
  where
    nothing : (n : ℕ) → 0 * n ≡ 0
    nothing n = omega arith
first_factor (suc m) n some = omega arith

pub second_factor : (m n : ℕ) → 0 < m * n → 0 < n
second_factor m zero some = absurd (let none : m * 0 ≡ 0 = nothing m in omega (arith, some, none))
  where
    nothing : (n : ℕ) → n * 0 ≡ 0
    nothing n = omega arith
second_factor m (suc n) some = omega arith
