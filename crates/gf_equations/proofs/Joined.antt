-- Pieces that are put behind one another, one by one.
use Rattle.std.proofs.Common.{◌≡◌, ℕ, zero, suc, ◌+◌, ◌-◌, ◌<◌, ◌≤◌, List, [], ◌∷◌, ◌++◌, length, get_or, take, drop, codes, decimal, add-one, sym, ap, ◌∙◌, arith, append_assoc, append-nil}
use Rattle.std.specs.List.{join_by, flat_map}
use Rattle.std.proofs.lemmas.List.{take_all, drop_all, drop_more}
use Rattle.gf_equations.specs.Text.{indices}

-- joined pieces are the first one and then, each behind a sign, the others
pub joined_first : {X : Type 0} (f : X → List ℕ) (sign : List ℕ) (xs : List X) (x : X) → 1 ≤ length xs → x ≡ get_or xs 0 x
    → f x ++ flat_map (λ y. sign ++ f y) (take (length xs - 1) (drop 1 xs)) ≡ join_by f sign xs
joined_first f sign [] x long is = absurd (omega arith)
joined_first f sign (y ∷ ys) x long is =
    let all : take (length (y ∷ ys) - 1) ys ≡ ys = take_all (length (y ∷ ys) - 1) ys (omega arith) in
    ap (λ zs. f x ++ flat_map (λ z. sign ++ f z) zs) all ∙ ap (λ z. f z ++ flat_map (λ w. sign ++ f w) ys) is

-- one more piece behind its sign
pub joined_more : {X : Type 0} (f : X → List ℕ) (sign : List ℕ) (xs : List X) (i : ℕ) (x : X) (text mid new whole : List ℕ) → i < length xs → x ≡ get_or xs i x
    → mid ≡ text ++ sign → new ≡ mid ++ f x → text ++ flat_map (λ y. sign ++ f y) (drop i xs) ≡ whole → new ++ flat_map (λ y. sign ++ f y) (drop (i + 1) xs) ≡ whole
joined_more f sign xs i x text mid new whole within is half put so_far =
    let rest : List ℕ = flat_map (λ y. sign ++ f y) (drop (i + 1) xs) in
    ap (λ t. t ++ rest) (put ∙ ap (λ t. t ++ f x) half)
    ∙ ap (λ t. t ++ rest) (append_assoc text sign (f x))
    ∙ append_assoc text (sign ++ f x) rest
    ∙ ap (λ t. text ++ t) (sym (ap (flat_map (λ y. sign ++ f y)) (drop_more xs i x within ∙ ap (λ y. y ∷ drop (i + 1) xs) (sym is))))
    ∙ so_far

-- no piece is left
pub joined_all : {X : Type 0} (g : X → List ℕ) (xs : List X) (i : ℕ) (text whole : List ℕ) → length xs ≤ i → text ++ flat_map g (drop i xs) ≡ whole → text ≡ whole
joined_all g xs i text whole past so_far = sym (append-nil text) ∙ sym (ap (λ ys. text ++ flat_map g ys) (drop_all i xs past)) ∙ so_far

indices_suc : (n : ℕ) → indices (suc (suc n)) ≡ (indices (suc n) ++ codes "*j") ++ decimal (suc (suc n))
indices_suc n =
    let before : List ℕ = indices (suc n) in
    let digits : List ℕ = decimal (suc (suc n)) in append_assoc before (codes "*") (codes "j" ++ digits) ∙ sym (append_assoc before (codes "*j") digits)

-- the product of one more index
pub indices_more : (n : ℕ) → 1 ≤ n → indices (n + 1) ≡ (indices n ++ codes "*j") ++ decimal (n + 1)
indices_more zero low = absurd (omega arith)
indices_more (suc n) low = rw add-one (indices_suc n)
