-- Worked cases, by computing.
use Rattle.std.proofs.Common.{◌≡◌, ℕ, true, false, [], ◌∷◌, Some, None, refl}
use Rattle.choice_laws.specs.Trees.{end, choose}
use Rattle.choice_laws.specs.Bits.{picked, follow, block_length}

lengths : block_length 1 ∷ block_length 2 ∷ block_length 3 ∷ block_length 4 ∷ block_length 5 ∷ [] ≡ 0 ∷ 1 ∷ 2 ∷ 2 ∷ 3 ∷ []
unfolding picked block_length
lengths = refl

second_block : picked 3 (true ∷ true ∷ false ∷ true ∷ true ∷ []) ≡ Some (1, true ∷ [])
unfolding picked block_length
second_block = refl

spent : picked 3 (true ∷ true ∷ true ∷ true ∷ true ∷ []) ≡ None
unfolding picked block_length
spent = refl

no_bits : picked 1 (true ∷ []) ≡ Some (0, true ∷ [])
unfolding picked block_length
no_bits = refl

second_branch : follow {X = ℕ} (choose ((1, end 10) ∷ (0, end 20) ∷ (1, end 30) ∷ [])) (true ∷ false ∷ []) ≡ Some (30, false ∷ [])
unfolding picked block_length
second_branch = refl

one_branch : follow {X = ℕ} (choose ((0, end 10) ∷ (7, end 20) ∷ [])) [] ≡ Some (20, [])
one_branch = refl
