-- The bits of words, as the words are read one after another.
use Rattle.std.proofs.Common.{◌≡◌, ℕ, suc, ◌+◌, ◌-◌, ◌%◌, ◌/◌, ◌^◌, ◌==◌, ◌<◌, ◌≤◌, List, [], ◌∷◌, ◌++◌, sym, ap, ◌∙◌, replicate, arith}
use Rattle.std.specs.Int.{w128, to_le_bytes}
use Rattle.rand_chacha.specs.ChaCha.{ChaCha, word_at, next_word, of_seed, key_of}
use Rattle.choice_bits.specs.Bits.{bits_of}
use Rattle.choice_bits.specs.Seeded.{word_bits, bits_left, seeded_bits, IsWithin}

-- of the last word nothing is left behind the last place
pub none_behind : (unread word : ℕ) (generator : ChaCha) → unread ≡ 0 → 524288 ≤ generator.word_pos → bits_left unread word generator ≡ []
unfolding bits_left word_bits
none_behind unread word generator read end =
    ap (λ n. bits_of n word ++ word_bits (524288 - generator.word_pos) generator.key generator.word_pos) read
    ∙ ap (λ n. word_bits n generator.key generator.word_pos) (none_left generator.word_pos end)
  where
    none_left : (place : ℕ) → 524288 ≤ place → 524288 - place ≡ 0
    none_left place end = omega (arith, end)

-- a word is read whole where the one before is
pub next_word_behind : (unread word : ℕ) (generator later : ChaCha) → unread ≡ 0 → generator.word_pos < 524288 → later.key ≡ generator.key → later.word_pos ≡ generator.word_pos + 1
    → bits_left 32 (word_at 10 generator.key 0 generator.word_pos) later ≡ bits_left unread word generator
unfolding bits_left word_bits
next_word_behind unread word generator later read more key place = sym (
    ap (λ n. bits_of n word ++ word_bits (524288 - generator.word_pos) generator.key generator.word_pos) read
    ∙ ap (λ n. word_bits n generator.key generator.word_pos) (one_less generator.word_pos more)
    ∙ ap (λ p. bits_of 32 (word_at 10 generator.key 0 generator.word_pos) ++ word_bits (524288 - p) generator.key p) (sym place)
    ∙ ap (λ k. bits_of 32 (word_at 10 generator.key 0 generator.word_pos) ++ word_bits (524288 - later.word_pos) k later.word_pos) (sym key))
  where
    one_less : (p : ℕ) → p < 524288 → 524288 - p ≡ suc (524288 - (p + 1))
    one_less p more = omega (arith, more)

-- a bit of the word is taken
pub bit_in_front : (unread word : ℕ) (generator : ChaCha) → 1 ≤ unread → bits_left unread word generator ≡ (word / 2 ^ (unread - 1) % 2 == 1) ∷ bits_left (unread - 1) word generator
unfolding bits_left
bit_in_front unread word generator some = ap (λ n. bits_of n word ++ word_bits (524288 - generator.word_pos) generator.key generator.word_pos) (one_less unread some)
  where
    one_less : (n : ℕ) → 1 ≤ n → n ≡ suc (n - 1)
    one_less n some = omega (arith, some)

pub next_left : (unread word next : ℕ) (generator later : ChaCha) → (next, later) ≡ next_word 10 generator → IsWithin unread generator → unread ≤ 0 → generator.word_pos < 524288
    → bits_left 32 next later ≡ bits_left unread word generator
next_left unread word next generator later is within read more =
    ap (λ n. bits_left 32 n later) (ap (λ (p : ℕ × ChaCha). p.0) is ∙ ap (λ s. word_at 10 generator.key s generator.word_pos) within.stream)
    ∙ next_word_behind unread word generator later (omega (arith, read)) more (ap (λ (p : ℕ × ChaCha). p.1.key) is) (ap (λ (p : ℕ × ChaCha). p.1.word_pos) is ∙ small generator.word_pos more)
  where
    small : (p : ℕ) → p < 524288 → (p + 1) % 2 ^ 68 ≡ p + 1
    small p more = omega (arith, more)

-- at the start the bits are all those of the seed
pub none_read : (seed : ℕ) (front key : List ℕ) (generator : ChaCha) → generator ≡ of_seed key → key ≡ front ++ replicate 16 0 → front ≡ to_le_bytes w128 seed → bits_left 0 0 generator ≡ seeded_bits seed
unfolding bits_left seeded_bits
none_read seed front key generator is whole bytes =
    ap (λ (g : ChaCha). word_bits (524288 - g.word_pos) g.key g.word_pos) is
    ∙ ap (λ k. word_bits 524288 (key_of k) 0) (whole ∙ ap (λ f. f ++ replicate 16 0) bytes)
