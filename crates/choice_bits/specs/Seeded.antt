-- The bits of a seed.
use Rattle.std.specs.Prelude.{◌≡◌, ℕ, Bool, zero, suc, ◌+◌, ◌-◌, ◌≤◌, List, [], ◌++◌, replicate}
use Rattle.std.specs.Int.{w128, to_le_bytes}
use Rattle.rand_chacha.specs.ChaCha.{ChaCha, word_at, key_of}
use Rattle.choice_bits.specs.Bits.{bits_of}

-- the key of a seed: its 16 bytes, lowest first, and 16 zeros
abbrev pub seed_bytes : ℕ → List ℕ
seed_bytes seed = to_le_bytes w128 seed ++ replicate 16 0

-- the bits of so many words of the key's stream 0 from a place on
unfoldable pub word_bits : ℕ → List ℕ → ℕ → List Bool
word_bits zero key place = []
word_bits (suc count) key place = bits_of 32 (word_at 10 key 0 place) ++ word_bits count key (place + 1)

-- the bits of a seed: those of the words at the places from 0 to 524287
unfoldable pub seeded_bits : ℕ → List Bool
seeded_bits seed = word_bits 524288 (key_of (seed_bytes seed)) 0

-- the lowest `unread` bits of a word, and then those of the words that are left of the generator
unfoldable pub bits_left : ℕ → ℕ → ChaCha → List Bool
bits_left unread word generator = bits_of unread word ++ word_bits (524288 - generator.word_pos) generator.key generator.word_pos

-- a word's bits at most are unread, and the generator gives the words of its stream 0 up to the last place
pub record IsWithin (unread : ℕ) (generator : ChaCha) : Type 0 where
  pub few : unread ≤ 32
  pub place : generator.word_pos ≤ 524288
  pub stream : generator.stream ≡ 0
