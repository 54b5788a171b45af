-- How bits choose: blocks of bits as numbers, and the way through a choice tree that bits take.
use Rattle.std.specs.Prelude.{ℕ, zero, suc, ◌+◌, ◌*◌, ◌-◌, nat_lt, nat_le, Bool, true, false, List, [], ◌∷◌, Option, Some, None, if◌then◌else◌, length, take, drop}
use Rattle.std.specs.Option.{option_and_then}
use Rattle.choice_laws.specs.Trees.{Tree, end, step, Branches, no_branches, more_branches, total}

-- how often the power is doubled until it is at least the bound, at most `most` times
abbrev pub doublings : (most bound power : ℕ) → ℕ
doublings zero bound power = 0
doublings (suc most) bound power = if nat_le bound power then 0 else suc (doublings most bound (2 * power))

-- the least number k with 2 ^ k at least the bound
unfoldable pub block_length : ℕ → ℕ
block_length bound = doublings bound bound 1

abbrev pub with_bit : ℕ → Bool → ℕ
with_bit n true = 2 * n + 1
with_bit n false = 2 * n

-- the number that bits write behind those of n, highest bit first
abbrev pub number_from : ℕ → List Bool → ℕ
number_from n [] = n
number_from n (b ∷ bs) = number_from (with_bit n b) bs

-- the first of at most `most` whole blocks of k bits whose number is below the bound, with the bits behind it
abbrev pub picked_block : (most k bound : ℕ) → List Bool → Option (ℕ × List Bool)
picked_block zero k bound bits = None
picked_block (suc most) k bound bits =
    let value = number_from 0 (take k bits) in
    if nat_lt (length bits) k then None else if nat_lt value bound then Some (value, drop k bits) else picked_block most k bound (drop k bits)

-- what bits pick below a bound, and the bits that are left
unfoldable pub picked : ℕ → List Bool → Option (ℕ × List Bool)
picked bound bits = picked_block (suc (length bits)) (block_length bound) bound bits

abbrev mutual
  -- the end that bits lead to, and the bits that are left
  pub follow : {X : Type 0} → Tree X → List Bool → Option (X × List Bool)
  follow (end x) bits = Some (x, bits)
  follow (step no_branches) bits = None
  follow (step (more_branches weight tree no_branches)) bits = follow tree bits
  follow (step (more_branches weight tree (more_branches w t more))) bits =
      option_and_then (λ p. follow_branch (more_branches weight tree (more_branches w t more)) p.0 p.1) (picked (weight + (w + total more)) bits)

  -- the first branch whose weights up to and with it add to more than the value
  pub follow_branch : {X : Type 0} → Branches X → ℕ → List Bool → Option (X × List Bool)
  follow_branch no_branches value bits = None
  follow_branch (more_branches weight tree more) value bits =
      if nat_lt value weight then follow tree bits else follow_branch more (value - weight) bits
