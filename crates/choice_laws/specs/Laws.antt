-- The laws of choices: what grafting and following do, and what is even.
use Rattle.std.specs.Prelude.{◌≡◌, ◌<◌, ◌≤◌, ℕ, suc, ◌*◌, ◌^◌, Bool, List, ◌++◌, map, length, take, drop, Some, None}
use Rattle.std.specs.Option.{option_and_then}
use Rattle.std.specs.List.{sum, flat_map}
use Rattle.lists.specs.Enumeration.{IsIn}
use Rattle.count_laws.specs.Pointed.{MeetsTimes}
use Rattle.choice_laws.specs.Trees.{Tree, choose, graft}
use Rattle.choice_laws.specs.Bits.{block_length, number_from, picked, follow}
use Rattle.choice_laws.specs.Shares.{Fraction, mean, share, one_if}
use Rattle.choice_laws.specs.Even.{IsEnd, LeadsOn, IsEven}

-- The mean over a grafted tree is that of the means over what follows each end, and its ends are those of what follows an end.
pub record GraftsHaveMeans (X Y : Type 0) : Type 0 where
  pub means : (f : Y → Fraction) (next : X → Tree Y) (tree : Tree X) → mean f (graft next tree) ≡ mean (λ x. mean f (next x)) tree
  pub ends : (next : X → Tree Y) (tree : Tree X) (y : Y) → IsEnd y (graft next tree) → (x : X) × IsEnd x tree × IsEnd y (next x)

-- In a grafted tree bits lead through the first tree, and those that it leaves through the tree of the end that was reached.
pub record GraftsAreFollowed (X Y : Type 0) : Type 0 where
  pub follows : (next : X → Tree Y) (tree : Tree X) (bits : List Bool) → follow (graft next tree) bits ≡ option_and_then (λ p. follow (next p.0) p.1) (follow tree bits)

-- Where the lists have lengths as the weights are, each so many times, and each tree of a weight above 0 is even over its list, the
-- choice of one of the trees is even over all the lists.
pub record ChoicesAreEven (I X : Type 0) : Type 0 where
  pub even : (times : ℕ) (weight : I → ℕ) (tree : I → Tree X) (list : I → List X) (is : List I)
      → ((i : I) → IsIn i is → length (list i) ≡ times * weight i)
      → ((i : I) → IsIn i is → 0 < weight i → IsEven (tree i) (list i))
      → IsEven (choose (map (λ i. (weight i, tree i)) is)) (flat_map list is)

-- Where what follows each element is even over a list, and these lists have one length, the grafted tree is even over all of them.
pub record GraftsAreEven (X Y : Type 0) : Type 0 where
  pub even : (size : ℕ) (next : X → Tree Y) (tree : Tree X) (list : X → List Y) (xs : List X)
      → IsEven tree xs
      → ((x : X) → IsIn x xs → length (list x) ≡ size)
      → ((x : X) → IsIn x xs → IsEven (next x) (list x))
      → IsEven (graft next tree) (flat_map list xs)

-- A tree that is even over a list is even over one whose elements it has, each as often.
pub record EvenInstead (X : Type 0) : Type 0 where
  pub even : (times : ℕ) (tree : Tree X) (xs ys : List X) → 0 < times → IsEven tree xs → MeetsTimes times xs ys → IsEven tree ys

-- What one element of a list alone passes has one share of as many as the list has elements, and this is a share of all.
pub record EvenSharesAreEqual (X : Type 0) : Type 0 where
  pub shares : (tree : Tree X) (xs : List X) (test : X → Bool) → IsEven tree xs → sum (map (λ x. one_if (test x)) xs) ≡ 1
      → length xs * (share test tree).0 ≡ (share test tree).1
  pub positive : (tree : Tree X) (test : X → Bool) → LeadsOn tree → 0 < (share test tree).1

-- the block of this place, of k bits
abbrev pub block : ℕ → ℕ → List Bool → List Bool
block k i bits = take k (drop (i * k) bits)

-- The blocks have the least length with which all values below the bound are written, and each by one block.
pub record BlocksWriteValues : Type 0 where
  pub enough : (bound : ℕ) → bound ≤ 2 ^ block_length bound
  pub least : (bound k : ℕ) → bound ≤ 2 ^ k → block_length bound ≤ k
  pub written : (k value : ℕ) → value < 2 ^ k → (bits : List Bool) × (length bits ≡ k) × (number_from 0 bits ≡ value)
  pub once : (bits other : List Bool) → length bits ≡ length other → number_from 0 bits ≡ number_from 0 other → bits ≡ other

-- What is picked is the value of the first block with a value below the bound, and the bits behind it; nothing is picked where
-- no block has one.
pub record FirstBlockIsPicked : Type 0 where
  pub at_once : (bound : ℕ) (bits more : List Bool) → length bits ≡ block_length bound → number_from 0 bits < bound
      → picked bound (bits ++ more) ≡ Some (number_from 0 bits, more)
  pub later : (bound : ℕ) (bits more : List Bool) → length bits ≡ block_length bound → bound ≤ number_from 0 bits
      → picked bound (bits ++ more) ≡ picked bound more
  pub short : (bound : ℕ) (bits : List Bool) → length bits < block_length bound → picked bound bits ≡ None
  pub one : (bits : List Bool) → picked 1 bits ≡ Some (0, bits)
  pub below : (bound value : ℕ) (bits left : List Bool) → picked bound bits ≡ Some (value, left) → value < bound
  pub no_block : (bound i : ℕ) (bits : List Bool) → picked bound bits ≡ None → suc i * block_length bound ≤ length bits
      → bound ≤ number_from 0 (block (block_length bound) i bits)

-- Bits that lead to an end lead there with more bits behind them, which are left.
pub record MoreBitsAreLeft (X : Type 0) : Type 0 where
  pub picked_alike : (bound value : ℕ) (bits left more : List Bool) → picked bound bits ≡ Some (value, left)
      → picked bound (bits ++ more) ≡ Some (value, left ++ more)
  pub follows_alike : (tree : Tree X) (x : X) (bits left more : List Bool) → follow tree bits ≡ Some (x, left)
      → follow tree (bits ++ more) ≡ Some (x, left ++ more)

-- some more bits lead to an end
pub record EndsWithMore {X : Type 0} (tree : Tree X) (bits : List Bool) : Type 0 where
  pub more : List Bool
  pub reached : X
  pub left : List Bool
  pub follows : follow tree (bits ++ more) ≡ Some (reached, left)

-- Where every way goes on to an end, bits that lead to none end within a step.
pub record BitsEndWithinAStep (X : Type 0) : Type 0 where
  pub ends : (tree : Tree X) (bits : List Bool) → LeadsOn tree → follow tree bits ≡ None → EndsWithMore tree bits
  pub lead_within : (tree : Tree X) (x : X) (bits left : List Bool) → follow tree bits ≡ Some (x, left) → IsEnd x tree
