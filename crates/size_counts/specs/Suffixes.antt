-- What is known of the numbers of a Prod at a size from the counts of its arguments there.
use Rattle.std.specs.Prelude.{◌≡◌, ◌⊎◌, ℕ, nat_le, ◌+◌, ◌-◌, ◌≤◌, ◌<◌, Bool, true, false, List, length, drop, Option, Some, slice_get, unwrap_or}
use Rattle.std.specs.Option.{option_and_then}
use Rattle.spec_syntax.specs.Expression.{Expression, Expressions, Prod, expression_list, expressions_of}
use Rattle.spec_syntax.specs.Grammar.{Grammar}
use Rattle.struct_model.specs.Bounded.{number}
use Rattle.well_founded.specs.Checked.{Checked}
use Rattle.listing_laws.specs.Numbers.{one_at}
use Rattle.size_counts.specs.Numbers.{suffix_number}
use Rattle.splits.specs.Capped.{Tells}

-- 1 at size 0 and 0 at the others up to m
pub record IsNothing (m : ℕ) (column : List (Option ℕ)) : Type 0 where
  pub for_each : length column ≡ m + 1
  pub each : (d : ℕ) (one : Option ℕ) → slice_get column d ≡ Some one → Tells one (one_at 0 d)

-- has the argument at place k no structure without atoms, by its least size
abbrev pub needs_atoms : Checked → List ℕ → ℕ → Bool
needs_atoms checked children k = nat_le 1 (unwrap_or (option_and_then (slice_get checked.leasts) (slice_get children k)) 0)

-- none of the places below n is one of those
abbrev pub NoneBelow : (ℕ → Bool) → ℕ → Type 0
NoneBelow zero n = (k : ℕ) → k < n → zero k ≡ false

-- none of the places but k is
abbrev pub NoneBut : (ℕ → Bool) → ℕ → Type 0
NoneBut zero k = (other : ℕ) → (other ≡ k → ⊥) → zero other ≡ false

-- the arguments at some places are known to have no structure of size 0. The count at size m is told of an argument that is the
-- only such one or has no such one beside it, and at size 0 of those
pub record ArgumentsTold (g : Grammar) (arguments : Expressions) (children : List ℕ) (now : List (Option ℕ)) (m : ℕ) (zero : ℕ → Bool) : Type 0 where
  pub within : (k : ℕ) → zero k ≡ true → k < length (expression_list arguments)
  pub zeros : (k : ℕ) (e : Expression) → slice_get (expression_list arguments) k ≡ Some e → zero k ≡ true → number g e 0 ≡ 0
  pub told : (k child : ℕ) (e : Expression) (one : Option ℕ) → slice_get (expression_list arguments) k ≡ Some e → slice_get children k ≡ Some child → slice_get now child ≡ Some one
      → NoneBut zero k ⊎ ((m ≡ 0) × (zero k ≡ true)) → Tells one (number g e m)

-- from suffix number high down so many are told: each one before which no such argument stands
pub record SuffixesTold (g : Grammar) (arguments : Expressions) (m : ℕ) (zero : ℕ → Bool) (high count : ℕ) (made : List (Option ℕ)) : Type 0 where
  pub for_each : length made ≡ count
  pub each : (p s : ℕ) (one : Option ℕ) → p + s ≡ high → slice_get made p ≡ Some one → NoneBelow zero (s - 1)
      → Tells one (suffix_number g (expression_list arguments) s m)

-- by size, the arguments from place i on are told, at size m where no such argument stands before
pub record OthersTold (g : Grammar) (arguments : Expressions) (m : ℕ) (zero : ℕ → Bool) (i : ℕ) (others : List (Option ℕ)) : Type 0 where
  pub for_each : length others ≡ m + 1
  pub each : (d : ℕ) (one : Option ℕ) → d ≤ m → slice_get others d ≡ Some one → (d < m) ⊎ NoneBelow zero i
      → Tells one (number g (Prod (expressions_of (drop i (expression_list arguments)))) d)

-- these many arguments stand up to the first that is such, or are all of so many
pub record AreUpToFirst (zero : ℕ → Bool) (count all : ℕ) : Type 0 where
  pub within : count ≤ all
  pub some : 0 < all → 0 < count
  pub before : NoneBelow zero (count - 1)
  pub last : count < all → NoneBelow zero count → ⊥

-- the suffixes are told from one down to the first, which is the count
pub record FirstsTold (g : Grammar) (arguments : Expressions) (m : ℕ) (firsts : List (Option ℕ)) : Type 0 where
  pub within : length firsts ≤ length (expression_list arguments)
  pub each : (p s : ℕ) (one : Option ℕ) → p + s ≡ length firsts → slice_get firsts p ≡ Some one → Tells one (suffix_number g (expression_list arguments) s m)

-- there is one of them, unless there is no argument
abbrev pub AreBegun : Expressions → List (Option ℕ) → Type 0
AreBegun arguments firsts = 0 < length (expression_list arguments) → 0 < length firsts
