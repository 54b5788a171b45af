-- Shares of what the ends of a choice tree hold, as fractions.
use Rattle.std.specs.Prelude.{ℕ, ◌+◌, ◌*◌, Bool, if◌then◌else◌}
use Rattle.choice_laws.specs.Trees.{Tree, end, step, Branches, no_branches, more_branches, total}

-- a numerator and a denominator
abbrev pub Fraction : Type 0
Fraction = ℕ × ℕ

abbrev pub plus : Fraction → Fraction → Fraction
plus p q = (p.0 * q.1 + q.0 * p.1, p.1 * q.1)

-- so many times one part of so many
abbrev pub part_of : (weight all : ℕ) → Fraction → Fraction
part_of weight all p = (weight * p.0, all * p.1)

abbrev pub whole : ℕ → Fraction
whole n = (n, 1)

abbrev mutual
  -- the mean of what is told of the ends, each branch by its weight
  pub mean : {X : Type 0} → (X → Fraction) → Tree X → Fraction
  mean f (end x) = f x
  mean f (step branches) = mean_of f (total branches) branches

  pub mean_of : {X : Type 0} → (X → Fraction) → (all : ℕ) → Branches X → Fraction
  mean_of f all no_branches = whole 0
  mean_of f all (more_branches weight tree more) = plus (part_of weight all (mean f tree)) (mean_of f all more)

-- the mean of numbers
abbrev pub number_mean : {X : Type 0} → (X → ℕ) → Tree X → Fraction
number_mean f tree = mean (λ x. whole (f x)) tree

-- 1 where the test is passed
abbrev pub one_if : Bool → ℕ
one_if passed = if passed then 1 else 0

-- the share of all choices that lead to what passes the test
abbrev pub share : {X : Type 0} → (X → Bool) → Tree X → Fraction
share test tree = number_mean (λ x. one_if (test x)) tree
