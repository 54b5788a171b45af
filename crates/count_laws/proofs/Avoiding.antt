-- Lists without repeats that avoid an element.
use Rattle.std.proofs.Common.{◌≡◌, ℕ, zero, suc, ◌-◌, Bool, true, false, nat_le, List, [], ◌∷◌, ◌++◌, map, filter, cond, refl, ap, ◌∙◌}
use Rattle.std.specs.Prelude.{◌&&◌, if◌then◌else◌}
use Rattle.std.proofs.lemmas.List.Elements.{filter-append}
use Rattle.lists.proofs.Filters.{filter_none}
use Rattle.count_laws.specs.Laws.{SubsetsAreMet}
use Rattle.count_laws.specs.Multisets.{in_front, subsets}
use Rattle.count_laws.specs.Pointed.{differs, avoids, avoiding}
use Rattle.count_laws.proofs.PointedSubsets.{subsets_met}

filter_mapped : {X Y : Type 0} (keep : Y → Bool) (f : X → Y) (xs : List X) → filter keep (map f xs) ≡ map f (filter (λ x. keep (f x)) xs)
filter_mapped keep f [] = refl
filter_mapped keep f (x ∷ xs) = by (keep (f x)) (filter_mapped keep f xs)
  where
    by : (b : Bool) → filter keep (map f xs) ≡ map f (filter (λ y. keep (f y)) xs)
        → cond b (f x ∷ filter keep (map f xs)) (filter keep (map f xs)) ≡ map f (cond b (x ∷ filter (λ y. keep (f y)) xs) (filter (λ y. keep (f y)) xs))
    by true others = ap (λ rest. f x ∷ rest) others
    by false others = others

module _ {X : Type 0} (is_before : X → X → Bool) (size : X → ℕ) (x : X) where
  -- the lists that begin with an element avoid what it is not, where the others do
  avoid_front : (y : X) (lists : ℕ → List (List X)) (n : ℕ)
      → filter (avoids is_before x) (in_front (size y) y lists n) ≡ (if differs is_before x y then in_front (size y) y (λ m. filter (avoids is_before x) (lists m)) n else [])
  avoid_front y lists n = by (nat_le (size y) n)
    where
      front : (d : Bool) (yss : List (List X))
          → map (λ ys. y ∷ ys) (filter (λ ys. d && avoids is_before x ys) yss) ≡ (if d then map (λ ys. y ∷ ys) (filter (avoids is_before x) yss) else [])
      front true yss = refl
      front false yss = ap (map (λ ys. y ∷ ys)) (filter_none (λ ys. false) yss (λ ys there. refl))

      at_none : (d : Bool) → [] ≡ (if d then map (λ ys. y ∷ ys) [] else [])
      at_none true = refl
      at_none false = refl

      by : (b : Bool) → filter (avoids is_before x) (if b then map (λ ys. y ∷ ys) (lists (n - size y)) else [])
          ≡ (if differs is_before x y then if b then map (λ ys. y ∷ ys) (filter (avoids is_before x) (lists (n - size y))) else [] else [])
      by true =
          filter_mapped (avoids is_before x) (λ ys. y ∷ ys) (lists (n - size y)) ∙ front (differs is_before x y) (lists (n - size y))
      by false = at_none (differs is_before x y)

  pub avoiding_are : (xs : List X) (c n : ℕ) → filter (avoids is_before x) (subsets size xs c n) ≡ avoiding is_before size x xs c n
  avoiding_are [] zero zero = refl
  avoiding_are [] zero (suc n) = refl
  avoiding_are [] (suc c) n = refl
  avoiding_are (y ∷ xs) zero n = avoiding_are xs zero n ∙ by (differs is_before x y)
    where
      by : (d : Bool) → subsets size (filter (differs is_before x) xs) 0 n
          ≡ subsets size (cond d (y ∷ filter (differs is_before x) xs) (filter (differs is_before x) xs)) 0 n
      by true = refl
      by false = refl
  avoiding_are (y ∷ xs) (suc c) n =
      filter-append (avoids is_before x) (in_front (size y) y (subsets size xs c) n) (subsets size xs (suc c) n)
      ∙ (λ i. avoid_front y (subsets size xs c) n i ++ avoiding_are xs (suc c) n i)
      ∙ (λ i. (if differs is_before x y then in_front (size y) y (λ m. avoiding_are xs c m i) n else []) ++ avoiding is_before size x xs (suc c) n)
      ∙ by (differs is_before x y)
    where
      by : (d : Bool) → (if d then in_front (size y) y (avoiding is_before size x xs c) n else []) ++ avoiding is_before size x xs (suc c) n
          ≡ subsets size (cond d (y ∷ filter (differs is_before x) xs) (filter (differs is_before x) xs)) (suc c) n
      by true = refl
      by false = refl

pub subsets_are_met : (X : Type 0) → SubsetsAreMet X
subsets_are_met X = record {
  meets = λ is_before size xs c n ascending. subsets_met is_before size ascending.irreflexive xs ascending.ascends c n;
  avoid = λ is_before size x xs c n. avoiding_are is_before size x xs c n;
}
