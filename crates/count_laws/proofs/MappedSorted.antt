-- The multisets and subsets of what is made of each element.
use Rattle.std.proofs.Common.{◌≡◌, ℕ, zero, suc, ◌-◌, nat_le, Bool, true, false, List, [], ◌∷◌, ◌++◌, map, length, refl, sym, ap, ◌∙◌}
use Rattle.std.specs.Prelude.{if◌then◌else◌}
use Rattle.std.proofs.lemmas.List.{map-append, length-map}
use Rattle.count_laws.specs.Multisets.{Sized, none_taken, in_front, with_any, with_one, multisets, subsets}

module _ {X Y : Type 0} (f : X → Y) where
  -- each list with what is made of each element
  abbrev each_mapped : List (List X) → List (List Y)
  each_mapped xss = map (map f) xss

  front_mapped : (x : X) (xss : List (List X)) → each_mapped (map (λ xs. x ∷ xs) xss) ≡ map (λ ys. f x ∷ ys) (each_mapped xss)
  front_mapped x [] = refl
  front_mapped x (xs ∷ xss) = ap (λ rest. (f x ∷ map f xs) ∷ rest) (front_mapped x xss)

  in_front_mapped : (size : ℕ) (x : X) (others : ℕ → List (List X)) (also : ℕ → List (List Y)) (n : ℕ) → ((m : ℕ) → each_mapped (others m) ≡ also m)
      → each_mapped (in_front size x others n) ≡ in_front size (f x) also n
  in_front_mapped size x others also n same = by (nat_le size n)
    where
      by : (b : Bool) → each_mapped (if b then map (λ xs. x ∷ xs) (others (n - size)) else []) ≡ (if b then map (λ ys. f x ∷ ys) (also (n - size)) else [])
      by true = front_mapped x (others (n - size)) ∙ ap (map (λ ys. f x ∷ ys)) (same (n - size))
      by false = refl

  none_mapped : (c n : ℕ) → each_mapped (none_taken c n) ≡ none_taken c n
  none_mapped zero zero = refl
  none_mapped zero (suc n) = refl
  none_mapped (suc c) n = refl

  first_or_not : (size : ℕ) (x : X) (firsts : ℕ → List (List X)) (also : ℕ → List (List Y)) (others : List (List X)) (more : List (List Y)) (n : ℕ)
      → ((m : ℕ) → each_mapped (firsts m) ≡ also m) → each_mapped others ≡ more → each_mapped (in_front size x firsts n ++ others) ≡ in_front size (f x) also n ++ more
  first_or_not size x firsts also others more n same left =
      map-append (map f) (in_front size x firsts n) others ∙ (λ i. in_front_mapped size x firsts also n same i ++ left i)

  module _ (others : Sized X) (also : Sized Y) (same : (c n : ℕ) → each_mapped (others c n) ≡ also c n) where
    any_mapped : (size : ℕ) (x : X) (c n : ℕ) → each_mapped (with_any size x others c n) ≡ with_any size (f x) also c n
    any_mapped size x zero n = same 0 n
    any_mapped size x (suc c) n = first_or_not size x (with_any size x others c) (with_any size (f x) also c) (others (suc c) n) (also (suc c) n) n (any_mapped size x c) (same (suc c) n)

    one_mapped : (size : ℕ) (x : X) (c n : ℕ) → each_mapped (with_one size x others c n) ≡ with_one size (f x) also c n
    one_mapped size x zero n = same 0 n
    one_mapped size x (suc c) n = first_or_not size x (others c) (also c) (others (suc c) n) (also (suc c) n) n (same c) (same (suc c) n)

  module _ (size : Y → ℕ) where
    pub multisets_mapped : (xs : List X) (c n : ℕ) → each_mapped (multisets (λ x. size (f x)) xs c n) ≡ multisets size (map f xs) c n
    multisets_mapped [] c n = none_mapped c n
    multisets_mapped (x ∷ xs) c n = any_mapped (multisets (λ x. size (f x)) xs) (multisets size (map f xs)) (multisets_mapped xs) (size (f x)) x c n

    pub subsets_mapped : (xs : List X) (c n : ℕ) → each_mapped (subsets (λ x. size (f x)) xs c n) ≡ subsets size (map f xs) c n
    subsets_mapped [] c n = none_mapped c n
    subsets_mapped (x ∷ xs) c n = one_mapped (subsets (λ x. size (f x)) xs) (subsets size (map f xs)) (subsets_mapped xs) (size (f x)) x c n

-- there are as many as of the sizes themselves
module _ {X : Type 0} (size : X → ℕ) (xs : List X) (c n : ℕ) where
  pub multisets_by_sizes : length (multisets size xs c n) ≡ length (multisets (λ (d : ℕ). d) (map size xs) c n)
  multisets_by_sizes = sym (length-map (multisets size xs c n) (map size)) ∙ ap length (multisets_mapped size (λ (d : ℕ). d) xs c n)

  pub subsets_by_sizes : length (subsets size xs c n) ≡ length (subsets (λ (d : ℕ). d) (map size xs) c n)
  subsets_by_sizes = sym (length-map (subsets size xs c n) (map size)) ∙ ap length (subsets_mapped size (λ (d : ℕ). d) xs c n)
