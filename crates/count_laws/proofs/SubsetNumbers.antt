-- The number of lists without repeats by the sizes of the elements that are put in last, and of those that avoid an element.
use Rattle.std.proofs.Common.{◌≡◌, ℕ, zero, suc, ◌+◌, ◌-◌, ◌*◌, ◌<◌, ◌≤◌, Bool, true, false, List, [], ◌∷◌, ◌++◌, length, map, filter, sym, ap, ◌∙◌, subst, inl, inr, arith}
use Rattle.std.specs.List.{sum, range_with_len}
use Rattle.std.proofs.lemmas.List.{append_assoc, length-append}
use Rattle.lists.specs.Enumeration.{IsIn, Ascends}
use Rattle.lists.proofs.RangeSums.{sum_same, length_made, in_range}
use Rattle.count_laws.specs.Laws.{SubsetsAreCounted}
use Rattle.count_laws.specs.Multisets.{in_front, subsets}
use Rattle.count_laws.specs.Pointed.{put, enlarged, differs, avoiding, pointed_subsets}
use Rattle.count_laws.specs.SetNumbers.{number_of_size, number_of_subsets, with_less, number_avoiding}
use Rattle.count_laws.proofs.MetTimes.{Alike, same, alike_trans, alike_joined, exchanged, swapped, met_number, alike_number}
use Rattle.count_laws.proofs.Enlarged.{enlarged_both, enlarged_alike, enlarged_length, less_none, less_some}
use Rattle.count_laws.proofs.BySizes.{by_sizes, of_size}
use Rattle.count_laws.proofs.FewElements.{no_subsets, few_subsets}
use Rattle.count_laws.proofs.Larger.{subsets_of_small}
use Rattle.count_laws.proofs.Numbered.{Placed, is_earlier, numbered, numbered_ascending, sum_numbered, in_numbered, as_many_subsets}
use Rattle.count_laws.proofs.PointedSubsets.{avoiding_first, avoiding_later, at_first, at_later, subsets_met}

module _ {X : Type 0} (is_before : X → X → Bool) (size : X → ℕ) (irreflexive : (y : X) → is_before y y ≡ false) where
  -- the element put into those of one element less that avoid it
  abbrev with_it : X → List X → ℕ → ℕ → List (List X)
  with_it x xs c n = enlarged (put is_before x) (size x) (avoiding is_before size x xs c) n

  element_first : (y : X) (xs : List X) → ((z : X) → IsIn z xs → (is_before y z ≡ true) × (is_before z y ≡ false)) → (c n : ℕ)
      → Alike (avoiding is_before size y (y ∷ xs) (suc c) n ++ with_it y (y ∷ xs) c n) (subsets size (y ∷ xs) (suc c) n)
  element_first y xs first c n =
      alike_trans (same (λ i. subsets size (avoiding_first is_before size y xs irreflexive first i) (suc c) n ++ at_first is_before size y xs irreflexive first c n i))
      (swapped (subsets size xs (suc c) n) (in_front (size y) y (subsets size xs c) n))

  -- each list has an element once or not at all
  by_element : (x : X) (xs : List X) → Ascends (λ y z. (is_before y z ≡ true) × (is_before z y ≡ false)) xs → IsIn x xs → (c n : ℕ)
      → Alike (avoiding is_before size x xs (suc c) n ++ with_it x xs c n) (subsets size xs (suc c) n)
  by_element x [] climbs there c n = absurd there
  by_element x (y ∷ xs) climbs (inl is_first) c n =
      subst (λ z. Alike (avoiding is_before size z (y ∷ xs) (suc c) n ++ with_it z (y ∷ xs) c n) (subsets size (y ∷ xs) (suc c) n)) (sym is_first)
      (element_first y xs climbs.0 c n)
  by_element x (y ∷ xs) climbs (inr there) zero n =
      alike_trans
      (same
      ((λ i. subsets size (avoiding_later is_before size y xs irreflexive climbs.0 x there i) 1 n
      ++ enlarged (put is_before x) (size x) (subsets size (avoiding_later is_before size y xs irreflexive climbs.0 x there i) 0) n)
      ∙ append_assoc (in_front (size y) y (avoiding is_before size x xs 0) n) (avoiding is_before size x xs 1 n) (with_it x xs 0 n)))
      (alike_joined (in_front (size y) y (avoiding is_before size x xs 0) n) (in_front (size y) y (subsets size xs 0) n)
      (avoiding is_before size x xs 1 n ++ with_it x xs 0 n) (subsets size xs 1 n)
      (same (λ i. in_front (size y) y (λ m. (no_subsets size (filter (differs is_before x) xs) m ∙ sym (no_subsets size xs m)) i) n))
      (by_element x xs climbs.1 there 0 n))
  by_element x (y ∷ xs) climbs (inr there) (suc c) n =
      alike_trans
      (same (λ i. subsets size (avoiding_later is_before size y xs irreflexive climbs.0 x there i) (suc (suc c)) n
      ++ at_later is_before size y xs irreflexive climbs.0 x there c n i))
      (alike_trans
      (exchanged (in_front (size y) y (avoiding is_before size x xs (suc c)) n) (avoiding is_before size x xs (suc (suc c)) n)
      (in_front (size y) y (with_it x xs c) n) (with_it x xs (suc c) n))
      (alike_joined (in_front (size y) y (avoiding is_before size x xs (suc c)) n ++ in_front (size y) y (with_it x xs c) n) (in_front (size y) y (subsets size xs (suc c)) n)
      (avoiding is_before size x xs (suc (suc c)) n ++ with_it x xs (suc c) n) (subsets size xs (suc (suc c)) n)
      (alike_trans (same (sym (enlarged_both (λ ys. y ∷ ys) (size y) (avoiding is_before size x xs (suc c)) (with_it x xs c) n)))
      (enlarged_alike (λ ys. y ∷ ys) (size y) (λ m. avoiding is_before size x xs (suc c) m ++ with_it x xs c m) (subsets size xs (suc c)) n
      (λ m. by_element x xs climbs.1 there c m)))
      (by_element x xs climbs.1 there (suc c) n)))

  module _ (x : X) (xs : List X) (climbs : Ascends (λ y z. (is_before y z ≡ true) × (is_before z y ≡ false)) xs) (there : IsIn x xs) where
    number_apart : (c n : ℕ) → number_of_subsets size xs (suc c) n ≡ length (avoiding is_before size x xs (suc c) n) + with_less (size x) (λ m. length (avoiding is_before size x xs c m)) n
    number_apart c n =
        sym (alike_number (avoiding is_before size x xs (suc c) n ++ with_it x xs c n) (subsets size xs (suc c) n) (by_element x xs climbs there c n))
        ∙ length-append (avoiding is_before size x xs (suc c) n) (with_it x xs c n)
        ∙ ap (λ (k : ℕ). length (avoiding is_before size x xs (suc c) n) + k) (enlarged_length (put is_before x) (size x) (avoiding is_before size x xs c) n)

    avoiding_number : (c n : ℕ) → length (avoiding is_before size x xs c n) ≡ number_avoiding (number_of_subsets size xs) (size x) c n
    avoiding_number zero n = ap length (no_subsets size (filter (differs is_before x) xs) n ∙ sym (no_subsets size xs n))
    avoiding_number (suc c) n =
        less (length (avoiding is_before size x xs (suc c) n)) (number_of_subsets size xs (suc c) n)
        (with_less (size x) (λ m. length (avoiding is_before size x xs c m)) n) (with_less (size x) (number_avoiding (number_of_subsets size xs) (size x) c) n)
        (number_apart c n) (λ i. with_less (size x) (λ m. avoiding_number c m i) n)
      where
        less : (a p w v : ℕ) → p ≡ a + w → w ≡ v → a ≡ p - v
        less a p w v whole same = omega arith

    not_more : (c n : ℕ) → with_less (size x) (number_avoiding (number_of_subsets size xs) (size x) c) n ≤ number_of_subsets size xs (suc c) n
    not_more c n =
        less (length (avoiding is_before size x xs (suc c) n)) (number_of_subsets size xs (suc c) n)
        (with_less (size x) (λ m. length (avoiding is_before size x xs c m)) n) (with_less (size x) (number_avoiding (number_of_subsets size xs) (size x) c) n)
        (number_apart c n) (λ i. with_less (size x) (λ m. avoiding_number c m i) n)
      where
        less : (a p w v : ℕ) → p ≡ a + w → w ≡ v → v ≤ p
        less a p w v whole same = omega arith

  numbers_in_order : (xs : List X) → Ascends (λ y z. (is_before y z ≡ true) × (is_before z y ≡ false)) xs → (c n : ℕ)
      → suc c * number_of_subsets size xs (suc c) n ≡ sum (map (λ x. with_less (size x) (number_avoiding (number_of_subsets size xs) (size x) c) n) xs)
  numbers_in_order xs climbs c n =
      sym (met_number (suc c) (pointed_subsets is_before size xs (suc c) n) (subsets size xs (suc c) n) (subsets_met is_before size irreflexive xs climbs (suc c) n))
      ∙ length_made (λ x. with_it x xs c n) xs
      ∙ sum_same (λ x. length (with_it x xs c n)) (λ x. with_less (size x) (number_avoiding (number_of_subsets size xs) (size x) c) n) xs
      (λ x there. enlarged_length (put is_before x) (size x) (avoiding is_before size x xs c) n
      ∙ (λ i. with_less (size x) (λ m. avoiding_number x xs climbs there c m i) n))

-- whatever the elements are
module _ {X : Type 0} (size : X → ℕ) (xs : List X) (c n : ℕ) where
  by_elements : suc c * number_of_subsets size xs (suc c) n ≡ sum (map (λ x. with_less (size x) (number_avoiding (number_of_subsets size xs) (size x) c) n) xs)
  by_elements =
      subst (λ (number : ℕ → ℕ → ℕ). suc c * number (suc c) n ≡ sum (map (λ (p : Placed X). with_less (size p.1) (number_avoiding number (size p.1) c) n) (numbered 0 xs)))
      (as_many_subsets size xs)
      (numbers_in_order is_earlier (λ (p : Placed X). size p.1) (numbered_ascending xs).irreflexive (numbered 0 xs) (numbered_ascending xs).ascends c n)
      ∙ sum_numbered (λ x. with_less (size x) (number_avoiding (number_of_subsets size xs) (size x) c) n) 0 xs

  exact : (x : X) → IsIn x xs → with_less (size x) (number_avoiding (number_of_subsets size xs) (size x) c) n ≤ number_of_subsets size xs (suc c) n
  exact x there =
      let found = in_numbered x 0 xs there in
      subst (λ (number : ℕ → ℕ → ℕ). with_less (size x) (number_avoiding number (size x) c) n ≤ number (suc c) n) (as_many_subsets size xs)
      (not_more is_earlier (λ (p : Placed X). size p.1) (numbered_ascending xs).irreflexive (found.0, x) (numbered 0 xs) (numbered_ascending xs).ascends found.1 c n)

  exact_of_size : (d : ℕ) → 0 < number_of_size size xs d → with_less d (number_avoiding (number_of_subsets size xs) d c) n ≤ number_of_subsets size xs (suc c) n
  exact_of_size d some =
      let found = of_size size d xs some in
      subst (λ (k : ℕ). with_less k (number_avoiding (number_of_subsets size xs) k c) n ≤ number_of_subsets size xs (suc c) n) found.2 (exact found.0 found.1)

  by_their_sizes : ((x : X) → IsIn x xs → 0 < size x)
      → suc c * number_of_subsets size xs (suc c) n ≡ sum (map (λ d. number_of_size size xs d * number_avoiding (number_of_subsets size xs) d c (n - d)) (range_with_len 1 n))
  by_their_sizes some =
      by_elements
      ∙ by_sizes size (λ d. with_less d (number_avoiding (number_of_subsets size xs) d c) n) n (λ d large. less_none d (number_avoiding (number_of_subsets size xs) d c) n large) xs some
      ∙ sum_same (λ d. number_of_size size xs d * with_less d (number_avoiding (number_of_subsets size xs) d c) n)
      (λ d. number_of_size size xs d * number_avoiding (number_of_subsets size xs) d c (n - d)) (range_with_len 1 n)
      (λ d there. ap (λ (k : ℕ). number_of_size size xs d * k)
      (less_some d (number_avoiding (number_of_subsets size xs) d c) n (below d (in_range d 1 n there).1)))
    where
      below : (d : ℕ) → d < 1 + n → d ≤ n
      below d small = omega arith

pub subsets_are_counted : (X : Type 0) → SubsetsAreCounted X
subsets_are_counted X = record {
  elements = by_elements;
  none = no_subsets;
  few = λ size xs c n some less. few_subsets size xs some c n less;
  sizes = by_their_sizes;
  exact = exact;
  exact_of_size = exact_of_size;
  avoiding = λ is_before size x xs c n ascending there. avoiding_number is_before size ascending.irreflexive x xs ascending.ascends there c n;
  of_small = λ size xs ys c n large. subsets_of_small size n xs ys large c n (omega arith);
}
