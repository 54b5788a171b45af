-- The number of multisets by the elements, and by the sizes of the elements, that are put in last.
use Rattle.std.proofs.Common.{◌≡◌, ℕ, zero, suc, ◌-◌, ◌*◌, ◌<◌, ◌≤◌, Bool, List, length, map, sym, ◌∙◌, subst, arith}
use Rattle.std.specs.List.{sum, range_with_len}
use Rattle.lists.proofs.RangeSums.{sum_none, length_made, in_range}
use Rattle.count_laws.specs.Laws.{MultisetsAreCounted}
use Rattle.count_laws.specs.Multisets.{multisets}
use Rattle.count_laws.specs.Pointed.{IsAscending, put_times, enlarged, pointed_at, pointed}
use Rattle.count_laws.specs.SetNumbers.{number_of_multisets, with_less, number_pointed}
use Rattle.count_laws.proofs.BySizes.{by_sizes}
use Rattle.count_laws.proofs.Enlarged.{enlarged_length, less_none}
use Rattle.count_laws.proofs.MetTimes.{met_number}
use Rattle.count_laws.proofs.FewElements.{no_multisets, few_multisets}
use Rattle.count_laws.proofs.Larger.{multisets_of_small}
use Rattle.count_laws.proofs.Numbered.{Placed, is_earlier, numbered, numbered_ascending, sum_numbered, as_many_multisets}
use Rattle.count_laws.proofs.Pointed.{multisets_met}

module _ {X : Type 0} (size : X → ℕ) where
  pointed_length : (is_before : X → X → Bool) (xs : List X) (c n : ℕ)
      → length (pointed is_before size xs c n) ≡ sum (map (λ x. number_pointed (number_of_multisets size xs) (size x) c n) xs)
  pointed_length is_before xs c n =
      length_made (λ x. pointed_at is_before size x (multisets size xs) c n) xs ∙ (λ i. sum (map (λ x. at x i) xs))
    where
      at : (x : X) → length (pointed_at is_before size x (multisets size xs) c n) ≡ number_pointed (number_of_multisets size xs) (size x) c n
      at x =
          length_made (λ j. enlarged (put_times is_before j x) (j * size x) (multisets size xs (c - j)) n) (range_with_len 1 c)
          ∙ (λ i. sum (map (λ j. enlarged_length (put_times is_before j x) (j * size x) (multisets size xs (c - j)) n i) (range_with_len 1 c)))

  numbers_in_order : (is_before : X → X → Bool) (xs : List X) → IsAscending is_before xs → (c n : ℕ)
      → c * number_of_multisets size xs c n ≡ sum (map (λ x. number_pointed (number_of_multisets size xs) (size x) c n) xs)
  numbers_in_order is_before xs ascending c n =
      sym (met_number c (pointed is_before size xs c n) (multisets size xs c n) (multisets_met is_before size ascending.irreflexive xs ascending.ascends c n))
      ∙ pointed_length is_before xs c n

-- whatever the elements are
by_elements : {X : Type 0} (size : X → ℕ) (xs : List X) (c n : ℕ)
    → c * number_of_multisets size xs c n ≡ sum (map (λ x. number_pointed (number_of_multisets size xs) (size x) c n) xs)
by_elements {X} size xs c n =
    subst (λ (number : ℕ → ℕ → ℕ). c * number c n ≡ sum (map (λ (p : Placed X). number_pointed number (size p.1) c n) (numbered 0 xs))) (as_many_multisets size xs)
    (numbers_in_order (λ (p : Placed X). size p.1) is_earlier (numbered 0 xs) (numbered_ascending xs) c n)
    ∙ sum_numbered (λ x. number_pointed (number_of_multisets size xs) (size x) c n) 0 xs

-- no element is larger than all
pointed_none : (number : ℕ → ℕ → ℕ) (c n d : ℕ) → n < d → number_pointed number d c n ≡ 0
pointed_none number c n d large =
    sum_none (λ j. with_less (j * d) (number (c - j)) n) (range_with_len 1 c) (λ j there. less_none (j * d) (number (c - j)) n (times j (in_range j 1 c there).0))
  where
    times : (j : ℕ) → 1 ≤ j → n < j * d
    times zero some = absurd (omega arith)
    times (suc j) some = omega (arith, large)

pub multisets_are_counted : (X : Type 0) → MultisetsAreCounted X
multisets_are_counted X = record {
  none = no_multisets;
  few = λ size xs c n some less. few_multisets size xs some c n less;
  elements = by_elements;
  sizes = λ size xs c n some.
      by_elements size xs c n
      ∙ by_sizes size (λ d. number_pointed (number_of_multisets size xs) d c n) n (pointed_none (number_of_multisets size xs) c n) xs some;
  of_small = λ size xs ys c n large. multisets_of_small size n xs ys large c n (omega arith);
}
