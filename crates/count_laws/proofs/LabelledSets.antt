-- Sets and cycles of labelled components, by the component that is taken first.
use Rattle.std.proofs.Common.{◌≡◌, ℕ, zero, suc, ◌+◌, ◌*◌, sym, ap, ◌∙◌, arith}
use Rattle.count_laws.specs.Convolution.{shifted, convolved}
use Rattle.count_laws.specs.LabelledSets.{no_components, labelled_sets, labelled_lists, labelled_cycles}
use Rattle.count_laws.specs.Laws.{LabelledComponents}
use Rattle.count_laws.proofs.Convolutions.{convolved_same, convolved_none, convolved_times, convolved_exchanged}

module _ (a : ℕ → ℕ) (never_empty : a 0 ≡ 0) where
  -- no first component is empty
  at_none : (c k : ℕ) → suc c * 0 ≡ a 0 * k
  at_none c k = by c k ∙ ap (λ (first : ℕ). first * k) (sym never_empty)
    where
      by : (c k : ℕ) → suc c * 0 ≡ 0 * k
      by c k = omega arith

  -- where the first label falls to a later component
  behind_none : (m : ℕ) → convolved a (shifted no_components) m ≡ 0 * convolved (shifted a) no_components m
  behind_none m = convolved_none a m ∙ nothing (convolved (shifted a) no_components m)
    where
      nothing : (k : ℕ) → 0 ≡ 0 * k
      nothing k = omega arith

  once_more : (c m n : ℕ) → n ≡ c * m → suc c * m ≡ m + n
  once_more c m n same = grind arith

  sets_by : (c : ℕ) → ((m : ℕ) → convolved a (shifted (labelled_sets a c)) m ≡ c * convolved (shifted a) (labelled_sets a c) m) → (n : ℕ)
      → suc c * labelled_sets a (suc c) n ≡ convolved a (labelled_sets a c) n
  sets_by c behind zero = at_none c (labelled_sets a c 0)
  sets_by c behind (suc n) = once_more c (convolved (shifted a) (labelled_sets a c) n) (convolved a (shifted (labelled_sets a c)) n) (behind n)

  sets_behind : (c m : ℕ) → convolved a (shifted (labelled_sets a c)) m ≡ c * convolved (shifted a) (labelled_sets a c) m
  sets_behind zero m = behind_none m
  sets_behind (suc c) m =
      convolved_exchanged a (shifted a) (labelled_sets a c) m
      ∙ convolved_same (shifted a) (convolved a (labelled_sets a c)) (λ k. suc c * labelled_sets a (suc c) k) m (λ k. sym (sets_by c (sets_behind c) k))
      ∙ convolved_times (suc c) (shifted a) (labelled_sets a (suc c)) m

  cycles_by : (c : ℕ) → ((m : ℕ) → convolved a (shifted (labelled_lists a c)) m ≡ c * convolved (shifted a) (labelled_lists a c) m) → (n : ℕ)
      → suc c * labelled_cycles a (suc c) n ≡ labelled_lists a (suc c) n
  cycles_by c behind zero = at_none c (labelled_lists a c 0)
  cycles_by c behind (suc n) = once_more c (convolved (shifted a) (labelled_lists a c) n) (convolved a (shifted (labelled_lists a c)) n) (behind n)

  lists_behind : (c m : ℕ) → convolved a (shifted (labelled_lists a c)) m ≡ c * convolved (shifted a) (labelled_lists a c) m
  lists_behind zero m = behind_none m
  lists_behind (suc c) m =
      convolved_same a (shifted (labelled_lists a (suc c))) (λ k. suc c * convolved (shifted a) (labelled_lists a c) k) m
      (λ k. sym (cycles_by c (lists_behind c) (suc k)))
      ∙ convolved_times (suc c) a (convolved (shifted a) (labelled_lists a c)) m
      ∙ ap (λ (k : ℕ). suc c * k) (convolved_exchanged a (shifted a) (labelled_lists a c) m)

pub labelled_components : LabelledComponents
labelled_components = record {
  sets = λ a c n never_empty. sets_by a never_empty c (sets_behind a never_empty c) n;
  cycles = λ a c n never_empty. cycles_by a never_empty c (lists_behind a never_empty c) n;
}
