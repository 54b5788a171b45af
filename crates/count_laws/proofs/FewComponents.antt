-- Labelled sets, lists and cycles of one component, and of more components than labels.
use Rattle.std.proofs.Common.{◌≡◌, ℕ, zero, suc, ◌+◌, ◌*◌, ◌<◌, ◌≤◌, refl, sym, ap, ◌∙◌, arith}
use Rattle.count_laws.specs.Convolution.{shifted, convolved}
use Rattle.count_laws.specs.LabelledSets.{no_components, labelled_sets, labelled_lists, labelled_cycles}
use Rattle.count_laws.proofs.Convolutions.{convolved_none}

no_more : (k : ℕ) → k * 0 ≡ 0
no_more k = omega arith

no_first : (k : ℕ) → 0 * k ≡ 0
no_first k = omega arith

both_none : (j k : ℕ) → j ≡ 0 → k ≡ 0 → j + k ≡ 0
both_none j k p q = omega arith

-- where there is nothing to share with on so many labels and fewer
convolved_nothing : (f h : ℕ → ℕ) (n : ℕ) → ((k : ℕ) → k ≤ n → h k ≡ 0) → convolved f h n ≡ 0
convolved_nothing f h zero none = ap (λ (k : ℕ). f 0 * k) (none 0 (omega arith)) ∙ no_more (f 0)
convolved_nothing f h (suc n) none =
    both_none (convolved (shifted f) h n) (convolved f (shifted h) n) (convolved_nothing (shifted f) h n (λ k small. none k (up k small)))
    (convolved_nothing f (shifted h) n (λ k small. none (suc k) (next k small)))
  where
    up : (k : ℕ) → k ≤ n → k ≤ suc n
    up k small = omega arith

    next : (k : ℕ) → k ≤ n → suc k ≤ suc n
    next k small = omega arith

-- where nothing is there on no label, and nothing to share with on fewer labels
convolved_fewer : (a h : ℕ → ℕ) (n : ℕ) → a 0 ≡ 0 → ((k : ℕ) → k < n → h k ≡ 0) → convolved a h n ≡ 0
convolved_fewer a h zero never_empty none = ap (λ (k : ℕ). k * h 0) never_empty ∙ no_first (h 0)
convolved_fewer a h (suc n) never_empty none =
    both_none (convolved (shifted a) h n) (convolved a (shifted h) n) (convolved_nothing (shifted a) h n (λ k small. none k (up k small)))
    (convolved_fewer a (shifted h) n never_empty (λ k small. none (suc k) (next k small)))
  where
    up : (k : ℕ) → k ≤ n → k < suc n
    up k small = omega arith

    next : (k : ℕ) → k < n → suc k < suc n
    next k small = omega arith

-- shared with nothing but no label
convolved_alone : (f : ℕ → ℕ) (n : ℕ) → convolved f no_components n ≡ f n
convolved_alone f zero = once (f 0)
  where
    once : (k : ℕ) → k * 1 ≡ k
    once k = omega arith
convolved_alone f (suc n) = alone (convolved (shifted f) no_components n) (convolved f (shifted no_components) n) (f (suc n)) (convolved_alone (shifted f) n) (convolved_none f n)
  where
    alone : (j k m : ℕ) → j ≡ m → k ≡ 0 → j + k ≡ m
    alone j k m p q = omega arith

module _ (a : ℕ → ℕ) where
  pub few_sets : (c n : ℕ) → n < c → labelled_sets a c n ≡ 0
  few_sets zero n less = absurd (omega arith)
  few_sets (suc c) zero less = refl
  few_sets (suc c) (suc n) less = convolved_nothing (shifted a) (labelled_sets a c) n (λ k small. few_sets c k (omega arith))

  pub one_list : (n : ℕ) → labelled_lists a 1 n ≡ a n
  one_list n = convolved_alone a n

  module _ (never_empty : a 0 ≡ 0) where
    pub few_lists : (c n : ℕ) → n < c → labelled_lists a c n ≡ 0
    few_lists zero n less = absurd (omega arith)
    few_lists (suc c) n less = convolved_fewer a (labelled_lists a c) n never_empty (λ k small. few_lists c k (omega arith))

    pub few_cycles : (c n : ℕ) → n < c → labelled_cycles a c n ≡ 0
    few_cycles zero n less = refl
    few_cycles (suc c) zero less = refl
    few_cycles (suc c) (suc n) less = convolved_nothing (shifted a) (labelled_lists a c) n (λ k small. few_lists c k (omega arith))

    pub one_set : (n : ℕ) → labelled_sets a 1 n ≡ a n
    one_set zero = sym never_empty
    one_set (suc n) = convolved_alone (shifted a) n

    pub one_cycle : (n : ℕ) → labelled_cycles a 1 n ≡ a n
    one_cycle zero = sym never_empty
    one_cycle (suc n) = convolved_alone (shifted a) n
