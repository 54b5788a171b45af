-- Sums over the splits of a supply of what the lengths of the part and of the rest give.
use Rattle.std.proofs.Common.{◌≡◌, ℕ, suc, ◌+◌, ◌-◌, ◌*◌, ◌<◌, true, List, [], ◌∷◌, ◌++◌, map, filter, length, replicate, nat_lt, refl, sym, ap, ◌∙◌, subst, inl, inr, arith}
use Rattle.std.specs.List.{sum, range_with_len}
use Rattle.std.proofs.lemmas.Bool.{and_parts, ltb-true, lt-ltb}
use Rattle.std.proofs.lemmas.List.{length-replicate}
use Rattle.lists.specs.Ascending.{ascends_above}
use Rattle.lists.specs.Enumeration.{IsIn}
use Rattle.lists.proofs.Within.{in_either}
use Rattle.lists.proofs.Enumerated.{from_map, from_filter}
use Rattle.lists.proofs.Filters.{filter_all}
use Rattle.lists.proofs.Sums.{sum_more}
use Rattle.lists.proofs.RangeSums.{sum_same, sum_append, sum_map}
use Rattle.count_laws.specs.Convolution.{shifted, convolved}
use Rattle.splits.specs.Splits.{Split, taking, leaving, begins_above, splits}
use Rattle.splits.proofs.ZeroSplits.{of_zeros, splits-replicate}

-- what a split gives, where first and others tell the numbers for so many labels
abbrev pub shared : (ℕ → ℕ) → (ℕ → ℕ) → Split → ℕ
shared first others split = first (length split.part) * others (length split.rest)

-- the splits with a label in the part
abbrev pub later : List ℕ → List Split
later [] = []
later (label ∷ labels) = map (taking label) (splits labels) ++ map (leaving label) (filter (begins_above label) (splits labels))

abbrev pub none_taken : List ℕ → Split
none_taken labels = record { part = []; rest = labels }

pub none_first : (u : List ℕ) → splits u ≡ none_taken u ∷ later u
none_first [] = refl
none_first (label ∷ labels) = refl

begins_lower : (low label : ℕ) (part rest : List ℕ) → low < label → begins_above label (record { part = part; rest = rest }) ≡ true → begins_above low (record { part = part; rest = rest }) ≡ true
begins_lower low label [] rest above begun = begun
begins_lower low label (n ∷ part) rest above begun = lt-ltb low n (omega (arith, ltb-true label n begun))

pub later_begin : (low : ℕ) (u : List ℕ) → ascends_above low u ≡ true → (split : Split) → IsIn split (later u) → begins_above low split ≡ true
later_begin low [] climbs split there = absurd there
later_begin low (label ∷ labels) climbs split there =
    let first : nat_lt low label ≡ true = (and_parts (nat_lt low label) (ascends_above label labels) climbs).0 in
    elim (in_either split (map (taking label) (splits labels)) (map (leaving label) (filter (begins_above label) (splits labels))) there) [
      | inl taken ↦
          let found = from_map (taking label) split (splits labels) taken in
          subst (λ (s : Split). begins_above low s ≡ true) (sym found.2) first
      | inr left ↦
          let found = from_map (leaving label) split (filter (begins_above label) (splits labels)) left in
          let begun : begins_above label found.0 ≡ true = (from_filter (begins_above label) found.0 (splits labels) found.1).1 in
          subst (λ (s : Split). begins_above low s ≡ true) (sym found.2) (begins_lower low label found.0.part found.0.rest (ltb-true low label first) begun)
    ]

-- above a label that is less than all of them begins each part with a label
pub later_only : (low : ℕ) (u : List ℕ) → ascends_above low u ≡ true → filter (begins_above low) (splits u) ≡ later u
later_only low u climbs = ap (filter (begins_above low)) (none_first u) ∙ filter_all (begins_above low) (later u) (later_begin low u climbs)

-- over ascending labels the sum goes by what becomes of the first label
pub labels_shared : (first others : ℕ → ℕ) (low : ℕ) (u : List ℕ) → ascends_above low u ≡ true
    → sum (map (shared first others) (splits u)) ≡ convolved first others (length u)
labels_shared first others low [] climbs = once (first 0 * others 0)
  where
    once : (k : ℕ) → 0 + k ≡ k
    once k = omega arith
labels_shared first others low (label ∷ labels) climbs =
    let climbing : ascends_above label labels ≡ true = (and_parts (nat_lt low label) (ascends_above label labels) climbs).1 in
    let taken : List Split = map (taking label) (splits labels) in
    let left : List Split = map (leaving label) (filter (begins_above label) (splits labels)) in
    let takes : sum (map (shared first others) taken) ≡ convolved (shifted first) others (length labels)
    = sum_map (shared first others) (taking label) (splits labels) ∙ labels_shared (shifted first) others label labels climbing in
    let leaves : sum (map (shared first others) left) ≡ sum (map (shared first (shifted others)) (later labels))
    = sum_map (shared first others) (leaving label) (filter (begins_above label) (splits labels))
    ∙ ap (λ (ss : List Split). sum (map (shared first (shifted others)) ss)) (later_only label labels climbing) in
    let all_left : first 0 * others (suc (length labels)) + sum (map (shared first (shifted others)) (later labels)) ≡ convolved first (shifted others) (length labels)
    = sym (sum_more (shared first (shifted others) (none_taken labels)) (map (shared first (shifted others)) (later labels)))
    ∙ ap (λ (ss : List Split). sum (map (shared first (shifted others)) ss)) (sym (none_first labels))
    ∙ labels_shared first (shifted others) label labels climbing in
    sum_more (shared first others (none_taken (label ∷ labels))) (map (shared first others) (taken ++ left))
    ∙ ap (λ (rest : ℕ). first 0 * others (suc (length labels)) + rest) (sum_append (shared first others) taken left)
    ∙ regroup (first 0 * others (suc (length labels))) (sum (map (shared first others) taken)) (sum (map (shared first others) left))
    (convolved (shifted first) others (length labels)) (convolved first (shifted others) (length labels))
    takes (ap (λ (rest : ℕ). first 0 * others (suc (length labels)) + rest) leaves ∙ all_left)
  where
    regroup : (a b c x y : ℕ) → b ≡ x → a + c ≡ y → a + (b + c) ≡ x + y
    regroup a b c x y p q = omega arith

-- over zeros the sum goes by the number of them in the part
pub zeros_shared : (first others : ℕ → ℕ) (n : ℕ) → sum (map (shared first others) (splits (replicate n 0))) ≡ sum (map (λ d. first d * others (n - d)) (range_with_len 0 (n + 1)))
zeros_shared first others n =
    ap (λ (ss : List Split). sum (map (shared first others) ss)) (splits-replicate n) ∙ sum_map (shared first others) (of_zeros n) (range_with_len 0 (n + 1))
    ∙ sum_same (λ d. shared first others (of_zeros n d)) (λ d. first d * others (n - d)) (range_with_len 0 (n + 1))
    (λ d there. λ i. first (length-replicate {A = ℕ} d 0 i) * others (length-replicate {A = ℕ} (n - d) 0 i))
