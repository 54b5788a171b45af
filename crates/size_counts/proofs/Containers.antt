-- The numbers of containers by the number of components, and what a row has of them.
use Rattle.std.proofs.Common.{◌≡◌, ◌⊎◌, ℕ, zero, suc, ◌+◌, ◌-◌, ◌*◌, ◌/◌, ◌<◌, ◌≤◌, length, map, Some, None, slice_get, refl, sym, ap, ◌∙◌, inl, inr, arith}
use Rattle.std.specs.Prelude.{IsTrue}
use Rattle.std.specs.Option.{option_map}
use Rattle.std.specs.List.{sum, range_with_len}
use Rattle.std.proofs.lemmas.Nat.{div-mul-add}
use Rattle.std.proofs.lemmas.List.{length-map}
use Rattle.std.proofs.lemmas.List.FromFn.{length-map-range_with_len}
use Rattle.std.proofs.lemmas.Option.{slice_get-map}
use Rattle.lists.specs.Enumeration.{IsIn}
use Rattle.lists.proofs.RangeSums.{sum_first}
use Rattle.spec_syntax.specs.declared.expr.Card.{Card}
use Rattle.spec_syntax.specs.declared.expr.Kind.{Kind}
use Rattle.spec_syntax.specs.declared.expr.Kind.TheVariants as kinds
use Rattle.spec_syntax.specs.declared.statement.Universe.{Universe}
use Rattle.spec_syntax.specs.declared.statement.Universe.TheVariants.{Labelled}
use Rattle.spec_syntax.specs.Expression.{Expression, Many}
use Rattle.spec_syntax.specs.Rules.{all_nodes, is_spec}
use Rattle.spec_syntax.specs.Grammar.{Grammar}
use Rattle.struct_model.specs.Bounded.{number}
use Rattle.count_laws.specs.Convolution.{shifted, convolved}
use Rattle.count_laws.proofs.Binomials.{with_binomials}
use Rattle.well_founded.specs.NodeKinds.{container}
use Rattle.well_founded.specs.WellFounded.{IsWellFounded}
use Rattle.listing_laws.specs.Numbers.{ways}
use Rattle.listing_laws.specs.ContainersRecur.{of_components}
use Rattle.listing_laws.proofs.ContainersRecur.{is_of_labelled}
use Rattle.size_counts.specs.Numbers.{Numbered, numbers_at, others_at, lists_at, sets_at, most_components}
use Rattle.size_counts.specs.Components.{rest_kind, first_ways, of_none, in_row, rests_of}
use Rattle.size_counts.specs.Told.{values}
use Rattle.size_counts.proofs.Law.{recur, counted, containers, labelled}
use Rattle.size_counts.proofs.SumLemmas.{joined_to}
use Rattle.size_counts.proofs.TableLemmas.{made_at, none_made}

pub divided : (c n : ℕ) → 1 ≤ c → c * n / c ≡ n
divided c n low = ap (λ (k : ℕ). k / c) (turned c n) ∙ div-mul-add n c 0 low
  where
    turned : (c n : ℕ) → c * n ≡ n * c + 0
    turned c n = omega arith

-- where there is no container, a row has 0
pub in_row_none : (kind : Kind) (c : ℕ) → in_row (container kind) c 0 ≡ 0
in_row_none kinds.Sequence c = refl
in_row_none kinds.Set c = omega arith
in_row_none kinds.PowerSet c = omega arith
in_row_none kinds.Cycle c = omega arith

-- a sum whose first term is 0, by the others
one_behind : (f h : ℕ → ℕ) (n : ℕ) → f 0 ≡ 0 → ((d : ℕ) → f (suc d) ≡ h d) → sum (map f (range_with_len 0 (suc n + 1))) ≡ sum (map h (range_with_len 0 (n + 1)))
one_behind f h n none same =
    ap (λ (k : ℕ). sum (map f (range_with_len 0 k))) (next n) ∙ sum_first f (n + 1)
    ∙ without (f 0) (sum (map (λ d. f (suc d)) (range_with_len 0 (n + 1)))) none
    ∙ ap (λ (k : ℕ → ℕ). sum (map k (range_with_len 0 (n + 1)))) (λ i d. same d i)
  where
    next : (n : ℕ) → suc n + 1 ≡ suc (n + 1)
    next n = omega arith

    without : (a b : ℕ) → a ≡ 0 → a + b ≡ b
    without a b is = omega arith

-- the first label falls to the first component
by_label : (universe : Universe) (first rests : ℕ → ℕ) (m : ℕ) → universe ≡ Labelled → first 0 ≡ 0
    → convolved (shifted first) rests m ≡ joined_to (λ d. ways universe (suc m - 1) (d - 1)) first rests (suc m) (suc m + 1)
by_label universe first rests m is none =
    with_binomials (shifted first) rests m
    ∙ sym (one_behind (λ d. ways Labelled m (d - 1) * (first d * rests (suc m - d))) (λ d. ways Labelled m d * (first (suc d) * rests (m - d))) m
    (nothing (ways Labelled m (0 - 1)) (first 0) (rests (suc m - 0)) none) (λ d i. ways Labelled m (less d i) * (first (suc d) * rests (both d i))))
    ∙ (λ i. joined_to (λ d. ways (is_back i) (one_less i) (d - 1)) first rests (suc m) (suc m + 1))
  where
    is_back : Labelled ≡ universe
    is_back = sym is

    one_less : m ≡ suc m - 1
    one_less = omega arith

    less : (d : ℕ) → suc d - 1 ≡ d
    less d = omega arith

    both : (d : ℕ) → suc m - suc d ≡ m - d
    both d = omega arith

    nothing : (a b c : ℕ) → b ≡ 0 → a * (b * c) ≡ 0
    nothing a b c is_none = ap (λ (k : ℕ). a * (k * c)) is_none ∙ zero_times a c
      where
        zero_times : (a c : ℕ) → a * (0 * c) ≡ 0
        zero_times a c = omega arith

module _ (g : Grammar) (e : Expression) (card : Card) (spec : IsTrue (is_spec g.rules)) (founded : IsWellFounded g) where
  no_null : (kind : Kind) → IsIn (Many kind e card) (all_nodes g.rules) → number g e 0 ≡ 0
  no_null kind inside = recur.element g kind e card spec founded inside

  pub none_is : (kind : Kind) (m : ℕ) → IsIn (Many kind e card) (all_nodes g.rules) → of_components g kind e 0 m ≡ of_none (container kind) m
  none_is kinds.Sequence m inside = recur.no_lists g e card m spec founded inside
  none_is kinds.Set m inside = containers.no_sets g e card m spec founded inside
  none_is kinds.PowerSet m inside = containers.no_power_sets g e card m spec founded inside
  none_is kinds.Cycle m inside = containers.no_cycles g e card m spec founded inside

  -- the lists of a Cycle
  pub cycle_lists : (c m : ℕ) → 1 ≤ c → IsIn (Many kinds.Cycle e card) (all_nodes g.rules) → of_components g kinds.Sequence e c m ≡ c * of_components g kinds.Cycle e c m
  cycle_lists zero m low inside = absurd (omega arith)
  cycle_lists (suc c) m low inside = sym (containers.cycles g e card c m spec founded inside)

  pub few_rests : (kind : Kind) (c m : ℕ) → 1 ≤ c → m < c → IsIn (Many kind e card) (all_nodes g.rules) → of_components g (rest_kind kind) e c m ≡ 0
  few_rests kinds.Sequence c m low few inside = counted.few g kinds.Sequence e card c m spec founded inside few
  few_rests kinds.Set c m low few inside = counted.few g kinds.Set e card c m spec founded inside few
  few_rests kinds.PowerSet c m low few inside = counted.few g kinds.PowerSet e card c m spec founded inside few
  few_rests kinds.Cycle c m low few inside =
      cycle_lists c m low inside ∙ ap (λ (k : ℕ). c * k) (counted.few g kinds.Cycle e card c m spec founded inside few) ∙ nothing c
    where
      nothing : (c : ℕ) → c * 0 ≡ 0
      nothing c = omega arith

  -- the rests of c components by what a row has
  pub rests_are : (kind : Kind) (c m : ℕ) → 1 ≤ c → IsIn (Many kind e card) (all_nodes g.rules)
      → rests_of (container kind) c (in_row (container kind) c (of_components g kind e c m)) ≡ of_components g (rest_kind kind) e c m
  rests_are kind zero m low inside = absurd (omega arith)
  rests_are kinds.Sequence (suc c) m low inside = refl
  rests_are kinds.Set (suc c) m low inside = divided (suc c) (of_components g kinds.Set e (suc c) m) low
  rests_are kinds.PowerSet (suc c) m low inside = divided (suc c) (of_components g kinds.PowerSet e (suc c) m) low
  rests_are kinds.Cycle (suc c) m low inside = sym (cycle_lists (suc c) m low inside)

  -- containers of one component more by their first one
  pub by_first : (kind : Kind) (c m : ℕ) → (kind ≡ kinds.Sequence) ⊎ (g.universe ≡ Labelled) → IsIn (Many kind e card) (all_nodes g.rules)
      → of_components g kind e (suc c) m ≡ joined_to (first_ways g.universe (container kind) m) (number g e) (of_components g (rest_kind kind) e c) m (m + 1)
  by_first kind c m may inside = by kind m may inside
    where
      is_labelled : (kind : Kind) → (container kind ≡ container kinds.Sequence → ⊥) → (kind ≡ kinds.Sequence) ⊎ (g.universe ≡ Labelled) → g.universe ≡ Labelled
      is_labelled kind other (inl same) = absurd (other (ap container same))
      is_labelled kind other (inr is) = is

      none_to : (weight rests : ℕ → ℕ) → number g e 0 ≡ 0 → 0 ≡ joined_to weight (number g e) rests 0 1
      none_to weight rests none = nothing (weight 0) (number g e 0) (rests 0) none
        where
          nothing : (a b c : ℕ) → b ≡ 0 → 0 ≡ 0 + a * (b * c)
          nothing a b c is_none = zero_times a c ∙ ap (λ (k : ℕ). 0 + a * (k * c)) (sym is_none)
            where
              zero_times : (a c : ℕ) → 0 ≡ 0 + a * (0 * c)
              zero_times a c = omega arith

      by : (kind : Kind) (m : ℕ) → (kind ≡ kinds.Sequence) ⊎ (g.universe ≡ Labelled) → IsIn (Many kind e card) (all_nodes g.rules)
          → of_components g kind e (suc c) m ≡ joined_to (first_ways g.universe (container kind) m) (number g e) (of_components g (rest_kind kind) e c) m (m + 1)
      by kinds.Sequence m may inside = recur.lists g e card c m spec founded inside
      by kinds.Set zero may inside = counted.few g kinds.Set e card (suc c) 0 spec founded inside (omega arith) ∙ none_to (first_ways g.universe (container kinds.Set) 0) (of_components g (rest_kind kinds.Set) e c) (no_null kinds.Set inside)
      by kinds.Set (suc m) may inside =
          let is = is_labelled kinds.Set (λ wrong. cc) may in
          labelled.sets g kinds.Set e card (suc c) (suc m) spec founded is inside
          ∙ ap (λ (rests : ℕ → ℕ). convolved (shifted (number g e)) rests m) (λ i k. sym (labelled.sets g kinds.Set e card c k spec founded is inside) i)
          ∙ by_label g.universe (number g e) (of_components g kinds.Set e c) m is (no_null kinds.Set inside)
      by kinds.PowerSet zero may inside = counted.few g kinds.PowerSet e card (suc c) 0 spec founded inside (omega arith) ∙ none_to (first_ways g.universe (container kinds.PowerSet) 0) (of_components g (rest_kind kinds.PowerSet) e c) (no_null kinds.PowerSet inside)
      by kinds.PowerSet (suc m) may inside =
          let is = is_labelled kinds.PowerSet (λ wrong. cc) may in
          labelled.power_sets g kinds.PowerSet e card (suc c) (suc m) spec founded is inside
          ∙ ap (λ (rests : ℕ → ℕ). convolved (shifted (number g e)) rests m) (λ i k. sym (labelled.power_sets g kinds.PowerSet e card c k spec founded is inside) i)
          ∙ by_label g.universe (number g e) (of_components g kinds.PowerSet e c) m is (no_null kinds.PowerSet inside)
      by kinds.Cycle zero may inside = counted.few g kinds.Cycle e card (suc c) 0 spec founded inside (omega arith) ∙ none_to (first_ways g.universe (container kinds.Cycle) 0) (of_components g (rest_kind kinds.Cycle) e c) (no_null kinds.Cycle inside)
      by kinds.Cycle (suc m) may inside =
          let is = is_labelled kinds.Cycle (λ wrong. cc) may in
          labelled.cycles g kinds.Cycle e card (suc c) (suc m) spec founded is inside
          ∙ ap (λ (rests : ℕ → ℕ). convolved (shifted (number g e)) rests m) (λ i k. sym (labelled.sequences g kinds.Cycle e card c k spec founded is inside) i)
          ∙ by_label g.universe (number g e) (of_components g kinds.Sequence e c) m is (no_null kinds.Cycle inside)

  -- a Cycle is labelled
  pub cycle_labelled : IsIn (Many kinds.Cycle e card) (all_nodes g.rules) → g.universe ≡ Labelled
  cycle_labelled inside = is_of_labelled g e card founded.no_cycles inside

  -- what a row has, by the number of components
  pub row_value : (kind : Kind) (m c : ℕ) → 1 ≤ c → c ≤ most_components card m → IsIn (Many kind e card) (all_nodes g.rules)
      → slice_get (values (numbers_at g (Many kind e card) m)) c ≡ Some (in_row (container kind) c (of_components g kind e c m))
  row_value kind m zero low high inside = absurd (omega arith)
  row_value kinds.Sequence m (suc j) low high inside =
      slice_get-map (λ (numbered : Numbered). numbered.number) (lists_at g e card m) j ∙ ap (option_map (λ (numbered : Numbered). numbered.number)) (made_at _ 1 (most_components card m) j (omega arith))
      ∙ ap (λ (k : ℕ). Some (of_components g kinds.Sequence e k m)) (one j)
    where
      one : (j : ℕ) → 1 + j ≡ suc j
      one j = omega arith
  row_value kinds.Set m (suc j) low high inside =
      slice_get-map (λ (numbered : Numbered). numbered.number) (sets_at g kinds.Set e card m) j ∙ ap (option_map (λ (numbered : Numbered). numbered.number)) (made_at _ 1 (most_components card m) j (omega arith))
      ∙ ap (λ (k : ℕ). Some (k * of_components g kinds.Set e k m)) (one j)
    where
      one : (j : ℕ) → 1 + j ≡ suc j
      one j = omega arith
  row_value kinds.PowerSet m (suc j) low high inside =
      slice_get-map (λ (numbered : Numbered). numbered.number) (sets_at g kinds.PowerSet e card m) j ∙ ap (option_map (λ (numbered : Numbered). numbered.number)) (made_at _ 1 (most_components card m) j (omega arith))
      ∙ ap (λ (k : ℕ). Some (k * of_components g kinds.PowerSet e k m)) (one j)
    where
      one : (j : ℕ) → 1 + j ≡ suc j
      one j = omega arith
  row_value kinds.Cycle m (suc j) low high inside =
      slice_get-map (λ (numbered : Numbered). numbered.number) (lists_at g e card m) j ∙ ap (option_map (λ (numbered : Numbered). numbered.number)) (made_at _ 1 (most_components card m) j (omega arith))
      ∙ ap (λ (k : ℕ). Some (of_components g kinds.Sequence e k m)) (one j) ∙ ap Some (cycle_lists (suc j) m low inside)
    where
      one : (j : ℕ) → 1 + j ≡ suc j
      one j = omega arith

  pub no_row_value : (kind : Kind) (m c : ℕ) → most_components card m < c → slice_get (values (numbers_at g (Many kind e card) m)) c ≡ None
  no_row_value kind m zero past = absurd (omega arith)
  no_row_value kinds.Sequence m (suc j) past =
      slice_get-map (λ (numbered : Numbered). numbered.number) (lists_at g e card m) j ∙ ap (option_map (λ (numbered : Numbered). numbered.number)) (none_made _ 1 (most_components card m) j (omega arith))
  no_row_value kinds.Set m (suc j) past =
      slice_get-map (λ (numbered : Numbered). numbered.number) (sets_at g kinds.Set e card m) j ∙ ap (option_map (λ (numbered : Numbered). numbered.number)) (none_made _ 1 (most_components card m) j (omega arith))
  no_row_value kinds.PowerSet m (suc j) past =
      slice_get-map (λ (numbered : Numbered). numbered.number) (sets_at g kinds.PowerSet e card m) j ∙ ap (option_map (λ (numbered : Numbered). numbered.number)) (none_made _ 1 (most_components card m) j (omega arith))
  no_row_value kinds.Cycle m (suc j) past =
      slice_get-map (λ (numbered : Numbered). numbered.number) (lists_at g e card m) j ∙ ap (option_map (λ (numbered : Numbered). numbered.number)) (none_made _ 1 (most_components card m) j (omega arith))

-- how many numbers a container has beside its count
pub others_count : (g : Grammar) (e : Expression) (card : Card) (kind : Kind) (m : ℕ) → length (values (others_at g (Many kind e card) m)) ≡ most_components card m
others_count g e card kinds.Sequence m = length-map (lists_at g e card m) (λ (numbered : Numbered). numbered.number) ∙ length-map-range_with_len _ 1 (most_components card m)
others_count g e card kinds.Set m = length-map (sets_at g kinds.Set e card m) (λ (numbered : Numbered). numbered.number) ∙ length-map-range_with_len _ 1 (most_components card m)
others_count g e card kinds.PowerSet m = length-map (sets_at g kinds.PowerSet e card m) (λ (numbered : Numbered). numbered.number) ∙ length-map-range_with_len _ 1 (most_components card m)
others_count g e card kinds.Cycle m = length-map (lists_at g e card m) (λ (numbered : Numbered). numbered.number) ∙ length-map-range_with_len _ 1 (most_components card m)
