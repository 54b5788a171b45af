-- The numbers of containers with so many components, by those with fewer.
use Rattle.std.proofs.Common.{◌≡◌, ℕ, zero, suc, ◌-◌, ◌*◌, ◌<◌, ◌≤◌, Bool, true, false, ◌||◌, List, map, refl, sym, ap, ◌∙◌, subst, arith, true≢false}
use Rattle.std.specs.Prelude.{IsTrue}
use Rattle.std.specs.List.{sum, list_all, range_with_len}
use Rattle.spec_syntax.specs.declared.statement.Universe.{Universe}
use Rattle.spec_syntax.specs.declared.statement.Universe.TheVariants.{Labelled, Unlabelled}
use Rattle.spec_syntax.specs.declared.expr.Card.{Card}
use Rattle.spec_syntax.specs.declared.expr.Kind.{Kind}
use Rattle.spec_syntax.specs.declared.expr.Kind.TheVariants as kind
use Rattle.spec_syntax.specs.Expression.{Expression, Many, preorder}
use Rattle.spec_syntax.specs.Rules.{all_nodes, is_spec}
use Rattle.spec_syntax.specs.Grammar.{Grammar}
use Rattle.lists.specs.Enumeration.{IsIn}
use Rattle.lists.proofs.Enumerated.{from_flat_map}
use Rattle.lists.proofs.Tests.{passes}
use Rattle.struct_model.specs.Membership.{is_labelled}
use Rattle.struct_model.specs.Bounded.{number}
use Rattle.well_founded.specs.WellFounded.{is_no_cycle, HoldsCycle, OfNone, IsWellFounded}
use Rattle.count_laws.specs.Convolution.{convolved}
use Rattle.count_laws.specs.LabelledSets.{no_components, labelled_sets, labelled_lists, labelled_cycles}
use Rattle.count_laws.specs.SetNumbers.{with_less, number_pointed, number_avoiding}
use Rattle.count_laws.proofs.Binomials.{with_binomials}
use Rattle.count_laws.proofs.LabelledSets.{labelled_components}
use Rattle.listing_laws.specs.Numbers.{joined, one_at}
use Rattle.listing_laws.specs.ContainersRecur.{of_components, ContainersRecur}
use Rattle.listing_laws.proofs.ByComponents.{containers_are_counted}
use Rattle.listing_laws.proofs.Joined.{at_other, joined_empty}
use Rattle.listing_laws.proofs.LeastNumbers.{labelled_containers_are_counted}
use Rattle.listing_laws.proofs.Numbers.{numbers_recur}
use Rattle.listing_laws.proofs.SizedElements.{once, with_repeats, multisets_recur, no_multiset, one_multiset, without_repeats, subsets_recur, subsets_exact, no_subset, one_subset}

none_on_labels : (n : ℕ) → no_components n ≡ one_at 0 n
none_on_labels zero = refl
none_on_labels (suc n) = sym (at_other 0 (suc n) (λ same. omega arith))

-- shared out with nothing, all labels are left to the first
one_on_labels : (first : ℕ → ℕ) (n : ℕ) → convolved first no_components n ≡ first n
one_on_labels first n =
    with_binomials first no_components n ∙ ap (λ (others : ℕ → ℕ). joined Labelled first others n) (λ i k. none_on_labels k i) ∙ joined_empty Labelled first n

in_each : {P : Type 0} (universe : Universe) → (universe ≡ Labelled → P) → (universe ≡ Unlabelled → P) → P
in_each Labelled labelled unlabelled = labelled refl
in_each Unlabelled labelled unlabelled = unlabelled refl

-- a Cycle stands in labelled grammars alone
pub is_of_labelled : (g : Grammar) (e : Expression) (card : Card) → OfNone (HoldsCycle g) g.rules → IsIn (Many kind.Cycle e card) (all_nodes g.rules) → g.universe ≡ Labelled
is_of_labelled g e card none there = in_each g.universe (λ labelled. labelled) (λ unlabelled. absurd (none rule.0.0 rule.0.1 rule.1 (held unlabelled)))
  where
    rule : (rule : List ℕ × Expression) × IsIn rule g.rules × IsIn (Many kind.Cycle e card) (preorder rule.1)
    rule = from_flat_map (λ rule. preorder rule.1) g.rules (Many kind.Cycle e card) there

    by : (b : Bool) → list_all is_no_cycle (preorder rule.0.1) ≡ b → b ≡ false
    by true all = absurd (true≢false (sym (passes is_no_cycle (Many kind.Cycle e card) (preorder rule.0.1) all rule.2)))
    by false some = refl

    held : g.universe ≡ Unlabelled → (is_labelled g.universe || list_all is_no_cycle (preorder rule.0.1)) ≡ false
    held unlabelled =
        ap (λ (universe : Universe). is_labelled universe || list_all is_no_cycle (preorder rule.0.1)) unlabelled ∙ by (list_all is_no_cycle (preorder rule.0.1)) refl

-- ---- numbers of containers of each number of components, over elements of which number tells how many there are of each size

module _ (number : ℕ → ℕ) (counts : ℕ → ℕ → ℕ) where
  module _ (labelled : counts ≡ labelled_sets number) where
    labelled_none : (n : ℕ) → counts 0 n ≡ one_at 0 n
    labelled_none n = ap (λ (sets : ℕ → ℕ → ℕ). sets 0 n) labelled ∙ none_on_labels n

    labelled_recur : (c n : ℕ) → number 0 ≡ 0 → suc c * counts (suc c) n ≡ joined Labelled number (counts c) n
    labelled_recur c n never_empty =
        subst (λ (sets : ℕ → ℕ → ℕ). suc c * sets (suc c) n ≡ joined Labelled number (sets c) n) (sym labelled)
        (labelled_components.sets number c n never_empty ∙ with_binomials number (labelled_sets number c) n)

    labelled_one : (n : ℕ) → number 0 ≡ 0 → counts 1 n ≡ number n
    labelled_one n never_empty =
        ap (λ (sets : ℕ → ℕ → ℕ). sets 1 n) labelled ∙ once (labelled_sets number 1 n) ∙ labelled_components.sets number 0 n never_empty ∙ one_on_labels number n

  module _ (multisets : counts ≡ with_repeats number) where
    sets_none : (n : ℕ) → counts 0 n ≡ one_at 0 n
    sets_none n = ap (λ (sets : ℕ → ℕ → ℕ). sets 0 n) multisets ∙ no_multiset number n

    sets_recur : (c n : ℕ) → c * counts c n ≡ sum (map (λ d. number d * number_pointed counts d c n) (range_with_len 1 n))
    sets_recur c n =
        subst (λ (sets : ℕ → ℕ → ℕ). c * sets c n ≡ sum (map (λ d. number d * number_pointed sets d c n) (range_with_len 1 n))) (sym multisets) (multisets_recur number c n)

    sets_one : (n : ℕ) → number 0 ≡ 0 → counts 1 n ≡ number n
    sets_one n never_empty = ap (λ (sets : ℕ → ℕ → ℕ). sets 1 n) multisets ∙ one_multiset number n never_empty

  module _ (subsets : counts ≡ without_repeats number) where
    power_sets_none : (n : ℕ) → counts 0 n ≡ one_at 0 n
    power_sets_none n = ap (λ (sets : ℕ → ℕ → ℕ). sets 0 n) subsets ∙ no_subset number n

    power_sets_recur : (c n : ℕ) → suc c * counts (suc c) n ≡ sum (map (λ d. number d * number_avoiding counts d c (n - d)) (range_with_len 1 n))
    power_sets_recur c n =
        subst (λ (sets : ℕ → ℕ → ℕ). suc c * sets (suc c) n ≡ sum (map (λ d. number d * number_avoiding sets d c (n - d)) (range_with_len 1 n))) (sym subsets)
        (subsets_recur number c n)

    power_sets_one : (n : ℕ) → number 0 ≡ 0 → counts 1 n ≡ number n
    power_sets_one n never_empty = ap (λ (sets : ℕ → ℕ → ℕ). sets 1 n) subsets ∙ one_subset number n never_empty

    power_sets_exact : (c n d : ℕ) → number 0 ≡ 0 → 0 < number d → with_less d (number_avoiding counts d c) n ≤ counts (suc c) n
    power_sets_exact c n d never_empty some =
        subst (λ (sets : ℕ → ℕ → ℕ). with_less d (number_avoiding sets d c) n ≤ sets (suc c) n) (sym subsets) (subsets_exact number c n d never_empty some)

-- ---- of a grammar

module _ (g : Grammar) (e : Expression) (card : Card) (spec : IsTrue (is_spec g.rules)) (founded : IsWellFounded g) where
  no_empty : (kind : Kind) → IsIn (Many kind e card) (all_nodes g.rules) → number g e 0 ≡ 0
  no_empty kind there = numbers_recur.element g kind e card spec founded there

  module _ (there : IsIn (Many kind.Set e card) (all_nodes g.rules)) where
    abbrev counts_of_sets : ℕ → ℕ → ℕ
    counts_of_sets = of_components g kind.Set e

    are_labelled_sets : g.universe ≡ Labelled → counts_of_sets ≡ labelled_sets (number g e)
    are_labelled_sets labelled = λ i c n. labelled_containers_are_counted.sets g kind.Set e card c n spec founded labelled there i

    are_multisets : g.universe ≡ Unlabelled → counts_of_sets ≡ with_repeats (number g e)
    are_multisets unlabelled = λ i c n. containers_are_counted.sets g e card c n spec founded unlabelled there i

    no_sets : (n : ℕ) → counts_of_sets 0 n ≡ one_at 0 n
    no_sets n =
        in_each g.universe (λ labelled. labelled_none (number g e) counts_of_sets (are_labelled_sets labelled) n)
        (λ unlabelled. sets_none (number g e) counts_of_sets (are_multisets unlabelled) n)

    one_set : (n : ℕ) → counts_of_sets 1 n ≡ number g e n
    one_set n =
        in_each g.universe (λ labelled. labelled_one (number g e) counts_of_sets (are_labelled_sets labelled) n (no_empty kind.Set there))
        (λ unlabelled. sets_one (number g e) counts_of_sets (are_multisets unlabelled) n (no_empty kind.Set there))

  module _ (there : IsIn (Many kind.PowerSet e card) (all_nodes g.rules)) where
    abbrev counts_of_power_sets : ℕ → ℕ → ℕ
    counts_of_power_sets = of_components g kind.PowerSet e

    are_labelled_power_sets : g.universe ≡ Labelled → counts_of_power_sets ≡ labelled_sets (number g e)
    are_labelled_power_sets labelled = λ i c n. labelled_containers_are_counted.power_sets g kind.PowerSet e card c n spec founded labelled there i

    are_subsets : g.universe ≡ Unlabelled → counts_of_power_sets ≡ without_repeats (number g e)
    are_subsets unlabelled = λ i c n. containers_are_counted.power_sets g e card c n spec founded unlabelled there i

    no_power_sets : (n : ℕ) → counts_of_power_sets 0 n ≡ one_at 0 n
    no_power_sets n =
        in_each g.universe (λ labelled. labelled_none (number g e) counts_of_power_sets (are_labelled_power_sets labelled) n)
        (λ unlabelled. power_sets_none (number g e) counts_of_power_sets (are_subsets unlabelled) n)

    one_power_set : (n : ℕ) → counts_of_power_sets 1 n ≡ number g e n
    one_power_set n =
        in_each g.universe (λ labelled. labelled_one (number g e) counts_of_power_sets (are_labelled_power_sets labelled) n (no_empty kind.PowerSet there))
        (λ unlabelled. power_sets_one (number g e) counts_of_power_sets (are_subsets unlabelled) n (no_empty kind.PowerSet there))

  module _ (there : IsIn (Many kind.Cycle e card) (all_nodes g.rules)) where
    cycles_labelled : g.universe ≡ Labelled
    cycles_labelled = is_of_labelled g e card founded.no_cycles there

    are_cycles : (c n : ℕ) → of_components g kind.Cycle e c n ≡ labelled_cycles (number g e) c n
    are_cycles c n = labelled_containers_are_counted.cycles g kind.Cycle e card c n spec founded cycles_labelled there

    are_lists : (c n : ℕ) → of_components g kind.Sequence e c n ≡ labelled_lists (number g e) c n
    are_lists c n = labelled_containers_are_counted.sequences g kind.Cycle e card c n spec founded cycles_labelled there

    one_cycle : (n : ℕ) → of_components g kind.Cycle e 1 n ≡ number g e n
    one_cycle n =
        are_cycles 1 n ∙ once (labelled_cycles (number g e) 1 n) ∙ labelled_components.cycles (number g e) 0 n (no_empty kind.Cycle there) ∙ one_on_labels (number g e) n

    cycles_recur : (c n : ℕ) → suc c * of_components g kind.Cycle e (suc c) n ≡ of_components g kind.Sequence e (suc c) n
    cycles_recur c n =
        ap (λ (k : ℕ). suc c * k) (are_cycles (suc c) n) ∙ labelled_components.cycles (number g e) c n (no_empty kind.Cycle there) ∙ sym (are_lists (suc c) n)

    lists_recur : (c n : ℕ) → of_components g kind.Sequence e (suc c) n ≡ joined Labelled (number g e) (of_components g kind.Sequence e c) n
    lists_recur c n =
        are_lists (suc c) n ∙ with_binomials (number g e) (labelled_lists (number g e) c) n
        ∙ ap (λ (others : ℕ → ℕ). joined Labelled (number g e) others n) (λ i k. sym (are_lists c k) i)

  one : (kind : Kind) (n : ℕ) → IsIn (Many kind e card) (all_nodes g.rules) → of_components g kind e 1 n ≡ number g e n
  one kind.Sequence n there = numbers_recur.one_list g e card n spec founded there
  one kind.Set n there = one_set there n
  one kind.PowerSet n there = one_power_set there n
  one kind.Cycle n there = one_cycle there n

-- ---- the law

pub containers_recur : ContainersRecur
containers_recur = record {
  no_sets = λ g e card n spec founded there. no_sets g e card spec founded there n;
  no_power_sets = λ g e card n spec founded there. no_power_sets g e card spec founded there n;
  no_cycles = λ g e card n spec founded there. are_cycles g e card spec founded there 0 n;
  one = λ g kind e card n spec founded there. one g e card spec founded kind n there;
  labelled_sets = λ g e card c n spec founded labelled there.
      labelled_recur (number g e) (of_components g kind.Set e) (are_labelled_sets g e card spec founded there labelled) c n
      (no_empty g e card spec founded kind.Set there);
  labelled_power_sets = λ g e card c n spec founded labelled there.
      labelled_recur (number g e) (of_components g kind.PowerSet e) (are_labelled_power_sets g e card spec founded there labelled) c n
      (no_empty g e card spec founded kind.PowerSet there);
  cycles = λ g e card c n spec founded there. cycles_recur g e card spec founded there c n;
  lists = λ g e card c n spec founded there. lists_recur g e card spec founded there c n;
  no_lists = λ g e card n spec founded there. are_lists g e card spec founded there 0 n ∙ none_on_labels n;
  sets = λ g e card c n spec founded unlabelled there.
      sets_recur (number g e) (of_components g kind.Set e) (are_multisets g e card spec founded there unlabelled) c n;
  power_sets = λ g e card c n spec founded unlabelled there.
      power_sets_recur (number g e) (of_components g kind.PowerSet e)
      (are_subsets g e card spec founded there unlabelled) c n;
  exact = λ g e card c n d spec founded unlabelled there some.
      power_sets_exact (number g e) (of_components g kind.PowerSet e) (are_subsets g e card spec founded there unlabelled) c n d
      (no_empty g e card spec founded kind.PowerSet there) some;
}
