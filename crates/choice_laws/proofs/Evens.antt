-- Trees that are even over lists: choices, grafts, and lists that have each element so many times.
use Rattle.std.proofs.Common.{◌≡◌, ℕ, zero, suc, ◌+◌, ◌*◌, ◌<◌, List, [], ◌∷◌, map, flat_map, length, refl, sym, ap, ◌∙◌, inl, inr, arith, length-append}
use Rattle.std.specs.List.{sum}
use Rattle.lists.specs.Enumeration.{IsIn}
use Rattle.lists.proofs.Enumerated.{in_flat_map}
use Rattle.lists.proofs.Sums.{sum_more}
use Rattle.lists.proofs.RangeSums.{sum_append}
use Rattle.count_laws.specs.Pointed.{MeetsTimes}
use Rattle.count_laws.proofs.MetTimes.{met_number}
use Rattle.choice_laws.specs.Trees.{Tree, end, step, Branches, no_branches, more_branches, total, put_branch, branches_of, choose, graft}
use Rattle.choice_laws.specs.Shares.{Fraction, whole, mean, mean_of, number_mean, share, one_if}
use Rattle.choice_laws.specs.Even.{IsEnd, IsEndOf, LeadsOn, AllLeadOn, IsEven}
use Rattle.choice_laws.specs.Laws.{ChoicesAreEven, GraftsAreEven, EvenInstead, EvenSharesAreEqual}
use Rattle.choice_laws.proofs.Arithmetic.{branch_and_others, both_means, by_the_other, times_cancelled, factors, first_factor, second_factor}
use Rattle.choice_laws.proofs.Grafts.{mean_grafted, ends_grafted, leads_on_grafted}

-- ---- a choice of trees

module _ {I X : Type 0} (times : ℕ) (weight : I → ℕ) (tree : I → Tree X) (list : I → List X) where
  abbrev branches : List I → Branches X
  branches is = branches_of (map (λ i. (weight i, tree i)) is)

  total_is : (is : List I) → times * total (branches is) ≡ times * sum (map weight is)
  total_is is = ap (λ (k : ℕ). times * k) (totals is)
    where
      put : (w : ℕ) (t : Tree X) (more : Branches X) → total (put_branch w t more) ≡ w + total more
      put zero t more = none (total more)
        where
          none : (k : ℕ) → k ≡ 0 + k
          none k = omega arith
      put (suc w) t more = refl

      totals : (is : List I) → total (branches is) ≡ sum (map weight is)
      totals [] = refl
      totals (i ∷ is) = put (weight i) (tree i) (branches is) ∙ ap (λ (k : ℕ). weight i + k) (totals is) ∙ sym (sum_more (weight i) (map weight is))

  lengths : (is : List I) → ((i : I) → IsIn i is → length (list i) ≡ times * weight i) → length (flat_map list is) ≡ times * total (branches is)
  lengths is long = both is long ∙ sym (total_is is)
    where
      nothing : (k : ℕ) → 0 ≡ k * 0
      nothing k = omega arith

      spread : (k m n : ℕ) → k * m + k * n ≡ k * (m + n)
      spread k m n = grind arith

      both : (is : List I) → ((i : I) → IsIn i is → length (list i) ≡ times * weight i) → length (flat_map list is) ≡ times * sum (map weight is)
      both [] long = nothing times
      both (i ∷ is) long =
          length-append (list i) (flat_map list is)
          ∙ (λ j. long i (inl refl) j + both is (λ other there. long other (inr there)) j)
          ∙ spread times (weight i) (sum (map weight is))
          ∙ ap (λ (k : ℕ). times * k) (sym (sum_more (weight i) (map weight is)))

  module _ (f : X → ℕ) (all : ℕ) where
    abbrev sum_of : List X → ℕ
    sum_of xs = sum (map f xs)

    abbrev of_branches : Branches X → Fraction
    of_branches bs = mean_of (λ x. whole (f x)) all bs

    with_branch : (i : I) (more : Branches X) (rest : ℕ) (w : ℕ) → weight i ≡ w
        → length (list i) ≡ times * w
        → (0 < w → IsEven (tree i) (list i))
        → times * all * (of_branches more).0 ≡ rest * (of_branches more).1
        → times * all * (of_branches (put_branch w (tree i) more)).0 ≡ (sum_of (list i) + rest) * (of_branches (put_branch w (tree i) more)).1
    with_branch i more rest zero is long even others = others ∙ ap (λ (k : ℕ). k * (of_branches more).1) (none (list i) (long ∙ nothing times))
      where
        nothing : (k : ℕ) → k * 0 ≡ 0
        nothing k = omega arith

        none : (xs : List X) → length xs ≡ 0 → rest ≡ sum_of xs + rest
        none [] empty = omega arith
        none (x ∷ xs) empty = absurd (cc)
    with_branch i more rest (suc w) is long even others =
        let mean_is = number_mean f (tree i) in
        branch_and_others times (suc w) all mean_is.0 mean_is.1 (of_branches more).0 (of_branches more).1 (length (list i)) (sum_of (list i)) rest
        long ((even (omega arith)).means f) others

    choice_means : (is : List I)
        → ((i : I) → IsIn i is → length (list i) ≡ times * weight i)
        → ((i : I) → IsIn i is → 0 < weight i → IsEven (tree i) (list i))
        → times * all * (of_branches (branches is)).0 ≡ sum_of (flat_map list is) * (of_branches (branches is)).1
    choice_means [] long even = nothing (times * all)
      where
        nothing : (k : ℕ) → k * 0 ≡ 0
        nothing k = omega arith
    choice_means (i ∷ is) long even =
        with_branch i (branches is) (sum_of (flat_map list is)) (weight i) refl (long i (inl refl)) (even i (inl refl))
        (choice_means is (λ other there. long other (inr there)) (λ other there. even other (inr there)))
        ∙ ap (λ (k : ℕ). k * (of_branches (branches (i ∷ is))).1) (sym (sum_append f (list i) (flat_map list is)))

  -- an end of the choice
  choice_ends : (is : List I) (x : X) → IsEndOf x (branches is) → (i : I) × IsIn i is × (0 < weight i) × IsEnd x (tree i)
  choice_ends [] x there = absurd there
  choice_ends (i ∷ is) x there = by (λ there. let found = choice_ends is x there in (found.0, inr found.1, found.2, found.3)) (weight i) refl there
    where
      by : (IsEndOf x (branches is) → (j : I) × IsIn j (i ∷ is) × (0 < weight j) × IsEnd x (tree j)) → (w : ℕ) → weight i ≡ w → IsEndOf x (put_branch w (tree i) (branches is)) → (j : I) × IsIn j (i ∷ is) × (0 < weight j) × IsEnd x (tree j)
      by later zero is_w there = later there
      by later (suc w) is_w (inl there) = (i, inl refl, omega (arith, is_w), there)
      by later (suc w) is_w (inr there) = later there

  choice_leads : (is : List I) → ((i : I) → IsIn i is → 0 < weight i → LeadsOn (tree i)) → AllLeadOn (branches is)
  choice_leads [] each = tt
  choice_leads (i ∷ is) each = by (weight i) (each i (inl refl)) (choice_leads is (λ other there. each other (inr there)))
    where
      by : (w : ℕ) → (0 < w → LeadsOn (tree i)) → AllLeadOn (branches is) → AllLeadOn (put_branch w (tree i) (branches is))
      by zero first others = others
      by (suc w) first others = (omega arith, (first (omega arith), others))

  step_leads : (bs : Branches X) → 0 < total bs → AllLeadOn bs → LeadsOn (step bs)
  step_leads no_branches some lead = absurd (omega (arith, some))
  step_leads (more_branches w t more) some lead = lead

  pub choice_even : (is : List I)
      → ((i : I) → IsIn i is → length (list i) ≡ times * weight i)
      → ((i : I) → IsIn i is → 0 < weight i → IsEven (tree i) (list i))
      → IsEven (choose (map (λ i. (weight i, tree i)) is)) (flat_map list is)
  choice_even is long even = record {
    within = λ x there.
        let found = choice_ends is x there in
        in_flat_map list found.0 is x found.1 ((even found.0 found.1 found.2).within x found.3);
    leads_on = λ some.
        let product : 0 < times * total (branches is) = omega (arith, some, lengths is long) in
        step_leads (branches is) (second_factor times (total (branches is)) product)
        (choice_leads is (λ i there heavy. (even i there heavy).leads_on (omega (arith, long i there, factors times (weight i) (first_factor times (total (branches is)) product) heavy))));
    means = λ f. ap (λ (k : ℕ). k * (mean_of (λ x. whole (f x)) (total (branches is)) (branches is)).0) (lengths is long) ∙ choice_means f (total (branches is)) is long even;
  }

-- ---- grafts

module _ {X : Type 0} where
  mutual
    -- the denominator of a mean
    pub positive : (f : X → Fraction) → ((x : X) → 0 < (f x).1) → (tree : Tree X) → LeadsOn tree → 0 < (mean f tree).1
    positive f each (end x) leads = each x
    positive f each (step no_branches) leads = absurd leads
    positive f each (step (more_branches weight tree more)) leads =
        positive_of f each (weight + total more) (more_branches weight tree more) (omega (arith, leads.0)) leads

    positive_of : (f : X → Fraction) → ((x : X) → 0 < (f x).1) → (all : ℕ) (branches : Branches X) → 0 < all → AllLeadOn branches → 0 < (mean_of f all branches).1
    positive_of f each all no_branches some lead = omega arith
    positive_of f each all (more_branches weight tree more) some lead =
        factors (all * (mean f tree).1) (mean_of f all more).1 (factors all (mean f tree).1 some (positive f each tree lead.1.0)) (positive_of f each all more some lead.1.1)

module _ {X : Type 0} (size : ℕ) (f : X → Fraction) (g : X → ℕ) where
  abbrev numbers : X → Fraction
  numbers x = whole (g x)

  mutual
    -- where at each end one is so many times the other, so are the means
    means_alike : (tree : Tree X) → ((x : X) → IsEnd x tree → size * (f x).0 ≡ g x * (f x).1) → size * (mean f tree).0 * (mean numbers tree).1 ≡ (mean numbers tree).0 * (mean f tree).1
    means_alike (end x) alike = by_one (size * (f x).0) ∙ alike x refl
      where
        by_one : (k : ℕ) → k * 1 ≡ k
        by_one k = omega arith
    means_alike (step branches) alike = means_of_alike (total branches) branches alike

    means_of_alike : (all : ℕ) (branches : Branches X) → ((x : X) → IsEndOf x branches → size * (f x).0 ≡ g x * (f x).1)
        → size * (mean_of f all branches).0 * (mean_of numbers all branches).1 ≡ (mean_of numbers all branches).0 * (mean_of f all branches).1
    means_of_alike all no_branches alike = nothing size
      where
        nothing : (k : ℕ) → k * 0 * 1 ≡ 0 * 1
        nothing k = omega arith
    means_of_alike all (more_branches weight tree more) alike =
        both_means size weight all (mean f tree).0 (mean f tree).1 (mean_of f all more).0 (mean_of f all more).1
        (mean numbers tree).0 (mean numbers tree).1 (mean_of numbers all more).0 (mean_of numbers all more).1
        (means_alike tree (λ x there. alike x (inl there))) (means_of_alike all more (λ x there. alike x (inr there)))

module _ {X Y : Type 0} (size : ℕ) (next : X → Tree Y) (list : X → List Y) where
  same_lengths : (xs : List X) → ((x : X) → IsIn x xs → length (list x) ≡ size) → length (flat_map list xs) ≡ length xs * size
  same_lengths [] long = nothing size
    where
      nothing : (k : ℕ) → 0 ≡ 0 * k
      nothing k = omega arith
  same_lengths (x ∷ xs) long =
      length-append (list x) (flat_map list xs) ∙ (λ i. long x (inl refl) i + same_lengths xs (λ y there. long y (inr there)) i) ∙ one_more (length xs) size
    where
      one_more : (n k : ℕ) → k + n * k ≡ suc n * k
      one_more n k = grind arith

  sums : (f : Y → ℕ) (xs : List X) → sum (map f (flat_map list xs)) ≡ sum (map (λ x. sum (map f (list x))) xs)
  sums f [] = refl
  sums f (x ∷ xs) =
      sum_append f (list x) (flat_map list xs) ∙ ap (λ (k : ℕ). sum (map f (list x)) + k) (sums f xs)
      ∙ sym (sum_more (sum (map f (list x))) (map (λ z. sum (map f (list z))) xs))

  pub graft_even : (tree : Tree X) (xs : List X) → IsEven tree xs
      → ((x : X) → IsIn x xs → length (list x) ≡ size)
      → ((x : X) → IsIn x xs → IsEven (next x) (list x))
      → IsEven (graft next tree) (flat_map list xs)
  graft_even tree xs first long even = record {
    within = λ y there.
        let found = ends_grafted next tree y there in
        let at = first.within found.at found.is_end in
        in_flat_map list found.at xs y at ((even found.at at).within y found.behind);
    leads_on = λ some.
        let product : 0 < length xs * size = omega (arith, some, same_lengths xs long) in
        leads_on_grafted next tree (first.leads_on (first_factor (length xs) size product))
        (λ x there. let at = first.within x there in (even x at).leads_on (omega (arith, long x at, second_factor (length xs) size product)));
    means = λ f. by f xs refl;
  }
    where
      by : (f : Y → ℕ) (ys : List X) → xs ≡ ys
          → length (flat_map list xs) * (number_mean f (graft next tree)).0 ≡ sum (map f (flat_map list xs)) * (number_mean f (graft next tree)).1
      by f [] none =
          ap (λ (zs : List X). length (flat_map list zs) * (number_mean f (graft next tree)).0) none ∙ nothing (number_mean f (graft next tree)).0 (number_mean f (graft next tree)).1
          ∙ ap (λ (zs : List X). sum (map f (flat_map list zs)) * (number_mean f (graft next tree)).1) (sym none)
        where
          nothing : (m n : ℕ) → 0 * m ≡ 0 * n
          nothing m n = omega arith
      by f (y ∷ ys) more =
          let behind : X → Fraction = λ x. number_mean f (next x) in
          let value : X → ℕ = λ x. sum (map f (list x)) in
          let some : 0 < length xs = omega (arith, ap length more) in
          let alike : (x : X) → IsEnd x tree → size * (behind x).0 ≡ value x * (behind x).1 =
          λ x there. let at = first.within x there in ap (λ (k : ℕ). k * (behind x).0) (sym (long x at)) ∙ (even x at).means f in
          (λ i. same_lengths xs long i * (mean_grafted next (λ y. whole (f y)) tree i).0)
          ∙ by_the_other (length xs) size (mean behind tree).0 (mean behind tree).1 (number_mean value tree).0 (number_mean value tree).1 (sum (map value xs))
          (positive (λ x. whole (value x)) (λ x. omega arith) tree (first.leads_on some))
          (means_alike size behind value tree alike) (first.means value)
          ∙ (λ i. sym (sums f xs) i * (sym (mean_grafted next (λ y. whole (f y)) tree) i).1)

-- ---- lists that have each element so many times

pub instead : {X : Type 0} (times : ℕ) (tree : Tree X) (xs ys : List X) → 0 < times → IsEven tree xs → MeetsTimes times xs ys → IsEven tree ys
instead times tree xs ys some even meets = record {
  within = λ x there. meets.within x (even.within x there);
  leads_on = λ more. even.leads_on (omega (arith, met_number times xs ys meets, factors times (length ys) some more));
  means = λ f.
      times_cancelled times (length ys) (number_mean f tree).0 (number_mean f tree).1 (sum (map f ys)) some
      (ap (λ (k : ℕ). k * (number_mean f tree).0) (sym (met_number times xs ys meets)) ∙ even.means f ∙ ap (λ (k : ℕ). k * (number_mean f tree).1) (meets.sums f));
}

-- ---- the laws

pub choices_are_even : (I X : Type 0) → ChoicesAreEven I X
choices_are_even I X = record { even = λ times weight tree list is long even. choice_even times weight tree list is long even }

pub grafts_are_even : (X Y : Type 0) → GraftsAreEven X Y
grafts_are_even X Y = record { even = λ size next tree list xs first long even. graft_even size next list tree xs first long even }

pub even_instead : (X : Type 0) → EvenInstead X
even_instead X = record { even = λ times tree xs ys some even meets. instead times tree xs ys some even meets }

pub even_shares_are_equal : (X : Type 0) → EvenSharesAreEqual X
even_shares_are_equal X = record {
  shares = λ tree xs test even once.
      even.means (λ x. one_if (test x)) ∙ ap (λ (k : ℕ). k * (share test tree).1) once ∙ by_one (share test tree).1;
  positive = λ tree test leads. positive (λ x. whole (one_if (test x))) (λ x. omega arith) tree leads;
}
  where
    by_one : (k : ℕ) → 1 * k ≡ k
    by_one k = omega arith
