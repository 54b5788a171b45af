-- The sorted lists of ascending elements, with and without repeats, are enumerated.
use Rattle.std.proofs.Common.{◌≡◌, ◌⊎◌, ℕ, zero, suc, ◌+◌, ◌-◌, Bool, true, false, nat_le, List, [], ◌∷◌, ◌++◌, map, length, refl, sym, ap, ◌∙◌, subst, inl, inr, arith}
use Rattle.std.specs.Prelude.{if◌then◌else◌}
use Rattle.std.specs.List.{sum}
use Rattle.std.specs.Ordering.{ordering_then}
use Rattle.std.specs.Cmp.Lexicographic.{slice_cmp}
use Rattle.std.specs.declared.cmp.Ordering.{Ordering}
use Rattle.std.proofs.lemmas.Bool.Decides.{nat_tests}
use Rattle.lists.specs.Enumeration.{IsIn, Ascends, Enumerated}
use Rattle.lists.specs.Orders.{IsStrictTotalOrder, EqualIsSame}
use Rattle.lists.proofs.Enumerated as enumerated
use Rattle.lists.proofs.Orders.{strict as strict_order}
use Rattle.lists.proofs.Sums.{sum_more}
use Rattle.count_laws.specs.Multisets.{Sized, none_taken, in_front, with_any, with_one, multisets, subsets}
use Rattle.count_laws.specs.SortedLists.{MayFollow, EachNext, IsSorted, ComesBefore, SortedListsAreListed}

module _ {X : Type 0} where
  pub next_to_first : (S : X → X → Type 0) (x : X) (ys : List X) → ((y : X) → IsIn y ys → S x y) → EachNext S ys → EachNext S (x ∷ ys)
  next_to_first S x [] first others = tt
  next_to_first S x (y ∷ ys) first others = (first y (inl refl), others)

  pub behind_first : (S : X → X → Type 0) (x : X) (ys : List X) → EachNext S (x ∷ ys) → EachNext S ys
  behind_first S x [] all = tt
  behind_first S x (y ∷ ys) all = all.1

-- the first difference of two lists decides
pub record IsLexicographic {X : Type 0} (R : X → X → Type 0) (L : List X → List X → Type 0) : Type 0 where
  pub first : (x y : X) (xs ys : List X) → R x y → L (x ∷ xs) (y ∷ ys)
  pub others : (x : X) (xs ys : List X) → L xs ys → L (x ∷ xs) (x ∷ ys)

-- the elements that may stand behind x, the first one of all
abbrev from_first : {X : Type 0} → Bool → X → List X → List X
from_first true x xs = xs
from_first false x xs = x ∷ xs

module _ {X : Type 0} {R : X → X → Type 0} (o : IsStrictTotalOrder R) (L : List X → List X → Type 0) (lexicographic : IsLexicographic R L) (size : X → ℕ) where
  -- ---- no elements

  empty_is : (strict : Bool) (xs : List X) → IsSorted strict R size xs 0 0 []
  empty_is strict xs = record { among = λ y h. absurd h; sorted = tt; count = refl; total = refl }

  empty_only : (strict : Bool) (xs : List X) (n : ℕ) (ys : List X) → IsSorted strict R size xs 0 n ys → ys ≡ []
  empty_only strict xs n [] s = refl
  empty_only strict xs n (y ∷ ys) s = let e : suc (length ys) ≡ 0 = s.count in absurd (omega arith)

  none_are : (strict : Bool) (c n : ℕ) → Enumerated L (IsSorted strict R size [] c n) (none_taken c n)
  none_are strict zero zero = enumerated.one L (IsSorted strict R size [] 0 0) [] (empty_is strict []) (empty_only strict [] 0)
  none_are strict zero (suc n) = enumerated.none L (IsSorted strict R size [] 0 (suc n)) never
    where
      never : (ys : List X) → IsSorted strict R size [] 0 (suc n) ys → ⊥
      never [] s = let e : 0 ≡ suc n = s.total in omega arith
      never (y ∷ ys) s = s.among y (inl refl)
  none_are strict (suc c) n = enumerated.none L (IsSorted strict R size [] (suc c) n) never
    where
      never : (ys : List X) → IsSorted strict R size [] (suc c) n ys → ⊥
      never [] s = let e : 0 ≡ suc c = s.count in omega arith
      never (y ∷ ys) s = s.among y (inl refl)

  -- ---- an element in front

  -- x, and then a list with the property whose size is what is left of n
  abbrev Behind : (ℕ → List X → Type 0) → X → ℕ → List X → Type 0
  Behind Q x n ys = (zs : List X) × (m : ℕ) × (size x + m ≡ n) × Q m zs × (ys ≡ x ∷ zs)

  in_front_are : (Q : ℕ → List X → Type 0) (x : X) (others : ℕ → List (List X)) (n : ℕ) → ((m : ℕ) → Enumerated L (Q m) (others m))
      → Enumerated L (Behind Q x n) (in_front (size x) x others n)
  in_front_are Q x others n each = by (nat_le (size x) n) refl
    where
      fits : (k n : ℕ) → nat_le k n ≡ true → k + (n - k) ≡ n
      fits k n h = grind (arith, nat_tests)

      left : (k m n : ℕ) → k + m ≡ n → m ≡ n - k
      left k m n h = omega arith

      too_large : (k m n : ℕ) → nat_le k n ≡ false → k + m ≡ n → ⊥
      too_large k m n h e = grind (arith, nat_tests)

      by : (b : Bool) → nat_le (size x) n ≡ b → Enumerated L (Behind Q x n) (if b then map (λ xs. x ∷ xs) (others (n - size x)) else [])
      by true h =
          enumerated.mapped L (Q (n - size x)) L (Behind Q x n) (λ zs. x ∷ zs) (others (n - size x)) (each (n - size x))
          (λ ys zs p q before. lexicographic.others x ys zs before)
          (λ zs q. (zs, n - size x, fits (size x) n h, q, refl))
          (λ ys b. (b.0, subst (λ (m : ℕ). Q m b.0) (left (size x) b.1 n b.2) b.3, b.4))
      by false h = enumerated.none L (Behind Q x n) (λ ys b. too_large (size x) b.1 n h b.2)

  module _ (x : X) (xs : List X) (ascends : Ascends R (x ∷ xs)) where
    first_leads : (strict : Bool) (y : X) → IsIn y (from_first strict x xs) → MayFollow strict R x y
    first_leads true y there = ascends.0 y there
    first_leads false y (inl same) = λ before. o.irreflexive x (subst (λ (z : X). R z x) same before)
    first_leads false y (inr there) = λ before. o.irreflexive x (o.transitive x y x (ascends.0 y there) before)

    in_all : (strict : Bool) (y : X) → IsIn y (from_first strict x xs) → IsIn y (x ∷ xs)
    in_all true y there = inr there
    in_all false y there = there

    -- nothing that comes after one of the later elements is the first one
    not_first : (strict : Bool) (y z : X) → IsIn y xs → MayFollow strict R y z → z ≡ x → ⊥
    not_first true y z there follows same = o.irreflexive x (o.transitive x y x (ascends.0 y there) (subst (R y) same follows))
    not_first false y z there follows same = follows (subst (λ (w : X). R w y) (sym same) (ascends.0 y there))

    all_later : (strict : Bool) (y : X) (ys : List X) → IsIn y xs → EachNext (MayFollow strict R) (y ∷ ys) → ((z : X) → IsIn z ys → IsIn z (x ∷ xs))
        → (z : X) → IsIn z ys → IsIn z xs
    all_later strict y [] there sorted among z h = absurd h
    all_later strict y (w ∷ ys) there sorted among z h = elim (among w (inl refl)) [
      | inl first ↦ absurd (not_first strict y w there sorted.0 first)
      | inr later ↦ elim h [
        | inl same ↦ subst (λ (v : X). IsIn v xs) (sym same) later
        | inr behind ↦ all_later strict w ys later sorted.1 (λ v at. among v (inr at)) z behind
      ]
    ]

    -- what may stand behind the first element
    behind_it : (strict : Bool) (ys : List X) → EachNext (MayFollow strict R) (x ∷ ys) → ((z : X) → IsIn z ys → IsIn z (x ∷ xs)) → (z : X) → IsIn z ys → IsIn z (from_first strict x xs)
    behind_it false ys sorted among z h = among z h
    behind_it true [] sorted among z h = absurd h
    behind_it true (w ∷ ys) sorted among z h = elim (among w (inl refl)) [
      | inl first ↦ absurd (o.irreflexive x (subst (R x) first sorted.0))
      | inr later ↦ elim h [
        | inl same ↦ subst (λ (v : X). IsIn v xs) (sym same) later
        | inr behind ↦ all_later true w ys later sorted.1 (λ v at. among v (inr at)) z behind
      ]
    ]

    module _ (strict : Bool) (c n : ℕ) where
      abbrev FirstTaken : List X → Type 0
      FirstTaken = Behind (λ m. IsSorted strict R size (from_first strict x xs) c m) x n

      abbrev FirstLeft : List X → Type 0
      FirstLeft = IsSorted strict R size xs (suc c) n

      taken_sorted : (ys : List X) → FirstTaken ys → IsSorted strict R size (x ∷ xs) (suc c) n ys
      taken_sorted ys taken = subst (IsSorted strict R size (x ∷ xs) (suc c) n) (sym taken.4) (record {
        among = λ y h. elim h [ inl same ↦ inl same | inr there ↦ in_all strict y (taken.3.among y there) ];
        sorted = next_to_first (MayFollow strict R) x taken.0 (λ y there. first_leads strict y (taken.3.among y there)) taken.3.sorted;
        count = ap suc taken.3.count;
        total = omega (arith, sum_more (size x) (map size taken.0), taken.3.total, taken.2);
      })

      left_sorted : (ys : List X) → FirstLeft ys → IsSorted strict R size (x ∷ xs) (suc c) n ys
      left_sorted ys s = record { among = λ y there. inr (s.among y there); sorted = s.sorted; count = s.count; total = s.total }

      either : (ys : List X) → IsSorted strict R size (x ∷ xs) (suc c) n ys → FirstTaken ys ⊎ FirstLeft ys
      either [] s = let e : 0 ≡ suc c = s.count in absurd (omega arith)
      either (y ∷ ys) s = elim (s.among y (inl refl)) [
        | inl same ↦ inl (
          ys,
          sum (map size ys),
          omega (arith, sum_more (size y) (map size ys), s.total, ap size same),
          record {
            among = behind_it strict ys (subst (λ (z : X). EachNext (MayFollow strict R) (z ∷ ys)) same s.sorted) (λ z at. s.among z (inr at));
            sorted = behind_first (MayFollow strict R) y ys s.sorted;
            count = let e : suc (length ys) ≡ suc c = s.count in omega arith;
            total = refl;
          },
          ap (λ (z : X). z ∷ ys) same,
        )
        | inr later ↦ inr (record {
          among = λ z h. elim h [
            | inl here ↦ subst (λ (v : X). IsIn v xs) (sym here) later
            | inr behind ↦ all_later strict y ys later s.sorted (λ v at. s.among v (inr at)) z behind
          ];
          sorted = s.sorted;
          count = s.count;
          total = s.total;
        })
      ]

      before : (ys : List X) → FirstTaken ys → (zs : List X) → FirstLeft zs → L ys zs
      before ys taken [] s = let e : 0 ≡ suc c = s.count in absurd (omega arith)
      before ys taken (z ∷ zs) s = subst (λ (v : List X). L v (z ∷ zs)) (sym taken.4) (lexicographic.first x z taken.0 zs (ascends.0 z (s.among z (inl refl))))

      -- those with the first element in front, and then those without it
      first_or_not : (firsts : ℕ → List (List X)) (others : List (List X)) → ((m : ℕ) → Enumerated L (IsSorted strict R size (from_first strict x xs) c m) (firsts m))
          → Enumerated L FirstLeft others → Enumerated L (IsSorted strict R size (x ∷ xs) (suc c) n) (in_front (size x) x firsts n ++ others)
      first_or_not firsts others each left =
          enumerated.append L FirstTaken FirstLeft (IsSorted strict R size (x ∷ xs) (suc c) n) (in_front (size x) x firsts n) others
          (in_front_are (λ m. IsSorted strict R size (from_first strict x xs) c m) x firsts n each) left
          before taken_sorted left_sorted either

    none_of_more : (strict : Bool) (n : ℕ) (others : List (List X)) → Enumerated L (IsSorted strict R size xs 0 n) others → Enumerated L (IsSorted strict R size (x ∷ xs) 0 n) others
    none_of_more strict n others e = enumerated.same_property L (IsSorted strict R size xs 0 n) (IsSorted strict R size (x ∷ xs) 0 n) others e
        (λ ys s. record { among = λ y there. inr (s.among y there); sorted = s.sorted; count = s.count; total = s.total })
        (λ ys s. record {
          among = λ y there. absurd (subst (IsIn y) (empty_only strict (x ∷ xs) n ys s) there);
          sorted = s.sorted;
          count = s.count;
          total = s.total;
        })

    with_any_are : (others : Sized X) → ((c n : ℕ) → Enumerated L (IsSorted false R size xs c n) (others c n))
        → (c n : ℕ) → Enumerated L (IsSorted false R size (x ∷ xs) c n) (with_any (size x) x others c n)
    with_any_are others each zero n = none_of_more false n (others 0 n) (each 0 n)
    with_any_are others each (suc c) n = first_or_not false c n (with_any (size x) x others c) (others (suc c) n) (with_any_are others each c) (each (suc c) n)

    with_one_are : (others : Sized X) → ((c n : ℕ) → Enumerated L (IsSorted true R size xs c n) (others c n))
        → (c n : ℕ) → Enumerated L (IsSorted true R size (x ∷ xs) c n) (with_one (size x) x others c n)
    with_one_are others each zero n = none_of_more true n (others 0 n) (each 0 n)
    with_one_are others each (suc c) n = first_or_not true c n (others c) (others (suc c) n) (each c) (each (suc c) n)

  pub multisets_are : (xs : List X) → Ascends R xs → (c n : ℕ) → Enumerated L (IsSorted false R size xs c n) (multisets size xs c n)
  multisets_are [] ascends c n = none_are false c n
  multisets_are (x ∷ xs) ascends c n = with_any_are x xs ascends (multisets size xs) (multisets_are xs ascends.1) c n

  pub subsets_are : (xs : List X) → Ascends R xs → (c n : ℕ) → Enumerated L (IsSorted true R size xs c n) (subsets size xs c n)
  subsets_are [] ascends c n = none_are true c n
  subsets_are (x ∷ xs) ascends c n = with_one_are x xs ascends (subsets size xs) (subsets_are xs ascends.1) c n

-- ---- by a comparison

by_elements : {X : Type 0} (compare : X → X → Ordering) → EqualIsSame compare → IsLexicographic (ComesBefore compare) (ComesBefore (slice_cmp compare))
by_elements compare equal = record {
  first = λ x y xs ys before. ap (λ (o : Ordering). ordering_then o (slice_cmp compare xs ys)) before;
  others = λ x xs ys before. ap (λ (o : Ordering). ordering_then o (slice_cmp compare xs ys)) (equal.itself x) ∙ before;
}

pub sorted_lists_are_listed : (X : Type 0) → SortedListsAreListed X
sorted_lists_are_listed X = record {
  multisets = λ compare size xs c n o.
      multisets_are (strict_order compare o.total o.no_ties) (ComesBefore (slice_cmp compare)) (by_elements compare o.no_ties) size xs o.ascend c n;
  subsets = λ compare size xs c n o.
      subsets_are (strict_order compare o.total o.no_ties) (ComesBefore (slice_cmp compare)) (by_elements compare o.no_ties) size xs o.ascend c n;
}
