-- What an expression lists on a supply is what it lists on the first labels, with the supply's labels in their places.
use Rattle.std.proofs.Common.{◌≡◌, ℕ, zero, suc, ◌+◌, ◌<◌, ◌≤◌, true, List, [], ◌∷◌, ◌++◌, map, replicate, length, nat_eq, nat_lt, unwrap_or, slice_get, refl, sym, ap, ◌∙◌, subst, inl, inr, arith}
use Rattle.std.specs.List.{list_all}
use Rattle.std.proofs.lemmas.Bool.{and_parts, cases_lt, ltb-true, eqb-true}
use Rattle.std.proofs.lemmas.List.{map-append, length-map}
use Rattle.std.proofs.lemmas.Simd.{map-map}
use Rattle.spec_syntax.specs.declared.statement.Universe.{Universe}
use Rattle.spec_syntax.specs.declared.statement.Universe.TheVariants.{Labelled, Unlabelled}
use Rattle.spec_syntax.specs.Expression.{Expression}
use Rattle.spec_syntax.specs.Grammar.{Grammar}
use Rattle.struct_model.specs.Structure.{Structure, Eps, Atom, Named, Alt, Tup, Structures, no_parts, more_parts, labels, labels_of_parts, key}
use Rattle.struct_model.specs.Order.{order}
use Rattle.lists.specs.Ascending.{one_to, ascends_above}
use Rattle.struct_model.specs.Membership.{supply, is_supply}
use Rattle.lists.specs.Enumeration.{IsIn}
use Rattle.struct_model.specs.Listing.{Before, IsOne, Lists}
use Rattle.struct_model.proofs.ListingLaws.{one_listing}
use Rattle.listing_laws.specs.Relabelled.{label_at, relabelled, relabelled_parts}
use Rattle.listing_laws.specs.Laws.{SuppliesAreAlike}
use Rattle.lists.proofs.Enumerated as enumerated
use Rattle.lists.proofs.Ascending.{Each, each_left, each_right, from_ascending}
use Rattle.lists.proofs.AscendingAbove.{one_to_below}
use Rattle.listing_laws.proofs.Changed.{changed, changed_parts, IsRising, key-changed, same_numbers, order_kept, same_changed, of_kept}

each_also : (P Q : ℕ → Type 0) (ls : List ℕ) → ((l : ℕ) → P l → Q l) → Each P ls → Each Q ls
each_also P Q [] also a = tt
each_also P Q (l ∷ ls) also a = (also l a.0, each_also P Q ls also a.1)

-- ---- the change of labels

-- the change of labels that puts the supply's in place of the first ones
record IsChange (universe : Universe) (u : List ℕ) (at : ℕ → ℕ) : Type 0 where
  rising : IsRising at
  agrees : Each (λ l. label_at u l ≡ at l) (supply universe (length u))
  covers : map at (supply universe (length u)) ≡ u

-- low at 0, then the labels in turn, and then the numbers that follow the last one
stretched : ℕ → List ℕ → ℕ → ℕ
stretched low labels zero = low
stretched low [] (suc l) = low + suc l
stretched low (m ∷ ms) (suc l) = stretched m ms l

stretched_step : (low : ℕ) (u : List ℕ) → ascends_above low u ≡ true → (l : ℕ) → stretched low u l < stretched low u (suc l)
unfolding stretched
stretched_step low [] h zero = omega arith
stretched_step low [] h (suc l) = omega arith
stretched_step low (m ∷ ms) h zero = ltb-true low m (and_parts (nat_lt low m) (ascends_above m ms) h).0
stretched_step low (m ∷ ms) h (suc l) = stretched_step m ms (and_parts (nat_lt low m) (ascends_above m ms) h).1 l

stretched_rises : (low : ℕ) (u : List ℕ) → ascends_above low u ≡ true → (l m : ℕ) → l < m → stretched low u l < stretched low u m
stretched_rises low u h l zero below = absurd (omega arith)
stretched_rises low u h l (suc m) below = elim (cases_lt l m) [
  | inl further ↦ omega (arith, stretched_rises low u h l m further, stretched_step low u h m)
  | inr last ↦ omega (arith, stretched_step low u h m, ap (stretched low u) (same last))
]
  where
    same : m ≤ l → l ≡ m
    same last = omega arith

stretched_get : (low : ℕ) (u : List ℕ) (i : ℕ) → i < length u → unwrap_or (slice_get u i) 0 ≡ stretched low u (suc i)
unfolding stretched
stretched_get low [] i h = absurd (omega arith)
stretched_get low (m ∷ ms) zero h = refl
stretched_get low (m ∷ ms) (suc i) h = stretched_get m ms i (omega arith)

stretched_agrees : (u : List ℕ) (l : ℕ) → l < suc (length u) → label_at u l ≡ stretched 0 u l
unfolding stretched
stretched_agrees u zero h = refl
stretched_agrees u (suc i) h = stretched_get 0 u i (omega arith)

one_to_first : (n : ℕ) → one_to (suc n) ≡ 1 ∷ map suc (one_to n)
one_to_first zero = refl
one_to_first (suc n) = ap (λ ls. ls ++ suc (suc n) ∷ []) (one_to_first n) ∙ ap (λ ls. 1 ∷ ls) (sym (map-append suc (one_to n) (suc n ∷ [])))

stretched_covers : (low : ℕ) (u : List ℕ) → map (stretched low u) (one_to (length u)) ≡ u
unfolding stretched
stretched_covers low [] = refl
stretched_covers low (m ∷ ms) =
    ap (map (stretched low (m ∷ ms))) (one_to_first (length ms)) ∙ ap (λ ls. m ∷ ls) (map-map (stretched low (m ∷ ms)) suc (one_to (length ms)) ∙ stretched_covers m ms)

zeros_cover : (u : List ℕ) → list_all (nat_eq 0) u ≡ true → map (λ (l : ℕ). l) (replicate (length u) 0) ≡ u
zeros_cover [] h = refl
zeros_cover (l ∷ ls) h = let both = and_parts (nat_eq 0 l) (list_all (nat_eq 0) ls) h in λ i. eqb-true 0 l both.0 i ∷ zeros_cover ls both.1 i

zeros_agree : (u : List ℕ) (n : ℕ) → Each (λ l. label_at u l ≡ l) (replicate n 0)
zeros_agree u zero = tt
zeros_agree u (suc n) = (refl, zeros_agree u n)

change_of : (universe : Universe) (u : List ℕ) → is_supply universe u ≡ true → (at : ℕ → ℕ) × IsChange universe u at
unfolding stretched
change_of Unlabelled u supplied = (
  (λ l. l),
  record {
    rising = record { none = refl; rises = λ l m below. below };
    agrees = zeros_agree u (length u);
    covers = zeros_cover u supplied;
  },
)
change_of Labelled u supplied = (
  stretched 0 u,
  record {
    rising = record { none = refl; rises = stretched_rises 0 u supplied };
    agrees = each_also (λ l. l < suc (length u)) (λ l. label_at u l ≡ stretched 0 u l) (one_to (length u)) (stretched_agrees u) (one_to_below (length u) (suc (length u)) (omega arith));
    covers = stretched_covers 0 u;
  },
)

-- ---- with other labels, and back

mutual
  relabelled_is : (u : List ℕ) (at : ℕ → ℕ) (s : Structure) → Each (λ l. label_at u l ≡ at l) (labels s) → relabelled u s ≡ changed at s
  relabelled_is u at (Eps x) a = refl
  relabelled_is u at (Atom x l) a = ap (Atom x) a.0
  relabelled_is u at (Named x s) a = ap (Named x) (relabelled_is u at s a)
  relabelled_is u at (Alt k s) a = ap (Alt k) (relabelled_is u at s a)
  relabelled_is u at (Tup f ss) a = ap (Tup f) (relabelled_parts_are u at ss a)

  relabelled_parts_are : (u : List ℕ) (at : ℕ → ℕ) (ss : Structures) → Each (λ l. label_at u l ≡ at l) (labels_of_parts ss) → relabelled_parts u ss ≡ changed_parts at ss
  relabelled_parts_are u at no_parts a = refl
  relabelled_parts_are u at (more_parts s ss) a =
      let first = relabelled_is u at s (each_left _ (labels s) (labels_of_parts ss) a) in
      let others = relabelled_parts_are u at ss (each_right _ (labels s) (labels_of_parts ss) a) in
      λ i. more_parts (first i) (others i)

-- the label comes of another one
abbrev ComesOf : (ℕ → ℕ) → ℕ → Type 0
ComesOf at l = (m : ℕ) × (at m ≡ l)

mutual
  changed_from : (at : ℕ → ℕ) (t : Structure) → Each (ComesOf at) (labels t) → (s : Structure) × (changed at s ≡ t)
  changed_from at (Eps x) a = (Eps x, refl)
  changed_from at (Atom x l) a = (Atom x a.0.0, ap (Atom x) a.0.1)
  changed_from at (Named x t) a = let found = changed_from at t a in (Named x found.0, ap (Named x) found.1)
  changed_from at (Alt k t) a = let found = changed_from at t a in (Alt k found.0, ap (Alt k) found.1)
  changed_from at (Tup f ts) a = let found = changed_parts_from at ts a in (Tup f found.0, ap (Tup f) found.1)

  changed_parts_from : (at : ℕ → ℕ) (ts : Structures) → Each (ComesOf at) (labels_of_parts ts) → (ss : Structures) × (changed_parts at ss ≡ ts)
  changed_parts_from at no_parts a = (no_parts, refl)
  changed_parts_from at (more_parts t ts) a =
      let first = changed_from at t (each_left _ (labels t) (labels_of_parts ts) a) in
      let others = changed_parts_from at ts (each_right _ (labels t) (labels_of_parts ts) a) in
      (more_parts first.0 others.0, λ i. more_parts (first.1 i) (others.1 i))

images : (at : ℕ → ℕ) (ls : List ℕ) → Each (ComesOf at) (map at ls)
images at [] = tt
images at (l ∷ ls) = ((l, refl), images at ls)

-- ---- listings

module _ (g : Grammar) (e : Expression) (u : List ℕ) (at : ℕ → ℕ) (change : IsChange g.universe u at) where
  abbrev first : List ℕ
  first = supply g.universe (length u)

  one_changed : (s : Structure) → IsOne g e first s → IsOne g e u (changed at s)
  one_changed s one = (of_kept at change.rising g s e ∙ one.0, key-changed at change.rising s ∙ ap (map at) one.1 ∙ change.covers)

  one_back : (s : Structure) → IsOne g e u (changed at s) → IsOne g e first s
  one_back s one = (
    sym (of_kept at change.rising g s e) ∙ one.0,
    same_numbers at change.rising (key s) first (sym (key-changed at change.rising s) ∙ one.1 ∙ sym change.covers),
  )

  one_relabelled : (s : Structure) → IsOne g e first s → relabelled u s ≡ changed at s
  one_relabelled s one =
      relabelled_is u at s (from_ascending (λ l. label_at u l ≡ at l) (labels s) (subst (Each (λ l. label_at u l ≡ at l)) (sym one.1) change.agrees))

  one_from : (t : Structure) → IsOne g e u t → (s : Structure) × IsOne g e first s × (t ≡ changed at s)
  one_from t one =
      let found = changed_from at t (from_ascending (ComesOf at) (labels t) (subst (Each (ComesOf at)) (change.covers ∙ sym one.1) (images at first))) in
      (found.0, one_back found.0 (subst (IsOne g e u) (sym found.1) one), sym found.1)

  lists_relabelled : (ss : List Structure) → Lists g e first ss → Lists g e u (map (relabelled u) ss)
  lists_relabelled ss h =
      enumerated.mapped Before (IsOne g e first) Before (IsOne g e u) (relabelled u) ss h
      (λ s t p q before. (λ i. order (one_relabelled s p i) (one_relabelled t q i)) ∙ order_kept at change.rising s t ∙ before)
      (λ s p. subst (IsOne g e u) (sym (one_relabelled s p)) (one_changed s p))
      (λ t p. let found = one_from t p in (found.0, found.1, found.2 ∙ sym (one_relabelled found.0 found.1)))

  list_from : (ss : List Structure) → ((s : Structure) → IsIn s ss → IsOne g e u s) → (ts : List Structure) × (map (changed at) ts ≡ ss)
  list_from [] each = ([], refl)
  list_from (s ∷ ss) each =
      let one = one_from s (each s (inl refl)) in
      let others = list_from ss (λ t within. each t (inr within)) in
      (one.0 ∷ others.0, λ i. sym one.2 i ∷ others.1 i)

  -- as many are listed on the first labels
  lists_first : (ss : List Structure) → Lists g e u ss → (ts : List Structure) × Lists g e first ts × (length ts ≡ length ss)
  lists_first ss h =
      let found = list_from ss h.sound in (
        found.0,
        enumerated.same_property Before (λ s. IsOne g e u (changed at s)) (IsOne g e first) found.0
            (enumerated.unmapped Before Before (IsOne g e u) (changed at) found.0 (subst (Lists g e u) (sym found.1) h)
            (λ s t p q before. sym (order_kept at change.rising s t) ∙ before) (same_changed at change.rising))
            one_back one_changed,
        sym (length-map found.0 (changed at)) ∙ ap length found.1,
      )

pub supplies_are_alike : SuppliesAreAlike
supplies_are_alike = record {
  lists = λ g e u ss supplied l. let change = change_of g.universe u supplied in lists_relabelled g e u change.0 change.1 ss l;
  alike = λ g e u v ss ts supplied given same l k.
      let left = change_of g.universe u supplied in
      let right = change_of g.universe v given in
      let from_left = lists_first g e u left.0 left.1 ss l in
      let from_right = lists_first g e v right.0 right.1 ts k in
      sym from_left.2
      ∙ ap length (one_listing g e (supply g.universe (length u)) from_left.0 from_right.0 from_left.1
      (subst (λ (n : ℕ). Lists g e (supply g.universe n) from_right.0) (sym same) from_right.1))
      ∙ from_right.2;
}
