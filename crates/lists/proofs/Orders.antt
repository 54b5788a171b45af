-- Orders of lists by those of their elements, and the one list of elements with a property in an order.
use Rattle.std.proofs.Common.{◌≡◌, inl, inr, List, [], ◌∷◌, refl, sym, ap, ◌∙◌, subst}
use Rattle.std.specs.Cmp.{IsTotalOrder}
use Rattle.std.specs.declared.cmp.Ordering.{Ordering}
use Rattle.std.specs.declared.cmp.Ordering.TheVariants.{Less, Equal, Greater}
use Rattle.std.specs.Ordering.{ordering_then, ordering_reverse}
use Rattle.std.specs.Cmp.Lexicographic.{slice_cmp}
use Rattle.lists.specs.Enumeration.{IsIn, Ascends, Enumerated}
use Rattle.lists.specs.Orders.{IsStrictTotalOrder, EqualIsSame}

-- ---- Equal is the same

pub then_first : (a b : Ordering) → ordering_then a b ≡ Equal → a ≡ Equal
then_first Less b e = cc
then_first Equal b e = refl
then_first Greater b e = cc

pub then_second : (a b : Ordering) → ordering_then a b ≡ Equal → b ≡ Equal
then_second Less b e = cc
then_second Equal b e = e
then_second Greater b e = cc

pub lists_same : {X : Type 0} (compare : X → X → Ordering) → ((x y : X) → compare x y ≡ Equal → x ≡ y) → (xs ys : List X) → slice_cmp compare xs ys ≡ Equal → xs ≡ ys
lists_same compare same [] [] e = refl
lists_same compare same [] (y ∷ ys) e = cc
lists_same compare same (x ∷ xs) [] e = cc
lists_same compare same (x ∷ xs) (y ∷ ys) e =
    λ i. same x y (then_first (compare x y) (slice_cmp compare xs ys) e) i ∷ lists_same compare same xs ys (then_second (compare x y) (slice_cmp compare xs ys) e) i

-- ---- a strict total order

abbrev BeforeBy : {X : Type 0} → (X → X → Ordering) → X → X → Type 0
BeforeBy compare x y = compare x y ≡ Less

connected_by : {X : Type 0} (compare : X → X → Ordering) → IsTotalOrder compare → EqualIsSame compare → (x y : X) (o : Ordering) → compare x y ≡ o → (compare x y ≡ Less → ⊥) → (compare y x ≡ Less → ⊥) → x ≡ y
connected_by compare total equal x y Less e h g = absurd (h e)
connected_by compare total equal x y Equal e h g = equal.same x y e
connected_by compare total equal x y Greater e h g = absurd (g (total.antisymm y x ∙ ap ordering_reverse e))

pub strict : {X : Type 0} (compare : X → X → Ordering) → IsTotalOrder compare → EqualIsSame compare → IsStrictTotalOrder (BeforeBy compare)
strict compare total equal = record {
  irreflexive = λ x e. let f : compare x x ≡ Equal = equal.itself x in cc;
  transitive = total.trans;
  connected = λ x y. connected_by compare total equal x y (compare x y) refl;
}

-- ---- one list in an order

-- each element of the one list is in the other
abbrev Within : {X : Type 0} → List X → List X → Type 0
Within {X} xs ys = (x : X) → IsIn x xs → IsIn x ys

module _ {X : Type 0} {R : X → X → Type 0} (o : IsStrictTotalOrder R) where
  first_same : (x y : X) (xs ys : List X) → Ascends R (x ∷ xs) → Ascends R (y ∷ ys) → IsIn x (y ∷ ys) → IsIn y (x ∷ xs) → x ≡ y
  first_same x y xs ys a b (inl e) h = e
  first_same x y xs ys a b (inr g) (inl e) = sym e
  first_same x y xs ys a b (inr g) (inr h) = absurd (o.irreflexive x (o.transitive x y x (a.0 y h) (b.0 x g)))

  -- without the first element, the elements stay the same
  rest_within : (x y : X) (xs ys : List X) → x ≡ y → Ascends R (x ∷ xs) → Within (x ∷ xs) (y ∷ ys) → Within xs ys
  rest_within x y xs ys e a within z h =
      elim (within z (inr h)) [
        | inl f ↦ let P : X → Type 0 = R x in absurd (o.irreflexive x (subst P (f ∙ sym e) (a.0 z h)))
        | inr g ↦ g
      ]

  pub same_elements : (xs ys : List X) → Ascends R xs → Ascends R ys → Within xs ys → Within ys xs → xs ≡ ys
  same_elements [] [] a b f g = refl
  same_elements [] (y ∷ ys) a b f g = absurd (g y (inl refl))
  same_elements (x ∷ xs) [] a b f g = absurd (f x (inl refl))
  same_elements (x ∷ xs) (y ∷ ys) a b f g =
      let e : x ≡ y = first_same x y xs ys a b (f x (inl refl)) (g y (inl refl)) in
      λ i. e i ∷ same_elements xs ys a.1 b.1 (rest_within x y xs ys e a f) (rest_within y x ys xs (sym e) b g) i

  -- two lists of the elements with one property in one order are equal
  pub enumerated_once : (P : X → Type 0) (xs ys : List X) → Enumerated R P xs → Enumerated R P ys → xs ≡ ys
  enumerated_once P xs ys f g = same_elements xs ys f.ascends g.ascends (λ z h. g.complete z (f.sound z h)) (λ z h. f.complete z (g.sound z h))
