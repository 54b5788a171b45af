-- What a total order tells of the elements that ascend in it.
use Rattle.std.proofs.Common.{◌≡◌, Bool, true, false, List, [], ◌∷◌, refl, sym, ap, ◌∙◌, subst, inl, inr, true≢false}
use Rattle.std.specs.Prelude.{◌&&◌, ◌||◌}
use Rattle.std.specs.Cmp.{IsTotalOrder}
use Rattle.std.specs.Ordering.{is_lt, ordering_reverse}
use Rattle.std.specs.declared.cmp.Ordering.{Ordering}
use Rattle.std.specs.declared.cmp.Ordering.TheVariants.{Less, Equal, Greater}
use Rattle.std.proofs.lemmas.Bool.{and_parts}
use Rattle.std.proofs.lemmas.Cmp.{tied_itself}
use Rattle.lists.specs.Enumeration.{IsIn, Ascends}
use Rattle.lists.specs.Orders.{EqualIsSame}
use Rattle.count_laws.specs.Laws.{OrdersTell}
use Rattle.count_laws.specs.Pointed.{IsAscending, differs, avoids}

module _ {X : Type 0} (compare : X → X → Ordering) (total : IsTotalOrder compare) where
  abbrev is_before : X → X → Bool
  is_before x y = is_lt (compare x y)

  not_itself : (x : X) → is_before x x ≡ false
  not_itself x = ap is_lt (tied_itself total x)

  both_ways : (x y : X) → compare x y ≡ Less → (is_before x y ≡ true) × (is_before y x ≡ false)
  both_ways x y less = (ap is_lt less, ap is_lt (total.antisymm y x ∙ ap ordering_reverse less))

  ascends : (xs : List X) → Ascends (λ x y. compare x y ≡ Less) xs → Ascends (λ x y. (is_before x y ≡ true) × (is_before y x ≡ false)) xs
  ascends [] climbs = tt
  ascends (x ∷ xs) climbs = ((λ y there. both_ways x y (climbs.0 y there)), ascends xs climbs.1)

  pub ascending : (xs : List X) → Ascends (λ x y. compare x y ≡ Less) xs → IsAscending is_before xs
  ascending xs climbs = record { irreflexive = not_itself; ascends = ascends xs climbs }

  avoids_it : (x : X) (ys : List X) → avoids is_before x ys ≡ true → IsIn x ys → ⊥
  avoids_it x [] avoided there = there
  avoids_it x (y ∷ ys) avoided (inl same) =
      let first : differs is_before x y ≡ true = (and_parts (differs is_before x y) (avoids is_before x ys) avoided).0 in
      true≢false (sym first ∙ subst (λ z. differs is_before x z ≡ false) same (λ i. not_itself x i || not_itself x i))
  avoids_it x (y ∷ ys) avoided (inr there) = avoids_it x ys (and_parts (differs is_before x y) (avoids is_before x ys) avoided).1 there

  others_differ : EqualIsSame compare → (x y : X) → (x ≡ y → ⊥) → differs is_before x y ≡ true
  others_differ same x y other = by (compare x y) refl
    where
      by : (o : Ordering) → compare x y ≡ o → (is_lt o || is_lt (compare y x)) ≡ true
      by Less is = refl
      by Equal is = absurd (other (same.same x y is))
      by Greater is = ap is_lt (total.antisymm y x ∙ ap ordering_reverse is)

  avoided : EqualIsSame compare → (x : X) (ys : List X) → (IsIn x ys → ⊥) → avoids is_before x ys ≡ true
  avoided same x [] never = refl
  avoided same x (y ∷ ys) never =
      λ i. others_differ same x y (λ is. never (inl is)) i && avoided same x ys (λ there. never (inr there)) i

pub orders_tell : (X : Type 0) → OrdersTell X
orders_tell X = record {
  ascending = ascending;
  avoid = avoids_it;
  avoided = avoided;
}
