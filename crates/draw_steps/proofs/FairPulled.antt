-- One component taken out of a sorted list, and put back into its place.
use Rattle.std.proofs.Common.{◌≡◌, ◌⊎◌, ℕ, suc, Bool, true, false, not, ◌&&◌, cond, List, [], ◌∷◌, ◌++◌, map, length, refl, sym, ap, ◌∙◌, subst, inl, inr}
use Rattle.std.specs.declared.cmp.Ordering.{Ordering}
use Rattle.std.specs.declared.cmp.Ordering.TheVariants.{Less, Equal, Greater}
use Rattle.std.specs.Ordering.{is_lt, is_gt, ordering_reverse}
use Rattle.std.proofs.lemmas.Bool.{and_parts, and_from, cond-true, cond-false}
use Rattle.std.proofs.lemmas.List.{length-map}
use Rattle.lists.specs.Ascending.{ascending, inserted}
use Rattle.lists.specs.Enumeration.{IsIn, Ascends}
use Rattle.lists.proofs.Enumerated as enumerated
use Rattle.lists.proofs.Enumerated.{in_map, from_map}
use Rattle.lists.proofs.Ascending.{ascending_middle}
use Rattle.spec_syntax.specs.Expression.{Expression}
use Rattle.spec_syntax.specs.Grammar.{Grammar}
use Rattle.struct_model.specs.Structure.{Structure, parts_of, labels, labels_of_parts}
use Rattle.struct_model.specs.Order.{order, is_before, is_after, is_sorted, is_strictly_sorted}
use Rattle.struct_model.specs.Membership.{is_of, are_of}
use Rattle.struct_model.specs.Listing.{Before}
use Rattle.struct_model.proofs.OrderLaws.{order_total, order_strict}
use Rattle.canon.specs.Sorted.{with_item}
use Rattle.choice_laws.proofs.Rearranged.{Differs}

-- ---- labels in another order

pub same_behind : (xs ys zs : List ℕ) → ascending ys ≡ ascending zs → ascending (xs ++ ys) ≡ ascending (xs ++ zs)
same_behind [] ys zs same = same
same_behind (x ∷ xs) ys zs same = ap (inserted x) (same_behind xs ys zs same)

pub labels_exchanged : (xs ys zs : List ℕ) → ascending (xs ++ (ys ++ zs)) ≡ ascending (ys ++ (xs ++ zs))
labels_exchanged [] ys zs = refl
labels_exchanged (x ∷ xs) ys zs = ap (inserted x) (labels_exchanged xs ys zs) ∙ sym (ascending_middle x ys (xs ++ zs))

-- ---- a structure in its place

abbrev pub labels_in : List Structure → List ℕ
labels_in ss = labels_of_parts (parts_of ss)

pub item_length : (s : Structure) (ss : List Structure) → length (with_item s ss) ≡ suc (length ss)
item_length s [] = refl
item_length s (t ∷ ts) = by (is_after t s) (item_length s ts)
  where
    by : (b : Bool) → length (with_item s ts) ≡ suc (length ts) → length (cond b (s ∷ t ∷ ts) (t ∷ with_item s ts)) ≡ suc (suc (length ts))
    by true later = refl
    by false later = ap suc later

pub item_labels : (s : Structure) (ss : List Structure) → ascending (labels_in (with_item s ss)) ≡ ascending (labels s ++ labels_in ss)
item_labels s [] = refl
item_labels s (t ∷ ts) = by (is_after t s) (item_labels s ts)
  where
    by : (b : Bool) → ascending (labels_in (with_item s ts)) ≡ ascending (labels s ++ labels_in ts)
        → ascending (labels_in (cond b (s ∷ t ∷ ts) (t ∷ with_item s ts))) ≡ ascending (labels s ++ (labels t ++ labels_in ts))
    by true later = refl
    by false later = same_behind (labels t) (labels_in (with_item s ts)) (labels s ++ labels_in ts) later ∙ labels_exchanged (labels t) (labels s) (labels_in ts)

pub item_are : (g : Grammar) (e : Expression) (s : Structure) (ss : List Structure) → are_of g e (parts_of (with_item s ss)) ≡ (is_of g e s && are_of g e (parts_of ss))
item_are g e s [] = refl
item_are g e s (t ∷ ts) = by (is_after t s) (item_are g e s ts)
  where
    turned : (a b c : Bool) → a && (b && c) ≡ b && (a && c)
    turned true b c = refl
    turned false true c = refl
    turned false false c = refl

    by : (b : Bool) → are_of g e (parts_of (with_item s ts)) ≡ (is_of g e s && are_of g e (parts_of ts))
        → are_of g e (parts_of (cond b (s ∷ t ∷ ts) (t ∷ with_item s ts))) ≡ (is_of g e s && (is_of g e t && are_of g e (parts_of ts)))
    by true later = refl
    by false later = ap (λ (b : Bool). is_of g e t && b) later ∙ turned (is_of g e t) (is_of g e s) (are_of g e (parts_of ts))

pub item_holds : (x s : Structure) (ss : List Structure) → (x ≡ s) ⊎ IsIn x ss → IsIn x (with_item s ss)
item_holds x s [] there = there
item_holds x s (t ∷ ts) there = by (is_after t s) there (λ later. item_holds x s ts later)
  where
    by : (b : Bool) → (x ≡ s) ⊎ IsIn x (t ∷ ts) → ((x ≡ s) ⊎ IsIn x ts → IsIn x (with_item s ts)) → IsIn x (cond b (s ∷ t ∷ ts) (t ∷ with_item s ts))
    by true (inl is) later = inl is
    by true (inr at) later = inr at
    by false (inl is) later = inr (later (inl is))
    by false (inr (inl at)) later = inl at
    by false (inr (inr at)) later = inr (later (inr at))

-- where no two of the list with the structure are the same, none of the others is
pub item_differ : (s : Structure) (ss : List Structure) → Ascends Differs (with_item s ss) → (IsIn s ss → ⊥) × Ascends Differs ss
item_differ s [] a = ((λ there. there), tt)
item_differ s (t ∷ ts) a = by (is_after t s) a (item_differ s ts)
  where
    by : (b : Bool) → Ascends Differs (cond b (s ∷ t ∷ ts) (t ∷ with_item s ts)) → (Ascends Differs (with_item s ts) → (IsIn s ts → ⊥) × Ascends Differs ts)
        → (IsIn s (t ∷ ts) → ⊥) × Ascends Differs (t ∷ ts)
    by true a later = ((λ there. a.0 s there refl), a.1)
    by false a later =
        let others = later a.1 in (
          (λ there. elim there [ inl same ↦ a.0 s (item_holds s s ts (inl refl)) (sym same) | inr behind ↦ others.0 behind ]),
          ((λ y there. a.0 y (item_holds y s ts (inr there))), others.1),
        )

-- ---- sorted lists

less_of : (o : Ordering) → is_lt o ≡ true → o ≡ Less
less_of Less h = refl
less_of Equal h = absurd (cc)
less_of Greater h = absurd (cc)

pub ascends_strict : (ss : List Structure) → is_strictly_sorted ss ≡ true → Ascends Before ss
ascends_strict [] h = tt
ascends_strict (s ∷ []) h = ((λ y there. absurd there), tt)
ascends_strict (s ∷ t ∷ ss) h =
    let both = and_parts (is_before s t) (is_strictly_sorted (t ∷ ss)) h in
    let later = ascends_strict (t ∷ ss) both.1 in
    let before : Before s t = less_of (order s t) both.0 in
    ((λ y there. elim there [ inl same ↦ subst (Before s) (sym same) before | inr behind ↦ order_strict.transitive s t y before (later.0 y behind) ]), later)

pub sorted_ascends : (ss : List Structure) → Ascends Before ss → is_sorted ss ≡ true
sorted_ascends [] a = refl
sorted_ascends (s ∷ []) a = refl
sorted_ascends (s ∷ t ∷ ss) a = and_from (not (is_after s t)) (is_sorted (t ∷ ss)) (ap (λ o. not (is_gt o)) (a.0 t (inl refl))) (sorted_ascends (t ∷ ss) a.1)

pub differ_ascends : (ss : List Structure) → Ascends Before ss → Ascends Differs ss
differ_ascends [] a = tt
differ_ascends (s ∷ ss) a = ((λ t there same. order_strict.irreflexive s (subst (Before s) (sym same) (a.0 t there))), differ_ascends ss a.1)

-- ---- one taken out

-- a component behind the first of the others
abbrev pub behind : Structure → List Structure → List Structure
behind s [] = s ∷ []
behind s (t ∷ ts) = t ∷ s ∷ ts

-- each component in turn in front of the others
abbrev pub pulled : List Structure → List (List Structure)
pulled [] = []
pulled (s ∷ ss) = (s ∷ ss) ∷ map (behind s) (pulled ss)

-- the first one in its place among the others
abbrev pub merged : List Structure → List Structure
merged [] = []
merged (s ∷ ss) = with_item s ss

pub length_pulled : (ss : List Structure) → length (pulled ss) ≡ length ss
length_pulled [] = refl
length_pulled (s ∷ ss) = ap suc (length-map (pulled ss) (behind s) ∙ length_pulled ss)

pub in_pulled : (s : Structure) (ss : List Structure) → IsIn (s ∷ ss) (pulled (with_item s ss))
in_pulled s [] = inl refl
in_pulled s (t ∷ ts) = by (is_after t s) (in_pulled s ts)
  where
    by : (b : Bool) → IsIn (s ∷ ts) (pulled (with_item s ts)) → IsIn (s ∷ t ∷ ts) (pulled (cond b (s ∷ t ∷ ts) (t ∷ with_item s ts)))
    by true later = inl refl
    by false later = inr (in_map (behind t) (s ∷ ts) (pulled (with_item s ts)) later)

-- what was taken out, and that it goes back
pub record Pulls (ss x : List Structure) : Type 0 where
  pub first : Structure
  pub others : List Structure
  pub is : x ≡ first ∷ others
  pub back : with_item first others ≡ ss
  pub sorted : Ascends Before others
  pub at : IsIn first ss
  pub within : (y : Structure) → IsIn y others → IsIn y ss

first_item : (s : Structure) (ss : List Structure) → Ascends Before (s ∷ ss) → with_item s ss ≡ s ∷ ss
first_item s [] a = refl
first_item s (t ∷ ts) a =
    cond-true (is_after t s) (s ∷ t ∷ ts) (t ∷ with_item s ts) (ap is_gt (order_total.antisymm t s ∙ ap ordering_reverse (a.0 t (inl refl))))

pub pulled_is : (ss : List Structure) → Ascends Before ss → (x : List Structure) → IsIn x (pulled ss) → Pulls ss x
pulled_is [] a x there = absurd there
pulled_is (s ∷ ss) a x (inl here) = record {
  first = s;
  others = ss;
  is = here;
  back = first_item s ss a;
  sorted = a.1;
  at = inl refl;
  within = λ y there. inr there;
}
pulled_is (s ∷ ss) a x (inr later) =
    let found = from_map (behind s) x (pulled ss) later in
    let pulls = pulled_is ss a.1 found.0 found.1 in
    let front : Before s pulls.first = a.0 pulls.first pulls.at in
    record {
      first = pulls.first;
      others = s ∷ pulls.others;
      is = found.2 ∙ ap (behind s) pulls.is;
      back = cond-false (is_after s pulls.first) (pulls.first ∷ s ∷ pulls.others) (s ∷ with_item pulls.first pulls.others) (ap is_gt front) ∙ ap (λ ts. s ∷ ts) pulls.back;
      sorted = ((λ y there. a.0 y (pulls.within y there)), pulls.sorted);
      at = inr pulls.at;
      within = λ y there. elim there [ inl is ↦ inl is | inr more ↦ inr (pulls.within y more) ];
    }

pub merged_pulled : (ss : List Structure) → Ascends Before ss → (x : List Structure) → IsIn x (pulled ss) → merged x ≡ ss
merged_pulled ss a x there = let pulls = pulled_is ss a x there in ap merged pulls.is ∙ pulls.back

same_behind_it : (s t u : Structure) (ts us x y : List Structure) → x ≡ t ∷ ts → y ≡ u ∷ us → t ∷ s ∷ ts ≡ u ∷ s ∷ us → x ≡ y
same_behind_it s t u ts us x y is also same = cc

pub pulled_differ : (ss : List Structure) → Ascends Before ss → Ascends Differs (pulled ss)
pulled_differ [] a = tt
pulled_differ (s ∷ ss) a = (
  first,
  (enumerated.mapped Differs (λ x. IsIn x (pulled ss)) Differs (λ y. IsIn y (map (behind s) (pulled ss))) (behind s) (pulled ss)
      (record { ascends = pulled_differ ss a.1; sound = λ x there. there; complete = λ x there. there })
      keeps (λ x there. in_map (behind s) x (pulled ss) there) (λ y there. from_map (behind s) y (pulled ss) there)).ascends,
)
  where
    heads : (t : Structure) (ts : List Structure) → s ∷ ss ≡ t ∷ ts → s ≡ t
    heads t ts same = cc

    first : (y : List Structure) → IsIn y (map (behind s) (pulled ss)) → s ∷ ss ≡ y → ⊥
    first y there same =
        let found = from_map (behind s) y (pulled ss) there in
        let pulls = pulled_is ss a.1 found.0 found.1 in
        order_strict.irreflexive s (subst (Before s) (sym (heads pulls.first (s ∷ pulls.others) (same ∙ found.2 ∙ ap (behind s) pulls.is))) (a.0 pulls.first pulls.at))

    keeps : (x y : List Structure) → IsIn x (pulled ss) → IsIn y (pulled ss) → (x ≡ y → ⊥) → behind s x ≡ behind s y → ⊥
    keeps x y at there apart same =
        let one = pulled_is ss a.1 x at in
        let other = pulled_is ss a.1 y there in
        apart (same_behind_it s one.first other.first one.others other.others x y one.is other.is (sym (ap (behind s) one.is) ∙ same ∙ ap (behind s) other.is))
