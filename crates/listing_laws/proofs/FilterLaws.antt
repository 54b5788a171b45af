-- The structures that are picked within bounds, in order, are the listing, where each one lies within the bounds.
use Rattle.std.proofs.Common.{◌≡◌, ◌⊎◌, ℕ, true, List, [], ◌∷◌, refl, sym, ap, ◌∙◌, subst, inl, inr, Less, Equal, Greater, Ordering, filter}
use Rattle.std.specs.Ordering.{match_ordering, ordering_reverse}
use Rattle.std.specs.Cmp.Lexicographic.{bytes_decides}
use Rattle.std.proofs.lemmas.Bool.{and_parts, and_from}
use Rattle.spec_syntax.specs.Expression.{Expression}
use Rattle.spec_syntax.specs.Grammar.{Grammar}
use Rattle.struct_model.specs.Structure.{Structure, key}
use Rattle.struct_model.specs.Order.{order}
use Rattle.lists.specs.Enumeration.{IsIn, Ascends, Enumerated}
use Rattle.struct_model.specs.Listing.{Before, IsOne, Lists}
use Rattle.struct_model.specs.Bounded.{Bounds, bounded, put, in_order, is_one, listing_within}
use Rattle.struct_model.proofs.OrderLaws.{order_total, order_same}
use Rattle.lists.proofs.Enumerated.{in_filter, from_filter}

after_back : (s t : Structure) → order s t ≡ Greater → Before t s
after_back s t h = order_total.antisymm t s ∙ ap ordering_reverse h

put_self : (s : Structure) (ts : List Structure) → IsIn s (put s ts)
put_self s [] = inl refl
put_self s (t ∷ ts) = at (order s t) refl (put_self s ts)
  where
    at : (o : Ordering) → order s t ≡ o → IsIn s (put s ts) → IsIn s (match_ordering o (s ∷ t ∷ ts) (t ∷ ts) (t ∷ put s ts))
    at Less h later = inl refl
    at Equal h later = inl (order_same s t h)
    at Greater h later = inr later

put_keeps : (s x : Structure) (ts : List Structure) → IsIn x ts → IsIn x (put s ts)
put_keeps s x [] within = absurd within
put_keeps s x (t ∷ ts) within = at (order s t) within (put_keeps s x ts)
  where
    at : (o : Ordering) → IsIn x (t ∷ ts) → (IsIn x ts → IsIn x (put s ts)) → IsIn x (match_ordering o (s ∷ t ∷ ts) (t ∷ ts) (t ∷ put s ts))
    at Less within later = inr within
    at Equal within later = within
    at Greater (inl same) later = inl same
    at Greater (inr there) later = inr (later there)

from_put : (s x : Structure) (ts : List Structure) → IsIn x (put s ts) → (x ≡ s) ⊎ IsIn x ts
from_put s x [] within = within
from_put s x (t ∷ ts) within = at (order s t) within (from_put s x ts)
  where
    at : (o : Ordering) → IsIn x (match_ordering o (s ∷ t ∷ ts) (t ∷ ts) (t ∷ put s ts)) → (IsIn x (put s ts) → (x ≡ s) ⊎ IsIn x ts) → (x ≡ s) ⊎ IsIn x (t ∷ ts)
    at Less within later = within
    at Equal within later = inr within
    at Greater (inl same) later = inr (inl same)
    at Greater (inr there) later = elim (later there) [ inl same ↦ inl same | inr further ↦ inr (inr further) ]

put_ascends : (s : Structure) (ts : List Structure) → Ascends Before ts → Ascends Before (put s ts)
put_ascends s [] a = ((λ y h. absurd h), tt)
put_ascends s (t ∷ ts) a = at (order s t) refl (put_ascends s ts a.1)
  where
    at : (o : Ordering) → order s t ≡ o → Ascends Before (put s ts) → Ascends Before (match_ordering o (s ∷ t ∷ ts) (t ∷ ts) (t ∷ put s ts))
    at Less h others = (
      (λ y within. elim within [
        | inl same ↦ subst (λ v. Before s v) (sym same) h
        | inr later ↦ order_total.trans s t y h (a.0 y later)
      ]),
      a,
    )
    at Equal h others = a
    at Greater h others = (
      (λ y within. elim (from_put s y ts within) [
        | inl same ↦ subst (λ v. Before t v) (sym same) (after_back s t h)
        | inr later ↦ a.0 y later
      ]),
      others,
    )

-- the structures in order are the same ones, each once
pub in_order_is : (ss : List Structure) → Enumerated Before (λ s. IsIn s ss) (in_order ss)
in_order_is [] = record { ascends = tt; sound = λ s h. h; complete = λ s h. h }
in_order_is (s ∷ ss) =
    let others : Enumerated Before (λ t. IsIn t ss) (in_order ss) = in_order_is ss in
    record {
      ascends = put_ascends s (in_order ss) others.ascends;
      sound = λ x within. elim (from_put s x (in_order ss) within) [ inl same ↦ inl same | inr later ↦ inr (others.sound x later) ];
      complete = λ x within. elim within [
        | inl same ↦ subst (λ v. IsIn v (put s (in_order ss))) (sym same) (put_self s (in_order ss))
        | inr later ↦ put_keeps s x (in_order ss) (others.complete x later)
      ];
    }

is_one_from : (g : Grammar) (e : Expression) (u : List ℕ) (s : Structure) → IsOne g e u s → is_one g e u s ≡ true
is_one_from g e u s p = and_from _ _ p.0 ((bytes_decides (key s) u).1 p.1)

from_is_one : (g : Grammar) (e : Expression) (u : List ℕ) (s : Structure) → is_one g e u s ≡ true → IsOne g e u s
from_is_one g e u s h = let both = and_parts _ _ h in (both.0, (bytes_decides (key s) u).0 both.1)

pub listing_within_is : (b : Bounds) (g : Grammar) (e : Expression) (u : List ℕ) → ((s : Structure) → IsOne g e u s → IsIn s (bounded b)) → Lists g e u (listing_within b g e u)
listing_within_is b g e u inside =
    let found : Enumerated Before (λ s. IsIn s (filter (is_one g e u) (bounded b))) (in_order (filter (is_one g e u) (bounded b))) = in_order_is (filter (is_one g e u) (bounded b)) in
    record {
      ascends = found.ascends;
      sound = λ s within. from_is_one g e u s (from_filter (is_one g e u) s (bounded b) (found.sound s within)).1;
      complete = λ s p. found.complete s (in_filter (is_one g e u) s (bounded b) (inside s p) (is_one_from g e u s p));
    }

-- each one that is picked is one of the expression's
pub listing_within_sound : (b : Bounds) (g : Grammar) (e : Expression) (u : List ℕ) (s : Structure) → IsIn s (listing_within b g e u) → IsOne g e u s
listing_within_sound b g e u s within =
    let found : Enumerated Before (λ t. IsIn t (filter (is_one g e u) (bounded b))) (in_order (filter (is_one g e u) (bounded b))) = in_order_is (filter (is_one g e u) (bounded b)) in
    from_is_one g e u s (from_filter (is_one g e u) s (bounded b) (found.sound s within)).1
