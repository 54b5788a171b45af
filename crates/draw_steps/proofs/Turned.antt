-- The least rotation of a list is one list.
use Rattle.std.proofs.Common.{◌≡◌, ℕ, ◌+◌, ◌<◌, Bool, true, false, cond, List, [], ◌∷◌, ◌++◌, map, length, take, drop, refl, sym, ap, ◌∙◌, subst, inl, inr, arith, Some, find, unwrap_or}
use Rattle.std.specs.List.{range_with_len}
use Rattle.std.specs.Ordering.{ordering_reverse}
use Rattle.std.specs.declared.cmp.Ordering.{Ordering}
use Rattle.std.specs.declared.cmp.Ordering.TheVariants.{Less, Equal, Greater}
use Rattle.std.proofs.Math.Seq.{take-append_seam, drop-append_seam}
use Rattle.std.proofs.lemmas.List.{take-append-drop}
use Rattle.lists.specs.Enumeration.{IsIn}
use Rattle.lists.proofs.Enumerated.{in_map, from_map}
use Rattle.lists.proofs.RangeSums.{in_range}
use Rattle.lists.proofs.Places.{in_of_get}
use Rattle.struct_model.specs.Structure.{Structure}
use Rattle.struct_model.specs.Order.{list_order, rotated, is_least_rotation}
use Rattle.struct_model.proofs.OrderLaws.{list_order_total, list_order_equal}
use Rattle.struct_model.proofs.Rotations.{one_before}
use Rattle.canon.specs.Rotations.{IsRotation}
use Rattle.canon.proofs.Turning.{turned_again, length-rotated}
use Rattle.draw_steps.specs.Containers.{turned}
use Rattle.draw_steps.proofs.Among.{range_at}

-- the first element that passes
found_one : {X : Type 0} (p : X → Bool) (xs : List X) (x : X) → IsIn x xs → p x ≡ true → (y : X) × (find p xs ≡ Some y) × (p y ≡ true) × IsIn y xs
found_one p [] x there passes = absurd there
found_one p (z ∷ zs) x there passes = by (p z) refl there (λ later. found_one p zs x later passes)
  where
    by : (b : Bool) → p z ≡ b → IsIn x (z ∷ zs) → (IsIn x zs → (y : _) × (find p zs ≡ Some y) × (p y ≡ true) × IsIn y zs)
        → (y : _) × (cond b (Some z) (find p zs) ≡ Some y) × (p y ≡ true) × IsIn y (z ∷ zs)
    by true is there later = (z, refl, is, inl refl)
    by false is (inl same) later = let e : true ≡ false = sym passes ∙ ap p same ∙ is in absurd (cc)
    by false is (inr behind) later = let found = later behind in (found.0, found.1, found.2, inr found.3)

-- back again
pub back : (ss : List Structure) (i : ℕ) → rotated (rotated ss i) (length (drop i ss)) ≡ ss
back ss i = (λ k. drop-append_seam (drop i ss) (take i ss) k ++ take-append_seam (drop i ss) (take i ss) k) ∙ take-append-drop i ss

-- a rotation of the list is one of each other rotation
between : (ss ts us : List Structure) → 0 < length ss → IsRotation ss ts → IsRotation ss us → IsRotation ts us
between ss ts us some first second =
    let long : length ts ≡ length ss = ap length first.same ∙ length-rotated ss first.place in
    let whole : rotated ts (length (drop first.place ss)) ≡ ss = ap (λ zs. rotated zs (length (drop first.place ss))) first.same ∙ back ss first.place in
    let r : IsRotation ts (rotated (rotated ts (length (drop first.place ss))) second.place) = turned_again ts (length (drop first.place ss)) second.place (omega arith) (omega (arith, second.within)) in
    record { place = r.place; within = r.within; same = second.same ∙ ap (λ zs. rotated zs second.place) (sym whole) ∙ r.same }

not_after : (ts us : List Structure) → is_least_rotation ts ≡ true → IsRotation ts us → list_order ts us ≡ Greater → ⊥
not_after ts us least r greater =
    let not_least : is_least_rotation ts ≡ false = one_before (length ts) ts r.place r.within (ap (list_order ts) (sym r.same) ∙ greater) in
    let e : true ≡ false = sym least ∙ not_least in absurd (cc)

same_least : (ts us : List Structure) → is_least_rotation ts ≡ true → is_least_rotation us ≡ true → IsRotation ts us → IsRotation us ts → ts ≡ us
same_least ts us least also r s = by (list_order ts us) refl
  where
    by : (o : Ordering) → list_order ts us ≡ o → ts ≡ us
    by Less is = absurd (not_after us ts also s (list_order_total.antisymm us ts ∙ ap ordering_reverse is))
    by Equal is = list_order_equal.same ts us is
    by Greater is = absurd (not_after ts us least r is)

pub turned_is : (ss ts : List Structure) → 0 < length ss → IsRotation ss ts → is_least_rotation ts ≡ true → ts ≡ turned ss
turned_is ss ts some r least =
    let there : IsIn (rotated ss r.place) (map (rotated ss) (range_with_len 0 (length ss))) =
    in_map (rotated ss) r.place (range_with_len 0 (length ss)) (in_of_get (range_with_len 0 (length ss)) r.place r.place (range_at 0 (length ss) r.place r.within ∙ ap (λ (n : ℕ). Some n) (none r.place))) in
    let found = found_one is_least_rotation (map (rotated ss) (range_with_len 0 (length ss))) (rotated ss r.place) there (subst (λ zs. is_least_rotation zs ≡ true) r.same least) in
    let from = from_map (rotated ss) found.0 (range_with_len 0 (length ss)) found.3 in
    let other : IsRotation ss found.0 = record { place = from.0; within = omega (arith, (in_range from.0 0 (length ss) from.1).1); same = from.2 } in
    same_least ts found.0 least found.2 (between ss ts found.0 some r other) (between ss found.0 ts some other r)
    ∙ sym (ap (λ o. unwrap_or o ss) found.1)
  where
    none : (k : ℕ) → 0 + k ≡ k
    none k = omega arith
