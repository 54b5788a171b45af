-- The choices of Sets without labels are even: each is met from each of its components, as often as it is there.
use Rattle.std.proofs.Common.{◌≡◌, ◌⊎◌, ℕ, zero, suc, ◌+◌, ◌-◌, ◌*◌, ◌<◌, ◌≤◌, Bool, true, false, not, nat_le, List, [], ◌∷◌, ◌++◌, map, flat_map, length, Some, refl, sym, ap, ◌∙◌, subst, inl, inr, arith}
use Rattle.std.specs.Prelude.{if◌then◌else◌}
use Rattle.std.specs.List.{range_with_len}
use Rattle.std.specs.Option.{option_map_or}
use Rattle.std.specs.declared.cmp.Ordering.{Ordering}
use Rattle.std.specs.declared.cmp.Ordering.TheVariants.{Less, Equal, Greater}
use Rattle.std.specs.Ordering.{is_lt, is_gt, ordering_reverse}
use Rattle.std.proofs.lemmas.Bool.{and_parts, cond-true, cond-false, leb-true}
use Rattle.std.proofs.lemmas.List.{length-map, length-replicate}
use Rattle.std.proofs.lemmas.Grind.{flat_map-append}
use Rattle.lists.specs.Enumeration.{IsIn}
use Rattle.lists.proofs.Enumerated.{in_map, from_map, in_flat_map, from_flat_map}
use Rattle.lists.proofs.FlatMaps.{same_made, range-append}
use Rattle.lists.proofs.RangeSums.{in_range}
use Rattle.spec_syntax.specs.declared.expr.Card.{Card}
use Rattle.spec_syntax.specs.declared.expr.Kind.TheVariants as kind
use Rattle.spec_syntax.specs.declared.statement.Universe.{Universe}
use Rattle.spec_syntax.specs.declared.statement.Universe.TheVariants.{Unlabelled}
use Rattle.spec_syntax.specs.Expression.{Expression, Many}
use Rattle.spec_syntax.specs.Nodes.{node_at}
use Rattle.spec_syntax.specs.Rules.{all_nodes, is_spec}
use Rattle.spec_syntax.specs.Grammar.{Grammar}
use Rattle.struct_model.specs.Structure.{Structure, size}
use Rattle.struct_model.specs.Order.{order, is_before, is_after, is_sorted}
use Rattle.struct_model.specs.Membership.{supply}
use Rattle.struct_model.specs.Bounded.{listing, number}
use Rattle.struct_model.proofs.OrderLaws.{order_total, order_equal}
use Rattle.well_founded.specs.WellFounded.{IsWellFounded}
use Rattle.well_founded.specs.Checked.{grammar}
use Rattle.count_laws.specs.Multisets.{multisets, none_taken}
use Rattle.count_laws.specs.Pointed.{MeetsTimes, IsAscending, put, put_times, enlarged, pointed, pointed_at}
use Rattle.count_laws.specs.SetNumbers.{with_less}
use Rattle.count_laws.proofs.Enlarged.{enlarged_length, less_some}
use Rattle.count_laws.proofs.MetTimes as met
use Rattle.count_laws.proofs.MetTimes.{Alike}
use Rattle.count_laws.proofs.MultisetNumbers.{multisets_are_counted}
use Rattle.count_laws.proofs.OrdersTell.{orders_tell}
use Rattle.count_laws.proofs.Pointed.{multisets_are_met}
use Rattle.listing_laws.specs.Numbers.{exactly}
use Rattle.listing_laws.specs.SetListing.{set, elements}
use Rattle.listing_laws.proofs.Listed.{listed_size}
use Rattle.listing_laws.proofs.UnlabelledSets.{unlabelled_sets_are_listed}
use Rattle.size_counts.specs.CountedView.{Counts, number_of, sets_of, with_exactly}
use Rattle.canon.specs.Sorted.{with_item}
use Rattle.choice_laws.specs.Trees.{Tree, end, choose, graft}
use Rattle.choice_laws.specs.Even.{IsEven}
use Rattle.choice_laws.proofs.Arithmetic.{first_factor, second_factor}
use Rattle.choice_laws.proofs.Evens.{choice_even, instead}
use Rattle.choice_laws.proofs.Rearranged.{alike_exchanged, made_of_made}
use Rattle.draw_steps.specs.declared.copies.Copies.{Copies}
use Rattle.draw_steps.specs.Choices.{copies_of, copies_weight, copies_step, repeated, repeated_choices}
use Rattle.draw_steps.specs.Containers.{sorted}
use Rattle.draw_steps.specs.Steps.{ending}
use Rattle.draw_steps.proofs.FairCycles.{sorted_is}
use Rattle.draw_steps.proofs.FairLists.{some_of, same_length}
use Rattle.draw_steps.proofs.FairTrees.{end_even, graft_among, pairs_even, ending_ending, ending_graft}

-- ---- copies of a component in their places

not_one : (o : Ordering) → not (is_gt o) ≡ true → ordering_reverse o ≡ Less → ⊥
not_one Less h e = cc
not_one Equal h e = cc
not_one Greater h e = cc

-- the first component of a sorted list goes in front of it
front_item : (s : Structure) (ss : List Structure) → is_sorted (s ∷ ss) ≡ true → with_item s ss ≡ s ∷ ss
front_item s [] h = refl
front_item s (t ∷ ts) h = by (λ sorted. front_item t ts sorted) (order t s) refl
  where
    both : (not (is_after s t) ≡ true) × (is_sorted (t ∷ ts) ≡ true)
    both = and_parts (not (is_after s t)) (is_sorted (t ∷ ts)) h

    by : (is_sorted (t ∷ ts) ≡ true → with_item t ts ≡ t ∷ ts) → (o : Ordering) → order t s ≡ o → with_item s (t ∷ ts) ≡ s ∷ t ∷ ts
    by later Less is = absurd (not_one (order s t) both.0 (sym (order_total.antisymm t s) ∙ is))
    by later Equal is =
        let same : t ≡ s = order_equal.same t s is in
        cond-false (is_after t s) (s ∷ t ∷ ts) (t ∷ with_item s ts) (ap is_gt is)
        ∙ ap (λ x. t ∷ with_item x ts) (sym same) ∙ ap (λ xs. t ∷ xs) (later both.1) ∙ ap (λ x. x ∷ t ∷ ts) same
    by later Greater is = cond-true (is_after t s) (s ∷ t ∷ ts) (t ∷ with_item s ts) (ap is_gt is)

rest_sorted : (s : Structure) (ss : List Structure) → is_sorted (s ∷ ss) ≡ true → is_sorted ss ≡ true
rest_sorted s [] h = refl
rest_sorted s (t ∷ ts) h = (and_parts (not (is_after s t)) (is_sorted (t ∷ ts)) h).1

-- its place in a sorted list is in front of the first component that isn't before it
item_put : (s : Structure) (ss : List Structure) → is_sorted ss ≡ true → with_item s ss ≡ put is_before s ss
item_put s [] h = refl
item_put s (t ∷ ts) h = by (order t s) refl (item_put s ts (rest_sorted t ts h))
  where
    by : (o : Ordering) → order t s ≡ o → with_item s ts ≡ put is_before s ts → with_item s (t ∷ ts) ≡ put is_before s (t ∷ ts)
    by Less is later =
        cond-false (is_after t s) (s ∷ t ∷ ts) (t ∷ with_item s ts) (ap is_gt is) ∙ ap (λ xs. t ∷ xs) later
        ∙ sym (cond-true (is_before t s) (t ∷ put is_before s ts) (s ∷ t ∷ ts) (ap is_lt is))
    by Equal is later =
        let same : t ≡ s = order_equal.same t s is in
        cond-false (is_after t s) (s ∷ t ∷ ts) (t ∷ with_item s ts) (ap is_gt is)
        ∙ ap (λ x. t ∷ with_item x ts) (sym same) ∙ ap (λ xs. t ∷ xs) (front_item t ts h) ∙ ap (λ x. x ∷ t ∷ ts) same
        ∙ sym (cond-false (is_before t s) (t ∷ put is_before s ts) (s ∷ t ∷ ts) (ap is_lt is))
    by Greater is later =
        cond-true (is_after t s) (s ∷ t ∷ ts) (t ∷ with_item s ts) (ap is_gt is)
        ∙ sym (cond-false (is_before t s) (t ∷ put is_before s ts) (s ∷ t ∷ ts) (ap is_lt is))

copies_put : (j : ℕ) (s : Structure) (ss : List Structure) → sorted (repeated j s ss) ≡ put_times is_before j s (sorted ss)
copies_put zero s ss = refl
copies_put (suc j) s ss = item_put s (sorted (repeated j s ss)) (sorted_is (repeated j s ss)) ∙ ap (put is_before s) (copies_put j s ss)

put_holds : (x s : Structure) (ss : List Structure) → (x ≡ s) ⊎ IsIn x ss → IsIn x (put is_before s ss)
put_holds x s [] there = there
put_holds x s (t ∷ ts) there = by (is_before t s) there (λ later. put_holds x s ts later)
  where
    by : (b : Bool) → (x ≡ s) ⊎ IsIn x (t ∷ ts) → ((x ≡ s) ⊎ IsIn x ts → IsIn x (put is_before s ts)) → IsIn x (if b then t ∷ put is_before s ts else s ∷ t ∷ ts)
    by false (inl is) later = inl is
    by false (inr at) later = inr at
    by true (inl is) later = inr (later (inl is))
    by true (inr (inl at)) later = inl at
    by true (inr (inr at)) later = inr (later (inr at))

put_others : (j : ℕ) (x s : Structure) (ss : List Structure) → IsIn x ss → IsIn x (put_times is_before j s ss)
put_others zero x s ss there = there
put_others (suc j) x s ss there = put_holds x s (put_times is_before j s ss) (inr (put_others j x s ss there))

put_itself : (j : ℕ) (s : Structure) (ss : List Structure) → 0 < j → IsIn s (put_times is_before j s ss)
put_itself zero s ss some = absurd (omega (arith, some))
put_itself (suc j) s ss some = put_holds s s (put_times is_before j s ss) (inl refl)

-- ---- the multisets of elements

module _ (g : Grammar) (e : Expression) (card : Card) (spec : is_spec g.rules ≡ true) (founded : IsWellFounded g) (there : IsIn (Many kind.Set e card) (all_nodes g.rules)) (unlabelled : g.universe ≡ Unlabelled) where
  -- the structures of a size
  abbrev pub of_size : ℕ → List Structure
  of_size d = listing g e (supply Unlabelled d)

  -- the lists of components of the Sets of so many with this total size
  abbrev pub target : ℕ → ℕ → List (List Structure)
  target c m = multisets size (elements g e m) c m

  sized : (d : ℕ) (s : Structure) → IsIn s (of_size d) → size s ≡ d
  sized d s at = listed_size g e (supply Unlabelled d) s at ∙ length-replicate {A = ℕ} d 0

  -- larger elements don't matter
  smaller : (c m n : ℕ) → n ≤ m → multisets size (elements g e m) c n ≡ target c n
  smaller c m n less =
      ap (λ (xs : List Structure). multisets size xs c n) apart
      ∙ (multisets_are_counted Structure).of_small size (elements g e n) (flat_map of_size (range_with_len (1 + n) (m - n))) c n larger
    where
      both : (m n : ℕ) → n ≤ m → m ≡ n + (m - n)
      both m n less = omega (arith, less)

      apart : elements g e m ≡ elements g e n ++ flat_map of_size (range_with_len (1 + n) (m - n))
      apart =
          ap (λ (k : ℕ). flat_map of_size (range_with_len 1 k)) (both m n less) ∙ ap (flat_map of_size) (range-append 1 n (m - n))
          ∙ flat_map-append of_size (range_with_len 1 n) (range_with_len (1 + n) (m - n))

      larger : (s : Structure) → IsIn s (flat_map of_size (range_with_len (1 + n) (m - n))) → n < size s
      larger s at =
          let found = from_flat_map of_size (range_with_len (1 + n) (m - n)) s at in
          let within = in_range found.0 (1 + n) (m - n) found.1 in
          omega (arith, within.0, sized found.0 s found.2)

  -- ---- with copies of one component

  -- what there is with these copies of a component
  abbrev pub with_copies : ℕ → ℕ → Copies → List (List Structure)
  with_copies c m copies = flat_map (λ s. enlarged (put_times is_before copies.number s) (copies.number * copies.size) (target (c - copies.number)) m) (of_size copies.size)

  ascending : (m : ℕ) → IsAscending is_before (elements g e m)
  ascending m = (orders_tell Structure).ascending order order_total (elements g e m) (unlabelled_sets_are_listed.ascend g kind.Set e card m spec founded unlabelled there).ascends

  enlarged_smaller : (change : List Structure → List Structure) (less c m : ℕ)
      → enlarged change less (target c) m ≡ enlarged change less (multisets size (elements g e m) c) m
  enlarged_smaller change less c m = ap (λ xs. if nat_le less m then map change xs else []) (sym (smaller c m (m - less) (fewer m less)))
    where
      fewer : (m less : ℕ) → m - less ≤ m
      fewer m less = omega arith

  -- one component, by the number of its copies
  of_one : (c m d : ℕ) (s : Structure) → IsIn s (of_size d)
      → flat_map (λ j. enlarged (put_times is_before j s) (j * d) (target (c - j)) m) (range_with_len 1 c)
      ≡ pointed_at is_before size s (multisets size (elements g e m)) c m
  of_one c m d s at =
      same_made (λ j. enlarged (put_times is_before j s) (j * d) (target (c - j)) m)
      (λ j. enlarged (put_times is_before j s) (j * size s) (multisets size (elements g e m) (c - j)) m) (range_with_len 1 c)
      (λ j within.
      enlarged_smaller (put_times is_before j s) (j * d) (c - j) m
      ∙ ap (λ (k : ℕ). enlarged (put_times is_before j s) (j * k) (multisets size (elements g e m) (c - j)) m) (sym (sized d s at)))

  all_copies : (c m : ℕ) → Alike (flat_map (with_copies c m) (copies_of c m)) (pointed is_before size (elements g e m) c m)
  all_copies c m =
      met.alike_trans (met.same (made_of_made (λ d. map (λ j. record { size = d; number = j }) (range_with_len 1 c)) (with_copies c m) (range_with_len 1 m)))
      (met.alike_trans (met.alike_made (λ d. flat_map (with_copies c m) (map (λ j. record { size = d; number = j }) (range_with_len 1 c)))
      (λ d. flat_map (λ s. pointed_at is_before size s (multisets size (elements g e m)) c m) (of_size d)) (range_with_len 1 m) (λ d within. of_this_size d))
      (met.same (sym (made_of_made of_size (λ s. pointed_at is_before size s (multisets size (elements g e m)) c m) (range_with_len 1 m)))))
    where
      over_map : (d : ℕ) (js : List ℕ)
          → flat_map (with_copies c m) (map (λ j. record { size = d; number = j }) js)
          ≡ flat_map (λ j. flat_map (λ s. enlarged (put_times is_before j s) (j * d) (target (c - j)) m) (of_size d)) js
      over_map d [] = refl
      over_map d (j ∷ js) = ap (λ rest. flat_map (λ s. enlarged (put_times is_before j s) (j * d) (target (c - j)) m) (of_size d) ++ rest) (over_map d js)

      of_this_size : (d : ℕ)
          → Alike (flat_map (with_copies c m) (map (λ j. record { size = d; number = j }) (range_with_len 1 c)))
          (flat_map (λ s. pointed_at is_before size s (multisets size (elements g e m)) c m) (of_size d))
      of_this_size d =
          met.alike_trans (met.same (over_map d (range_with_len 1 c)))
          (met.alike_trans (alike_exchanged (λ j s. enlarged (put_times is_before j s) (j * d) (target (c - j)) m) (range_with_len 1 c) (of_size d))
          (met.same (same_made (λ s. flat_map (λ j. enlarged (put_times is_before j s) (j * d) (target (c - j)) m) (range_with_len 1 c))
          (λ s. pointed_at is_before size s (multisets size (elements g e m)) c m) (of_size d) (λ s at. of_one c m d s at))))

  -- a multiset of c components is met c times
  pub copies_meet : (c m : ℕ) → MeetsTimes c (flat_map (with_copies c m) (copies_of c m)) (target c m)
  copies_meet c m =
      met.instead c (flat_map (with_copies c m) (copies_of c m)) (pointed is_before size (elements g e m) c m) (target c m) (all_copies c m)
      ((multisets_are_met Structure).meets is_before size (elements g e m) c m (ascending m))

  pub none_target : (m : ℕ) → 0 < length (target 0 m) → target 0 m ≡ [] ∷ []
  none_target m some = by m (sym (ap length ((multisets_are_counted Structure).none size (elements g e m) m))) ((multisets_are_counted Structure).none size (elements g e m) m)
    where
      by : (k : ℕ) → length (none_taken {X = Structure} 0 k) ≡ length (target 0 m) → target 0 m ≡ none_taken 0 k → target 0 m ≡ [] ∷ []
      by zero long is = is
      by (suc k) long is = absurd (omega (arith, some, long))

  -- ---- the choices

  module _ (counts : Counts) (node element : ℕ) (own : grammar counts.checked ≡ g) (at : node_at counts.checked.rules node ≡ Some (Many kind.Set e card)) (inside : node_at counts.checked.rules element ≡ Some e)
      (inner : ℕ → List ℕ → Tree Structure) (Good : Structure → Type 0)
      (fair : (d : ℕ) → 0 < length (of_size d) → ((s : Structure) → IsIn s (of_size d) → Good s) → IsEven (inner element (supply Unlabelled d)) (of_size d)) where
    element_number : (d : ℕ) → number_of counts element d ≡ length (of_size d)
    element_number d =
        ap (λ o. option_map_or (λ f. number (grammar counts.checked) f d) o 0) inside ∙ ap (λ h. number h e d) own
        ∙ ap (λ (u : Universe). length (listing g e (supply u d))) unlabelled

    set_number : (c m : ℕ) → sets_of counts node c m ≡ length (target c m)
    set_number c m =
        ap (λ o. option_map_or (λ f. number (grammar counts.checked) (with_exactly c f) m) o 0) at ∙ ap (λ h. number h (Many kind.Set e (exactly c)) m) own
        ∙ ap (λ (u : Universe). length (listing g (Many kind.Set e (exactly c)) (supply u m))) unlabelled
        ∙ ap length (unlabelled_sets_are_listed.sets g e card c m spec founded unlabelled there) ∙ length-map (target c m) set

    copies_number : (c m : ℕ) (copies : Copies) → length (with_copies c m copies) ≡ 1 * copies_weight counts node element c m copies
    copies_number c m copies =
        same_length (with_less (copies.number * copies.size) (λ k. length (target (c - copies.number) k)) m)
        (λ s. enlarged (put_times is_before copies.number s) (copies.number * copies.size) (target (c - copies.number)) m) (of_size copies.size)
        (λ s within. enlarged_length (put_times is_before copies.number s) (copies.number * copies.size) (target (c - copies.number)) m)
        ∙ (λ i. sym (element_number copies.size) i * with_less (copies.number * copies.size) (λ k. sym (set_number (c - copies.number) k) i) m)
        ∙ once (copies_weight counts node element c m copies)
      where
        once : (k : ℕ) → k ≡ 1 * k
        once k = omega arith

    abbrev AreGood : List (List Structure) → Type 0
    AreGood sss = (ss : List Structure) → IsIn ss sss → (s : Structure) → IsIn s ss → Good s

    abbrev finished : ℕ → ℕ → ℕ → Tree (List Structure)
    finished most c m = ending sorted (repeated_choices counts inner node element most c m)

    -- with these copies of a component
    abbrev going_on : ℕ → ℕ → ℕ → Copies → Tree (List Structure)
    going_on most c m copies =
        graft (λ s. ending (put_times is_before copies.number s) (finished most (c - copies.number) (m - copies.number * copies.size))) (inner element (supply Unlabelled copies.size))

    by_copies : (most c m : ℕ)
        → finished (suc most) (suc c) m
        ≡ choose (map {B = ℕ × Tree (List Structure)} (λ copies. (copies_weight counts node element (suc c) m copies, going_on most (suc c) m copies)) (copies_of (suc c) m))
    by_copies most c m =
        ending_graft
        (λ copies. graft (λ s. ending (repeated copies.number s) (repeated_choices counts inner node element most (suc c - copies.number) (m - copies.number * copies.size)))
        (inner element (supply Unlabelled copies.size)))
        sorted (copies_step counts node element (suc c) m)
        ∙ (λ i. graft (λ copies. later copies i) (copies_step counts node element (suc c) m))
        ∙ graft_among (going_on most (suc c) m) (copies_weight counts node element (suc c) m) (copies_of (suc c) m)
      where
        put_later : (j : ℕ) (s : Structure) (tree : Tree (List Structure)) → ending sorted (ending (repeated j s) tree) ≡ ending (put_times is_before j s) (ending sorted tree)
        put_later j s tree =
            ending_ending (repeated j s) sorted tree ∙ (λ i. graft (λ ss. end (copies_put j s ss i)) tree) ∙ sym (ending_ending sorted (put_times is_before j s) tree)

        later : (copies : Copies)
            → ending sorted (graft (λ s. ending (repeated copies.number s) (repeated_choices counts inner node element most (suc c - copies.number) (m - copies.number * copies.size)))
            (inner element (supply Unlabelled copies.size)))
            ≡ going_on most (suc c) m copies
        later copies =
            ending_graft (λ s. ending (repeated copies.number s) (repeated_choices counts inner node element most (suc c - copies.number) (m - copies.number * copies.size))) sorted
            (inner element (supply Unlabelled copies.size))
            ∙ (λ i. graft
            (λ s. put_later copies.number s (repeated_choices counts inner node element most (suc c - copies.number) (m - copies.number * copies.size)) i)
            (inner element (supply Unlabelled copies.size)))

    -- the copies are at least one and at most all
    record AreSome (c : ℕ) (copies : Copies) : Type 0 where
      pub low : 1 ≤ copies.number
      pub high : copies.number ≤ c

    are_some : (c m : ℕ) (copies : Copies) → IsIn copies (copies_of c m) → AreSome c copies
    are_some c m copies there =
        let of = from_flat_map (λ d. map (λ j. record { size = d; number = j }) (range_with_len 1 c)) (range_with_len 1 m) copies there in
        let made = from_map (λ j. record { size = of.0; number = j }) copies (range_with_len 1 c) of.2 in
        let within = in_range made.0 1 c made.1 in
        let same : copies.number ≡ made.0 = ap (λ (x : Copies). x.number) made.2 in
        record { low = omega (arith, within.0, same); high = omega (arith, within.1, same) }

    even_behind : (most c m : ℕ) → AreGood (target (suc c) m)
        → ((b k : ℕ) → b ≤ c → 0 < length (target b k) → AreGood (target b k) → IsEven (finished most b k) (target b k))
        → IsEven (finished (suc most) (suc c) m) (target (suc c) m)
    even_behind most c m good others =
        instead (suc c) (finished (suc most) (suc c) m) (flat_map (with_copies (suc c) m) (copies_of (suc c) m)) (target (suc c) m) (omega arith)
        (subst (λ tree. IsEven tree (flat_map (with_copies (suc c) m) (copies_of (suc c) m))) (sym (by_copies most c m))
        (choice_even 1 (copies_weight counts node element (suc c) m) (going_on most (suc c) m) (with_copies (suc c) m) (copies_of (suc c) m)
        (λ copies within. copies_number (suc c) m copies) (λ copies within heavy. on_copies copies within heavy)))
        (copies_meet (suc c) m)
      where
        on_copies : (copies : Copies) → IsIn copies (copies_of (suc c) m) → 0 < copies_weight counts node element (suc c) m copies
            → IsEven (going_on most (suc c) m copies) (with_copies (suc c) m copies)
        on_copies copies within heavy = decide (nat_le less m) refl
          where
            less : ℕ
            less = copies.number * copies.size

            b : ℕ
            b = suc c - copies.number

            some : AreSome (suc c) copies
            some = are_some (suc c) m copies within

            elements_some : 0 < length (of_size copies.size)
            elements_some =
                omega (
                  arith,
                  element_number copies.size,
                  first_factor (number_of counts element copies.size) (with_less less (sets_of counts node b) m) heavy,
                )

            others_weight : 0 < with_less less (sets_of counts node b) m
            others_weight = second_factor (number_of counts element copies.size) (with_less less (sets_of counts node b) m) heavy

            decide : (fits : Bool) → nat_le less m ≡ fits → IsEven (going_on most (suc c) m copies) (with_copies (suc c) m copies)
            decide false large =
                absurd (let none : with_less less (sets_of counts node b) m ≡ 0 = cond-false (nat_le less m) (sets_of counts node b (m - less)) 0 large in omega (arith, others_weight, none))
            decide true fits = subst (IsEven (going_on most (suc c) m copies)) (sym all_put) pairs
              where
                others_some : 0 < length (target b (m - less))
                others_some =
                    omega (
                      arith,
                      others_weight,
                      less_some less (sets_of counts node b) m (leb-true less m fits),
                      set_number b (m - less),
                    )

                put_all : (s : Structure) → enlarged (put_times is_before copies.number s) less (target b) m ≡ map (put_times is_before copies.number s) (target b (m - less))
                put_all s = cond-true (nat_le less m) (map (put_times is_before copies.number s) (target b (m - less))) [] fits

                all_put : with_copies (suc c) m copies ≡ flat_map (λ s. map (put_times is_before copies.number s) (target b (m - less))) (of_size copies.size)
                all_put = λ i. flat_map (λ s. put_all s i) (of_size copies.size)

                stands : (s : Structure) → IsIn s (of_size copies.size) → (ys : List Structure) → IsIn ys (target b (m - less)) → IsIn (put_times is_before copies.number s ys) (target (suc c) m)
                stands s at ys there =
                    (copies_meet (suc c) m).within (put_times is_before copies.number s ys)
                    (in_flat_map (with_copies (suc c) m) copies (copies_of (suc c) m) (put_times is_before copies.number s ys) within
                    (subst (IsIn (put_times is_before copies.number s ys)) (sym all_put)
                    (in_flat_map (λ z. map (put_times is_before copies.number z) (target b (m - less))) s (of_size copies.size) (put_times is_before copies.number s ys) at
                    (in_map (put_times is_before copies.number s) ys (target b (m - less)) there))))

                pairs : IsEven (going_on most (suc c) m copies) (flat_map (λ s. map (put_times is_before copies.number s) (target b (m - less))) (of_size copies.size))
                pairs =
                    pairs_even (put_times is_before copies.number) (inner element (supply Unlabelled copies.size)) (finished most b (m - less)) (of_size copies.size) (target b (m - less))
                    (fair copies.size elements_some (λ s at.
                    let other = some_of (target b (m - less)) others_some in
                    good (put_times is_before copies.number s other.0) (stands s at other.0 other.1) s (put_itself copies.number s other.0 (omega (arith, some.low)))))
                    (others b (m - less) (omega (arith, some.low)) others_some (λ ys there x at.
                    let first = some_of (of_size copies.size) elements_some in
                    good (put_times is_before copies.number first.0 ys) (stands first.0 first.1 ys there) x (put_others copies.number x first.0 ys at)))

    pub multisets_even : (most c m : ℕ) → c ≤ most → 0 < length (target c m) → AreGood (target c m) → IsEven (finished most c m) (target c m)
    multisets_even most zero m few some good = subst (IsEven (end [])) (sym (none_target m some)) (end_even [])
    multisets_even zero (suc c) m few some good = absurd (omega (arith, few))
    multisets_even (suc most) (suc c) m few some good = even_behind most c m good (λ b k less more well. multisets_even most b k (omega (arith, less, few)) more well)
