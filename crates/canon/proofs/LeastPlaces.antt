-- The search for the first of the least rotations: of two places one is passed over, with all that were compared behind it.
use Rattle.std.proofs.Common.{◌≡◌, ◌⊎◌, ℕ, zero, suc, ◌+◌, ◌-◌, ◌<◌, ◌≤◌, true, false, List, [], ◌∷◌, ◌++◌, length, slice_get, Some, refl, sym, ap, ◌∙◌, subst, inl, inr, arith}
use Rattle.std.specs.declared.cmp.Ordering.{Ordering}
use Rattle.std.specs.declared.cmp.Ordering.TheVariants.{Less, Equal, Greater}
use Rattle.std.specs.Ordering.{is_gt, ordering_then, ordering_reverse}
use Rattle.std.proofs.lemmas.Bool.{cases_lt}
use Rattle.std.proofs.lemmas.Cmp.{alike_right, tied_itself}
use Rattle.struct_model.specs.Structure.{Structure}
use Rattle.struct_model.specs.Order.{order, list_order, rotated, is_least_rotation}
use Rattle.struct_model.proofs.OrderLaws.{order_total, order_same, list_order_total}
use Rattle.struct_model.proofs.Rotations.{none_before, one_before}
use Rattle.canon.specs.Rotations.{IsLeastPlace, IsRotation}
use Rattle.canon.proofs.Turning.{same_lists, length-rotated, rotated_at, once_more, rotated_none, turned_again}

-- ---- the order of lists

-- the first difference decides
first_difference : (ss ts : List Structure) (c : ℕ) (s t : Structure) → ((q : ℕ) → q < c → slice_get ss q ≡ slice_get ts q)
    → slice_get ss c ≡ Some s → slice_get ts c ≡ Some t → order s t ≡ Less → list_order ss ts ≡ Less
first_difference [] ts c s t same at there less = absurd (cc)
first_difference (x ∷ xs) [] c s t same at there less = absurd (cc)
first_difference (x ∷ xs) (y ∷ ys) zero s t same at there less =
    let first : x ≡ s = cc in
    let second : y ≡ t = cc in
    let here : order x y ≡ Less = (λ i. order (first i) (second i)) ∙ less in
    ap (λ o. ordering_then o (list_order xs ys)) here
first_difference (x ∷ xs) (y ∷ ys) (suc c) s t same at there less =
    let equal : Some x ≡ Some y = same 0 (omega arith) in
    let first : x ≡ y = cc in
    let here : order x y ≡ Equal = ap (order x) (sym first) ∙ tied_itself order_total x in
    ap (λ o. ordering_then o (list_order xs ys)) here ∙ first_difference xs ys c s t (λ q h. same (suc q) (next q h)) at there less
  where
    next : (q : ℕ) → q < c → suc q < suc c
    next q h = omega arith

turn_less : (o p : Ordering) → o ≡ ordering_reverse p → p ≡ Less → o ≡ Greater
turn_less o p e h = e ∙ ap ordering_reverse h

turn_greater : (o p : Ordering) → o ≡ ordering_reverse p → p ≡ Greater → o ≡ Less
turn_greater o p e h = e ∙ ap ordering_reverse h

pub greater_back : (s t : Structure) → order s t ≡ Greater → order t s ≡ Less
greater_back s t h = turn_greater (order t s) (order s t) (order_total.antisymm t s) h

lists_less_back : (ss ts : List Structure) → list_order ss ts ≡ Less → list_order ts ss ≡ Greater
lists_less_back ss ts h = turn_less (list_order ts ss) (list_order ss ts) (list_order_total.antisymm ts ss) h

lists_greater_back : (ss ts : List Structure) → list_order ss ts ≡ Greater → list_order ts ss ≡ Less
lists_greater_back ss ts h = turn_greater (list_order ts ss) (list_order ss ts) (list_order_total.antisymm ts ss) h

not_before_itself : (ss : List Structure) → list_order ss ss ≡ Less → ⊥
not_before_itself ss h = let equal : list_order ss ss ≡ Equal = tied_itself list_order_total ss in cc

-- ---- there is a least place

-- as IsLeastPlace, among the first n places
record IsLeastAmong (ss : List Structure) (n i : ℕ) : Type 0 where
  within : i < n
  least : (k : ℕ) → k < n → list_order (rotated ss i) (rotated ss k) ≡ Greater → ⊥
  first : (k : ℕ) → k < i → list_order (rotated ss i) (rotated ss k) ≡ Less

gt_not : (o : Ordering) → is_gt o ≡ false → o ≡ Greater → ⊥
gt_not o h e = let wrong : false ≡ true = sym h ∙ ap is_gt e in cc

less_through : (xs ys zs : List Structure) → list_order xs ys ≡ Less → (list_order ys zs ≡ Greater → ⊥) → list_order xs zs ≡ Less
less_through xs ys zs h k = by (list_order ys zs) refl k
  where
    by : (o : Ordering) → list_order ys zs ≡ o → (o ≡ Greater → ⊥) → list_order xs zs ≡ Less
    by Less e g = list_order_total.trans xs ys zs h e
    by Equal e g = sym (alike_right list_order_total ys zs xs e) ∙ h
    by Greater e g = absurd (g refl)

not_less : (o : Ordering) → o ≡ Less → o ≡ Greater → ⊥
not_less o h e = cc

one_more : (ss : List Structure) (n i : ℕ) → IsLeastAmong ss n i → (j : ℕ) × IsLeastAmong ss (n + 1) j
one_more ss n i among = by (list_order (rotated ss i) (rotated ss n)) refl
  where
    last : (k : ℕ) → k < n + 1 → (k < n) ⊎ (k ≡ n)
    last k h = elim (cases_lt k n) [ inl less ↦ inl less | inr past ↦ inr (omega arith) ]

    stays : (list_order (rotated ss i) (rotated ss n) ≡ Greater → ⊥) → IsLeastAmong ss (n + 1) i
    stays h = record {
      within = omega (arith, among.within);
      least = λ k less. elim (last k less) [
        | inl before ↦ among.least k before
        | inr here ↦ subst (λ (m : ℕ). list_order (rotated ss i) (rotated ss m) ≡ Greater → ⊥) (sym here) h
      ];
      first = among.first;
    }

    before_all : list_order (rotated ss i) (rotated ss n) ≡ Greater → (k : ℕ) → k < n → list_order (rotated ss n) (rotated ss k) ≡ Less
    before_all h k less = less_through (rotated ss n) (rotated ss i) (rotated ss k) (lists_greater_back (rotated ss i) (rotated ss n) h) (among.least k less)

    itself : list_order (rotated ss n) (rotated ss n) ≡ Greater → ⊥
    itself h = gt_not (list_order (rotated ss n) (rotated ss n)) (ap is_gt (tied_itself list_order_total (rotated ss n))) h

    moves : ((k : ℕ) → k < n → list_order (rotated ss n) (rotated ss k) ≡ Less) → IsLeastAmong ss (n + 1) n
    moves h = record {
      within = omega arith;
      least = λ k less. elim (last k less) [
        | inl before ↦ not_less (list_order (rotated ss n) (rotated ss k)) (h k before)
        | inr here ↦ subst (λ (m : ℕ). list_order (rotated ss n) (rotated ss m) ≡ Greater → ⊥) (sym here) itself
      ];
      first = h;
    }

    by : (o : Ordering) → list_order (rotated ss i) (rotated ss n) ≡ o → (j : ℕ) × IsLeastAmong ss (n + 1) j
    by Less e = (i, stays (not_less (list_order (rotated ss i) (rotated ss n)) e))
    by Equal e = (i, stays (gt_not (list_order (rotated ss i) (rotated ss n)) (ap is_gt e)))
    by Greater e = (n, moves (before_all e))

least_among : (ss : List Structure) (n : ℕ) → (j : ℕ) × IsLeastAmong ss (n + 1) j
least_among ss zero = (0, record { within = omega arith; least = only; first = λ k less. absurd (none k less) })
  where
    none : (k : ℕ) → k < 0 → ⊥
    none k less = omega arith

    only : (k : ℕ) → k < 0 + 1 → list_order (rotated ss 0) (rotated ss k) ≡ Greater → ⊥
    only k less h =
        let first : k ≡ 0 = omega arith in
        gt_not (list_order (rotated ss 0) (rotated ss k)) (ap (λ (m : ℕ). is_gt (list_order (rotated ss 0) (rotated ss m))) first ∙ ap is_gt (tied_itself list_order_total (rotated ss 0))) h
least_among ss (suc n) = let found = least_among ss n in subst (λ (m : ℕ). (j : ℕ) × IsLeastAmong ss m j) (number n) (one_more ss (n + 1) found.0 found.1)
  where
    number : (m : ℕ) → m + 1 + 1 ≡ suc m + 1
    number m = omega arith

least_place : (ss : List Structure) → 0 < length ss → (i : ℕ) × IsLeastPlace ss i
least_place ss some =
    let found = least_among ss (length ss - 1) in
    let all : length ss - 1 + 1 ≡ length ss = omega arith in
    let among : IsLeastAmong ss (length ss) found.0 = subst (λ (m : ℕ). IsLeastAmong ss m found.0) all found.1 in
    (found.0, record { within = among.within; least = among.least; first = among.first })

-- ---- places that are passed over

-- the same k structures stand from both places on, round about
pub record AreEqual (ss : List Structure) (i j k : ℕ) : Type 0 where
  pub at : (q : ℕ) → q < k → slice_get (ss ++ ss) (i + q) ≡ slice_get (ss ++ ss) (j + q)

-- the place of one that stands round about, in the list
record IsWrapped (ss : List Structure) (r p : ℕ) : Type 0 where
  within : p < length ss
  at : (q : ℕ) → r + q < length ss + length ss → slice_get (ss ++ ss) (p + q) ≡ slice_get (ss ++ ss) (r + q)

wrapped : (ss : List Structure) (r : ℕ) → r < length ss + length ss → (p : ℕ) × IsWrapped ss r p
wrapped ss r h = elim (cases_lt r (length ss)) [
  | inl less ↦ (r, record { within = less; at = λ q within. refl })
  | inr past ↦ (r - length ss, record { within = omega arith; at = λ q within. sym (once_more ss (r - length ss + q) (r + q) (short past q within) (round past q)) })
]
  where
    short : length ss ≤ r → (q : ℕ) → r + q < length ss + length ss → r - length ss + q < length ss
    short past q within = omega arith

    round : length ss ≤ r → (q : ℕ) → length ss + (r - length ss + q) ≡ r + q
    round past q = omega arith

-- where the structures behind place i come to be before those behind place j, none of the places from j to there is least
pub passed : (ss : List Structure) (i j k m c t : ℕ) (x y : Structure) → IsLeastPlace ss t → AreEqual ss i j k → i < length ss → k < length ss
    → m + c ≡ k → j + m ≡ t
    → slice_get (ss ++ ss) (i + k) ≡ Some x → slice_get (ss ++ ss) (j + k) ≡ Some y → order x y ≡ Less → ⊥
passed ss i j k m c t x y least equal first short parts here at there less =
    let found = wrapped ss (i + m) (omega arith) in
    let p = found.0 in
    let wrap : IsWrapped ss (i + m) p = found.1 in
    let left : (q : ℕ) → q ≤ c → slice_get (rotated ss p) q ≡ slice_get (ss ++ ss) (i + (m + q)) = λ q h.
    rotated_at ss p q (lt_le p (length ss) wrap.within) (near q h) ∙ wrap.at q (inside q h) ∙ ap (slice_get (ss ++ ss)) (regroup i m q) in
    let right : (q : ℕ) → q ≤ c → slice_get (rotated ss t) q ≡ slice_get (ss ++ ss) (j + (m + q)) = λ q h.
    rotated_at ss t q (lt_le t (length ss) least.within) (near q h) ∙ ap (slice_get (ss ++ ss)) (ap (λ (n : ℕ). n + q) (sym here) ∙ regroup j m q) in
    let before : list_order (rotated ss p) (rotated ss t) ≡ Less =
    first_difference (rotated ss p) (rotated ss t) c x y (λ q h. left q (lt_le q c h) ∙ equal.at (m + q) (more q h) ∙ sym (right q (lt_le q c h)))
    (left c (same_le c) ∙ ap (λ (n : ℕ). slice_get (ss ++ ss) (i + n)) parts ∙ at) (right c (same_le c) ∙ ap (λ (n : ℕ). slice_get (ss ++ ss) (j + n)) parts ∙ there) less in
    least.least p wrap.within (lists_less_back (rotated ss p) (rotated ss t) before)
  where
    lt_le : (a b : ℕ) → a < b → a ≤ b
    lt_le a b h = omega arith

    same_le : (a : ℕ) → a ≤ a
    same_le a = omega arith

    near : (q : ℕ) → q ≤ c → q < length ss
    near q h = omega arith

    inside : (q : ℕ) → q ≤ c → i + m + q < length ss + length ss
    inside q h = omega arith

    more : (q : ℕ) → q < c → m + q < k
    more q h = omega arith

    regroup : (a b q : ℕ) → a + b + q ≡ a + (b + q)
    regroup a b q = omega arith

-- where all the structures behind an earlier place are those behind place j, no place from j on is the first of the least
pub passed_all : (ss : List Structure) (i j k t : ℕ) → IsLeastPlace ss t → AreEqual ss i j k → i < j → length ss ≤ k → j ≤ t → ⊥
passed_all ss i j k t least equal before all later =
    let m = t - j in
    let same : rotated ss t ≡ rotated ss (i + m) =
    same_lists (rotated ss t) (rotated ss (i + m)) (length-rotated ss t ∙ sym (length-rotated ss (i + m))) (λ q h.
    let short : q < length ss = subst (λ (n : ℕ). q < n) (length-rotated ss t) h in
    rotated_at ss t q (end least.within) short ∙ at q short ∙ sym (rotated_at ss (i + m) q (start least.within) short)) in
    not_before_itself (rotated ss t) (ap (list_order (rotated ss t)) same ∙ least.first (i + m) (omega arith))
  where
    end : t < length ss → t ≤ length ss
    end h = omega arith

    start : t < length ss → i + (t - j) ≤ length ss
    start h = omega arith

    at : (q : ℕ) → q < length ss → slice_get (ss ++ ss) (t + q) ≡ slice_get (ss ++ ss) (i + (t - j) + q)
    at q short = elim (cases_lt (t - j + q) (length ss)) [
      | inl near ↦ ap (slice_get (ss ++ ss)) (split_j q) ∙ sym (equal.at (t - j + q) (omega arith)) ∙ ap (slice_get (ss ++ ss)) (split_i q)
      | inr far ↦
          let r = t - j + q - length ss in
          let within : t < length ss = least.within in
          once_more ss (j + r) (t + q) (omega arith) (omega arith) ∙ sym (equal.at r (omega arith)) ∙ sym (once_more ss (i + r) (i + (t - j) + q) (omega arith) (omega arith))
    ]
      where
        split_j : (n : ℕ) → t + n ≡ j + (t - j + n)
        split_j n = omega arith

        split_i : (n : ℕ) → i + (t - j + n) ≡ i + (t - j) + n
        split_i n = omega arith

-- ---- the search

-- no place before the second one but the first can be least
pub record IsSearch (ss : List Structure) (best other equal : ℕ) : Type 0 where
  pub ordered : best < other
  pub within : best < length ss
  pub short : equal ≤ length ss
  pub same : AreEqual ss best other equal
  pub left : (t : ℕ) → IsLeastPlace ss t → (t ≡ best) ⊎ (other ≤ t)

none_equal : (ss : List Structure) (i j : ℕ) → AreEqual ss i j 0
none_equal ss i j = record { at = λ q h. absurd (none q h) }
  where
    none : (q : ℕ) → q < 0 → ⊥
    none q h = omega arith

pub search_none : (ss : List Structure) → 0 < length ss → IsSearch ss 0 1 0
search_none ss some = record {
  ordered = omega arith;
  within = some;
  short = omega arith;
  same = none_equal ss 0 1;
  left = λ t least. elim (cases_lt 0 t) [ inl above ↦ inr (omega arith) | inr first ↦ inl (omega arith) ];
}

pub search_equal : (ss : List Structure) (best other equal : ℕ) (x y : Structure) → IsSearch ss best other equal → equal < length ss
    → slice_get (ss ++ ss) (best + equal) ≡ Some x → slice_get (ss ++ ss) (other + equal) ≡ Some y → order x y ≡ Equal
    → IsSearch ss best other (equal + 1)
search_equal ss best other equal x y search more at there e = record {
  ordered = search.ordered;
  within = search.within;
  short = omega arith;
  same = record {
    at = λ q h. elim (cases_lt q equal) [
      | inl before ↦ search.same.at q before
      | inr here ↦ subst (λ (n : ℕ). slice_get (ss ++ ss) (best + n) ≡ slice_get (ss ++ ss) (other + n)) (last q here h) (at ∙ ap Some (order_same x y e) ∙ sym there)
    ];
  };
  left = search.left;
}
  where
    last : (q : ℕ) → equal ≤ q → q < equal + 1 → equal ≡ q
    last q h g = omega arith

-- the second place is passed over
pub search_less : (ss : List Structure) (best other equal next : ℕ) (x y : Structure) → IsSearch ss best other equal → equal < length ss
    → slice_get (ss ++ ss) (best + equal) ≡ Some x → slice_get (ss ++ ss) (other + equal) ≡ Some y → order x y ≡ Less
    → other + (equal + 1) ≡ next → IsSearch ss best next 0
search_less ss best other equal next x y search more at there e number = record {
  ordered = omega (arith, search.ordered);
  within = search.within;
  short = omega arith;
  same = none_equal ss best next;
  left = λ t least. elim (search.left t least) [
    | inl first ↦ inl first
    | inr later ↦ elim (cases_lt t next) [
      | inl before ↦ absurd (passed ss best other equal (t - other) (other + equal - t) t x y least search.same search.within more (parts t later before) (reach t later) at there e)
      | inr past ↦ inr past
    ]
  ];
}
  where
    parts : (t : ℕ) → other ≤ t → t < next → t - other + (other + equal - t) ≡ equal
    parts t h g = omega arith

    reach : (t : ℕ) → other ≤ t → other + (t - other) ≡ t
    reach t h = omega arith

-- the first place is passed over
pub search_greater : (ss : List Structure) (best other equal next : ℕ) (x y : Structure) → IsSearch ss best other equal → other < length ss
    → equal < length ss → slice_get (ss ++ ss) (best + equal) ≡ Some x → slice_get (ss ++ ss) (other + equal) ≡ Some y
    → order x y ≡ Greater → ((t : ℕ) → other ≤ t → best + equal + 1 ≤ t → next ≤ t) → other ≤ next → IsSearch ss next (next + 1) 0
search_greater ss best other equal next x y search there_within more at there e least_of up = record {
  ordered = omega arith;
  within = let found = least_place ss (omega (arith, search.within)) in first_within found.0 found.1;
  short = omega arith;
  same = none_equal ss next (next + 1);
  left = λ t least. elim (cases_lt next t) [ inl above ↦ inr (omega arith) | inr first ↦ inl (exactly t first (from t least)) ];
}
  where
    not_passed : (t : ℕ) → IsLeastPlace ss t → best ≤ t → t < best + equal + 1 → ⊥
    not_passed t least low high =
        passed ss other best equal (t - best) (best + equal - t) t y x least (record { at = λ q h. sym (search.same.at q h) }) there_within more (omega arith) (omega arith) there at (greater_back x y e)

    behind : (t : ℕ) → IsLeastPlace ss t → best ≤ t → best + equal + 1 ≤ t
    behind t least low = elim (cases_lt t (best + equal + 1)) [ inl before ↦ absurd (not_passed t least low before) | inr past ↦ past ]

    from : (t : ℕ) → IsLeastPlace ss t → next ≤ t
    from t least = elim (search.left t least) [
      | inl first ↦ absurd (not_passed t least (omega arith) (omega arith))
      | inr later ↦ least_of t later (behind t least (omega (arith, search.ordered)))
    ]

    exactly : (t : ℕ) → t ≤ next → next ≤ t → t ≡ next
    exactly t h g = omega arith

    first_within : (t : ℕ) → IsLeastPlace ss t → next < length ss
    first_within t least = omega (arith, from t least, least.within)

-- what is left at the end is the least place
pub search_end : (ss : List Structure) (best other equal : ℕ) → IsSearch ss best other equal → (length ss ≤ other) ⊎ (length ss ≤ equal)
    → IsLeastPlace ss best
search_end ss best other equal search done =
    let found = least_place ss (omega (arith, search.within)) in
    elim (search.left found.0 found.1) [
      | inl first ↦ subst (IsLeastPlace ss) first found.1
      | inr later ↦ elim done [
        | inl past ↦ let wrong : ⊥ = omega (arith, found.1.within) in absurd wrong
        | inr all ↦ absurd (passed_all ss best other equal found.0 found.1 search.same search.ordered all later)
      ]
    ]

-- ---- a list that is its own least rotation

-- the rotation at the least place is its own least rotation
pub least_rotated : (ss : List Structure) (i : ℕ) → IsLeastPlace ss i → is_least_rotation (rotated ss i) ≡ true
least_rotated ss i least = none_before (length (rotated ss i)) (rotated ss i) (λ k less.
    let within : k < length ss = subst (λ (n : ℕ). k < n) (length-rotated ss i) less in
    at k (turned_again ss i k (some within) (up within)))
  where
    some : {k : ℕ} → k < length ss → 0 < length ss
    some h = omega arith

    up : {k : ℕ} → k < length ss → k ≤ length ss
    up h = omega arith

    at : (k : ℕ) → IsRotation ss (rotated (rotated ss i) k) → list_order (rotated ss i) (rotated (rotated ss i) k) ≡ Greater → ⊥
    at k turned h = least.least turned.place turned.within (ap (list_order (rotated ss i)) (sym turned.same) ∙ h)

-- the first of the least places is 0 where the list is its own least rotation, and only there
pub at_first : (ss : List Structure) (i : ℕ) → IsLeastPlace ss i → i ≡ 0 → is_least_rotation ss ≡ true
at_first ss i least first =
    let same : rotated ss i ≡ ss = ap (rotated ss) first ∙ rotated_none ss in
    subst (λ (zs : List Structure). is_least_rotation zs ≡ true) same (least_rotated ss i least)

pub not_at_first : (ss : List Structure) (i : ℕ) → IsLeastPlace ss i → 0 < i → is_least_rotation ss ≡ false
not_at_first ss i least some =
    let before : list_order (rotated ss i) ss ≡ Less = ap (list_order (rotated ss i)) (sym (rotated_none ss)) ∙ least.first 0 some in
    one_before (length ss) ss i least.within (lists_less_back (rotated ss i) ss before)
