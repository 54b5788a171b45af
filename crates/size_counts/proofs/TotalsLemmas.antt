-- What the components that are left of a Set and a PowerSet have in all.
use Rattle.std.proofs.Common.{◌≡◌, ◌⊎◌, ℕ, zero, suc, ◌+◌, ◌-◌, ◌*◌, ◌≤◌, ◌<◌, Bool, true, false, List, [], ◌∷◌, ◌++◌, length, filter, replicate, Option, Some, None, nat_cmp, Less, refl, sym, ap, ◌∙◌, subst, inl, inr, append_assoc, arith}
use Rattle.std.specs.Prelude.{if◌then◌else◌}
use Rattle.std.specs.Option.{option_map_or}
use Rattle.std.specs.Cmp.Lexicographic.{slice_cmp}
use Rattle.std.specs.List.{range_with_len}
use Rattle.std.proofs.lemmas.Bool.{cases_lt}
use Rattle.std.proofs.lemmas.List.{length-replicate}
use Rattle.lists.specs.Enumeration.{IsIn}
use Rattle.lists.proofs.Ascending.{length-ascending}
use Rattle.lists.proofs.Enumerated.{from_filter, from_map, from_flat_map}
use Rattle.lists.proofs.NumberOrder.{lesser_first}
use Rattle.lists.proofs.RangeSums.{in_range}
use Rattle.spec_syntax.specs.declared.statement.Universe.{Universe}
use Rattle.spec_syntax.specs.declared.statement.Universe.TheVariants.{Unlabelled}
use Rattle.spec_syntax.specs.declared.expr.Card.{Card}
use Rattle.spec_syntax.specs.Card.{admits}
use Rattle.spec_syntax.specs.Expression.{Expression}
use Rattle.spec_syntax.specs.Nodes.{node_at}
use Rattle.struct_model.specs.Structure.{Structure, size, key, labels}
use Rattle.struct_model.specs.Membership.{supply, is_supply}
use Rattle.struct_model.specs.Bounded.{listing}
use Rattle.struct_model.proofs.SupplyLaws.{supply_is}
use Rattle.well_founded.specs.Checked.{Checked, IsChecked, grammar}
use Rattle.listing_laws.specs.Lister.{list_empty, after_one, admits_some}
use Rattle.listing_laws.specs.NodeListing.{listing_on}
use Rattle.listing_laws.specs.SortedListing.{follows}
use Rattle.listing_laws.specs.SortedNodes.{IsContained, sorted_at, following_at, sorted_by_sizes}
use Rattle.listing_laws.proofs.Listed.{listing_sound}
use Rattle.listing_laws.proofs.Repeated.{admits-after}
use Rattle.listing_laws.proofs.SortedNodes.{sorted_nodes_are_listed}
use Rattle.size_counts.specs.Totals.{MayStand, SharesBy, Shares}

-- ---- no atoms

-- the empty list, where the bound admits it
empty_admitted : (card : Card) (x : List Structure) → IsIn x (list_empty card) → admits card 0 ≡ true
empty_admitted card x there = by (admits card 0) there
  where
    by : (b : Bool) → IsIn x (if b then [] ∷ [] else []) → b ≡ true
    by true there = refl
    by false there = absurd there

-- ---- lists

-- an element of a list, with what stands before it and behind it
cut_at : {X : Type 0} (x : X) (xs : List X) → IsIn x xs → (earlier : List X) × (later : List X) × (xs ≡ earlier ++ x ∷ later)
cut_at x [] there = absurd there
cut_at {X = X} x (y ∷ ys) (inl same) = ([], ys, ap (λ (z : X). z ∷ ys) (sym same))
cut_at {X = X} x (y ∷ ys) (inr there) = let found = cut_at x ys there in (y ∷ found.0, found.1, ap (λ (zs : List X). y ∷ zs) found.2)

some_in : {X : Type 0} (x : X) (xs : List X) → IsIn x xs → 0 < length xs
some_in x [] there = absurd there
some_in x (y ∷ ys) there = omega arith

length_cut : {X : Type 0} (x : X) (earlier later : List X) → 1 + length later ≤ length (earlier ++ x ∷ later)
length_cut x [] later = omega arith
length_cut x (y ∷ earlier) later = omega (arith, length_cut x earlier later)

-- fewer zeros come before a longer list
fewer_before : (d : ℕ) (ls : List ℕ) → d < length ls → slice_cmp nat_cmp (replicate d 0) ls ≡ Less
fewer_before d [] less = absurd (omega arith)
fewer_before zero (l ∷ ls) less = refl
fewer_before (suc d) (zero ∷ ls) less = fewer_before d ls (omega arith)
fewer_before (suc d) (suc l ∷ ls) less = lesser_first 0 (suc l) (replicate d 0) ls (omega arith)

module _ (checked : Checked) (element : ℕ) (passed : IsChecked checked) (contained : IsContained checked element) (unlabelled : checked.universe ≡ Unlabelled) where
  -- the structures of the element with d atoms
  abbrev of_size : ℕ → List Structure
  of_size d = listing_on checked element (supply Unlabelled d)

  supplied : (d : ℕ) → is_supply checked.universe (supply Unlabelled d) ≡ true
  supplied d = subst (λ (universe : Universe). is_supply universe (supply Unlabelled d) ≡ true) (sym unlabelled) (supply_is Unlabelled d)

  key_is : (s : Structure) (d : ℕ) → IsIn s (of_size d) → key s ≡ supply Unlabelled d
  key_is s d there = by (node_at checked.rules element) there
    where
      by : (o : Option Expression) → IsIn s (option_map_or (λ e. listing (grammar checked) e (supply Unlabelled d)) o []) → key s ≡ supply Unlabelled d
      by None there = absurd there
      by (Some e) there = (listing_sound (grammar checked) e (supply Unlabelled d) s there).1

  -- those of a size that may follow
  abbrev behind : Bool → Structure → ℕ → List Structure
  behind strict s d = following_at checked element strict s (supply Unlabelled d)

  none_smaller : (strict : Bool) (s : Structure) (d : ℕ) → d < length (key s) → behind strict s d ≡ []
  none_smaller strict s d less = sorted_nodes_are_listed.none_lesser checked element strict s (supply Unlabelled d) (fewer_before d (key s) less)

  -- they stand at the end
  behind_is : (strict : Bool) (s : Structure) (d : ℕ) → IsIn s (of_size d) → (earlier : List Structure) × (of_size d ≡ earlier ++ behind strict s d)
  behind_is false s d there =
      let cut = cut_at s (of_size d) there in
      (cut.0, cut.2 ∙ ap (λ (ss : List Structure). cut.0 ++ ss) (sym (sorted_nodes_are_listed.from_itself checked element s (supply Unlabelled d) cut.0 cut.1 passed contained (supplied d) cut.2)))
  behind_is true s d there =
      let cut = cut_at s (of_size d) there in (
        cut.0 ++ s ∷ [],
        cut.2 ∙ sym (append_assoc cut.0 (s ∷ []) cut.1)
            ∙ ap (λ (ss : List Structure). (cut.0 ++ s ∷ []) ++ ss) (sym (sorted_nodes_are_listed.behind_itself checked element s (supply Unlabelled d) cut.0 cut.1 passed contained (supplied d) cut.2)),
      )

  -- with one of these as many more may stand as behind that one
  one_more : (strict : Bool) (s : Structure) (d : ℕ) (earlier whole : List Structure) (times : ℕ) → of_size d ≡ earlier ++ whole → IsIn s whole
      → (1 ≤ times → MayStand strict (length (behind strict s d)) times) → MayStand strict (length whole) (suc times)
  one_more false s d earlier whole times is there may = some_in s whole there
  one_more true s d earlier whole times is there may =
      let cut = cut_at s whole there in
      let all : of_size d ≡ (earlier ++ cut.0) ++ s ∷ cut.1 = is ∙ ap (λ (ss : List Structure). earlier ++ ss) cut.2 ∙ sym (append_assoc earlier cut.0 (s ∷ cut.1)) in
      let rest : behind true s d ≡ cut.1 = sorted_nodes_are_listed.behind_itself checked element s (supply Unlabelled d) (earlier ++ cut.0) cut.1 passed contained (supplied d) all in
      enough times (length (behind true s d)) (length cut.1) (length whole) (ap (λ (ss : List Structure). length ss) rest)
      (subst (λ (ss : List Structure). 1 + length cut.1 ≤ length ss) (sym cut.2) (length_cut s cut.0 cut.1)) may
    where
      enough : (times left later whole : ℕ) → left ≡ later → 1 + later ≤ whole → (1 ≤ times → times ≤ left) → suc times ≤ whole
      enough zero left later whole same more may = omega arith
      enough (suc times) left later whole same more may = omega (arith, may (omega arith))

  -- ---- a first component

  record IsFirst (strict : Bool) (card : Card) (from : Option Structure) (n : ℕ) : Type 0 where
    d : ℕ
    s : Structure
    rest : List Structure
    admitted : admits_some card ≡ true
    low : 1 ≤ d
    high : d ≤ n
    follows_it : IsIn s (filter (follows strict from) (of_size d))
    others : IsIn rest (sorted_at checked element strict (after_one card) (Some s) (supply Unlabelled (n - d)))

  first_of : (strict : Bool) (card : Card) (from : Option Structure) (n : ℕ) (x : List Structure) → 0 < n → IsIn x (sorted_at checked element strict card from (supply Unlabelled n))
      → IsFirst strict card from n
  first_of strict card from n x some there =
      by (admits_some card) refl (subst (λ (xs : List (List Structure)). IsIn x xs) (sorted_nodes_are_listed.size_by_size checked element strict card from n contained some) there)
    where
      by : (b : Bool) → admits_some card ≡ b → IsIn x (if b then sorted_by_sizes checked element strict card from n else []) → IsFirst strict card from n
      by false is there = absurd there
      by true is there =
          let sized = from_flat_map _ (range_with_len 1 n) x there in
          let between = in_range sized.0 1 n sized.1 in
          let first = from_flat_map _ (filter (follows strict from) (of_size sized.0)) x sized.2 in
          let others = from_map _ x (sorted_at checked element strict (after_one card) (Some first.0) (supply Unlabelled (n - sized.0))) first.2 in
          record {
            d = sized.0;
            s = first.0;
            rest = others.0;
            admitted = is;
            low = between.0;
            high = omega (arith, between.1);
            follows_it = first.1;
            others = others.1;
          }

  -- ---- those that go on from a structure

  abbrev may : Bool → ℕ → ℕ → Type 0
  may strict d times = MayStand strict (length (of_size d)) times

  -- some more of the same size, and then greater ones
  record GoesOn (strict : Bool) (card : Card) (s : Structure) (d n : ℕ) : Type 0 where
    times : ℕ
    others : ℕ
    rest : ℕ
    may_stand : 1 ≤ times → MayStand strict (length (behind strict s d)) times
    atoms : n ≡ times * d + rest
    admitted : admits card (times + others) ≡ true
    shared : Shares (may strict) (suc d) others rest

  -- the same with the structure itself
  with_first : (strict : Bool) (card : Card) (s : Structure) (d n least : ℕ) → GoesOn strict (after_one card) s d (n - d) → admits_some card ≡ true → d ≤ n → least ≤ d → IsIn s (of_size d)
      → (c : ℕ) × (admits card c ≡ true) × Shares (may strict) least c n
  with_first strict card s d n least g some within low there = (
    suc (g.times + g.others),
    sym (admits-after card (g.times + g.others) some) ∙ g.admitted,
    (
      suc g.shared.0,
      record {
        size = d;
        times = suc g.times;
        low = low;
        some = omega arith;
        may_stand = one_more strict s d [] (of_size d) g.times refl there g.may_stand;
        components = omega arith;
        atoms = atoms_within n d g.times g.rest within g.atoms;
        others = subst (λ (k : ℕ). SharesBy (may strict) g.shared.0 (suc d) k (n - suc g.times * d)) (components_left g.times g.others)
            (subst (λ (k : ℕ). SharesBy (may strict) g.shared.0 (suc d) g.others k) (atoms_left n d g.times g.rest within g.atoms) g.shared.1);
      },
    ),
  )
    where
      components_left : (times others : ℕ) → others ≡ suc (times + others) - suc times
      components_left times others = omega arith

      atoms_within : (n d times rest : ℕ) → d ≤ n → n - d ≡ times * d + rest → suc times * d ≤ n
      atoms_within n d times rest within is = omega arith

      atoms_left : (n d times rest : ℕ) → d ≤ n → n - d ≡ times * d + rest → rest ≡ n - suc times * d
      atoms_left n d times rest within is = omega arith

  goes_on : (m : ℕ) (strict : Bool) (card : Card) (s : Structure) (d n : ℕ) (x : List Structure) → n ≤ m → IsIn s (of_size d)
      → IsIn x (sorted_at checked element strict card (Some s) (supply Unlabelled n)) → GoesOn strict card s d n
  goes_on m strict card s d zero x le there sorted = record {
    times = 0;
    others = 0;
    rest = 0;
    may_stand = λ low. absurd (omega arith);
    atoms = omega arith;
    admitted = empty_admitted card x (subst (λ (xs : List (List Structure)). IsIn x xs) (sorted_nodes_are_listed.empty checked element strict card (Some s) contained) sorted);
    shared = (0, (refl, refl));
  }
  goes_on zero strict card s d (suc n) x le there sorted = absurd (omega arith)
  goes_on (suc m) strict card s d (suc n) x le there sorted =
      let first = first_of strict card (Some s) (suc n) x (omega arith) sorted in
      let inside = from_filter (follows strict (Some s)) first.s (of_size first.d) first.follows_it in
      let on = goes_on m strict (after_one card) first.s first.d (suc n - first.d) first.rest (omega (arith, first.low)) inside.0 first.others in
      by first inside.0 on (cases_lt first.d d) (cases_lt d first.d)
    where
      none_more : (k : ℕ) → k ≡ 0 + k
      none_more k = omega arith

      length_key : length (key s) ≡ d
      length_key = ap (λ (ls : List ℕ). length ls) (key_is s d there) ∙ length-replicate {A = ℕ} d 0

      by : (first : IsFirst strict card (Some s) (suc n)) → IsIn first.s (of_size first.d) → GoesOn strict (after_one card) first.s first.d (suc n - first.d)
          → (first.d < d) ⊎ (d ≤ first.d) → (d < first.d) ⊎ (first.d ≤ d) → GoesOn strict card s d (suc n)
      by first inside on (inl less) other =
          absurd (subst (λ (ss : List Structure). IsIn first.s ss) (none_smaller strict s first.d (subst (λ (k : ℕ). first.d < k) (sym length_key) less)) first.follows_it)
      by first inside on (inr le) (inl greater) =
          let all = with_first strict card first.s first.d (suc n) (suc d) on first.admitted first.high greater inside in
          record {
            times = 0;
            others = all.0;
            rest = suc n;
            may_stand = λ low. absurd (omega arith);
            atoms = omega arith;
            admitted = subst (λ (k : ℕ). admits card k ≡ true) (none_more all.0) all.1;
            shared = all.2;
          }
      by first inside on (inr le) (inr ge) = same_size first.d (omega arith) first.s first.follows_it inside on first.admitted first.high
        where
          same_size : (f : ℕ) → f ≡ d → (t : Structure) → IsIn t (behind strict s f) → IsIn t (of_size f) → GoesOn strict (after_one card) t f (suc n - f) → admits_some card ≡ true → f ≤ suc n
              → GoesOn strict card s d (suc n)
          same_size f is t follows_it inside on admitted high =
              let more = subst (λ (k : ℕ). IsIn t (behind strict s k)) is follows_it in
              let at : GoesOn strict (after_one card) t d (suc n - d) = subst (λ (k : ℕ). GoesOn strict (after_one card) t k (suc n - k)) is on in
              let whole = behind_is strict s d there in
              record {
                times = suc at.times;
                others = at.others;
                rest = at.rest;
                may_stand = λ low. one_more strict t d whole.0 (behind strict s d) at.times whole.1 more at.may_stand;
                atoms = atoms_is (suc n) d at.times at.rest (subst (λ (k : ℕ). k ≤ suc n) is high) at.atoms;
                admitted = ap (admits card) (one_in at.times at.others) ∙ sym (admits-after card (at.times + at.others) admitted) ∙ at.admitted;
                shared = at.shared;
              }
            where
              one_in : (times others : ℕ) → suc times + others ≡ suc (times + others)
              one_in times others = omega arith

              atoms_is : (n d times rest : ℕ) → d ≤ n → n - d ≡ times * d + rest → n ≡ suc times * d + rest
              atoms_is n d times rest within is = omega arith

  -- where there are lists that go on from a structure, as many components as the bound admits have so many atoms
  pub filled : (strict : Bool) (card : Card) (s : Structure) (least n : ℕ) (x : List Structure) → ((d : ℕ) → size s ≤ d → 1 ≤ d → least ≤ d)
      → IsIn x (sorted_at checked element strict card (Some s) (supply Unlabelled n)) → (c : ℕ) × (admits card c ≡ true) × Shares (may strict) least c n
  filled strict card s least zero x low there =
      (0, empty_admitted card x (subst (λ (xs : List (List Structure)). IsIn x xs) (sorted_nodes_are_listed.empty checked element strict card (Some s) contained) there), (0, (refl, refl)))
  filled strict card s least (suc n) x low there =
      let first = first_of strict card (Some s) (suc n) x (omega arith) there in
      let inside = from_filter (follows strict (Some s)) first.s (of_size first.d) first.follows_it in
      let on = goes_on (suc n) strict (after_one card) first.s first.d (suc n - first.d) first.rest (omega arith) inside.0 first.others in
      with_first strict card first.s first.d (suc n) least on first.admitted first.high (low first.d (large_enough first (cases_lt first.d (size s))) first.low) inside.0
    where
      large_enough : (first : IsFirst strict card (Some s) (suc n)) → (first.d < size s) ⊎ (size s ≤ first.d) → size s ≤ first.d
      large_enough first (inl less) =
          absurd (subst (λ (ss : List Structure). IsIn first.s ss) (none_smaller strict s first.d (subst (λ (k : ℕ). first.d < k) (sym (length-ascending (labels s))) less)) first.follows_it)
      large_enough first (inr le) = le
