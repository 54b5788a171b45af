-- The parts of so many labels, and the one that has so many before it.
use Rattle.std.proofs.Common.{◌≡◌, ◌⊎◌, ℕ, zero, suc, ◌+◌, ◌-◌, ◌<◌, ◌≤◌, ◌&&◌, Bool, true, false, cond, List, [], ◌∷◌, ◌++◌, map, filter, length, replicate, drop, nat_lt, nat_le, refl, sym, ap, ◌∙◌, subst, inl, inr, arith, Option, Some, None, append_assoc, get_or}
use Rattle.std.specs.Prelude.{slice_get}
use Rattle.std.specs.Option.{option_map}
use Rattle.std.specs.List.{range_with_len}
use Rattle.std.proofs.lemmas.Bool.{and_parts, lt-ltb, cond-true, cond-false, cases_lt, le-ltb}
use Rattle.std.proofs.lemmas.Bool.Decides.{nat_tests}
use Rattle.std.proofs.lemmas.List.{length-append, length-replicate, append-nil, length-map, drop_all, length-drop}
use Rattle.std.proofs.lemmas.List.Elements.{filter-append}
use Rattle.std.proofs.lemmas.Option.{slice_get-map, slice_get-get_or}
use Rattle.lists.specs.Ascending.{ascends_above}
use Rattle.lists.specs.Enumeration.{IsIn}
use Rattle.lists.proofs.Filters.{filter_same, filter_none}
use Rattle.lists.proofs.Places.{get_left, get_right, drop_at, in_of_get}
use Rattle.lists.proofs.Enumerated.{from_filter}
use Rattle.lists.proofs.AscendingAbove.{rises_above}
use Rattle.spec_syntax.specs.declared.statement.Universe.TheVariants.{Labelled}
use Rattle.count_laws.specs.Choose.{choose}
use Rattle.count_laws.proofs.Binomials.{choose_none}
use Rattle.struct_model.specs.declared.supplies.Supply.{Supply}
use Rattle.struct_model.specs.declared.supplies.Supply.TheVariants.{Zeros, Labels}
use Rattle.struct_model.specs.SupplyView.{supply_labels, is_in_order}
use Rattle.splits.specs.Splits.{Split, taking, leaving, begins_above, splits}
use Rattle.splits.specs.Parts.{has_length, parts, number_of_parts}
use Rattle.splits.specs.Passed.{passed}
use Rattle.splits.proofs.SplitSums.{later, none_taken, none_first, later_begin, later_only}
use Rattle.splits.proofs.SplitLaws.{splits_are}
use Rattle.splits.proofs.SplitSupplies.{split_supplies}
use Rattle.splits.proofs.ZeroSplits.{of_zeros, splits-replicate}

-- has the part exactly d labels
abbrev of_length : ℕ → Split → Bool
of_length d = has_length d d

filter_map : {X Y : Type 0} (p : Y → Bool) (f : X → Y) (xs : List X) → filter p (map f xs) ≡ map f (filter (λ x. p (f x)) xs)
filter_map p f [] = refl
filter_map p f (x ∷ xs) = by (p (f x)) ∙ ap (λ ys. cond (p (f x)) (f x ∷ ys) ys) (filter_map p f xs) ∙ whole (p (f x))
  where
    by : (b : Bool) → cond b (f x ∷ filter p (map f xs)) (filter p (map f xs)) ≡ cond b (f x ∷ filter p (map f xs)) (filter p (map f xs))
    by b = refl

    whole : (b : Bool) → cond b (f x ∷ map f (filter (λ x. p (f x)) xs)) (map f (filter (λ x. p (f x)) xs)) ≡ map f (cond b (x ∷ filter (λ x. p (f x)) xs) (filter (λ x. p (f x)) xs))
    whole true = refl
    whole false = refl

-- ---- the parts by the first label

other_number : (d k : ℕ) → (k < d) ⊎ (d < k) → nat_le d k && nat_le k d ≡ false
other_number d k (inl less) = grind (arith, nat_tests)
other_number d k (inr more) = grind (arith, nat_tests)

same_number : (d k : ℕ) → k ≡ d → nat_le d k && nat_le k d ≡ true
same_number d k same = grind (arith, nat_tests)

one_more : (d n : ℕ) → nat_le (suc d) (suc n) && nat_le (suc n) (suc d) ≡ nat_le d n && nat_le n d
one_more d n = by (cases_lt d n) (cases_lt n d)
  where
    by : (d < n) ⊎ (n ≤ d) → (n < d) ⊎ (d ≤ n) → nat_le (suc d) (suc n) && nat_le (suc n) (suc d) ≡ nat_le d n && nat_le n d
    by (inl less) p = other_number (suc d) (suc n) (inr (omega arith)) ∙ sym (other_number d n (inr less))
    by (inr q) (inl more) = other_number (suc d) (suc n) (inl (omega arith)) ∙ sym (other_number d n (inl more))
    by (inr q) (inr p) = same_number (suc d) (suc n) (omega arith) ∙ sym (same_number d n (omega arith))

some_label : (part : List ℕ) (low : ℕ) (rest : List ℕ) → begins_above low (record { part = part; rest = rest }) ≡ true → of_length 0 (record { part = part; rest = rest }) ≡ false
some_label [] low rest begun = let e : false ≡ true = begun in cc
some_label (label ∷ labels) low rest begun = other_number 0 (length (label ∷ labels)) (inr (omega arith))

none_too : (d : ℕ) (u : List ℕ) → of_length (suc d) (none_taken u) ≡ false
none_too d u = other_number (suc d) 0 (inl (omega arith))

-- no labels are taken in one way
pub parts_of_none : (low : ℕ) (u : List ℕ) → ascends_above low u ≡ true → parts 0 0 u ≡ none_taken u ∷ []
parts_of_none low u climbs =
    ap (filter (of_length 0)) (none_first u)
    ∙ ap (λ (ss : List Split). none_taken u ∷ ss) (filter_none (of_length 0) (later u) (λ split there. some_label split.part low split.rest (later_begin low u climbs split there)))

pub parts_by_first : (low label d : ℕ) (labels : List ℕ) → ascends_above low (label ∷ labels) ≡ true
    → parts (suc d) (suc d) (label ∷ labels) ≡ map (taking label) (parts d d labels) ++ map (leaving label) (parts (suc d) (suc d) labels)
parts_by_first low label d labels climbs =
    let climbing : ascends_above label labels ≡ true = (and_parts (nat_lt low label) (ascends_above label labels) climbs).1 in
    let left : filter (begins_above label) (splits labels) ≡ later labels = later_only label labels climbing in
    let all : filter (of_length (suc d)) (splits labels) ≡ filter (of_length (suc d)) (later labels) =
    ap (filter (of_length (suc d))) (none_first labels) ∙ cond-false (of_length (suc d) (none_taken labels)) _ _ (none_too d labels) in
    let fewer : filter (λ (s : Split). of_length (suc d) (taking label s)) (splits labels) ≡ parts d d labels =
    filter_same (λ (s : Split). of_length (suc d) (taking label s)) (of_length d) (splits labels) (λ split there. one_more d (length split.part)) in
    cond-false (of_length (suc d) (none_taken (label ∷ labels))) _ _ (none_too d (label ∷ labels))
    ∙ filter-append (of_length (suc d)) (map (taking label) (splits labels)) (map (leaving label) (filter (begins_above label) (splits labels)))
    ∙ ap (λ (ss : List Split). ss ++ filter (of_length (suc d)) (map (leaving label) (filter (begins_above label) (splits labels))))
    (filter_map (of_length (suc d)) (taking label) (splits labels) ∙ ap (map (taking label)) fewer)
    ∙ ap (λ (ss : List Split). map (taking label) (parts d d labels) ++ ss)
    (ap (λ (ss : List Split). filter (of_length (suc d)) (map (leaving label) ss)) left
    ∙ filter_map (of_length (suc d)) (leaving label) (later labels) ∙ ap (map (leaving label)) (sym all))

-- ---- how many there are

pub labels_counted : (low d : ℕ) (u : List ℕ) → ascends_above low u ≡ true → length (parts d d u) ≡ choose (length u) d
labels_counted low zero u climbs = ap length (parts_of_none low u climbs)
labels_counted low (suc d) [] climbs = ap length (cond-false (of_length (suc d) (none_taken [])) _ _ (none_too d []))
labels_counted low (suc d) (label ∷ labels) climbs =
    let climbing : ascends_above label labels ≡ true = (and_parts (nat_lt low label) (ascends_above label labels) climbs).1 in
    omega (
      arith,
      ap length (parts_by_first low label d labels climbs),
      length-append (map (taking label) (parts d d labels)) (map (leaving label) (parts (suc d) (suc d) labels)),
      length-map {A = Split} {B = Split} (parts d d labels) (taking label),
      length-map {A = Split} {B = Split} (parts (suc d) (suc d) labels) (leaving label),
      labels_counted label d labels climbing,
      labels_counted label (suc d) labels climbing,
    )

-- ---- zeros

-- is the number d
is_number : (n d k : ℕ) → of_length d (of_zeros n k) ≡ nat_le d k && nat_le k d
is_number n d k = ap (λ (m : ℕ). nat_le d m && nat_le m d) (length-replicate {A = ℕ} k 0)

-- the numbers from start on are above d
past : (n d start count : ℕ) → d < start → filter (of_length d) (map (of_zeros n) (range_with_len start count)) ≡ []
past n d start zero above = refl
past n d start (suc count) above =
    cond-false (of_length d (of_zeros n start)) _ _ (is_number n d start ∙ other_number d start (inr above)) ∙ past n d (start + 1) count (omega arith)

-- one of the numbers from start on is d
one_of : (n d start count : ℕ) → start ≤ d → d < start + count → filter (of_length d) (map (of_zeros n) (range_with_len start count)) ≡ of_zeros n d ∷ []
one_of n d start zero low high = absurd (omega arith)
one_of n d start (suc count) low high = by (λ less. one_of n d (start + 1) count (omega arith) (omega arith)) (cases_lt start d)
  where
    by : (start < d → filter (of_length d) (map (of_zeros n) (range_with_len (start + 1) count)) ≡ of_zeros n d ∷ []) → (start < d) ⊎ (d ≤ start) → filter (of_length d) (map (of_zeros n) (range_with_len start (suc count))) ≡ of_zeros n d ∷ []
    by later (inl less) = cond-false (of_length d (of_zeros n start)) _ _ (is_number n d start ∙ other_number d start (inl less)) ∙ later less
    by later (inr here) =
        let same : start ≡ d = omega arith in
        cond-true (of_length d (of_zeros n start)) _ _ (is_number n d start ∙ same_number d start same)
        ∙ ap (λ (ss : List Split). of_zeros n start ∷ ss) (past n d (start + 1) count (omega arith)) ∙ ap (λ (k : ℕ). of_zeros n k ∷ []) same

pub zeros_part : (n d : ℕ) → d ≤ n → parts d d (replicate n 0) ≡ of_zeros n d ∷ []
zeros_part n d within = ap (filter (of_length d)) (splits-replicate n) ∙ one_of n d 0 (n + 1) (omega arith) (omega arith)

pub parts_are_counted : (supply : Supply) (d : ℕ) → is_in_order supply ≡ true → d ≤ length (supply_labels supply) → length (parts d d (supply_labels supply)) ≡ number_of_parts supply d
parts_are_counted (Zeros n) d h within = ap length (zeros_part n d (omega (arith, length-replicate {A = ℕ} n 0)))
parts_are_counted (Labels labels) d h within = labels_counted 0 d labels h

-- ---- the part that has so many before it

-- as it is found, label by label
abbrev pub nth : List ℕ → ℕ → ℕ → Split
nth [] d r = record { part = []; rest = [] }
nth (label ∷ labels) zero r = leaving label (nth labels zero r)
nth (label ∷ labels) (suc d) r =
    cond (nat_lt r (choose (length labels) d)) (taking label (nth labels d r)) (leaving label (nth labels (suc d) (r - choose (length labels) d)))

nth_none : (u : List ℕ) (r : ℕ) → nth u 0 r ≡ none_taken u
nth_none [] r = refl
nth_none (label ∷ labels) r = ap (leaving label) (nth_none labels r)

pub nth_is : (low d r : ℕ) (u : List ℕ) → ascends_above low u ≡ true → r < choose (length u) d → slice_get (parts d d u) r ≡ Some (nth u d r)
nth_is low zero r u climbs few =
    let none : r ≡ 0 = omega arith in
    ap (λ (ss : List Split). slice_get ss r) (parts_of_none low u climbs) ∙ ap (slice_get (none_taken u ∷ [])) none ∙ ap (λ (s : Split). Some s) (sym (nth_none u r))
nth_is low (suc d) r [] climbs few = absurd (omega arith)
nth_is low (suc d) r (label ∷ labels) climbs few =
    let climbing : ascends_above label labels ≡ true = (and_parts (nat_lt low label) (ascends_above label labels) climbs).1 in
    by climbing (nth_is label d r labels climbing) (λ more. nth_is label (suc d) (r - choose (length labels) d) labels climbing (omega arith)) (cases_lt r (choose (length labels) d))
  where
    by : ascends_above label labels ≡ true → (r < choose (length labels) d → slice_get (parts d d labels) r ≡ Some (nth labels d r))
        → (choose (length labels) d ≤ r → slice_get (parts (suc d) (suc d) labels) (r - choose (length labels) d) ≡ Some (nth labels (suc d) (r - choose (length labels) d)))
        → (r < choose (length labels) d) ⊎ (choose (length labels) d ≤ r) → slice_get (parts (suc d) (suc d) (label ∷ labels)) r ≡ Some (nth (label ∷ labels) (suc d) r)
    by climbing first others (inl less) =
        ap (λ (ss : List Split). slice_get ss r) (parts_by_first low label d labels climbs)
        ∙ get_left (map (taking label) (parts d d labels)) (map (leaving label) (parts (suc d) (suc d) labels)) r (taking label (nth labels d r))
        (slice_get-map (taking label) (parts d d labels) r ∙ ap (option_map (taking label)) (first less))
        ∙ ap (λ (s : Split). Some s) (sym (cond-true (nat_lt r (choose (length labels) d)) _ _ (lt-ltb r (choose (length labels) d) less)))
    by climbing first others (inr more) =
        let left : length (map (taking label) (parts d d labels)) + (r - choose (length labels) d) ≡ r =
        omega (arith, length-map {A = Split} {B = Split} (parts d d labels) (taking label), labels_counted label d labels climbing) in
        ap (λ (ss : List Split). slice_get ss r) (parts_by_first low label d labels climbs)
        ∙ get_right (map (taking label) (parts d d labels)) (map (leaving label) (parts (suc d) (suc d) labels)) r (r - choose (length labels) d) left
        ∙ slice_get-map (leaving label) (parts (suc d) (suc d) labels) (r - choose (length labels) d)
        ∙ ap (option_map (leaving label)) (others more)
        ∙ ap (λ (s : Split). Some s) (sym (cond-false (nat_lt r (choose (length labels) d)) _ _ (le-ltb r (choose (length labels) d) more)))

-- ---- on the way

-- the labels that were taken and left, in front of a split of those behind
abbrev pub so_far : List ℕ → List ℕ → Split → Split
so_far part rest split = record { part = part ++ split.part; rest = rest ++ split.rest }

-- so many labels are passed: the part and the rest so far, with what is found behind them, are the split that is wanted
pub record Finds (labels : List ℕ) (d r i behind missing earlier : ℕ) (part rest : List ℕ) : Type 0 where
  pub number : behind + i ≡ length labels
  pub few : earlier < choose behind missing
  pub found : so_far part rest (nth (drop i labels) missing earlier) ≡ nth labels d r

pub finds_first : (labels : List ℕ) (d r behind : ℕ) → behind ≡ length labels → r < choose behind d → Finds labels d r 0 behind d r [] []
finds_first labels d r behind same few = record { number = omega arith; few = few; found = refl }

module _ (labels : List ℕ) (d r i behind missing earlier : ℕ) (part rest : List ℕ) (f : Finds labels d r i behind missing earlier part rest) where
  -- as many labels as are still to be taken are behind
  pub enough : missing ≤ behind
  enough = by (cases_lt behind missing)
    where
      by : (behind < missing) ⊎ (missing ≤ behind) → missing ≤ behind
      by (inl short) = absurd (omega (arith, f.few, choose_none behind missing short))
      by (inr within) = within

  pub found_at_end : length labels ≤ i → record { part = part; rest = rest } ≡ nth labels d r
  found_at_end last =
      ap (λ (ns : List ℕ). record { part = ns; rest = rest }) (sym (append-nil part))
      ∙ ap (λ (ns : List ℕ). record { part = part ++ []; rest = ns }) (sym (append-nil rest))
      ∙ ap (λ (ns : List ℕ). so_far part rest (nth ns missing earlier)) (sym (drop_all i labels last)) ∙ f.found

-- one label more is left, or taken
left_more : (part rest : List ℕ) (label : ℕ) (split : Split) → so_far part (rest ++ label ∷ []) split ≡ so_far part rest (leaving label split)
left_more part rest label split = ap (λ (ns : List ℕ). record { part = part ++ split.part; rest = ns }) (append_assoc rest (label ∷ []) split.rest)

taken_more : (part rest : List ℕ) (label : ℕ) (split : Split) → so_far (part ++ label ∷ []) rest split ≡ so_far part rest (taking label split)
taken_more part rest label split = ap (λ (ns : List ℕ). record { part = ns; rest = rest ++ split.rest }) (append_assoc part (label ∷ []) split.part)

-- what is passed over, by the labels behind the next one
abbrev choice : ℕ → List ℕ → ℕ → ℕ → Option ℕ → Split
choice label labels missing earlier None = taking label (nth labels (missing - 1) earlier)
choice label labels missing earlier (Some number) = leaving label (nth labels missing (earlier - number))

few_after : ℕ → ℕ → ℕ → Option ℕ → Type 0
few_after b missing earlier None = earlier < choose b (missing - 1)
few_after b missing earlier (Some number) = earlier - number < choose b missing

by_passed : (label b missing earlier : ℕ) (labels : List ℕ) → b ≡ length labels → nth (label ∷ labels) missing earlier ≡ choice label labels missing earlier (passed b missing earlier)
by_passed label b zero earlier labels same = ap (λ (r : ℕ). leaving label (nth labels 0 r)) (let e : earlier ≡ earlier - 0 = omega arith in e)
by_passed label b (suc missing) earlier labels same =
    ap (λ (n : ℕ). cond (nat_lt earlier (choose n missing)) (taking label (nth labels missing earlier)) (leaving label (nth labels (suc missing) (earlier - choose n missing)))) (sym same)
    ∙ by (nat_lt earlier (choose b missing)) (choose b missing)
  where
    by : (t : Bool) (n : ℕ) → cond t (taking label (nth labels missing earlier)) (leaving label (nth labels (suc missing) (earlier - n)))
        ≡ choice label labels (suc missing) earlier (cond t None (Some n))
    by true n = ap (λ (m : ℕ). taking label (nth labels m earlier)) (let e : missing ≡ suc missing - 1 = omega arith in e)
    by false n = refl

few_left : (b missing earlier : ℕ) → earlier < choose (suc b) missing → few_after b missing earlier (passed b missing earlier)
unfolding few_after
few_left b zero earlier few = omega arith
few_left b (suc missing) earlier few = by (cases_lt earlier (choose b missing))
  where
    by : (earlier < choose b missing) ⊎ (choose b missing ≤ earlier) → few_after b (suc missing) earlier (passed b (suc missing) earlier)
    by (inl less) = subst (few_after b (suc missing) earlier) (sym (cond-true (nat_lt earlier (choose b missing)) _ _ (lt-ltb earlier (choose b missing) less))) (subst (λ (k : ℕ). earlier < choose b k) (let e : missing ≡ suc missing - 1 = omega arith in e) less)
    by (inr more) =
        subst (few_after b (suc missing) earlier) (sym (cond-false (nat_lt earlier (choose b missing)) _ _ (le-ltb earlier (choose b missing) more)))
        (let e : earlier - choose b missing < choose b (suc missing) = omega (arith, few) in e)

module _ (labels : List ℕ) (d r i behind missing earlier label : ℕ) (part rest : List ℕ) (f : Finds labels d r i behind missing earlier part rest)
    (within : i < length labels) (other : ℕ) (here : get_or labels i other ≡ label) where
  there : drop i labels ≡ label ∷ drop (i + 1) labels
  there = drop_at labels i label (slice_get-get_or labels i other within ∙ ap (λ (n : ℕ). Some n) here)

  left : behind - 1 ≡ length (drop (i + 1) labels)
  left = omega (arith, f.number, length-drop (i + 1) labels)

  few : earlier < choose (suc (behind - 1)) missing
  few = subst (λ (n : ℕ). earlier < choose n missing) (omega (arith, f.number)) f.few

  found : (number : Option ℕ) → number ≡ passed (behind - 1) missing earlier
      → so_far part rest (choice label (drop (i + 1) labels) missing earlier number) ≡ nth labels d r
  found number is =
      ap (λ (o : Option ℕ). so_far part rest (choice label (drop (i + 1) labels) missing earlier o)) is
      ∙ ap (so_far part rest) (sym (by_passed label (behind - 1) missing earlier (drop (i + 1) labels) left)) ∙ ap (λ (ns : List ℕ). so_far part rest (nth ns missing earlier)) (sym there) ∙ f.found

  pub finds_left : (number : ℕ) → Some number ≡ passed (behind - 1) missing earlier
      → Finds labels d r (i + 1) (behind - 1) missing (earlier - number) part (rest ++ label ∷ [])
  unfolding few_after
  finds_left number is = record {
    number = omega (arith, f.number);
    few = subst (few_after (behind - 1) missing earlier) (sym is) (few_left (behind - 1) missing earlier few);
    found = left_more part rest label (nth (drop (i + 1) labels) missing (earlier - number)) ∙ found (Some number) is;
  }

  pub finds_taken : None ≡ passed (behind - 1) missing earlier → Finds labels d r (i + 1) (behind - 1) (missing - 1) earlier (part ++ label ∷ []) rest
  unfolding few_after
  finds_taken is = record {
    number = omega (arith, f.number);
    few = subst (few_after (behind - 1) missing earlier) (sym is) (few_left (behind - 1) missing earlier few);
    found = taken_more part rest label (nth (drop (i + 1) labels) (missing - 1) earlier) ∙ found None is;
  }

-- the same of what the lists are after the label
module _ (labels : List ℕ) (d r i behind missing earlier label other : ℕ) (part rest part' rest' : List ℕ) (f : Finds labels d r i behind missing earlier part rest)
    (within : i < length labels) (here : get_or labels i other ≡ label) (missing' earlier' : ℕ) where
  pub left_finds : (number : ℕ) → Some number ≡ passed (behind - 1) missing earlier → part' ≡ part → rest' ≡ rest ++ label ∷ [] → missing' ≡ missing → earlier' ≡ earlier - number
      → Finds labels d r (i + 1) (behind - 1) missing' earlier' part' rest'
  left_finds number is a b m e =
      subst (λ (ns : List ℕ). Finds labels d r (i + 1) (behind - 1) missing' earlier' ns rest') (sym a)
      (subst (λ (ns : List ℕ). Finds labels d r (i + 1) (behind - 1) missing' earlier' part ns) (sym b)
      (subst (λ (n : ℕ). Finds labels d r (i + 1) (behind - 1) n earlier' part (rest ++ label ∷ [])) (sym m)
      (subst (λ (n : ℕ). Finds labels d r (i + 1) (behind - 1) missing n part (rest ++ label ∷ [])) (sym e)
      (finds_left labels d r i behind missing earlier label part rest f within other here number is))))

  pub taken_finds : None ≡ passed (behind - 1) missing earlier → part' ≡ part ++ label ∷ [] → rest' ≡ rest → missing' ≡ missing - 1 → earlier' ≡ earlier
      → Finds labels d r (i + 1) (behind - 1) missing' earlier' part' rest'
  taken_finds is a b m e =
      subst (λ (ns : List ℕ). Finds labels d r (i + 1) (behind - 1) missing' earlier' ns rest') (sym a)
      (subst (λ (ns : List ℕ). Finds labels d r (i + 1) (behind - 1) missing' earlier' (part ++ label ∷ []) ns) (sym b)
      (subst (λ (n : ℕ). Finds labels d r (i + 1) (behind - 1) n earlier' (part ++ label ∷ []) rest) (sym m)
      (subst (λ (n : ℕ). Finds labels d r (i + 1) (behind - 1) (missing - 1) n (part ++ label ∷ []) rest) (sym e)
      (finds_taken labels d r i behind missing earlier label part rest f within other here is))))

pub nth_labels_is : (labels : List ℕ) (n d r i behind missing earlier : ℕ) (part rest : List ℕ) → ascends_above 0 labels ≡ true → n ≡ length labels → r < choose n d
    → Finds labels d r i behind missing earlier part rest → length labels ≤ i → slice_get (parts d d labels) r ≡ Some (record { part = part; rest = rest })
nth_labels_is labels n d r i behind missing earlier part rest climbs number few f last =
    nth_is 0 d r labels climbs (subst (λ (k : ℕ). r < choose k d) number few)
    ∙ ap (λ (s : Split). Some s) (sym (found_at_end labels d r i behind missing earlier part rest f last))

-- ---- both lists are supplies

nth_in : (labels : List ℕ) (d r : ℕ) (split : Split) → slice_get (parts d d labels) r ≡ Some split → IsIn split (splits labels)
nth_in labels d r split at = (from_filter (of_length d) split (splits labels) (in_of_get (parts d d labels) r split at)).0

pub nth_ascends : (supply : Supply) (labels part rest : List ℕ) (d r : ℕ) → supply ≡ Labels labels → is_in_order supply ≡ true → (slice : List ℕ) → slice ≡ labels
    → slice_get (parts d d slice) r ≡ Some (record { part = part; rest = rest }) → (ascends_above 0 part ≡ true) × (ascends_above 0 rest ≡ true)
nth_ascends supply labels part rest d r is h slice read at =
    let climbs : ascends_above 0 slice ≡ true = subst (λ (ns : List ℕ). ascends_above 0 ns ≡ true) (sym read) (subst (λ (s : Supply). is_in_order s ≡ true) is h) in
    split_supplies Labelled slice climbs (record { part = part; rest = rest })
    ((splits_are slice (rises_above 0 slice climbs)).sound (record { part = part; rest = rest }) (nth_in slice d r (record { part = part; rest = rest }) at))

pub nth_zeros : (supply : Supply) (n len d r : ℕ) → supply ≡ Zeros n → len ≡ length (supply_labels supply) → d ≤ length (supply_labels supply) → r < number_of_parts supply d
    → slice_get (parts d d (supply_labels supply)) r ≡ Some (record { part = replicate d 0; rest = replicate (len - d) 0 })
nth_zeros supply n len d r is number within few =
    let long : len ≡ n = number ∙ ap (λ (s : Supply). length (supply_labels s)) is ∙ length-replicate {A = ℕ} n 0 in
    let one : r < number_of_parts (Zeros n) d = subst (λ (s : Supply). r < number_of_parts s d) is few in
    let none : r ≡ 0 = omega arith in
    let short : d ≤ n = omega (arith, within, number, long) in
    ap (λ (s : Supply). slice_get (parts d d (supply_labels s)) r) is ∙ ap (λ (ss : List Split). slice_get ss r) (zeros_part n d short) ∙ ap (slice_get (of_zeros n d ∷ [])) none
    ∙ ap (λ (m : ℕ). Some (record { part = replicate d 0; rest = replicate (m - d) 0 })) (sym long)
