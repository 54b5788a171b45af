-- What the rows of a Set and a PowerSet say of the lists that are left to it.
use Rattle.std.proofs.Common.{◌≡◌, ◌⊎◌, ℕ, zero, suc, ◌+◌, ◌*◌, ◌^◌, ◌≤◌, ◌<◌, min, max, Bool, true, false, List, [], ◌∷◌, ◌++◌, length, Option, Some, None, slice_get, get_or, nat_le, refl, sym, ap, ◌∙◌, subst, inl, inr, arith}
use Rattle.std.specs.Option.{option_map, option_map_or}
use Rattle.std.proofs.Math.Nat.{mul-le-mul_left}
use Rattle.std.proofs.lemmas.Bool.{and_parts, leb-true, false_from_ne_true}
use Rattle.std.proofs.lemmas.List.{length_push}
use Rattle.std.proofs.lemmas.Option.{get_or_from_slice_get, slice_get-map}
use Rattle.lists.proofs.Places.{pushed_at, is_empty}
use Rattle.lists.proofs.Positions.{slice_some}
use Rattle.spec_syntax.specs.declared.statement.Universe.{Universe}
use Rattle.spec_syntax.specs.declared.statement.Universe.TheVariants.{Unlabelled}
use Rattle.spec_syntax.specs.declared.expr.Card.{Card}
use Rattle.spec_syntax.specs.declared.expr.Kind.{Kind}
use Rattle.spec_syntax.specs.declared.expr.Kind.TheVariants as kinds
use Rattle.spec_syntax.specs.Card.{is_within, admits}
use Rattle.spec_syntax.specs.Expression.{Expression}
use Rattle.spec_syntax.specs.Nodes.{node_at, children_at, card_at}
use Rattle.struct_model.specs.Structure.{Structure, size}
use Rattle.struct_model.specs.Membership.{supply}
use Rattle.struct_model.specs.Bounded.{listing, number}
use Rattle.well_founded.specs.NodeKinds.{container}
use Rattle.well_founded.specs.Checked.{grammar}
use Rattle.graphs.specs.Graph.{IsMarked}
use Rattle.graphs.proofs.Reached.{marked_within}
use Rattle.well_founded.specs.declared.node.NodeKind.TheVariants as told
use Rattle.listing_laws.specs.NodeListing.{HasKind, listing_on}
use Rattle.listing_laws.specs.SortedNodes.{sorted_at}
use Rattle.size_counts.specs.declared.tables.Tables.{Tables}
use Rattle.size_counts.specs.declared.counted.Counted.TheInside.{Inside}
use Rattle.size_counts.specs.CountedView.{Counts, IsReachedIn, number_of}
use Rattle.size_counts.specs.Filled.{counts_of, IsFull}
use Rattle.size_counts.specs.Tables.{Layer, cell}
use Rattle.size_counts.specs.Totals.{may_fill, MayStand, Shares, limit_of, limits_of, WithinLimit, HasTotals, NodeTotals, AreKept, IsFilled}
use Rattle.size_counts.proofs.FilledLemmas.{read_kind, read_marked, number_at_cell}
use Rattle.size_counts.proofs.ReachedLemmas.{at_read}
use Rattle.size_counts.proofs.ListLemmas.{element_marked}
use Rattle.size_counts.proofs.TotalsLemmas.{filled}
use Rattle.size_counts.proofs.TotalsValue.{may_fill_from, may_fill_is}
use Rattle.size_counts.proofs.TotalsTable.{shares_atoms, shares_changed}

-- ---- node by node

pub kept_none : (tables : Tables) → AreKept tables 0 []
kept_none tables = record { for_each = refl; each = λ node rows there. absurd (let e : ◌≡◌ {A = Option (List (List ℕ))} None (Some rows) = there in cc) }

pub kept_more : (tables : Tables) (n : ℕ) (rows : List (List ℕ)) (totals more : List (List (List ℕ))) → AreKept tables n totals → NodeTotals tables n rows → more ≡ totals ++ rows ∷ [] → AreKept tables (n + 1) more
kept_more tables n rows totals more kept is pushed = subst (AreKept tables (n + 1)) (sym pushed) (record {
  for_each = length_push totals rows ∙ ap (λ (k : ℕ). k + 1) kept.for_each;
  each = λ node found there. elim (pushed_at totals rows node found there) [
    | inl before ↦ kept.each node found before
    | inr last ↦ subst (λ (k : ℕ). NodeTotals tables k found) (sym (last.0 ∙ kept.for_each)) (subst (NodeTotals tables n) (sym last.1) is)
  ];
})

-- ---- limits

limit_enough : (strict : Bool) (number times : ℕ) → times ≤ 1000 → MayStand strict number times → times ≤ limit_of strict number
limit_enough true number times few may = omega arith
limit_enough false zero times few may = absurd (omega arith)
limit_enough false (suc number) times few may = few

limit_small : (strict : Bool) (number times : ℕ) → 1 ≤ times → times ≤ limit_of strict number → MayStand strict number times
limit_small true number times some le = omega arith
limit_small false zero times some le = absurd (omega arith)
limit_small false (suc number) times some le = omega arith

-- ---- a class

module _ (a : Inside) (full : IsFull a) (unlabelled : a.tables.grammar.universe ≡ Unlabelled) (node element : ℕ) (kind : Kind) (strict : Bool) (is : HasKind a.tables.grammar node (container kind))
    (child : slice_get (children_at a.tables.grammar.rules node) 0 ≡ Some element) (marked : IsMarked a.tables.marks.items node) where
  inside_marked : IsMarked a.tables.marks.items element
  inside_marked =
      let there = read_kind (counts_of a) a full refl node kind is in
      element_marked a.tables.grammar a.tables.marks.items a.tables.layers.items full.told node kind there.0 there.1 marked there.2 element child

  -- the numbers of the element by size
  abbrev numbers : ℕ → ℕ
  numbers = number_of (counts_of a) element

  abbrev limits : List ℕ
  limits = limits_of a.tables.layers.items element strict

  numbers_are : (d : ℕ) → length (listing_on a.tables.grammar element (supply Unlabelled d)) ≡ numbers d
  numbers_are d = by (node_at a.tables.grammar.rules element)
    where
      by : (o : Option Expression) → length (option_map_or (λ e. listing (grammar a.tables.grammar) e (supply Unlabelled d)) o []) ≡ option_map_or (λ e. number (grammar a.tables.grammar) e d) o 0
      by None = refl
      by (Some e) = ap (λ (universe : Universe). length (listing (grammar a.tables.grammar) e (supply universe d))) (sym unlabelled)

  -- the limits are those of the numbers
  limit_at : (d : ℕ) → d ≤ a.size → get_or limits d 0 ≡ limit_of strict (numbers d)
  limit_at d within =
      let layer = slice_some a.tables.layers.items d (omega (arith, full.filled, within)) in
      let here : slice_get limits d ≡ Some (limit_of strict (cell layer.0 element 0)) =
      slice_get-map (λ (l : Layer). limit_of strict (cell l element 0)) a.tables.layers.items d ∙ ap (option_map (λ (l : Layer). limit_of strict (cell l element 0))) layer.1 in
      get_or_from_slice_get limits d (limit_of strict (cell layer.0 element 0)) 0 here
      ∙ ap (limit_of strict) (number_at_cell a full element d (cell layer.0 element 0) layer.0 inside_marked layer.1 refl)

  limit_is : (d times : ℕ) → d ≤ a.size → times ≤ 1000 → MayStand strict (numbers d) times → times ≤ get_or limits d 0
  limit_is d times within few may = subst (λ (k : ℕ). times ≤ k) (sym (limit_at d within)) (limit_enough strict (numbers d) times few may)

  limit_says : (d times : ℕ) → d ≤ a.size → 1 ≤ times → times ≤ get_or limits d 0 → MayStand strict (numbers d) times
  limit_says d times within some le = limit_small strict (numbers d) times some (subst (λ (k : ℕ). times ≤ k) (limit_at d within) le)

  module _ (rows : List (List ℕ)) (has : HasTotals a.tables strict node rows) (card : Card) (least n : ℕ) (range : least < 2 ^ 32) (within : n ≤ a.size)
      (high : (own : Card) (c : ℕ) → card_at a.tables.grammar.rules node ≡ Some own → is_within card.high c ≡ true → is_within own.high c ≡ true) where
    few_enough : (own : Option ℕ) (c : ℕ) → is_within own c ≡ true → c ≤ 1000 → c ≤ option_map_or (min 1000) own 1000
    few_enough None c is le = le
    few_enough (Some h) c is le = omega (arith, leb-true c h is)

    same_element : has.element ≡ element
    same_element = let e : Some has.element ≡ Some element = sym has.child ∙ child in cc

    -- what the lists have, the rows have
    found : (c : ℕ) → admits card c ≡ true → Shares (λ d times. MayStand strict (numbers d) times) (max least 1) c n → IsFilled rows card (max least 1) n
    found c admitted shares =
        let atoms : c * max least 1 ≤ n = shares_atoms _ shares.0 (max least 1) c n shares.1 in
        let few : c ≤ n = omega (arith, atoms, mul-le-mul_left c (one least)) in
        let own : is_within has.card.high c ≡ true = high has.card c has.bound (and_parts (nat_le card.low c) (is_within card.high c) admitted).1 in
        let changed = shares_changed _ (WithinLimit limits) a.size
        (λ d times low in_size some in_few may. limit_is d times in_size (omega (arith, full.small, in_few)) may) shares.0 (max least 1) c n (one least) within shares.1 in
        record {
          components = c;
          admitted = admitted;
          within = few;
          large = (has.totals.each n c (omega (arith, has.for_each, full.filled, within)) (few_enough has.card.high c own (omega (arith, few, within, full.small)))).complete (max least 1) (one least) (omega (arith, range))
              (subst (λ (e : ℕ). Shares (WithinLimit (limits_of a.tables.layers.items e strict)) (max least 1) c n) (sym same_element) (shares.0, changed));
        }
      where
        one : (least : ℕ) → 1 ≤ max least 1
        one least = omega arith

    pub none_filled : (IsFilled rows card (max least 1) n → ⊥) → (s : Structure) → least ≤ size s → sorted_at a.tables.grammar element strict card (Some s) (supply Unlabelled n) ≡ []
    none_filled no_such s large = is_empty _ (λ x there.
        let all = filled a.tables.grammar element full.told.is_checked (record { node = node; kind = kind; is = is; child = child }) unlabelled strict card s (max least 1) n x (λ d le low. omega (arith, le, low, large)) there in
        no_such (found all.0 all.1 (subst (λ (f : ℕ → ℕ). Shares (λ d times. MayStand strict (f d) times) (max least 1) all.0 n) (λ i d. numbers_are d i) all.2)))

    -- what the rows have, there is
    shares_of : (filled : IsFilled rows card (max least 1) n) → Shares (λ d times. MayStand strict (numbers d) times) (max least 1) filled.components n
    shares_of filled =
        let own : is_within has.card.high filled.components ≡ true = high has.card filled.components has.bound (and_parts (nat_le card.low filled.components) (is_within card.high filled.components) filled.admitted).1 in
        let low : 1 ≤ max least 1 = omega arith in
        let shares = (has.totals.each n filled.components (omega (arith, has.for_each, full.filled, within)) (few_enough has.card.high filled.components own (omega (arith, filled.within, within, full.small)))).sound (max least 1) low filled.large in
        let here : Shares (WithinLimit limits) (max least 1) filled.components n = subst (λ (e : ℕ). Shares (WithinLimit (limits_of a.tables.layers.items e strict)) (max least 1) filled.components n) same_element shares in
        (here.0, shares_changed (WithinLimit limits) (λ d times. MayStand strict (numbers d) times) a.size (λ d times low in_size some in_few may. limit_says d times in_size some may) here.0 (max least 1) filled.components n low within here.1)

    pub value_filled : (result : Bool) → (result ≡ true → IsFilled rows card (max least 1) n) → (result ≡ false → IsFilled rows card (max least 1) n → ⊥) → result ≡ may_fill numbers strict card least n
    value_filled true told never = let there = told refl in sym (may_fill_is numbers strict card least n there.components there.admitted there.within (shares_of there))
    value_filled false told never = sym (false_from_ne_true (may_fill numbers strict card least n) (λ may.
        let there = may_fill_from numbers strict card least n may in
        never refl (found there.0 there.1 there.2)))

-- ---- by what is read

abbrev NoLists : Counts → ℕ → ℕ → ℕ → Card → Kind → Bool → Type 0
NoLists counts node least n card kind strict = counts.checked.universe ≡ Unlabelled → HasKind counts.checked node (container kind)
    → (element : ℕ) → slice_get (children_at counts.checked.rules node) 0 ≡ Some element → (s : Structure) → least ≤ size s → sorted_at counts.checked element strict card (Some s) (supply Unlabelled n) ≡ []

abbrev SaysFilled : Counts → ℕ → ℕ → ℕ → Card → Kind → Bool → Bool → Type 0
SaysFilled counts node least n card kind strict result = counts.checked.universe ≡ Unlabelled → HasKind counts.checked node (container kind)
    → (element : ℕ) → slice_get (children_at counts.checked.rules node) 0 ≡ Some element → result ≡ may_fill (number_of counts element) strict card least n

module _ (counts : Counts) (a : Inside) (full : IsFull a) (same : counts ≡ counts_of a) (node n : ℕ) (rows : List (List ℕ)) (reached : IsReachedIn counts node) (within : n ≤ counts.size)
    (read : rows ≡ get_or a.totals.items node rows) where
  marked : IsMarked a.tables.marks.items node
  marked = read_marked counts a full same node reached

  kept : NodeTotals a.tables node rows
  kept = full.kept.each node rows (at_read a.totals.items node rows (omega (arith, full.kept.for_each, full.told.for_each, marked_within a.tables.marks.items node marked)) read)

  in_size : n ≤ a.size
  in_size = subst (λ (some : Counts). n ≤ some.size) same within

  pub read_totals_room : counts.checked.universe ≡ Unlabelled → (HasKind counts.checked node told.Set) ⊎ (HasKind counts.checked node told.PowerSet) → n < length rows
  read_totals_room unlabelled (inl set) =
      let has = kept.sets (subst (λ (some : Counts). some.checked.universe ≡ Unlabelled) same unlabelled) marked (subst (λ (some : Counts). HasKind some.checked node told.Set) same set) in
      omega (arith, has.for_each, full.filled, in_size)
  read_totals_room unlabelled (inr set) =
      let has = kept.power_sets (subst (λ (some : Counts). some.checked.universe ≡ Unlabelled) same unlabelled) marked (subst (λ (some : Counts). HasKind some.checked node told.PowerSet) same set) in
      omega (arith, has.for_each, full.filled, in_size)

  module _ (least : ℕ) (card : Card) (range : least < 2 ^ 32)
      (high : (own : Card) (c : ℕ) → card_at counts.checked.rules node ≡ Some own → is_within card.high c ≡ true → is_within own.high c ≡ true) where
    high_here : (own : Card) (c : ℕ) → card_at a.tables.grammar.rules node ≡ Some own → is_within card.high c ≡ true → is_within own.high c ≡ true
    high_here = subst (λ (some : Counts). (own : Card) (c : ℕ) → card_at some.checked.rules node ≡ Some own → is_within card.high c ≡ true → is_within own.high c ≡ true) same high

    pub read_no_sets_filled : (IsFilled rows card (max least 1) n → ⊥) → NoLists counts node least n card kinds.Set false
    read_no_sets_filled no_such = subst (λ (some : Counts). NoLists some node least n card kinds.Set false) (sym same) (λ unlabelled is element child s large.
        none_filled a full unlabelled node element kinds.Set false is child marked rows (kept.sets unlabelled marked is) card least n range in_size high_here no_such s large)

    pub read_no_power_sets_filled : (IsFilled rows card (max least 1) n → ⊥) → NoLists counts node least n card kinds.PowerSet true
    read_no_power_sets_filled no_such = subst (λ (some : Counts). NoLists some node least n card kinds.PowerSet true) (sym same) (λ unlabelled is element child s large.
        none_filled a full unlabelled node element kinds.PowerSet true is child marked rows (kept.power_sets unlabelled marked is) card least n range in_size high_here no_such s large)

    module _ (result : Bool) (told_true : result ≡ true → IsFilled rows card (max least 1) n) (told_false : result ≡ false → IsFilled rows card (max least 1) n → ⊥) where
      pub read_sets_filled : SaysFilled counts node least n card kinds.Set false result
      read_sets_filled = subst (λ (some : Counts). SaysFilled some node least n card kinds.Set false result) (sym same) (λ unlabelled is element child.
          value_filled a full unlabelled node element kinds.Set false is child marked rows (kept.sets unlabelled marked is) card least n range in_size high_here result told_true told_false)

      pub read_power_sets_filled : SaysFilled counts node least n card kinds.PowerSet true result
      read_power_sets_filled = subst (λ (some : Counts). SaysFilled some node least n card kinds.PowerSet true result) (sym same) (λ unlabelled is element child.
          value_filled a full unlabelled node element kinds.PowerSet true is child marked rows (kept.power_sets unlabelled marked is) card least n range in_size high_here result told_true told_false)
