-- Steps of the loops over the first components of containers.
use Rattle.std.proofs.Common.{◌≡◌, ◌⊎◌, ℕ, suc, ◌+◌, ◌-◌, ◌*◌, ◌<◌, ◌≤◌, min, Bool, true, List, [], ◌∷◌, length, map, Option, Some, None, slice_get, unwrap_or, refl, sym, ap, ◌∙◌, subst, inl, inr, arith}
use Rattle.std.specs.List.{range_with_len}
use Rattle.std.specs.Option.{option_map, option_map_or, option_and_then}
use Rattle.std.proofs.lemmas.Bool.{cases_lt}
use Rattle.std.proofs.lemmas.Option.{slice_get_within}
use Rattle.std.proofs.lemmas.List.FromFn.{length-map-range_with_len}
use Rattle.lists.specs.Enumeration.{IsIn}
use Rattle.spec_syntax.specs.declared.expr.Card.{Card}
use Rattle.spec_syntax.specs.declared.expr.Kind.{Kind}
use Rattle.spec_syntax.specs.declared.expr.Kind.TheVariants as kinds
use Rattle.spec_syntax.specs.Expression as expr
use Rattle.spec_syntax.specs.Expression.{Expression}
use Rattle.spec_syntax.specs.Rules.{all_nodes}
use Rattle.spec_syntax.specs.declared.statement.Universe.{Universe}
use Rattle.spec_syntax.specs.declared.statement.Universe.TheVariants.{Labelled}
use Rattle.spec_syntax.specs.Nodes.{node_at, card_at, children_at, arguments_at, children_of, arguments_of, card_of}
use Rattle.spec_syntax.proofs.NodesLemmas.{in_nodes}
use Rattle.graphs.specs.Graph.{IsMarked}
use Rattle.struct_model.specs.Bounded.{number}
use Rattle.well_founded.specs.declared.node.NodeKind.{NodeKind}
use Rattle.well_founded.specs.NodeKinds.{kind_of, container, is_container}
use Rattle.well_founded.specs.Checked.{Checked, grammar}
use Rattle.listing_laws.specs.ContainersRecur.{of_components}
use Rattle.splits.specs.Capped.{Tells}
use Rattle.size_counts.specs.Tables.{Layer, cell}
use Rattle.size_counts.specs.Numbers.{numbers_at, most_components}
use Rattle.size_counts.specs.Components.{rest_kind, first_ways, in_row, rests_of}
use Rattle.size_counts.specs.Told.{values, AreTold, TellAll}
use Rattle.size_counts.specs.Sums.{AddsProduct}
use Rattle.size_counts.proofs.Law.{recur, counted}
use Rattle.size_counts.proofs.SumLemmas.{AreSummed, joined_to, summed_none, summed_pass, summed_more, summed_all}
use Rattle.size_counts.proofs.TableLemmas.{cell_told, made_at}
use Rattle.size_counts.proofs.Containers.{in_row_none, few_rests, rests_are, by_first, row_value, no_row_value}

-- ---- how many components are looked at

pub most_le : (card : Card) (m : ℕ) → most_components card m ≤ m
most_le card m = by card.high
  where
    by : (high : Option ℕ) → option_map_or (min m) high m ≤ m
    by None = omega arith
    by (Some high) = omega arith

-- with fewer atoms, either as many are looked at or there are fewer atoms than components
few_or_looked : (card : Card) (m d c : ℕ) → c ≤ most_components card m → most_components card d < c → d < c
few_or_looked card m d c high past = by card.high high past
  where
    by : (high : Option ℕ) → c ≤ option_map_or (min m) high m → option_map_or (min d) high d < c → d < c
    by None most less = omega arith
    by (Some high) most less = omega arith

-- ---- containers

-- a container and its bound
pub container_there : (found : Option Expression) → option_map is_container (option_map kind_of found) ≡ Some true → (kind : Kind) × (element : Expression) × (card : Card) × (found ≡ Some (expr.Many kind element card))
container_there None is = absurd (cc)
container_there (Some expr.Epsilon) is = absurd (cc)
container_there (Some expr.Atom) is = absurd (cc)
container_there (Some (expr.Name name)) is = absurd (cc)
container_there (Some (expr.Union es)) is = absurd (cc)
container_there (Some (expr.Prod es)) is = absurd (cc)
container_there (Some (expr.Many kind e card)) is = (kind, e, card, refl)

-- the bound that is read is the container's, and so is the kind
pub card_same : (found : Option Expression) (kind : Kind) (e : Expression) (card read : Card) → found ≡ Some (expr.Many kind e card) → option_and_then card_of found ≡ Some read → read ≡ card
card_same found kind e card read at is = let here : Some card ≡ Some read = sym (ap (option_and_then card_of) at) ∙ is in cc

pub kind_same : (found : Option Expression) (kind : Kind) (e : Expression) (card : Card) (read : NodeKind) → found ≡ Some (expr.Many kind e card) → option_map kind_of found ≡ Some read → read ≡ container kind
kind_same found kind e card read at is = let here : Some (container kind) ≡ Some read = sym (ap (option_map kind_of) at) ∙ is in cc

-- a number told to be 0
pub told_zero : (one : Option ℕ) (n : ℕ) → Tells one n → n ≡ 0 → one ≡ Some 0
told_zero None n told none = absurd (omega (arith, told))
told_zero (Some v) n told none = ap Some (told.0 ∙ none)

pub tells_by : (one : Option ℕ) (m n : ℕ) → m ≡ n → Tells one m → Tells one n
tells_by one m n same told = subst (λ (k : ℕ). Tells one k) same told

module _ (checked : Checked) (marks : List Bool) (layers : List Layer) (told : AreTold checked marks layers) (node : ℕ) (kind : Kind) (e : Expression) (card : Card)
    (marked : IsMarked marks node) (at : node_at checked.rules node ≡ Some (expr.Many kind e card)) where
  inside : IsIn (expr.Many kind e card) (all_nodes checked.rules)
  inside = in_nodes checked.rules node _ at

  -- the element is marked, and stands at the only child
  pub element_marked : (child : ℕ) → slice_get (children_at checked.rules node) 0 ≡ Some child → IsMarked marks child
  element_marked child there = told.closed node child (expr.Many kind e card) marked at (inl same)
    where
      children : children_at checked.rules node ≡ (node + 1) ∷ []
      children = ap (λ (found : Option Expression). option_map_or (children_of node) found []) at

      same : child ≡ node + 1
      same = let here : Some (node + 1) ≡ Some child = sym (ap (λ (all : List ℕ). slice_get all 0) children) ∙ there in cc

  pub element_there : (child : ℕ) → node_at checked.rules child ≡ slice_get (arguments_at checked.rules node) 0 → node_at checked.rules child ≡ Some e
  element_there child same = same ∙ ap (λ (found : Option Expression). slice_get (option_map_or arguments_of found []) 0) at

  -- the element's count in a layer
  pub element_told : (child d : ℕ) (layer : Layer) → slice_get (children_at checked.rules node) 0 ≡ Some child → node_at checked.rules child ≡ slice_get (arguments_at checked.rules node) 0
      → slice_get layers d ≡ Some layer → Tells (Some (cell layer child 0)) (number (grammar checked) e d)
  element_told child d layer child_is child_at there = cell_told checked marks layers told child e (element_marked child child_is) (element_there child child_at) 0 d layer there

  -- the rests of c components by a row
  pub rests_in_row : (read : NodeKind) (m c d : ℕ) (layer : Layer) (row : List ℕ) → read ≡ container kind → 1 ≤ c → c ≤ most_components card m → slice_get layers d ≡ Some layer → slice_get layer node ≡ Some row
      → rests_of read c (unwrap_or (slice_get row c) 0) ≡ of_components (grammar checked) (rest_kind kind) e c d
  rests_in_row read m c d layer row same low high there in_layer =
      ap (λ (k : NodeKind). rests_of k c (unwrap_or (slice_get row c) 0)) same ∙ ap (rests_of (container kind) c) (in_table ∙ entry.0) ∙ by (cases_lt (most_components card d) c)
    where
      in_table : unwrap_or (slice_get row c) 0 ≡ cell layer node c
      in_table = sym (ap (λ (found : Option (List ℕ)). unwrap_or (slice_get (unwrap_or found []) c) 0) in_layer)

      entry : Tells (Some (cell layer node c)) (unwrap_or (slice_get (values (numbers_at (grammar checked) (expr.Many kind e card) d)) c) 0)
      entry = cell_told checked marks layers told node (expr.Many kind e card) marked at c d layer there

      are : rests_of (container kind) c (in_row (container kind) c (of_components (grammar checked) kind e c d)) ≡ of_components (grammar checked) (rest_kind kind) e c d
      are = rests_are (grammar checked) e card told.is_checked.spec told.is_checked.well_founded kind c d low inside

      by : (most_components card d < c) ⊎ (c ≤ most_components card d)
          → rests_of (container kind) c (unwrap_or (slice_get (values (numbers_at (grammar checked) (expr.Many kind e card) d)) c) 0) ≡ of_components (grammar checked) (rest_kind kind) e c d
      by (inl past) =
          let few : of_components (grammar checked) kind e c d ≡ 0 = counted.few (grammar checked) kind e card c d told.is_checked.spec told.is_checked.well_founded inside (few_or_looked card m d c high past) in
          ap (λ (found : Option ℕ). rests_of (container kind) c (unwrap_or found 0)) (no_row_value (grammar checked) e card told.is_checked.spec told.is_checked.well_founded kind d c past)
          ∙ ap (rests_of (container kind) c) (sym (in_row_none kind c) ∙ ap (in_row (container kind) c) (sym few)) ∙ are
      by (inr looked) =
          ap (λ (found : Option ℕ). rests_of (container kind) c (unwrap_or found 0)) (row_value (grammar checked) e card told.is_checked.spec told.is_checked.well_founded kind d c low looked inside) ∙ are

  -- steps of the loop over the sizes of the first element
  pub firsts_none : (read : NodeKind) (universe : Universe) (m : ℕ) (sums : List (Option ℕ)) → ((i : ℕ) (one : Option ℕ) → slice_get sums i ≡ Some one → one ≡ Some 0)
      → AreSummed (first_ways universe read m) (number (grammar checked) e) (of_components (grammar checked) (rest_kind kind) e) m 1 sums
  firsts_none read universe m sums =
      summed_none (first_ways universe read m) (number (grammar checked) e) (of_components (grammar checked) (rest_kind kind) e) m sums
      (recur.element (grammar checked) kind e card told.is_checked.spec told.is_checked.well_founded inside)

  pub firsts_pass : (read : NodeKind) (universe : Universe) (child m d : ℕ) (layer : Layer) (sums : List (Option ℕ)) → slice_get (children_at checked.rules node) 0 ≡ Some child
      → node_at checked.rules child ≡ slice_get (arguments_at checked.rules node) 0 → slice_get layers d ≡ Some layer → cell layer child 0 ≡ 0
      → AreSummed (first_ways universe read m) (number (grammar checked) e) (of_components (grammar checked) (rest_kind kind) e) m d sums
      → AreSummed (first_ways universe read m) (number (grammar checked) e) (of_components (grammar checked) (rest_kind kind) e) m (d + 1) sums
  firsts_pass read universe child m d layer sums child_is child_at there none =
      summed_pass (first_ways universe read m) (number (grammar checked) e) (of_components (grammar checked) (rest_kind kind) e) m d sums (sym (element_told child d layer child_is child_at there).0 ∙ none)

  pub card_here : card_at checked.rules node ≡ Some card
  card_here = ap (option_and_then card_of) at

  pub firsts_more : (read : NodeKind) (universe : Universe) (child m d elements : ℕ) (ways_told firsts : Option ℕ) (layer other : Layer) (row : List ℕ) (before after : List (Option ℕ)) → read ≡ container kind
      → slice_get (children_at checked.rules node) 0 ≡ Some child → node_at checked.rules child ≡ slice_get (arguments_at checked.rules node) 0 → slice_get layers d ≡ Some layer → elements ≡ cell layer child 0
      → slice_get layers (m - d) ≡ Some other → slice_get other node ≡ Some row → length before ≡ most_components card m - 1 → Tells ways_told (first_ways universe read m d)
      → ((x y : ℕ) → Tells ways_told x → Tells (Some elements) y → Tells firsts (x * y)) → length after ≡ length before
      → ((i : ℕ) (one two : Option ℕ) → slice_get before i ≡ Some one → slice_get after i ≡ Some two → AddsProduct one two firsts (rests_of read (i + 1) (unwrap_or (slice_get row (i + 1)) 0)))
      → AreSummed (first_ways universe read m) (number (grammar checked) e) (of_components (grammar checked) (rest_kind kind) e) m d before
      → AreSummed (first_ways universe read m) (number (grammar checked) e) (of_components (grammar checked) (rest_kind kind) e) m (d + 1) after
  firsts_more read universe child m d elements ways_told firsts layer other row before after read_is child_is child_at there elements_are other_there in_other count by_ways product same added =
      summed_more (first_ways universe read m) (number (grammar checked) e) (of_components (grammar checked) (rest_kind kind) e) m d before after firsts
      (λ i. rests_of read (i + 1) (unwrap_or (slice_get row (i + 1)) 0)) same added
      (product (first_ways universe read m d) (number (grammar checked) e d) by_ways (subst (λ (k : ℕ). Tells (Some k) (number (grammar checked) e d)) (sym elements_are) (element_told child d layer child_is child_at there)))
      (λ i within. rests_in_row read m (i + 1) (m - d) other row read_is (omega arith) (omega (arith, count, within)) other_there in_other)

  pub firsts_all : (read : NodeKind) (universe : Universe) (m d : ℕ) (made : List (Option ℕ)) → read ≡ container kind → length made ≡ most_components card m - 1 → m ≤ d → (1 ≤ m → d ≤ m)
      → universe ≡ checked.universe → (kind ≡ kinds.Sequence) ⊎ (checked.universe ≡ Labelled)
      → AreSummed (first_ways universe read m) (number (grammar checked) e) (of_components (grammar checked) (rest_kind kind) e) m d made
      → TellAll made (map (λ c. of_components (grammar checked) kind e c m) (range_with_len 2 (most_components card m - 1)))
  firsts_all read universe m d made read_is count past until same may summed = record {
    for_each = count ∙ sym (length-map-range_with_len (λ (c : ℕ). of_components (grammar checked) kind e c m) 2 (most_components card m - 1));
    each = λ i n one there number_at. by i n one there number_at (slice_get_within made i one there);
  }
    where
      by : (i n : ℕ) (one : Option ℕ) → slice_get made i ≡ Some one → slice_get (map (λ c. of_components (grammar checked) kind e c m) (range_with_len 2 (most_components card m - 1))) i ≡ Some n → i < length made → Tells one n
      by i n one there number_at within =
          let end : d ≡ m = omega (arith, past, until, within, count, most_le card m) in
          let here : Some (of_components (grammar checked) kind e (2 + i) m) ≡ Some n =
          sym (made_at (λ (c : ℕ). of_components (grammar checked) kind e c m) 2 (most_components card m - 1) i (omega (arith, within, count))) ∙ number_at in
          let is : of_components (grammar checked) kind e (2 + i) m ≡ n = cc in
          let longer : suc (i + 1) ≡ 2 + i = omega arith in
          tells_by one _ _
          ((λ j. joined_to (first_ways (same j) (read_is j) m) (number (grammar checked) e) (of_components (grammar checked) (rest_kind kind) e (i + 1)) m (m + 1))
          ∙ sym (by_first (grammar checked) e card told.is_checked.spec told.is_checked.well_founded kind (i + 1) m may inside)
          ∙ ap (λ (c : ℕ). of_components (grammar checked) kind e c m) longer ∙ is)
          (summed_all (first_ways universe read m) (number (grammar checked) e) (of_components (grammar checked) (rest_kind kind) e) m d i made one end
          (few_rests (grammar checked) e card told.is_checked.spec told.is_checked.well_founded kind (i + 1) 0 (omega arith) (omega arith) inside) summed there)
