-- Tables that are filled size by size, and what they say once they are full.
use Rattle.std.proofs.Common.{◌≡◌, ◌⊎◌, ℕ, zero, suc, ◌+◌, ◌-◌, ◌/◌, ◌<◌, ◌≤◌, min, Bool, true, cond, List, [], ◌∷◌, ◌++◌, length, find, get_or, Option, Some, None, slice_get, unwrap_or, Result, Ok, Err, refl, sym, ap, ◌∙◌, subst, inl, inr, arith, IsTrue}
use Rattle.std.specs.Option.{option_map, option_map_or, option_and_then}
use Rattle.std.specs.Prelude.{IfSome}
use Rattle.std.specs.Result.{IfErr, IsErrAnd}
use Rattle.std.proofs.lemmas.Bool.{cases_lt, leb-true}
use Rattle.lists.specs.Enumeration.{IsIn}
use Rattle.std.proofs.lemmas.List.{length_push}
use Rattle.lists.proofs.Positions.{slice_some}
use Rattle.spec_syntax.specs.Expression as expr
use Rattle.spec_syntax.specs.Expression.{Expression, Expressions}
use Rattle.spec_syntax.specs.declared.expr.Card.{Card}
use Rattle.spec_syntax.specs.declared.expr.Kind.{Kind}
use Rattle.spec_syntax.specs.declared.expr.Kind.TheVariants as kinds
use Rattle.spec_syntax.specs.Card.{is_within}
use Rattle.spec_syntax.proofs.NodesLemmas.{in_nodes, right_node_is}
use Rattle.well_founded.specs.declared.node.NodeKind.TheVariants as told
use Rattle.well_founded.specs.NodeKinds.{kind_of, container, is_container}
use Rattle.well_founded.specs.WellFounded.{IsWellFounded}
use Rattle.listing_laws.specs.Numbers.{one_at}
use Rattle.size_counts.specs.declared.sums.Ways.{Ways}
use Rattle.size_counts.specs.declared.sums.Ways.TheVariants.{Labelled, Unlabelled}
use Rattle.size_counts.specs.Ways.{CanSplit}
use Rattle.spec_syntax.specs.Rules.{all_nodes, is_spec, right_side, rule_name, symbol}
use Rattle.spec_syntax.proofs.RuleNames.{symbol_own}
use Rattle.std.proofs.Math.Dec.{eqb-suc-zero}
use Rattle.spec_syntax.specs.Nodes.{node_at, card_at, children_at, arguments_of, card_of, right_node}
use Rattle.spec_syntax.specs.Grammar.{Grammar}
use Rattle.graphs.specs.Graph.{IsMarked}
use Rattle.graphs.proofs.Reached.{marked_within}
use Rattle.struct_model.specs.Bounded.{number}
use Rattle.well_founded.specs.Checked.{Checked, IsChecked, grammar}
use Rattle.size_counts.specs.declared.place.CountFault.{CountFault}
use Rattle.size_counts.specs.declared.place.CountFault.TheVariants.{TooLarge, Memory}
use Rattle.size_counts.specs.declared.tables.Tables.{Tables}
use Rattle.size_counts.specs.declared.counted.Counted.TheInside.{Inside}
use Rattle.size_counts.specs.Reached.{AreReached, IsReached}
use Rattle.size_counts.specs.Numbers.{NumbersSay, numbers_at, suffix_number, list_number, most_components, numbers_of_size, is_large_spot, place_of, first_large}
use Rattle.listing_laws.specs.ContainersRecur.{of_components}
use Rattle.size_counts.specs.Components.{in_row}
use Rattle.size_counts.specs.Tables.{Layer, cell}
use Rattle.size_counts.specs.Told.{values, IsLayer, AreTold}
use Rattle.size_counts.specs.CountedView.{Counts, IsReachedIn, FaultSays, number_of, suffix_of, lists_of, sets_of, cycles_of, with_exactly}
use Rattle.size_counts.specs.Filled.{large_at, FaultAt, IsFilledTo, counts_of, IsFull}
use Rattle.size_counts.proofs.Law.{recur, counted, containers}
use Rattle.size_counts.proofs.ReachedLemmas.{reached_closed, at_read}
use Rattle.size_counts.proofs.TableLemmas.{suffix_value}
use Rattle.size_counts.proofs.ListLemmas.{most_le, container_there, kind_same}
use Rattle.size_counts.proofs.FillLemmas.{kind_is}
use Rattle.size_counts.proofs.Containers.{divided, in_row_none, cycle_lists, row_value, no_row_value}
use Rattle.size_counts.proofs.SuffixLemmas.{arguments_count}
use Rattle.size_counts.proofs.CountLemmas.{kind_here, prod_there}
use Rattle.size_counts.proofs.LayerLemmas.{told_more, none_more, first_after}

pub if_err : {T E : Type 0} (result : Result T E) (x : E) (P : E → Type 0) → IsErrAnd result (λ y. y ≡ x) → P x → IfErr result P
if_err (Ok v) x P gives is = tt
if_err (Err e) x P gives is = subst P (sym gives) is

-- the same numbers in tables that have been filled further
large_kept : (before tables : Tables) (m : ℕ) → tables.grammar ≡ before.grammar → tables.marks.items ≡ before.marks.items
    → large_at tables m ≡ find is_large_spot (numbers_of_size (grammar before.grammar) before.marks.items m)
large_kept before tables m same_grammar same_marks =
    ap (λ (checked : Checked). find is_large_spot (numbers_of_size (grammar checked) tables.marks.items m)) same_grammar
    ∙ ap (λ (marks : List Bool). find is_large_spot (numbers_of_size (grammar before.grammar) marks m)) same_marks

pub fault_kept : (before tables : Tables) (m size : ℕ) (fault : CountFault) → IsFilledTo before tables m → m < size + 1 → FaultAt tables (large_at tables m) fault
    → FaultAt before (first_large (grammar before.grammar) before.marks.items size) fault
fault_kept before tables m size Memory filled within at = tt
fault_kept before tables m size (TooLarge place) filled within at = (
  at.0,
  first_after is_large_spot (numbers_of_size (grammar before.grammar) before.marks.items) (size + 1) m at.0 within filled.none (sym (large_kept before tables m filled.grammar_kept filled.marks_kept) ∙ at.1),
  at.2 ∙ ap (λ (checked : Checked). place_of checked.rules at.0) filled.grammar_kept,
)

pub filled_more : (before tables more : Tables) (m : ℕ) (layer : Layer) → IsFilledTo before tables m → IsLayer (grammar tables.grammar) tables.marks.items m layer → large_at tables m ≡ None
    → more.grammar ≡ tables.grammar → more.marks.items ≡ tables.marks.items → more.layers.items ≡ tables.layers.items ++ layer ∷ [] → IsFilledTo before more (m + 1)
filled_more before tables more m layer filled is none same_grammar same_marks pushed = record {
  grammar_kept = same_grammar ∙ filled.grammar_kept;
  marks_kept = same_marks ∙ filled.marks_kept;
  told =
      let here : AreTold tables.grammar tables.marks.items more.layers.items = told_more tables.grammar tables.marks.items tables.layers.items more.layers.items layer m filled.told filled.filled is pushed in
      subst (λ (marks : List Bool). AreTold more.grammar marks more.layers.items) (sym same_marks) (subst (λ (checked : Checked). AreTold checked tables.marks.items more.layers.items) (sym same_grammar) here);
  filled = ap (λ (all : List Layer). length all) pushed ∙ length_push tables.layers.items layer ∙ ap (λ (k : ℕ). k + 1) filled.filled;
  none = none_more is_large_spot (numbers_of_size (grammar before.grammar) before.marks.items) m filled.none (sym (large_kept before tables m filled.grammar_kept filled.marks_kept) ∙ none);
}

pub filled_none : (tables : Tables) → AreTold tables.grammar tables.marks.items tables.layers.items → length tables.layers.items ≡ 0 → IsFilledTo tables tables 0
filled_none tables told empty = record { grammar_kept = refl; marks_kept = refl; told = told; filled = empty; none = refl }

-- ---- a class

pub told_start : (checked : Checked) (number : ℕ) (marks : List Bool) (layers : List Layer) → IsChecked checked → AreReached checked.rules number marks → layers ≡ [] → AreTold checked marks layers
told_start checked number marks layers is_checked reached empty = subst (λ (all : List Layer). AreTold checked marks all) (sym empty) (record {
  is_checked = is_checked;
  for_each = reached.for_each;
  closed = reached_closed checked.rules number marks reached;
  layer_is = λ m layer there. absurd (let e : ◌≡◌ {A = Option Layer} None (Some layer) = there in cc);
})

pub says_none : (checked : Checked) (number size : ℕ) (marks : List Bool) → AreReached checked.rules number marks → first_large (grammar checked) marks size ≡ None → NumbersSay (grammar checked) number size None
says_none checked number size marks reached none = record { marks = marks; reached = reached; found = sym (ap (option_map (place_of checked.rules)) none) }

pub fault_says : (checked : Checked) (tables : Tables) (number size : ℕ) (fault : CountFault) → tables.grammar ≡ checked → AreReached checked.rules number tables.marks.items
    → FaultAt tables (first_large (grammar tables.grammar) tables.marks.items size) fault → FaultSays (grammar checked) number size fault
fault_says checked tables number size Memory same reached at = tt
fault_says checked tables number size (TooLarge place) same reached at = record {
  marks = tables.marks.items;
  reached = reached;
  found =
      let found : first_large (grammar checked) tables.marks.items size ≡ Some at.0 = ap (λ (c : Checked). first_large (grammar c) tables.marks.items size) (sym same) ∙ at.1 in
      ap Some (at.2 ∙ ap (λ (c : Checked). place_of c.rules at.0) same) ∙ sym (ap (option_map (place_of checked.rules)) found);
}

-- ---- full tables

module _ (a : Inside) (full : IsFull a) where
  -- what is reached is marked
  pub reached_marked : (node : ℕ) → IsReachedIn (counts_of a) node → IsMarked a.tables.marks.items node
  reached_marked node reached =
      let same : Some reached.sym ≡ Some full.sym = sym reached.start ∙ full.start in
      let number : reached.sym ≡ full.sym = cc in
      full.reached.complete node (subst (λ (k : ℕ). IsReached a.tables.grammar.rules k node) number reached.reached)

  pub marked_reached : (node : ℕ) → IsMarked a.tables.marks.items node → IsReachedIn (counts_of a) node
  marked_reached node marked = record { sym = full.sym; start = full.start; reached = full.reached.sound node marked }

  -- what stands at a node
  pub expression_at : (node : ℕ) → IsMarked a.tables.marks.items node → (e : Expression) × (node_at a.tables.grammar.rules node ≡ Some e)
  expression_at node marked = slice_some (all_nodes a.tables.grammar.rules) node (omega (arith, marked_within a.tables.marks.items node marked, full.told.for_each))

  pub room_for : (node m : ℕ) (layer : Layer) → IsMarked a.tables.marks.items node → slice_get a.tables.layers.items m ≡ Some layer → node < length layer
  room_for node m layer marked there = omega (arith, marked_within a.tables.marks.items node marked, full.told.for_each, (full.told.layer_is m layer there).for_each)

  pub cell_at : (node m i : ℕ) (e : Expression) (layer : Layer) → IsMarked a.tables.marks.items node → node_at a.tables.grammar.rules node ≡ Some e → slice_get a.tables.layers.items m ≡ Some layer
      → cell layer node i ≡ unwrap_or (slice_get (values (numbers_at (grammar a.tables.grammar) e m)) i) 0
  cell_at node m i e layer marked at there = ap (λ (found : Option (List ℕ)). unwrap_or (slice_get (unwrap_or found []) i) 0) ((full.told.layer_is m layer there).each node e marked at)

  -- the count of a node
  pub number_at_cell : (node m value : ℕ) (layer : Layer) → IsMarked a.tables.marks.items node → slice_get a.tables.layers.items m ≡ Some layer → value ≡ cell layer node 0 → value ≡ number_of (counts_of a) node m
  number_at_cell node m value layer marked there is =
      let e = expression_at node marked in
      is ∙ cell_at node m 0 e.0 layer marked e.1 there ∙ sym (ap (λ (found : Option Expression). option_map_or (λ e. number (grammar a.tables.grammar) e m) found 0) e.1)

pub can_split_none : (ways : Ways) → CanSplit ways 0
can_split_none (Labelled greatest) = omega arith
can_split_none Unlabelled = tt

-- a number of containers of c components is there, or there are fewer atoms than components
row_value_any : (g : Grammar) (kind : Kind) (element : Expression) (card : Card) (m c : ℕ) → IsTrue (is_spec g.rules) → IsWellFounded g → IsIn (expr.Many kind element card) (all_nodes g.rules) → 1 ≤ c → is_within card.high c ≡ true
    → unwrap_or (slice_get (values (numbers_at g (expr.Many kind element card) m)) c) 0 ≡ in_row (container kind) c (of_components g kind element c m)
row_value_any g kind element card m c spec well_founded inside low high = by (cases_lt m c)
  where
    most : c ≤ m → c ≤ most_components card m
    most le = here card.high high
      where
        here : (high : Option ℕ) → is_within high c ≡ true → c ≤ option_map_or (min m) high m
        here None is = omega arith
        here (Some high) is = omega (arith, leb-true c high is)

    by : (m < c) ⊎ (c ≤ m) → unwrap_or (slice_get (values (numbers_at g (expr.Many kind element card) m)) c) 0 ≡ in_row (container kind) c (of_components g kind element c m)
    by (inl few) =
        ap (λ (found : Option ℕ). unwrap_or found 0) (no_row_value g element card spec well_founded kind m c (omega (arith, few, most_le card m)))
        ∙ sym (ap (in_row (container kind) c) (counted.few g kind element card c m spec well_founded inside few) ∙ in_row_none kind c)
    by (inr le) = ap (λ (found : Option ℕ). unwrap_or found 0) (row_value g element card spec well_founded kind m c low (most le) inside)

-- a container of a known kind
pub kind_there : (found : Option Expression) (known : Kind) → option_map kind_of found ≡ Some (container known) → (element : Expression) × (card : Card) × (found ≡ Some (expr.Many known element card))
kind_there found known is =
    let there = container_there found (ap (option_map is_container) is ∙ ap Some (is_one known)) in
    let same : there.0 ≡ known = kind_is there.0 known (sym (kind_same found there.0 there.1 there.2 (container known) there.3 is)) in
    (there.1, there.2, there.3 ∙ ap (λ (k : Kind). Some (expr.Many k there.1 there.2)) same)
  where
    is_one : (kind : Kind) → is_container (container kind) ≡ true
    is_one kinds.Sequence = refl
    is_one kinds.Set = refl
    is_one kinds.PowerSet = refl
    is_one kinds.Cycle = refl

-- the same by what is read
module _ (counts : Counts) (a : Inside) (full : IsFull a) (same : counts ≡ counts_of a) where
  pub read_marked : (node : ℕ) → IsReachedIn counts node → IsMarked a.tables.marks.items node
  read_marked node reached = reached_marked a full node (subst (λ (some : Counts). IsReachedIn some node) same reached)

  pub read_reached : (node : ℕ) → IsMarked a.tables.marks.items node → IsReachedIn counts node
  read_reached node marked = subst (λ (some : Counts). IsReachedIn some node) (sym same) (marked_reached a full node marked)

  size_same : counts.size ≡ a.size
  size_same = ap (λ (some : Counts). some.size) same

  pub read_layer : (m : ℕ) (layer : Layer) → m ≤ counts.size → layer ≡ get_or a.tables.layers.items m layer → slice_get a.tables.layers.items m ≡ Some layer
  read_layer m layer within is = at_read a.tables.layers.items m layer (omega (arith, full.filled, size_same)) is

  pub read_room : (node m : ℕ) (layer : Layer) → IsReachedIn counts node → m ≤ counts.size → layer ≡ get_or a.tables.layers.items m layer → node < length layer
  read_room node m layer reached within is = room_for a full node m layer (read_marked node reached) (read_layer m layer within is)

  pub read_number : (node m value : ℕ) (layer : Layer) → IsReachedIn counts node → m ≤ counts.size → layer ≡ get_or a.tables.layers.items m layer → value ≡ cell layer node 0 → value ≡ number_of counts node m
  read_number node m value layer reached within is cell_is =
      number_at_cell a full node m value layer (read_marked node reached) (read_layer m layer within is) cell_is ∙ ap (λ (some : Counts). number_of some node m) (sym same)

  -- of a Prod the lists of its later arguments
  pub read_suffix : (node i m value : ℕ) (layer : Layer) → IsReachedIn counts node → m ≤ counts.size → option_map kind_of (node_at counts.checked.rules node) ≡ Some told.Prod → 2 ≤ i
      → i ≤ length (children_at counts.checked.rules node) → layer ≡ get_or a.tables.layers.items m layer → value ≡ cell layer node (i - 1) → value ≡ suffix_of counts node i m
  read_suffix node i m value layer reached within is_prod low high is cell_is = by e.0 e.1 (prod_there e.0 (kind_here a.tables.grammar.rules node e.0 told.Prod e.1 kind_is))
    where
      marked : IsMarked a.tables.marks.items node
      marked = read_marked node reached

      e : (e : Expression) × (node_at a.tables.grammar.rules node ≡ Some e)
      e = expression_at a full node marked

      kind_is : option_map kind_of (node_at a.tables.grammar.rules node) ≡ Some told.Prod
      kind_is = subst (λ (some : Counts). option_map kind_of (node_at some.checked.rules node) ≡ Some told.Prod) same is_prod

      few : i ≤ length (children_at a.tables.grammar.rules node)
      few = subst (λ (some : Counts). i ≤ length (children_at some.checked.rules node)) same high

      by : (e : Expression) → node_at a.tables.grammar.rules node ≡ Some e → (es : Expressions) × (e ≡ expr.Prod es) → value ≡ suffix_of counts node i m
      by e at is_es =
          let here : node_at a.tables.grammar.rules node ≡ Some (expr.Prod is_es.0) = at ∙ ap Some is_es.1 in
          cell_is ∙ cell_at a full node m (i - 1) (expr.Prod is_es.0) layer marked here (read_layer m layer within is)
          ∙ ap (λ (found : Option ℕ). unwrap_or found 0) (suffix_value (grammar a.tables.grammar) is_es.0 m i low (omega (arith, few, arguments_count a.tables.grammar.rules node is_es.0 here)))
          ∙ sym (ap (λ (found : Option Expression). suffix_number (grammar a.tables.grammar) (option_map_or arguments_of found []) i m) here)
          ∙ ap (λ (some : Counts). suffix_of some node i m) (sym same)

  -- of a Sequence the lists of c components
  -- a number of a row
  read_row : (node c m value : ℕ) (layer : Layer) (kind : Kind) (element : Expression) (card : Card) → IsReachedIn counts node → m ≤ counts.size → node_at a.tables.grammar.rules node ≡ Some (expr.Many kind element card) → 1 ≤ c
      → ((card : Card) → card_at counts.checked.rules node ≡ Some card → is_within card.high c ≡ true) → layer ≡ get_or a.tables.layers.items m layer → value ≡ cell layer node c
      → value ≡ in_row (container kind) c (of_components (grammar a.tables.grammar) kind element c m)
  read_row node c m value layer kind element card reached within at low high is cell_is =
      let card_here : card_at counts.checked.rules node ≡ Some card = subst (λ (some : Counts). card_at some.checked.rules node ≡ Some card) (sym same) (ap (option_and_then card_of) at) in
      cell_is ∙ cell_at a full node m c (expr.Many kind element card) layer (read_marked node reached) at (read_layer m layer within is)
      ∙ row_value_any (grammar a.tables.grammar) kind element card m c full.told.is_checked.spec full.told.is_checked.well_founded (in_nodes a.tables.grammar.rules node _ at) low (high card card_here)

  pub read_kind : (node : ℕ) (known : Kind) → option_map kind_of (node_at counts.checked.rules node) ≡ Some (container known)
      → (element : Expression) × (card : Card) × (node_at a.tables.grammar.rules node ≡ Some (expr.Many known element card))
  read_kind node known is =
      kind_there (node_at a.tables.grammar.rules node) known (subst (λ (some : Counts). option_map kind_of (node_at some.checked.rules node) ≡ Some (container known)) same is)

  lists_are : (node c m : ℕ) (kind : Kind) (element : Expression) (card : Card) → node_at a.tables.grammar.rules node ≡ Some (expr.Many kind element card)
      → of_components (grammar a.tables.grammar) kinds.Sequence element c m ≡ lists_of counts node c m
  lists_are node c m kind element card at =
      sym (ap (λ (some : Option Expression). option_map_or (λ element. list_number (grammar a.tables.grammar) element c m) (slice_get (option_map_or arguments_of some []) 0) 0) at)
      ∙ ap (λ (some : Counts). lists_of some node c m) (sym same)

  sets_are : (node c m : ℕ) (kind : Kind) (element : Expression) (card : Card) → node_at a.tables.grammar.rules node ≡ Some (expr.Many kind element card)
      → of_components (grammar a.tables.grammar) kind element c m ≡ sets_of counts node c m
  sets_are node c m kind element card at =
      sym (ap (λ (some : Option Expression). option_map_or (λ e. number (grammar a.tables.grammar) (with_exactly c e) m) some 0) at) ∙ ap (λ (some : Counts). sets_of some node c m) (sym same)

  pub read_lists : (node c m value : ℕ) (layer : Layer) → IsReachedIn counts node → m ≤ counts.size
      → (option_map kind_of (node_at counts.checked.rules node) ≡ Some told.Sequence) ⊎ (option_map kind_of (node_at counts.checked.rules node) ≡ Some told.Cycle) → 1 ≤ c
      → ((card : Card) → card_at counts.checked.rules node ≡ Some card → is_within card.high c ≡ true) → layer ≡ get_or a.tables.layers.items m layer → value ≡ cell layer node c → value ≡ lists_of counts node c m
  read_lists node c m value layer reached within (inl sequence) low high is cell_is =
      let there = read_kind node kinds.Sequence sequence in
      read_row node c m value layer kinds.Sequence there.0 there.1 reached within there.2 low high is cell_is ∙ lists_are node c m kinds.Sequence there.0 there.1 there.2
  read_lists node c m value layer reached within (inr cycle) low high is cell_is =
      let there = read_kind node kinds.Cycle cycle in
      read_row node c m value layer kinds.Cycle there.0 there.1 reached within there.2 low high is cell_is
      ∙ sym (cycle_lists (grammar a.tables.grammar) there.0 there.1 full.told.is_checked.spec full.told.is_checked.well_founded c m low (in_nodes a.tables.grammar.rules node _ there.2))
      ∙ lists_are node c m kinds.Cycle there.0 there.1 there.2

  pub read_no_lists : (node m value : ℕ) → (option_map kind_of (node_at counts.checked.rules node) ≡ Some told.Sequence) ⊎ (option_map kind_of (node_at counts.checked.rules node) ≡ Some told.Cycle)
      → value ≡ one_at 0 m → value ≡ lists_of counts node 0 m
  read_no_lists node m value (inl sequence) is =
      let there = read_kind node kinds.Sequence sequence in
      is ∙ sym (recur.no_lists (grammar a.tables.grammar) there.0 there.1 m full.told.is_checked.spec full.told.is_checked.well_founded (in_nodes a.tables.grammar.rules node _ there.2))
      ∙ lists_are node 0 m kinds.Sequence there.0 there.1 there.2
  read_no_lists node m value (inr cycle) is =
      let there = read_kind node kinds.Cycle cycle in
      is ∙ sym (containers.no_lists (grammar a.tables.grammar) there.0 there.1 m full.told.is_checked.spec full.told.is_checked.well_founded (in_nodes a.tables.grammar.rules node _ there.2))
      ∙ lists_are node 0 m kinds.Cycle there.0 there.1 there.2

  pub read_sets : (node c m value : ℕ) (layer : Layer) → IsReachedIn counts node → m ≤ counts.size
      → (option_map kind_of (node_at counts.checked.rules node) ≡ Some told.Set) ⊎ (option_map kind_of (node_at counts.checked.rules node) ≡ Some told.PowerSet) → 1 ≤ c
      → ((card : Card) → card_at counts.checked.rules node ≡ Some card → is_within card.high c ≡ true) → layer ≡ get_or a.tables.layers.items m layer → value ≡ cell layer node c
      → value / c ≡ sets_of counts node c m
  read_sets node c m value layer reached within (inl set) low high is cell_is =
      let there = read_kind node kinds.Set set in
      ap (λ (k : ℕ). k / c) (read_row node c m value layer kinds.Set there.0 there.1 reached within there.2 low high is cell_is)
      ∙ divided c (of_components (grammar a.tables.grammar) kinds.Set there.0 c m) low ∙ sets_are node c m kinds.Set there.0 there.1 there.2
  read_sets node c m value layer reached within (inr set) low high is cell_is =
      let there = read_kind node kinds.PowerSet set in
      ap (λ (k : ℕ). k / c) (read_row node c m value layer kinds.PowerSet there.0 there.1 reached within there.2 low high is cell_is)
      ∙ divided c (of_components (grammar a.tables.grammar) kinds.PowerSet there.0 c m) low ∙ sets_are node c m kinds.PowerSet there.0 there.1 there.2

  pub read_no_sets : (node m value : ℕ) → (option_map kind_of (node_at counts.checked.rules node) ≡ Some told.Set) ⊎ (option_map kind_of (node_at counts.checked.rules node) ≡ Some told.PowerSet)
      → value ≡ one_at 0 m → value ≡ sets_of counts node 0 m
  read_no_sets node m value (inl set) is =
      let there = read_kind node kinds.Set set in
      is ∙ sym (containers.no_sets (grammar a.tables.grammar) there.0 there.1 m full.told.is_checked.spec full.told.is_checked.well_founded (in_nodes a.tables.grammar.rules node _ there.2))
      ∙ sets_are node 0 m kinds.Set there.0 there.1 there.2
  read_no_sets node m value (inr set) is =
      let there = read_kind node kinds.PowerSet set in
      is ∙ sym (containers.no_power_sets (grammar a.tables.grammar) there.0 there.1 m full.told.is_checked.spec full.told.is_checked.well_founded (in_nodes a.tables.grammar.rules node _ there.2))
      ∙ sets_are node 0 m kinds.PowerSet there.0 there.1 there.2

  pub read_cycles : (node c m value : ℕ) (layer : Layer) → IsReachedIn counts node → m ≤ counts.size → option_map kind_of (node_at counts.checked.rules node) ≡ Some told.Cycle → 1 ≤ c
      → ((card : Card) → card_at counts.checked.rules node ≡ Some card → is_within card.high c ≡ true) → layer ≡ get_or a.tables.layers.items m layer → value ≡ cell layer node c
      → value / c ≡ cycles_of counts node c m
  read_cycles node c m value layer reached within cycle low high is cell_is =
      let there = read_kind node kinds.Cycle cycle in
      ap (λ (k : ℕ). k / c) (read_row node c m value layer kinds.Cycle there.0 there.1 reached within there.2 low high is cell_is)
      ∙ divided c (of_components (grammar a.tables.grammar) kinds.Cycle there.0 c m) low
      ∙ sym (ap (λ (some : Option Expression). option_map_or (λ element. of_components (grammar a.tables.grammar) kinds.Cycle element c m) (slice_get (option_map_or arguments_of some []) 0) 0) there.2)
      ∙ ap (λ (some : Counts). cycles_of some node c m) (sym same)

pub zero_size : (m : ℕ) → m ≡ 0 → 1 ≡ one_at 0 m
zero_size m same = ap (one_at 0) (sym same)

pub other_size : (m : ℕ) → (m ≡ 0 → ⊥) → 0 ≡ one_at 0 m
other_size zero other = absurd (other refl)
other_size (suc m) other = sym (ap (λ (b : Bool). cond b 1 0) (eqb-suc-zero m))

-- the members of a class are the structures of its right side
pub count_is : (checked : Checked) (number_of_rule n value : ℕ) → IsChecked checked → 1 ≤ number_of_rule → number_of_rule ≤ length checked.rules
    → value ≡ option_map_or (λ e. number (grammar checked) e n) (node_at checked.rules (right_node checked.rules number_of_rule)) 0
    → value ≡ number (grammar checked) (expr.Name (rule_name checked.rules number_of_rule)) n
count_is checked zero n value is_checked low high is = absurd (omega arith)
count_is checked (suc i) n value is_checked low high is =
    let rule = slice_some checked.rules i (omega arith) in
    let side : right_side checked.rules (suc i) ≡ Some rule.0.1 = ap (option_map (λ (rule : List ℕ × Expression). rule.1)) rule.1 in
    let named : symbol checked.rules rule.0.0 ≡ Some (suc i) = symbol_own checked.rules i rule.0 is_checked.spec rule.1 in
    let name_is : rule_name checked.rules (suc i) ≡ rule.0.0 = ap (λ (found : Option (List ℕ × Expression)). unwrap_or (option_map (λ (rule : List ℕ × Expression). rule.0) found) []) rule.1 in
    is ∙ ap (λ (found : Option Expression). option_map_or (λ e. number (grammar checked) e n) found 0) (right_node_is checked.rules (suc i) rule.0.1 side)
    ∙ sym (recur.name (grammar checked) rule.0.0 (suc i) rule.0.1 n is_checked.spec is_checked.well_founded named side) ∙ ap (λ (name : List ℕ). number (grammar checked) (expr.Name name) n) (sym name_is)

pub read_count : (counts : Counts) (a : Inside) → IsFull a → counts ≡ counts_of a → (number_of_rule used node value : ℕ) → counts.checked.start ≡ Some number_of_rule → a.tables.grammar.start ≡ Some used
    → node ≡ right_node a.tables.grammar.rules used → value ≡ number_of counts node a.size → value ≡ number (grammar counts.checked) (expr.Name (rule_name counts.checked.rules number_of_rule)) counts.size
read_count counts a full same number_of_rule used node value start used_is node_is is =
    let here : Some used ≡ Some number_of_rule = sym used_is ∙ sym (ap (λ (some : Counts). some.checked.start) same) ∙ start in
    let same_rule : used ≡ number_of_rule = cc in
    let range : (1 ≤ used) × (used ≤ length a.tables.grammar.rules) = subst (λ (found : Option ℕ). IfSome found (λ sym. (1 ≤ sym) × (sym ≤ length a.tables.grammar.rules))) used_is full.told.is_checked.started in
    count_is a.tables.grammar used a.size value full.told.is_checked range.0 range.1
    (is ∙ ap (λ (some : Counts). number_of some node a.size) same ∙ ap (λ (k : ℕ). number_of (counts_of a) k a.size) node_is)
    ∙ ap (λ (k : ℕ). number (grammar a.tables.grammar) (expr.Name (rule_name a.tables.grammar.rules k)) a.size) same_rule
    ∙ ap (λ (some : Counts). number (grammar some.checked) (expr.Name (rule_name some.checked.rules number_of_rule)) some.size) (sym same)
