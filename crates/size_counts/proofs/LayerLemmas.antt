-- The numbers of a size as they are kept, and the first that is too large.
use Rattle.std.proofs.Common.{◌≡◌, ◌⊎◌, ℕ, zero, suc, ◌+◌, ◌-◌, ◌<◌, ◌≤◌, ◌^◌, Bool, true, false, cond, List, [], ◌∷◌, ◌++◌, length, map, take, find, Option, Some, None, slice_get, unwrap_or, refl, sym, ap, ◌∙◌, subst, inl, inr, arith, IsTrue}
use Rattle.std.specs.Option.{option_map, option_map_or, option_or}
use Rattle.std.specs.List.{flat_map, range_with_len}
use Rattle.std.specs.Prelude.{if◌then◌else◌}
use Rattle.std.proofs.lemmas.Bool.{cases_lt}
use Rattle.std.proofs.lemmas.List.{map-append, length-map}
use Rattle.std.proofs.lemmas.List.Folds.{find-append}
use Rattle.std.proofs.lemmas.Option.{slice_get_within, slice_get-map}
use Rattle.lists.proofs.FlatMaps.{sizes-more}
use Rattle.lists.proofs.Positions.{slice_some}
use Rattle.std.proofs.lemmas.Bool.Decides.{nat_tests}
use Rattle.spec_syntax.specs.declared.expr.Kind.TheVariants as kind
use Rattle.spec_syntax.specs.Expression as expr
use Rattle.spec_syntax.specs.Expression.{Expression, expression_list}
use Rattle.spec_syntax.proofs.NodesLemmas.{length-children_of, children_few}
use Rattle.spec_syntax.proofs.RulesLemmas.{all_nodes-from_spec}
use Rattle.lists.proofs.Places.{pushed_at}
use Rattle.spec_syntax.specs.Rules.{all_nodes, is_spec}
use Rattle.spec_syntax.specs.Nodes.{node_at}
use Rattle.graphs.specs.Graph.{IsMarked}
use Rattle.well_founded.specs.Checked.{Checked, grammar}
use Rattle.splits.specs.Capped.{Tells}
use Rattle.size_counts.specs.declared.tables.Tables.{Tables}
use Rattle.size_counts.specs.Numbers.{Numbered, numbers_at, Spot, numbers_of_node, is_marked, numbers_of_size, is_large, is_large_spot, most_components}
use Rattle.size_counts.specs.Tables.{Layer}
use Rattle.size_counts.specs.Told.{values, IsLayer, AreTold, TellAll}
use Rattle.size_counts.proofs.TableLemmas.{none_made}
use Rattle.size_counts.proofs.ListLemmas.{most_le}
use Rattle.size_counts.specs.Layers.{HasNoNone, HaveNoNone, IsFirstNone, IsEarliestNone, told_row, told_rows}
use Rattle.size_counts.specs.Turns.{AreRows}
use Rattle.size_counts.proofs.ReachedLemmas.{take_one}

-- ---- what is kept

pub exact_step : (row : List (Option ℕ)) (i value : ℕ) (found : Option ℕ) (made more : List ℕ) → HasNoNone row → slice_get row i ≡ Some found → value ≡ unwrap_or found 0 → more ≡ made ++ value ∷ []
    → take i row ≡ told_row made → take (i + 1) row ≡ told_row more
exact_step row i value None made more none there is pushed so_far = absurd (none i there)
exact_step row i value (Some v) made more none there is pushed so_far =
    take_one row i (Some v) there ∙ ap (λ (items : List (Option ℕ)). items ++ Some v ∷ []) so_far
    ∙ ap (λ (n : ℕ). told_row made ++ Some n ∷ []) (sym is) ∙ sym (map-append (λ (n : ℕ). Some n) made (value ∷ [])) ∙ ap told_row (sym pushed)

-- what is told of all and none of it None are the numbers
exact_is : (numbers kept : List ℕ) → TellAll (told_row kept) numbers → kept ≡ numbers
exact_is [] [] all = refl
exact_is [] (k ∷ kept) all = absurd (let e = all.for_each in omega (arith, e))
exact_is (n ∷ numbers) [] all = absurd (let e = all.for_each in omega (arith, e))
exact_is (n ∷ numbers) (k ∷ kept) all =
    let first : k ≡ n = (all.each 0 n (Some k) refl refl).0 in
    let rest : kept ≡ numbers = exact_is numbers kept (record { for_each = omega (arith, all.for_each); each = λ i x one at there. all.each (suc i) x one at there }) in
    ap (λ (x : ℕ). x ∷ kept) first ∙ ap (λ (xs : List ℕ). n ∷ xs) rest

exact_small : (numbers kept : List ℕ) → TellAll (told_row kept) numbers → (i v : ℕ) → slice_get numbers i ≡ Some v → v < 2 ^ 128
exact_small [] kept all i v there = absurd (none i there)
  where
    none : (i : ℕ) → slice_get [] i ≡ Some v → ⊥
    none zero at = cc
    none (suc i) at = cc
exact_small (n ∷ numbers) [] all i v there = absurd (let e = all.for_each in omega (arith, e))
exact_small (n ∷ numbers) (k ∷ kept) all zero v there = let same : n ≡ v = cc in let told : Tells (Some k) n = all.each 0 n (Some k) refl refl in omega (arith, told.1, same)
exact_small (n ∷ numbers) (k ∷ kept) all (suc i) v there = exact_small numbers kept (record { for_each = omega (arith, all.for_each); each = λ j x one at is. all.each (suc j) x one at is }) i v there

pub layer_kept : (tables : Tables) (m : ℕ) (rows : List (List (Option ℕ))) (layer : Layer) → AreRows tables m (length (all_nodes tables.grammar.rules)) rows → rows ≡ told_rows layer
    → IsLayer (grammar tables.grammar) tables.marks.items m layer
layer_kept tables m rows layer are same = record {
  for_each = sym (length-map layer told_row) ∙ sym (ap (λ (all : List (List (Option ℕ))). length all) same) ∙ are.for_each;
  each = λ node e marked at.
      let found = there node e at in found.1 ∙ ap Some (exact_is (values (numbers_at (grammar tables.grammar) e m)) found.0 (all_of node e marked at));
  small = λ node e marked at i v is. exact_small (values (numbers_at (grammar tables.grammar) e m)) (there node e at).0 (all_of node e marked at) i v is;
}
  where
    count : length layer ≡ length (all_nodes tables.grammar.rules)
    count = sym (length-map layer told_row) ∙ sym (ap (λ (all : List (List (Option ℕ))). length all) same) ∙ are.for_each

    there : (node : ℕ) (e : Expression) → node_at tables.grammar.rules node ≡ Some e → (kept : List ℕ) × (slice_get layer node ≡ Some kept)
    there node e at = slice_some layer node (omega (arith, count, slice_get_within (all_nodes tables.grammar.rules) node e at))

    row_at : (node : ℕ) (e : Expression) (at : node_at tables.grammar.rules node ≡ Some e) → slice_get rows node ≡ Some (told_row (there node e at).0)
    row_at node e at = ap (λ (all : List (List (Option ℕ))). slice_get all node) same ∙ slice_get-map told_row layer node ∙ ap (option_map told_row) (there node e at).1

    all_of : (node : ℕ) (e : Expression) → IsMarked tables.marks.items node → (at : node_at tables.grammar.rules node ≡ Some e) → TellAll (told_row (there node e at).0) (values (numbers_at (grammar tables.grammar) e m))
    all_of node e marked at = are.each node e (told_row (there node e at).0) (row_at node e at) marked at

-- ---- the first that is too large

module _ {X : Type 0} (test : X → Bool) (f : ℕ → List X) where
  -- where none of the lists has one, all of them together have none
  pub none_found : (n : ℕ) → ((k : ℕ) → k < n → find test (f k) ≡ None) → find test (flat_map f (range_with_len 0 n)) ≡ None
  none_found zero none = refl
  none_found (suc n) none =
      ap (λ (k : ℕ). find test (flat_map f (range_with_len 0 k))) (next n) ∙ ap (find test) (sizes-more f n) ∙ find-append test (flat_map f (range_with_len 0 n)) (f n)
      ∙ ap (λ (found : Option X). option_or found (find test (f n))) (none_found n (λ k below. none k (omega arith))) ∙ none n (omega arith)
    where
      next : (n : ℕ) → suc n ≡ n + 1
      next n = omega arith

  -- the first of the first list that has one
  pub first_found : (n k : ℕ) (x : X) → k < n → find test (f k) ≡ Some x → ((j : ℕ) → j < k → find test (f j) ≡ None) → find test (flat_map f (range_with_len 0 n)) ≡ Some x
  first_found zero k x within found none = absurd (omega arith)
  first_found (suc n) k x within found none = by (cases_lt k n) (λ below. first_found n k x below found none)
    where
      next : (n : ℕ) → suc n ≡ n + 1
      next n = omega arith

      whole : find test (flat_map f (range_with_len 0 (suc n))) ≡ option_or (find test (flat_map f (range_with_len 0 n))) (find test (f n))
      whole = ap (λ (k : ℕ). find test (flat_map f (range_with_len 0 k))) (next n) ∙ ap (find test) (sizes-more f n) ∙ find-append test (flat_map f (range_with_len 0 n)) (f n)

      by : (k < n) ⊎ (n ≤ k) → (k < n → find test (flat_map f (range_with_len 0 n)) ≡ Some x) → find test (flat_map f (range_with_len 0 (suc n))) ≡ Some x
      by (inl below) earlier = whole ∙ ap (λ (o : Option X). option_or o (find test (f n))) (earlier below)
      by (inr past) earlier =
          let same : k ≡ n = omega arith in
          whole ∙ ap (λ (o : Option X). option_or o (find test (f n))) (none_found n (λ j below. none j (omega arith))) ∙ ap (λ (j : ℕ). find test (f j)) (sym same) ∙ found

-- the first one, where those before have none
pub first_after : {X : Type 0} (test : X → Bool) (f : ℕ → List X) (n k : ℕ) (x : X) → k < n → find test (flat_map f (range_with_len 0 k)) ≡ None → find test (f k) ≡ Some x
    → find test (flat_map f (range_with_len 0 n)) ≡ Some x
first_after test f zero k x within none found = absurd (omega arith)
first_after {X} test f (suc n) k x within none found = by (cases_lt k n) (λ below. first_after test f n k x below none found)
  where
    next : (n : ℕ) → suc n ≡ n + 1
    next n = omega arith

    whole : find test (flat_map f (range_with_len 0 (suc n))) ≡ option_or (find test (flat_map f (range_with_len 0 n))) (find test (f n))
    whole = ap (λ (k : ℕ). find test (flat_map f (range_with_len 0 k))) (next n) ∙ ap (find test) (sizes-more f n) ∙ find-append test (flat_map f (range_with_len 0 n)) (f n)

    by : (k < n) ⊎ (n ≤ k) → (k < n → find test (flat_map f (range_with_len 0 n)) ≡ Some x) → find test (flat_map f (range_with_len 0 (suc n))) ≡ Some x
    by (inl below) earlier = whole ∙ ap (λ (o : Option X). option_or o (find test (f n))) (earlier below)
    by (inr past) earlier =
        let same : k ≡ n = omega arith in
        whole ∙ ap (λ (o : Option X). option_or o (find test (f n))) (ap (λ (j : ℕ). find test (flat_map f (range_with_len 0 j))) (sym same) ∙ none) ∙ ap (λ (j : ℕ). find test (f j)) (sym same) ∙ found

-- still none with one list more
pub none_more : {X : Type 0} (test : X → Bool) (f : ℕ → List X) (n : ℕ) → find test (flat_map f (range_with_len 0 n)) ≡ None → find test (f n) ≡ None → find test (flat_map f (range_with_len 0 (n + 1))) ≡ None
none_more {X} test f n none here =
    ap (find test) (sizes-more f n) ∙ find-append test (flat_map f (range_with_len 0 n)) (f n) ∙ ap (λ (o : Option X). option_or o (find test (f n))) none ∙ here

pub large_none : (n : ℕ) → Tells None n → is_large n ≡ true
large_none n told = grind (arith, nat_tests, told)

pub small_some : (v n : ℕ) → Tells (Some v) n → is_large n ≡ false
small_some v n told = grind (arith, nat_tests, told.1)

tell_rest : (told : List (Option ℕ)) (numbers : List ℕ) (one : Option ℕ) (n : ℕ) → TellAll (one ∷ told) (n ∷ numbers) → TellAll told numbers
tell_rest told numbers one n all = record { for_each = omega (arith, all.for_each); each = λ i k other at there. all.each (suc i) k other at there }

abbrev spot_of : ℕ → ℕ → Numbered → Spot
spot_of m node numbered = record { size = m; node = node; numbered = numbered }

-- of the numbers of a node
pub row_none : (m node : ℕ) (numbers : List Numbered) (row : List (Option ℕ)) → TellAll row (values numbers) → HasNoNone row → find is_large_spot (map (spot_of m node) numbers) ≡ None
row_none m node [] row all none = refl
row_none m node (n ∷ numbers) [] all none = absurd (let e = all.for_each in omega (arith, e))
row_none m node (n ∷ numbers) (None ∷ row) all none = absurd (none 0 refl)
row_none m node (n ∷ numbers) (Some v ∷ row) all none =
    ap (λ (b : Bool). cond b (Some (spot_of m node n)) (find is_large_spot (map (spot_of m node) numbers))) (small_some v n.number (all.each 0 n.number (Some v) refl refl))
    ∙ row_none m node numbers row (tell_rest row (values numbers) (Some v) n.number all) (λ i at. none (suc i) at)

pub row_first : (m node : ℕ) (numbers : List Numbered) (row : List (Option ℕ)) (i : ℕ) → TellAll row (values numbers) → IsFirstNone row (Some i)
    → (numbered : Numbered) × (slice_get numbers i ≡ Some numbered) × (find is_large_spot (map (spot_of m node) numbers) ≡ Some (spot_of m node numbered))
row_first m node [] [] zero all first = absurd (let e : ◌≡◌ {A = Option (Option ℕ)} None (Some None) = first.0 in cc)
row_first m node [] [] (suc i) all first = absurd (let e : ◌≡◌ {A = Option (Option ℕ)} None (Some None) = first.0 in cc)
row_first m node [] (one ∷ row) i all first = absurd (let e = all.for_each in omega (arith, e))
row_first m node (n ∷ numbers) [] i all first = absurd (let e = all.for_each in omega (arith, e))
row_first m node (n ∷ numbers) (None ∷ row) zero all first =
    (n, refl, ap (λ (b : Bool). cond b (Some (spot_of m node n)) (find is_large_spot (map (spot_of m node) numbers))) (large_none n.number (all.each 0 n.number None refl refl)))
row_first m node (n ∷ numbers) (Some v ∷ row) zero all first = absurd (let e : Some (Some v) ≡ Some None = first.0 in cc)
row_first m node (n ∷ numbers) (None ∷ row) (suc i) all first = absurd (first.1 0 (omega arith) refl)
row_first m node (n ∷ numbers) (Some v ∷ row) (suc i) all first =
    let rest = row_first m node numbers row i (tell_rest row (values numbers) (Some v) n.number all) (first.0, λ j below at. first.1 (suc j) (omega arith) at) in (
      rest.0,
      rest.1,
      ap (λ (b : Bool). cond b (Some (spot_of m node n)) (find is_large_spot (map (spot_of m node) numbers))) (small_some v n.number (all.each 0 n.number (Some v) refl refl)) ∙ rest.2,
    )

-- ---- the numbers of a size

module _ (tables : Tables) (m : ℕ) (rows : List (List (Option ℕ))) (are : AreRows tables m (length (all_nodes tables.grammar.rules)) rows) (for_each : length tables.marks.items ≡ length (all_nodes tables.grammar.rules)) where
  -- a node is marked or it isn't
  marked_is : (node : ℕ) → (IsMarked tables.marks.items node × (is_marked tables.marks.items node ≡ true)) ⊎ ((IsMarked tables.marks.items node → ⊥) × (is_marked tables.marks.items node ≡ false))
  marked_is node = by (slice_get tables.marks.items node) refl
    where
      by : (found : Option Bool) → slice_get tables.marks.items node ≡ found
          → (IsMarked tables.marks.items node × (is_marked tables.marks.items node ≡ true)) ⊎ ((IsMarked tables.marks.items node → ⊥) × (is_marked tables.marks.items node ≡ false))
      by None is = inr ((λ marked. let e : None ≡ Some true = sym is ∙ marked in cc), ap (λ (found : Option Bool). unwrap_or found false) is)
      by (Some true) is = inl (is, ap (λ (found : Option Bool). unwrap_or found false) is)
      by (Some false) is = inr ((λ marked. let e : Some false ≡ Some true = sym is ∙ marked in cc), ap (λ (found : Option Bool). unwrap_or found false) is)

  node_here : (node : ℕ) → node < length (all_nodes tables.grammar.rules) → (e : Expression) × (node_at tables.grammar.rules node ≡ Some e)
  node_here node within = slice_some (all_nodes tables.grammar.rules) node within

  numbers_here : (node : ℕ) (e : Expression) → is_marked tables.marks.items node ≡ true → node_at tables.grammar.rules node ≡ Some e
      → (if is_marked tables.marks.items node then numbers_of_node (grammar tables.grammar) m node else []) ≡ map (spot_of m node) (numbers_at (grammar tables.grammar) e m)
  numbers_here node e marked at =
      ap (λ (b : Bool). if b then numbers_of_node (grammar tables.grammar) m node else []) marked
      ∙ ap (λ (found : Option Expression). map (spot_of m node) (option_map_or (λ e. numbers_at (grammar tables.grammar) e m) found [])) at

  none_in_row : (node : ℕ) (row : List (Option ℕ)) → slice_get rows node ≡ Some row → HasNoNone row
      → find is_large_spot (if is_marked tables.marks.items node then numbers_of_node (grammar tables.grammar) m node else []) ≡ None
  none_in_row node row there none = elim (marked_is node) [
    | inl marked ↦
        let here = node_here node (omega (arith, slice_get_within rows node row there, are.for_each)) in
        ap (find is_large_spot) (numbers_here node here.0 marked.1 here.1)
        ∙ row_none m node (numbers_at (grammar tables.grammar) here.0 m) row (are.each node here.0 row there marked.0 here.1) none
    | inr unmarked ↦ ap (λ (b : Bool). find is_large_spot (if b then numbers_of_node (grammar tables.grammar) m node else [])) unmarked.1
  ]

  none_before : (n node : ℕ) → HaveNoNone rows n → node < n → n ≤ length rows → find is_large_spot (if is_marked tables.marks.items node then numbers_of_node (grammar tables.grammar) m node else []) ≡ None
  none_before n node none below within =
      let row = slice_some rows node (omega arith) in none_in_row node row.0 row.1 (none node row.0 below row.1)

  -- none is too large
  pub size_none : HaveNoNone rows (length rows) → find is_large_spot (numbers_of_size (grammar tables.grammar) tables.marks.items m) ≡ None
  size_none none = none_found is_large_spot _ (length tables.marks.items) (λ node below. none_before (length rows) node none (omega (arith, are.for_each, for_each)) (omega arith))

  -- or one is the first
  pub size_first : (node i : ℕ) → IsEarliestNone rows node i
      → (e : Expression) × (numbered : Numbered) × (node_at tables.grammar.rules node ≡ Some e) × (slice_get (numbers_at (grammar tables.grammar) e m) i ≡ Some numbered)
      × (find is_large_spot (numbers_of_size (grammar tables.grammar) tables.marks.items m) ≡ Some (record { size = m; node = node; numbered = numbered }))
  size_first node i first = elim (marked_is node) [
    | inr unmarked ↦ absurd (
        let empty : first.row ≡ [] = are.empty node first.row first.at unmarked.0 in
        none_there i (subst (λ (row : List (Option ℕ)). slice_get row i ≡ Some None) empty first.first.0)
        )
    | inl marked ↦
        let within : node < length rows = slice_get_within rows node first.row first.at in
        let here = node_here node (omega (arith, within, are.for_each)) in
        let found = row_first m node (numbers_at (grammar tables.grammar) here.0 m) first.row i (are.each node here.0 first.row first.at marked.0 here.1) first.first in (
          here.0,
          found.0,
          here.1,
          found.1,
          first_found is_large_spot _ (length tables.marks.items) node _ (omega (arith, within, are.for_each, for_each))
              (ap (find is_large_spot) (numbers_here node here.0 marked.1 here.1) ∙ found.2)
              (λ j below. none_before node j first.before below (omega (arith, within))),
        )
  ]
    where
      none_there : (i : ℕ) → slice_get {X = Option ℕ} [] i ≡ Some None → ⊥
      none_there zero at = let e : ◌≡◌ {A = Option (Option ℕ)} None (Some None) = at in cc
      none_there (suc i) at = let e : ◌≡◌ {A = Option (Option ℕ)} None (Some None) = at in cc

-- ---- tables that grow

made_within : (f : ℕ → Numbered) (start n j : ℕ) (y : Numbered) → slice_get (map f (range_with_len start n)) j ≡ Some y → j < n
made_within f start n j y at = elim (cases_lt j n) [
  | inl less ↦ less
  | inr past ↦ absurd (let e : ◌≡◌ {A = Option Numbered} None (Some y) = sym (none_made f start n j past) ∙ at in cc)
]

pub told_more : (checked : Checked) (marks : List Bool) (layers more : List Layer) (layer : Layer) (m : ℕ) → AreTold checked marks layers → length layers ≡ m → IsLayer (grammar checked) marks m layer
    → more ≡ layers ++ layer ∷ [] → AreTold checked marks more
told_more checked marks layers more layer m told filled is pushed = subst (λ (all : List Layer). AreTold checked marks all) (sym pushed) (record {
  is_checked = told.is_checked;
  for_each = told.for_each;
  closed = told.closed;
  layer_is = λ size other there. elim (pushed_at layers layer size other there) [
    | inl earlier ↦ told.layer_is size other earlier
    | inr here ↦ let same : size ≡ m = here.0 ∙ filled in
        subst (λ (k : ℕ). IsLayer (grammar checked) marks k other) (sym same) (subst (λ (l : Layer). IsLayer (grammar checked) marks m l) (sym here.1) is)
  ];
})

-- a node has at most 1001 numbers at a size
pub index_small : (checked : Checked) (node m i : ℕ) (e : Expression) (numbered : Numbered) → IsTrue (is_spec checked.rules) → node_at checked.rules node ≡ Some e → m ≤ 1000
    → slice_get (numbers_at (grammar checked) e m) i ≡ Some numbered → i ≤ 1000
index_small checked node m zero e numbered spec at small there = omega arith
index_small checked node m (suc j) expr.Epsilon numbered spec at small there = absurd (cc)
index_small checked node m (suc j) expr.Atom numbered spec at small there = absurd (cc)
index_small checked node m (suc j) (expr.Name name) numbered spec at small there = absurd (cc)
index_small checked node m (suc j) (expr.Union es) numbered spec at small there = absurd (cc)
index_small checked node m (suc j) (expr.Prod es) numbered spec at small there =
    let room : j < length (expression_list es) - 1 = made_within _ 2 (length (expression_list es) - 1) j numbered there in
    omega (arith, room, length-children_of node (expr.Prod es), children_few checked.rules node (expr.Prod es) at, all_nodes-from_spec checked.rules spec)
index_small checked node m (suc j) (expr.Many kind.Sequence e card) numbered spec at small there = omega (arith, made_within _ 1 (most_components card m) j numbered there, most_le card m)
index_small checked node m (suc j) (expr.Many kind.Set e card) numbered spec at small there = omega (arith, made_within _ 1 (most_components card m) j numbered there, most_le card m)
index_small checked node m (suc j) (expr.Many kind.PowerSet e card) numbered spec at small there = omega (arith, made_within _ 1 (most_components card m) j numbered there, most_le card m)
index_small checked node m (suc j) (expr.Many kind.Cycle e card) numbered spec at small there = omega (arith, made_within _ 1 (most_components card m) j numbered there, most_le card m)
