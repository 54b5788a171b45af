-- All numbers of a node at a size.
use Rattle.std.proofs.Common.{◌≡◌, ℕ, zero, suc, ◌+◌, ◌-◌, ◌<◌, ◌≤◌, Bool, true, false, true≢false, List, [], ◌∷◌, ◌++◌, length, map, Option, Some, slice_get, refl, sym, ap, ◌∙◌, subst, inl, inr, arith}
use Rattle.std.specs.Option.{option_map}
use Rattle.std.specs.List.{range_with_len}
use Rattle.std.proofs.lemmas.List.{length_push}
use Rattle.std.proofs.lemmas.List.FromFn.{length-map-range_with_len}
use Rattle.std.proofs.lemmas.Option.{slice_get_within}
use Rattle.lists.proofs.Places.{pushed_at}
use Rattle.lists.proofs.Positions.{slice_some}
use Rattle.spec_syntax.specs.declared.expr.Card.{Card}
use Rattle.spec_syntax.specs.declared.expr.Kind.{Kind}
use Rattle.spec_syntax.specs.declared.expr.Kind.TheVariants as kinds
use Rattle.spec_syntax.specs.Expression as expr
use Rattle.spec_syntax.specs.Expression.{Expression, Expressions, expression_list}
use Rattle.spec_syntax.specs.Rules.{all_nodes}
use Rattle.spec_syntax.specs.Nodes.{node_at, card_at, children_at, arguments_at, children_of}
use Rattle.spec_syntax.specs.Grammar.{Grammar}
use Rattle.spec_syntax.proofs.NodesLemmas.{in_nodes, child_node}
use Rattle.graphs.specs.Graph.{IsMarked}
use Rattle.struct_model.specs.Bounded.{number}
use Rattle.well_founded.specs.declared.node.NodeKind.{NodeKind}
use Rattle.well_founded.specs.declared.node.NodeKind.TheVariants as told
use Rattle.well_founded.specs.NodeKinds.{kind_of, container}
use Rattle.well_founded.specs.Checked.{Checked, grammar}
use Rattle.splits.specs.Capped.{Tells}
use Rattle.listing_laws.specs.ContainersRecur.{of_components}
use Rattle.size_counts.specs.declared.tables.Tables.{Tables}
use Rattle.size_counts.specs.Numbers.{Numbered, numbers_at, others_at, suffix_number, most_components}
use Rattle.size_counts.specs.Components.{of_none, in_row}
use Rattle.size_counts.specs.Tables.{Layer}
use Rattle.size_counts.specs.Told.{values, AreTold, TellAll, TellNow}
use Rattle.size_counts.specs.Suffixes.{ArgumentsTold, SuffixesTold, NoneBelow}
use Rattle.size_counts.specs.Turns.{LongerTold, BesideTold, AreRows}
use Rattle.size_counts.proofs.ReachedLemmas.{children_here}
use Rattle.size_counts.proofs.TableLemmas.{tell_none, tell_made, made_at}
use Rattle.size_counts.proofs.ListLemmas.{tells_by, card_same, kind_same, element_marked, element_there}
use Rattle.size_counts.proofs.SuffixLemmas.{child_marked, arguments_count, with_firsts}
use Rattle.size_counts.proofs.CountLemmas.{prod_found, components_are}
use Rattle.size_counts.proofs.Containers.{row_value, others_count}

pub tell_first : (told : List (Option ℕ)) (numbers : List ℕ) (one : Option ℕ) (n : ℕ) → Tells one n → TellAll told numbers → TellAll (one ∷ told) (n ∷ numbers)
tell_first told numbers one n is all = record { for_each = ap suc all.for_each; each = each }
  where
    each : (i k : ℕ) (other : Option ℕ) → slice_get (one ∷ told) i ≡ Some other → slice_get (n ∷ numbers) i ≡ Some k → Tells other k
    each zero k other at there = let same : one ≡ other = cc in let number_same : n ≡ k = cc in subst (λ (o : Option ℕ). Tells o k) same (tells_by one n k number_same is)
    each (suc i) k other at there = all.each i k other at there

-- the numbers of what is made of each
values_made : (f : ℕ → Numbered) (xs : List ℕ) → values (map f xs) ≡ map (λ x. (f x).number) xs
values_made f [] = refl
values_made f (x ∷ xs) = ap (λ (rest : List ℕ). (f x).number ∷ rest) (values_made f xs)

-- past all ranks the count of each marked node is told
pub all_told : (checked : Checked) (marks : List Bool) (layers : List Layer) → AreTold checked marks layers → (m node : ℕ) (now : List (Option ℕ)) (e : Expression) (one : Option ℕ)
    → TellNow checked marks m (length (all_nodes checked.rules)) now → IsMarked marks node → node_at checked.rules node ≡ Some e → slice_get now node ≡ Some one → Tells one (number (grammar checked) e m)
all_told checked marks layers told_tables m node now e one now_told marked at there =
    let within : node < length (all_nodes checked.rules) = slice_get_within (all_nodes checked.rules) node e at in
    let least = slice_some checked.leasts node (omega (arith, within, told_tables.is_checked.least.for_each)) in
    let ranked = slice_some checked.ranks node (omega (arith, within, told_tables.is_checked.ranked.for_each)) in
    now_told.each node least.0 ranked.0 e one marked at least.1 ranked.1 (inl (told_tables.is_checked.ranked.each node ranked.0 e at ranked.1).within) there

-- ---- a Prod

pub all_arguments : (checked : Checked) (marks : List Bool) (layers : List Layer) → AreTold checked marks layers → (m node : ℕ) (now : List (Option ℕ)) (es : Expressions)
    → TellNow checked marks m (length (all_nodes checked.rules)) now → IsMarked marks node → node_at checked.rules node ≡ Some (expr.Prod es)
    → ArgumentsTold (grammar checked) es (children_at checked.rules node) now m (λ k. false)
all_arguments checked marks layers told_tables m node now es now_told marked at = record {
  within = λ k is. absurd (true≢false (sym is));
  zeros = λ k e there is. absurd (true≢false (sym is));
  told = λ k child e one there child_is now_at may.
      let place : slice_get (children_of node (expr.Prod es)) k ≡ Some child = subst (λ (all : List ℕ). slice_get all k ≡ Some child) (children_here checked.rules node _ at) child_is in
      all_told checked marks layers told_tables m child now e one now_told (child_marked checked marks layers told_tables node es marked at k child child_is)
      (child_node checked.rules node (expr.Prod es) k child at place ∙ there) now_at;
}

-- the suffixes that are made late and those that were told first are all of them
pub all_suffixes : (checked : Checked) (marks : List Bool) (layers : List Layer) → AreTold checked marks layers → (m node : ℕ) (now : List (Option ℕ)) (es : Expressions)
    → TellNow checked marks m (length (all_nodes checked.rules)) now → IsMarked marks node → node_at checked.rules node ≡ Some (expr.Prod es) → (low high : ℕ) (late firsts all : List (Option ℕ))
    → high ≡ length (children_at checked.rules node) → low ≡ length firsts → BesideTold checked node m firsts
    → ((arguments : Expressions) (zero : ℕ → Bool) → node_at checked.rules node ≡ Some (expr.Prod arguments) → ArgumentsTold (grammar checked) arguments (children_at checked.rules node) now m zero
    → (high < length (expression_list arguments) → NoneBelow zero high → ⊥) → SuffixesTold (grammar checked) arguments m zero high (high - low) late)
    → all ≡ late ++ firsts → SuffixesTold (grammar checked) es m (λ k. false) (length (expression_list es)) (length (expression_list es)) all
all_suffixes checked marks layers told_tables m node now es now_told marked at low high late firsts all high_is low_is beside late_told whole =
    subst (λ (n : ℕ). SuffixesTold (grammar checked) es m (λ k. false) n n all) every
    (with_firsts (grammar checked) es m (λ k. false) high low (high - low) late firsts all
    (late_told es (λ k. false) at (all_arguments checked marks layers told_tables m node now es now_told marked at) (λ less none. absurd (omega (arith, less, every))))
    (beside.firsts es at) (omega arith) low_is (omega (arith, low_is, every, (beside.firsts es at).within)) whole)
  where
    every : high ≡ length (expression_list es)
    every = high_is ∙ arguments_count checked.rules node es at

-- there are at most as many first ones as arguments
pub firsts_within : (checked : Checked) (node m : ℕ) (firsts : List (Option ℕ)) → option_map kind_of (node_at checked.rules node) ≡ Some told.Prod → BesideTold checked node m firsts → length firsts ≤ length (children_at checked.rules node)
firsts_within checked node m firsts is beside =
    let prod = prod_found (node_at checked.rules node) is in omega (arith, (beside.firsts prod.0 prod.1).within, arguments_count checked.rules node prod.0 prod.1)

pub suffixes_more : (g : Grammar) (es : Expressions) (m earlier p : ℕ) (reversed made more : List (Option ℕ)) (one : Option ℕ) → SuffixesTold g es m (λ k. false) (length (expression_list es)) (length (expression_list es)) reversed
    → p ≡ length reversed - 2 - earlier → earlier < length reversed - 1 → slice_get reversed p ≡ Some one → more ≡ made ++ one ∷ []
    → TellAll made (map (λ i. suffix_number g (expression_list es) i m) (range_with_len 2 earlier)) → TellAll more (map (λ i. suffix_number g (expression_list es) i m) (range_with_len 2 (earlier + 1)))
suffixes_more g es m earlier p reversed made more one all place within there pushed so_far =
    subst (λ (items : List (Option ℕ)). TellAll items (map (λ i. suffix_number g (expression_list es) i m) (range_with_len 2 (earlier + 1)))) (sym pushed)
    (tell_made (λ i. suffix_number g (expression_list es) i m) made one 2 earlier (earlier + 2) (omega arith) so_far
    (all.each p (earlier + 2) one (omega (arith, all.for_each)) there (λ k below. refl)))

pub suffixes_all : (g : Grammar) (es : Expressions) (m earlier : ℕ) (reversed made : List (Option ℕ)) → SuffixesTold g es m (λ k. false) (length (expression_list es)) (length (expression_list es)) reversed → earlier ≡ length reversed - 1
    → TellAll made (map (λ i. suffix_number g (expression_list es) i m) (range_with_len 2 earlier)) → TellAll made (values (others_at g (expr.Prod es) m))
suffixes_all g es m earlier reversed made all same so_far =
    subst (λ (numbers : List ℕ). TellAll made numbers)
    (ap (λ (n : ℕ). map (λ i. suffix_number g (expression_list es) i m) (range_with_len 2 n)) (same ∙ ap (λ (n : ℕ). n - 1) all.for_each) ∙ sym (values_made _ (range_with_len 2 (length (expression_list es) - 1)))) so_far

-- ---- a container

module _ (checked : Checked) (marks : List Bool) (layers : List Layer) (told_tables : AreTold checked marks layers) (m node : ℕ) (now : List (Option ℕ)) (kind : Kind) (element : Expression) (card : Card)
    (now_told : TellNow checked marks m (length (all_nodes checked.rules)) now) (marked : IsMarked marks node) (at : node_at checked.rules node ≡ Some (expr.Many kind element card))
    (longer : List (Option ℕ)) (more : LongerTold checked node m longer) where
  -- one number of components more
  pub components_more : (kind_read : NodeKind) (read : Card) (child earlier : ℕ) (current found one : Option ℕ) (made after : List (Option ℕ)) → option_map kind_of (node_at checked.rules node) ≡ Some kind_read
      → card_at checked.rules node ≡ Some read → slice_get (children_at checked.rules node) 0 ≡ Some child → node_at checked.rules child ≡ slice_get (arguments_at checked.rules node) 0 → slice_get now child ≡ Some current
      → earlier < most_components read m → (earlier + 1 ≡ 0 → Tells found (of_none kind_read m)) → (earlier + 1 ≡ 1 → found ≡ current) → (2 ≤ earlier + 1 → slice_get longer (earlier + 1 - 2) ≡ Some found)
      → ((n : ℕ) → Tells found n → Tells one (in_row kind_read (earlier + 1) n)) → after ≡ made ++ one ∷ []
      → TellAll made (map (λ c. in_row kind_read c (of_components (grammar checked) kind element c m)) (range_with_len 1 earlier))
      → TellAll after (map (λ c. in_row kind_read c (of_components (grammar checked) kind element c m)) (range_with_len 1 (earlier + 1)))
  components_more kind_read read child earlier current found one made after kind_is card_is child_is child_at now_at within none first others row pushed so_far =
      subst (λ (items : List (Option ℕ)). TellAll items (map (λ c. in_row kind_read c (of_components (grammar checked) kind element c m)) (range_with_len 1 (earlier + 1)))) (sym pushed)
      (tell_made (λ c. in_row kind_read c (of_components (grammar checked) kind element c m)) made one 1 earlier (earlier + 1) (omega arith) so_far
      (row (of_components (grammar checked) kind element (earlier + 1) m)
      (components_are checked told_tables.is_checked node m now kind element card at (earlier + 1) kind_read found current longer (kind_same (node_at checked.rules node) kind element card kind_read at kind_is)
      (omega (arith, within, bound)) more none first others (λ one_is. element_now))))
    where
      bound : most_components read m ≡ most_components card m
      bound = ap (λ (k : Card). most_components k m) (card_same (node_at checked.rules node) kind element card read at card_is)

      element_now : Tells current (number (grammar checked) element m)
      element_now = all_told checked marks layers told_tables m child now element current now_told (element_marked checked marks layers told_tables node kind element card marked at child child_is)
          (element_there checked marks layers told_tables node kind element card marked at child child_at) now_at

  pub components_all : (kind_read : NodeKind) (read : Card) (earlier : ℕ) (made : List (Option ℕ)) → option_map kind_of (node_at checked.rules node) ≡ Some kind_read
      → card_at checked.rules node ≡ Some read → earlier ≡ most_components read m
      → TellAll made (map (λ c. in_row kind_read c (of_components (grammar checked) kind element c m)) (range_with_len 1 earlier))
      → TellAll made (values (others_at (grammar checked) (expr.Many kind element card) m))
  components_all kind_read read earlier made kind_is card_is end so_far = record {
    for_each = so_far.for_each ∙ length-map-range_with_len (λ c. in_row kind_read c (of_components (grammar checked) kind element c m)) 1 earlier ∙ most
        ∙ sym (others_count (grammar checked) element card kind m);
    each = λ i n one made_at_i number_at. by i n one made_at_i number_at (slice_get_within made i one made_at_i);
  }
    where
      most : earlier ≡ most_components card m
      most = end ∙ ap (λ (k : Card). most_components k m) (card_same (node_at checked.rules node) kind element card read at card_is)

      count : length made ≡ earlier
      count = so_far.for_each ∙ length-map-range_with_len (λ c. in_row kind_read c (of_components (grammar checked) kind element c m)) 1 earlier

      by : (i n : ℕ) (one : Option ℕ) → slice_get made i ≡ Some one → slice_get (values (others_at (grammar checked) (expr.Many kind element card) m)) i ≡ Some n → i < length made → Tells one n
      by i n one made_at_i number_at within =
          let there : Some (in_row (container kind) (suc i) (of_components (grammar checked) kind element (suc i) m)) ≡ Some n =
          sym (row_value (grammar checked) element card told_tables.is_checked.spec told_tables.is_checked.well_founded kind m (suc i) (omega arith) (omega (arith, within, count, most)) (in_nodes checked.rules node _ at)) ∙ number_at in
          let is : in_row (container kind) (suc i) (of_components (grammar checked) kind element (suc i) m) ≡ n = cc in
          tells_by one _ _
          (ap (λ (k : ℕ). in_row kind_read k (of_components (grammar checked) kind element k m)) (next i)
          ∙ ap (λ (k : NodeKind). in_row k (suc i) (of_components (grammar checked) kind element (suc i) m)) (kind_same (node_at checked.rules node) kind element card kind_read at kind_is) ∙ is)
          (so_far.each i _ one made_at_i (made_at (λ c. in_row kind_read c (of_components (grammar checked) kind element c m)) 1 earlier i (omega (arith, within, count))))
        where
          next : (i : ℕ) → 1 + i ≡ suc i
          next i = omega arith

-- ---- other nodes

-- has it no numbers beside its count
abbrev pub is_plain : NodeKind → Bool
is_plain told.Epsilon = true
is_plain told.Atom = true
is_plain told.Rule = true
is_plain told.Union = true
is_plain told.Prod = false
is_plain told.Sequence = false
is_plain told.Set = false
is_plain told.PowerSet = false
is_plain told.Cycle = false

pub no_others : (g : Grammar) (e : Expression) (m : ℕ) → is_plain (kind_of e) ≡ true → TellAll [] (values (others_at g e m))
no_others g expr.Epsilon m is = tell_none
no_others g expr.Atom m is = tell_none
no_others g (expr.Name name) m is = tell_none
no_others g (expr.Union es) m is = tell_none
no_others g (expr.Prod es) m is = absurd (true≢false (sym is))
no_others g (expr.Many kinds.Sequence e card) m is = absurd (true≢false (sym is))
no_others g (expr.Many kinds.Set e card) m is = absurd (true≢false (sym is))
no_others g (expr.Many kinds.PowerSet e card) m is = absurd (true≢false (sym is))
no_others g (expr.Many kinds.Cycle e card) m is = absurd (true≢false (sym is))

-- ---- the rows of all nodes

pub rows_more : (tables : Tables) (m n : ℕ) (rows more : List (List (Option ℕ))) (one : List (Option ℕ)) → AreRows tables m n rows → more ≡ rows ++ one ∷ []
    → ((e : Expression) → IsMarked tables.marks.items n → node_at tables.grammar.rules n ≡ Some e → TellAll one (values (numbers_at (grammar tables.grammar) e m)))
    → ((IsMarked tables.marks.items n → ⊥) → one ≡ []) → AreRows tables m (n + 1) more
rows_more tables m n rows more one before pushed is is_empty = subst (λ (items : List (List (Option ℕ))). AreRows tables m (n + 1) items) (sym pushed) (record {
  for_each = length_push rows one ∙ ap (λ (k : ℕ). k + 1) before.for_each;
  each = λ node e row there marked at. elim (pushed_at rows one node row there) [
    | inl earlier ↦ before.each node e row earlier marked at
    | inr here ↦ let same : node ≡ n = here.0 ∙ before.for_each in
        subst (λ (items : List (Option ℕ)). TellAll items (values (numbers_at (grammar tables.grammar) e m))) (sym here.1)
        (is e (subst (λ (k : ℕ). IsMarked tables.marks.items k) same marked) (subst (λ (k : ℕ). node_at tables.grammar.rules k ≡ Some e) same at))
  ];
  empty = λ node row there unmarked. elim (pushed_at rows one node row there) [
    | inl earlier ↦ before.empty node row earlier unmarked
    | inr here ↦ let same : node ≡ n = here.0 ∙ before.for_each in
        here.1 ∙ is_empty (λ marked. unmarked (subst (λ (k : ℕ). IsMarked tables.marks.items k) (sym same) marked))
  ];
})

-- what a list is made of
pub first_and_others : (all made start others : List (Option ℕ)) (one : Option ℕ) → all ≡ made ++ others → made ≡ start ++ one ∷ [] → start ≡ [] → all ≡ one ∷ others
first_and_others all made start others one whole pushed empty = whole ∙ ap (λ (items : List (Option ℕ)). items ++ others) (pushed ∙ ap (λ (items : List (Option ℕ)). items ++ one ∷ []) empty)

pub tell_all_by : (told other : List (Option ℕ)) (numbers : List ℕ) → told ≡ other → TellAll other numbers → TellAll told numbers
tell_all_by told other numbers same all = subst (λ (items : List (Option ℕ)). TellAll items numbers) (sym same) all
