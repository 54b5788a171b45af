-- The numbers of a Prod from each argument on.
use Rattle.std.proofs.Common.{◌≡◌, ◌⊎◌, ℕ, zero, suc, ◌+◌, ◌-◌, ◌*◌, ◌<◌, ◌≤◌, Bool, true, false, true≢false, List, [], ◌∷◌, ◌++◌, length, take, drop, Option, Some, None, slice_get, unwrap_or, refl, sym, ap, ◌∙◌, subst, inl, inr, arith, append_assoc, length-append, length-drop}
use Rattle.std.specs.List.{sum}
use Rattle.std.specs.Prelude.{nat_le}
use Rattle.std.specs.Option.{option_map_or, option_and_then}
use Rattle.std.proofs.lemmas.Bool.{cases_lt}
use Rattle.std.proofs.lemmas.Bool.Decides.{nat_tests}
use Rattle.std.proofs.lemmas.List.{length_push, take-append-drop, nil_from_length}
use Rattle.std.proofs.lemmas.Option.{slice_get_within}
use Rattle.lists.specs.Enumeration.{IsIn}
use Rattle.lists.proofs.Places.{pushed_at, drop_at, get_either}
use Rattle.lists.proofs.Positions.{slice_some}
use Rattle.spec_syntax.specs.declared.statement.Universe.{Universe}
use Rattle.spec_syntax.specs.Expression as expr
use Rattle.spec_syntax.specs.Grammar.{Grammar}
use Rattle.spec_syntax.specs.Expression.{Expression, Expressions, no_expressions, more_expressions, expression_list, expressions_of}
use Rattle.spec_syntax.specs.Rules.{Rules, all_nodes}
use Rattle.spec_syntax.specs.Nodes.{node_at, children_at, arguments_at, children_of, arguments_of}
use Rattle.spec_syntax.proofs.NodesLemmas.{in_nodes, length-children_of}
use Rattle.graphs.specs.Graph.{IsMarked}
use Rattle.graphs.proofs.Reached.{marked_within}
use Rattle.struct_model.specs.Bounded.{number}
use Rattle.well_founded.specs.Checked.{Checked, grammar}
use Rattle.listing_laws.specs.Numbers.{ways, joined, one_at}
use Rattle.splits.specs.Capped.{Tells}
use Rattle.size_counts.specs.Tables.{Layer, column}
use Rattle.size_counts.specs.Numbers.{numbers_at, suffix_number}
use Rattle.size_counts.specs.Told.{values, AreTold}
use Rattle.size_counts.specs.Sums.{ProductTold, ProductsTold}
use Rattle.size_counts.specs.Suffixes.{IsNothing, NoneBelow, NoneBut, ArgumentsTold, SuffixesTold, OthersTold, AreUpToFirst, FirstsTold, needs_atoms}
use Rattle.size_counts.proofs.Law.{recur}
use Rattle.size_counts.proofs.SumLemmas.{joined_more}
use Rattle.size_counts.proofs.TableLemmas.{entry_told, last_entry, length_column, suffix_value}
use Rattle.size_counts.proofs.ListLemmas.{told_zero, tells_by}

-- ---- lists of expressions

slice_get-drop_at : {X : Type 0} (xs : List X) (n i : ℕ) → slice_get (drop n xs) i ≡ slice_get xs (n + i)
slice_get-drop_at xs zero i = ap (slice_get xs) (none i)
  where
    none : (i : ℕ) → i ≡ 0 + i
    none i = omega arith
slice_get-drop_at [] (suc n) i = sym (nothing_there (suc n + i))
  where
    nothing_there : {X : Type 0} (i : ℕ) → slice_get {X = X} [] i ≡ None
    nothing_there zero = refl
    nothing_there (suc i) = refl
slice_get-drop_at {X} (x ∷ xs) (suc n) i = slice_get-drop_at xs n i ∙ ap (λ (k : ℕ). slice_get (x ∷ xs) k) (further n i)
  where
    further : (n i : ℕ) → suc (n + i) ≡ suc n + i
    further n i = omega arith

pub again : (es : Expressions) → expressions_of (expression_list es) ≡ es
again no_expressions = refl
again (more_expressions e es) = ap (λ (others : Expressions). more_expressions e others) (again es)

-- a joined number at size 0
joined_none : (universe : Universe) (first other : ℕ → ℕ) → first 0 * other 0 ≡ 0 → joined universe first other 0 ≡ 0
joined_none universe first other none = joined_more (ways universe 0) first other 0 0 ∙ product _ _ none
  where
    product : (w x : ℕ) → x ≡ 0 → 0 + w * x ≡ 0
    product w x none = subst (λ (k : ℕ). 0 + w * k ≡ 0) (sym none) (omega arith)

module _ (checked : Checked) (marks : List Bool) (layers : List Layer) (told : AreTold checked marks layers) (node : ℕ) (arguments : Expressions)
    (marked : IsMarked marks node) (at : node_at checked.rules node ≡ Some (expr.Prod arguments)) where
  in_rules : (earlier later : List Expression) → earlier ++ later ≡ expression_list arguments → IsIn (expr.Prod (expressions_of (earlier ++ later))) (all_nodes checked.rules)
  in_rules earlier later whole =
      subst (λ (es : Expressions). IsIn (expr.Prod es) (all_nodes checked.rules)) (sym (ap expressions_of whole ∙ again arguments)) (in_nodes checked.rules node _ at)

  -- without a structure of size 0 of one of the arguments there is none of all of them
  none_of_zero : (earlier later : List Expression) (j : ℕ) (e : Expression) → earlier ++ later ≡ expression_list arguments → slice_get later j ≡ Some e → number (grammar checked) e 0 ≡ 0
      → number (grammar checked) (expr.Prod (expressions_of later)) 0 ≡ 0
  none_of_zero earlier [] j e whole there none = absurd (cc)
  none_of_zero earlier (first ∷ later) zero e whole there none =
      let same : e ≡ first = cc in
      recur.prod (grammar checked) earlier first later 0 told.is_checked.spec told.is_checked.well_founded (in_rules earlier (first ∷ later) whole)
      ∙ joined_none checked.universe (number (grammar checked) first) (number (grammar checked) (expr.Prod (expressions_of later)))
      (subst (λ (k : ℕ). k * number (grammar checked) (expr.Prod (expressions_of later)) 0 ≡ 0) (sym (ap (λ (f : Expression). number (grammar checked) f 0) (sym same) ∙ none)) (omega arith))
  none_of_zero earlier (first ∷ later) (suc j) e whole there none =
      let rest : number (grammar checked) (expr.Prod (expressions_of later)) 0 ≡ 0 = none_of_zero (earlier ++ first ∷ []) later j e (append_assoc earlier (first ∷ []) later ∙ whole) there none in
      recur.prod (grammar checked) earlier first later 0 told.is_checked.spec told.is_checked.well_founded (in_rules earlier (first ∷ later) whole)
      ∙ joined_none checked.universe (number (grammar checked) first) (number (grammar checked) (expr.Prod (expressions_of later))) (subst (λ (k : ℕ). number (grammar checked) first 0 * k ≡ 0) (sym rest) (omega arith))

  -- from place k on
  from_place : (k : ℕ) → take k (expression_list arguments) ++ drop k (expression_list arguments) ≡ expression_list arguments
  from_place k = take-append-drop k (expression_list arguments)

  prod_is : (k m : ℕ) (e : Expression) → slice_get (expression_list arguments) k ≡ Some e
      → number (grammar checked) (expr.Prod (expressions_of (drop k (expression_list arguments)))) m
      ≡ joined checked.universe (number (grammar checked) e) (number (grammar checked) (expr.Prod (expressions_of (drop (k + 1) (expression_list arguments))))) m
  prod_is k m e there =
      ap (λ (es : List Expression). number (grammar checked) (expr.Prod (expressions_of es)) m) (drop_at (expression_list arguments) k e there)
      ∙ recur.prod (grammar checked) (take k (expression_list arguments)) e (drop (k + 1) (expression_list arguments)) m told.is_checked.spec told.is_checked.well_founded
      (in_rules (take k (expression_list arguments)) (e ∷ drop (k + 1) (expression_list arguments))
      (ap (λ (es : List Expression). take k (expression_list arguments) ++ es) (sym (drop_at (expression_list arguments) k e there)) ∙ from_place k))

  -- the argument at a child
  argument_there : (k child : ℕ) → node_at checked.rules child ≡ slice_get (arguments_at checked.rules node) k → k < length (expression_list arguments)
      → (e : Expression) × (slice_get (expression_list arguments) k ≡ Some e) × (node_at checked.rules child ≡ Some e)
  argument_there k child same within =
      let found = slice_some (expression_list arguments) k within in
      (found.0, found.1, same ∙ ap (λ (some : Option Expression). slice_get (option_map_or arguments_of some []) k) at ∙ found.1)

  children_here : children_at checked.rules node ≡ children_of node (expr.Prod arguments)
  children_here = ap (λ (some : Option Expression). option_map_or (children_of node) some []) at

  pub child_marked : (k child : ℕ) → slice_get (children_at checked.rules node) k ≡ Some child → IsMarked marks child
  child_marked k child there = told.closed node child (expr.Prod arguments) marked at (subst (λ (all : List ℕ). IsIn child all) children_here (is_in_at (children_at checked.rules node) k child there))
    where
      is_in_at : (all : List ℕ) (k child : ℕ) → slice_get all k ≡ Some child → IsIn child all
      is_in_at [] k child at = absurd (cc)
      is_in_at (first ∷ all) zero child at = let same : child ≡ first = cc in inl same
      is_in_at (first ∷ all) (suc k) child at = inr (is_in_at all k child at)

-- of the places from i on below n, one is such, or none is
later_or_none : (zeros : ℕ → Bool) (i n : ℕ) → ((k : ℕ) × (i ≤ k) × (k < i + n) × (zeros k ≡ true)) ⊎ ((k : ℕ) → i ≤ k → k < i + n → zeros k ≡ false)
later_or_none zeros i zero = inr (λ k low high. absurd (omega arith))
later_or_none zeros i (suc n) = by (zeros (i + n)) refl (later_or_none zeros i n)
  where
    by : (b : Bool) → zeros (i + n) ≡ b → ((k : ℕ) × (i ≤ k) × (k < i + n) × (zeros k ≡ true)) ⊎ ((k : ℕ) → i ≤ k → k < i + n → zeros k ≡ false)
        → ((k : ℕ) × (i ≤ k) × (k < i + suc n) × (zeros k ≡ true)) ⊎ ((k : ℕ) → i ≤ k → k < i + suc n → zeros k ≡ false)
    by true here before = inl (i + n, omega arith, omega arith, here)
    by false here (inl found) = inl (found.0, found.1, omega arith, found.3)
    by false here (inr none) = inr (λ k low high. elim (cases_lt k (i + n)) [
      | inl below ↦ none k low below
      | inr past ↦ let same : k ≡ i + n = omega arith in ap zeros same ∙ here
    ])

module _ (checked : Checked) (marks : List Bool) (layers : List Layer) (told : AreTold checked marks layers) (node : ℕ) (arguments : Expressions)
    (marked : IsMarked marks node) (at : node_at checked.rules node ≡ Some (expr.Prod arguments)) (m : ℕ) (zeros : ℕ → Bool) (filled : length layers ≡ m) where
  -- what stands at index k among the numbers of the Prod
  value_at : (k d : ℕ) → k < length (expression_list arguments)
      → unwrap_or (slice_get (values (numbers_at (grammar checked) (expr.Prod arguments) d)) k) 0 ≡ number (grammar checked) (expr.Prod (expressions_of (drop k (expression_list arguments)))) d
  value_at zero d within = ap (λ (es : Expressions). number (grammar checked) (expr.Prod es) d) (sym (again arguments))
  value_at (suc j) d within =
      ap (λ (found : Option ℕ). unwrap_or found 0) (ap (slice_get (values (numbers_at (grammar checked) (expr.Prod arguments) d))) (back j) ∙ suffix_value (grammar checked) arguments d (suc (suc j)) (omega arith) (omega arith))
      ∙ ap (λ (k : ℕ). number (grammar checked) (expr.Prod (expressions_of (drop k (expression_list arguments)))) d) (sym (back j))
    where
      back : (j : ℕ) → suc j ≡ suc (suc j) - 1
      back j = omega arith

  -- the column for the next step
  pub others_step : (k : ℕ) (sum : Option ℕ) (others : List (Option ℕ)) → k < length (expression_list arguments) → others ≡ column layers node k ++ sum ∷ []
      → (NoneBelow zeros k → Tells sum (number (grammar checked) (expr.Prod (expressions_of (drop k (expression_list arguments)))) m)) → OthersTold (grammar checked) arguments m zeros k others
  others_step k sum others within same sum_told = record {
    for_each = ap (λ (all : List (Option ℕ)). length all) same ∙ length_column layers node k sum ∙ ap (λ (n : ℕ). n + 1) filled;
    each = λ d one low there may. here d one low (subst (λ (all : List (Option ℕ)). slice_get all d ≡ Some one) same there) may (cases_lt d m);
  }
    where
      here : (d : ℕ) (one : Option ℕ) → d ≤ m → slice_get (column layers node k ++ sum ∷ []) d ≡ Some one → (d < m) ⊎ NoneBelow zeros k → (d < m) ⊎ (m ≤ d)
          → Tells one (number (grammar checked) (expr.Prod (expressions_of (drop k (expression_list arguments)))) d)
      here d one low there may (inl below) =
          tells_by one _ _ (value_at k d within) (entry_told checked marks layers told node (expr.Prod arguments) marked at k sum d one (omega (arith, filled)) there)
      here d one low there (inl below) (inr past) = absurd (omega arith)
      here d one low there (inr before) (inr past) =
          let end : d ≡ m = omega arith in
          let is : one ≡ sum = last_entry layers node k sum d one (end ∙ sym filled) there in
          subst (λ (o : Option ℕ). Tells o (number (grammar checked) (expr.Prod (expressions_of (drop k (expression_list arguments)))) d)) (sym is)
          (tells_by sum _ _ (ap (number (grammar checked) (expr.Prod (expressions_of (drop k (expression_list arguments))))) (sym end)) (sum_told before))

  -- behind the last argument
  pub others_first : (others : List (Option ℕ)) → IsNothing m others → OthersTold (grammar checked) arguments m zeros (length (expression_list arguments)) others
  others_first others nothing = record {
    for_each = nothing.for_each;
    each = λ d one low there may. tells_by one _ _ (sym (ap (λ (es : List Expression). number (grammar checked) (expr.Prod (expressions_of es)) d) none ∙ recur.no_components (grammar checked) d)) (nothing.each d one there);
  }
    where
      none : drop (length (expression_list arguments)) (expression_list arguments) ≡ []
      none = nil_from_length (drop (length (expression_list arguments)) (expression_list arguments)) (omega (arith, length-drop (length (expression_list arguments)) (expression_list arguments)))

  -- the column before the first step
  pub others_behind : (k : ℕ) (rows : List Layer) (others : List (Option ℕ)) → rows ≡ layers → k < length (expression_list arguments) → others ≡ column rows node k ++ Some 0 ∷ []
      → (k < length (expression_list arguments) → NoneBelow zeros k → ⊥) → OthersTold (grammar checked) arguments m zeros k others
  others_behind k rows others same within is such =
      others_step k (Some 0) others within (is ∙ ap (λ (some : List Layer). column some node k ++ Some 0 ∷ []) same) (λ none. absurd (such within none))

module _ (checked : Checked) (marks : List Bool) (layers : List Layer) (told : AreTold checked marks layers) (node : ℕ) (arguments : Expressions)
    (marked : IsMarked marks node) (at : node_at checked.rules node ≡ Some (expr.Prod arguments)) (m : ℕ) (zeros : ℕ → Bool) (filled : length layers ≡ m)
    (now : List (Option ℕ)) (known : ArgumentsTold (grammar checked) arguments (children_at checked.rules node) now m zeros) where
  -- of which place k stands before place i alone, with the later ones
  step_products : (k child : ℕ) (e : Expression) (current : Option ℕ) (firsts others : List (Option ℕ)) → slice_get (expression_list arguments) k ≡ Some e
      → slice_get (children_at checked.rules node) k ≡ Some child → node_at checked.rules child ≡ Some e → slice_get now child ≡ Some current
      → firsts ≡ column layers child 0 ++ current ∷ [] → OthersTold (grammar checked) arguments m zeros (k + 1) others → NoneBelow zeros k
      → ProductsTold firsts others (number (grammar checked) e) (number (grammar checked) (expr.Prod (expressions_of (drop (k + 1) (expression_list arguments))))) m
  step_products k child e current firsts others there child_is child_at now_at first_is later before d one two within one_at two_at =
      by (cases_lt d m) (cases_lt 0 d) (zeros k) refl (later_or_none zeros (k + 1) (length (expression_list arguments)))
    where
      first_at : slice_get (column layers child 0 ++ current ∷ []) d ≡ Some one
      first_at = subst (λ (all : List (Option ℕ)). slice_get all d ≡ Some one) first_is one_at

      one_below : d < m → Tells one (number (grammar checked) e d)
      one_below below = entry_told checked marks layers told child e (child_marked checked marks layers told node arguments marked at k child child_is) child_at 0 current d one (omega (arith, filled)) first_at

      one_now : d ≡ m → NoneBut zeros k ⊎ ((m ≡ 0) × (zeros k ≡ true)) → Tells one (number (grammar checked) e d)
      one_now same may =
          let is : one ≡ current = last_entry layers child 0 current d one (same ∙ sym filled) first_at in
          let here : Tells current (number (grammar checked) e m) = known.told k child e current there child_is now_at may in
          subst (λ (o : Option ℕ). Tells o (number (grammar checked) e d)) (sym is) (tells_by current _ _ (ap (number (grammar checked) e) (sym same)) here)

      two_told : (0 < d) ⊎ (zeros k ≡ false) → Tells two (number (grammar checked) (expr.Prod (expressions_of (drop (k + 1) (expression_list arguments)))) (m - d))
      two_told may = later.each (m - d) two (omega arith) two_at (elim may [
        | inl some ↦ inl (omega (arith, some, within))
        | inr none ↦ inr (λ other below. elim (cases_lt other k) [ inl earlier ↦ before other earlier | inr past ↦ let same : other ≡ k = omega arith in ap zeros same ∙ none ])
      ])

      none_here : zeros k ≡ true → d ≡ 0 → number (grammar checked) e d ≡ 0
      none_here is zero_size = ap (number (grammar checked) e) zero_size ∙ known.zeros k e there is

      none_later : d ≡ m → (other : ℕ) × (k + 1 ≤ other) × (other < k + 1 + length (expression_list arguments)) × (zeros other ≡ true)
          → number (grammar checked) (expr.Prod (expressions_of (drop (k + 1) (expression_list arguments)))) (m - d) ≡ 0
      none_later same found =
          let place = slice_some (expression_list arguments) found.0 (known.within found.0 found.3) in
          let far : k + 1 + (found.0 - (k + 1)) ≡ found.0 = omega (arith, found.1) in
          let there_later : slice_get (drop (k + 1) (expression_list arguments)) (found.0 - (k + 1)) ≡ Some place.0 =
          slice_get-drop_at (expression_list arguments) (k + 1) (found.0 - (k + 1)) ∙ ap (slice_get (expression_list arguments)) far ∙ place.1 in
          let none : m - d ≡ 0 = omega (arith, same) in
          ap (number (grammar checked) (expr.Prod (expressions_of (drop (k + 1) (expression_list arguments))))) none
          ∙ none_of_zero checked marks layers told node arguments marked at (take (k + 1) (expression_list arguments)) (drop (k + 1) (expression_list arguments)) (found.0 - (k + 1)) place.0
          (take-append-drop (k + 1) (expression_list arguments)) there_later (known.zeros found.0 place.0 place.1 found.3)

      but : NoneBelow zeros k → ((other : ℕ) → k + 1 ≤ other → other < k + 1 + length (expression_list arguments) → zeros other ≡ false) → NoneBut zeros k
      but early late other differs = here (cases_lt other k) (cases_lt other (k + 1 + length (expression_list arguments))) (zeros other) refl
        where
          here : (other < k) ⊎ (k ≤ other) → (other < k + 1 + length (expression_list arguments)) ⊎ (k + 1 + length (expression_list arguments) ≤ other) → (b : Bool) → zeros other ≡ b → b ≡ false
          here (inl below) far b is = sym is ∙ early other below
          here (inr above) (inl near) b is = sym is ∙ late other (above_it above) near
            where
              above_it : k ≤ other → k + 1 ≤ other
              above_it le = elim (cases_lt k other) [ inl less ↦ omega arith | inr past ↦ absurd (differs (omega arith)) ]
          here (inr above) (inr past) true is = absurd (omega (arith, known.within other is))
          here (inr above) (inr past) false is = refl

      first_none : Tells one (number (grammar checked) e d) → number (grammar checked) e d ≡ 0
          → ProductTold one two (number (grammar checked) e d) (number (grammar checked) (expr.Prod (expressions_of (drop (k + 1) (expression_list arguments)))) (m - d))
      first_none is none = inr (inl (told_zero one _ is none), subst (λ (x : ℕ). x * number (grammar checked) (expr.Prod (expressions_of (drop (k + 1) (expression_list arguments)))) (m - d) ≡ 0) (sym none) (omega arith))

      second_none : Tells two (number (grammar checked) (expr.Prod (expressions_of (drop (k + 1) (expression_list arguments)))) (m - d))
          → number (grammar checked) (expr.Prod (expressions_of (drop (k + 1) (expression_list arguments)))) (m - d) ≡ 0
          → ProductTold one two (number (grammar checked) e d) (number (grammar checked) (expr.Prod (expressions_of (drop (k + 1) (expression_list arguments)))) (m - d))
      second_none is none = inr (inr (told_zero two _ is none), subst (λ (x : ℕ). number (grammar checked) e d * x ≡ 0) (sym none) (omega arith))

      by : (d < m) ⊎ (m ≤ d) → (0 < d) ⊎ (d ≤ 0) → (b : Bool) → zeros k ≡ b
          → ((other : ℕ) × (k + 1 ≤ other) × (other < k + 1 + length (expression_list arguments)) × (zeros other ≡ true)) ⊎ ((other : ℕ) → k + 1 ≤ other → other < k + 1 + length (expression_list arguments) → zeros other ≡ false)
          → ProductTold one two (number (grammar checked) e d) (number (grammar checked) (expr.Prod (expressions_of (drop (k + 1) (expression_list arguments)))) (m - d))
      by (inl below) (inl some) b is late = inl (one_below below, two_told (inl some))
      by (inl below) (inr none) true is late = first_none (one_below below) (none_here is (omega arith))
      by (inl below) (inr none) false is late = inl (one_below below, two_told (inr is))
      by (inr past) (inl some) b is (inl found) = second_none (two_told (inl some)) (none_later (omega arith) found)
      by (inr past) (inl some) b is (inr clear) = inl (one_now (omega arith) (inl (but before clear)), two_told (inl some))
      by (inr past) (inr none) true is late = first_none (one_now (omega arith) (inr (omega arith, is))) (none_here is (omega arith))
      by (inr past) (inr none) false is (inl found) = second_none (two_told (inr is)) (none_later (omega arith) found)
      by (inr past) (inr none) false is (inr clear) = inl (one_now (omega arith) (inl (but before clear)), two_told (inr is))

  -- the number from place k on, where none of the earlier ones is such
  suffix_told : (k child : ℕ) (current sum : Option ℕ) (firsts others : List (Option ℕ)) (universe : Universe) → k < length (expression_list arguments)
      → slice_get (children_at checked.rules node) k ≡ Some child → node_at checked.rules child ≡ slice_get (arguments_at checked.rules node) k → slice_get now child ≡ Some current
      → firsts ≡ column layers child 0 ++ current ∷ [] → OthersTold (grammar checked) arguments m zeros (k + 1) others → universe ≡ checked.universe
      → ((first other : ℕ → ℕ) → ProductsTold firsts others first other m → Tells sum (joined universe first other m)) → NoneBelow zeros k
      → Tells sum (number (grammar checked) (expr.Prod (expressions_of (drop k (expression_list arguments)))) m)
  suffix_told k child current sum firsts others universe within child_is child_at now_at first_is later same joined_told before =
      let there = argument_there checked marks layers told node arguments marked at k child child_at within in
      let e = there.0 in
      let products = step_products k child e current firsts others there.1 child_is there.2 now_at first_is later before in
      tells_by sum _ _ (sym (prod_is checked marks layers told node arguments marked at k m e there.1))
      (subst (λ (u : Universe). Tells sum (joined u (number (grammar checked) e) (number (grammar checked) (expr.Prod (expressions_of (drop (k + 1) (expression_list arguments))))) m)) same
      (joined_told (number (grammar checked) e) (number (grammar checked) (expr.Prod (expressions_of (drop (k + 1) (expression_list arguments))))) products))

  -- one suffix more
  made_step : (k later high : ℕ) (sum : Option ℕ) (made more : List (Option ℕ)) → later + (k + 1) ≡ high → more ≡ made ++ sum ∷ []
      → (NoneBelow zeros k → Tells sum (number (grammar checked) (expr.Prod (expressions_of (drop k (expression_list arguments)))) m)) → SuffixesTold (grammar checked) arguments m zeros high later made
      → SuffixesTold (grammar checked) arguments m zeros high (later + 1) more
  made_step k later high sum made more place pushed sum_told all = record {
    for_each = ap (λ (items : List (Option ℕ)). length items) pushed ∙ length_push made sum ∙ ap (λ (n : ℕ). n + 1) all.for_each;
    each = λ p s one whole there before. here p s one whole before (pushed_at made sum p one (subst (λ (items : List (Option ℕ)). slice_get items p ≡ Some one) pushed there));
  }
    where
      here : (p s : ℕ) (one : Option ℕ) → p + s ≡ high → NoneBelow zeros (s - 1) → (slice_get made p ≡ Some one) ⊎ ((p ≡ length made) × (one ≡ sum))
          → Tells one (suffix_number (grammar checked) (expression_list arguments) s m)
      here p s one whole before (inl earlier) = all.each p s one whole earlier before
      here p s one whole before (inr last) =
          let index : s - 1 ≡ k = omega (arith, last.0, all.for_each, place, whole) in
          let first : NoneBelow zeros k = subst (λ (n : ℕ). NoneBelow zeros n) index before in
          subst (λ (o : Option ℕ). Tells o (suffix_number (grammar checked) (expression_list arguments) s m)) (sym last.1)
          (tells_by sum _ _ (ap (λ (n : ℕ). number (grammar checked) (expr.Prod (expressions_of (drop n (expression_list arguments)))) m) (sym index)) (sum_told first))

  -- a step of the loop over the arguments from number high down
  pub suffixes_step : (high later i child : ℕ) (current sum : Option ℕ) (rows : List Layer) (firsts others next made more : List (Option ℕ)) (universe : Universe)
      → high ≤ length (expression_list arguments) → later < high → i ≡ high - later → rows ≡ layers
      → slice_get (children_at checked.rules node) (i - 1) ≡ Some child → node_at checked.rules child ≡ slice_get (arguments_at checked.rules node) (i - 1) → slice_get now child ≡ Some current
      → firsts ≡ column rows child 0 ++ current ∷ [] → next ≡ column rows node (i - 1) ++ sum ∷ [] → universe ≡ checked.universe → more ≡ made ++ sum ∷ []
      → ((first other : ℕ → ℕ) → ProductsTold firsts others first other m → Tells sum (joined universe first other m))
      → OthersTold (grammar checked) arguments m zeros (high - later) others × SuffixesTold (grammar checked) arguments m zeros high later made
      → OthersTold (grammar checked) arguments m zeros (high - (later + 1)) next × SuffixesTold (grammar checked) arguments m zeros high (later + 1) more
  suffixes_step high later i child current sum rows firsts others next made more universe most within place same child_is child_at now_at first_is next_is in_universe pushed joined_told before =
      let index : high - (later + 1) ≡ i - 1 = omega arith in
      let from : high - later ≡ i - 1 + 1 = omega arith in
      let sum_told : NoneBelow zeros (i - 1) → Tells sum (number (grammar checked) (expr.Prod (expressions_of (drop (i - 1) (expression_list arguments)))) m) =
      suffix_told (i - 1) child current sum firsts others universe (omega arith) child_is child_at now_at (first_is ∙ ap (λ (some : List Layer). column some child 0 ++ current ∷ []) same)
      (subst (λ (n : ℕ). OthersTold (grammar checked) arguments m zeros n others) from before.0) in_universe joined_told in (
        subst (λ (n : ℕ). OthersTold (grammar checked) arguments m zeros n next) (sym index)
            (others_step checked marks layers told node arguments marked at m zeros filled (i - 1) sum next (omega arith) (next_is ∙ ap (λ (some : List Layer). column some node (i - 1) ++ sum ∷ []) same) sum_told),
        made_step (i - 1) later high sum made more (omega arith) pushed sum_told before.1,
      )

-- before the first step nothing is made
pub made_first : (g : Grammar) (arguments : Expressions) (m : ℕ) (zeros : ℕ → Bool) (high : ℕ) → SuffixesTold g arguments m zeros high 0 []
made_first g arguments m zeros high = record { for_each = refl; each = λ p s one whole there before. let wrong : ◌≡◌ {A = Option (Option ℕ)} None (Some one) = there in absurd (cc) }

-- a Prod has as many children as arguments
pub arguments_count : (rules : Rules) (node : ℕ) (arguments : Expressions) → node_at rules node ≡ Some (expr.Prod arguments) → length (children_at rules node) ≡ length (expression_list arguments)
arguments_count rules node arguments at =
    ap (λ (some : Option Expression). length (option_map_or (children_of node) some [])) at ∙ length-children_of node (expr.Prod arguments)

-- a layer has a place for each node
pub layer_room : (checked : Checked) (marks : List Bool) (layers rows : List Layer) → AreTold checked marks layers → rows ≡ layers → (node : ℕ) → node < length (all_nodes checked.rules)
    → (size : ℕ) (layer : Layer) → slice_get rows size ≡ Some layer → node < length layer
layer_room checked marks layers rows told same node within size layer there =
    let of_layer = told.layer_is size layer (subst (λ (some : List Layer). slice_get some size ≡ Some layer) same there) in omega (arith, of_layer.for_each)

pub node_within : (checked : Checked) (marks : List Bool) (layers : List Layer) → AreTold checked marks layers → (node : ℕ) → IsMarked marks node → node < length (all_nodes checked.rules)
node_within checked marks layers told node marked = omega (arith, marked_within marks node marked, told.for_each)

pub column_count : (layers rows : List Layer) (node i m : ℕ) (last : Option ℕ) (items : List (Option ℕ)) → rows ≡ layers → length layers ≡ m → items ≡ column rows node i ++ last ∷ [] → length items ≡ m + 1
column_count layers rows node i m last items same filled is =
    ap (λ (all : List (Option ℕ)). length all) is ∙ length_column rows node i last ∙ ap (λ (all : List Layer). length all + 1) same ∙ ap (λ (n : ℕ). n + 1) filled

-- ---- the first suffixes

-- what an argument needs, by its least size
pub needs_at : (checked : Checked) (children : List ℕ) (k child least : ℕ) → slice_get children k ≡ Some child → slice_get checked.leasts child ≡ Some least → needs_atoms checked children k ≡ nat_le 1 least
needs_at checked children k child least there is =
    ap (λ (found : Option ℕ). nat_le 1 (unwrap_or (option_and_then (slice_get checked.leasts) found) 0)) there ∙ ap (λ (found : Option ℕ). nat_le 1 (unwrap_or found 0)) is

pub needs_some : (checked : Checked) (children : List ℕ) (i child least : ℕ) → slice_get children (i + 1 - 1) ≡ Some child → slice_get checked.leasts child ≡ Some least → 0 < least → needs_atoms checked children i ≡ true
needs_some checked children i child least there is some = needs_at checked children i child least (ap (slice_get children) (back i) ∙ there) is ∙ grind (arith, nat_tests)
  where
    back : (i : ℕ) → i ≡ i + 1 - 1
    back i = omega arith

pub needs_none : (checked : Checked) (children : List ℕ) (i child least : ℕ) → slice_get children (i + 1 - 1) ≡ Some child → slice_get checked.leasts child ≡ Some least → least ≤ 0 → needs_atoms checked children i ≡ false
needs_none checked children i child least there is none = needs_at checked children i child least (ap (slice_get children) (back i) ∙ there) is ∙ grind (arith, nat_tests)
  where
    back : (i : ℕ) → i ≡ i + 1 - 1
    back i = omega arith

-- the first that is such, or none
pub up_to_found : (zeros : ℕ → Bool) (i all : ℕ) → i < all → NoneBelow zeros i → zeros i ≡ true → AreUpToFirst zeros (i + 1) all
up_to_found zeros i all less before here = record {
  within = omega arith;
  some = λ more. omega arith;
  before = λ k below. before k (omega arith);
  last = λ more none. true≢false (sym here ∙ none i (omega arith));
}

pub up_to_all : (zeros : ℕ → Bool) (count all : ℕ) → count ≡ all → NoneBelow zeros count → AreUpToFirst zeros count all
up_to_all zeros count all same none = record {
  within = omega arith;
  some = λ more. omega arith;
  before = λ k below. none k (omega arith);
  last = λ less others. absurd (omega arith);
}

pub none_more : (zeros : ℕ → Bool) (i : ℕ) → NoneBelow zeros i → zeros i ≡ false → NoneBelow zeros (i + 1)
none_more zeros i before here k below = elim (cases_lt k i) [
  | inl less ↦ before k less
  | inr past ↦ let same : k ≡ i = omega arith in ap zeros same ∙ here
]

-- where the arguments stand up to the first that is such, all of them are told
pub firsts_told : (g : Grammar) (arguments : Expressions) (m : ℕ) (zeros : ℕ → Bool) (high all count : ℕ) (made : List (Option ℕ)) → all ≡ length (expression_list arguments) → count ≡ high
    → AreUpToFirst zeros high all → SuffixesTold g arguments m zeros high count made → FirstsTold g arguments m made
firsts_told g arguments m zeros high all count made is same first told = record {
  within = omega (arith, told.for_each, first.within);
  each = λ p s one whole there.
      told.each p s one (omega (arith, told.for_each)) there (λ k below. first.before k (omega (arith, below, slice_get_within made p one there, told.for_each)));
}

pub firsts_none : (g : Grammar) (arguments : Expressions) (m : ℕ) → FirstsTold g arguments m []
firsts_none g arguments m = record { within = omega arith; each = λ p s one whole there. let wrong : ◌≡◌ {A = Option (Option ℕ)} None (Some one) = there in absurd (cc) }

-- the later ones, down to the first that is told, and then the first ones
pub with_firsts : (g : Grammar) (arguments : Expressions) (m : ℕ) (zeros : ℕ → Bool) (high low count : ℕ) (late firsts all : List (Option ℕ)) → SuffixesTold g arguments m zeros high count late → FirstsTold g arguments m firsts
    → count ≡ high - low → low ≡ length firsts → low ≤ high → all ≡ late ++ firsts → SuffixesTold g arguments m zeros high high all
with_firsts g arguments m zeros high low count late firsts all told first same from below whole = subst (λ (items : List (Option ℕ)). SuffixesTold g arguments m zeros high high items) (sym whole) (record {
  for_each = omega (arith, length-append late firsts, told.for_each);
  each = λ p s one place there before. elim (get_either late firsts p one there) [
    | inl early ↦ told.each p s one place early before
    | inr behind ↦ first.each behind.0 s one (omega (arith, behind.1, place, told.for_each)) behind.2
  ];
})
