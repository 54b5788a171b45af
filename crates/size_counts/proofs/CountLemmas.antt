-- The count of a node by those of the nodes below it.
use Rattle.std.proofs.Common.{◌≡◌, ℕ, zero, suc, ◌+◌, ◌-◌, ◌<◌, ◌≤◌, min, Bool, true, false, true≢false, List, [], ◌∷◌, length, map, take, Option, Some, None, slice_get, refl, sym, ap, ◌∙◌, subst, inl, inr, arith, IsTrue}
use Rattle.std.specs.Prelude.{◌&&◌, nat_le, if◌then◌else◌}
use Rattle.std.specs.List.{sum, range_with_len}
use Rattle.std.specs.Option.{option_map, option_map_or, option_and_then}
use Rattle.std.proofs.lemmas.Bool.{cases_lt, leb-true}
use Rattle.std.proofs.lemmas.List.{take_all, nil_from_length}
use Rattle.std.proofs.lemmas.List.FromFn.{sum_by-map-range_with_len_more, length-map-range_with_len}
use Rattle.lists.proofs.Positions.{slice_some}
use Rattle.lists.proofs.Sums.{sum_more}
use Rattle.lists.proofs.RangeSums.{sum_append}
use Rattle.spec_syntax.specs.declared.expr.Card.{Card}
use Rattle.spec_syntax.specs.declared.expr.Kind.{Kind}
use Rattle.spec_syntax.specs.declared.expr.Kind.TheVariants as kinds
use Rattle.spec_syntax.specs.Card.{admits, is_within}
use Rattle.spec_syntax.specs.Expression as expr
use Rattle.spec_syntax.specs.Expression.{Expression, Expressions, expression_list, expressions_of}
use Rattle.spec_syntax.specs.Rules.{Rules, all_nodes, symbol, right_side}
use Rattle.spec_syntax.specs.Grammar.{Grammar}
use Rattle.spec_syntax.specs.Nodes.{node_at, name_at, name_of, card_at, children_at, children_of, arguments_at, arguments_of, below, right_node}
use Rattle.spec_syntax.proofs.NodesLemmas.{in_nodes, length-children_of}
use Rattle.struct_model.specs.Bounded.{number}
use Rattle.well_founded.specs.declared.node.NodeKind.{NodeKind}
use Rattle.well_founded.specs.declared.node.NodeKind.TheVariants as told
use Rattle.well_founded.specs.NodeKinds.{kind_of, container, is_container}
use Rattle.well_founded.specs.SameSize.{is_told_inside}
use Rattle.well_founded.specs.Checked.{Checked, IsChecked, grammar}
use Rattle.listing_laws.specs.Numbers.{one_at}
use Rattle.splits.specs.Capped.{Tells}
use Rattle.listing_laws.specs.ContainersRecur.{of_components}
use Rattle.size_counts.specs.Numbers.{most_components}
use Rattle.size_counts.specs.Components.{of_none}
use Rattle.size_counts.specs.Suffixes.{FirstsTold, AreBegun}
use Rattle.size_counts.specs.Turns.{EachTold, NameTold, LongerTold, word_size}
use Rattle.size_counts.proofs.Law.{recur, counted, containers}
use Rattle.size_counts.proofs.ReachedLemmas.{take_one, told_name}
use Rattle.size_counts.proofs.TableLemmas.{made_at}
use Rattle.size_counts.proofs.ListLemmas.{tells_by, card_same, kind_same, container_there}
use Rattle.size_counts.proofs.Containers.{none_is}
use Rattle.size_counts.proofs.SuffixLemmas.{again}

-- ---- sums

sum_step : {X : Type 0} (f : X → ℕ) (xs : List X) (i : ℕ) (x : X) → slice_get xs i ≡ Some x → sum (map f (take (i + 1) xs)) ≡ sum (map f (take i xs)) + f x
sum_step f xs i x at =
    let whole = ap (λ ys. sum (map f ys)) (take_one xs i x at) ∙ sum_append f (take i xs) (x ∷ []) in
    omega (arith, whole, sum_more (f x) [])

module _ (checked : Checked) (is_checked : IsChecked checked) (node m : ℕ) (now : List (Option ℕ)) where
  -- a Union
  pub union_step : (arguments : Expressions) → node_at checked.rules node ≡ Some (expr.Union arguments) → EachTold (grammar checked) (expression_list arguments) (children_at checked.rules node) now m
      → (i j child : ℕ) (current before after : Option ℕ) → j ≡ i → slice_get (children_at checked.rules node) j ≡ Some child → node_at checked.rules child ≡ slice_get (arguments_at checked.rules node) j
      → child < length (all_nodes checked.rules) → slice_get now child ≡ Some current
      → ((x y : ℕ) → Tells before x → Tells current y → Tells after (x + y)) → Tells before (sum (map (λ e. number (grammar checked) e m) (take i (expression_list arguments))))
      → Tells after (sum (map (λ e. number (grammar checked) e m) (take (i + 1) (expression_list arguments))))
  union_step arguments at each i j child current before after same child_is_j child_at_j within now_at plus told =
      let child_is : slice_get (children_at checked.rules node) i ≡ Some child = subst (λ (k : ℕ). slice_get (children_at checked.rules node) k ≡ Some child) same child_is_j in
      let child_at : node_at checked.rules child ≡ slice_get (arguments_at checked.rules node) i = subst (λ (k : ℕ). node_at checked.rules child ≡ slice_get (arguments_at checked.rules node) k) same child_at_j in
      let found = slice_some (all_nodes checked.rules) child within in
      let there : slice_get (expression_list arguments) i ≡ Some found.0 =
      sym (ap (λ (some : Option Expression). slice_get (option_map_or arguments_of some []) i) at) ∙ sym child_at ∙ found.1 in
      tells_by after _ _ (sym (sum_step (λ (e : Expression). number (grammar checked) e m) (expression_list arguments) i found.0 there))
      (plus _ _ told (each i child found.0 current there child_is now_at))

  pub union_all : (arguments : Expressions) → node_at checked.rules node ≡ Some (expr.Union arguments) → (i : ℕ) (told : Option ℕ) → length (children_at checked.rules node) ≤ i
      → Tells told (sum (map (λ e. number (grammar checked) e m) (take i (expression_list arguments)))) → Tells told (number (grammar checked) (expr.Union arguments) m)
  union_all arguments at i told all so_far =
      let count : length (children_at checked.rules node) ≡ length (expression_list arguments) =
      ap (λ (some : Option Expression). length (option_map_or (children_of node) some [])) at ∙ length-children_of node (expr.Union arguments) in
      tells_by told _ _
      (ap (λ (es : List Expression). sum (map (λ e. number (grammar checked) e m) es)) (take_all i (expression_list arguments) (omega (arith, count)))
      ∙ sym (recur.union (grammar checked) arguments m is_checked.spec is_checked.well_founded (in_nodes checked.rules node _ at)))
      so_far

  -- a container
  module _ (kind : Kind) (element : Expression) (card : Card) (at : node_at checked.rules node ≡ Some (expr.Many kind element card)) where
    abbrev term : ℕ → ℕ
    term c = if admits card c then of_components (grammar checked) kind element c m else 0

    -- as many components as the bound admits are looked at
    pub admitted_looked : (c : ℕ) → admits card c ≡ true → c ≤ m → c ≤ most_components card m
    admitted_looked c is low = by card.high (second (nat_le card.low c) (is_within card.high c) is)
      where
        second : (a b : Bool) → (a && b) ≡ true → b ≡ true
        second true b is = is
        second false b is = absurd (true≢false (sym is))

        by : (high : Option ℕ) → is_within high c ≡ true → c ≤ option_map_or (min m) high m
        by None within = omega arith
        by (Some high) within = omega (arith, leb-true c high within)

    -- the numbers of containers of c components
    pub components_are : (c : ℕ) (read : NodeKind) (found current : Option ℕ) (longer : List (Option ℕ)) → read ≡ container kind → c ≤ most_components card m → LongerTold checked node m longer
        → (c ≡ 0 → Tells found (of_none read m)) → (c ≡ 1 → found ≡ current) → (2 ≤ c → slice_get longer (c - 2) ≡ Some found)
        → (c ≡ 1 → Tells current (number (grammar checked) element m)) → Tells found (of_components (grammar checked) kind element c m)
    components_are zero read found current longer same looked more none one some told =
        tells_by found _ _ (ap (λ (k : NodeKind). of_none k m) same ∙ sym (none_is (grammar checked) element card is_checked.spec is_checked.well_founded kind m (in_nodes checked.rules node _ at))) (none refl)
    components_are (suc zero) read found current longer same looked more none one some told =
        tells_by found _ _ (sym (containers.one (grammar checked) kind element card m is_checked.spec is_checked.well_founded (in_nodes checked.rules node _ at)))
        (subst (λ (o : Option ℕ). Tells o (number (grammar checked) element m)) (sym (one refl)) (told refl))
    components_are (suc (suc c)) read found current longer same looked more none one some told =
        let all = more kind element card at in
        all.each (suc (suc c) - 2) _ found (some (omega arith))
        (made_at (λ (k : ℕ). of_components (grammar checked) kind element k m) 2 (most_components card m - 1) (suc (suc c) - 2) (omega (arith, looked))
        ∙ ap (λ (k : ℕ). Some (of_components (grammar checked) kind element k m)) (back c))
      where
        back : (c : ℕ) → 2 + (suc (suc c) - 2) ≡ suc (suc c)
        back c = omega arith

    -- there is room among the longer ones
    pub longer_room : (longer : List (Option ℕ)) (c : ℕ) → LongerTold checked node m longer → c ≤ most_components card m → 2 ≤ c → c < length longer + 2
    longer_room longer c more looked two =
        let all = more kind element card at in
        let numbers : length (map (λ (k : ℕ). of_components (grammar checked) kind element k m) (range_with_len 2 (most_components card m - 1))) ≡ most_components card m - 1 =
        length-map-range_with_len (λ (k : ℕ). of_components (grammar checked) kind element k m) 2 (most_components card m - 1) in
        omega (arith, all.for_each, numbers, looked)

    sums : (c : ℕ) → sum (map term (range_with_len 0 (c + 1))) ≡ sum (map term (range_with_len 0 c)) + term c
    sums c = sum_by-map-range_with_len_more (λ (x : ℕ). x) term 0 c c (omega arith)

    -- a step of the loop, where the bound admits so many components
    pub container_taken : (child c : ℕ) (kind_read : NodeKind) (read : Card) (current before found after sum_now : Option ℕ) (longer : List (Option ℕ))
        → (admits card 1 ≡ true → EachTold (grammar checked) (element ∷ []) (children_at checked.rules node) now m) → option_map kind_of (node_at checked.rules node) ≡ Some kind_read
        → slice_get (children_at checked.rules node) 0 ≡ Some child → slice_get now child ≡ Some current → card_at checked.rules node ≡ Some read → admits read c ≡ true → c ≤ m → LongerTold checked node m longer
        → (c ≡ 0 → Tells found (of_none kind_read m)) → (c ≡ 1 → found ≡ current) → (2 ≤ c → slice_get longer (c - 2) ≡ Some found)
        → ((x y : ℕ) → Tells before x → Tells found y → Tells after (x + y)) → sum_now ≡ after
        → Tells before (sum (map (λ c. if admits card c then of_components (grammar checked) kind element c m else 0) (range_with_len 0 c)))
        → Tells sum_now (sum (map (λ c. if admits card c then of_components (grammar checked) kind element c m else 0) (range_with_len 0 (c + 1))))
    container_taken child c kind_read read current before found after sum_now longer each kind_is child_is now_at card_is is low more none one some plus same so_far =
        let admitted_c : admits card c ≡ true = subst (λ (k : Card). admits k c ≡ true) (card_same (node_at checked.rules node) kind element card read at card_is) is in
        let current_told : c ≡ 1 → Tells current (number (grammar checked) element m) = λ one_is. each (ap (admits card) (sym one_is) ∙ admitted_c) 0 child element current refl child_is now_at in
        let found_told =
        components_are c kind_read found current longer (kind_same (node_at checked.rules node) kind element card kind_read at kind_is) (admitted_looked c admitted_c low) more none one some current_told in
        subst (λ (o : Option ℕ). Tells o (sum (map (λ c. if admits card c then of_components (grammar checked) kind element c m else 0) (range_with_len 0 (c + 1))))) (sym same)
        (tells_by after _ _
        (ap (λ (n : ℕ). sum (map term (range_with_len 0 c)) + n) (sym (ap (λ (b : Bool). if b then of_components (grammar checked) kind element c m else 0) admitted_c)) ∙ sym (sums c)) (plus _ _ so_far found_told))

    pub container_passed : (c : ℕ) (read : Card) (before sum_now : Option ℕ) → card_at checked.rules node ≡ Some read → admits read c ≡ false → sum_now ≡ before
        → Tells before (sum (map (λ c. if admits card c then of_components (grammar checked) kind element c m else 0) (range_with_len 0 c)))
        → Tells sum_now (sum (map (λ c. if admits card c then of_components (grammar checked) kind element c m else 0) (range_with_len 0 (c + 1))))
    container_passed c read before sum_now card_is is same so_far =
        let refused : admits card c ≡ false = subst (λ (k : Card). admits k c ≡ false) (card_same (node_at checked.rules node) kind element card read at card_is) is in
        let none : term c ≡ 0 = ap (λ (b : Bool). if b then of_components (grammar checked) kind element c m else 0) refused in
        subst (λ (o : Option ℕ). Tells o (sum (map (λ c. if admits card c then of_components (grammar checked) kind element c m else 0) (range_with_len 0 (c + 1))))) (sym same)
        (tells_by before _ _ (let e : sum (map term (range_with_len 0 c)) ≡ sum (map term (range_with_len 0 (c + 1))) = omega (arith, sums c, none) in e) so_far)

    pub container_all : (c : ℕ) (told : Option ℕ) → c ≡ m + 1 → Tells told (sum (map (λ c. if admits card c then of_components (grammar checked) kind element c m else 0) (range_with_len 0 c)))
        → Tells told (number (grammar checked) (expr.Many kind element card) m)
    container_all c told same so_far =
        tells_by told _ _
        (ap (λ (n : ℕ). sum (map term (range_with_len 0 n))) same
        ∙ sym (counted.by_components (grammar checked) kind element card m is_checked.spec is_checked.well_founded (in_nodes checked.rules node _ at)))
        so_far

-- ---- a Prod, from its first suffixes

pub prod_found : (found : Option Expression) → option_map kind_of found ≡ Some told.Prod → (arguments : Expressions) × (found ≡ Some (expr.Prod arguments))
prod_found None is = absurd (cc)
prod_found (Some expr.Epsilon) is = absurd (cc)
prod_found (Some expr.Atom) is = absurd (cc)
prod_found (Some (expr.Name name)) is = absurd (cc)
prod_found (Some (expr.Union es)) is = absurd (cc)
prod_found (Some (expr.Prod es)) is = (es, refl)
prod_found (Some (expr.Many kinds.Sequence e card)) is = absurd (cc)
prod_found (Some (expr.Many kinds.Set e card)) is = absurd (cc)
prod_found (Some (expr.Many kinds.PowerSet e card)) is = absurd (cc)
prod_found (Some (expr.Many kinds.Cycle e card)) is = absurd (cc)

pub prod_empty : (g : Grammar) (arguments : Expressions) (m : ℕ) (firsts : List (Option ℕ)) (told : Option ℕ) → AreBegun arguments firsts → length firsts ≡ 0 → Tells told (one_at 0 m) → Tells told (number g (expr.Prod arguments) m)
prod_empty g arguments m firsts told begun short is =
    let none : expression_list arguments ≡ [] = nil_from_length (expression_list arguments) (elim (cases_lt 0 (length (expression_list arguments))) [ inl some ↦ absurd (omega (arith, begun some, short)) | inr over ↦ omega (arith, over) ]) in
    tells_by told _ _ (sym (ap (λ (es : Expressions). number g (expr.Prod es) m) (sym (again arguments) ∙ ap expressions_of none) ∙ recur.no_components g m)) is

pub prod_last : (g : Grammar) (arguments : Expressions) (m : ℕ) (firsts : List (Option ℕ)) (told : Option ℕ) (p : ℕ) → FirstsTold g arguments m firsts → 0 < length firsts → p ≡ length firsts - 1
    → slice_get firsts p ≡ Some told → Tells told (number g (expr.Prod arguments) m)
prod_last g arguments m firsts told p all some last there =
    tells_by told _ _ (ap (λ (es : Expressions). number g (expr.Prod es) m) (again arguments)) (all.each p 1 told (omega (arith, last, some)) there)

-- ---- names

-- of a word, the number is 1 at its size
word_number : (checked : Checked) (e : Expression) (m size : ℕ) → word_size (kind_of e) ≡ Some size → number (grammar checked) e m ≡ one_at size m
word_number checked expr.Epsilon m size is = let same : 0 ≡ size = cc in recur.epsilon (grammar checked) m ∙ ap (λ (k : ℕ). one_at k m) same
word_number checked expr.Atom m size is = let same : 1 ≡ size = cc in recur.atom (grammar checked) m ∙ ap (λ (k : ℕ). one_at k m) same
word_number checked (expr.Name name) m size is = absurd (cc)
word_number checked (expr.Union es) m size is = absurd (cc)
word_number checked (expr.Prod es) m size is = absurd (cc)
word_number checked (expr.Many kinds.Sequence e card) m size is = absurd (cc)
word_number checked (expr.Many kinds.Set e card) m size is = absurd (cc)
word_number checked (expr.Many kinds.PowerSet e card) m size is = absurd (cc)
word_number checked (expr.Many kinds.Cycle e card) m size is = absurd (cc)

no_word : (e : Expression) → word_size (kind_of e) ≡ None → IsTrue (is_told_inside e)
no_word expr.Epsilon is = absurd (cc)
no_word expr.Atom is = absurd (cc)
no_word (expr.Name name) is = refl
no_word (expr.Union es) is = refl
no_word (expr.Prod es) is = refl
no_word (expr.Many kind e card) is = refl

module _ (checked : Checked) (is_checked : IsChecked checked) (node m sym_number right : ℕ) (e : Expression) (at : node_at checked.rules node ≡ Some e)
    (is : option_map kind_of (node_at checked.rules node) ≡ Some told.Rule) (named : option_and_then (symbol checked.rules) (name_at checked.rules node) ≡ Some sym_number)
    (right_is : right ≡ right_node checked.rules sym_number) (right_at : node_at checked.rules right ≡ right_side checked.rules sym_number) (within : right < length (all_nodes checked.rules)) where
  name_of_it : (e : Expression) → kind_of e ≡ told.Rule → option_and_then (symbol checked.rules) (name_of e) ≡ Some sym_number → (f : Expression) → right_side checked.rules sym_number ≡ Some f
      → number (grammar checked) e m ≡ number (grammar checked) f m
  name_of_it expr.Epsilon is named f side = absurd (cc)
  name_of_it expr.Atom is named f side = absurd (cc)
  name_of_it (expr.Name name) is named f side = recur.name (grammar checked) name sym_number f m is_checked.spec is_checked.well_founded named side
  name_of_it (expr.Union es) is named f side = absurd (cc)
  name_of_it (expr.Prod es) is named f side = absurd (cc)
  name_of_it (expr.Many kinds.Sequence e card) is named f side = absurd (cc)
  name_of_it (expr.Many kinds.Set e card) is named f side = absurd (cc)
  name_of_it (expr.Many kinds.PowerSet e card) is named f side = absurd (cc)
  name_of_it (expr.Many kinds.Cycle e card) is named f side = absurd (cc)

  found : (f : Expression) × (node_at checked.rules right ≡ Some f)
  found = slice_some (all_nodes checked.rules) right within

  same_number : number (grammar checked) e m ≡ number (grammar checked) found.0 m
  same_number =
      name_of_it e (let here : Some (kind_of e) ≡ Some told.Rule = sym (ap (option_map kind_of) at) ∙ is in cc)
      (subst (λ (some : Option Expression). option_and_then (symbol checked.rules) (option_and_then name_of some) ≡ Some sym_number) at named) found.0 (sym right_at ∙ found.1)

  kind_found : (kind : NodeKind) → option_map kind_of (node_at checked.rules right) ≡ Some kind → kind_of found.0 ≡ kind
  kind_found kind is = let here : Some (kind_of found.0) ≡ Some kind = sym (ap (option_map kind_of) found.1) ∙ is in cc

  pub name_word : (kind : NodeKind) (size : ℕ) (told : Option ℕ) → option_map kind_of (node_at checked.rules right) ≡ Some kind → word_size kind ≡ Some size → Tells told (one_at size m)
      → Tells told (number (grammar checked) e m)
  name_word kind size told is_kind word is_told =
      tells_by told _ _ (sym (same_number ∙ word_number checked found.0 m size (ap word_size (kind_found kind is_kind) ∙ word))) is_told

  pub name_other : (kind : NodeKind) (now : List (Option ℕ)) (told : Option ℕ) → option_map kind_of (node_at checked.rules right) ≡ Some kind → word_size kind ≡ None → NameTold checked node e now m
      → slice_get now right ≡ Some told → Tells told (number (grammar checked) e m)
  name_other kind now told is_kind other known there =
      tells_by told _ _ (sym same_number) (known right found.0 told (ap (λ (all : List ℕ). slice_get all 0) below_is_right) found.1 (no_word found.0 (ap word_size (kind_found kind is_kind) ∙ other)) there)
    where
      below_is_right : below checked.rules node e ≡ right ∷ []
      below_is_right = sym (told_name checked.rules node sym_number right is named right_is e at)

-- of a container whose kind, element and bound are not named
pub longer_there : (checked : Checked) → IsChecked checked → (node m c : ℕ) (now longer : List (Option ℕ)) (read : Card) → option_map is_container (option_map kind_of (node_at checked.rules node)) ≡ Some true
    → card_at checked.rules node ≡ Some read → LongerTold checked node m longer → admits read c ≡ true → c ≤ m → 2 ≤ c → c < length longer + 2
longer_there checked is_checked node m c now longer read is card_is more is_admitted low two =
    let there = container_there (node_at checked.rules node) is in
    longer_room checked is_checked node m now there.0 there.1 there.2 there.3 longer c more
    (admitted_looked checked is_checked node m now there.0 there.1 there.2 there.3 c
    (subst (λ (k : Card). admits k c ≡ true) (card_same (node_at checked.rules node) there.0 there.1 there.2 read there.3 card_is) is_admitted) low) two

-- and for the rows
pub longer_within : (checked : Checked) → IsChecked checked → (node m c : ℕ) (now longer : List (Option ℕ)) (read : Card) → option_map is_container (option_map kind_of (node_at checked.rules node)) ≡ Some true
    → card_at checked.rules node ≡ Some read → LongerTold checked node m longer → c ≤ most_components read m → 2 ≤ c → c < length longer + 2
longer_within checked is_checked node m c now longer read is card_is more looked two =
    let there = container_there (node_at checked.rules node) is in
    longer_room checked is_checked node m now there.0 there.1 there.2 there.3 longer c more
    (subst (λ (k : Card). c ≤ most_components k m) (card_same (node_at checked.rules node) there.0 there.1 there.2 read there.3 card_is) looked) two

-- ---- what a node is

pub kind_here : (rules : Rules) (n : ℕ) (e : Expression) (kind : NodeKind) → node_at rules n ≡ Some e → option_map kind_of (node_at rules n) ≡ Some kind → kind_of e ≡ kind
kind_here rules n e kind at is = let here : Some (kind_of e) ≡ Some kind = sym (ap (option_map kind_of) at) ∙ is in cc

pub read_container : (rules : Rules) (n : ℕ) (kind : NodeKind) → option_map kind_of (node_at rules n) ≡ Some kind → is_container kind ≡ true → option_map is_container (option_map kind_of (node_at rules n)) ≡ Some true
read_container rules n kind at is = ap (option_map is_container) at ∙ ap Some is

pub word_count : (checked : Checked) (node m size : ℕ) (e : Expression) (kind : NodeKind) (told : Option ℕ) → node_at checked.rules node ≡ Some e → option_map kind_of (node_at checked.rules node) ≡ Some kind
    → word_size kind ≡ Some size → Tells told (one_at size m) → Tells told (number (grammar checked) e m)
word_count checked node m size e kind told at is word is_told =
    tells_by told _ _ (sym (word_number checked e m size (ap word_size (kind_here checked.rules node e kind at is) ∙ word))) is_told

pub union_there : (e : Expression) → kind_of e ≡ told.Union → (es : Expressions) × (e ≡ expr.Union es)
union_there expr.Epsilon is = absurd (cc)
union_there expr.Atom is = absurd (cc)
union_there (expr.Name name) is = absurd (cc)
union_there (expr.Union es) is = (es, refl)
union_there (expr.Prod es) is = absurd (cc)
union_there (expr.Many kinds.Sequence e card) is = absurd (cc)
union_there (expr.Many kinds.Set e card) is = absurd (cc)
union_there (expr.Many kinds.PowerSet e card) is = absurd (cc)
union_there (expr.Many kinds.Cycle e card) is = absurd (cc)

pub prod_there : (e : Expression) → kind_of e ≡ told.Prod → (es : Expressions) × (e ≡ expr.Prod es)
prod_there expr.Epsilon is = absurd (cc)
prod_there expr.Atom is = absurd (cc)
prod_there (expr.Name name) is = absurd (cc)
prod_there (expr.Union es) is = absurd (cc)
prod_there (expr.Prod es) is = (es, refl)
prod_there (expr.Many kinds.Sequence e card) is = absurd (cc)
prod_there (expr.Many kinds.Set e card) is = absurd (cc)
prod_there (expr.Many kinds.PowerSet e card) is = absurd (cc)
prod_there (expr.Many kinds.Cycle e card) is = absurd (cc)
