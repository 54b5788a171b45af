-- What is opened, by the listings of nodes and of tails.
use Rattle.std.proofs.Common.{◌≡◌, ◌⊎◌, ℕ, zero, suc, ◌+◌, ◌≤◌, ◌<◌, ◌^◌, Bool, true, false, not, List, [], ◌∷◌, ◌++◌, map, length, All, slice_get, Option, Some, None, refl, sym, ap, ◌∙◌, subst, inl, inr, true≢false, arith}
use Rattle.std.specs.Prelude.{IfSome, IfNone, IsTrue, is_some}
use Rattle.std.specs.Option.{option_and_then}
use Rattle.std.proofs.lemmas.List.{append_assoc, append-nil, length-map}
use Rattle.spec_syntax.specs.Rules.{symbol}
use Rattle.spec_syntax.specs.Nodes.{children_at, name_at, right_node, card_at}
use Rattle.struct_model.specs.declared.tree.Form5.{Form5}
use Rattle.struct_model.specs.Structure.{Structure, Eps, Atom, Named, Alt, Tup, part_list, parts_of, labels_of_parts}
use Rattle.struct_model.specs.Bounded.{listing}
use Rattle.struct_model.specs.Membership.{is_supply, is_of}
use Rattle.struct_model.specs.declared.supplies.Supply.{Supply}
use Rattle.struct_model.specs.SupplyView.{supply_labels, supply_universe, is_in_order}
use Rattle.struct_model.proofs.SupplyLaws.{in_order_is}
use Rattle.splits.specs.Splits.{Split}
use Rattle.splits.specs.WalkView.{Walk, split_into}
use Rattle.lists.specs.Enumeration.{IsIn}
use Rattle.spec_syntax.specs.Expression as expr
use Rattle.spec_syntax.specs.Card.{is_within}
use Rattle.spec_syntax.specs.declared.expr.Card.{Card}
use Rattle.spec_syntax.specs.declared.statement.Universe.TheVariants.{Labelled}
use Rattle.spec_syntax.specs.declared.expr.Kind.{Kind}
use Rattle.spec_syntax.specs.declared.expr.Kind.TheVariants as kind
use Rattle.spec_syntax.specs.Grammar.{Grammar}
use Rattle.spec_syntax.specs.Expression.{Expression}
use Rattle.spec_syntax.specs.Nodes.{node_at, name_of}
use Rattle.spec_syntax.proofs.RulesLemmas.{symbol-within}
use Rattle.well_founded.specs.NodeKinds.{container}
use Rattle.well_founded.specs.Checked.{Checked, IsChecked, grammar}
use Rattle.well_founded.proofs.CheckSteps.{no_undefined}
use Rattle.well_founded.proofs.NodesLaws.{name_node_rule}
use Rattle.well_founded.specs.declared.node.NodeKind.{NodeKind}
use Rattle.well_founded.specs.declared.node.NodeKind.TheVariants as told
use Rattle.listing_laws.specs.Lister.{list_epsilon, list_atom, alternatives, each_before, product, sequence, named}
use Rattle.listing_laws.specs.NodeListing.{HasKind, listing_on, rule_on}
use Rattle.listing_laws.proofs.Components.{list_back}
use Rattle.listing_laws.specs.LeastNodes.{set_lists_on}
use Rattle.listing_laws.proofs.Containers.{no_list}
use Rattle.listing_laws.proofs.KindLemmas.{rule_is, many_is}
use Rattle.listing_laws.proofs.LeastNodes.{labelled_nodes_are_listed}
use Rattle.listing_laws.proofs.Listed.{listing_sound}
use Rattle.listing_laws.proofs.NodeLemmas.{nodes_are_listed, listing_is, kind_at}
use Rattle.size_counts.specs.CountedView.{Counts, IsCounted}
use Rattle.struct_walk.specs.declared.tail.Tail.{Tail}
use Rattle.struct_walk.specs.declared.tail.Cut.{Cut}
use Rattle.struct_walk.specs.declared.later.Later as later
use Rattle.struct_walk.specs.declared.later.Later.{Later}
use Rattle.struct_walk.specs.declared.later.LaterLists as lists
use Rattle.struct_walk.specs.declared.later.LaterLists.{LaterLists}
use Rattle.struct_walk.specs.declared.later.Level.{Level}
use Rattle.struct_walk.specs.Tails.{IsTail, tail_on, on_splits, cut_of, is_end, first_parts, HasFirst, open_lengths}
use Rattle.struct_walk.specs.After.{structures_after, lists_after, parts_after, arguments_behind}
use Rattle.struct_walk.specs.Stands.{IsAsked, IsCut, IsSetOf, CanOpen, LevelStands, ListsStand, PartsStand}
use Rattle.struct_walk.specs.Opened.{Opens, OpensLists, OpensSplit, HasNoArgument}
use Rattle.struct_walk.proofs.Measures.{node_measure, lists_measure, split_measure, lists_down}
use Rattle.struct_walk.proofs.TailLemmas.{listing_number, tail_length, cut_is, tail_cut, tail_end, last_splits, last_first, first_total, first_there, end_number, open_splits, can_open, lists_size}
use Rattle.struct_walk.proofs.TailListings.{cycle_labelled}

-- ---- options

pub some_holds : {X : Type 0} (P : X → Type 0) (o : Option X) (x : X) → o ≡ Some x → IfSome o P → P x
some_holds P o x is holds = subst (λ found. IfSome found P) is holds

pub none_holds : {X : Type 0} (P : Type 0) (o : Option X) → o ≡ None → IfNone o P → P
none_holds P o is holds = subst (λ found. IfNone found P) is holds

-- what the code's test for no value tells
pub no_value : {X : Type 0} (P : Type 0) (o : Option X) (b : Bool) → is_some o ≡ not b → b ≡ true → IfNone o P → P
no_value P None b test is holds = holds
no_value P (Some x) b test is holds = let e : true ≡ false = test ∙ ap not is in absurd (cc)

-- ---- supplies

-- what is asked for is a supply of the universe
pub asked_supply : (counts : Counts) (supply : Supply) → IsAsked counts supply → is_supply counts.checked.universe (supply_labels supply) ≡ true
asked_supply counts supply asked =
    subst (λ universe. is_supply universe (supply_labels supply) ≡ true) asked.universe (in_order_is supply asked.in_order)

-- ---- words

-- one structure alone
pub opens_one : (counts : Counts) (all : List Structure) (s : Structure) → all ≡ s ∷ [] → Opens counts all (later.Nothing, s)
opens_one counts all s is = record { whole = is; stands = tt }

pub epsilon_alone : (u : List ℕ) → 0 < length (list_epsilon u) → list_epsilon u ≡ Eps 0 ∷ []
epsilon_alone [] some = refl
epsilon_alone (label ∷ labels) some = absurd (omega arith)

pub atom_label : (u : List ℕ) → 0 < length (list_atom u) → length u ≡ 1
atom_label [] some = absurd (omega arith)
atom_label (label ∷ []) some = refl
atom_label (label ∷ other ∷ labels) some = absurd (omega arith)

-- ---- names

-- structures that are told inside the rule
twice : (number k : ℕ) → 1 ≤ k → (s : Structure) → named number (named k s) ≡ Named number (named k s)
twice number zero low s = absurd (omega arith)
twice number (suc k) low (Eps zero) = refl
twice number (suc k) low (Eps (suc rule)) = refl
twice number (suc k) low (Atom zero label) = refl
twice number (suc k) low (Atom (suc rule) label) = refl
twice number (suc k) low (Named rule inside) = refl
twice number (suc k) low (Alt argument inside) = refl
twice number (suc k) low (Tup form parts) = refl

module _ {X : Type 0} (number : ℕ) (f : X → Structure) (inside : (x : X) → named number (f x) ≡ Named number (f x)) where
  told_inside : (xs : List X) → map (named number) (map f xs) ≡ map (Named number) (map f xs)
  told_inside [] = refl
  told_inside (x ∷ xs) = λ i. inside x i ∷ told_inside xs i

-- a structure of a container is none of a word
container_told : (g : Grammar) (k : Kind) (e : Expression) (card : Card) (number : ℕ) (s : Structure) → is_of g (expr.Many k e card) s ≡ true → named number s ≡ Named number s
container_told g k e card number (Tup form parts) h = refl
container_told g k e card number (Named rule inside) h = refl
container_told g k e card number (Alt argument inside) h = refl
container_told g k e card number (Eps rule) h = absurd (true≢false (sym h ∙ no_list g k e card (Eps rule) refl))
container_told g k e card number (Atom rule label) h = absurd (true≢false (sym h ∙ no_list g k e card (Atom rule label) refl))

told_each : (number : ℕ) (ss : List Structure) → ((s : Structure) → IsIn s ss → named number s ≡ Named number s) → map (named number) ss ≡ map (Named number) ss
told_each number [] each = refl
told_each number (s ∷ ss) each = λ i. each s (inl refl) i ∷ told_each number ss (λ t there. each t (inr there)) i

told_append : (number : ℕ) (xs ys : List Structure) → map (named number) xs ≡ map (Named number) xs → map (named number) ys ≡ map (Named number) ys
    → map (named number) (xs ++ ys) ≡ map (Named number) (xs ++ ys)
told_append number [] ys first second = second
told_append number (x ∷ xs) ys first second =
    let head : named number x ≡ Named number x = cc in
    let tail : map (named number) xs ≡ map (Named number) xs = cc in
    λ i. head i ∷ told_append number xs ys tail second i

told_alternatives : (number k : ℕ) (sss : List (List Structure)) → map (named number) (alternatives k sss) ≡ map (Named number) (alternatives k sss)
told_alternatives number k [] = refl
told_alternatives number k (ss ∷ sss) =
    told_append number (map (Alt k) ss) (alternatives (k + 1) sss) (told_inside number (Alt k) (λ s. refl) ss) (told_alternatives number (k + 1) sss)

abbrev AreInside : Checked → ℕ → ℕ → List ℕ → Type 0
AreInside checked number node u = map (named number) (listing_on checked node u) ≡ map (Named number) (listing_on checked node u)

module _ (checked : Checked) (ok : IsChecked checked) where
  inside_again : (number node : ℕ) (u : List ℕ) (list : List Structure) → listing_on checked node u ≡ list
      → map (named number) list ≡ map (Named number) list → AreInside checked number node u
  inside_again number node u list is told = ap (map (named number)) is ∙ told ∙ ap (map (Named number)) (sym is)

  name_inside : (number node : ℕ) (u : List ℕ) → is_supply checked.universe u ≡ true → HasKind checked node told.Rule → AreInside checked number node u
  name_inside number node u supplied h =
      let at = kind_at checked node told.Rule h in
      let name = rule_is at.0 at.2 in
      let there : node_at checked.rules node ≡ Some (expr.Name name.0) = at.1 ∙ ap Some name.1 in
      let rule = name_node_rule checked.rules node name.0 (no_undefined checked.rules None ok.well_founded.named) there in
      let found : option_and_then (symbol checked.rules) (name_at checked.rules node) ≡ Some rule.0 =
      ap (λ (e : Option Expression). option_and_then (symbol checked.rules) (option_and_then name_of e)) there ∙ rule.1 in
      inside_again number node u (map (named rule.0) (listing_on checked (right_node checked.rules rule.0) u)) (nodes_are_listed.name checked node rule.0 u ok supplied h found)
      (told_inside number (named rule.0) (twice number rule.0 (symbol-within checked.rules name.0 rule.0 rule.1).0) (listing_on checked (right_node checked.rules rule.0) u))

  container_inside : (k : Kind) (number node : ℕ) (u : List ℕ) → HasKind checked node (container k) → AreInside checked number node u
  container_inside k number node u h =
      let at = kind_at checked node (container k) h in
      let is = many_is k at.0 at.2 in
      inside_again number node u (listing (grammar checked) (expr.Many k is.0 is.1) u) (listing_is checked node (expr.Many k is.0 is.1) u (at.1 ∙ ap Some is.2))
      (told_each number (listing (grammar checked) (expr.Many k is.0 is.1) u) (λ s there.
      container_told (grammar checked) k is.0 is.1 number s (listing_sound (grammar checked) (expr.Many k is.0 is.1) u s there).0))

  -- structures of a right side that is no word are told inside the rule
  pub right_inside : (k : NodeKind) (number node : ℕ) (u : List ℕ) → is_supply checked.universe u ≡ true → HasKind checked node k
      → (k ≡ told.Epsilon → ⊥) → (k ≡ told.Atom → ⊥)
      → AreInside checked number node u
  right_inside told.Epsilon number node u supplied h epsilon atom = absurd (epsilon refl)
  right_inside told.Atom number node u supplied h epsilon atom = absurd (atom refl)
  right_inside told.Rule number node u supplied h epsilon atom = name_inside number node u supplied h
  right_inside told.Union number node u supplied h epsilon atom =
      let arguments : List (List Structure) = map (λ child. listing_on checked child u) (children_at checked.rules node) in
      inside_again number node u (alternatives 1 arguments) (nodes_are_listed.union checked node u ok supplied h) (told_alternatives number 1 arguments)
  right_inside told.Prod number node u supplied h epsilon atom =
      inside_again number node u _ (nodes_are_listed.prod checked node u ok supplied h) (told_inside number product (λ ss. refl) _)
  right_inside told.Sequence number node u supplied h epsilon atom = container_inside kind.Sequence number node u h
  right_inside told.Set number node u supplied h epsilon atom = container_inside kind.Set number node u h
  right_inside told.PowerSet number node u supplied h epsilon atom = container_inside kind.PowerSet number node u h
  right_inside told.Cycle number node u supplied h epsilon atom = container_inside kind.Cycle number node u h

  -- a rule lists what its right side does, each inside the rule
  pub rule_inside : (k : NodeKind) (number : ℕ) (u : List ℕ) → is_supply checked.universe u ≡ true → 1 ≤ number → number ≤ length checked.rules
      → HasKind checked (right_node checked.rules number) k → (k ≡ told.Epsilon → ⊥) → (k ≡ told.Atom → ⊥)
      → rule_on checked number u ≡ map (Named number) (listing_on checked (right_node checked.rules number) u)
  rule_inside k number u supplied low high h epsilon atom =
      nodes_are_listed.rule checked number u ok supplied low high ∙ right_inside k number (right_node checked.rules number) u supplied h epsilon atom

  -- and on a supply of which the rule has a structure the right side has one
  pub right_some : (number : ℕ) (u : List ℕ) → is_supply checked.universe u ≡ true → 1 ≤ number → number ≤ length checked.rules
      → 0 < length (rule_on checked number u)
      → 0 < length (listing_on checked (right_node checked.rules number) u)
  right_some number u supplied low high some =
      omega (
        arith,
        some,
        ap length (nodes_are_listed.rule checked number u ok supplied low high),
        length-map (listing_on checked (right_node checked.rules number) u) (named number),
      )

  -- a word as a right side
  pub rule_epsilon : (number : ℕ) (u : List ℕ) → is_supply checked.universe u ≡ true → 1 ≤ number → number ≤ length checked.rules
      → 0 < length (rule_on checked number u)
      → HasKind checked (right_node checked.rules number) told.Epsilon → rule_on checked number u ≡ Eps number ∷ []
  rule_epsilon number u supplied low high some h =
      let listed = nodes_are_listed.epsilon checked (right_node checked.rules number) u ok supplied h in
      nodes_are_listed.rule checked number u ok supplied low high
      ∙ ap (map (named number)) (listed ∙ epsilon_alone u (subst (λ (ss : List Structure). 0 < length ss) listed (right_some number u supplied low high some)))

  pub rule_label : (number : ℕ) (u : List ℕ) → is_supply checked.universe u ≡ true → 1 ≤ number → number ≤ length checked.rules
      → 0 < length (rule_on checked number u)
      → HasKind checked (right_node checked.rules number) told.Atom → length u ≡ 1
  rule_label number u supplied low high some h =
      atom_label u (subst (λ (ss : List Structure). 0 < length ss) (nodes_are_listed.atom checked (right_node checked.rules number) u ok supplied h)
      (right_some number u supplied low high some))

  pub rule_atom : (number label : ℕ) (u : List ℕ) → is_supply checked.universe u ≡ true → 1 ≤ number → number ≤ length checked.rules → u ≡ label ∷ []
      → HasKind checked (right_node checked.rules number) told.Atom → rule_on checked number u ≡ Atom number label ∷ []
  rule_atom number label u supplied low high alone h =
      nodes_are_listed.rule checked number u ok supplied low high
      ∙ ap (map (named number)) (nodes_are_listed.atom checked (right_node checked.rules number) u ok supplied h ∙ ap list_atom alone)

  -- a name lists what its rule does
  pub name_is_rule : (node number : ℕ) (u : List ℕ) → is_supply checked.universe u ≡ true → HasKind checked node told.Rule → 1 ≤ number
      → number ≤ length checked.rules
      → option_and_then (symbol checked.rules) (name_at checked.rules node) ≡ Some number → listing_on checked node u ≡ rule_on checked number u
  name_is_rule node number u supplied h low high found =
      nodes_are_listed.name checked node number u ok supplied h found ∙ sym (nodes_are_listed.rule checked number u ok supplied low high)

-- a Set of whichever form is its lists of components in that form
pub set_listed : (counts : Counts) (is : IsCounted counts) (supply : Supply) (node element : ℕ) (card : Card) (f : Form5) → IsAsked counts supply → counts.checked.universe ≡ Labelled
    → IsSetOf counts.checked node f → slice_get (children_at counts.checked.rules node) 0 ≡ Some element → card_at counts.checked.rules node ≡ Some card
    → listing_on counts.checked node (supply_labels supply) ≡ map (λ ss. Tup f (parts_of ss)) (set_lists_on counts.checked element card (supply_labels supply))
set_listed counts is supply node element card f asked universe (inl (h, same)) child own =
    labelled_nodes_are_listed.set_node counts.checked node element card (supply_labels supply) is.passed universe (asked_supply counts supply asked) h child own
    ∙ ap (λ (own_form : Form5). map (λ ss. Tup own_form (parts_of ss)) (set_lists_on counts.checked element card (supply_labels supply))) (sym same)
set_listed counts is supply node element card f asked universe (inr (h, same)) child own =
    labelled_nodes_are_listed.power_set_node counts.checked node element card (supply_labels supply) is.passed universe (asked_supply counts supply asked) h child own
    ∙ ap (λ (own_form : Form5). map (λ ss. Tup own_form (parts_of ss)) (set_lists_on counts.checked element card (supply_labels supply))) (sym same)

pub set_kinds : (checked : Checked) (node : ℕ) (f : Form5) → IsSetOf checked node f → HasKind checked node told.Set ⊎ HasKind checked node told.PowerSet
set_kinds checked node f (inl (h, same)) = inl h
set_kinds checked node f (inr (h, same)) = inr h

-- a bound that is the container's own admits no more
pub own_below : (counts : Counts) (node : ℕ) (card own : Card) (c : ℕ) → card_at counts.checked.rules node ≡ Some card → card_at counts.checked.rules node ≡ Some own
    → is_within card.high c ≡ true → is_within own.high c ≡ true
own_below counts node card own c first second within = let same : card ≡ own = options (sym first ∙ second) in subst (λ (b : Card). is_within b.high c ≡ true) same within
  where
    options : Some card ≡ Some own → card ≡ own
    options e = cc

-- where the listing is made of lists or of structures, there are such
pub made_some : {X : Type 0} (f : X → Structure) (xs : List X) (all : List Structure) → all ≡ map f xs → 0 < length all → 0 < length xs
made_some f xs all is some = omega (arith, some, ap length is, length-map xs f)

-- ---- Unions

module _ (counts : Counts) (is : IsCounted counts) (node : ℕ) (supply : Supply) (union : HasKind counts.checked node told.Union) (asked : IsAsked counts supply) where
  -- a Union has the structures of all its arguments
  pub by_arguments : listing_on counts.checked node (supply_labels supply) ≡ arguments_behind counts.checked node 0 (supply_labels supply)
  by_arguments = nodes_are_listed.union counts.checked node (supply_labels supply) is.passed (asked_supply counts supply asked) union

  -- an argument has a structure
  pub some_argument : (n : ℕ) → n ≡ length (supply_labels supply) → 0 < length (listing_on counts.checked node (supply_labels supply)) → HasNoArgument counts.checked node 0 n → ⊥
  some_argument n long some none =
      let nothing : listing_on counts.checked node (supply_labels supply) ≡ [] = by_arguments ∙ none (supply_labels supply) (asked_supply counts supply asked) (sym long) in
      omega (arith, some, ap length nothing)

-- ---- lists of components

-- the first list of the first split, and those that come later
first_of_split : (checked : Checked) (cut : Cut) (first : Structure) (firsts : List Structure) (added : List Structure) (others : List (List Structure)) (left : List Split)
    → each_before (first ∷ firsts) (added ∷ others) ++ on_splits checked cut left
    ≡ (first ∷ added) ∷ map (λ rest. first ∷ rest) others ++ (each_before firsts (added ∷ others) ++ on_splits checked cut left)
first_of_split checked cut first firsts added others left =
    append_assoc (map (λ rest. first ∷ rest) (added ∷ others)) (each_before firsts (added ∷ others)) (on_splits checked cut left)

module _ (counts : Counts) (is : IsCounted counts) (tail : Tail) (supply : Supply) (stands : IsTail counts tail) (asked : IsAsked counts supply)
    (some : 0 < length (tail_on counts.checked tail (supply_labels supply))) where
  abbrev labels : List ℕ
  labels = supply_labels supply

  supplied : is_supply counts.checked.universe (supply_labels supply) ≡ true
  supplied = asked_supply counts supply asked

  -- where no list has a component
  pub lists_end : (before : List Structure) → cut_of counts.checked tail (length (supply_labels supply)) ≡ None
      → OpensLists counts (tail_on counts.checked tail (supply_labels supply)) before before lists.Nothing
  lists_end before none = record {
    added = [];
    put = sym (append-nil before);
    whole = tail_end counts is tail labels stands supplied none some;
    stands = refl;
  }

  module _ (cut : Cut) (cuts : cut_of counts.checked tail (length (supply_labels supply)) ≡ Some cut) where
    pub is_cut : IsCut counts cut
    is_cut = cut_is counts is tail (length labels) cut stands cuts

    -- ---- the last component

    module _ (ends : is_end counts.checked cut.behind ≡ true) where
      pub last_whole : map (λ s. s ∷ []) (listing_on counts.checked cut.first (supply_labels supply)) ≡ tail_on counts.checked tail (supply_labels supply)
      last_whole =
          sym (tail_cut counts is tail labels cut stands supplied cuts some ∙ ap (on_splits counts.checked cut) (last_first counts is tail (length labels) cut labels cuts ends)
          ∙ last_splits counts is cut labels is_cut ends)

      pub last_some : 0 < length (listing_on counts.checked cut.first (supply_labels supply))
      last_some =
          omega (arith, some, ap length last_whole, length-map (listing_on counts.checked cut.first (supply_labels supply)) (λ s. s ∷ []))

      pub last_down : node_measure counts.checked cut.first (length (supply_labels supply)) + 1 < lists_measure counts.checked tail (length (supply_labels supply))
      last_down =
          let down = lists_down counts is tail (length labels) (length labels) 0 cut stands cuts (omega arith) (omega (arith, asked.within, is.small))
          (subst (λ (m : ℕ). 0 < m) (tail_length counts is tail labels stands supplied) some)
          (subst (λ (m : ℕ). 0 < m) (listing_number counts.checked is.passed cut.first labels supplied) last_some)
          (end_number counts is cut.behind is_cut.behind ends) in
          omega (arith, down)

    -- ---- splits

    abbrev to_come : List Split
    to_come = first_parts tail (open_lengths counts.checked cut (length labels)) labels

    by_open_splits : tail_on counts.checked tail labels ≡ on_splits counts.checked cut to_come
    by_open_splits = tail_cut counts is tail labels cut stands supplied cuts some ∙ sym (open_splits counts is tail cut labels is_cut supplied)

    -- where the first component has the least label there is one
    pub has_first : HasFirst tail supply
    has_first = first_there counts is tail supply (length labels) cut (asked.universe) refl stands cuts

    -- there is a split
    pub some_split : first_parts tail (open_lengths counts.checked cut (length (supply_labels supply))) (supply_labels supply) ≡ [] → ⊥
    some_split none =
        let nothing : tail_on counts.checked tail labels ≡ [] = by_open_splits ∙ ap (on_splits counts.checked cut) none in
        omega (arith, some, ap length nothing)

    module _ (split : Split) (left : List Split) (whole : first_parts tail (open_lengths counts.checked cut (length (supply_labels supply))) (supply_labels supply) ≡ split ∷ left) where
      all_open : All (CanOpen counts cut) (split ∷ left)
      all_open = subst (All (CanOpen counts cut)) whole (can_open counts is tail cut labels is_cut supplied asked.within)

      first_opens : CanOpen counts cut split
      first_opens = all_open 0 split (omega arith)

      left_open : All (CanOpen counts cut) left
      left_open = λ k d within. all_open (suc k) d (omega arith)

      split_total : length split.part + length split.rest ≡ length (supply_labels supply)
      split_total =
          first_total counts is tail (open_lengths counts.checked cut (length labels)) labels split (subst (λ (ss : List Split). IsIn split ss) (sym whole) (inl refl))

      -- the first of all lists, and those that come later
      first_list : (first : Structure) (firsts : List Structure) (added : List Structure) (others : List (List Structure))
          → listing_on counts.checked cut.first split.part ≡ first ∷ firsts → tail_on counts.checked cut.behind split.rest ≡ added ∷ others
          → tail_on counts.checked tail (supply_labels supply)
          ≡ (first ∷ added) ∷ map (λ rest. first ∷ rest) others ++ (each_before firsts (tail_on counts.checked cut.behind split.rest) ++ on_splits counts.checked cut left)
      first_list first firsts added others each_first each_other =
          by_open_splits
          ∙ ap (on_splits counts.checked cut) whole
          ∙ (λ i. each_before (each_first i) (each_other i) ++ on_splits counts.checked cut left)
          ∙ first_of_split counts.checked cut first firsts added others left
          ∙ ap (λ (ss : List (List Structure)). (first ∷ added) ∷ map (λ rest. first ∷ rest) others ++ (each_before firsts ss ++ on_splits counts.checked cut left)) (sym each_other)

    module _ (part rest : Supply) (left : List Split)
        (whole : first_parts tail (open_lengths counts.checked cut (length (supply_labels supply))) (supply_labels supply) ≡ split_into part rest ∷ left) where
      opening : CanOpen counts cut (split_into part rest)
      opening = first_opens (split_into part rest) left whole

      pub part_asked : IsTrue (is_in_order part) → supply_universe part ≡ supply_universe supply → IsAsked counts part
      part_asked in_order universe = record { in_order = in_order; universe = universe ∙ asked.universe; within = opening.part }

      pub rest_asked : IsTrue (is_in_order rest) → supply_universe rest ≡ supply_universe supply → IsAsked counts rest
      rest_asked in_order universe = record { in_order = in_order; universe = universe ∙ asked.universe; within = opening.rest }

      pub part_some : 0 < length (listing_on counts.checked cut.first (supply_labels part))
      part_some = opening.first

      pub rest_some : 0 < length (tail_on counts.checked cut.behind (supply_labels rest))
      rest_some = opening.others

      pub split_down : IsAsked counts part → IsAsked counts rest
          → split_measure counts.checked cut (length (supply_labels part)) (length (supply_labels rest)) < lists_measure counts.checked tail (length (supply_labels supply))
      split_down of_part of_rest =
          lists_down counts is tail (length labels) (length (supply_labels part)) (length (supply_labels rest)) cut stands cuts (split_total (split_into part rest) left whole)
          (omega (arith, asked.within, is.small))
          (subst (λ (m : ℕ). 0 < m) (tail_length counts is tail labels stands supplied) some)
          (subst (λ (m : ℕ). 0 < m) (listing_number counts.checked is.passed cut.first (supply_labels part) (asked_supply counts part of_part)) opening.first)
          (subst (λ (m : ℕ). 0 < m) (tail_length counts is cut.behind (supply_labels rest) is_cut.behind (asked_supply counts rest of_rest)) opening.others)

      module _ (opened : Later × LaterLists) (others_now : LaterLists) (copied : Supply) (walk : Walk) (level : Level) (before after : List Structure)
          (same_others : others_now ≡ opened.1) (copy : copied ≡ rest) (same_left : walk.left ≡ left)
          (same_level : level ≡ record { cut = cut; rest = copied; splits = walk })
          (opens : OpensSplit counts (listing_on counts.checked cut.first (supply_labels part)) (tail_on counts.checked cut.behind (supply_labels rest)) before after opened) where
        -- the first list and those that come later
        pub parts_whole : tail_on counts.checked tail (supply_labels supply)
            ≡ (opens.first ∷ opens.added) ∷ parts_after counts.checked level opened.0 others_now (opens.first ∷ opens.added)
        parts_whole =
            first_list (split_into part rest) left whole opens.first (structures_after counts.checked opened.0 opens.first) opens.added (lists_after counts.checked opened.1 opens.added)
            opens.each_first opens.each_other
            ∙ (λ i. (opens.first ∷ opens.added)
            ∷ map (λ others. opens.first ∷ others) (lists_after counts.checked (sym same_others i) opens.added)
            ++ (each_before (structures_after counts.checked opened.0 opens.first) (tail_on counts.checked cut.behind (supply_labels (sym copy i)))
            ++ on_splits counts.checked cut (sym same_left i)))
            ∙ ap (λ (l : Level). (opens.first ∷ opens.added) ∷ parts_after counts.checked l opened.0 others_now (opens.first ∷ opens.added)) (sym same_level)

        pub parts_stand : PartsStand counts opened.0 others_now (opens.first ∷ opens.added)
        parts_stand = (
          opens.first_stands,
          subst (λ (l : LaterLists). ListsStand counts l opens.added) (sym same_others) opens.others_stand,
        )

        pub level_stands : walk.universe ≡ supply_universe supply → IsAsked counts rest
            → LevelStands counts level
        level_stands universe of_rest = subst (λ (l : Level). LevelStands counts l) (sym same_level) (record {
          cut = is_cut;
          asked = subst (λ (s : Supply). IsAsked counts s) (sym copy) of_rest;
          some = subst (λ (s : Supply). 0 < length (tail_on counts.checked cut.behind (supply_labels s))) (sym copy) rest_some;
          universe = universe ∙ asked.universe;
          splits = subst (All (CanOpen counts cut)) (sym same_left) (left_open (split_into part rest) left whole);
        })

  -- ---- the structure that has the components

  module _ (form : Form5) (before after : List Structure) (opened now : LaterLists) (none : before ≡ []) (same : now ≡ opened)
      (opens : OpensLists counts (tail_on counts.checked tail (supply_labels supply)) before after opened) where
    put_alone : after ≡ opens.added
    put_alone = opens.put ∙ ap (λ ss. ss ++ opens.added) none

    -- it has few atoms
    pub few_atoms : length (labels_of_parts (parts_of after)) < 2 ^ 32
    few_atoms =
        let there : IsIn opens.added (tail_on counts.checked tail labels) = subst (λ (sss : List (List Structure)). IsIn opens.added sss) (sym opens.whole) (inl refl) in
        omega (
          arith,
          ap (λ ss. length (labels_of_parts (parts_of ss))) put_alone,
          lists_size counts is tail labels opens.added stands supplied there,
          asked.within,
          is.small,
        )

    pub components_open : (p : _) → Opens counts (map (λ ss. Tup form (parts_of ss)) (tail_on counts.checked tail (supply_labels supply))) (later.Components' p now, Tup form (parts_of after))
    components_open p = record {
      whole =
          ap (map (λ ss. Tup form (parts_of ss))) opens.whole
          ∙ (λ i. Tup form (parts_of (sym put_alone i)) ∷ map (λ ss. Tup form (parts_of ss)) (lists_after counts.checked (sym same i) (as_told i)));
      stands = subst (λ (ss : List Structure). ListsStand counts now ss) as_told (subst (λ (l : LaterLists). ListsStand counts l opens.added) (sym same) opens.stands);
    }
      where
        as_told : opens.added ≡ part_list (parts_of after)
        as_told = sym put_alone ∙ sym (list_back after)

-- ---- the last component of a Prod

pub last_opens : (counts : Counts) (all : List Structure) (later : Later) (s : Structure) (before after : List Structure) → Opens counts all (later, s)
    → after ≡ before ++ s ∷ [] → OpensLists counts (map (λ t. t ∷ []) all) before after (lists.Last later)
last_opens counts all later s before after opens put =
    record { added = s ∷ []; put = put; whole = ap (map (λ t. t ∷ [])) opens.whole; stands = (opens.stands, refl) }
