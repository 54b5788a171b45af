-- The numbers of structures of a size, by the numbers of those inside.
use Rattle.std.proofs.Common.{◌≡◌, ℕ, zero, suc, ◌+◌, ◌-◌, ◌*◌, ◌<◌, ◌≤◌, Bool, true, false, ◌&&◌, nat_le, List, [], ◌∷◌, ◌++◌, map, length, length-append, refl, sym, ap, ◌∙◌, subst, arith, true≢false, Some}
use Rattle.std.specs.Prelude.{if◌then◌else◌, IsTrue}
use Rattle.std.specs.List.{sum, range_with_len}
use Rattle.std.proofs.lemmas.Bool.Decides.{nat_tests}
use Rattle.std.proofs.lemmas.List.{length-map, append_assoc}
use Rattle.spec_syntax.specs.declared.statement.Universe.{Universe}
use Rattle.spec_syntax.specs.declared.statement.Universe.TheVariants.{Labelled, Unlabelled}
use Rattle.spec_syntax.specs.declared.expr.Card.{Card}
use Rattle.spec_syntax.specs.declared.expr.Kind.{Kind}
use Rattle.spec_syntax.specs.declared.expr.Kind.TheVariants as kind
use Rattle.spec_syntax.specs.Card.{admits}
use Rattle.spec_syntax.specs.Expression as expr
use Rattle.spec_syntax.specs.Expression.{Expression, Expressions, no_expressions, expressions_of, expression_list}
use Rattle.spec_syntax.specs.Rules.{symbol, right_side, all_nodes, is_spec}
use Rattle.spec_syntax.specs.Grammar.{Grammar}
use Rattle.lists.specs.Enumeration.{IsIn}
use Rattle.lists.proofs.FlatMaps.{left_out}
use Rattle.lists.proofs.Places.{is_empty}
use Rattle.lists.proofs.Sums.{sum_more}
use Rattle.lists.proofs.RangeSums.{sum_same, sum_none, sum_map, length_made, sum_first}
use Rattle.struct_model.specs.declared.tree.Form5.TheVariants as form
use Rattle.struct_model.specs.Structure.{Structure, Alt, Tup, no_parts}
use Rattle.struct_model.specs.Membership.{supply, is_supply}
use Rattle.struct_model.specs.Bounded.{bounds, bounded, up_to_height, listing, number}
use Rattle.struct_model.specs.Listing.{IsOne}
use Rattle.struct_model.proofs.SupplyLaws.{supply_is, supply_size, supply_rises}
use Rattle.well_founded.specs.Sizes.{IsLeast}
use Rattle.well_founded.specs.WellFounded.{IsWellFounded}
use Rattle.splits.specs.Splits.{Split, splits}
use Rattle.splits.specs.Parts.{has_length}
use Rattle.splits.proofs.SplitLaws.{splits_are}
use Rattle.splits.proofs.SplitSums.{shared}
use Rattle.splits.proofs.SplitSupplies.{split_length, split_supplies}
use Rattle.listing_laws.specs.Lister.{list_epsilon, list_atom, list_no_components, alternatives, each_before, by_splits, by_parts, after_one, admits_some, product, sequence, named}
use Rattle.listing_laws.specs.Recursion.{components_on, repeated_on}
use Rattle.listing_laws.specs.Relabelled.{relabelled}
use Rattle.listing_laws.specs.Laws.{IsListing, IsNeverEmpty}
use Rattle.listing_laws.specs.Numbers.{joined, exactly, one_at, admitted, NumbersRecur}
use Rattle.listing_laws.proofs.Listed.{listing_sound, listed_size, none_below}
use Rattle.listing_laws.proofs.BuildingUp.{list_within, in_part_lists}
use Rattle.listing_laws.proofs.Equations.{prod_is_listed}
use Rattle.listing_laws.proofs.Joined.{at_other, supply_shared, joined_same, joined_none, joined_sum, joined_where, joined_empty}
use Rattle.spec_syntax.proofs.ExpressionLemmas.{list_of}
use Rattle.listing_laws.proofs.Ranked.{child_at, element_full}
use Rattle.listing_laws.proofs.Recursion.{alike, well_founded_is_listed, listings_recur}
use Rattle.listing_laws.proofs.Repeated.{admits-after, admits_one}
use Rattle.listing_laws.proofs.WellFoundedListed.{listing_from}

-- ---- lengths

no_labels : (universe : Universe) → supply universe 0 ≡ []
no_labels Labelled = refl
no_labels Unlabelled = refl

epsilon_length : (u : List ℕ) → length (list_epsilon u) ≡ one_at 0 (length u)
epsilon_length [] = refl
epsilon_length (label ∷ labels) = sym (at_other 0 (suc (length labels)) (λ same. omega arith))

atom_length : (u : List ℕ) → length (list_atom u) ≡ one_at 1 (length u)
atom_length [] = refl
atom_length (label ∷ []) = refl
atom_length (label ∷ other ∷ labels) = sym (at_other 1 (suc (suc (length labels))) (λ same. omega arith))

no_components_length : (u : List ℕ) → length (list_no_components u) ≡ one_at 0 (length u)
no_components_length [] = refl
no_components_length (label ∷ labels) = sym (at_other 0 (suc (length labels)) (λ same. omega arith))

alternatives_length : (k : ℕ) (each : List (List Structure)) → length (alternatives k each) ≡ sum (map length each)
alternatives_length k [] = refl
alternatives_length k (ss ∷ each) =
    omega (
      arith,
      length-append (map (Alt k) ss) (alternatives (k + 1) each),
      length-map ss (Alt k),
      alternatives_length (k + 1) each,
      sum_more (length ss) (map length each),
    )

pub before_length : (firsts : List Structure) (others : List (List Structure)) → length (each_before firsts others) ≡ length firsts * length others
before_length [] others = none (length others)
  where
    none : (n : ℕ) → 0 ≡ 0 * n
    none n = omega arith
before_length (first ∷ firsts) others =
    length-append (map (λ (rest : List Structure). first ∷ rest) others) (each_before firsts others)
    ∙ (λ i. length-map others (λ (rest : List Structure). first ∷ rest) i + before_length firsts others i) ∙ one_more (length firsts) (length others)
  where
    one_more : (k n : ℕ) → n + k * n ≡ suc k * n
    one_more k n = grind arith

-- where nothing is listed on no label, a part without a label gives nothing
pub all_parts : (first : List ℕ → List Structure) (others : List ℕ → List (List Structure)) (u : List ℕ) → ((v : List ℕ) → length v ≡ 0 → first v ≡ [])
    → by_parts 1 (length u) first others u ≡ by_splits first others u
all_parts first others u none = sym (left_out (λ (split : Split). each_before (first split.part) (others split.rest)) (has_length 1 (length u)) (splits u) nothing)
  where
    shorter : (n high : ℕ) → n ≤ high → (nat_le 1 n && nat_le n high) ≡ false → n ≡ 0
    shorter n high h left = grind (arith, nat_tests)

    nothing : (split : Split) → IsIn split (splits u) → has_length 1 (length u) split ≡ false → each_before (first split.part) (others split.rest) ≡ []
    nothing split within left =
        let total : length split.part + length split.rest ≡ length u = split_length u split within in
        ap (λ (firsts : List Structure). each_before firsts (others split.rest)) (none split.part (shorter (length split.part) (length u) (omega arith) left))

-- where the listings on a supply have lengths by its size alone, the lists of components have the number of pairs
splits_length : (universe : Universe) (first : List ℕ → List Structure) (others : List ℕ → List (List Structure)) (f h : ℕ → ℕ) (n : ℕ)
    → ((u : List ℕ) → is_supply universe u ≡ true → length (first u) ≡ f (length u))
    → ((u : List ℕ) → is_supply universe u ≡ true → length (others u) ≡ h (length u))
    → length (by_splits first others (supply universe n)) ≡ joined universe f h n
splits_length universe first others f h n of_first of_others =
    let u : List ℕ = supply universe n in
    length_made (λ (split : Split). each_before (first split.part) (others split.rest)) (splits u)
    ∙ sum_same (λ (split : Split). length (each_before (first split.part) (others split.rest))) (shared f h) (splits u) on_split
    ∙ supply_shared universe f h n
  where
    on_split : (split : Split) → IsIn split (splits (supply universe n)) → length (each_before (first split.part) (others split.rest)) ≡ f (length split.part) * h (length split.rest)
    on_split split there =
        let both : (is_supply universe split.part ≡ true) × (is_supply universe split.rest ≡ true)
        = split_supplies universe (supply universe n) (supply_is universe n) split
        ((splits_are (supply universe n) (supply_rises universe (supply universe n) (supply_is universe n))).sound split there) in
        before_length (first split.part) (others split.rest) ∙ (λ i. of_first split.part both.0 i * of_others split.rest both.1 i)

-- ---- bounds of so many components

pub one_less : (c : ℕ) → after_one (exactly (suc c)) ≡ exactly c
one_less c = ap exactly (less c)
  where
    less : (c : ℕ) → suc c - 1 ≡ c
    less c = omega arith

pub admits_suc : (c : ℕ) → nat_le 1 (suc c) ≡ true
admits_suc c = grind (arith, nat_tests)

pub admits_none : (c : ℕ) → (nat_le (suc c) 0 && nat_le 0 (suc c)) ≡ false
admits_none c = grind (arith, nat_tests)

-- ---- words

module _ (g : Grammar) where
  epsilon : (n : ℕ) → number g expr.Epsilon n ≡ one_at 0 n
  epsilon n =
      ap length (listings_recur.epsilon g (supply g.universe n) (supply_is g.universe n)) ∙ epsilon_length (supply g.universe n) ∙ ap (one_at 0) (supply_size g.universe n)

  atom : (n : ℕ) → number g expr.Atom n ≡ one_at 1 n
  atom n =
      ap length (listings_recur.atom g (supply g.universe n) (supply_is g.universe n)) ∙ atom_length (supply g.universe n) ∙ ap (one_at 1) (supply_size g.universe n)

  some_height : (k total : ℕ) → (k + 2) * (total + 2) ≡ suc ((k + 2) * (total + 2) - 1)
  some_height k total = let some : 0 < (k + 2) * (total + 2) = grind arith in omega arith

  empty_within : (u : List ℕ) (s : Structure) → IsOne g (expr.Prod no_expressions) u s → IsIn s (bounded (bounds g u))
  empty_within u (Tup form.Prod no_parts) one =
      subst (λ (h : ℕ). IsIn (Tup form.Prod no_parts) (up_to_height (bounds g u) h)) (sym (some_height (length u) (length (all_nodes g.rules))))
      (list_within (bounds g u) ((bounds g u).height - 1) form.Prod no_parts
      (in_part_lists (bounds g u).width (up_to_height (bounds g u) ((bounds g u).height - 1)) no_parts tt (omega arith)))
  empty_within u s one = absurd (true≢false (sym one.0))

  no_components : (n : ℕ) → number g (expr.Prod no_expressions) n ≡ one_at 0 n
  no_components n =
      let u : List ℕ = supply g.universe n in
      ap length (sym ((listing_from g (expr.Prod no_expressions) empty_within).only u (map product (list_no_components u)) (supply_is g.universe n) (prod_is_listed.empty g u)))
      ∙ length-map (list_no_components u) product ∙ no_components_length u ∙ ap (one_at 0) (supply_size g.universe n)

  -- on each supply there are as many as on the first labels
  pub number_on : (e : Expression) (u : List ℕ) → is_supply g.universe u ≡ true → IsListing g e → length (listing g e u) ≡ number g e (length u)
  number_on e u supplied is_listing = ap length (alike g e u supplied is_listing) ∙ length-map (listing g e (supply g.universe (length u))) (relabelled u)

  below_least : (e : Expression) (least n : ℕ) → IsLeast g e least → n < least → number g e n ≡ 0
  below_least e least n is_least less = ap length (none_below g e least (supply g.universe n) is_least (subst (λ (k : ℕ). k < least) (sym (supply_size g.universe n)) less))

  pub none_of_no_size : (e : Expression) (u : List ℕ) → IsNeverEmpty g e → length u ≡ 0 → listing g e u ≡ []
  none_of_no_size e u full none = is_empty (listing g e u) (λ s there. full s (listing_sound g e u s there).0 (listed_size g e u s there ∙ none))

module _ (g : Grammar) (spec : IsTrue (is_spec g.rules)) (founded : IsWellFounded g) where
  -- ---- names, Union and Prod

  name : (name : List ℕ) (k : ℕ) (right : Expression) (n : ℕ) → symbol g.rules name ≡ Some k → right_side g.rules k ≡ Some right → number g (expr.Name name) n ≡ number g right n
  name called k right n numbered sided =
      ap length (listings_recur.name g called k right (supply g.universe n) spec founded numbered sided (supply_is g.universe n))
      ∙ length-map (listing g right (supply g.universe n)) (named k)

  union : (es : Expressions) (n : ℕ) → IsIn (expr.Union es) (all_nodes g.rules) → number g (expr.Union es) n ≡ sum (map (λ e. number g e n) (expression_list es))
  union es n there =
      let u : List ℕ = supply g.universe n in
      ap length (listings_recur.union g es u spec founded there (supply_is g.universe n)) ∙ alternatives_length 1 (map (λ e. listing g e u) (expression_list es))
      ∙ sum_map length (λ e. listing g e u) (expression_list es)

  components_length : (earlier later : List Expression) (u : List ℕ) → IsIn (expr.Prod (expressions_of (earlier ++ later))) (all_nodes g.rules) → is_supply g.universe u ≡ true
      → length (listing g (expr.Prod (expressions_of later)) u) ≡ length (components_on g (expressions_of later) u)
  components_length earlier later u there supplied =
      ap length (listings_recur.prod g earlier later u spec founded there supplied) ∙ length-map (components_on g (expressions_of later) u) product

  prod : (earlier : List Expression) (e : Expression) (later : List Expression) (n : ℕ) → IsIn (expr.Prod (expressions_of (earlier ++ e ∷ later))) (all_nodes g.rules)
      → IsListing g e
      → number g (expr.Prod (expressions_of (e ∷ later))) n ≡ joined g.universe (number g e) (number g (expr.Prod (expressions_of later))) n
  prod earlier e later n there is_listing =
      components_length earlier (e ∷ later) (supply g.universe n) there (supply_is g.universe n)
      ∙ splits_length g.universe (listing g e) (components_on g (expressions_of later)) (number g e) (number g (expr.Prod (expressions_of later))) n
      (λ u supplied. number_on g e u supplied is_listing)
      (λ u supplied. sym (components_length (earlier ++ e ∷ []) later u behind supplied)
      ∙ number_on g (expr.Prod (expressions_of later)) u supplied (well_founded_is_listed.suffixes g (earlier ++ e ∷ []) later spec founded behind))
    where
      behind : IsIn (expr.Prod (expressions_of ((earlier ++ e ∷ []) ++ later))) (all_nodes g.rules)
      behind = subst (λ (es : List Expression). IsIn (expr.Prod (expressions_of es)) (all_nodes g.rules)) (sym (append_assoc earlier (e ∷ []) later)) there

  element : (kind : Kind) (e : Expression) (card : Card) → IsIn (expr.Many kind e card) (all_nodes g.rules) → number g e 0 ≡ 0
  element kind e card there =
      ap length (none_of_no_size g e (supply g.universe 0) (element_full g kind e card founded.no_null_elements there) (supply_size g.universe 0))

  -- ---- Sequences

  module _ (e : Expression) (card : Card) (there : IsIn (expr.Many kind.Sequence e card) (all_nodes g.rules)) (is_listing : IsListing g e) where
    abbrev with_bound : Card → ℕ → ℕ
    with_bound other n = number g (expr.Many kind.Sequence e other) n

    repeated_length : (other : Card) (u : List ℕ) → is_supply g.universe u ≡ true → length (listing g (expr.Many kind.Sequence e other) u) ≡ length (repeated_on g e other u)
    repeated_length other u supplied =
        ap length (listings_recur.sequence g e card other u spec founded there supplied) ∙ length-map (repeated_on g e other u) sequence

    repeated_number : (other : Card) (u : List ℕ) → is_supply g.universe u ≡ true → length (repeated_on g e other u) ≡ with_bound other (length u)
    repeated_number other u supplied =
        sym (repeated_length other u supplied)
        ∙ number_on g (expr.Many kind.Sequence e other) u supplied (well_founded_is_listed.containers g kind.Sequence kind.Sequence e card other spec founded there)

    on_no_label : (other : Card) → with_bound other 0 ≡ (if admits other 0 then 1 else 0)
    on_no_label other =
        repeated_length other (supply g.universe 0) (supply_is g.universe 0) ∙ ap (λ (u : List ℕ). length (repeated_on g e other u)) (no_labels g.universe) ∙ by (admits other 0)
      where
        by : (b : Bool) → length {A = List Structure} (if b then [] ∷ [] else []) ≡ (if b then 1 else 0)
        by true = refl
        by false = refl

    by_some : (other : Card) (n : ℕ)
        → with_bound other (suc n) ≡ length (if admits_some other then by_parts 1 (length (supply g.universe (suc n))) (listing g e) (repeated_on g e (after_one other)) (supply g.universe (suc n)) else [])
    by_some other n =
        let u : List ℕ = supply g.universe (suc n) in
        let size_is : length u ≡ suc n = supply_size g.universe (suc n) in
        repeated_length other u (supply_is g.universe (suc n)) ∙ ap length (listings_recur.repeated g e other u (omega arith))

    without_some : (other : Card) (n : ℕ) → admits_some other ≡ false → with_bound other (suc n) ≡ 0
    without_some other n none =
        by_some other n
        ∙ ap (λ (b : Bool). length (if b then by_parts 1 (length (supply g.universe (suc n))) (listing g e) (repeated_on g e (after_one other)) (supply g.universe (suc n)) else [])) none

    with_some : (other : Card) (n : ℕ) → admits_some other ≡ true → with_bound other (suc n) ≡ joined g.universe (number g e) (with_bound (after_one other)) (suc n)
    with_some other n some =
        let u : List ℕ = supply g.universe (suc n) in
        by_some other n
        ∙ ap (λ (b : Bool). length (if b then by_parts 1 (length u) (listing g e) (repeated_on g e (after_one other)) u else [])) some
        ∙ ap length (all_parts (listing g e) (repeated_on g e (after_one other)) u
        (λ v none. none_of_no_size g e v (element_full g kind.Sequence e card founded.no_null_elements there) none))
        ∙ splits_length g.universe (listing g e) (repeated_on g e (after_one other)) (number g e) (with_bound (after_one other)) (suc n)
        (λ v supplied. number_on g e v supplied is_listing) (repeated_number (after_one other))

    abbrev with_exactly : ℕ → ℕ → ℕ
    with_exactly c n = with_bound (exactly c) n

    no_lists : (n : ℕ) → with_exactly 0 n ≡ one_at 0 n
    no_lists zero = on_no_label (exactly 0)
    no_lists (suc n) = without_some (exactly 0) n refl ∙ sym (at_other 0 (suc n) (λ same. omega arith))

    -- no pair has an element of size 0
    first_empty : (d k : ℕ) → d ≡ 0 → number g e d * k ≡ 0
    first_empty d k start =
        ap (λ (size : ℕ). number g e size * k) start ∙ ap (λ (firsts : ℕ). firsts * k) (element kind.Sequence e card there) ∙ nothing k
      where
        nothing : (k : ℕ) → 0 * k ≡ 0
        nothing k = omega arith

    lists : (c n : ℕ) → with_exactly (suc c) n ≡ joined g.universe (number g e) (with_exactly c) n
    lists c zero =
        on_no_label (exactly (suc c)) ∙ ap (λ (b : Bool). if b then 1 else 0) (admits_none c)
        ∙ sym (joined_none g.universe (number g e) (with_exactly c) 0 (λ d small. first_empty d (with_exactly c (0 - d)) (omega arith)))
    lists c (suc n) =
        with_some (exactly (suc c)) n (admits_suc c) ∙ ap (λ (other : Card). joined g.universe (number g e) (with_bound other) (suc n)) (one_less c)

    one_list : (n : ℕ) → with_exactly 1 n ≡ number g e n
    one_list n =
        lists 0 n ∙ joined_same g.universe (number g e) (number g e) (with_exactly 0) (one_at 0) n (λ d small. ap (λ (k : ℕ). number g e d * k) (no_lists (n - d)))
        ∙ joined_empty g.universe (number g e) n

    few_more : (c : ℕ) → ((k : ℕ) → k < c → with_exactly c k ≡ 0) → (n : ℕ) → n < suc c → with_exactly (suc c) n ≡ 0
    few_more c fewer n less = lists c n ∙ joined_none g.universe (number g e) (with_exactly c) n pair
      where
        nothing : (k : ℕ) → k * 0 ≡ 0
        nothing k = omega arith

        pair : (d : ℕ) → d ≤ n → number g e d * with_exactly c (n - d) ≡ 0
        pair zero small = first_empty 0 (with_exactly c (n - 0)) refl
        pair (suc d) small = ap (λ (k : ℕ). number g e (suc d) * k) (fewer (n - suc d) (omega arith)) ∙ nothing (number g e (suc d))

    few : (c n : ℕ) → n < c → with_exactly c n ≡ 0
    few zero n less = absurd (omega arith)
    few (suc c) n less = few_more c (few c) n less

    -- the lists with c components, where the bound admits them
    abbrev row : Card → ℕ → ℕ → ℕ
    row other n c = if admits other c then with_exactly c n else 0

    row_none : (other : Card) (n c : ℕ) → with_exactly c n ≡ 0 → row other n c ≡ 0
    row_none other n c none = by (admits other c) (with_exactly c n) none
      where
        by : (b : Bool) (k : ℕ) → k ≡ 0 → (if b then k else 0) ≡ 0
        by true k is_none = is_none
        by false k is_none = refl

    not_admitted : (other : Card) (n c : ℕ) → admits_some other ≡ false → row other n (suc c) ≡ 0
    not_admitted other n c none = by (admits other (suc c)) refl
      where
        by : (b : Bool) → admits other (suc c) ≡ b → (if b then with_exactly (suc c) n else 0) ≡ 0
        by true admitted = absurd (true≢false (sym (admits_one other c admitted) ∙ none))
        by false left = refl

    -- one component first, and then the lists of the others
    row_after : (other : Card) (n c : ℕ) → admits_some other ≡ true → joined g.universe (number g e) (λ k. row (after_one other) k c) n ≡ row other n (suc c)
    row_after other n c some =
        joined_where g.universe (admits (after_one other) c) (number g e) (with_exactly c) n
        ∙ (λ i. if admits-after other c some i then sym (lists c n) i else 0)

    alone : (a b c : ℕ) → b ≡ 0 → a ≡ c → a + b ≡ c
    alone a b c none same = omega arith

    behind : (a b c : ℕ) → a ≡ 0 → c ≡ b → c ≡ a + b
    behind a b c none same = omega arith

    -- a first component, and then the lists of the others by their numbers
    by_first : (other : Card) (n most : ℕ) → ((k : ℕ) → k ≤ n → with_bound (after_one other) k ≡ sum (map (row (after_one other) k) (range_with_len 0 (suc most))))
        → with_bound other (suc n) ≡ sum (map (λ c. row other (suc n) (suc c)) (range_with_len 0 (suc most)))
    by_first other n most shorter = by (admits_some other) refl
      where
        pairs : (d : ℕ) → d ≤ suc n → number g e d * with_bound (after_one other) (suc n - d) ≡ number g e d * sum (map (row (after_one other) (suc n - d)) (range_with_len 0 (suc most)))
        pairs zero small =
            first_empty 0 (with_bound (after_one other) (suc n - 0)) refl
            ∙ sym (first_empty 0 (sum (map (row (after_one other) (suc n - 0)) (range_with_len 0 (suc most)))) refl)
        pairs (suc d) small = ap (λ (k : ℕ). number g e (suc d) * k) (shorter (suc n - suc d) (omega arith))

        by : (b : Bool) → admits_some other ≡ b → with_bound other (suc n) ≡ sum (map (λ c. row other (suc n) (suc c)) (range_with_len 0 (suc most)))
        by true some =
            with_some other n some
            ∙ joined_same g.universe (number g e) (number g e) (with_bound (after_one other)) (λ k. sum (map (row (after_one other) k) (range_with_len 0 (suc most)))) (suc n) pairs
            ∙ joined_sum g.universe (number g e) (λ c k. row (after_one other) k c) (range_with_len 0 (suc most)) (suc n)
            ∙ sum_same (λ c. joined g.universe (number g e) (λ k. row (after_one other) k c) (suc n)) (λ c. row other (suc n) (suc c)) (range_with_len 0 (suc most))
            (λ c within. row_after other (suc n) c some)
        by false none =
            without_some other n none ∙ sym (sum_none (λ c. row other (suc n) (suc c)) (range_with_len 0 (suc most)) (λ c within. not_admitted other (suc n) c none))

    -- by as many numbers of components as one likes, so long as there are no fewer than labels
    all_admitted : (bound : ℕ) (other : Card) (n most : ℕ) → n ≤ bound → n ≤ most → with_bound other n ≡ sum (map (row other n) (range_with_len 0 (suc most)))
    all_admitted bound other zero most low enough =
        sym (sum_first (row other 0) most
        ∙ alone (row other 0 0) (sum (map (λ c. row other 0 (suc c)) (range_with_len 0 most))) (with_bound other 0)
        (sum_none (λ c. row other 0 (suc c)) (range_with_len 0 most) (λ c within. row_none other 0 (suc c) (few (suc c) 0 (omega arith))))
        (ap (λ (k : ℕ). if admits other 0 then k else 0) (no_lists 0) ∙ sym (on_no_label other)))
    all_admitted zero other (suc n) most low enough = absurd (omega arith)
    all_admitted (suc bound) other (suc n) zero low enough = absurd (omega arith)
    all_admitted (suc bound) other (suc n) (suc most) low enough =
        behind (row other (suc n) 0) (sum (map (λ c. row other (suc n) (suc c)) (range_with_len 0 (suc most)))) (with_bound other (suc n))
        (row_none other (suc n) 0 (no_lists (suc n) ∙ at_other 0 (suc n) (λ same. omega arith)))
        (by_first other n most (λ k small. all_admitted bound (after_one other) k most (omega arith) (omega arith)))
        ∙ sym (sum_first (row other (suc n)) (suc most))

    sequences : (n : ℕ) → with_bound card n ≡ admitted card (λ c. with_exactly c n) n
    sequences n = all_admitted n card n n (omega arith) (omega arith) ∙ ap (λ (k : ℕ). sum (map (row card n) (range_with_len 0 k))) (next n)
      where
        next : (n : ℕ) → suc n ≡ n + 1
        next n = omega arith

-- ---- the law

-- an element of a Sequence has a listing
element_listing : (g : Grammar) (e : Expression) (card : Card) → IsTrue (is_spec g.rules) → IsWellFounded g → IsIn (expr.Many kind.Sequence e card) (all_nodes g.rules) → IsListing g e
element_listing g e card spec founded there =
    well_founded_is_listed.nodes g e spec founded (child_at g.rules (expr.Many kind.Sequence e card) [] e [] there refl)

component_listing : (g : Grammar) (earlier : List Expression) (e : Expression) (later : List Expression) → IsTrue (is_spec g.rules) → IsWellFounded g
    → IsIn (expr.Prod (expressions_of (earlier ++ e ∷ later))) (all_nodes g.rules) → IsListing g e
component_listing g earlier e later spec founded there =
    well_founded_is_listed.nodes g e spec founded
    (child_at g.rules (expr.Prod (expressions_of (earlier ++ e ∷ later))) earlier e later there (list_of (earlier ++ e ∷ later)))

pub numbers_recur : NumbersRecur
numbers_recur = record {
  epsilon = epsilon;
  atom = atom;
  name = λ g called k right n spec founded numbered sided. name g spec founded called k right n numbered sided;
  union = λ g es n spec founded there. union g spec founded es n there;
  no_components = no_components;
  prod = λ g earlier e later n spec founded there. prod g spec founded earlier e later n there (component_listing g earlier e later spec founded there);
  no_lists = λ g e card n spec founded there. no_lists g spec founded e card there (element_listing g e card spec founded there) n;
  lists = λ g e card c n spec founded there. lists g spec founded e card there (element_listing g e card spec founded there) c n;
  one_list = λ g e card n spec founded there. one_list g spec founded e card there (element_listing g e card spec founded there) n;
  few = λ g e card c n spec founded there. few g spec founded e card there (element_listing g e card spec founded there) c n;
  sequence = λ g e card n spec founded there. sequences g spec founded e card there (element_listing g e card spec founded there) n;
  element = λ g kind e card spec founded there. element g spec founded kind e card there;
  below_least = λ g e least n spec founded there is_least less. below_least g e least n is_least less;
}
