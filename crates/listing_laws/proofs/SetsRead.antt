-- Where each PowerSet is read as Set, so is it in structures, which keep their order, their labels and what stands inside.
use Rattle.std.proofs.Common.{◌≡◌, ℕ, Bool, true, false, not, ◌&&◌, ◌||◌, nat_lt, List, [], ◌∷◌, ◌++◌, map, length, slice_get, option_map, refl, sym, ap, ◌∙◌, subst, true≢false, Less, Equal, Greater, Ordering, nat_cmp}
use Rattle.std.specs.Cmp.Lexicographic.{slice_cmp}
use Rattle.std.specs.Option.{option_map_or}
use Rattle.std.specs.Ordering.{ordering_then, is_lt, is_gt}
use Rattle.std.proofs.lemmas.Bool.{and_parts, and_from}
use Rattle.std.proofs.lemmas.Cmp.{nat_cmp_total, tied_itself}
use Rattle.std.proofs.lemmas.List.{length-map}
use Rattle.std.proofs.lemmas.Option.{same_Some, slice_get-map}
use Rattle.spec_syntax.specs.declared.expr.Card.{Card}
use Rattle.spec_syntax.specs.declared.expr.Kind.TheVariants as kind
use Rattle.spec_syntax.specs.Card.{admits}
use Rattle.spec_syntax.specs.Expression as expr
use Rattle.spec_syntax.specs.Expression.{Expression, Expressions, no_expressions, more_expressions}
use Rattle.spec_syntax.specs.Rules.{right_side}
use Rattle.spec_syntax.specs.Grammar.{Grammar}
use Rattle.struct_model.specs.declared.tree.Form5.{Form5}
use Rattle.struct_model.specs.declared.tree.Form5.TheVariants as form
use Rattle.lists.specs.Ascending.{ascending}
use Rattle.struct_model.specs.Structure.{Structure, Eps, Atom, Named, Alt, Tup, Structures, no_parts, more_parts, part_list, labels, labels_of_parts, size}
use Rattle.struct_model.specs.Order.{form_rank, key_order, order_within, order_of_parts, order, is_sorted, is_strictly_sorted, is_least_rotation}
use Rattle.struct_model.specs.Membership.{is_of, are_of, are_of_each, argument, names, is_epsilon, is_atom}
use Rattle.lists.specs.Enumeration.{IsIn}
use Rattle.struct_model.proofs.KeyOrder.{is_same}
use Rattle.well_founded.specs.Sets.{with_sets, all_with_sets, reading_sets}
use Rattle.well_founded.specs.Sizes.{IsOf}
use Rattle.well_founded.specs.Rank.{StandsAt}
use Rattle.well_founded.proofs.SetsLaws.{symbol_reading, right_reading, argument_reading, epsilon_reading, atom_reading}
use Rattle.lists.proofs.Tests.{held}
use Rattle.well_founded.proofs.LeastLaws.{HasRule, rule_of, names_from}
use Rattle.listing_laws.proofs.Containers.{parts_pass, list_is, no_list, no_product}
use Rattle.lists.proofs.Enumerated.{in_map}
use Rattle.listing_laws.proofs.OrderKept.{EachOne, sorted_kept, least_rotation_kept}

abbrev pub set_form : Form5 → Form5
set_form form.PowerSet = form.Set
set_form form = form

abbrev mutual
  -- the structure with each PowerSet read as Set
  pub in_sets : Structure → Structure
  in_sets (Eps rule) = Eps rule
  in_sets (Atom rule label) = Atom rule label
  in_sets (Named rule inside) = Named rule (in_sets inside)
  in_sets (Alt argument inside) = Alt argument (in_sets inside)
  in_sets (Tup form parts) = Tup (set_form form) (all_in_sets parts)

  pub all_in_sets : Structures → Structures
  all_in_sets no_parts = no_parts
  all_in_sets (more_parts s ss) = more_parts (in_sets s) (all_in_sets ss)

list_in_sets : (ss : Structures) → part_list (all_in_sets ss) ≡ map in_sets (part_list ss)
list_in_sets no_parts = refl
list_in_sets (more_parts s ss) = ap (λ others. in_sets s ∷ others) (list_in_sets ss)

mutual
  pub labels-in_sets : (s : Structure) → labels (in_sets s) ≡ labels s
  labels-in_sets (Eps x) = refl
  labels-in_sets (Atom x l) = refl
  labels-in_sets (Named x s) = labels-in_sets s
  labels-in_sets (Alt k s) = labels-in_sets s
  labels-in_sets (Tup f ss) = labels_of_parts-in_sets ss

  labels_of_parts-in_sets : (ss : Structures) → labels_of_parts (all_in_sets ss) ≡ labels_of_parts ss
  labels_of_parts-in_sets no_parts = refl
  labels_of_parts-in_sets (more_parts s ss) = λ i. labels-in_sets s i ++ labels_of_parts-in_sets ss i

pub size-in_sets : (s : Structure) → size (in_sets s) ≡ size s
size-in_sets s = ap length (labels-in_sets s)

-- what stands inside still does
pub stands_in_sets : (s : Structure) (place : ℕ) (t : Structure) → StandsAt s place t → StandsAt (in_sets s) place (in_sets t)
stands_in_sets (Eps x) place t stands = stands
stands_in_sets (Atom x l) place t stands = stands
stands_in_sets (Named x s) place t stands = (stands.0, ap in_sets stands.1)
stands_in_sets (Alt k s) place t stands = (stands.0, ap in_sets stands.1)
stands_in_sets (Tup form.Prod ss) place t stands =
    ap (λ ts. slice_get ts place) (list_in_sets ss) ∙ slice_get-map in_sets (part_list ss) place ∙ ap (option_map in_sets) stands
stands_in_sets (Tup form.Sequence ss) place t stands = (stands.0, subst (IsIn (in_sets t)) (sym (list_in_sets ss)) (in_map in_sets t (part_list ss) stands.1))
stands_in_sets (Tup form.Set ss) place t stands = (stands.0, subst (IsIn (in_sets t)) (sym (list_in_sets ss)) (in_map in_sets t (part_list ss) stands.1))
stands_in_sets (Tup form.PowerSet ss) place t stands = (stands.0, subst (IsIn (in_sets t)) (sym (list_in_sets ss)) (in_map in_sets t (part_list ss) stands.1))
stands_in_sets (Tup form.Cycle ss) place t stands = (stands.0, subst (IsIn (in_sets t)) (sym (list_in_sets ss)) (in_map in_sets t (part_list ss) stands.1))

-- ---- sorted lists

not_after : (o : Ordering) → is_lt o ≡ true → not (is_gt o) ≡ true
not_after Less h = refl
not_after Equal h = refl
not_after Greater h = absurd (true≢false (sym h))

pub strictly_sorted : (ss : List Structure) → is_strictly_sorted ss ≡ true → is_sorted ss ≡ true
strictly_sorted [] h = refl
strictly_sorted (s ∷ []) h = refl
strictly_sorted (s ∷ t ∷ ss) h = let both = and_parts _ _ h in and_from _ _ (not_after (order s t) both.0) (strictly_sorted (t ∷ ss) both.1)

module _ (g : Grammar) where
  -- ---- the order

  keys_same : (s t : Structure) → key_order (in_sets s) (in_sets t) ≡ key_order s t
  keys_same s t = λ i. slice_cmp nat_cmp (ascending (labels-in_sets s i)) (ascending (labels-in_sets t i))

  then_same : (o a b : Ordering) → (o ≡ Equal → a ≡ b) → ordering_then o a ≡ ordering_then o b
  then_same Less a b h = refl
  then_same Equal a b h = h refl
  then_same Greater a b h = refl

  both_forms : (f h : Form5) (a b : Ordering) → f ≡ h → a ≡ b
      → ordering_then (nat_cmp (form_rank (set_form f)) (form_rank (set_form h))) a ≡ ordering_then (nat_cmp (form_rank f) (form_rank h)) b
  both_forms f h a b same parts =
      ap (λ o. ordering_then o a) (ap (λ (other : Form5). nat_cmp (form_rank (set_form f)) (form_rank (set_form other))) (sym same) ∙ tied_itself nat_cmp_total (form_rank (set_form f)))
      ∙ parts
      ∙ sym (ap (λ o. ordering_then o b) (ap (λ (other : Form5). nat_cmp (form_rank f) (form_rank other)) (sym same) ∙ tied_itself nat_cmp_total (form_rank f)))

  -- the structures inside two of one rule are both of its right side
  record AreInside (s t : Structure) : Type 0 where
    right : Expression
    first : is_of g right s ≡ true
    second : is_of g right t ≡ true

  told : Structure → Expression → Bool
  told s right = not (is_epsilon right || is_atom right) && is_of g right s

  both_inside : (name : List ℕ) (x y : ℕ) (s t : Structure) → x ≡ y → is_of g (expr.Name name) (Named x s) ≡ true → is_of g (expr.Name name) (Named y t) ≡ true → AreInside s t
  unfolding told
  both_inside name x y s t same p q =
      let one = rule_of g name x (told s) p in
      let other = rule_of g name y (told t) q in
      let equal : other.right ≡ one.right = same_Some other.right one.right (sym other.sided ∙ ap (right_side g.rules) (sym same) ∙ one.sided) in
      record {
        right = one.right;
        first = (and_parts _ _ one.holds).1;
        second = subst (λ (e : Expression). is_of g e t ≡ true) equal (and_parts _ _ other.holds).1;
      }

  both_argued : (es : Expressions) (j k : ℕ) (s t : Structure) → j ≡ k → is_of g (expr.Union es) (Alt j s) ≡ true → is_of g (expr.Union es) (Alt k t) ≡ true → AreInside s t
  both_argued es j k s t same p q =
      let one = held (λ e. is_of g e s) (argument es j) p in
      let other = held (λ e. is_of g e t) (argument es k) q in
      let equal : other.0 ≡ one.0 = same_Some other.0 one.0 (sym other.1 ∙ ap (argument es) (sym same) ∙ one.1) in
      record { right = one.0; first = one.2; second = subst (λ (e : Expression). is_of g e t ≡ true) equal other.2 }

  mutual
    within_same : (s t : Structure) (e : Expression) → is_of g e s ≡ true → is_of g e t ≡ true → order_within (in_sets s) (in_sets t) ≡ order_within s t
    within_same (Eps x) (Eps y) e p q = refl
    within_same (Atom x l) (Atom y m) e p q = refl
    within_same (Named x s) (Named y t) (expr.Name name) p q =
        then_same (nat_cmp x y) (order_within (in_sets s) (in_sets t)) (order_within s t) (λ same.
        let both = both_inside name x y s t (is_same x y (sym same)) p q in
        within_same s t both.right both.first both.second)
    within_same (Named x s) (Named y t) (expr.Many kind e card) p q = absurd (true≢false (sym p ∙ no_list g kind e card (Named x s) refl))
    within_same (Named x s) (Named y t) e p q = absurd (true≢false (sym p))
    within_same (Alt j s) (Alt k t) (expr.Union es) p q =
        then_same (nat_cmp j k) (order_within (in_sets s) (in_sets t)) (order_within s t) (λ same.
        let both = both_argued es j k s t (is_same j k (sym same)) p q in
        within_same s t both.right both.first both.second)
    within_same (Alt j s) (Alt k t) (expr.Many kind e card) p q = absurd (true≢false (sym p ∙ no_list g kind e card (Alt j s) refl))
    within_same (Alt j s) (Alt k t) e p q = absurd (true≢false (sym p))
    within_same (Tup f ss) (Tup h ts) e p q =
        let first = list_is g e f ss p in
        let second = list_is g e h ts q in
        both_forms f h (order_of_parts (all_in_sets ss) (all_in_sets ts)) (order_of_parts ss ts) (first.0 ∙ sym second.0) (parts_same ss ts e first.1 second.1)
    within_same s t e p q = refl

    parts_same : (ss ts : Structures) (e : Expression) → parts_pass g e ss ≡ true → parts_pass g e ts ≡ true → order_of_parts (all_in_sets ss) (all_in_sets ts) ≡ order_of_parts ss ts
    parts_same no_parts no_parts e p q = refl
    parts_same no_parts (more_parts t ts) e p q = refl
    parts_same (more_parts s ss) no_parts e p q = refl
    parts_same (more_parts s ss) (more_parts t ts) (expr.Prod (more_expressions e es)) p q =
        let first = and_parts _ _ p in
        let second = and_parts _ _ q in
        λ i. ordering_then (ordering_then (keys_same s t i) (within_same s t e first.0 second.0 i)) (parts_same ss ts (expr.Prod es) first.1 second.1 i)
    parts_same (more_parts s ss) (more_parts t ts) (expr.Many kind e card) p q =
        let first = and_parts _ _ p in
        let second = and_parts _ _ q in
        λ i. ordering_then (ordering_then (keys_same s t i) (within_same s t e first.0 second.0 i)) (parts_same ss ts (expr.Many kind e card) first.1 second.1 i)
    parts_same (more_parts s ss) (more_parts t ts) e p q = absurd (true≢false (sym p))

  -- two structures of one expression are in the same order
  order_in_sets : (e : Expression) (s t : Structure) → is_of g e s ≡ true → is_of g e t ≡ true → order (in_sets s) (in_sets t) ≡ order s t
  order_in_sets e s t p q = λ i. ordering_then (keys_same s t i) (within_same s t e p q i)

  -- ---- membership

  names_too : (name : List ℕ) (x : ℕ) (has also : Expression → Bool) → ((right : Expression) → has right ≡ true → also (with_sets right) ≡ true)
      → names g name x has ≡ true → names (reading_sets g) name x also ≡ true
  names_too name x has also keeps h =
      let rule : HasRule g name x has = rule_of g name x has h in
      names_from (reading_sets g) name x (with_sets rule.right) also (symbol_reading g name ∙ rule.numbered) (right_reading g x ∙ ap (option_map with_sets) rule.sided)
      (keeps rule.right rule.holds)

  abbrev IsOne : Expression → Structure → Type 0
  IsOne e s = is_of g e s ≡ true

  each_one : (ss : Structures) (e : Expression) → are_of g e ss ≡ true → EachOne (IsOne e) (part_list ss)
  each_one no_parts e h = tt
  each_one (more_parts s ss) e h = let both = and_parts _ _ h in (both.0, each_one ss e both.1)

  count_too : (card : Card) (ss : Structures) → admits card (length (part_list (all_in_sets ss))) ≡ admits card (length (part_list ss))
  count_too card ss = ap (admits card) (ap length (list_in_sets ss) ∙ length-map (part_list ss) in_sets)

  some_too : (ss : Structures) → nat_lt 0 (length (part_list (all_in_sets ss))) ≡ nat_lt 0 (length (part_list ss))
  some_too ss = ap (nat_lt 0) (ap length (list_in_sets ss) ∙ length-map (part_list ss) in_sets)

  sorted_too : (e : Expression) (ss : Structures) → are_of g e ss ≡ true → is_sorted (part_list (all_in_sets ss)) ≡ is_sorted (part_list ss)
  sorted_too e ss h = ap is_sorted (list_in_sets ss) ∙ sorted_kept in_sets (IsOne e) (order_in_sets e) (part_list ss) (each_one ss e h)

  least_rotation_too : (e : Expression) (ss : Structures) → are_of g e ss ≡ true → is_least_rotation (part_list (all_in_sets ss)) ≡ is_least_rotation (part_list ss)
  least_rotation_too e ss h = ap is_least_rotation (list_in_sets ss) ∙ least_rotation_kept in_sets (IsOne e) (order_in_sets e) (part_list ss) (each_one ss e h)

  mutual
    -- a structure of the expression is one of it where each PowerSet is read as Set
    pub read_of : (s : Structure) (e : Expression) → is_of g e s ≡ true → IsOf g e (in_sets s)
    read_of (Eps x) expr.Epsilon of = of
    read_of (Eps x) (expr.Name name) of = names_too name x is_epsilon is_epsilon (λ right h. epsilon_reading right ∙ h) of
    read_of (Eps x) (expr.Many kind e card) of = absurd (true≢false (sym of ∙ no_list g kind e card (Eps x) refl))
    read_of (Eps x) e of = absurd (true≢false (sym of))
    read_of (Atom x l) expr.Atom of = of
    read_of (Atom x l) (expr.Name name) of =
        let both = and_parts _ _ of in and_from _ _ (names_too name x is_atom is_atom (λ right h. atom_reading right ∙ h) both.0) both.1
    read_of (Atom x l) (expr.Many kind e card) of = absurd (true≢false (sym of ∙ no_list g kind e card (Atom x l) refl))
    read_of (Atom x l) e of = absurd (true≢false (sym of))
    read_of (Named x s) (expr.Name name) of =
        names_too name x (λ right. not (is_epsilon right || is_atom right) && is_of g right s) (λ right. not (is_epsilon right || is_atom right) && is_of (reading_sets g) right (in_sets s))
        (λ right h.
        let both = and_parts _ _ h in
        and_from _ _ ((λ i. not (epsilon_reading right i || atom_reading right i)) ∙ both.0) (read_of s right both.1))
        of
    read_of (Named x s) (expr.Many kind e card) of = absurd (true≢false (sym of ∙ no_list g kind e card (Named x s) refl))
    read_of (Named x s) e of = absurd (true≢false (sym of))
    read_of (Alt k s) (expr.Union es) of =
        let found = held (λ e. is_of g e s) (argument es k) of in
        ap (λ o. option_map_or (λ e. is_of (reading_sets g) e (in_sets s)) o false) (argument_reading es k ∙ ap (option_map with_sets) found.1) ∙ read_of s found.0 found.2
    read_of (Alt k s) (expr.Many kind e card) of = absurd (true≢false (sym of ∙ no_list g kind e card (Alt k s) refl))
    read_of (Alt k s) e of = absurd (true≢false (sym of))
    read_of (Tup form.Prod ss) (expr.Prod es) of = read_each ss es of
    read_of (Tup form.Prod ss) (expr.Many kind e card) of = absurd (true≢false (sym of ∙ no_product g kind e card ss))
    read_of (Tup form.Sequence ss) (expr.Many kind.Sequence e card) of =
        let both = and_parts _ _ of in and_from _ _ (count_too card ss ∙ both.0) (read_all ss e both.1)
    read_of (Tup form.Set ss) (expr.Many kind.Set e card) of =
        let both = and_parts _ _ of in
        let bound = and_parts _ _ both.0 in
        and_from _ _ (and_from _ _ (count_too card ss ∙ bound.0) (sorted_too e ss both.1 ∙ bound.1)) (read_all ss e both.1)
    read_of (Tup form.PowerSet ss) (expr.Many kind.PowerSet e card) of =
        let both = and_parts _ _ of in
        let bound = and_parts _ _ both.0 in
        and_from _ _ (and_from _ _ (count_too card ss ∙ bound.0) (sorted_too e ss both.1 ∙ strictly_sorted (part_list ss) bound.1)) (read_all ss e both.1)
    read_of (Tup form.Cycle ss) (expr.Many kind.Cycle e card) of =
        let both = and_parts _ _ of in
        let least = and_parts _ _ both.0 in
        let some = and_parts _ _ least.0 in
        let bound = and_parts _ _ some.0 in
        and_from _ _
        (and_from _ _ (and_from _ _ (and_from _ _ bound.0 (count_too card ss ∙ bound.1)) (some_too ss ∙ some.1)) (least_rotation_too e ss both.1 ∙ least.1))
        (read_all ss e both.1)
    read_of (Tup f ss) e of = absurd (true≢false (sym of))

    read_all : (ss : Structures) (e : Expression) → are_of g e ss ≡ true → are_of (reading_sets g) (with_sets e) (all_in_sets ss) ≡ true
    read_all no_parts e of = refl
    read_all (more_parts s ss) e of = let both = and_parts _ _ of in and_from _ _ (read_of s e both.0) (read_all ss e both.1)

    read_each : (ss : Structures) (es : Expressions) → are_of_each g es ss ≡ true → are_of_each (reading_sets g) (all_with_sets es) (all_in_sets ss) ≡ true
    read_each no_parts no_expressions of = refl
    read_each no_parts (more_expressions e es) of = absurd (true≢false (sym of))
    read_each (more_parts s ss) no_expressions of = absurd (true≢false (sym of))
    read_each (more_parts s ss) (more_expressions e es) of = let both = and_parts _ _ of in and_from _ _ (read_of s e both.0) (read_each ss es both.1)
