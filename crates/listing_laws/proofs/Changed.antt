-- A strictly ascending change of labels keeps the order of structures and which expressions they are of.
use Rattle.std.proofs.Common.{◌≡◌, ℕ, zero, suc, ◌<◌, ◌≤◌, false, not, ◌&&◌, ◌||◌, nat_eq, nat_lt, List, [], ◌∷◌, ◌++◌, map, length, refl, sym, ap, ◌∙◌, inl, inr, arith, nat_cmp}
use Rattle.std.specs.Cmp.Lexicographic.{slice_cmp}
use Rattle.std.specs.Option.{option_map_or}
use Rattle.std.specs.Ordering.{ordering_then}
use Rattle.std.proofs.lemmas.Bool.{cases_lt, cases_order}
use Rattle.std.proofs.lemmas.Bool.Decides.{nat_tests}
use Rattle.std.proofs.lemmas.List.{map-append, length-map}
use Rattle.spec_syntax.specs.declared.statement.Universe.{Universe}
use Rattle.spec_syntax.specs.declared.statement.Universe.TheVariants.{Labelled, Unlabelled}
use Rattle.spec_syntax.specs.declared.expr.Card.{Card}
use Rattle.spec_syntax.specs.declared.expr.Kind.TheVariants as kind
use Rattle.spec_syntax.specs.Card.{admits}
use Rattle.spec_syntax.specs.Expression as expr
use Rattle.spec_syntax.specs.Expression.{Expression, Expressions, no_expressions, more_expressions}
use Rattle.spec_syntax.specs.Grammar.{Grammar}
use Rattle.struct_model.specs.declared.tree.Form5.TheVariants as form
use Rattle.lists.proofs.Mapped.{same_mapped}
use Rattle.lists.specs.Ascending.{inserted, ascending}
use Rattle.struct_model.specs.Structure.{Structure, Eps, Atom, Named, Alt, Tup, Structures, no_parts, more_parts, part_list, labels, labels_of_parts, key}
use Rattle.struct_model.specs.Order.{form_rank, key_order, order_within, order_of_parts, order, is_sorted, is_strictly_sorted, is_least_rotation}
use Rattle.struct_model.specs.Membership.{is_of, are_of, are_of_each, argument, names, is_epsilon, is_atom, is_label, is_labelled}
use Rattle.struct_model.proofs.OrderLaws.{order_same, order_equal}
use Rattle.lists.proofs.Ascending.{inserted_first, inserted_later}
use Rattle.listing_laws.proofs.OrderKept.{EachOne, sorted_kept, strictly_sorted_kept, least_rotation_kept}

abbrev mutual
  -- the structure with another label in place of each
  pub changed : (ℕ → ℕ) → Structure → Structure
  changed at (Eps rule) = Eps rule
  changed at (Atom rule label) = Atom rule (at label)
  changed at (Named rule inside) = Named rule (changed at inside)
  changed at (Alt argument inside) = Alt argument (changed at inside)
  changed at (Tup form parts) = Tup form (changed_parts at parts)

  pub changed_parts : (ℕ → ℕ) → Structures → Structures
  changed_parts at no_parts = no_parts
  changed_parts at (more_parts s ss) = more_parts (changed at s) (changed_parts at ss)

-- label 0 stays, and greater labels become greater ones
pub record IsRising (at : ℕ → ℕ) : Type 0 where
  pub none : at 0 ≡ 0
  pub rises : (l m : ℕ) → l < m → at l < at m

pub changed_list : (at : ℕ → ℕ) (ss : Structures) → part_list (changed_parts at ss) ≡ map (changed at) (part_list ss)
changed_list at no_parts = refl
changed_list at (more_parts s ss) = ap (λ others. changed at s ∷ others) (changed_list at ss)

mutual
  pub labels-changed : (at : ℕ → ℕ) (s : Structure) → labels (changed at s) ≡ map at (labels s)
  labels-changed at (Eps x) = refl
  labels-changed at (Atom x l) = refl
  labels-changed at (Named x s) = labels-changed at s
  labels-changed at (Alt k s) = labels-changed at s
  labels-changed at (Tup f ss) = labels_of_parts-changed at ss

  labels_of_parts-changed : (at : ℕ → ℕ) (ss : Structures) → labels_of_parts (changed_parts at ss) ≡ map at (labels_of_parts ss)
  labels_of_parts-changed at no_parts = refl
  labels_of_parts-changed at (more_parts s ss) =
      (λ i. labels-changed at s i ++ labels_of_parts-changed at ss i) ∙ sym (map-append at (labels s) (labels_of_parts ss))

module _ (at : ℕ → ℕ) (rising : IsRising at) where
  number_order : (l m : ℕ) → nat_cmp (at l) (at m) ≡ nat_cmp l m
  number_order l m = elim (cases_order l m) [
    | inl same ↦ let images : at l ≡ at m = ap at same in grind (arith, nat_tests)
    | inr (inl below) ↦ let images = rising.rises l m below in grind (arith, nat_tests)
    | inr (inr above) ↦ let images = rising.rises m l above in grind (arith, nat_tests)
  ]

  pub same_numbers : (ls ms : List ℕ) → map at ls ≡ map at ms → ls ≡ ms
  same_numbers ls ms same = same_mapped at one ls ms same
    where
      one : (l m : ℕ) → at l ≡ at m → l ≡ m
      one l m same = elim (cases_order l m) [
        | inl equal ↦ equal
        | inr (inl below) ↦ absurd (omega (arith, rising.rises l m below, same))
        | inr (inr above) ↦ absurd (omega (arith, rising.rises m l above, same))
      ]

  inserted-changed : (l : ℕ) (ms : List ℕ) → inserted (at l) (map at ms) ≡ map at (inserted l ms)
  inserted-changed l [] = refl
  inserted-changed l (m ∷ ms) = elim (cases_lt m l) [
    | inl above ↦
        inserted_later (at l) (at m) (map at ms) (rising.rises m l above) ∙ ap (λ others. at m ∷ others) (inserted-changed l ms)
        ∙ sym (ap (map at) (inserted_later l m ms above))
    | inr within ↦ inserted_first (at l) (at m) (map at ms) (at_most within) ∙ sym (ap (map at) (inserted_first l m ms within))
  ]
    where
      at_most : l ≤ m → at l ≤ at m
      at_most within = elim (cases_lt l m) [
        | inl below ↦ omega (arith, rising.rises l m below)
        | inr equal ↦ omega (arith, ap at (both equal))
      ]
        where
          both : m ≤ l → l ≡ m
          both other = omega arith

  ascending-changed : (ls : List ℕ) → ascending (map at ls) ≡ map at (ascending ls)
  ascending-changed [] = refl
  ascending-changed (l ∷ ls) = ap (inserted (at l)) (ascending-changed ls) ∙ inserted-changed l (ascending ls)

  pub key-changed : (s : Structure) → key (changed at s) ≡ map at (key s)
  key-changed s = ap ascending (labels-changed at s) ∙ ascending-changed (labels s)

  -- ---- the order

  numbers_order : (ls ms : List ℕ) → slice_cmp nat_cmp (map at ls) (map at ms) ≡ slice_cmp nat_cmp ls ms
  numbers_order [] [] = refl
  numbers_order [] (m ∷ ms) = refl
  numbers_order (l ∷ ls) [] = refl
  numbers_order (l ∷ ls) (m ∷ ms) = λ i. ordering_then (number_order l m i) (numbers_order ls ms i)

  keys_kept : (s t : Structure) → key_order (changed at s) (changed at t) ≡ key_order s t
  keys_kept s t = (λ i. slice_cmp nat_cmp (key-changed s i) (key-changed t i)) ∙ numbers_order (key s) (key t)

  mutual
    within_kept : (s t : Structure) → order_within (changed at s) (changed at t) ≡ order_within s t
    within_kept (Eps x) (Eps y) = refl
    within_kept (Atom x l) (Atom y m) = refl
    within_kept (Named x s) (Named y t) = ap (ordering_then (nat_cmp x y)) (within_kept s t)
    within_kept (Alt j s) (Alt k t) = ap (ordering_then (nat_cmp j k)) (within_kept s t)
    within_kept (Tup f ss) (Tup g ts) = ap (ordering_then (nat_cmp (form_rank f) (form_rank g))) (parts_kept ss ts)
    within_kept s t = refl

    parts_kept : (ss ts : Structures) → order_of_parts (changed_parts at ss) (changed_parts at ts) ≡ order_of_parts ss ts
    parts_kept no_parts no_parts = refl
    parts_kept no_parts (more_parts t ts) = refl
    parts_kept (more_parts s ss) no_parts = refl
    parts_kept (more_parts s ss) (more_parts t ts) =
        λ i. ordering_then (ordering_then (keys_kept s t i) (within_kept s t i)) (parts_kept ss ts i)

  pub order_kept : (s t : Structure) → order (changed at s) (changed at t) ≡ order s t
  order_kept s t = λ i. ordering_then (keys_kept s t i) (within_kept s t i)

  pub same_changed : (s t : Structure) → changed at s ≡ changed at t → s ≡ t
  same_changed s t same = order_same s t (sym (order_kept s t) ∙ ap (order (changed at s)) (sym same) ∙ order_equal.itself (changed at s))

  -- ---- membership

  abbrev Any : Structure → Type 0
  Any s = Unit {0}

  any : (ss : List Structure) → EachOne Any ss
  any [] = tt
  any (s ∷ ss) = (tt, any ss)

  label_kept : (universe : Universe) (l : ℕ) → is_label universe (at l) ≡ is_label universe l
  label_kept universe zero = ap (is_label universe) rising.none
  label_kept Unlabelled (suc l) = let more = rising.rises 0 (suc l) (omega arith) in grind (arith, nat_tests)
  label_kept Labelled (suc l) = let more = rising.rises 0 (suc l) (omega arith) in grind (arith, nat_tests)

  module _ (g : Grammar) where
    count_kept : (card : Card) (ss : Structures) → admits card (length (part_list (changed_parts at ss))) ≡ admits card (length (part_list ss))
    count_kept card ss = ap (admits card) (ap length (changed_list at ss) ∙ length-map (part_list ss) (changed at))

    some_kept : (ss : Structures) → nat_lt 0 (length (part_list (changed_parts at ss))) ≡ nat_lt 0 (length (part_list ss))
    some_kept ss = ap (nat_lt 0) (ap length (changed_list at ss) ∙ length-map (part_list ss) (changed at))

    sorted_too : (ss : Structures) → is_sorted (part_list (changed_parts at ss)) ≡ is_sorted (part_list ss)
    sorted_too ss = ap is_sorted (changed_list at ss) ∙ sorted_kept (changed at) Any (λ s t p q. order_kept s t) (part_list ss) (any (part_list ss))

    strictly_sorted_too : (ss : Structures) → is_strictly_sorted (part_list (changed_parts at ss)) ≡ is_strictly_sorted (part_list ss)
    strictly_sorted_too ss =
        ap is_strictly_sorted (changed_list at ss) ∙ strictly_sorted_kept (changed at) Any (λ s t p q. order_kept s t) (part_list ss) (any (part_list ss))

    least_rotation_too : (ss : Structures) → is_least_rotation (part_list (changed_parts at ss)) ≡ is_least_rotation (part_list ss)
    least_rotation_too ss =
        ap is_least_rotation (changed_list at ss) ∙ least_rotation_kept (changed at) Any (λ s t p q. order_kept s t) (part_list ss) (any (part_list ss))

    mutual
      pub of_kept : (s : Structure) (e : Expression) → is_of g e (changed at s) ≡ is_of g e s
      of_kept (Eps x) e = refl
      of_kept (Atom x l) expr.Atom = ap (λ b. nat_eq x 0 && b) (label_kept g.universe l)
      of_kept (Atom x l) (expr.Name name) = ap (λ b. names g name x is_atom && b) (label_kept g.universe l)
      of_kept (Atom x l) e = refl
      of_kept (Named x s) (expr.Name name) = λ i. names g name x (λ right. not (is_epsilon right || is_atom right) && of_kept s right i)
      of_kept (Named x s) e = refl
      of_kept (Alt k s) (expr.Union es) = λ i. option_map_or (λ e. of_kept s e i) (argument es k) false
      of_kept (Alt k s) e = refl
      of_kept (Tup form.Prod ss) (expr.Prod es) = each_kept ss es
      of_kept (Tup form.Sequence ss) (expr.Many kind.Sequence e card) = λ i. count_kept card ss i && all_kept ss e i
      of_kept (Tup form.Set ss) (expr.Many kind.Set e card) = λ i. count_kept card ss i && sorted_too ss i && all_kept ss e i
      of_kept (Tup form.PowerSet ss) (expr.Many kind.PowerSet e card) = λ i. count_kept card ss i && strictly_sorted_too ss i && all_kept ss e i
      of_kept (Tup form.Cycle ss) (expr.Many kind.Cycle e card) =
          λ i. is_labelled g.universe && count_kept card ss i && some_kept ss i && least_rotation_too ss i && all_kept ss e i
      of_kept (Tup f ss) e = refl

      all_kept : (ss : Structures) (e : Expression) → are_of g e (changed_parts at ss) ≡ are_of g e ss
      all_kept no_parts e = refl
      all_kept (more_parts s ss) e = λ i. of_kept s e i && all_kept ss e i

      each_kept : (ss : Structures) (es : Expressions) → are_of_each g es (changed_parts at ss) ≡ are_of_each g es ss
      each_kept no_parts no_expressions = refl
      each_kept no_parts (more_expressions e es) = refl
      each_kept (more_parts s ss) no_expressions = refl
      each_kept (more_parts s ss) (more_expressions e es) = λ i. of_kept s e i && each_kept ss es i
