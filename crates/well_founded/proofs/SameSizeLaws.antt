-- The graph of one size says which structures stand directly inside one another without loss of size.
use Rattle.std.proofs.Common.{◌≡◌, inl, inr, ℕ, zero, suc, ◌+◌, ◌≤◌, Bool, true, ◌&&◌, List, [], ◌∷◌, ◌++◌, length, refl, sym, ap, ◌∙◌, subst, arith, true≢false, nat_eq, slice_get, Option, Some, None, is_some, length-append}
use Rattle.std.specs.List.{list_all}
use Rattle.std.specs.Option.{option_map, option_map_or, option_and_then}
use Rattle.std.proofs.lemmas.Bool.{and_parts, and_from, eqb-true, eq-eqb}
use Rattle.std.proofs.lemmas.List.{nil_from_length, append-nil}
use Rattle.std.proofs.lemmas.Option.{slice_get-map, same_Some}
use Rattle.spec_syntax.specs.Expression as expr
use Rattle.spec_syntax.specs.Expression.{Expression, Expressions, no_expressions, more_expressions, expression_list}
use Rattle.spec_syntax.specs.Rules.{Rules, symbol, right_side}
use Rattle.spec_syntax.specs.Grammar.{Grammar}
use Rattle.spec_syntax.specs.declared.expr.Kind.{Kind}
use Rattle.spec_syntax.specs.declared.expr.Card.{Card}
use Rattle.spec_syntax.specs.Card.{admits}
use Rattle.struct_model.specs.declared.tree.Form5.TheVariants as form
use Rattle.struct_model.specs.Structure.{Structure, Eps, Atom, Named, Alt, Tup, Structures, no_parts, more_parts, part_list, labels, labels_of_parts, size}
use Rattle.lists.specs.Enumeration.{IsIn}
use Rattle.struct_model.specs.Membership.{is_of, are_of, are_of_each, argument}
use Rattle.well_founded.specs.Sets.{with_sets, all_with_sets, reading_sets}
use Rattle.well_founded.specs.Sizes.{IsOf, IsLeast}
use Rattle.well_founded.specs.WellFounded.{may_hold_cycles}
use Rattle.well_founded.specs.Least.{IsSize}
use Rattle.well_founded.specs.Inside.{IsInside, IsAmong}
use Rattle.well_founded.specs.Rank.{StandsAt}
use Rattle.well_founded.specs.SameSize.{is_null, alone_from, is_told_inside, fillable}
use Rattle.well_founded.proofs.CyclesLaws.{may_all, both_allowed, argument_allowed, element_allowed}
use Rattle.well_founded.proofs.ManyLaws.{form_of, many_is, low_one, same_parts, many_same, are_copies, stands_within, within_stands, component_is}
use Rattle.well_founded.proofs.LeastLaws.{name_inside, name_is, argument_read, read_argument}

-- the expression whose structures stand at the place directly inside those of this one
abbrev pub inner : Rules → Expression → ℕ → Option Expression
inner rules (expr.Name name) zero = option_and_then (right_side rules) (symbol rules name)
inner rules (expr.Name name) (suc place) = None
inner rules (expr.Union es) place = slice_get (expression_list es) place
inner rules (expr.Prod es) place = slice_get (expression_list es) place
inner rules (expr.Many kind element card) zero = Some element
inner rules (expr.Many kind element card) (suc place) = None
inner rules expr.Epsilon place = None
inner rules expr.Atom place = None

argument_is : (es : Expressions) (place : ℕ) → argument es (suc place) ≡ slice_get (expression_list es) place
argument_is no_expressions place = refl
argument_is (more_expressions e es) zero = refl
argument_is (more_expressions e es) (suc place) = argument_is es place

pub no_argument_0 : (es : Expressions) → argument es 0 ≡ None
no_argument_0 no_expressions = refl
no_argument_0 (more_expressions e es) = refl

-- a component has no more atoms than all together
pub part_size : (ss : Structures) (place : ℕ) (t : Structure) → slice_get (part_list ss) place ≡ Some t → size t ≤ length (labels_of_parts ss)
part_size no_parts place t at = absurd (cc)
part_size (more_parts s ss) zero t at =
    let same : s ≡ t = cc in
    subst (λ (u : Structure). size u ≤ length (labels s ++ labels_of_parts ss)) same (omega (arith, length-append (labels s) (labels_of_parts ss)))
part_size (more_parts s ss) (suc place) t at = omega (arith, part_size ss place t at, length-append (labels s) (labels_of_parts ss))

-- ---- the only component

-- no structure of the element of the container is empty
abbrev pub IsFull : Grammar → Expression → Type 0
IsFull g (expr.Many kind element card) = (s : Structure) → IsOf g element s → size s ≡ 0 → ⊥
IsFull g e = Unit {0}

module _ (g : Grammar) (e : Expression) (full : (s : Structure) → is_of g e s ≡ true → size s ≡ 0 → ⊥) where
  has_atom : (s : Structure) → is_of g e s ≡ true → 1 ≤ size s
  has_atom s of = by (size s) (full s of)
    where
      by : (n : ℕ) → (n ≡ 0 → ⊥) → 1 ≤ n
      by zero h = absurd (h refl)
      by (suc n) h = omega arith

  -- there are no more components than atoms
  atoms_many : (ss : Structures) → are_of g e ss ≡ true → length (part_list ss) ≤ length (labels_of_parts ss)
  atoms_many no_parts are = omega arith
  atoms_many (more_parts s ss) are =
      let both = and_parts _ _ are in
      omega (arith, atoms_many ss both.1, has_atom s both.0, length-append (labels s) (labels_of_parts ss))

  atoms_beside : (ss : Structures) (t : Structure) → are_of g e ss ≡ true → IsIn t (part_list ss) → length (part_list ss) + size t ≤ suc (length (labels_of_parts ss))
  atoms_beside no_parts t are there = absurd there
  atoms_beside (more_parts s ss) t are (inl same) =
      let both = and_parts _ _ are in
      omega (arith, ap size same, atoms_many ss both.1, length-append (labels s) (labels_of_parts ss))
  atoms_beside (more_parts s ss) t are (inr there) =
      let both = and_parts _ _ are in
      omega (arith, atoms_beside ss t both.1 there, has_atom s both.0, length-append (labels s) (labels_of_parts ss))

  -- a component with all the atoms is the only one
  only_component : (ss : Structures) (t : Structure) → are_of g e ss ≡ true → IsIn t (part_list ss) → size t ≡ length (labels_of_parts ss) → length (part_list ss) ≡ 1
  only_component no_parts t are there same = absurd there
  only_component (more_parts s ss) t are there same = omega (arith, atoms_beside (more_parts s ss) t are there, same)

-- ---- what least sizes tell

module _ (g : Grammar) (sizes : Expression → Option ℕ) (sized : (e : Expression) → may_hold_cycles g e ≡ true → IsSize g e (sizes e)) where
  pub some_size : (e : Expression) (s : Structure) → may_hold_cycles g e ≡ true → IsOf g e s → is_some (sizes e) ≡ true
  some_size e s allowed of = by (sizes e) (sized e allowed)
    where
      by : (o : Option ℕ) → IsSize g e o → is_some o ≡ true
      by None none = absurd (none (s, of))
      by (Some n) h = refl

  pub null_size : (e : Expression) (s : Structure) → may_hold_cycles g e ≡ true → IsOf g e s → size s ≡ 0 → is_null (sizes e) ≡ true
  null_size e s allowed of empty = by (sizes e) (sized e allowed)
    where
      least : (n : ℕ) → IsLeast g e n → nat_eq 0 n ≡ true
      least n (inl h) = eq-eqb 0 n (omega (arith, h.1.least s of, empty))
      least n (inr h) = absurd (omega (arith, h.1 s of, empty))

      by : (o : Option ℕ) → IsSize g e o → is_null o ≡ true
      by None none = absurd (none (s, of))
      by (Some n) h = least n h.1

  pub from_null : (e : Expression) → may_hold_cycles g e ≡ true → is_null (sizes e) ≡ true → (s : Structure) × IsOf g e s × (labels s ≡ [])
  from_null e allowed null = by (sizes e) (sized e allowed) null
    where
      least : (n : ℕ) → IsLeast g e n → 0 ≡ n → (s : Structure) × IsOf g e s × (labels s ≡ [])
      least n (inl h) zero_is = (h.1.smallest, h.1.is_of, nil_from_length (labels h.1.smallest) (h.1.has_size ∙ sym zero_is))
      least n (inr h) zero_is = absurd (omega (arith, h.0, zero_is))

      by : (o : Option ℕ) → IsSize g e o → is_null o ≡ true → (s : Structure) × IsOf g e s × (labels s ≡ [])
      by None none null = absurd (true≢false (sym null))
      by (Some n) h null = least n h.1 (eqb-true 0 n null)

  -- ---- from structures to flags

  all_null : (es : Expressions) (ss : Structures) → may_all g es ≡ true → are_of_each (reading_sets g) (all_with_sets es) ss ≡ true → length (labels_of_parts ss) ≡ 0
      → list_all (λ other. is_null (sizes other)) (expression_list es) ≡ true
  all_null no_expressions ss allowed of empty = refl
  all_null (more_expressions e es) no_parts allowed of empty = absurd (true≢false (sym of))
  all_null (more_expressions e es) (more_parts s ss) allowed of empty =
      let both = both_allowed g e es allowed in
      let ofs = and_parts _ _ of in
      let joined : size s + length (labels_of_parts ss) ≡ 0 = sym (length-append (labels s) (labels_of_parts ss)) ∙ empty in
      and_from _ _ (null_size e s both.0 ofs.0 (omega (arith, joined))) (all_null es ss both.1 ofs.1 (omega (arith, joined)))

  -- the structure's expression, and that its place is told to be filled
  abbrev pub Flagged : Expression → ℕ → Structure → Type 0
  Flagged e place t = (f : Expression) × (inner g.rules e place ≡ Some f) × IsOf g f t × (slice_get (fillable g.rules sizes e) place ≡ Some true)

  abbrev AloneAt : Bool → Expressions → ℕ → Structure → Type 0
  AloneAt before es place t =
      (f : Expression) × (slice_get (expression_list es) place ≡ Some f) × IsOf g f t × (slice_get (alone_from sizes before es) place ≡ Some true)

  alone_at : (before : Bool) (es : Expressions) (ss : Structures) (place : ℕ) (t : Structure) → before ≡ true → may_all g es ≡ true
      → are_of_each (reading_sets g) (all_with_sets es) ss ≡ true → slice_get (part_list ss) place ≡ Some t → size t ≡ length (labels_of_parts ss) → AloneAt before es place t
  alone_at before no_expressions no_parts place t able allowed of at same = absurd (cc)
  alone_at before no_expressions (more_parts s ss) place t able allowed of at same = absurd (true≢false (sym of))
  alone_at before (more_expressions e es) no_parts place t able allowed of at same = absurd (true≢false (sym of))
  alone_at before (more_expressions e es) (more_parts s ss) zero t able allowed of at same =
      let this : s ≡ t = cc in
      let both = both_allowed g e es allowed in
      let ofs = and_parts _ _ of in
      let size_is : size s ≡ size t = ap size this in
      let joined : length (labels s ++ labels_of_parts ss) ≡ size s + length (labels_of_parts ss) = length-append (labels s) (labels_of_parts ss) in
      let flag = and_from _ _ (and_from _ _ able (some_size e s both.0 ofs.0)) (all_null es ss both.1 ofs.1 (omega (arith, joined, same, size_is))) in
      (e, refl, subst (λ (u : Structure). IsOf g e u) this ofs.0, ap Some flag)
  alone_at before (more_expressions e es) (more_parts s ss) (suc place) t able allowed of at same =
      let both = both_allowed g e es allowed in
      let ofs = and_parts _ _ of in
      let joined : length (labels s ++ labels_of_parts ss) ≡ size s + length (labels_of_parts ss) = length-append (labels s) (labels_of_parts ss) in
      let within = part_size ss place t at in
      alone_at (before && is_null (sizes e)) es ss place t (and_from _ _ able (null_size e s both.0 ofs.0 (omega (arith, joined, same, within))))
      both.1 ofs.1 at (omega (arith, joined, same, within))

  pub told : (name : List ℕ) (n : ℕ) (right : Expression) → symbol g.rules name ≡ Some n → right_side g.rules n ≡ Some right
      → (inner g.rules (expr.Name name) 0 ≡ Some right) × (fillable g.rules sizes (expr.Name name) ≡ is_told_inside right ∷ [])
  told name n right numbered sided =
      let found : option_and_then (right_side g.rules) (symbol g.rules name) ≡ Some right = ap (option_and_then (right_side g.rules)) numbered ∙ sided in
      (found, ap (λ o. option_map_or (λ right. is_told_inside right ∷ []) o []) found)

  name_fills : (name : List ℕ) (n : ℕ) (s : Structure) → IsOf g (expr.Name name) (Named n s) → Flagged (expr.Name name) 0 s
  name_fills name n s of =
      let rule = name_inside g name n s of in
      let told_is = told name n rule.right rule.numbered rule.sided in
      (rule.right, told_is.0, rule.is, ap (λ flags. slice_get flags 0) told_is.1 ∙ ap Some rule.told)

  many_fills : (kind : Kind) (e : Expression) (card : Card) (ss : Structures) (t : Structure) → may_hold_cycles g (expr.Many kind e card) ≡ true → IsFull g (expr.Many kind e card)
      → admits card (length (part_list ss)) ≡ true → are_of (reading_sets g) (with_sets e) ss ≡ true → IsIn t (part_list ss) → size t ≡ length (labels_of_parts ss)
      → Flagged (expr.Many kind e card) 0 t
  many_fills kind e card ss t allowed full admitted are there same =
      let of = component_is (reading_sets g) (with_sets e) ss t are there in
      let one = only_component (reading_sets g) (with_sets e) full ss t are there same in
      (e, refl, of, ap Some (and_from _ _ (ap (admits card) (sym one) ∙ admitted) (some_size e t (element_allowed g kind e card allowed) of)))

  -- a structure directly inside another one of the same size stands at a place that is told to be filled
  pub fills : (e : Expression) (s : Structure) (place : ℕ) (t : Structure) → may_hold_cycles g e ≡ true → IsFull g e → IsOf g e s → StandsAt s place t → size t ≡ size s → Flagged e place t
  fills (expr.Name name) (Named n s) place t allowed full of stands same =
      let Goal : ℕ → Structure → Type 0 = λ place t. Flagged (expr.Name name) place t in
      subst (λ (k : ℕ). Goal k t) (sym stands.0) (subst (λ (u : Structure). Goal 0 u) stands.1 (name_fills name n s of))
  fills (expr.Union es) (Alt k s) place t allowed full of stands same =
      let found = argument_read g es k s of in
      let at : slice_get (expression_list es) place ≡ Some found.0 = sym (argument_is es place) ∙ ap (argument es) (sym stands.0) ∙ found.1 in
      let part = argument_allowed g es place found.0 allowed at in (
        found.0,
        at,
        subst (λ (u : Structure). IsOf g found.0 u) stands.1 found.2,
        slice_get-map (λ e. is_some (sizes e)) (expression_list es) place ∙ ap (option_map (λ e. is_some (sizes e))) at ∙ ap Some (some_size found.0 s part found.2),
      )
  fills (expr.Prod es) (Tup form.Prod ss) place t allowed full of stands same = alone_at true es ss place t refl allowed of stands same
  fills (expr.Many kind e card) s place t allowed full of stands same =
      let many = many_is g kind e card s of in
      let within = stands_within kind many.parts place t (subst (λ (u : Structure). StandsAt u place t) many.is stands) in
      subst (λ (k : ℕ). Flagged (expr.Many kind e card) k t) (sym within.0)
      (many_fills kind e card many.parts t allowed full many.admitted many.are within.1 (same ∙ ap size many.is))
  fills e (Eps x) place t allowed full of stands same = absurd stands
  fills e (Atom x l) place t allowed full of stands same = absurd stands
  fills e s place t allowed full of stands same = absurd (true≢false (sym of))

  -- ---- from flags to structures

  nulls : (es : Expressions) → may_all g es ≡ true → list_all (λ other. is_null (sizes other)) (expression_list es) ≡ true
      → (ss : Structures) × (are_of_each (reading_sets g) (all_with_sets es) ss ≡ true) × (labels_of_parts ss ≡ [])
  nulls no_expressions allowed null = (no_parts, refl, refl)
  nulls (more_expressions e es) allowed null =
      let both = both_allowed g e es allowed in
      let parts = and_parts _ _ null in
      let first = from_null e both.0 parts.0 in
      let others = nulls es both.1 parts.1 in
      (more_parts first.0 others.0, and_from _ _ first.1 others.1, ap (λ ls. ls ++ labels_of_parts others.0) first.2 ∙ others.2)

  -- components around the one at the place, none of which has a label
  abbrev pub Around : Bool → Expressions → ℕ → Structure → Type 0
  Around before es place t =
      (ss : Structures) × (before ≡ true) × (are_of_each (reading_sets g) (all_with_sets es) ss ≡ true) × (slice_get (part_list ss) place ≡ Some t) × (labels_of_parts ss ≡ labels t)
      × IsAmong t ss

  around : (before : Bool) (es : Expressions) (place : ℕ) (f : Expression) (t : Structure) → may_all g es ≡ true
      → slice_get (alone_from sizes before es) place ≡ Some true → slice_get (expression_list es) place ≡ Some f → IsOf g f t → Around before es place t
  around before no_expressions place f t allowed flag at of = absurd (cc)
  around before (more_expressions e es) zero f t allowed flag at of =
      let all : (before && is_some (sizes e) && list_all (λ other. is_null (sizes other)) (expression_list es)) ≡ true = cc in
      let this : f ≡ e = cc in
      let first = and_parts _ _ all in
      let others = nulls es (both_allowed g e es allowed).1 first.1 in (
        more_parts t others.0,
        (and_parts _ _ first.0).0,
        and_from _ _ (subst (λ (h : Expression). IsOf g h t) this of) others.1,
        refl,
        ap (λ ls. labels t ++ ls) others.2 ∙ append-nil (labels t),
        inl refl,
      )
  around before (more_expressions e es) (suc place) f t allowed flag at of =
      let both = both_allowed g e es allowed in
      let rest = around (before && is_null (sizes e)) es place f t both.1 flag at of in
      let able = and_parts _ _ rest.1 in
      let first = from_null e both.0 able.1 in
      (more_parts first.0 rest.0, able.0, and_from _ _ first.1 rest.2, rest.3, ap (λ ls. ls ++ labels_of_parts rest.0) first.2 ∙ rest.4, inr (inr rest.5))

  -- a structure of the expression with the one at the place directly inside it, and no other label
  abbrev pub Wraps : Expression → ℕ → Structure → Type 0
  Wraps e place t = (s : Structure) × IsOf g e s × StandsAt s place t × (labels s ≡ labels t) × IsInside t s

  wraps_name : (name : List ℕ) (f : Expression) (t : Structure) → slice_get (fillable g.rules sizes (expr.Name name)) 0 ≡ Some true
      → inner g.rules (expr.Name name) 0 ≡ Some f → IsOf g f t → Wraps (expr.Name name) 0 t
  wraps_name name f t flag at of = by (symbol g.rules name) refl at
    where
      by : (o : Option ℕ) → symbol g.rules name ≡ o → option_and_then (right_side g.rules) o ≡ Some f → Wraps (expr.Name name) 0 t
      by None numbered found = absurd (cc)
      by (Some n) numbered found =
          let told_is = told name n f numbered found in
          let is_told : is_told_inside f ≡ true = same_Some (is_told_inside f) true (sym (ap (λ flags. slice_get flags 0) told_is.1) ∙ flag) in
          (Named n t, name_is g name n f t numbered found is_told of, (refl, refl), refl, inl refl)

  wraps_many : (kind : Kind) (e : Expression) (card : Card) (t : Structure) → may_hold_cycles g (expr.Many kind e card) ≡ true
      → slice_get (fillable g.rules sizes (expr.Many kind e card)) 0 ≡ Some true → IsOf g e t → Wraps (expr.Many kind e card) 0 t
  wraps_many kind e card t allowed flag of =
      let both : (admits card 1 && is_some (sizes e)) ≡ true = same_Some (admits card 1 && is_some (sizes e)) true flag in
      let one = (and_parts _ _ both).0 in (
        Tup (form_of kind) (same_parts 1 t),
        many_same g kind e card 1 t allowed one (low_one kind card one) (are_copies g e 1 t of),
        within_stands kind (same_parts 1 t) t (inl refl),
        append-nil (labels t),
        inl refl,
      )

  -- where a place is told to be filled, each structure that can stand there has one of the same labels around it
  pub wraps : (e : Expression) (place : ℕ) (f : Expression) (t : Structure) → may_hold_cycles g e ≡ true → slice_get (fillable g.rules sizes e) place ≡ Some true
      → inner g.rules e place ≡ Some f → IsOf g f t → Wraps e place t
  wraps expr.Epsilon place f t allowed flag at of = absurd (cc)
  wraps expr.Atom place f t allowed flag at of = absurd (cc)
  wraps (expr.Name name) zero f t allowed flag at of = wraps_name name f t flag at of
  wraps (expr.Name name) (suc place) f t allowed flag at of = absurd (cc)
  wraps (expr.Union es) place f t allowed flag at of =
      (Alt (suc place) t, read_argument g es (suc place) f t (argument_is es place ∙ at) of, (refl, refl), refl, inl refl)
  wraps (expr.Prod es) place f t allowed flag at of =
      let found = around true es place f t allowed flag at of in
      (Tup form.Prod found.0, found.2, found.3, found.4, found.5)
  wraps (expr.Many kind e card) zero f t allowed flag at of =
      let this : f ≡ e = cc in
      wraps_many kind e card t allowed flag (subst (λ (h : Expression). IsOf g h t) this of)
  wraps (expr.Many kind e card) (suc place) f t allowed flag at of = absurd (cc)
