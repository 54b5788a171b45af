-- A structure of an expression may have any ascending labels of the universe, where no container is over an expression with an
-- empty structure.
use Rattle.std.proofs.Common.{◌≡◌, ℕ, zero, suc, ◌+◌, true, false, not, ◌&&◌, ◌||◌, nat_lt, List, [], ◌∷◌, ◌++◌, length, take, drop, replicate, slice_get, Some, refl, sym, ap, ◌∙◌, subst, inl, inr, arith, true≢false, length-append}
use Rattle.std.specs.Option.{option_map_or}
use Rattle.std.proofs.lemmas.Bool.{and_parts, and_from, eqb-true}
use Rattle.std.proofs.lemmas.List.{take-append-drop, length-take-le, length-drop, nil_from_length}
use Rattle.spec_syntax.specs.declared.statement.Universe.{Universe}
use Rattle.spec_syntax.specs.declared.statement.Universe.TheVariants.{Labelled, Unlabelled}
use Rattle.spec_syntax.specs.declared.expr.Card.{Card}
use Rattle.spec_syntax.specs.declared.expr.Kind.{Kind}
use Rattle.spec_syntax.specs.declared.expr.Kind.TheVariants as kind
use Rattle.spec_syntax.specs.Card.{admits}
use Rattle.spec_syntax.specs.Expression as expr
use Rattle.spec_syntax.specs.Expression.{Expression, Expressions, no_expressions, more_expressions, preorder, preorder_of_all}
use Rattle.spec_syntax.specs.Rules.{right_side}
use Rattle.spec_syntax.specs.Grammar.{Grammar}
use Rattle.struct_model.specs.declared.tree.Form5.TheVariants as form
use Rattle.struct_model.specs.Structure.{Structure, Eps, Atom, Named, Alt, Tup, Structures, no_parts, more_parts, part_list, labels, labels_of_parts, size, key}
use Rattle.struct_model.specs.Membership.{is_of, are_of, are_of_each, argument, is_epsilon, is_atom, is_label, supply}
use Rattle.struct_model.proofs.SupplyLaws.{supply_is, supply_rises, supply_allowed, supply_size}
use Rattle.lists.specs.Ascending.{ascending}
use Rattle.lists.specs.Enumeration.{IsIn}
use Rattle.lists.proofs.Ascending.{Each, each_append, each_left, each_right, ascending_same}
use Rattle.lists.proofs.Enumerated.{in_flat_map}
use Rattle.lists.proofs.Places.{in_of_get}
use Rattle.lists.proofs.Tests.{held}
use Rattle.lists.proofs.Within.{in_left, in_right}
use Rattle.well_founded.specs.WellFounded.{HoldsNull, OfNone}
use Rattle.well_founded.proofs.LeastLaws.{HasRule, rule_of, names_from}
use Rattle.well_founded.proofs.SetsLaws.{mapped}
use Rattle.listing_laws.specs.Laws.{IsNeverEmpty}
use Rattle.listing_laws.proofs.Containers.{parts_pass, list_is, no_list, no_product}
use Rattle.listing_laws.proofs.Ranked.{element_full}
use Rattle.listing_laws.proofs.SetsRead.{strictly_sorted}
use Rattle.listing_laws.proofs.Climbing.{Climbs, climbs_left, climbs_right, climbs_above, climbing_sorted, climbing_turned}

module _ (g : Grammar) where
  abbrev Allowed : List ℕ → Type 0
  Allowed ls = Each (λ l. is_label g.universe l ≡ true) ls

  -- ---- the labels that a structure has

  atom_allowed : (x l : ℕ) (e : Expression) → is_of g e (Atom x l) ≡ true → is_label g.universe l ≡ true
  atom_allowed x l expr.Atom of = (and_parts _ _ of).1
  atom_allowed x l (expr.Name name) of = (and_parts _ _ of).1
  atom_allowed x l (expr.Many kind e card) of = absurd (true≢false (sym of ∙ no_list g kind e card (Atom x l) refl))
  atom_allowed x l e of = absurd (true≢false (sym of))

  mutual
    labels_allowed : (s : Structure) (e : Expression) → is_of g e s ≡ true → Allowed (labels s)
    labels_allowed (Eps x) e of = tt
    labels_allowed (Atom x l) e of = (atom_allowed x l e of, tt)
    labels_allowed (Named x s) (expr.Name name) of =
        let rule = rule_of g name x (λ right. not (is_epsilon right || is_atom right) && is_of g right s) of in
        labels_allowed s rule.right (and_parts _ _ rule.holds).1
    labels_allowed (Named x s) (expr.Many kind e card) of = absurd (true≢false (sym of ∙ no_list g kind e card (Named x s) refl))
    labels_allowed (Named x s) e of = absurd (true≢false (sym of))
    labels_allowed (Alt k s) (expr.Union es) of = let found = held (λ e. is_of g e s) (argument es k) of in labels_allowed s found.0 found.2
    labels_allowed (Alt k s) (expr.Many kind e card) of = absurd (true≢false (sym of ∙ no_list g kind e card (Alt k s) refl))
    labels_allowed (Alt k s) e of = absurd (true≢false (sym of))
    labels_allowed (Tup f ps) e of = parts_allowed ps e (list_is g e f ps of).1

    parts_allowed : (ps : Structures) (e : Expression) → parts_pass g e ps ≡ true → Allowed (labels_of_parts ps)
    parts_allowed no_parts e are = tt
    parts_allowed (more_parts s ps) (expr.Prod (more_expressions e es)) are =
        let both = and_parts _ _ are in
        each_append _ (labels s) (labels_of_parts ps) (labels_allowed s e both.0) (parts_allowed ps (expr.Prod es) both.1)
    parts_allowed (more_parts s ps) (expr.Many kind e card) are =
        let both = and_parts _ _ are in
        each_append _ (labels s) (labels_of_parts ps) (labels_allowed s e both.0) (parts_allowed ps (expr.Many kind e card) both.1)
    parts_allowed (more_parts s ps) e are = absurd (true≢false (sym are))

  -- ---- elements that are never empty

  -- no container among these is over an expression with an empty structure
  abbrev pub AreFull : List Expression → Type 0
  AreFull es = (kind : Kind) (e : Expression) (card : Card) → IsIn (expr.Many kind e card) es → IsNeverEmpty g e

  first_full : (e : Expression) (es : Expressions) → AreFull (preorder_of_all (more_expressions e es)) → AreFull (preorder e)
  first_full e es full kind f card there = full kind f card (in_left (expr.Many kind f card) (preorder e) (preorder_of_all es) there)

  others_full : (e : Expression) (es : Expressions) → AreFull (preorder_of_all (more_expressions e es)) → AreFull (preorder_of_all es)
  others_full e es full kind f card there = full kind f card (in_right (expr.Many kind f card) (preorder e) (preorder_of_all es) there)

  argument_full : (es : Expressions) (k : ℕ) (e : Expression) → argument es k ≡ Some e → AreFull (preorder_of_all es) → AreFull (preorder e)
  argument_full no_expressions k e found full = absurd (cc)
  argument_full (more_expressions first es) zero e found full = absurd (cc)
  argument_full (more_expressions first es) (suc zero) e found full =
      let same : first ≡ e = cc in
      subst (λ (other : Expression). AreFull (preorder other)) same (first_full first es full)
  argument_full (more_expressions first es) (suc (suc k)) e found full = argument_full es (suc k) e found (others_full first es full)

  inside_full : (e : Expression) (es : List Expression) → AreFull (e ∷ es) → AreFull es
  inside_full e es full kind f card there = full kind f card (inr there)

  pub name_full : (name : List ℕ) → AreFull (preorder (expr.Name name))
  name_full name kind e card (inl same) = absurd (cc)
  name_full name kind e card (inr there) = absurd there

  module _ (none : OfNone (HoldsNull g) g.rules) where
    right_full : (n : ℕ) (right : Expression) → right_side g.rules n ≡ Some right → AreFull (preorder right)
    right_full zero right sided = absurd (cc)
    right_full (suc i) right sided =
        let rule = mapped (λ (rule : List ℕ × Expression). rule.1) (slice_get g.rules i) right sided in
        λ kind e card there.
        element_full g kind e card none
        (in_flat_map (λ (rule : List ℕ × Expression). preorder rule.1) rule.0 g.rules (expr.Many kind e card) (in_of_get g.rules i rule.0 rule.1)
        (subst (λ (other : Expression). IsIn (expr.Many kind e card) (preorder other)) (sym rule.2) there))

    -- ---- other labels

    -- labels of the universe, each above those before it
    abbrev Fit : List ℕ → Type 0
    Fit ls = Allowed ls × Climbs ls

    -- one of the expression with these labels
    abbrev pub HasOne : Expression → List ℕ → Type 0
    HasOne e ls = (t : Structure) × (is_of g e t ≡ true) × (labels t ≡ ls)

    abbrev HaveOnes : Expressions → List ℕ → Type 0
    HaveOnes es ls = (ps : Structures) × (are_of_each g es ps ≡ true) × (labels_of_parts ps ≡ ls)

    -- so many of the expression
    record HaveMany (e : Expression) (n : ℕ) (ls : List ℕ) : Type 0 where
      parts : Structures
      are : are_of g e parts ≡ true
      labels_are : labels_of_parts parts ≡ ls
      many : length (part_list parts) ≡ n

    none_left : (ls : List ℕ) → length ls ≡ 0 → [] ≡ ls
    none_left ls h = sym (nil_from_length ls h)

    one_label : (x : ℕ) (e : Expression) (l : ℕ) (ls : List ℕ) → is_of g e (Atom x l) ≡ true → Allowed ls → length ls ≡ 1 → HasOne e ls
    one_label x e l [] of allowed same = absurd (omega arith)
    one_label x e l (m ∷ n ∷ ls) of allowed same = absurd (omega arith)
    one_label x expr.Atom l (m ∷ []) of allowed same = (Atom x m, and_from _ _ (and_parts _ _ of).0 allowed.0, refl)
    one_label x (expr.Name name) l (m ∷ []) of allowed same = (Atom x m, and_from _ _ (and_parts _ _ of).0 allowed.0, refl)
    one_label x (expr.Many kind e card) l (m ∷ []) of allowed same = absurd (true≢false (sym of ∙ no_list g kind e card (Atom x l) refl))
    one_label x e l (m ∷ []) of allowed same = absurd (true≢false (sym of))

    -- the labels of a first structure and those of the others
    record Cut (s : Structure) (ps : Structures) (ls : List ℕ) : Type 0 where
      whole : take (size s) ls ++ drop (size s) ls ≡ ls
      first : Fit (take (size s) ls)
      others : Fit (drop (size s) ls)
      first_size : length (take (size s) ls) ≡ size s
      others_size : length (drop (size s) ls) ≡ length (labels_of_parts ps)

    cut : (s : Structure) (ps : Structures) (ls : List ℕ) → Fit ls → length ls ≡ length (labels_of_parts (more_parts s ps)) → Cut s ps ls
    cut s ps ls fit same =
        let whole : take (size s) ls ++ drop (size s) ls ≡ ls = take-append-drop (size s) ls in
        let all : Fit (take (size s) ls ++ drop (size s) ls) = subst Fit (sym whole) fit in
        let room : length ls ≡ size s + length (labels_of_parts ps) = same ∙ length-append (labels s) (labels_of_parts ps) in
        record {
          whole = whole;
          first = (each_left _ (take (size s) ls) (drop (size s) ls) all.0, climbs_left (take (size s) ls) (drop (size s) ls) all.1);
          others = (each_right _ (take (size s) ls) (drop (size s) ls) all.0, climbs_right (take (size s) ls) (drop (size s) ls) all.1);
          first_size = length-take-le (size s) ls (omega (arith, room));
          others_size = omega (arith, room, length-drop (size s) ls);
        }

    mutual
      relabel : (s : Structure) (e : Expression) (ls : List ℕ) → AreFull (preorder e) → is_of g e s ≡ true → Fit ls → length ls ≡ size s → HasOne e ls
      relabel (Eps x) e ls full of fit same = (Eps x, of, none_left ls same)
      relabel (Atom x l) e ls full of fit same = one_label x e l ls of fit.0 same
      relabel (Named x s) (expr.Name name) ls full of fit same =
          let rule : HasRule g name x (λ right. not (is_epsilon right || is_atom right) && is_of g right s) = rule_of g name x (λ right. not (is_epsilon right || is_atom right) && is_of g right s) of in
          let both = and_parts _ _ rule.holds in
          let one : HasOne rule.right ls = relabel s rule.right ls (right_full x rule.right rule.sided) both.1 fit same in (
            Named x one.0,
            names_from g name x rule.right (λ right. not (is_epsilon right || is_atom right) && is_of g right one.0) rule.numbered rule.sided (and_from _ _ both.0 one.1),
            one.2,
          )
      relabel (Named x s) (expr.Many kind e card) ls full of fit same = absurd (true≢false (sym of ∙ no_list g kind e card (Named x s) refl))
      relabel (Named x s) e ls full of fit same = absurd (true≢false (sym of))
      relabel (Alt k s) (expr.Union es) ls full of fit same =
          let found = held (λ e. is_of g e s) (argument es k) of in
          let one : HasOne found.0 ls = relabel s found.0 ls (argument_full es k found.0 found.1 (inside_full (expr.Union es) (preorder_of_all es) full)) found.2 fit same in
          (Alt k one.0, ap (λ o. option_map_or (λ e. is_of g e one.0) o false) found.1 ∙ one.1, one.2)
      relabel (Alt k s) (expr.Many kind e card) ls full of fit same = absurd (true≢false (sym of ∙ no_list g kind e card (Alt k s) refl))
      relabel (Alt k s) e ls full of fit same = absurd (true≢false (sym of))
      relabel (Tup form.Prod ps) (expr.Prod es) ls full of fit same =
          let parts : HaveOnes es ls = relabel_parts ps es ls (inside_full (expr.Prod es) (preorder_of_all es) full) of fit same in
          (Tup form.Prod parts.0, parts.1, parts.2)
      relabel (Tup form.Prod ps) (expr.Many kind e card) ls full of fit same = absurd (true≢false (sym of ∙ no_product g kind e card ps))
      relabel (Tup form.Sequence ps) (expr.Many kind.Sequence e card) ls full of fit same =
          let both = and_parts _ _ of in
          let parts : HaveMany e (length (part_list ps)) ls = relabel_all ps e ls (inside_full (expr.Many kind.Sequence e card) (preorder e) full) both.1 fit same in
          (Tup form.Sequence parts.parts, and_from _ _ (ap (admits card) parts.many ∙ both.0) parts.are, parts.labels_are)
      relabel (Tup form.Set ps) (expr.Many kind.Set e card) ls full of fit same =
          let both = and_parts _ _ of in
          let bound = and_parts _ _ both.0 in
          let parts : HaveMany e (length (part_list ps)) ls = relabel_all ps e ls (inside_full (expr.Many kind.Set e card) (preorder e) full) both.1 fit same in
          let sorted = strictly_sorted (part_list parts.parts) (climbing_sorted g e (full kind.Set e card (inl refl)) parts.parts parts.are (subst Climbs (sym parts.labels_are) fit.1)) in
          (Tup form.Set parts.parts, and_from _ _ (and_from _ _ (ap (admits card) parts.many ∙ bound.0) sorted) parts.are, parts.labels_are)
      relabel (Tup form.PowerSet ps) (expr.Many kind.PowerSet e card) ls full of fit same =
          let both = and_parts _ _ of in
          let bound = and_parts _ _ both.0 in
          let parts : HaveMany e (length (part_list ps)) ls = relabel_all ps e ls (inside_full (expr.Many kind.PowerSet e card) (preorder e) full) both.1 fit same in
          let sorted = climbing_sorted g e (full kind.PowerSet e card (inl refl)) parts.parts parts.are (subst Climbs (sym parts.labels_are) fit.1) in
          (Tup form.PowerSet parts.parts, and_from _ _ (and_from _ _ (ap (admits card) parts.many ∙ bound.0) sorted) parts.are, parts.labels_are)
      relabel (Tup form.Cycle ps) (expr.Many kind.Cycle e card) ls full of fit same =
          let both = and_parts _ _ of in
          let least = and_parts _ _ both.0 in
          let some = and_parts _ _ least.0 in
          let bound = and_parts _ _ some.0 in
          let parts : HaveMany e (length (part_list ps)) ls = relabel_all ps e ls (inside_full (expr.Many kind.Cycle e card) (preorder e) full) both.1 fit same in
          let turned = climbing_turned g e (full kind.Cycle e card (inl refl)) parts.parts parts.are (subst Climbs (sym parts.labels_are) fit.1) in (
            Tup form.Cycle parts.parts,
            and_from _ _ (and_from _ _ (and_from _ _ (and_from _ _ bound.0 (ap (admits card) parts.many ∙ bound.1)) (ap (nat_lt 0) parts.many ∙ some.1)) turned) parts.are,
            parts.labels_are,
          )
      relabel (Tup f ps) e ls full of fit same = absurd (true≢false (sym of))

      relabel_parts : (ps : Structures) (es : Expressions) (ls : List ℕ) → AreFull (preorder_of_all es) → are_of_each g es ps ≡ true → Fit ls → length ls ≡ length (labels_of_parts ps)
          → HaveOnes es ls
      relabel_parts no_parts no_expressions ls full of fit same = (no_parts, refl, none_left ls same)
      relabel_parts no_parts (more_expressions e es) ls full of fit same = absurd (true≢false (sym of))
      relabel_parts (more_parts s ps) no_expressions ls full of fit same = absurd (true≢false (sym of))
      relabel_parts (more_parts s ps) (more_expressions e es) ls full of fit same =
          let both = and_parts _ _ of in
          let c = cut s ps ls fit same in
          let first : HasOne e (take (size s) ls) = relabel s e (take (size s) ls) (first_full e es full) both.0 c.first c.first_size in
          let rest : HaveOnes es (drop (size s) ls) = relabel_parts ps es (drop (size s) ls) (others_full e es full) both.1 c.others c.others_size in
          (more_parts first.0 rest.0, and_from _ _ first.1 rest.1, (λ i. first.2 i ++ rest.2 i) ∙ c.whole)

      relabel_all : (ps : Structures) (e : Expression) (ls : List ℕ) → AreFull (preorder e) → are_of g e ps ≡ true → Fit ls → length ls ≡ length (labels_of_parts ps)
          → HaveMany e (length (part_list ps)) ls
      relabel_all no_parts e ls full of fit same = record { parts = no_parts; are = refl; labels_are = none_left ls same; many = refl }
      relabel_all (more_parts s ps) e ls full of fit same =
          let both = and_parts _ _ of in
          let c = cut s ps ls fit same in
          let first : HasOne e (take (size s) ls) = relabel s e (take (size s) ls) full both.0 c.first c.first_size in
          let rest : HaveMany e (length (part_list ps)) (drop (size s) ls) = relabel_all ps e (drop (size s) ls) full both.1 c.others c.others_size in
          record {
            parts = more_parts first.0 rest.parts;
            are = and_from _ _ first.1 rest.are;
            labels_are = (λ i. first.2 i ++ rest.labels_are i) ∙ c.whole;
            many = ap suc rest.many;
          }

    -- ---- the labels of the size

    zeros : (ls : List ℕ) → Each (λ l. is_label Unlabelled l ≡ true) ls → ls ≡ replicate (length ls) 0
    zeros [] all = refl
    zeros (l ∷ ls) all = λ i. eqb-true l 0 all.0 i ∷ zeros ls all.1 i

    -- one of a name with the first labels of the universe
    pub with_supply : (name : List ℕ) (s : Structure) → is_of g (expr.Name name) s ≡ true
        → (t : Structure) × (is_of g (expr.Name name) t ≡ true) × (key t ≡ supply g.universe (size s))
    with_supply name s of = by g.universe refl
      where
        in_place : (universe : Universe) → ascending (supply universe (size s)) ≡ supply universe (size s)
        in_place universe = ascending_same (supply universe (size s)) (supply_rises universe (supply universe (size s)) (supply_is universe (size s)))

        by : (universe : Universe) → g.universe ≡ universe → (t : Structure) × (is_of g (expr.Name name) t ≡ true) × (key t ≡ supply universe (size s))
        by Unlabelled same =
            let allowed = subst (λ (universe : Universe). Each (λ l. is_label universe l ≡ true) (labels s)) same (labels_allowed s (expr.Name name) of) in
            (s, of, ap ascending (zeros (labels s) allowed) ∙ in_place Unlabelled)
        by Labelled same =
            let ls = supply Labelled (size s) in
            let allowed = subst (λ (universe : Universe). Each (λ l. is_label universe l ≡ true) ls) (sym same) (supply_allowed Labelled ls (supply_is Labelled (size s))) in
            let one : HasOne (expr.Name name) ls = relabel s (expr.Name name) ls (name_full name) of (allowed, climbs_above 0 ls (supply_is Labelled (size s))) (supply_size Labelled (size s)) in
            (one.0, one.1, ap ascending one.2 ∙ in_place Labelled)
