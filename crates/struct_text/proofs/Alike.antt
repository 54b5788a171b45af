-- What two structures of one expression have in common, kind by kind.
use Rattle.std.proofs.Common.{◌≡◌, ℕ, Bool, true, not, ◌&&◌, ◌||◌, List, Some, refl, sym, ap, ◌∙◌, subst₂, arith, true≢false}
use Rattle.std.proofs.lemmas.Bool.{and_parts, eqb-true}
use Rattle.lists.proofs.Tests.{held}
use Rattle.spec_syntax.specs.Expression as expr
use Rattle.spec_syntax.specs.Expression.{Expression, Expressions, no_expressions, more_expressions}
use Rattle.spec_syntax.specs.Rules.{right_side}
use Rattle.spec_syntax.specs.Grammar.{Grammar}
use Rattle.struct_model.specs.declared.tree.Form5.TheVariants as form
use Rattle.struct_model.specs.Structure.{Structure, Eps, Atom, Named, Alt, Tup, Structures, no_parts, more_parts}
use Rattle.struct_model.specs.Membership.{is_of, are_of, are_of_each, argument, names, is_epsilon, is_atom, is_label}
use Rattle.well_founded.proofs.LeastLaws.{rule_of}
use Rattle.struct_text.proofs.Containers.{many_is}

-- both are structures of one expression
pub record AreOfOne (g : Grammar) (s t : Structure) : Type 0 where
  pub e : Expression
  pub first : is_of g e s ≡ true
  pub second : is_of g e t ≡ true

-- it is a structure of some expression
pub record IsOfSome (g : Grammar) (s : Structure) : Type 0 where
  pub e : Expression
  pub is : is_of g e s ≡ true

-- the components at each place are structures of one expression, as far as both have one there
abbrev pub PartsAlike : Grammar → Structures → Structures → Type 0
PartsAlike g no_parts no_parts = Unit {0}
PartsAlike g no_parts (more_parts t ts) = IsOfSome g t
PartsAlike g (more_parts s ss) no_parts = IsOfSome g s
PartsAlike g (more_parts s ss) (more_parts t ts) = AreOfOne g s t × PartsAlike g ss ts

-- they are of one kind, with one rule or form, and what stands inside is of one expression, in a Union where the
-- argument is the same
abbrev pub Alike : Grammar → Structure → Structure → Type 0
Alike g (Eps x) (Eps y) = x ≡ y
Alike g (Atom x l) (Atom y m) = (x ≡ y) × (is_label g.universe l ≡ true) × (is_label g.universe m ≡ true)
Alike g (Named x s) (Named y t) = (x ≡ y) × AreOfOne g s t
Alike g (Alt k s) (Alt j t) = k ≡ j → AreOfOne g s t
Alike g (Tup f ss) (Tup h ts) = (f ≡ h) × PartsAlike g ss ts
Alike g s t = ⊥

-- two tests that names pass by one rule
record OneRule (x y : ℕ) (has also : Expression → Bool) : Type 0 where
  right : Expression
  same : x ≡ y
  first : has right ≡ true
  second : also right ≡ true

module _ (g : Grammar) where
  one_rule : (name : List ℕ) (x y : ℕ) (has also : Expression → Bool) → names g name x has ≡ true → names g name y also ≡ true → OneRule x y has also
  one_rule name x y has also h k =
      let one = rule_of g name x has h in
      let other = rule_of g name y also k in
      let numbers : Some x ≡ Some y = sym one.numbered ∙ other.numbered in
      let same : x ≡ y = cc in
      let rights : Some one.right ≡ Some other.right = sym one.sided ∙ ap (right_side g.rules) same ∙ other.sided in
      let right : one.right ≡ other.right = cc in
      record { right = one.right; same = same; first = one.holds; second = ap also right ∙ other.holds }

  not_both : (right : Expression) → is_epsilon right ≡ true → is_atom right ≡ true → ⊥
  not_both expr.Epsilon epsilon atom = true≢false (sym atom)
  not_both expr.Atom epsilon atom = true≢false (sym epsilon)
  not_both (expr.Name name) epsilon atom = true≢false (sym epsilon)
  not_both (expr.Union es) epsilon atom = true≢false (sym epsilon)
  not_both (expr.Prod es) epsilon atom = true≢false (sym epsilon)
  not_both (expr.Many kind e card) epsilon atom = true≢false (sym epsilon)

  not_epsilon : (right : Expression) (inside : Bool) → is_epsilon right ≡ true → (not (is_epsilon right || is_atom right) && inside) ≡ true → ⊥
  not_epsilon right inside epsilon named = grind (arith, epsilon, named)

  not_atom : (right : Expression) (inside : Bool) → is_atom right ≡ true → (not (is_epsilon right || is_atom right) && inside) ≡ true → ⊥
  not_atom right inside atom named = grind (arith, atom, named)

  -- two structures of a name
  by_name : (name : List ℕ) (s t : Structure) → is_of g (expr.Name name) s ≡ true → is_of g (expr.Name name) t ≡ true → Alike g s t
  by_name name (Eps x) (Eps y) of of' = (one_rule name x y is_epsilon is_epsilon of of').same
  by_name name (Eps x) (Atom y m) of of' =
      let rule = one_rule name x y is_epsilon is_atom of (and_parts _ _ of').0 in not_both rule.right rule.first rule.second
  by_name name (Eps x) (Named y t) of of' =
      let rule = one_rule name x y is_epsilon _ of of' in not_epsilon rule.right _ rule.first rule.second
  by_name name (Atom x l) (Eps y) of of' =
      let rule = one_rule name x y is_atom is_epsilon (and_parts _ _ of).0 of' in not_both rule.right rule.second rule.first
  by_name name (Atom x l) (Atom y m) of of' =
      let first = and_parts _ _ of in
      let second = and_parts _ _ of' in ((one_rule name x y is_atom is_atom first.0 second.0).same, first.1, second.1)
  by_name name (Atom x l) (Named y t) of of' =
      let rule = one_rule name x y is_atom _ (and_parts _ _ of).0 of' in not_atom rule.right _ rule.first rule.second
  by_name name (Named x s) (Eps y) of of' =
      let rule = one_rule name x y _ is_epsilon of of' in not_epsilon rule.right _ rule.second rule.first
  by_name name (Named x s) (Atom y m) of of' =
      let rule = one_rule name x y _ is_atom of (and_parts _ _ of').0 in not_atom rule.right _ rule.second rule.first
  by_name name (Named x s) (Named y t) of of' =
      let rule = one_rule name x y _ _ of of' in
      (rule.same, record { e = rule.right; first = (and_parts _ _ rule.first).1; second = (and_parts _ _ rule.second).1 })
  by_name name (Eps x) t of of' = absurd (true≢false (sym of'))
  by_name name (Atom x l) t of of' = absurd (true≢false (sym of'))
  by_name name (Named x s) t of of' = absurd (true≢false (sym of'))
  by_name name s t of of' = absurd (true≢false (sym of))

  by_argument : (es : Expressions) (k j : ℕ) (s t : Structure) → is_of g (expr.Union es) (Alt k s) ≡ true → is_of g (expr.Union es) (Alt j t) ≡ true → k ≡ j → AreOfOne g s t
  by_argument es k j s t of of' same =
      let one = held (λ (e : Expression). is_of g e s) (argument es k) of in
      let other = held (λ (e : Expression). is_of g e t) (argument es j) of' in
      let arguments : Some one.0 ≡ Some other.0 = sym one.1 ∙ ap (argument es) same ∙ other.1 in
      let argument_is : one.0 ≡ other.0 = cc in
      record { e = one.0; first = one.2; second = ap (λ (e : Expression). is_of g e t) argument_is ∙ other.2 }

  -- components of one element
  pub of_element : (e : Expression) (ss ts : Structures) → are_of g e ss ≡ true → are_of g e ts ≡ true → PartsAlike g ss ts
  of_element e no_parts no_parts are are' = tt
  of_element e no_parts (more_parts t ts) are are' = record { e = e; is = (and_parts _ _ are').0 }
  of_element e (more_parts s ss) no_parts are are' = record { e = e; is = (and_parts _ _ are).0 }
  of_element e (more_parts s ss) (more_parts t ts) are are' =
      let first = and_parts _ _ are in
      let second = and_parts _ _ are' in (record { e = e; first = first.0; second = second.0 }, of_element e ss ts first.1 second.1)

  -- components that are each of an argument
  pub of_arguments : (es : Expressions) (ss ts : Structures) → are_of_each g es ss ≡ true → are_of_each g es ts ≡ true → PartsAlike g ss ts
  of_arguments no_expressions no_parts no_parts are are' = tt
  of_arguments (more_expressions e es) (more_parts s ss) (more_parts t ts) are are' =
      let first = and_parts _ _ are in
      let second = and_parts _ _ are' in (record { e = e; first = first.0; second = second.0 }, of_arguments es ss ts first.1 second.1)
  of_arguments no_expressions no_parts (more_parts t ts) are are' = absurd (true≢false (sym are'))
  of_arguments (more_expressions e es) (more_parts s ss) no_parts are are' = absurd (true≢false (sym are'))
  of_arguments es ss ts are are' = absurd (true≢false (sym are))

  -- two structures of one expression are alike
  pub alike : (e : Expression) (s t : Structure) → is_of g e s ≡ true → is_of g e t ≡ true → Alike g s t
  alike (expr.Name name) s t of of' = by_name name s t of of'
  alike (expr.Many kind e card) s t of of' =
      let one = many_is g kind e card s of in
      let other = many_is g kind e card t of' in
      subst₂ (Alike g) (sym one.is) (sym other.is) (refl, of_element e one.parts other.parts one.are other.are)
  alike expr.Epsilon (Eps x) (Eps y) of of' = eqb-true x 0 of ∙ sym (eqb-true y 0 of')
  alike expr.Epsilon (Eps x) t of of' = absurd (true≢false (sym of'))
  alike expr.Atom (Atom x l) (Atom y m) of of' =
      let first = and_parts _ _ of in
      let second = and_parts _ _ of' in (eqb-true x 0 first.0 ∙ sym (eqb-true y 0 second.0), first.1, second.1)
  alike expr.Atom (Atom x l) t of of' = absurd (true≢false (sym of'))
  alike (expr.Union es) (Alt k s) (Alt j t) of of' = by_argument es k j s t of of'
  alike (expr.Union es) (Alt k s) t of of' = absurd (true≢false (sym of'))
  alike (expr.Prod es) (Tup form.Prod ss) (Tup form.Prod ts) of of' = (refl, of_arguments es ss ts of of')
  alike (expr.Prod es) (Tup form.Prod ss) t of of' = absurd (true≢false (sym of'))
  alike e s t of of' = absurd (true≢false (sym of))
