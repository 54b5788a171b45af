-- Least sizes by recursion are least sizes, where what is said of names is.
use Rattle.std.proofs.Common.{◌≡◌, ℕ, zero, suc, ◌+◌, ◌*◌, ◌≤◌, min, Bool, true, false, not, ◌&&◌, ◌||◌, List, length, nat_eq, Option, Some, None, refl, sym, ap, ◌∙◌, subst, arith, true≢false, length-append}
use Rattle.std.specs.Option.{option_map, option_map_or, option_and_then}
use Rattle.std.proofs.lemmas.Bool.{and_parts, and_from, eqb-true, eq-eqb}
use Rattle.lists.proofs.Tests.{held}
use Rattle.spec_syntax.specs.declared.expr.Kind.{Kind}
use Rattle.spec_syntax.specs.declared.expr.Card.{Card}
use Rattle.spec_syntax.specs.Expression as expr
use Rattle.spec_syntax.specs.Expression.{Expression, Expressions, no_expressions, more_expressions}
use Rattle.spec_syntax.specs.Rules.{symbol, right_side}
use Rattle.spec_syntax.specs.Grammar.{Grammar}
use Rattle.struct_model.specs.declared.tree.Form5.{Form5}
use Rattle.struct_model.specs.declared.tree.Form5.TheVariants as form
use Rattle.struct_model.specs.Structure.{Structure, Eps, Atom, Named, Alt, Tup, Structures, no_parts, more_parts, part_list, labels, labels_of_parts, size}
use Rattle.struct_model.specs.Membership.{is_of, are_of, are_of_each, argument, names, is_epsilon, is_atom}
use Rattle.well_founded.specs.Sets.{with_sets, all_with_sets, reading_sets}
use Rattle.well_founded.specs.Sizes.{IsOf, no_least}
use Rattle.well_founded.specs.Least.{lesser, together, low_count, fewest, copies, least_with, least_of_some, least_of_all}
use Rattle.well_founded.proofs.SetsLaws.{symbol_reading, right_reading, argument_reading, epsilon_reading, atom_reading, mapped}
use Rattle.well_founded.proofs.ManyLaws.{form_of, many_is, fewest_is}

-- ---- what a test of a name tells

pub record HasRule (g : Grammar) (name : List ℕ) (n : ℕ) (has : Expression → Bool) : Type 0 where
  pub right : Expression
  pub numbered : symbol g.rules name ≡ Some n
  pub sided : right_side g.rules n ≡ Some right
  pub holds : has right ≡ true

pub rule_of : (g : Grammar) (name : List ℕ) (n : ℕ) (has : Expression → Bool) → names g name n has ≡ true → HasRule g name n has
rule_of g name n has h =
    let both = and_parts _ _ h in
    let number = held (nat_eq n) (symbol g.rules name) both.0 in
    let side = held has (right_side g.rules n) both.1 in
    let same : number.0 ≡ n = sym (eqb-true n number.0 number.2) in
    record { right = side.0; numbered = number.1 ∙ ap Some same; sided = side.1; holds = side.2 }

pub names_from : (g : Grammar) (name : List ℕ) (n : ℕ) (right : Expression) (has : Expression → Bool) → symbol g.rules name ≡ Some n → right_side g.rules n ≡ Some right
    → has right ≡ true → names g name n has ≡ true
names_from g name n right has numbered sided h =
    and_from _ _ (ap (λ o. option_map_or (nat_eq n) o false) numbered ∙ eq-eqb n n refl) (ap (λ o. option_map_or has o false) sided ∙ h)

-- the same of a name in the grammar where each PowerSet is read as Set
pub rule_read : (g : Grammar) (name : List ℕ) (n : ℕ) (has : Expression → Bool) → names (reading_sets g) name n has ≡ true → HasRule g name n (λ right. has (with_sets right))
rule_read g name n has h =
    let rule = rule_of (reading_sets g) name n has h in
    let right = mapped with_sets (right_side g.rules n) rule.right (sym (right_reading g n) ∙ rule.sided) in
    record { right = right.0; numbered = sym (symbol_reading g name) ∙ rule.numbered; sided = right.1; holds = ap has right.2 ∙ rule.holds }

pub names_read : (g : Grammar) (name : List ℕ) (n : ℕ) (right : Expression) (has : Expression → Bool) → symbol g.rules name ≡ Some n → right_side g.rules n ≡ Some right
    → has (with_sets right) ≡ true → names (reading_sets g) name n has ≡ true
names_read g name n right has numbered sided h =
    names_from (reading_sets g) name n (with_sets right) has (symbol_reading g name ∙ numbered) (right_reading g n ∙ ap (option_map with_sets) sided) h

-- the rule of a name with a structure that tells the right side's inside it
pub record HasInside (g : Grammar) (name : List ℕ) (n : ℕ) (s : Structure) : Type 0 where
  pub right : Expression
  pub numbered : symbol g.rules name ≡ Some n
  pub sided : right_side g.rules n ≡ Some right
  pub told : not (is_epsilon right || is_atom right) ≡ true
  pub is : IsOf g right s

pub name_inside : (g : Grammar) (name : List ℕ) (n : ℕ) (s : Structure) → IsOf g (expr.Name name) (Named n s) → HasInside g name n s
name_inside g name n s of =
    let rule = rule_read g name n (λ right. not (is_epsilon right || is_atom right) && is_of (reading_sets g) right s) of in
    let both = and_parts _ _ rule.holds in
    record {
      right = rule.right;
      numbered = rule.numbered;
      sided = rule.sided;
      told = (λ i. not (sym (epsilon_reading rule.right) i || sym (atom_reading rule.right) i)) ∙ both.0;
      is = both.1;
    }

-- and the structure of a name that is made of one of its right side
pub name_is : (g : Grammar) (name : List ℕ) (n : ℕ) (right : Expression) (s : Structure) → symbol g.rules name ≡ Some n → right_side g.rules n ≡ Some right
    → not (is_epsilon right || is_atom right) ≡ true → IsOf g right s → IsOf g (expr.Name name) (Named n s)
name_is g name n right s numbered sided told of =
    names_read g name n right (λ side. not (is_epsilon side || is_atom side) && is_of (reading_sets g) side s) numbered sided
    (and_from _ _ ((λ i. not (epsilon_reading right i || atom_reading right i)) ∙ told) of)

-- and of an argument of a Union
pub argument_read : (g : Grammar) (es : Expressions) (k : ℕ) (s : Structure) → option_map_or (λ e. is_of (reading_sets g) e s) (argument (all_with_sets es) k) false ≡ true
    → (e : Expression) × (argument es k ≡ Some e) × IsOf g e s
argument_read g es k s of =
    let found = held (λ e. is_of (reading_sets g) e s) (argument (all_with_sets es) k) of in
    let e = mapped with_sets (argument es k) found.0 (sym (argument_reading es k) ∙ found.1) in
    (e.0, e.1, ap (λ f. is_of (reading_sets g) f s) e.2 ∙ found.2)

pub read_argument : (g : Grammar) (es : Expressions) (k : ℕ) (e : Expression) (s : Structure) → argument es k ≡ Some e → IsOf g e s
    → option_map_or (λ f. is_of (reading_sets g) f s) (argument (all_with_sets es) k) false ≡ true
read_argument g es k e s at of = ap (λ o. option_map_or (λ f. is_of (reading_sets g) f s) o false) (argument_reading es k ∙ ap (option_map with_sets) at) ∙ of

same_parts_of : (f h : Form5) (ss ts : Structures) → Tup f ts ≡ Tup h ss → ss ≡ ts
same_parts_of f h ss ts same = cc

-- ---- by what is said of names no structure is smaller

-- it is a size of at most n
pub record IsAtMost (o : Option ℕ) (n : ℕ) : Type 0 where
  pub least : ℕ
  pub is : o ≡ Some least
  pub within : least ≤ n

lesser_first : (a b : Option ℕ) (n : ℕ) → IsAtMost a n → IsAtMost (lesser a b) n
lesser_first a None n h = record { least = h.least; is = ap (λ o. lesser o None) h.is; within = h.within }
lesser_first a (Some m) n h = record { least = min h.least m; is = ap (λ o. lesser o (Some m)) h.is; within = omega (arith, h.within) }

lesser_second : (a b : Option ℕ) (n : ℕ) → IsAtMost b n → IsAtMost (lesser a b) n
lesser_second None b n h = h
lesser_second (Some m) b n h = record { least = min m h.least; is = ap (lesser (Some m)) h.is; within = omega (arith, h.within) }

together_of : (a b : Option ℕ) (m n : ℕ) → IsAtMost a m → IsAtMost b n → IsAtMost (together a b) (m + n)
together_of a b m n h k = record {
  least = min (h.least + k.least) no_least;
  is = (λ i. together (h.is i) (k.is i));
  within = omega (arith, h.within, k.within);
}

-- the least size of one more structure
pub copies_more : (n : ℕ) (size : Option ℕ) → copies (suc n) size ≡ together size (copies n size)
copies_more n None = by n
  where
    by : (n : ℕ) → copies (suc n) None ≡ None
    by n = refl
copies_more zero (Some m) = ap Some (omega arith)
copies_more (suc n) (Some m) = ap Some (more (suc n * m) (suc (suc n) * m) (twice (suc n) m))
  where
    twice : (c k : ℕ) → suc c * k ≡ k + c * k
    twice c k = omega arith

    more : (k j : ℕ) → j ≡ m + k → min j no_least ≡ min (m + min k no_least) no_least
    more k j same = omega arith

module _ (g : Grammar) (sizes : List ℕ → Option ℕ) where
  -- what is said of a rule's name is what is found for its right side
  abbrev pub IsClosed : Type 0
  IsClosed = (name : List ℕ) (n : ℕ) (right : Expression) → symbol g.rules name ≡ Some n → right_side g.rules n ≡ Some right → sizes name ≡ least_with sizes right

  argument_at_most : (es : Expressions) (k : ℕ) (e : Expression) (n : ℕ) → argument es k ≡ Some e → IsAtMost (least_with sizes e) n → IsAtMost (least_of_some sizes es) n
  argument_at_most no_expressions k e n at h = cc
  argument_at_most (more_expressions f es) zero e n at h = cc
  argument_at_most (more_expressions f es) (suc zero) e n at h =
      let same : e ≡ f = cc in lesser_first (least_with sizes f) (least_of_some sizes es) n (subst (λ e. IsAtMost (least_with sizes e) n) same h)
  argument_at_most (more_expressions f es) (suc (suc k)) e n at h = lesser_second (least_with sizes f) (least_of_some sizes es) n (argument_at_most es (suc k) e n at h)

  name_at_most : (name : List ℕ) (x n : ℕ) (has : Expression → Bool) → IsClosed → (rule : HasRule g name x has) → IsAtMost (least_with sizes rule.right) n → IsAtMost (sizes name) n
  name_at_most name x n has closed rule h = subst (λ o. IsAtMost o n) (sym (closed name x rule.right rule.numbered rule.sided)) h

  epsilon_at_most : (e : Expression) → is_epsilon e ≡ true → IsAtMost (least_with sizes e) 0
  epsilon_at_most expr.Epsilon h = record { least = 0; is = refl; within = omega arith }
  epsilon_at_most e h = absurd (true≢false (sym h))

  atom_at_most : (e : Expression) → is_atom e ≡ true → IsAtMost (least_with sizes e) 1
  atom_at_most expr.Atom h = record { least = 1; is = refl; within = omega arith }
  atom_at_most e h = absurd (true≢false (sym h))

  many_at_most : (kind : Kind) (e : Expression) (card : Card) (n m : ℕ) → fewest kind card ≡ Some n → IsAtMost (copies n (least_with sizes e)) m → IsAtMost (least_with sizes (expr.Many kind e card)) m
  many_at_most kind e card n m few h = record { least = h.least; is = ap (option_and_then (λ count. copies count (least_with sizes e))) few ∙ h.is; within = h.within }

  module _ (closed : IsClosed) where
    mutual
      pub at_most : (s : Structure) (e : Expression) → IsOf g e s → IsAtMost (least_with sizes e) (size s)
      at_most s expr.Epsilon of = record { least = 0; is = refl; within = omega arith }
      at_most (Atom x l) expr.Atom of = record { least = 1; is = refl; within = omega arith }
      at_most (Eps x) (expr.Name name) of =
          let rule = rule_read g name x is_epsilon of in
          name_at_most name x 0 (λ right. is_epsilon (with_sets right)) closed rule (epsilon_at_most rule.right (sym (epsilon_reading rule.right) ∙ rule.holds))
      at_most (Atom x l) (expr.Name name) of =
          let rule = rule_read g name x is_atom (and_parts _ _ of).0 in
          name_at_most name x 1 (λ right. is_atom (with_sets right)) closed rule (atom_at_most rule.right (sym (atom_reading rule.right) ∙ rule.holds))
      at_most (Named x s) (expr.Name name) of =
          let rule = name_inside g name x s of in
          subst (λ o. IsAtMost o (size s)) (sym (closed name x rule.right rule.numbered rule.sided)) (at_most s rule.right rule.is)
      at_most (Alt k s) (expr.Union es) of =
          let found = argument_read g es k s of in
          argument_at_most es k found.0 (size s) found.1 (at_most s found.0 found.2)
      at_most (Tup form.Prod ss) (expr.Prod es) of = all_at_most ss es of
      at_most (Tup f ss) (expr.Many kind e card) of =
          let many = many_is g kind e card (Tup f ss) of in
          let same : many.parts ≡ ss = same_parts_of f (form_of kind) many.parts ss many.is in
          many_at_most kind e card (low_count kind card) (length (labels_of_parts ss)) (fewest_is kind card (length (part_list many.parts)) many.admitted many.enough)
          (each_at_most ss e (low_count kind card) (subst (λ ts. are_of (reading_sets g) (with_sets e) ts ≡ true) same many.are)
          (subst (λ ts. low_count kind card ≤ length (part_list ts)) same many.enough))
      at_most s (expr.Many kind e card) of = let many = many_is g kind e card s of in absurd (cc)
      at_most s e of = absurd (true≢false (sym of))

      all_at_most : (ss : Structures) (es : Expressions) → are_of_each (reading_sets g) (all_with_sets es) ss ≡ true → IsAtMost (least_of_all sizes es) (length (labels_of_parts ss))
      all_at_most no_parts no_expressions of = record { least = 0; is = refl; within = omega arith }
      all_at_most (more_parts s ss) (more_expressions e es) of =
          let both = and_parts _ _ of in
          subst (IsAtMost (together (least_with sizes e) (least_of_all sizes es))) (sym (length-append (labels s) (labels_of_parts ss)))
          (together_of (least_with sizes e) (least_of_all sizes es) (size s) (length (labels_of_parts ss)) (at_most s e both.0) (all_at_most ss es both.1))
      all_at_most ss es of = absurd (true≢false (sym of))

      -- so many structures of one expression are no smaller together
      each_at_most : (ss : Structures) (e : Expression) (n : ℕ) → are_of (reading_sets g) (with_sets e) ss ≡ true → n ≤ length (part_list ss)
          → IsAtMost (copies n (least_with sizes e)) (length (labels_of_parts ss))
      each_at_most ss e zero of enough = record { least = 0; is = refl; within = omega arith }
      each_at_most no_parts e (suc n) of enough = absurd (omega arith)
      each_at_most (more_parts s ss) e (suc n) of enough =
          let both = and_parts _ _ of in
          let size_is : IsAtMost (together (least_with sizes e) (copies n (least_with sizes e))) (size s + length (labels_of_parts ss)) =
          together_of (least_with sizes e) (copies n (least_with sizes e)) (size s) (length (labels_of_parts ss)) (at_most s e both.0) (each_at_most ss e n both.1 (omega arith)) in
          subst (IsAtMost (copies (suc n) (least_with sizes e))) (sym (length-append (labels s) (labels_of_parts ss)))
          (subst (λ o. IsAtMost o (size s + length (labels_of_parts ss))) (sym (copies_more n (least_with sizes e))) size_is)
