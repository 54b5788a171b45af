-- Where no Cycle stands that the universe doesn't allow, none stands in a part or at a node.
use Rattle.std.proofs.Common.{◌≡◌, ℕ, zero, suc, Bool, true, false, ◌&&◌, ◌||◌, List, ◌++◌, slice_get, Some, inl, inr, refl, sym, ◌∙◌, subst}
use Rattle.std.specs.List.{list_all}
use Rattle.std.proofs.lemmas.Bool.{and_parts, true_from_ne_false}
use Rattle.std.proofs.lemmas.List.Folds.{list_all-append as all-append}
use Rattle.spec_syntax.specs.declared.expr.Kind.{Kind}
use Rattle.spec_syntax.specs.declared.expr.Kind.TheVariants as kind
use Rattle.spec_syntax.specs.declared.expr.Card.{Card}
use Rattle.spec_syntax.specs.Expression as expr
use Rattle.spec_syntax.specs.Expression.{Expression, Expressions, no_expressions, more_expressions, expression_list, preorder, preorder_of_all}
use Rattle.spec_syntax.specs.Rules.{right_side}
use Rattle.spec_syntax.specs.Grammar.{Grammar}
use Rattle.struct_model.specs.Membership.{is_labelled}
use Rattle.lists.specs.Enumeration.{IsIn}
use Rattle.lists.proofs.Places.{all_pass}
use Rattle.well_founded.specs.WellFounded.{is_no_cycle, may_hold_cycles, HoldsCycle, OfNone}
use Rattle.spec_syntax.specs.Nodes.{node_at, right_node}
use Rattle.lists.proofs.Within.{in_either}
use Rattle.lists.proofs.Tests.{all_from}
use Rattle.spec_syntax.proofs.NodesLemmas.{node_stands, all_of_rules, right_node_is}

-- ---- parts

-- may the Cycles in these expressions stand
abbrev pub may_all : Grammar → Expressions → Bool
may_all g es = is_labelled g.universe || list_all is_no_cycle (preorder_of_all es)

or_both : (a : Bool) (xs ys : List Expression) → (a || list_all is_no_cycle (xs ++ ys)) ≡ true → ((a || list_all is_no_cycle xs) ≡ true) × ((a || list_all is_no_cycle ys) ≡ true)
or_both true xs ys h = (refl, refl)
or_both false xs ys h = and_parts _ _ (sym (all-append is_no_cycle xs ys) ∙ h)

or_second : (a b c : Bool) → (a || (b && c)) ≡ true → (a || c) ≡ true
or_second true b c h = refl
or_second false b c h = (and_parts b c h).1

-- a name is allowed
pub name_allowed : (g : Grammar) (name : List ℕ) → may_hold_cycles g (expr.Name name) ≡ true
name_allowed g name = by (is_labelled g.universe)
  where
    by : (b : Bool) → (b || true) ≡ true
    by true = refl
    by false = refl

pub both_allowed : (g : Grammar) (e : Expression) (es : Expressions) → may_all g (more_expressions e es) ≡ true → (may_hold_cycles g e ≡ true) × (may_all g es ≡ true)
both_allowed g e es h = or_both (is_labelled g.universe) (preorder e) (preorder_of_all es) h

pub argument_allowed : (g : Grammar) (es : Expressions) (place : ℕ) (e : Expression) → may_all g es ≡ true → slice_get (expression_list es) place ≡ Some e → may_hold_cycles g e ≡ true
argument_allowed g no_expressions place e h at = absurd (cc)
argument_allowed g (more_expressions f es) zero e h at =
    let same : f ≡ e = cc in subst (λ (x : Expression). may_hold_cycles g x ≡ true) same (both_allowed g f es h).0
argument_allowed g (more_expressions f es) (suc place) e h at = argument_allowed g es place e (both_allowed g f es h).1 at

pub element_allowed : (g : Grammar) (kind : Kind) (e : Expression) (card : Card) → may_hold_cycles g (expr.Many kind e card) ≡ true → may_hold_cycles g e ≡ true
element_allowed g kind e card h = or_second (is_labelled g.universe) (is_no_cycle (expr.Many kind e card)) (list_all is_no_cycle (preorder e)) h

-- what all parts of an expression pass all parts of an element in it pass
mutual
  part_passes : (test : Expression → Bool) (f : Expression) (kind : Kind) (e : Expression) (card : Card) → IsIn (expr.Many kind e card) (preorder f) → list_all test (preorder f) ≡ true
      → list_all test (preorder e) ≡ true
  part_passes test (expr.Union es) kind e card (inl same) h = absurd (cc)
  part_passes test (expr.Union es) kind e card (inr there) h = parts_pass test es kind e card there (and_parts _ _ h).1
  part_passes test (expr.Prod es) kind e card (inl same) h = absurd (cc)
  part_passes test (expr.Prod es) kind e card (inr there) h = parts_pass test es kind e card there (and_parts _ _ h).1
  part_passes test (expr.Many k f c) kind e card (inl same) h =
      let this : f ≡ e = cc in subst (λ (x : Expression). list_all test (preorder x) ≡ true) this (and_parts _ _ h).1
  part_passes test (expr.Many k f c) kind e card (inr there) h = part_passes test f kind e card there (and_parts _ _ h).1
  part_passes test expr.Epsilon kind e card (inl same) h = absurd (cc)
  part_passes test expr.Epsilon kind e card (inr there) h = absurd there
  part_passes test expr.Atom kind e card (inl same) h = absurd (cc)
  part_passes test expr.Atom kind e card (inr there) h = absurd there
  part_passes test (expr.Name name) kind e card (inl same) h = absurd (cc)
  part_passes test (expr.Name name) kind e card (inr there) h = absurd there

  parts_pass : (test : Expression → Bool) (es : Expressions) (kind : Kind) (e : Expression) (card : Card) → IsIn (expr.Many kind e card) (preorder_of_all es)
      → list_all test (preorder_of_all es) ≡ true → list_all test (preorder e) ≡ true
  parts_pass test no_expressions kind e card there h = absurd there
  parts_pass test (more_expressions f es) kind e card there h =
      let both = and_parts _ _ (sym (all-append test (preorder f) (preorder_of_all es)) ∙ h) in
      elim (in_either (expr.Many kind e card) (preorder f) (preorder_of_all es) there) [
        | inl here ↦ part_passes test f kind e card here both.0
        | inr later ↦ parts_pass test es kind e card later both.1
      ]

-- the element of a container that stands in the expression
pub inside_allowed : (g : Grammar) (right : Expression) (kind : Kind) (e : Expression) (card : Card) → may_hold_cycles g right ≡ true → IsIn (expr.Many kind e card) (preorder right)
    → may_hold_cycles g e ≡ true
inside_allowed g right kind e card h there = by (is_labelled g.universe) h
  where
    by : (a : Bool) → (a || list_all is_no_cycle (preorder right)) ≡ true → (a || list_all is_no_cycle (preorder e)) ≡ true
    by true h = refl
    by false h = part_passes is_no_cycle right kind e card there h

-- where a Cycle stands the universe is labelled
pub cycle_labelled : (g : Grammar) (e : Expression) (card : Card) → may_hold_cycles g (expr.Many kind.Cycle e card) ≡ true → is_labelled g.universe ≡ true
cycle_labelled g e card h = by (is_labelled g.universe) h
  where
    by : (a : Bool) → (a || false) ≡ true → a ≡ true
    by true h = refl
    by false h = h

-- ---- nodes

-- each right side is allowed
pub rule_allowed : (g : Grammar) (name : List ℕ) (right : Expression) → OfNone (HoldsCycle g) g.rules → IsIn (name, right) g.rules → may_hold_cycles g right ≡ true
rule_allowed g name right none there = true_from_ne_false (may_hold_cycles g right) (none name right there)

-- and the expression of each node
pub node_allowed : (g : Grammar) (n : ℕ) (e : Expression) → OfNone (HoldsCycle g) g.rules → node_at g.rules n ≡ Some e → may_hold_cycles g e ≡ true
node_allowed g n e none at = by (is_labelled g.universe) (λ name right there. rule_allowed g name right none there)
  where
    by : (a : Bool) → ((name : List ℕ) (right : Expression) → IsIn (name, right) g.rules → (a || list_all is_no_cycle (preorder right)) ≡ true) → (a || list_all is_no_cycle (preorder e)) ≡ true
    by true each = refl
    by false each =
        all_pass is_no_cycle _ n (preorder e) (node_stands g.rules n e at)
        (all_of_rules is_no_cycle g.rules (all_from (λ (rule : List ℕ × Expression). list_all is_no_cycle (preorder rule.1)) g.rules (λ rule there. each rule.0 rule.1 there)))

pub right_allowed : (g : Grammar) (n : ℕ) (right : Expression) → OfNone (HoldsCycle g) g.rules → right_side g.rules n ≡ Some right → may_hold_cycles g right ≡ true
right_allowed g n right none sided = node_allowed g (right_node g.rules n) right none (right_node_is g.rules n right sided)
