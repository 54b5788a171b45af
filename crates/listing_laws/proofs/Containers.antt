-- The lists of components among the structures of an expression.
use Rattle.std.proofs.Common.{◌≡◌, Bool, true, false, refl, sym, subst, true≢false}
use Rattle.std.proofs.lemmas.Bool.{and_parts}
use Rattle.spec_syntax.specs.declared.expr.Card.{Card}
use Rattle.spec_syntax.specs.declared.expr.Kind.{Kind}
use Rattle.spec_syntax.specs.declared.expr.Kind.TheVariants as kind
use Rattle.spec_syntax.specs.Expression as expr
use Rattle.spec_syntax.specs.Expression.{Expression}
use Rattle.spec_syntax.specs.Grammar.{Grammar}
use Rattle.struct_model.specs.declared.tree.Form5.{Form5}
use Rattle.struct_model.specs.declared.tree.Form5.TheVariants as form
use Rattle.struct_model.specs.Structure.{Structure, Tup, Structures, part_list}
use Rattle.struct_model.specs.Membership.{is_of, are_of, are_of_each}
use Rattle.lists.specs.Enumeration.{IsIn}
use Rattle.well_founded.specs.Rank.{StandsAt}

abbrev pub kind_form : Kind → Form5
kind_form kind.Sequence = form.Sequence
kind_form kind.Set = form.Set
kind_form kind.PowerSet = form.PowerSet
kind_form kind.Cycle = form.Cycle

-- the form of the lists of components among the structures of the expression
abbrev pub list_form : Expression → Form5
list_form (expr.Many kind e card) = kind_form kind
list_form e = form.Prod

module _ (g : Grammar) where
  -- is each component one of its expression
  abbrev pub parts_pass : Expression → Structures → Bool
  parts_pass (expr.Prod es) ss = are_of_each g es ss
  parts_pass (expr.Many kind e card) ss = are_of g e ss
  parts_pass e ss = false

  pub list_is : (e : Expression) (f : Form5) (ss : Structures) → is_of g e (Tup f ss) ≡ true → (f ≡ list_form e) × (parts_pass e ss ≡ true)
  list_is (expr.Prod es) form.Prod ss of = (refl, of)
  list_is (expr.Many kind.Sequence e card) form.Sequence ss of = (refl, (and_parts _ _ of).1)
  list_is (expr.Many kind.Set e card) form.Set ss of = (refl, (and_parts _ _ of).1)
  list_is (expr.Many kind.PowerSet e card) form.PowerSet ss of = (refl, (and_parts _ _ of).1)
  list_is (expr.Many kind.Cycle e card) form.Cycle ss of = (refl, (and_parts _ _ of).1)
  list_is e f ss of = absurd (true≢false (sym of))

  abbrev pub is_list : Structure → Bool
  is_list (Tup f ss) = true
  is_list s = false

  -- a container has lists of components alone
  pub no_list : (kind : Kind) (e : Expression) (card : Card) (s : Structure) → is_list s ≡ false → is_of g (expr.Many kind e card) s ≡ false
  no_list kind.Sequence e card (Tup f ss) h = absurd (true≢false h)
  no_list kind.Sequence e card s h = refl
  no_list kind.Set e card (Tup f ss) h = absurd (true≢false h)
  no_list kind.Set e card s h = refl
  no_list kind.PowerSet e card (Tup f ss) h = absurd (true≢false h)
  no_list kind.PowerSet e card s h = refl
  no_list kind.Cycle e card (Tup f ss) h = absurd (true≢false h)
  no_list kind.Cycle e card s h = refl

  pub no_product : (kind : Kind) (e : Expression) (card : Card) (ss : Structures) → is_of g (expr.Many kind e card) (Tup form.Prod ss) ≡ false
  no_product kind.Sequence e card ss = refl
  no_product kind.Set e card ss = refl
  no_product kind.PowerSet e card ss = refl
  no_product kind.Cycle e card ss = refl

  -- ---- the components of a container

  -- the structure is a list of components, each of the element
  pub record IsContainer (kind : Kind) (e : Expression) (f : Form5) (ss : Structures) : Type 0 where
    pub has_form : f ≡ kind_form kind
    pub are : are_of g e ss ≡ true

  pub container_is : (kind : Kind) (e : Expression) (card : Card) (f : Form5) (ss : Structures) → is_of g (expr.Many kind e card) (Tup f ss) ≡ true → IsContainer kind e f ss
  container_is kind e card f ss of = let both = list_is (expr.Many kind e card) f ss of in record { has_form = both.0; are = both.1 }

  kind_stands : (kind : Kind) (ss : Structures) (t : Structure) → IsIn t (part_list ss) → StandsAt (Tup (kind_form kind) ss) 0 t
  kind_stands kind.Sequence ss t there = (refl, there)
  kind_stands kind.Set ss t there = (refl, there)
  kind_stands kind.PowerSet ss t there = (refl, there)
  kind_stands kind.Cycle ss t there = (refl, there)

  -- each component stands at the one place of a container
  pub component_stands : (kind : Kind) (f : Form5) (ss : Structures) (t : Structure) → f ≡ kind_form kind → IsIn t (part_list ss) → StandsAt (Tup f ss) 0 t
  component_stands kind f ss t same there = subst (λ (h : Form5). StandsAt (Tup h ss) 0 t) (sym same) (kind_stands kind ss t there)
