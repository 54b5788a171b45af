-- The structures of containers: which form they have, and of what their components are.
use Rattle.std.proofs.Common.{◌≡◌, true, refl, sym, true≢false}
use Rattle.std.proofs.lemmas.Bool.{and_parts}
use Rattle.spec_syntax.specs.declared.expr.Kind.{Kind}
use Rattle.spec_syntax.specs.declared.expr.Kind.TheVariants as kind
use Rattle.spec_syntax.specs.declared.expr.Card.{Card}
use Rattle.spec_syntax.specs.Expression as expr
use Rattle.spec_syntax.specs.Expression.{Expression}
use Rattle.spec_syntax.specs.Grammar.{Grammar}
use Rattle.struct_model.specs.declared.tree.Form5.{Form5}
use Rattle.struct_model.specs.declared.tree.Form5.TheVariants as form
use Rattle.struct_model.specs.Structure.{Structure, Tup, Structures}
use Rattle.struct_model.specs.Membership.{is_of, are_of}

-- the form of a container's structures
abbrev pub form_of : Kind → Form5
form_of kind.Sequence = form.Sequence
form_of kind.Set = form.Set
form_of kind.PowerSet = form.PowerSet
form_of kind.Cycle = form.Cycle

-- it has the container's form, and components that are structures of the element
pub record IsMany (g : Grammar) (kind : Kind) (e : Expression) (s : Structure) : Type 0 where
  pub parts : Structures
  pub is : s ≡ Tup (form_of kind) parts
  pub are : are_of g e parts ≡ true

pub many_is : (g : Grammar) (kind : Kind) (e : Expression) (card : Card) (s : Structure) → is_of g (expr.Many kind e card) s ≡ true → IsMany g kind e s
many_is g kind.Sequence e card (Tup form.Sequence ss) of = record { parts = ss; is = refl; are = (and_parts _ _ of).1 }
many_is g kind.Set e card (Tup form.Set ss) of = record { parts = ss; is = refl; are = (and_parts _ _ of).1 }
many_is g kind.PowerSet e card (Tup form.PowerSet ss) of = record { parts = ss; is = refl; are = (and_parts _ _ of).1 }
many_is g kind.Cycle e card (Tup form.Cycle ss) of = record { parts = ss; is = refl; are = (and_parts _ _ of).1 }
many_is g kind e card s of = absurd (true≢false (sym of))
