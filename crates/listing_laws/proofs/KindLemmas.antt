-- Kinds of nodes.
use Rattle.std.proofs.Common.{◌≡◌, true, false, List, ℕ, refl, sym, ap, ◌∙◌, true≢false}
use Rattle.spec_syntax.specs.declared.expr.Card.{Card}
use Rattle.spec_syntax.specs.declared.expr.Kind.{Kind}
use Rattle.spec_syntax.specs.declared.expr.Kind.TheVariants as kind
use Rattle.spec_syntax.specs.Expression as expr
use Rattle.spec_syntax.specs.Expression.{Expression, Expressions}
use Rattle.well_founded.specs.declared.node.NodeKind.{NodeKind}
use Rattle.well_founded.specs.declared.node.NodeKind.TheVariants as told
use Rattle.well_founded.specs.NodeKinds.{kind_of, container, is_container}

told_container : (k : Kind) → is_container (container k) ≡ true
told_container kind.Sequence = refl
told_container kind.Set = refl
told_container kind.PowerSet = refl
told_container kind.Cycle = refl

no_container : (k : Kind) (other : NodeKind) → is_container other ≡ false → container k ≡ other → ⊥
no_container k other none h = true≢false (sym (told_container k) ∙ ap is_container h ∙ none)

pub epsilon_is : (e : Expression) → kind_of e ≡ told.Epsilon → e ≡ expr.Epsilon
epsilon_is expr.Epsilon h = refl
epsilon_is (expr.Many k element card) h = absurd (no_container k told.Epsilon refl h)
epsilon_is e h = absurd (cc)

pub atom_is : (e : Expression) → kind_of e ≡ told.Atom → e ≡ expr.Atom
atom_is expr.Atom h = refl
atom_is (expr.Many k element card) h = absurd (no_container k told.Atom refl h)
atom_is e h = absurd (cc)

pub rule_is : (e : Expression) → kind_of e ≡ told.Rule → (name : List ℕ) × (e ≡ expr.Name name)
rule_is (expr.Name name) h = (name, refl)
rule_is (expr.Many k element card) h = absurd (no_container k told.Rule refl h)
rule_is e h = absurd (cc)

pub union_is : (e : Expression) → kind_of e ≡ told.Union → (es : Expressions) × (e ≡ expr.Union es)
union_is (expr.Union es) h = (es, refl)
union_is (expr.Many k element card) h = absurd (no_container k told.Union refl h)
union_is e h = absurd (cc)

pub prod_is : (e : Expression) → kind_of e ≡ told.Prod → (es : Expressions) × (e ≡ expr.Prod es)
prod_is (expr.Prod es) h = (es, refl)
prod_is (expr.Many k element card) h = absurd (no_container k told.Prod refl h)
prod_is e h = absurd (cc)

same_kind : (j k : Kind) → container j ≡ container k → j ≡ k
same_kind kind.Sequence kind.Sequence h = refl
same_kind kind.Set kind.Set h = refl
same_kind kind.PowerSet kind.PowerSet h = refl
same_kind kind.Cycle kind.Cycle h = refl
same_kind j k h = absurd (cc)

pub many_is : (k : Kind) (e : Expression) → kind_of e ≡ container k → (element : Expression) × (card : Card) × (e ≡ expr.Many k element card)
many_is k (expr.Many j element card) h = (element, card, ap (λ (own : Kind). expr.Many own element card) (same_kind j k h))
many_is k expr.Epsilon h = absurd (no_container k told.Epsilon refl (sym h))
many_is k expr.Atom h = absurd (no_container k told.Atom refl (sym h))
many_is k (expr.Name name) h = absurd (no_container k told.Rule refl (sym h))
many_is k (expr.Union es) h = absurd (no_container k told.Union refl (sym h))
many_is k (expr.Prod es) h = absurd (no_container k told.Prod refl (sym h))

pub sequence_is : (e : Expression) → kind_of e ≡ told.Sequence → (element : Expression) × (card : Card) × (e ≡ expr.Many kind.Sequence element card)
sequence_is e h = many_is kind.Sequence e h
