-- The coming part is split off, and then the later ones come.
use Rattle.std.proofs.Common.{◌≡◌, List, Bool, Option, subst, sym, ap, ◌∙◌}
use Rattle.struct_model.specs.declared.supplies.Supply.{Supply}
use Rattle.struct_model.specs.SupplyView.{supply_labels}
use Rattle.splits.specs.Parts.{parts_of, after}
use Rattle.splits.specs.WalkView.{Walk, to_come, IsToCome}
use Rattle.splits.proofs.PartLemmas.{part_within}
use Rattle.splits.proofs.WalkLemmas.{step_taken}
use Rattle.splits.proofs.length_walk.LengthWalk.next.Goals as goal

pub remaining-requires-clause-part : goal.remaining-requires-clause-part
remaining-requires-clause-part c =
    let kept = subst (λ (o : Option Supply). IsToCome c.self.inside.supply c.self.inside.lengths.items o) c.in-Some.is c.self.invariant.1 in
    part_within c.self.inside.lengths.items (supply_labels c.self.inside.supply) (supply_labels c.in-Some.part) kept.2

pub returns-clause-some : goal.returns-clause-some
returns-clause-some c =
    let kept = subst (λ (o : Option Supply). IsToCome c.self.inside.supply c.self.inside.lengths.items o) c.in-Some.is c.self.invariant.1 in
    ap (λ (w : Walk). w.left) (sym c.self.view_is)
    ∙ step_taken c.self.inside.supply c.in-Some.part c.unwrap-part.result c.in_ok-rest.rest c.self.inside.lengths.items c.self.inside.coming c.in_ok-later.later c.replace.new.dest
    c.in-Some.is (sym c.replace.ensures.value ∙ c.unwrap-part.ensures) c.replace.ensures.after c.self.invariant.0 kept.2 c.in_ok-rest.ensures.rest
    (subst (λ (lengths : List Bool). to_come c.self.inside.supply lengths c.in_ok-later.later ≡ after (supply_labels c.in-Some.part) (parts_of lengths (supply_labels c.self.inside.supply)))
    c.as_slice.ensures.value c.in_ok-later.ensures.later)
