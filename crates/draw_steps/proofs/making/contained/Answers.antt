-- The atoms of the components, which are few enough.
use Rattle.std.proofs.Common.{refl, ap, ◌∙◌, ◌^◌}
use Rattle.well_founded.specs.declared.node.NodeKind.TheVariants as told
use Rattle.draw_steps.specs.Containers.{atoms}
use Rattle.draw_steps.proofs.Atoms.{atoms_are, few_atoms, holds}
use Rattle.draw_steps.proofs.making.contained.Goals as goal

pub invariant_of-result : goal.invariant_of-result
invariant_of-result c = few_atoms c.args.components (atoms c.args.components) (2 ^ 32) refl c.requires.few

pub invariant_of-result-in-Sequence : goal.invariant_of-result-in-Sequence
invariant_of-result-in-Sequence c = few_atoms c.args.components (atoms c.args.components) (2 ^ 32) refl c.requires.few

pub invariant_of-result-in-Set : goal.invariant_of-result-in-Set
invariant_of-result-in-Set c = few_atoms c.in_ok-whole-in-Set.whole (atoms c.args.components) (2 ^ 32) (c.in_ok-whole-in-Set.ensures.atoms ∙ ap atoms (c.as_slice.ensures)) c.requires.few

pub invariant_of-result-in-PowerSet : goal.invariant_of-result-in-PowerSet
invariant_of-result-in-PowerSet c = few_atoms c.in_ok-whole-in-PowerSet.whole (atoms c.args.components) (2 ^ 32) (c.in_ok-whole-in-PowerSet.ensures.atoms ∙ ap atoms (c.as_slice-in-PowerSet.ensures)) c.requires.few

pub invariant_of-result-in-Cycle : goal.invariant_of-result-in-Cycle
invariant_of-result-in-Cycle c = few_atoms c.in_ok-whole-in-Cycle.whole (atoms c.args.components) (2 ^ 32) c.in_ok-whole-in-Cycle.ensures.atoms c.requires.few

pub returns-in-Prod-clause-size : goal.returns-in-Prod-clause-size
returns-in-Prod-clause-size c = holds c.args.kind told.Prod c.args.components c.args.components _ c.in-Prod.is refl (atoms_are c.args.components)

pub returns-in-Sequence-clause-size : goal.returns-in-Sequence-clause-size
returns-in-Sequence-clause-size c = holds c.args.kind told.Sequence c.args.components c.args.components _ c.in-Sequence.is refl (atoms_are c.args.components)

pub returns-in_ok-whole-in-Set-clause-size : goal.returns-in_ok-whole-in-Set-clause-size
returns-in_ok-whole-in-Set-clause-size c = holds c.args.kind told.Set c.args.components c.in_ok-whole-in-Set.whole _ c.in-Set.is (c.in_ok-whole-in-Set.ensures.atoms ∙ ap atoms (c.as_slice.ensures)) (atoms_are c.in_ok-whole-in-Set.whole)

pub returns-in_ok-whole-in-PowerSet-clause-size : goal.returns-in_ok-whole-in-PowerSet-clause-size
returns-in_ok-whole-in-PowerSet-clause-size c = holds c.args.kind told.PowerSet c.args.components c.in_ok-whole-in-PowerSet.whole _ c.in-PowerSet.is (c.in_ok-whole-in-PowerSet.ensures.atoms ∙ ap atoms (c.as_slice-in-PowerSet.ensures)) (atoms_are c.in_ok-whole-in-PowerSet.whole)

pub returns-in_ok-whole-in-Cycle-clause-size : goal.returns-in_ok-whole-in-Cycle-clause-size
returns-in_ok-whole-in-Cycle-clause-size c =
    holds c.args.kind told.Cycle c.args.components c.in_ok-whole-in-Cycle.whole _ c.in-Cycle.is c.in_ok-whole-in-Cycle.ensures.atoms (atoms_are c.in_ok-whole-in-Cycle.whole)
