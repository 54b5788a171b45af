use Rattle.std.proofs.Common.{◌∙◌, sym, ap, subst}
use Rattle.struct_walk.specs.declared.tail.Tail.{Tail}
use Rattle.struct_walk.specs.Tails.{AreCycleElements, IsTail, tail_number}
use Rattle.struct_walk.proofs.TailLemmas.{cycle_number, tells_some}
use Rattle.struct_walk.proofs.tail.has_lists.Goals as goal

pub returns-in-CycleElements : goal.returns-in-CycleElements
returns-in-CycleElements c =
    let counts = c.args.counted.now in
    let w = c.in-CycleElements in
    let cycle : AreCycleElements counts w.node w.field-1 w.field-2 = subst (λ (t : Tail). IsTail counts t) w.is c.requires.tail in
    tells_some c.number.result (tail_number counts.checked c.args.tail c.args.n)
    (c.number.ensures ∙ cycle_number counts c.grammar.ensures.kept w.node w.field-1 c.args.n w.field-2 cycle
    ∙ ap (λ (t : Tail). tail_number counts.checked t c.args.n) (sym w.is))
