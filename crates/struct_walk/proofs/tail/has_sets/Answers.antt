use Rattle.std.proofs.Common.{◌<◌, refl, true≢false, sym, arith}
use Rattle.size_counts.specs.CountedView.{sets_of}
use Rattle.struct_walk.proofs.TailBounds.{HasCount, some_set_count, count_some_set}
use Rattle.struct_walk.proofs.tail.has_sets.Goals as goal

pub returns-then-sets-gt0 : goal.returns-then-sets-gt0
returns-then-sets-gt0 c =
    let some : 0 < c.sets.result = c.if-sets-gt0.true in (
      λ yes. count_some_set c.args.counted.now c.grammar.ensures.kept c.args.node c.args.element c.args.card c.requires.elements c.loop-components.components
          c.args.n (omega arith) (omega arith) (omega (arith, c.sets.ensures, some)),
      λ yes. refl,
    )

pub returns : goal.returns
returns c = (
  λ no. absurd (true≢false (sym no)),
  λ some.
      let found : HasCount (λ k. sets_of c.args.counted.now c.args.node k c.args.n) c.args.card c.args.n =
      some_set_count c.args.counted.now c.grammar.ensures.kept c.args.node c.args.element c.args.card c.requires.elements c.args.n some in
      absurd (omega (arith, found.some, c.loop-components.invariant found.count found.low (omega arith))),
)
