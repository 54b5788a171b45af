use Rattle.std.proofs.Common.{rules, ◌+◌, ◌-◌, ℕ, Option, map, sym, ◌∙◌, subst, arith}
use Rattle.std.specs.List.{sum, range_with_len}
use Rattle.count_laws.specs.SetNumbers.{number_pointed}
use Rattle.splits.specs.Capped.{Tells}
use Rattle.size_counts.specs.Repeats.{count_at, fewer}
use Rattle.size_counts.proofs.ReachedLemmas.{at_read}
use Rattle.size_counts.proofs.MultisetLemmas.{sized, sized_pass, sized_told, count_read}
use Rattle.size_counts.proofs.multisets.met.Goals as goal
use Rattle.size_counts.proofs.multisets.met.Goals.{then-elements-gt0, else-elements-gt0}

pub loop-d-preserved : goal.loop-d-preserved
loop-d-preserved c =
    let counts : ℕ → ℕ = count_at c.args.layers.now c.args.element in
    let others : ℕ → ℕ = λ d. number_pointed (fewer c.args.numbers.now) d c.args.c c.args.m in
    let are = count_read c.args.layers.now c.args.element c.loop-d.d c.cell-elements.result c.index-layers-d.result (at_read c.args.layers.now c.loop-d.d c.index-layers-d.result (omega arith) c.index-layers-d.is) c.cell-elements.ensures in
    elim c.if-elements-gt0.branch [
      | then-elements-gt0 w ↦ subst (λ (one : Option ℕ). Tells one (sum (map (sized counts others) (range_with_len 1 (c.loop-d.d + 1 - 1))))) (sym w.sum-is)
          (sized_told counts others c.loop-d.d c.cell-elements.result c.loop-d.sum w.pointed.result w.times-with_one.result w.plus-sum.result (omega arith) are (search rules) w.pointed.ensures w.times-with_one.ensures
          w.plus-sum.ensures c.loop-d.invariant)
      | else-elements-gt0 w ↦ subst (λ (one : Option ℕ). Tells one (sum (map (sized counts others) (range_with_len 1 (c.loop-d.d + 1 - 1))))) (sym w.sum-is)
          (subst (λ (n : ℕ). Tells c.loop-d.sum n) (sized_pass counts others c.loop-d.d (omega arith) (sym are ∙ omega arith)) c.loop-d.invariant)
    ]
