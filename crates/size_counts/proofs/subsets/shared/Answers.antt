use Rattle.std.proofs.Common.{◌≡◌, ◌+◌, ◌-◌, ◌*◌, ◌<◌, ℕ, map, ap, sym, ◌∙◌, subst, arith}
use Rattle.std.specs.List.{sum, range_with_len}
use Rattle.count_laws.specs.SetNumbers.{number_avoiding}
use Rattle.size_counts.specs.declared.shared.Shared.{Shared}
use Rattle.size_counts.specs.Repeats.{count_at, fewer}
use Rattle.size_counts.specs.Shared.{StandsFor}
use Rattle.size_counts.proofs.ReachedLemmas.{at_read}
use Rattle.size_counts.proofs.MultisetLemmas.{sized, sized_more, sized_pass, count_read}
use Rattle.size_counts.proofs.subsets.shared.Goals as goal
use Rattle.size_counts.proofs.subsets.shared.Goals.{then-elements-gt0, else-elements-gt0}

pub loop-d-preserved : goal.loop-d-preserved
loop-d-preserved c =
    let counts : ℕ → ℕ = count_at c.args.layers.now c.args.element in
    let others : ℕ → ℕ = λ d. number_avoiding (fewer c.args.numbers.now) d (c.args.c - 1) (c.args.m - d) in
    let are = count_read c.args.layers.now c.args.element c.loop-d.d c.cell-elements.result c.index-layers-d.result (at_read c.args.layers.now c.loop-d.d c.index-layers-d.result (omega arith) c.index-layers-d.is) c.cell-elements.ensures in
    elim c.if-elements-gt0.branch [
      | then-elements-gt0 w ↦ record {
        parts = ap (λ (shared : Shared). shared.parts) w.sum-is ∙ w.add.ensures.parts ∙ c.loop-d.invariant.parts;
        left = subst (λ (shared : Shared). shared.rest < shared.parts) (sym w.sum-is) w.add.ensures.left;
        sum = subst (λ (shared : Shared). StandsFor shared (sum (map (sized counts others) (range_with_len 1 (c.loop-d.d + 1 - 1))))) (sym w.sum-is)
            (subst (λ (n : ℕ). StandsFor w.add.new.self n)
            ((λ i. sum (map (sized counts others) (range_with_len 1 (c.loop-d.d - 1))) + are i * w.avoiding.ensures i) ∙ sym (sized_more counts others c.loop-d.d (omega arith)))
            (w.add.ensures.sum _ c.loop-d.invariant.sum));
      }
      | else-elements-gt0 w ↦ record {
        parts = ap (λ (shared : Shared). shared.parts) w.sum-is ∙ c.loop-d.invariant.parts;
        left = subst (λ (shared : Shared). shared.rest < shared.parts) (sym w.sum-is) c.loop-d.invariant.left;
        sum = subst (λ (shared : Shared). StandsFor shared (sum (map (sized counts others) (range_with_len 1 (c.loop-d.d + 1 - 1))))) (sym w.sum-is)
            (subst (λ (n : ℕ). StandsFor c.loop-d.sum n) (sized_pass counts others c.loop-d.d (omega arith) (sym are ∙ omega arith)) c.loop-d.invariant.sum);
      }
    ]

pub returns : goal.returns
returns c = λ n is.
    let end : c.loop-d.d - 1 ≡ c.args.m + 1 - c.args.c = omega arith in
    let counts : ℕ → ℕ = count_at c.args.layers.now c.args.element in
    let others : ℕ → ℕ = λ d. number_avoiding (fewer c.args.numbers.now) d (c.args.c - 1) (c.args.m - d) in
    c.each.ensures n
    (subst (λ (k : ℕ). StandsFor c.loop-d.sum k) (ap (λ (k : ℕ). sum (map (sized counts others) (range_with_len 1 k))) end ∙ sym is ∙ ap (λ (k : ℕ). k * n) (sym c.loop-d.invariant.parts)) c.loop-d.invariant.sum)
