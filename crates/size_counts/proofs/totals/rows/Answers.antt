use Rattle.std.proofs.Common.{◌+◌, ℕ, List, length, ap, ◌∙◌}
use Rattle.std.proofs.lemmas.List.{length_push}
use Rattle.size_counts.proofs.TotalsTable.{totals_more}
use Rattle.size_counts.proofs.totals.rows.Goals as goal

pub loop-n-preserved : goal.loop-n-preserved
loop-n-preserved c = (
  ap (λ (rows : List (List ℕ)). length rows) c.in_ok-push.ensures.ok ∙ length_push c.loop-n.made c.in_ok-row.row ∙ ap (λ (k : ℕ). k + 1) c.loop-n.invariant.0,
  totals_more c.args.limits.now c.args.most c.loop-n.n c.in_ok-row.row c.loop-n.made c.push.new.self c.loop-n.invariant.1 c.loop-n.invariant.0 c.in_ok-row.ensures c.in_ok-push.ensures.ok,
)
