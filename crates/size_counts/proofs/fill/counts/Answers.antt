use Rattle.std.proofs.Common.{◌≡◌, sym, subst, rules, List, Option, ℕ, Some, replicate}
use Rattle.size_counts.specs.Told.{TellNow}
use Rattle.size_counts.proofs.FillLemmas.{tell_zeros}
use Rattle.size_counts.proofs.fill.counts.Goals as goal

pub loop-rank-init : goal.loop-rank-init
loop-rank-init c =
    let zeros : c.in_ok-now.now.items ≡ replicate c.nodes-nodes.result (Some 0) = search rules in record {
      beside = c.requires.beside;
      now_told = subst (λ (items : List (Option ℕ)). TellNow c.args.tables.now.grammar c.args.tables.now.marks.items c.args.m 0 items) (sym zeros)
          (tell_zeros c.args.tables.now.grammar c.args.tables.now.marks.items c.args.m c.nodes-nodes.result c.requires.ready.told.is_checked c.nodes-nodes.ensures.value);
    }
