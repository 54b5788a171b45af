use Rattle.std.proofs.Common.{◌≡◌, ◌+◌, ◌<◌, sym, ◌∙◌, subst, ap, arith, List, Option, Some, ℕ, length}
use Rattle.std.proofs.lemmas.Option.{slice_get-get_or}
use Rattle.spec_syntax.specs.Rules.{all_nodes}
use Rattle.graphs.proofs.Marks.{mark_or_none}
use Rattle.graphs.proofs.Reached.{marked_within}
use Rattle.size_counts.specs.Turns.{AreBeside}
use Rattle.size_counts.proofs.ReachedLemmas.{at_read}
use Rattle.size_counts.proofs.FillLemmas.{TellSoFar, so_far_pass, so_far_more, so_far_all}
use Rattle.size_counts.proofs.fill.fill_rank.Goals as goal
use Rattle.size_counts.proofs.fill.fill_rank.Goals.{then-index+then-rank+in_ok-begin_prod, else-index, else-index-via-then-index+else-rank, else-index-via-else-index}

pub count_of-requires-clause-beside : goal.count_of-requires-clause-beside
count_of-requires-clause-beside c =
    let within : c.loop-node.node < length c.begin_prod.new.beside = omega (arith, c.in_ok-begin_prod.ensures.beside.for_each, c.nodes-node-end.ensures.value) in
    c.in_ok-begin_prod.ensures.beside.each c.loop-node.node c.as_slice-told.result.now
    (slice_get-get_or c.begin_prod.new.beside c.loop-node.node c.index-beside-node.result within ∙ ap Some (sym c.as_slice-told.ensures))
    (at_read c.args.tables.now.marks.items c.loop-node.node c.index.result.now (omega (arith, c.nodes-node-end.ensures.value, c.requires.ready.told.for_each)) c.index.ensures ∙ ap Some c.if-index.true)

pub count_of-requires-clause-begun : goal.count_of-requires-clause-begun
count_of-requires-clause-begun c = λ arguments at.
    let within : c.loop-node.node < length c.begin_prod.new.beside = omega (arith, c.in_ok-begin_prod.ensures.beside.for_each, c.nodes-node-end.ensures.value) in
    c.in_ok-begin_prod.ensures.begun arguments c.as_slice-told.result.now at
    (slice_get-get_or c.begin_prod.new.beside c.loop-node.node c.index-beside-node.result within ∙ ap Some (sym c.as_slice-told.ensures))

pub loop-node-preserved : goal.loop-node-preserved
loop-node-preserved c = elim c.if-index.branch [
  | then-index+then-rank+in_ok-begin_prod w ↦ record {
    beside = subst (λ (all : List (List (Option ℕ))). AreBeside c.args.tables.now c.args.m (length (all_nodes c.args.tables.now.grammar.rules)) all) (sym w.beside-is) w.in_ok-begin_prod.ensures.beside;
    so_far = subst (λ (items : List (Option ℕ)). TellSoFar c.args.tables.now.grammar c.args.tables.now.marks.items c.args.m c.args.rank (c.loop-node.node + 1) items) (sym w.now-is)
        (so_far_more c.args.tables.now.grammar c.args.tables.now.marks.items c.args.m c.args.rank c.loop-node.node c.loop-node.now _ c.loop-node.invariant.so_far w.count_of.ensures);
  }
  | else-index w ↦ record {
    beside = subst (λ (all : List (List (Option ℕ))). AreBeside c.args.tables.now c.args.m (length (all_nodes c.args.tables.now.grammar.rules)) all) (sym w.beside-is) c.loop-node.invariant.beside;
    so_far = subst (λ (items : List (Option ℕ)). TellSoFar c.args.tables.now.grammar c.args.tables.now.marks.items c.args.m c.args.rank (c.loop-node.node + 1) items) (sym w.now-is)
        (so_far_pass c.args.tables.now.grammar c.args.tables.now.marks.items c.args.m c.args.rank c.loop-node.node c.loop-node.now c.loop-node.invariant.so_far (λ marked ranked. elim w.else-index.branch [
          | else-index-via-then-index+else-rank w2 ↦ w2.if-rank.false (let same : Some w2.rank.result ≡ Some c.args.rank = sym w2.rank.ensures.value ∙ ranked in cc)
          | else-index-via-else-index w2 ↦ mark_or_none c.args.tables.now.marks.items c.loop-node.node marked
              (at_read c.args.tables.now.marks.items c.loop-node.node c.index.result.now (marked_within c.args.tables.now.marks.items c.loop-node.node marked) c.index.ensures ∙ ap Some w2.if-index.false)
        ]));
  }
]

pub returns-clause-now : goal.returns-clause-now
returns-clause-now c = so_far_all c.args.tables.now.grammar c.args.tables.now.marks.items c.args.m c.args.rank c.loop-node.node c.loop-node.now (omega (arith, c.nodes-node-end.ensures.value)) c.loop-node.invariant.so_far
