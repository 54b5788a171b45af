use Rattle.std.proofs.Common.{◌++◌, ap, arith, ◌∙◌, ℕ, Some, Option, List}
use Rattle.std.proofs.lemmas.Option.{slice_get-get_or}
use Rattle.graphs.proofs.Marks.{mark_or_none}
use Rattle.graphs.proofs.Reached.{marked_within}
use Rattle.size_counts.proofs.ReachedLemmas.{at_read}
use Rattle.size_counts.proofs.RowLemmas.{all_told, tell_first, first_and_others, tell_all_by}
use Rattle.size_counts.proofs.rows.row.Goals as goal
use Rattle.size_counts.proofs.rows.row.Goals.{then-index+in_ok-push+in_ok-others+in_ok-extend_from_slice, else-index}

pub returns-clause-told : goal.returns-clause-told
returns-clause-told c = λ e marked at. elim c.if-index.branch [
  | then-index+in_ok-push+in_ok-others+in_ok-extend_from_slice w ↦
      tell_all_by c.if-index.made _ _
      (first_and_others c.if-index.made w.push.new.self c.new-made.result w.in_ok-others.others _
      (w.made-is ∙ w.in_ok-extend_from_slice.ensures.ok ∙ ap (λ (items : List (Option ℕ)). w.push.new.self ++ items) w.as_slice.ensures) w.in_ok-push.ensures.ok c.new-made.ensures)
      (tell_first w.in_ok-others.others _ _ _
      (all_told c.args.tables.now.grammar c.args.tables.now.marks.items c.args.tables.now.layers.items c.requires.ready.told c.args.m c.args.node c.args.now.now e _ c.requires.now marked at
      (slice_get-get_or c.args.now.now c.args.node _ (omega (arith, c.requires.within, c.requires.now.for_each))))
      (w.in_ok-others.ensures e at))
  | else-index w ↦
      absurd (mark_or_none c.args.tables.now.marks.items c.args.node marked
      (at_read c.args.tables.now.marks.items c.args.node c.index.result.now (marked_within c.args.tables.now.marks.items c.args.node marked) c.index.ensures ∙ ap Some w.if-index.false))
]

pub returns-clause-empty : goal.returns-clause-empty
returns-clause-empty c = λ unmarked. elim c.if-index.branch [
  | then-index+in_ok-push+in_ok-others+in_ok-extend_from_slice w ↦
      absurd (unmarked (at_read c.args.tables.now.marks.items c.args.node c.index.result.now (omega (arith, c.requires.within, c.requires.ready.told.for_each)) c.index.ensures ∙ ap Some w.if-index.true))
  | else-index w ↦ w.made-is ∙ c.new-made.ensures
]
