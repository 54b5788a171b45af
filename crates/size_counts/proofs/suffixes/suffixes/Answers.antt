use Rattle.std.proofs.Common.{◌≡◌, ◌+◌, ◌-◌, ap, sym, ◌∙◌, subst, arith, ℕ, List, Option, length}
use Rattle.std.proofs.lemmas.List.{length_push}
use Rattle.std.proofs.lemmas.Option.{slice_get-get_or}
use Rattle.well_founded.specs.Checked.{grammar}
use Rattle.size_counts.specs.Suffixes.{SuffixesTold, OthersTold}
use Rattle.size_counts.specs.Ways.{universe_of}
use Rattle.size_counts.proofs.SuffixLemmas.{made_first, suffixes_step, arguments_count, layer_room, node_within, column_count}
use Rattle.size_counts.proofs.suffixes.suffixes.Goals as goal

pub loop-later-init : goal.loop-later-init
loop-later-init c = record {
  for_each = c.in_ok-others.ensures.for_each;
  count = ap (λ (items : List (Option ℕ)). length items) c.new-made.ensures;
  told = λ arguments zero at known such.
      let none : c.args.high ≡ c.args.high - 0 = omega arith in (
        subst (λ (n : ℕ). OthersTold (grammar c.args.tables.now.grammar) arguments c.args.m zero n c.in_ok-others.others.items) none (c.in_ok-others.ensures.told arguments zero at such),
        subst (λ (items : List (Option ℕ)). SuffixesTold (grammar c.args.tables.now.grammar) arguments c.args.m zero c.args.high 0 items) (sym c.new-made.ensures)
            (made_first (grammar c.args.tables.now.grammar) arguments c.args.m zero c.args.high),
      );
}

pub child-argument-requires-clause-within : goal.child-argument-requires-clause-within
child-argument-requires-clause-within c = node_within c.args.tables.now.grammar c.args.tables.now.marks.items c.args.tables.now.layers.items c.requires.ready.told c.args.node c.requires.marked

pub column-requires-in-loop-later : goal.column-requires-in-loop-later
column-requires-in-loop-later c =
    layer_room c.args.tables.now.grammar c.args.tables.now.marks.items c.args.tables.now.layers.items c.as_slice-layers.result.now c.requires.ready.told c.as_slice-layers.ensures.value c.args.node
    (node_within c.args.tables.now.grammar c.args.tables.now.marks.items c.args.tables.now.layers.items c.requires.ready.told c.args.node c.requires.marked)

pub loop-later-preserved : goal.loop-later-preserved
loop-later-preserved c = record {
  for_each = column_count c.args.tables.now.layers.items c.as_slice-layers.result.now c.args.node _ c.args.m c.joined-number.result c.in_ok-others-2.others.items c.as_slice-layers.ensures.value c.requires.ready.filled c.in_ok-others-2.ensures;
  count = ap (λ (items : List (Option ℕ)). length items) c.in_ok-push.ensures.ok ∙ length_push c.loop-later.made c.joined-number.result ∙ ap (λ (n : ℕ). n + 1) c.loop-later.invariant.count;
  told = λ arguments zero at known such.
      suffixes_step c.args.tables.now.grammar c.args.tables.now.marks.items c.args.tables.now.layers.items c.requires.ready.told c.args.node arguments c.requires.marked at c.args.m zero c.requires.ready.filled c.args.now.now known
      c.args.high c.loop-later.later _ c.child-argument.result _ c.joined-number.result c.as_slice-layers.result.now _ _ c.in_ok-others-2.others.items c.loop-later.made c.push.new.self (universe_of c.args.tables.now.ways)
      (omega (arith, arguments_count c.args.tables.now.grammar.rules c.args.node arguments at))
      (omega arith)
      (omega arith)
      c.as_slice-layers.ensures.value c.child-argument.ensures.value c.child-argument.ensures.argument
      (slice_get-get_or c.args.now.now c.child-argument.result _ (omega (arith, c.child-argument.ensures.within, c.requires.for_each)))
      (c.as_slice.ensures.value ∙ c.in_ok-firsts.ensures) c.in_ok-others-2.ensures c.requires.ready.universe c.in_ok-push.ensures.ok c.joined-number.ensures (
        subst (λ (all : List (Option ℕ)). OthersTold (grammar c.args.tables.now.grammar) arguments c.args.m zero (c.args.high - c.loop-later.later) all) (sym c.as_slice-in-loop-later.ensures.value)
            (c.loop-later.invariant.told arguments zero at known such).0,
        (c.loop-later.invariant.told arguments zero at known such).1,
      );
}

pub returns-clause-told : goal.returns-clause-told
returns-clause-told c = λ arguments zero at known such.
    let end : c.loop-later.later ≡ c.args.high - c.args.low = omega arith in
    subst (λ (n : ℕ). SuffixesTold (grammar c.args.tables.now.grammar) arguments c.args.m zero c.args.high n c.loop-later.made) end (c.loop-later.invariant.told arguments zero at known such).1
