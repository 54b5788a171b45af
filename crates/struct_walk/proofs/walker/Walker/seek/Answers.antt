use Rattle.std.proofs.Common.{Bool, sym, ap, ◌∙◌}
use Rattle.struct_model.specs.SupplyView.{supply_labels}
use Rattle.listing_laws.specs.SortedNodes.{following_at}
use Rattle.struct_walk.proofs.SeekLemmas.{seek_small, seek_from, seek_after}
use Rattle.struct_walk.proofs.walker.Walker.seek.Goals.{then-strict+in_ok-pass, else-strict}
use Rattle.struct_walk.proofs.walker.Walker.seek.Goals as goal

pub pass-requires-clause-has_rest : goal.pass-requires-clause-has_rest
pass-requires-clause-has_rest c =
    seek_small c.args.counted.now c.grammar.ensures.kept c.args.supply c.requires.asked c.in_ok-later.later c.in_ok-s.s c.args.from.now c.in_ok-s.ensures c.args.node c.in_ok-later.ensures

pub returns-clause-rest : goal.returns-clause-rest
returns-clause-rest c =
    let counts = c.args.counted.now in
    elim c.if-strict.branch [
      | then-strict+in_ok-pass w ↦ rw (w.walker-is) (
          w.in_ok-pass.ensures.rest
          ∙ seek_after counts c.grammar.ensures.kept c.args.supply c.requires.asked c.in_ok-later.later c.in_ok-s.s c.args.from.now c.in_ok-s.ensures c.args.node c.in_ok-later.ensures
          ∙ ap (λ (strict : Bool). following_at counts.checked c.args.node strict c.args.from.now (supply_labels c.args.supply)) (sym w.if-strict.true))
      | else-strict w ↦ rw (w.walker-is) (
          seek_from counts c.grammar.ensures.kept c.args.supply c.requires.asked c.in_ok-later.later c.in_ok-s.s c.args.from.now c.in_ok-s.ensures c.args.node c.in_ok-later.ensures
          ∙ ap (λ (strict : Bool). following_at counts.checked c.args.node strict c.args.from.now (supply_labels c.args.supply)) (sym w.if-strict.false))
    ]

pub returns-clause-has_rest : goal.returns-clause-has_rest
returns-clause-has_rest c = elim c.if-strict.branch [
  | then-strict+in_ok-pass w ↦ rw (w.walker-is) w.in_ok-pass.ensures.has_rest
  | else-strict w ↦ rw (w.walker-is) (
      seek_small c.args.counted.now c.grammar.ensures.kept c.args.supply c.requires.asked c.in_ok-later.later c.in_ok-s.s c.args.from.now c.in_ok-s.ensures c.args.node c.in_ok-later.ensures)
]
