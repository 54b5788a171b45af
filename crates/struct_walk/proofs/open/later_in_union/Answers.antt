use Rattle.std.proofs.Common.{◌≡◌, true, false, sym, ◌∙◌}
use Rattle.struct_walk.specs.Opened.{HasNoArgument}
use Rattle.struct_walk.proofs.OpenLemmas.{no_value}
use Rattle.struct_walk.proofs.StepArguments.{nothing_later}
use Rattle.struct_walk.proofs.open.later_in_union.Goals.{in-Nothing, in_default}
use Rattle.struct_walk.proofs.open.later_in_union.Goals as goal

pub returns-then-is_none-clause-after : goal.returns-then-is_none-clause-after
returns-then-is_none-clause-after c s =
    let none : HasNoArgument c.args.counted.now.checked c.args.node c.args.number c.len-n.result =
    no_value (HasNoArgument c.args.counted.now.checked c.args.node c.args.number c.len-n.result) c.next_argument.result c.is_none.result c.is_none.ensures
    c.if-is_none.true c.next_argument.ensures.none in
    elim c.match-matches.branch [
      | in-Nothing w ↦ nothing_later c.args.counted.now c.args.node c.args.supply (record { reached = c.requires.reached; union = c.requires.union; asked = c.requires.asked })
          c.args.number c.len-n.result c.len-n.ensures c.args.inner w.in-Nothing.is none s
      | in_default w ↦ absurd (let e : false ≡ true = sym w.matches-is ∙ c.if-matches.true in cc)
    ]
