use Rattle.struct_walk.proofs.StepSplits.{next_can, part_asked, rest_asked, next_parts}
use Rattle.struct_walk.proofs.stepping.open_next_split.Goals as goal

pub open_split-requires-clause-part : goal.open_split-requires-clause-part
open_split-requires-clause-part c =
    let splits = rw c.in-Some.is at c.in_ok-part.ensures.some in
    let in_order = rw c.in-Some.is at c.in_ok-part.ensures.part_in_order in
    let universe = rw c.in-Some.is at c.in_ok-part.ensures.part_universe in
    part_asked c.args.counted.now c.args.level.now c.requires.level c.next.new.self c.in-Some.part c.in-Some.rest splits in_order universe

pub open_split-requires-clause-rest : goal.open_split-requires-clause-rest
open_split-requires-clause-rest c =
    let splits = rw c.in-Some.is at c.in_ok-part.ensures.some in
    let in_order = rw c.in-Some.is at c.in_ok-part.ensures.rest_in_order in
    let universe = rw c.in-Some.is at c.in_ok-part.ensures.rest_universe in
    rest_asked c.args.counted.now c.args.level.now c.requires.level c.next.new.self c.in-Some.part c.in-Some.rest splits in_order universe

pub open_split-requires-clause-first : goal.open_split-requires-clause-first
open_split-requires-clause-first c =
    let splits = rw c.in-Some.is at c.in_ok-part.ensures.some in
    (next_can c.args.counted.now c.args.level.now c.requires.level c.next.new.self c.in-Some.part c.in-Some.rest splits).first

pub open_split-requires-clause-others : goal.open_split-requires-clause-others
open_split-requires-clause-others c =
    let splits = rw c.in-Some.is at c.in_ok-part.ensures.some in
    (next_can c.args.counted.now c.args.level.now c.requires.level c.next.new.self c.in-Some.part c.in-Some.rest splits).others

pub returns : goal.returns
returns c =
    let splits = rw c.in-Some.is at c.in_ok-part.ensures.some in
    let in_order = rw c.in-Some.is at c.in_ok-part.ensures.rest_in_order in
    let universe = rw c.in-Some.is at c.in_ok-part.ensures.rest_universe in
    next_parts c.args.counted.now c.args.level.now c.requires.level c.next.new.self c.in-Some.part c.in-Some.rest splits c.in_ok-level.field-0 c.args.components.now c.open_split.new.components
    c.in_ok-later.later c.in_ok-later.behind c.in_ok-level.ensures c.in_ok-part.ensures.universe
    (rest_asked c.args.counted.now c.args.level.now c.requires.level c.next.new.self c.in-Some.part c.in-Some.rest splits in_order universe) c.in_ok-later.ensures
