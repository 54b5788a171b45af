-- The walk over parts keeps room for the count, and the run so far with that of the rest.
use Rattle.std.proofs.Common.{arith}
use Rattle.struct_model.proofs.keys.+running.Goals as goal
use Rattle.struct_model.proofs.Runs.{walk_room, walk_run, merged_count}

pub first_run_of_parts-merge-first-requires : goal.first_run_of_parts-merge-first-requires
first_run_of_parts-merge-first-requires t c =
    omega (
      arith,
      walk_room c.loop-part.first c.args.low c.as_slice-part-items.result.now c.loop-part.part-index c.part-item.result c.first_run.result 4294967296 c.loop-part-test.true c.part-item.is c.first_run.ensures c.loop-part.invariant.0,
    )

pub first_run_of_parts-loop-part-preserved : goal.first_run_of_parts-loop-part-preserved
first_run_of_parts-loop-part-preserved t c =
    rw c.merge-first.ensures (
      omega (
        arith,
        walk_room c.loop-part.first c.args.low c.as_slice-part-items.result.now c.loop-part.part-index c.part-item.result c.first_run.result 4294967296 c.loop-part-test.true c.part-item.is c.first_run.ensures c.loop-part.invariant.0,
        merged_count c.loop-part.first c.first_run.result,
      ),
      walk_run c.loop-part.first c.args.low c.as_slice-part-items.result.now c.loop-part.part-index c.part-item.result c.first_run.result _ c.loop-part-test.true c.part-item.is c.first_run.ensures c.loop-part.invariant.1,
    )
