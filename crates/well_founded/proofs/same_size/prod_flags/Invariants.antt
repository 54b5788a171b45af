use Rattle.std.proofs.Common.{◌≡◌, ◌++◌, drop, true}
use Rattle.spec_syntax.specs.Expression.{expressions_of}
use Rattle.well_founded.specs.Least.{least_with, size_of_name}
use Rattle.well_founded.specs.SameSize.{alone_from}
use Rattle.well_founded.proofs.same_size.prod_flags.Given as goal

abbrev pub invariant-loop-place : goal.invariant-loop-place
invariant-loop-place l =
    alone_from (least_with (size_of_name l.spec l.sizes)) true (expressions_of l.arguments)
    ≡ l.flags.items ++ alone_from (least_with (size_of_name l.spec l.sizes)) l.before (expressions_of (drop l.place l.arguments))
