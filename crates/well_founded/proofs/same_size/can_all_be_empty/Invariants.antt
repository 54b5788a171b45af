use Rattle.std.proofs.Common.{◌≡◌, drop}
use Rattle.std.specs.List.{list_all}
use Rattle.well_founded.specs.Least.{least_with, size_of_name}
use Rattle.well_founded.specs.SameSize.{is_null}
use Rattle.well_founded.proofs.same_size.can_all_be_empty.Given as goal

abbrev pub invariant-loop-expr : goal.invariant-loop-expr
invariant-loop-expr l =
    list_all (λ other. is_null (least_with (size_of_name l.spec l.sizes) other)) l.exprs
    ≡ list_all (λ other. is_null (least_with (size_of_name l.spec l.sizes) other)) (drop l.expr-index l.exprs)
