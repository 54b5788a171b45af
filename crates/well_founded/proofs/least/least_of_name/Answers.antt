use Rattle.std.proofs.Common.{◌≤◌, length, sym, arith}
use Rattle.spec_syntax.proofs.RulesLemmas.{symbol-within}
use Rattle.well_founded.proofs.LeastLoops.{size_of_name-entry}
use Rattle.well_founded.proofs.least.least_of_name.Goals as goal

pub overflow_sub-result : goal.overflow_sub-result
overflow_sub-result c = (symbol-within c.args.spec.now c.args.name.now c.in_ok-sym.sym (sym c.in_ok-sym.ensures)).0

pub bounds-sizes-sym : goal.bounds-sizes-sym
bounds-sizes-sym c =
    let within : (1 ≤ c.in_ok-sym.sym) × (c.in_ok-sym.sym ≤ length c.args.spec.now) = symbol-within c.args.spec.now c.args.name.now c.in_ok-sym.sym (sym c.in_ok-sym.ensures) in
    omega (arith, within.0, within.1)

pub returns : goal.returns
returns c = size_of_name-entry c.args.spec.now c.args.sizes.now c.args.name.now c.in_ok-sym.sym (sym c.in_ok-sym.ensures)
