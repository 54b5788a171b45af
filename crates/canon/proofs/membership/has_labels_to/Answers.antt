-- A label that is missing decides, and otherwise each of so many is there.
use Rattle.std.proofs.Common.{◌+◌, sym, ◌∙◌, arith}
use Rattle.struct_model.specs.Structure.{labels}
use Rattle.canon.proofs.WholeSupply.{one_is_missing, none_is_missing, one_more_there}
use Rattle.canon.proofs.membership.has_labels_to.Goals as goal

pub returns-then-count_label-eq0 : goal.returns-then-count_label-eq0
returns-then-count_label-eq0 c =
    one_is_missing c.args.n (c.loop-below.below + 1) (labels c.args.s.now) (omega arith) (omega (arith, c.loop-below-test.true))
    (sym c.count_label.ensures ∙ c.if-count_label-eq0.true)

pub loop-below-preserved : goal.loop-below-preserved
loop-below-preserved c =
    one_more_there c.loop-below.below (labels c.args.s.now) c.loop-below.invariant (λ none. c.if-count_label-eq0.false (c.count_label.ensures ∙ none))

pub returns : goal.returns
returns c =
    none_is_missing c.args.n (labels c.args.s.now) c.requires (λ k below. c.loop-below.invariant k (omega (arith, below, c.loop-below-test.false)))
