-- Labels of another number decide, and otherwise whether all are zeros.
use Rattle.std.proofs.Common.{ap, sym, ◌∙◌}
use Rattle.struct_model.specs.Structure.{labels, key}
use Rattle.struct_model.specs.Membership.{same_labels, supply}
use Rattle.canon.proofs.WholeSupply.{other_size, zeros_decide}
use Rattle.canon.proofs.membership.has_labels_of_size.Goals as goal

pub returns-then-size-n : goal.returns-then-size-n
returns-then-size-n c = other_size c.args.universe c.args.n (labels c.args.s.now) (λ same. c.if-size-n.true (c.size.ensures ∙ same))

pub returns-in-Unlabelled : goal.returns-in-Unlabelled
returns-in-Unlabelled c =
    zeros_decide c.args.n c.count_label.result (labels c.args.s.now) (sym c.size.ensures ∙ c.if-size-n.false) c.count_label.ensures
    ∙ ap (λ universe. same_labels (key c.args.s.now) (supply universe c.args.n)) (sym c.in-Unlabelled.is)
