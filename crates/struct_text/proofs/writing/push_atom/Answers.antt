use Rattle.std.proofs.Common.{codes}
use Rattle.struct_text.specs.Text.{word_or_name, label_text}
use Rattle.struct_text.proofs.Fronts.{at_err, front_of_first, last_behind}
use Rattle.struct_text.proofs.writing.push_atom.Goals as goal

pub returns-in_err-push_word-clause-front : goal.returns-in_err-push_word-clause-front
returns-in_err-push_word-clause-front c =
    at_err c.from_residual.result _ (front_of_first _ _ (word_or_name c.args.spec.now (codes "Z") c.args.rule) (label_text c.args.label) c.in_err-push_word.ensures.front)

pub returns-clause-front : goal.returns-clause-front
returns-clause-front c =
    last_behind c.push_label.result _ _ _ (word_or_name c.args.spec.now (codes "Z") c.args.rule) (label_text c.args.label) c.in_ok-push_word.ensures.whole c.push_label.ensures.front
