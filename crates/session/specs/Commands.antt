-- What the code's commands ask for, and what its answers come to.
use Rattle.std.specs.Prelude.{◌≡◌, false}
use Rattle.struct_text.specs.declared.form.TextForm.{TextForm}
use Rattle.session.specs.declared.answer.Command.{Command}
use Rattle.session.specs.declared.answer.Command.TheVariants as command
use Rattle.session.specs.declared.answer.Answer.{Answer}
use Rattle.session.specs.declared.answer.Answer.TheVariants as told
use Rattle.session.specs.Refusals.{IsTold}
use Rattle.session.specs.Effect.{AnswerText, Effect, Setting, doing_nothing, answering, refusing, structures_text, listing_text, number_text}

-- the text that a command asks for, where texts are in this form
abbrev pub text_of : TextForm → Command → AnswerText
text_of texts command.Count = number_text
text_of texts command.List = listing_text texts

-- the effect of an answer, once it is written with texts in this form
abbrev pub effect_of : TextForm → Answer → Setting → Effect
effect_of texts told.Nothing setting = doing_nothing setting
effect_of texts (told.Text text) setting = answering setting text
effect_of texts (told.Members members) setting = answering setting (structures_text texts members.counts.checked.rules members.rest)
effect_of texts (told.Refused why) setting = refusing setting why

-- the answer can be written: a line can tell a refusal, and a walk isn't broken
abbrev pub CanBeTold : Answer → Type 0
CanBeTold told.Nothing = Unit {0}
CanBeTold (told.Text text) = Unit {0}
CanBeTold (told.Members members) = members.is_broken ≡ false
CanBeTold (told.Refused why) = IsTold why
