use Rattle.std.proofs.Common.{sym}
use Rattle.spec_reader.proofs.WordLemmas.{is_word-front, digits-front}
use Rattle.spec_reader.proofs.token.front.Goals as goal

pub word-requires : goal.word-requires
word-requires c = is_word-front c.args.text.now c.word_len-len.result c.word_len-len.ensures.value c.requires (sym c.if-is_word_start.ensures)

pub returns-then-is_digit-clause-spelled : goal.returns-then-is_digit-clause-spelled
returns-then-is_digit-clause-spelled c = rw c.whole-then-is_digit.ensures.token (digits-front c.args.text.now c.digits_len-len.result c.digits_len-len.ensures.value)
