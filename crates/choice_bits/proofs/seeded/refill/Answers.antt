use Rattle.std.proofs.Common.{arith}
use Rattle.choice_bits.proofs.Words.{none_behind, next_left}
use Rattle.choice_bits.proofs.seeded.refill.Goals as goal

-- src/seeded.rt:63:9
pub returns-then-get_word_pos-ge-WORDS-clause-none :
    goal.returns-then-get_word_pos-ge-WORDS-clause-none
returns-then-get_word_pos-ge-WORDS-clause-none c =
    none_behind c.args.unread.now c.args.word.now c.args.generator.now (omega (arith, c.if-unread-gt0.false)) (omega (arith, c.get_word_pos.ensures.value, c.if-get_word_pos-ge-WORDS.true))

-- src/seeded.rt:52:1
pub returns-clause-same : goal.returns-clause-same
returns-clause-same c = next_left c.args.unread.now c.args.word.now c.next_word.result c.args.generator.now c.next_word.new.self c.next_word.ensures c.requires c.if-unread-gt0.false (omega (arith, c.get_word_pos.ensures.value, c.if-get_word_pos-ge-WORDS.false))
