use Rattle.std.proofs.Common.{sym, ◌∙◌}
use Rattle.choice_bits.proofs.Words.{bit_in_front}
use Rattle.choice_bits.proofs.seeded.ChaChaBitsBits.take.Goals as goal

-- src/seeded.rt:73:5
pub returns-clause-bit : goal.returns-clause-bit
returns-clause-bit c = sym c.self.view_is ∙ sym c.refill.ensures.same ∙ bit_in_front c.refill.new.unread c.refill.new.word c.refill.new.generator c.if-not-refill.ensures.some
