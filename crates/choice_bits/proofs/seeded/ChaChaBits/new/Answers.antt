use Rattle.std.proofs.Common.{refl, ◌∙◌, ◌++◌, replicate}
use Rattle.choice_bits.proofs.Words.{none_read}
use Rattle.choice_bits.proofs.seeded.ChaChaBits.new.Goals as goal

-- src/seeded.rt:38:5
pub returns : goal.returns
returns c = record {
  bits = none_read c.args.seed c.copy_from_slice.new.self (c.copy_from_slice.new.self ++ replicate 16 0) c.from_seed.result c.from_seed.ensures refl (c.copy_from_slice.ensures.after ∙ c.to_le_bytes.ensures);
}
