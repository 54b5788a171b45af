use Rattle.spec_reader.proofs.SpecLemmas.{sound-is_spec}
use Rattle.spec_reader.proofs.read.Reader.finish.Goals as goal

pub specification-requires : goal.specification-requires
specification-requires c = sound-is_spec c.args.self c.requires
