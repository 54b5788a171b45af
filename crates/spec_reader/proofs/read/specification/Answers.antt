use Rattle.spec_reader.proofs.SpecLemmas.{is_spec-next}
use Rattle.spec_reader.proofs.read.specification.Goals as goal

pub add-requires : goal.add-requires
add-requires c = is_spec-next c.loop-name.spec _ c.loop-name.names _ c.loop-name.rights _ c.in-Some-Some.name c.in-Some-Some.right c.loop-name.invariant c.in-Some-Some.ensures c.in-Some-Some.ensures' c.requires
