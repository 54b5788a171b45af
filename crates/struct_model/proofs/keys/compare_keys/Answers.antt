-- The keys from 0 on are the keys.
use Rattle.std.specs.Ordering.{nat_cmp}
use Rattle.std.specs.Cmp.Lexicographic.{slice_cmp}
use Rattle.struct_model.specs.Structure.{labels}
use Rattle.struct_model.proofs.KeyLaws.{key_from_zero}
use Rattle.struct_model.proofs.keys.compare_keys.Goals as goal

pub loop-next-init : goal.loop-next-init
loop-next-init c = λ i. slice_cmp nat_cmp (key_from_zero (labels c.args.s.now) i) (key_from_zero (labels c.args.t.now) i)
