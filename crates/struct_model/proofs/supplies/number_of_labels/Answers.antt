-- Different numbers of 32 bits are fewer than 2^32.
use Rattle.std.proofs.Common.{arith}
use Rattle.lists.proofs.AscendingAbove.{few_ascend}
use Rattle.struct_model.proofs.supplies.number_of_labels.Goals as goal

pub overflow_cast-result : goal.overflow_cast-result
overflow_cast-result c = omega (arith, few_ascend 0 4294967296 c.args.labels.now c.requires (λ i. omega (arith, c.type_inv.labels i)) (omega arith))
