-- Numbers of labels and of atoms.
use Rattle.std.proofs.Common.{◌≡◌, ℕ, List, length, sym, ap, ◌∙◌}
use Rattle.struct_model.specs.Structure.{Structure, labels, size, key}
use Rattle.lists.proofs.Ascending.{length-ascending}

-- a structure has as many atoms as its key has labels
pub size_is : (u : List ℕ) (s : Structure) → key s ≡ u → size s ≡ length u
size_is u s same = sym (length-ascending (labels s)) ∙ ap length same
