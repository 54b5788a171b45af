-- Structures with other labels.
use Rattle.std.specs.Prelude.{ℕ, zero, suc, List, slice_get, unwrap_or}
use Rattle.struct_model.specs.Structure.{Structure, Eps, Atom, Named, Alt, Tup, Structures, no_parts, more_parts}

-- the label at this place, from 1. Label 0 stays: it is that of an atom without a label
abbrev pub label_at : List ℕ → ℕ → ℕ
label_at u zero = 0
label_at u (suc i) = unwrap_or (slice_get u i) 0

abbrev mutual
  -- the structure with the label at place l for each label l
  pub relabelled : List ℕ → Structure → Structure
  relabelled u (Eps rule) = Eps rule
  relabelled u (Atom rule label) = Atom rule (label_at u label)
  relabelled u (Named rule inside) = Named rule (relabelled u inside)
  relabelled u (Alt argument inside) = Alt argument (relabelled u inside)
  relabelled u (Tup form parts) = Tup form (relabelled_parts u parts)

  pub relabelled_parts : List ℕ → Structures → Structures
  relabelled_parts u no_parts = no_parts
  relabelled_parts u (more_parts s ss) = more_parts (relabelled u s) (relabelled_parts u ss)
