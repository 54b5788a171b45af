-- How many nodes a structure and its components have, by which a step ends.
use Rattle.std.proofs.Common.{◌≡◌, ℕ, ◌+◌, ◌<◌, List, ◌∷◌, ap, arith}
use Rattle.struct_model.specs.Structure.{Structure, Eps, Atom, Named, Alt, Tup, nodes, nodes_of_parts, parts_of}

-- the nodes of all components
abbrev pub weight : List Structure → ℕ
weight ss = nodes_of_parts (parts_of ss)

pub some_nodes : (s : Structure) → 0 < nodes s
some_nodes (Eps rule) = omega arith
some_nodes (Atom rule label) = omega arith
some_nodes (Named rule s) = omega arith
some_nodes (Alt argument s) = omega arith
some_nodes (Tup form parts) = omega arith

-- a component and those behind it
pub weight_of : (ss more : List Structure) (s : Structure) → ss ≡ s ∷ more → weight ss ≡ nodes s + weight more
weight_of ss more s is = ap weight is
