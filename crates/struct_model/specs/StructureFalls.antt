-- Each structure that stands directly inside another has fewer nodes.
use Rattle.std.specs.Prelude.{◌≤◌, ◌+◌, max, List, [], ◌∷◌}
use Rattle.std.proofs.Common.{arith}
use denote.Param.Weighed.{most}
use Rattle.struct_model.specs.declared.tree.Shape.{Shape}
use Rattle.struct_model.specs.declared.tree.Shape.TheVariants as shape
use Rattle.struct_model.specs.declared.tree.Struct.TheDeep.{deep-Shape}
use Rattle.struct_model.specs.Structure.{Structure, nodes, nodes_of_parts, parts_of}
use Rattle.struct_model.specs.StructureView.{structure_of}

most_le-nodes_of_parts : (ss : List Structure) → most (λ s. nodes s + 1) ss ≤ nodes_of_parts (parts_of ss) + 1
most_le-nodes_of_parts [] = omega arith
most_le-nodes_of_parts (s ∷ ss) = omega (arith, most_le-nodes_of_parts ss)

pub deep-shape_le : (s : Shape) → max (deep-Shape s) 0 ≤ nodes (structure_of s)
deep-shape_le (shape.Eps rule) = omega arith
deep-shape_le (shape.Atom rule label) = omega arith
deep-shape_le (shape.Named rule inside) = omega arith
deep-shape_le (shape.Alt argument inside) = omega arith
deep-shape_le (shape.Tup form parts) = omega (arith, most_le-nodes_of_parts parts)
