-- The tree of a structure of the code.
use Rattle.struct_model.specs.declared.tree.Shape.{Shape}
use Rattle.struct_model.specs.declared.tree.Shape.TheVariants as shape
use Rattle.struct_model.specs.Structure.{Structure, Eps, Atom, Named, Alt, Tup, parts_of}

abbrev pub structure_of : Shape → Structure
structure_of (shape.Eps rule) = Eps rule
structure_of (shape.Atom rule label) = Atom rule label
structure_of (shape.Named rule inside) = Named rule inside.value
structure_of (shape.Alt argument inside) = Alt argument inside.value
structure_of (shape.Tup form parts) = Tup form (parts_of parts)
