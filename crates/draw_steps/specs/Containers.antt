-- What containers make of a list of components.
use Rattle.std.specs.Prelude.{ℕ, ◌+◌, List, [], ◌∷◌, map, find, length, unwrap_or}
use Rattle.std.specs.List.{range_with_len}
use Rattle.struct_model.specs.Structure.{Structure, Eps, size}
use Rattle.struct_model.specs.Order.{rotated, is_least_rotation}
use Rattle.well_founded.specs.declared.node.NodeKind.{NodeKind}
use Rattle.well_founded.specs.declared.node.NodeKind.TheVariants as told
use Rattle.listing_laws.specs.Lister.{product, sequence}
use Rattle.listing_laws.specs.SetListing.{set, power_set}
use Rattle.listing_laws.specs.LeastFirst.{cycle}
use Rattle.canon.specs.Sorted.{with_item}

-- the components in their order
abbrev pub sorted : List Structure → List Structure
sorted [] = []
sorted (s ∷ ss) = with_item s (sorted ss)

-- the least rotation of the components
abbrev pub turned : List Structure → List Structure
turned ss = unwrap_or (find is_least_rotation (map (rotated ss) (range_with_len 0 (length ss)))) ss

-- the structure of this kind that has the components; of words, names and Unions there is none
abbrev pub contained : NodeKind → List Structure → Structure
contained told.Epsilon ss = Eps 0
contained told.Atom ss = Eps 0
contained told.Rule ss = Eps 0
contained told.Union ss = Eps 0
contained told.Prod ss = product ss
contained told.Sequence ss = sequence ss
contained told.Set ss = set (sorted ss)
contained told.PowerSet ss = power_set (sorted ss)
contained told.Cycle ss = cycle (turned ss)

-- the atoms of all components
abbrev pub atoms : List Structure → ℕ
atoms [] = 0
atoms (s ∷ ss) = size s + atoms ss
