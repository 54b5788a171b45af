-- What contracts see of walkers.
use Rattle.std.specs.Prelude.{Bool, true, false, List, [], ◌∷◌, refl}
use Rattle.std.specs.Coded.{Coded, code_by, coded×, coded_list, coded_bool}
use Rattle.struct_model.specs.StructureCode.{structure_code}
use Rattle.size_counts.specs.CountedCode.{counts_code}
use Rattle.struct_model.specs.Structure.{Structure}
use Rattle.size_counts.specs.CountedView.{Counts}
use Rattle.struct_walk.specs.declared.walker.Walker.{Walker}
use Rattle.struct_walk.specs.declared.walker.Walker.TheVariants.{Broken, Ended, At}
use Rattle.struct_walk.specs.After.{structures_after}
use Rattle.struct_walk.specs.Stands.{Stands, AreSmall}

-- the structures that are still to come, told with the numbers of the class
abbrev pub walker_rest : Counts → Walker → List Structure
walker_rest counts Broken = []
walker_rest counts Ended = []
walker_rest counts (At s later) = s ∷ structures_after counts.checked later s

abbrev pub walker_is_broken : Walker → Bool
walker_is_broken Broken = true
walker_is_broken Ended = false
walker_is_broken (At s later) = false

-- the walker has a rest with these numbers
abbrev pub HasRest : Counts → Walker → Type 0
HasRest counts Broken = Unit {0}
HasRest counts Ended = Unit {0}
HasRest counts (At s later) = Stands counts later s × AreSmall (structures_after counts.checked later s)

-- the numbers of the class, the structures that are still to come, and whether the walk is broken
pub record Iterated : Type 0 where
  pub counts : Counts
  pub rest : List Structure
  pub is_broken : Bool

abbrev pub iterated : Counts → Walker → Iterated
iterated counts walker = record { counts = counts; rest = walker_rest counts walker; is_broken = walker_is_broken walker }

abbrev pub iterated_code : Coded Iterated
iterated_code =
    code_by (Counts × (List Structure × Bool)) (coded× counts_code (coded× (coded_list structure_code) coded_bool)) (λ i. (i.counts, (i.rest, i.is_broken)))
    (λ parts. record { counts = parts.0; rest = parts.1.0; is_broken = parts.1.1 }) (λ i. refl)
