-- Classes with endlessly many structures of one size.
use Rattle.std.specs.Prelude.{◌≡◌, ℕ, List, length, IsTrue}
use Rattle.spec_syntax.specs.Grammar.{Grammar}
use Rattle.struct_model.specs.Structure.{Structure}
use Rattle.struct_model.specs.Membership.{is_member}
use Rattle.lists.specs.Enumeration.{IsIn, Ascends}
use Rattle.well_founded.specs.Sets.{reading_sets}

abbrev pub Differ : Structure → Structure → Type 0
Differ s t = s ≡ t → ⊥

-- for every number there are so many different members of the class of the name at size n, where each PowerSet is read as Set
abbrev pub HasEndlesslyMany : Grammar → List ℕ → ℕ → Type 0
HasEndlesslyMany g name n =
    (k : ℕ) → (ss : List Structure) × (length ss ≡ k) × Ascends Differ ss × ((s : Structure) → IsIn s ss → IsTrue (is_member (reading_sets g) name n s))
