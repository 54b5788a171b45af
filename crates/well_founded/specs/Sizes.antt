-- Which structures an expression has with every PowerSet read as Set, and how small they are.
use Rattle.std.specs.Prelude.{◌≡◌, ◌⊎◌, ℕ, ◌≤◌, ◌<◌, IsTrue}
use Rattle.spec_syntax.specs.Expression.{Expression}
use Rattle.spec_syntax.specs.Grammar.{Grammar}
use Rattle.struct_model.specs.Structure.{Structure, size}
use Rattle.struct_model.specs.Membership.{is_of}
use Rattle.well_founded.specs.Sets.{with_sets, reading_sets}

-- is one of the expression's structures, where each PowerSet is read as Set
abbrev pub IsOf : Grammar → Expression → Structure → Type 0
IsOf g e s = IsTrue (is_of (reading_sets g) (with_sets e) s)

-- it has a structure
abbrev pub IsProductive : Grammar → Expression → Type 0
IsProductive g e = (s : Structure) × IsOf g e s

-- it has a structure of this size, and none is smaller
pub record IsLeastSize (g : Grammar) (e : Expression) (n : ℕ) : Type 0 where
  pub smallest : Structure
  pub is_of : IsOf g e smallest
  pub has_size : size smallest ≡ n
  pub least : (s : Structure) → IsOf g e s → n ≤ size s

-- the number that stands for a least size above the greatest size that can be asked for, and for none
abbrev pub no_least : ℕ
no_least = 1001

-- the least size, or 1001 where it is greater or where there is no structure
abbrev pub IsLeast : Grammar → Expression → ℕ → Type 0
IsLeast g e n = ((n < no_least) × IsLeastSize g e n) ⊎ ((n ≡ no_least) × ((s : Structure) → IsOf g e s → no_least ≤ size s))
