-- What is resumed at a structure, and which structures come after it.
use Rattle.std.specs.Prelude.{◌≡◌, ℕ, Bool, false, List, ◌++◌, ◌∷◌, IsTrue, Some}
use Rattle.std.specs.List.{filter}
use Rattle.spec_syntax.specs.Grammar.{Grammar}
use Rattle.struct_model.specs.Structure.{Structure}
use Rattle.struct_model.specs.Membership.{is_member}
use Rattle.listing_laws.specs.SortedListing.{follows}
use Rattle.size_counts.specs.CountedView.{Counts}
use Rattle.struct_walk.specs.declared.later.LaterLists.{LaterLists}
use Rattle.struct_walk.specs.declared.later.LaterSorted.{LaterSorted}
use Rattle.struct_walk.specs.declared.walk.AfterFault.{AfterFault}
use Rattle.struct_walk.specs.declared.walk.AfterFault.TheVariants.{NotMember, Memory}
use Rattle.struct_walk.specs.After.{lists_after, sorted_after}
use Rattle.struct_walk.specs.Stands.{ListsStand, SortedStand}

-- these are the list of components and all lists that come later, behind some
pub record ListsGoOn (counts : Counts) (all : List (List Structure)) (later : LaterLists) (ss : List Structure) : Type 0 where
  pub earlier : List (List Structure)
  pub whole : all ≡ earlier ++ ss ∷ lists_after counts.checked later ss

-- one of the lists with all that come later
abbrev pub ResumesLists : Counts → List (List Structure) → List Structure → LaterLists → Type 0
ResumesLists counts all ss later = ListsGoOn counts all later ss × ListsStand counts later ss

-- these are the sorted list of components and all lists that come later, behind some
pub record SortedGoOn (counts : Counts) (all : List (List Structure)) (later : LaterSorted) (ss : List Structure) : Type 0 where
  pub earlier : List (List Structure)
  pub whole : all ≡ earlier ++ ss ∷ sorted_after counts.checked later ss

-- one of the sorted lists with all that come later
abbrev pub ResumesSorted : Counts → List (List Structure) → List Structure → LaterSorted → Type 0
ResumesSorted counts all ss later = SortedGoOn counts all later ss × SortedStand counts later ss

-- those of the structures that come after this one, and itself too unless the order is strict
abbrev pub those_after : Bool → Structure → List Structure → List Structure
those_after strict from all = filter (follows strict (Some from)) all

-- no walk begins after what is no member, and otherwise memory was wanting
abbrev pub AfterFaultSays : Grammar → List ℕ → ℕ → Structure → AfterFault → Type 0
AfterFaultSays g name n from NotMember = is_member g name n from ≡ false
AfterFaultSays g name n from Memory = IsTrue (is_member g name n from)
