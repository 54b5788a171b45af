-- What is opened, and what a step comes to.
use Rattle.std.specs.Prelude.{◌≡◌, ℕ, ◌+◌, ◌-◌, ◌≤◌, ◌<◌, Bool, true, false, List, [], ◌∷◌, ◌++◌, map, take, drop, length, slice_get, Option, Some, None, IsTrue}
use Rattle.spec_syntax.specs.Nodes.{children_at}
use Rattle.spec_syntax.specs.declared.statement.Universe.TheVariants.{Unlabelled}
use Rattle.struct_model.specs.Structure.{Structure, Alt, size}
use Rattle.struct_model.specs.declared.supplies.Supply.{Supply}
use Rattle.struct_model.specs.declared.supplies.Supply.TheVariants.{Zeros}
use Rattle.struct_model.specs.Membership.{supply, is_supply}
use Rattle.well_founded.specs.Checked.{Checked}
use Rattle.splits.specs.Parts.{parts_of, after}
use Rattle.listing_laws.specs.Lister.{each_before}
use Rattle.listing_laws.specs.NodeListing.{listing_on, number_of_node}
use Rattle.listing_laws.specs.SortedNodes.{following_at}
use Rattle.size_counts.specs.CountedView.{Counts}
use Rattle.struct_walk.specs.declared.later.Later.{Later}
use Rattle.struct_walk.specs.declared.later.LaterLists.{LaterLists}
use Rattle.struct_walk.specs.declared.later.LaterSorted.{LaterSorted}
use Rattle.struct_walk.specs.declared.later.Level.{Level}
use Rattle.struct_walk.specs.declared.tail.Cut.{Cut}
use Rattle.struct_walk.specs.declared.sorted_tail.SortedTail.{SortedTail}
use Rattle.struct_walk.specs.declared.sorted_tail.SortedLevel.{SortedLevel}
use Rattle.struct_walk.specs.Tails.{open_lengths}
use Rattle.struct_walk.specs.SortedTails.{with_greater, at_sorted_level}
use Rattle.struct_walk.specs.After.{arguments_behind, argument_after, structures_after, lists_after, sorted_after, parts_after}
use Rattle.struct_walk.specs.Stands.{LevelStands, SortedLevelStands, GoesOn, Stands, ListsStand, SortedStand, PartsStand}

-- these are the structure and all that comes later
pub record Opens (counts : Counts) (all : List Structure) (opened : Later × Structure) : Type 0 where
  pub whole : all ≡ opened.1 ∷ structures_after counts.checked opened.0 opened.1
  pub stands : Stands counts opened.0 opened.1

-- these are a list of components, which was put behind those before, and all lists that come later
pub record OpensLists (counts : Counts) (all : List (List Structure)) (before after : List Structure) (opened : LaterLists) : Type 0 where
  pub added : List Structure
  pub put : after ≡ before ++ added
  pub whole : all ≡ added ∷ lists_after counts.checked opened added
  pub stands : ListsStand counts opened added

-- the same on one split: each of the first components before each list of the others
pub record OpensSplit (counts : Counts) (firsts : List Structure) (others : List (List Structure)) (before after : List Structure) (opened : Later × LaterLists) : Type 0 where
  pub first : Structure
  pub added : List Structure
  pub put : after ≡ before ++ first ∷ added
  pub each_first : firsts ≡ first ∷ structures_after counts.checked opened.0 first
  pub each_other : others ≡ added ∷ lists_after counts.checked opened.1 added
  pub first_stands : Stands counts opened.0 first
  pub others_stand : ListsStand counts opened.1 added

-- argument number k is the first of the Union behind this number that has a structure with n atoms
pub record IsNextArgument (checked : Checked) (node number n k : ℕ) : Type 0 where
  pub low : number < k
  pub high : k ≤ length (children_at checked.rules node)
  pub child : ℕ
  pub at : slice_get (children_at checked.rules node) (k - 1) ≡ Some child
  pub some : 0 < number_of_node checked child n
  pub passes : (u : List ℕ) → IsTrue (is_supply checked.universe u) → length u ≡ n
      → arguments_behind checked node number u ≡ map (Alt k) (listing_on checked child u) ++ arguments_behind checked node k u

-- no argument behind this number has one
abbrev pub HasNoArgument : Checked → ℕ → ℕ → ℕ → Type 0
HasNoArgument checked node number n = (u : List ℕ) → IsTrue (is_supply checked.universe u) → length u ≡ n → arguments_behind checked node number u ≡ []

-- of these structures the first stands in its place and all others come later, or there are none
abbrev pub Next : Counts → List Structure → Later → Structure → Bool → Type 0
Next counts all later s true = (all ≡ s ∷ structures_after counts.checked later s) × Stands counts later s
Next counts all later s false = all ≡ []

-- the same of structures of a Union's arguments
abbrev pub NextArgument : Counts → ℕ → Supply → List Structure → ℕ → Later → Structure → Bool → Type 0
NextArgument counts node supply all argument later s true =
    (all ≡ Alt argument s ∷ argument_after counts.checked node supply (structures_after counts.checked later) (Alt argument s)) × Stands counts later s
NextArgument counts node supply all argument later s false = all ≡ []

-- the list that comes next from the place on stands there now
pub record ListsStepOn (counts : Counts) (place : ℕ) (later : LaterLists) (before : List Structure) (later' : LaterLists) (after : List Structure) : Type 0 where
  pub kept : take place after ≡ take place before
  pub long : place ≤ length after
  pub next : lists_after counts.checked later (drop place before) ≡ drop place after ∷ lists_after counts.checked later' (drop place after)
  pub stands : ListsStand counts later' (drop place after)

-- no list comes, and no component from the place on is left
pub record ListsEnd (counts : Counts) (place : ℕ) (later : LaterLists) (before after : List Structure) : Type 0 where
  pub kept : after ≡ take place before
  pub none : lists_after counts.checked later (drop place before) ≡ []

abbrev pub ListsStepTo : Counts → ℕ → LaterLists → List Structure → LaterLists → List Structure → Bool → Type 0
ListsStepTo counts place later before later' after true = ListsStepOn counts place later before later' after
ListsStepTo counts place later before later' after false = ListsEnd counts place later before after

-- the same where a component stands at the place
pub record PartsStepOn (counts : Counts) (place : ℕ) (all : List (List Structure)) (before : List Structure) (level : Level) (first : Later) (others : LaterLists) (after : List Structure) : Type 0 where
  pub kept : take place after ≡ take place before
  pub long : place ≤ length after
  pub next : all ≡ drop place after ∷ parts_after counts.checked level first others (drop place after)
  pub level_stands : LevelStands counts level
  pub stand : PartsStand counts first others (drop place after)

-- no list comes, and no component from the place on is left
pub record PartsEnd (place : ℕ) (all : List (List Structure)) (before after : List Structure) : Type 0 where
  pub kept : after ≡ take place before
  pub none : all ≡ []

-- the lists are the one that stands from the place on now and all that come later, or there are none
abbrev pub PartsStepTo : Counts → ℕ → List (List Structure) → List Structure → Level → Later → LaterLists → List Structure → Bool → Type 0
PartsStepTo counts place all before level first others after true = PartsStepOn counts place all before level first others after
PartsStepTo counts place all before level first others after false = PartsEnd place all before after

-- the lists are the one that was put behind those before and all that come later
pub record OpensParts (counts : Counts) (all : List (List Structure)) (before : List Structure) (level : Level) (first : Later) (others : LaterLists) (after : List Structure) : Type 0 where
  pub added : List Structure
  pub put : after ≡ before ++ added
  pub whole : all ≡ added ∷ parts_after counts.checked level first others added
  pub level_stands : LevelStands counts level
  pub stand : PartsStand counts first others added

-- there are none, and nothing was put
pub record OpensNothing (all : List (List Structure)) (before after : List Structure) : Type 0 where
  pub kept : after ≡ before
  pub none : all ≡ []

-- the sorted lists are the one that was put behind those before and all that come later
pub record OpensSortedList (counts : Counts) (all : List (List Structure)) (before after : List Structure) (opened : LaterSorted) : Type 0 where
  pub added : List Structure
  pub put : after ≡ before ++ added
  pub whole : all ≡ added ∷ sorted_after counts.checked opened added
  pub stands : SortedStand counts opened added

-- the first of the sorted lists was put behind those before, or there are none
abbrev pub OpensSorted : Counts → List (List Structure) → List Structure → List Structure → Option LaterSorted → Type 0
OpensSorted counts all before after (Some opened) = OpensSortedList counts all before after opened
OpensSorted counts all before after None = OpensNothing all before after

-- the same, or they are these others
abbrev pub OpensSortedOr : Counts → List (List Structure) → List (List Structure) → List Structure → List Structure → Option LaterSorted → Type 0
OpensSortedOr counts all others before after (Some opened) = OpensSortedList counts all before after opened
OpensSortedOr counts all others before after None = (after ≡ before) × (all ≡ others)

-- behind the structure comes this one with all that come later, or none does
pub record Behind (counts : Counts) (all : List Structure) (s : Structure) (next : List Structure) : Type 0 where
  pub earlier : List Structure
  pub whole : all ≡ earlier ++ s ∷ next

-- behind one of the structures the next one was opened, or there is none
abbrev pub OpensBehind : Counts → List Structure → Structure → Option (Later × Structure) → Type 0
OpensBehind counts all s (Some opened) = Behind counts all s (opened.1 ∷ structures_after counts.checked opened.0 opened.1) × Stands counts opened.0 opened.1
OpensBehind counts all s None = Behind counts all s []

-- behind one of the sorted lists the next one was put behind those before, or there is none
pub record OpensBehindSorted (counts : Counts) (all : List (List Structure)) (ss before after : List Structure) (opened : Option LaterSorted) : Type 0 where
  pub earlier : List (List Structure)
  pub next : List (List Structure)
  pub whole : all ≡ earlier ++ ss ∷ next
  pub opens : OpensSorted counts next before after opened

-- the same of the sorted lists with a first component that comes later than this one, which has the size of the level, or is greater
pub record OpensBehindFirst (counts : Counts) (level : SortedLevel) (component : Structure) (before after : List Structure) (opened : Option LaterSorted) : Type 0 where
  pub earlier : List Structure
  pub next : List Structure
  pub whole : listing_on counts.checked level.behind.element (supply Unlabelled level.taken) ≡ earlier ++ component ∷ next
  pub opens : OpensSorted counts (at_sorted_level counts.checked level next) before after opened

-- the first of the structures of its size that may follow this one was opened, or there is none
abbrev pub OpensFollowing : Counts → SortedTail → Structure → Option (Later × Structure) → Type 0
OpensFollowing counts tail from (Some opened) =
    ((following_at counts.checked tail.element tail.strict from (supply Unlabelled (size from)) ≡ opened.1 ∷ structures_after counts.checked opened.0 opened.1)
    × GoesOn counts (listing_on counts.checked tail.element (supply Unlabelled (size from))) opened.0 opened.1) × Stands counts opened.0 opened.1
OpensFollowing counts tail from None = following_at counts.checked tail.element tail.strict from (supply Unlabelled (size from)) ≡ []

-- the first of the lists was put behind those before, or there are none
abbrev pub OpensAny : Counts → List (List Structure) → List Structure → List Structure → Option LaterLists → Type 0
OpensAny counts all before after (Some opened) = OpensLists counts all before after opened
OpensAny counts all before after None = OpensNothing all before after

-- behind one of the lists the next one was put behind those before, or there is none
pub record OpensBehindList (counts : Counts) (all : List (List Structure)) (ss before after : List Structure) (opened : Option LaterLists) : Type 0 where
  pub earlier : List (List Structure)
  pub next : List (List Structure)
  pub whole : all ≡ earlier ++ ss ∷ next
  pub opens : OpensAny counts next before after opened

-- where a first component with so many of n atoms without labels stands, with the splits that come after its own
abbrev pub level_from : Checked → Cut → ℕ → ℕ → Level
level_from checked cut n taken = record {
  cut = cut;
  rest = Zeros (n - taken);
  splits = record { universe = Unlabelled; left = after (supply Unlabelled taken) (parts_of (open_lengths checked cut n) (supply Unlabelled n)) };
}

-- the lists are one with a first component, which was put behind those before, all that come later than the others behind it, and
-- each later first component before each list of the others
pub record OpensOnSplit (counts : Counts) (all behind : List (List Structure)) (before after : List Structure) (opened : Later × LaterLists) : Type 0 where
  pub first : Structure
  pub added : List Structure
  pub put : after ≡ before ++ first ∷ added
  pub whole : all ≡ (first ∷ added) ∷ map (λ rest. first ∷ rest) (lists_after counts.checked opened.1 added) ++ each_before (structures_after counts.checked opened.0 first) behind
  pub first_stands : Stands counts opened.0 first
  pub others_stand : ListsStand counts opened.1 added

-- or there are none
abbrev pub OpensAnyOnSplit : Counts → List (List Structure) → List (List Structure) → List Structure → List Structure → Option (Later × LaterLists) → Type 0
OpensAnyOnSplit counts all behind before after (Some opened) = OpensOnSplit counts all behind before after opened
OpensAnyOnSplit counts all behind before after None = OpensNothing all before after

-- the same as behind one of the lists, of those on one split
pub record OpensBehindSplit (counts : Counts) (firsts : List Structure) (others : List (List Structure)) (ss before after : List Structure) (opened : Option (Later × LaterLists)) : Type 0 where
  pub earlier : List (List Structure)
  pub next : List (List Structure)
  pub whole : each_before firsts others ≡ earlier ++ ss ∷ next
  pub opens : OpensAnyOnSplit counts next others before after opened

-- one of the structures with all that come later
abbrev pub Resumes : Counts → List Structure → Structure → Later → Type 0
Resumes counts all s later = GoesOn counts all later s × Stands counts later s

abbrev pub PartsOpen : Counts → List (List Structure) → List Structure → Level → Later → LaterLists → List Structure → Bool → Type 0
PartsOpen counts all before level first others after true = OpensParts counts all before level first others after
PartsOpen counts all before level first others after false = OpensNothing all before after

-- the sorted list that comes next from the place on stands there now
pub record SortedStepOn (counts : Counts) (place : ℕ) (later : LaterSorted) (before : List Structure) (later' : LaterSorted) (after : List Structure) : Type 0 where
  pub kept : take place after ≡ take place before
  pub long : place ≤ length after
  pub next : sorted_after counts.checked later (drop place before) ≡ drop place after ∷ sorted_after counts.checked later' (drop place after)
  pub stands : SortedStand counts later' (drop place after)

-- no sorted list comes, and no component from the place on is left
pub record SortedEnd (counts : Counts) (place : ℕ) (later : LaterSorted) (before after : List Structure) : Type 0 where
  pub kept : after ≡ take place before
  pub none : sorted_after counts.checked later (drop place before) ≡ []

abbrev pub SortedStepTo : Counts → ℕ → LaterSorted → List Structure → LaterSorted → List Structure → Bool → Type 0
SortedStepTo counts place later before later' after true = SortedStepOn counts place later before later' after
SortedStepTo counts place later before later' after false = SortedEnd counts place later before after

-- the same of all components
abbrev pub NextSorted : Counts → List (List Structure) → LaterSorted → List Structure → Bool → Type 0
NextSorted counts all later ss true = (all ≡ ss ∷ sorted_after counts.checked later ss) × SortedStand counts later ss
NextSorted counts all later ss false = all ≡ []

-- the sorted lists with one of these first components, which have the size of the level, or a greater one, are the one that was
-- put behind those before and all that come later
pub record FirstStepOn (counts : Counts) (level : SortedLevel) (firsts before : List Structure) (first : Later) (others : LaterSorted) (after : List Structure) : Type 0 where
  pub component : Structure
  pub added : List Structure
  pub put : after ≡ before ++ component ∷ added
  pub whole : at_sorted_level counts.checked level firsts
      ≡ (component ∷ added) ∷ map (λ rest. component ∷ rest) (sorted_after counts.checked others added) ++ at_sorted_level counts.checked level (structures_after counts.checked first component)
  pub level_stands : SortedLevelStands counts level first component
  pub first_stands : Stands counts first component
  pub others_stand : SortedStand counts others added

-- or they all have a greater first component
abbrev pub FirstStepTo : Counts → SortedLevel → List Structure → List Structure → Later → LaterSorted → List Structure → Bool → Type 0
FirstStepTo counts level firsts before first others after true = FirstStepOn counts level firsts before first others after
FirstStepTo counts level firsts before first others after false =
    (after ≡ before) × (at_sorted_level counts.checked level firsts ≡ with_greater counts.checked level.behind level.taken (level.taken + level.left))
