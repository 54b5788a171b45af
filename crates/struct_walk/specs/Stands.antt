-- What is known of a structure and of what comes later, so that the next structure can be reached.
use Rattle.std.specs.Prelude.{◌≡◌, ◌⊎◌, ℕ, ◌+◌, ◌≤◌, ◌<◌, ◌^◌, List, [], ◌∷◌, ◌++◌, length, All, IsTrue}
use Rattle.spec_syntax.specs.declared.statement.Universe.TheVariants.{Unlabelled}
use Rattle.struct_model.specs.Membership.{supply}
use Rattle.struct_model.specs.declared.tree.Form5.{Form5}
use Rattle.struct_model.specs.declared.tree.Form5.TheVariants as form
use Rattle.struct_model.specs.Structure.{Structure, Named, Alt, Tup, part_list, parts_of, size, labels_of_parts}
use Rattle.struct_model.specs.declared.supplies.Supply.{Supply}
use Rattle.struct_model.specs.SupplyView.{supply_labels, supply_universe, is_in_order}
use Rattle.well_founded.specs.declared.node.NodeKind.TheVariants as told
use Rattle.well_founded.specs.Checked.{Checked}
use Rattle.splits.specs.Splits.{Split}
use Rattle.lists.specs.Enumeration.{IsIn}
use Rattle.listing_laws.specs.NodeListing.{HasKind, listing_on}
use Rattle.size_counts.specs.CountedView.{Counts, IsReachedIn}
use Rattle.struct_walk.specs.declared.tail.Cut.{Cut}
use Rattle.struct_walk.specs.declared.later.Later as later
use Rattle.struct_walk.specs.declared.later.Later.{Later}
use Rattle.struct_walk.specs.declared.later.LaterLists as lists
use Rattle.struct_walk.specs.declared.later.LaterLists.{LaterLists}
use Rattle.struct_walk.specs.declared.later.LaterSorted as sorted
use Rattle.struct_walk.specs.declared.later.LaterSorted.{LaterSorted}
use Rattle.struct_walk.specs.declared.later.Level.{Level}
use Rattle.struct_walk.specs.declared.sorted_tail.SortedLevel.{SortedLevel}
use Rattle.struct_walk.specs.After.{structures_after}
use Rattle.struct_walk.specs.SortedTails.{IsSortedTail}
use Rattle.struct_walk.specs.Tails.{tail_on, IsTail}

-- a supply of the class's universe with no more labels than the greatest size
pub record IsAsked (counts : Counts) (supply : Supply) : Type 0 where
  pub in_order : IsTrue (is_in_order supply)
  pub universe : supply_universe supply ≡ counts.checked.universe
  pub within : length (supply_labels supply) ≤ counts.size

-- a Set or a PowerSet, and the form of its structures
abbrev pub IsSetOf : Checked → ℕ → Form5 → Type 0
IsSetOf checked node f = (HasKind checked node told.Set × (f ≡ form.Set)) ⊎ (HasKind checked node told.PowerSet × (f ≡ form.PowerSet))

-- a first component and what stands behind it, both of them reached
pub record IsCut (counts : Counts) (cut : Cut) : Type 0 where
  pub first : IsReachedIn counts cut.first
  pub behind : IsTail counts cut.behind

-- on this split there are a first component and a list of the others
pub record CanOpen (counts : Counts) (cut : Cut) (split : Split) : Type 0 where
  pub part : length split.part ≤ counts.size
  pub rest : length split.rest ≤ counts.size
  pub first : 0 < length (listing_on counts.checked cut.first split.part)
  pub others : 0 < length (tail_on counts.checked cut.behind split.rest)

-- on the present split there is a list of the others, and each split to come can be opened
pub record LevelStands (counts : Counts) (level : Level) : Type 0 where
  pub cut : IsCut counts level.cut
  pub asked : IsAsked counts level.rest
  pub some : 0 < length (tail_on counts.checked level.cut.behind (supply_labels level.rest))
  pub universe : level.splits.universe ≡ counts.checked.universe
  pub splits : All (CanOpen counts level.cut) level.splits.left

-- a Union, and a supply that can be asked for
pub record CanGoOn (counts : Counts) (node : ℕ) (supply : Supply) : Type 0 where
  pub reached : IsReachedIn counts node
  pub union : HasKind counts.checked node told.Union
  pub asked : IsAsked counts supply

-- these are the structure and all that comes later, behind some
pub record GoesOn (counts : Counts) (all : List Structure) (later : Later) (s : Structure) : Type 0 where
  pub earlier : List Structure
  pub whole : all ≡ earlier ++ s ∷ structures_after counts.checked later s

-- the component is one of those of its size, with all that come later, and the others have the atoms that are left
pub record SortedLevelStands (counts : Counts) (level : SortedLevel) (inner : Later) (s : Structure) : Type 0 where
  pub tail : IsSortedTail counts level.behind
  pub within : level.taken + level.left ≤ counts.size
  pub goes_on : GoesOn counts (listing_on counts.checked level.behind.element (supply Unlabelled level.taken)) inner s

-- the structure inside all rules
abbrev pub unnamed : Structure → Structure
unnamed (Named rule s) = unnamed s
unnamed s = s

-- what stands in an argument, and that the arguments behind it can be reached
abbrev pub ArgumentStands : Counts → ℕ → Supply → (Structure → Type 0) → Structure → Type 0
ArgumentStands counts node supply Inside (Alt argument s) = Inside s × CanGoOn counts node supply
ArgumentStands counts node supply Inside s = Unit {0}

-- the same of components
abbrev pub ComponentsStand : (List Structure → Type 0) → Structure → Type 0
ComponentsStand Lists (Tup form parts) = Lists (part_list parts)
ComponentsStand Lists s = Unit {0}

abbrev mutual
  -- all that comes later can be reached
  pub Stands : Counts → Later → Structure → Type 0
  Stands counts later.Nothing s = Unit {0}
  Stands counts (later.Argument' node supply p inner) s = ArgumentStands counts node supply (Stands counts inner) (unnamed s)
  Stands counts (later.Components' p inner) s = ComponentsStand (ListsStand counts inner) (unnamed s)
  Stands counts (later.Sorted' p inner) s = ComponentsStand (SortedStand counts inner) (unnamed s)

  pub ListsStand : Counts → LaterLists → List Structure → Type 0
  ListsStand counts lists.Nothing ss = ss ≡ []
  ListsStand counts (lists.Last inner) [] = ⊥
  ListsStand counts (lists.Last inner) (s ∷ ss) = Stands counts inner s × (ss ≡ [])
  ListsStand counts (lists.Parts' level inner q others) [] = ⊥
  ListsStand counts (lists.Parts' level inner q others) (s ∷ ss) = LevelStands counts level.value × (Stands counts inner s × ListsStand counts others ss)

  pub SortedStand : Counts → LaterSorted → List Structure → Type 0
  SortedStand counts sorted.Nothing ss = ss ≡ []
  SortedStand counts (sorted.Level' level inner q others) [] = ⊥
  SortedStand counts (sorted.Level' level inner q others) (s ∷ ss) = SortedLevelStands counts level inner s × (Stands counts inner s × SortedStand counts others ss)

-- the same of a list whose first component stands on a level
abbrev pub PartsStand : Counts → Later → LaterLists → List Structure → Type 0
PartsStand counts first others [] = ⊥
PartsStand counts first others (s ∷ ss) = Stands counts first s × ListsStand counts others ss

-- each has fewer than 2^32 atoms
abbrev pub AreSmall : List Structure → Type 0
AreSmall ss = (s : Structure) → IsIn s ss → size s < 2 ^ 32

abbrev pub AreSmallLists : List (List Structure) → Type 0
AreSmallLists lists = (ss : List Structure) → IsIn ss lists → length (labels_of_parts (parts_of ss)) < 2 ^ 32
