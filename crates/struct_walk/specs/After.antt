-- What comes later than a structure.
use Rattle.std.specs.Prelude.{ℕ, ◌+◌, List, [], ◌∷◌, ◌++◌, map, drop}
use Rattle.spec_syntax.specs.Nodes.{children_at}
use Rattle.struct_model.specs.Structure.{Structure, Named, Alt, Tup, part_list, parts_of}
use Rattle.struct_model.specs.declared.supplies.Supply.{Supply}
use Rattle.struct_model.specs.SupplyView.{supply_labels}
use Rattle.well_founded.specs.Checked.{Checked}
use Rattle.listing_laws.specs.Lister.{alternatives, each_before}
use Rattle.listing_laws.specs.NodeListing.{listing_on}
use Rattle.struct_walk.specs.declared.later.Later as later
use Rattle.struct_walk.specs.declared.later.Later.{Later}
use Rattle.struct_walk.specs.declared.later.LaterLists as lists
use Rattle.struct_walk.specs.declared.later.LaterLists.{LaterLists}
use Rattle.struct_walk.specs.declared.later.LaterSorted as sorted
use Rattle.struct_walk.specs.declared.later.LaterSorted.{LaterSorted}
use Rattle.struct_walk.specs.declared.later.Level.{Level}
use Rattle.struct_walk.specs.SortedTails.{at_sorted_level}
use Rattle.struct_walk.specs.Tails.{tail_on, on_splits}

-- of a structure of a rule what there is of the one inside, each as one of the rule
abbrev pub under_rules : (Structure → List Structure) → Structure → List Structure
under_rules after (Named rule s) = map (Named rule) (under_rules after s)
under_rules after s = after s

-- the structures of the Union's arguments behind this number, with the labels of a supply
abbrev pub arguments_behind : Checked → ℕ → ℕ → List ℕ → List Structure
arguments_behind checked node number u = alternatives (number + 1) (map (λ child. listing_on checked child u) (drop number (children_at checked.rules node)))

-- what comes later in an argument of a Union, and then the arguments behind it
abbrev pub argument_after : Checked → ℕ → Supply → (Structure → List Structure) → Structure → List Structure
argument_after checked node supply after (Alt argument s) = map (Alt argument) (after s) ++ arguments_behind checked node argument (supply_labels supply)
argument_after checked node supply after s = []

-- what comes later in a list of components
abbrev pub components_after : (List Structure → List (List Structure)) → Structure → List Structure
components_after after (Tup form parts) = map (λ ss. Tup form (parts_of ss)) (after (part_list parts))
components_after after s = []

-- the lists with a first component that comes later, on the same split, and then those on the splits to come
abbrev pub at_level : Checked → Level → List Structure → List (List Structure)
at_level checked level firsts =
    each_before firsts (tail_on checked level.cut.behind (supply_labels level.rest)) ++ on_splits checked level.cut level.splits.left

abbrev mutual
  -- the structures that come after this one
  pub structures_after : Checked → Later → Structure → List Structure
  structures_after checked later.Nothing s = []
  structures_after checked (later.Argument' node supply p inner) s = under_rules (argument_after checked node supply (structures_after checked inner)) s
  structures_after checked (later.Components' p inner) s = under_rules (components_after (lists_after checked inner)) s
  structures_after checked (later.Sorted' p inner) s = under_rules (components_after (sorted_after checked inner)) s

  -- the lists of components that come after this one
  pub lists_after : Checked → LaterLists → List Structure → List (List Structure)
  lists_after checked lists.Nothing ss = []
  lists_after checked (lists.Last inner) [] = []
  lists_after checked (lists.Last inner) (s ∷ ss) = map (λ t. t ∷ []) (structures_after checked inner s)
  lists_after checked (lists.Parts' level inner q others) [] = []
  lists_after checked (lists.Parts' level inner q others) (s ∷ ss) = map (λ rest. s ∷ rest) (lists_after checked others ss) ++ at_level checked level.value (structures_after checked inner s)

  -- the sorted lists of components that come after this one
  pub sorted_after : Checked → LaterSorted → List Structure → List (List Structure)
  sorted_after checked sorted.Nothing ss = []
  sorted_after checked (sorted.Level' level inner q others) [] = []
  sorted_after checked (sorted.Level' level inner q others) (s ∷ ss) = map (λ rest. s ∷ rest) (sorted_after checked others ss) ++ at_sorted_level checked level (structures_after checked inner s)

-- the lists that come later than one whose first component stands on this level
abbrev pub parts_after : Checked → Level → Later → LaterLists → List Structure → List (List Structure)
parts_after checked level first others [] = []
parts_after checked level first others (s ∷ ss) = map (λ rest. s ∷ rest) (lists_after checked others ss) ++ at_level checked level (structures_after checked first s)
