-- What contracts see of a walk over splits, and the splits whose part has the least label.
use Rattle.std.specs.Prelude.{◌≡◌, ℕ, Bool, List, [], ◌∷◌, map, Option, Some, None, IsTrue}
use Rattle.std.specs.List.{filter}
use Rattle.spec_syntax.specs.declared.statement.Universe.TheVariants.{Labelled}
use Rattle.lists.specs.Ascending.{ascends_above}
use Rattle.lists.specs.Enumeration.{IsIn}
use Rattle.splits.specs.Splits.{Split, taking, splits}
use Rattle.splits.specs.Parts.{has_admitted}
use Rattle.splits.specs.WalkView.{Walk}

-- the splits of a supply whose part has the least label, in the order of the parts. There is none where there is no label
abbrev pub least_splits : List ℕ → List Split
least_splits [] = []
least_splits (label ∷ labels) = map (taking label) (splits labels)

-- those of them whose part has an admitted length
abbrev pub least_parts : List Bool → List ℕ → List Split
least_parts lengths u = filter (has_admitted lengths) (least_splits u)

-- the splits with the label, if there is one, in front of each part
abbrev pub with_label : Option ℕ → List Split → List Split
with_label None ss = ss
with_label (Some label) ss = map (taking label) ss

-- what contracts see of a walk over the splits of another walk with the label in front of each part
abbrev pub leading : Option ℕ → Walk → Walk
leading least walk = record { universe = walk.universe; left = with_label least walk.left }

-- the label, if there is one, is below those of each part
abbrev pub CanLead : Option ℕ → Walk → Type 0
CanLead None walk = Unit {0}
CanLead (Some label) walk = (walk.universe ≡ Labelled) × ((split : Split) → IsIn split walk.left → IsTrue (ascends_above 0 (label ∷ split.part)))
