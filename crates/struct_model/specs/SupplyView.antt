-- The labels of a supply of the code.
use Rattle.std.specs.Prelude.{ℕ, Bool, true, List, replicate}
use Rattle.spec_syntax.specs.declared.statement.Universe.{Universe}
use Rattle.spec_syntax.specs.declared.statement.Universe.TheVariants.{Labelled, Unlabelled}
use Rattle.struct_model.specs.declared.supplies.Supply.{Supply}
use Rattle.struct_model.specs.declared.supplies.Supply.TheVariants.{Zeros, Labels}
use Rattle.lists.specs.Ascending.{ascends_above}

-- the labels that the supply has
abbrev pub supply_labels : Supply → List ℕ
supply_labels (Zeros n) = replicate n 0
supply_labels (Labels labels) = labels

-- the universe whose atoms carry them
abbrev pub supply_universe : Supply → Universe
supply_universe (Zeros n) = Unlabelled
supply_universe (Labels labels) = Labelled

-- the condition of each supply: zeros, or labels that ascend strictly from at least 1
abbrev pub is_in_order : Supply → Bool
is_in_order (Zeros n) = true
is_in_order (Labels labels) = ascends_above 0 labels
