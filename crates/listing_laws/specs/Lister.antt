-- What a listing on a supply of labels is put together of, for each kind of expression.
use Rattle.std.specs.Prelude.{ℕ, zero, suc, ◌+◌, ◌-◌, Bool, List, [], ◌∷◌, ◌++◌, length, map, if◌then◌else◌}
use Rattle.std.specs.Option.{option_map}
use Rattle.std.specs.List.{flat_map}
use Rattle.spec_syntax.specs.declared.expr.Card.{Card}
use Rattle.spec_syntax.specs.Card.{is_within, admits}
use Rattle.struct_model.specs.declared.tree.Form5.TheVariants as form
use Rattle.struct_model.specs.Structure.{Structure, Eps, Atom, Named, Alt, Tup, parts_of}
use Rattle.splits.specs.Splits.{splits}
use Rattle.splits.specs.Parts.{parts}

-- the product of these components
abbrev pub product : List Structure → Structure
product components = Tup form.Prod (parts_of components)

-- the Sequence of these components
abbrev pub sequence : List Structure → Structure
sequence components = Tup form.Sequence (parts_of components)

-- the structure of size 0, where there is no label
abbrev pub list_epsilon : List ℕ → List Structure
list_epsilon [] = Eps 0 ∷ []
list_epsilon (label ∷ labels) = []

-- the atom with the label, where there is one
abbrev pub list_atom : List ℕ → List Structure
list_atom [] = []
list_atom (label ∷ []) = Atom 0 label ∷ []
list_atom (label ∷ other ∷ labels) = []

-- no components, where there is no label
abbrev pub list_no_components : List ℕ → List (List Structure)
list_no_components [] = [] ∷ []
list_no_components (label ∷ labels) = []

-- each argument's structures in turn, told by the argument's number, which begins at k
abbrev pub alternatives : ℕ → List (List Structure) → List Structure
alternatives k [] = []
alternatives k (structures ∷ others) = map (Alt k) structures ++ alternatives (k + 1) others

-- each first component before each list of the others
abbrev pub each_before : List Structure → List (List Structure) → List (List Structure)
each_before firsts others = flat_map (λ first. map (λ rest. first ∷ rest) others) firsts

-- each first component before each list of those that go on from it
abbrev pub each_going_on : List Structure → (Structure → List (List Structure)) → List (List Structure)
each_going_on firsts others = flat_map (λ first. map (λ rest. first ∷ rest) (others first)) firsts

-- the lists of components: split by split of the supply, then by the first component, then by the others
abbrev pub by_splits : (List ℕ → List Structure) → (List ℕ → List (List Structure)) → List ℕ → List (List Structure)
by_splits first others u = flat_map (λ split. each_before (first split.part) (others split.rest)) (splits u)

-- the same with the first component on from low to high of the labels
abbrev pub by_parts : ℕ → ℕ → (List ℕ → List Structure) → (List ℕ → List (List Structure)) → List ℕ → List (List Structure)
by_parts low high first others u = flat_map (λ split. each_before (first split.part) (others split.rest)) (parts low high u)

-- the bound on the components after the first one
abbrev pub after_one : Card → Card
after_one card = record { low = card.low - 1; high = option_map (λ high. high - 1) card.high }

-- does the bound admit a component
abbrev pub admits_some : Card → Bool
admits_some card = is_within card.high 1

-- no components, where the bound admits that
abbrev pub list_empty : Card → List (List Structure)
list_empty card = if admits card 0 then [] ∷ [] else []

-- the lists of components, as many as the bound admits and at most n, each with a label or more: where there is no label
-- the empty list, and otherwise split by split of the supply, then by the first component, then by the others
abbrev pub list_repeated : (List ℕ → List Structure) → ℕ → Card → List ℕ → List (List Structure)
list_repeated first n card [] = list_empty card
list_repeated first zero card (label ∷ labels) = []
list_repeated first (suc n) card (label ∷ labels) =
    if admits_some card then by_parts 1 (length (label ∷ labels)) first (list_repeated first n (after_one card)) (label ∷ labels) else []

-- what the rule of this number makes of a structure of its right side: a word takes the number, and all else is put inside
abbrev pub named : ℕ → Structure → Structure
named number (Eps zero) = Eps number
named number (Eps (suc rule)) = Named number (Eps (suc rule))
named number (Atom zero label) = Atom number label
named number (Atom (suc rule) label) = Named number (Atom (suc rule) label)
named number (Named rule inside) = Named number (Named rule inside)
named number (Alt argument inside) = Named number (Alt argument inside)
named number (Tup form parts) = Named number (Tup form parts)
