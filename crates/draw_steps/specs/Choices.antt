-- The choices of the nodes of a class on a supply of labels, by the numbers of the class.
use Rattle.std.specs.Prelude.{ℕ, zero, suc, ◌+◌, ◌-◌, ◌*◌, Bool, false, List, [], ◌++◌, map, length, replicate, slice_get, unwrap_or, if◌then◌else◌}
use Rattle.std.specs.Option.{option_map_or, option_and_then}
use Rattle.std.specs.List.{flat_map, range_with_len}
use Rattle.spec_syntax.specs.declared.statement.Universe.{Universe}
use Rattle.spec_syntax.specs.declared.statement.Universe.TheVariants.{Labelled, Unlabelled}
use Rattle.spec_syntax.specs.Card.{admits}
use Rattle.spec_syntax.specs.Rules.{symbol}
use Rattle.spec_syntax.specs.Nodes.{node_at, children_at, name_at, card_at, right_node}
use Rattle.struct_model.specs.Structure.{Structure, Eps, Atom, Alt}
use Rattle.struct_model.specs.Membership.{supply}
use Rattle.well_founded.specs.declared.node.NodeKind.{NodeKind}
use Rattle.well_founded.specs.declared.node.NodeKind.TheVariants as told
use Rattle.well_founded.specs.NodeKinds.{kind_of}
use Rattle.splits.specs.Splits.{Split}
use Rattle.splits.specs.Parts.{parts}
use Rattle.count_laws.specs.SetNumbers.{with_less}
use Rattle.listing_laws.specs.Lister.{product, named}
use Rattle.listing_laws.specs.Numbers.{ways}
use Rattle.size_counts.specs.CountedView.{Counts, number_of, suffix_of, lists_of, sets_of, cycles_of}
use Rattle.choice_laws.specs.Trees.{Tree, end, nothing, graft}
use Rattle.draw_steps.specs.declared.missing.Lists.{Lists}
use Rattle.draw_steps.specs.declared.missing.Lists.TheVariants.{Components, Elements, Members}
use Rattle.draw_steps.specs.declared.copies.Copies.{Copies}
use Rattle.draw_steps.specs.Steps.{among, ending, in_front}
use Rattle.draw_steps.specs.Containers.{contained}

-- ---- nodes

-- child number i of the node, counted from 1
abbrev pub child_of : Counts → ℕ → ℕ → ℕ
child_of counts node i = unwrap_or (slice_get (children_at counts.checked.rules node) (i - 1)) 0

-- the number of the rule that the node names
abbrev pub rule_named : Counts → ℕ → ℕ
rule_named counts node = unwrap_or (option_and_then (symbol counts.checked.rules) (name_at counts.checked.rules node)) 0

-- does the bound of the node admit c components
abbrev pub admits_at : Counts → ℕ → ℕ → Bool
admits_at counts node c = option_map_or (λ card. admits card c) (card_at counts.checked.rules node) false

-- ---- lists of components, of which so many are missing

-- the node of the first of them
abbrev pub first_of : Counts → Lists → ℕ → ℕ
first_of counts (Components node) missing = child_of counts node (length (children_at counts.checked.rules node) - missing + 1)
first_of counts (Elements node element) missing = element
first_of counts (Members node element) missing = element

-- how many lists of them there are with m atoms
abbrev pub lists_number : Counts → Lists → ℕ → ℕ → ℕ
lists_number counts (Components node) missing m = suffix_of counts node (length (children_at counts.checked.rules node) - missing + 1) m
lists_number counts (Elements node element) missing m = lists_of counts node missing m
lists_number counts (Members node element) missing m = sets_of counts node missing m

-- how many times each list of them is met by its first component: a set of them once for each
abbrev pub times_met : Lists → ℕ → ℕ
times_met (Components node) missing = 1
times_met (Elements node element) missing = 1
times_met (Members node element) missing = missing

-- the weight of d of m atoms in the first of them
abbrev pub length_weight : Counts → Lists → ℕ → ℕ → ℕ → ℕ
length_weight counts lists missing m d =
    ways counts.checked.universe m d * (number_of counts (first_of counts lists missing) d * lists_number counts lists (missing - 1) (m - d))

-- the number of atoms of the first of them
abbrev pub length_step : Counts → Lists → ℕ → ℕ → Tree ℕ
length_step counts lists missing m = among (length_weight counts lists missing m) (range_with_len 0 (m + 1))

-- d of the labels, and what remains: each part alike
abbrev pub part_step : List ℕ → ℕ → Tree Split
part_step u d = among (λ split. 1) (parts d d u)

-- its labels, and what remains
abbrev pub split_step : Counts → Lists → ℕ → List ℕ → Tree Split
split_step counts lists missing u = graft (part_step u) (length_step counts lists missing (length u))

-- The components one after another: how many atoms the first one has, then which labels, then itself by the choices of its node,
-- then the others on what remains. The last one has all that is left, since no list of none has an atom.
abbrev pub list_choices : Counts → (ℕ → List ℕ → Tree Structure) → Lists → ℕ → List ℕ → Tree (List Structure)
list_choices counts inner lists zero u = end []
list_choices counts inner lists (suc behind) u =
    graft
    (λ split. in_front (inner (first_of counts lists (suc behind)) split.part) (list_choices counts inner lists behind split.rest))
    (split_step counts lists (suc behind) u)

-- ---- Sets without labels

-- of so many missing components with m atoms: each size and each number of copies, the size first
abbrev pub copies_of : ℕ → ℕ → List Copies
copies_of missing m = flat_map (λ d. map (λ j. record { size = d; number = j }) (range_with_len 1 missing)) (range_with_len 1 m)

-- the weight of the element's structures of a size, each so many times: with each Set of the others
abbrev pub copies_weight : Counts → ℕ → ℕ → ℕ → ℕ → Copies → ℕ
copies_weight counts node element missing m copies =
    number_of counts element copies.size * with_less (copies.number * copies.size) (sets_of counts node (missing - copies.number)) m

abbrev pub copies_step : Counts → ℕ → ℕ → ℕ → ℕ → Tree Copies
copies_step counts node element missing m = among (copies_weight counts node element missing m) (copies_of missing m)

-- the element put so many times in front of the others
abbrev pub repeated : {X : Type 0} → ℕ → X → List X → List X
repeated number x xs = replicate number x ++ xs

-- One element after another, each with the number of its copies, at most so many different ones.
abbrev pub repeated_choices : Counts → (ℕ → List ℕ → Tree Structure) → ℕ → ℕ → (most missing m : ℕ) → Tree (List Structure)
repeated_choices counts inner node element most zero m = end []
repeated_choices counts inner node element zero (suc missing) m = nothing
repeated_choices counts inner node element (suc most) (suc missing) m =
    graft
    (λ copies. graft
    (λ s. ending (repeated copies.number s) (repeated_choices counts inner node element most (suc missing - copies.number) (m - copies.number * copies.size)))
    (inner element (supply Unlabelled copies.size)))
    (copies_step counts node element (suc missing) m)

-- ---- nodes

-- how many structures of the container have c components and n atoms; of other nodes none
abbrev pub number_with : Counts → NodeKind → ℕ → ℕ → ℕ → ℕ
number_with counts told.Epsilon node c n = 0
number_with counts told.Atom node c n = 0
number_with counts told.Rule node c n = 0
number_with counts told.Union node c n = 0
number_with counts told.Prod node c n = 0
number_with counts told.Sequence node c n = lists_of counts node c n
number_with counts told.Set node c n = sets_of counts node c n
number_with counts told.PowerSet node c n = sets_of counts node c n
number_with counts told.Cycle node c n = cycles_of counts node c n

-- the number of components, of those that the bound admits
abbrev pub count_step : Counts → NodeKind → ℕ → ℕ → Tree ℕ
count_step counts kind node n =
    among (λ c. if admits_at counts node c then number_with counts kind node c n else 0) (range_with_len 0 (n + 1))

-- the argument of a Union
abbrev pub argument_step : Counts → ℕ → ℕ → Tree ℕ
argument_step counts node n = among (λ i. number_of counts (child_of counts node i) n) (range_with_len 1 (length (children_at counts.checked.rules node)))

-- The c components of a container: in a Sequence and a Cycle a list; in a Set or PowerSet with labels those of a set one after
-- another; in a Set without labels each with the number of its copies. Of a PowerSet without labels there are no choices.
abbrev pub members_by : Counts → (ℕ → List ℕ → Tree Structure) → NodeKind → Universe → ℕ → ℕ → List ℕ → Tree (List Structure)
members_by counts inner told.Epsilon universe node c u = nothing
members_by counts inner told.Atom universe node c u = nothing
members_by counts inner told.Rule universe node c u = nothing
members_by counts inner told.Union universe node c u = nothing
members_by counts inner told.Prod universe node c u = nothing
members_by counts inner told.Sequence universe node c u = list_choices counts inner (Elements node (child_of counts node 1)) c u
members_by counts inner told.Set Labelled node c u = list_choices counts inner (Members node (child_of counts node 1)) c u
members_by counts inner told.Set Unlabelled node c u = repeated_choices counts inner node (child_of counts node 1) c c (length u)
members_by counts inner told.PowerSet Labelled node c u = list_choices counts inner (Members node (child_of counts node 1)) c u
members_by counts inner told.PowerSet Unlabelled node c u = nothing
members_by counts inner told.Cycle universe node c u = list_choices counts inner (Elements node (child_of counts node 1)) c u

-- the structures of a container: the number of components, and then these
abbrev pub container_choices : Counts → (ℕ → List ℕ → Tree Structure) → NodeKind → ℕ → List ℕ → Tree Structure
container_choices counts inner kind node u =
    ending (contained kind) (graft (λ c. members_by counts inner kind counts.checked.universe node c u) (count_step counts kind node (length u)))

-- the structures of a rule by those of its right side
abbrev pub rule_choices : Counts → (ℕ → List ℕ → Tree Structure) → ℕ → List ℕ → Tree Structure
rule_choices counts inner sym u = ending (named sym) (inner (right_node counts.checked.rules sym) u)

-- those of a Union: the argument, and then a structure of it
abbrev pub union_choices : Counts → (ℕ → List ℕ → Tree Structure) → ℕ → List ℕ → Tree Structure
union_choices counts inner node u = graft (λ i. ending (Alt i) (inner (child_of counts node i) u)) (argument_step counts node (length u))

-- those of a Prod: all its components
abbrev pub prod_choices : Counts → (ℕ → List ℕ → Tree Structure) → ℕ → List ℕ → Tree Structure
prod_choices counts inner node u = ending product (list_choices counts inner (Components node) (length (children_at counts.checked.rules node)) u)

-- the structures of a node of this kind, by the choices of the nodes below it
abbrev pub choices_by : Counts → (ℕ → List ℕ → Tree Structure) → ℕ → List ℕ → NodeKind → Tree Structure
choices_by counts inner node u told.Epsilon = end (Eps 0)
choices_by counts inner node u told.Atom = end (Atom 0 (unwrap_or (slice_get u 0) 0))
choices_by counts inner node u told.Rule = rule_choices counts inner (rule_named counts node) u
choices_by counts inner node u told.Union = union_choices counts inner node u
choices_by counts inner node u told.Prod = prod_choices counts inner node u
choices_by counts inner node u told.Sequence = container_choices counts inner told.Sequence node u
choices_by counts inner node u told.Set = container_choices counts inner told.Set node u
choices_by counts inner node u told.PowerSet = container_choices counts inner told.PowerSet node u
choices_by counts inner node u told.Cycle = container_choices counts inner told.Cycle node u

-- The choices of the structures of a node with the labels of a supply, down to this depth. From the depth on to which structures
-- of the size go, they are the same.
abbrev pub choices : Counts → ℕ → ℕ → List ℕ → Tree Structure
choices counts zero node u = nothing
choices counts (suc depth) node u =
    option_map_or (λ e. choices_by counts (choices counts depth) node u (kind_of e)) (node_at counts.checked.rules node) nothing

-- the choices of the members of the class at the size, down to this depth
abbrev pub class_choices : Counts → ℕ → Tree Structure
class_choices counts depth =
    option_map_or (λ sym. rule_choices counts (choices counts depth) sym (supply counts.checked.universe counts.size)) counts.checked.start nothing
