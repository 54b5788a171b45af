use Rattle.std.proofs.Common.{Bool, ℕ, ◌≡◌, ◌⊎◌, ◌+◌, ◌-◌, ◌<◌, ◌≤◌, Option, List, ◌∷◌, [], length, map, drop, slice_get, true, Some, None, inl, inr, refl, sym, ap, subst, ◌∙◌, arith, IfOk, ◌++◌}
use Rattle.std.specs.Option.{option_and_then}
use Rattle.std.proofs.lemmas.Bool.{cases_lt}
use Rattle.std.proofs.lemmas.Result.{IfOk-weaker}
use Rattle.lists.specs.Enumeration.{IsIn}
use Rattle.lists.proofs.Places.{drop_at}
use Rattle.std.proofs.lemmas.List.{drop_all, length-drop}
use Rattle.struct_model.specs.StructureView.{structure_of}
use Rattle.std.specs.Prelude.{IfOk, IsTrue}
use Rattle.spec_syntax.specs.Rules.{symbol, all_nodes}
use Rattle.spec_syntax.specs.declared.statement.Universe.TheVariants.{Labelled, Unlabelled}
use Rattle.spec_syntax.specs.declared.expr.Card.{Card}
use Rattle.spec_syntax.specs.Card.{admits}
use Rattle.spec_syntax.specs.Nodes.{right_node, name_at, card_at, children_at}
use Rattle.struct_model.specs.Structure.{Structure, Named, Alt, Eps, Atom, Tup, parts_of, size}
use Rattle.struct_model.specs.Membership.{supply}
use Rattle.struct_model.proofs.SupplyLaws.{supply_size}
use Rattle.struct_model.specs.declared.supplies.Supply.{Supply}
use Rattle.struct_model.specs.SupplyView.{supply_labels, supply_universe, is_in_order}
use Rattle.well_founded.specs.Checked.{Checked}
use Rattle.well_founded.specs.declared.node.NodeKind.{NodeKind}
use Rattle.well_founded.specs.declared.node.NodeKind.TheVariants as told
use Rattle.splits.specs.WalkView.{split_into}
use Rattle.splits.specs.Splits.{Split}
use Rattle.listing_laws.specs.Lister.{list_atom, product, sequence}
use Rattle.listing_laws.specs.NodeListing.{HasKind, listing_on, rule_on, later_on, lists_on, number_of_node}
use Rattle.listing_laws.specs.LeastFirst.{cycle}
use Rattle.listing_laws.specs.LeastNodes.{set_lists_on, cycle_lists_on}
use Rattle.listing_laws.proofs.LeastNodes.{labelled_nodes_are_listed}
use Rattle.listing_laws.proofs.NodeLemmas.{nodes_are_listed}
use Rattle.size_counts.specs.CountedView.{Counts, IsReachedIn, number_of}
use Rattle.struct_walk.specs.declared.later.Later as later
use Rattle.struct_walk.specs.declared.sorted_tail.SortedTail.{SortedTail}
use Rattle.struct_walk.specs.SortedTails.{IsSortedTail, IsFrontOf, sorted_form, behind_one, in_front, size_in_front, sorted_from, with_greater, at_sorted_level}
use Rattle.struct_walk.specs.declared.tail.Tail.{Tail}
use Rattle.struct_walk.specs.declared.tail.Cut.{Cut}
use Rattle.struct_walk.specs.Tails.{cut_of, tail_on, is_end, first_parts, open_lengths, on_splits}
use Rattle.struct_walk.specs.After.{arguments_behind, structures_after}
use Rattle.struct_walk.specs.Stands.{IsAsked, CanGoOn, CanOpen, LevelStands}
use Rattle.struct_walk.specs.Opened.{Opens, OpensLists, OpensSplit, OpensSortedOr, OpensFollowing, NextArgument, OpensBehind, OpensBehindSorted, OpensBehindFirst, Resumes, OpensParts, OpensBehindList, OpensAny, level_from}
use Rattle.struct_walk.proofs.StepArguments.{next_reached, next_some, next_down, next_opens}
use Rattle.struct_walk.proofs.StepForms.{named_opens}
use Rattle.struct_walk.proofs.Measures.{node_measure, union_measure, rule_down, right_down, prod_down, sequence_down, cycle_down, set_down, union_down}
use Rattle.struct_walk.proofs.SortedMeasures.{sorted_measure, level_measure, component_down, level_node_down, sorted_node_down, level_others_down, sorted_others_down, sorted_level_down, whole_down}
use Rattle.struct_walk.proofs.SortedLemmas.{supplied, behind_stands, none_empty}
use Rattle.struct_walk.proofs.BehindSorted.{number_there, atoms_there, none_behind_empty, admitted, component_high, component_low, component_listed, level_component, level_alone, now_in_front, others_there, others_open, taken_off, later_opens, has_components, parts_listed, none_comes, next_few, next_comes, next_level}
use Rattle.struct_walk.proofs.SortedOpens.{some_sorted, sorted_few, sorted_opens, no_front, empty_opens, first_of_all, too_large, none_fills, none_follows, follower_level, follower_put, component_front, none_behind, first_opens, sizes_end, size_found, size_left, size_fails, size_empty, size_opens, zeros_asked, behind_follows, itself_follows}
use Rattle.struct_walk.proofs.OpenLemmas.{asked_supply, opens_one, epsilon_alone, atom_label, rule_inside, name_is_rule, some_holds, none_holds, by_arguments, some_argument, lists_end, is_cut, last_whole, last_some, last_down, last_opens, some_split, has_first, part_asked, rest_asked, part_some, rest_some, split_down, parts_whole, parts_stand, level_stands, made_some, set_listed, set_kinds, own_below, right_some, rule_epsilon, rule_label, rule_atom, few_atoms, components_open}
use Rattle.struct_walk.proofs.ReachedNodes.{reached_within, reached_rule, reached_child}
use Rattle.struct_walk.proofs.TailLemmas.{listing_number, counted_number}
use Rattle.struct_walk.proofs.TailListings.{cycle_labelled}
use Rattle.struct_walk.proofs.+opening.Goals.{sorted::open_same-then-n-taken-via-then-n-taken, sorted::open_same-then-n-taken-via-else-n-taken+then-not-may_go_on, sorted::open_level-then-not-may_go_on-via-then-not-may_go_on, sorted::open_level-then-not-may_go_on-via-else-not-may_go_on+then-number-eq0}
use Rattle.well_founded.specs.declared.node.NodeKind.TheVariants as told
use Rattle.struct_walk.specs.declared.later.Later as later
use Rattle.spec_syntax.specs.declared.expr.Kind.TheVariants as kind
use Rattle.struct_walk.specs.declared.later.Later.{Later}
use Rattle.struct_walk.specs.declared.later.Level.{Level}
use Rattle.struct_walk.proofs.StepSplits.{next_can, part_asked as part_of_level, rest_asked as rest_of_level, next_parts}
use Rattle.struct_walk.proofs.ResumedNodes.{not_named as named_shape, not_argument, argument_low, argument_high, argument_inside}
use Rattle.struct_walk.proofs.ResumedLists.{not_components}
use Rattle.struct_walk.proofs.BehindNodes.{one_there, zeros_of, none_behind_lone, few_of_word, few_of_rule, inside_there, behind_named, none_behind_named, behind_in_argument, behind_argument, behind_arguments, some_there}
use Rattle.struct_walk.proofs.BehindLists.{parts_there, components_behind, no_components_behind, put_there, others_found, first_found, none_found, popped_off, kept_there, list_few, end_behind, cut_is_there, a_component, last_one, last_falls, behind_lone, taken_within, part_there_too, first_in, others_in, split_falls, level_there, on_split, on_later_split, later_falls, no_cycle}
use Rattle.struct_walk.proofs.+opening.Goals as goal

-- ---- open_lists

-- the cut that the code reads, at the number of labels
cut_at : (counts : Counts) (n m : ℕ) → n ≡ m → (tail : _) (found : _) → found ≡ cut_of counts.checked tail n → cut_of counts.checked tail m ≡ found
cut_at counts n m same tail found is = ap (cut_of counts.checked tail) (sym same) ∙ sym is

pub open::open_lists-returns-in_default : goal.open::open_lists-returns-in_default
open::open_lists-returns-in_default t c =
    lists_end c.args.counted.now c.grammar.ensures.kept c.args.tail c.args.supply c.requires.tail c.requires.asked c.requires.some c.args.components.now
    (cut_at c.args.counted.now c.len-n.result (length (supply_labels c.args.supply)) c.len-n.ensures c.args.tail None c.in_default.ensures)

pub open::open_lists-admitted_lengths-requires-clause-first : goal.open::open_lists-admitted_lengths-requires-clause-first
open::open_lists-admitted_lengths-requires-clause-first t c =
    (is_cut c.args.counted.now c.grammar.ensures.kept c.args.tail c.args.supply c.requires.tail c.requires.asked c.requires.some c.in-Some.cut
    (cut_at c.args.counted.now c.len-n.result (length (supply_labels c.args.supply)) c.len-n.ensures c.args.tail (Some c.in-Some.cut)
    c.in-Some.ensures)).first

pub open::open_lists-admitted_lengths-requires-clause-behind : goal.open::open_lists-admitted_lengths-requires-clause-behind
open::open_lists-admitted_lengths-requires-clause-behind t c =
    (is_cut c.args.counted.now c.grammar.ensures.kept c.args.tail c.args.supply c.requires.tail c.requires.asked c.requires.some c.in-Some.cut
    (cut_at c.args.counted.now c.len-n.result (length (supply_labels c.args.supply)) c.len-n.ensures c.args.tail (Some c.in-Some.cut)
    c.in-Some.ensures)).behind

pub open::open_lists-is_end-requires : goal.open::open_lists-is_end-requires
open::open_lists-is_end-requires t c =
    (is_cut c.args.counted.now c.grammar.ensures.kept c.args.tail c.args.supply c.requires.tail c.requires.asked c.requires.some c.in-Some.cut
    (cut_at c.args.counted.now c.len-n.result (length (supply_labels c.args.supply)) c.len-n.ensures c.args.tail (Some c.in-Some.cut)
    c.in-Some.ensures)).behind

pub open::open_lists-open_last-requires : goal.open::open_lists-open_last-requires
open::open_lists-open_last-requires t c =
    let counts = c.args.counted.now in
    let ok = c.grammar.ensures.kept in
    let cuts : cut_of counts.checked c.args.tail (length (supply_labels c.args.supply)) ≡ Some c.in-Some.cut =
    cut_at counts c.len-n.result (length (supply_labels c.args.supply)) c.len-n.ensures c.args.tail (Some c.in-Some.cut) c.in-Some.ensures in
    let ends : is_end counts.checked c.in-Some.cut.behind ≡ true = sym c.is_end.ensures ∙ c.if-is_end.true in
    let down = last_down counts ok c.args.tail c.args.supply c.requires.tail c.requires.asked c.requires.some c.in-Some.cut cuts ends in (
      omega (arith, c.decreases, down),
      (
        (is_cut counts ok c.args.tail c.args.supply c.requires.tail c.requires.asked c.requires.some c.in-Some.cut cuts).first,
        (
          c.requires.asked,
          last_some counts ok c.args.tail c.args.supply c.requires.tail c.requires.asked c.requires.some c.in-Some.cut cuts ends,
        ),
      ),
    )

pub open::open_lists-returns-then-is_end : goal.open::open_lists-returns-then-is_end
open::open_lists-returns-then-is_end t c =
    let counts = c.args.counted.now in
    let cuts : cut_of counts.checked c.args.tail (length (supply_labels c.args.supply)) ≡ Some c.in-Some.cut =
    cut_at counts c.len-n.result (length (supply_labels c.args.supply)) c.len-n.ensures c.args.tail (Some c.in-Some.cut) c.in-Some.ensures in
    let ends : is_end counts.checked c.in-Some.cut.behind ≡ true = sym c.is_end.ensures ∙ c.if-is_end.true in
    subst (λ all. IfOk c.open_last.result (OpensLists counts all c.args.components.now c.open_last.new.components))
    (last_whole counts c.grammar.ensures.kept c.args.tail c.args.supply c.requires.tail c.requires.asked c.requires.some c.in-Some.cut cuts ends)
    c.open_last.ensures

-- the splits to come that the walk holds
splits_at : (checked : Checked) (tail : Tail) (cut : Cut) (u : List ℕ) (n : ℕ) (marks : List Bool) (left now : List Split) → n ≡ length u
    → marks ≡ open_lengths checked cut n → left ≡ first_parts tail marks u
    → left ≡ now → first_parts tail (open_lengths checked cut (length u)) u ≡ now
splits_at checked tail cut u n marks left now long lengths all is =
    ap (λ (m : ℕ). first_parts tail (open_lengths checked cut m) u) (sym long) ∙ ap (λ (ls : List Bool). first_parts tail ls u) (sym lengths) ∙ sym all ∙ is

pub open::open_lists-first_splits-requires-clause-first : goal.open::open_lists-first_splits-requires-clause-first
open::open_lists-first_splits-requires-clause-first t c =
    has_first c.args.counted.now c.grammar.ensures.kept c.args.tail c.args.supply c.requires.tail c.requires.asked c.requires.some c.in-Some.cut
    (cut_at c.args.counted.now c.len-n.result (length (supply_labels c.args.supply)) c.len-n.ensures c.args.tail (Some c.in-Some.cut) c.in-Some.ensures)

pub open::open_lists-unreachable-requires : goal.open::open_lists-unreachable-requires
open::open_lists-unreachable-requires t c =
    some_split c.args.counted.now c.grammar.ensures.kept c.args.tail c.args.supply c.requires.tail c.requires.asked c.requires.some c.in-Some.cut
    (cut_at c.args.counted.now c.len-n.result (length (supply_labels c.args.supply)) c.len-n.ensures c.args.tail (Some c.in-Some.cut) c.in-Some.ensures)
    (splits_at c.args.counted.now.checked c.args.tail c.in-Some.cut (supply_labels c.args.supply) c.len-n.result c.in_ok-lengths.lengths.items
    c.in_ok-splits.splits.left [] c.len-n.ensures
    c.in_ok-lengths.ensures c.in_ok-splits.ensures.all (none_holds (c.in_ok-splits.splits.left ≡ []) c.in_ok-part.field-0 c.in_default-2.is
    c.in_ok-part.ensures.none))

pub open::open_lists-open_split-requires : goal.open::open_lists-open_split-requires
open::open_lists-open_split-requires t c =
    let counts = c.args.counted.now in
    let ok = c.grammar.ensures.kept in
    let part = c.in-Some-2.part in
    let rest = c.in-Some-2.rest in
    let cuts : cut_of counts.checked c.args.tail (length (supply_labels c.args.supply)) ≡ Some c.in-Some.cut =
    cut_at counts c.len-n.result (length (supply_labels c.args.supply)) c.len-n.ensures c.args.tail (Some c.in-Some.cut) c.in-Some.ensures in
    let came : c.in_ok-part.field-0 ≡ Some (part, rest) = c.in-Some-2.is in
    let whole : first_parts c.args.tail (open_lengths counts.checked c.in-Some.cut (length (supply_labels c.args.supply))) (supply_labels c.args.supply) ≡
    split_into part rest ∷ c.next.new.self.left =
    splits_at counts.checked c.args.tail c.in-Some.cut (supply_labels c.args.supply) c.len-n.result c.in_ok-lengths.lengths.items c.in_ok-splits.splits.left
    (split_into part rest ∷ c.next.new.self.left) c.len-n.ensures c.in_ok-lengths.ensures c.in_ok-splits.ensures.all
    (some_holds (λ split. c.in_ok-splits.splits.left ≡ split_into split.0 split.1 ∷ c.next.new.self.left) c.in_ok-part.field-0 (part, rest) came
    c.in_ok-part.ensures.some) in
    let of_part : IsAsked counts part =
    part_asked counts ok c.args.tail c.args.supply c.requires.tail c.requires.asked c.requires.some c.in-Some.cut cuts part rest c.next.new.self.left whole
    (some_holds (λ split. IsTrue (is_in_order split.0)) c.in_ok-part.field-0 (part, rest) came c.in_ok-part.ensures.part_in_order)
    (some_holds (λ split. supply_universe split.0 ≡ c.in_ok-splits.splits.universe) c.in_ok-part.field-0 (part, rest) came
    c.in_ok-part.ensures.part_universe ∙ c.in_ok-splits.ensures.universe) in
    let of_rest : IsAsked counts rest =
    rest_asked counts ok c.args.tail c.args.supply c.requires.tail c.requires.asked c.requires.some c.in-Some.cut cuts part rest c.next.new.self.left whole
    (some_holds (λ split. IsTrue (is_in_order split.1)) c.in_ok-part.field-0 (part, rest) came c.in_ok-part.ensures.rest_in_order)
    (some_holds (λ split. supply_universe split.1 ≡ c.in_ok-splits.splits.universe) c.in_ok-part.field-0 (part, rest) came
    c.in_ok-part.ensures.rest_universe ∙ c.in_ok-splits.ensures.universe) in
    let down = split_down counts ok c.args.tail c.args.supply c.requires.tail c.requires.asked c.requires.some c.in-Some.cut cuts part rest
    c.next.new.self.left whole of_part of_rest in (
      omega (arith, c.decreases, down),
      (
        is_cut counts ok c.args.tail c.args.supply c.requires.tail c.requires.asked c.requires.some c.in-Some.cut cuts,
        (
          of_part,
          (
            of_rest,
            (
              part_some counts ok c.args.tail c.args.supply c.requires.tail c.requires.asked c.requires.some c.in-Some.cut cuts part rest
                  c.next.new.self.left whole,
              rest_some counts ok c.args.tail c.args.supply c.requires.tail c.requires.asked c.requires.some c.in-Some.cut cuts part rest
                  c.next.new.self.left whole,
            ),
          ),
        ),
      ),
    )

pub open::open_lists-returns : goal.open::open_lists-returns
open::open_lists-returns t c =
    let counts = c.args.counted.now in
    let ok = c.grammar.ensures.kept in
    let part = c.in-Some-2.part in
    let rest = c.in-Some-2.rest in
    let cuts : cut_of counts.checked c.args.tail (length (supply_labels c.args.supply)) ≡ Some c.in-Some.cut =
    cut_at counts c.len-n.result (length (supply_labels c.args.supply)) c.len-n.ensures c.args.tail (Some c.in-Some.cut) c.in-Some.ensures in
    let came : c.in_ok-part.field-0 ≡ Some (part, rest) = c.in-Some-2.is in
    let whole : first_parts c.args.tail (open_lengths counts.checked c.in-Some.cut (length (supply_labels c.args.supply))) (supply_labels c.args.supply) ≡
    split_into part rest ∷ c.next.new.self.left =
    splits_at counts.checked c.args.tail c.in-Some.cut (supply_labels c.args.supply) c.len-n.result c.in_ok-lengths.lengths.items c.in_ok-splits.splits.left
    (split_into part rest ∷ c.next.new.self.left) c.len-n.ensures c.in_ok-lengths.ensures c.in_ok-splits.ensures.all
    (some_holds (λ split. c.in_ok-splits.splits.left ≡ split_into split.0 split.1 ∷ c.next.new.self.left) c.in_ok-part.field-0 (part, rest) came
    c.in_ok-part.ensures.some) in
    let of_rest : IsAsked counts rest =
    rest_asked counts ok c.args.tail c.args.supply c.requires.tail c.requires.asked c.requires.some c.in-Some.cut cuts part rest c.next.new.self.left whole
    (some_holds (λ split. IsTrue (is_in_order split.1)) c.in_ok-part.field-0 (part, rest) came c.in_ok-part.ensures.rest_in_order)
    (some_holds (λ split. supply_universe split.1 ≡ c.in_ok-splits.splits.universe) c.in_ok-part.field-0 (part, rest) came
    c.in_ok-part.ensures.rest_universe ∙ c.in_ok-splits.ensures.universe) in
    let opens : OpensSplit counts (listing_on counts.checked c.in-Some.cut.first (supply_labels part))
    (tail_on counts.checked c.in-Some.cut.behind (supply_labels rest)) c.args.components.now
    c.open_split.new.components (c.in_ok-first.first, c.in_ok-first.others) = c.in_ok-first.ensures in
    record {
      added = opens.first ∷ opens.added;
      put = opens.put;
      whole =
          parts_whole counts ok c.args.tail c.args.supply c.requires.tail c.requires.asked c.requires.some c.in-Some.cut cuts part rest
          c.next.new.self.left whole
          (c.in_ok-first.first, c.in_ok-first.others) c.in_ok-others.others.value c.in_ok-copy_supply.field-0
          c.next.new.self c.in_ok-level.level.value c.args.components.now
          c.open_split.new.components c.in_ok-others.ensures.ok c.in_ok-copy_supply.ensures refl c.in_ok-level.ensures.ok opens;
      stands = (
        level_stands counts ok c.args.tail c.args.supply c.requires.tail c.requires.asked c.requires.some c.in-Some.cut cuts part rest
            c.next.new.self.left whole
            (c.in_ok-first.first, c.in_ok-first.others) c.in_ok-others.others.value c.in_ok-copy_supply.field-0
            c.next.new.self c.in_ok-level.level.value c.args.components.now
            c.open_split.new.components c.in_ok-others.ensures.ok c.in_ok-copy_supply.ensures refl c.in_ok-level.ensures.ok opens
            (c.in_ok-part.ensures.universe ∙ c.in_ok-splits.ensures.universe) of_rest,
        parts_stand counts ok c.args.tail c.args.supply c.requires.tail c.requires.asked c.requires.some c.in-Some.cut cuts part rest
            c.next.new.self.left whole
            (c.in_ok-first.first, c.in_ok-first.others) c.in_ok-others.others.value c.in_ok-copy_supply.field-0
            c.next.new.self c.in_ok-level.level.value c.args.components.now
            c.open_split.new.components c.in_ok-others.ensures.ok c.in_ok-copy_supply.ensures refl c.in_ok-level.ensures.ok opens,
      );
    }

-- ---- open_last

pub open::open_last-returns : goal.open::open_last-returns
open::open_last-returns t c =
    last_opens c.args.counted.now (listing_on c.args.counted.now.checked c.args.node (supply_labels c.args.supply)) c.in_ok-later.later
    c.in_ok-later.component c.args.components.now c.push.new.self c.in_ok-later.ensures c.in_ok-push.ensures.ok

-- ---- open_components

pub open::open_components-invariant_of-s : goal.open::open_components-invariant_of-s
open::open_components-invariant_of-s t c =
    few_atoms c.args.counted.now c.grammar.ensures.kept c.args.tail c.args.supply c.requires.tail c.requires.asked c.requires.some c.args.form
    c.new-components.result
    c.open_lists.new.components c.in_ok-lists.lists c.in_ok-later.later.value c.new-components.ensures c.in_ok-later.ensures.ok c.in_ok-lists.ensures

pub open::open_components-returns : goal.open::open_components-returns
open::open_components-returns t c =
    components_open c.args.counted.now c.grammar.ensures.kept c.args.tail c.args.supply c.requires.tail c.requires.asked c.requires.some c.args.form
    c.new-components.result c.open_lists.new.components c.in_ok-lists.lists c.in_ok-later.later.value c.new-components.ensures c.in_ok-later.ensures.ok c.in_ok-lists.ensures _

-- ---- open_node

-- what the code reads of the grammar
kind_read : (grammar checked : Checked) (node : ℕ) (k known : NodeKind) → grammar ≡ checked → HasKind grammar node k → k ≡ known
    → HasKind checked node known
kind_read grammar checked node k known same has is = subst (λ (g : Checked). HasKind g node known) same (has ∙ ap (λ kind. Some kind) is)

node_read : (counts : Counts) (grammar : Checked) (node : ℕ) → grammar ≡ counts.checked → node < length (all_nodes counts.checked.rules)
    → node < length (all_nodes grammar.rules)
node_read counts grammar node same within = subst (λ (g : Checked). node < length (all_nodes g.rules)) (sym same) within

pub open::open_node-only_label-requires : goal.open::open_node-only_label-requires
open::open_node-only_label-requires t c =
    let checked = c.args.counted.now.checked in
    let is : HasKind checked c.args.node told.Atom = kind_read c.grammar-grammar.result.now checked c.args.node c.kind.result told.Atom
    c.grammar-grammar.ensures.value c.kind.ensures c.in-Atom.is in
    atom_label (supply_labels c.args.supply) (subst (λ (ss : List Structure). 0 < length ss)
    (nodes_are_listed.atom checked c.args.node (supply_labels c.args.supply) c.grammar-grammar.ensures.kept.passed
    (asked_supply c.args.counted.now c.args.supply c.requires.asked) is) c.requires.some)

pub open::open_node-sym-requires-clause-within : goal.open::open_node-sym-requires-clause-within
open::open_node-sym-requires-clause-within t c =
    node_read c.args.counted.now c.grammar-grammar.result.now c.args.node c.grammar-grammar.ensures.value
    (reached_within c.args.counted.now c.grammar-grammar.ensures.kept c.args.node c.requires.reached)

pub open::open_node-open_rule-requires : goal.open::open_node-open_rule-requires
open::open_node-open_rule-requires t c =
    let counts = c.args.counted.now in
    let checked = c.args.counted.now.checked in
    let ok = c.grammar-grammar.ensures.kept in
    let u = supply_labels c.args.supply in
    let supplied = asked_supply counts c.args.supply c.requires.asked in
    let is : HasKind checked c.args.node told.Rule = kind_read c.grammar-grammar.result.now checked c.args.node c.kind.result told.Rule
    c.grammar-grammar.ensures.value c.kind.ensures c.in-Rule.is in
    let found : option_and_then (symbol checked.rules) (name_at checked.rules c.args.node) ≡ Some c.sym.result =
    subst (λ (g : Checked). option_and_then (symbol g.rules) (name_at g.rules c.args.node) ≡ Some c.sym.result) c.grammar-grammar.ensures.value
    c.sym.ensures.value in
    let high : c.sym.result ≤ length checked.rules = subst (λ (g : Checked). c.sym.result ≤ length g.rules) c.grammar-grammar.ensures.value
    c.sym.ensures.high in
    let some : 0 < length (rule_on checked c.sym.result u) =
    subst (λ (ss : List Structure). 0 < length ss) (name_is_rule checked ok.passed c.args.node c.sym.result u supplied is c.sym.ensures.low high
    found) c.requires.some in
    let right_there : 0 < number_of_node checked (right_node checked.rules c.sym.result) (length u) =
    subst (λ (m : ℕ). 0 < m) (listing_number checked ok.passed (right_node checked.rules c.sym.result) u supplied)
    (right_some checked ok.passed c.sym.result u supplied c.sym.ensures.low high some) in
    let down = rule_down checked ok.passed c.args.node c.sym.result (length u) is found (omega (arith, c.requires.asked.within, ok.small))
    right_there in (
      omega (arith, c.decreases, down),
      (c.sym.ensures.low, (high, (reached_rule counts ok c.args.node c.sym.result c.requires.reached is found, (c.requires.asked, some)))),
    )

pub open::open_node-open_components-requires : goal.open::open_node-open_components-requires
open::open_node-open_components-requires t c =
    let counts = c.args.counted.now in
    let checked = c.args.counted.now.checked in
    let ok = c.grammar-grammar.ensures.kept in
    let u = supply_labels c.args.supply in
    let is : HasKind checked c.args.node told.Prod = kind_read c.grammar-grammar.result.now checked c.args.node c.kind.result told.Prod
    c.grammar-grammar.ensures.value c.kind.ensures c.in-Prod.is in
    let listed = nodes_are_listed.prod checked c.args.node u ok.passed (asked_supply counts c.args.supply c.requires.asked) is in
    let down = prod_down checked ok.passed c.args.node (length u) (reached_within counts ok c.args.node c.requires.reached) in (
      omega (arith, c.decreases, down),
      (
        record { reached = c.requires.reached; prod = is; within = omega arith },
        (c.requires.asked, made_some product (later_on checked c.args.node 0 u) (listing_on checked c.args.node u) listed c.requires.some),
      ),
    )

pub open::open_node-child-requires-clause-within : goal.open::open_node-child-requires-clause-within
open::open_node-child-requires-clause-within t c =
    node_read c.args.counted.now c.grammar-grammar.result.now c.args.node c.grammar-grammar.ensures.value
    (reached_within c.args.counted.now c.grammar-grammar.ensures.kept c.args.node c.requires.reached)

pub open::open_node-open_components-requires-in-Sequence : goal.open::open_node-open_components-requires-in-Sequence
open::open_node-open_components-requires-in-Sequence t c =
    let counts = c.args.counted.now in
    let checked = c.args.counted.now.checked in
    let ok = c.grammar-grammar.ensures.kept in
    let u = supply_labels c.args.supply in
    let is : HasKind checked c.args.node told.Sequence =
    kind_read c.grammar-grammar.result.now checked c.args.node c.kind.result told.Sequence c.grammar-grammar.ensures.value c.kind.ensures c.in-Sequence.is in
    let child : slice_get (children_at checked.rules c.args.node) 0 ≡ Some c.child.result =
    subst (λ (g : Checked). slice_get (children_at g.rules c.args.node) 0 ≡ Some c.child.result) c.grammar-grammar.ensures.value c.child.ensures.value in
    let card : card_at checked.rules c.args.node ≡ Some c.card.result =
    subst (λ (g : Checked). card_at g.rules c.args.node ≡ Some c.card.result) c.grammar-grammar.ensures.value c.card.ensures in
    let listed = nodes_are_listed.sequence checked c.args.node c.child.result c.card.result u ok.passed
    (asked_supply counts c.args.supply c.requires.asked) is child card in
    let down = sequence_down checked ok.passed c.args.node c.child.result (length u) c.card.result card in (
      omega (arith, c.decreases, down),
      (
        record {
          reached = c.requires.reached;
          kind = inl is;
          child = child;
          below = λ own n its within. own_below counts c.args.node c.card.result own n card its within;
        },
        (c.requires.asked, made_some sequence (lists_on checked c.child.result c.card.result u) (listing_on checked c.args.node u) listed c.requires.some),
      ),
    )

pub open::open_node-open_components-requires-in-Cycle : goal.open::open_node-open_components-requires-in-Cycle
open::open_node-open_components-requires-in-Cycle t c =
    let counts = c.args.counted.now in
    let checked = c.args.counted.now.checked in
    let ok = c.grammar-grammar.ensures.kept in
    let u = supply_labels c.args.supply in
    let is : HasKind checked c.args.node told.Cycle =
    kind_read c.grammar-grammar.result.now checked c.args.node c.kind.result told.Cycle c.grammar-grammar.ensures.value c.kind.ensures c.in-Cycle.is in
    let child : slice_get (children_at checked.rules c.args.node) 0 ≡ Some c.child-in-Cycle.result =
    subst (λ (g : Checked). slice_get (children_at g.rules c.args.node) 0 ≡ Some c.child-in-Cycle.result) c.grammar-grammar.ensures.value c.child-in-Cycle.ensures.value in
    let card : card_at checked.rules c.args.node ≡ Some c.card-in-Cycle.result =
    subst (λ (g : Checked). card_at g.rules c.args.node ≡ Some c.card-in-Cycle.result) c.grammar-grammar.ensures.value c.card-in-Cycle.ensures in
    let labelled = cycle_labelled checked ok.passed c.args.node c.child-in-Cycle.result is child in
    let listed = labelled_nodes_are_listed.cycle_node checked c.args.node c.child-in-Cycle.result c.card-in-Cycle.result u ok.passed labelled
    (asked_supply counts c.args.supply c.requires.asked) is child card in
    let down = cycle_down checked ok.passed c.args.node c.child-in-Cycle.result (length u) c.card-in-Cycle.result card in (
      omega (arith, c.decreases, down),
      (
        record { labelled = labelled; reached = c.requires.reached; cycle = is; child = child; own = card },
        (c.requires.asked, made_some cycle (cycle_lists_on checked c.child-in-Cycle.result c.card-in-Cycle.result u) (listing_on checked c.args.node u) listed c.requires.some),
      ),
    )

pub open::open_node-returns-in-Cycle : goal.open::open_node-returns-in-Cycle
open::open_node-returns-in-Cycle t c =
    let counts = c.args.counted.now in
    let checked = c.args.counted.now.checked in
    let ok = c.grammar-grammar.ensures.kept in
    let u = supply_labels c.args.supply in
    let is : HasKind checked c.args.node told.Cycle =
    kind_read c.grammar-grammar.result.now checked c.args.node c.kind.result told.Cycle c.grammar-grammar.ensures.value c.kind.ensures c.in-Cycle.is in
    let child : slice_get (children_at checked.rules c.args.node) 0 ≡ Some c.child-in-Cycle.result =
    subst (λ (g : Checked). slice_get (children_at g.rules c.args.node) 0 ≡ Some c.child-in-Cycle.result) c.grammar-grammar.ensures.value c.child-in-Cycle.ensures.value in
    let card : card_at checked.rules c.args.node ≡ Some c.card-in-Cycle.result =
    subst (λ (g : Checked). card_at g.rules c.args.node ≡ Some c.card-in-Cycle.result) c.grammar-grammar.ensures.value c.card-in-Cycle.ensures in
    subst (λ (ss : List Structure). IfOk c.open_components-in-Cycle.result (Opens counts ss))
    (sym (labelled_nodes_are_listed.cycle_node checked c.args.node c.child-in-Cycle.result c.card-in-Cycle.result u ok.passed
    (cycle_labelled checked ok.passed c.args.node c.child-in-Cycle.result is child)
    (asked_supply counts c.args.supply c.requires.asked) is child card)) c.open_components-in-Cycle.ensures

-- ---- open_set

pub open::open_set-open_components-requires : goal.open::open_set-open_components-requires
open::open_set-open_components-requires t c =
    let counts = c.args.counted.now in
    let checked = c.args.counted.now.checked in
    let ok = c.grammar-grammar.ensures.kept in
    let u = supply_labels c.args.supply in
    let labelled : checked.universe ≡ Labelled =
    ap (λ (g : Checked). g.universe) (sym c.grammar-grammar.ensures.value) ∙ sym c.universe.ensures ∙ c.in-Labelled.is in
    let child : slice_get (children_at checked.rules c.args.node) 0 ≡ Some c.child.result =
    subst (λ (g : Checked). slice_get (children_at g.rules c.args.node) 0 ≡ Some c.child.result) c.grammar-grammar.ensures.value c.child.ensures.value in
    let card : card_at checked.rules c.args.node ≡ Some c.card.result =
    subst (λ (g : Checked). card_at g.rules c.args.node ≡ Some c.card.result) c.grammar-grammar.ensures.value c.card.ensures in
    let listed = set_listed counts ok c.args.supply c.args.node c.child.result c.card.result c.args.form c.requires.asked labelled c.requires.set child card in
    let down = set_down checked ok.passed c.args.node c.child.result (length u) c.card.result card in (
      omega (arith, c.decreases, down),
      (
        record {
          labelled = labelled;
          reached = c.requires.reached;
          kind = set_kinds checked c.args.node c.args.form c.requires.set;
          child = child;
          below = λ own n its within. own_below counts c.args.node c.card.result own n card its within;
        },
        (
          c.requires.asked,
          made_some (λ ss. Tup c.args.form (parts_of ss)) (set_lists_on checked c.child.result c.card.result u) (listing_on checked c.args.node u) listed c.requires.some,
        ),
      ),
    )

pub open::open_set-returns-in-Labelled : goal.open::open_set-returns-in-Labelled
open::open_set-returns-in-Labelled t c =
    let counts = c.args.counted.now in
    let checked = c.args.counted.now.checked in
    let ok = c.grammar-grammar.ensures.kept in
    let labelled : checked.universe ≡ Labelled =
    ap (λ (g : Checked). g.universe) (sym c.grammar-grammar.ensures.value) ∙ sym c.universe.ensures ∙ c.in-Labelled.is in
    let child : slice_get (children_at checked.rules c.args.node) 0 ≡ Some c.child.result =
    subst (λ (g : Checked). slice_get (children_at g.rules c.args.node) 0 ≡ Some c.child.result) c.grammar-grammar.ensures.value c.child.ensures.value in
    let card : card_at checked.rules c.args.node ≡ Some c.card.result =
    subst (λ (g : Checked). card_at g.rules c.args.node ≡ Some c.card.result) c.grammar-grammar.ensures.value c.card.ensures in
    subst (λ (ss : List Structure). IfOk c.open_components.result (Opens counts ss))
    (sym (set_listed counts ok c.args.supply c.args.node c.child.result c.card.result c.args.form c.requires.asked labelled c.requires.set child card)) c.open_components.ensures

-- ---- open_node, words and Unions

pub open::open_node-returns-in-Epsilon : goal.open::open_node-returns-in-Epsilon
open::open_node-returns-in-Epsilon t c =
    let checked = c.args.counted.now.checked in
    let is : HasKind checked c.args.node told.Epsilon = kind_read c.grammar-grammar.result.now checked c.args.node c.kind.result told.Epsilon
    c.grammar-grammar.ensures.value c.kind.ensures c.in-Epsilon.is in
    let listed = nodes_are_listed.epsilon checked c.args.node (supply_labels c.args.supply) c.grammar-grammar.ensures.kept.passed
    (asked_supply c.args.counted.now c.args.supply c.requires.asked) is in
    opens_one c.args.counted.now (listing_on checked c.args.node (supply_labels c.args.supply)) (Eps 0)
    (listed ∙ epsilon_alone (supply_labels c.args.supply) (subst (λ (ss : List Structure). 0 < length ss) listed c.requires.some))

pub open::open_node-returns-in-Atom : goal.open::open_node-returns-in-Atom
open::open_node-returns-in-Atom t c =
    let checked = c.args.counted.now.checked in
    let is : HasKind checked c.args.node told.Atom = kind_read c.grammar-grammar.result.now checked c.args.node c.kind.result told.Atom
    c.grammar-grammar.ensures.value c.kind.ensures c.in-Atom.is in
    let listed = nodes_are_listed.atom checked c.args.node (supply_labels c.args.supply) c.grammar-grammar.ensures.kept.passed
    (asked_supply c.args.counted.now c.args.supply c.requires.asked) is in
    opens_one c.args.counted.now (listing_on checked c.args.node (supply_labels c.args.supply)) (Atom 0 c.only_label.result)
    (listed ∙ ap list_atom c.only_label.ensures)

pub open::open_node-returns-in-Rule : goal.open::open_node-returns-in-Rule
open::open_node-returns-in-Rule t c =
    let counts = c.args.counted.now in
    let checked = c.args.counted.now.checked in
    let ok = c.grammar-grammar.ensures.kept in
    let u = supply_labels c.args.supply in
    let is : HasKind checked c.args.node told.Rule = kind_read c.grammar-grammar.result.now checked c.args.node c.kind.result told.Rule
    c.grammar-grammar.ensures.value c.kind.ensures c.in-Rule.is in
    let found : option_and_then (symbol checked.rules) (name_at checked.rules c.args.node) ≡ Some c.sym.result =
    subst (λ (g : Checked). option_and_then (symbol g.rules) (name_at g.rules c.args.node) ≡ Some c.sym.result) c.grammar-grammar.ensures.value
    c.sym.ensures.value in
    let high : c.sym.result ≤ length checked.rules = subst (λ (g : Checked). c.sym.result ≤ length g.rules) c.grammar-grammar.ensures.value
    c.sym.ensures.high in
    subst (λ (ss : List Structure). IfOk c.open_rule.result (Opens counts ss))
    (sym (name_is_rule checked ok.passed c.args.node c.sym.result u (asked_supply counts c.args.supply c.requires.asked) is c.sym.ensures.low high
    found)) c.open_rule.ensures

pub open::open_node-returns-in-Prod : goal.open::open_node-returns-in-Prod
open::open_node-returns-in-Prod t c =
    let counts = c.args.counted.now in
    let checked = c.args.counted.now.checked in
    let u = supply_labels c.args.supply in
    let is : HasKind checked c.args.node told.Prod = kind_read c.grammar-grammar.result.now checked c.args.node c.kind.result told.Prod
    c.grammar-grammar.ensures.value c.kind.ensures c.in-Prod.is in
    subst (λ (ss : List Structure). IfOk c.open_components.result (Opens counts ss))
    (sym (nodes_are_listed.prod checked c.args.node u c.grammar-grammar.ensures.kept.passed
    (asked_supply counts c.args.supply c.requires.asked) is)) c.open_components.ensures

pub open::open_node-returns-in-Sequence : goal.open::open_node-returns-in-Sequence
open::open_node-returns-in-Sequence t c =
    let counts = c.args.counted.now in
    let checked = c.args.counted.now.checked in
    let u = supply_labels c.args.supply in
    let is : HasKind checked c.args.node told.Sequence =
    kind_read c.grammar-grammar.result.now checked c.args.node c.kind.result told.Sequence c.grammar-grammar.ensures.value c.kind.ensures c.in-Sequence.is in
    let child : slice_get (children_at checked.rules c.args.node) 0 ≡ Some c.child.result =
    subst (λ (g : Checked). slice_get (children_at g.rules c.args.node) 0 ≡ Some c.child.result) c.grammar-grammar.ensures.value c.child.ensures.value in
    let card : card_at checked.rules c.args.node ≡ Some c.card.result =
    subst (λ (g : Checked). card_at g.rules c.args.node ≡ Some c.card.result) c.grammar-grammar.ensures.value c.card.ensures in
    subst (λ (ss : List Structure). IfOk c.open_components-in-Sequence.result (Opens counts ss))
    (sym (nodes_are_listed.sequence checked c.args.node c.child.result c.card.result u c.grammar-grammar.ensures.kept.passed
    (asked_supply counts c.args.supply c.requires.asked) is child card)) c.open_components-in-Sequence.ensures

-- ---- open_rule

node_of_rule : (grammar checked : Checked) (number right : ℕ) → grammar ≡ checked → right ≡ right_node grammar.rules number
    → right ≡ right_node checked.rules number
node_of_rule grammar checked number right same is = subst (λ (g : Checked). right ≡ right_node g.rules number) same is

right_read : (grammar checked : Checked) (number right : ℕ) (k known : NodeKind) → grammar ≡ checked → right ≡ right_node grammar.rules number
    → HasKind grammar right k → k ≡ known
    → HasKind checked (right_node checked.rules number) known
right_read grammar checked number right k known same node has is =
    subst (λ (n : ℕ). HasKind checked n known) (node_of_rule grammar checked number right same node) (kind_read grammar checked right k known same has is)

-- the other kinds are no words
no_word : (k : NodeKind)
    → (k ≡ told.Rule) ⊎ ((k ≡ told.Union) ⊎ ((k ≡ told.Prod) ⊎ ((k ≡ told.Sequence) ⊎ ((k ≡ told.Set) ⊎ ((k ≡ told.PowerSet) ⊎ (k ≡ told.Cycle))))))
    → (k ≡ told.Epsilon → ⊥) × (k ≡ told.Atom → ⊥)
no_word k (inl is) = ((λ e. cc), (λ e. cc))
no_word k (inr (inl is)) = ((λ e. cc), (λ e. cc))
no_word k (inr (inr (inl is))) = ((λ e. cc), (λ e. cc))
no_word k (inr (inr (inr (inl is)))) = ((λ e. cc), (λ e. cc))
no_word k (inr (inr (inr (inr (inl is))))) = ((λ e. cc), (λ e. cc))
no_word k (inr (inr (inr (inr (inr (inl is)))))) = ((λ e. cc), (λ e. cc))
no_word k (inr (inr (inr (inr (inr (inr is)))))) = ((λ e. cc), (λ e. cc))

pub open::open_rule-only_label-requires : goal.open::open_rule-only_label-requires
open::open_rule-only_label-requires t c =
    let counts = c.args.counted.now in
    let is = right_read c.grammar-grammar.result.now counts.checked c.args.sym c.rule_node-right.result c.kind.result told.Atom
    c.grammar-grammar.ensures.value c.rule_node-right.ensures.value
    c.kind.ensures c.in-Atom.is in
    rule_label counts.checked c.grammar-grammar.ensures.kept.passed c.args.sym (supply_labels c.args.supply)
    (asked_supply counts c.args.supply c.requires.asked) c.requires.low c.requires.high
    c.requires.some is

pub open::open_rule-open_node-requires : goal.open::open_rule-open_node-requires
open::open_rule-open_node-requires t c =
    let counts = c.args.counted.now in
    let checked = c.args.counted.now.checked in
    let ok = c.grammar-grammar.ensures.kept in
    let u = supply_labels c.args.supply in
    let right : c.rule_node-right.result ≡ right_node checked.rules c.args.sym =
    node_of_rule c.grammar-grammar.result.now checked c.args.sym c.rule_node-right.result c.grammar-grammar.ensures.value c.rule_node-right.ensures.value in
    let is = right_read c.grammar-grammar.result.now checked c.args.sym c.rule_node-right.result c.kind.result c.kind.result
    c.grammar-grammar.ensures.value c.rule_node-right.ensures.value
    c.kind.ensures refl in
    let no = no_word c.kind.result c.in-Rule.is in
    let down = right_down checked ok.passed c.args.sym (length u) c.kind.result c.requires.low c.requires.high is no.0 no.1 in
    let some = right_some checked ok.passed c.args.sym u (asked_supply counts c.args.supply c.requires.asked) c.requires.low c.requires.high
    c.requires.some in (
      omega (arith, c.decreases, down, ap (λ (node : ℕ). node_measure checked node (length u)) right),
      (
        subst (λ (node : ℕ). IsReachedIn counts node) (sym right) c.requires.reached,
        (c.requires.asked, subst (λ (node : ℕ). 0 < length (listing_on checked node u)) (sym right) some),
      ),
    )

pub open::open_rule-returns-in-Epsilon : goal.open::open_rule-returns-in-Epsilon
open::open_rule-returns-in-Epsilon t c =
    let counts = c.args.counted.now in
    let is = right_read c.grammar-grammar.result.now counts.checked c.args.sym c.rule_node-right.result c.kind.result told.Epsilon
    c.grammar-grammar.ensures.value
    c.rule_node-right.ensures.value c.kind.ensures c.in-Epsilon.is in
    opens_one counts (rule_on counts.checked c.args.sym (supply_labels c.args.supply)) (Eps c.args.sym)
    (rule_epsilon counts.checked c.grammar-grammar.ensures.kept.passed c.args.sym (supply_labels c.args.supply)
    (asked_supply counts c.args.supply c.requires.asked) c.requires.low
    c.requires.high c.requires.some is)

pub open::open_rule-returns-in-Atom : goal.open::open_rule-returns-in-Atom
open::open_rule-returns-in-Atom t c =
    let counts = c.args.counted.now in
    let is = right_read c.grammar-grammar.result.now counts.checked c.args.sym c.rule_node-right.result c.kind.result told.Atom
    c.grammar-grammar.ensures.value c.rule_node-right.ensures.value
    c.kind.ensures c.in-Atom.is in
    opens_one counts (rule_on counts.checked c.args.sym (supply_labels c.args.supply)) (Atom c.args.sym c.only_label.result)
    (rule_atom counts.checked c.grammar-grammar.ensures.kept.passed c.args.sym c.only_label.result (supply_labels c.args.supply)
    (asked_supply counts c.args.supply c.requires.asked)
    c.requires.low c.requires.high c.only_label.ensures is)

pub open::open_rule-returns-in_ok-inside-in-Rule : goal.open::open_rule-returns-in_ok-inside-in-Rule
open::open_rule-returns-in_ok-inside-in-Rule t c =
    let counts = c.args.counted.now in
    let checked = c.args.counted.now.checked in
    let u = supply_labels c.args.supply in
    let right : c.rule_node-right.result ≡ right_node checked.rules c.args.sym =
    node_of_rule c.grammar-grammar.result.now checked c.args.sym c.rule_node-right.result c.grammar-grammar.ensures.value c.rule_node-right.ensures.value in
    let is = right_read c.grammar-grammar.result.now checked c.args.sym c.rule_node-right.result c.kind.result c.kind.result
    c.grammar-grammar.ensures.value c.rule_node-right.ensures.value
    c.kind.ensures refl in
    let no = no_word c.kind.result c.in-Rule.is in
    subst (λ (ss : List Structure). Opens counts ss (c.in_ok-later-in-Rule.later, Named c.args.sym c.in_ok-inside-in-Rule.inside.value))
    (ap (λ (node : ℕ). map (Named c.args.sym) (listing_on checked node u)) right
    ∙ sym (rule_inside checked c.grammar-grammar.ensures.kept.passed c.kind.result c.args.sym u (asked_supply counts c.args.supply c.requires.asked)
    c.requires.low c.requires.high is no.0 no.1))
    (subst (λ (s : Structure). Opens counts (map (Named c.args.sym) (listing_on checked c.rule_node-right.result u)) (c.in_ok-later-in-Rule.later, Named c.args.sym s)) (sym c.in_ok-inside-in-Rule.ensures.ok)
    (named_opens counts c.args.sym (listing_on checked c.rule_node-right.result u) c.in_ok-later-in-Rule.later c.in_ok-later-in-Rule.inside c.in_ok-later-in-Rule.ensures))

-- ---- open_union

pub open::open_union-unreachable-requires : goal.open::open_union-unreachable-requires
open::open_union-unreachable-requires t c =
    some_argument c.args.counted.now c.grammar-grammar.ensures.kept c.args.node c.args.supply c.requires.union c.requires.asked c.len-n.result c.len-n.ensures
    c.requires.some c.in_default.ensures.none

pub open::open_union-open_node-requires : goal.open::open_union-open_node-requires
open::open_union-open_node-requires t c =
    let counts = c.args.counted.now in
    let ok = c.grammar-grammar.ensures.kept in
    let stands : CanGoOn counts c.args.node c.args.supply = record { reached = c.requires.reached; union = c.requires.union; asked = c.requires.asked } in
    let next = c.in-Some.ensures.some in
    let same = c.grammar-grammar.ensures.value in
    let at = c.child-child.ensures.value in
    let copied = c.in_ok-labels.labels in
    let copy = c.in_ok-labels.ensures in (
      omega (
        arith,
        c.decreases,
        next_down counts c.args.node c.args.supply stands 0 c.len-n.result c.len-n.ensures ok c.grammar-grammar.result.now same c.in-Some.number c.child-child.result next at,
        ap (λ (s : Supply). length (supply_labels s)) copy,
        ap (λ (s : Supply). node_measure counts.checked c.child-child.result (length (supply_labels s))) copy,
      ),
      (
        next_reached counts c.args.node c.args.supply stands 0 c.len-n.result c.len-n.ensures ok c.grammar-grammar.result.now same c.in-Some.number c.child-child.result next at,
        (
          subst (λ (s : Supply). IsAsked counts s) (sym copy) c.requires.asked,
          next_some counts c.args.node c.args.supply stands 0 c.len-n.result c.len-n.ensures ok c.grammar-grammar.result.now same c.in-Some.number c.child-child.result next at copied copy,
        ),
      ),
    )

pub open::open_union-returns : goal.open::open_union-returns
open::open_union-returns t c =
    let counts = c.args.counted.now in
    let ok = c.grammar-grammar.ensures.kept in
    let stands : CanGoOn counts c.args.node c.args.supply = record { reached = c.requires.reached; union = c.requires.union; asked = c.requires.asked } in
    let next : NextArgument counts c.args.node c.args.supply (arguments_behind counts.checked c.args.node 0 (supply_labels c.args.supply)) c.in-Some.number c.in_ok-inner.inner c.in_ok-inner.inside true =
    next_opens counts c.args.node c.args.supply stands 0 c.len-n.result c.len-n.ensures ok c.grammar-grammar.result.now c.grammar-grammar.ensures.value c.in-Some.number c.child-child.result
    c.in-Some.ensures.some c.child-child.ensures.value c.in_ok-labels.labels c.in_ok-inner.inner c.in_ok-inner.inside c.in_ok-labels.ensures c.in_ok-inner.ensures in
    subst (λ (s : Structure). Opens counts (listing_on counts.checked c.args.node (supply_labels c.args.supply)) (c.in_ok-later.later, Alt c.in-Some.number s)) (sym c.in_ok-inside.ensures.ok) (record {
      whole =
          by_arguments counts ok c.args.node c.args.supply c.requires.union c.requires.asked
          ∙ next.0 ∙ ap (λ ss. Alt c.in-Some.number c.in_ok-inner.inside ∷ ss) (sym (c.in_ok-later.ensures.after c.in_ok-inner.inside));
      stands = c.in_ok-later.ensures.stands c.in_ok-inner.inside next.1;
    })

-- ---- open_sorted_node

-- the bound that the code reads
own_card : (checked : Checked) (node at : ℕ) (card : Card) → at ≡ node → card_at checked.rules node ≡ Some card → card_at checked.rules at ≡ Some card
own_card checked node at card same own = subst (λ (k : ℕ). card_at checked.rules k ≡ Some card) (sym same) own

pub sorted::open_sorted_node-open_sorted-requires : goal.sorted::open_sorted_node-open_sorted-requires
sorted::open_sorted_node-open_sorted-requires t c =
    let counts = c.args.counted.now in
    let tail = c.sorted_tail-tail.result in
    let own = own_card counts.checked c.args.node tail.node tail.card c.sorted_tail-tail.ensures.node c.sorted_tail-tail.ensures.card in (
      omega (
        arith,
        c.decreases,
        whole_down counts c.grammar.ensures.kept tail c.sorted_tail-tail.ensures.tail c.len-n.result own,
        ap (λ (k : ℕ). union_measure counts.checked k c.len-n.result) c.sorted_tail-tail.ensures.node,
        ap (λ (m : ℕ). union_measure counts.checked c.args.node m) c.len-n.ensures,
      ),
      (c.sorted_tail-tail.ensures.tail, (omega (arith, c.len-n.ensures, c.requires.asked.within), no_front counts.checked tail.element c.new-components.result c.new-components.ensures)),
    )

pub sorted::open_sorted_node-unreachable-requires : goal.sorted::open_sorted_node-unreachable-requires
sorted::open_sorted_node-unreachable-requires t c =
    let counts = c.args.counted.now in
    let tail = c.sorted_tail-tail.result in
    let own = own_card counts.checked c.args.node tail.node tail.card c.sorted_tail-tail.ensures.node c.sorted_tail-tail.ensures.card in
    some_sorted counts c.grammar.ensures.kept tail c.sorted_tail-tail.ensures.tail own c.args.supply c.requires.asked c.len-n.result c.len-n.ensures c.new-components.result
    c.open_sorted.new.components c.new-components.ensures
    (subst (λ (k : ℕ). 0 < length (listing_on counts.checked k (supply_labels c.args.supply))) (sym c.sorted_tail-tail.ensures.node) c.requires.some)
    (rw c.in_default.is at c.in_ok-sorted.ensures)

pub sorted::open_sorted_node-invariant_of-s : goal.sorted::open_sorted_node-invariant_of-s
sorted::open_sorted_node-invariant_of-s t c =
    let counts = c.args.counted.now in
    let tail = c.sorted_tail-tail.result in
    let own = own_card counts.checked c.args.node tail.node tail.card c.sorted_tail-tail.ensures.node c.sorted_tail-tail.ensures.card in
    sorted_few counts c.grammar.ensures.kept tail c.sorted_tail-tail.ensures.tail own c.args.supply c.requires.asked c.len-n.result c.len-n.ensures c.new-components.result
    c.open_sorted.new.components c.new-components.ensures c.in-Some.sorted c.in_ok-later.later.value c.in_ok-later.ensures.ok (rw c.in-Some.is at c.in_ok-sorted.ensures)

pub sorted::open_sorted_node-returns : goal.sorted::open_sorted_node-returns
sorted::open_sorted_node-returns t c =
    let counts = c.args.counted.now in
    let tail = c.sorted_tail-tail.result in
    let own = own_card counts.checked c.args.node tail.node tail.card c.sorted_tail-tail.ensures.node c.sorted_tail-tail.ensures.card in
    rw c.sorted_form.ensures (
    subst (λ (k : ℕ). Opens counts (listing_on counts.checked k (supply_labels c.args.supply)) (later.Sorted c.in_ok-later.later, Tup (sorted_form tail.strict) (parts_of c.open_sorted.new.components)))
    c.sorted_tail-tail.ensures.node
    (sorted_opens counts c.grammar.ensures.kept tail c.sorted_tail-tail.ensures.tail own c.args.supply c.requires.asked c.len-n.result c.len-n.ensures c.new-components.result
    c.open_sorted.new.components c.new-components.ensures c.in-Some.sorted c.in_ok-later.later.value c.in_ok-later.ensures.ok (rw c.in-Some.is at c.in_ok-sorted.ensures) _))

-- ---- open_sorted

pub sorted::open_sorted-returns-then-admits : goal.sorted::open_sorted-returns-then-admits
sorted::open_sorted-returns-then-admits t c =
    empty_opens c.args.counted.now c.grammar.ensures.kept c.args.tail c.requires.tail (in_front c.args.components.now) c.args.n c.args.components.now c.if-n-eq0.true
    (sym c.admits.ensures ∙ c.if-admits.true)

pub sorted::open_sorted-open_greater-requires : goal.sorted::open_sorted-open_greater-requires
sorted::open_sorted-open_greater-requires t c =
    let counts = c.args.counted.now in (
      omega (
        arith,
        c.decreases,
        sorted_level_down counts c.grammar.ensures.kept c.args.tail c.requires.tail c.args.n (sym c.admits_some.ensures ∙ c.if-not-admits_some.false),
        ap (λ (behind : SortedTail). level_measure counts.checked behind c.args.n) c.behind_one.ensures,
      ),
      (
        subst (λ (behind : SortedTail). IsSortedTail counts behind) (sym c.behind_one.ensures) (behind_stands counts c.grammar.ensures.kept c.args.tail c.requires.tail),
        c.requires.within,
      ),
    )

-- ---- open_same

-- the last component that the code reads
front_read : (components slice : List Structure) (found : Option Structure) → slice ≡ components → found ≡ in_front slice → in_front components ≡ found
front_read components slice found same is = ap in_front (sym same) ∙ sym is

front_there : (checked : Checked) (element : ℕ) (components : List Structure) (front : Structure) → IsFrontOf checked element components → in_front components ≡ Some front
    → IsIn front (listing_on checked element (supply Unlabelled (size front)))
front_there checked element components front there at =
    some_holds (λ s. IsIn s (listing_on checked element (supply Unlabelled (size s)))) (in_front components) front at there

pub sorted::open_same-returns-in_default : goal.sorted::open_same-returns-in_default
sorted::open_same-returns-in_default t c =
    first_of_all c.args.counted.now c.grammar.ensures.kept c.args.tail c.requires.tail c.args.n c.requires.low c.requires.some c.args.components.now
    (front_read c.args.components.now c.as_slice.result.now None c.as_slice.ensures c.in_default.ensures.value)

pub sorted::open_same-returns-then-n-taken : goal.sorted::open_same-returns-then-n-taken
sorted::open_same-returns-then-n-taken t c =
    let counts = c.args.counted.now in
    let ok = c.grammar.ensures.kept in
    let front = c.in-Some.front.now in
    let at = front_read c.args.components.now c.as_slice.result.now (Some front) c.as_slice.ensures c.in-Some.ensures.value in
    let there = front_there counts.checked c.args.tail.element c.args.components.now front c.requires.front at in
    elim c.then-n-taken.branch [
      | sorted::open_same-then-n-taken-via-then-n-taken w ↦ too_large counts ok c.args.tail c.requires.tail c.args.n c.requires.low c.requires.some c.args.components.now front at there
          (omega (arith, w.if-n-taken.true, c.size-taken.ensures))
      | sorted::open_same-then-n-taken-via-else-n-taken+then-not-may_go_on w ↦ none_fills counts ok c.args.tail c.requires.tail c.args.n c.requires.low c.requires.some c.args.components.now front at there
          c.behind_one-behind.result c.size-taken.result c.behind_one-behind.ensures c.size-taken.ensures w.if-n-taken.false
          (λ s large. w.may_go_on.ensures.none s w.if-not-may_go_on.true large)
    ]

pub sorted::open_same-returns-in_default-2 : goal.sorted::open_same-returns-in_default-2
sorted::open_same-returns-in_default-2 t c =
    let counts = c.args.counted.now in
    let front = c.in-Some.front.now in
    let at = front_read c.args.components.now c.as_slice.result.now (Some front) c.as_slice.ensures c.in-Some.ensures.value in
    let there = front_there counts.checked c.args.tail.element c.args.components.now front c.requires.front at in
    none_follows counts c.grammar.ensures.kept c.args.tail c.requires.tail c.args.n c.requires.low c.requires.some c.args.components.now front at there
    (omega (arith, c.if-n-taken.false, c.size-taken.ensures)) (rw c.in_default-2.is at c.in_ok-later.ensures)

pub sorted::open_same-open_first-requires : goal.sorted::open_same-open_first-requires
sorted::open_same-open_first-requires t c =
    let counts = c.args.counted.now in
    let ok = c.grammar.ensures.kept in
    let front = c.in-Some.front.now in
    let at = front_read c.args.components.now c.as_slice.result.now (Some front) c.as_slice.ensures c.in-Some.ensures.value in
    let there = front_there counts.checked c.args.tail.element c.args.components.now front c.requires.front at in
    let some = none_empty counts ok c.args.tail c.requires.tail front there in
    let opens : OpensFollowing counts c.args.tail front (Some (c.in-Some-2.later, c.in-Some-2.component)) = rw c.in-Some-2.is at c.in_ok-later.ensures in (
      omega (
        arith,
        c.decreases,
        sorted_others_down counts ok c.args.tail c.requires.tail (c.args.n - c.size-taken.result) c.args.n (omega (arith, some, c.size-taken.ensures, c.if-n-taken.false)),
        ap (λ (behind : SortedTail). sorted_measure counts.checked behind (c.args.n - c.size-taken.result)) c.behind_one-behind.ensures,
      ),
      (
        follower_level counts ok c.args.tail c.requires.tail c.args.n c.requires.low c.requires.some c.args.components.now front at there c.behind_one-behind.result c.size-taken.result
            c.behind_one-behind.ensures c.size-taken.ensures c.if-n-taken.false c.in-Some-2.later c.in-Some-2.component c.requires.within opens,
        opens.1,
      ),
    )

pub sorted::open_same-returns : goal.sorted::open_same-returns
sorted::open_same-returns t c =
    let counts = c.args.counted.now in
    let front = c.in-Some.front.now in
    let at = front_read c.args.components.now c.as_slice.result.now (Some front) c.as_slice.ensures c.in-Some.ensures.value in
    let there = front_there counts.checked c.args.tail.element c.args.components.now front c.requires.front at in
    let follows : OpensFollowing counts c.args.tail front (Some (c.in-Some-2.later, c.in-Some-2.component)) = rw c.in-Some-2.is at c.in_ok-later.ensures in
    IfOk-weaker c.open_first.result
    (OpensSortedOr counts
    (at_sorted_level counts.checked (record { behind = c.behind_one-behind.result; taken = c.size-taken.result; left = c.args.n - c.size-taken.result })
    (c.in-Some-2.component ∷ structures_after counts.checked c.in-Some-2.later c.in-Some-2.component))
    (with_greater counts.checked c.behind_one-behind.result c.size-taken.result (c.size-taken.result + (c.args.n - c.size-taken.result))) c.args.components.now c.open_first.new.components)
    (OpensSortedOr counts (sorted_from counts.checked c.args.tail (in_front c.args.components.now) c.args.n)
    (with_greater counts.checked (behind_one c.args.tail) (size_in_front c.args.components.now) c.args.n) c.args.components.now c.open_first.new.components)
    (λ opened opens.
    follower_put counts c.grammar.ensures.kept c.args.tail c.requires.tail c.args.n c.requires.low c.requires.some c.args.components.now front at there c.behind_one-behind.result c.size-taken.result
    c.behind_one-behind.ensures c.size-taken.ensures c.if-n-taken.false c.in-Some-2.later c.in-Some-2.component c.open_first.new.components opened follows opens)
    c.open_first.ensures

-- ---- open_first

pub sorted::open_first-open_sorted-requires : goal.sorted::open_first-open_sorted-requires
sorted::open_first-open_sorted-requires t c = (
  omega (arith, c.decreases),
  (
    c.requires.level.tail,
    (
      omega (arith, c.requires.level.within),
      component_front c.args.counted.now c.grammar.ensures.kept c.args.level c.args.later c.args.component c.requires.level c.requires.stands c.args.components.now c.push.new.self c.in_ok-push.ensures.ok,
    ),
  ),
)

pub sorted::open_first-returns-in_default : goal.sorted::open_first-returns-in_default
sorted::open_first-returns-in_default t c =
    none_behind c.args.counted.now c.grammar.ensures.kept c.args.level c.args.later c.args.component c.requires.level c.requires.stands c.args.components.now c.push.new.self c.in_ok-push.ensures.ok
    c.open_sorted.new.components c.pop.new.self c.pop.result (rw c.in_default.is at c.in_ok-others.ensures) c.pop.ensures.some c.pop.ensures.none

pub sorted::open_first-returns : goal.sorted::open_first-returns
sorted::open_first-returns t c =
    first_opens c.args.counted.now c.grammar.ensures.kept c.args.level c.args.later c.args.component c.requires.level c.requires.stands c.args.components.now c.push.new.self c.in_ok-push.ensures.ok
    c.open_sorted.new.components c.in-Some.others c.in_ok-others-2.others.value _ c.in_ok-others-2.ensures.ok (rw c.in-Some.is at c.in_ok-others.ensures)

-- ---- open_greater

pub sorted::open_greater-returns-in-Some : goal.sorted::open_greater-returns-in-Some
sorted::open_greater-returns-in-Some t c =
    size_found c.args.counted.now c.args.behind c.args.d c.args.n c.args.components.now c.loop-below.components c.loop-below.below c.loop-below.invariant.0 c.loop-below.invariant.1 c.loop-below-test.true
    c.open_level.new.components c.in-Some.opened (rw c.in-Some.is at c.in_ok-opened.ensures)

pub sorted::open_greater-returns : goal.sorted::open_greater-returns
sorted::open_greater-returns t c =
    sizes_end c.args.counted.now c.args.behind c.args.d c.args.n c.args.components.now c.loop-below.components c.loop-below.below c.loop-below.invariant.0 c.loop-below.invariant.1 (omega arith)

pub sorted::open_greater-loop-below-preserved : goal.sorted::open_greater-loop-below-preserved
sorted::open_greater-loop-below-preserved t c =
    size_left c.args.counted.now c.args.behind c.args.d c.args.n c.args.components.now c.loop-below.components c.loop-below.below c.loop-below.invariant.0 c.loop-below.invariant.1 c.loop-below-test.true
    c.open_level.new.components (rw c.in_default.is at c.in_ok-opened.ensures)

-- ---- open_level

pub sorted::open_level-number-requires-clause-reached : goal.sorted::open_level-number-requires-clause-reached
sorted::open_level-number-requires-clause-reached t c =
    reached_child c.args.counted.now c.grammar.ensures.kept c.args.level.behind.node 0 c.args.level.behind.element c.requires.behind.reached c.requires.behind.child

pub sorted::open_level-returns-then-not-may_go_on : goal.sorted::open_level-returns-then-not-may_go_on
sorted::open_level-returns-then-not-may_go_on t c =
    let counts = c.args.counted.now in
    elim c.then-not-may_go_on.branch [
      | sorted::open_level-then-not-may_go_on-via-then-not-may_go_on w ↦ size_fails counts c.grammar.ensures.kept c.args.level c.requires.behind c.requires.some c.args.components.now
          (λ s large. c.may_go_on.ensures.none s w.if-not-may_go_on.true large)
      | sorted::open_level-then-not-may_go_on-via-else-not-may_go_on+then-number-eq0 w ↦ size_empty counts c.grammar.ensures.kept c.args.level c.requires.behind c.requires.some c.args.components.now
          (sym (counted_number counts c.args.level.behind.element c.args.level.taken) ∙ sym w.number.ensures ∙ w.if-number-eq0.true)
    ]

-- there is a component of the size
size_some : (counts : Counts) (node n told : ℕ) → told ≡ number_of counts node n → (told ≡ 0 → ⊥) → 0 < number_of_node counts.checked node n
size_some counts node n told is some = by (cases_lt 0 (number_of_node counts.checked node n))
  where
    by : (0 < number_of_node counts.checked node n) ⊎ (number_of_node counts.checked node n ≤ 0) → 0 < number_of_node counts.checked node n
    by (inl there) = there
    by (inr none) = absurd (some (omega (arith, is, counted_number counts node n, none)))

pub sorted::open_level-open_node-requires : goal.sorted::open_level-open_node-requires
sorted::open_level-open_node-requires t c =
    let counts = c.args.counted.now in
    let ok = c.grammar.ensures.kept in
    let element = c.args.level.behind.element in
    let taken = c.args.level.taken in
    let some : 0 < number_of_node counts.checked element taken =
    size_some counts element taken c.number.result c.number.ensures (λ none. absurd (omega (arith, none, c.if-number-eq0.false))) in (
      omega (
        arith,
        c.decreases,
        level_node_down counts ok c.args.level.behind c.requires.behind taken (taken + c.args.level.left) some (omega arith) (omega (arith, c.requires.within, ok.small))
            (λ same. c.may_go_on.ensures.no_atoms c.if-not-may_go_on.false (omega (arith, same))),
        ap (λ (n : ℕ). node_measure counts.checked element n) (supply_size Unlabelled taken),
      ),
      (
        reached_child counts ok c.args.level.behind.node 0 element c.requires.behind.reached c.requires.behind.child,
        (
          zeros_asked counts taken c.requires.behind.universe (omega (arith, c.requires.within)),
          omega (
            arith,
            some,
            listing_number counts.checked ok.passed element (supply Unlabelled taken) (supplied counts ok c.args.level.behind c.requires.behind taken),
            ap (λ (n : ℕ). number_of_node counts.checked element n) (supply_size Unlabelled taken),
          ),
        ),
      ),
    )

pub sorted::open_level-open_first-requires : goal.sorted::open_level-open_first-requires
sorted::open_level-open_first-requires t c =
    let counts = c.args.counted.now in (
      omega (
        arith,
        c.decreases,
        level_others_down counts c.grammar.ensures.kept c.args.level.behind c.requires.behind c.args.level.left (c.args.level.taken + c.args.level.left) (omega (arith, c.requires.some)),
      ),
      (
        record { tail = c.requires.behind; within = c.requires.within; goes_on = record { earlier = []; whole = c.in_ok-later.ensures.whole } },
        c.in_ok-later.ensures.stands,
      ),
    )

pub sorted::open_level-returns : goal.sorted::open_level-returns
sorted::open_level-returns t c =
    let counts = c.args.counted.now in
    let level = c.args.level in
    IfOk-weaker c.open_first.result
    (OpensSortedOr counts (at_sorted_level counts.checked level (c.in_ok-later.component ∷ structures_after counts.checked c.in_ok-later.later c.in_ok-later.component))
    (with_greater counts.checked level.behind level.taken (level.taken + level.left)) c.args.components.now c.open_first.new.components)
    (OpensSortedOr counts (with_greater counts.checked level.behind (level.taken - 1) (level.taken + level.left))
    (with_greater counts.checked level.behind level.taken (level.taken + level.left)) c.args.components.now c.open_first.new.components)
    (λ opened opens.
    size_opens counts c.grammar.ensures.kept level c.requires.behind c.requires.some c.args.components.now c.open_first.new.components c.in_ok-later.later c.in_ok-later.component opened
    c.in_ok-later.ensures.whole opens)
    c.open_first.ensures

pub sorted::open_following-returns-then-tail : goal.sorted::open_following-returns-then-tail
sorted::open_following-returns-then-tail t c =
    let counts = c.args.counted.now in
    IfOk-weaker c.open_behind.result (OpensBehind counts (listing_on counts.checked c.args.tail.element (supply Unlabelled (size c.args.front.now))) c.args.front.now)
    (OpensFollowing counts c.args.tail c.args.front.now)
    (λ opened opens. behind_follows counts c.grammar.ensures.kept c.args.tail c.requires.tail c.args.front.now c.requires.one opened c.if-tail.true opens)
    (subst (λ (k : ℕ). IfOk c.open_behind.result (OpensBehind counts (listing_on counts.checked c.args.tail.element (supply Unlabelled k)) c.args.front.now)) c.size.ensures c.open_behind.ensures)

pub sorted::open_following-resume-requires-clause-reached : goal.sorted::open_following-resume-requires-clause-reached
sorted::open_following-resume-requires-clause-reached t c = reached_child c.args.counted.now c.grammar.ensures.kept c.args.tail.node 0 c.args.tail.element c.requires.tail.reached c.requires.tail.child

pub sorted::open_following-returns : goal.sorted::open_following-returns
sorted::open_following-returns t c =
    let counts = c.args.counted.now in
    itself_follows counts c.grammar.ensures.kept c.args.tail c.requires.tail c.args.front.now c.requires.one c.in_ok-later.later c.in_ok-component.component c.if-tail.false c.in_ok-component.ensures
    (subst (λ (k : ℕ). Resumes counts (listing_on counts.checked c.args.tail.element (supply Unlabelled k)) c.args.front.now c.in_ok-later.later) c.size.ensures c.in_ok-later.ensures)

pub sorted::open_following-open_behind-requires : goal.sorted::open_following-open_behind-requires
sorted::open_following-open_behind-requires t c =
    let counts = c.args.counted.now in
    let tail = c.args.tail in (
      omega (arith, c.decreases, ap (λ (n : ℕ). node_measure counts.checked tail.element n) (supply_size Unlabelled c.size.result ∙ c.size.ensures)),
      (
        reached_child counts c.grammar.ensures.kept tail.node 0 tail.element c.requires.tail.reached c.requires.tail.child,
        (
          zeros_asked counts c.size.result c.requires.tail.universe (omega (arith, c.requires.within, c.size.ensures)),
          (
            c.requires.tail.universe,
            subst (λ (k : ℕ). IsIn c.args.front.now (listing_on counts.checked tail.element (supply Unlabelled k))) (sym c.size.ensures) c.requires.one,
          ),
        ),
      ),
    )

pub sorted::open_same-open_following-requires : goal.sorted::open_same-open_following-requires
sorted::open_same-open_following-requires t c =
    let counts = c.args.counted.now in
    let ok = c.grammar.ensures.kept in
    let front = c.in-Some.front.now in
    let at = front_read c.args.components.now c.as_slice.result.now (Some front) c.as_slice.ensures c.in-Some.ensures.value in
    let there = front_there counts.checked c.args.tail.element c.args.components.now front c.requires.front at in
    let within : size front ≤ c.args.n = omega (arith, c.if-n-taken.false, c.size-taken.ensures) in (
      omega (
        arith,
        c.decreases,
        sorted_node_down counts ok c.args.tail c.requires.tail (size front) c.args.n c.requires.some (number_there counts ok c.args.tail c.requires.tail (size front) front there) within
            (omega (arith, c.requires.within, ok.small))
            (λ same. subst (λ (behind : SortedTail). admits behind.card 0 ≡ true) c.behind_one-behind.ensures
            (c.may_go_on.ensures.no_atoms c.if-not-may_go_on.false (omega (arith, same, c.size-taken.ensures)))),
      ),
      (c.requires.tail, (omega (arith, c.requires.within, within), there)),
    )

-- ---- behind_sorted_node

pub behind_sorted::behind_sorted_node-unreachable-requires : goal.behind_sorted::behind_sorted_node-unreachable-requires
behind_sorted::behind_sorted_node-unreachable-requires t c =
    let counts = c.args.counted.now in
    let tail = c.sorted_tail-tail.result in
    let own = own_card counts.checked c.args.node tail.node tail.card c.sorted_tail-tail.ensures.node c.sorted_tail-tail.ensures.card in
    let one = subst (λ (k : ℕ). IsIn c.args.s.now (listing_on counts.checked k (supply_labels c.args.supply))) (sym c.sorted_tail-tail.ensures.node) c.requires.one in
    has_components counts c.grammar.ensures.kept tail c.sorted_tail-tail.ensures.tail own c.args.supply c.requires.asked c.len-n.result c.len-n.ensures c.args.s.now one
    c.s.inside.shape c.s.view_is c.in_default.not-Tup

pub behind_sorted::behind_sorted_node-behind_sorted-requires : goal.behind_sorted::behind_sorted_node-behind_sorted-requires
behind_sorted::behind_sorted_node-behind_sorted-requires t c =
    let counts = c.args.counted.now in
    let tail = c.sorted_tail-tail.result in
    let own = own_card counts.checked c.args.node tail.node tail.card c.sorted_tail-tail.ensures.node c.sorted_tail-tail.ensures.card in
    let one = subst (λ (k : ℕ). IsIn c.args.s.now (listing_on counts.checked k (supply_labels c.args.supply))) (sym c.sorted_tail-tail.ensures.node) c.requires.one in (
      omega (
        arith,
        c.decreases,
        whole_down counts c.grammar.ensures.kept tail c.sorted_tail-tail.ensures.tail c.len-n.result own,
        ap (λ (k : ℕ). union_measure counts.checked k c.len-n.result) c.sorted_tail-tail.ensures.node,
        ap (λ (m : ℕ). union_measure counts.checked c.args.node m) c.len-n.ensures,
      ),
      (
        c.sorted_tail-tail.ensures.tail,
        (
          omega (arith, c.len-n.ensures, c.requires.asked.within),
          (
            no_front counts.checked tail.element c.new-components.result c.new-components.ensures,
            parts_listed counts c.grammar.ensures.kept tail c.sorted_tail-tail.ensures.tail own c.args.supply c.requires.asked c.len-n.result c.len-n.ensures c.args.s.now one
                c.in-Tup.field-0 c.in-Tup.parts (ap structure_of (sym c.in-Tup.is) ∙ c.s.view_is) c.new-components.result c.new-components.ensures,
          ),
        ),
      ),
    )

pub behind_sorted::behind_sorted_node-returns-in_default-found : goal.behind_sorted::behind_sorted_node-returns-in_default-found
behind_sorted::behind_sorted_node-returns-in_default-found t c =
    let counts = c.args.counted.now in
    let tail = c.sorted_tail-tail.result in
    let own = own_card counts.checked c.args.node tail.node tail.card c.sorted_tail-tail.ensures.node c.sorted_tail-tail.ensures.card in
    let one = subst (λ (k : ℕ). IsIn c.args.s.now (listing_on counts.checked k (supply_labels c.args.supply))) (sym c.sorted_tail-tail.ensures.node) c.requires.one in
    subst (λ (k : ℕ). OpensBehind counts (listing_on counts.checked k (supply_labels c.args.supply)) c.args.s.now None) c.sorted_tail-tail.ensures.node
    (none_comes counts c.grammar.ensures.kept tail c.sorted_tail-tail.ensures.tail own c.args.supply c.requires.asked c.len-n.result c.len-n.ensures c.args.s.now one
    c.in-Tup.field-0 c.in-Tup.parts (ap structure_of (sym c.in-Tup.is) ∙ c.s.view_is) c.new-components.result c.behind_sorted.new.components c.new-components.ensures
    (rw c.in_default-found.is at c.in_ok-found.ensures))

pub behind_sorted::behind_sorted_node-invariant_of-s : goal.behind_sorted::behind_sorted_node-invariant_of-s
behind_sorted::behind_sorted_node-invariant_of-s t c =
    let counts = c.args.counted.now in
    let tail = c.sorted_tail-tail.result in
    let own = own_card counts.checked c.args.node tail.node tail.card c.sorted_tail-tail.ensures.node c.sorted_tail-tail.ensures.card in
    let one = subst (λ (k : ℕ). IsIn c.args.s.now (listing_on counts.checked k (supply_labels c.args.supply))) (sym c.sorted_tail-tail.ensures.node) c.requires.one in
    next_few counts c.grammar.ensures.kept tail c.sorted_tail-tail.ensures.tail own c.args.supply c.requires.asked c.len-n.result c.len-n.ensures c.args.s.now one
    c.in-Tup.field-0 c.in-Tup.parts (ap structure_of (sym c.in-Tup.is) ∙ c.s.view_is) c.new-components.result c.behind_sorted.new.components c.new-components.ensures
    c.in-Some.sorted c.in_ok-later.later.value c.in_ok-later.ensures.ok (rw c.in-Some.is at c.in_ok-found.ensures)

pub behind_sorted::behind_sorted_node-returns : goal.behind_sorted::behind_sorted_node-returns
behind_sorted::behind_sorted_node-returns t c =
    let counts = c.args.counted.now in
    let tail = c.sorted_tail-tail.result in
    let own = own_card counts.checked c.args.node tail.node tail.card c.sorted_tail-tail.ensures.node c.sorted_tail-tail.ensures.card in
    let one = subst (λ (k : ℕ). IsIn c.args.s.now (listing_on counts.checked k (supply_labels c.args.supply))) (sym c.sorted_tail-tail.ensures.node) c.requires.one in
    rw c.sorted_form.ensures (
    subst (λ (k : ℕ). OpensBehind counts (listing_on counts.checked k (supply_labels c.args.supply)) c.args.s.now
    (Some (later.Sorted c.in_ok-later.later, Tup (sorted_form tail.strict) (parts_of c.behind_sorted.new.components))))
    c.sorted_tail-tail.ensures.node
    (next_comes counts c.grammar.ensures.kept tail c.sorted_tail-tail.ensures.tail own c.args.supply c.requires.asked c.len-n.result c.len-n.ensures c.args.s.now one
    c.in-Tup.field-0 c.in-Tup.parts (ap structure_of (sym c.in-Tup.is) ∙ c.s.view_is) c.new-components.result c.behind_sorted.new.components c.new-components.ensures
    c.in-Some.sorted c.in_ok-later.later.value c.in_ok-later.ensures.ok (rw c.in-Some.is at c.in_ok-found.ensures)
    (record { ptr = c.in_ok-later.later.ptr; alloc = c.in_ok-later.later.alloc; value = tt })))

-- ---- behind_sorted

pub behind_sorted::behind_sorted-returns-then-len-place : goal.behind_sorted::behind_sorted-returns-then-len-place
behind_sorted::behind_sorted-returns-then-len-place t c =
    none_behind_empty c.args.counted.now c.grammar.ensures.kept c.args.tail c.requires.tail c.args.n (in_front c.args.components.now) (drop c.args.place c.args.parts.now) c.requires.one
    (drop_all c.args.place c.args.parts.now (omega (arith, c.len.ensures, c.if-len-place.true))) c.args.components.now

pub behind_sorted::behind_sorted-overflow_sub-left : goal.behind_sorted::behind_sorted-overflow_sub-left
behind_sorted::behind_sorted-overflow_sub-left t c =
    let off = drop_at c.args.parts.now c.args.place c.at-component.result.now c.at-component.ensures in
    omega (
      arith,
      c.size-taken.ensures,
      component_high c.args.counted.now c.grammar.ensures.kept c.args.tail c.requires.tail c.args.n (in_front c.args.components.now) (drop c.args.place c.args.parts.now) c.requires.one
          c.at-component.result.now (drop (c.args.place + 1) c.args.parts.now) off,
    )

pub behind_sorted::behind_sorted-behind_sorted-requires : goal.behind_sorted::behind_sorted-behind_sorted-requires
behind_sorted::behind_sorted-behind_sorted-requires t c =
    let counts = c.args.counted.now in
    let ok = c.grammar.ensures.kept in
    let component = c.at-component.result.now in
    let more = drop (c.args.place + 1) c.args.parts.now in
    let off = drop_at c.args.parts.now c.args.place component c.at-component.ensures in
    let low : 0 < size component = component_low counts ok c.args.tail c.requires.tail c.args.n (in_front c.args.components.now) (drop c.args.place c.args.parts.now) c.requires.one component more off in
    let high : size component ≤ c.args.n = component_high counts ok c.args.tail c.requires.tail c.args.n (in_front c.args.components.now) (drop c.args.place c.args.parts.now) c.requires.one component more off in (
      omega (
        arith,
        c.decreases,
        sorted_others_down counts ok c.args.tail c.requires.tail (c.args.n - c.size-taken.result) c.args.n (omega (arith, low, high, c.size-taken.ensures)),
        ap (λ (behind : SortedTail). sorted_measure counts.checked behind (c.args.n - c.size-taken.result)) c.behind_one-behind.ensures,
      ),
      (
        subst (λ (behind : SortedTail). IsSortedTail counts behind) (sym c.behind_one-behind.ensures) (behind_stands counts ok c.args.tail c.requires.tail),
        (
          omega (arith, c.requires.within),
          (
            now_in_front counts ok c.args.tail c.requires.tail c.args.n (in_front c.args.components.now) (drop c.args.place c.args.parts.now) c.requires.one component more off
                c.behind_one-behind.result c.size-taken.result c.behind_one-behind.ensures c.size-taken.ensures c.args.components.now c.push.new.self c.in_ok-copied.copied c.in_ok-copied.ensures
                c.in_ok-push.ensures.ok,
            others_there counts ok c.args.tail c.requires.tail c.args.n (in_front c.args.components.now) (drop c.args.place c.args.parts.now) c.requires.one component more off
                c.behind_one-behind.result c.size-taken.result c.behind_one-behind.ensures c.size-taken.ensures c.args.components.now c.push.new.self c.in_ok-copied.copied c.in_ok-copied.ensures
                c.in_ok-push.ensures.ok,
          ),
        ),
      ),
    )

pub behind_sorted::behind_sorted-resume-requires-clause-reached : goal.behind_sorted::behind_sorted-resume-requires-clause-reached
behind_sorted::behind_sorted-resume-requires-clause-reached t c = reached_child c.args.counted.now c.grammar.ensures.kept c.args.tail.node 0 c.args.tail.element c.requires.tail.reached c.requires.tail.child

pub behind_sorted::behind_sorted-resume-requires-clause-asked : goal.behind_sorted::behind_sorted-resume-requires-clause-asked
behind_sorted::behind_sorted-resume-requires-clause-asked t c =
    let off = drop_at c.args.parts.now c.args.place c.at-component.result.now c.at-component.ensures in
    let high = component_high c.args.counted.now c.grammar.ensures.kept c.args.tail c.requires.tail c.args.n (in_front c.args.components.now) (drop c.args.place c.args.parts.now) c.requires.one
    c.at-component.result.now (drop (c.args.place + 1) c.args.parts.now) off in
    zeros_asked c.args.counted.now c.size-taken.result c.requires.tail.universe (omega (arith, c.size-taken.ensures, c.requires.within, high))

pub behind_sorted::behind_sorted-resume-requires-clause-one : goal.behind_sorted::behind_sorted-resume-requires-clause-one
behind_sorted::behind_sorted-resume-requires-clause-one t c =
    let component = c.at-component.result.now in
    let off = drop_at c.args.parts.now c.args.place component c.at-component.ensures in
    subst (λ (d : ℕ). IsIn component (listing_on c.args.counted.now.checked c.args.tail.element (supply Unlabelled d))) (sym c.size-taken.ensures)
    (component_listed c.args.counted.now c.grammar.ensures.kept c.args.tail c.requires.tail c.args.n (in_front c.args.components.now) (drop c.args.place c.args.parts.now) c.requires.one
    component (drop (c.args.place + 1) c.args.parts.now) off)

pub behind_sorted::behind_sorted-returns-in-Some : goal.behind_sorted::behind_sorted-returns-in-Some
behind_sorted::behind_sorted-returns-in-Some t c =
    let component = c.at-component.result.now in
    let off = drop_at c.args.parts.now c.args.place component c.at-component.ensures in
    others_open c.args.counted.now c.grammar.ensures.kept c.args.tail c.requires.tail c.args.n (in_front c.args.components.now) (drop c.args.place c.args.parts.now) c.requires.one
    component (drop (c.args.place + 1) c.args.parts.now) off
    c.behind_one-behind.result c.size-taken.result c.behind_one-behind.ensures c.size-taken.ensures c.args.components.now c.push.new.self c.in_ok-copied.copied c.in_ok-copied.ensures
    c.in_ok-push.ensures.ok c.in_ok-first.first c.behind_sorted.new.components c.in-Some.others c.in_ok-others.others.value _ c.in_ok-others.ensures.ok c.requires.within c.in_ok-first.ensures
    (rw c.in-Some.is at c.in_ok-found.ensures)

pub behind_sorted::behind_sorted-behind_first-requires : goal.behind_sorted::behind_sorted-behind_first-requires
behind_sorted::behind_sorted-behind_first-requires t c =
    let counts = c.args.counted.now in
    let ok = c.grammar.ensures.kept in
    let component = c.at-component.result.now in
    let more = drop (c.args.place + 1) c.args.parts.now in
    let off = drop_at c.args.parts.now c.args.place component c.at-component.ensures in
    let high : size component ≤ c.args.n = component_high counts ok c.args.tail c.requires.tail c.args.n (in_front c.args.components.now) (drop c.args.place c.args.parts.now) c.requires.one component more off in
    let total : c.size-taken.result + (c.args.n - c.size-taken.result) ≡ c.args.n = omega (arith, c.size-taken.ensures, high) in (
      omega (
        arith,
        c.decreases,
        sorted_level_down counts ok c.args.tail c.requires.tail c.args.n
            (admitted counts ok c.args.tail c.requires.tail c.args.n (in_front c.args.components.now) (drop c.args.place c.args.parts.now) c.requires.one component more off),
        ap (λ (behind : SortedTail). level_measure counts.checked behind c.args.n) c.behind_one-behind.ensures,
        ap (λ (m : ℕ). level_measure counts.checked c.behind_one-behind.result m) total,
      ),
      (
        subst (λ (behind : SortedTail). IsSortedTail counts behind) (sym c.behind_one-behind.ensures) (behind_stands counts ok c.args.tail c.requires.tail),
        (
          omega (arith, c.requires.within, total),
          (
            level_alone counts ok c.args.tail c.requires.tail c.args.n (in_front c.args.components.now) (drop c.args.place c.args.parts.now) c.requires.one component more off
                c.behind_one-behind.result c.size-taken.result c.behind_one-behind.ensures c.size-taken.ensures,
            level_component counts ok c.args.tail c.requires.tail c.args.n (in_front c.args.components.now) (drop c.args.place c.args.parts.now) c.requires.one component more off
                c.behind_one-behind.result c.size-taken.result c.behind_one-behind.ensures c.size-taken.ensures,
          ),
        ),
      ),
    )

pub behind_sorted::behind_sorted-returns : goal.behind_sorted::behind_sorted-returns
behind_sorted::behind_sorted-returns t c =
    let counts = c.args.counted.now in
    let ok = c.grammar.ensures.kept in
    let component = c.at-component.result.now in
    let more = drop (c.args.place + 1) c.args.parts.now in
    let off = drop_at c.args.parts.now c.args.place component c.at-component.ensures in
    let others : OpensBehindSorted counts (sorted_from counts.checked c.behind_one-behind.result (in_front c.push.new.self) (c.args.n - c.size-taken.result)) more c.push.new.self
    c.behind_sorted.new.components None = rw c.in_default.is at c.in_ok-found.ensures in
    let off_again : c.pop.new.self ≡ c.args.components.now =
    taken_off counts ok c.args.tail c.requires.tail c.args.n (in_front c.args.components.now) (drop c.args.place c.args.parts.now) c.requires.one component more off
    c.behind_one-behind.result c.size-taken.result c.behind_one-behind.ensures c.size-taken.ensures c.args.components.now c.push.new.self c.in_ok-copied.copied c.in_ok-copied.ensures
    c.in_ok-push.ensures.ok c.behind_sorted.new.components c.pop.new.self c.pop.result others c.pop.ensures.some c.pop.ensures.none in
    IfOk-weaker c.behind_first.result
    (OpensBehindFirst counts (record { behind = c.behind_one-behind.result; taken = c.size-taken.result; left = c.args.n - c.size-taken.result }) component c.pop.new.self c.behind_first.new.components)
    (OpensBehindSorted counts (sorted_from counts.checked c.args.tail (in_front c.args.components.now) c.args.n) (drop c.args.place c.args.parts.now) c.args.components.now c.behind_first.new.components)
    (λ opened opens.
    later_opens counts ok c.args.tail c.requires.tail c.args.n (in_front c.args.components.now) (drop c.args.place c.args.parts.now) c.requires.one component more off
    c.behind_one-behind.result c.size-taken.result c.behind_one-behind.ensures c.size-taken.ensures c.args.components.now c.push.new.self c.in_ok-copied.copied c.in_ok-copied.ensures
    c.in_ok-push.ensures.ok c.behind_sorted.new.components c.pop.new.self c.behind_first.new.components opened off_again others opens)
    c.behind_first.ensures

-- ---- behind_first

pub behind_sorted::behind_first-open_behind-requires : goal.behind_sorted::behind_first-open_behind-requires
behind_sorted::behind_first-open_behind-requires t c =
    let counts = c.args.counted.now in
    let ok = c.grammar.ensures.kept in
    let behind = c.args.level.behind in
    let taken = c.args.level.taken in (
      omega (
        arith,
        c.decreases,
        component_down counts ok behind c.requires.behind taken (taken + c.args.level.left) (admits behind.card 0) 10 4
            (number_there counts ok behind c.requires.behind taken c.args.component.now c.requires.one) (omega arith) (omega (arith, c.requires.within, ok.small))
            (λ same. c.requires.alone (omega (arith, same))),
        ap (λ (n : ℕ). node_measure counts.checked behind.element n) (supply_size Unlabelled taken),
      ),
      (
        reached_child counts ok behind.node 0 behind.element c.requires.behind.reached c.requires.behind.child,
        (zeros_asked counts taken c.requires.behind.universe (omega (arith, c.requires.within)), (c.requires.behind.universe, c.requires.one)),
      ),
    )

pub behind_sorted::behind_first-open_first-requires : goal.behind_sorted::behind_first-open_first-requires
behind_sorted::behind_first-open_first-requires t c =
    let counts = c.args.counted.now in
    let ok = c.grammar.ensures.kept in
    let behind = c.args.level.behind in
    let opens : OpensBehind counts (listing_on counts.checked behind.element (supply Unlabelled c.args.level.taken)) c.args.component.now (Some (c.in-Some.later, c.in-Some.next)) =
    rw c.in-Some.is at c.in_ok-later.ensures in (
      omega (
        arith,
        c.decreases,
        level_others_down counts ok behind c.requires.behind c.args.level.left (c.args.level.taken + c.args.level.left)
            (omega (arith, atoms_there counts ok behind c.requires.behind c.args.level.taken c.args.component.now c.requires.one)),
      ),
      (next_level counts c.args.level c.args.component.now c.in-Some.later c.in-Some.next c.requires.behind c.requires.within opens, opens.1),
    )

-- ---- what comes next behind one

same_at : (xs : List Structure) (place : ℕ) (s t : Structure) → slice_get xs place ≡ Some s → slice_get xs place ≡ Some t → s ≡ t
same_at xs place s t one other = let same : Some s ≡ Some t = sym one ∙ other in cc

place_in : {X : Type 0} (xs : List X) (place : ℕ) → 0 < length (drop place xs) → place < length xs
place_in xs place some = omega (arith, length-drop place xs)

pub behind::behind_components-behind_lists-requires : goal.behind::behind_components-behind_lists-requires
behind::behind_components-behind_lists-requires t c =
    let told_as : Tup c.in-Tup.field-0 (parts_of c.in-Tup.parts) ≡ c.args.s.now = ap structure_of (sym c.in-Tup.is) ∙ c.s.view_is in (
      omega (arith, c.decreases),
      (
        c.requires.tail,
        (
          c.requires.within,
          (
            c.requires.unlabelled,
            parts_there c.args.counted.now c.args.form c.in-Tup.field-0 (tail_on c.args.counted.now.checked c.args.tail (supply Unlabelled c.args.n)) c.in-Tup.parts c.args.s.now told_as c.requires.one,
          ),
        ),
      ),
    )

pub behind::behind_components-invariant_of-s : goal.behind::behind_components-invariant_of-s
behind::behind_components-invariant_of-s t c =
    let counts = c.args.counted.now in
    let told_as : Tup c.in-Tup.field-0 (parts_of c.in-Tup.parts) ≡ c.args.s.now = ap structure_of (sym c.in-Tup.is) ∙ c.s.view_is in
    let lists = tail_on counts.checked c.args.tail (supply Unlabelled c.args.n) in
    let one = parts_there counts c.args.form c.in-Tup.field-0 (tail_on counts.checked c.args.tail (supply Unlabelled c.args.n)) c.in-Tup.parts c.args.s.now told_as c.requires.one in
    let behind : OpensBehindList counts (tail_on counts.checked c.args.tail (supply Unlabelled c.args.n)) c.in-Tup.parts c.new-components.result c.behind_lists.new.components (Some c.in-Some.lists) =
    rw c.in-Some.is at c.in_ok-lists.ensures in
    list_few counts c.grammar.ensures.kept c.requires.unlabelled c.args.tail c.args.n c.requires.tail c.requires.within c.in-Tup.parts one c.behind_lists.new.components
    (put_there counts c.args.form c.in-Tup.field-0 (tail_on counts.checked c.args.tail (supply Unlabelled c.args.n)) c.in-Tup.parts c.args.s.now told_as c.requires.one
    c.new-components.result c.behind_lists.new.components c.new-components.ensures c.in-Some.lists behind)

pub behind::behind_components-returns : goal.behind::behind_components-returns
behind::behind_components-returns t c =
    let counts = c.args.counted.now in
    let told_as : Tup c.in-Tup.field-0 (parts_of c.in-Tup.parts) ≡ c.args.s.now = ap structure_of (sym c.in-Tup.is) ∙ c.s.view_is in
    let behind : OpensBehindList counts (tail_on counts.checked c.args.tail (supply Unlabelled c.args.n)) c.in-Tup.parts c.new-components.result c.behind_lists.new.components (Some c.in-Some.lists) =
    rw c.in-Some.is at c.in_ok-lists.ensures in
    components_behind counts c.args.form c.in-Tup.field-0 (tail_on counts.checked c.args.tail (supply Unlabelled c.args.n)) c.in-Tup.parts c.args.s.now told_as c.requires.one
    c.new-components.result c.behind_lists.new.components c.new-components.ensures c.in-Some.lists c.in_ok-later.later.value (record { ptr = c.in_ok-later.later.ptr; alloc = c.in_ok-later.later.alloc; value = tt }) c.in_ok-later.ensures.ok behind

pub behind::behind_components-returns-in_default-2 : goal.behind::behind_components-returns-in_default-2
behind::behind_components-returns-in_default-2 t c =
    let counts = c.args.counted.now in
    let told_as : Tup c.in-Tup.field-0 (parts_of c.in-Tup.parts) ≡ c.args.s.now = ap structure_of (sym c.in-Tup.is) ∙ c.s.view_is in
    let behind : OpensBehindList counts (tail_on counts.checked c.args.tail (supply Unlabelled c.args.n)) c.in-Tup.parts c.new-components.result c.behind_lists.new.components None =
    rw c.in_default-2.is at c.in_ok-lists.ensures in
    no_components_behind counts c.args.form c.in-Tup.field-0 (tail_on counts.checked c.args.tail (supply Unlabelled c.args.n)) c.in-Tup.parts c.args.s.now told_as c.requires.one
    c.new-components.result c.behind_lists.new.components c.new-components.ensures behind

pub behind::behind_components-unreachable-requires : goal.behind::behind_components-unreachable-requires
behind::behind_components-unreachable-requires t c =
    not_components c.s.inside.shape c.args.form (tail_on c.args.counted.now.checked c.args.tail (supply Unlabelled c.args.n)) c.args.s.now c.s.view_is c.requires.one c.in_default.not-Tup

pub behind::behind_in_union-child-child-requires-2-clause-within : goal.behind::behind_in_union-child-child-requires-2-clause-within
behind::behind_in_union-child-child-requires-2-clause-within t c =
    node_read c.args.counted.now c.grammar-grammar.result.now c.args.node c.grammar-grammar.ensures.value
    (reached_within c.args.counted.now c.grammar-grammar.ensures.kept c.args.node c.requires.reached)

pub behind::behind_in_union-child-child-requires-clause-within : goal.behind::behind_in_union-child-child-requires-clause-within
behind::behind_in_union-child-child-requires-clause-within t c =
    node_read c.args.counted.now c.grammar-grammar.result.now c.args.node c.grammar-grammar.ensures.value
    (reached_within c.args.counted.now c.grammar-grammar.ensures.kept c.args.node c.requires.reached)

pub behind::behind_in_union-child-child-requires-clause-low : goal.behind::behind_in_union-child-child-requires-clause-low
behind::behind_in_union-child-child-requires-clause-low t c =
    argument_low c.args.counted.now c.args.node c.in-Alt.argument c.args.supply (listing_on c.args.counted.now.checked c.args.node (supply_labels c.args.supply)) c.in-Alt.inside.value c.args.s.now
    (ap structure_of (sym c.in-Alt.is) ∙ c.s.view_is)
    (by_arguments c.args.counted.now c.grammar-grammar.ensures.kept c.args.node c.args.supply c.requires.union c.requires.asked) c.requires.one

pub behind::behind_in_union-child-child-requires-clause-high : goal.behind::behind_in_union-child-child-requires-clause-high
behind::behind_in_union-child-child-requires-clause-high t c =
    subst (λ (g : Checked). c.in-Alt.argument ≤ length (children_at g.rules c.args.node)) (sym c.grammar-grammar.ensures.value)
    (argument_high c.args.counted.now c.args.node c.in-Alt.argument c.args.supply (listing_on c.args.counted.now.checked c.args.node (supply_labels c.args.supply)) c.in-Alt.inside.value c.args.s.now
    (ap structure_of (sym c.in-Alt.is) ∙ c.s.view_is)
    (by_arguments c.args.counted.now c.grammar-grammar.ensures.kept c.args.node c.args.supply c.requires.union c.requires.asked) c.requires.one)

pub behind::behind_in_union-open_behind-requires : goal.behind::behind_in_union-open_behind-requires
behind::behind_in_union-open_behind-requires t c =
    let counts = c.args.counted.now in
    let checked = counts.checked in
    let ok = c.grammar-grammar.ensures.kept in
    let whole : Alt c.in-Alt.argument c.in-Alt.inside.value ≡ c.args.s.now = ap structure_of (sym c.in-Alt.is) ∙ c.s.view_is in
    let at : slice_get (children_at checked.rules c.args.node) (c.in-Alt.argument - 1) ≡ Some c.child-child.result =
    subst (λ (g : Checked). slice_get (children_at g.rules c.args.node) (c.in-Alt.argument - 1) ≡ Some c.child-child.result) c.grammar-grammar.ensures.value c.child-child.ensures.value in
    let there = argument_inside counts c.args.node c.in-Alt.argument c.args.supply (listing_on checked c.args.node (supply_labels c.args.supply)) c.in-Alt.inside.value c.args.s.now whole
    (by_arguments counts ok c.args.node c.args.supply c.requires.union c.requires.asked) c.requires.one c.child-child.result at in
    let some = some_there counts ok c.child-child.result (supply_labels c.args.supply) c.in-Alt.inside.value (asked_supply counts c.args.supply c.requires.asked) there in (
      omega (
        arith,
        c.decreases,
        union_down checked ok.passed c.args.node (c.in-Alt.argument - 1) c.child-child.result (length (supply_labels c.args.supply)) c.requires.union at
            (omega (arith, c.requires.asked.within, ok.small)) some,
        ap (λ (s : Supply). node_measure checked c.child-child.result (length (supply_labels s))) c.in_ok-labels.ensures,
      ),
      (
        reached_child counts ok c.args.node (c.in-Alt.argument - 1) c.child-child.result c.requires.reached at,
        (
          subst (λ (s : Supply). IsAsked counts s) (sym c.in_ok-labels.ensures) c.requires.asked,
          (
            c.requires.unlabelled,
            subst (λ (s : Supply). IsIn c.deref.result.now (listing_on checked c.child-child.result (supply_labels s))) (sym c.in_ok-labels.ensures)
                (subst (λ (s : Structure). IsIn s (listing_on checked c.child-child.result (supply_labels c.args.supply))) (sym c.deref.ensures) there),
          ),
        ),
      ),
    )

pub behind::behind_in_union-open_node-requires : goal.behind::behind_in_union-open_node-requires
behind::behind_in_union-open_node-requires t c =
    let counts = c.args.counted.now in
    let ok = c.grammar-grammar.ensures.kept in
    let stands : CanGoOn counts c.args.node c.args.supply = record { reached = c.requires.reached; union = c.requires.union; asked = c.requires.asked } in
    let next = c.in-Some-next_argument.ensures.some in
    let same = c.grammar-grammar.ensures.value in
    let at = c.child-child-2.ensures.value in
    let copied = c.in_ok-labels-2.labels in
    let copy = c.in_ok-labels-2.ensures in (
      omega (
        arith,
        c.decreases,
        next_down counts c.args.node c.args.supply stands c.in-Alt.argument c.len-n.result c.len-n.ensures ok c.grammar-grammar.result.now same c.in-Some-next_argument.number c.child-child-2.result next at,
        ap (λ (s : Supply). length (supply_labels s)) copy,
        ap (λ (s : Supply). node_measure counts.checked c.child-child-2.result (length (supply_labels s))) copy,
      ),
      (
        next_reached counts c.args.node c.args.supply stands c.in-Alt.argument c.len-n.result c.len-n.ensures ok c.grammar-grammar.result.now same c.in-Some-next_argument.number c.child-child-2.result next at,
        (
          subst (λ (s : Supply). IsAsked counts s) (sym copy) c.requires.asked,
          next_some counts c.args.node c.args.supply stands c.in-Alt.argument c.len-n.result c.len-n.ensures ok c.grammar-grammar.result.now same c.in-Some-next_argument.number c.child-child-2.result next at copied copy,
        ),
      ),
    )

-- the argument that the code reads
argument_at : (counts : Counts) (grammar : Checked) (node number child : ℕ) → grammar ≡ counts.checked → slice_get (children_at grammar.rules node) (number - 1) ≡ Some child
    → slice_get (children_at counts.checked.rules node) (number - 1) ≡ Some child
argument_at counts grammar node number child same at = subst (λ (g : Checked). slice_get (children_at g.rules node) (number - 1) ≡ Some child) same at

-- behind the structure inside, on the labels and of the structure that the code copies
behind_read : (counts : Counts) (child : ℕ) (copied given : Supply) (read inside : Structure) (opened : Option (Later × Structure)) → copied ≡ given → read ≡ inside
    → OpensBehind counts (listing_on counts.checked child (supply_labels copied)) read opened → OpensBehind counts (listing_on counts.checked child (supply_labels given)) inside opened
behind_read counts child copied given read inside opened same is behind =
    subst (λ (s : Structure). OpensBehind counts (listing_on counts.checked child (supply_labels given)) s opened) is
    (subst (λ (u : Supply). OpensBehind counts (listing_on counts.checked child (supply_labels u)) read opened) same behind)

pub behind::behind_in_union-returns : goal.behind::behind_in_union-returns
behind::behind_in_union-returns t c =
    let counts = c.args.counted.now in
    let checked = counts.checked in
    let ok = c.grammar-grammar.ensures.kept in
    let whole : Alt c.in-Alt.argument c.in-Alt.inside.value ≡ c.args.s.now = ap structure_of (sym c.in-Alt.is) ∙ c.s.view_is in
    let at = argument_at counts c.grammar-grammar.result.now c.args.node c.in-Alt.argument c.child-child.result c.grammar-grammar.ensures.value c.child-child.ensures.value in
    let by = by_arguments counts ok c.args.node c.args.supply c.requires.union c.requires.asked in
    let low = argument_low counts c.args.node c.in-Alt.argument c.args.supply (listing_on checked c.args.node (supply_labels c.args.supply)) c.in-Alt.inside.value c.args.s.now whole
    (by_arguments counts ok c.args.node c.args.supply c.requires.union c.requires.asked) c.requires.one in
    let high = argument_high counts c.args.node c.in-Alt.argument c.args.supply (listing_on checked c.args.node (supply_labels c.args.supply)) c.in-Alt.inside.value c.args.s.now whole
    (by_arguments counts ok c.args.node c.args.supply c.requires.union c.requires.asked) c.requires.one in
    let last : OpensBehind counts (listing_on checked c.child-child.result (supply_labels c.args.supply)) c.in-Alt.inside.value None =
    behind_read counts c.child-child.result c.in_ok-labels.labels c.args.supply c.deref.result.now c.in-Alt.inside.value None c.in_ok-labels.ensures c.deref.ensures
    (rw c.in_default-2.is at c.in_ok-inner.ensures) in
    let stands : CanGoOn counts c.args.node c.args.supply = record { reached = c.requires.reached; union = c.requires.union; asked = c.requires.asked } in
    let next : NextArgument counts c.args.node c.args.supply (arguments_behind checked c.args.node c.in-Alt.argument (supply_labels c.args.supply)) c.in-Some-next_argument.number c.in_ok-inner-2.inner c.in_ok-inner-2.first true =
    next_opens counts c.args.node c.args.supply stands c.in-Alt.argument c.len-n.result c.len-n.ensures ok c.grammar-grammar.result.now c.grammar-grammar.ensures.value c.in-Some-next_argument.number c.child-child-2.result
    c.in-Some-next_argument.ensures.some c.child-child-2.ensures.value c.in_ok-labels-2.labels c.in_ok-inner-2.inner c.in_ok-inner-2.first c.in_ok-labels-2.ensures c.in_ok-inner-2.ensures in
    behind_argument counts c.args.node c.in-Alt.argument c.child-child.result c.args.supply (listing_on checked c.args.node (supply_labels c.args.supply)) c.in-Alt.inside.value c.args.s.now whole
    (by_arguments counts ok c.args.node c.args.supply c.requires.union c.requires.asked) low high at last c.in_ok-opened-2.opened
    (c.in_ok-opened-2.ensures (arguments_behind checked c.args.node c.in-Alt.argument (supply_labels c.args.supply)) next)

pub behind::behind_in_union-returns-in-Some : goal.behind::behind_in_union-returns-in-Some
behind::behind_in_union-returns-in-Some t c =
    let counts = c.args.counted.now in
    let checked = counts.checked in
    let ok = c.grammar-grammar.ensures.kept in
    let whole : Alt c.in-Alt.argument c.in-Alt.inside.value ≡ c.args.s.now = ap structure_of (sym c.in-Alt.is) ∙ c.s.view_is in
    let at = argument_at counts c.grammar-grammar.result.now c.args.node c.in-Alt.argument c.child-child.result c.grammar-grammar.ensures.value c.child-child.ensures.value in
    let low = argument_low counts c.args.node c.in-Alt.argument c.args.supply (listing_on checked c.args.node (supply_labels c.args.supply)) c.in-Alt.inside.value c.args.s.now whole
    (by_arguments counts ok c.args.node c.args.supply c.requires.union c.requires.asked) c.requires.one in
    let high = argument_high counts c.args.node c.in-Alt.argument c.args.supply (listing_on checked c.args.node (supply_labels c.args.supply)) c.in-Alt.inside.value c.args.s.now whole
    (by_arguments counts ok c.args.node c.args.supply c.requires.union c.requires.asked) c.requires.one in
    let behind : OpensBehind counts (listing_on checked c.child-child.result (supply_labels c.args.supply)) c.in-Alt.inside.value (Some (c.in-Some.inner, c.in-Some.next)) =
    behind_read counts c.child-child.result c.in_ok-labels.labels c.args.supply c.deref.result.now c.in-Alt.inside.value (Some (c.in-Some.inner, c.in-Some.next)) c.in_ok-labels.ensures c.deref.ensures
    (rw c.in-Some.is at c.in_ok-inner.ensures) in
    behind_in_argument counts c.args.node c.in-Alt.argument c.child-child.result c.args.supply (listing_on checked c.args.node (supply_labels c.args.supply)) c.in-Alt.inside.value c.args.s.now whole
    (by_arguments counts ok c.args.node c.args.supply c.requires.union c.requires.asked) low high at c.in-Some.inner c.in-Some.next c.in_ok-opened.opened behind
    (c.in_ok-opened.ensures
    (Alt c.in-Alt.argument c.in-Some.next ∷ (map (Alt c.in-Alt.argument) (structures_after checked c.in-Some.inner c.in-Some.next) ++ arguments_behind checked c.args.node c.in-Alt.argument (supply_labels c.args.supply)))
    (refl, behind.1))

pub behind::behind_in_union-returns-in_default-next_argument : goal.behind::behind_in_union-returns-in_default-next_argument
behind::behind_in_union-returns-in_default-next_argument t c =
    let counts = c.args.counted.now in
    let checked = counts.checked in
    let ok = c.grammar-grammar.ensures.kept in
    let whole : Alt c.in-Alt.argument c.in-Alt.inside.value ≡ c.args.s.now = ap structure_of (sym c.in-Alt.is) ∙ c.s.view_is in
    let at = argument_at counts c.grammar-grammar.result.now c.args.node c.in-Alt.argument c.child-child.result c.grammar-grammar.ensures.value c.child-child.ensures.value in
    let low = argument_low counts c.args.node c.in-Alt.argument c.args.supply (listing_on checked c.args.node (supply_labels c.args.supply)) c.in-Alt.inside.value c.args.s.now whole
    (by_arguments counts ok c.args.node c.args.supply c.requires.union c.requires.asked) c.requires.one in
    let high = argument_high counts c.args.node c.in-Alt.argument c.args.supply (listing_on checked c.args.node (supply_labels c.args.supply)) c.in-Alt.inside.value c.args.s.now whole
    (by_arguments counts ok c.args.node c.args.supply c.requires.union c.requires.asked) c.requires.one in
    let last : OpensBehind counts (listing_on checked c.child-child.result (supply_labels c.args.supply)) c.in-Alt.inside.value None =
    behind_read counts c.child-child.result c.in_ok-labels.labels c.args.supply c.deref.result.now c.in-Alt.inside.value None c.in_ok-labels.ensures c.deref.ensures
    (rw c.in_default-2.is at c.in_ok-inner.ensures) in
    behind_arguments counts c.args.node c.in-Alt.argument c.child-child.result c.args.supply (listing_on checked c.args.node (supply_labels c.args.supply)) c.in-Alt.inside.value c.args.s.now whole
    (by_arguments counts ok c.args.node c.args.supply c.requires.union c.requires.asked) low high at last
    (c.in_default-next_argument.ensures.none (supply_labels c.args.supply) (asked_supply counts c.args.supply c.requires.asked) (sym c.len-n.ensures))

pub behind::behind_in_union-unreachable-requires : goal.behind::behind_in_union-unreachable-requires
behind::behind_in_union-unreachable-requires t c =
    not_argument c.args.counted.now.checked c.args.node (supply_labels c.args.supply) c.s.inside.shape (listing_on c.args.counted.now.checked c.args.node (supply_labels c.args.supply)) c.args.s.now c.s.view_is
    (by_arguments c.args.counted.now c.grammar-grammar.ensures.kept c.args.node c.args.supply c.requires.union c.requires.asked) c.requires.one c.in_default.not-Alt

-- ---- lists that come next

pub behind::behind_lists-prove-unreachable-requires : goal.behind::behind_lists-prove-unreachable-requires
behind::behind_lists-prove-unreachable-requires t c =
    let below = place_in c.args.parts.now c.args.place
    (a_component c.args.counted.now c.grammar.ensures.kept c.requires.unlabelled c.args.tail c.args.n c.requires.tail c.requires.within (drop c.args.place c.args.parts.now) c.requires.one c.in-Some.cut (sym c.in-Some.ensures)) in
    omega (arith, below, c.len-count.ensures)

pub behind::behind_lists-is_end-requires : goal.behind::behind_lists-is_end-requires
behind::behind_lists-is_end-requires t c =
    (cut_is_there c.args.counted.now c.grammar.ensures.kept c.requires.unlabelled c.args.tail c.args.n c.requires.tail c.requires.within (drop c.args.place c.args.parts.now) c.requires.one c.in-Some.cut (sym c.in-Some.ensures)).behind

pub behind::behind_lists-level_from-requires-clause-cut : goal.behind::behind_lists-level_from-requires-clause-cut
behind::behind_lists-level_from-requires-clause-cut t c =
    cut_is_there c.args.counted.now c.grammar.ensures.kept c.requires.unlabelled c.args.tail c.args.n c.requires.tail c.requires.within (drop c.args.place c.args.parts.now) c.requires.one c.in-Some.cut (sym c.in-Some.ensures)

pub behind::behind_lists-level_from-requires-clause-part : goal.behind::behind_lists-level_from-requires-clause-part
behind::behind_lists-level_from-requires-clause-part t c =
    let off : drop c.args.place c.args.parts.now ≡ c.at-component.result.now ∷ drop (c.args.place + 1) c.args.parts.now = drop_at c.args.parts.now c.args.place c.at-component.result.now c.at-component.ensures in
    part_there_too c.args.counted.now c.grammar.ensures.kept c.requires.unlabelled c.args.tail c.args.n c.requires.tail c.requires.within (drop c.args.place c.args.parts.now) c.requires.one c.in-Some.cut (sym c.in-Some.ensures)
    c.at-component.result.now (drop (c.args.place + 1) c.args.parts.now) off c.size-taken.result c.size-taken.ensures

pub behind::behind_lists-level_from-requires-clause-taken : goal.behind::behind_lists-level_from-requires-clause-taken
behind::behind_lists-level_from-requires-clause-taken t c =
    let off : drop c.args.place c.args.parts.now ≡ c.at-component.result.now ∷ drop (c.args.place + 1) c.args.parts.now = drop_at c.args.parts.now c.args.place c.at-component.result.now c.at-component.ensures in
    taken_within c.args.counted.now c.grammar.ensures.kept c.requires.unlabelled c.args.tail c.args.n c.requires.tail c.requires.within (drop c.args.place c.args.parts.now) c.requires.one c.in-Some.cut (sym c.in-Some.ensures)
    c.at-component.result.now (drop (c.args.place + 1) c.args.parts.now) off c.size-taken.result c.size-taken.ensures

pub behind::behind_lists-overflow_sub-left : goal.behind::behind_lists-overflow_sub-left
behind::behind_lists-overflow_sub-left t c =
    let off : drop c.args.place c.args.parts.now ≡ c.at-component.result.now ∷ drop (c.args.place + 1) c.args.parts.now = drop_at c.args.parts.now c.args.place c.at-component.result.now c.at-component.ensures in
    taken_within c.args.counted.now c.grammar.ensures.kept c.requires.unlabelled c.args.tail c.args.n c.requires.tail c.requires.within (drop c.args.place c.args.parts.now) c.requires.one c.in-Some.cut (sym c.in-Some.ensures)
    c.at-component.result.now (drop (c.args.place + 1) c.args.parts.now) off c.size-taken.result c.size-taken.ensures

pub behind::behind_lists-behind_last-requires : goal.behind::behind_lists-behind_last-requires
behind::behind_lists-behind_last-requires t c =
    let counts = c.args.counted.now in
    let off : drop c.args.place c.args.parts.now ≡ c.at-component.result.now ∷ drop (c.args.place + 1) c.args.parts.now = drop_at c.args.parts.now c.args.place c.at-component.result.now c.at-component.ensures in
    let ends : is_end counts.checked c.in-Some.cut.behind ≡ true = sym c.is_end.ensures ∙ c.if-is_end.true in (
      omega (
        arith,
        c.decreases,
        last_falls counts c.grammar.ensures.kept c.requires.unlabelled c.args.tail c.args.n c.requires.tail c.requires.within (drop c.args.place c.args.parts.now) c.requires.one c.in-Some.cut (sym c.in-Some.ensures)
            c.at-component.result.now (drop (c.args.place + 1) c.args.parts.now) off ends,
      ),
      (
        (cut_is_there counts c.grammar.ensures.kept c.requires.unlabelled c.args.tail c.args.n c.requires.tail c.requires.within (drop c.args.place c.args.parts.now) c.requires.one c.in-Some.cut (sym c.in-Some.ensures)).first,
        (
          c.requires.within,
          (
            c.requires.unlabelled,
            last_one counts c.grammar.ensures.kept c.requires.unlabelled c.args.tail c.args.n c.requires.tail c.requires.within (drop c.args.place c.args.parts.now) c.requires.one c.in-Some.cut (sym c.in-Some.ensures)
                c.at-component.result.now (drop (c.args.place + 1) c.args.parts.now) off ends,
          ),
        ),
      ),
    )

pub behind::behind_lists-behind_split-requires : goal.behind::behind_lists-behind_split-requires
behind::behind_lists-behind_split-requires t c =
    let counts = c.args.counted.now in
    let off : drop c.args.place c.args.parts.now ≡ c.at-component.result.now ∷ drop (c.args.place + 1) c.args.parts.now = drop_at c.args.parts.now c.args.place c.at-component.result.now c.at-component.ensures in
    let less = taken_within counts c.grammar.ensures.kept c.requires.unlabelled c.args.tail c.args.n c.requires.tail c.requires.within (drop c.args.place c.args.parts.now) c.requires.one c.in-Some.cut (sym c.in-Some.ensures)
    c.at-component.result.now (drop (c.args.place + 1) c.args.parts.now) off c.size-taken.result c.size-taken.ensures in
    let first = first_in counts c.grammar.ensures.kept c.requires.unlabelled c.args.tail c.args.n c.requires.tail c.requires.within (drop c.args.place c.args.parts.now) c.requires.one c.in-Some.cut (sym c.in-Some.ensures)
    c.at-component.result.now (drop (c.args.place + 1) c.args.parts.now) off c.size-taken.result c.size-taken.ensures in (
      omega (
        arith,
        c.decreases,
        split_falls counts c.grammar.ensures.kept c.requires.unlabelled c.args.tail c.args.n c.requires.tail c.requires.within (drop c.args.place c.args.parts.now) c.requires.one c.in-Some.cut (sym c.in-Some.ensures)
            c.at-component.result.now (drop (c.args.place + 1) c.args.parts.now) off c.size-taken.result c.size-taken.ensures,
      ),
      (
        cut_is_there counts c.grammar.ensures.kept c.requires.unlabelled c.args.tail c.args.n c.requires.tail c.requires.within (drop c.args.place c.args.parts.now) c.requires.one c.in-Some.cut (sym c.in-Some.ensures),
        (
          omega (arith, less, c.requires.within),
          (
            omega (arith, c.requires.within),
            (
              c.requires.unlabelled,
              (
                omega (
                  arith,
                  place_in c.args.parts.now c.args.place
                      (a_component counts c.grammar.ensures.kept c.requires.unlabelled c.args.tail c.args.n c.requires.tail c.requires.within (drop c.args.place c.args.parts.now) c.requires.one c.in-Some.cut (sym c.in-Some.ensures)),
                ),
                (
                  (λ s here. subst (λ (x : Structure). IsIn x (listing_on counts.checked c.in-Some.cut.first (supply Unlabelled c.size-taken.result)))
                      (same_at c.args.parts.now c.args.place c.at-component.result.now s c.at-component.ensures here) first),
                  others_in counts c.grammar.ensures.kept c.requires.unlabelled c.args.tail c.args.n c.requires.tail c.requires.within (drop c.args.place c.args.parts.now) c.requires.one c.in-Some.cut (sym c.in-Some.ensures)
                      c.at-component.result.now (drop (c.args.place + 1) c.args.parts.now) off c.size-taken.result c.size-taken.ensures,
                ),
              ),
            ),
          ),
        ),
      ),
    )

-- the level that the code made, on which the splits to come can be opened
level_made : (counts : Counts) (cut : Cut) (n taken : ℕ) (level : Level) → level ≡ level_from counts.checked cut n taken → LevelStands counts (level_from counts.checked cut n taken) → LevelStands counts level
level_made counts cut n taken level same stands = subst (λ (l : Level). LevelStands counts l) (sym same) stands

pub behind::behind_lists-open_split-requires : goal.behind::behind_lists-open_split-requires
behind::behind_lists-open_split-requires t c =
    let counts = c.args.counted.now in
    let ok = c.grammar.ensures.kept in
    let off : drop c.args.place c.args.parts.now ≡ c.at-component.result.now ∷ drop (c.args.place + 1) c.args.parts.now = drop_at c.args.parts.now c.args.place c.at-component.result.now c.at-component.ensures in
    let stands : LevelStands counts c.in_ok-level.level = level_made counts c.in-Some.cut c.args.n c.size-taken.result c.in_ok-level.level c.in_ok-level.ensures
    (level_there counts ok c.requires.unlabelled c.args.tail c.args.n c.requires.tail c.requires.within (drop c.args.place c.args.parts.now) c.requires.one c.in-Some.cut (sym c.in-Some.ensures)
    c.at-component.result.now (drop (c.args.place + 1) c.args.parts.now) off c.size-taken.result c.size-taken.ensures) in
    let cut_same : c.in_ok-level.level.cut ≡ c.in-Some.cut = ap (λ (l : Level). l.cut) c.in_ok-level.ensures in
    let splits = rw c.in-Some-2.is at c.in_ok-part.ensures.some in
    let of_part = part_of_level counts c.in_ok-level.level stands c.next.new.self c.in-Some-2.part c.in-Some-2.rest splits
    (rw c.in-Some-2.is at c.in_ok-part.ensures.part_in_order) (rw c.in-Some-2.is at c.in_ok-part.ensures.part_universe) in
    let of_rest = rest_of_level counts c.in_ok-level.level stands c.next.new.self c.in-Some-2.part c.in-Some-2.rest splits
    (rw c.in-Some-2.is at c.in_ok-part.ensures.rest_in_order) (rw c.in-Some-2.is at c.in_ok-part.ensures.rest_universe) in
    let can : CanOpen counts c.in-Some.cut (split_into c.in-Some-2.part c.in-Some-2.rest) = subst (λ (k : Cut). CanOpen counts k (split_into c.in-Some-2.part c.in-Some-2.rest)) cut_same
    (next_can counts c.in_ok-level.level stands c.next.new.self c.in-Some-2.part c.in-Some-2.rest splits) in (
      omega (
        arith,
        c.decreases,
        later_falls counts ok c.requires.unlabelled c.args.tail c.args.n c.requires.tail c.requires.within (drop c.args.place c.args.parts.now) c.requires.one c.in-Some.cut (sym c.in-Some.ensures)
            c.size-taken.result c.in-Some-2.part c.in-Some-2.rest c.next.new.self.left
            (ap (λ (l : Level). l.splits.left) (sym c.in_ok-level.ensures) ∙ splits) of_part of_rest can,
      ),
      (
        cut_is_there counts ok c.requires.unlabelled c.args.tail c.args.n c.requires.tail c.requires.within (drop c.args.place c.args.parts.now) c.requires.one c.in-Some.cut (sym c.in-Some.ensures),
        (of_part, (of_rest, (can.first, can.others))),
      ),
    )

pub behind::behind_lists-returns : goal.behind::behind_lists-returns
behind::behind_lists-returns t c =
    let counts = c.args.counted.now in
    let ok = c.grammar.ensures.kept in
    let off : drop c.args.place c.args.parts.now ≡ c.at-component.result.now ∷ drop (c.args.place + 1) c.args.parts.now = drop_at c.args.parts.now c.args.place c.at-component.result.now c.at-component.ensures in
    let there : LevelStands counts (level_from counts.checked c.in-Some.cut c.args.n c.size-taken.result) =
    level_there counts ok c.requires.unlabelled c.args.tail c.args.n c.requires.tail c.requires.within (drop c.args.place c.args.parts.now) c.requires.one c.in-Some.cut (sym c.in-Some.ensures)
    c.at-component.result.now (drop (c.args.place + 1) c.args.parts.now) off c.size-taken.result c.size-taken.ensures in
    let splits : (level_from counts.checked c.in-Some.cut c.args.n c.size-taken.result).splits.left ≡ split_into c.in-Some-2.part c.in-Some-2.rest ∷ c.next.new.self.left =
    ap (λ (l : Level). l.splits.left) (sym c.in_ok-level.ensures) ∙ rw c.in-Some-2.is at c.in_ok-part.ensures.some in
    let of_rest = rest_of_level counts (level_from counts.checked c.in-Some.cut c.args.n c.size-taken.result) there c.next.new.self c.in-Some-2.part c.in-Some-2.rest splits
    (rw c.in-Some-2.is at c.in_ok-part.ensures.rest_in_order) (rw c.in-Some-2.is at c.in_ok-part.ensures.rest_universe ∙ ap (λ (l : Level). l.splits.universe) c.in_ok-level.ensures) in
    let parts : OpensParts counts (on_splits counts.checked c.in-Some.cut (level_from counts.checked c.in-Some.cut c.args.n c.size-taken.result).splits.left) c.behind_split.new.components
    (record { cut = c.in-Some.cut; rest = c.in_ok-level-2.field-0; splits = c.next.new.self }) c.in_ok-first.first c.in_ok-first.others c.open_split.new.components =
    next_parts counts (level_from counts.checked c.in-Some.cut c.args.n c.size-taken.result) there c.next.new.self c.in-Some-2.part c.in-Some-2.rest splits c.in_ok-level-2.field-0
    c.behind_split.new.components c.open_split.new.components c.in_ok-first.first c.in_ok-first.others c.in_ok-level-2.ensures
    (c.in_ok-part.ensures.universe ∙ ap (λ (l : Level). l.splits.universe) c.in_ok-level.ensures) of_rest c.in_ok-first.ensures in
    let opens : OpensLists counts (on_splits counts.checked c.in-Some.cut (level_from counts.checked c.in-Some.cut c.args.n c.size-taken.result).splits.left) c.behind_split.new.components c.open_split.new.components c.in_ok-lists-2.lists =
    c.in_ok-lists-2.ensures counts (on_splits counts.checked c.in-Some.cut (level_from counts.checked c.in-Some.cut c.args.n c.size-taken.result).splits.left) c.behind_split.new.components c.open_split.new.components
    (subst (λ (k : Cut). OpensParts counts (on_splits counts.checked c.in-Some.cut (level_from counts.checked c.in-Some.cut c.args.n c.size-taken.result).splits.left) c.behind_split.new.components
    (record { cut = k; rest = c.in_ok-level-2.field-0; splits = c.next.new.self }) c.in_ok-first.first c.in_ok-first.others c.open_split.new.components) (sym (ap (λ (l : Level). l.cut) c.in_ok-level.ensures)) parts) in
    on_later_split counts ok c.requires.unlabelled c.args.tail c.args.n c.requires.tail c.requires.within (drop c.args.place c.args.parts.now) c.requires.one c.in-Some.cut (sym c.in-Some.ensures)
    c.at-component.result.now (drop (c.args.place + 1) c.args.parts.now) off c.size-taken.result c.size-taken.ensures c.args.components.now c.behind_split.new.components c.in_ok-found.found c.in_ok-found.ensures
    c.in_default-found.is c.open_split.new.components (Some c.in_ok-lists-2.lists) opens

pub behind::behind_lists-returns-in-Some-found : goal.behind::behind_lists-returns-in-Some-found
behind::behind_lists-returns-in-Some-found t c =
    let counts = c.args.counted.now in
    let off : drop c.args.place c.args.parts.now ≡ c.at-component.result.now ∷ drop (c.args.place + 1) c.args.parts.now = drop_at c.args.parts.now c.args.place c.at-component.result.now c.at-component.ensures in
    on_split counts c.grammar.ensures.kept c.requires.unlabelled c.args.tail c.args.n c.requires.tail c.requires.within (drop c.args.place c.args.parts.now) c.requires.one c.in-Some.cut (sym c.in-Some.ensures)
    c.at-component.result.now (drop (c.args.place + 1) c.args.parts.now) off c.size-taken.result c.size-taken.ensures c.args.components.now c.behind_split.new.components c.in_ok-found.found c.in_ok-found.ensures
    c.in-Some-found.first c.in-Some-found.others c.in_ok-lists.lists c.in-Some-found.is
    (λ all front back parts. c.in_ok-lists.ensures counts all front back
    (subst (λ (l : Level). OpensParts counts all front l c.in-Some-found.first c.in-Some-found.others back) (sym c.in_ok-level.ensures) parts))

pub behind::behind_lists-returns-in_default : goal.behind::behind_lists-returns-in_default
behind::behind_lists-returns-in_default t c =
    end_behind c.args.counted.now c.grammar.ensures.kept c.requires.unlabelled c.args.tail c.args.n c.requires.tail c.requires.within (drop c.args.place c.args.parts.now) c.requires.one (sym c.in_default.ensures)
    c.args.components.now

pub behind::behind_lists-returns-in_default-2 : goal.behind::behind_lists-returns-in_default-2
behind::behind_lists-returns-in_default-2 t c =
    let counts = c.args.counted.now in
    let off : drop c.args.place c.args.parts.now ≡ c.at-component.result.now ∷ drop (c.args.place + 1) c.args.parts.now = drop_at c.args.parts.now c.args.place c.at-component.result.now c.at-component.ensures in
    let none : (level_from counts.checked c.in-Some.cut c.args.n c.size-taken.result).splits.left ≡ [] =
    ap (λ (l : Level). l.splits.left) (sym c.in_ok-level.ensures) ∙ rw c.in_default-2.is at c.in_ok-part.ensures.none in
    on_later_split counts c.grammar.ensures.kept c.requires.unlabelled c.args.tail c.args.n c.requires.tail c.requires.within (drop c.args.place c.args.parts.now) c.requires.one c.in-Some.cut (sym c.in-Some.ensures)
    c.at-component.result.now (drop (c.args.place + 1) c.args.parts.now) off c.size-taken.result c.size-taken.ensures c.args.components.now c.behind_split.new.components c.in_ok-found.found c.in_ok-found.ensures
    c.in_default-found.is c.behind_split.new.components None (record { kept = refl; none = ap (on_splits counts.checked c.in-Some.cut) none })

pub behind::behind_lists-returns-then-is_end : goal.behind::behind_lists-returns-then-is_end
behind::behind_lists-returns-then-is_end t c =
    let counts = c.args.counted.now in
    let off : drop c.args.place c.args.parts.now ≡ c.at-component.result.now ∷ drop (c.args.place + 1) c.args.parts.now = drop_at c.args.parts.now c.args.place c.at-component.result.now c.at-component.ensures in
    let ends : is_end counts.checked c.in-Some.cut.behind ≡ true = sym c.is_end.ensures ∙ c.if-is_end.true in
    IfOk-weaker c.behind_last.result
    (OpensBehindList counts (map (λ s. s ∷ []) (listing_on counts.checked c.in-Some.cut.first (supply Unlabelled c.args.n))) (c.at-component.result.now ∷ []) c.args.components.now c.behind_last.new.components)
    (OpensBehindList counts (tail_on counts.checked c.args.tail (supply Unlabelled c.args.n)) (drop c.args.place c.args.parts.now) c.args.components.now c.behind_last.new.components)
    (λ opened behind. behind_lone counts c.grammar.ensures.kept c.requires.unlabelled c.args.tail c.args.n c.requires.tail c.requires.within (drop c.args.place c.args.parts.now) c.requires.one c.in-Some.cut (sym c.in-Some.ensures)
    c.at-component.result.now (drop (c.args.place + 1) c.args.parts.now) off ends c.args.components.now c.behind_last.new.components opened behind)
    c.behind_last.ensures

-- ---- rules

pub behind::behind_rule-unreachable-requires : goal.behind::behind_rule-unreachable-requires
behind::behind_rule-unreachable-requires t c =
    let counts = c.args.counted.now in
    let checked = counts.checked in
    let is = right_read c.grammar-grammar.result.now checked c.args.sym c.rule_node-right.result c.kind.result c.kind.result
    c.grammar-grammar.ensures.value c.rule_node-right.ensures.value c.kind.ensures refl in
    let no = no_word c.kind.result c.in-Rule.is in
    let listed = rule_inside checked c.grammar-grammar.ensures.kept.passed c.kind.result c.args.sym (supply_labels c.args.supply) (asked_supply counts c.args.supply c.requires.asked)
    c.requires.low c.requires.high is no.0 no.1 in
    named_shape c.s.inside.shape c.args.sym (listing_on checked (right_node checked.rules c.args.sym) (supply_labels c.args.supply)) c.args.s.now c.s.view_is
    (subst (λ (ss : List Structure). IsIn c.args.s.now ss) listed c.requires.one) c.in_default.not-Named

pub behind::behind_rule-open_behind-requires : goal.behind::behind_rule-open_behind-requires
behind::behind_rule-open_behind-requires t c =
    let counts = c.args.counted.now in
    let checked = counts.checked in
    let ok = c.grammar-grammar.ensures.kept in
    let right : c.rule_node-right.result ≡ right_node checked.rules c.args.sym =
    node_of_rule c.grammar-grammar.result.now checked c.args.sym c.rule_node-right.result c.grammar-grammar.ensures.value c.rule_node-right.ensures.value in
    let is = right_read c.grammar-grammar.result.now checked c.args.sym c.rule_node-right.result c.kind.result c.kind.result
    c.grammar-grammar.ensures.value c.rule_node-right.ensures.value c.kind.ensures refl in
    let no = no_word c.kind.result c.in-Rule.is in
    let whole : Named c.in-Named.field-0 c.in-Named.inside.value ≡ c.args.s.now = ap structure_of (sym c.in-Named.is) ∙ c.s.view_is in
    let there = inside_there counts ok c.args.sym c.args.supply c.kind.result c.requires.asked c.requires.low c.requires.high is no c.args.s.now c.requires.one c.in-Named.field-0 c.in-Named.inside.value whole in (
      omega (
        arith,
        c.decreases,
        right_down checked ok.passed c.args.sym (length (supply_labels c.args.supply)) c.kind.result c.requires.low c.requires.high is no.0 no.1,
        ap (λ (node : ℕ). node_measure checked node (length (supply_labels c.args.supply))) right,
      ),
      (
        subst (λ (node : ℕ). IsReachedIn counts node) (sym right) c.requires.reached,
        (
          c.requires.asked,
          (
            c.requires.unlabelled,
            subst (λ (node : ℕ). IsIn c.deref.result.now (listing_on checked node (supply_labels c.args.supply))) (sym right)
                (subst (λ (s : Structure). IsIn s (listing_on checked (right_node checked.rules c.args.sym) (supply_labels c.args.supply))) (sym c.deref.ensures) there),
          ),
        ),
      ),
    )

pub behind::behind_rule-returns-in-Epsilon : goal.behind::behind_rule-returns-in-Epsilon
behind::behind_rule-returns-in-Epsilon t c =
    let counts = c.args.counted.now in
    let checked = counts.checked in
    let is = right_read c.grammar-grammar.result.now checked c.args.sym c.rule_node-right.result c.kind.result c.kind.result
    c.grammar-grammar.ensures.value c.rule_node-right.ensures.value c.kind.ensures refl in
    none_behind_lone counts (rule_on checked c.args.sym (supply_labels c.args.supply)) c.args.s.now
    (few_of_rule checked c.grammar-grammar.ensures.kept.passed (supply_labels c.args.supply) (asked_supply counts c.args.supply c.requires.asked) c.args.sym c.kind.result c.requires.low c.requires.high is c.in-Epsilon.is)
    c.requires.one

-- behind the structure that the code reads, of the node that it reads
right_behind : (counts : Counts) (node right : ℕ) (u : List ℕ) (read inside : Structure) (opened : Option (Later × Structure)) → node ≡ right → read ≡ inside
    → OpensBehind counts (listing_on counts.checked node u) read opened → OpensBehind counts (listing_on counts.checked right u) inside opened
right_behind counts node right u read inside opened same is behind =
    subst (λ (s : Structure). OpensBehind counts (listing_on counts.checked right u) s opened) is
    (subst (λ (m : ℕ). OpensBehind counts (listing_on counts.checked m u) read opened) same behind)

pub behind::behind_rule-returns-in_default-2 : goal.behind::behind_rule-returns-in_default-2
behind::behind_rule-returns-in_default-2 t c =
    let counts = c.args.counted.now in
    let checked = counts.checked in
    let ok = c.grammar-grammar.ensures.kept in
    let right : c.rule_node-right.result ≡ right_node checked.rules c.args.sym =
    node_of_rule c.grammar-grammar.result.now checked c.args.sym c.rule_node-right.result c.grammar-grammar.ensures.value c.rule_node-right.ensures.value in
    let is = right_read c.grammar-grammar.result.now checked c.args.sym c.rule_node-right.result c.kind.result c.kind.result
    c.grammar-grammar.ensures.value c.rule_node-right.ensures.value c.kind.ensures refl in
    let whole : Named c.in-Named.field-0 c.in-Named.inside.value ≡ c.args.s.now = ap structure_of (sym c.in-Named.is) ∙ c.s.view_is in
    none_behind_named counts ok c.args.sym c.args.supply c.kind.result c.requires.asked c.requires.low c.requires.high is (no_word c.kind.result c.in-Rule.is) c.args.s.now c.requires.one
    c.in-Named.field-0 c.in-Named.inside.value whole
    (right_behind counts c.rule_node-right.result (right_node checked.rules c.args.sym) (supply_labels c.args.supply) c.deref.result.now c.in-Named.inside.value None right c.deref.ensures
    (rw c.in_default-2.is at c.in_ok-later-in-Rule.ensures))

pub behind::behind_rule-returns-in_ok-next-in-Rule : goal.behind::behind_rule-returns-in_ok-next-in-Rule
behind::behind_rule-returns-in_ok-next-in-Rule t c =
    let counts = c.args.counted.now in
    let checked = counts.checked in
    let ok = c.grammar-grammar.ensures.kept in
    let right : c.rule_node-right.result ≡ right_node checked.rules c.args.sym =
    node_of_rule c.grammar-grammar.result.now checked c.args.sym c.rule_node-right.result c.grammar-grammar.ensures.value c.rule_node-right.ensures.value in
    let is = right_read c.grammar-grammar.result.now checked c.args.sym c.rule_node-right.result c.kind.result c.kind.result
    c.grammar-grammar.ensures.value c.rule_node-right.ensures.value c.kind.ensures refl in
    let whole : Named c.in-Named.field-0 c.in-Named.inside.value ≡ c.args.s.now = ap structure_of (sym c.in-Named.is) ∙ c.s.view_is in
    subst (λ (s : Structure). OpensBehind counts (rule_on checked c.args.sym (supply_labels c.args.supply)) c.args.s.now (Some (c.in-Some.later, Named c.args.sym s))) (sym c.in_ok-next-in-Rule.ensures.ok)
    (behind_named counts ok c.args.sym c.args.supply c.kind.result c.requires.asked c.requires.low c.requires.high is (no_word c.kind.result c.in-Rule.is) c.args.s.now c.requires.one
    c.in-Named.field-0 c.in-Named.inside.value whole c.in-Some.later c.in-Some.next
    (right_behind counts c.rule_node-right.result (right_node checked.rules c.args.sym) (supply_labels c.args.supply) c.deref.result.now c.in-Named.inside.value (Some (c.in-Some.later, c.in-Some.next)) right c.deref.ensures
    (rw c.in-Some.is at c.in_ok-later-in-Rule.ensures)))

-- ---- one split

pub behind::behind_split-returns-in-Some : goal.behind::behind_split-returns-in-Some
behind::behind_split-returns-in-Some t c =
    let counts = c.args.counted.now in
    let component = c.at-component.result.now in
    let off : drop c.args.place c.args.parts.now ≡ c.at-component.result.now ∷ drop (c.args.place + 1) c.args.parts.now = drop_at c.args.parts.now c.args.place c.at-component.result.now c.at-component.ensures in
    let put : c.push.new.self ≡ c.args.components.now ++ c.at-component.result.now ∷ [] = c.in_ok-push.ensures.ok ∙ ap (λ s. c.args.components.now ++ s ∷ []) c.in_ok-copied.ensures in
    others_found counts (listing_on counts.checked c.args.cut.first (supply Unlabelled c.args.taken)) (tail_on counts.checked c.args.cut.behind (supply Unlabelled c.args.left)) (drop c.args.place c.args.parts.now)
    c.at-component.result.now (drop (c.args.place + 1) c.args.parts.now) off c.args.components.now c.push.new.self put c.in_ok-first.first c.in-Some.others c.behind_lists.new.components c.in_ok-first.ensures
    (rw c.in-Some.is at c.in_ok-found.ensures)

pub behind::behind_split-returns-in_default-2 : goal.behind::behind_split-returns-in_default-2
behind::behind_split-returns-in_default-2 t c =
    let counts = c.args.counted.now in
    let off : drop c.args.place c.args.parts.now ≡ c.at-component.result.now ∷ drop (c.args.place + 1) c.args.parts.now = drop_at c.args.parts.now c.args.place c.at-component.result.now c.at-component.ensures in
    let put : c.push.new.self ≡ c.args.components.now ++ c.at-component.result.now ∷ [] = c.in_ok-push.ensures.ok ∙ ap (λ s. c.args.components.now ++ s ∷ []) c.in_ok-copied.ensures in
    let none : OpensBehindList counts (tail_on counts.checked c.args.cut.behind (supply Unlabelled c.args.left)) (drop (c.args.place + 1) c.args.parts.now) c.push.new.self c.behind_lists.new.components None =
    rw c.in_default.is at c.in_ok-found.ensures in
    none_found counts (listing_on counts.checked c.args.cut.first (supply Unlabelled c.args.taken)) (tail_on counts.checked c.args.cut.behind (supply Unlabelled c.args.left)) (drop c.args.place c.args.parts.now)
    c.at-component.result.now (drop (c.args.place + 1) c.args.parts.now) off c.args.components.now c.push.new.self put c.behind_lists.new.components c.pop.new.self
    (popped_off c.args.components.now c.push.new.self c.behind_lists.new.components c.pop.new.self c.at-component.result.now c.pop.result put (kept_there counts (tail_on counts.checked c.args.cut.behind (supply Unlabelled c.args.left))
    (drop (c.args.place + 1) c.args.parts.now) c.push.new.self c.behind_lists.new.components none) c.pop.ensures.some c.pop.ensures.none)
    none (rw c.in_default-2.is at c.in_ok-first-2.ensures)

pub behind::behind_split-returns : goal.behind::behind_split-returns
behind::behind_split-returns t c =
    let counts = c.args.counted.now in
    let off : drop c.args.place c.args.parts.now ≡ c.at-component.result.now ∷ drop (c.args.place + 1) c.args.parts.now = drop_at c.args.parts.now c.args.place c.at-component.result.now c.at-component.ensures in
    let put : c.push.new.self ≡ c.args.components.now ++ c.at-component.result.now ∷ [] = c.in_ok-push.ensures.ok ∙ ap (λ s. c.args.components.now ++ s ∷ []) c.in_ok-copied.ensures in
    let none : OpensBehindList counts (tail_on counts.checked c.args.cut.behind (supply Unlabelled c.args.left)) (drop (c.args.place + 1) c.args.parts.now) c.push.new.self c.behind_lists.new.components None =
    rw c.in_default.is at c.in_ok-found.ensures in
    first_found counts (listing_on counts.checked c.args.cut.first (supply Unlabelled c.args.taken)) (tail_on counts.checked c.args.cut.behind (supply Unlabelled c.args.left)) (drop c.args.place c.args.parts.now)
    c.at-component.result.now (drop (c.args.place + 1) c.args.parts.now) off c.args.components.now c.push.new.self put c.behind_lists.new.components c.pop.new.self
    (popped_off c.args.components.now c.push.new.self c.behind_lists.new.components c.pop.new.self c.at-component.result.now c.pop.result put (kept_there counts (tail_on counts.checked c.args.cut.behind (supply Unlabelled c.args.left))
    (drop (c.args.place + 1) c.args.parts.now) c.push.new.self c.behind_lists.new.components none) c.pop.ensures.some c.pop.ensures.none)
    none c.in-Some-2.first c.in-Some-2.next c.in_ok-others.others c.push-2.new.self c.open_lists.new.components (rw c.in-Some-2.is at c.in_ok-first-2.ensures) c.in_ok-push-2.ensures.ok c.in_ok-others.ensures

-- ---- nodes

pub behind::open_behind-behind_components-requires : goal.behind::open_behind-behind_components-requires
behind::open_behind-behind_components-requires t c =
    let counts = c.args.counted.now in
    let checked = counts.checked in
    let ok = c.grammar-grammar.ensures.kept in
    let is : HasKind checked c.args.node told.Prod = kind_read c.grammar-grammar.result.now checked c.args.node c.kind.result told.Prod c.grammar-grammar.ensures.value c.kind.ensures c.in-Prod.is in
    let labels : supply_labels c.args.supply ≡ supply Unlabelled c.len-n.result = zeros_of counts c.args.supply c.len-n.result c.requires.asked c.requires.unlabelled c.len-n.ensures in
    let listed = nodes_are_listed.prod checked c.args.node (supply_labels c.args.supply) ok.passed (asked_supply counts c.args.supply c.requires.asked) is in (
      omega (
        arith,
        c.decreases,
        prod_down checked ok.passed c.args.node c.len-n.result (reached_within counts ok c.args.node c.requires.reached),
        ap (λ (m : ℕ). node_measure checked c.args.node m) c.len-n.ensures,
      ),
      (
        record { reached = c.requires.reached; prod = is; within = omega arith },
        (
          omega (arith, c.len-n.ensures, c.requires.asked.within),
          (
            c.requires.unlabelled,
            subst (λ (u : List ℕ). IsIn c.args.s.now (map product (later_on checked c.args.node 0 u))) labels (subst (λ (ss : List Structure). IsIn c.args.s.now ss) listed c.requires.one),
          ),
        ),
      ),
    )

pub behind::open_behind-behind_components-requires-in-Sequence : goal.behind::open_behind-behind_components-requires-in-Sequence
behind::open_behind-behind_components-requires-in-Sequence t c =
    let counts = c.args.counted.now in
    let checked = counts.checked in
    let ok = c.grammar-grammar.ensures.kept in
    let is : HasKind checked c.args.node told.Sequence =
    kind_read c.grammar-grammar.result.now checked c.args.node c.kind.result told.Sequence c.grammar-grammar.ensures.value c.kind.ensures c.in-Sequence.is in
    let child : slice_get (children_at checked.rules c.args.node) 0 ≡ Some c.child.result =
    subst (λ (g : Checked). slice_get (children_at g.rules c.args.node) 0 ≡ Some c.child.result) c.grammar-grammar.ensures.value c.child.ensures.value in
    let card : card_at checked.rules c.args.node ≡ Some c.card.result =
    subst (λ (g : Checked). card_at g.rules c.args.node ≡ Some c.card.result) c.grammar-grammar.ensures.value c.card.ensures in
    let labels : supply_labels c.args.supply ≡ supply Unlabelled c.len-n.result = zeros_of counts c.args.supply c.len-n.result c.requires.asked c.requires.unlabelled c.len-n.ensures in
    let listed = nodes_are_listed.sequence checked c.args.node c.child.result c.card.result (supply_labels c.args.supply) ok.passed
    (asked_supply counts c.args.supply c.requires.asked) is child card in (
      omega (
        arith,
        c.decreases,
        sequence_down checked ok.passed c.args.node c.child.result c.len-n.result c.card.result card,
        ap (λ (m : ℕ). node_measure checked c.args.node m) c.len-n.ensures,
      ),
      (
        record {
          reached = c.requires.reached;
          kind = inl is;
          child = child;
          below = λ own n its within. own_below counts c.args.node c.card.result own n card its within;
        },
        (
          omega (arith, c.len-n.ensures, c.requires.asked.within),
          (
            c.requires.unlabelled,
            subst (λ (u : List ℕ). IsIn c.args.s.now (map sequence (lists_on checked c.child.result c.card.result u))) labels (subst (λ (ss : List Structure). IsIn c.args.s.now ss) listed c.requires.one),
          ),
        ),
      ),
    )

pub behind::open_behind-behind_rule-requires : goal.behind::open_behind-behind_rule-requires
behind::open_behind-behind_rule-requires t c =
    let counts = c.args.counted.now in
    let checked = c.args.counted.now.checked in
    let ok = c.grammar-grammar.ensures.kept in
    let u = supply_labels c.args.supply in
    let supplied_by = asked_supply counts c.args.supply c.requires.asked in
    let is : HasKind checked c.args.node told.Rule = kind_read c.grammar-grammar.result.now checked c.args.node c.kind.result told.Rule
    c.grammar-grammar.ensures.value c.kind.ensures c.in-Rule.is in
    let found : option_and_then (symbol checked.rules) (name_at checked.rules c.args.node) ≡ Some c.sym.result =
    subst (λ (g : Checked). option_and_then (symbol g.rules) (name_at g.rules c.args.node) ≡ Some c.sym.result) c.grammar-grammar.ensures.value
    c.sym.ensures.value in
    let high : c.sym.result ≤ length checked.rules = subst (λ (g : Checked). c.sym.result ≤ length g.rules) c.grammar-grammar.ensures.value
    c.sym.ensures.high in
    let one : IsIn c.args.s.now (rule_on checked c.sym.result (supply_labels c.args.supply)) =
    subst (λ (ss : List Structure). IsIn c.args.s.now ss) (name_is_rule checked ok.passed c.args.node c.sym.result (supply_labels c.args.supply) (asked_supply counts c.args.supply c.requires.asked) is c.sym.ensures.low high
    found) c.requires.one in
    let right_there : 0 < number_of_node checked (right_node checked.rules c.sym.result) (length (supply_labels c.args.supply)) =
    subst (λ (m : ℕ). 0 < m) (listing_number checked ok.passed (right_node checked.rules c.sym.result) (supply_labels c.args.supply) (asked_supply counts c.args.supply c.requires.asked))
    (right_some checked ok.passed c.sym.result (supply_labels c.args.supply) (asked_supply counts c.args.supply c.requires.asked) c.sym.ensures.low high
    (one_there c.args.s.now (rule_on checked c.sym.result (supply_labels c.args.supply)) one)) in
    let down = rule_down checked ok.passed c.args.node c.sym.result (length (supply_labels c.args.supply)) is found (omega (arith, c.requires.asked.within, ok.small))
    right_there in (
      omega (arith, c.decreases, down),
      (c.sym.ensures.low, (high, (reached_rule counts ok c.args.node c.sym.result c.requires.reached is found, (c.requires.asked, (c.requires.unlabelled, one))))),
    )

pub behind::open_behind-child-requires-clause-within : goal.behind::open_behind-child-requires-clause-within
behind::open_behind-child-requires-clause-within t c =
    node_read c.args.counted.now c.grammar-grammar.result.now c.args.node c.grammar-grammar.ensures.value
    (reached_within c.args.counted.now c.grammar-grammar.ensures.kept c.args.node c.requires.reached)

pub behind::open_behind-returns-in-Epsilon : goal.behind::open_behind-returns-in-Epsilon
behind::open_behind-returns-in-Epsilon t c =
    let counts = c.args.counted.now in
    let is : HasKind counts.checked c.args.node c.kind.result = kind_read c.grammar-grammar.result.now counts.checked c.args.node c.kind.result c.kind.result c.grammar-grammar.ensures.value c.kind.ensures refl in
    none_behind_lone counts (listing_on counts.checked c.args.node (supply_labels c.args.supply)) c.args.s.now
    (few_of_word counts.checked c.grammar-grammar.ensures.kept.passed (supply_labels c.args.supply) (asked_supply counts c.args.supply c.requires.asked) c.args.node c.kind.result is c.in-Epsilon.is)
    c.requires.one

pub behind::open_behind-returns-in-Prod : goal.behind::open_behind-returns-in-Prod
behind::open_behind-returns-in-Prod t c =
    let counts = c.args.counted.now in
    let checked = counts.checked in
    let ok = c.grammar-grammar.ensures.kept in
    let is : HasKind checked c.args.node told.Prod = kind_read c.grammar-grammar.result.now checked c.args.node c.kind.result told.Prod c.grammar-grammar.ensures.value c.kind.ensures c.in-Prod.is in
    let labels : supply_labels c.args.supply ≡ supply Unlabelled c.len-n.result = zeros_of counts c.args.supply c.len-n.result c.requires.asked c.requires.unlabelled c.len-n.ensures in
    subst (λ (ss : List Structure). IfOk c.behind_components.result (OpensBehind counts ss c.args.s.now))
    (ap (λ (u : List ℕ). map product (later_on checked c.args.node 0 u)) (sym labels)
    ∙ sym (nodes_are_listed.prod checked c.args.node (supply_labels c.args.supply) ok.passed (asked_supply counts c.args.supply c.requires.asked) is)) c.behind_components.ensures

pub behind::open_behind-returns-in-Rule : goal.behind::open_behind-returns-in-Rule
behind::open_behind-returns-in-Rule t c =
    let counts = c.args.counted.now in
    let checked = c.args.counted.now.checked in
    let ok = c.grammar-grammar.ensures.kept in
    let is : HasKind checked c.args.node told.Rule = kind_read c.grammar-grammar.result.now checked c.args.node c.kind.result told.Rule
    c.grammar-grammar.ensures.value c.kind.ensures c.in-Rule.is in
    let found : option_and_then (symbol checked.rules) (name_at checked.rules c.args.node) ≡ Some c.sym.result =
    subst (λ (g : Checked). option_and_then (symbol g.rules) (name_at g.rules c.args.node) ≡ Some c.sym.result) c.grammar-grammar.ensures.value
    c.sym.ensures.value in
    let high : c.sym.result ≤ length checked.rules = subst (λ (g : Checked). c.sym.result ≤ length g.rules) c.grammar-grammar.ensures.value
    c.sym.ensures.high in
    subst (λ (ss : List Structure). IfOk c.behind_rule.result (OpensBehind counts ss c.args.s.now))
    (sym (name_is_rule checked ok.passed c.args.node c.sym.result (supply_labels c.args.supply) (asked_supply counts c.args.supply c.requires.asked) is c.sym.ensures.low high
    found)) c.behind_rule.ensures

pub behind::open_behind-returns-in-Sequence : goal.behind::open_behind-returns-in-Sequence
behind::open_behind-returns-in-Sequence t c =
    let counts = c.args.counted.now in
    let checked = counts.checked in
    let ok = c.grammar-grammar.ensures.kept in
    let is : HasKind checked c.args.node told.Sequence =
    kind_read c.grammar-grammar.result.now checked c.args.node c.kind.result told.Sequence c.grammar-grammar.ensures.value c.kind.ensures c.in-Sequence.is in
    let child : slice_get (children_at checked.rules c.args.node) 0 ≡ Some c.child.result =
    subst (λ (g : Checked). slice_get (children_at g.rules c.args.node) 0 ≡ Some c.child.result) c.grammar-grammar.ensures.value c.child.ensures.value in
    let card : card_at checked.rules c.args.node ≡ Some c.card.result =
    subst (λ (g : Checked). card_at g.rules c.args.node ≡ Some c.card.result) c.grammar-grammar.ensures.value c.card.ensures in
    let labels : supply_labels c.args.supply ≡ supply Unlabelled c.len-n.result = zeros_of counts c.args.supply c.len-n.result c.requires.asked c.requires.unlabelled c.len-n.ensures in
    subst (λ (ss : List Structure). IfOk c.behind_components-in-Sequence.result (OpensBehind counts ss c.args.s.now))
    (ap (λ (u : List ℕ). map sequence (lists_on checked c.child.result c.card.result u)) (sym labels)
    ∙ sym (nodes_are_listed.sequence checked c.args.node c.child.result c.card.result (supply_labels c.args.supply) ok.passed (asked_supply counts c.args.supply c.requires.asked) is child card))
    c.behind_components-in-Sequence.ensures

pub behind::open_behind-unreachable-requires : goal.behind::open_behind-unreachable-requires
behind::open_behind-unreachable-requires t c =
    let counts = c.args.counted.now in
    let checked = counts.checked in
    let ok = c.grammar-grammar.ensures.kept in
    let is : HasKind checked c.args.node told.Cycle =
    kind_read c.grammar-grammar.result.now checked c.args.node c.kind.result told.Cycle c.grammar-grammar.ensures.value c.kind.ensures c.in-Cycle.is in
    no_cycle checked ok.passed c.args.node is c.requires.unlabelled
