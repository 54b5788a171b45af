use Rattle.std.proofs.Common.{ℕ, ◌≡◌, ◌⊎◌, ◌+◌, ◌-◌, ◌<◌, ◌≤◌, List, ◌∷◌, length, map, drop, take, slice_get, true, Option, Some, None, inl, inr, refl, sym, ap, subst, ◌∙◌, arith}
use Rattle.std.specs.Option.{option_and_then}
use Rattle.std.specs.Prelude.{IfOk}
use Rattle.std.proofs.lemmas.List.{length-drop}
use Rattle.std.proofs.lemmas.Result.{IfOk-weaker}
use Rattle.lists.specs.Enumeration.{IsIn}
use Rattle.lists.proofs.Places.{drop_at}
use Rattle.spec_syntax.specs.Rules.{symbol, all_nodes}
use Rattle.spec_syntax.specs.declared.expr.Card.{Card}
use Rattle.spec_syntax.specs.Card.{is_within}
use Rattle.spec_syntax.specs.Nodes.{right_node, name_at, card_at, children_at}
use Rattle.spec_syntax.specs.declared.statement.Universe.TheVariants.{Labelled}
use Rattle.struct_model.specs.StructureView.{structure_of}
use Rattle.struct_model.specs.declared.tree.Form5.{Form5}
use Rattle.struct_model.specs.Structure.{Structure, Named, Alt, Tup, parts_of, nodes}
use Rattle.struct_model.specs.declared.supplies.Supply.{Supply}
use Rattle.struct_model.specs.SupplyView.{supply_labels}
use Rattle.well_founded.specs.Checked.{Checked}
use Rattle.well_founded.specs.declared.node.NodeKind.{NodeKind}
use Rattle.well_founded.specs.declared.node.NodeKind.TheVariants as told
use Rattle.listing_laws.specs.NodeListing.{HasKind, listing_on, rule_on}
use Rattle.listing_laws.proofs.NodeLemmas.{nodes_are_listed}
use Rattle.listing_laws.proofs.LeastNodes.{labelled_nodes_are_listed}
use Rattle.size_counts.specs.CountedView.{Counts, IsReachedIn}
use Rattle.struct_walk.specs.declared.later.Later.{Later}
use Rattle.struct_walk.specs.declared.sorted_tail.SortedTail.{SortedTail}
use Rattle.struct_walk.specs.Tails.{cut_of, tail_on, is_end}
use Rattle.struct_walk.specs.SortedTails.{IsSortedTail, sorted_from, behind_one, in_front}
use Rattle.struct_walk.specs.Stands.{IsAsked, IsSetOf}
use Rattle.struct_walk.specs.Opened.{Resumes}
use Rattle.struct_walk.specs.Resumed.{ResumesSorted}
use Rattle.struct_walk.proofs.StepNodes.{some_nodes, weight_of}
use Rattle.struct_walk.proofs.OpenLemmas.{asked_supply, rule_inside, name_is_rule, by_arguments, set_listed, set_kinds, own_below}
use Rattle.struct_walk.proofs.TailListings.{cycle_labelled}
use Rattle.struct_walk.proofs.ReachedNodes.{reached_within, reached_rule, reached_child}
use Rattle.struct_walk.proofs.ResumedNodes.{not_named, not_argument, word_resumes, word_rule_resumes, named_resumes, named_inside, argument_low, argument_high, argument_inside, argument_in_union}
use Rattle.struct_walk.proofs.ResumedLists.{not_components, components_in, components_resume, end_resumes, cut_stands, some_component, last_there, last_resumes, key_supplied, label_there, part_there, part_admitted, first_there, first_asked, rest_there, rest_asked, parts_resume}
use Rattle.struct_walk.proofs.ResumedSorted.{sorted_set, sorted_resume, in_front_of, behind_stands, element_reached, some_sorted, taken_high, taken_asked, taken_there, behind_there, level_resumes}
use Rattle.struct_walk.proofs.resume.+resuming.Goals as goal

-- ---- what the code reads

kind_read : (grammar checked : Checked) (node : ℕ) (k known : NodeKind) → grammar ≡ checked → HasKind grammar node k → k ≡ known
    → HasKind checked node known
kind_read grammar checked node k known same has is = subst (λ (g : Checked). HasKind g node known) same (has ∙ ap (λ kind. Some kind) is)

node_read : (counts : Counts) (grammar : Checked) (node : ℕ) → grammar ≡ counts.checked → node < length (all_nodes counts.checked.rules)
    → node < length (all_nodes grammar.rules)
node_read counts grammar node same within = subst (λ (g : Checked). node < length (all_nodes g.rules)) (sym same) within

cut_at : (counts : Counts) (n m : ℕ) → n ≡ m → (tail : _) (found : _) → found ≡ cut_of counts.checked tail n → cut_of counts.checked tail m ≡ found
cut_at counts n m same tail found is = ap (cut_of counts.checked tail) (sym same) ∙ sym is

same_card : (card own : Card) → Some card ≡ Some own → card ≡ own
same_card card own same = cc

-- some item stands from the place on
place_within : {X : Type 0} (xs : List X) (place : ℕ) → 0 < length (drop place xs) → place < length xs
place_within xs place some = omega (arith, length-drop place xs)

-- ---- resume

pub resume-resume_rule-requires : goal.resume-resume_rule-requires
resume-resume_rule-requires t c =
    let counts = c.args.counted.now in
    let checked = counts.checked in
    let ok = c.grammar-grammar.ensures.kept in
    let is : HasKind checked c.args.node told.Rule = kind_read c.grammar-grammar.result.now checked c.args.node c.kind.result told.Rule
    c.grammar-grammar.ensures.value c.kind.ensures c.in-Rule.is in
    let found : option_and_then (symbol checked.rules) (name_at checked.rules c.args.node) ≡ Some c.sym.result =
    subst (λ (g : Checked). option_and_then (symbol g.rules) (name_at g.rules c.args.node) ≡ Some c.sym.result) c.grammar-grammar.ensures.value
    c.sym.ensures.value in
    let high : c.sym.result ≤ length checked.rules = subst (λ (g : Checked). c.sym.result ≤ length g.rules) c.grammar-grammar.ensures.value
    c.sym.ensures.high in
    let there : IsIn c.args.s.now (rule_on checked c.sym.result (supply_labels c.args.supply)) =
    subst (λ (ss : List Structure). IsIn c.args.s.now ss)
    (name_is_rule checked ok.passed c.args.node c.sym.result (supply_labels c.args.supply) (asked_supply counts c.args.supply c.requires.asked) is c.sym.ensures.low high found)
    c.requires.one in (
      omega (arith, c.decreases),
      (c.sym.ensures.low, (high, (reached_rule counts ok c.args.node c.sym.result c.requires.reached is found, (c.requires.asked, there)))),
    )

pub resume-returns-in-Rule : goal.resume-returns-in-Rule
resume-returns-in-Rule t c =
    let counts = c.args.counted.now in
    let checked = counts.checked in
    let ok = c.grammar-grammar.ensures.kept in
    let is : HasKind checked c.args.node told.Rule = kind_read c.grammar-grammar.result.now checked c.args.node c.kind.result told.Rule
    c.grammar-grammar.ensures.value c.kind.ensures c.in-Rule.is in
    let found : option_and_then (symbol checked.rules) (name_at checked.rules c.args.node) ≡ Some c.sym.result =
    subst (λ (g : Checked). option_and_then (symbol g.rules) (name_at g.rules c.args.node) ≡ Some c.sym.result) c.grammar-grammar.ensures.value
    c.sym.ensures.value in
    let high : c.sym.result ≤ length checked.rules = subst (λ (g : Checked). c.sym.result ≤ length g.rules) c.grammar-grammar.ensures.value
    c.sym.ensures.high in
    subst (λ (ss : List Structure). IfOk c.resume_rule.result (Resumes counts ss c.args.s.now))
    (sym (name_is_rule checked ok.passed c.args.node c.sym.result (supply_labels c.args.supply) (asked_supply counts c.args.supply c.requires.asked) is c.sym.ensures.low high found))
    c.resume_rule.ensures

pub resume-returns-in-Epsilon : goal.resume-returns-in-Epsilon
resume-returns-in-Epsilon t c =
    let counts = c.args.counted.now in
    let is : HasKind counts.checked c.args.node c.kind.result = kind_read c.grammar-grammar.result.now counts.checked c.args.node c.kind.result c.kind.result
    c.grammar-grammar.ensures.value c.kind.ensures refl in
    word_resumes counts c.grammar-grammar.ensures.kept c.args.supply c.requires.asked c.kind.result c.args.s.now c.args.node is c.in-Epsilon.is c.requires.one

pub resume-resume_components-requires : goal.resume-resume_components-requires
resume-resume_components-requires t c =
    let counts = c.args.counted.now in
    let checked = counts.checked in
    let is : HasKind checked c.args.node told.Prod = kind_read c.grammar-grammar.result.now checked c.args.node c.kind.result told.Prod
    c.grammar-grammar.ensures.value c.kind.ensures c.in-Prod.is in
    let listed = nodes_are_listed.prod checked c.args.node (supply_labels c.args.supply) c.grammar-grammar.ensures.kept.passed (asked_supply counts c.args.supply c.requires.asked) is in (
      omega (arith, c.decreases),
      (
        record { reached = c.requires.reached; prod = is; within = omega arith },
        (c.requires.asked, subst (λ (ss : List Structure). IsIn c.args.s.now ss) listed c.requires.one),
      ),
    )

pub resume-returns-in-Prod : goal.resume-returns-in-Prod
resume-returns-in-Prod t c =
    let counts = c.args.counted.now in
    let checked = counts.checked in
    let is : HasKind checked c.args.node told.Prod = kind_read c.grammar-grammar.result.now checked c.args.node c.kind.result told.Prod
    c.grammar-grammar.ensures.value c.kind.ensures c.in-Prod.is in
    subst (λ (ss : List Structure). IfOk c.resume_components.result (Resumes counts ss c.args.s.now))
    (sym (nodes_are_listed.prod checked c.args.node (supply_labels c.args.supply) c.grammar-grammar.ensures.kept.passed (asked_supply counts c.args.supply c.requires.asked) is))
    c.resume_components.ensures

pub resume-child-requires-clause-within : goal.resume-child-requires-clause-within
resume-child-requires-clause-within t c =
    node_read c.args.counted.now c.grammar-grammar.result.now c.args.node c.grammar-grammar.ensures.value
    (reached_within c.args.counted.now c.grammar-grammar.ensures.kept c.args.node c.requires.reached)

pub resume-resume_components-requires-in-Sequence :
    goal.resume-resume_components-requires-in-Sequence
resume-resume_components-requires-in-Sequence t c =
    let counts = c.args.counted.now in
    let checked = counts.checked in
    let is : HasKind checked c.args.node told.Sequence =
    kind_read c.grammar-grammar.result.now checked c.args.node c.kind.result told.Sequence c.grammar-grammar.ensures.value c.kind.ensures c.in-Sequence.is in
    let child : slice_get (children_at checked.rules c.args.node) 0 ≡ Some c.child.result =
    subst (λ (g : Checked). slice_get (children_at g.rules c.args.node) 0 ≡ Some c.child.result) c.grammar-grammar.ensures.value c.child.ensures.value in
    let card : card_at checked.rules c.args.node ≡ Some c.card.result =
    subst (λ (g : Checked). card_at g.rules c.args.node ≡ Some c.card.result) c.grammar-grammar.ensures.value c.card.ensures in
    let listed = nodes_are_listed.sequence checked c.args.node c.child.result c.card.result (supply_labels c.args.supply) c.grammar-grammar.ensures.kept.passed
    (asked_supply counts c.args.supply c.requires.asked) is child card in (
      omega (arith, c.decreases),
      (
        record {
          reached = c.requires.reached;
          kind = inl is;
          child = child;
          below = λ own n its within. subst
              (λ (b : Card). is_within b.high n ≡ true) (same_card c.card.result own (sym card ∙ its)) within;
        },
        (c.requires.asked, subst (λ (ss : List Structure). IsIn c.args.s.now ss) listed c.requires.one),
      ),
    )

pub resume-returns-in-Sequence : goal.resume-returns-in-Sequence
resume-returns-in-Sequence t c =
    let counts = c.args.counted.now in
    let checked = counts.checked in
    let is : HasKind checked c.args.node told.Sequence =
    kind_read c.grammar-grammar.result.now checked c.args.node c.kind.result told.Sequence c.grammar-grammar.ensures.value c.kind.ensures c.in-Sequence.is in
    let child : slice_get (children_at checked.rules c.args.node) 0 ≡ Some c.child.result =
    subst (λ (g : Checked). slice_get (children_at g.rules c.args.node) 0 ≡ Some c.child.result) c.grammar-grammar.ensures.value c.child.ensures.value in
    let card : card_at checked.rules c.args.node ≡ Some c.card.result =
    subst (λ (g : Checked). card_at g.rules c.args.node ≡ Some c.card.result) c.grammar-grammar.ensures.value c.card.ensures in
    subst (λ (ss : List Structure). IfOk c.resume_components-in-Sequence.result (Resumes counts ss c.args.s.now))
    (sym (nodes_are_listed.sequence checked c.args.node c.child.result c.card.result (supply_labels c.args.supply) c.grammar-grammar.ensures.kept.passed
    (asked_supply counts c.args.supply c.requires.asked) is child card)) c.resume_components-in-Sequence.ensures

pub resume-resume_components-requires-in-Cycle : goal.resume-resume_components-requires-in-Cycle
resume-resume_components-requires-in-Cycle t c =
    let counts = c.args.counted.now in
    let checked = counts.checked in
    let ok = c.grammar-grammar.ensures.kept in
    let is : HasKind checked c.args.node told.Cycle =
    kind_read c.grammar-grammar.result.now checked c.args.node c.kind.result told.Cycle c.grammar-grammar.ensures.value c.kind.ensures c.in-Cycle.is in
    let child : slice_get (children_at checked.rules c.args.node) 0 ≡ Some c.child-in-Cycle.result =
    subst (λ (g : Checked). slice_get (children_at g.rules c.args.node) 0 ≡ Some c.child-in-Cycle.result) c.grammar-grammar.ensures.value c.child-in-Cycle.ensures.value in
    let card : card_at checked.rules c.args.node ≡ Some c.card-in-Cycle.result =
    subst (λ (g : Checked). card_at g.rules c.args.node ≡ Some c.card-in-Cycle.result) c.grammar-grammar.ensures.value c.card-in-Cycle.ensures in
    let labelled = cycle_labelled checked ok.passed c.args.node c.child-in-Cycle.result is child in
    let listed = labelled_nodes_are_listed.cycle_node checked c.args.node c.child-in-Cycle.result c.card-in-Cycle.result (supply_labels c.args.supply) ok.passed labelled
    (asked_supply counts c.args.supply c.requires.asked) is child card in (
      omega (arith, c.decreases),
      (
        record { labelled = labelled; reached = c.requires.reached; cycle = is; child = child; own = card },
        (c.requires.asked, subst (λ (ss : List Structure). IsIn c.args.s.now ss) listed c.requires.one),
      ),
    )

pub resume-returns-in-Cycle : goal.resume-returns-in-Cycle
resume-returns-in-Cycle t c =
    let counts = c.args.counted.now in
    let checked = counts.checked in
    let ok = c.grammar-grammar.ensures.kept in
    let is : HasKind checked c.args.node told.Cycle =
    kind_read c.grammar-grammar.result.now checked c.args.node c.kind.result told.Cycle c.grammar-grammar.ensures.value c.kind.ensures c.in-Cycle.is in
    let child : slice_get (children_at checked.rules c.args.node) 0 ≡ Some c.child-in-Cycle.result =
    subst (λ (g : Checked). slice_get (children_at g.rules c.args.node) 0 ≡ Some c.child-in-Cycle.result) c.grammar-grammar.ensures.value c.child-in-Cycle.ensures.value in
    let card : card_at checked.rules c.args.node ≡ Some c.card-in-Cycle.result =
    subst (λ (g : Checked). card_at g.rules c.args.node ≡ Some c.card-in-Cycle.result) c.grammar-grammar.ensures.value c.card-in-Cycle.ensures in
    subst (λ (ss : List Structure). IfOk c.resume_components-in-Cycle.result (Resumes counts ss c.args.s.now))
    (sym (labelled_nodes_are_listed.cycle_node checked c.args.node c.child-in-Cycle.result c.card-in-Cycle.result (supply_labels c.args.supply) ok.passed
    (cycle_labelled checked ok.passed c.args.node c.child-in-Cycle.result is child) (asked_supply counts c.args.supply c.requires.asked) is child card))
    c.resume_components-in-Cycle.ensures

pub resume-resume_set-requires : goal.resume-resume_set-requires
resume-resume_set-requires t c =
    let is : HasKind c.args.counted.now.checked c.args.node told.Set =
    kind_read c.grammar-grammar.result.now c.args.counted.now.checked c.args.node c.kind.result told.Set c.grammar-grammar.ensures.value c.kind.ensures c.in-Set.is in (
      omega (arith, c.decreases),
      (c.requires.reached, (inl (is, refl), (c.requires.asked, c.requires.one))),
    )

pub resume-resume_set-requires-in-PowerSet : goal.resume-resume_set-requires-in-PowerSet
resume-resume_set-requires-in-PowerSet t c =
    let is : HasKind c.args.counted.now.checked c.args.node told.PowerSet =
    kind_read c.grammar-grammar.result.now c.args.counted.now.checked c.args.node c.kind.result told.PowerSet c.grammar-grammar.ensures.value c.kind.ensures c.in-PowerSet.is in (
      omega (arith, c.decreases),
      (c.requires.reached, (inr (is, refl), (c.requires.asked, c.requires.one))),
    )

-- ---- resume_components

pub resume_components-unreachable-requires : goal.resume_components-unreachable-requires
resume_components-unreachable-requires t c =
    not_components c.s.inside.shape c.args.form (tail_on c.args.counted.now.checked c.args.tail (supply_labels c.args.supply)) c.args.s.now c.s.view_is c.requires.one c.in_default.not-Tup

pub resume_components-resume_lists-requires : goal.resume_components-resume_lists-requires
resume_components-resume_lists-requires t c =
    let is : Tup c.in-Tup.field-0 (parts_of c.in-Tup.parts) ≡ c.args.s.now = ap structure_of (sym c.in-Tup.is) ∙ c.s.view_is in (
      omega (arith, c.decreases, ap nodes is),
      (
        c.requires.tail,
        (
          c.requires.asked,
          (components_in c.args.form c.in-Tup.field-0 (tail_on c.args.counted.now.checked c.args.tail (supply_labels c.args.supply)) c.in-Tup.parts c.args.s.now is c.requires.one).0,
        ),
      ),
    )

pub resume_components-returns : goal.resume_components-returns
resume_components-returns t c =
    let is : Tup c.in-Tup.field-0 (parts_of c.in-Tup.parts) ≡ c.args.s.now = ap structure_of (sym c.in-Tup.is) ∙ c.s.view_is in
    components_resume c.args.counted.now c.args.form c.in-Tup.field-0 (tail_on c.args.counted.now.checked c.args.tail (supply_labels c.args.supply)) c.in-Tup.parts c.args.s.now
    c.in_ok-lists.lists c.in_ok-lists-2.lists.value _ is
    (components_in c.args.form c.in-Tup.field-0 (tail_on c.args.counted.now.checked c.args.tail (supply_labels c.args.supply)) c.in-Tup.parts c.args.s.now is c.requires.one).1
    c.in_ok-lists-2.ensures.ok c.in_ok-lists.ensures

-- ---- resume_lists

pub resume_lists-returns-in_default : goal.resume_lists-returns-in_default
resume_lists-returns-in_default t c =
    end_resumes c.args.counted.now c.grammar.ensures.kept c.args.tail c.args.supply c.requires.tail c.requires.asked (drop c.args.place c.args.parts.now) c.requires.one
    (cut_at c.args.counted.now c.len-n.result (length (supply_labels c.args.supply)) c.len-n.ensures c.args.tail None c.in_default.ensures)

pub resume_lists-is_end-requires : goal.resume_lists-is_end-requires
resume_lists-is_end-requires t c =
    (cut_stands c.args.counted.now c.grammar.ensures.kept c.args.tail c.args.supply c.requires.tail c.requires.asked (drop c.args.place c.args.parts.now) c.requires.one c.in-Some.cut
    (cut_at c.args.counted.now c.len-n.result (length (supply_labels c.args.supply)) c.len-n.ensures c.args.tail (Some c.in-Some.cut) c.in-Some.ensures)).behind

pub resume_lists-at-requires : goal.resume_lists-at-requires
resume_lists-at-requires t c =
    place_within c.args.parts.now c.args.place
    (some_component c.args.counted.now c.grammar.ensures.kept c.args.tail c.args.supply c.requires.tail c.requires.asked (drop c.args.place c.args.parts.now) c.requires.one c.in-Some.cut
    (cut_at c.args.counted.now c.len-n.result (length (supply_labels c.args.supply)) c.len-n.ensures c.args.tail (Some c.in-Some.cut) c.in-Some.ensures))

pub resume_lists-resume-requires : goal.resume_lists-resume-requires
resume_lists-resume-requires t c =
    let counts = c.args.counted.now in
    let ok = c.grammar.ensures.kept in
    let ss = drop c.args.place c.args.parts.now in
    let cuts : cut_of counts.checked c.args.tail (length (supply_labels c.args.supply)) ≡ Some c.in-Some.cut =
    cut_at counts c.len-n.result (length (supply_labels c.args.supply)) c.len-n.ensures c.args.tail (Some c.in-Some.cut) c.in-Some.ensures in
    let off : drop c.args.place c.args.parts.now ≡ c.at.result.now ∷ drop (c.args.place + 1) c.args.parts.now = drop_at c.args.parts.now c.args.place c.at.result.now c.at.ensures in
    let ends : is_end counts.checked c.in-Some.cut.behind ≡ true = sym c.is_end.ensures ∙ c.if-is_end.true in (
      omega (arith, c.decreases, weight_of (drop c.args.place c.args.parts.now) (drop (c.args.place + 1) c.args.parts.now) c.at.result.now off),
      (
        (cut_stands counts ok c.args.tail c.args.supply c.requires.tail c.requires.asked ss c.requires.one c.in-Some.cut cuts).first,
        (
          c.requires.asked,
          last_there counts ok c.args.tail c.args.supply c.requires.tail c.requires.asked ss c.requires.one c.in-Some.cut cuts c.at.result.now (drop (c.args.place + 1) c.args.parts.now) off ends,
        ),
      ),
    )

pub resume_lists-returns-then-is_end : goal.resume_lists-returns-then-is_end
resume_lists-returns-then-is_end t c =
    let counts = c.args.counted.now in
    let cuts : cut_of counts.checked c.args.tail (length (supply_labels c.args.supply)) ≡ Some c.in-Some.cut =
    cut_at counts c.len-n.result (length (supply_labels c.args.supply)) c.len-n.ensures c.args.tail (Some c.in-Some.cut) c.in-Some.ensures in
    let off : drop c.args.place c.args.parts.now ≡ c.at.result.now ∷ drop (c.args.place + 1) c.args.parts.now = drop_at c.args.parts.now c.args.place c.at.result.now c.at.ensures in
    let ends : is_end counts.checked c.in-Some.cut.behind ≡ true = sym c.is_end.ensures ∙ c.if-is_end.true in
    last_resumes counts c.grammar.ensures.kept c.args.tail c.args.supply c.requires.tail c.requires.asked (drop c.args.place c.args.parts.now) c.requires.one c.in-Some.cut cuts
    c.at.result.now (drop (c.args.place + 1) c.args.parts.now) off ends c.in_ok-later.later c.in_ok-later.ensures

pub resume_lists-prove-unreachable-requires : goal.resume_lists-prove-unreachable-requires
resume_lists-prove-unreachable-requires t c =
    let below = place_within c.args.parts.now c.args.place
    (some_component c.args.counted.now c.grammar.ensures.kept c.args.tail c.args.supply c.requires.tail c.requires.asked (drop c.args.place c.args.parts.now) c.requires.one c.in-Some.cut
    (cut_at c.args.counted.now c.len-n.result (length (supply_labels c.args.supply)) c.len-n.ensures c.args.tail (Some c.in-Some.cut) c.in-Some.ensures)) in
    omega (arith, below, c.len-count.ensures)

pub resume_lists-admitted_lengths-requires-clause-behind :
    goal.resume_lists-admitted_lengths-requires-clause-behind
resume_lists-admitted_lengths-requires-clause-behind t c =
    (cut_stands c.args.counted.now c.grammar.ensures.kept c.args.tail c.args.supply c.requires.tail c.requires.asked (drop c.args.place c.args.parts.now) c.requires.one c.in-Some.cut
    (cut_at c.args.counted.now c.len-n.result (length (supply_labels c.args.supply)) c.len-n.ensures c.args.tail (Some c.in-Some.cut) c.in-Some.ensures)).behind

pub resume_lists-part_of-requires : goal.resume_lists-part_of-requires
resume_lists-part_of-requires t c =
    let counts = c.args.counted.now in
    let cuts : cut_of counts.checked c.args.tail (length (supply_labels c.args.supply)) ≡ Some c.in-Some.cut =
    cut_at counts c.len-n.result (length (supply_labels c.args.supply)) c.len-n.ensures c.args.tail (Some c.in-Some.cut) c.in-Some.ensures in
    let off : drop c.args.place c.args.parts.now ≡ c.at-2.result.now ∷ drop (c.args.place + 1) c.args.parts.now = drop_at c.args.parts.now c.args.place c.at-2.result.now c.at-2.ensures in
    key_supplied counts c.grammar.ensures.kept c.args.tail c.args.supply c.requires.tail c.requires.asked (drop c.args.place c.args.parts.now) c.requires.one c.in-Some.cut cuts
    c.at-2.result.now (drop (c.args.place + 1) c.args.parts.now) off

pub resume_lists-remaining-requires-clause-part : goal.resume_lists-remaining-requires-clause-part
resume_lists-remaining-requires-clause-part t c =
    let counts = c.args.counted.now in
    let cuts : cut_of counts.checked c.args.tail (length (supply_labels c.args.supply)) ≡ Some c.in-Some.cut =
    cut_at counts c.len-n.result (length (supply_labels c.args.supply)) c.len-n.ensures c.args.tail (Some c.in-Some.cut) c.in-Some.ensures in
    let off : drop c.args.place c.args.parts.now ≡ c.at-2.result.now ∷ drop (c.args.place + 1) c.args.parts.now = drop_at c.args.parts.now c.args.place c.at-2.result.now c.at-2.ensures in
    part_there counts c.grammar.ensures.kept c.args.tail c.args.supply c.requires.tail c.requires.asked (drop c.args.place c.args.parts.now) c.requires.one c.in-Some.cut cuts
    c.at-2.result.now (drop (c.args.place + 1) c.args.parts.now) off c.in_ok-part.part c.in_ok-part.ensures.labels

pub resume_lists-admitted_lengths-requires-clause-first :
    goal.resume_lists-admitted_lengths-requires-clause-first
resume_lists-admitted_lengths-requires-clause-first t c =
    (cut_stands c.args.counted.now c.grammar.ensures.kept c.args.tail c.args.supply c.requires.tail c.requires.asked (drop c.args.place c.args.parts.now) c.requires.one c.in-Some.cut
    (cut_at c.args.counted.now c.len-n.result (length (supply_labels c.args.supply)) c.len-n.ensures c.args.tail (Some c.in-Some.cut) c.in-Some.ensures)).first

pub resume_lists-later_splits-requires-clause-part : goal.resume_lists-later_splits-requires-clause-part
resume_lists-later_splits-requires-clause-part t c =
    let counts = c.args.counted.now in
    let cuts : cut_of counts.checked c.args.tail (length (supply_labels c.args.supply)) ≡ Some c.in-Some.cut =
    cut_at counts c.len-n.result (length (supply_labels c.args.supply)) c.len-n.ensures c.args.tail (Some c.in-Some.cut) c.in-Some.ensures in
    let off : drop c.args.place c.args.parts.now ≡ c.at-2.result.now ∷ drop (c.args.place + 1) c.args.parts.now = drop_at c.args.parts.now c.args.place c.at-2.result.now c.at-2.ensures in
    part_admitted counts c.grammar.ensures.kept c.args.tail c.args.supply c.requires.tail c.requires.asked (drop c.args.place c.args.parts.now) c.requires.one c.in-Some.cut cuts
    c.at-2.result.now (drop (c.args.place + 1) c.args.parts.now) off c.in_ok-part.part c.in_ok-part.ensures.labels c.len-n.result c.in_ok-lengths.lengths.items c.len-n.ensures
    c.in_ok-lengths.ensures

pub resume_lists-later_splits-requires-clause-first : goal.resume_lists-later_splits-requires-clause-first
resume_lists-later_splits-requires-clause-first t c =
    label_there c.args.counted.now c.grammar.ensures.kept c.args.tail c.args.supply c.requires.tail c.requires.asked (drop c.args.place c.args.parts.now) c.requires.one c.in-Some.cut
    (cut_at c.args.counted.now c.len-n.result (length (supply_labels c.args.supply)) c.len-n.ensures c.args.tail (Some c.in-Some.cut) c.in-Some.ensures)

same_there : (xs : List Structure) (place : ℕ) (s t : Structure) → slice_get xs place ≡ Some s → slice_get xs place ≡ Some t → s ≡ t
same_there xs place s t one other = let same : Some s ≡ Some t = sym one ∙ other in cc

pub resume_lists-resume-requires-2 : goal.resume_lists-resume-requires-2
resume_lists-resume-requires-2 t c =
    let counts = c.args.counted.now in
    let ok = c.grammar.ensures.kept in
    let cuts : cut_of counts.checked c.args.tail (length (supply_labels c.args.supply)) ≡ Some c.in-Some.cut =
    cut_at counts c.len-n.result (length (supply_labels c.args.supply)) c.len-n.ensures c.args.tail (Some c.in-Some.cut) c.in-Some.ensures in
    let off : drop c.args.place c.args.parts.now ≡ c.at-2.result.now ∷ drop (c.args.place + 1) c.args.parts.now = drop_at c.args.parts.now c.args.place c.at-2.result.now c.at-2.ensures in
    let same = same_there c.args.parts.now c.args.place c.at-2.result.now c.at-3.result.now c.at-2.ensures c.at-3.ensures in (
      omega (arith, c.decreases, weight_of (drop c.args.place c.args.parts.now) (drop (c.args.place + 1) c.args.parts.now) c.at-2.result.now off, ap nodes same),
      (
        (cut_stands counts ok c.args.tail c.args.supply c.requires.tail c.requires.asked (drop c.args.place c.args.parts.now) c.requires.one c.in-Some.cut cuts).first,
        (
          first_asked counts ok c.args.tail c.args.supply c.requires.tail c.requires.asked (drop c.args.place c.args.parts.now) c.requires.one c.in-Some.cut cuts
              c.at-2.result.now (drop (c.args.place + 1) c.args.parts.now) off c.in_ok-part.part c.in_ok-part.ensures.labels c.in_ok-part.ensures.in_order c.in_ok-part.ensures.universe,
          subst (λ (s : Structure). IsIn s (listing_on counts.checked c.in-Some.cut.first (supply_labels c.in_ok-part.part))) same
              (first_there counts ok c.args.tail c.args.supply c.requires.tail c.requires.asked (drop c.args.place c.args.parts.now) c.requires.one c.in-Some.cut cuts
              c.at-2.result.now (drop (c.args.place + 1) c.args.parts.now) off c.in_ok-part.part c.in_ok-part.ensures.labels),
        ),
      ),
    )

pub resume_lists-resume_lists-requires : goal.resume_lists-resume_lists-requires
resume_lists-resume_lists-requires t c =
    let counts = c.args.counted.now in
    let ok = c.grammar.ensures.kept in
    let cuts : cut_of counts.checked c.args.tail (length (supply_labels c.args.supply)) ≡ Some c.in-Some.cut =
    cut_at counts c.len-n.result (length (supply_labels c.args.supply)) c.len-n.ensures c.args.tail (Some c.in-Some.cut) c.in-Some.ensures in
    let off : drop c.args.place c.args.parts.now ≡ c.at-2.result.now ∷ drop (c.args.place + 1) c.args.parts.now = drop_at c.args.parts.now c.args.place c.at-2.result.now c.at-2.ensures in (
      omega (arith, c.decreases, weight_of (drop c.args.place c.args.parts.now) (drop (c.args.place + 1) c.args.parts.now) c.at-2.result.now off, some_nodes c.at-2.result.now),
      (
        (cut_stands counts ok c.args.tail c.args.supply c.requires.tail c.requires.asked (drop c.args.place c.args.parts.now) c.requires.one c.in-Some.cut cuts).behind,
        (
          rest_asked counts ok c.args.tail c.args.supply c.requires.tail c.requires.asked (drop c.args.place c.args.parts.now) c.requires.one c.in-Some.cut cuts
              c.at-2.result.now (drop (c.args.place + 1) c.args.parts.now) off c.in_ok-part.part c.in_ok-part.ensures.labels c.in_ok-rest.rest c.in_ok-rest.ensures.rest
              c.in_ok-rest.ensures.in_order c.in_ok-rest.ensures.universe,
          rest_there counts ok c.args.tail c.args.supply c.requires.tail c.requires.asked (drop c.args.place c.args.parts.now) c.requires.one c.in-Some.cut cuts
              c.at-2.result.now (drop (c.args.place + 1) c.args.parts.now) off c.in_ok-part.part c.in_ok-part.ensures.labels c.in_ok-rest.rest c.in_ok-rest.ensures.rest,
        ),
      ),
    )

pub resume_lists-returns : goal.resume_lists-returns
resume_lists-returns t c =
    let counts = c.args.counted.now in
    let ok = c.grammar.ensures.kept in
    let cuts : cut_of counts.checked c.args.tail (length (supply_labels c.args.supply)) ≡ Some c.in-Some.cut =
    cut_at counts c.len-n.result (length (supply_labels c.args.supply)) c.len-n.ensures c.args.tail (Some c.in-Some.cut) c.in-Some.ensures in
    let off : drop c.args.place c.args.parts.now ≡ c.at-2.result.now ∷ drop (c.args.place + 1) c.args.parts.now = drop_at c.args.parts.now c.args.place c.at-2.result.now c.at-2.ensures in
    let same = same_there c.args.parts.now c.args.place c.at-2.result.now c.at-3.result.now c.at-2.ensures c.at-3.ensures in
    let of_rest : IsAsked counts c.in_ok-rest.rest =
    rest_asked counts ok c.args.tail c.args.supply c.requires.tail c.requires.asked (drop c.args.place c.args.parts.now) c.requires.one c.in-Some.cut cuts
    c.at-2.result.now (drop (c.args.place + 1) c.args.parts.now) off c.in_ok-part.part c.in_ok-part.ensures.labels c.in_ok-rest.rest c.in_ok-rest.ensures.rest
    c.in_ok-rest.ensures.in_order c.in_ok-rest.ensures.universe in
    let first : Resumes counts (listing_on counts.checked c.in-Some.cut.first (supply_labels c.in_ok-part.part)) c.at-2.result.now c.in_ok-first.first =
    subst (λ (s : Structure). Resumes counts (listing_on counts.checked c.in-Some.cut.first (supply_labels c.in_ok-part.part)) s c.in_ok-first.first) (sym same) c.in_ok-first.ensures in
    parts_resume counts ok c.args.tail c.args.supply c.requires.tail c.requires.asked (drop c.args.place c.args.parts.now) c.requires.one c.in-Some.cut cuts
    c.at-2.result.now (drop (c.args.place + 1) c.args.parts.now) off c.in_ok-part.part c.in_ok-part.ensures.labels c.in_ok-rest.rest c.in_ok-rest.ensures.rest
    c.len-n.result c.in_ok-lengths.lengths.items c.len-n.ensures c.in_ok-lengths.ensures c.in_ok-splits.splits c.in_ok-copy_supply.field-0 c.in_ok-level.level.value
    c.in_ok-splits.ensures.later c.in_ok-splits.ensures.universe c.in_ok-copy_supply.ensures c.in_ok-level.ensures.ok of_rest
    c.in_ok-first.first c.in_ok-others.others c.in_ok-others-2.others.value c.in_ok-others-2.ensures.ok first c.in_ok-others.ensures _ refl (λ stand. stand)

-- ---- resume_rule

node_of_rule : (grammar checked : Checked) (number right : ℕ) → grammar ≡ checked → right ≡ right_node grammar.rules number
    → right ≡ right_node checked.rules number
node_of_rule grammar checked number right same is = subst (λ (g : Checked). right ≡ right_node g.rules number) same is

right_read : (grammar checked : Checked) (number right : ℕ) (k : NodeKind) → grammar ≡ checked → right ≡ right_node grammar.rules number
    → HasKind grammar right k
    → HasKind checked (right_node checked.rules number) k
right_read grammar checked number right k same node has =
    subst (λ (n : ℕ). HasKind checked n k) (node_of_rule grammar checked number right same node) (kind_read grammar checked right k k same has refl)

-- the other kinds are no words
no_word : (k : NodeKind)
    → (k ≡ told.Rule) ⊎ ((k ≡ told.Union) ⊎ ((k ≡ told.Prod) ⊎ ((k ≡ told.Sequence) ⊎ ((k ≡ told.Set) ⊎ ((k ≡ told.PowerSet) ⊎ (k ≡ told.Cycle))))))
    → (k ≡ told.Epsilon → ⊥) × (k ≡ told.Atom → ⊥)
no_word k (inl is) = ((λ e. cc), (λ e. cc))
no_word k (inr (inl is)) = ((λ e. cc), (λ e. cc))
no_word k (inr (inr (inl is))) = ((λ e. cc), (λ e. cc))
no_word k (inr (inr (inr (inl is)))) = ((λ e. cc), (λ e. cc))
no_word k (inr (inr (inr (inr (inl is))))) = ((λ e. cc), (λ e. cc))
no_word k (inr (inr (inr (inr (inr (inl is)))))) = ((λ e. cc), (λ e. cc))
no_word k (inr (inr (inr (inr (inr (inr is)))))) = ((λ e. cc), (λ e. cc))

pub resume_rule-unreachable-requires : goal.resume_rule-unreachable-requires
resume_rule-unreachable-requires t c =
    let counts = c.args.counted.now in
    let checked = counts.checked in
    let is = right_read c.grammar-grammar.result.now checked c.args.sym c.rule_node-right.result c.kind.result
    c.grammar-grammar.ensures.value c.rule_node-right.ensures.value c.kind.ensures in
    let no = no_word c.kind.result c.in-Rule.is in
    let listed = rule_inside checked c.grammar-grammar.ensures.kept.passed c.kind.result c.args.sym (supply_labels c.args.supply) (asked_supply counts c.args.supply c.requires.asked)
    c.requires.low c.requires.high is no.0 no.1 in
    not_named c.s.inside.shape c.args.sym (listing_on checked (right_node checked.rules c.args.sym) (supply_labels c.args.supply)) c.args.s.now c.s.view_is
    (subst (λ (ss : List Structure). IsIn c.args.s.now ss) listed c.requires.one) c.in_default.not-Named

pub resume_rule-resume-requires : goal.resume_rule-resume-requires
resume_rule-resume-requires t c =
    let counts = c.args.counted.now in
    let checked = counts.checked in
    let ok = c.grammar-grammar.ensures.kept in
    let right : c.rule_node-right.result ≡ right_node checked.rules c.args.sym =
    node_of_rule c.grammar-grammar.result.now checked c.args.sym c.rule_node-right.result c.grammar-grammar.ensures.value c.rule_node-right.ensures.value in
    let is = right_read c.grammar-grammar.result.now checked c.args.sym c.rule_node-right.result c.kind.result
    c.grammar-grammar.ensures.value c.rule_node-right.ensures.value c.kind.ensures in
    let no = no_word c.kind.result c.in-Rule.is in
    let whole : Named c.in-Named.field-0 c.in-Named.inside.value ≡ c.args.s.now = ap structure_of (sym c.in-Named.is) ∙ c.s.view_is in
    let listed = rule_inside checked ok.passed c.kind.result c.args.sym (supply_labels c.args.supply) (asked_supply counts c.args.supply c.requires.asked) c.requires.low c.requires.high is no.0 no.1 in
    let inside = named_inside c.args.sym c.in-Named.field-0 (listing_on checked (right_node checked.rules c.args.sym) (supply_labels c.args.supply)) c.in-Named.inside.value c.args.s.now whole
    (subst (λ (ss : List Structure). IsIn c.args.s.now ss) listed c.requires.one) in (
      omega (arith, c.decreases, ap nodes whole, ap nodes c.deref.ensures),
      (
        subst (λ (node : ℕ). IsReachedIn counts node) (sym right) c.requires.reached,
        (
          c.requires.asked,
          subst (λ (node : ℕ). IsIn c.deref.result.now (listing_on checked node (supply_labels c.args.supply))) (sym right)
              (subst (λ (s : Structure). IsIn s (listing_on checked (right_node checked.rules c.args.sym) (supply_labels c.args.supply))) (sym c.deref.ensures) inside.0),
        ),
      ),
    )

pub resume_rule-returns-in-Epsilon : goal.resume_rule-returns-in-Epsilon
resume_rule-returns-in-Epsilon t c =
    let counts = c.args.counted.now in
    let is = right_read c.grammar-grammar.result.now counts.checked c.args.sym c.rule_node-right.result c.kind.result
    c.grammar-grammar.ensures.value c.rule_node-right.ensures.value c.kind.ensures in
    word_rule_resumes counts c.grammar-grammar.ensures.kept c.args.supply c.requires.asked c.kind.result c.args.s.now c.args.sym c.requires.low c.requires.high is c.in-Epsilon.is c.requires.one

pub resume_rule-returns-in-Named : goal.resume_rule-returns-in-Named
resume_rule-returns-in-Named t c =
    let counts = c.args.counted.now in
    let checked = counts.checked in
    let ok = c.grammar-grammar.ensures.kept in
    let right : c.rule_node-right.result ≡ right_node checked.rules c.args.sym =
    node_of_rule c.grammar-grammar.result.now checked c.args.sym c.rule_node-right.result c.grammar-grammar.ensures.value c.rule_node-right.ensures.value in
    let is = right_read c.grammar-grammar.result.now checked c.args.sym c.rule_node-right.result c.kind.result
    c.grammar-grammar.ensures.value c.rule_node-right.ensures.value c.kind.ensures in
    let no = no_word c.kind.result c.in-Rule.is in
    let whole : Named c.in-Named.field-0 c.in-Named.inside.value ≡ c.args.s.now = ap structure_of (sym c.in-Named.is) ∙ c.s.view_is in
    let listed = rule_inside checked ok.passed c.kind.result c.args.sym (supply_labels c.args.supply) (asked_supply counts c.args.supply c.requires.asked) c.requires.low c.requires.high is no.0 no.1 in
    let inside = named_inside c.args.sym c.in-Named.field-0 (listing_on checked (right_node checked.rules c.args.sym) (supply_labels c.args.supply)) c.in-Named.inside.value c.args.s.now whole
    (subst (λ (ss : List Structure). IsIn c.args.s.now ss) listed c.requires.one) in
    let named : Named c.args.sym c.deref.result.now ≡ c.args.s.now = (λ i. Named (sym inside.1 i) (c.deref.ensures i)) ∙ whole in
    subst (λ (s : Structure). IfOk c.resume.result (Resumes counts (rule_on checked c.args.sym (supply_labels c.args.supply)) s)) named
    (subst (λ (ss : List Structure). IfOk c.resume.result (Resumes counts ss (Named c.args.sym c.deref.result.now)))
    (ap (λ (node : ℕ). map (Named c.args.sym) (listing_on checked node (supply_labels c.args.supply))) right ∙ sym listed)
    (IfOk-weaker c.resume.result (Resumes counts (listing_on checked c.rule_node-right.result (supply_labels c.args.supply)) c.deref.result.now)
    (Resumes counts (map (Named c.args.sym) (listing_on checked c.rule_node-right.result (supply_labels c.args.supply))) (Named c.args.sym c.deref.result.now))
    (λ (later : Later) resumes. named_resumes counts c.args.sym (listing_on checked c.rule_node-right.result (supply_labels c.args.supply)) later c.deref.result.now resumes) c.resume.ensures))

-- ---- resume_set

tail_node : (counts : Counts) (supply : Supply) (n node : ℕ) (f : Form5) (tail : SortedTail) → tail.node ≡ node
    → listing_on counts.checked tail.node (supply_labels supply) ≡ map (λ ss. Tup f (parts_of ss)) (sorted_from counts.checked tail None n)
    → listing_on counts.checked node (supply_labels supply) ≡ map (λ ss. Tup f (parts_of ss)) (sorted_from counts.checked tail None n)
tail_node counts supply n node f tail same listed = ap (λ (m : ℕ). listing_on counts.checked m (supply_labels supply)) (sym same) ∙ listed

pub resume_set-sorted_tail-tail-requires-clause-unlabelled : goal.resume_set-sorted_tail-tail-requires-clause-unlabelled
resume_set-sorted_tail-tail-requires-clause-unlabelled t c = sym (ap (λ (g : Checked). g.universe) c.grammar-grammar.ensures.value) ∙ sym c.universe.ensures ∙ c.in-Unlabelled.is

pub resume_set-sorted_tail-tail-requires-clause-kind : goal.resume_set-sorted_tail-tail-requires-clause-kind
resume_set-sorted_tail-tail-requires-clause-kind t c = set_kinds c.args.counted.now.checked c.args.node c.args.form c.requires.set

pub resume_set-resume_sorted_components-requires :
    goal.resume_set-resume_sorted_components-requires
resume_set-resume_sorted_components-requires t c =
    let counts = c.args.counted.now in
    let checked = counts.checked in
    let tail = c.sorted_tail-tail.result in
    let node : c.sorted_tail-tail.result.node ≡ c.args.node = c.sorted_tail-tail.ensures.node in
    let own : card_at checked.rules c.sorted_tail-tail.result.node ≡ Some c.sorted_tail-tail.result.card =
    subst (λ (m : ℕ). card_at checked.rules m ≡ Some c.sorted_tail-tail.result.card) (sym node) c.sorted_tail-tail.ensures.card in
    let set = subst (λ (m : ℕ). IsSetOf checked m c.args.form) (sym node) c.requires.set in
    let listed = tail_node counts c.args.supply c.len.result c.args.node c.args.form tail node
    (sorted_set counts c.grammar-grammar.ensures.kept tail c.args.form c.args.supply c.len.result c.sorted_tail-tail.ensures.tail own set c.requires.asked c.len.ensures) in (
      omega (arith, c.decreases),
      (
        c.sorted_tail-tail.ensures.tail,
        (omega (arith, c.len.ensures, c.requires.asked.within), subst (λ (ss : List Structure). IsIn c.args.s.now ss) listed c.requires.one),
      ),
    )

pub resume_set-returns-in-Unlabelled : goal.resume_set-returns-in-Unlabelled
resume_set-returns-in-Unlabelled t c =
    let counts = c.args.counted.now in
    let checked = counts.checked in
    let tail = c.sorted_tail-tail.result in
    let node : c.sorted_tail-tail.result.node ≡ c.args.node = c.sorted_tail-tail.ensures.node in
    let own : card_at checked.rules c.sorted_tail-tail.result.node ≡ Some c.sorted_tail-tail.result.card =
    subst (λ (m : ℕ). card_at checked.rules m ≡ Some c.sorted_tail-tail.result.card) (sym node) c.sorted_tail-tail.ensures.card in
    let set = subst (λ (m : ℕ). IsSetOf checked m c.args.form) (sym node) c.requires.set in
    let listed = tail_node counts c.args.supply c.len.result c.args.node c.args.form tail node
    (sorted_set counts c.grammar-grammar.ensures.kept tail c.args.form c.args.supply c.len.result c.sorted_tail-tail.ensures.tail own set c.requires.asked c.len.ensures) in
    subst (λ (ss : List Structure). IfOk c.resume_sorted_components.result (Resumes counts ss c.args.s.now)) (sym listed) c.resume_sorted_components.ensures

pub resume_set-child-requires-clause-within : goal.resume_set-child-requires-clause-within
resume_set-child-requires-clause-within t c =
    node_read c.args.counted.now c.grammar-grammar.result.now c.args.node c.grammar-grammar.ensures.value
    (reached_within c.args.counted.now c.grammar-grammar.ensures.kept c.args.node c.requires.reached)

pub resume_set-resume_components-requires : goal.resume_set-resume_components-requires
resume_set-resume_components-requires t c =
    let counts = c.args.counted.now in
    let checked = counts.checked in
    let labelled : checked.universe ≡ Labelled =
    ap (λ (g : Checked). g.universe) (sym c.grammar-grammar.ensures.value) ∙ sym c.universe.ensures ∙ c.in-Labelled.is in
    let child : slice_get (children_at checked.rules c.args.node) 0 ≡ Some c.child.result =
    subst (λ (g : Checked). slice_get (children_at g.rules c.args.node) 0 ≡ Some c.child.result) c.grammar-grammar.ensures.value c.child.ensures.value in
    let card : card_at checked.rules c.args.node ≡ Some c.card.result =
    subst (λ (g : Checked). card_at g.rules c.args.node ≡ Some c.card.result) c.grammar-grammar.ensures.value c.card.ensures in
    let listed = set_listed counts c.grammar-grammar.ensures.kept c.args.supply c.args.node c.child.result c.card.result c.args.form c.requires.asked labelled c.requires.set child card in (
      omega (arith, c.decreases),
      (
        record {
          labelled = labelled;
          reached = c.requires.reached;
          kind = set_kinds checked c.args.node c.args.form c.requires.set;
          child = child;
          below = λ own n its within. own_below counts c.args.node c.card.result own n card its within;
        },
        (c.requires.asked, subst (λ (ss : List Structure). IsIn c.args.s.now ss) listed c.requires.one),
      ),
    )

pub resume_set-returns-in-Labelled : goal.resume_set-returns-in-Labelled
resume_set-returns-in-Labelled t c =
    let counts = c.args.counted.now in
    let checked = counts.checked in
    let labelled : checked.universe ≡ Labelled =
    ap (λ (g : Checked). g.universe) (sym c.grammar-grammar.ensures.value) ∙ sym c.universe.ensures ∙ c.in-Labelled.is in
    let child : slice_get (children_at checked.rules c.args.node) 0 ≡ Some c.child.result =
    subst (λ (g : Checked). slice_get (children_at g.rules c.args.node) 0 ≡ Some c.child.result) c.grammar-grammar.ensures.value c.child.ensures.value in
    let card : card_at checked.rules c.args.node ≡ Some c.card.result =
    subst (λ (g : Checked). card_at g.rules c.args.node ≡ Some c.card.result) c.grammar-grammar.ensures.value c.card.ensures in
    subst (λ (ss : List Structure). IfOk c.resume_components.result (Resumes counts ss c.args.s.now))
    (sym (set_listed counts c.grammar-grammar.ensures.kept c.args.supply c.args.node c.child.result c.card.result c.args.form c.requires.asked labelled c.requires.set child card))
    c.resume_components.ensures

-- ---- resume_sorted_components

pub resume_sorted_components-unreachable-requires :
    goal.resume_sorted_components-unreachable-requires
resume_sorted_components-unreachable-requires t c =
    not_components c.s.inside.shape c.args.form (sorted_from c.args.counted.now.checked c.args.tail None c.args.n) c.args.s.now c.s.view_is c.requires.one c.in_default.not-Tup

pub resume_sorted_components-resume_sorted-requires :
    goal.resume_sorted_components-resume_sorted-requires
resume_sorted_components-resume_sorted-requires t c =
    let is : Tup c.in-Tup.field-0 (parts_of c.in-Tup.parts) ≡ c.args.s.now = ap structure_of (sym c.in-Tup.is) ∙ c.s.view_is in (
      omega (arith, c.decreases, ap nodes is),
      (
        c.requires.tail,
        (
          c.requires.within,
          (components_in c.args.form c.in-Tup.field-0 (sorted_from c.args.counted.now.checked c.args.tail None c.args.n) c.in-Tup.parts c.args.s.now is c.requires.one).0,
        ),
      ),
    )

pub resume_sorted_components-returns : goal.resume_sorted_components-returns
resume_sorted_components-returns t c =
    let is : Tup c.in-Tup.field-0 (parts_of c.in-Tup.parts) ≡ c.args.s.now = ap structure_of (sym c.in-Tup.is) ∙ c.s.view_is in
    sorted_resume c.args.counted.now c.args.form c.in-Tup.field-0 (sorted_from c.args.counted.now.checked c.args.tail None c.args.n) c.in-Tup.parts c.args.s.now
    c.in_ok-sorted.sorted c.in_ok-sorted-2.sorted.value _ is
    (components_in c.args.form c.in-Tup.field-0 (sorted_from c.args.counted.now.checked c.args.tail None c.args.n) c.in-Tup.parts c.args.s.now is c.requires.one).1
    c.in_ok-sorted-2.ensures.ok c.in_ok-sorted.ensures

-- ---- resume_sorted

pub resume_sorted-prove-unreachable-requires : goal.resume_sorted-prove-unreachable-requires
resume_sorted-prove-unreachable-requires t c =
    let below = place_within c.args.parts.now c.args.place
    (some_sorted c.args.counted.now c.grammar.ensures.kept c.args.tail c.requires.tail c.args.n (in_front (take c.args.place c.args.parts.now)) (drop c.args.place c.args.parts.now) c.requires.one
    (omega arith)) in
    omega (arith, below, c.len-count.ensures)

pub resume_sorted-overflow_sub-level : goal.resume_sorted-overflow_sub-level
resume_sorted-overflow_sub-level t c =
    let off : drop c.args.place c.args.parts.now ≡ c.at-component.result.now ∷ drop (c.args.place + 1) c.args.parts.now = drop_at c.args.parts.now c.args.place c.at-component.result.now c.at-component.ensures in
    taken_high c.args.counted.now c.grammar.ensures.kept c.args.tail c.requires.tail c.args.n (in_front (take c.args.place c.args.parts.now)) (drop c.args.place c.args.parts.now) c.requires.one
    (omega arith) c.at-component.result.now (drop (c.args.place + 1) c.args.parts.now) off c.size-taken.result c.size-taken.ensures

pub resume_sorted-resume-requires : goal.resume_sorted-resume-requires
resume_sorted-resume-requires t c =
    let counts = c.args.counted.now in
    let ok = c.grammar.ensures.kept in
    let atoms : 0 < c.args.n = omega arith in
    let off : drop c.args.place c.args.parts.now ≡ c.at-component.result.now ∷ drop (c.args.place + 1) c.args.parts.now = drop_at c.args.parts.now c.args.place c.at-component.result.now c.at-component.ensures in (
      omega (arith, c.decreases, weight_of (drop c.args.place c.args.parts.now) (drop (c.args.place + 1) c.args.parts.now) c.at-component.result.now off),
      (
        element_reached counts ok c.args.tail c.requires.tail,
        (
          taken_asked counts ok c.args.tail c.requires.tail c.args.n (in_front (take c.args.place c.args.parts.now)) (drop c.args.place c.args.parts.now) c.requires.one
              atoms c.at-component.result.now (drop (c.args.place + 1) c.args.parts.now) off c.size-taken.result c.size-taken.ensures c.requires.within,
          taken_there counts ok c.args.tail c.requires.tail c.args.n (in_front (take c.args.place c.args.parts.now)) (drop c.args.place c.args.parts.now) c.requires.one
              atoms c.at-component.result.now (drop (c.args.place + 1) c.args.parts.now) off c.size-taken.result c.size-taken.ensures,
        ),
      ),
    )

pub resume_sorted-resume_sorted-requires : goal.resume_sorted-resume_sorted-requires
resume_sorted-resume_sorted-requires t c =
    let counts = c.args.counted.now in
    let ok = c.grammar.ensures.kept in
    let atoms : 0 < c.args.n = omega arith in
    let off : drop c.args.place c.args.parts.now ≡ c.at-component.result.now ∷ drop (c.args.place + 1) c.args.parts.now = drop_at c.args.parts.now c.args.place c.at-component.result.now c.at-component.ensures in
    let front : Some c.at-component.result.now ≡ in_front (take (c.args.place + 1) c.args.parts.now) = sym (in_front_of c.args.parts.now c.args.place c.at-component.result.now c.at-component.ensures) in (
      omega (arith, c.decreases, weight_of (drop c.args.place c.args.parts.now) (drop (c.args.place + 1) c.args.parts.now) c.at-component.result.now off, some_nodes c.at-component.result.now),
      (
        subst (λ (tail : SortedTail). IsSortedTail counts tail) (sym c.behind_one.ensures) (behind_stands counts ok c.args.tail c.requires.tail),
        (
          omega (arith, c.requires.within),
          subst (λ (tail : SortedTail). IsIn (drop (c.args.place + 1) c.args.parts.now) (sorted_from counts.checked tail (in_front (take (c.args.place + 1) c.args.parts.now)) (c.args.n - c.size-taken.result)))
              (sym c.behind_one.ensures)
              (subst (λ (from : Option Structure). IsIn (drop (c.args.place + 1) c.args.parts.now) (sorted_from counts.checked (behind_one c.args.tail) from (c.args.n - c.size-taken.result))) front
              (behind_there counts ok c.args.tail c.requires.tail c.args.n (in_front (take c.args.place c.args.parts.now)) (drop c.args.place c.args.parts.now) c.requires.one
              atoms c.at-component.result.now (drop (c.args.place + 1) c.args.parts.now) off c.size-taken.result c.size-taken.ensures)),
        ),
      ),
    )

pub resume_sorted-returns : goal.resume_sorted-returns
resume_sorted-returns t c =
    let counts = c.args.counted.now in
    let ok = c.grammar.ensures.kept in
    let atoms : 0 < c.args.n = omega arith in
    let off : drop c.args.place c.args.parts.now ≡ c.at-component.result.now ∷ drop (c.args.place + 1) c.args.parts.now = drop_at c.args.parts.now c.args.place c.at-component.result.now c.at-component.ensures in
    let front : Some c.at-component.result.now ≡ in_front (take (c.args.place + 1) c.args.parts.now) = sym (in_front_of c.args.parts.now c.args.place c.at-component.result.now c.at-component.ensures) in
    let others : ResumesSorted counts (sorted_from counts.checked (behind_one c.args.tail) (Some c.at-component.result.now) (c.args.n - c.size-taken.result)) (drop (c.args.place + 1) c.args.parts.now) c.in_ok-others.others =
    subst (λ (from : Option Structure). ResumesSorted counts (sorted_from counts.checked (behind_one c.args.tail) from (c.args.n - c.size-taken.result)) (drop (c.args.place + 1) c.args.parts.now) c.in_ok-others.others) (sym front)
    (subst (λ (tail : SortedTail). ResumesSorted counts (sorted_from counts.checked tail (in_front (take (c.args.place + 1) c.args.parts.now)) (c.args.n - c.size-taken.result)) (drop (c.args.place + 1) c.args.parts.now) c.in_ok-others.others)
    c.behind_one.ensures c.in_ok-others.ensures) in
    level_resumes counts ok c.args.tail c.requires.tail c.args.n (in_front (take c.args.place c.args.parts.now)) (drop c.args.place c.args.parts.now) c.requires.one
    atoms c.at-component.result.now (drop (c.args.place + 1) c.args.parts.now) off c.size-taken.result c.size-taken.ensures
    c.in_ok-first.first c.in_ok-others.others c.in_ok-others-2.others.value c.in_ok-others-2.ensures.ok
    (record { behind = c.behind_one.result; taken = c.size-taken.result; left = c.args.n - c.size-taken.result }) (c.args.n - c.size-taken.result)
    (ap (λ (tail : SortedTail). record { behind = tail; taken = c.size-taken.result; left = c.args.n - c.size-taken.result }) c.behind_one.ensures) refl c.requires.within
    c.in_ok-first.ensures others _ refl (λ stand. stand)

-- ---- resume_union

pub resume_union-unreachable-requires : goal.resume_union-unreachable-requires
resume_union-unreachable-requires t c =
    not_argument c.args.counted.now.checked c.args.node (supply_labels c.args.supply) c.s.inside.shape (listing_on c.args.counted.now.checked c.args.node (supply_labels c.args.supply)) c.args.s.now c.s.view_is
    (by_arguments c.args.counted.now c.grammar-grammar.ensures.kept c.args.node c.args.supply c.requires.union c.requires.asked) c.requires.one c.in_default.not-Alt

pub resume_union-child-child-requires-clause-within :
    goal.resume_union-child-child-requires-clause-within
resume_union-child-child-requires-clause-within t c =
    node_read c.args.counted.now c.grammar-grammar.result.now c.args.node c.grammar-grammar.ensures.value (reached_within c.args.counted.now c.grammar-grammar.ensures.kept c.args.node c.requires.reached)

pub resume_union-child-child-requires-clause-low :
    goal.resume_union-child-child-requires-clause-low
resume_union-child-child-requires-clause-low t c =
    argument_low c.args.counted.now c.args.node c.in-Alt.number c.args.supply (listing_on c.args.counted.now.checked c.args.node (supply_labels c.args.supply)) c.in-Alt.inside.value c.args.s.now
    (ap structure_of (sym c.in-Alt.is) ∙ c.s.view_is)
    (by_arguments c.args.counted.now c.grammar-grammar.ensures.kept c.args.node c.args.supply c.requires.union c.requires.asked) c.requires.one

pub resume_union-child-child-requires-clause-high :
    goal.resume_union-child-child-requires-clause-high
resume_union-child-child-requires-clause-high t c =
    subst (λ (g : Checked). c.in-Alt.number ≤ length (children_at g.rules c.args.node)) (sym c.grammar-grammar.ensures.value)
    (argument_high c.args.counted.now c.args.node c.in-Alt.number c.args.supply (listing_on c.args.counted.now.checked c.args.node (supply_labels c.args.supply)) c.in-Alt.inside.value c.args.s.now
    (ap structure_of (sym c.in-Alt.is) ∙ c.s.view_is)
    (by_arguments c.args.counted.now c.grammar-grammar.ensures.kept c.args.node c.args.supply c.requires.union c.requires.asked) c.requires.one)

pub resume_union-resume-requires : goal.resume_union-resume-requires
resume_union-resume-requires t c =
    let counts = c.args.counted.now in
    let checked = counts.checked in
    let ok = c.grammar-grammar.ensures.kept in
    let whole : Alt c.in-Alt.number c.in-Alt.inside.value ≡ c.args.s.now = ap structure_of (sym c.in-Alt.is) ∙ c.s.view_is in
    let at : slice_get (children_at checked.rules c.args.node) (c.in-Alt.number - 1) ≡ Some c.child-child.result =
    subst (λ (g : Checked). slice_get (children_at g.rules c.args.node) (c.in-Alt.number - 1) ≡ Some c.child-child.result) c.grammar-grammar.ensures.value c.child-child.ensures.value in
    let there = argument_inside counts c.args.node c.in-Alt.number c.args.supply (listing_on checked c.args.node (supply_labels c.args.supply)) c.in-Alt.inside.value c.args.s.now whole
    (by_arguments counts ok c.args.node c.args.supply c.requires.union c.requires.asked) c.requires.one c.child-child.result at in (
      omega (arith, c.decreases, ap nodes whole, ap nodes c.deref.ensures),
      (
        reached_child counts ok c.args.node (c.in-Alt.number - 1) c.child-child.result c.requires.reached at,
        (
          subst (λ (s : Supply). IsAsked counts s) (sym c.in_ok-labels.ensures) c.requires.asked,
          subst (λ (s : Supply). IsIn c.deref.result.now (listing_on checked c.child-child.result (supply_labels s))) (sym c.in_ok-labels.ensures)
              (subst (λ (s : Structure). IsIn s (listing_on checked c.child-child.result (supply_labels c.args.supply))) (sym c.deref.ensures) there),
        ),
      ),
    )

pub resume_union-returns : goal.resume_union-returns
resume_union-returns t c =
    let counts = c.args.counted.now in
    let checked = counts.checked in
    let ok = c.grammar-grammar.ensures.kept in
    let whole : Alt c.in-Alt.number c.deref.result.now ≡ c.args.s.now = ap (Alt c.in-Alt.number) c.deref.ensures ∙ ap structure_of (sym c.in-Alt.is) ∙ c.s.view_is in
    let at : slice_get (children_at checked.rules c.args.node) (c.in-Alt.number - 1) ≡ Some c.child-child.result =
    subst (λ (g : Checked). slice_get (children_at g.rules c.args.node) (c.in-Alt.number - 1) ≡ Some c.child-child.result) c.grammar-grammar.ensures.value c.child-child.ensures.value in
    let inner : Resumes counts (listing_on checked c.child-child.result (supply_labels c.args.supply)) c.deref.result.now c.in_ok-inner.inner =
    subst (λ (s : Supply). Resumes counts (listing_on checked c.child-child.result (supply_labels s)) c.deref.result.now c.in_ok-inner.inner) c.in_ok-labels.ensures c.in_ok-inner.ensures in
    argument_in_union counts c.args.node c.in-Alt.number c.args.supply (listing_on checked c.args.node (supply_labels c.args.supply)) c.deref.result.now c.args.s.now whole
    (by_arguments counts ok c.args.node c.args.supply c.requires.union c.requires.asked) c.requires.one c.child-child.result at c.in_ok-inner.inner inner c.later_in_union.result
    (c.later_in_union.ensures.after c.deref.result.now) (c.later_in_union.ensures.stands c.deref.result.now inner.1)
