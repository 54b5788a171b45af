use Rattle.std.proofs.Common.{◌≡◌, ℕ, true, List, Some, sym, ap, ◌∙◌, subst}
use Rattle.spec_syntax.specs.declared.statement.Universe.{Universe}
use Rattle.lists.specs.Enumeration.{IsIn}
use Rattle.struct_model.specs.Membership.{supply as made}
use Rattle.struct_model.specs.SupplyView.{supply_labels}
use Rattle.well_founded.specs.Checked.{Checked}
use Rattle.listing_laws.specs.NodeListing.{rule_on}
use Rattle.struct_walk.specs.Resumed.{those_after}
use Rattle.struct_walk.proofs.WalkerLemmas.{whole_asked}
use Rattle.struct_walk.proofs.SeekLemmas.{after_small, after_rest, member_there}
use Rattle.struct_walk.proofs.walker.Walker.after_member.Goals as goal

-- the labels of the greatest size, as the code reads them
whole_labels : (grammar checked : Checked) (universe : Universe) (n size : ℕ) (labels : List ℕ) → grammar ≡ checked → universe ≡ grammar.universe → n ≡ size → labels ≡ made universe n
    → labels ≡ made checked.universe size
whole_labels grammar checked universe n size labels same of long is = is ∙ (λ i. made (of i) (long i)) ∙ ap (λ (g : Checked). made g.universe size) same

pub resume_rule-requires-clause-asked : goal.resume_rule-requires-clause-asked
resume_rule-requires-clause-asked c =
    whole_asked c.args.counted.now c.grammar-grammar.result.now c.in_ok-supply.supply c.universe.result c.size.result c.grammar-grammar.ensures.value c.universe.ensures c.size.ensures
    c.in_ok-supply.ensures.labels c.in_ok-supply.ensures.universe c.in_ok-supply.ensures.in_order

started : (grammar checked : Checked) (found : _) (number : ℕ) → grammar ≡ checked → found ≡ grammar.start → found ≡ Some number → checked.start ≡ Some number
started grammar checked found number same is some = ap (λ (g : Checked). g.start) (sym same) ∙ sym is ∙ some

pub resume_rule-requires-clause-one : goal.resume_rule-requires-clause-one
resume_rule-requires-clause-one c =
    let counts = c.args.counted.now in
    let labels = whole_labels c.grammar-grammar.result.now counts.checked c.universe.result c.size.result counts.size (supply_labels c.in_ok-supply.supply) c.grammar-grammar.ensures.value c.universe.ensures
    c.size.ensures c.in_ok-supply.ensures.labels in
    let start = started c.grammar-grammar.result.now counts.checked c.start.result c.unwrap-sym.result c.grammar-grammar.ensures.value c.start.ensures.value c.unwrap-sym.ensures in
    subst (λ (u : List ℕ). IsIn c.args.from.now (rule_on counts.checked c.unwrap-sym.result u)) (sym labels)
    (member_there counts.checked c.grammar-grammar.ensures.kept.passed c.unwrap-sym.result counts.size c.args.from.now (c.requires c.unwrap-sym.result start))

pub pass-requires-clause-has_rest : goal.pass-requires-clause-has_rest
pass-requires-clause-has_rest c =
    let asked = whole_asked c.args.counted.now c.grammar-grammar.result.now c.in_ok-supply.supply c.universe.result c.size.result c.grammar-grammar.ensures.value c.universe.ensures c.size.ensures
    c.in_ok-supply.ensures.labels c.in_ok-supply.ensures.universe c.in_ok-supply.ensures.in_order in
    after_small c.args.counted.now c.grammar-grammar.ensures.kept c.in_ok-supply.supply asked c.in_ok-later.later c.in_ok-s.s c.args.from.now c.in_ok-s.ensures c.unwrap-sym.result c.in_ok-later.ensures

one_start : (found : _) (number other : ℕ) → found ≡ Some number → found ≡ Some other → number ≡ other
one_start found number other first second = let same : Some number ≡ Some other = sym first ∙ second in cc

pub returns-clause-rest : goal.returns-clause-rest
returns-clause-rest c number start =
    let counts = c.args.counted.now in
    let asked = whole_asked counts c.grammar-grammar.result.now c.in_ok-supply.supply c.universe.result c.size.result c.grammar-grammar.ensures.value c.universe.ensures c.size.ensures
    c.in_ok-supply.ensures.labels c.in_ok-supply.ensures.universe c.in_ok-supply.ensures.in_order in
    let labels = whole_labels c.grammar-grammar.result.now counts.checked c.universe.result c.size.result counts.size (supply_labels c.in_ok-supply.supply) c.grammar-grammar.ensures.value c.universe.ensures
    c.size.ensures c.in_ok-supply.ensures.labels in
    let own = started c.grammar-grammar.result.now counts.checked c.start.result c.unwrap-sym.result c.grammar-grammar.ensures.value c.start.ensures.value c.unwrap-sym.ensures in
    let same = one_start counts.checked.start c.unwrap-sym.result number own start in
    c.in_ok-pass.ensures.rest
    ∙ after_rest counts c.grammar-grammar.ensures.kept c.in_ok-supply.supply asked c.in_ok-later.later c.in_ok-s.s c.args.from.now c.in_ok-s.ensures c.unwrap-sym.result c.in_ok-later.ensures
    ∙ (λ i. those_after true c.args.from.now (rule_on counts.checked (same i) (labels i)))
