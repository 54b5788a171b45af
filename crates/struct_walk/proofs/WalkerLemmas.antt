-- The first structure of all those of a node, or of a rule.
use Rattle.std.proofs.Common.{◌≡◌, ℕ, ◌<◌, List, [], ◌∷◌, length, refl, sym, ap, ◌∙◌, subst, inr, arith}
use Rattle.std.specs.Prelude.{IsTrue}
use Rattle.lists.specs.Enumeration.{IsIn}
use Rattle.spec_syntax.specs.declared.statement.Universe.{Universe}
use Rattle.spec_syntax.specs.Expression.{Name}
use Rattle.spec_syntax.specs.Rules.{rule_name}
use Rattle.struct_model.specs.Structure.{Structure, size}
use Rattle.struct_model.specs.declared.supplies.Supply.{Supply}
use Rattle.struct_model.specs.SupplyView.{supply_labels, supply_universe, is_in_order}
use Rattle.struct_model.proofs.SupplyLaws.{supply_size}
use Rattle.well_founded.specs.Checked.{Checked, grammar as grammar_of}
use Rattle.struct_model.specs.Membership.{supply as made}
use Rattle.listing_laws.specs.NodeListing.{listing_on, rule_on}
use Rattle.listing_laws.proofs.Listed.{listed_size}
use Rattle.size_counts.specs.CountedView.{Counts, IsCounted, number_of}
use Rattle.struct_walk.specs.declared.later.Later.{Later}
use Rattle.struct_walk.specs.After.{structures_after}
use Rattle.struct_walk.specs.Stands.{IsAsked, Stands, AreSmall}
use Rattle.struct_walk.specs.Opened.{Opens}
use Rattle.struct_walk.proofs.TailLemmas.{listing_number, counted_number, structure_size}
use Rattle.struct_walk.proofs.StepArguments.{asked_supplied}

module _ (counts : Counts) (is : IsCounted counts) (node : ℕ) (supply : Supply) (asked : IsAsked counts supply) (n told : ℕ) (long : n ≡ length (supply_labels supply)) (tells : told ≡ number_of counts node n) where
  number_on : length (listing_on counts.checked node (supply_labels supply)) ≡ told
  number_on =
      listing_number counts.checked is.passed node (supply_labels supply) (asked_supplied counts supply asked) ∙ sym (counted_number counts node (length (supply_labels supply)))
      ∙ ap (number_of counts node) (sym long) ∙ sym tells

  pub none_on : told ≡ 0 → [] ≡ listing_on counts.checked node (supply_labels supply)
  none_on none = empty (listing_on counts.checked node (supply_labels supply)) (number_on ∙ none)
    where
      empty : (ss : List Structure) → length ss ≡ 0 → [] ≡ ss
      empty [] h = refl
      empty (s ∷ ss) h = absurd (omega arith)

  pub some_on : 0 < told → 0 < length (listing_on counts.checked node (supply_labels supply))
  some_on some = subst (λ (m : ℕ). 0 < m) (sym number_on) some

-- all that come later have as many atoms as the supply has labels
pub opened_small : (counts : Counts) → IsCounted counts → (node : ℕ) (supply : Supply) (later : Later) (s : Structure) → IsAsked counts supply
    → Opens counts (listing_on counts.checked node (supply_labels supply)) (later, s) → Stands counts later s × AreSmall (structures_after counts.checked later s)
opened_small counts is node supply later s asked opens = (
  opens.stands,
  λ t there.
      let whole : IsIn t (listing_on counts.checked node (supply_labels supply)) = subst (λ (ss : List Structure). IsIn t ss) (sym opens.whole) (inr there) in
      let same : size t ≡ length (supply_labels supply) = structure_size counts is node (supply_labels supply) t (asked_supplied counts supply asked) whole in
      omega (arith, asked.within, is.small),
)

-- the labels of the greatest size can be asked for
pub whole_asked : (counts : Counts) (grammar : Checked) (supply : Supply) (universe : Universe) (n : ℕ) → grammar ≡ counts.checked → universe ≡ grammar.universe → n ≡ counts.size
    → supply_labels supply ≡ made universe n → supply_universe supply ≡ universe → IsTrue (is_in_order supply) → IsAsked counts supply
whole_asked counts grammar supply universe n same universe_is n_is labels of_universe in_order = record {
  in_order = in_order;
  universe = of_universe ∙ universe_is ∙ ap (λ (g : Checked). g.universe) same;
  within = let long = ap length labels ∙ supply_size universe n in omega arith;
}

-- all that come later than the first member have as many atoms as the supply has labels
pub members_small : (counts : Counts) → IsCounted counts → (number : ℕ) (supply : Supply) (later : Later) (s : Structure) → IsAsked counts supply
    → Opens counts (rule_on counts.checked number (supply_labels supply)) (later, s) → Stands counts later s × AreSmall (structures_after counts.checked later s)
members_small counts is number supply later s asked opens = (
  opens.stands,
  λ t there.
      let whole : IsIn t (rule_on counts.checked number (supply_labels supply)) = subst (λ (ss : List Structure). IsIn t ss) (sym opens.whole) (inr there) in
      let same : size t ≡ length (supply_labels supply) = listed_size (grammar_of counts.checked) (Name (rule_name counts.checked.rules number)) (supply_labels supply) t whole in
      omega (arith, asked.within, is.small),
)
