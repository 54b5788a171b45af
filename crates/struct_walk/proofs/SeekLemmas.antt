-- Walks that begin after a structure.
use Rattle.std.proofs.Common.{◌≡◌, ℕ, true, false, List, ◌∷◌, length, sym, ap, ◌∙◌, subst, inr, arith}
use Rattle.std.specs.Prelude.{IsTrue}
use Rattle.std.specs.Cmp.Lexicographic.{bytes_decides}
use Rattle.std.proofs.lemmas.Bool.{and_parts}
use Rattle.lists.specs.Enumeration.{IsIn}
use Rattle.lists.proofs.Within.{in_right}
use Rattle.spec_syntax.specs.Expression.{Name}
use Rattle.spec_syntax.specs.Rules.{rule_name}
use Rattle.struct_model.specs.Structure.{Structure, size, key}
use Rattle.struct_model.specs.Membership.{supply as made, is_member}
use Rattle.struct_model.specs.declared.supplies.Supply.{Supply}
use Rattle.struct_model.specs.SupplyView.{supply_labels}
use Rattle.struct_model.proofs.SupplyLaws.{supply_is}
use Rattle.well_founded.specs.Checked.{Checked, IsChecked, grammar as grammar_of}
use Rattle.listing_laws.specs.Laws.{IsListing}
use Rattle.listing_laws.specs.NodeListing.{listing_on, rule_on}
use Rattle.listing_laws.specs.SortedNodes.{following_at}
use Rattle.listing_laws.proofs.Listed.{listed_size}
use Rattle.listing_laws.proofs.Recursion.{well_founded_is_listed}
use Rattle.size_counts.specs.CountedView.{Counts, IsCounted}
use Rattle.struct_walk.specs.declared.later.Later.{Later}
use Rattle.struct_walk.specs.After.{structures_after}
use Rattle.struct_walk.specs.Stands.{IsAsked, Stands, AreSmall}
use Rattle.struct_walk.specs.Opened.{Resumes}
use Rattle.struct_walk.specs.Resumed.{those_after}
use Rattle.struct_walk.proofs.TailLemmas.{structure_size}
use Rattle.struct_walk.proofs.StepArguments.{asked_supplied}
use Rattle.struct_walk.proofs.NodeOrder.{node_from, node_after, rule_after}

later_in : (counts : Counts) (all : List Structure) (s : Structure) (later : Later) → Resumes counts all s later → (t : Structure) → IsIn t (structures_after counts.checked later s) → IsIn t all
later_in counts all s later resumes t there =
    subst (λ (ss : List Structure). IsIn t ss) (sym resumes.0.whole) (in_right t resumes.0.earlier (s ∷ structures_after counts.checked later s) (inr there))

module _ (counts : Counts) (is : IsCounted counts) (supply : Supply) (asked : IsAsked counts supply) (later : Later) (s from : Structure) (same : s ≡ from) where
  -- all that come later have as many atoms as the supply has labels
  pub seek_small : (node : ℕ) → Resumes counts (listing_on counts.checked node (supply_labels supply)) from later
      → Stands counts later s × AreSmall (structures_after counts.checked later s)
  seek_small node resumes = subst (λ (t : Structure). Stands counts later t × AreSmall (structures_after counts.checked later t)) (sym same) (
    resumes.1,
    λ t there.
        let long : size t ≡ length (supply_labels supply) = structure_size counts is node (supply_labels supply) t (asked_supplied counts supply asked)
        (later_in counts (listing_on counts.checked node (supply_labels supply)) from later resumes t there) in
        omega (arith, long, asked.within, is.small),
  )

  -- the structures of a node from one on, or behind it
  pub seek_from : (node : ℕ) → Resumes counts (listing_on counts.checked node (supply_labels supply)) from later
      → s ∷ structures_after counts.checked later s ≡ following_at counts.checked node false from (supply_labels supply)
  seek_from node resumes =
      ap (λ (t : Structure). t ∷ structures_after counts.checked later t) same
      ∙ sym (node_from counts.checked is.passed (supply_labels supply) (asked_supplied counts supply asked) from resumes.0.earlier (structures_after counts.checked later from) node resumes.0.whole)

  pub seek_after : (node : ℕ) → Resumes counts (listing_on counts.checked node (supply_labels supply)) from later
      → structures_after counts.checked later s ≡ following_at counts.checked node true from (supply_labels supply)
  seek_after node resumes =
      ap (λ (t : Structure). structures_after counts.checked later t) same
      ∙ sym (node_after counts.checked is.passed (supply_labels supply) (asked_supplied counts supply asked) from resumes.0.earlier (structures_after counts.checked later from) node resumes.0.whole)

  pub after_small : (number : ℕ) → Resumes counts (rule_on counts.checked number (supply_labels supply)) from later
      → Stands counts later s × AreSmall (structures_after counts.checked later s)
  after_small number resumes = subst (λ (t : Structure). Stands counts later t × AreSmall (structures_after counts.checked later t)) (sym same) (
    resumes.1,
    λ t there.
        let long : size t ≡ length (supply_labels supply) = listed_size (grammar_of counts.checked) (Name (rule_name counts.checked.rules number)) (supply_labels supply) t
        (later_in counts (rule_on counts.checked number (supply_labels supply)) from later resumes t there) in
        omega (arith, long, asked.within, is.small),
  )

  pub after_rest : (number : ℕ) → Resumes counts (rule_on counts.checked number (supply_labels supply)) from later
      → structures_after counts.checked later s ≡ those_after true from (rule_on counts.checked number (supply_labels supply))
  after_rest number resumes =
      ap (λ (t : Structure). structures_after counts.checked later t) same
      ∙ sym (rule_after counts.checked is.passed (supply_labels supply) (asked_supplied counts supply asked) from resumes.0.earlier (structures_after counts.checked later from) number resumes.0.whole)

-- a member is listed
pub member_there : (checked : Checked) → IsChecked checked → (number n : ℕ) (s : Structure) → IsTrue (is_member (grammar_of checked) (rule_name checked.rules number) n s)
    → IsIn s (rule_on checked number (made checked.universe n))
member_there checked passed number n s member =
    let both = and_parts _ _ member in
    let listed : IsListing (grammar_of checked) (Name (rule_name checked.rules number)) = well_founded_is_listed.names (grammar_of checked) (rule_name checked.rules number) passed.spec passed.well_founded in
    (listed.lists (made checked.universe n) (supply_is checked.universe n)).complete s (both.0, (bytes_decides (key s) (made checked.universe n)).0 both.1)
