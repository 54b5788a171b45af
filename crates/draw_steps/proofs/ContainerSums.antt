-- The numbers of a container by the number of its components.
use Rattle.std.proofs.Common.{◌≡◌, ◌⊎◌, ◌<◌, ◌+◌, ℕ, Bool, true, false, [], Option, Some, map, slice_get, refl, sym, ap, ◌∙◌, inl, inr, arith}
use Rattle.std.specs.Prelude.{if◌then◌else◌}
use Rattle.std.specs.Option.{option_map_or, option_and_then}
use Rattle.std.specs.List.{sum, range_with_len}
use Rattle.spec_syntax.specs.declared.expr.Card.{Card}
use Rattle.spec_syntax.specs.declared.expr.Kind.{Kind}
use Rattle.spec_syntax.specs.declared.expr.Kind.TheVariants as kinds
use Rattle.spec_syntax.specs.Card.{admits}
use Rattle.spec_syntax.specs.Expression as expr
use Rattle.spec_syntax.specs.Expression.{Expression}
use Rattle.spec_syntax.specs.Rules.{all_nodes}
use Rattle.spec_syntax.specs.Nodes.{node_at, arguments_of, card_of}
use Rattle.struct_model.specs.Bounded.{number}
use Rattle.well_founded.specs.declared.node.NodeKind.{NodeKind}
use Rattle.well_founded.specs.declared.node.NodeKind.TheVariants as told
use Rattle.well_founded.specs.NodeKinds.{container}
use Rattle.well_founded.specs.Checked.{grammar}
use Rattle.lists.proofs.Places.{in_of_get}
use Rattle.listing_laws.specs.ContainersRecur.{of_components}
use Rattle.listing_laws.proofs.KindLemmas.{many_is}
use Rattle.listing_laws.proofs.NodeLemmas.{kind_at}
use Rattle.listing_laws.proofs.ByComponents.{containers_are_counted}
use Rattle.listing_laws.proofs.ContainersRecur.{containers_recur}
use Rattle.size_counts.specs.CountedView.{Counts, IsCounted, number_of, with_exactly}
use Rattle.size_counts.specs.Numbers.{list_number}
use Rattle.draw_steps.specs.Asked.{IsContainer}
use Rattle.draw_steps.specs.Choices.{admits_at, number_with}

-- the node is a container over this expression with this bound
pub record IsMany (counts : Counts) (node : ℕ) (kind : NodeKind) : Type 0 where
  pub own : Kind
  pub element : Expression
  pub card : Card
  pub at : node_at counts.checked.rules node ≡ Some (expr.Many own element card)
  pub is : kind ≡ container own

own_kind : (kind : NodeKind) → (kind ≡ told.Sequence) ⊎ ((kind ≡ told.Set) ⊎ ((kind ≡ told.PowerSet) ⊎ (kind ≡ told.Cycle))) → (own : Kind) × (kind ≡ container own)
own_kind kind (inl is) = (kinds.Sequence, is)
own_kind kind (inr (inl is)) = (kinds.Set, is)
own_kind kind (inr (inr (inl is))) = (kinds.PowerSet, is)
own_kind kind (inr (inr (inr is))) = (kinds.Cycle, is)

pub many_of : (counts : Counts) (node : ℕ) (kind : NodeKind) → IsContainer counts node kind → IsMany counts node kind
many_of counts node kind container_is =
    let own = own_kind kind container_is.one_of in
    let there = kind_at counts.checked node kind container_is.is in
    let many = many_is own.0 there.0 (there.2 ∙ own.1) in
    record { own = own.0; element = many.0; card = many.1; at = there.1 ∙ ap Some many.2; is = own.1 }

module _ (counts : Counts) (node : ℕ) (own : Kind) (element : Expression) (card : Card) (at : node_at counts.checked.rules node ≡ Some (expr.Many own element card)) where
  pub admits_is : (c : ℕ) → admits_at counts node c ≡ admits card c
  admits_is c = ap (λ (o : Option Expression). option_map_or (λ k. admits k c) (option_and_then card_of o) false) at

pub with_is : (counts : Counts) (node : ℕ) (own : Kind) (element : Expression) (card : Card) → node_at counts.checked.rules node ≡ Some (expr.Many own element card)
    → (c n : ℕ) → number_with counts (container own) node c n ≡ of_components (grammar counts.checked) own element c n
with_is counts node kinds.Sequence element card at c n =
    ap (λ (o : Option Expression). option_map_or (λ e. list_number (grammar counts.checked) e c n) (slice_get (option_map_or arguments_of o []) 0) 0) at
with_is counts node kinds.Set element card at c n = ap (λ (o : Option Expression). option_map_or (λ e. number (grammar counts.checked) (with_exactly c e) n) o 0) at
with_is counts node kinds.PowerSet element card at c n = ap (λ (o : Option Expression). option_map_or (λ e. number (grammar counts.checked) (with_exactly c e) n) o 0) at
with_is counts node kinds.Cycle element card at c n =
    ap (λ (o : Option Expression). option_map_or (λ e. of_components (grammar counts.checked) kinds.Cycle e c n) (slice_get (option_map_or arguments_of o []) 0) 0) at

-- the numbers with so many components as the bound admits are all
pub container_sum : (counts : Counts) (kind : NodeKind) (node n : ℕ) → IsCounted counts → IsContainer counts node kind
    → sum (map (λ c. if admits_at counts node c then number_with counts kind node c n else 0) (range_with_len 0 (n + 1))) ≡ number_of counts node n
container_sum counts kind node n is container_is =
    let m = many_of counts node kind container_is in
    ap (λ (f : ℕ → ℕ). sum (map f (range_with_len 0 (n + 1)))) (λ i c. each m c i)
    ∙ sym (containers_are_counted.by_components (grammar counts.checked) m.own m.element m.card n is.passed.spec is.passed.well_founded (in_of_get (all_nodes counts.checked.rules) node (expr.Many m.own m.element m.card) m.at))
    ∙ sym (ap (λ (o : Option Expression). option_map_or (λ e. number (grammar counts.checked) e n) o 0) m.at)
  where
    each : (m : IsMany counts node kind) (c : ℕ) → (if admits_at counts node c then number_with counts kind node c n else 0) ≡ (if admits m.card c then of_components (grammar counts.checked) m.own m.element c n else 0)
    each m c =
        ap (λ (b : Bool). if b then number_with counts kind node c n else 0) (admits_is counts node m.own m.element m.card m.at c)
        ∙ ap (λ (k : ℕ). if admits m.card c then k else 0) (ap (λ (k : NodeKind). number_with counts k node c n) m.is ∙ with_is counts node m.own m.element m.card m.at c n)

-- a cycle has a component
pub no_cycles : (counts : Counts) (kind : NodeKind) (node c n : ℕ) → IsCounted counts → IsContainer counts node kind → kind ≡ told.Cycle → c ≡ 0
    → 0 ≡ (if admits_at counts node c then number_with counts kind node c n else 0)
no_cycles counts kind node c n is container_is cycle none =
    let there = kind_at counts.checked node kind container_is.is in
    let many = many_is kinds.Cycle there.0 (there.2 ∙ cycle) in
    let at : node_at counts.checked.rules node ≡ Some (expr.Many kinds.Cycle many.0 many.1) = there.1 ∙ ap Some many.2 in
    let nothing : number_with counts kind node c n ≡ 0 =
    ap (λ (k : NodeKind). number_with counts k node c n) cycle ∙ ap (λ (k : ℕ). number_with counts told.Cycle node k n) none ∙ with_is counts node kinds.Cycle many.0 many.1 at 0 n
    ∙ containers_recur.no_cycles (grammar counts.checked) many.0 many.1 n is.passed.spec is.passed.well_founded (in_of_get (all_nodes counts.checked.rules) node (expr.Many kinds.Cycle many.0 many.1) at) in
    sym (ap (λ (k : ℕ). if admits_at counts node c then k else 0) nothing ∙ none_either (admits_at counts node c))
  where
    none_either : (b : Bool) → ◌≡◌ {A = ℕ} (if b then 0 else 0) 0
    none_either true = refl
    none_either false = refl

-- a component is weighed only where the bound admits so many
pub admitted_above : (counts : Counts) (kind : NodeKind) (node c n : ℕ) → 0 < (if admits_at counts node c then number_with counts kind node c n else 0) → admits_at counts node c ≡ true
admitted_above counts kind node c n some = by (admits_at counts node c) some
  where
    by : (b : Bool) → 0 < (if b then number_with counts kind node c n else 0) → b ≡ true
    by true some = refl
    by false some = absurd (omega (arith, some))

pub number_above : (counts : Counts) (kind : NodeKind) (node c n : ℕ) → 0 < (if admits_at counts node c then number_with counts kind node c n else 0) → 0 < number_with counts kind node c n
number_above counts kind node c n some = by (admits_at counts node c) some
  where
    by : (b : Bool) → 0 < (if b then number_with counts kind node c n else 0) → 0 < number_with counts kind node c n
    by true some = some
    by false some = absurd (omega (arith, some))
