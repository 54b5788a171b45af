-- What nodes that are Sets and PowerSets list on a supply, by the node of the element.
use Rattle.std.proofs.Common.{◌≡◌, ℕ, ◌-◌, ◌<◌, Bool, true, false, List, [], ◌∷◌, ◌++◌, map, filter, flat_map, length, refl, sym, ap, ◌∙◌, Option, Some, None, Less, nat_cmp}
use Rattle.std.specs.Prelude.{if◌then◌else◌}
use Rattle.std.specs.Option.{option_map_or}
use Rattle.std.specs.Cmp.Lexicographic.{slice_cmp}
use Rattle.std.specs.List.{range_with_len}
use Rattle.lists.specs.Enumeration.{IsIn}
use Rattle.spec_syntax.specs.declared.statement.Universe.TheVariants.{Unlabelled}
use Rattle.spec_syntax.specs.declared.expr.Card.{Card}
use Rattle.spec_syntax.specs.declared.expr.Kind.TheVariants as kind
use Rattle.spec_syntax.specs.Expression as expr
use Rattle.spec_syntax.specs.Expression.{Expression}
use Rattle.spec_syntax.specs.Rules.{all_nodes}
use Rattle.spec_syntax.specs.Nodes.{node_at}
use Rattle.spec_syntax.proofs.NodesLemmas.{in_nodes}
use Rattle.struct_model.specs.Structure.{Structure, key}
use Rattle.struct_model.specs.Membership.{supply, is_supply}
use Rattle.struct_model.specs.Listing.{Before}
use Rattle.struct_model.specs.Bounded.{listing}
use Rattle.well_founded.specs.Checked.{Checked, IsChecked, grammar}
use Rattle.listing_laws.specs.Lister.{each_going_on, after_one, admits_some}
use Rattle.listing_laws.specs.Laws.{IsListing}
use Rattle.listing_laws.specs.NodeListing.{listing_on}
use Rattle.listing_laws.specs.SetListing.{set, power_set}
use Rattle.listing_laws.specs.SortedListing.{follows, by_following, sorted_on}
use Rattle.listing_laws.specs.SortedNodes.{IsContained, sorted_at, following_at, sorted_by_sizes, SortedNodesAreListed}
use Rattle.listing_laws.proofs.Followers.{followers_are_listed}
use Rattle.listing_laws.proofs.NodeLemmas.{listing_is, ContainerNode, container_node, container_bound}
use Rattle.listing_laws.proofs.Recursion.{well_founded_is_listed}
use Rattle.listing_laws.proofs.SortedComponents.{sorted_listings_recur}

module _ (checked : Checked) where
  sorted_is : (element : ℕ) (e : Expression) (strict : Bool) (card : Card) (from : Option Structure) (u : List ℕ) → node_at checked.rules element ≡ Some e
      → sorted_at checked element strict card from u ≡ sorted_on (grammar checked) e strict card from u
  sorted_is element e strict card from u at = ap (λ o. option_map_or (λ f. sorted_on (grammar checked) f strict card from u) o []) at

  sets_listed : (node element : ℕ) (u : List ℕ) (s : ContainerNode checked kind.Set node element) → IsChecked checked → is_supply checked.universe u ≡ true
      → listing_on checked node u ≡ map set (sorted_at checked element false s.card None u)
  sets_listed node element u s passed supplied =
      listing_is checked node (expr.Many kind.Set s.e s.card) u s.at
      ∙ sorted_listings_recur.sets (grammar checked) s.e s.card s.card u passed.spec passed.well_founded
      (in_nodes checked.rules node (expr.Many kind.Set s.e s.card) s.at) supplied
      ∙ ap (map set) (sym (sorted_is element s.e false s.card None u s.inside))

  power_sets_listed : (node element : ℕ) (u : List ℕ) (s : ContainerNode checked kind.PowerSet node element) → IsChecked checked → is_supply checked.universe u ≡ true
      → listing_on checked node u ≡ map power_set (sorted_at checked element true s.card None u)
  power_sets_listed node element u s passed supplied =
      listing_is checked node (expr.Many kind.PowerSet s.e s.card) u s.at
      ∙ sorted_listings_recur.power_sets (grammar checked) s.e s.card s.card u passed.spec passed.well_founded
      (in_nodes checked.rules node (expr.Many kind.PowerSet s.e s.card) s.at) supplied
      ∙ ap (map power_set) (sym (sorted_is element s.e true s.card None u s.inside))

  module _ (element : ℕ) (contained : IsContained checked element) where
    abbrev holder : ContainerNode checked contained.kind contained.node element
    holder = container_node checked contained.kind contained.node element contained.is contained.child

    abbrev inside : Expression
    inside = holder.e

    inside_lists : (u : List ℕ) → listing_on checked element u ≡ listing (grammar checked) inside u
    inside_lists u = listing_is checked element inside u holder.inside

    inside_sorted : (strict : Bool) (card : Card) (from : Option Structure) (u : List ℕ) → sorted_at checked element strict card from u ≡ sorted_on (grammar checked) inside strict card from u
    inside_sorted strict card from u = sorted_is element inside strict card from u holder.inside

    there : IsIn (expr.Many contained.kind inside holder.card) (all_nodes checked.rules)
    there = in_nodes checked.rules contained.node (expr.Many contained.kind inside holder.card) holder.at

    goes_on : (strict : Bool) (card : Card) (from : Option Structure) (u : List ℕ) → 0 < length u
        → sorted_at checked element strict card from u
        ≡ (if admits_some card then by_following strict from (listing_on checked element) (λ s. sorted_at checked element strict (after_one card) (Some s)) u else [])
    goes_on strict card from u some =
        inside_sorted strict card from u ∙ sorted_listings_recur.going_on (grammar checked) inside strict card from u some
        ∙ (λ i. if admits_some card then by_following strict from (λ labels. sym (inside_lists labels) i)
        (λ s labels. sym (inside_sorted strict (after_one card) (Some s) labels) i) u else [])

    by_size : (strict : Bool) (card : Card) (from : Option Structure) (n : ℕ) → 0 < n
        → sorted_at checked element strict card from (supply Unlabelled n) ≡ (if admits_some card then sorted_by_sizes checked element strict card from n else [])
    by_size strict card from n some =
        inside_sorted strict card from (supply Unlabelled n) ∙ followers_are_listed.size_by_size (grammar checked) inside strict card from n some
        ∙ (λ i. if admits_some card then flat_map (λ d. each_going_on (filter (follows strict from) (sym (inside_lists (supply Unlabelled d)) i))
        (λ s. sym (inside_sorted strict (after_one card) (Some s) (supply Unlabelled (n - d))) i)) (range_with_len 1 n) else [])

    module _ (passed : IsChecked checked) (u : List ℕ) (supplied : is_supply checked.universe u ≡ true) where
      cannot_go_on : (strict : Bool) (card : Card) (s t : Structure) → Before s t → sorted_at checked element strict card (Some s) u ≡ [] → sorted_at checked element strict card (Some t) u ≡ []
      cannot_go_on strict card s t before none =
          inside_sorted strict card (Some t) u
          ∙ followers_are_listed.dead_ends (grammar checked) contained.kind inside holder.card card strict s t u passed.spec passed.well_founded there supplied before
          (sym (inside_sorted strict card (Some s) u) ∙ none)

  -- the structures that may follow are those of the node's expression
  following_none : (element : ℕ) (strict : Bool) (from : Structure) (u : List ℕ) → slice_cmp nat_cmp u (key from) ≡ Less → following_at checked element strict from u ≡ []
  following_none element strict from u less = by (node_at checked.rules element)
    where
      by : (o : Option Expression) → filter (follows strict (Some from)) (option_map_or (λ e. listing (grammar checked) e u) o []) ≡ []
      by None = refl
      by (Some e) = followers_are_listed.none_lesser (grammar checked) e strict from u less

  following_all : (element : ℕ) (strict : Bool) (from : Structure) (u : List ℕ) → slice_cmp nat_cmp (key from) u ≡ Less
      → following_at checked element strict from u ≡ listing_on checked element u
  following_all element strict from u less = by (node_at checked.rules element)
    where
      by : (o : Option Expression) → filter (follows strict (Some from)) (option_map_or (λ e. listing (grammar checked) e u) o []) ≡ option_map_or (λ e. listing (grammar checked) e u) o []
      by None = refl
      by (Some e) = followers_are_listed.all_greater (grammar checked) e strict from u less

  module _ (element : ℕ) (from : Structure) (u : List ℕ) (earlier later : List Structure) (passed : IsChecked checked) (contained : IsContained checked element)
      (supplied : is_supply checked.universe u ≡ true) (cut : listing_on checked element u ≡ earlier ++ from ∷ later) where
    element_listing : IsListing (grammar checked) (inside element contained)
    element_listing =
        well_founded_is_listed.nodes (grammar checked) (inside element contained) passed.spec passed.well_founded
        (in_nodes checked.rules element (inside element contained) (holder element contained).inside)

    from_it : following_at checked element false from u ≡ from ∷ later
    from_it =
        ap (filter (follows false (Some from))) (inside_lists element contained u)
        ∙ followers_are_listed.from_itself (grammar checked) (inside element contained) from u earlier later element_listing supplied (sym (inside_lists element contained u) ∙ cut)

    behind_it : following_at checked element true from u ≡ later
    behind_it =
        ap (filter (follows true (Some from))) (inside_lists element contained u)
        ∙ followers_are_listed.behind_itself (grammar checked) (inside element contained) from u earlier later element_listing supplied (sym (inside_lists element contained u) ∙ cut)

pub sorted_nodes_are_listed : SortedNodesAreListed
sorted_nodes_are_listed = record {
  sets = λ checked node element card u passed supplied h child bound.
      let s : ContainerNode checked kind.Set node element = container_node checked kind.Set node element h child in
      sets_listed checked node element u s passed supplied
      ∙ ap (λ c. map set (sorted_at checked element false c None u)) (container_bound checked kind.Set node element s card bound);
  power_sets = λ checked node element card u passed supplied h child bound.
      let s : ContainerNode checked kind.PowerSet node element = container_node checked kind.PowerSet node element h child in
      power_sets_listed checked node element u s passed supplied
      ∙ ap (λ c. map power_set (sorted_at checked element true c None u)) (container_bound checked kind.PowerSet node element s card bound);
  empty = λ checked element strict card from contained. inside_sorted checked element contained strict card from [];
  going_on = λ checked element strict card from u contained some. goes_on checked element contained strict card from u some;
  size_by_size = λ checked element strict card from n contained some. by_size checked element contained strict card from n some;
  none_lesser = following_none;
  all_greater = following_all;
  from_itself = λ checked element from u earlier later passed contained supplied cut. from_it checked element from u earlier later passed contained supplied cut;
  behind_itself = λ checked element from u earlier later passed contained supplied cut. behind_it checked element from u earlier later passed contained supplied cut;
  dead_ends = λ checked element strict card s t u passed contained supplied before none. cannot_go_on checked element contained passed u supplied strict card s t before none;
}
