-- Where a grammar is well founded, each name, each expression of the rules, the last components of each Prod and each
-- container with another bound have a listing, and it is computed.
use Rattle.std.proofs.Common.{◌≡◌, ℕ, suc, ◌+◌, ◌*◌, ◌<◌, ◌≤◌, List, [], ◌∷◌, ◌++◌, map, length, sym, ap, subst, inl, inr, arith, Some}
use Rattle.spec_syntax.specs.declared.expr.Card.{Card}
use Rattle.spec_syntax.specs.declared.expr.Kind.{Kind}
use Rattle.spec_syntax.specs.Expression as expr
use Rattle.spec_syntax.specs.Expression.{Expression, expressions_of}
use Rattle.spec_syntax.specs.Rules.{all_nodes}
use Rattle.spec_syntax.specs.Grammar.{Grammar}
use Rattle.struct_model.specs.Structure.{Structure, labels, size, key}
use Rattle.lists.specs.Enumeration.{IsIn}
use Rattle.struct_model.specs.Listing.{IsOne, Lists}
use Rattle.struct_model.specs.Bounded.{bounds, bounded, greatest, argument_count, most_arguments, listing, up_to_height}
use Rattle.struct_model.proofs.ListingLaws.{one_listing}
use Rattle.well_founded.specs.WellFounded.{HoldsNull, OfNone}
use Rattle.spec_syntax.specs.Nodes.{node_at}
use Rattle.well_founded.specs.Rank.{AreRanks}
use Rattle.spec_syntax.proofs.NodesLemmas.{in_nodes, node_of}
use Rattle.listing_laws.specs.Laws.{IsListing}
use Rattle.lists.proofs.Ascending.{Each, from_ascending}
use Rattle.listing_laws.proofs.FilterLaws.{listing_within_is}
use Rattle.listing_laws.proofs.Sizes.{size_is}
use Rattle.listing_laws.proofs.Ranked.{rank_of, one_less, within, name_within, suffix_within, bound_within}

room : (k total : ℕ) → k * total + total < (k + 2) * (total + 2)
room k total = grind arith

-- where all structures with the labels lie within the bounds, they are the listing
pub listing_from : (g : Grammar) (e : Expression) → ((u : List ℕ) (s : Structure) → IsOne g e u s → IsIn s (bounded (bounds g u))) → IsListing g e
unfolding listing
listing_from g e inside = record {
  lists = λ u supplied. listing_is u;
  only = λ u ss supplied l. one_listing g e u ss (listing g e u) l (listing_is u);
}
  where
    listing_is : (u : List ℕ) → Lists g e u (listing g e u)
    listing_is u = listing_within_is (bounds g u) g e u (inside u)

-- each label is at most the greatest one
at_most_greatest : (high : ℕ) (u : List ℕ) → greatest u ≤ high → Each (λ l. l ≤ high) u
at_most_greatest high [] h = tt
at_most_greatest high (n ∷ ns) h = (omega arith, at_most_greatest high ns (omega arith))

pub label_bound : (g : Grammar) (u : List ℕ) (s : Structure) → key s ≡ u → Each (λ l. l ≤ (bounds g u).label) (labels s)
label_bound g u s same =
    from_ascending (λ l. l ≤ (bounds g u).label) (labels s) (subst (Each (λ l. l ≤ (bounds g u).label)) (sym same) (at_most_greatest (bounds g u).label u (omega arith)))

-- none of these has more than the greatest number of arguments
few_arguments : (es : List Expression) (e : Expression) → IsIn e es → argument_count e ≤ greatest (map argument_count es)
few_arguments [] e there = absurd there
few_arguments (first ∷ es) e (inl same) = omega (arith, ap argument_count same)
few_arguments (first ∷ es) e (inr there) = omega (arith, few_arguments es e there)

narrow : (g : Grammar) (n : ℕ) (e : Expression) → node_at g.rules n ≡ Some e → argument_count e ≤ most_arguments g.rules
narrow g n e there = few_arguments (all_nodes g.rules) e (in_nodes g.rules n e there)

module _ (g : Grammar) (full : OfNone (HoldsNull g) g.rules) (ranks : List ℕ) (ranked : AreRanks g ranks) where
  abbrev total : ℕ
  total = length (all_nodes g.rules)

  height_room : (u : List ℕ) (s : Structure) → key s ≡ u → size s * total + total < (bounds g u).height
  height_room u s same = omega (arith, room (length u) total, ap (λ (k : ℕ). k * total) (size_is u s same))

  label_room : (u : List ℕ) (s : Structure) → key s ≡ u → Each (λ l. l ≤ (bounds g u).label) (labels s) × (length (labels s) ≤ (bounds g u).width)
  label_room u s same = (label_bound g u s same, omega (arith, size_is u s same))

  pub node_lists : (e : Expression) → IsIn e (all_nodes g.rules) → IsListing g e
  node_lists e there =
      let node = node_of g.rules e there in
      let has = rank_of g full ranks ranked node.0 e node.1 in
      listing_from g e (λ u s p.
      within g full ranks ranked (bounds g u) (most_arguments g.rules) (omega arith) (omega arith) (omega arith) (narrow g)
      s e has.0 (bounds g u).height (record { number = node.0; there = node.1; has_rank = has.1 }) p.0 (label_room u s p.1)
      (omega (arith, has.2, height_room u s p.1)))

  higher : (u : List ℕ) (s : Structure) → key s ≡ u → ((h : ℕ) → size s * total + total ≤ h → IsIn s (up_to_height (bounds g u) (suc h))) → IsIn s (bounded (bounds g u))
  higher u s same inside =
      let less = one_less (bounds g u).height (size s * total + total) (height_room u s same) in
      subst (λ (n : ℕ). IsIn s (up_to_height (bounds g u) n)) (sym less.1) (inside less.0 less.2)

  pub name_lists : (name : List ℕ) → IsListing g (expr.Name name)
  name_lists name = listing_from g (expr.Name name) (λ u s p.
      higher u s p.1 (λ h high.
      name_within g full ranks ranked (bounds g u) (most_arguments g.rules) (omega arith) (omega arith) (omega arith) (narrow g)
      s name h p.0 (label_room u s p.1) high))

  pub suffix_lists : (earlier later : List Expression) → IsIn (expr.Prod (expressions_of (earlier ++ later))) (all_nodes g.rules) → IsListing g (expr.Prod (expressions_of later))
  suffix_lists earlier later there =
      let node = node_of g.rules (expr.Prod (expressions_of (earlier ++ later))) there in
      listing_from g (expr.Prod (expressions_of later)) (λ u s p.
      higher u s p.1 (λ h high.
      suffix_within g full ranks ranked (bounds g u) (most_arguments g.rules) (omega arith) (omega arith) (omega arith) (narrow g)
      s earlier later node.0 h node.1 p.0 (label_room u s p.1) high))

  -- a container of whatever kind, with any bound, over the element of a container of the rules
  pub bound_lists : (container kind : Kind) (e : Expression) (card other : Card) → IsIn (expr.Many container e card) (all_nodes g.rules) → IsListing g (expr.Many kind e other)
  bound_lists container kind e card other there =
      let node = node_of g.rules (expr.Many container e card) there in
      listing_from g (expr.Many kind e other) (λ u s p.
      higher u s p.1 (λ h high.
      bound_within g full ranks ranked (bounds g u) (most_arguments g.rules) (omega arith) (omega arith) (omega arith) (narrow g)
      s container kind e card other node.0 h node.1 p.0 (label_room u s p.1) high))
