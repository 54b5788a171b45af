-- Where the labels of components ascend from left to right, the components are sorted, and their own least rotation.
use Rattle.std.proofs.Common.{◌≡◌, ℕ, ◌+◌, true, List, [], ◌∷◌, ◌++◌, length, refl, sym, ap, ◌∙◌, subst, arith}
use Rattle.std.specs.Ordering.{is_lt}
use Rattle.std.proofs.lemmas.Bool.{and_parts, and_from}
use Rattle.spec_syntax.specs.Expression.{Expression}
use Rattle.spec_syntax.specs.Grammar.{Grammar}
use Rattle.lists.specs.Ascending.{ascending, ascends_above}
use Rattle.lists.proofs.Ascending.{From, AtLeast, Rises, lower, each_left, each_right, ascending_same}
use Rattle.lists.proofs.AscendingAbove.{above_all}
use Rattle.struct_model.specs.Structure.{Structure, Structures, no_parts, more_parts, part_list, parts_of, labels, labels_of_parts, size, key}
use Rattle.struct_model.specs.Order.{is_strictly_sorted, is_least_rotation}
use Rattle.struct_model.specs.Membership.{is_of, are_of}
use Rattle.struct_model.specs.Listing.{Before}
use Rattle.listing_laws.specs.Laws.{IsNeverEmpty}
use Rattle.listing_laws.proofs.Components.{parts_back}
use Rattle.listing_laws.proofs.LeastFirst.{key_begins, lesser_before}
use Rattle.listing_laws.proofs.LeastCycles.{first_is_least}

-- each number is above those before it
abbrev pub Climbs : List ℕ → Type 0
Climbs [] = Unit {0}
Climbs (n ∷ ns) = AtLeast (n + 1) ns × Climbs ns

pub climbs_left : (ms ns : List ℕ) → Climbs (ms ++ ns) → Climbs ms
climbs_left [] ns climbs = tt
climbs_left (m ∷ ms) ns climbs = (each_left (From (m + 1)) ms ns climbs.0, climbs_left ms ns climbs.1)

pub climbs_right : (ms ns : List ℕ) → Climbs (ms ++ ns) → Climbs ns
climbs_right [] ns climbs = climbs
climbs_right (m ∷ ms) ns climbs = climbs_right ms ns climbs.1

pub climbs_above : (low : ℕ) (ns : List ℕ) → ascends_above low ns ≡ true → Climbs ns
climbs_above low [] h = tt
climbs_above low (n ∷ ns) h = let both = and_parts _ (ascends_above n ns) h in (above_all n ns both.1, climbs_above n ns both.1)

climbs_rises : (ns : List ℕ) → Climbs ns → Rises ns
climbs_rises [] climbs = tt
climbs_rises (n ∷ ns) climbs = (lower n (n + 1) ns (omega arith) climbs.0, climbs_rises ns climbs.1)

-- the structure has a least label, and all these are above it
record BeginsBelow (s : Structure) (others : List ℕ) : Type 0 where
  label : ℕ
  more : List ℕ
  key_is : key s ≡ label ∷ more
  above : AtLeast (label + 1) others

begins_below : (s : Structure) (others : List ℕ) → (size s ≡ 0 → ⊥) → Climbs (labels s ++ others) → BeginsBelow s others
begins_below s others some climbs = by (labels s) refl climbs
  where
    by : (ls : List ℕ) → labels s ≡ ls → Climbs (ls ++ others) → BeginsBelow s others
    by [] same climbs = absurd (some (ap length same))
    by (l ∷ ls) same climbs = record {
      label = l;
      more = ls;
      key_is = ap ascending same ∙ ascending_same (l ∷ ls) (climbs_rises (l ∷ ls) (climbs_left (l ∷ ls) others climbs));
      above = each_right (From (l + 1)) ls others climbs.0;
    }

module _ (g : Grammar) (e : Expression) (never_empty : IsNeverEmpty g e) where
  pub climbing_sorted : (ps : Structures) → are_of g e ps ≡ true → Climbs (labels_of_parts ps) → is_strictly_sorted (part_list ps) ≡ true
  climbing_sorted no_parts are climbs = refl
  climbing_sorted (more_parts s no_parts) are climbs = refl
  climbing_sorted (more_parts s (more_parts t ps)) are climbs =
      let first = and_parts (is_of g e s) (are_of g e (more_parts t ps)) are in
      let second = and_parts (is_of g e t) (are_of g e ps) first.1 in
      let begins = begins_below s (labels_of_parts (more_parts t ps)) (never_empty s first.0) climbs in
      let next = key_begins (begins.label + 1) t (never_empty t second.0) (each_left (From (begins.label + 1)) (labels t) (labels_of_parts ps) begins.above) in
      let before : Before s t = lesser_before s t begins.label next.0 begins.more next.1 begins.key_is next.2 (omega (arith, next.3)) in
      and_from _ _ (ap is_lt before) (climbing_sorted (more_parts t ps) first.1 (climbs_right (labels s) (labels_of_parts (more_parts t ps)) climbs))

  turned : (ss : List Structure) → are_of g e (parts_of ss) ≡ true → Climbs (labels_of_parts (parts_of ss)) → is_least_rotation ss ≡ true
  turned [] are climbs = refl
  turned (s ∷ ss) are climbs =
      let ones = and_parts (is_of g e s) (are_of g e (parts_of ss)) are in
      let others = labels_of_parts (parts_of ss) in
      let begins = begins_below s others (never_empty s ones.0) climbs in
      first_is_least g e never_empty begins.label begins.more others s ss begins.key_is ones.1 begins.above
      (ascending_same others (climbs_rises others (climbs_right (labels s) others climbs)))

  pub climbing_turned : (ps : Structures) → are_of g e ps ≡ true → Climbs (labels_of_parts ps) → is_least_rotation (part_list ps) ≡ true
  climbing_turned ps are climbs =
      turned (part_list ps) (ap (are_of g e) (parts_back ps) ∙ are) (subst (λ (qs : Structures). Climbs (labels_of_parts qs)) (sym (parts_back ps)) climbs)
