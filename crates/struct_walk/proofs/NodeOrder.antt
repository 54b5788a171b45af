-- What is listed behind a structure comes after it.
use Rattle.std.proofs.Common.{◌≡◌, ℕ, ◌<◌, zero, suc, Bool, true, false, List, [], ◌∷◌, ◌++◌, filter, replicate, nat_cmp, Less, Option, Some, None, refl, sym, ap, ◌∙◌, subst, inl, inr, arith}
use Rattle.std.specs.Prelude.{if◌then◌else◌}
use Rattle.std.specs.Option.{option_map_or}
use Rattle.std.specs.Cmp.Lexicographic.{slice_cmp}
use Rattle.std.proofs.lemmas.List.Elements.{filter-append}
use Rattle.lists.specs.Enumeration.{IsIn, Ascends}
use Rattle.lists.proofs.Filters.{filter_all}
use Rattle.spec_syntax.specs.Expression.{Expression, Name}
use Rattle.spec_syntax.specs.Rules.{rule_name}
use Rattle.spec_syntax.specs.Nodes.{node_at}
use Rattle.spec_syntax.proofs.NodesLemmas.{in_nodes}
use Rattle.struct_model.specs.Structure.{Structure, key}
use Rattle.struct_model.specs.Listing.{Before}
use Rattle.struct_model.specs.Membership.{is_supply}
use Rattle.struct_model.specs.Bounded.{listing}
use Rattle.struct_model.proofs.OrderLaws.{order_strict}
use Rattle.well_founded.specs.Checked.{Checked, IsChecked, grammar}
use Rattle.listing_laws.specs.Laws.{IsListing}
use Rattle.listing_laws.specs.NodeListing.{listing_on, rule_on}
use Rattle.listing_laws.specs.SortedListing.{may_follow, follows}
use Rattle.listing_laws.specs.SortedNodes.{following_at}
use Rattle.listing_laws.proofs.OrderFacts.{before_by_key}
use Rattle.listing_laws.proofs.SortedParts.{follows_from, follows_is}
use Rattle.listing_laws.proofs.Recursion.{well_founded_is_listed}
use Rattle.struct_walk.specs.Resumed.{those_after}

-- ---- the order of what is listed

node_ascends : (checked : Checked) → IsChecked checked → (node : ℕ) (u : List ℕ) → is_supply checked.universe u ≡ true → Ascends Before (listing_on checked node u)
node_ascends checked passed node u supplied = by (node_at checked.rules node) refl
  where
    by : (o : Option Expression) → node_at checked.rules node ≡ o → Ascends Before (option_map_or (λ e. listing (grammar checked) e u) o [])
    by None at = tt
    by (Some e) at =
        let listed : IsListing (grammar checked) e = well_founded_is_listed.nodes (grammar checked) e passed.spec passed.well_founded (in_nodes checked.rules node e at) in
        (listed.lists u supplied).ascends

rule_ascends : (checked : Checked) → IsChecked checked → (number : ℕ) (u : List ℕ) → is_supply checked.universe u ≡ true → Ascends Before (rule_on checked number u)
rule_ascends checked passed number u supplied =
    let listed : IsListing (grammar checked) (Name (rule_name checked.rules number)) = well_founded_is_listed.names (grammar checked) (rule_name checked.rules number) passed.spec passed.well_founded in
    (listed.lists u supplied).ascends

ascends_behind : (earlier : List Structure) (s : Structure) (later : List Structure) → Ascends Before (earlier ++ s ∷ later) → (t : Structure) → IsIn t later → Before s t
ascends_behind [] s later a t there = a.0 t there
ascends_behind (x ∷ earlier) s later a t there = ascends_behind earlier s later a.1 t there

ascends_front : (earlier : List Structure) (s : Structure) (later : List Structure) → Ascends Before (earlier ++ s ∷ later) → (t : Structure) → IsIn t earlier → Before t s
ascends_front [] s later a t there = absurd there
ascends_front (x ∷ earlier) s later a t (inl here) = subst (λ (y : Structure). Before y s) (sym here) (a.0 s (behind earlier))
  where
    behind : (front : List Structure) → IsIn s (front ++ s ∷ later)
    behind [] = inl refl
    behind (y ∷ front) = inr (behind front)
ascends_front (x ∷ earlier) s later a t (inr there) = ascends_front earlier s later a.1 t there

-- those listed behind a structure come after it
pub node_behind : (checked : Checked) → IsChecked checked → (node : ℕ) (u : List ℕ) (s : Structure) (earlier later : List Structure) → is_supply checked.universe u ≡ true
    → listing_on checked node u ≡ earlier ++ s ∷ later → (t : Structure) → IsIn t later → Before s t
node_behind checked passed node u s earlier later supplied cut = ascends_behind earlier s later (subst (Ascends Before) cut (node_ascends checked passed node u supplied))

-- ---- what may follow

-- what comes after a structure that follows follows too
pub follows_later : (strict : Bool) (from : Option Structure) (s t : Structure) → follows strict from s ≡ true → Before s t → follows strict from t ≡ true
follows_later strict None s t h before = refl
follows_later true (Some first) s t h before = follows_is true first t (order_strict.transitive first s t (follows_from true first s h) before)
follows_later false (Some first) s t h before = follows_is false first t (λ back. follows_from false first s h (order_strict.transitive s t first before back))

later_follows : (strict : Bool) (s t : Structure) → Before s t → may_follow strict s t ≡ true
later_follows true s t before = follows_is true s t before
later_follows false s t before = follows_is false s t (λ back. order_strict.irreflexive s (order_strict.transitive s t s before back))

earlier_stays : (strict : Bool) (s t : Structure) → Before t s → may_follow strict s t ≡ false
earlier_stays strict s t before = by (may_follow strict s t) refl strict refl
  where
    never : (b : Bool) → b ≡ strict → may_follow b s t ≡ true → ⊥
    never true is h = order_strict.irreflexive s (order_strict.transitive s t s (follows_from true s t h) before)
    never false is h = follows_from false s t h before

    by : (b : Bool) → may_follow strict s t ≡ b → (c : Bool) → c ≡ strict → b ≡ false
    by false is c same = refl
    by true is c same = absurd (never strict refl is)

-- ---- those that come after one of them

cut_those : (strict : Bool) (from : Structure) (earlier later : List Structure) (own : Bool) → may_follow strict from from ≡ own → Ascends Before (earlier ++ from ∷ later)
    → those_after strict from (earlier ++ from ∷ later) ≡ (if own then from ∷ later else later)
cut_those strict from earlier later own itself a =
    filter-append (may_follow strict from) earlier (from ∷ later)
    ∙ ap (λ (ss : List Structure). ss ++ filter (may_follow strict from) (from ∷ later)) front
    ∙ ap (λ (b : Bool). if b then from ∷ filter (may_follow strict from) later else filter (may_follow strict from) later) itself
    ∙ ap (λ (ss : List Structure). if own then from ∷ ss else ss) behind
  where
    none_kept : (xs : List Structure) → ((t : Structure) → IsIn t xs → Before t from) → filter (may_follow strict from) xs ≡ []
    none_kept [] each = refl
    none_kept (x ∷ xs) each =
        ap (λ (b : Bool). if b then x ∷ filter (may_follow strict from) xs else filter (may_follow strict from) xs) (earlier_stays strict from x (each x (inl refl)))
        ∙ none_kept xs (λ t there. each t (inr there))

    front : filter (may_follow strict from) earlier ≡ []
    front = none_kept earlier (ascends_front earlier from later a)

    behind : filter (may_follow strict from) later ≡ later
    behind = filter_all (may_follow strict from) later (λ t there. later_follows strict from t (ascends_behind earlier from later a t there))

repeats : (s : Structure) → may_follow false s s ≡ true
repeats s = follows_is false s s (order_strict.irreflexive s)

no_repeat : (s : Structure) → may_follow true s s ≡ false
no_repeat s = by (may_follow true s s) refl
  where
    by : (b : Bool) → may_follow true s s ≡ b → b ≡ false
    by false is = refl
    by true is = absurd (order_strict.irreflexive s (follows_from true s s is))

module _ (checked : Checked) (passed : IsChecked checked) (u : List ℕ) (supplied : is_supply checked.universe u ≡ true) (from : Structure) (earlier later : List Structure) where
  -- of the structures of a node those from one on, or behind it
  pub node_from : (node : ℕ) → listing_on checked node u ≡ earlier ++ from ∷ later → following_at checked node false from u ≡ from ∷ later
  node_from node cut =
      ap (those_after false from) cut ∙ cut_those false from earlier later true (repeats from) (subst (Ascends Before) cut (node_ascends checked passed node u supplied))

  pub node_after : (node : ℕ) → listing_on checked node u ≡ earlier ++ from ∷ later → following_at checked node true from u ≡ later
  node_after node cut =
      ap (those_after true from) cut ∙ cut_those true from earlier later false (no_repeat from) (subst (Ascends Before) cut (node_ascends checked passed node u supplied))

  -- of those of a rule the ones behind one
  pub rule_after : (number : ℕ) → rule_on checked number u ≡ earlier ++ from ∷ later → those_after true from (rule_on checked number u) ≡ later
  rule_after number cut =
      ap (those_after true from) cut ∙ cut_those true from earlier later false (no_repeat from) (subst (Ascends Before) cut (rule_ascends checked passed number u supplied))

-- ---- without labels

fewer_zeros : (m n : ℕ) → m < n → slice_cmp nat_cmp (replicate m 0) (replicate n 0) ≡ Less
fewer_zeros m zero less = absurd (omega arith)
fewer_zeros zero (suc n) less = refl
fewer_zeros (suc m) (suc n) less = fewer_zeros m n (omega arith)

-- a structure of more atoms comes after one of fewer
pub greater_later : (m n : ℕ) (s t : Structure) → key s ≡ replicate m 0 → key t ≡ replicate n 0 → m < n → Before s t
greater_later m n s t here there less = before_by_key s t ((λ i. slice_cmp nat_cmp (here i) (there i)) ∙ fewer_zeros m n less)
