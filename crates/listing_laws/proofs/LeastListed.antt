-- The laws of labelled Sets, PowerSets and Cycles.
use Rattle.std.proofs.Common.{◌≡◌, ℕ, zero, suc, ◌<◌, ◌≤◌, true, false, List, [], ◌∷◌, map, length, refl, sym, ap, ◌∙◌, true≢false, arith}
use Rattle.std.specs.Prelude.{if◌then◌else◌, IsTrue}
use Rattle.spec_syntax.specs.declared.statement.Universe.{Universe}
use Rattle.spec_syntax.specs.declared.statement.Universe.TheVariants.{Labelled}
use Rattle.spec_syntax.specs.declared.expr.Card.{Card}
use Rattle.spec_syntax.specs.declared.expr.Kind.{Kind}
use Rattle.spec_syntax.specs.declared.expr.Kind.TheVariants as kind
use Rattle.spec_syntax.specs.Expression as expr
use Rattle.spec_syntax.specs.Expression.{Expression}
use Rattle.spec_syntax.specs.Rules.{all_nodes, is_spec}
use Rattle.spec_syntax.specs.Grammar.{Grammar}
use Rattle.lists.specs.Enumeration.{IsIn}
use Rattle.struct_model.specs.declared.tree.Form5.TheVariants as form
use Rattle.struct_model.specs.Structure.{Structure, Structures, Tup}
use Rattle.struct_model.specs.Membership.{is_of, supply, is_supply}
use Rattle.struct_model.proofs.SupplyLaws.{supply_is}
use Rattle.lists.proofs.FlatMaps.{same_made}
use Rattle.splits.specs.Splits.{Split, splits}
use Rattle.splits.proofs.SplitSupplies.{split_length}
use Rattle.struct_model.specs.Listing.{Lists}
use Rattle.struct_model.specs.Bounded.{listing}
use Rattle.well_founded.specs.WellFounded.{IsWellFounded}
use Rattle.listing_laws.specs.Laws.{IsListing, IsNeverEmpty}
use Rattle.listing_laws.specs.Lister.{sequence, each_before, after_one, admits_some, list_repeated}
use Rattle.listing_laws.specs.Relabelled.{relabelled}
use Rattle.listing_laws.specs.Recursion.{repeated_on}
use Rattle.listing_laws.specs.SetListing.{set, power_set}
use Rattle.listing_laws.specs.LeastFirst.{cycle, by_least, list_set, list_cycle, sets_on, cycles_on, LabelledContainersAreListed}
use Rattle.listing_laws.proofs.Components.{IsTogether, together_are}
use Rattle.listing_laws.proofs.Repeated.{sequences_are, repeated_are}
use Rattle.listing_laws.proofs.Recursion.{alike, alike_together, enough_repeated, well_founded_is_listed}
use Rattle.listing_laws.proofs.UnlabelledSets.{element_listing, element_is_full}
use Rattle.listing_laws.proofs.LeastSets.{are_set, sets_are}
use Rattle.listing_laws.proofs.LeastCycles.{are_cycle, cycles_are}

module _ (g : Grammar) (e : Expression) (never_empty : IsNeverEmpty g e) (universe : g.universe ≡ Labelled) (is_listing : IsListing g e) where
  set_together : (card : Card) → IsTogether g form.Set (expr.Many kind.Set e card) (are_set g e never_empty false card)
  set_together card = record { passes = λ ps. refl; is_list = is_list }
    where
      is_list : (s : Structure) → is_of g (expr.Many kind.Set e card) s ≡ true → (ps : Structures) × (s ≡ Tup form.Set ps)
      is_list (Tup form.Set ps) of = (ps, refl)
      is_list s of = absurd (true≢false (sym of))

  power_set_together : (card : Card) → IsTogether g form.PowerSet (expr.Many kind.PowerSet e card) (are_set g e never_empty true card)
  power_set_together card = record { passes = λ ps. refl; is_list = is_list }
    where
      is_list : (s : Structure) → is_of g (expr.Many kind.PowerSet e card) s ≡ true → (ps : Structures) × (s ≡ Tup form.PowerSet ps)
      is_list (Tup form.PowerSet ps) of = (ps, refl)
      is_list s of = absurd (true≢false (sym of))

  cycle_together : (card : Card) → IsTogether g form.Cycle (expr.Many kind.Cycle e card) (are_cycle g e never_empty card)
  cycle_together card = record { passes = λ ps. refl; is_list = is_list }
    where
      is_list : (s : Structure) → is_of g (expr.Many kind.Cycle e card) s ≡ true → (ps : Structures) × (s ≡ Tup form.Cycle ps)
      is_list (Tup form.Cycle ps) of = (ps, refl)
      is_list s of = absurd (true≢false (sym of))

  labels_of : (u : List ℕ) → is_supply g.universe u ≡ true → is_supply Labelled u ≡ true
  labels_of u supplied = ap (λ (all : Universe). is_supply all u) (sym universe) ∙ supplied

  first_lists : (v : List ℕ) → is_supply Labelled v ≡ true → Lists g e v (listing g e v)
  first_lists v given = is_listing.lists v (ap (λ (all : Universe). is_supply all v) universe ∙ given)

  pub set_lists : (card : Card) (u : List ℕ) → is_supply g.universe u ≡ true → Lists g (expr.Many kind.Set e card) u (map set (list_set (listing g e) (length u) card u))
  set_lists card u supplied =
      together_are g form.Set (expr.Many kind.Set e card) (are_set g e never_empty false card) (set_together card) u (list_set (listing g e) (length u) card u)
      (sets_are g e never_empty false (listing g e) first_lists (length u) card u (labels_of u supplied) (omega arith))

  pub power_set_lists : (card : Card) (u : List ℕ) → is_supply g.universe u ≡ true
      → Lists g (expr.Many kind.PowerSet e card) u (map power_set (list_set (listing g e) (length u) card u))
  power_set_lists card u supplied =
      together_are g form.PowerSet (expr.Many kind.PowerSet e card) (are_set g e never_empty true card) (power_set_together card) u
      (list_set (listing g e) (length u) card u)
      (sets_are g e never_empty true (listing g e) first_lists (length u) card u (labels_of u supplied) (omega arith))

  pub cycle_lists : (card : Card) (u : List ℕ) → is_supply g.universe u ≡ true → Lists g (expr.Many kind.Cycle e card) u (map cycle (list_cycle (listing g e) (length u) card u))
  cycle_lists card u supplied =
      together_are g form.Cycle (expr.Many kind.Cycle e card) (are_cycle g e never_empty card) (cycle_together card) u (list_cycle (listing g e) (length u) card u)
      (cycles_are g e never_empty (listing g e) universe is_listing.lists (length u) card u (labels_of u supplied) (omega arith))

-- ---- by the least label

same_others : (first : List ℕ → List Structure) (others also : List ℕ → List (List Structure)) (label : ℕ) (left : List ℕ)
    → ((v : List ℕ) → length v ≤ length left → others v ≡ also v) → by_least first others (label ∷ left) ≡ by_least first also (label ∷ left)
same_others first others also label left same =
    same_made (λ (split : Split). each_before (first (label ∷ split.part)) (others split.rest)) (λ (split : Split). each_before (first (label ∷ split.part)) (also split.rest)) (splits left)
    (λ split there. ap (each_before (first (label ∷ split.part))) (same split.rest (let total = split_length left split there in omega arith)))

-- how many components may come at most doesn't matter, where it is no less than the labels
enough_set : (first : List ℕ → List Structure) (n m : ℕ) (card : Card) (u : List ℕ) → length u ≤ n → length u ≤ m → list_set first n card u ≡ list_set first m card u
enough_set first n m card [] h k = refl
enough_set first zero m card (label ∷ left) h k = absurd (omega arith)
enough_set first (suc n) zero card (label ∷ left) h k = absurd (omega arith)
enough_set first (suc n) (suc m) card (label ∷ left) h k =
    ap (λ (some : List (List Structure)). if admits_some card then some else [])
    (same_others first (list_set first n (after_one card)) (list_set first m (after_one card)) label left
    (λ v fewer. enough_set first n m (after_one card) v (omega (arith, fewer, h)) (omega (arith, fewer, k))))

some_set : (g : Grammar) (e : Expression) (card : Card) (u : List ℕ) → 0 < length u
    → sets_on g e card u ≡ (if admits_some card then by_least (listing g e) (sets_on g e (after_one card)) u else [])
some_set g e card [] some = absurd (omega arith)
some_set g e card (label ∷ left) some =
    ap (λ (lists : List (List Structure)). if admits_some card then lists else [])
    (same_others (listing g e) (list_set (listing g e) (length left) (after_one card)) (sets_on g e (after_one card)) label left
    (λ v fewer. enough_set (listing g e) (length left) (length v) (after_one card) v fewer (omega arith)))

some_cycle : (g : Grammar) (e : Expression) (card : Card) (u : List ℕ) → 0 < length u
    → cycles_on g e card u ≡ (if admits_some card then by_least (listing g e) (repeated_on g e (after_one card)) u else [])
some_cycle g e card [] some = absurd (omega arith)
some_cycle g e card (label ∷ left) some =
    ap (λ (lists : List (List Structure)). if admits_some card then lists else [])
    (same_others (listing g e) (list_repeated (listing g e) (length left) (after_one card)) (repeated_on g e (after_one card)) label left
    (λ v fewer. enough_repeated (listing g e) (length left) (length v) (after_one card) v fewer (omega arith)))

-- ---- the laws

module _ (g : Grammar) (container : Kind) (e : Expression) (card : Card) (spec : IsTrue (is_spec g.rules)) (founded : IsWellFounded g) (there : IsIn (expr.Many container e card) (all_nodes g.rules)) where
  containers_are_listed : (kind : Kind) (other : Card) → IsListing g (expr.Many kind e other)
  containers_are_listed kind other = well_founded_is_listed.containers g container kind e card other spec founded there

  sequence_listed : (other : Card) (u : List ℕ) → is_supply g.universe u ≡ true → listing g (expr.Many kind.Sequence e other) u ≡ map sequence (repeated_on g e other u)
  sequence_listed other u supplied =
      sym ((containers_are_listed kind.Sequence other).only u (map sequence (repeated_on g e other u)) supplied
      (sequences_are g e other u (repeated_on g e other u)
      (repeated_are g e (element_is_full g container e card spec founded there) (listing g e) (element_listing g container e card spec founded there).lists (length u) other u supplied
      (omega arith))))

  sequences_alike : (other : Card) (u : List ℕ) → is_supply g.universe u ≡ true
      → repeated_on g e other u ≡ map (map (relabelled u)) (repeated_on g e other (supply g.universe (length u)))
  sequences_alike other u supplied =
      let many : Expression = expr.Many kind.Sequence e other in
      let first : List ℕ = supply g.universe (length u) in
      alike_together form.Sequence u (listing g many u) (listing g many first) (repeated_on g e other u) (repeated_on g e other first)
      (alike g many u supplied (containers_are_listed kind.Sequence other)) (sequence_listed other u supplied) (sequence_listed other first (supply_is g.universe (length u)))

  module _ (universe : g.universe ≡ Labelled) where
    set_listed : (other : Card) (u : List ℕ) → is_supply g.universe u ≡ true → listing g (expr.Many kind.Set e other) u ≡ map set (sets_on g e other u)
    set_listed other u supplied =
        sym ((containers_are_listed kind.Set other).only u (map set (sets_on g e other u)) supplied
        (set_lists g e (element_is_full g container e card spec founded there) universe (element_listing g container e card spec founded there) other u supplied))

    power_set_listed : (other : Card) (u : List ℕ) → is_supply g.universe u ≡ true → listing g (expr.Many kind.PowerSet e other) u ≡ map power_set (sets_on g e other u)
    power_set_listed other u supplied =
        sym ((containers_are_listed kind.PowerSet other).only u (map power_set (sets_on g e other u)) supplied
        (power_set_lists g e (element_is_full g container e card spec founded there) universe (element_listing g container e card spec founded there) other u supplied))

    cycle_listed : (other : Card) (u : List ℕ) → is_supply g.universe u ≡ true → listing g (expr.Many kind.Cycle e other) u ≡ map cycle (cycles_on g e other u)
    cycle_listed other u supplied =
        sym ((containers_are_listed kind.Cycle other).only u (map cycle (cycles_on g e other u)) supplied
        (cycle_lists g e (element_is_full g container e card spec founded there) universe (element_listing g container e card spec founded there) other u supplied))

    sets_alike : (other : Card) (u : List ℕ) → is_supply g.universe u ≡ true → sets_on g e other u ≡ map (map (relabelled u)) (sets_on g e other (supply g.universe (length u)))
    sets_alike other u supplied =
        let many : Expression = expr.Many kind.Set e other in
        let first : List ℕ = supply g.universe (length u) in
        alike_together form.Set u (listing g many u) (listing g many first) (sets_on g e other u) (sets_on g e other first)
        (alike g many u supplied (containers_are_listed kind.Set other)) (set_listed other u supplied) (set_listed other first (supply_is g.universe (length u)))

    cycles_alike : (other : Card) (u : List ℕ) → is_supply g.universe u ≡ true → cycles_on g e other u ≡ map (map (relabelled u)) (cycles_on g e other (supply g.universe (length u)))
    cycles_alike other u supplied =
        let many : Expression = expr.Many kind.Cycle e other in
        let first : List ℕ = supply g.universe (length u) in
        alike_together form.Cycle u (listing g many u) (listing g many first) (cycles_on g e other u) (cycles_on g e other first)
        (alike g many u supplied (containers_are_listed kind.Cycle other)) (cycle_listed other u supplied) (cycle_listed other first (supply_is g.universe (length u)))

pub labelled_containers_are_listed : LabelledContainersAreListed
labelled_containers_are_listed = record {
  sequences = λ g container e card other u spec founded there supplied. sequence_listed g container e card spec founded there other u supplied;
  sets = λ g container e card other u spec founded universe there supplied. set_listed g container e card spec founded there universe other u supplied;
  power_sets = λ g container e card other u spec founded universe there supplied. power_set_listed g container e card spec founded there universe other u supplied;
  cycles = λ g container e card other u spec founded universe there supplied. cycle_listed g container e card spec founded there universe other u supplied;
  empty_set = λ g e card. refl;
  some_set = some_set;
  empty_cycle = λ g e card. refl;
  some_cycle = some_cycle;
  alike_sequences = λ g container e card other u spec founded there supplied. sequences_alike g container e card spec founded there other u supplied;
  alike_sets = λ g container e card other u spec founded universe there supplied. sets_alike g container e card spec founded there universe other u supplied;
  alike_cycles = λ g container e card other u spec founded universe there supplied. cycles_alike g container e card spec founded there universe other u supplied;
}
