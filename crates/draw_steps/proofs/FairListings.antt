-- The lists of components of containers, by their first component.
use Rattle.std.proofs.Common.{◌≡◌, ℕ, suc, ◌<◌, Bool, true, false, ◌&&◌, List, [], ◌∷◌, length, refl, sym, ap, ◌∙◌, subst, inl, true≢false, arith}
use Rattle.std.proofs.lemmas.Bool.{and_parts, and_from}
use Rattle.std.proofs.lemmas.List.{length-map}
use Rattle.lists.specs.Enumeration.{IsIn, Ascends, Enumerated}
use Rattle.lists.proofs.Enumerated as enumerated
use Rattle.spec_syntax.specs.declared.expr.Card.{Card}
use Rattle.spec_syntax.specs.declared.expr.Kind.{Kind}
use Rattle.spec_syntax.specs.Card.{admits}
use Rattle.spec_syntax.specs.Expression.{Expression, Many}
use Rattle.spec_syntax.specs.Rules.{all_nodes, is_spec}
use Rattle.spec_syntax.specs.Grammar.{Grammar}
use Rattle.struct_model.specs.Structure.{Structure, Structures, no_parts, more_parts, part_list, parts_of}
use Rattle.struct_model.specs.Membership.{is_of, are_of, is_supply, supply}
use Rattle.struct_model.specs.Bounded.{listing, number}
use Rattle.struct_model.proofs.OrderLaws.{compares_inside, list_order_strict}
use Rattle.struct_model.proofs.SupplyLaws.{supply_rises}
use Rattle.well_founded.specs.WellFounded.{IsWellFounded}
use Rattle.count_laws.specs.Pointed.{MeetsTimes}
use Rattle.splits.specs.Splits.{splits}
use Rattle.splits.proofs.SplitLaws.{MakesUp, splits_are}
use Rattle.splits.proofs.SplitSupplies.{split_supplies}
use Rattle.listing_laws.specs.Laws.{IsListing, IsNeverEmpty}
use Rattle.listing_laws.specs.Lister.{by_splits}
use Rattle.listing_laws.specs.Numbers.{exactly}
use Rattle.listing_laws.specs.Recursion.{repeated_on}
use Rattle.listing_laws.proofs.Components.{AreWith, IsBuilt, by_chosen_are}
use Rattle.listing_laws.proofs.OrderFacts.{PartsBefore}
use Rattle.listing_laws.proofs.Recursion.{alike, well_founded_is_listed}
use Rattle.listing_laws.proofs.Repeated.{are_repeated, repeated_are}
use Rattle.listing_laws.proofs.UnlabelledSets.{exactly_admits, exactly_is, element_listing, element_is_full}
use Rattle.choice_laws.proofs.Rearranged.{Differs, same_enumerated, alike_meet}

-- on each supply there are as many structures as the number of that size tells
pub same_number : (g : Grammar) (e : Expression) (u : List ℕ) → IsListing g e → is_supply g.universe u ≡ true → length (listing g e u) ≡ number g e (length u)
same_number g e u listed supplied = ap length (alike g e u supplied listed) ∙ length-map (listing g e (supply g.universe (length u))) _

-- ---- each list once

not_before_itself : (ss : List Structure) → PartsBefore ss ss → ⊥
not_before_itself ss before = list_order_strict.irreflexive (part_list (parts_of ss)) (sym (compares_inside.components (parts_of ss) (parts_of ss)) ∙ before)

pub once_each : {X : Type 0} (R : X → X → Type 0) (P : X → Type 0) (xs : List X) → ((x : X) → R x x → ⊥) → Enumerated R P xs → Enumerated Differs P xs
once_each {X} R P xs apart e = record { ascends = differ xs e.ascends; sound = e.sound; complete = e.complete }
  where
    differ : (ys : List X) → Ascends R ys → Ascends Differs ys
    differ [] a = tt
    differ (y ∷ ys) a = ((λ z there same. apart y (subst (R y) (sym same) (a.0 z there))), differ ys a.1)

pub lists_once : (P : List Structure → Type 0) (sss : List (List Structure)) → Enumerated PartsBefore P sss → Enumerated Differs P sss
lists_once P sss e = once_each PartsBefore P sss not_before_itself e

-- ---- a first component and a list of others

module _ (g : Grammar) (container : Kind) (e : Expression) (card : Card) (spec : is_spec g.rules ≡ true) (founded : IsWellFounded g) (there : IsIn (Many container e card) (all_nodes g.rules)) where
  pub never_empty : IsNeverEmpty g e
  never_empty = element_is_full g container e card spec founded there

  pub element_listed : IsListing g e
  element_listed = element_listing g container e card spec founded there

  pub container_listed : (kind : Kind) (other : Card) → IsListing g (Many kind e other)
  container_listed kind other = well_founded_is_listed.containers g container kind e card other spec founded there

  -- a component of the expression, and others that pass
  abbrev pub one_more : (Structures → Bool) → Structures → Bool
  one_more pass no_parts = false
  one_more pass (more_parts s ps) = is_of g e s && pass ps

  pub firsts_with : (pass : Structures → Bool) (others : List ℕ → List (List Structure)) (u : List ℕ) → is_supply g.universe u ≡ true
      → ((v : List ℕ) → is_supply g.universe v ≡ true → Enumerated PartsBefore (AreWith pass v) (others v))
      → Enumerated PartsBefore (AreWith (one_more pass) u) (by_splits (listing g e) others u)
  firsts_with pass others u supplied listed =
      by_chosen_are (is_of g e) (λ s. pass) (one_more pass) built u (MakesUp u) (splits u) (listing g e) (λ s. others)
      (record { listed = splits_are u (supply_rises g.universe u supplied); makes = λ split m. m; each = λ split s m one. m })
      (λ p. true≢false (sym p.0))
      (λ split m. element_listed.lists split.part (split_supplies g.universe u supplied split m).0)
      (λ split m s one. listed split.rest (split_supplies g.universe u supplied split m).1)
    where
      built : IsBuilt (is_of g e) (λ s. pass) (one_more pass)
      built = record { joined = λ s ps first others. and_from _ _ first others; cut = λ s ps all. and_parts _ _ all }

  -- ---- lists of exactly so many

  abbrev pub repeated : ℕ → List ℕ → List (List Structure)
  repeated c u = repeated_on g e (exactly c) u

  pub repeated_listed : (c : ℕ) (u : List ℕ) → is_supply g.universe u ≡ true → Enumerated PartsBefore (AreWith (are_repeated g e (exactly c)) u) (repeated c u)
  repeated_listed c u supplied = repeated_are g e never_empty (listing g e) element_listed.lists (length u) (exactly c) u supplied (omega arith)

  more_exact : (c k : ℕ) → admits (exactly c) k ≡ true → admits (exactly (suc c)) (suc k) ≡ true
  more_exact c k h = subst (λ (n : ℕ). admits (exactly (suc c)) n ≡ true) (ap suc (sym (exactly_is c k h))) (exactly_admits (suc c))

  less_exact : (c k : ℕ) → admits (exactly (suc c)) (suc k) ≡ true → admits (exactly c) k ≡ true
  less_exact c k h =
      let same : suc k ≡ suc c = exactly_is (suc c) (suc k) h in
      let back : k ≡ c = omega (arith, same) in
      subst (λ (n : ℕ). admits (exactly c) n ≡ true) (sym back) (exactly_admits c)

  none_is_not_more : (c : ℕ) → admits (exactly (suc c)) 0 ≡ true → ⊥
  none_is_not_more c h = let same : 0 ≡ suc c = exactly_is (suc c) 0 h in omega (arith, same)

  to_more : (c : ℕ) (ps : Structures) → one_more (are_repeated g e (exactly c)) ps ≡ true → are_repeated g e (exactly (suc c)) ps ≡ true
  to_more c no_parts passed = absurd (true≢false (sym passed))
  to_more c (more_parts s ps) passed =
      let both = and_parts (is_of g e s) (are_repeated g e (exactly c) ps) passed in
      let others = and_parts (admits (exactly c) (length (part_list ps))) (are_of g e ps) both.1 in
      and_from _ _ (more_exact c (length (part_list ps)) others.0) (and_from _ _ both.0 others.1)

  from_more : (c : ℕ) (ps : Structures) → are_repeated g e (exactly (suc c)) ps ≡ true → one_more (are_repeated g e (exactly c)) ps ≡ true
  from_more c no_parts passed = absurd (none_is_not_more c (and_parts _ _ passed).0)
  from_more c (more_parts s ps) passed =
      let both = and_parts (admits (exactly (suc c)) (suc (length (part_list ps)))) (is_of g e s && are_of g e ps) passed in
      let ones = and_parts (is_of g e s) (are_of g e ps) both.1 in
      and_from _ _ ones.0 (and_from _ _ (less_exact c (length (part_list ps)) both.0) ones.1)

  -- a list of one more is a first component before a list
  pub repeated_meet : (c : ℕ) (u : List ℕ) → is_supply g.universe u ≡ true → MeetsTimes 1 (by_splits (listing g e) (repeated c) u) (repeated (suc c) u)
  repeated_meet c u supplied =
      alike_meet (by_splits (listing g e) (repeated c) u) (repeated (suc c) u)
      (same_enumerated (AreWith (are_repeated g e (exactly (suc c))) u) (by_splits (listing g e) (repeated c) u) (repeated (suc c) u)
      (lists_once (AreWith (are_repeated g e (exactly (suc c))) u) (by_splits (listing g e) (repeated c) u)
      (enumerated.same_property PartsBefore (AreWith (one_more (are_repeated g e (exactly c))) u) (AreWith (are_repeated g e (exactly (suc c))) u) (by_splits (listing g e) (repeated c) u)
      (firsts_with (are_repeated g e (exactly c)) (repeated c) u supplied (λ v given. repeated_listed c v given))
      (λ ss p. (to_more c (parts_of ss) p.0, p.1)) (λ ss p. (from_more c (parts_of ss) p.0, p.1))))
      (lists_once (AreWith (are_repeated g e (exactly (suc c))) u) (repeated (suc c) u) (repeated_listed (suc c) u supplied)))

  -- no components: the empty list, where there is no label
  pub none_repeated : (u : List ℕ) → is_supply g.universe u ≡ true → 0 < length (repeated 0 u) → repeated 0 u ≡ [] ∷ []
  none_repeated [] supplied some = refl
  none_repeated (label ∷ left) supplied some = absurd (by (repeated 0 (label ∷ left)) refl some)
    where
      never : (ss : List Structure) → AreWith (are_repeated g e (exactly 0)) (label ∷ left) ss → ⊥
      never [] p = no_label p.1
        where
          no_label : [] ≡ label ∷ left → ⊥
          no_label h = cc
      never (s ∷ ss) p = let same : suc (length (part_list (parts_of ss))) ≡ 0 = exactly_is 0 (suc (length (part_list (parts_of ss)))) (and_parts _ _ p.0).0 in omega (arith, same)

      by : (sss : List (List Structure)) → repeated 0 (label ∷ left) ≡ sss → 0 < length sss → ⊥
      by [] is some = omega (arith, some)
      by (ss ∷ sss) is some = never ss ((repeated_listed 0 (label ∷ left) supplied).sound ss (subst (IsIn ss) (sym is) (inl refl)))
