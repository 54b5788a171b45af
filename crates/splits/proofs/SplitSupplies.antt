-- The two lists of a split of a supply are supplies.
use Rattle.std.proofs.Common.{◌≡◌, ◌⊎◌, ℕ, ◌+◌, ◌<◌, Bool, true, List, [], ◌∷◌, map, filter, length, nat_lt, nat_eq, refl, sym, subst, inl, inr, arith}
use Rattle.std.specs.List.{list_all}
use Rattle.std.proofs.lemmas.Bool.{and_parts, and_from, ltb-true, lt-ltb}
use Rattle.spec_syntax.specs.declared.statement.Universe.{Universe}
use Rattle.spec_syntax.specs.declared.statement.Universe.TheVariants.{Labelled, Unlabelled}
use Rattle.lists.specs.Ascending.{ascends_above}
use Rattle.struct_model.specs.Membership.{is_supply}
use Rattle.lists.specs.Enumeration.{IsIn}
use Rattle.lists.proofs.Within.{in_either}
use Rattle.lists.proofs.Enumerated.{from_map, from_filter}
use Rattle.lists.proofs.AscendingAbove.{rises_above}
use Rattle.struct_model.proofs.SupplyLaws.{zeros_rise}
use Rattle.splits.specs.Splits.{Split, taking, leaving, begins_above, splits}
use Rattle.splits.proofs.SplitLaws.{MakesUp, splits_are}

-- each split takes nothing, or comes of one of the labels after the first
pub split_cases : (label : ℕ) (labels : List ℕ) (split : Split) → IsIn split (splits (label ∷ labels))
    → (split ≡ record { part = []; rest = label ∷ labels }) ⊎ ((other : Split) × IsIn other (splits labels) × ((split ≡ taking label other) ⊎ (split ≡ leaving label other)))
split_cases label labels split (inl same) = inl same
split_cases label labels split (inr there) =
    elim (in_either split (map (taking label) (splits labels)) (map (leaving label) (filter (begins_above label) (splits labels))) there) [
      | inl taken ↦ let found = from_map (taking label) split (splits labels) taken in inr (found.0, found.1, inl found.2)
      | inr left ↦
          let found = from_map (leaving label) split (filter (begins_above label) (splits labels)) left in
          inr (found.0, (from_filter (begins_above label) found.0 (splits labels) found.1).0, inr found.2)
    ]

-- the part and the rest have all labels together
pub split_length : (u : List ℕ) (split : Split) → IsIn split (splits u) → length split.part + length split.rest ≡ length u
split_length [] split (inl same) = subst (λ (s : Split). length s.part + length s.rest ≡ 0) (sym same) (omega arith)
split_length [] split (inr there) = absurd there
split_length (label ∷ labels) split there = elim (split_cases label labels split there) [
  | inl same ↦ subst (λ (s : Split). length s.part + length s.rest ≡ length (label ∷ labels)) (sym same) (omega arith)
  | inr found ↦
      let others : length found.0.part + length found.0.rest ≡ length labels = split_length labels found.0 found.1 in
      elim found.2 [
        | inl same ↦ subst (λ (s : Split). length s.part + length s.rest ≡ length (label ∷ labels)) (sym same) (omega (arith, others))
        | inr same ↦ subst (λ (s : Split). length s.part + length s.rest ≡ length (label ∷ labels)) (sym same) (omega (arith, others))
      ]
]

-- have both lists the property
abbrev Both : (List ℕ → Type 0) → Split → Type 0
Both P split = P split.part × P split.rest

module _ (test : ℕ → Bool) where
  abbrev Passes : List ℕ → Type 0
  Passes ns = list_all test ns ≡ true

  splits_pass : (u : List ℕ) → Passes u → (split : Split) → IsIn split (splits u) → Both Passes split
  splits_pass [] h split (inl same) = subst (Both Passes) (sym same) (refl, refl)
  splits_pass [] h split (inr there) = absurd there
  splits_pass (label ∷ labels) h split there =
      let first = and_parts (test label) (list_all test labels) h in
      elim (split_cases label labels split there) [
        | inl same ↦ subst (Both Passes) (sym same) (refl, h)
        | inr found ↦
            let others : Both Passes found.0 = splits_pass labels first.1 found.0 found.1 in
            elim found.2 [
              | inl same ↦ subst (Both Passes) (sym same) (and_from _ _ first.0 others.0, others.1)
              | inr same ↦ subst (Both Passes) (sym same) (others.0, and_from _ _ first.0 others.1)
            ]
      ]

abbrev Climbs : ℕ → List ℕ → Type 0
Climbs low ns = ascends_above low ns ≡ true

climbs_lower : (low label : ℕ) (ns : List ℕ) → low < label → Climbs label ns → Climbs low ns
climbs_lower low label [] above h = refl
climbs_lower low label (n ∷ ns) above h =
    let both = and_parts (nat_lt label n) (ascends_above n ns) h in
    and_from _ _ (lt-ltb low n (omega (arith, ltb-true label n both.0))) both.1

splits_climb : (low : ℕ) (u : List ℕ) → Climbs low u → (split : Split) → IsIn split (splits u) → Both (Climbs low) split
splits_climb low [] h split (inl same) = subst (Both (Climbs low)) (sym same) (refl, refl)
splits_climb low [] h split (inr there) = absurd there
splits_climb low (label ∷ labels) h split there =
    let first = and_parts (nat_lt low label) (ascends_above label labels) h in
    let above : low < label = ltb-true low label first.0 in
    elim (split_cases label labels split there) [
      | inl same ↦ subst (Both (Climbs low)) (sym same) (refl, h)
      | inr found ↦
          let others : Both (Climbs label) found.0 = splits_climb label labels first.1 found.0 found.1 in
          elim found.2 [
            | inl same ↦ subst (Both (Climbs low)) (sym same) (and_from _ _ first.0 others.0, climbs_lower low label found.0.rest above others.1)
            | inr same ↦ subst (Both (Climbs low)) (sym same) (climbs_lower low label found.0.part above others.0, and_from _ _ first.0 others.1)
          ]
    ]

pub split_supplies : (universe : Universe) (u : List ℕ) → is_supply universe u ≡ true → (split : Split) → MakesUp u split
    → (is_supply universe split.part ≡ true) × (is_supply universe split.rest ≡ true)
split_supplies Unlabelled u h split s = splits_pass (nat_eq 0) u h split ((splits_are u (zeros_rise u h)).complete split s)
split_supplies Labelled u h split s = splits_climb 0 u h split ((splits_are u (rises_above 0 u h)).complete split s)
