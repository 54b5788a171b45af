-- The parts of a supply, length by length.
use Rattle.std.proofs.Common.{◌≡◌, ℕ, ◌+◌, ◌-◌, ◌≤◌, true, nat_le, List, [], ◌∷◌, flat_map, length, sym, ap, ◌∙◌, subst, arith}
use Rattle.std.specs.List.{range_with_len}
use Rattle.std.proofs.lemmas.Bool.{and_parts, and_from, leb-true, le-leb}
use Rattle.lists.specs.Enumeration.{IsIn, Ascends}
use Rattle.lists.proofs.Enumerated as enumerated
use Rattle.lists.proofs.Enumerated.{from_filter}
use Rattle.lists.proofs.NumberOrder.{not_before_itself}
use Rattle.spec_syntax.specs.declared.statement.Universe.{Universe}
use Rattle.spec_syntax.specs.declared.statement.Universe.TheVariants.{Labelled, Unlabelled}
use Rattle.struct_model.specs.Membership.{is_supply}
use Rattle.splits.specs.Splits.{Split, splits}
use Rattle.splits.specs.Parts.{parts, has_length}
use Rattle.splits.specs.Laws.{IsSplit, PartBefore}
use Rattle.splits.proofs.SplitsListed.{splits_are_listed, parts_are_listed}
use Rattle.splits.proofs.SplitSupplies.{split_length}
use Rattle.splits.proofs.NthPart.{labels_counted, zeros_part}
use Rattle.count_laws.proofs.MetTimes.{Alike}
use Rattle.listing_laws.specs.Numbers.{ways}
use Rattle.listing_laws.proofs.Ranges.{Less as Below, IsBetween, range_is}
use Rattle.struct_walk.proofs.PartLabels.{zeros_are}
use Rattle.choice_laws.proofs.Rearranged.{Differs, same_enumerated}

module _ (universe : Universe) (u : List ℕ) (supplied : is_supply universe u ≡ true) where
  -- a part of so many labels, and what remains
  pub record IsPartOf (d : ℕ) (split : Split) : Type 0 where
    pub part : is_supply universe split.part ≡ true
    pub rest : is_supply universe split.rest ≡ true
    pub part_length : length split.part ≡ d
    pub rest_length : length split.rest ≡ length u - d
    pub is_split : IsIn split (splits u)

  pub part_is : (d : ℕ) (split : Split) → IsIn split (parts d d u) → IsPartOf d split
  part_is d split there =
      let found = from_filter (has_length d d) split (splits u) there in
      let is = (splits_are_listed universe u supplied).sound split found.0 in
      let both = and_parts (nat_le d (length split.part)) (nat_le (length split.part) d) found.1 in
      let long : length split.part ≡ d = omega (arith, leb-true d (length split.part) both.0, leb-true (length split.part) d both.1) in
      record {
        part = is.part;
        rest = is.rest;
        part_length = long;
        rest_length = omega (arith, split_length u split found.0, long);
        is_split = found.0;
      }

  -- in how many ways the part can be taken
  pub parts_number : (d : ℕ) → d ≤ length u → length (parts d d u) ≡ ways universe (length u) d
  parts_number d within = by universe supplied
    where
      by : (universe : Universe) → is_supply universe u ≡ true → length (parts d d u) ≡ ways universe (length u) d
      by Labelled is = labels_counted 0 d u is
      by Unlabelled is = ap (λ v. length (parts d d v)) (sym (zeros_are u is)) ∙ ap length (zeros_part (length u) d within)

  -- ---- all of them

  differ : (xs : List Split) → Ascends PartBefore xs → Ascends Differs xs
  differ [] a = tt
  differ (x ∷ xs) a = ((λ y there same. not_itself x (subst (λ z. PartBefore x z) (sym same) (a.0 y there))), differ xs a.1)
    where
      not_itself : (x : Split) → PartBefore x x → ⊥
      not_itself x before = not_before_itself x.part before

  abbrev OfLength : ℕ → Split → Type 0
  OfLength d split = IsSplit universe u split × (has_length d d split ≡ true)

  long_as : (d : ℕ) (split : Split) → OfLength d split → length split.part ≡ d
  long_as d split of =
      let both = and_parts (nat_le d (length split.part)) (nat_le (length split.part) d) of.1 in
      omega (arith, leb-true d (length split.part) both.0, leb-true (length split.part) d both.1)

  pub by_lengths : Alike (flat_map (λ d. parts d d u) (range_with_len 0 (length u + 1))) (splits u)
  by_lengths =
      same_enumerated (IsSplit universe u) (flat_map (λ d. parts d d u) (range_with_len 0 (length u + 1))) (splits u)
      (enumerated.made Below (IsBetween 0 (length u + 1)) Differs OfLength (IsSplit universe u) (λ d. parts d d u) (range_with_len 0 (length u + 1)) (range_is 0 (length u + 1))
      (λ d between. let listed = parts_are_listed universe u d d supplied in record { ascends = differ (parts d d u) listed.ascends; sound = listed.sound; complete = listed.complete })
      (λ c d between within less a b of also same. omega (arith, less, long_as c a of, long_as d b also, ap (λ (split : Split). length split.part) same))
      (λ d split between of. of.0)
      (λ split is.
      let there = (splits_are_listed universe u supplied).complete split is in (
        length split.part,
        (omega arith, omega (arith, split_length u split there)),
        (is, and_from _ _ (le-leb (length split.part) (length split.part) (omega arith)) (le-leb (length split.part) (length split.part) (omega arith))),
      )))
      (let listed = splits_are_listed universe u supplied in record { ascends = differ (splits u) listed.ascends; sound = listed.sound; complete = listed.complete })
