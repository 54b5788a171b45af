-- The structures of a Sequence are the lists of components of its element, as many as the bound admits.
use Rattle.std.proofs.Common.{◌≡◌, ℕ, zero, suc, ◌+◌, ◌-◌, ◌<◌, ◌≤◌, Bool, true, false, ◌&&◌, nat_le, List, [], ◌∷◌, ◌++◌, map, length, length-append, refl, sym, ap, ◌∙◌, true≢false, arith, Option, Some, None, inl, inr}
use Rattle.std.specs.Prelude.{if◌then◌else◌}
use Rattle.std.specs.Option.{option_map}
use Rattle.std.proofs.lemmas.Bool.{and_parts, and_from, cases_lt}
use Rattle.std.proofs.lemmas.Bool.Decides.{nat_tests}
use Rattle.spec_syntax.specs.declared.expr.Card.{Card}
use Rattle.spec_syntax.specs.declared.expr.Kind.TheVariants as kind
use Rattle.spec_syntax.specs.Card.{is_within, admits}
use Rattle.spec_syntax.specs.Expression as expr
use Rattle.spec_syntax.specs.Expression.{Expression}
use Rattle.spec_syntax.specs.Grammar.{Grammar}
use Rattle.struct_model.specs.declared.tree.Form5.TheVariants as form
use Rattle.lists.specs.Ascending.{ascending}
use Rattle.struct_model.specs.Structure.{Structure, Tup, Structures, no_parts, part_list, parts_of, labels, labels_of_parts}
use Rattle.struct_model.specs.Membership.{is_of, are_of, is_supply}
use Rattle.lists.specs.Enumeration.{Enumerated}
use Rattle.struct_model.specs.Listing.{IsOne, Lists}
use Rattle.struct_model.proofs.ListingLaws.{one_listing}
use Rattle.splits.specs.Splits.{Split, splits}
use Rattle.splits.specs.Parts.{has_length, parts}
use Rattle.listing_laws.specs.Lister.{sequence, by_parts, after_one, admits_some, list_empty, list_repeated}
use Rattle.splits.specs.Laws.{PartBefore}
use Rattle.listing_laws.specs.Laws.{IsNeverEmpty, ListsParts, SequenceIsListed}
use Rattle.lists.proofs.Enumerated as enumerated
use Rattle.lists.proofs.Ascending.{Rises}
use Rattle.lists.proofs.Ascending.{length-ascending}
use Rattle.listing_laws.proofs.Sizes.{size_is}
use Rattle.splits.proofs.SplitLaws.{MakesUp, splits_are}
use Rattle.struct_model.proofs.SupplyLaws.{supply_rises}
use Rattle.splits.proofs.SplitSupplies.{split_supplies}
use Rattle.listing_laws.proofs.OrderFacts.{PartsBefore}
use Rattle.listing_laws.proofs.Components.{AreWith, IsBuilt, by_chosen_are, IsTogether, together_are, components_from}

-- ---- bounds

within_after : (high : Option ℕ) (n : ℕ) → is_within high 1 ≡ true → is_within (option_map (λ most. most - 1) high) n ≡ is_within high (suc n)
within_after None n h = refl
within_after (Some most) n h = grind (arith, nat_tests)

low_after : (low n : ℕ) → nat_le (low - 1) n ≡ nat_le low (suc n)
low_after low n = grind (arith, nat_tests)

-- where a component is admitted, the others have the bound after it
pub admits-after : (card : Card) (n : ℕ) → admits_some card ≡ true → admits (after_one card) n ≡ admits card (suc n)
admits-after card n h = λ i. low_after card.low n i && within_after card.high n h i

within_some : (high : Option ℕ) (n : ℕ) → is_within high (suc n) ≡ true → is_within high 1 ≡ true
within_some None n h = refl
within_some (Some most) n h = grind (arith, nat_tests)

-- a bound that admits components admits one
pub admits_one : (card : Card) (n : ℕ) → admits card (suc n) ≡ true → admits_some card ≡ true
admits_one card n h = within_some card.high n (and_parts (nat_le card.low (suc n)) (is_within card.high (suc n)) h).1

-- ---- parts of a supply

-- the split makes up the supply, and its part has from low to high labels
abbrev pub MakesBetween : ℕ → ℕ → List ℕ → Split → Type 0
MakesBetween low high u split = MakesUp u split × (has_length low high split ≡ true)

pub parts_are : (low high : ℕ) (u : List ℕ) → Rises u → Enumerated PartBefore (MakesBetween low high u) (parts low high u)
parts_are low high u rises = enumerated.filtered PartBefore (MakesUp u) (has_length low high) (splits u) (splits_are u rises)

-- the part and the rest have all labels together
pub split_size : (u : List ℕ) (split : Split) → MakesUp u split → length split.part + length split.rest ≡ length u
split_size u split s = sym (length-append split.part split.rest) ∙ sym (length-ascending (split.part ++ split.rest)) ∙ ap length s.whole

pub has_some : (u : List ℕ) (split : Split) → MakesUp u split → 0 < length split.part → has_length 1 (length u) split ≡ true
has_some u split s some = grind (arith, nat_tests, split_size u split s)

pub some_in : (high : ℕ) (split : Split) → has_length 1 high split ≡ true → 0 < length split.part
some_in high split h = by (length split.part) (and_parts (nat_le 1 (length split.part)) (nat_le (length split.part) high) h).0
  where
    by : (n : ℕ) → nat_le 1 n ≡ true → 0 < n
    by n h = grind (arith, nat_tests)

-- without the part there are fewer labels
pub rest_is_less : (u : List ℕ) (split : Split) → MakesBetween 1 (length u) u split → length split.rest < length u
rest_is_less u split m = omega (arith, split_size u split m.0, some_in (length u) split m.1)

-- ---- the components of a Sequence

module _ (g : Grammar) (e : Expression) where
  -- is each component one of the expression, and does their number keep the bound
  abbrev pub are_repeated : Card → Structures → Bool
  are_repeated card ps = admits card (length (part_list ps)) && are_of g e ps

  abbrev pub ListsRepeated : Card → List ℕ → List (List Structure) → Type 0
  ListsRepeated card u sss = Enumerated PartsBefore (AreWith (are_repeated card) u) sss

  one_more : (card : Card) → admits_some card ≡ true → IsBuilt (is_of g e) (λ s. are_repeated (after_one card)) (are_repeated card)
  one_more card admitted = record {
    joined = λ s ps first others.
        let both = and_parts (admits (after_one card) (length (part_list ps))) (are_of g e ps) others in
        and_from _ _ (sym (admits-after card (length (part_list ps)) admitted) ∙ both.0) (and_from _ _ first both.1);
    cut = λ s ps all.
        let both = and_parts (admits card (suc (length (part_list ps)))) (is_of g e s && are_of g e ps) all in
        let ones = and_parts (is_of g e s) (are_of g e ps) both.1 in
        (ones.0, and_from _ _ (admits-after card (length (part_list ps)) admitted ∙ both.0) ones.1);
  }

  pub sequence_together : (card : Card) → IsTogether g form.Sequence (expr.Many kind.Sequence e card) (are_repeated card)
  sequence_together card = record { passes = λ ps. refl; is_list = is_list }
    where
      is_list : (s : Structure) → is_of g (expr.Many kind.Sequence e card) s ≡ true → (ps : Structures) × (s ≡ Tup form.Sequence ps)
      is_list (Tup form.Sequence ps) of = (ps, refl)
      is_list s of = absurd (true≢false (sym of))

  -- put together, the lists of components are the structures of the Sequence
  pub sequences_are : (card : Card) (u : List ℕ) (sss : List (List Structure)) → ListsRepeated card u sss → Lists g (expr.Many kind.Sequence e card) u (map sequence sss)
  sequences_are card u sss h = together_are g form.Sequence (expr.Many kind.Sequence e card) (are_repeated card) (sequence_together card) u sss h

  -- and the other way round
  pub repeated_from : (card : Card) (u : List ℕ) (sss : List (List Structure)) → Lists g (expr.Many kind.Sequence e card) u (map sequence sss) → ListsRepeated card u sss
  repeated_from card u sss h = components_from g form.Sequence (expr.Many kind.Sequence e card) (are_repeated card) (sequence_together card) u sss h

  no_labels : (ls : List ℕ) → ascending ls ≡ [] → length ls ≡ 0
  no_labels ls h = sym (length-ascending ls) ∙ ap length h

  pub some_label : (label : ℕ) (ls : List ℕ) → ascending [] ≡ label ∷ ls → ⊥
  some_label label ls h = cc

  -- on a label or more there is nothing where the bound admits no component
  pub none_repeated : (card : Card) (u : List ℕ) → 0 < length u → admits_some card ≡ false → ListsRepeated card u []
  none_repeated card [] some refused = absurd (omega arith)
  none_repeated card (label ∷ ls) some refused = enumerated.none PartsBefore (AreWith (are_repeated card) (label ∷ ls)) never
    where
      never : (ss : List Structure) → AreWith (are_repeated card) (label ∷ ls) ss → ⊥
      never [] p = some_label label ls p.1
      never (s ∷ ss) p =
          let both = and_parts (admits card (suc (length (part_list (parts_of ss))))) (is_of g e s && are_of g e (parts_of ss)) p.0 in
          true≢false (sym (admits_one card (length (part_list (parts_of ss))) both.0) ∙ refused)

  module _ (never_empty : IsNeverEmpty g e) where
    pub some_size : (u : List ℕ) (s : Structure) → IsOne g e u s → 0 < length u
    some_size u s one = elim (cases_lt 0 (length u)) [
      | inl some ↦ some
      | inr none ↦ absurd (never_empty s one.0 (omega (arith, none, size_is u s one.1)))
    ]

    pub none_only : (card : Card) (ss : List Structure) → AreWith (are_repeated card) [] ss → ss ≡ []
    none_only card [] p = refl
    none_only card (s ∷ ss) p =
        let both = and_parts (admits card (suc (length (part_list (parts_of ss))))) (is_of g e s && are_of g e (parts_of ss)) p.0 in
        absurd (never_empty s (and_parts (is_of g e s) (are_of g e (parts_of ss)) both.1).0
        (omega (arith, length-append (labels s) (labels_of_parts (parts_of ss)), no_labels (labels s ++ labels_of_parts (parts_of ss)) p.1)))

    -- on no label it is the empty list, where the bound admits that
    pub empty_repeated : (card : Card) → ListsRepeated card [] (list_empty card)
    empty_repeated card = by (admits card 0) refl
      where
        by : (b : Bool) → admits card 0 ≡ b → ListsRepeated card [] (if b then [] ∷ [] else [])
        by true admitted = enumerated.one PartsBefore (AreWith (are_repeated card) []) [] (and_from _ _ admitted refl, refl) (none_only card)
        by false refused = enumerated.none PartsBefore (AreWith (are_repeated card) []) never
          where
            never : (ss : List Structure) → AreWith (are_repeated card) [] ss → ⊥
            never ss p =
                let none : ss ≡ [] = none_only card ss p in
                let all : are_repeated card no_parts ≡ true = ap (λ (ts : List Structure). are_repeated card (parts_of ts)) (sym none) ∙ p.0 in
                true≢false (sym (and_parts (admits card 0) true all).0 ∙ refused)

    -- on a label or more, where the bound admits a component, it goes part by part of the supply
    pub some_repeated : (card : Card) (u : List ℕ) (first : List ℕ → List Structure) (others : List ℕ → List (List Structure))
        → Rises u → 0 < length u → admits_some card ≡ true
        → ((split : Split) → MakesBetween 1 (length u) u split → Lists g e split.part (first split.part))
        → ((split : Split) → MakesBetween 1 (length u) u split → ListsRepeated (after_one card) split.rest (others split.rest))
        → ListsRepeated card u (by_parts 1 (length u) first others u)
    some_repeated card u first others rises some admitted f o =
        by_chosen_are (is_of g e) (λ s. are_repeated (after_one card)) (are_repeated card) (one_more card admitted) u (MakesBetween 1 (length u) u) (parts 1 (length u) u) first (λ s. others)
        (record {
          listed = parts_are 1 (length u) u rises;
          makes = λ split m. m.0;
          each = λ split s makes one. (makes, has_some u split makes (some_size split.part s one));
        })
        (none_there u some) f (λ split m s one. o split m)
      where
        none_there : (v : List ℕ) → 0 < length v → AreWith (are_repeated card) v [] → ⊥
        none_there [] more p = omega (arith, more)
        none_there (label ∷ ls) more p = some_label label ls p.1

    -- the lists of components, where the first ones are listed on each supply
    pub repeated_are : (first : List ℕ → List Structure) → ((v : List ℕ) → is_supply g.universe v ≡ true → Lists g e v (first v))
        → (n : ℕ) (card : Card) (u : List ℕ) → is_supply g.universe u ≡ true → length u ≤ n → ListsRepeated card u (list_repeated first n card u)
    repeated_are first lists n card [] supplied enough = empty_repeated card
    repeated_are first lists zero card (label ∷ ls) supplied enough = absurd (omega arith)
    repeated_are first lists (suc n) card (label ∷ ls) supplied enough =
        by (admits_some card) refl (λ v given fewer. repeated_are first lists n (after_one card) v given fewer)
      where
        by : (b : Bool) → admits_some card ≡ b
            → ((v : List ℕ) → is_supply g.universe v ≡ true → length v ≤ n → ListsRepeated (after_one card) v (list_repeated first n (after_one card) v))
            → ListsRepeated card (label ∷ ls) (if b then by_parts 1 (length (label ∷ ls)) first (list_repeated first n (after_one card)) (label ∷ ls) else [])
        by true admitted others =
            some_repeated card (label ∷ ls) first (list_repeated first n (after_one card)) (supply_rises g.universe (label ∷ ls) supplied) (omega arith) admitted
            (λ split m. lists split.part (split_supplies g.universe (label ∷ ls) supplied split m.0).0)
            (λ split m.
            others split.rest (split_supplies g.universe (label ∷ ls) supplied split m.0).1 (omega (arith, rest_is_less (label ∷ ls) split m, enough)))
        by false refused others = none_repeated card (label ∷ ls) (omega arith) refused

lists_parts : (g : Grammar) (e : Expression) (card : Card) (u : List ℕ) (first : List ℕ → List Structure) (others : List ℕ → List (List Structure))
    → IsNeverEmpty g e → is_supply g.universe u ≡ true → 0 < length u → admits_some card ≡ true → ListsParts g e card u first others
    → Lists g (expr.Many kind.Sequence e card) u (map sequence (by_parts 1 (length u) first others u))
lists_parts g e card u first others never supplied some admitted h =
    let rises : Rises u = supply_rises g.universe u supplied in
    sequences_are g e card u (by_parts 1 (length u) first others u)
    (some_repeated g e never card u first others rises some admitted
    (λ split m. (h split ((parts_are 1 (length u) u rises).complete split m)).0)
    (λ split m. repeated_from g e (after_one card) split.rest (others split.rest) (h split ((parts_are 1 (length u) u rises).complete split m)).1))

pub sequence_is_listed : SequenceIsListed
sequence_is_listed = record {
  empty = λ g e card never. sequences_are g e card [] (list_empty card) (empty_repeated g e never card);
  none = λ g e card u some refused. sequences_are g e card u [] (none_repeated g e card u some refused);
  lists = λ g e card u first others never supplied some admitted h. lists_parts g e card u first others never supplied some admitted h;
  only = λ g e card u first others ss never supplied some admitted h l.
      one_listing g (expr.Many kind.Sequence e card) u ss (map sequence (by_parts 1 (length u) first others u)) l (lists_parts g e card u first others never supplied some admitted h);
}
