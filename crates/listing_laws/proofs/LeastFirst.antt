-- Lists of components whose first one has the least label.
use Rattle.std.proofs.Common.{◌≡◌, ◌⊎◌, ℕ, ◌<◌, ◌≤◌, Bool, true, List, [], ◌∷◌, ◌++◌, length, length-append, refl, sym, ap, ◌∙◌, subst, inl, inr, arith, Less, nat_cmp}
use Rattle.std.specs.Cmp.Lexicographic.{slice_cmp}
use Rattle.std.proofs.lemmas.Bool.{and_parts}
use Rattle.spec_syntax.specs.Expression.{Expression}
use Rattle.spec_syntax.specs.Grammar.{Grammar}
use Rattle.lists.specs.Ascending.{ascending}
use Rattle.lists.specs.Enumeration.{Enumerated}
use Rattle.lists.proofs.Enumerated as enumerated
use Rattle.lists.proofs.NumberOrder.{same_first, lesser_first}
use Rattle.lists.proofs.Ascending.{From, AtLeast, Rises, rises_ascending, from_ascending, each_ascending, each_right, length-ascending, ascending_both}
use Rattle.struct_model.specs.Structure.{Structure, Structures, parts_of, labels, labels_of_parts, size, key}
use Rattle.struct_model.specs.Membership.{is_of, are_of}
use Rattle.struct_model.specs.Order.{key_order}
use Rattle.struct_model.specs.Listing.{Before, IsOne, Lists}
use Rattle.splits.specs.Splits.{Split, taking, splits}
use Rattle.splits.specs.Laws.{PartBefore}
use Rattle.splits.proofs.SplitLaws.{MakesUp, Taking, taking_is, cases, begun_above, splits_are}
use Rattle.listing_laws.specs.Laws.{IsNeverEmpty}
use Rattle.listing_laws.specs.Lister.{each_before}
use Rattle.listing_laws.specs.LeastFirst.{by_least}
use Rattle.listing_laws.proofs.Components.{AreWith, IsAt, each_going_on_are, lesser_part}
use Rattle.listing_laws.proofs.OrderFacts.{before_by_key, PartsBefore}

-- the split of the keys of a first component and of the others
abbrev pub keys_split : Structure → List Structure → Split
keys_split s ss = record { part = key s; rest = ascending (labels_of_parts (parts_of ss)) }

pub keys_make : (u : List ℕ) (s : Structure) (ss : List Structure) → ascending (labels_of_parts (parts_of (s ∷ ss))) ≡ u → MakesUp u (keys_split s ss)
keys_make u s ss same = record {
  part = rises_ascending (labels s);
  rest = rises_ascending (labels_of_parts (parts_of ss));
  whole = ascending_both (labels s) (labels_of_parts (parts_of ss)) ∙ same;
}

module _ (g : Grammar) (e : Expression) (others_pass all_pass : Structures → Bool) (label : ℕ) (labels_left : List ℕ) (least : AtLeast label labels_left) (risen : Rises labels_left) where
  -- the lists that pass are a first component with the least label before others that pass
  pub record IsLeastFirst : Type 0 where
    pub some : all_pass (parts_of []) ≡ true → ascending (labels_of_parts (parts_of [])) ≡ label ∷ labels_left → ⊥
    pub joined : (split : Split) (s : Structure) (ss : List Structure) → MakesUp labels_left split → IsOne g e (label ∷ split.part) s → AreWith others_pass split.rest ss
        → all_pass (parts_of (s ∷ ss)) ≡ true
    pub cut : (s : Structure) (ss : List Structure) → ascending (labels_of_parts (parts_of (s ∷ ss))) ≡ label ∷ labels_left → all_pass (parts_of (s ∷ ss)) ≡ true
        → (is_of g e s ≡ true) × (others_pass (parts_of ss) ≡ true) × Taking label labels_left least risen (keys_split s ss)

  module _ (is : IsLeastFirst) where
    -- the first component on the least label and the part, and the others on the rest
    abbrev IsAtLeast : Split → List Structure → Type 0
    IsAtLeast split ss = IsAt (is_of g e) (λ first. others_pass) (taking label split) ss

    to_all : (split : Split) (ss : List Structure) → MakesUp labels_left split → IsAtLeast split ss → AreWith all_pass (label ∷ labels_left) ss
    to_all split ss makes at =
        let whole : MakesUp (label ∷ labels_left) (taking label split) = taking_is label labels_left least risen split makes in
        let both : AreWith all_pass (label ∷ labels_left) (at.0 ∷ at.1) = (
          is.joined split at.0 at.1 makes at.2 at.3,
          sym (ascending_both (labels at.0) (labels_of_parts (parts_of at.1))) ∙ (λ i. ascending (at.2.1 i ++ at.3.1 i)) ∙ whole.whole,
        ) in
        subst (AreWith all_pass (label ∷ labels_left)) (sym at.4) both

    from_all : (ss : List Structure) → AreWith all_pass (label ∷ labels_left) ss → (split : Split) × MakesUp labels_left split × IsAtLeast split ss
    from_all [] p = absurd (is.some p.0 p.1)
    from_all (s ∷ ss) p =
        let cut = is.cut s ss p.1 p.0 in
        let taken = cut.2 in (
          taken.0,
          taken.1,
          (s, ss, (cut.0, ap (λ (split : Split). split.part) taken.2), (cut.1, ap (λ (split : Split). split.rest) taken.2), refl),
        )

    -- they are listed split by split, where the first components and the others are listed on each
    pub by_least_are : (first : List ℕ → List Structure) (others : List ℕ → List (List Structure))
        → ((split : Split) → MakesUp labels_left split → Lists g e (label ∷ split.part) (first (label ∷ split.part)))
        → ((split : Split) → MakesUp labels_left split → Enumerated PartsBefore (AreWith others_pass split.rest) (others split.rest))
        → Enumerated PartsBefore (AreWith all_pass (label ∷ labels_left)) (by_least first others (label ∷ labels_left))
    by_least_are first others f o =
        enumerated.made PartBefore (MakesUp labels_left) PartsBefore IsAtLeast (AreWith all_pass (label ∷ labels_left))
        (λ split. each_before (first (label ∷ split.part)) (others split.rest)) (splits labels_left)
        (splits_are labels_left risen)
        (λ split makes. each_going_on_are (is_of g e) (λ first. others_pass) (taking label split) (first (label ∷ split.part)) (λ first. others split.rest) (f split makes) (λ first one. o split makes))
        (λ a b p q before. lesser_part (is_of g e) (λ first. others_pass) (taking label a) (taking label b) (same_first label a.part b.part ∙ before))
        (λ split ss makes at. to_all split ss makes at)
        from_all

-- ---- which component has the least label

-- a structure with a label whose labels are no less than a number begins with one of these
pub key_begins : (low : ℕ) (s : Structure) → (size s ≡ 0 → ⊥) → AtLeast low (labels s) → (n : ℕ) × (ns : List ℕ) × (key s ≡ n ∷ ns) × (low ≤ n)
key_begins low s full least = by (key s) refl (each_ascending (From low) (labels s) least)
  where
    by : (ns : List ℕ) → key s ≡ ns → AtLeast low ns → (m : ℕ) × (ms : List ℕ) × (key s ≡ m ∷ ms) × (low ≤ m)
    by [] same all = absurd (full (sym (length-ascending (labels s)) ∙ ap length same))
    by (m ∷ ms) same all = (m, ms, same, all.0)

-- of two structures that with the lesser first label comes before the other
pub lesser_before : (s t : Structure) (m n : ℕ) (ms ns : List ℕ) → key s ≡ m ∷ ms → key t ≡ n ∷ ns → m < n → Before s t
lesser_before s t m n ms ns s_is t_is less =
    let keys : key_order s t ≡ Less = (λ i. slice_cmp nat_cmp (s_is i) (t_is i)) ∙ lesser_first m n ms ns less in
    before_by_key s t keys

module _ (g : Grammar) (e : Expression) (never_empty : IsNeverEmpty g e) where
  -- the first component doesn't begin with the least label, and one of the others has it
  pub record IsLater (label : ℕ) (s : Structure) (ss : List Structure) : Type 0 where
    pub first : ℕ
    pub more : List ℕ
    pub key_is : key s ≡ first ∷ more
    pub above : label < first
    pub left : List ℕ
    pub others : ascending (labels_of_parts (parts_of ss)) ≡ label ∷ left
    pub least : AtLeast label left
    pub risen : Rises left

  -- the first component has the least label, or one of the others
  pub first_or_later : (label : ℕ) (left : List ℕ) (s : Structure) (ss : List Structure) → AtLeast label left → Rises left → is_of g e s ≡ true
      → ascending (labels_of_parts (parts_of (s ∷ ss))) ≡ label ∷ left → ((ns : List ℕ) × (key s ≡ label ∷ ns)) ⊎ IsLater label s ss
  first_or_later label left s ss least risen of same =
      elim (cases label left least risen (keys_split s ss) (keys_make (label ∷ left) s ss same)) [
        | inl none ↦ absurd (never_empty s of (sym (length-ascending (labels s)) ∙ ap (λ (split : Split). length split.part) none))
        | inr (inl taken) ↦ inl (taken.0.part, ap (λ (split : Split). split.part) taken.2)
        | inr (inr later) ↦
            let begun = begun_above label left least risen later.0 later.1.1 in
            inr (record {
              first = begun.0;
              more = begun.1;
              key_is = ap (λ (split : Split). split.part) later.2 ∙ begun.2;
              above = begun.3;
              left = later.0.rest;
              others = ap (λ (split : Split). split.rest) later.2;
              least = each_right (From label) later.0.part later.0.rest
                  (from_ascending (From label) (later.0.part ++ later.0.rest) (subst (AtLeast label) (sym later.1.0.whole) least));
              risen = later.1.0.rest;
            })
      ]

  -- where the first component begins with the least label, the split takes it
  pub takes_least : (label : ℕ) (left : List ℕ) (s : Structure) (ss : List Structure) (least : AtLeast label left) (risen : Rises left) (ns : List ℕ) → key s ≡ label ∷ ns
      → ascending (labels_of_parts (parts_of (s ∷ ss))) ≡ label ∷ left → Taking label left least risen (keys_split s ss)
  takes_least label left s ss least risen ns begins same =
      elim (cases label left least risen (keys_split s ss) (keys_make (label ∷ left) s ss same)) [
        | inl none ↦ absurd (no_label (sym begins ∙ ap (λ (split : Split). split.part) none))
        | inr (inl taken) ↦ taken
        | inr (inr later) ↦
            let begun = begun_above label left least risen later.0 later.1.1 in
            absurd (other begun.0 begun.1 begun.3 (sym begins ∙ ap (λ (split : Split). split.part) later.2 ∙ begun.2))
      ]
    where
      no_label : label ∷ ns ≡ [] → ⊥
      no_label h = cc

      other : (n : ℕ) (ms : List ℕ) → label < n → label ∷ ns ≡ n ∷ ms → ⊥
      other n ms above h = let same : label ≡ n = cc in omega arith

  -- on no label there are no components
  pub none_of_no_label : (ss : List Structure) → are_of g e (parts_of ss) ≡ true → ascending (labels_of_parts (parts_of ss)) ≡ [] → ss ≡ []
  none_of_no_label [] of same = refl
  none_of_no_label (s ∷ ss) of same =
      absurd (never_empty s (and_parts (is_of g e s) (are_of g e (parts_of ss)) of).0
      (omega (arith, length-append (labels s) (labels_of_parts (parts_of ss)), sym (length-ascending (labels s ++ labels_of_parts (parts_of ss))) ∙ ap length same)))
