-- The splits whose part has the least label, by the splits of the other labels.
use Rattle.std.proofs.Common.{◌≡◌, ◌<◌, ℕ, suc, nat_lt, Bool, true, false, List, [], ◌∷◌, cond, drop, filter, length, map, Option, Some, inl, inr, refl, sym, ap, ◌∙◌, subst, arith}
use Rattle.std.specs.Prelude.{IsTrue, IfSome}
use Rattle.std.specs.Ordering.{is_lt}
use Rattle.std.proofs.lemmas.Bool.{and_parts, and_from, ltb-true, lt-ltb}
use Rattle.lists.specs.Ascending.{ascends_above}
use Rattle.lists.specs.Enumeration.{IsIn}
use Rattle.lists.proofs.Enumerated.{in_map, from_map, from_filter}
use Rattle.lists.proofs.Filters.{filter_same}
use Rattle.lists.proofs.NumberOrder.{same_first}
use Rattle.lists.proofs.Within.{in_left}
use Rattle.spec_syntax.specs.declared.statement.Universe.TheVariants.{Labelled}
use Rattle.struct_model.specs.declared.supplies.Supply.{Supply}
use Rattle.struct_model.specs.SupplyView.{supply_labels, supply_universe, is_in_order}
use Rattle.struct_model.specs.Membership.{is_supply}
use Rattle.struct_model.proofs.SupplyLaws.{supply_rises, in_order_is}
use Rattle.splits.specs.Splits.{Split, splits, taking, leaving, begins_above}
use Rattle.splits.specs.Lengths.{is_admitted}
use Rattle.splits.specs.Parts.{has_admitted, comes_before, parts_of, after, IsPart}
use Rattle.splits.proofs.SplitLaws.{splits_are}
use Rattle.splits.proofs.SplitSupplies.{split_supplies}
use Rattle.splits.specs.WalkView.{Walk, split_into}
use Rattle.struct_walk.specs.SplitWalkView.{least_splits, least_parts, CanLead}

-- ---- lists

filter_mapped : {X Y : Type 0} (p : Y → Bool) (f : X → Y) (xs : List X) → filter p (map f xs) ≡ map f (filter (λ x. p (f x)) xs)
filter_mapped p f [] = refl
filter_mapped p f (x ∷ xs) = ap (λ ys. cond (p (f x)) (f x ∷ ys) ys) (filter_mapped p f xs) ∙ pull (p (f x)) (filter (λ y. p (f y)) xs)
  where
    pull : (b : Bool) (ys : List _) → cond b (f x ∷ map f ys) (map f ys) ≡ map f (cond b (x ∷ ys) ys)
    pull true ys = refl
    pull false ys = refl

admitted_later : (lengths : List Bool) (n : ℕ) → is_admitted lengths (suc n) ≡ is_admitted (drop 1 lengths) n
admitted_later [] n = refl
admitted_later (mark ∷ lengths) n = refl

-- ---- splits with the least label in the part

-- each is a split
pub least_within : (u : List ℕ) (split : Split) → IsIn split (least_splits u) → IsIn split (splits u)
least_within [] split there = absurd there
least_within (label ∷ labels) split there =
    inr (in_left split (map (taking label) (splits labels)) (map (leaving label) (filter (begins_above label) (splits labels))) there)

-- its part ascends from the label
pub leads : (u labels : List ℕ) (label : ℕ) (split : Split) → is_supply Labelled u ≡ true → u ≡ label ∷ labels → IsIn split (splits labels)
    → IsTrue (ascends_above 0 (label ∷ split.part))
leads u labels label split supplied is there =
    let whole : is_supply Labelled (label ∷ labels) ≡ true = subst (λ (v : List ℕ). is_supply Labelled v ≡ true) is supplied in
    let taken : IsIn (taking label split) (splits (label ∷ labels)) =
    least_within (label ∷ labels) (taking label split) (in_map (taking label) split (splits labels) there) in
    (split_supplies Labelled (label ∷ labels) whole (taking label split) ((splits_are (label ∷ labels) (supply_rises Labelled (label ∷ labels) whole)).sound (taking label split) taken)).0

module _ (lengths marks : List Bool) (shorter : marks ≡ drop 1 lengths) where
  admitted_with : (label : ℕ) (split : Split) → has_admitted lengths (taking label split) ≡ has_admitted marks split
  admitted_with label split = admitted_later lengths (length split.part) ∙ ap (λ (ls : List Bool). is_admitted ls (length split.part)) (sym shorter)

  parts_are : (label : ℕ) (labels : List ℕ) → map (taking label) (parts_of marks labels) ≡ least_parts lengths (label ∷ labels)
  parts_are label labels =
      sym (filter_mapped (has_admitted lengths) (taking label) (splits labels)
      ∙ ap (map (taking label)) (filter_same (λ split. has_admitted lengths (taking label split)) (has_admitted marks) (splits labels) (λ split there. admitted_with label split)))

  -- all of them with an admitted length
  pub least_are : (u labels : List ℕ) (label : ℕ) (left : List Split) → u ≡ label ∷ labels → left ≡ parts_of marks labels → map (taking label) left ≡ least_parts lengths u
  least_are u labels label left is all = ap (map (taking label)) all ∙ parts_are label labels ∙ ap (least_parts lengths) (sym is)

  -- those that come after one
  after_label : (label : ℕ) (part : List ℕ) (ss : List Split) → map (taking label) (after part ss) ≡ after (label ∷ part) (map (taking label) ss)
  after_label label part ss =
      sym (filter_mapped (λ split. comes_before (label ∷ part) split.part) (taking label) ss
      ∙ ap (map (taking label)) (filter_same (λ split. comes_before (label ∷ part) (label ∷ split.part)) (λ split. comes_before part split.part) ss
      (λ split there. ap is_lt (same_first label part split.part))))

  part_behind : (label first : ℕ) (labels part : List ℕ) → IsPart (first ∷ part) (least_parts lengths (label ∷ labels)) → (first ≡ label) × IsPart part (parts_of marks labels)
  part_behind label first labels part there =
      let found = from_map (λ (s : Split). s.part) (first ∷ part) (map (taking label) (parts_of marks labels))
      (subst (λ (ss : List Split). IsPart (first ∷ part) ss) (sym (parts_are label labels)) there) in
      let inside = from_map (taking label) found.0 (parts_of marks labels) found.1 in
      let same : first ∷ part ≡ label ∷ inside.0.part = found.2 ∙ ap (λ (s : Split). s.part) inside.2 in
      let heads : first ≡ label = cc in
      let tails : part ≡ inside.0.part = cc in
      (heads, subst (λ (p : List ℕ). IsPart p (parts_of marks labels)) (sym tails) (in_map (λ (s : Split). s.part) inside.0 (parts_of marks labels) inside.1))

  module _ (u labels whole part : List ℕ) (label first : ℕ) (is : u ≡ label ∷ labels) (part_is : whole ≡ first ∷ part) (there : IsPart whole (least_parts lengths u)) where
    both : (first ≡ label) × IsPart part (parts_of marks labels)
    both = part_behind label first labels part
        (subst (λ (v : List ℕ). IsPart (first ∷ part) (least_parts lengths v)) is (subst (λ (p : List ℕ). IsPart p (least_parts lengths u)) part_is there))

    pub is_part_behind : IsPart part (parts_of marks labels)
    is_part_behind = both.1

    pub least_after : (left : List Split) → left ≡ after part (parts_of marks labels) → map (taking label) left ≡ after whole (least_parts lengths u)
    least_after left all =
        ap (map (taking label)) all ∙ after_label label part (parts_of marks labels) ∙ ap (after (label ∷ part)) (parts_are label labels)
        ∙ (λ i. after (label_first i) (least_parts lengths (sym is i)))
      where
        label_first : label ∷ part ≡ whole
        label_first = ap (λ (l : ℕ). l ∷ part) (sym both.0) ∙ sym part_is

-- what an admitted part is a part of
pub admitted_split : (marks : List Bool) (labels : List ℕ) (left : List Split) → left ≡ parts_of marks labels → (split : Split) → IsIn split left → IsIn split (splits labels)
admitted_split marks labels left all split there =
    (from_filter (has_admitted marks) split (splits labels) (subst (λ (ss : List Split). IsIn split ss) all there)).0

pub later_split : (marks : List Bool) (labels part : List ℕ) (left : List Split) → left ≡ after part (parts_of marks labels) → (split : Split) → IsIn split left → IsIn split (splits labels)
later_split marks labels part left all split there =
    (from_filter (has_admitted marks) split (splits labels)
    (from_filter (λ s. comes_before part s.part) split (parts_of marks labels) (subst (λ (ss : List Split). IsIn split ss) all there)).0).0

-- ---- walks

-- a supply without its first label is in order
climbs_lower : (low : ℕ) (u : List ℕ) → ascends_above low u ≡ true → ascends_above 0 u ≡ true
climbs_lower low [] h = refl
climbs_lower low (n ∷ ns) h =
    let both = and_parts (nat_lt low n) (ascends_above n ns) h in
    and_from (nat_lt 0 n) (ascends_above n ns) (lt-ltb 0 n (omega (arith, ltb-true low n both.0))) both.1

pub others_in_order : (label : ℕ) (labels : List ℕ) → IsTrue (ascends_above 0 (label ∷ labels)) → IsTrue (ascends_above 0 labels)
others_in_order label labels h = climbs_lower label labels (and_parts (nat_lt 0 label) (ascends_above label labels) h).1

-- the label can be put in front of the part that comes
pub first_leads : (least : Option ℕ) (label : ℕ) (walk : Walk) (part rest : Supply) (more : List Split) (came : Option (Supply × Supply)) → least ≡ Some label → CanLead least walk
    → came ≡ Some (part, rest) → IfSome came (λ split. walk.left ≡ split_into split.0 split.1 ∷ more) → IsTrue (ascends_above 0 (label ∷ supply_labels part))
first_leads least label walk part rest more came is leads there left =
    let known : CanLead (Some label) walk = subst (λ (o : Option ℕ). CanLead o walk) is leads in
    let first : walk.left ≡ split_into part rest ∷ more = subst (λ (o : Option (Supply × Supply)). IfSome o (λ split. walk.left ≡ split_into split.0 split.1 ∷ more)) there left in
    known.1 (split_into part rest) (subst (λ (ss : List Split). IsIn (split_into part rest) ss) (sym first) (inl refl))

-- a part of a supply with a least label has one
pub part_some : (lengths : List Bool) (u part : List ℕ) → IsPart part (least_parts lengths u) → 0 < length part
part_some lengths u part there =
    let found = from_map (λ (s : Split). s.part) part (least_parts lengths u) there in
    let inside = from_filter (has_admitted lengths) found.0 (least_splits u) found.1 in
    subst (λ (p : List ℕ). 0 < length p) (sym found.2) (some u found.0 inside.0)
  where
    some : (v : List ℕ) (split : Split) → IsIn split (least_splits v) → 0 < length split.part
    some [] split within = absurd within
    some (label ∷ labels) split within =
        let made = from_map (taking label) split (splits labels) within in subst (λ (s : Split). 0 < length s.part) (sym made.2) (omega arith)

-- a supply of labels ascends
pub labels_ascend : (supply : Supply) → IsTrue (is_in_order supply) → supply_universe supply ≡ Labelled → is_supply Labelled (supply_labels supply) ≡ true
labels_ascend supply in_order labelled = subst (λ universe. is_supply universe (supply_labels supply) ≡ true) labelled (in_order_is supply in_order)
