-- The first part, the next part and what remains, at supplies of the code.
use Rattle.std.proofs.Common.{◌≡◌, ℕ, ◌+◌, ◌-◌, ◌<◌, ◌≤◌, Bool, true, List, [], ◌∷◌, take, length, replicate, Option, Some, None, IfSome, refl, sym, ap, ◌∙◌, subst, arith}
use Rattle.std.proofs.lemmas.List.{length-replicate, length-take-le}
use Rattle.spec_syntax.specs.declared.statement.Universe.TheVariants.{Labelled}
use Rattle.struct_model.specs.declared.supplies.Supply.{Supply}
use Rattle.struct_model.specs.declared.supplies.Supply.TheVariants.{Zeros, Labels}
use Rattle.struct_model.specs.SupplyView.{supply_labels, supply_universe, is_in_order}
use Rattle.lists.specs.Ascending.{ascends_above}
use Rattle.lists.specs.Enumeration.{IsIn}
use Rattle.lists.proofs.Ascending.{Rises}
use Rattle.lists.proofs.AscendingAbove.{rises_above}
use Rattle.struct_model.proofs.SupplyLaws.{in_order_is, supply_rises}
use Rattle.splits.specs.Splits.{Split, splits}
use Rattle.splits.specs.Parts.{parts_of, after, from_part, IsPart}
use Rattle.splits.specs.Lengths.{is_admitted, IsLeastFrom}
use Rattle.splits.specs.WalkView.{given_labels, to_come, IsToCome}
use Rattle.splits.proofs.SplitLaws.{splits_are}
use Rattle.splits.proofs.SplitSupplies.{split_supplies}
use Rattle.splits.proofs.Selections.{Selects, selects_front, selects_length, front_is_least, split_selects}
use Rattle.splits.proofs.NextPart.{Fits, Follows}
use Rattle.splits.proofs.PartLemmas.{fit, fit_admitted, part_split, part_fits, part_in, split_in, part_within, fitting_part, parts_ascend, after_is, head_is, from_first_part, no_parts}
use Rattle.splits.proofs.ZeroParts.{zeros_only, zeros_split, zeros_ahead, fits_long, zeros_next, zeros_last, no_zeros}

rises : (supply : Supply) → is_in_order supply ≡ true → Rises (supply_labels supply)
rises supply h = supply_rises (supply_universe supply) (supply_labels supply) (in_order_is supply h)

-- a part of zeros
zeros_part : (lengths : List Bool) (n k : ℕ) → is_admitted lengths k ≡ true → k ≤ n → IsPart (replicate k 0) (parts_of lengths (replicate n 0))
zeros_part lengths n k is there =
    part_in (parts_of lengths (replicate n 0)) (record { part = replicate k 0; rest = replicate (n - k) 0 })
    (split_in lengths (replicate n 0) (record { part = replicate k 0; rest = replicate (n - k) 0 }) (zeros_split k (n - k) n (omega arith))
    (subst (λ (m : ℕ). is_admitted lengths m ≡ true) (sym (length-replicate {A = ℕ} k 0)) is))

-- the part of zeros is told by its length
zeros_told : (lengths : List Bool) (n : ℕ) (part : List ℕ) → IsPart part (parts_of lengths (replicate n 0)) → part ≡ replicate (length part) 0
zeros_told lengths n part there = zeros_only n part (part_fits lengths (replicate n 0) part there).selects

-- ---- the first part

pub no_first : (supply : Supply) (lengths : List Bool) → IsLeastFrom lengths 0 None → to_come supply lengths None ≡ parts_of lengths (supply_labels supply)
no_first supply lengths l =
    sym (no_parts lengths (supply_labels supply) (λ other f. l (length other) (omega arith) (fit_admitted lengths (supply_labels supply) other f)))

pub short_first : (supply : Supply) (lengths : List Bool) (least : ℕ) → IsLeastFrom lengths 0 (Some least) → length (supply_labels supply) < least
    → to_come supply lengths None ≡ parts_of lengths (supply_labels supply)
short_first supply lengths least l short =
    sym (no_parts lengths (supply_labels supply) (λ other f.
    omega (arith, fits_long lengths 0 least (supply_labels supply) other f (omega arith) l, selects_length other (supply_labels supply) f.selects)))

module _ (supply : Supply) (lengths : List Bool) (least n : ℕ) (is : supply ≡ Zeros n) (l : IsLeastFrom lengths 0 (Some least)) (room : least ≤ length (supply_labels supply)) where
  there : least ≤ n
  there = omega (arith, ap (λ (s : Supply). length (supply_labels s)) is, length-replicate {A = ℕ} n 0)

  pub first_zeros : to_come supply lengths (Some (Zeros least)) ≡ parts_of lengths (supply_labels supply)
  first_zeros =
      subst (λ (s : Supply). to_come s lengths (Some (Zeros least)) ≡ parts_of lengths (supply_labels s)) (sym is)
      (from_first_part lengths (replicate n 0) (replicate least 0) (λ other f before.
      omega (arith, fits_long lengths 0 least (replicate n 0) other f (omega arith) l, zeros_ahead lengths n least other f before)))

  pub first_zeros_part : IsToCome supply lengths (Some (Zeros least))
  first_zeros_part = subst (λ (s : Supply). IsToCome s lengths (Some (Zeros least))) (sym is) (refl, refl, zeros_part lengths n least l.1 there)

-- labels that are a part ascend
part_ascends : (lengths : List Bool) (labels part : List ℕ) → ascends_above 0 labels ≡ true → IsPart part (parts_of lengths labels) → ascends_above 0 part ≡ true
part_ascends lengths labels part h there =
    let found = part_split part (splits labels) (part_within lengths labels part there) in
    subst (λ (ns : List ℕ). ascends_above 0 ns ≡ true) (sym found.2)
    (split_supplies Labelled labels h found.0 ((splits_are labels (rises_above 0 labels h)).sound found.0 found.1)).0

module _ (supply : Supply) (lengths : List Bool) (least : ℕ) (labels front : List ℕ) (is : supply ≡ Labels labels) (h : is_in_order supply ≡ true)
    (l : IsLeastFrom lengths 0 (Some least)) (room : least ≤ length (supply_labels supply)) (same : front ≡ take least labels) where
  ascending : ascends_above 0 labels ≡ true
  ascending = subst (λ (s : Supply). is_in_order s ≡ true) is h

  long : least ≤ length labels
  long = subst (λ (s : Supply). least ≤ length (supply_labels s)) is room

  fits : Fits lengths 0 labels (take least labels)
  fits = fit lengths labels (take least labels) (selects_front least labels) (subst (λ (n : ℕ). is_admitted lengths n ≡ true) (sym (length-take-le least labels long)) l.1)

  pub first_labels : to_come supply lengths (Some (Labels front)) ≡ parts_of lengths (supply_labels supply)
  first_labels =
      subst (λ (s : Supply). to_come s lengths (Some (Labels front)) ≡ parts_of lengths (supply_labels s)) (sym is)
      (subst (λ (ns : List ℕ). from_part (Some ns) (parts_of lengths labels) ≡ parts_of lengths labels) (sym same)
      (from_first_part lengths labels (take least labels) (λ other f before.
      front_is_least 0 least other labels ascending f.selects (fits_long lengths 0 least labels other f (omega arith) l) before)))

  pub first_labels_part : IsToCome supply lengths (Some (Labels front))
  first_labels_part =
      let here : IsPart front (parts_of lengths labels) = subst (λ (ns : List ℕ). IsPart ns (parts_of lengths labels)) (sym same) (fitting_part 0 lengths labels (take least labels) ascending fits) in
      subst (λ (s : Supply). IsToCome s lengths (Some (Labels front))) (sym is) (part_ascends lengths labels front ascending here, refl, here)

-- ---- the next part

module _ (supply part : Supply) (lengths : List Bool) (n taken : ℕ) (is : supply ≡ Zeros n) (told : taken ≡ length (supply_labels part))
    (here : IsPart (supply_labels part) (parts_of lengths (supply_labels supply))) where
  part_here : IsPart (supply_labels part) (parts_of lengths (replicate n 0))
  part_here = subst (λ (s : Supply). IsPart (supply_labels part) (parts_of lengths (supply_labels s))) is here

  part_is : supply_labels part ≡ replicate taken 0
  part_is = subst (λ (k : ℕ). supply_labels part ≡ replicate k 0) (sym told) (zeros_told lengths n (supply_labels part) part_here)

  what_follows : (next : Option (List ℕ)) → Follows lengths 0 (replicate n 0) (replicate taken 0) next
      → from_part next (parts_of lengths (replicate n 0)) ≡ after (supply_labels part) (parts_of lengths (replicate n 0))
  what_follows next f =
      subst (λ (ns : List ℕ). from_part next (parts_of lengths (replicate n 0)) ≡ after ns (parts_of lengths (replicate n 0))) (sym part_is)
      (after_is lengths (replicate n 0) (replicate taken 0) next f)

  module _ (more : ℕ) (l : IsLeastFrom lengths (taken + 1) (Some more)) (there : more ≤ n) where
    pub later_zeros : to_come supply lengths (Some (Zeros more)) ≡ after (supply_labels part) (parts_of lengths (supply_labels supply))
    later_zeros =
        subst (λ (s : Supply). to_come s lengths (Some (Zeros more)) ≡ after (supply_labels part) (parts_of lengths (supply_labels s))) (sym is)
        (what_follows (Some (replicate more 0)) (zeros_next lengths n taken more l there))

    pub later_zeros_part : IsToCome supply lengths (Some (Zeros more))
    later_zeros_part = subst (λ (s : Supply). IsToCome s lengths (Some (Zeros more))) (sym is) (refl, refl, zeros_part lengths n more l.1 there)

  pub no_later_zeros : (longer : Option ℕ) → IsLeastFrom lengths (taken + 1) longer → IfSome longer (λ more. n < more)
      → to_come supply lengths None ≡ after (supply_labels part) (parts_of lengths (supply_labels supply))
  no_later_zeros longer l past =
      subst (λ (s : Supply). to_come s lengths None ≡ after (supply_labels part) (parts_of lengths (supply_labels s))) (sym is)
      (what_follows None (zeros_last lengths n taken longer l past))

-- the labels that are given are those of a part of labels
given_are : (labels : List ℕ) (part : Supply) → ascends_above 0 labels ≡ true → Selects (supply_labels part) labels → given_labels part ≡ supply_labels part
given_are labels (Zeros k) h s = none k (no_zeros 0 k labels s h)
  where
    none : (m : ℕ) → m ≡ 0 → ◌≡◌ {A = List ℕ} [] (replicate m 0)
    none m e = subst (λ (j : ℕ). ◌≡◌ {A = List ℕ} [] (replicate j 0)) (sym e) refl
given_are labels (Labels ps) h s = refl

module _ (supply part : Supply) (labels slice given : List ℕ) (is : supply ≡ Labels labels) (read : slice ≡ labels) (are : given ≡ given_labels part) (h : is_in_order supply ≡ true) where
  pub slice_ascends : ascends_above 0 slice ≡ true
  slice_ascends = subst (λ (ns : List ℕ). ascends_above 0 ns ≡ true) (sym read) (subst (λ (s : Supply). is_in_order s ≡ true) is h)

  slice_is : supply_labels supply ≡ slice
  slice_is = ap supply_labels is ∙ sym read

  module _ (here : IsPart (supply_labels part) (splits (supply_labels supply))) where
    given_is : given ≡ supply_labels part
    given_is =
        let found = part_split (supply_labels part) (splits slice) (subst (λ (ns : List ℕ). IsPart (supply_labels part) (splits ns)) slice_is here) in
        are ∙ given_are slice part slice_ascends (subst (λ (ns : List ℕ). Selects ns slice) (sym found.2) (split_selects slice found.0 found.1))

    pub given_split : IsPart given (splits slice)
    given_split = subst (λ (ns : List ℕ). IsPart ns (splits slice)) (sym given_is) (subst (λ (ns : List ℕ). IsPart (supply_labels part) (splits ns)) slice_is here)

    pub rest_labels : (rest : List ℕ) → IsIn (record { part = given; rest = rest }) (splits slice) → IsIn (record { part = supply_labels part; rest = rest }) (splits (supply_labels supply))
    rest_labels rest found =
        subst (λ (ns : List ℕ). IsIn (record { part = supply_labels part; rest = rest }) (splits ns)) (sym slice_is)
        (subst (λ (ns : List ℕ). IsIn (record { part = ns; rest = rest }) (splits slice)) given_is found)

    pub rest_ascends : (rest : List ℕ) → IsIn (record { part = given; rest = rest }) (splits slice) → ascends_above 0 rest ≡ true
    rest_ascends rest found =
        (split_supplies Labelled slice slice_ascends (record { part = given; rest = rest }) ((splits_are slice (rises_above 0 slice slice_ascends)).sound (record { part = given; rest = rest }) found)).1

  module _ (lengths : List Bool) (here : IsPart (supply_labels part) (parts_of lengths (supply_labels supply))) where
    given_part_is : given ≡ supply_labels part
    given_part_is = given_is (part_within lengths (supply_labels supply) (supply_labels part) here)

    pub given_part : IsPart given (parts_of lengths slice)
    given_part =
        subst (λ (ns : List ℕ). IsPart ns (parts_of lengths slice)) (sym given_part_is) (subst (λ (ns : List ℕ). IsPart (supply_labels part) (parts_of lengths ns)) slice_is here)

    pub later_labels : (next : Option (List ℕ)) → from_part next (parts_of lengths slice) ≡ after given (parts_of lengths slice)
        → from_part next (parts_of lengths (supply_labels supply)) ≡ after (supply_labels part) (parts_of lengths (supply_labels supply))
    later_labels next later =
        subst (λ (ns : List ℕ). from_part next (parts_of lengths ns) ≡ after (supply_labels part) (parts_of lengths ns)) (sym slice_is)
        (subst (λ (ns : List ℕ). from_part next (parts_of lengths slice) ≡ after ns (parts_of lengths slice)) given_part_is later)

    pub later_labels_part : (next : List ℕ) → IsPart next (parts_of lengths slice) → IsToCome supply lengths (Some (Labels next))
    later_labels_part next there =
        (part_ascends lengths slice next slice_ascends there, sym (ap supply_universe is), subst (λ (ns : List ℕ). IsPart next (parts_of lengths ns)) (sym slice_is) there)

-- ---- what remains of zeros

module _ (supply part : Supply) (n taken : ℕ) (is : supply ≡ Zeros n) (told : taken ≡ length (supply_labels part)) (here : IsPart (supply_labels part) (splits (supply_labels supply))) where
  selected : Selects (supply_labels part) (replicate n 0)
  selected =
      let found = part_split (supply_labels part) (splits (replicate n 0)) (subst (λ (s : Supply). IsPart (supply_labels part) (splits (supply_labels s))) is here) in
      subst (λ (ns : List ℕ). Selects ns (replicate n 0)) (sym found.2) (split_selects (replicate n 0) found.0 found.1)

  pub taken_within : taken ≤ n
  taken_within = omega (arith, selects_length (supply_labels part) (replicate n 0) selected, length-replicate {A = ℕ} n 0)

  pub rest_zeros : IsIn (record { part = supply_labels part; rest = replicate (n - taken) 0 }) (splits (supply_labels supply))
  rest_zeros =
      subst (λ (s : Supply). IsIn (record { part = supply_labels part; rest = replicate (n - taken) 0 }) (splits (supply_labels s))) (sym is)
      (subst (λ (ns : List ℕ). IsIn (record { part = ns; rest = replicate (n - taken) 0 }) (splits (replicate n 0))) (sym part_zeros) (zeros_split taken (n - taken) n (omega (arith, taken_within))))
    where
      part_zeros : supply_labels part ≡ replicate taken 0
      part_zeros = subst (λ (k : ℕ). supply_labels part ≡ replicate k 0) (sym told) (zeros_only n (supply_labels part) selected)

-- ---- a step of the walk

-- the coming part is split off, and then the later parts come
pub step_is : (supply part rest : Supply) (lengths : List Bool) (later : Option Supply) → is_in_order supply ≡ true → IsPart (supply_labels part) (parts_of lengths (supply_labels supply))
    → IsIn (record { part = supply_labels part; rest = supply_labels rest }) (splits (supply_labels supply))
    → to_come supply lengths later ≡ after (supply_labels part) (parts_of lengths (supply_labels supply))
    → to_come supply lengths (Some part) ≡ record { part = supply_labels part; rest = supply_labels rest } ∷ to_come supply lengths later
step_is supply part rest lengths later h here split later_is =
    head_is (record { part = supply_labels part; rest = supply_labels rest }) (parts_of lengths (supply_labels supply)) (parts_ascend lengths (supply_labels supply) (rises supply h))
    (split_in lengths (supply_labels supply) (record { part = supply_labels part; rest = supply_labels rest }) split
    (fit_admitted lengths (supply_labels supply) (supply_labels part) (part_fits lengths (supply_labels supply) (supply_labels part) here)))
    ∙ ap (λ (ss : List Split). record { part = supply_labels part; rest = supply_labels rest } ∷ ss) (sym later_is)

-- the same, where the part that is taken out is the coming one and the later one is put in its place
pub step_taken : (supply part taken rest : Supply) (lengths : List Bool) (coming later put : Option Supply) → coming ≡ Some part → coming ≡ Some taken → put ≡ later
    → is_in_order supply ≡ true → IsPart (supply_labels part) (parts_of lengths (supply_labels supply))
    → IsIn (record { part = supply_labels part; rest = supply_labels rest }) (splits (supply_labels supply))
    → to_come supply lengths later ≡ after (supply_labels part) (parts_of lengths (supply_labels supply))
    → to_come supply lengths coming ≡ record { part = supply_labels taken; rest = supply_labels rest } ∷ to_come supply lengths put
step_taken supply part taken rest lengths coming later put is got there h here split later_is =
    let same : part ≡ taken = cc in
    ap (to_come supply lengths) is
    ∙ subst (λ (p : Supply). to_come supply lengths (Some part) ≡ record { part = supply_labels p; rest = supply_labels rest } ∷ to_come supply lengths put) same
    (step_is supply part rest lengths later h here split later_is
    ∙ ap (λ (o : Option Supply). record { part = supply_labels part; rest = supply_labels rest } ∷ to_come supply lengths o) (sym there))
