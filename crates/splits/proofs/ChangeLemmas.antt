-- The search for the change from a part to the next one, and the search for what remains, label by label.
use Rattle.std.proofs.Common.{◌≡◌, ℕ, ◌+◌, ◌-◌, ◌<◌, ◌≤◌, Bool, true, false, cond, List, [], ◌∷◌, ◌++◌, take, drop, length, get_or, nat_le, Option, Some, None, refl, sym, ap, ◌∙◌, subst, arith, append_assoc}
use Rattle.std.specs.Option.{option_map, option_or, IfSome}
use Rattle.std.proofs.lemmas.Bool.{leb-true, lt-leb, cond-false}
use Rattle.std.proofs.lemmas.List.{drop_more, drop_all, take_more, append-nil, length-drop}
use Rattle.lists.specs.Ascending.{ascends_above}
use Rattle.lists.specs.Enumeration.{IsIn}
use Rattle.splits.specs.declared.labelled.Change.{Change}
use Rattle.splits.specs.Splits.{splits}
use Rattle.splits.specs.Parts.{parts_of, after, from_part, IsPart}
use Rattle.splits.specs.Changes.{changed, change_to}
use Rattle.splits.specs.Lengths.{IsLeastFrom}
use Rattle.splits.proofs.LengthLemmas.{least_from, least_from_is, one_least}
use Rattle.splits.proofs.Selections.{split_at, remaining, selection_splits, split_selects}
use Rattle.splits.proofs.NextPart.{Follows, front_to, front, following, following_same, following_other, following_is}
use Rattle.splits.proofs.PartLemmas.{part_split, part_fits, fitting_part, after_is}

-- ---- what remains

remaining_none : (part : List ℕ) → remaining part [] ≡ []
remaining_none [] = refl
remaining_none (p ∷ ps) = refl

pub remaining_all : (part xs rest all : List ℕ) (i k : ℕ) → length xs ≤ i → rest ++ remaining (drop k part) (drop i xs) ≡ all → rest ≡ all
remaining_all part xs rest all i k past so_far =
    sym (append-nil rest)
    ∙ (ap (λ (ns : List ℕ). rest ++ ns) (sym (remaining_none (drop k part)))
    ∙ (ap (λ (ns : List ℕ). rest ++ remaining (drop k part) ns) (sym (drop_all i xs past)) ∙ so_far))

-- a part and what remains are one of the splits
pub remaining_is : (above : ℕ) (part xs rest : List ℕ) → ascends_above above xs ≡ true → IsPart part (splits xs) → rest ≡ remaining part xs
    → IsIn (record { part = part; rest = rest }) (splits xs)
remaining_is above part xs rest h there same =
    let found = part_split part (splits xs) there in
    let selected = subst (λ (ns : List ℕ). IsIn (split_at ns xs) (splits xs)) (sym found.2) (selection_splits above found.0.part xs h (split_selects xs found.0 found.1)) in
    subst (λ (ns : List ℕ). IsIn (record { part = part; rest = ns }) (splits xs)) (sym same) selected

-- ---- the change

-- the next part is one that differs behind the place, or else comes of the change that was found
pub record Sought (lengths : List Bool) (labels part : List ℕ) (place kept : ℕ) (longer : Option ℕ) (change : Option Change) : Type 0 where
  pub within : kept ≤ length part
  pub least : IsLeastFrom lengths (kept + 1) longer
  pub next : option_or (option_map (λ other. take kept part ++ other) (following lengths kept (drop kept part) (drop place labels))) (option_map (changed labels part) change)
      ≡ following lengths 0 part labels
  pub keeps : IfSome change (λ c. c.kept ≤ length part)
  pub takes : IfSome change (λ c. c.place + c.taken ≤ length labels)

-- the front of a part that is kept, and then another part
abbrev behind : List ℕ → Option (List ℕ) → Option (List ℕ)
behind kept next = option_map (λ other. kept ++ other) next

-- ---- the change to a length

some_or : {X : Type 0} (a b : Option X) (P : X → Type 0) → IfSome a P → IfSome b P → IfSome (option_or a b) P
some_or None b P h g = g
some_or (Some x) b P h g = h

mapped_or : {X : Type 0} (f : X → List ℕ) (a b : Option X) → option_map f (option_or a b) ≡ option_or (option_map f a) (option_map f b)
mapped_or f None b = refl
mapped_or f (Some x) b = refl

changed_to : (labels part : List ℕ) (long : Option ℕ) (kept place : ℕ)
    → option_map (changed labels part) (change_to long kept place (length labels)) ≡ behind (take kept part) (front_to long kept (drop place labels))
changed_to labels part None kept place = refl
changed_to labels part (Some long) kept place =
    by_cases (nat_le (long - kept) (length labels - place)) ∙ ap (λ (n : ℕ). behind (take kept part) (cond (nat_le (long - kept) n) (Some (take (long - kept) (drop place labels))) None)) (sym (length-drop place labels))
  where
    by_cases : (enough : Bool) → option_map {T = Change} (changed labels part) (cond enough (Some (record { kept = kept; place = place; taken = long - kept })) None)
        ≡ behind (take kept part) (cond enough (Some (take (long - kept) (drop place labels))) None)
    by_cases true = refl
    by_cases false = refl

to_keeps : (long : Option ℕ) (kept place end most : ℕ) → kept ≤ most → IfSome (change_to long kept place end) (λ c. c.kept ≤ most)
to_keeps None kept place end most h = tt
to_keeps (Some long) kept place end most h = by_cases (nat_le (long - kept) (end - place))
  where
    by_cases : (enough : Bool) → IfSome {T = Change} (cond enough (Some (record { kept = kept; place = place; taken = long - kept })) None) (λ c. c.kept ≤ most)
    by_cases true = h
    by_cases false = tt

to_takes : (long : Option ℕ) (kept place end : ℕ) → place ≤ end → IfSome (change_to long kept place end) (λ c. c.place + c.taken ≤ end)
to_takes None kept place end h = tt
to_takes (Some long) kept place end h = by_cases (nat_le (long - kept) (end - place)) refl
  where
    by_cases : (enough : Bool) → nat_le (long - kept) (end - place) ≡ enough
        → IfSome {T = Change} (cond enough (Some (record { kept = kept; place = place; taken = long - kept })) None) (λ c. c.place + c.taken ≤ end)
    by_cases true is = omega (arith, leb-true (long - kept) (end - place) is)
    by_cases false isnt = tt

-- ---- the steps of the search

following_none : (lengths : List Bool) (kept : ℕ) (part : List ℕ) → following lengths kept part [] ≡ None
following_none lengths kept [] = none (least_from lengths (kept + 1)) (least_from_is lengths (kept + 1))
  where
    none : (long : Option ℕ) → IsLeastFrom lengths (kept + 1) long → front_to long kept [] ≡ None
    none None l = refl
    none (Some long) l = cond-false (nat_le (long - kept) 0) (Some (take (long - kept) [])) None (lt-leb (long - kept) 0 (omega (arith, l.0)))
following_none lengths kept (p ∷ ps) = refl

or_assoc : (a b c : Option (List ℕ)) → option_or (option_or a b) c ≡ option_or a (option_or b c)
or_assoc None b c = refl
or_assoc (Some x) b c = refl

behind_or : (kept more : List ℕ) (x : ℕ) (o f : Option (List ℕ)) → more ≡ kept ++ x ∷ []
    → behind kept (option_or (option_map (λ other. x ∷ other) o) f) ≡ option_or (behind more o) (behind kept f)
behind_or kept more x None f same = refl
behind_or kept more x (Some next) f same = ap Some (sym (ap (λ (ns : List ℕ). ns ++ next) same ∙ append_assoc kept (x ∷ []) next))

module _ (lengths : List Bool) (labels part : List ℕ) (place kept : ℕ) (longer : Option ℕ) (change : Option Change) (here : place < length labels)
    (s : Sought lengths labels part place kept longer change) where
  abbrev left : List ℕ
  left = drop (place + 1) labels

  abbrev found : Option (List ℕ)
  found = option_map (changed labels part) change

  abbrev label : ℕ
  label = get_or labels place 0

  at_label : following lengths kept (drop kept part) (drop place labels) ≡ following lengths kept (drop kept part) (label ∷ left)
  at_label = ap (λ (ns : List ℕ). following lengths kept (drop kept part) ns) (drop_more labels place 0 here)

  -- the change to the least length that is admitted above those that are kept makes the least selection
  to_front : (from : ℕ) → option_map (changed labels part) (option_or (change_to longer kept from (length labels)) change)
      ≡ option_or (behind (take kept part) (front lengths kept (drop from labels))) found
  to_front from =
      mapped_or (changed labels part) (change_to longer kept from (length labels)) change
      ∙ ap (λ (o : Option (List ℕ)). option_or o found) (changed_to labels part longer kept from
      ∙ ap (λ (long : Option ℕ). behind (take kept part) (front_to long kept (drop from labels))) (one_least lengths (kept + 1) longer (least_from lengths (kept + 1)) s.least (least_from_is lengths (kept + 1))))

  -- the label isn't the next one of the part
  pub sought_other : kept < length part → (label ≡ get_or part kept 0 → ⊥) → Sought lengths labels part (place + 1) kept longer change
  sought_other there other = record {
    within = s.within;
    least = s.least;
    next = ap (λ (o : Option (List ℕ)). option_or (behind (take kept part) o) found) (sym passed) ∙ s.next;
    keeps = s.keeps;
    takes = s.takes;
  }
    where
      at_part : drop kept part ≡ get_or part kept 0 ∷ drop (kept + 1) part
      at_part = drop_more part kept 0 there

      passed : following lengths kept (drop kept part) (drop place labels) ≡ following lengths kept (drop kept part) left
      passed =
          at_label ∙ (ap (λ (ns : List ℕ). following lengths kept ns (label ∷ left)) at_part
          ∙ (following_other lengths kept (get_or part kept 0) label (drop (kept + 1) part) left (λ same. other (sym same)) ∙ ap (λ (ns : List ℕ). following lengths kept ns left) (sym at_part)))

  module _ (there : kept < length part) (same : label ≡ get_or part kept 0) where
    abbrev deeper : Option (List ℕ)
    deeper = following lengths (kept + 1) (drop (kept + 1) part) left

    -- the label stays, or a greater one comes in its place
    split_next : option_or (behind (take (kept + 1) part) deeper) (option_or (behind (take kept part) (front lengths kept left)) found) ≡ following lengths 0 part labels
    split_next =
        sym (or_assoc (behind (take (kept + 1) part) deeper) (behind (take kept part) (front lengths kept left)) found)
        ∙ (ap (λ (o : Option (List ℕ)). option_or o found)
        (sym (behind_or (take kept part) (take (kept + 1) part) (get_or part kept 0) deeper (front lengths kept left) (take_more part kept 0 there)))
        ∙ (ap (λ (o : Option (List ℕ)). option_or (behind (take kept part) o) found) (sym at_both) ∙ s.next))
      where
        at_both : following lengths kept (drop kept part) (drop place labels) ≡ option_or (option_map (λ other. get_or part kept 0 ∷ other) deeper) (front lengths kept left)
        at_both =
            at_label ∙ (ap (λ (ns : List ℕ). following lengths kept ns (label ∷ left)) (drop_more part kept 0 there)
            ∙ following_same lengths kept (get_or part kept 0) label (drop (kept + 1) part) left (sym same))

    pub sought_kept : (more : Option ℕ) → IsLeastFrom lengths (kept + 1 + 1) more
        → Sought lengths labels part (place + 1) (kept + 1) more (option_or (change_to longer kept (place + 1) (length labels)) change)
    sought_kept more l = record {
      within = omega arith;
      least = l;
      next = ap (λ (o : Option (List ℕ)). option_or (behind (take (kept + 1) part) deeper) o) (to_front (place + 1)) ∙ split_next;
      keeps = some_or (change_to longer kept (place + 1) (length labels)) change (λ c. c.kept ≤ length part) (to_keeps longer kept (place + 1) (length labels) (length part) s.within) s.keeps;
      takes = some_or (change_to longer kept (place + 1) (length labels)) change (λ c. c.place + c.taken ≤ length labels)
          (to_takes longer kept (place + 1) (length labels) (omega arith)) s.takes;
    }

  -- all labels of the part stay: it grows, or the change that was found is the one
  abbrev grown : Option Change
  grown = option_or (change_to longer kept place (length labels)) change

  pub grown_is : kept ≡ length part → option_map (changed labels part) grown ≡ following lengths 0 part labels
  grown_is all =
      to_front place
      ∙ (ap (λ (ns : List ℕ). option_or (behind (take kept part) (following lengths kept ns (drop place labels))) found) (sym (drop_all kept part (omega arith))) ∙ s.next)

-- no label is left
pub sought_is : (lengths : List Bool) (labels part : List ℕ) (place kept : ℕ) (longer : Option ℕ) (change : Option Change) → length labels ≤ place
    → Sought lengths labels part place kept longer change → option_map (changed labels part) change ≡ following lengths 0 part labels
sought_is lengths labels part place kept longer change past s =
    ap (λ (o : Option (List ℕ)). option_or (behind (take kept part) o) (option_map (changed labels part) change)) (sym none) ∙ s.next
  where
    none : following lengths kept (drop kept part) (drop place labels) ≡ None
    none = ap (λ (ns : List ℕ). following lengths kept (drop kept part) ns) (drop_all place labels past) ∙ following_none lengths kept (drop kept part)

-- ---- what follows is what is promised

pub later_is : (above : ℕ) (lengths : List Bool) (labels part : List ℕ) (next : Option (List ℕ)) → ascends_above above labels ≡ true → IsPart part (parts_of lengths labels)
    → next ≡ following lengths 0 part labels → from_part next (parts_of lengths labels) ≡ after part (parts_of lengths labels)
later_is above lengths labels part next h there same =
    after_is lengths labels part next (subst (Follows lengths 0 labels part) (sym same) (following_is above lengths 0 part labels h (part_fits lengths labels part there).selects))

next_fits : (above : ℕ) (lengths : List Bool) (labels part : List ℕ) (next : Option (List ℕ)) → ascends_above above labels ≡ true → Follows lengths 0 labels part next
    → IfSome next (λ other. IsPart other (parts_of lengths labels))
next_fits above lengths labels part None h n = tt
next_fits above lengths labels part (Some next) h n = fitting_part above lengths labels next h n.fits

pub next_part : (above : ℕ) (lengths : List Bool) (labels part : List ℕ) (next : Option (List ℕ)) → ascends_above above labels ≡ true → IsPart part (parts_of lengths labels)
    → next ≡ following lengths 0 part labels → IfSome next (λ other. IsPart other (parts_of lengths labels))
next_part above lengths labels part next h there same =
    next_fits above lengths labels part next h (subst (Follows lengths 0 labels part) (sym same) (following_is above lengths 0 part labels h (part_fits lengths labels part there).selects))

some_mapped : {X : Type 0} (f : X → List ℕ) (o : Option X) (P : List ℕ → Type 0) → IfSome (option_map f o) P → IfSome o (λ x. P (f x))
some_mapped f None P h = tt
some_mapped f (Some x) P h = h

pub changed_part : (above : ℕ) (lengths : List Bool) (labels part : List ℕ) (change : Option Change) → ascends_above above labels ≡ true → IsPart part (parts_of lengths labels)
    → option_map (changed labels part) change ≡ following lengths 0 part labels → IfSome change (λ c. IsPart (changed labels part c) (parts_of lengths labels))
changed_part above lengths labels part change h there same =
    some_mapped (changed labels part) change (λ other. IsPart other (parts_of lengths labels)) (next_part above lengths labels part (option_map (changed labels part) change) h there same)
