-- The part that follows a part in lexicographic order.
use Rattle.std.proofs.Common.{◌≡◌, ◌⊎◌, ℕ, suc, ◌+◌, ◌-◌, ◌<◌, Bool, true, cond, List, [], ◌∷◌, take, length, nat_lt, nat_le, nat_eq, Option, Some, None, refl, sym, ap, ◌∙◌, subst, inl, inr, arith, Less, nat_cmp}
use Rattle.std.specs.Cmp.Lexicographic.{slice_cmp}
use Rattle.std.specs.Option.{option_map, option_or}
use Rattle.std.proofs.lemmas.Bool.{and_parts, cases_lt, le-leb, lt-leb, eq-eqb, ne_eqb, cond-true, cond-false}
use Rattle.std.proofs.lemmas.List.{length-take-le}
use Rattle.lists.specs.Ascending.{ascends_above}
use Rattle.lists.proofs.NumberOrder.{same_first, lesser_first, from_first}
use Rattle.splits.specs.Lengths.{is_admitted, IsLeastFrom}
use Rattle.splits.proofs.LengthLemmas.{least_from, least_from_is}
use Rattle.splits.proofs.Selections.{Selects, selects_more, selects_length, selects_front, selects_above, front_is_least}

-- the part is a selection, and its length behind the labels that are kept is admitted
pub record Fits (lengths : List Bool) (kept : ℕ) (u part : List ℕ) : Type 0 where
  pub selects : Selects part u
  pub admitted : is_admitted lengths (kept + length part) ≡ true

-- no part that fits stands between the part and the next one
pub record IsNext (lengths : List Bool) (kept : ℕ) (u part next : List ℕ) : Type 0 where
  pub fits : Fits lengths kept u next
  pub later : slice_cmp nat_cmp part next ≡ Less
  pub least : (other : List ℕ) → Fits lengths kept u other → slice_cmp nat_cmp part other ≡ Less → slice_cmp nat_cmp other next ≡ Less → ⊥

-- the next part, or none where no part that fits comes later
abbrev pub Follows : List Bool → ℕ → List ℕ → List ℕ → Option (List ℕ) → Type 0
Follows lengths kept u part None = (other : List ℕ) → Fits lengths kept u other → slice_cmp nat_cmp part other ≡ Less → ⊥
Follows lengths kept u part (Some next) = IsNext lengths kept u part next

-- the first labels that lead to the length behind those that are kept, where there are enough
abbrev pub front_to : Option ℕ → ℕ → List ℕ → Option (List ℕ)
front_to None kept u = None
front_to (Some long) kept u = cond (nat_le (long - kept) (length u)) (Some (take (long - kept) u)) None

-- the least of the selections that aren't empty and lead to an admitted length
abbrev pub front : List Bool → ℕ → List ℕ → Option (List ℕ)
front lengths kept u = front_to (least_from lengths (kept + 1)) kept u

-- the part that follows, by its labels from the right: more labels, else a greater label in the place of the last one that can grow
abbrev pub following : List Bool → ℕ → List ℕ → List ℕ → Option (List ℕ)
following lengths kept [] u = front lengths kept u
following lengths kept (p ∷ ps) [] = None
following lengths kept (p ∷ ps) (x ∷ xs) =
    cond (nat_eq p x) (option_or (option_map (λ next. p ∷ next) (following lengths (kept + 1) ps xs)) (front lengths kept xs)) (following lengths kept (p ∷ ps) xs)

pub following_same : (lengths : List Bool) (kept p x : ℕ) (ps xs : List ℕ) → p ≡ x
    → following lengths kept (p ∷ ps) (x ∷ xs) ≡ option_or (option_map (λ next. p ∷ next) (following lengths (kept + 1) ps xs)) (front lengths kept xs)
following_same lengths kept p x ps xs same = cond-true (nat_eq p x) _ _ (eq-eqb p x same)

pub following_other : (lengths : List Bool) (kept p x : ℕ) (ps xs : List ℕ) → (p ≡ x → ⊥) → following lengths kept (p ∷ ps) (x ∷ xs) ≡ following lengths kept (p ∷ ps) xs
following_other lengths kept p x ps xs other = cond-false (nat_eq p x) _ _ (ne_eqb p x other)

-- ---- the least selection

record IsFront (lengths : List Bool) (kept : ℕ) (u next : List ℕ) : Type 0 where
  fits : Fits lengths kept u next
  some : 0 < length next
  least : (other : List ℕ) → Fits lengths kept u other → 0 < length other → slice_cmp nat_cmp other next ≡ Less → ⊥

Fronts : List Bool → ℕ → List ℕ → Option (List ℕ) → Type 0
Fronts lengths kept u None = (other : List ℕ) → Fits lengths kept u other → 0 < length other → ⊥
Fronts lengths kept u (Some next) = IsFront lengths kept u next

front_to_is : (above : ℕ) (lengths : List Bool) (kept : ℕ) (u : List ℕ) (long : Option ℕ) → ascends_above above u ≡ true → IsLeastFrom lengths (kept + 1) long
    → Fronts lengths kept u (front_to long kept u)
unfolding Fronts
front_to_is above lengths kept u None h l = λ other f some. l (kept + length other) (omega arith) f.admitted
front_to_is above lengths kept u (Some long) h l = elim (cases_lt (length u) (long - kept)) [
  | inl short ↦ subst (Fronts lengths kept u) (sym (cond-false _ (Some (take (long - kept) u)) None (lt-leb (long - kept) (length u) short)))
      (λ other f some. omega (arith, selects_length other u f.selects, l.2 (kept + length other) (omega arith) f.admitted))
  | inr enough ↦
      let taken : length (take (long - kept) u) ≡ long - kept = length-take-le (long - kept) u enough in
      subst (Fronts lengths kept u) (sym (cond-true _ (Some (take (long - kept) u)) None (le-leb (long - kept) (length u) enough)))
      (record {
        fits = record {
          selects = selects_front (long - kept) u;
          admitted = subst (λ (n : ℕ). is_admitted lengths n ≡ true) (omega (arith, taken, l.0)) l.1;
        };
        some = omega (arith, taken, l.0);
        least = λ other f some before. front_is_least above (long - kept) other u h f.selects (omega (arith, l.2 (kept + length other) (omega arith) f.admitted)) before;
      })
]

front_is : (above : ℕ) (lengths : List Bool) (kept : ℕ) (u : List ℕ) → ascends_above above u ≡ true → Fronts lengths kept u (front lengths kept u)
front_is above lengths kept u h = front_to_is above lengths kept u (least_from lengths (kept + 1)) h (least_from_is lengths (kept + 1))

-- ---- a part that begins with the first label

-- one more label is kept, and one fewer stands behind
kept_more : (lengths : List Bool) (kept n : ℕ) → is_admitted lengths (kept + suc n) ≡ true → is_admitted lengths (kept + 1 + n) ≡ true
kept_more lengths kept n is = subst (λ (k : ℕ). is_admitted lengths k ≡ true) (omega arith) is

kept_fewer : (lengths : List Bool) (kept n : ℕ) → is_admitted lengths (kept + 1 + n) ≡ true → is_admitted lengths (kept + suc n) ≡ true
kept_fewer lengths kept n is = subst (λ (k : ℕ). is_admitted lengths k ≡ true) (omega arith) is

module _ (lengths : List Bool) (kept x : ℕ) (ps xs : List ℕ) (risen : ascends_above x xs ≡ true) where
  abbrev Begins : List ℕ → Type 0
  Begins other = (rest : List ℕ) × (other ≡ x ∷ rest) × Fits lengths (kept + 1) xs rest × (slice_cmp nat_cmp ps rest ≡ Less)

  abbrev Skips : List ℕ → Type 0
  Skips other = (r : ℕ) × (rs : List ℕ) × (other ≡ r ∷ rs) × (x < r) × Selects (r ∷ rs) xs

  skipped : (r : ℕ) (rs : List ℕ) → x < r → Selects (r ∷ rs) (x ∷ xs) → Selects (r ∷ rs) xs
  skipped r rs above (inl both) = absurd (omega (arith, both.0))
  skipped r rs above (inr later) = later

  begun : (r : ℕ) (rs : List ℕ) → x ≡ r → Selects (r ∷ rs) (x ∷ xs) → Selects rs xs
  begun r rs same (inl both) = both.1
  begun r rs same (inr later) = absurd (omega (arith, selects_above x r rs xs risen later))

  -- a later part goes on later behind the first label, or begins with a greater label
  later_parts : (other : List ℕ) → Fits lengths kept (x ∷ xs) other → slice_cmp nat_cmp (x ∷ ps) other ≡ Less → Begins other ⊎ Skips other
  later_parts [] f before = absurd (cc)
  later_parts (r ∷ rs) f before = elim (from_first x r ps rs before) [
    | inl above ↦ inr (r, rs, refl, above, skipped r rs above f.selects)
    | inr same ↦ inl (
      rs,
      ap (λ (k : ℕ). k ∷ rs) (sym same.0),
      record { selects = begun r rs same.0 f.selects; admitted = kept_more lengths kept (length rs) f.admitted },
      same.1,
    )
  ]

  not_below : (r : ℕ) (rs next : List ℕ) → x < r → slice_cmp nat_cmp (r ∷ rs) (x ∷ next) ≡ Less → ⊥
  not_below r rs next above before = elim (from_first r x rs next before) [ inl below ↦ omega arith | inr same ↦ omega (arith, same.0) ]

  behind : (rest next : List ℕ) → slice_cmp nat_cmp (x ∷ rest) (x ∷ next) ≡ Less → slice_cmp nat_cmp rest next ≡ Less
  behind rest next before = sym (same_first x rest next) ∙ before

  begins_next : (next : List ℕ) → IsNext lengths (kept + 1) xs ps next → IsNext lengths kept (x ∷ xs) (x ∷ ps) (x ∷ next)
  begins_next next n = record {
    fits = record { selects = inl (refl, n.fits.selects); admitted = kept_fewer lengths kept (length next) n.fits.admitted };
    later = same_first x ps next ∙ n.later;
    least = λ other f before first. elim (later_parts other f before) [
      | inl b ↦ n.least b.0 b.2 b.3 (behind b.0 next (subst (λ (o : List ℕ). slice_cmp nat_cmp o (x ∷ next) ≡ Less) b.1 first))
      | inr s ↦ not_below s.0 s.1 next s.3 (subst (λ (o : List ℕ). slice_cmp nat_cmp o (x ∷ next) ≡ Less) s.2 first)
    ];
  }

  front_later : (next : List ℕ) → Selects next xs → 0 < length next → slice_cmp nat_cmp (x ∷ ps) next ≡ Less
  front_later [] s some = absurd (omega arith)
  front_later (r ∷ rs) s some = lesser_first x r ps rs (selects_above x r rs xs risen s)

  -- a part that skips the first label fits behind it
  skips_fit : (other : List ℕ) → Fits lengths kept (x ∷ xs) other → Skips other → Fits lengths kept xs other
  skips_fit other f s = record { selects = subst (λ (k : List ℕ). Selects k xs) (sym s.2) s.4; admitted = f.admitted }

  skips_next : (next : List ℕ) → Follows lengths (kept + 1) xs ps None → IsFront lengths kept xs next → IsNext lengths kept (x ∷ xs) (x ∷ ps) next
  skips_next next none f = record {
    fits = record { selects = selects_more x next xs f.fits.selects; admitted = f.fits.admitted };
    later = front_later next f.fits.selects f.some;
    least = λ other o before first. elim (later_parts other o before) [
      | inl b ↦ none b.0 b.2 b.3
      | inr s ↦ f.least other (skips_fit other o s) (omega (arith, ap length s.2)) first
    ];
  }

  joined : (deeper here : Option (List ℕ)) → Follows lengths (kept + 1) xs ps deeper → Fronts lengths kept xs here
      → Follows lengths kept (x ∷ xs) (x ∷ ps) (option_or (option_map (λ next. x ∷ next) deeper) here)
  unfolding Fronts
  joined (Some next) here n f = begins_next next n
  joined None (Some next) n f = skips_next next n f
  joined None None n f = λ other o before. elim (later_parts other o before) [
    | inl b ↦ n b.0 b.2 b.3
    | inr s ↦ f other (skips_fit other o s) (omega (arith, ap length s.2))
  ]

-- ---- a part that begins with a greater label

module _ (lengths : List Bool) (kept x p : ℕ) (ps xs : List ℕ) (risen : ascends_above x xs ≡ true) (above : x < p) where
  greater : (other : List ℕ) → Fits lengths kept (x ∷ xs) other → slice_cmp nat_cmp (p ∷ ps) other ≡ Less → Fits lengths kept xs other
  greater [] f before = absurd (cc)
  greater (r ∷ rs) f before = record {
    selects = elim f.selects [
      | inl both ↦ absurd (elim (from_first p r ps rs before) [ inl below ↦ omega (arith, both.0) | inr same ↦ omega (arith, both.0, same.0) ])
      | inr later ↦ later
    ];
    admitted = f.admitted;
  }

  passed : (o : Option (List ℕ)) → Follows lengths kept xs (p ∷ ps) o → Follows lengths kept (x ∷ xs) (p ∷ ps) o
  passed None none = λ other f before. none other (greater other f before) before
  passed (Some next) n = record {
    fits = record { selects = selects_more x next xs n.fits.selects; admitted = n.fits.admitted };
    later = n.later;
    least = λ other f before first. n.least other (greater other f before) before first;
  }

-- ---- no part: any that isn't empty comes later

after_empty : (lengths : List Bool) (kept : ℕ) (u : List ℕ) (o : Option (List ℕ)) → Fronts lengths kept u o → Follows lengths kept u [] o
unfolding Fronts
after_empty lengths kept u None f = λ other o before. f other o (not_empty other before)
  where
    not_empty : (other : List ℕ) → slice_cmp nat_cmp [] other ≡ Less → 0 < length other
    not_empty [] before = absurd (cc)
    not_empty (r ∷ rs) before = omega arith
after_empty lengths kept u (Some next) f = record {
  fits = f.fits;
  later = not_last next f.some;
  least = λ other o before first. f.least other o (not_empty other before) first;
}
  where
    not_empty : (other : List ℕ) → slice_cmp nat_cmp [] other ≡ Less → 0 < length other
    not_empty [] before = absurd (cc)
    not_empty (r ∷ rs) before = omega arith

    not_last : (other : List ℕ) → 0 < length other → slice_cmp nat_cmp [] other ≡ Less
    not_last [] some = absurd (omega arith)
    not_last (r ∷ rs) some = refl

-- what is computed is the part that follows
pub following_is : (above : ℕ) (lengths : List Bool) (kept : ℕ) (part u : List ℕ) → ascends_above above u ≡ true → Selects part u
    → Follows lengths kept u part (following lengths kept part u)
following_is above lengths kept [] u h s = after_empty lengths kept u (front lengths kept u) (front_is above lengths kept u h)
following_is above lengths kept (p ∷ ps) [] h s = absurd s
following_is above lengths kept (p ∷ ps) (x ∷ xs) h (inl both) =
    let here = and_parts (nat_lt above x) (ascends_above x xs) h in
    subst (Follows lengths kept (x ∷ xs) (p ∷ ps)) (sym (following_same lengths kept p x ps xs both.0))
    (subst (λ (k : ℕ). Follows lengths kept (x ∷ xs) (k ∷ ps) (option_or (option_map (λ next. k ∷ next) (following lengths (kept + 1) ps xs)) (front lengths kept xs))) (sym both.0)
    (joined lengths kept x ps xs here.1 (following lengths (kept + 1) ps xs) (front lengths kept xs) (following_is x lengths (kept + 1) ps xs here.1 both.1)
    (front_is x lengths kept xs here.1)))
following_is above lengths kept (p ∷ ps) (x ∷ xs) h (inr later) =
    let here = and_parts (nat_lt above x) (ascends_above x xs) h in
    let greater_first : x < p = selects_above x p ps xs here.1 later in
    subst (Follows lengths kept (x ∷ xs) (p ∷ ps)) (sym (following_other lengths kept p x ps xs (λ same. absurd (omega (arith, same)))))
    (passed lengths kept x p ps xs here.1 greater_first (following lengths kept (p ∷ ps) xs) (following_is x lengths kept (p ∷ ps) xs here.1 later))
