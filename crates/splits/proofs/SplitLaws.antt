-- The splits of ascending labels are enumerated by the order of the parts.
use Rattle.std.proofs.Common.{◌≡◌, ◌⊎◌, ℕ, suc, ◌<◌, true, List, [], ◌∷◌, ◌++◌, map, filter, refl, sym, ap, ◌∙◌, subst, inl, inr, true≢false, arith, Less, nat_cmp}
use Rattle.std.specs.Cmp.Lexicographic.{slice_cmp}
use Rattle.std.proofs.lemmas.Bool.{cases_lt, cases_order}
use Rattle.std.proofs.lemmas.Bool.Decides.{nat_tests}
use Rattle.lists.specs.Ascending.{inserted, ascending}
use Rattle.lists.specs.Enumeration.{Enumerated}
use Rattle.splits.specs.Splits.{Split, taking, leaving, begins_above, splits}
use Rattle.splits.specs.Laws.{PartBefore}
use Rattle.lists.proofs.NumberOrder.{same_first, lesser_first}
use Rattle.lists.proofs.Enumerated as enumerated
use Rattle.lists.proofs.Ascending.{From, AtLeast, Rises, lower, each_append, each_left, each_right, each_ascending, from_ascending, ascending_same, inserted_first, inserted_later, inserted_least, ascending_middle}

-- the two lists ascend and together they are the supply
pub record MakesUp (u : List ℕ) (split : Split) : Type 0 where
  pub part : Rises split.part
  pub rest : Rises split.rest
  pub whole : ascending (split.part ++ split.rest) ≡ u

module _ (label : ℕ) (labels : List ℕ) (least : AtLeast label labels) (risen : Rises labels) where
  abbrev pub whole : List ℕ
  whole = label ∷ labels

  abbrev pub none_taken : Split
  none_taken = record { part = []; rest = whole }

  -- the split takes the first label
  abbrev pub Taking : Split → Type 0
  Taking split = (others : Split) × MakesUp labels others × (split ≡ taking label others)

  -- the split begins with a greater label
  abbrev pub Leaving : Split → Type 0
  Leaving split = (others : Split) × (MakesUp labels others × (begins_above label others ≡ true)) × (split ≡ leaving label others)

  none_is : MakesUp whole none_taken
  none_is = record { part = tt; rest = (least, risen); whole = ascending_same whole (least, risen) }

  least_of : (ns : List ℕ) → ascending ns ≡ labels → AtLeast label ns
  least_of ns same = from_ascending (From label) ns (subst (AtLeast label) (sym same) least)

  pub taking_is : (split : Split) → MakesUp labels split → MakesUp whole (taking label split)
  taking_is split s = record {
    part = (each_left (From label) split.part split.rest (least_of (split.part ++ split.rest) s.whole), s.part);
    rest = s.rest;
    whole = ap (inserted label) s.whole ∙ inserted_least label labels least;
  }

  leaving_is : (split : Split) → MakesUp labels split → MakesUp whole (leaving label split)
  leaving_is split s = record {
    part = s.part;
    rest = (each_right (From label) split.part split.rest (least_of (split.part ++ split.rest) s.whole), s.rest);
    whole = ascending_middle label split.part split.rest ∙ ap (inserted label) s.whole ∙ inserted_least label labels least;
  }

  every_label : (ns : List ℕ) → ascending ns ≡ whole → AtLeast label ns
  every_label ns same = from_ascending (From label) ns (subst (AtLeast label) (sym same) (omega arith, least))

  -- the first label is somewhere
  not_above : (ns : List ℕ) → ascending ns ≡ whole → AtLeast (suc label) ns → ⊥
  not_above ns same above = let all : AtLeast (suc label) whole = subst (AtLeast (suc label)) same (each_ascending (From (suc label)) ns above) in omega (arith, all.0)

  less_one : (ns : List ℕ) → AtLeast label ns → inserted label (ascending ns) ≡ whole → ascending ns ≡ labels
  less_one ns a same =
      let first : label ∷ ascending ns ≡ whole = sym (inserted_least label (ascending ns) (each_ascending (From label) ns a)) ∙ same in cc

  raised : (n : ℕ) (ns : List ℕ) → label < n → Rises (n ∷ ns) → AtLeast (suc label) (n ∷ ns)
  raised n ns h r = (omega arith, lower (suc label) n ns (omega arith) r.0)

  begins_with : (n : ℕ) (ns rest : List ℕ) → label < n → begins_above label (record { part = n ∷ ns; rest = rest }) ≡ true
  begins_with n ns rest h = grind (arith, nat_tests)

  -- the part begins above the first label, so the rest begins with it
  leaves : (n : ℕ) (ns rest : List ℕ) → label < n → MakesUp whole (record { part = n ∷ ns; rest = rest }) → Leaving (record { part = n ∷ ns; rest = rest })
  leaves n ns [] h s = absurd (not_above (n ∷ ns ++ []) s.whole (each_append (From (suc label)) (n ∷ ns) [] (raised n ns h s.part) tt))
  leaves n ns (m ∷ rest) h s =
      let all : AtLeast label (m ∷ rest) = each_right (From label) (n ∷ ns) (m ∷ rest) (every_label (n ∷ ns ++ m ∷ rest) s.whole) in
      elim (cases_order m label) [
        | inl same ↦
            let whole_is : ascending (n ∷ ns ++ label ∷ rest) ≡ whole = subst (λ (l : ℕ). ascending (n ∷ ns ++ l ∷ rest) ≡ whole) same s.whole in (
              record { part = n ∷ ns; rest = rest },
              (
                record {
                  part = s.part;
                  rest = s.rest.1;
                  whole = less_one (n ∷ ns ++ rest) (each_append (From label) (n ∷ ns) rest (each_left (From label) (n ∷ ns) (m ∷ rest) (every_label (n ∷ ns ++ m ∷ rest) s.whole)) all.1)
                      (sym (ascending_middle label (n ∷ ns) rest) ∙ whole_is);
                },
                begins_with n ns rest h,
              ),
              ap (λ (l : ℕ). record { part = n ∷ ns; rest = l ∷ rest }) same,
            )
        | inr (inl below) ↦ absurd (omega (arith, all.0))
        | inr (inr above) ↦ absurd (not_above (n ∷ ns ++ m ∷ rest) s.whole
            (each_append (From (suc label)) (n ∷ ns) (m ∷ rest) (raised n ns h s.part) (raised m rest above s.rest)))
      ]

  cases_at : (part rest : List ℕ) → MakesUp whole (record { part = part; rest = rest })
      → (record { part = part; rest = rest } ≡ none_taken) ⊎ (Taking (record { part = part; rest = rest }) ⊎ Leaving (record { part = part; rest = rest }))
  cases_at [] rest s = inl (ap (λ (ns : List ℕ). record { part = []; rest = ns }) (sym (ascending_same rest s.rest) ∙ s.whole))
  cases_at (n ∷ ns) rest s =
      let all : AtLeast label (n ∷ ns ++ rest) = every_label (n ∷ ns ++ rest) s.whole in
      elim (cases_order n label) [
        | inl same ↦ inr (inl (
          record { part = ns; rest = rest },
          record {
            part = s.part.1;
            rest = s.rest;
            whole = less_one (ns ++ rest) all.1 (subst (λ (l : ℕ). inserted l (ascending (ns ++ rest)) ≡ whole) same s.whole);
          },
          ap (λ (l : ℕ). record { part = l ∷ ns; rest = rest }) same,
        ))
        | inr (inl below) ↦ absurd (omega (arith, all.0))
        | inr (inr above) ↦ inr (inr (leaves n ns rest above s))
      ]

  -- each split takes nothing, takes the first label, or takes a greater one first
  pub cases : (split : Split) → MakesUp whole split → (split ≡ none_taken) ⊎ (Taking split ⊎ Leaving split)
  cases split s = cases_at split.part split.rest s

  pub begun_above : (split : Split) → begins_above label split ≡ true → (n : ℕ) × (ns : List ℕ) × (split.part ≡ n ∷ ns) × (label < n)
  begun_above split h = begun_at split.part h
    where
      begun_at : (part : List ℕ) → begins_above label (record { part = part; rest = [] }) ≡ true → (n : ℕ) × (ns : List ℕ) × (part ≡ n ∷ ns) × (label < n)
      begun_at [] h = absurd (true≢false (sym h))
      begun_at (n ∷ ns) h = (n, ns, refl, grind (arith, nat_tests))

  takings : Enumerated PartBefore (MakesUp labels) (splits labels) → Enumerated PartBefore Taking (map (taking label) (splits labels))
  takings e = enumerated.mapped PartBefore (MakesUp labels) PartBefore Taking (taking label) (splits labels) e
      (λ a b s t before. same_first label a.part b.part ∙ before) (λ a s. (a, s, refl)) (λ b w. w)

  leavings : Enumerated PartBefore (MakesUp labels) (splits labels) → Enumerated PartBefore Leaving (map (leaving label) (filter (begins_above label) (splits labels)))
  leavings e = enumerated.mapped PartBefore (λ a. MakesUp labels a × (begins_above label a ≡ true)) PartBefore Leaving (leaving label) (filter (begins_above label) (splits labels))
      (enumerated.filtered PartBefore (MakesUp labels) (begins_above label) (splits labels) e)
      (λ a b s t before. before) (λ a s. (a, s, refl)) (λ b w. w)

  taken_first : (a : Split) → Taking a → (b : Split) → Leaving b → PartBefore a b
  taken_first a t b l =
      let begun = begun_above l.0 l.1.1 in
      let lesser : slice_cmp nat_cmp (label ∷ t.0.part) (begun.0 ∷ begun.1) ≡ Less = lesser_first label begun.0 t.0.part begun.1 begun.3 in
      ap (λ (s : Split). slice_cmp nat_cmp s.part b.part) t.2 ∙ ap (λ (s : Split). slice_cmp nat_cmp (label ∷ t.0.part) s.part) l.2
      ∙ ap (λ (ns : List ℕ). slice_cmp nat_cmp (label ∷ t.0.part) ns) begun.2 ∙ lesser

  Others : Split → Type 0
  Others a = Taking a ⊎ Leaving a

  others : Enumerated PartBefore (MakesUp labels) (splits labels)
      → Enumerated PartBefore Others (map (taking label) (splits labels) ++ map (leaving label) (filter (begins_above label) (splits labels)))
  unfolding Others
  others e = enumerated.append PartBefore Taking Leaving Others (map (taking label) (splits labels)) (map (leaving label) (filter (begins_above label) (splits labels)))
      (takings e) (leavings e) taken_first (λ a t. inl t) (λ a l. inr l) (λ a o. o)

  none_first : (b : Split) → Others b → PartBefore none_taken b
  unfolding Others
  none_first b (inl t) = ap (λ (s : Split). slice_cmp nat_cmp [] s.part) t.2
  none_first b (inr l) =
      let begun = begun_above l.0 l.1.1 in
      ap (λ (s : Split). slice_cmp nat_cmp [] s.part) l.2 ∙ ap (λ (ns : List ℕ). slice_cmp nat_cmp [] ns) begun.2

  from_others : (b : Split) → Others b → MakesUp whole b
  unfolding Others
  from_others b (inl t) = subst (MakesUp whole) (sym t.2) (taking_is t.0 t.1)
  from_others b (inr l) = subst (MakesUp whole) (sym l.2) (leaving_is l.0 l.1.0)

  all_splits : Enumerated PartBefore (MakesUp labels) (splits labels) → Enumerated PartBefore (MakesUp whole) (splits whole)
  unfolding Others
  all_splits e = enumerated.append PartBefore (λ a. a ≡ none_taken) Others (MakesUp whole) (none_taken ∷ [])
      (map (taking label) (splits labels) ++ map (leaving label) (filter (begins_above label) (splits labels)))
      (enumerated.one PartBefore (λ a. a ≡ none_taken) none_taken refl (λ b same. same)) (others e)
      (λ a same b o. subst (λ (s : Split). PartBefore s b) (sym same) (none_first b o))
      (λ a same. subst (MakesUp whole) (sym same) none_is) from_others cases

empty_only : (split : Split) → MakesUp [] split → split ≡ record { part = []; rest = [] }
empty_only split s = empty_at split.part split.rest s
  where
    empty_at : (part rest : List ℕ) → MakesUp [] (record { part = part; rest = rest }) → ◌≡◌ {A = Split} (record { part = part; rest = rest }) (record { part = []; rest = [] })
    empty_at [] rest s = ap (λ (ns : List ℕ). record { part = []; rest = ns }) (sym (ascending_same rest s.rest) ∙ s.whole)
    empty_at (n ∷ ns) rest s = absurd (not_empty n (ascending (ns ++ rest)) s.whole)
      where
        not_empty : (n : ℕ) (ms : List ℕ) → inserted n ms ≡ [] → ⊥
        not_empty n [] h = cc
        not_empty n (m ∷ ms) h = elim (cases_lt m n) [
          | inl above ↦ let e : m ∷ inserted n ms ≡ [] = sym (inserted_later n m ms above) ∙ h in cc
          | inr within ↦ let e : n ∷ m ∷ ms ≡ [] = sym (inserted_first n m ms within) ∙ h in cc
        ]

-- the splits of ascending labels are those with a part and a rest that ascend and make the labels together, by the order of the parts
pub splits_are : (u : List ℕ) → Rises u → Enumerated PartBefore (MakesUp u) (splits u)
splits_are [] r = enumerated.one PartBefore (MakesUp []) (record { part = []; rest = [] }) (record { part = tt; rest = tt; whole = refl }) empty_only
splits_are (label ∷ labels) r = all_splits label labels r.0 r.1 (splits_are labels r.1)
