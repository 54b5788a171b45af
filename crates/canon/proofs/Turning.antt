-- What stands at the places of a rotation: what stands at those of the list and a copy of it behind it.
use Rattle.std.proofs.Common.{◌≡◌, ℕ, zero, suc, ◌+◌, ◌-◌, ◌<◌, ◌≤◌, List, [], ◌∷◌, ◌++◌, length, take, drop, slice_get, Some, refl, sym, ap, ◌∙◌, subst, inl, inr, append_assoc, length-append, arith}
use Rattle.std.proofs.lemmas.Bool.{cases_lt}
use Rattle.std.proofs.lemmas.List.{take-append-drop, take-append-le, drop-append-le}
use Rattle.std.proofs.Math.Seq.{take-append-add, drop-append-add, take-append_seam, drop-append_seam}
use Rattle.lists.proofs.Places.{get_right}
use Rattle.struct_model.specs.Structure.{Structure}
use Rattle.struct_model.specs.Order.{rotated}
use Rattle.canon.specs.Rotations.{IsRotation}

module _ {X : Type 0} where
  get_front : (xs ys : List X) (q : ℕ) → q < length xs → slice_get (xs ++ ys) q ≡ slice_get xs q
  get_front [] ys q h = absurd (omega arith)
  get_front (x ∷ xs) ys zero h = refl
  get_front (x ∷ xs) ys (suc q) h = get_front xs ys q (omega arith)

  length_of_take : (xs : List X) (i : ℕ) → i ≤ length xs → length (take i xs) ≡ i
  length_of_take [] zero h = refl
  length_of_take [] (suc i) h = absurd (omega arith)
  length_of_take (x ∷ xs) zero h = refl
  length_of_take (x ∷ xs) (suc i) h = ap suc (length_of_take xs i (omega arith))

  pub take_next : (xs : List X) (i : ℕ) (x : X) → slice_get xs i ≡ Some x → take (i + 1) xs ≡ take i xs ++ x ∷ []
  take_next [] i x at = absurd (cc)
  take_next (y ∷ ys) zero x at = let same : y ≡ x = cc in ap (λ z. z ∷ []) same
  take_next (y ∷ ys) (suc i) x at = ap (λ (n : ℕ). take n (y ∷ ys)) (number i) ∙ ap (λ zs. y ∷ zs) (take_next ys i x at)
    where
      number : (n : ℕ) → suc n + 1 ≡ suc (n + 1)
      number n = omega arith

  -- lists of one length with the same at each place are equal
  pub same_lists : (xs ys : List X) → length xs ≡ length ys → ((q : ℕ) → q < length xs → slice_get xs q ≡ slice_get ys q) → xs ≡ ys
  same_lists [] [] e h = refl
  same_lists [] (y ∷ ys) e h = absurd (omega arith)
  same_lists (x ∷ xs) [] e h = absurd (omega arith)
  same_lists (x ∷ xs) (y ∷ ys) e h =
      let first : Some x ≡ Some y = h 0 (omega arith) in
      let later : xs ≡ ys = same_lists xs ys (omega arith) (λ q within. h (suc q) (next q within)) in
      cc
    where
      next : (q : ℕ) → q < length xs → suc q < suc (length xs)
      next q within = omega arith

  all_taken : (xs : List X) → take (length xs) xs ≡ xs
  all_taken [] = refl
  all_taken (x ∷ xs) = ap (λ zs. x ∷ zs) (all_taken xs)

  all_dropped : (xs : List X) → drop (length xs) xs ≡ []
  all_dropped [] = refl
  all_dropped (x ∷ xs) = all_dropped xs

  append_none : (xs : List X) → xs ++ [] ≡ xs
  append_none [] = refl
  append_none (x ∷ xs) = ap (λ zs. x ∷ zs) (append_none xs)

-- ---- the list twice

in_two : (ss : List Structure) (i : ℕ) → ss ++ ss ≡ take i ss ++ (rotated ss i ++ drop i ss)
in_two ss i = (λ k. sym (take-append-drop i ss) k ++ sym (take-append-drop i ss) k) ∙ parts (take i ss) (drop i ss)
  where
    parts : (xs ys : List Structure) → (xs ++ ys) ++ (xs ++ ys) ≡ xs ++ ((ys ++ xs) ++ ys)
    parts xs ys = simp append_assoc

pub length-rotated : (ss : List Structure) (i : ℕ) → length (rotated ss i) ≡ length ss
length-rotated ss i = swapped (drop i ss) (take i ss) ∙ ap length (take-append-drop i ss)
  where
    swapped : (xs ys : List Structure) → length (xs ++ ys) ≡ length (ys ++ xs)
    swapped xs ys = omega (arith, length-append xs ys, length-append ys xs)

-- place q of the rotation at place i
pub rotated_at : (ss : List Structure) (i q : ℕ) → i ≤ length ss → q < length ss → slice_get (rotated ss i) q ≡ slice_get (ss ++ ss) (i + q)
rotated_at ss i q within h =
    sym (get_front (rotated ss i) (drop i ss) q (omega (arith, length-rotated ss i)))
    ∙ sym (get_right (take i ss) (rotated ss i ++ drop i ss) (i + q) q (ap (λ (k : ℕ). k + q) (length_of_take ss i within)))
    ∙ ap (λ zs. slice_get zs (i + q)) (sym (in_two ss i))

-- a place of the second copy
pub once_more : (ss : List Structure) (p r : ℕ) → p < length ss → length ss + p ≡ r → slice_get (ss ++ ss) r ≡ slice_get (ss ++ ss) p
once_more ss p r within same = get_right ss ss r p same ∙ sym (get_front ss ss p within)

pub first_copy : (ss : List Structure) (p : ℕ) (s : Structure) → p < length ss → slice_get ss p ≡ Some s → slice_get (ss ++ ss) p ≡ Some s
first_copy ss p s within at = get_front ss ss p within ∙ at

pub second_copy : (ss : List Structure) (p r : ℕ) (s : Structure) → length ss + p ≡ r → slice_get ss p ≡ Some s → slice_get (ss ++ ss) r ≡ Some s
second_copy ss p r s same at = get_right ss ss r p same ∙ at

-- the rotation is copied place by place
pub copied_next : (ss copied : List Structure) (i q : ℕ) (s : Structure) → i < length ss → q < length ss → slice_get (ss ++ ss) (i + q) ≡ Some s
    → copied ≡ take q (rotated ss i) → copied ++ s ∷ [] ≡ take (q + 1) (rotated ss i)
copied_next ss copied i q s start within at same =
    ap (λ zs. zs ++ s ∷ []) same ∙ sym (take_next (rotated ss i) q s (rotated_at ss i q (omega arith) within ∙ at))

pub copied_all : (ss copied : List Structure) (i n : ℕ) → n ≡ length ss → copied ≡ take n (rotated ss i) → copied ≡ rotated ss i
copied_all ss copied i n all same = same ∙ ap (λ (m : ℕ). take m (rotated ss i)) (all ∙ sym (length-rotated ss i)) ∙ all_taken (rotated ss i)

-- ---- rotations of rotations

pub rotated_none : (ss : List Structure) → rotated ss 0 ≡ ss
rotated_none ss = append_none ss

pub rotated_whole : (ss : List Structure) → rotated ss (length ss) ≡ ss
rotated_whole ss = λ k. all_dropped ss k ++ all_taken ss k

-- the rotation behind the first part
parts_turned : (xs ys : List Structure) → rotated (xs ++ ys) (length xs) ≡ ys ++ xs
parts_turned xs ys = λ k. drop-append_seam xs ys k ++ take-append_seam xs ys k

-- the rotation of two parts at a place of the first, or of the second
turned_front : (xs ys : List Structure) (j : ℕ) → j ≤ length xs → rotated (xs ++ ys) j ≡ drop j xs ++ (ys ++ take j xs)
turned_front xs ys j h = (λ k. drop-append-le j xs ys h k ++ take-append-le j xs ys h k) ∙ append_assoc (drop j xs) ys (take j xs)

turned_back : (xs ys : List Structure) (r : ℕ) → rotated (xs ++ ys) (length xs + r) ≡ drop r ys ++ (xs ++ take r ys)
turned_back xs ys r = λ k. drop-append-add xs ys r k ++ take-append-add xs ys r k

turned_again_front : (xs ys : List Structure) (j p : ℕ) → j ≤ length ys → length xs + j ≡ p → rotated (ys ++ xs) j ≡ rotated (xs ++ ys) p
turned_again_front xs ys j p h same = turned_front ys xs j h ∙ sym (turned_back xs ys j) ∙ ap (rotated (xs ++ ys)) same

turned_again_back : (xs ys : List Structure) (j r : ℕ) → r ≤ length xs → length ys + r ≡ j → rotated (ys ++ xs) j ≡ rotated (xs ++ ys) r
turned_again_back xs ys j r h same = ap (rotated (ys ++ xs)) (sym same) ∙ turned_back ys xs r ∙ sym (turned_front xs ys r h)

turned_at : (ss ts : List Structure) (p : ℕ) → 0 < length ss → p ≤ length ss → ts ≡ rotated ss p → IsRotation ss ts
turned_at ss ts p some within same = elim (cases_lt p (length ss)) [
  | inl less ↦ record { place = p; within = less; same = same }
  | inr past ↦
      let whole : p ≡ length ss = omega arith in
      record { place = 0; within = some; same = same ∙ ap (rotated ss) whole ∙ rotated_whole ss ∙ sym (rotated_none ss) }
]

again : (xs ys : List Structure) (j : ℕ) → 0 < length (xs ++ ys) → j ≤ length (xs ++ ys) → IsRotation (xs ++ ys) (rotated (ys ++ xs) j)
again xs ys j some within = elim (cases_lt (length ys) j) [
  | inl past ↦
      let r = j - length ys in
      let short : r ≤ length xs = omega (arith, length-append xs ys) in
      turned_at (xs ++ ys) (rotated (ys ++ xs) j) r some (omega (arith, length-append xs ys)) (turned_again_back xs ys j r short (omega arith))
  | inr before ↦
      turned_at (xs ++ ys) (rotated (ys ++ xs) j) (length xs + j) some (omega (arith, length-append xs ys)) (turned_again_front xs ys j (length xs + j) before refl)
]

-- a rotation of a rotation is one of the list
pub turned_again : (ss : List Structure) (i j : ℕ) → 0 < length ss → j ≤ length ss → IsRotation ss (rotated (rotated ss i) j)
turned_again ss i j some within =
    subst (λ (zs : List Structure). 0 < length zs → j ≤ length zs → IsRotation zs (rotated (rotated ss i) j)) (take-append-drop i ss) (again (take i ss) (drop i ss) j) some within
