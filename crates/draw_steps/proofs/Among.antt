-- Steps to one of a list's elements, by the places of their weights.
use Rattle.std.proofs.Common.{◌≡◌, ℕ, zero, suc, ◌+◌, ◌<◌, ◌≤◌, ◌⊎◌, Bool, List, [], ◌∷◌, map, length, get_or, slice_index_or, slice_get, refl, ap, ◌∙◌, subst, inl, inr, arith, Some, Ok, Err}
use Rattle.std.specs.Option.{option_map}
use Rattle.std.specs.List.{range_with_len}
use Rattle.std.proofs.lemmas.Bool.{cases_lt}
use Rattle.std.proofs.lemmas.Option.{slice_get-map, get_or_from_slice_get}
use Rattle.std.proofs.lemmas.List.{length-map}
use Rattle.choice_laws.specs.Trees.{Tree, Branches, end, step, put_branch, branches_of, graft, graft_branches}
use Rattle.choice_laws.specs.Bits.{follow}
use Rattle.draw_steps.specs.declared.fault.StepFault.{StepFault}
use Rattle.draw_steps.specs.declared.fault.StepFault.TheVariants.{Spent, Memory}
use Rattle.draw_steps.specs.Steps.{among, by_weight}
use Rattle.draw_steps.specs.Draws.{Follows}
use Rattle.draw_steps.proofs.Following.{follows_then, follows_fault}
use Rattle.draw_steps.proofs.Places.{from_place}

graft_put : {X Y : Type 0} (next : X → Tree Y) (n : ℕ) (tree : Tree X) (more : Branches X)
    → graft_branches next (put_branch n tree more) ≡ put_branch n (graft next tree) (graft_branches next more)
graft_put next zero tree more = refl
graft_put next (suc n) tree more = refl

module _ {X : Type 0} (weight : X → ℕ) where
  grafted : (at : ℕ → X) (first : ℕ) (xs : List X) → ((k : ℕ) (x : X) → slice_get xs k ≡ Some x → at (first + k) ≡ x)
      → graft_branches (λ i. end (at i)) (from_place first (map weight xs)) ≡ branches_of (map (λ x. (weight x, end x)) xs)
  grafted at first [] are = refl
  grafted at first (x ∷ xs) are =
      graft_put (λ i. end (at i)) (weight x) (end first) (from_place (first + 1) (map weight xs))
      ∙ ap (λ (y : X). put_branch (weight x) (end y) (graft_branches (λ i. end (at i)) (from_place (first + 1) (map weight xs)))) (ap at (none first) ∙ are 0 x refl)
      ∙ ap (put_branch (weight x) (end x)) (grafted at (first + 1) xs (λ k y there. ap at (number first k) ∙ are (suc k) y there))
    where
      none : (n : ℕ) → n ≡ n + 0
      none n = omega arith

      number : (n k : ℕ) → n + 1 + k ≡ n + suc k
      number n k = omega arith

  -- the places of the weights, and then the elements there
  pub among_is : (xs : List X) (other : X) → graft (λ i. end (get_or xs i other)) (by_weight (map weight xs)) ≡ among weight xs
  among_is xs other = ap step (grafted (λ i. get_or xs i other) 0 xs (λ k x there. ap (λ (n : ℕ). get_or xs n other) (none k) ∙ get_or_from_slice_get xs k x other there))
    where
      none : (k : ℕ) → 0 + k ≡ k
      none k = omega arith

  -- the element at the place that was chosen
  pub follows_among : (xs : List X) (weights : List ℕ) (i : ℕ) (x : X) (before after : List Bool) → weights ≡ map weight xs → slice_get xs i ≡ Some x
      → Follows (by_weight weights) before (Ok i) after → Follows (among weight xs) before (Ok x) after
  follows_among xs weights i x before after same there h =
      subst (λ t. follow t before ≡ Some (x, after)) (among_is xs x)
      (follows_then (λ j. end (get_or xs j x)) (by_weight (map weight xs)) i before after after (Ok x)
      (subst (λ ws. follow (by_weight ws) before ≡ Some (i, after)) same h)
      (ap (λ (y : X). Some (y, after)) (get_or_from_slice_get xs i x x there)))

  pub follows_among_fault : (xs : List X) (weights : List ℕ) (before after : List Bool) (fault : StepFault) → weights ≡ map weight xs
      → Follows (by_weight weights) before (Err fault) after → Follows (among weight xs) before (Err fault) after
  follows_among_fault [] weights before after Spent same h = (refl, h.1)
  follows_among_fault (x ∷ xs) weights before after Spent same h =
      subst (λ t. Follows t before (Err Spent) after) (among_is (x ∷ xs) x)
      (follows_fault (λ j. end (get_or (x ∷ xs) j x)) (by_weight (map weight (x ∷ xs))) before after Spent
      (subst (λ ws. Follows (by_weight ws) before (Err Spent) after) same h))
  follows_among_fault xs weights before after Memory same h = tt

  -- ---- the place

  pub place_within : (xs : List X) (weights : List ℕ) (i : ℕ) → weights ≡ map weight xs → 0 < slice_index_or weights i 0 → i < length xs
  place_within xs weights i same some = by (cases_lt i (length xs))
    where
      by : (i < length xs) ⊎ (length xs ≤ i) → i < length xs
      by (inl within) = within
      by (inr past) = absurd (omega (arith, some, past_all weights i (omega (arith, past, ap length same, length-map {A = X} {B = ℕ} xs weight))))
        where
          past_all : (ws : List ℕ) (k : ℕ) → length ws ≤ k → slice_index_or ws k 0 ≡ 0
          past_all [] k h = refl
          past_all (w ∷ ws) zero h = absurd (omega arith)
          past_all (w ∷ ws) (suc k) h = past_all ws k (omega arith)

  pub weight_at : (xs : List X) (weights : List ℕ) (i : ℕ) (x : X) → weights ≡ map weight xs → slice_get xs i ≡ Some x → slice_index_or weights i 0 ≡ weight x
  weight_at xs weights i x same there =
      ap (λ (ws : List ℕ). slice_index_or ws i 0) same ∙ get_or_from_slice_get (map weight xs) i (weight x) 0 (slice_get-map weight xs i ∙ ap (option_map weight) there)

-- ---- numbers from a first one on

pub range_at : (first count i : ℕ) → i < count → slice_get (range_with_len first count) i ≡ Some (first + i)
range_at first zero i within = absurd (omega arith)
range_at first (suc count) zero within = ap (λ (n : ℕ). Some n) (none first)
  where
    none : (n : ℕ) → n ≡ n + 0
    none n = omega arith
range_at first (suc count) (suc i) within = range_at (first + 1) count i (omega arith) ∙ ap (λ (n : ℕ). Some n) (number first i)
  where
    number : (n k : ℕ) → n + 1 + k ≡ n + suc k
    number n k = omega arith

pub range_length : (first count : ℕ) → length (range_with_len first count) ≡ count
range_length first zero = refl
range_length first (suc count) = ap suc (range_length (first + 1) count)
