-- The copies of the elements of a Set without labels, and their weights.
use Rattle.std.proofs.Common.{◌≡◌, ◌≤◌, ◌<◌, ◌+◌, ◌-◌, ◌*◌, ℕ, zero, suc, Bool, true, false, List, [], ◌∷◌, ◌++◌, Option, Some, length, map, slice_get, slice_index_or, nat_le, get_or, inl, inr, refl, sym, ap, ◌∙◌, subst, arith, append_assoc, append-nil}
use Rattle.std.specs.Prelude.{if◌then◌else◌}
use Rattle.std.proofs.lemmas.Bool.{leb-true}
use Rattle.std.specs.List.{sum, flat_map, range_with_len}
use Rattle.std.proofs.lemmas.List.FromFn.{map-range_with_len_more}
use Rattle.std.proofs.lemmas.Grind.{flat_map-append}
use Rattle.std.proofs.lemmas.Option.{slice_get-get_or}
use Rattle.lists.specs.Enumeration.{IsIn}
use Rattle.lists.proofs.Enumerated.{from_map, from_flat_map}
use Rattle.lists.proofs.FlatMaps.{range-append}
use Rattle.lists.proofs.Places.{in_of_get}
use Rattle.lists.proofs.RangeSums.{in_range, sum_append, sum_map, sum_times}
use Rattle.lists.proofs.Sums.{sum_more}
use Rattle.std.specs.Option.{option_map_or}
use Rattle.spec_syntax.specs.declared.expr.Kind.TheVariants as kinds
use Rattle.spec_syntax.specs.Expression as expr
use Rattle.spec_syntax.specs.Expression.{Expression}
use Rattle.spec_syntax.specs.Rules.{all_nodes}
use Rattle.struct_model.specs.Bounded.{number}
use Rattle.well_founded.specs.Checked.{grammar}
use Rattle.count_laws.specs.SetNumbers.{with_less, number_pointed}
use Rattle.listing_laws.specs.ContainersRecur.{of_components}
use Rattle.listing_laws.proofs.NodeLemmas.{container_node}
use Rattle.listing_laws.proofs.ContainersRecur.{containers_recur}
use Rattle.size_counts.specs.CountedView.{Counts, IsCounted, number_of, sets_of}
use Rattle.draw_steps.specs.declared.copies.Copies.{Copies}
use Rattle.draw_steps.specs.Asked.{AreRepeated}
use Rattle.draw_steps.specs.Choices.{copies_of, copies_weight}
use Rattle.draw_steps.proofs.Among.{weight_at, place_within}
use Rattle.draw_steps.proofs.ContainerSums.{with_is}

-- up to so many copies of an element of one size
abbrev pub copies_at : ℕ → ℕ → List Copies
copies_at d n = map (λ j. record { size = d; number = j }) (range_with_len 1 n)

-- the copies of an element of the size d, each in their number
abbrev pub copy : ℕ → ℕ → Copies
copy d j = record { size = d; number = j }

pub one_copy_more : (d n j k : ℕ) (so_far all new : List Copies) → j ≡ n + 1 → k ≡ j → all ≡ so_far ++ copies_at d n → new ≡ all ++ copy d j ∷ [] → new ≡ so_far ++ copies_at d k
one_copy_more d n j k so_far all new place same is pushed =
    pushed ∙ ap (λ cs. cs ++ copy d j ∷ []) is ∙ append_assoc so_far (copies_at d n) (copy d j ∷ [])
    ∙ ap (λ cs. so_far ++ cs) (sym (map-range_with_len_more (copy d) 1 n j (omega (arith, place))) ∙ ap (copies_at d) (sym place ∙ sym same))

pub one_size_more : (missing n d k number : ℕ) (all : List Copies) → d ≡ n + 1 → k ≡ d → number ≡ missing → all ≡ copies_of missing n ++ copies_at d number → all ≡ copies_of missing k
one_size_more missing n d k number all place same last is =
    is ∙ ap (λ m. copies_of missing n ++ copies_at d m) last
    ∙ ap (λ cs. copies_of missing n ++ cs) (sym (append-nil (copies_at d missing)) ∙ ap (λ e. flat_map (λ x. copies_at x missing) (e ∷ [])) (omega (arith, place)))
    ∙ sym (flat_map-append (λ x. copies_at x missing) (range_with_len 1 n) (range_with_len (1 + n) 1))
    ∙ ap (flat_map (λ x. copies_at x missing)) (sym (range-append 1 n 1))
    ∙ ap (copies_of missing) (sym place ∙ sym same)

-- ---- bounds of what is listed

pub record AreFew (missing m : ℕ) (copies : Copies) : Type 0 where
  pub size_low : 1 ≤ copies.size
  pub size_high : copies.size ≤ m
  pub number_low : 1 ≤ copies.number
  pub number_high : copies.number ≤ missing

few_of : (missing m : ℕ) (copies : Copies) → IsIn copies (copies_of missing m) → AreFew missing m copies
few_of missing m copies h =
    let by_size = from_flat_map (λ x. copies_at x missing) (range_with_len 1 m) copies h in
    let by_number = from_map (copy by_size.0) copies (range_with_len 1 missing) by_size.2 in
    let sizes = in_range by_size.0 1 m by_size.1 in
    let numbers = in_range by_number.0 1 missing by_number.1 in
    record {
      size_low = subst (λ (cs : Copies). 1 ≤ cs.size) (sym by_number.2) sizes.0;
      size_high = subst (λ (cs : Copies). cs.size ≤ m) (sym by_number.2) (omega (arith, sizes.1));
      number_low = subst (λ (cs : Copies). 1 ≤ cs.number) (sym by_number.2) numbers.0;
      number_high = subst (λ (cs : Copies). cs.number ≤ missing) (sym by_number.2) (omega (arith, numbers.1));
    }

-- the one at a place
pub few_at : (missing m i : ℕ) (other : Copies) (all : List Copies) → all ≡ copies_of missing m → i < length all → AreFew missing m (get_or all i other)
few_at missing m i other all are within =
    few_of missing m (get_or all i other) (subst (IsIn (get_or all i other)) are (in_of_get all i (get_or all i other) (slice_get-get_or all i other within)))

-- no weight is above the sum
in_sum : (f : Copies → ℕ) (x : Copies) (xs : List Copies) → IsIn x xs → f x ≤ sum (map f xs)
in_sum f x [] h = absurd h
in_sum f x (y ∷ xs) (inl same) = subst (λ z. f x ≤ sum (map f (z ∷ xs))) same (omega (arith, sum_more (f x) (map f xs)))
in_sum f x (y ∷ xs) (inr later) = omega (arith, in_sum f x xs later, sum_more (f y) (map f xs))

pub weight_within : (f : Copies → ℕ) (xs : List Copies) (i bound : ℕ) (other : Copies) → i < length xs → sum (map f xs) < bound → f (get_or xs i other) < bound
weight_within f xs i bound other within less =
    omega (arith, less, in_sum f (get_or xs i other) xs (in_of_get xs i (get_or xs i other) (slice_get-get_or xs i other within)))

-- ---- the weights of all copies

sum_made : {X : Type 0} (f : Copies → ℕ) (made : X → List Copies) (xs : List X) → sum (map f (flat_map made xs)) ≡ sum (map (λ x. sum (map f (made x))) xs)
sum_made f made [] = refl
sum_made f made (x ∷ xs) =
    sum_append f (made x) (flat_map made xs) ∙ ap (λ (n : ℕ). sum (map f (made x)) + n) (sum_made f made xs)
    ∙ sym (sum_more (sum (map f (made x))) (map (λ y. sum (map f (made y))) xs))

-- the copies of one size
size_sum : (counts : Counts) (node element c m d : ℕ) → sum (map (copies_weight counts node element c m) (copies_at d c)) ≡ number_of counts element d * number_pointed (sets_of counts node) d c m
size_sum counts node element c m d =
    sum_map (copies_weight counts node element c m) (copy d) (range_with_len 1 c)
    ∙ sum_times (number_of counts element d) (λ j. with_less (j * d) (sets_of counts node (c - j)) m) (range_with_len 1 c)

-- they are as many as the Sets, each met by each of its components
pub copies_sum : (counts : Counts) (node element c m : ℕ) → IsCounted counts → AreRepeated counts node element c
    → sum (map (copies_weight counts node element c m) (copies_of c m)) ≡ c * sets_of counts node c m
copies_sum counts node element c m is asked =
    let there = container_node counts.checked kinds.Set node element asked.kind asked.over.child in
    let g = grammar counts.checked in
    let sets : (k n : ℕ) → sets_of counts node k n ≡ of_components g kinds.Set there.e k n = with_is counts node kinds.Set there.e there.card there.at in
    let numbers : (d : ℕ) → number_of counts element d ≡ number g there.e d = λ d. ap (λ (o : Option Expression). option_map_or (λ e. number g e d) o 0) there.inside in
    sum_made (copies_weight counts node element c m) (λ d. copies_at d c) (range_with_len 1 m)
    ∙ ap (λ (f : ℕ → ℕ). sum (map f (range_with_len 1 m))) (λ i d. size_sum counts node element c m d i)
    ∙ ap (λ (f : ℕ → ℕ). sum (map (λ d. f d * number_pointed (sets_of counts node) d c m) (range_with_len 1 m))) (λ i d. numbers d i)
    ∙ ap (λ (f : ℕ → ℕ → ℕ). sum (map (λ d. number g there.e d * number_pointed f d c m) (range_with_len 1 m))) (λ i k n. sets k n i)
    ∙ sym (containers_recur.sets g there.e there.card c m is.passed.spec is.passed.well_founded asked.unlabelled (in_of_get (all_nodes counts.checked.rules) node (expr.Many kinds.Set there.e there.card) there.at))
    ∙ ap (λ (n : ℕ). c * n) (sym (sets c m))

-- ---- what is chosen

-- of a positive weight
pub record AreDrawn (counts : Counts) (node element missing m : ℕ) (copies : Copies) : Type 0 where
  pub few : AreFew missing m copies
  pub atoms : copies.number * copies.size ≤ m
  pub first : 0 < number_of counts element copies.size
  pub others : 0 < sets_of counts node (missing - copies.number) (m - copies.number * copies.size)

product_left : (a b : ℕ) → 0 < a * b → 0 < a
product_left zero b some = absurd (omega (arith, some))
product_left (suc a) b some = omega arith

product_right : (a b : ℕ) → 0 < a * b → 0 < b
product_right a zero some = absurd (grind (arith, some))
product_right a (suc b) some = omega arith

less_within : (size n : ℕ) (f : ℕ → ℕ) → 0 < with_less size f n → size ≤ n
less_within size n f some = by (nat_le size n) refl some
  where
    by : (b : Bool) → nat_le size n ≡ b → 0 < (if b then f (n - size) else 0) → size ≤ n
    by true is some = leb-true size n is
    by false is some = absurd (omega (arith, some))

less_above : (size n : ℕ) (f : ℕ → ℕ) → 0 < with_less size f n → 0 < f (n - size)
less_above size n f some = by (nat_le size n) some
  where
    by : (b : Bool) → 0 < (if b then f (n - size) else 0) → 0 < f (n - size)
    by true some = some
    by false some = absurd (omega (arith, some))

pub drawn_at : (counts : Counts) (node element missing m i : ℕ) (x : Copies) (weights : List ℕ) → weights ≡ map (copies_weight counts node element missing m) (copies_of missing m)
    → slice_get (copies_of missing m) i ≡ Some x → 0 < slice_index_or weights i 0 → AreDrawn counts node element missing m x
drawn_at counts node element missing m i x weights are there some =
    let positive : 0 < copies_weight counts node element missing m x = subst (λ (n : ℕ). 0 < n) (weight_at (copies_weight counts node element missing m) (copies_of missing m) weights i x are there) some in
    let others = product_right (number_of counts element x.size) (with_less (x.number * x.size) (sets_of counts node (missing - x.number)) m) positive in
    record {
      few = few_of missing m x (in_of_get (copies_of missing m) i x there);
      atoms = less_within (x.number * x.size) m (sets_of counts node (missing - x.number)) others;
      first = product_left (number_of counts element x.size) (with_less (x.number * x.size) (sets_of counts node (missing - x.number)) m) positive;
      others = less_above (x.number * x.size) m (sets_of counts node (missing - x.number)) others;
    }

-- the one that is read off at the place of a positive weight
pub read_at : (f : Copies → ℕ) (xs all : List Copies) (weights : List ℕ) (i : ℕ) (x : Copies) → weights ≡ map f xs → all ≡ xs → x ≡ get_or all i x → 0 < slice_index_or weights i 0 → slice_get xs i ≡ Some x
read_at f xs all weights i x are same read some =
    slice_get-get_or xs i x (place_within f xs weights i are some) ∙ ap Some (sym (read ∙ ap (λ ys. get_or ys i x) same))

pub product_some : (a b n : ℕ) → n ≡ a * b → 1 ≤ a → 0 < b → 0 < n
product_some (suc a) zero n is some more = absurd (omega (arith, more))
product_some (suc a) (suc b) n is some more = grind (arith, is)
product_some zero b n is some more = absurd (omega (arith, some))
