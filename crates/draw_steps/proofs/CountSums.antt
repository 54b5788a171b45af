-- The weights of the steps to an argument and to a number of components, as they are counted.
use Rattle.std.proofs.Common.{◌≡◌, ◌<◌, ◌+◌, ◌-◌, ℕ, suc, List, [], ◌∷◌, ◌++◌, Option, Some, length, map, slice_get, refl, sym, ap, ◌∙◌, subst, arith}
use Rattle.std.specs.Prelude.{unwrap_or}
use Rattle.std.specs.List.{sum, range_with_len}
use Rattle.std.proofs.lemmas.List.FromFn.{map-range_with_len_more}
use Rattle.spec_syntax.specs.Rules.{all_nodes}
use Rattle.spec_syntax.specs.Nodes.{children_at}
use Rattle.well_founded.specs.Checked.{Checked}
use Rattle.well_founded.specs.declared.node.NodeKind.TheVariants as told
use Rattle.listing_laws.specs.NodeListing.{HasKind}
use Rattle.listing_laws.proofs.NodeLemmas.{nodes_are_counted}
use Rattle.size_counts.specs.CountedView.{Counts, IsCounted, IsReachedIn, number_of}
use Rattle.struct_walk.proofs.TailLemmas.{counted_number}
use Rattle.struct_walk.proofs.ReachedNodes.{reached_within, reached_child}
use Rattle.draw_steps.specs.Choices.{child_of}

-- one weight more
pub weights_more : (f : ℕ → ℕ) (first n j value : ℕ) (weights new : List ℕ) → weights ≡ map f (range_with_len first n) → new ≡ weights ++ value ∷ [] → first + n ≡ j → value ≡ f j
    → new ≡ map f (range_with_len first (n + 1))
weights_more f first n j value weights new so_far pushed place is =
    pushed ∙ ap (λ ws. ws ++ value ∷ []) so_far ∙ ap (λ v. map f (range_with_len first n) ++ v ∷ []) is ∙ sym (map-range_with_len_more f first n j place)

-- the same of a grammar that is the checked one of the counts
pub node_within : (counts : Counts) (grammar : Checked) (node : ℕ) → grammar ≡ counts.checked → IsCounted counts → IsReachedIn counts node → node < length (all_nodes grammar.rules)
node_within counts grammar node same kept reached = subst (λ (g : Checked). node < length (all_nodes g.rules)) (sym same) (reached_within counts kept node reached)

pub child_there : (counts : Counts) (grammar : Checked) (node place child : ℕ) → grammar ≡ counts.checked → slice_get (children_at grammar.rules node) place ≡ Some child
    → slice_get (children_at counts.checked.rules node) place ≡ Some child
child_there counts grammar node place child same at = subst (λ (g : Checked). slice_get (children_at g.rules node) place ≡ Some child) same at

pub child_reached : (counts : Counts) (grammar : Checked) (node place child : ℕ) → grammar ≡ counts.checked → IsCounted counts → IsReachedIn counts node
    → slice_get (children_at grammar.rules node) place ≡ Some child → IsReachedIn counts child
child_reached counts grammar node place child same kept reached at = reached_child counts kept node place child reached (child_there counts grammar node place child same at)

pub child_is : (counts : Counts) (grammar : Checked) (node number child : ℕ) → grammar ≡ counts.checked → slice_get (children_at grammar.rules node) (number - 1) ≡ Some child → child ≡ child_of counts node number
child_is counts grammar node number child same at = sym (ap (λ (o : Option ℕ). unwrap_or o 0) (child_there counts grammar node (number - 1) child same at))

-- ---- a Union

-- the elements by their places
indexed : (f at : ℕ → ℕ) (xs : List ℕ) (first : ℕ) → ((k x : ℕ) → slice_get xs k ≡ Some x → at (first + k) ≡ x) → map (λ i. f (at i)) (range_with_len first (length xs)) ≡ map f xs
indexed f at [] first are = refl
indexed f at (x ∷ xs) first are =
    ap (λ (y : ℕ). f y ∷ map (λ i. f (at i)) (range_with_len (first + 1) (length xs))) (ap at (none first) ∙ are 0 x refl)
    ∙ ap (λ ys. f x ∷ ys) (indexed f at xs (first + 1) (λ k y there. ap at (number first k) ∙ are (suc k) y there))
  where
    none : (n : ℕ) → n ≡ n + 0
    none n = omega arith

    number : (n k : ℕ) → n + 1 + k ≡ n + suc k
    number n k = omega arith

-- the numbers of a Union's arguments are all
pub union_sum : (counts : Counts) (node n : ℕ) → IsCounted counts → HasKind counts.checked node told.Union
    → sum (map (λ i. number_of counts (child_of counts node i) n) (range_with_len 1 (length (children_at counts.checked.rules node)))) ≡ number_of counts node n
union_sum counts node n is union =
    ap sum (indexed (λ child. number_of counts child n) (child_of counts node) (children_at counts.checked.rules node) 1 (λ k x there. ap (λ (i : ℕ). unwrap_or (slice_get (children_at counts.checked.rules node) i) 0) (one_less k) ∙ ap (λ (o : Option ℕ). unwrap_or o 0) there))
    ∙ ap (λ (g : ℕ → ℕ). sum (map g (children_at counts.checked.rules node))) (λ i child. counted_number counts child n i)
    ∙ sym (nodes_are_counted.union counts.checked node n is.passed union) ∙ sym (counted_number counts node n)
  where
    one_less : (k : ℕ) → 1 + k - 1 ≡ k
    one_less k = omega arith
