-- Even trees, and what becomes of their ends.
use Rattle.std.proofs.Common.{◌≡◌, ℕ, suc, ◌+◌, ◌*◌, List, [], ◌∷◌, map, flat_map, length, length-append, refl, ap, ◌∙◌, subst, inl, arith}
use Rattle.std.specs.List.{sum}
use Rattle.std.proofs.lemmas.List.{length-map}
use Rattle.lists.proofs.Sums.{sum_more}
use Rattle.choice_laws.specs.Trees.{Tree, end, choose, graft}
use Rattle.choice_laws.specs.Even.{IsEven}
use Rattle.choice_laws.proofs.Evens.{choice_even, graft_even}
use Rattle.choice_laws.proofs.Grafts.{graft_graft, graft_choose_of}
use Rattle.draw_steps.specs.Steps.{among, ending}

module _ {X : Type 0} where
  pub end_even : (x : X) → IsEven (end x) (x ∷ [])
  end_even x = record {
    within = λ y is. inl is;
    leads_on = λ some. tt;
    means = λ f. whole (f x) (sum (map f (x ∷ []))) (sum_more (f x) []);
  }
    where
      whole : (n s : ℕ) → s ≡ n + 0 → 1 * n ≡ s * 1
      whole n s is = omega (arith, is)

  singles : (xs : List X) → flat_map (λ x. x ∷ []) xs ≡ xs
  singles [] = refl
  singles (x ∷ xs) = ap (λ rest. x ∷ rest) (singles xs)

  -- a choice of one of some elements, each alike
  pub among_even : (xs : List X) → IsEven (among (λ x. 1) xs) xs
  among_even xs = subst (IsEven (among (λ x. 1) xs)) (singles xs) (choice_even 1 (λ x. 1) (λ x. end x) (λ x. x ∷ []) xs (λ x there. refl) (λ x there some. end_even x))

module _ {X Y : Type 0} where
  mapped_singles : (f : X → Y) (xs : List X) → flat_map (λ x. f x ∷ []) xs ≡ map f xs
  mapped_singles f [] = refl
  mapped_singles f (x ∷ xs) = ap (λ rest. f x ∷ rest) (mapped_singles f xs)

  pub ending_even : (f : X → Y) (tree : Tree X) (xs : List X) → IsEven tree xs → IsEven (ending f tree) (map f xs)
  ending_even f tree xs even =
      subst (IsEven (ending f tree)) (mapped_singles f xs) (graft_even 1 (λ x. end (f x)) (λ x. f x ∷ []) tree xs even (λ x there. refl) (λ x there. end_even (f x)))

  -- where each weight and element is chosen and then goes on
  pub graft_among : (next : X → Tree Y) (weight : X → ℕ) (xs : List X) → graft next (among weight xs) ≡ choose (map {B = ℕ × Tree Y} (λ x. (weight x, next x)) xs)
  graft_among next weight xs = graft_choose_of next weight (λ x. end x) xs

  pub length_pairs : {Z : Type 0} (make : X → Y → Z) (xs : List X) (ys : List Y) → length (flat_map (λ x. map (make x) ys) xs) ≡ length xs * length ys
  length_pairs make [] ys = nothing (length ys)
    where
      nothing : (k : ℕ) → 0 ≡ 0 * k
      nothing k = omega arith
  length_pairs make (x ∷ xs) ys =
      length-append (map (make x) ys) (flat_map (λ z. map (make z) ys) xs)
      ∙ (λ i. length-map ys (make x) i + length_pairs make xs ys i)
      ∙ one_more (length xs) (length ys)
    where
      one_more : (n k : ℕ) → k + n * k ≡ suc n * k
      one_more n k = grind arith

module _ {X Y Z : Type 0} where
  -- A first element by one tree and another by a second one: what is made of both.
  pub pairs_even : (make : X → Y → Z) (first : Tree X) (second : Tree Y) (xs : List X) (ys : List Y) → IsEven first xs → IsEven second ys
      → IsEven (graft (λ x. ending (make x) second) first) (flat_map (λ x. map (make x) ys) xs)
  pairs_even make first second xs ys even also =
      graft_even (length ys) (λ x. ending (make x) second) (λ x. map (make x) ys) first xs even (λ x there. length-map ys (make x)) (λ x there. ending_even (make x) second ys also)

  pub ending_ending : (f : X → Y) (g : Y → Z) (tree : Tree X) → ending g (ending f tree) ≡ ending (λ x. g (f x)) tree
  ending_ending f g tree = graft_graft (λ x. end (f x)) (λ y. end (g y)) tree

  pub ending_graft : (next : X → Tree Y) (g : Y → Z) (tree : Tree X) → ending g (graft next tree) ≡ graft (λ x. ending g (next x)) tree
  ending_graft next g tree = graft_graft next (λ y. end (g y)) tree
