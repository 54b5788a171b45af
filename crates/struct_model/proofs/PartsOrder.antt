-- A walk over two lists of components at once.
use Rattle.std.proofs.Common.{◌≡◌, ◌⊎◌, inl, inr, ℕ, ◌+◌, ◌≤◌, List, [], ◌∷◌, length, refl, sym, ap, ◌∙◌, arith}
use Rattle.std.specs.declared.cmp.Ordering.{Ordering}
use Rattle.std.specs.declared.cmp.Ordering.TheVariants.{Less, Equal, Greater}
use Rattle.std.specs.Ordering.{nat_cmp, ordering_then}
use Rattle.std.proofs.lemmas.Bool.Decides.{nat_tests}
use Rattle.struct_model.specs.Structure.{Structure, nodes, nodes_of_parts, parts_of}
use Rattle.struct_model.specs.Order.{order, order_of_parts}

abbrev pub parts_order : List Structure → List Structure → Ordering
parts_order ss ts = order_of_parts (parts_of ss) (parts_of ts)

-- the lists xs and ys are left of ss and ts, and what came before them is equal
pub record IsLeft (ss ts xs ys : List Structure) : Type 0 where
  pub order : parts_order xs ys ≡ parts_order ss ts
  pub nodes : nodes_of_parts (parts_of xs) ≤ nodes_of_parts (parts_of ss)
  pub lengths : length ss + length ys ≡ length ts + length xs

-- one more pair that is equal
pub IsLeft_more : (ss ts xs ys xs' ys' : List Structure) (s t : Structure) → IsLeft ss ts xs ys → xs ≡ s ∷ xs' → ys ≡ t ∷ ys' → order s t ≡ Equal → IsLeft ss ts xs' ys'
IsLeft_more ss ts xs ys xs' ys' s t left e f equal = record {
  order = ap (λ o. ordering_then o (parts_order xs' ys')) (sym equal) ∙ sym (λ i. parts_order (e i) (f i)) ∙ left.order;
  nodes = let h : nodes_of_parts (parts_of xs) ≡ nodes s + nodes_of_parts (parts_of xs') = ap (λ zs. nodes_of_parts (parts_of zs)) e in omega (arith, left.nodes);
  lengths = omega (arith, left.lengths, ap length e, ap length f);
}

-- a pair that differs decides
pub IsLeft_differs : (ss ts xs ys xs' ys' : List Structure) (s t : Structure) → IsLeft ss ts xs ys → xs ≡ s ∷ xs' → ys ≡ t ∷ ys' → (order s t ≡ Equal → ⊥) → order s t ≡ parts_order ss ts
IsLeft_differs ss ts xs ys xs' ys' s t left e f differ = by (order s t) differ ∙ sym (λ i. parts_order (e i) (f i)) ∙ left.order
  where
    by : (o : Ordering) → (o ≡ Equal → ⊥) → o ≡ ordering_then o (parts_order xs' ys')
    by Less h = refl
    by Equal h = absurd (h refl)
    by Greater h = refl

pub IsLeft_nodes : (ss ts xs ys xs' : List Structure) (s : Structure) → IsLeft ss ts xs ys → xs ≡ s ∷ xs' → nodes s ≤ nodes_of_parts (parts_of ss)
IsLeft_nodes ss ts xs ys xs' s left e =
    let h : nodes_of_parts (parts_of xs) ≡ nodes s + nodes_of_parts (parts_of xs') = ap (λ zs. nodes_of_parts (parts_of zs)) e in omega (arith, left.nodes)

shorter : (xs ys : List Structure) (m n : ℕ) → (xs ≡ []) ⊎ (ys ≡ []) → m + length ys ≡ n + length xs → nat_cmp m n ≡ parts_order xs ys
shorter [] [] m n h e = grind (arith, nat_tests)
shorter [] (b ∷ ys) m n h e = grind (arith, nat_tests)
shorter (a ∷ xs) [] m n h e = grind (arith, nat_tests)
shorter (a ∷ xs) (b ∷ ys) m n (inl h) e = cc
shorter (a ∷ xs) (b ∷ ys) m n (inr h) e = cc

-- where one list ends, the lengths decide
pub IsLeft_end : (ss ts xs ys : List Structure) → IsLeft ss ts xs ys → (xs ≡ []) ⊎ (ys ≡ []) → nat_cmp (length ss) (length ts) ≡ parts_order ss ts
IsLeft_end ss ts xs ys left h = shorter xs ys (length ss) (length ts) h left.lengths ∙ left.order
