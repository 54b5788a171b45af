-- To how many nodes a node leads: to fewer than one that leads to it, where no node leads to itself.
use Rattle.std.proofs.Common.{◌≡◌, ◌⊎◌, ℕ, zero, suc, ◌+◌, ◌<◌, ◌≤◌, Bool, true, false, List, [], ◌∷◌, ◌++◌, length, slice_get, Option, Some, None, refl, add-one, sym, ap, ◌∙◌, subst, inl, inr, arith}
use Rattle.std.proofs.lemmas.List.{length_push, nil_from_length}
use Rattle.lists.proofs.Places.{pushed_at}
use Rattle.graphs.specs.Graph.{Graph, Leads, IsGraph, IsMarked, IsUnmarked, Reaches, count_true, IsCount, AreCounts}
use Rattle.graphs.proofs.Reached.{leads_trans, count_first, count_below, marked_or_not, marks_exist}

-- where the marks are also there in others there are no more of them
count_le : (fewer more : List Bool) → length fewer ≡ length more → ((k : ℕ) → IsMarked fewer k → IsMarked more k) → count_true fewer ≤ count_true more
count_le [] more same kept = omega arith
count_le (mark ∷ fewer) [] same kept = absurd (omega arith)
count_le (false ∷ fewer) (mark ∷ more) same kept =
    omega (arith, count_first false fewer, count_first mark more, count_le fewer more (omega arith) (λ k marked. kept (suc k) marked))
count_le (true ∷ fewer) (false ∷ more) same kept =
    let wrong : Some false ≡ Some true = kept 0 refl in cc
count_le (true ∷ fewer) (true ∷ more) same kept =
    omega (arith, count_first true fewer, count_first true more, count_le fewer more (omega arith) (λ k marked. kept (suc k) marked))

-- where a node has a mark in others only there are fewer
pub count_less : (fewer more : List Bool) (j : ℕ) → length fewer ≡ length more → ((k : ℕ) → IsMarked fewer k → IsMarked more k)
    → IsMarked more j → (IsMarked fewer j → ⊥) → count_true fewer < count_true more
count_less [] more j same kept marked lacks =
    let empty : more ≡ [] = nil_from_length more (sym same) in
    let wrong : slice_get [] j ≡ Some true = subst (λ (marks : List Bool). IsMarked marks j) empty marked in cc
count_less (mark ∷ fewer) [] j same kept marked lacks = absurd (omega arith)
count_less (true ∷ fewer) (other ∷ more) zero same kept marked lacks = absurd (lacks refl)
count_less (false ∷ fewer) (false ∷ more) zero same kept marked lacks = cc
count_less (false ∷ fewer) (true ∷ more) zero same kept marked lacks =
    omega (arith, count_first false fewer, count_first true more, count_le fewer more (omega arith) (λ k at. kept (suc k) at))
count_less (false ∷ fewer) (other ∷ more) (suc j) same kept marked lacks =
    omega (arith, count_first false fewer, count_first other more, count_less fewer more j (omega arith) (λ k at. kept (suc k) at) marked lacks)
count_less (true ∷ fewer) (false ∷ more) (suc j) same kept marked lacks =
    let wrong : Some false ≡ Some true = kept 0 refl in cc
count_less (true ∷ fewer) (true ∷ more) (suc j) same kept marked lacks =
    omega (arith, count_first true fewer, count_first true more, count_less fewer more j (omega arith) (λ k at. kept (suc k) at) marked lacks)

-- a node that doesn't lead to itself, and to which another one leads, leads to fewer nodes than that
pub count_falls : (graph : Graph) (i j : ℕ) (mi mj : List Bool) → Reaches graph i mi → Reaches graph j mj → Leads graph i j → (Leads graph j j → ⊥) → count_true mj < count_true mi
count_falls graph i j mi mj from_i from_j way no_way =
    count_less mj mi j (from_j.for_each ∙ sym from_i.for_each) (λ k marked. from_i.complete k (leads_trans graph i j k way (from_j.sound k marked)))
    (from_i.complete j way) (λ marked. no_way (from_j.sound j marked))

-- a node that doesn't lead to itself leads to fewer nodes than there are
pub count_within : (graph : Graph) (i : ℕ) (marks : List Bool) → Reaches graph i marks → i < length graph → (Leads graph i i → ⊥) → count_true marks < length graph
count_within graph i marks reaches within no_way = by (marked_or_not marks i (omega (arith, reaches.for_each)))
  where
    by : IsMarked marks i ⊎ IsUnmarked marks i → count_true marks < length graph
    by (inl marked) = absurd (no_way (reaches.sound i marked))
    by (inr unmarked) = omega (arith, count_below marks i unmarked, reaches.for_each)

-- the counts of the nodes so far
pub record CountsSo (graph : Graph) (n : ℕ) (counts : List ℕ) : Type 0 where
  pub for_each : length counts ≡ n
  pub each : (i count : ℕ) → slice_get counts i ≡ Some count → IsCount graph i count

pub counts_none : (graph : Graph) → CountsSo graph 0 []
counts_none graph = record { for_each = refl; each = λ i count at. let wrong : ◌≡◌ {A = Option ℕ} None (Some count) = at in cc }

pub counts_more : (graph : Graph) (n : ℕ) (counts : List ℕ) (marks : List Bool) (count : ℕ) → CountsSo graph n counts → Reaches graph n marks → count ≡ count_true marks
    → CountsSo graph (n + 1) (counts ++ count ∷ [])
counts_more graph n counts marks count so reaches counted = record {
  for_each = length_push counts count ∙ ap (λ (k : ℕ). k + 1) so.for_each;
  each = λ i other at. elim (pushed_at counts count i other at) [
    | inl before ↦ so.each i other before
    | inr here ↦ subst (λ (k : ℕ). IsCount graph k other) (sym (here.0 ∙ so.for_each)) (record { marks = marks; reached = reaches; counted = sym counted ∙ sym here.1 })
  ];
}

pub counts_all : (graph : Graph) (n : ℕ) (counts : List ℕ) → n ≡ length graph → CountsSo graph n counts → AreCounts graph counts
counts_all graph n counts all so = record { for_each = so.for_each ∙ all; each = so.each }

counts_to : (graph : Graph) → IsGraph graph → (n : ℕ) → (counts : List ℕ) × CountsSo graph n counts
counts_to graph graph_is zero = ([], counts_none graph)
counts_to graph graph_is (suc n) =
    let before = counts_to graph graph_is n in let marks = marks_exist graph graph_is n in
    (before.0 ++ count_true marks.0 ∷ [], rw (← add-one n) (counts_more graph n before.0 marks.0 (count_true marks.0) before.1 marks.1 refl))

-- each graph has its counts
pub counts_exist : (graph : Graph) → IsGraph graph → (counts : List ℕ) × AreCounts graph counts
counts_exist graph graph_is = let all = counts_to graph graph_is (length graph) in (all.0, counts_all graph (length graph) all.0 refl all.1)
