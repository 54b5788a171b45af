-- A walk over neighbours: where it ends, no structure has a next one.
use Rattle.std.proofs.Common.{◌≡◌, ℕ, ◌-◌, ◌≤◌, true, List, [], ◌∷◌, length, drop, refl, sym, ◌∙◌, arith}
use Rattle.std.proofs.lemmas.List.{length-drop}
use Rattle.struct_model.specs.Structure.{Structure}
use Rattle.struct_model.specs.Order.{is_sorted, is_strictly_sorted}

sorted_alone : (ss : List Structure) → length ss ≤ 1 → is_sorted ss ≡ true
sorted_alone [] short = refl
sorted_alone (s ∷ []) short = refl
sorted_alone (s ∷ t ∷ ss) short = absurd (omega (arith, short))

strictly_alone : (ss : List Structure) → length ss ≤ 1 → is_strictly_sorted ss ≡ true
strictly_alone [] short = refl
strictly_alone (s ∷ []) short = refl
strictly_alone (s ∷ t ∷ ss) short = absurd (omega (arith, short))

pub sorted_end : (ss : List Structure) (n : ℕ) → length ss ≤ n → is_sorted (drop (n - 1) ss) ≡ is_sorted ss → true ≡ is_sorted ss
sorted_end ss n ended so_far = sym (sorted_alone (drop (n - 1) ss) (omega (arith, ended, length-drop (n - 1) ss))) ∙ so_far

pub strictly_end : (ss : List Structure) (n : ℕ) → length ss ≤ n → is_strictly_sorted (drop (n - 1) ss) ≡ is_strictly_sorted ss
    → true ≡ is_strictly_sorted ss
strictly_end ss n ended so_far = sym (strictly_alone (drop (n - 1) ss) (omega (arith, ended, length-drop (n - 1) ss))) ∙ so_far
