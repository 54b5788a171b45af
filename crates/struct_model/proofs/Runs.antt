-- The first run of labels: that of two lists is made of those of both.
use Rattle.std.proofs.Common.{◌≡◌, ℕ, ◌+◌, ◌<◌, ◌≤◌, List, [], ◌∷◌, ◌++◌, length, get_or, drop, Option, Some, None, refl, sym, ap, ◌∙◌, arith, length-append}
use Rattle.std.proofs.lemmas.Bool.Decides.{nat_tests}
use Rattle.struct_model.specs.declared.keys.Run.{Run}
use Rattle.struct_model.specs.Structure.{Structure, labels, labels_of_parts, parts_of}
use Rattle.struct_model.proofs.Parts.{labels_step}
use Rattle.struct_model.specs.Runs.{run_count, lesser_run, merged, run_of, first_run}

lesser_run_assoc : (a b c : Run) → lesser_run (lesser_run a b) c ≡ lesser_run a (lesser_run b c)
lesser_run_assoc a b c = grind (arith, nat_tests)

merged_assoc : (a b c : Option Run) → merged (merged a b) c ≡ merged a (merged b c)
merged_assoc None b c = refl
merged_assoc (Some a) None c = refl
merged_assoc (Some a) (Some b) None = refl
merged_assoc (Some a) (Some b) (Some c) = ap Some (lesser_run_assoc a b c)

pub first_run_append : (low : ℕ) (xs ys : List ℕ) → first_run low (xs ++ ys) ≡ merged (first_run low xs) (first_run low ys)
first_run_append low [] ys = refl
first_run_append low (x ∷ xs) ys = ap (merged (run_of low x)) (first_run_append low xs ys) ∙ sym (merged_assoc (run_of low x) (first_run low xs) (first_run low ys))

-- a run that was found, and those of two more lists
pub merged_step : (first : Option Run) (low : ℕ) (xs ys : List ℕ) → merged (merged first (first_run low xs)) (first_run low ys) ≡ merged first (first_run low (xs ++ ys))
merged_step first low xs ys = merged_assoc first (first_run low xs) (first_run low ys) ∙ ap (merged first) (sym (first_run_append low xs ys))

-- runs merged have no more labels than both together
lesser_run_count : (a b : Run) → (lesser_run a b).count ≤ a.count + b.count
lesser_run_count a b = grind (arith, nat_tests)

pub merged_count : (a b : Option Run) → run_count (merged a b) ≤ run_count a + run_count b
merged_count None b = omega arith
merged_count (Some a) None = omega arith
merged_count (Some a) (Some b) = lesser_run_count a b

run_of_count : (low x : ℕ) → run_count (run_of low x) ≤ 1
run_of_count low x = grind (arith, nat_tests)

-- the run has at most as many labels as there are
pub first_run_count : (low : ℕ) (xs : List ℕ) → run_count (first_run low xs) ≤ length xs
first_run_count low [] = omega arith
first_run_count low (x ∷ xs) = omega (arith, merged_count (run_of low x) (first_run low xs), run_of_count low x, first_run_count low xs)

-- a walk over parts, where a bound holds of the run so far and the labels from place i on
pub walk_room : (first : Option Run) (low : ℕ) (parts : List Structure) (i : ℕ) (part : Structure) (run : Option Run) (bound : ℕ)
    → i < length parts → part ≡ get_or parts i part → run ≡ first_run low (labels part)
    → run_count first + length (labels_of_parts (parts_of (drop i parts))) < bound
    → run_count first + run_count run + length (labels_of_parts (parts_of (drop (i + 1) parts))) < bound
walk_room first low parts i part run bound l e r room =
    let there : labels_of_parts (parts_of (drop i parts)) ≡ labels part ++ labels_of_parts (parts_of (drop (i + 1) parts)) = labels_step parts i part l e in
    omega (arith, ap run_count r, first_run_count low (labels part), ap length there, length-append (labels part) (labels_of_parts (parts_of (drop (i + 1) parts))))

-- and where the run so far and that of those labels make the run of all
pub walk_run : (first : Option Run) (low : ℕ) (parts : List Structure) (i : ℕ) (part : Structure) (run whole : Option Run)
    → i < length parts → part ≡ get_or parts i part → run ≡ first_run low (labels part)
    → merged first (first_run low (labels_of_parts (parts_of (drop i parts)))) ≡ whole
    → merged (merged first run) (first_run low (labels_of_parts (parts_of (drop (i + 1) parts)))) ≡ whole
walk_run first low parts i part run whole l e r so_far =
    ap (λ x. merged (merged first x) (first_run low (labels_of_parts (parts_of (drop (i + 1) parts))))) r
    ∙ merged_step first low (labels part) (labels_of_parts (parts_of (drop (i + 1) parts)))
    ∙ ap (λ xs. merged first (first_run low xs)) (sym (labels_step parts i part l e))
    ∙ so_far
