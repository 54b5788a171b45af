-- A walk over components: the part at the index, and then the others.
use Rattle.std.proofs.Common.{◌≡◌, ℕ, zero, suc, ◌+◌, ◌<◌, ◌≤◌, List, [], ◌∷◌, ◌++◌, length, get_or, drop, arith, ap, sym, ◌∙◌}
use Rattle.std.proofs.lemmas.List.{drop_more}
use Rattle.struct_model.specs.Structure.{Structure, labels, labels_of_parts, nodes, nodes_of_parts, parts_of}

-- the parts from place i on are the part x there and those after it
pub parts_step : (xs : List Structure) (i : ℕ) (x : Structure) → i < length xs → x ≡ get_or xs i x → drop i xs ≡ x ∷ drop (i + 1) xs
parts_step xs i x l e = drop_more xs i x l ∙ ap (λ y. y ∷ drop (i + 1) xs) (sym e)

-- the labels of the parts from place i on are those of the part x there and those of the parts after it
pub labels_step : (xs : List Structure) (i : ℕ) (x : Structure) → i < length xs → x ≡ get_or xs i x → labels_of_parts (parts_of (drop i xs)) ≡ labels x ++ labels_of_parts (parts_of (drop (i + 1) xs))
labels_step xs i x l e = ap (λ ys. labels_of_parts (parts_of ys)) (parts_step xs i x l e)

-- no part has more nodes than all of them
pub nodes_of_part : (xs : List Structure) (i : ℕ) (x : Structure) → i < length xs → x ≡ get_or xs i x → nodes x ≤ nodes_of_parts (parts_of xs)
nodes_of_part [] i x l e = absurd (omega arith)
nodes_of_part (y ∷ ys) zero x l e = omega (arith, ap nodes e)
nodes_of_part (y ∷ ys) (suc i) x l e = let h : nodes x ≤ nodes_of_parts (parts_of ys) = nodes_of_part ys i x (omega arith) e in omega arith
