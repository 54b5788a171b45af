-- The atoms of lists of components.
use Rattle.std.proofs.Common.{◌≡◌, ℕ, zero, suc, ◌+◌, ◌*◌, Bool, true, false, cond, List, [], ◌∷◌, ◌++◌, length, take, drop, replicate, refl, sym, ap, ◌∙◌, subst, ◌<◌, arith}
use Rattle.std.proofs.lemmas.List.{take-append-drop, length-append}
use Rattle.struct_model.specs.Structure.{Structure, labels_of_parts, labels, parts_of, size}
use Rattle.struct_model.specs.Order.{rotated, is_after}
use Rattle.well_founded.specs.declared.node.NodeKind.{NodeKind}
use Rattle.draw_steps.specs.Asked.{HoldsAtoms}
use Rattle.canon.specs.Sorted.{with_item}
use Rattle.canon.specs.Rotations.{IsRotation}
use Rattle.draw_steps.specs.Containers.{atoms, sorted}

pub atoms_are : (ss : List Structure) → length (labels_of_parts (parts_of ss)) ≡ atoms ss
atoms_are [] = refl
atoms_are (s ∷ ss) = omega (arith, length-append (labels s) (labels_of_parts (parts_of ss)), atoms_are ss)

pub atoms_append : (ss ts : List Structure) → atoms (ss ++ ts) ≡ atoms ss + atoms ts
atoms_append [] ts = none (atoms ts)
  where
    none : (n : ℕ) → n ≡ 0 + n
    none n = omega arith
atoms_append (s ∷ ss) ts = omega (arith, atoms_append ss ts)

pub atoms_rotated : (ss : List Structure) (i : ℕ) → atoms (rotated ss i) ≡ atoms ss
atoms_rotated ss i = omega (arith, atoms_append (drop i ss) (take i ss), atoms_append (take i ss) (drop i ss), ap atoms (take-append-drop i ss))

pub atoms_turned : (ss ts : List Structure) → IsRotation ss ts → atoms ts ≡ atoms ss
atoms_turned ss ts r = ap atoms r.same ∙ atoms_rotated ss r.place

with_one : (s : Structure) (ss : List Structure) → atoms (with_item s ss) ≡ size s + atoms ss
with_one s [] = refl
with_one s (t ∷ ts) = by (is_after t s) (with_one s ts)
  where
    by : (b : Bool) → atoms (with_item s ts) ≡ size s + atoms ts → atoms (cond b (s ∷ t ∷ ts) (t ∷ with_item s ts)) ≡ size s + (size t + atoms ts)
    by true later = refl
    by false later = omega (arith, later)

pub atoms_sorted : (ss : List Structure) → atoms (sorted ss) ≡ atoms ss
atoms_sorted [] = refl
atoms_sorted (s ∷ ss) = omega (arith, with_one s (sorted ss), atoms_sorted ss)

pub atoms_repeated : (n : ℕ) (s : Structure) → atoms (replicate n s) ≡ n * size s
atoms_repeated zero s = none (size s)
  where
    none : (k : ℕ) → 0 ≡ 0 * k
    none k = omega arith
atoms_repeated (suc n) s = omega (arith, atoms_repeated n s, more n (size s))
  where
    more : (n k : ℕ) → suc n * k ≡ k + n * k
    more n k = grind arith

pub few_atoms : (ss : List Structure) (n bound : ℕ) → atoms ss ≡ n → n < bound → length (labels_of_parts (parts_of ss)) < bound
few_atoms ss n bound same few = omega (arith, atoms_are ss)

pub holds : (kind of : NodeKind) (ss ts : List Structure) (s : Structure) → kind ≡ of → atoms ts ≡ atoms ss → HoldsAtoms of (atoms ts) s → HoldsAtoms kind (atoms ss) s
holds kind of ss ts s is same h = subst (λ (n : ℕ). HoldsAtoms kind n s) same (subst (λ (k : NodeKind). HoldsAtoms k (atoms ts) s) (sym is) h)
