-- Structures: derivations of an expression, as plain trees.
use Rattle.std.specs.Prelude.{ℕ, ◌+◌, List, [], ◌∷◌, ◌++◌, length}
use Rattle.lists.specs.Ascending.{ascending}
use Rattle.struct_model.specs.declared.tree.Form5.{Form5}

-- Rule 0 is the word itself, and label 0 is that of an unlabelled atom.
mutual
  pub data Structure : Type 0 where
    Eps : (rule : ℕ) → Structure
    Atom : (rule label : ℕ) → Structure
    Named : (rule : ℕ) → (inside : Structure) → Structure
    Alt : (argument : ℕ) → (inside : Structure) → Structure
    Tup : (form : Form5) → (parts : Structures) → Structure

  pub data Structures : Type 0 where
    no_parts : Structures
    more_parts : Structure → Structures → Structures

abbrev pub part_list : Structures → List Structure
part_list no_parts = []
part_list (more_parts s ss) = s ∷ part_list ss

abbrev pub parts_of : List Structure → Structures
parts_of [] = no_parts
parts_of (s ∷ ss) = more_parts s (parts_of ss)

abbrev mutual
  -- the number of nodes of the tree
  pub nodes : Structure → ℕ
  nodes (Eps rule) = 1
  nodes (Atom rule label) = 1
  nodes (Named rule inside) = nodes inside + 1
  nodes (Alt argument inside) = nodes inside + 1
  nodes (Tup form parts) = nodes_of_parts parts + 1

  pub nodes_of_parts : Structures → ℕ
  nodes_of_parts no_parts = 0
  nodes_of_parts (more_parts s ss) = nodes s + nodes_of_parts ss

abbrev mutual
  -- the labels of the atoms from left to right
  pub labels : Structure → List ℕ
  labels (Eps rule) = []
  labels (Atom rule label) = label ∷ []
  labels (Named rule inside) = labels inside
  labels (Alt argument inside) = labels inside
  labels (Tup form parts) = labels_of_parts parts

  pub labels_of_parts : Structures → List ℕ
  labels_of_parts no_parts = []
  labels_of_parts (more_parts s ss) = labels s ++ labels_of_parts ss

-- the number of atoms
abbrev pub size : Structure → ℕ
size s = length (labels s)

-- the labels in ascending order
abbrev pub key : Structure → List ℕ
key s = ascending (labels s)
