-- How deep structures are nested.
use Rattle.std.specs.Prelude.{ℕ, suc, max, min}
use Rattle.struct_model.specs.Structure.{Structure, Structures, Eps, Atom, Named, Alt, Tup, no_parts, more_parts}

abbrev mutual
  -- the number of names, arguments and lists around the deepest atom or empty structure; a word that a rule names is inside its name
  pub height : Structure → ℕ
  height (Eps rule) = min rule 1
  height (Atom rule label) = min rule 1
  height (Named rule inside) = suc (height inside)
  height (Alt argument inside) = suc (height inside)
  height (Tup form parts) = suc (height_of_parts parts)

  pub height_of_parts : Structures → ℕ
  height_of_parts no_parts = 0
  height_of_parts (more_parts s ss) = max (height s) (height_of_parts ss)
