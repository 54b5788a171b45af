-- The order of structures: the first difference decides.
use Rattle.std.specs.Prelude.{ℕ, zero, suc, Bool, true, not, ◌&&◌, List, [], ◌∷◌, ◌++◌, length, drop, take}
use Rattle.std.specs.declared.cmp.Ordering.{Ordering}
use Rattle.std.specs.declared.cmp.Ordering.TheVariants.{Less, Equal, Greater}
use Rattle.std.specs.Ordering.{nat_cmp, ordering_then, is_lt, is_gt}
use Rattle.std.specs.Cmp.Lexicographic.{slice_cmp}
use Rattle.struct_model.specs.declared.tree.Form5.{Form5}
use Rattle.struct_model.specs.declared.tree.Form5.TheVariants as form
use Rattle.struct_model.specs.Structure.{Structure, Eps, Atom, Named, Alt, Tup, Structures, no_parts, more_parts, key}

-- the place of a form among the forms
abbrev pub form_rank : Form5 → ℕ
form_rank form.Prod = 0
form_rank form.Sequence = 1
form_rank form.Set = 2
form_rank form.PowerSet = 3
form_rank form.Cycle = 4

-- the place of a structure's constructor among the constructors
abbrev pub rank : Structure → ℕ
rank (Eps rule) = 0
rank (Atom rule label) = 1
rank (Named rule inside) = 2
rank (Alt argument inside) = 3
rank (Tup form parts) = 4

-- the order of the keys, number by number, a prefix first
abbrev pub key_order : Structure → Structure → Ordering
key_order s t = slice_cmp nat_cmp (key s) (key t)

abbrev mutual
  -- the order of structures with one key: the constructors, then the numbers, then what stands inside, which has that key too;
  -- for lists the form, and then the components
  pub order_within : Structure → Structure → Ordering
  order_within (Eps x) (Eps y) = nat_cmp x y
  order_within (Atom x _) (Atom y _) = nat_cmp x y
  order_within (Named x s) (Named y t) = ordering_then (nat_cmp x y) (order_within s t)
  order_within (Alt j s) (Alt k t) = ordering_then (nat_cmp j k) (order_within s t)
  order_within (Tup f ss) (Tup g ts) = ordering_then (nat_cmp (form_rank f) (form_rank g)) (order_of_parts ss ts)
  order_within (Eps x) t = nat_cmp (rank (Eps x)) (rank t)
  order_within (Atom x l) t = nat_cmp (rank (Atom x l)) (rank t)
  order_within (Named x s) t = nat_cmp (rank (Named x s)) (rank t)
  order_within (Alt k s) t = nat_cmp (rank (Alt k s)) (rank t)
  order_within (Tup f ss) t = nat_cmp (rank (Tup f ss)) (rank t)

  -- the order of components from the left, a prefix first
  pub order_of_parts : Structures → Structures → Ordering
  order_of_parts no_parts no_parts = Equal
  order_of_parts no_parts (more_parts t ts) = Less
  order_of_parts (more_parts s ss) no_parts = Greater
  order_of_parts (more_parts s ss) (more_parts t ts) = ordering_then (ordering_then (key_order s t) (order_within s t)) (order_of_parts ss ts)

-- by the key, and then within one key
abbrev pub order : Structure → Structure → Ordering
order s t = ordering_then (key_order s t) (order_within s t)

-- the order of lists of structures, from the left, a prefix first
abbrev pub list_order : List Structure → List Structure → Ordering
list_order = slice_cmp order

abbrev pub is_before : Structure → Structure → Bool
is_before s t = is_lt (order s t)

abbrev pub is_after : Structure → Structure → Bool
is_after s t = is_gt (order s t)

-- does no structure stand after the next one
abbrev pub is_sorted : List Structure → Bool
is_sorted [] = true
is_sorted (s ∷ []) = true
is_sorted (s ∷ t ∷ ss) = not (is_after s t) && is_sorted (t ∷ ss)

-- does each structure stand before the next one
abbrev pub is_strictly_sorted : List Structure → Bool
is_strictly_sorted [] = true
is_strictly_sorted (s ∷ []) = true
is_strictly_sorted (s ∷ t ∷ ss) = is_before s t && is_strictly_sorted (t ∷ ss)

-- the list from place i on, and then what stands before that place
abbrev pub rotated : List Structure → ℕ → List Structure
rotated ss i = drop i ss ++ take i ss

-- is the list after none of its rotations at the first n places
abbrev pub is_least_of : ℕ → List Structure → Bool
is_least_of zero ss = true
is_least_of (suc n) ss = not (is_gt (list_order ss (rotated ss n))) && is_least_of n ss

-- is the list after none of its rotations
abbrev pub is_least_rotation : List Structure → Bool
is_least_rotation ss = is_least_of (length ss) ss
