-- What stands inside a structure is lower.
use Rattle.std.proofs.Common.{◌≡◌, ℕ, zero, suc, ◌<◌, ◌≤◌, List, [], ◌∷◌, map, refl, sym, ap, inl, inr, arith}
use Rattle.lists.specs.Enumeration.{IsIn}
use Rattle.lists.proofs.Enumerated.{in_map}
use Rattle.struct_model.specs.declared.tree.Form5.{Form5}
use Rattle.struct_model.specs.Structure.{Structure, Eps, Atom, Named, Alt, Tup, parts_of}
use Rattle.listing_laws.specs.Lister.{named}
use Rattle.draw_steps.specs.Heights.{height, height_of_parts}
use Rattle.draw_steps.specs.Laws.{AreLower}

part_lower : (s : Structure) (ss : List Structure) → IsIn s ss → height s ≤ height_of_parts (parts_of ss)
part_lower s [] there = absurd there
part_lower s (t ∷ ts) (inl same) = let is : height s ≡ height t = ap height same in omega (arith, is)
part_lower s (t ∷ ts) (inr later) = omega (arith, part_lower s ts later)

pub list_lower : (h : ℕ) (f : Form5) (ss : List Structure) (s : Structure) → height (Tup f (parts_of ss)) < suc h → IsIn s ss → height s < h
list_lower h f ss s low at = omega (arith, low, part_lower s ss at)

-- all that is put together of lists of components is lower than so much
pub lists_lower : (h : ℕ) (f : Form5) (sss : List (List Structure)) → AreLower (suc h) (map (λ ss. Tup f (parts_of ss)) sss)
    → (ss : List Structure) → IsIn ss sss → (s : Structure) → IsIn s ss → height s < h
lists_lower h f sss lower ss there s at = list_lower h f ss s (lower (Tup f (parts_of ss)) (in_map (λ ts. Tup f (parts_of ts)) ss sss there)) at

pub named_height : (sym : ℕ) (s : Structure) → 1 ≤ sym → height (named sym s) ≡ suc (height s)
named_height sym (Eps zero) some = omega (arith, some)
named_height sym (Eps (suc rule)) some = refl
named_height sym (Atom zero label) some = omega (arith, some)
named_height sym (Atom (suc rule) label) some = refl
named_height sym (Named rule inside) some = refl
named_height sym (Alt argument inside) some = refl
named_height sym (Tup form parts) some = refl

pub alt_lower : (h k : ℕ) (s : Structure) → height (Alt k s) < suc h → height s < h
alt_lower h k s low = omega (arith, low)
