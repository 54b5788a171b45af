-- The structures of a height are built up from those of the height below.
use Rattle.std.proofs.Common.{◌≡◌, ℕ, zero, suc, ◌≤◌, List, ◌++◌, map, flat_map, length, length-append, refl, inl, inr, arith, Some}
use Rattle.std.proofs.lemmas.Bool.{cases_lt}
use Rattle.spec_syntax.specs.Expression.{Expression, Expressions, no_expressions, more_expressions, expression_list}
use Rattle.struct_model.specs.declared.tree.Form5.{Form5}
use Rattle.struct_model.specs.declared.tree.Form5.TheVariants as form
use Rattle.struct_model.specs.Structure.{Structure, Eps, Atom, Named, Alt, Tup, Structures, no_parts, more_parts, part_list, labels, labels_of_parts, size}
use Rattle.struct_model.specs.Membership.{argument}
use Rattle.lists.specs.Enumeration.{IsIn}
use Rattle.struct_model.specs.Bounded.{Bounds, down_from, forms, part_lists, leaves, around, up_to_height}
use Rattle.lists.proofs.Within.{in_left, in_right}
use Rattle.lists.proofs.Enumerated.{in_map, in_flat_map}

in_down_from : (n x : ℕ) → x ≤ n → IsIn x (down_from n)
in_down_from zero x h = inl (omega arith)
in_down_from (suc n) x h = elim (cases_lt n x) [ inl above ↦ inl (omega arith) | inr within ↦ inr (in_down_from n x within) ]

-- ---- building up the structures of a height

module _ (b : Bounds) where
  from_leaves : (h : ℕ) (s : Structure) → IsIn s (leaves b) → IsIn s (up_to_height b h)
  from_leaves zero s within = within
  from_leaves (suc h) s within = in_left s (leaves b) (around b (up_to_height b h)) within

  pub eps_within : (h x : ℕ) → x ≤ b.number → IsIn (Eps x) (up_to_height b h)
  eps_within h x low = from_leaves h (Eps x) (in_left (Eps x) (map Eps (down_from b.number)) (flat_map (λ y. map (Atom y) (down_from b.label)) (down_from b.number))
      (in_map Eps x (down_from b.number) (in_down_from b.number x low)))

  pub atom_within : (h x l : ℕ) → x ≤ b.number → l ≤ b.label → IsIn (Atom x l) (up_to_height b h)
  atom_within h x l low small = from_leaves h (Atom x l) (in_right (Atom x l) (map Eps (down_from b.number)) (flat_map (λ y. map (Atom y) (down_from b.label)) (down_from b.number))
      (in_flat_map (λ y. map (Atom y) (down_from b.label)) x (down_from b.number) (Atom x l) (in_down_from b.number x low)
      (in_map (Atom x) l (down_from b.label) (in_down_from b.label l small))))

  told : ℕ → List Structure → List Structure
  told x ss = map (Named x) ss ++ map (Alt x) ss

  lists_of : List Structure → Form5 → List Structure
  lists_of ss f = map (Tup f) (part_lists b.width ss)

  from_told : (h x : ℕ) (s : Structure) → x ≤ b.number → IsIn s (told x (up_to_height b h)) → IsIn s (up_to_height b (suc h))
  unfolding told lists_of
  from_told h x s low within =
      in_right s (leaves b) (around b (up_to_height b h))
      (in_left s (flat_map (λ y. told y (up_to_height b h)) (down_from b.number)) (flat_map (lists_of (up_to_height b h)) forms)
      (in_flat_map (λ y. told y (up_to_height b h)) x (down_from b.number) s (in_down_from b.number x low) within))

  pub named_within : (h x : ℕ) (s : Structure) → x ≤ b.number → IsIn s (up_to_height b h) → IsIn (Named x s) (up_to_height b (suc h))
  unfolding told
  named_within h x s low within =
      from_told h x (Named x s) low (in_left (Named x s) (map (Named x) (up_to_height b h)) (map (Alt x) (up_to_height b h)) (in_map (Named x) s (up_to_height b h) within))

  pub alt_within : (h x : ℕ) (s : Structure) → x ≤ b.number → IsIn s (up_to_height b h) → IsIn (Alt x s) (up_to_height b (suc h))
  unfolding told
  alt_within h x s low within =
      from_told h x (Alt x s) low (in_right (Alt x s) (map (Named x) (up_to_height b h)) (map (Alt x) (up_to_height b h)) (in_map (Alt x) s (up_to_height b h) within))

  in_forms : (f : Form5) → IsIn f forms
  in_forms form.Prod = inl refl
  in_forms form.Sequence = inr (inl refl)
  in_forms form.Set = inr (inr (inl refl))
  in_forms form.PowerSet = inr (inr (inr (inl refl)))
  in_forms form.Cycle = inr (inr (inr (inr (inl refl))))

  pub list_within : (h : ℕ) (f : Form5) (ps : Structures) → IsIn ps (part_lists b.width (up_to_height b h)) → IsIn (Tup f ps) (up_to_height b (suc h))
  unfolding told lists_of
  list_within h f ps within =
      in_right (Tup f ps) (leaves b) (around b (up_to_height b h))
      (in_right (Tup f ps) (flat_map (λ y. told y (up_to_height b h)) (down_from b.number)) (flat_map (lists_of (up_to_height b h)) forms)
      (in_flat_map (lists_of (up_to_height b h)) f forms (Tup f ps) (in_forms f) (in_map (Tup f) ps (part_lists b.width (up_to_height b h)) within)))

-- is each component one of these
abbrev pub EachIn : List Structure → Structures → Type 0
EachIn ss no_parts = Unit {0}
EachIn ss (more_parts s ps) = IsIn s ss × EachIn ss ps

abbrev pub part_count : Structures → ℕ
part_count no_parts = 0
part_count (more_parts s ps) = suc (part_count ps)

pub in_part_lists : (n : ℕ) (ss : List Structure) (ps : Structures) → EachIn ss ps → part_count ps ≤ n → IsIn ps (part_lists n ss)
in_part_lists zero ss no_parts each h = inl refl
in_part_lists zero ss (more_parts s ps) each h = absurd (omega arith)
in_part_lists (suc n) ss no_parts each h = inl refl
in_part_lists (suc n) ss (more_parts s ps) each h =
    inr (in_flat_map (λ first. map (more_parts first) (part_lists n ss)) s ss (more_parts s ps) each.0
    (in_map (more_parts s) ps (part_lists n ss) (in_part_lists n ss ps each.1 (omega arith))))

-- where each component has an atom, there are no more components than atoms
pub few_parts : (ps : Structures) → ((t : Structure) → IsIn t (part_list ps) → size t ≡ 0 → ⊥) → part_count ps ≤ length (labels_of_parts ps)
few_parts no_parts full = omega arith
few_parts (more_parts s ps) full = elim (cases_lt 0 (size s)) [
  | inl some ↦ omega (arith, some, few_parts ps (λ t there. full t (inr there)), length-append (labels s) (labels_of_parts ps))
  | inr none ↦ absurd (full s (inl refl) (omega (arith, none)))
]

-- ---- the arguments of a Union

pub argument_number : (es : Expressions) (k : ℕ) (e : Expression) → argument es k ≡ Some e → k ≤ length (expression_list es)
argument_number no_expressions k e found = absurd (cc)
argument_number (more_expressions first es) zero e found = omega arith
argument_number (more_expressions first es) (suc zero) e found = omega arith
argument_number (more_expressions first es) (suc (suc k)) e found = omega (arith, argument_number es (suc k) e found)
