-- Where one structure stands before another.
use Rattle.std.proofs.Common.{◌≡◌, ℕ, List, ◌∷◌, ap, ◌∙◌, Less, Equal, nat_cmp}
use Rattle.std.specs.Cmp.Lexicographic.{slice_cmp}
use Rattle.std.specs.Ordering.{ordering_then}
use Rattle.std.proofs.lemmas.Cmp.{nat_list_cmp_total, tied_itself}
use Rattle.struct_model.specs.Structure.{Structure, parts_of, key}
use Rattle.struct_model.specs.Order.{key_order, order_within, order_of_parts}
use Rattle.struct_model.specs.Listing.{Before}
use Rattle.struct_model.proofs.OrderLaws.{order_equal}

-- the keys decide first
pub before_by_key : (s t : Structure) → key_order s t ≡ Less → Before s t
before_by_key s t h = ap (λ o. ordering_then o (order_within s t)) h

-- structures of one key are in the order within it
pub before_within : (s t : Structure) → key_order s t ≡ Equal → order_within s t ≡ Less → Before s t
before_within s t same h = λ i. ordering_then (same i) (h i)

pub same_key : (s t : Structure) (u : List ℕ) → key s ≡ u → key t ≡ u → key_order s t ≡ Equal
same_key s t u p q = (λ i. slice_cmp nat_cmp (p i) (q i)) ∙ tied_itself nat_list_cmp_total u

-- lists of components, by the order of components
abbrev pub PartsBefore : List Structure → List Structure → Type 0
PartsBefore ss ts = order_of_parts (parts_of ss) (parts_of ts) ≡ Less

pub before_by_first : (s t : Structure) (ss ts : List Structure) → Before s t → PartsBefore (s ∷ ss) (t ∷ ts)
before_by_first s t ss ts h = ap (λ o. ordering_then o (order_of_parts (parts_of ss) (parts_of ts))) h

pub before_by_others : (s : Structure) (ss ts : List Structure) → PartsBefore ss ts → PartsBefore (s ∷ ss) (s ∷ ts)
before_by_others s ss ts h = λ i. ordering_then (order_equal.itself s i) (h i)
