-- The laws of the order and of listings.
use Rattle.std.specs.Prelude.{◌≡◌, ℕ, List}
use Rattle.std.specs.declared.cmp.Ordering.TheVariants.{Less}
use Rattle.std.specs.Ordering.{nat_cmp, ordering_then}
use Rattle.spec_syntax.specs.Expression.{Expression}
use Rattle.spec_syntax.specs.Grammar.{Grammar}
use Rattle.struct_model.specs.Structure.{Structure, Named, Alt, Structures, part_list}
use Rattle.struct_model.specs.Order.{key_order, order_of_parts, order, list_order}
use Rattle.struct_model.specs.Listing.{Lists}

abbrev pub ListBefore : List Structure → List Structure → Type 0
ListBefore ss ts = list_order ss ts ≡ Less

-- what stands inside is compared as it is by itself, and components as lists of structures are
pub record ComparesInside : Type 0 where
  pub named : (x y : ℕ) (s t : Structure) → order (Named x s) (Named y t) ≡ ordering_then (key_order s t) (ordering_then (nat_cmp x y) (order s t))
  pub alt : (j k : ℕ) (s t : Structure) → order (Alt j s) (Alt k t) ≡ ordering_then (key_order s t) (ordering_then (nat_cmp j k) (order s t))
  pub components : (ss ts : Structures) → order_of_parts ss ts ≡ list_order (part_list ss) (part_list ts)

-- no expression has two listings on one supply
abbrev pub HasOneListing : Type 0
HasOneListing = (g : Grammar) (e : Expression) (u : List ℕ) (ss ts : List Structure) → Lists g e u ss → Lists g e u ts → ss ≡ ts
