-- What is listed: structures of the expression with the labels of the supply, none smaller than the least size.
use Rattle.std.proofs.Common.{◌≡◌, ℕ, ◌<◌, ◌≤◌, true, List, [], length, inl, inr, arith}
use Rattle.spec_syntax.specs.Expression.{Expression}
use Rattle.spec_syntax.specs.Grammar.{Grammar}
use Rattle.struct_model.specs.Structure.{Structure, size}
use Rattle.lists.specs.Enumeration.{IsIn}
use Rattle.struct_model.specs.Listing.{IsOne}
use Rattle.struct_model.specs.Membership.{is_of}
use Rattle.struct_model.specs.Bounded.{bounds, listing}
use Rattle.well_founded.specs.Sizes.{IsOf, IsLeast}
use Rattle.lists.proofs.Places.{is_empty}
use Rattle.listing_laws.proofs.FilterLaws.{listing_within_sound}
use Rattle.listing_laws.proofs.SetsRead.{in_sets, size-in_sets, read_of}
use Rattle.listing_laws.proofs.Sizes.{size_is}

at_least : (g : Grammar) (e : Expression) (n : ℕ) (s : Structure) → IsLeast g e n → IsOf g e s → n ≤ size s
at_least g e n s (inl least) of = least.1.least s of
at_least g e n s (inr none) of = omega (arith, none.0, none.1 s of)

-- no structure of the expression is smaller than the least size
not_smaller : (g : Grammar) (e : Expression) (n : ℕ) (s : Structure) → IsLeast g e n → is_of g e s ≡ true → n ≤ size s
not_smaller g e n s least of = omega (arith, at_least g e n (in_sets s) least (read_of g s e of), size-in_sets s)

pub listing_sound : (g : Grammar) (e : Expression) (u : List ℕ) (s : Structure) → IsIn s (listing g e u) → IsOne g e u s
unfolding listing
listing_sound g e u s within = listing_within_sound (bounds g u) g e u s within

-- each structure that is listed has as many atoms as there are labels
pub listed_size : (g : Grammar) (e : Expression) (u : List ℕ) (s : Structure) → IsIn s (listing g e u) → size s ≡ length u
listed_size g e u s within = size_is u s (listing_sound g e u s within).1

-- below the least size nothing is listed
pub none_below : (g : Grammar) (e : Expression) (least : ℕ) (u : List ℕ) → IsLeast g e least → length u < least → listing g e u ≡ []
none_below g e least u is_least below = is_empty (listing g e u) (λ s within.
    omega (arith, below, not_smaller g e least s is_least (listing_sound g e u s within).0, listed_size g e u s within))
