-- The structures of containers.
use Rattle.std.proofs.Common.{◌≡◌, inl, inr, ℕ, zero, suc, ◌+◌, ◌≤◌, ◌<◌, Bool, true, false, not, nat_le, nat_lt, cond, List, ◌∷◌, ◌++◌, length, drop, take, Option, Some, None, refl, sym, ap, ◌∙◌, subst, arith, true≢false}
use Rattle.std.specs.Ordering.{is_gt}
use Rattle.std.proofs.lemmas.Bool.{and_parts, and_from}
use Rattle.std.proofs.lemmas.Bool.Decides.{nat_tests}
use Rattle.spec_syntax.specs.declared.expr.Kind.{Kind}
use Rattle.spec_syntax.specs.declared.expr.Kind.TheVariants as kind
use Rattle.spec_syntax.specs.declared.expr.Card.{Card}
use Rattle.spec_syntax.specs.Card.{is_within, admits}
use Rattle.spec_syntax.specs.Expression as expr
use Rattle.spec_syntax.specs.Expression.{Expression}
use Rattle.spec_syntax.specs.Grammar.{Grammar}
use Rattle.struct_model.specs.declared.tree.Form5.{Form5}
use Rattle.struct_model.specs.declared.tree.Form5.TheVariants as form
use Rattle.struct_model.specs.Structure.{Structure, Tup, Structures, no_parts, more_parts, part_list}
use Rattle.struct_model.specs.Order.{list_order, is_after, is_sorted, rotated, is_least_of, is_least_rotation}
use Rattle.lists.specs.Enumeration.{IsIn}
use Rattle.struct_model.specs.Membership.{is_of, are_of}
use Rattle.struct_model.proofs.OrderLaws.{order_equal, list_order_equal}
use Rattle.well_founded.specs.Sets.{with_sets, reading_sets}
use Rattle.well_founded.specs.Sizes.{IsOf}
use Rattle.well_founded.specs.Least.{low_count, fewest}
use Rattle.well_founded.specs.WellFounded.{may_hold_cycles}
use Rattle.well_founded.specs.Rank.{StandsAt}
use Rattle.well_founded.proofs.CyclesLaws.{cycle_labelled}

-- the form of a container's structures, where a PowerSet is read as Set
abbrev pub form_of : Kind → Form5
form_of kind.Sequence = form.Sequence
form_of kind.Set = form.Set
form_of kind.PowerSet = form.Set
form_of kind.Cycle = form.Cycle

-- it is made of components of the element, of which kind and bound admit the number
pub record IsMany (g : Grammar) (kind : Kind) (e : Expression) (card : Card) (s : Structure) : Type 0 where
  pub parts : Structures
  pub is : s ≡ Tup (form_of kind) parts
  pub admitted : admits card (length (part_list parts)) ≡ true
  pub enough : low_count kind card ≤ length (part_list parts)
  pub are : are_of (reading_sets g) (with_sets e) parts ≡ true

-- a number that is admitted is not below the bound
pub low_admitted : (card : Card) (n : ℕ) → admits card n ≡ true → card.low ≤ n
low_admitted card n h = let low = (and_parts (nat_le card.low n) (is_within card.high n) h).0 in grind (arith, nat_tests, low)

positive : (n : ℕ) → nat_lt 0 n ≡ true → 0 < n
positive n h = grind (arith, nat_tests, h)

pub many_is : (g : Grammar) (kind : Kind) (e : Expression) (card : Card) (s : Structure) → IsOf g (expr.Many kind e card) s → IsMany g kind e card s
many_is g kind.Sequence e card (Tup form.Sequence ss) of =
    let both = and_parts _ _ of in
    record { parts = ss; is = refl; admitted = both.0; enough = low_admitted card (length (part_list ss)) both.0; are = both.1 }
many_is g kind.Set e card (Tup form.Set ss) of =
    let both = and_parts _ _ of in
    let bound = (and_parts _ _ both.0).0 in
    record { parts = ss; is = refl; admitted = bound; enough = low_admitted card (length (part_list ss)) bound; are = both.1 }
many_is g kind.PowerSet e card (Tup form.Set ss) of =
    let both = and_parts _ _ of in
    let bound = (and_parts _ _ both.0).0 in
    record { parts = ss; is = refl; admitted = bound; enough = low_admitted card (length (part_list ss)) bound; are = both.1 }
many_is g kind.Cycle e card (Tup form.Cycle ss) of =
    let both = and_parts _ _ of in
    let some = and_parts _ _ (and_parts _ _ both.0).0 in
    let bound = (and_parts _ _ some.0).1 in
    record {
      parts = ss;
      is = refl;
      admitted = bound;
      enough = omega (arith, low_admitted card (length (part_list ss)) bound, positive (length (part_list ss)) some.1);
      are = both.1;
    }
many_is g kind e card s of = absurd (true≢false (sym of))

-- ---- the least number of components

within_less : (high : Option ℕ) (m n : ℕ) → m ≤ n → is_within high n ≡ true → is_within high m ≡ true
within_less None m n less h = refl
within_less (Some most) m n less h = grind (arith, nat_tests, h, less)

admits_less : (card : Card) (m n : ℕ) → card.low ≤ m → m ≤ n → admits card n ≡ true → admits card m ≡ true
admits_less card m n low less h =
    and_from (nat_le card.low m) (is_within card.high m) (at_least card.low m low) (within_less card.high m n less (and_parts (nat_le card.low n) (is_within card.high n) h).1)
  where
    at_least : (a b : ℕ) → a ≤ b → nat_le a b ≡ true
    at_least a b h = grind (arith, nat_tests, h)

low_within : (kind : Kind) (card : Card) → card.low ≤ low_count kind card
low_within kind.Sequence card = omega arith
low_within kind.Set card = omega arith
low_within kind.PowerSet card = omega arith
low_within kind.Cycle card = omega arith

-- where some number of at least the least one is admitted, the least one is
pub fewest_is : (kind : Kind) (card : Card) (n : ℕ) → admits card n ≡ true → low_count kind card ≤ n → fewest kind card ≡ Some (low_count kind card)
fewest_is kind card n admitted enough =
    ap (λ (b : Bool). cond b (Some (low_count kind card)) None) (admits_less card (low_count kind card) n (low_within kind card) enough admitted)

pub fewest_admitted : (kind : Kind) (card : Card) (n : ℕ) → fewest kind card ≡ Some n → (admits card n ≡ true) × (low_count kind card ≡ n)
fewest_admitted kind card n h = by (admits card (low_count kind card)) refl h
  where
    by : (b : Bool) → admits card (low_count kind card) ≡ b → cond b (Some (low_count kind card)) None ≡ Some n → (admits card n ≡ true) × (low_count kind card ≡ n)
    by true is h = let same : low_count kind card ≡ n = cc in (subst (λ (m : ℕ). admits card m ≡ true) same is, same)
    by false is h = absurd (cc)

-- where one component is admitted, it is enough
pub low_one : (kind : Kind) (card : Card) → admits card 1 ≡ true → low_count kind card ≤ 1
low_one kind.Sequence card h = low_admitted card 1 h
low_one kind.Set card h = low_admitted card 1 h
low_one kind.PowerSet card h = low_admitted card 1 h
low_one kind.Cycle card h = omega (arith, low_admitted card 1 h)

-- ---- copies of one structure

abbrev pub same_parts : ℕ → Structure → Structures
same_parts zero s = no_parts
same_parts (suc n) s = more_parts s (same_parts n s)

abbrev same : ℕ → Structure → List Structure
same n s = part_list (same_parts n s)

length-same : (n : ℕ) (s : Structure) → length (same n s) ≡ n
length-same zero s = refl
length-same (suc n) s = ap suc (length-same n s)

are-same : (g : Grammar) (e : Expression) (n : ℕ) (s : Structure) → is_of g e s ≡ true → are_of g e (same_parts n s) ≡ true
are-same g e zero s of = refl
are-same g e (suc n) s of = and_from _ _ of (are-same g e n s of)

not_after_itself : (s : Structure) → not (is_after s s) ≡ true
not_after_itself s = ap (λ o. not (is_gt o)) (order_equal.itself s)

sorted-same : (n : ℕ) (s : Structure) → is_sorted (same n s) ≡ true
sorted-same zero s = refl
sorted-same (suc zero) s = refl
sorted-same (suc (suc n)) s = and_from _ _ (not_after_itself s) (sorted-same (suc n) s)

take-same : (n i : ℕ) (s : Structure) → i ≤ n → take i (same n s) ≡ same i s
take-same n zero s h = refl
take-same zero (suc i) s h = absurd (omega arith)
take-same (suc n) (suc i) s h = ap (λ ss. s ∷ ss) (take-same n i s (omega arith))

drop-same : (n i k : ℕ) (s : Structure) → i + k ≡ n → drop i (same n s) ≡ same k s
drop-same n zero k s h = let number : n ≡ k = omega arith in ap (λ (m : ℕ). same m s) number
drop-same zero (suc i) k s h = absurd (omega arith)
drop-same (suc n) (suc i) k s h = drop-same n i k s (omega arith)

append-same : (k i n : ℕ) (s : Structure) → k + i ≡ n → same k s ++ same i s ≡ same n s
append-same zero i n s h = let number : i ≡ n = omega arith in ap (λ (m : ℕ). same m s) number
append-same (suc k) i zero s h = absurd (omega arith)
append-same (suc k) i (suc n) s h = ap (λ ss. s ∷ ss) (append-same k i n s (omega arith))

rotated-same : (n i k : ℕ) (s : Structure) → i + k ≡ n → rotated (same n s) i ≡ same n s
rotated-same n i k s h = (λ j. drop-same n i k s h j ++ take-same n i s (omega arith) j) ∙ append-same k i n s (omega arith)

rest_of : (i n : ℕ) → i ≤ n → (k : ℕ) × (i + k ≡ n)
rest_of zero n h = (n, omega arith)
rest_of (suc i) zero h = absurd (omega arith)
rest_of (suc i) (suc n) h = let rest = rest_of i n (omega arith) in (rest.0, omega (arith, rest.1))

least_of-same : (m n : ℕ) (s : Structure) → m ≤ n → is_least_of m (same n s) ≡ true
least_of-same zero n s h = refl
least_of-same (suc m) n s h =
    let rest = rest_of m n (omega arith) in
    and_from _ _
    (ap (λ ss. not (is_gt (list_order (same n s) ss))) (rotated-same n m rest.0 s rest.1) ∙ ap (λ o. not (is_gt o)) (list_order_equal.itself (same n s)))
    (least_of-same m n s (omega arith))

least_rotation-same : (n : ℕ) (s : Structure) → is_least_rotation (same n s) ≡ true
least_rotation-same n s = least_of-same (length (same n s)) n s (omega (arith, length-same n s))

bound-same : (card : Card) (n : ℕ) (s : Structure) → admits card n ≡ true → admits card (length (same n s)) ≡ true
bound-same card n s admitted = ap (admits card) (length-same n s) ∙ admitted

is_positive : (n : ℕ) → 0 < n → nat_lt 0 n ≡ true
is_positive n h = grind (arith, nat_tests, h)

-- so many of a structure of the element make one of the container, where kind and bound admit the number
pub many_same : (g : Grammar) (kind : Kind) (e : Expression) (card : Card) (n : ℕ) (s : Structure) → may_hold_cycles g (expr.Many kind e card) ≡ true → admits card n ≡ true
    → low_count kind card ≤ n → are_of (reading_sets g) (with_sets e) (same_parts n s) ≡ true → IsOf g (expr.Many kind e card) (Tup (form_of kind) (same_parts n s))
many_same g kind.Sequence e card n s allowed admitted enough are = and_from _ _ (bound-same card n s admitted) are
many_same g kind.Set e card n s allowed admitted enough are = and_from _ _ (and_from _ _ (bound-same card n s admitted) (sorted-same n s)) are
many_same g kind.PowerSet e card n s allowed admitted enough are = and_from _ _ (and_from _ _ (bound-same card n s admitted) (sorted-same n s)) are
many_same g kind.Cycle e card n s allowed admitted enough are =
    let labelled = and_from _ _ (cycle_labelled g e card allowed) (bound-same card n s admitted) in
    and_from _ _ (and_from _ _ (and_from _ _ labelled (is_positive (length (same n s)) (omega (arith, length-same n s, enough)))) (least_rotation-same n s)) are

pub are_copies : (g : Grammar) (e : Expression) (n : ℕ) (s : Structure) → IsOf g e s → are_of (reading_sets g) (with_sets e) (same_parts n s) ≡ true
are_copies g e n s of = are-same (reading_sets g) (with_sets e) n s of

-- ---- what stands inside

-- a component stands directly inside at place 0
pub stands_within : (kind : Kind) (ss : Structures) (place : ℕ) (t : Structure) → StandsAt (Tup (form_of kind) ss) place t → (place ≡ 0) × IsIn t (part_list ss)
stands_within kind.Sequence ss place t h = h
stands_within kind.Set ss place t h = h
stands_within kind.PowerSet ss place t h = h
stands_within kind.Cycle ss place t h = h

pub within_stands : (kind : Kind) (ss : Structures) (t : Structure) → IsIn t (part_list ss) → StandsAt (Tup (form_of kind) ss) 0 t
within_stands kind.Sequence ss t h = (refl, h)
within_stands kind.Set ss t h = (refl, h)
within_stands kind.PowerSet ss t h = (refl, h)
within_stands kind.Cycle ss t h = (refl, h)

-- each component is one of the element
pub component_is : (g : Grammar) (e : Expression) (ss : Structures) (t : Structure) → are_of g e ss ≡ true → IsIn t (part_list ss) → is_of g e t ≡ true
component_is g e no_parts t are there = absurd there
component_is g e (more_parts s ss) t are (inl same) = ap (is_of g e) same ∙ (and_parts _ _ are).0
component_is g e (more_parts s ss) t are (inr there) = component_is g e ss t (and_parts _ _ are).1 there
