-- The order of structures is that of lists of words, so it is total.
use Rattle.std.proofs.Common.{◌≡◌, ◌↔◌, ℕ, List, [], ◌∷◌, refl, sym, ap, ◌∙◌, subst}
use Rattle.std.specs.Cmp.{IsTotalOrder}
use Rattle.std.specs.declared.cmp.Ordering.{Ordering}
use Rattle.std.specs.declared.cmp.Ordering.TheVariants.{Less, Equal, Greater}
use Rattle.std.specs.Ordering.{nat_cmp, ordering_then}
use Rattle.std.specs.Cmp.Lexicographic.{slice_cmp}
use Rattle.std.proofs.lemmas.Cmp.{nat_list_cmp_total, lists_total, on_total, tied_itself}
use Rattle.lists.specs.Orders.{IsStrictTotalOrder, EqualIsSame}
use Rattle.lists.proofs.Orders.{then_first, then_second, lists_same, strict}
use Rattle.struct_model.specs.declared.tree.Form5.{Form5}
use Rattle.struct_model.specs.declared.tree.Form5.TheVariants as form
use Rattle.struct_model.specs.Structure.{Structure, Eps, Atom, Named, Alt, Tup, Structures, no_parts, more_parts, part_list, key}
use Rattle.struct_model.specs.Order.{form_rank, key_order, order_within, order_of_parts, order, list_order}
use Rattle.struct_model.specs.Listing.{Before}
use Rattle.struct_model.specs.Laws.{ListBefore, ComparesInside}
use Rattle.struct_model.proofs.KeyOrder.{is_same}

then_Equal : (o : Ordering) → ordering_then o Equal ≡ o
then_Equal Less = refl
then_Equal Equal = refl
then_Equal Greater = refl

then_assoc : (a b c : Ordering) → ordering_then (ordering_then a b) c ≡ ordering_then a (ordering_then b c)
then_assoc Less b c = refl
then_assoc Equal b c = refl
then_assoc Greater b c = refl

-- ---- words

abbrev words_order : List (List ℕ) → List (List ℕ) → Ordering
words_order = slice_cmp (slice_cmp nat_cmp)

-- the words of a structure of a known key, and then more words; the empty word ends the components
abbrev mutual
  words_within : Structure → List (List ℕ) → List (List ℕ)
  words_within (Eps x) more = (0 ∷ x ∷ []) ∷ more
  words_within (Atom x l) more = (1 ∷ x ∷ []) ∷ more
  words_within (Named x s) more = (2 ∷ x ∷ []) ∷ words_within s more
  words_within (Alt k s) more = (3 ∷ k ∷ []) ∷ words_within s more
  words_within (Tup f ss) more = (4 ∷ form_rank f ∷ []) ∷ words_of_parts ss more

  words_of_parts : Structures → List (List ℕ) → List (List ℕ)
  words_of_parts no_parts more = [] ∷ more
  words_of_parts (more_parts s ss) more = (0 ∷ []) ∷ key s ∷ words_within s (words_of_parts ss more)

abbrev words : Structure → List (List ℕ)
words s = key s ∷ words_within s []

mutual
  words_compare : (s t : Structure) (more others : List (List ℕ)) → words_order (words_within s more) (words_within t others) ≡ ordering_then (order_within s t) (words_order more others)
  words_compare (Eps x) (Eps y) more others = ap (λ o. ordering_then o (words_order more others)) (then_Equal (nat_cmp x y))
  words_compare (Atom x l) (Atom y m) more others = ap (λ o. ordering_then o (words_order more others)) (then_Equal (nat_cmp x y))
  words_compare (Named x s) (Named y t) more others =
      (λ i. ordering_then (then_Equal (nat_cmp x y) i) (words_compare s t more others i)) ∙ sym (then_assoc (nat_cmp x y) (order_within s t) (words_order more others))
  words_compare (Alt j s) (Alt k t) more others =
      (λ i. ordering_then (then_Equal (nat_cmp j k) i) (words_compare s t more others i)) ∙ sym (then_assoc (nat_cmp j k) (order_within s t) (words_order more others))
  words_compare (Tup f ss) (Tup g ts) more others =
      (λ i. ordering_then (then_Equal (nat_cmp (form_rank f) (form_rank g)) i) (parts_compare ss ts more others i))
      ∙ sym (then_assoc (nat_cmp (form_rank f) (form_rank g)) (order_of_parts ss ts) (words_order more others))
  words_compare s t more others = refl

  parts_compare : (ss ts : Structures) (more others : List (List ℕ)) → words_order (words_of_parts ss more) (words_of_parts ts others) ≡ ordering_then (order_of_parts ss ts) (words_order more others)
  parts_compare no_parts no_parts more others = refl
  parts_compare no_parts (more_parts t ts) more others = refl
  parts_compare (more_parts s ss) no_parts more others = refl
  parts_compare (more_parts s ss) (more_parts t ts) more others =
      ap (ordering_then (key_order s t)) (words_compare s t (words_of_parts ss more) (words_of_parts ts others) ∙ ap (ordering_then (order_within s t)) (parts_compare ss ts more others))
      ∙ sym (then_assoc (key_order s t) (order_within s t) (ordering_then (order_of_parts ss ts) (words_order more others)))
      ∙ sym (then_assoc (ordering_then (key_order s t) (order_within s t)) (order_of_parts ss ts) (words_order more others))

by_words : (s t : Structure) → words_order (words s) (words t) ≡ order s t
by_words s t = ap (ordering_then (key_order s t)) (words_compare s t [] [] ∙ then_Equal (order_within s t))

pub order_total : IsTotalOrder order
order_total = subst IsTotalOrder (λ i s t. by_words s t i) (on_total words (lists_total nat_list_cmp_total))

pub list_order_total : IsTotalOrder list_order
list_order_total = lists_total order_total

-- ---- Equal is the same

numbers_same : (x y : ℕ) → nat_cmp x y ≡ Equal → x ≡ y
numbers_same x y e = is_same x y (sym e)

keys_same : (s t : Structure) → key_order s t ≡ Equal → key s ≡ key t
keys_same s t e = lists_same nat_cmp numbers_same (key s) (key t) e

forms_same : (f g : Form5) → nat_cmp (form_rank f) (form_rank g) ≡ Equal → f ≡ g
forms_same form.Prod form.Prod e = refl
forms_same form.Sequence form.Sequence e = refl
forms_same form.Set form.Set e = refl
forms_same form.PowerSet form.PowerSet e = refl
forms_same form.Cycle form.Cycle e = refl
forms_same f g e = cc

first_same : (x y : ℕ) → x ∷ [] ≡ y ∷ [] → x ≡ y
first_same x y e = cc

mutual
  within_same : (s t : Structure) → key s ≡ key t → order_within s t ≡ Equal → s ≡ t
  within_same (Eps x) (Eps y) k e = ap Eps (numbers_same x y e)
  within_same (Atom x l) (Atom y m) k e = λ i. Atom (numbers_same x y e i) (first_same l m k i)
  within_same (Named x s) (Named y t) k e = λ i. Named (numbers_same x y (then_first (nat_cmp x y) (order_within s t) e) i) (within_same s t k (then_second (nat_cmp x y) (order_within s t) e) i)
  within_same (Alt x s) (Alt y t) k e = λ i. Alt (numbers_same x y (then_first (nat_cmp x y) (order_within s t) e) i) (within_same s t k (then_second (nat_cmp x y) (order_within s t) e) i)
  within_same (Tup f ss) (Tup g ts) k e =
      λ i. Tup (forms_same f g (then_first (nat_cmp (form_rank f) (form_rank g)) (order_of_parts ss ts) e) i) (parts_same ss ts (then_second (nat_cmp (form_rank f) (form_rank g)) (order_of_parts ss ts) e) i)
  within_same s t k e = cc

  parts_same : (ss ts : Structures) → order_of_parts ss ts ≡ Equal → ss ≡ ts
  parts_same no_parts no_parts e = refl
  parts_same no_parts (more_parts t ts) e = cc
  parts_same (more_parts s ss) no_parts e = cc
  parts_same (more_parts s ss) (more_parts t ts) e =
      let first : ordering_then (key_order s t) (order_within s t) ≡ Equal = then_first (ordering_then (key_order s t) (order_within s t)) (order_of_parts ss ts) e in
      λ i.
      more_parts
      (within_same s t (keys_same s t (then_first (key_order s t) (order_within s t) first)) (then_second (key_order s t) (order_within s t) first) i)
      (parts_same ss ts (then_second (ordering_then (key_order s t) (order_within s t)) (order_of_parts ss ts) e) i)

pub order_same : (s t : Structure) → order s t ≡ Equal → s ≡ t
order_same s t e = within_same s t (keys_same s t (then_first (key_order s t) (order_within s t) e)) (then_second (key_order s t) (order_within s t) e)

pub order_equal : EqualIsSame order
order_equal = record { same = order_same; itself = tied_itself order_total }

pub list_order_equal : EqualIsSame list_order
list_order_equal = record { same = lists_same order order_same; itself = tied_itself list_order_total }

-- an answer that is the order says by Equal that the structures are equal
pub equal_answer : (s t : Structure) (answer : Ordering) → answer ≡ order s t → (answer ≡ Equal) ↔ (s ≡ t)
equal_answer s t answer h = (λ e. order_same s t (sym h ∙ e), λ e. h ∙ ap (order s) (sym e) ∙ order_equal.itself s)

-- where the keys differ they decide, and where they are equal the rest does
pub keys_decide : (s t : Structure) (answer : Ordering) → answer ≡ key_order s t → (answer ≡ Equal → ⊥) → answer ≡ order s t
keys_decide s t answer h differ = by answer differ ∙ ap (λ o. ordering_then o (order_within s t)) h
  where
    by : (o : Ordering) → (o ≡ Equal → ⊥) → o ≡ ordering_then o (order_within s t)
    by Less f = refl
    by Equal f = absurd (f refl)
    by Greater f = refl

pub rest_decides : (s t : Structure) (keys answer : Ordering) → keys ≡ key_order s t → keys ≡ Equal → answer ≡ order_within s t → answer ≡ order s t
rest_decides s t keys answer h e g = g ∙ ap (λ o. ordering_then o (order_within s t)) (sym e ∙ h)

-- ---- a strict total order

pub order_strict : IsStrictTotalOrder Before
order_strict = strict order order_total order_equal

pub list_order_strict : IsStrictTotalOrder ListBefore
list_order_strict = strict list_order list_order_total list_order_equal

-- ---- what stands inside

-- a key that was compared need not be compared again
then_again : (k n w : Ordering) → ordering_then k (ordering_then n w) ≡ ordering_then k (ordering_then n (ordering_then k w))
then_again Less n w = refl
then_again Equal n w = refl
then_again Greater n w = refl

components_compare : (ss ts : Structures) → order_of_parts ss ts ≡ list_order (part_list ss) (part_list ts)
components_compare no_parts no_parts = refl
components_compare no_parts (more_parts t ts) = refl
components_compare (more_parts s ss) no_parts = refl
components_compare (more_parts s ss) (more_parts t ts) = ap (ordering_then (order s t)) (components_compare ss ts)

pub compares_inside : ComparesInside
compares_inside = record {
  named = λ x y s t. then_again (key_order s t) (nat_cmp x y) (order_within s t);
  alt = λ j k s t. then_again (key_order s t) (nat_cmp j k) (order_within s t);
  components = components_compare;
}
