-- Each least size that is found by recursion is that of a structure, where it is so for names.
use Rattle.std.proofs.Common.{◌≡◌, ◌⊎◌, ℕ, zero, suc, ◌+◌, ◌<◌, ◌≤◌, min, true, not, ◌||◌, List, length, Option, Some, None, refl, sym, ap, ◌∙◌, inl, inr, arith, true≢false, length-append}
use Rattle.std.proofs.lemmas.Bool.{cases_lt, and_parts, and_from}
use Rattle.std.specs.Option.{option_and_then}
use Rattle.spec_syntax.specs.declared.statement.Universe.{Universe}
use Rattle.spec_syntax.specs.declared.statement.Universe.TheVariants.{Labelled, Unlabelled}
use Rattle.spec_syntax.specs.declared.expr.Kind.{Kind}
use Rattle.spec_syntax.specs.declared.expr.Card.{Card}
use Rattle.spec_syntax.specs.Expression as expr
use Rattle.spec_syntax.specs.Expression.{Expression, Expressions, no_expressions, more_expressions}
use Rattle.spec_syntax.specs.Rules.{symbol, right_side}
use Rattle.spec_syntax.specs.Grammar.{Grammar}
use Rattle.struct_model.specs.declared.tree.Form5.TheVariants as form
use Rattle.struct_model.specs.Structure.{Structure, Eps, Atom, Named, Alt, Tup, Structures, no_parts, more_parts, labels, labels_of_parts, size}
use Rattle.struct_model.specs.Membership.{are_of_each, argument, is_label, is_epsilon, is_atom}
use Rattle.well_founded.specs.Sets.{all_with_sets, reading_sets}
use Rattle.well_founded.specs.Sizes.{IsOf, no_least}
use Rattle.well_founded.specs.WellFounded.{may_hold_cycles}
use Rattle.well_founded.specs.Least.{lesser, together, fewest, copies, least_with, least_of_some, least_of_all}
use Rattle.well_founded.proofs.CyclesLaws.{may_all, both_allowed, element_allowed}
use Rattle.well_founded.proofs.ManyLaws.{form_of, same_parts, fewest_admitted, many_same, are_copies}
use Rattle.well_founded.proofs.LeastLaws.{names_read, name_is, read_argument, copies_more}

-- a structure of this size, or of 1001 or more where it is 1001
pub record IsReached (g : Grammar) (e : Expression) (n : ℕ) : Type 0 where
  pub reached : Structure
  pub is : IsOf g e reached
  pub has_size : min (size reached) no_least ≡ n

record AreReached (g : Grammar) (es : Expressions) (n : ℕ) : Type 0 where
  reached : Structures
  are : are_of_each (reading_sets g) (all_with_sets es) reached ≡ true
  have_size : min (length (labels_of_parts reached)) no_least ≡ n

record IsArgumentReached (g : Grammar) (es : Expressions) (n : ℕ) : Type 0 where
  place : ℕ
  found : Expression
  at : argument es (suc place) ≡ Some found
  one : IsReached g found n

-- each universe has a label
pub some_label : (universe : Universe) → (l : ℕ) × (is_label universe l ≡ true)
some_label Unlabelled = (0, refl)
some_label Labelled = (1, refl)

lesser_cases : (a b : Option ℕ) (n : ℕ) → lesser a b ≡ Some n → (a ≡ Some n) ⊎ (b ≡ Some n)
lesser_cases None b n h = inr h
lesser_cases (Some x) None n h = inl h
lesser_cases (Some x) (Some y) n h = let same : min x y ≡ n = cc in by (cases_lt x y) same
  where
    by : (x < y) ⊎ (y ≤ x) → min x y ≡ n → (Some x ≡ Some n) ⊎ (Some y ≡ Some n)
    by (inl low) same = inl (ap Some (omega arith))
    by (inr high) same = inr (ap Some (omega arith))

record AreTogether (a b : Option ℕ) (n : ℕ) : Type 0 where
  first : ℕ
  second : ℕ
  is_first : a ≡ Some first
  is_second : b ≡ Some second
  sum : min (first + second) no_least ≡ n

together_parts : (a b : Option ℕ) (n : ℕ) → together a b ≡ Some n → AreTogether a b n
together_parts None b n h = cc
together_parts (Some x) None n h = cc
together_parts (Some x) (Some y) n h = record { first = x; second = y; is_first = refl; is_second = refl; sum = cc }

size_together : (x y m k n : ℕ) → min x no_least ≡ m → min y no_least ≡ k → min (m + k) no_least ≡ n → min (x + y) no_least ≡ n
size_together x y m k n p q r = omega arith

module _ (g : Grammar) where
  -- a rule's name has a structure of each size that its right side has one of
  pub name_reached : (name : List ℕ) (n m : ℕ) (right : Expression) → symbol g.rules name ≡ Some n → right_side g.rules n ≡ Some right
      → IsReached g right m → IsReached g (expr.Name name) m
  name_reached name n m right numbered sided one = by right one.reached sided one.is one.has_size
    where
      told : (right : Expression) (s : Structure) → right_side g.rules n ≡ Some right → not (is_epsilon right || is_atom right) ≡ true → IsOf g right s
          → min (size s) no_least ≡ m → IsReached g (expr.Name name) m
      told right s sided other of has_size = record {
        reached = Named n s;
        is = name_is g name n right s numbered sided other of;
        has_size = has_size;
      }

      by : (right : Expression) (s : Structure) → right_side g.rules n ≡ Some right → IsOf g right s → min (size s) no_least ≡ m → IsReached g (expr.Name name) m
      by expr.Epsilon (Eps x) sided of has_size = record { reached = Eps n; is = names_read g name n expr.Epsilon is_epsilon numbered sided refl; has_size = has_size }
      by expr.Epsilon s sided of has_size = absurd (true≢false (sym of))
      by expr.Atom (Atom x l) sided of has_size =
          record { reached = Atom n l; is = and_from _ _ (names_read g name n expr.Atom is_atom numbered sided refl) (and_parts _ _ of).1; has_size = has_size }
      by expr.Atom s sided of has_size = absurd (true≢false (sym of))
      by right s sided of has_size = told right s sided refl of has_size

  -- so many of a structure have together so many times its atoms
  size_of_copies : (n : ℕ) (s : Structure) (m k : ℕ) → min (size s) no_least ≡ m → copies n (Some m) ≡ Some k → min (length (labels_of_parts (same_parts n s))) no_least ≡ k
  size_of_copies zero s m k has_size h = let same : 0 ≡ k = cc in omega arith
  size_of_copies (suc n) s m k has_size h =
      let parts = together_parts (Some m) (copies n (Some m)) k (sym (copies_more n (Some m)) ∙ h) in
      let first : m ≡ parts.first = same_number m parts.first parts.is_first in
      ap (λ (j : ℕ). min j no_least) (length-append (labels s) (labels_of_parts (same_parts n s)))
      ∙ size_together (size s) (length (labels_of_parts (same_parts n s))) parts.first parts.second k (has_size ∙ first) (size_of_copies n s m parts.second has_size parts.is_second) parts.sum
    where
      same_number : (a b : ℕ) → Some a ≡ Some b → a ≡ b
      same_number a b h = cc

  -- a container of copies of the smallest structure of the element
  many_reached : (kind : Kind) (e : Expression) (card : Card) (count n : ℕ) (size : Option ℕ) → may_hold_cycles g (expr.Many kind e card) ≡ true → fewest kind card ≡ Some count
      → copies count size ≡ Some n → ((m : ℕ) → size ≡ Some m → IsReached g e m) → IsReached g (expr.Many kind e card) n
  many_reached kind e card zero n size allowed few h one =
      let bound = fewest_admitted kind card 0 few in
      record {
        reached = Tup (form_of kind) no_parts;
        is = many_same g kind e card 0 (Eps 0) allowed bound.0 (omega (arith, bound.1)) refl;
        has_size = let same : 0 ≡ n = cc in same;
      }
  many_reached kind e card (suc count) n None allowed few h one = absurd (cc)
  many_reached kind e card (suc count) n (Some m) allowed few h one =
      let bound = fewest_admitted kind card (suc count) few in
      let smallest = one m refl in
      record {
        reached = Tup (form_of kind) (same_parts (suc count) smallest.reached);
        is = many_same g kind e card (suc count) smallest.reached allowed bound.0 (omega (arith, bound.1)) (are_copies g e (suc count) smallest.reached smallest.is);
        has_size = size_of_copies (suc count) smallest.reached m n smallest.has_size h;
      }

  some_count : (kind : Kind) (card : Card) (size : Option ℕ) (n : ℕ) → option_and_then (λ count. copies count size) (fewest kind card) ≡ Some n
      → (count : ℕ) × (fewest kind card ≡ Some count) × (copies count size ≡ Some n)
  some_count kind card size n h = by (fewest kind card) refl h
    where
      by : (o : Option ℕ) → fewest kind card ≡ o → option_and_then (λ count. copies count size) o ≡ Some n → (count : ℕ) × (fewest kind card ≡ Some count) × (copies count size ≡ Some n)
      by None few h = absurd (cc)
      by (Some count) few h = (count, few, h)

  module _ (sizes : List ℕ → Option ℕ) where
    -- each size that is said of a name is that of a structure of it
    abbrev pub IsSound : Type 0
    IsSound = (name : List ℕ) (n : ℕ) → sizes name ≡ Some n → IsReached g (expr.Name name) n

    module _ (sound : IsSound) where
      mutual
        pub is_reached : (e : Expression) (n : ℕ) → may_hold_cycles g e ≡ true → least_with sizes e ≡ Some n → IsReached g e n
        is_reached expr.Epsilon n allowed h = record { reached = Eps 0; is = refl; has_size = let same : 0 ≡ n = cc in same }
        is_reached expr.Atom n allowed h = let one = some_label g.universe in record { reached = Atom 0 one.0; is = one.1; has_size = let same : 1 ≡ n = cc in same }
        is_reached (expr.Name name) n allowed h = sound name n h
        is_reached (expr.Union es) n allowed h =
            let found = some_reached es n allowed h in
            record {
              reached = Alt (suc found.place) found.one.reached;
              is = read_argument g es (suc found.place) found.found found.one.reached found.at found.one.is;
              has_size = found.one.has_size;
            }
        is_reached (expr.Prod es) n allowed h =
            let found = all_reached es n allowed h in
            record { reached = Tup form.Prod found.reached; is = found.are; has_size = found.have_size }
        is_reached (expr.Many kind e card) n allowed h =
            let count = some_count kind card (least_with sizes e) n h in
            many_reached kind e card count.0 n (least_with sizes e) allowed count.1 count.2 (λ m is. is_reached e m (element_allowed g kind e card allowed) is)

        some_reached : (es : Expressions) (n : ℕ) → may_all g es ≡ true → least_of_some sizes es ≡ Some n → IsArgumentReached g es n
        some_reached no_expressions n allowed h = cc
        some_reached (more_expressions e es) n allowed h = elim (lesser_cases (least_with sizes e) (least_of_some sizes es) n h) [
          | inl here ↦ record { place = 0; found = e; at = refl; one = is_reached e n (both_allowed g e es allowed).0 here }
          | inr later ↦
              let rest = some_reached es n (both_allowed g e es allowed).1 later in
              record { place = suc rest.place; found = rest.found; at = rest.at; one = rest.one }
        ]

        all_reached : (es : Expressions) (n : ℕ) → may_all g es ≡ true → least_of_all sizes es ≡ Some n → AreReached g es n
        all_reached no_expressions n allowed h = record { reached = no_parts; are = refl; have_size = let same : 0 ≡ n = cc in same }
        all_reached (more_expressions e es) n allowed h =
            let parts = together_parts (least_with sizes e) (least_of_all sizes es) n h in
            let both = both_allowed g e es allowed in
            let one = is_reached e parts.first both.0 parts.is_first in
            let rest = all_reached es parts.second both.1 parts.is_second in
            record {
              reached = more_parts one.reached rest.reached;
              are = and_from _ _ one.is rest.are;
              have_size = ap (λ (k : ℕ). min k no_least) (length-append (labels one.reached) (labels_of_parts rest.reached))
                  ∙ size_together (size one.reached) (length (labels_of_parts rest.reached)) parts.first parts.second n one.has_size rest.have_size parts.sum;
            }
