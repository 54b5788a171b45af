-- Tables of sizes that fall from round to round reach the least sizes.
use Rattle.std.proofs.Common.{◌≡◌, ◌⊎◌, ℕ, zero, suc, ◌+◌, ◌-◌, ◌<◌, ◌≤◌, true, List, [], ◌∷◌, length, map, replicate, get_or, slice_get, unwrap_or, Option, Some, None, refl, sym, ap, ◌∙◌, subst, inl, inr, arith}
use Rattle.std.specs.Prelude.{All}
use Rattle.std.specs.Option.{option_map, option_map_or, option_and_then}
use Rattle.std.proofs.lemmas.Bool.{cases_lt}
use Rattle.std.proofs.lemmas.Option.{slice_get-map, slice_get-get_or, get_or_from_slice_get, slice_get_within}
use Rattle.std.proofs.lemmas.List.Elements.{All-map}
use Rattle.std.proofs.lemmas.List.{length-map, length-replicate}
use Rattle.spec_syntax.specs.declared.statement.Universe.{Universe}
use Rattle.spec_syntax.specs.Expression as expr
use Rattle.spec_syntax.specs.Expression.{Expression, Expressions, no_expressions, more_expressions}
use Rattle.spec_syntax.specs.Rules.{Rules, symbol, right_side}
use Rattle.spec_syntax.specs.Grammar.{Grammar}
use Rattle.spec_syntax.proofs.RulesLemmas.{symbol-within, some_right}
use Rattle.struct_model.specs.Structure.{Structure, size}
use Rattle.well_founded.specs.WellFounded.{may_hold_cycles, HoldsCycle, OfNone}
use Rattle.well_founded.specs.Sizes.{IsOf, IsProductive, IsLeast, no_least}
use Rattle.well_founded.specs.Least.{lesser, together, fewest, copies, least_with, least_of_some, least_of_all, size_of_name, next_sizes, IsSmall, IsSize, AreSizes}
use Rattle.well_founded.proofs.CyclesLaws.{right_allowed}
use Rattle.well_founded.proofs.LeastLaws.{IsClosed, IsAtMost, at_most, copies_more}
use Rattle.well_founded.proofs.LeastReached.{IsReached, IsSound, name_reached, is_reached}

abbrev in_universe : Rules → Universe → Grammar
in_universe rules universe = record { rules = rules; universe = universe }

-- ---- sizes of at most 1001

lesser_small : (a b : Option ℕ) → IsSmall a → IsSmall b → IsSmall (lesser a b)
lesser_small None b h k = k
lesser_small (Some x) None h k = h
lesser_small (Some x) (Some y) h k = omega arith

together_small : (a b : Option ℕ) → IsSmall (together a b)
together_small None b = tt
together_small (Some x) None = tt
together_small (Some x) (Some y) = omega arith

copies_small : (n : ℕ) (size : Option ℕ) → IsSmall (copies n size)
copies_small zero size = omega arith
copies_small (suc n) size = subst IsSmall (sym (copies_more n size)) (together_small size (copies n size))

many_small : (count size : Option ℕ) → IsSmall (option_and_then (λ n. copies n size) count)
many_small None size = tt
many_small (Some n) size = copies_small n size

module _ (sizes : List ℕ → Option ℕ) (small : (name : List ℕ) → IsSmall (sizes name)) where
  mutual
    pub least_small : (e : Expression) → IsSmall (least_with sizes e)
    least_small expr.Epsilon = omega arith
    least_small expr.Atom = omega arith
    least_small (expr.Name name) = small name
    least_small (expr.Union es) = some_small es
    least_small (expr.Prod es) = all_small es
    least_small (expr.Many kind e card) = many_small (fewest kind card) (least_with sizes e)

    pub some_small : (es : Expressions) → IsSmall (least_of_some sizes es)
    some_small no_expressions = tt
    some_small (more_expressions e es) = lesser_small (least_with sizes e) (least_of_some sizes es) (least_small e) (some_small es)

    pub all_small : (es : Expressions) → IsSmall (least_of_all sizes es)
    all_small no_expressions = omega arith
    all_small (more_expressions e es) = together_small (least_with sizes e) (least_of_all sizes es)

module _ (table : List (Option ℕ)) (small : All IsSmall table) where
  entry_small : (i : ℕ) → IsSmall (unwrap_or (slice_get table i) None)
  entry_small i = by (slice_get table i) refl
    where
      by : (found : Option (Option ℕ)) → slice_get table i ≡ found → IsSmall (unwrap_or found None)
      by None e = tt
      by (Some x) e = subst IsSmall (get_or_from_slice_get table i x None e) (small i None (slice_get_within table i x e))

  pub name_small : (rules : Rules) (name : List ℕ) → IsSmall (size_of_name rules table name)
  name_small rules name = by (symbol rules name)
    where
      by : (found : Option ℕ) → IsSmall (option_map_or (λ number. unwrap_or (slice_get table (number - 1)) None) found None)
      by None = tt
      by (Some number) = entry_small (number - 1)

  pub next_small : (rules : Rules) → All IsSmall (next_sizes rules table)
  next_small rules = All-map IsSmall (λ (rule : List ℕ × Expression). least_with (size_of_name rules table) rule.1) rules
      (λ k d within. least_small (size_of_name rules table) (name_small rules) (get_or rules k d).1)

-- ---- sizes that are no greater

-- the first is no greater than the second, where none is the greatest
abbrev pub IsBelow : Option ℕ → Option ℕ → Type 0
IsBelow a None = Unit {0}
IsBelow None (Some n) = ⊥
IsBelow (Some m) (Some n) = m ≤ n

abbrev pub AreBelow : List (Option ℕ) → List (Option ℕ) → Type 0
AreBelow [] [] = Unit {0}
AreBelow (a ∷ others) (b ∷ bs) = IsBelow a b × AreBelow others bs
AreBelow lower upper = ⊥

lesser_below : (a b c d : Option ℕ) → IsBelow a c → IsBelow b d → IsBelow (lesser a b) (lesser c d)
lesser_below a b None None h k = tt
lesser_below None b None (Some n) h k = k
lesser_below (Some x) None None (Some n) h k = absurd k
lesser_below (Some x) (Some y) None (Some n) h k = omega arith
lesser_below None b (Some m) d h k = absurd h
lesser_below (Some x) None (Some m) None h k = h
lesser_below (Some x) (Some y) (Some m) None h k = omega arith
lesser_below (Some x) None (Some m) (Some n) h k = absurd k
lesser_below (Some x) (Some y) (Some m) (Some n) h k = omega arith

together_below : (a b c d : Option ℕ) → IsBelow a c → IsBelow b d → IsBelow (together a b) (together c d)
together_below a b None d h k = tt
together_below a b (Some m) None h k = tt
together_below None b (Some m) (Some n) h k = absurd h
together_below (Some x) None (Some m) (Some n) h k = absurd k
together_below (Some x) (Some y) (Some m) (Some n) h k = omega arith

copies_below : (n : ℕ) (a b : Option ℕ) → IsBelow a b → IsBelow (copies n a) (copies n b)
copies_below zero a b h = omega arith
copies_below (suc n) a b h =
    subst (λ o. IsBelow o (copies (suc n) b)) (sym (copies_more n a))
    (subst (λ o. IsBelow (together a (copies n a)) o) (sym (copies_more n b)) (together_below a (copies n a) b (copies n b) h (copies_below n a b h)))

many_below : (count a b : Option ℕ) → IsBelow a b → IsBelow (option_and_then (λ n. copies n a) count) (option_and_then (λ n. copies n b) count)
many_below None a b h = tt
many_below (Some n) a b h = copies_below n a b h

module _ (lower upper : List ℕ → Option ℕ) (below : (name : List ℕ) → IsBelow (lower name) (upper name)) where
  mutual
    least_below : (e : Expression) → IsBelow (least_with lower e) (least_with upper e)
    least_below expr.Epsilon = omega arith
    least_below expr.Atom = omega arith
    least_below (expr.Name name) = below name
    least_below (expr.Union es) = some_below es
    least_below (expr.Prod es) = all_below es
    least_below (expr.Many kind e card) = many_below (fewest kind card) (least_with lower e) (least_with upper e) (least_below e)

    some_below : (es : Expressions) → IsBelow (least_of_some lower es) (least_of_some upper es)
    some_below no_expressions = tt
    some_below (more_expressions e es) =
        lesser_below (least_with lower e) (least_of_some lower es) (least_with upper e) (least_of_some upper es) (least_below e) (some_below es)

    all_below : (es : Expressions) → IsBelow (least_of_all lower es) (least_of_all upper es)
    all_below no_expressions = omega arith
    all_below (more_expressions e es) =
        together_below (least_with lower e) (least_of_all lower es) (least_with upper e) (least_of_all upper es) (least_below e) (all_below es)

entry_below : (lower upper : List (Option ℕ)) (i : ℕ) → AreBelow lower upper → IsBelow (unwrap_or (slice_get lower i) None) (unwrap_or (slice_get upper i) None)
entry_below [] [] i h = tt
entry_below [] (b ∷ bs) i h = absurd h
entry_below (a ∷ others) [] i h = absurd h
entry_below (a ∷ others) (b ∷ bs) zero h = h.0
entry_below (a ∷ others) (b ∷ bs) (suc i) h = entry_below others bs i h.1

name_below : (rules : Rules) (lower upper : List (Option ℕ)) → AreBelow lower upper → (name : List ℕ) → IsBelow (size_of_name rules lower name) (size_of_name rules upper name)
name_below rules lower upper h name = by (symbol rules name)
  where
    by : (found : Option ℕ) → IsBelow (option_map_or (λ number. unwrap_or (slice_get lower (number - 1)) None) found None)
        (option_map_or (λ number. unwrap_or (slice_get upper (number - 1)) None) found None)
    by None = tt
    by (Some number) = entry_below lower upper (number - 1) h

map_below : (f h : List ℕ × Expression → Option ℕ) (rules : Rules) → ((rule : List ℕ × Expression) → IsBelow (f rule) (h rule)) → AreBelow (map f rules) (map h rules)
map_below f h [] each = tt
map_below f h (rule ∷ rules) each = (each rule, map_below f h rules each)

next_below : (rules : Rules) (lower upper : List (Option ℕ)) → AreBelow lower upper → AreBelow (next_sizes rules lower) (next_sizes rules upper)
next_below rules lower upper h = map_below _ _ rules (λ rule. least_below (size_of_name rules lower) (size_of_name rules upper) (name_below rules lower upper h) rule.1)

map_below_none : (f : List ℕ × Expression → Option ℕ) (rules : Rules) → AreBelow (map f rules) (replicate (length rules) None)
map_below_none f [] = tt
map_below_none f (rule ∷ rules) = (tt, map_below_none f rules)

-- ---- the sum of a table, where none counts 1002

abbrev pub weight : Option ℕ → ℕ
weight None = 1002
weight (Some n) = n

abbrev pub weight_of_all : List (Option ℕ) → ℕ
weight_of_all [] = 0
weight_of_all (a ∷ others) = weight a + weight_of_all others

weight_falls : (a b : Option ℕ) → IsSmall a → IsBelow a b → (weight a < weight b) ⊎ (a ≡ b)
weight_falls None None small h = inr refl
weight_falls (Some m) None small h = inl (omega arith)
weight_falls None (Some n) small h = absurd h
weight_falls (Some m) (Some n) small h = elim (cases_lt m n) [ inl less ↦ inl less | inr same ↦ inr (ap Some (omega arith)) ]

-- a lower table has a smaller sum, or it is the same table
weights_fall : (lower upper : List (Option ℕ)) → All IsSmall lower → AreBelow lower upper → (weight_of_all lower < weight_of_all upper) ⊎ (lower ≡ upper)
weights_fall [] [] small h = inr refl
weights_fall [] (b ∷ bs) small h = absurd h
weights_fall (a ∷ others) [] small h = absurd h
weights_fall (a ∷ others) (b ∷ bs) small h =
    both (weight_falls a b (small 0 None (omega arith)) h.0) (weights_fall others bs (λ k d within. small (suc k) d (omega arith)) h.1)
  where
    both : (weight a < weight b) ⊎ (a ≡ b) → (weight_of_all others < weight_of_all bs) ⊎ (others ≡ bs)
        → (weight_of_all (a ∷ others) < weight_of_all (b ∷ bs)) ⊎ (a ∷ others ≡ b ∷ bs)
    both (inl p) (inl q) = inl (omega arith)
    both (inl p) (inr q) = inl (omega (arith, ap weight_of_all q))
    both (inr p) (inl q) = inl (omega (arith, ap weight p))
    both (inr p) (inr q) = inr (λ i. p i ∷ q i)

-- ---- tables that are reached in rounds

slice_get-next : (rules : Rules) (table : List (Option ℕ)) (i : ℕ) (right : Expression) → option_map (λ (rule : List ℕ × Expression). rule.1) (slice_get rules i) ≡ Some right
    → slice_get (next_sizes rules table) i ≡ Some (least_with (size_of_name rules table) right)
slice_get-next rules table i right at = slice_get-map (λ (rule : List ℕ × Expression). least_with (size_of_name rules table) rule.1) rules i ∙ by (slice_get rules i) at
  where
    by : (found : Option (List ℕ × Expression)) → option_map (λ (rule : List ℕ × Expression). rule.1) found ≡ Some right
        → option_map (λ (rule : List ℕ × Expression). least_with (size_of_name rules table) rule.1) found ≡ Some (least_with (size_of_name rules table) right)
    by None at = cc
    by (Some rule) at = let same : rule.1 ≡ right = cc in ap (λ e. Some (least_with (size_of_name rules table) e)) same

-- after a round a name has the size of its right side before it
next_of_name : (rules : Rules) (table : List (Option ℕ)) (name : List ℕ) (n : ℕ) (right : Expression) → symbol rules name ≡ Some n → right_side rules n ≡ Some right
    → size_of_name rules (next_sizes rules table) name ≡ least_with (size_of_name rules table) right
next_of_name rules table name zero right numbered sided = cc
next_of_name rules table name (suc i) right numbered sided =
    ap (λ o. option_map_or (λ number. unwrap_or (slice_get (next_sizes rules table) (number - 1)) None) o None) numbered
    ∙ ap (λ (k : ℕ). unwrap_or (slice_get (next_sizes rules table) k) None) (one_less i)
    ∙ ap (λ o. unwrap_or o None) (slice_get-next rules table i right sided)
  where
    one_less : (k : ℕ) → suc k - 1 ≡ k
    one_less k = omega arith

-- a name with a size has a rule
ruled : (rules : Rules) (table : List (Option ℕ)) (name : List ℕ) (m : ℕ) → size_of_name rules table name ≡ Some m → (n : ℕ) × (right : Expression) × (symbol rules name ≡ Some n) × (right_side rules n ≡ Some right)
ruled rules table name m h = by (symbol rules name) refl h
  where
    by : (found : Option ℕ) → symbol rules name ≡ found → option_map_or (λ number. unwrap_or (slice_get table (number - 1)) None) found None ≡ Some m
        → (n : ℕ) × (right : Expression) × (symbol rules name ≡ Some n) × (right_side rules n ≡ Some right)
    by None e h = cc
    by (Some n) e h =
        let within = symbol-within rules name n e in
        let side = some_right rules n within.0 within.1 in
        (n, side.0, e, side.1)

-- the universe allows the Cycles in the rules
abbrev Allows : Rules → Universe → Type 0
Allows rules universe = OfNone (HoldsCycle (in_universe rules universe)) rules

-- each size that the table says of a name is that of a structure of it
abbrev AreSound : Rules → List (Option ℕ) → Type 0
AreSound rules table = (universe : Universe) → Allows rules universe → IsSound (in_universe rules universe) (size_of_name rules table)

next_sound : (rules : Rules) (table : List (Option ℕ)) → AreSound rules table → AreSound rules (next_sizes rules table)
next_sound rules table sound universe allows name m h =
    let rule = ruled rules (next_sizes rules table) name m h in
    let found : least_with (size_of_name rules table) rule.1 ≡ Some m = sym (next_of_name rules table name rule.0 rule.1 rule.2 rule.3) ∙ h in
    name_reached (in_universe rules universe) name rule.0 m rule.1 rule.2 rule.3
    (is_reached (in_universe rules universe) (size_of_name rules table) (sound universe allows) rule.1 m (right_allowed (in_universe rules universe) rule.0 rule.1 allows rule.3) found)

-- a table with an entry for each rule, whose sizes are those of structures, and which a round makes no greater
pub record IsReachedTable (rules : Rules) (table : List (Option ℕ)) : Type 0 where
  pub for_each : length table ≡ length rules
  pub small : All IsSmall table
  pub sound : AreSound rules table
  pub falls : AreBelow (next_sizes rules table) table

-- a table of so many entries that knows no size
abbrev pub nothing_known : ℕ → List (Option ℕ)
nothing_known n = replicate n None

nothing_small : (n : ℕ) → All IsSmall (nothing_known n)
nothing_small zero k d within = absurd (omega arith)
nothing_small (suc n) zero d within = tt
nothing_small (suc n) (suc k) d within = nothing_small n k d (omega arith)

nothing_at : (n i : ℕ) → unwrap_or {T = Option ℕ} (slice_get (nothing_known n) i) None ≡ None
nothing_at zero i = refl
nothing_at (suc n) zero = refl
nothing_at (suc n) (suc i) = nothing_at n i

nothing_of_name : (rules : Rules) (n : ℕ) (name : List ℕ) → size_of_name rules (nothing_known n) name ≡ None
nothing_of_name rules n name = by (symbol rules name)
  where
    by : (found : Option ℕ) → option_map_or (λ number. unwrap_or (slice_get (nothing_known n) (number - 1)) None) found None ≡ None
    by None = refl
    by (Some number) = nothing_at n (number - 1)

-- the table that knows no size is one
pub first_table : (rules : Rules) → IsReachedTable rules (nothing_known (length rules))
first_table rules = record {
  for_each = length-replicate {A = Option ℕ} (length rules) None;
  small = nothing_small (length rules);
  sound = λ universe allows name m h. let never : None ≡ Some m = sym (nothing_of_name rules (length rules) name) ∙ h in cc;
  falls = map_below_none (λ (rule : List ℕ × Expression). least_with (size_of_name rules (nothing_known (length rules))) rule.1) rules;
}

-- and the one after it
pub next_table : (rules : Rules) (table : List (Option ℕ)) → IsReachedTable rules table → IsReachedTable rules (next_sizes rules table)
next_table rules table h = record {
  for_each = length-map rules (λ (rule : List ℕ × Expression). least_with (size_of_name rules table) rule.1);
  small = next_small table h.small rules;
  sound = next_sound rules table h.sound;
  falls = next_below rules (next_sizes rules table) table h.falls;
}

-- its sum falls, or it stays as it is
pub next_falls : (rules : Rules) (table : List (Option ℕ)) → IsReachedTable rules table
    → (weight_of_all (next_sizes rules table) < weight_of_all table) ⊎ (next_sizes rules table ≡ table)
next_falls rules table h = weights_fall (next_sizes rules table) table (next_small table h.small rules) h.falls

-- ---- a table that stays as it is says the least sizes

module _ (rules : Rules) (table : List (Option ℕ)) (h : IsReachedTable rules table) (stays : next_sizes rules table ≡ table) where
  closed : (universe : Universe) → IsClosed (in_universe rules universe) (size_of_name rules table)
  closed universe name n right numbered sided =
      ap (λ t. size_of_name rules t name) (sym stays) ∙ next_of_name rules table name n right numbered sided

  module _ (universe : Universe) (e : Expression) where
    found_for : (s : Structure) → IsOf (in_universe rules universe) e s → IsAtMost (least_with (size_of_name rules table) e) (size s)
    found_for s of = at_most (in_universe rules universe) (size_of_name rules table) (closed universe) s e of

    no_structure : least_with (size_of_name rules table) e ≡ None → IsProductive (in_universe rules universe) e → ⊥
    no_structure none productive = let found = found_for productive.0 productive.1 in let never : None ≡ Some found.least = sym none ∙ found.is in cc

    none_smaller : (n : ℕ) → least_with (size_of_name rules table) e ≡ Some n → (s : Structure) → IsOf (in_universe rules universe) e s → n ≤ size s
    none_smaller n is s of =
        let found = found_for s of in
        let same : Some found.least ≡ Some n = sym found.is ∙ is in
        let equal : found.least ≡ n = cc in
        omega (arith, found.within)

    is_least : (n : ℕ) → least_with (size_of_name rules table) e ≡ Some n → IsReached (in_universe rules universe) e n → IsSize (in_universe rules universe) e (Some n)
    is_least n is one = ((one.reached, one.is), by (cases_lt n no_least))
      where
        by : (n < no_least) ⊎ (no_least ≤ n) → IsLeast (in_universe rules universe) e n
        by (inl low) = inl (low, record { smallest = one.reached; is_of = one.is; has_size = omega (arith, one.has_size); least = none_smaller n is })
        by (inr high) =
            let same : n ≡ no_least = omega (arith, one.has_size) in
            inr (same, λ s of. subst (λ k. k ≤ size s) same (none_smaller n is s of))

    module _ (allows : Allows rules universe) (allowed : may_hold_cycles (in_universe rules universe) e ≡ true) where
      is_size_of : (o : Option ℕ) → least_with (size_of_name rules table) e ≡ o → IsSize (in_universe rules universe) e o
      is_size_of None is = no_structure is
      is_size_of (Some n) is = is_least n is (is_reached (in_universe rules universe) (size_of_name rules table) (h.sound universe allows) e n allowed is)

  pub are_sizes : AreSizes rules table
  are_sizes = record { for_each = h.for_each; each = λ universe e allows allowed. is_size_of universe e allows allowed (least_with (size_of_name rules table) e) refl }

-- ---- such a table is reached

from_table : (rules : Rules) (most : ℕ) (table : List (Option ℕ)) → IsReachedTable rules table → weight_of_all table < most
    → (sizes : List (Option ℕ)) × AreSizes rules sizes
from_table rules zero table h low = absurd (omega arith)
from_table rules (suc most) table h low = elim (next_falls rules table h) [
  | inl falls ↦ from_table rules most (next_sizes rules table) (next_table rules table h) (omega arith)
  | inr stays ↦ (table, are_sizes rules table h stays)
]

-- there is a table of the least sizes
pub sizes_exist : (rules : Rules) → (table : List (Option ℕ)) × AreSizes rules table
sizes_exist rules =
    let first : List (Option ℕ) = nothing_known (length rules) in
    from_table rules (suc (weight_of_all first)) first (first_table rules) (omega arith)

-- a round that is not the table before it has a smaller sum
pub changed_falls : (rules : Rules) (table : List (Option ℕ)) → IsReachedTable rules table → (next_sizes rules table ≡ table → ⊥) → weight_of_all (next_sizes rules table) < weight_of_all table
changed_falls rules table h changed = elim (next_falls rules table h) [ inl falls ↦ falls | inr stays ↦ absurd (changed stays) ]
