-- The structures of a Union are those of its arguments.
use Rattle.std.proofs.Common.{◌≡◌, ◌⊎◌, ℕ, zero, suc, ◌+◌, ◌<◌, ◌≤◌, Bool, true, false, List, [], ◌∷◌, map, refl, sym, ap, ◌∙◌, subst, inl, inr, arith, true≢false}
use Rattle.std.specs.Option.{option_map_or}
use Rattle.std.specs.Ordering.{ordering_then}
use Rattle.std.proofs.lemmas.Cmp.{nat_cmp_total, tied_itself}
use Rattle.std.proofs.lemmas.Bool.Decides.{nat_tests}
use Rattle.spec_syntax.specs.Expression as expr
use Rattle.spec_syntax.specs.Expression.{Expressions, no_expressions, more_expressions}
use Rattle.spec_syntax.specs.Grammar.{Grammar}
use Rattle.struct_model.specs.Structure.{Structure, Alt, key}
use Rattle.struct_model.specs.Order.{key_order, order_within}
use Rattle.struct_model.specs.Membership.{is_of, argument}
use Rattle.lists.specs.Enumeration.{Enumerated}
use Rattle.struct_model.specs.Listing.{Before, IsOne, Lists}
use Rattle.listing_laws.specs.Lister.{alternatives}
use Rattle.listing_laws.specs.Laws.{ListsEach}
use Rattle.lists.proofs.Enumerated as enumerated
use Rattle.listing_laws.proofs.OrderFacts.{same_key, before_within}

module _ (g : Grammar) (u : List ℕ) where
  -- a structure of one of the arguments, which are numbered from k
  abbrev pub IsArgument : ℕ → Expressions → Structure → Type 0
  IsArgument k no_expressions s = ⊥
  IsArgument k (more_expressions e es) s = ((t : Structure) × IsOne g e u t × (s ≡ Alt k t)) ⊎ IsArgument (k + 1) es s

  alt_order : (k : ℕ) (s t : Structure) → Before s t → Before (Alt k s) (Alt k t)
  alt_order k s t h = ap (λ o. ordering_then (key_order s t) (ordering_then o (order_within s t))) (tied_itself nat_cmp_total k) ∙ h

  lesser_alt : (j k : ℕ) (s t : Structure) → key s ≡ u → key t ≡ u → j < k → Before (Alt j s) (Alt k t)
  lesser_alt j k s t p q h = before_within (Alt j s) (Alt k t) (same_key s t u p q) (grind (arith, nat_tests))

  -- the argument's number is at least k
  numbered : (k : ℕ) (es : Expressions) (s : Structure) → IsArgument k es s → (j : ℕ) × (t : Structure) × (k ≤ j) × (key t ≡ u) × (s ≡ Alt j t)
  numbered k no_expressions s h = absurd h
  numbered k (more_expressions e es) s (inl here) = (k, here.0, omega arith, here.1.1, here.2)
  numbered k (more_expressions e es) s (inr later) =
      let found : (j : ℕ) × (t : Structure) × (k + 1 ≤ j) × (key t ≡ u) × (s ≡ Alt j t) = numbered (k + 1) es s later in
      (found.0, found.1, omega (arith, found.2), found.3, found.4)

  pub alternatives_are : (k : ℕ) (es : Expressions) (sss : List (List Structure)) → ListsEach g es u sss → Enumerated Before (IsArgument k es) (alternatives k sss)
  alternatives_are k no_expressions [] h = enumerated.none Before (IsArgument k no_expressions) (λ s p. p)
  alternatives_are k no_expressions (ss ∷ sss) h = absurd h
  alternatives_are k (more_expressions e es) [] h = absurd h
  alternatives_are k (more_expressions e es) (ss ∷ sss) h =
      let This : Structure → Type 0 = λ s. (t : Structure) × IsOne g e u t × (s ≡ Alt k t) in
      enumerated.append Before This (IsArgument (k + 1) es) (IsArgument k (more_expressions e es)) (map (Alt k) ss) (alternatives (k + 1) sss)
      (enumerated.mapped Before (IsOne g e u) Before This (Alt k) ss h.0 (λ s t p q before. alt_order k s t before) (λ t p. (t, p, refl)) (λ s p. p))
      (alternatives_are (k + 1) es sss h.1)
      (λ s this t later.
      let found = numbered (k + 1) es t later in
      let first : Before (Alt k this.0) (Alt found.0 found.1) = lesser_alt k found.0 this.0 found.1 this.1.1 found.3 (omega (arith, found.2)) in
      subst (λ v. Before v t) (sym this.2) (subst (λ v. Before (Alt k this.0) v) (sym found.4) first))
      (λ s p. inl p) (λ s p. inr p) (λ s p. p)

  is_argument : Expressions → ℕ → Structure → Bool
  is_argument es m t = option_map_or (λ e. is_of g e t) (argument es m) false

  argument_is : (k j : ℕ) (es : Expressions) (t : Structure) → is_argument es (suc j) t ≡ true → key t ≡ u → IsArgument k es (Alt (k + j) t)
  unfolding is_argument
  argument_is k j no_expressions t h same = absurd (true≢false (sym h))
  argument_is k zero (more_expressions e es) t h same = inl (t, (h, same), ap (λ (m : ℕ). Alt m t) (omega arith))
  argument_is k (suc j) (more_expressions e es) t h same =
      inr (subst (λ (m : ℕ). IsArgument (k + 1) es (Alt m t)) (omega arith) (argument_is (k + 1) j es t h same))

  no_argument_0 : (es : Expressions) (t : Structure) → is_argument es 0 t ≡ false
  unfolding is_argument
  no_argument_0 no_expressions t = refl
  no_argument_0 (more_expressions e es) t = refl

  pub from_union : (es : Expressions) (s : Structure) → IsOne g (expr.Union es) u s → IsArgument 1 es s
  unfolding is_argument
  from_union es (Alt zero t) p = absurd (true≢false (sym p.0 ∙ no_argument_0 es t))
  from_union es (Alt (suc j) t) p = subst (λ (m : ℕ). IsArgument 1 es (Alt m t)) (omega arith) (argument_is 1 j es t p.0 p.1)
  from_union es s p = absurd (true≢false (sym p.0))

  to_argument : (k : ℕ) (es : Expressions) (s : Structure) → IsArgument k es s
      → (j : ℕ) × (t : Structure) × (is_argument es (suc j) t ≡ true) × (key t ≡ u) × (s ≡ Alt (k + j) t)
  unfolding is_argument
  to_argument k no_expressions s h = absurd h
  to_argument k (more_expressions e es) s (inl this) = (0, this.0, this.1.0, this.1.1, this.2 ∙ ap (λ (m : ℕ). Alt m this.0) (omega arith))
  to_argument k (more_expressions e es) s (inr later) =
      let found : (j : ℕ) × (t : Structure) × (is_argument es (suc j) t ≡ true) × (key t ≡ u) × (s ≡ Alt (k + 1 + j) t) = to_argument (k + 1) es s later in
      (suc found.0, found.1, found.2, found.3, found.4 ∙ ap (λ (m : ℕ). Alt m found.1) (omega arith))

  pub to_union : (es : Expressions) (s : Structure) → IsArgument 1 es s → IsOne g (expr.Union es) u s
  unfolding is_argument
  to_union es s h =
      let found : (j : ℕ) × (t : Structure) × (is_argument es (suc j) t ≡ true) × (key t ≡ u) × (s ≡ Alt (1 + j) t) = to_argument 1 es s h in
      let same : s ≡ Alt (suc found.0) found.1 = found.4 ∙ ap (λ (m : ℕ). Alt m found.1) (omega arith) in
      subst (IsOne g (expr.Union es) u) (sym same) (found.2, found.3)

  -- the structures of the arguments in turn are those of the Union
  pub union_is : (es : Expressions) (sss : List (List Structure)) → ListsEach g es u sss → Lists g (expr.Union es) u (alternatives 1 sss)
  union_is es sss h = enumerated.same_property Before (IsArgument 1 es) (IsOne g (expr.Union es) u) (alternatives 1 sss) (alternatives_are 1 es sss h) (to_union es) (from_union es)
