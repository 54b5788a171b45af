-- The structures of a rule's name are those of its right side, told by the rule's number.
use Rattle.std.proofs.Common.{◌≡◌, ◌⊎◌, ℕ, zero, suc, Bool, true, false, not, ◌&&◌, ◌||◌, List, [], map, refl, sym, ap, ◌∙◌, inl, inr, arith, true≢false, Less, Equal, Greater, Ordering, nat_cmp, nat_eq, Some, None}
use Rattle.std.specs.Option.{option_map_or}
use Rattle.std.specs.Cmp.Lexicographic.{slice_cmp}
use Rattle.std.specs.Ordering.{ordering_then}
use Rattle.std.proofs.lemmas.Bool.{and_parts, and_from, eqb-true}
use Rattle.std.proofs.lemmas.Cmp.{nat_cmp_total, tied_itself}
use Rattle.std.proofs.lemmas.Bool.Decides.{nat_tests}
use Rattle.spec_syntax.specs.Expression as expr
use Rattle.spec_syntax.specs.Expression.{Expression}
use Rattle.spec_syntax.specs.Rules.{symbol, right_side}
use Rattle.spec_syntax.specs.Grammar.{Grammar}
use Rattle.spec_syntax.proofs.RulesLemmas.{symbol-within}
use Rattle.lists.specs.Ascending.{ascending}
use Rattle.struct_model.specs.Structure.{Structure, Eps, Atom, Named, labels, key}
use Rattle.struct_model.specs.Order.{key_order, order_within}
use Rattle.struct_model.specs.Membership.{is_of, names, is_epsilon, is_atom, is_label}
use Rattle.struct_model.specs.Listing.{Before, IsOne, Lists}
use Rattle.lists.proofs.Tests.{held}
use Rattle.well_founded.proofs.LeastLaws.{names_from}
use Rattle.listing_laws.specs.Lister.{named}
use Rattle.listing_laws.proofs.Containers.{no_list}
use Rattle.lists.proofs.Enumerated as enumerated
use Rattle.listing_laws.proofs.OrderFacts.{before_by_key, before_within}

-- ---- what a rule makes of structures keeps their order

both_named : (n : ℕ) (s t : Structure) → order_within s t ≡ Less → order_within (Named n s) (Named n t) ≡ Less
both_named n s t h = ap (λ o. ordering_then o (order_within s t)) (tied_itself nat_cmp_total n) ∙ h

not_less : (x : ℕ) → nat_cmp x 0 ≡ Less → ⊥
not_less x h = grind (arith, nat_tests)

named_within : (n : ℕ) (s t : Structure) → key_order s t ≡ Equal → order_within s t ≡ Less → order_within (named n s) (named n t) ≡ Less
named_within n (Eps zero) (Eps zero) same h = cc
named_within n (Eps zero) (Atom zero l) same h = refl
named_within n (Eps zero) t same h = refl
named_within n (Eps (suc x)) (Eps zero) same h = absurd (not_less (suc x) h)
named_within n (Eps (suc x)) (Atom zero l) same h = cc
named_within n (Atom zero l) (Eps zero) same h = cc
named_within n (Atom zero l) (Atom zero m) same h = cc
named_within n (Atom zero l) t same h = refl
named_within n (Atom (suc x) l) (Eps zero) same h = cc
named_within n (Atom (suc x) l) (Atom zero m) same h = absurd (not_less (suc x) h)
named_within n s (Eps zero) same h = cc
named_within n s (Atom zero m) same h = cc
named_within n s t same h = both_named n s t h

pub labels_named : (n : ℕ) (s : Structure) → labels (named n s) ≡ labels s
labels_named n (Eps zero) = refl
labels_named n (Atom zero l) = refl
labels_named n s = refl

pub key_named : (n : ℕ) (s : Structure) → key (named n s) ≡ key s
key_named n s = ap ascending (labels_named n s)

less_cases : (first second : Ordering) → ordering_then first second ≡ Less → (first ≡ Less) ⊎ ((first ≡ Equal) × (second ≡ Less))
less_cases Less second h = inl refl
less_cases Equal second h = inr (refl, h)
less_cases Greater second h = inl h

keys_named : (n : ℕ) (s t : Structure) → key_order (named n s) (named n t) ≡ key_order s t
keys_named n s t = λ i. slice_cmp nat_cmp (key_named n s i) (key_named n t i)

pub named_before : (n : ℕ) (s t : Structure) → Before s t → Before (named n s) (named n t)
named_before n s t h = elim (less_cases (key_order s t) (order_within s t) h) [
  | inl less ↦ before_by_key (named n s) (named n t) (keys_named n s t ∙ less)
  | inr both ↦ before_within (named n s) (named n t) (keys_named n s t ∙ both.0) (named_within n s t both.0 both.1)
]

-- ---- which structures a name has

-- is it a word that no rule is told of
is_bare : Structure → Bool
is_bare (Eps zero) = true
is_bare (Atom zero l) = true
is_bare s = false

module _ (g : Grammar) where
  no_rule_0 : (name : List ℕ) (has : Expression → Bool) → names g name 0 has ≡ true → ⊥
  no_rule_0 name has h =
      let found = held (nat_eq 0) (symbol g.rules name) (and_parts _ _ h).0 in
      let within = symbol-within g.rules name found.0 found.1 in
      omega (arith, within.0, eqb-true 0 found.0 found.2)

  pub epsilon_right : (right : Expression) → is_of g right (Eps 0) ≡ true → right ≡ expr.Epsilon
  epsilon_right expr.Epsilon h = refl
  epsilon_right (expr.Name name) h = absurd (no_rule_0 name is_epsilon h)
  epsilon_right (expr.Many container e card) h = absurd (true≢false (sym h ∙ no_list g container e card (Eps 0) refl))
  epsilon_right right h = absurd (true≢false (sym h))

  pub atom_right : (right : Expression) (l : ℕ) → is_of g right (Atom 0 l) ≡ true → (right ≡ expr.Atom) × (is_label g.universe l ≡ true)
  atom_right expr.Atom l h = (refl, h)
  atom_right (expr.Name name) l h = absurd (no_rule_0 name is_atom (and_parts _ _ h).0)
  atom_right (expr.Many container e card) l h = absurd (true≢false (sym h ∙ no_list g container e card (Atom 0 l) refl))
  atom_right right l h = absurd (true≢false (sym h))

  is_right_epsilon : (right : Expression) → is_epsilon right ≡ true → right ≡ expr.Epsilon
  is_right_epsilon expr.Epsilon h = refl
  is_right_epsilon right h = absurd (true≢false (sym h))

  is_right_atom : (right : Expression) → is_atom right ≡ true → right ≡ expr.Atom
  is_right_atom expr.Atom h = refl
  is_right_atom right h = absurd (true≢false (sym h))

  pub is_no_word : Expression → Bool
  is_no_word right = not (is_epsilon right || is_atom right)

  -- what has a structure that isn't a bare word is no word
  no_word : (right : Expression) (s : Structure) → is_of g right s ≡ true → is_bare s ≡ false → is_no_word right ≡ true
  unfolding is_bare is_no_word
  no_word expr.Epsilon (Eps zero) h bare = absurd (true≢false bare)
  no_word expr.Epsilon (Eps (suc x)) h bare = absurd (omega (arith, eqb-true (suc x) 0 h))
  no_word expr.Epsilon s h bare = absurd (true≢false (sym h))
  no_word expr.Atom (Atom zero l) h bare = absurd (true≢false bare)
  no_word expr.Atom (Atom (suc x) l) h bare = absurd (omega (arith, eqb-true (suc x) 0 (and_parts _ _ h).0))
  no_word expr.Atom s h bare = absurd (true≢false (sym h))
  no_word right s h bare = refl

  -- a name without a rule has no structures
  no_names : (name : List ℕ) (n : ℕ) (has : Expression → Bool) → symbol g.rules name ≡ None → names g name n has ≡ true → ⊥
  no_names name n has none h =
      let found = held (nat_eq n) (symbol g.rules name) (and_parts _ _ h).0 in
      let both : None ≡ Some found.0 = sym none ∙ found.1 in cc

  pub no_rule_lists : (name : List ℕ) (u : List ℕ) → symbol g.rules name ≡ None → Lists g (expr.Name name) u []
  no_rule_lists name u none = enumerated.none Before (IsOne g (expr.Name name) u) (λ s p. never s p.0)
    where
      never : (s : Structure) → is_of g (expr.Name name) s ≡ true → ⊥
      never (Eps x) h = no_names name x is_epsilon none h
      never (Atom x l) h = no_names name x is_atom none (and_parts _ _ h).0
      never (Named x s) h = no_names name x _ none h
      never s h = true≢false (sym h)

  module _ (name : List ℕ) (n : ℕ) (right : Expression) (numbered : symbol g.rules name ≡ Some n) (sided : right_side g.rules n ≡ Some right) where
    -- the name has the rule's number, and its right side
    names_is : (has : Expression → Bool) → has right ≡ true → names g name n has ≡ true
    names_is has h = names_from g name n right has numbered sided h

    from_names : (m : ℕ) (has : Expression → Bool) → names g name m has ≡ true → (m ≡ n) × (has right ≡ true)
    from_names m has h =
        let both = and_parts _ _ h in
        let number : nat_eq m n ≡ true = sym (ap (λ o. option_map_or (nat_eq m) o false) numbered) ∙ both.0 in
        let same : m ≡ n = eqb-true m n number in
        (same, sym (ap (λ o. option_map_or has o false) (ap (right_side g.rules) same ∙ sided)) ∙ both.1)

    to_named : (s : Structure) → is_of g right s ≡ true → is_of g (expr.Name name) (named n s) ≡ true
    unfolding is_bare is_no_word
    to_named (Eps zero) h = names_is is_epsilon (ap is_epsilon (epsilon_right right h))
    to_named (Atom zero l) h = let atom = atom_right right l h in and_from _ _ (names_is is_atom (ap is_atom atom.0)) atom.1
    to_named s h = names_is (λ side. not (is_epsilon side || is_atom side) && is_of g side s) (and_from _ _ (no_word right s h refl) h)

    bare_epsilon : is_no_word right ≡ true → is_of g right (Eps 0) ≡ true → ⊥
    unfolding is_no_word
    bare_epsilon other h = true≢false (sym other ∙ ap (λ side. not (is_epsilon side || is_atom side)) (epsilon_right right h))

    bare_atom : (l : ℕ) → is_no_word right ≡ true → is_of g right (Atom 0 l) ≡ true → ⊥
    unfolding is_no_word
    bare_atom l other h = true≢false (sym other ∙ ap (λ side. not (is_epsilon side || is_atom side)) (atom_right right l h).0)

    -- a structure inside the rule's number is the right side's
    pub inside : (m : ℕ) (s : Structure) → is_of g (expr.Name name) (Named m s) ≡ true → (m ≡ n) × (is_no_word right ≡ true) × (is_of g right s ≡ true)
    unfolding is_no_word
    inside m s h =
        let found = from_names m (λ side. not (is_epsilon side || is_atom side) && is_of g side s) h in
        let both = and_parts _ _ found.1 in
        (found.0, both.0, both.1)

    pub from_named : (u : List ℕ) (s : Structure) → IsOne g (expr.Name name) u s → (t : Structure) × IsOne g right u t × (s ≡ named n t)
    from_named u (Eps m) p =
        let found = from_names m is_epsilon p.0 in
        (Eps 0, (ap (λ side. is_of g side (Eps 0)) (is_right_epsilon right found.1), p.1), ap Eps found.0)
    from_named u (Atom m l) p =
        let both = and_parts _ _ p.0 in
        let found = from_names m is_atom both.0 in
        (Atom 0 l, (ap (λ side. is_of g side (Atom 0 l)) (is_right_atom right found.1) ∙ both.1, p.1), ap (λ (x : ℕ). Atom x l) found.0)
    from_named u (Named m (Eps zero)) p = let found = inside m (Eps 0) p.0 in absurd (bare_epsilon found.1 found.2)
    from_named u (Named m (Atom zero l)) p = let found = inside m (Atom 0 l) p.0 in absurd (bare_atom l found.1 found.2)
    from_named u (Named m s) p = let found = inside m s p.0 in (s, (found.2, p.1), ap (λ (x : ℕ). Named x s) found.0)
    from_named u s p = absurd (true≢false (sym p.0))

    -- the listing of a rule's name is that of its right side, told by the rule's number
    pub rule_lists : (u : List ℕ) (ss : List Structure) → Lists g right u ss → Lists g (expr.Name name) u (map (named n) ss)
    rule_lists u ss h = enumerated.mapped Before (IsOne g right u) Before (IsOne g (expr.Name name) u) (named n) ss h
        (λ s t p q before. named_before n s t before) (λ s p. (to_named s p.0, key_named n s ∙ p.1)) (from_named u)
