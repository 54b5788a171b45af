-- The check of a grammar says something, and no two things.
use Rattle.std.proofs.Common.{◌≡◌, ◌⊎◌, inl, inr, ℕ, zero, suc, ◌<◌, List, [], ◌∷◌, ◌++◌, refl, sym, ap, ◌∙◌, subst, arith, Option, Some, None}
use Rattle.std.proofs.lemmas.Option.{same_Some}
use Rattle.spec_syntax.specs.Expression as expr
use Rattle.spec_syntax.specs.Expression.{Expression}
use Rattle.spec_syntax.specs.Rules.{Rules}
use Rattle.spec_syntax.specs.Grammar.{Grammar}
use Rattle.lists.specs.Enumeration.{IsIn}
use Rattle.well_founded.specs.declared.refused.Refused.{Refused}
use Rattle.well_founded.specs.declared.refused.Refused.TheVariants.{Undefined, CycleUnlabelled, Unproductive, NullElement, Endless, Memory}
use Rattle.well_founded.specs.Names.{undefined_name}
use Rattle.well_founded.specs.Sizes.{IsLeast}
use Rattle.well_founded.specs.WellFounded.{OfRule, HoldsCycle, HasNoStructure, HoldsNull, IsEndless, OfNone, IsFirst, IsEachProductive, Checks}

-- ---- the first rule

in_middle : {X : Type 0} (x : X) (before after : List X) → IsIn x (before ++ x ∷ after)
in_middle x [] after = inl refl
in_middle x (first ∷ before) after = inr (in_middle x before after)

-- the first of the rules is one of them
pub first_in : (P : OfRule) (rules : Rules) (name : List ℕ) (first : IsFirst P rules name) → IsIn (name, first.right) rules
first_in P rules name first = subst (λ (all : Rules). IsIn (name, first.right) all) (sym first.whole) (in_middle (name, first.right) first.earlier first.later)

pub first_not_none : (P : OfRule) (rules : Rules) (name : List ℕ) → IsFirst P rules name → OfNone P rules → ⊥
first_not_none P rules name first none = none name first.right (first_in P rules name first) first.holds

same_first : (P : OfRule) (one other : List ℕ) (f g : Expression) (before earlier after later : Rules) → before ++ (one, f) ∷ after ≡ earlier ++ (other, g) ∷ later
    → OfNone P before → OfNone P earlier → P one f → P other g → one ≡ other
same_first P one other f g [] [] after later same none none' holds holds' = let heads : (one, f) ≡ (other, g) = cc in ap (λ (rule : List ℕ × Expression). rule.0) heads
same_first P one other f g [] (rule ∷ earlier) after later same none none' holds holds' =
    let heads : (one, f) ≡ rule = cc in
    absurd (none' rule.0 rule.1 (inl refl) (subst (λ (r : List ℕ × Expression). P r.0 r.1) heads holds))
same_first P one other f g (rule ∷ before) [] after later same none none' holds holds' =
    let heads : rule ≡ (other, g) = cc in
    absurd (none rule.0 rule.1 (inl refl) (subst (λ (r : List ℕ × Expression). P r.0 r.1) (sym heads) holds'))
same_first P one other f g (rule ∷ before) (other_rule ∷ earlier) after later same none none' holds holds' =
    let tails : before ++ (one, f) ∷ after ≡ earlier ++ (other, g) ∷ later = cc in
    same_first P one other f g before earlier after later tails (λ name right there. none name right (inr there)) (λ name right there. none' name right (inr there)) holds holds'

-- two first rules are one
pub first_unique : (P : OfRule) (rules : Rules) (one other : List ℕ) → IsFirst P rules one → IsFirst P rules other → one ≡ other
first_unique P rules one other p q = same_first P one other p.right q.right p.earlier q.earlier p.later q.later (sym p.whole ∙ q.whole) p.none_before q.none_before p.holds q.holds

-- where it can be told of each rule, there is a first one or none
pub first_or_none : (P : OfRule) (rules : Rules) → ((name : List ℕ) (right : Expression) → IsIn (name, right) rules → P name right ⊎ (P name right → ⊥))
    → OfNone P rules ⊎ ((name : List ℕ) × IsFirst P rules name)
first_or_none P [] tell = inl (λ name right there holds. there)
first_or_none P (rule ∷ rules) tell = by (tell rule.0 rule.1 (inl refl)) (first_or_none P rules (λ name right there. tell name right (inr there)))
  where
    by : P rule.0 rule.1 ⊎ (P rule.0 rule.1 → ⊥) → OfNone P rules ⊎ ((name : List ℕ) × IsFirst P rules name) → OfNone P (rule ∷ rules) ⊎ ((name : List ℕ) × IsFirst P (rule ∷ rules) name)
    by (inl holds) rest = inr (rule.0, record { earlier = []; right = rule.1; later = rules; whole = refl; none_before = λ name right there holds. there; holds = holds })
    by (inr fails) (inl none) = inl (λ name right there holds. at name right there holds)
      where
        at : (name : List ℕ) (right : Expression) → IsIn (name, right) (rule ∷ rules) → P name right → ⊥
        at name right (inl same) holds = fails (subst (λ (r : List ℕ × Expression). P r.0 r.1) same holds)
        at name right (inr there) holds = none name right there holds
    by (inr fails) (inr (name, first)) =
        inr (
          name,
          record {
            earlier = rule ∷ first.earlier;
            right = first.right;
            later = first.later;
            whole = ap (λ (others : Rules). rule ∷ others) first.whole;
            none_before = λ other right there holds. at other right there holds;
            holds = first.holds;
          },
        )
      where
        at : (other : List ℕ) (right : Expression) → IsIn (other, right) (rule ∷ first.earlier) → P other right → ⊥
        at other right (inl same) holds = fails (subst (λ (r : List ℕ × Expression). P r.0 r.1) same holds)
        at other right (inr there) holds = first.none_before other right there holds

-- ---- one answer

-- there are no two least sizes
pub least_unique : (g : Grammar) (e : Expression) (n m : ℕ) → IsLeast g e n → IsLeast g e m → n ≡ m
least_unique g e n m (inl p) (inl q) = omega (arith, p.1.least q.1.smallest q.1.is_of, q.1.least p.1.smallest p.1.is_of, p.1.has_size, q.1.has_size)
least_unique g e n m (inl p) (inr q) = absurd (omega (arith, p.0, p.1.has_size, q.1 p.1.smallest p.1.is_of))
least_unique g e n m (inr p) (inl q) = absurd (omega (arith, q.0, q.1.has_size, p.1 q.1.smallest q.1.is_of))
least_unique g e n m (inr p) (inr q) = p.0 ∙ sym q.0

-- the place of an answer among the answers: that of none stands after those of the refusals, and want of memory is none of the check
abbrev stage : Option Refused → ℕ
stage (Some (Undefined name)) = 0
stage (Some (CycleUnlabelled name)) = 1
stage (Some (Unproductive name)) = 2
stage (Some (NullElement name)) = 3
stage (Some (Endless name n)) = 4
stage None = 5
stage (Some Memory) = 6

abbrev name_told : Option Refused → List ℕ
name_told (Some (Undefined name)) = name
name_told (Some (CycleUnlabelled name)) = name
name_told (Some (Unproductive name)) = name
name_told (Some (NullElement name)) = name
name_told (Some (Endless name n)) = name
name_told None = []
name_told (Some Memory) = []

abbrev size_told : Option Refused → ℕ
size_told (Some (Undefined name)) = 0
size_told (Some (CycleUnlabelled name)) = 0
size_told (Some (Unproductive name)) = 0
size_told (Some (NullElement name)) = 0
size_told (Some (Endless name n)) = n
size_told None = 0
size_told (Some Memory) = 0

-- the answer at a stage that tells a name and a size
abbrev answer : ℕ → List ℕ → ℕ → Option Refused
answer zero name n = Some (Undefined name)
answer (suc zero) name n = Some (CycleUnlabelled name)
answer (suc (suc zero)) name n = Some (Unproductive name)
answer (suc (suc (suc zero))) name n = Some (NullElement name)
answer (suc (suc (suc (suc zero)))) name n = Some (Endless name n)
answer (suc (suc (suc (suc (suc zero))))) name n = None
answer (suc (suc (suc (suc (suc (suc _)))))) name n = Some Memory

answer_is : (said : Option Refused) → answer (stage said) (name_told said) (size_told said) ≡ said
answer_is (Some (Undefined name)) = refl
answer_is (Some (CycleUnlabelled name)) = refl
answer_is (Some (Unproductive name)) = refl
answer_is (Some (NullElement name)) = refl
answer_is (Some (Endless name n)) = refl
answer_is None = refl
answer_is (Some Memory) = refl

module _ (g : Grammar) (start : Option (List ℕ)) where
  -- what an answer at a stage says of the name and the size that it tells
  abbrev Said : ℕ → List ℕ → ℕ → Type 0
  Said zero name n = (undefined_name g.rules start ≡ Some name) × (n ≡ 0)
  Said (suc zero) name n = IsFirst (HoldsCycle g) g.rules name × (n ≡ 0)
  Said (suc (suc zero)) name n = IsFirst (HasNoStructure g) g.rules name × (n ≡ 0)
  Said (suc (suc (suc zero))) name n = IsFirst (HoldsNull g) g.rules name × (n ≡ 0)
  Said (suc (suc (suc (suc zero)))) name n = IsFirst (IsEndless g) g.rules name × IsLeast g (expr.Name name) n
  Said (suc (suc (suc (suc (suc _))))) name n = (name ≡ []) × (n ≡ 0)

  said : (one : Option Refused) → Checks g start one → Said (stage one) (name_told one) (size_told one)
  said (Some (Undefined name)) p = (p, refl)
  said (Some (CycleUnlabelled name)) p = (p.1, refl)
  said (Some (Unproductive name)) p = (p.2, refl)
  said (Some (NullElement name)) p = (p.3, refl)
  said (Some (Endless name n)) p = (p.4, p.5)
  said None p = (refl, refl)
  said (Some Memory) p = absurd p

  -- of one stage there is one answer
  alike : (k : ℕ) (name other : List ℕ) (n m : ℕ) → Said k name n → Said k other m → (name ≡ other) × (n ≡ m)
  alike zero name other n m p q = let same : Some name ≡ Some other = sym p.0 ∙ q.0 in (same_Some name other same, p.1 ∙ sym q.1)
  alike (suc zero) name other n m p q = (first_unique (HoldsCycle g) g.rules name other p.0 q.0, p.1 ∙ sym q.1)
  alike (suc (suc zero)) name other n m p q = (first_unique (HasNoStructure g) g.rules name other p.0 q.0, p.1 ∙ sym q.1)
  alike (suc (suc (suc zero))) name other n m p q = (first_unique (HoldsNull g) g.rules name other p.0 q.0, p.1 ∙ sym q.1)
  alike (suc (suc (suc (suc zero)))) name other n m p q =
      let same = first_unique (IsEndless g) g.rules name other p.0 q.0 in
      (same, least_unique g (expr.Name other) n m (subst (λ (found : List ℕ). IsLeast g (expr.Name found) n) same p.1) q.1)
  alike (suc (suc (suc (suc (suc k))))) name other n m p q = (p.0 ∙ sym q.0, p.1 ∙ sym q.1)

  -- the fault of a stage doesn't stand, and the last stage is the last one
  abbrev Passed : ℕ → Type 0
  Passed zero = undefined_name g.rules start ≡ None
  Passed (suc zero) = OfNone (HoldsCycle g) g.rules
  Passed (suc (suc zero)) = IsEachProductive g
  Passed (suc (suc (suc zero))) = OfNone (HoldsNull g) g.rules
  Passed (suc (suc (suc (suc zero)))) = OfNone (IsEndless g) g.rules
  Passed (suc (suc (suc (suc (suc _))))) = ⊥

  -- an answer says that the faults of the stages before it don't stand
  passed : (k : ℕ) (one : Option Refused) → Checks g start one → k < stage one → Passed k
  passed k (Some (Undefined name)) p h = absurd (omega (arith, h))
  passed zero (Some (CycleUnlabelled name)) p h = p.0
  passed (suc k) (Some (CycleUnlabelled name)) p h = absurd (omega (arith, h))
  passed zero (Some (Unproductive name)) p h = p.0
  passed (suc zero) (Some (Unproductive name)) p h = p.1
  passed (suc (suc k)) (Some (Unproductive name)) p h = absurd (omega (arith, h))
  passed zero (Some (NullElement name)) p h = p.0
  passed (suc zero) (Some (NullElement name)) p h = p.1
  passed (suc (suc zero)) (Some (NullElement name)) p h = p.2
  passed (suc (suc (suc k))) (Some (NullElement name)) p h = absurd (omega (arith, h))
  passed zero (Some (Endless name n)) p h = p.0
  passed (suc zero) (Some (Endless name n)) p h = p.1
  passed (suc (suc zero)) (Some (Endless name n)) p h = p.2
  passed (suc (suc (suc zero))) (Some (Endless name n)) p h = p.3
  passed (suc (suc (suc (suc k)))) (Some (Endless name n)) p h = absurd (omega (arith, h))
  passed zero None p h = p.1
  passed (suc zero) None p h = p.0.no_cycles
  passed (suc (suc zero)) None p h = p.0.productive
  passed (suc (suc (suc zero))) None p h = p.0.no_null_elements
  passed (suc (suc (suc (suc zero)))) None p h = p.0.finite
  passed (suc (suc (suc (suc (suc k))))) None p h = absurd (omega (arith, h))
  passed k (Some Memory) p h = absurd p

  -- and that of its own does
  not_passed : (k : ℕ) (name : List ℕ) (n : ℕ) → Said k name n → Passed k → ⊥
  not_passed zero name n p q = let wrong : None ≡ Some name = sym q ∙ p.0 in cc
  not_passed (suc zero) name n p q = first_not_none (HoldsCycle g) g.rules name p.0 q
  not_passed (suc (suc zero)) name n p q = p.0.holds (q name p.0.right (first_in (HasNoStructure g) g.rules name p.0))
  not_passed (suc (suc (suc zero))) name n p q = first_not_none (HoldsNull g) g.rules name p.0 q
  not_passed (suc (suc (suc (suc zero)))) name n p q = first_not_none (IsEndless g) g.rules name p.0 q
  not_passed (suc (suc (suc (suc (suc k))))) name n p q = q

  not_later : (one other : Option Refused) → Checks g start one → Checks g start other → stage one < stage other → ⊥
  not_later one other p q h = not_passed (stage one) (name_told one) (size_told one) (said one p) (passed (stage one) other q h)

  split : (n m : ℕ) → (n < m) ⊎ (m < n) ⊎ (n ≡ m)
  split n m = grind (arith)

  pub one_check : (one other : Option Refused) → Checks g start one → Checks g start other → one ≡ other
  one_check one other p q = elim (split (stage one) (stage other)) [
    | inl h ↦ absurd (not_later one other p q h)
    | inr (inl h) ↦ absurd (not_later other one q p h)
    | inr (inr same) ↦
        let told = alike (stage other) (name_told one) (name_told other) (size_told one) (size_told other)
        (subst (λ (k : ℕ). Said k (name_told one) (size_told one)) same (said one p)) (said other q) in
        sym (answer_is one) ∙ (λ i. answer (same i) (told.0 i) (told.1 i)) ∙ answer_is other
  ]
