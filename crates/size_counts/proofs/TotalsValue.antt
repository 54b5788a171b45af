-- Whether components may have so many atoms, as it is computed.
use Rattle.std.proofs.Common.{◌≡◌, ◌⊎◌, ℕ, zero, suc, ◌+◌, ◌-◌, ◌*◌, ◌≤◌, ◌<◌, max, nat_eq, nat_le, nat_lt, Bool, true, false, ◌&&◌, ◌||◌, List, Option, Some, None, true≢false, refl, sym, ap, ◌∙◌, subst, inl, inr, arith}
use Rattle.std.specs.List.{list_any, range_with_len}
use Rattle.std.proofs.lemmas.Bool.{and_parts, and_from, cases_lt, leb-true, false_from_ne_true}
use Rattle.std.proofs.lemmas.Bool.Decides.{nat_tests}
use Rattle.spec_syntax.specs.declared.expr.Card.{Card}
use Rattle.spec_syntax.specs.Card.{is_within, admits}
use Rattle.size_counts.specs.Totals.{can_stand, can_share, may_fill, MayStand, SharesBy, Shares}
use Rattle.size_counts.proofs.TotalsTable.{size_within, shares_atoms}

-- ---- tests

or_right : (a b : Bool) → b ≡ true → (a || b) ≡ true
or_right true b is = refl
or_right false b is = is

or_parts : (a b : Bool) → (a || b) ≡ true → (a ≡ true) ⊎ (b ≡ true)
or_parts true b is = inl refl
or_parts false b is = inr is

pub any_in_range : (test : ℕ → Bool) (first m k : ℕ) → first ≤ k → k < first + m → test k ≡ true → list_any test (range_with_len first m) ≡ true
any_in_range test first zero k low high is = absurd (omega arith)
any_in_range test first (suc m) k low high is = elim (cases_lt first k) [
  | inl later ↦ or_right (test first) (list_any test (range_with_len (first + 1) m)) (any_in_range test (first + 1) m k (omega (arith, later)) (omega (arith, high)) is)
  | inr le ↦ first_is k (omega (arith, low, le)) is
]
  where
    first_is : (k : ℕ) → k ≡ first → test k ≡ true → list_any test (range_with_len first (suc m)) ≡ true
    first_is k same is = ap (λ (b : Bool). b || list_any test (range_with_len (first + 1) m)) (ap test (sym same) ∙ is)

pub found_in_range : (test : ℕ → Bool) (first m : ℕ) → list_any test (range_with_len first m) ≡ true → (k : ℕ) × (first ≤ k) × (k < first + m) × (test k ≡ true)
found_in_range test first zero is = absurd (let e : false ≡ true = is in cc)
found_in_range test first (suc m) is = elim (or_parts (test first) (list_any test (range_with_len (first + 1) m)) is) [
  | inl here ↦ (first, omega arith, omega arith, here)
  | inr later ↦ further (found_in_range test (first + 1) m later)
]
  where
    further : (k : ℕ) × (first + 1 ≤ k) × (k < first + 1 + m) × (test k ≡ true) → (k : ℕ) × (first ≤ k) × (k < first + suc m) × (test k ≡ true)
    further found = (found.0, omega (arith, found.1), omega (arith, found.2), found.3)

stand_from : (strict : Bool) (number times : ℕ) → 1 ≤ times → can_stand strict number times ≡ true → MayStand strict number times
stand_from true number times some is = leb-true times number is
stand_from false number zero some is = absurd (omega arith)
stand_from false number (suc times) some is = above number is
  where
    above : (number : ℕ) → (nat_eq (suc times) 0 || nat_lt 0 number) ≡ true → 0 < number
    above number is = grind (arith, nat_tests)

stand_is : (strict : Bool) (number times : ℕ) → MayStand strict number times → can_stand strict number times ≡ true
stand_is true number times may = grind (arith, nat_tests)
stand_is false number times may = or_right (nat_eq times 0) (nat_lt 0 number) (above number may)
  where
    above : (number : ℕ) → 0 < number → nat_lt 0 number ≡ true
    above number some = grind (arith, nat_tests)

none_stand : (strict : Bool) (number : ℕ) → can_stand strict number 0 ≡ true
none_stand true number = grind (arith, nat_tests)
none_stand false number = refl

le_is : (a b : ℕ) → a ≤ b → nat_le a b ≡ true
le_is a b le = grind (arith, nat_tests)

eq_zero : (n : ℕ) → nat_eq n 0 ≡ true → n ≡ 0
eq_zero n is = grind (arith, nat_tests)

-- ---- components

module _ (numbers : ℕ → ℕ) (strict : Bool) where
  abbrev may : ℕ → ℕ → Type 0
  may size times = MayStand strict (numbers size) times

  abbrev begin_test : ℕ → List ℕ → ℕ → ℕ → ℕ → Bool
  begin_test size sizes c n times = can_stand strict (numbers size) times && (nat_le (times * size) n && can_share numbers strict sizes (c - times) (n - times * size))

  -- a lower least size
  lower : (sizes least lesser c n : ℕ) → lesser ≤ least → SharesBy may sizes least c n → SharesBy may sizes lesser c n
  lower zero least lesser c n le none = none
  lower (suc sizes) least lesser c n le b = record {
    size = b.size;
    times = b.times;
    low = omega (arith, b.low);
    some = b.some;
    may_stand = b.may_stand;
    components = b.components;
    atoms = b.atoms;
    others = b.others;
  }

  pub shares_from : (m least c n : ℕ) → can_share numbers strict (range_with_len least m) c n ≡ true → Shares may least c n
  shares_from zero least c n is = let both = and_parts (nat_eq c 0) (nat_eq n 0) is in (0, (eq_zero c both.0, eq_zero n both.1))
  shares_from (suc m) least c n is =
      let found = found_in_range (begin_test least (range_with_len (least + 1) m) c n) 0 (c + 1) is in
      let one = and_parts (can_stand strict (numbers least) found.0) (nat_le (found.0 * least) n && can_share numbers strict (range_with_len (least + 1) m) (c - found.0) (n - found.0 * least)) found.3 in
      let two = and_parts (nat_le (found.0 * least) n) (can_share numbers strict (range_with_len (least + 1) m) (c - found.0) (n - found.0 * least)) one.1 in
      with found.0 (omega (arith, found.2)) one.0 (leb-true (found.0 * least) n two.0) (shares_from m (least + 1) (c - found.0) (n - found.0 * least) two.1)
    where
      with : (times : ℕ) → times ≤ c → can_stand strict (numbers least) times ≡ true → times * least ≤ n → Shares may (least + 1) (c - times) (n - times * least) → Shares may least c n
      with zero le stand atoms others =
          let all : Shares may (least + 1) c n = subst (λ (k : ℕ). Shares may (least + 1) k n) (all_components c) (subst (λ (k : ℕ). Shares may (least + 1) (c - 0) k) (all_atoms n least) others) in
          (all.0, lower all.0 (least + 1) least c n (omega arith) all.1)
        where
          all_components : (c : ℕ) → c - 0 ≡ c
          all_components c = omega arith

          all_atoms : (n least : ℕ) → n - 0 * least ≡ n
          all_atoms n least = omega arith
      with (suc times) le stand atoms others = (
        suc others.0,
        record {
          size = least;
          times = suc times;
          low = omega arith;
          some = omega arith;
          may_stand = stand_from strict (numbers least) (suc times) (omega arith) stand;
          components = le;
          atoms = atoms;
          others = subst (λ (k : ℕ). SharesBy may others.0 k (c - suc times) (n - suc times * least)) (next least) others.1;
        },
      )
        where
          next : (least : ℕ) → least + 1 ≡ suc least
          next least = omega arith

  -- the same with a greater least size and one size fewer
  abbrev Further : ℕ → ℕ → Type 0
  Further least m = (sizes c n : ℕ) → 1 ≤ least + 1 → n < least + 1 + m → SharesBy may sizes (least + 1) c n → can_share numbers strict (range_with_len (least + 1) m) c n ≡ true

  pub shares_is : (m sizes least c n : ℕ) → 1 ≤ least → n < least + m → SharesBy may sizes least c n → can_share numbers strict (range_with_len least m) c n ≡ true
  shares_is zero zero least c n low enough none = and_from (nat_eq c 0) (nat_eq n 0) (ap (λ (k : ℕ). nat_eq k 0) none.0) (ap (λ (k : ℕ). nat_eq k 0) none.1)
  shares_is zero (suc sizes) least c n low enough b = absurd (omega (arith, size_within b.times b.size b.some, b.low, b.atoms))
  shares_is (suc m) sizes least c n low enough shares = by (λ fewer k i low enough shares. shares_is m fewer (least + 1) k i low enough shares) sizes shares
    where
      all_components : (c : ℕ) → c ≡ c - 0
      all_components c = omega arith

      all_atoms : (n least : ℕ) → n ≡ n - 0 * least
      all_atoms n least = omega arith

      begin : (times : ℕ) → times ≤ c → can_stand strict (numbers least) times ≡ true → times * least ≤ n → can_share numbers strict (range_with_len (least + 1) m) (c - times) (n - times * least) ≡ true
          → can_share numbers strict (range_with_len least (suc m)) c n ≡ true
      begin times le stand atoms others =
          any_in_range (begin_test least (range_with_len (least + 1) m) c n) 0 (c + 1) times (omega arith) (omega arith)
          (and_from (can_stand strict (numbers least) times) _ stand (and_from (nat_le (times * least) n) _ (le_is (times * least) n atoms) others))

      -- none of the least size
      later : Further least m → (sizes : ℕ) → SharesBy may sizes (least + 1) c n → can_share numbers strict (range_with_len least (suc m)) c n ≡ true
      later further sizes shares =
          begin 0 (omega arith) (none_stand strict (numbers least)) (omega arith)
          (subst (λ (k : ℕ). can_share numbers strict (range_with_len (least + 1) m) k (n - 0 * least) ≡ true) (all_components c)
          (subst (λ (k : ℕ). can_share numbers strict (range_with_len (least + 1) m) c k ≡ true) (all_atoms n least)
          (further sizes c n (omega arith) (omega arith) shares)))

      by : Further least m → (sizes : ℕ) → SharesBy may sizes least c n → can_share numbers strict (range_with_len least (suc m)) c n ≡ true
      by further zero none = later further zero none
      by further (suc sizes) b = elim (cases_lt least b.size) [
        | inl greater ↦ later further (suc sizes) (record {
          size = b.size;
          times = b.times;
          low = omega (arith, greater);
          some = b.some;
          may_stand = b.may_stand;
          components = b.components;
          atoms = b.atoms;
          others = b.others;
        })
        | inr le ↦ here b.size (omega (arith, b.low, le)) b.times b.components b.may_stand b.atoms b.others
      ]
        where
          here : (size : ℕ) → size ≡ least → (times : ℕ) → times ≤ c → MayStand strict (numbers size) times → times * size ≤ n → SharesBy may sizes (suc size) (c - times) (n - times * size)
              → can_share numbers strict (range_with_len least (suc m)) c n ≡ true
          here size same times le stand atoms others =
              begin times le (stand_is strict (numbers least) times (subst (λ (k : ℕ). MayStand strict (numbers k) times) same stand)) (subst (λ (k : ℕ). times * k ≤ n) same atoms)
              (further sizes (c - times) (n - times * least) (omega arith) (omega arith)
              (subst (λ (k : ℕ). SharesBy may sizes k (c - times) (n - times * least)) (next least) (subst (λ (k : ℕ). SharesBy may sizes (suc k) (c - times) (n - times * k)) same others)))
            where
              next : (least : ℕ) → suc least ≡ least + 1
              next least = omega arith

  -- as many components as the bound admits
  pub may_fill_from : (card : Card) (least n : ℕ) → may_fill numbers strict card least n ≡ true → (c : ℕ) × (admits card c ≡ true) × Shares may (max least 1) c n
  may_fill_from card least n is =
      let found = found_in_range (λ (c : ℕ). admits card c && can_share numbers strict (range_with_len (max least 1) (n + 1 - max least 1)) c n) 0 (n + 1) is in
      let both = and_parts (admits card found.0) (can_share numbers strict (range_with_len (max least 1) (n + 1 - max least 1)) found.0 n) found.3 in
      (found.0, both.0, shares_from (n + 1 - max least 1) (max least 1) found.0 n both.1)

  pub may_fill_is : (card : Card) (least n c : ℕ) → admits card c ≡ true → c ≤ n → Shares may (max least 1) c n → may_fill numbers strict card least n ≡ true
  may_fill_is card least n c admitted within shares =
      any_in_range (λ (c : ℕ). admits card c && can_share numbers strict (range_with_len (max least 1) (n + 1 - max least 1)) c n) 0 (n + 1) c (omega arith) (omega arith)
      (and_from (admits card c) _ admitted (shares_is (n + 1 - max least 1) shares.0 (max least 1) c n (omega arith) (omega arith) shares.1))

  -- no atoms are no components
  pub no_atoms_fill : (card : Card) (least : ℕ) → nat_eq card.low 0 ≡ may_fill numbers strict card least 0
  no_atoms_fill card least = by (nat_eq card.low 0) refl
    where
      one : (least : ℕ) → 1 ≤ max least 1
      one least = omega arith

      within_none : (high : Option ℕ) → is_within high 0 ≡ true
      within_none None = refl
      within_none (Some high) = le_is 0 high (omega arith)

      too_few : (c k : ℕ) → 1 ≤ k → c * k ≤ 0 → c ≡ 0
      too_few zero k low atoms = refl
      too_few (suc c) k low atoms = absurd (omega (arith, low, atoms))

      lowest : (c : ℕ) → c ≡ 0 → admits card c ≡ true → nat_eq card.low 0 ≡ true
      lowest c same admitted = zero_low card.low (omega (arith, leb-true card.low c (and_parts (nat_le card.low c) (is_within card.high c) admitted).0, same))
        where
          zero_low : (low : ℕ) → low ≡ 0 → nat_eq low 0 ≡ true
          zero_low low same = grind (arith, nat_tests)

      by : (b : Bool) → nat_eq card.low 0 ≡ b → b ≡ may_fill numbers strict card least 0
      by true is =
          sym (may_fill_is card least 0 0 (and_from (nat_le card.low 0) (is_within card.high 0) (le_is card.low 0 (omega (arith, eq_zero card.low is))) (within_none card.high)) (omega arith) (0, (refl, refl)))
      by false is = sym (false_from_ne_true (may_fill numbers strict card least 0) (λ may.
          let found = may_fill_from card least 0 may in
          true≢false (sym (lowest found.0 (too_few found.0 (max least 1) (one least) (shares_atoms _ found.2.0 (max least 1) found.0 0 found.2.1)) found.1) ∙ is)))
