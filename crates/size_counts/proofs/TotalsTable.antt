-- The greatest least sizes of components, by those with fewer atoms.
use Rattle.std.proofs.Common.{◌≡◌, ◌⊎◌, ℕ, zero, suc, ◌+◌, ◌-◌, ◌*◌, ◌/◌, ◌^◌, ◌≤◌, ◌<◌, min, List, [], ◌∷◌, ◌++◌, length, Option, Some, slice_get, unwrap_or, get_or, refl, sym, ap, ◌∙◌, subst, inl, inr, arith}
use Rattle.std.proofs.Math.Nat.{mul-le-mul_left}
use Rattle.std.proofs.lemmas.Bool.{cases_lt}
use Rattle.std.proofs.lemmas.List.{length_push}
use Rattle.std.proofs.lemmas.Option.{slice_get_past}
use Rattle.lists.proofs.Places.{get_left, get_right}
use Rattle.lists.proofs.Positions.{slice_some}
use Rattle.size_counts.specs.Tables.{cell}
use Rattle.size_counts.specs.Totals.{Begins, SharesBy, Shares, WithinLimit, IsGreatestLeast, AreTotals, IsRow, CanBegin}

-- ---- numbers

pub times_within : (times c d n : ℕ) → times ≤ c → d * c ≤ n → times * d ≤ n
times_within times c d n le within = omega (arith, mul-le-mul_left d le)

pub size_within : (times d : ℕ) → 1 ≤ times → d ≤ times * d
size_within zero d some = absurd (omega arith)
size_within (suc times) d some = omega arith

-- a quotient is the greatest number whose multiple is within
pub quotient_within : (n c d : ℕ) → 1 ≤ c → d ≤ n / c → d * c ≤ n
quotient_within n c d low le = omega (arith, mul-le-mul_left c le)

pub over_quotient : (n c d : ℕ) → 1 ≤ c → n / c < d → d * c ≤ n → ⊥
over_quotient n c d low less within = omega (arith, more c (suc (n / c)) d less)
  where
    more : (c k d : ℕ) → k ≤ d → c * k ≤ c * d
    more c k d le = mul-le-mul_left c le

-- ---- components

module _ (may : ℕ → ℕ → Type 0) where
  -- c components with at least so many atoms each
  pub shares_atoms : (sizes least c n : ℕ) → SharesBy may sizes least c n → c * least ≤ n
  shares_atoms zero least c n none = subst (λ (k : ℕ). k * least ≤ n) (sym none.0) (omega arith)
  shares_atoms (suc sizes) least c n b =
      all (c - b.times) c b.times b.size least n (omega (arith, b.components)) b.low b.atoms (shares_atoms sizes (suc b.size) (c - b.times) (n - b.times * b.size) b.others)
    where
      all : (k c times size least n : ℕ) → c ≡ times + k → least ≤ size → times * size ≤ n → k * suc size ≤ n - times * size → c * least ≤ n
      all k c times size least n is low atoms others = omega (arith, mul-le-mul_left c low, ap (λ (j : ℕ). j * size) is)

  -- with a component at least those components have as many atoms as their number times the least size
  pub begins_atoms : (sizes least c n : ℕ) (b : Begins may (SharesBy may sizes) least c n) → b.size * c ≤ n
  begins_atoms sizes least c n b =
      all (c - b.times) c b.times b.size n (omega (arith, b.components)) b.atoms (shares_atoms sizes (suc b.size) (c - b.times) (n - b.times * b.size) b.others)
    where
      all : (k c times size n : ℕ) → c ≡ times + k → times * size ≤ n → k * suc size ≤ n - times * size → size * c ≤ n
      all k c times size n is atoms others = omega (arith, ap (λ (j : ℕ). size * j) is)

  -- no components
  pub none_greatest : (n value : ℕ) → (n ≡ 0 → value ≡ 2 ^ 32 - 1) → (0 < n → value ≡ 0) → IsGreatestLeast may 0 n value
  none_greatest zero value all none = record {
    sound = λ least low le. (0, (refl, refl));
    complete = λ least low small shares. omega (arith, all refl);
  }
  none_greatest (suc n) value all none = record {
    sound = λ least low le. absurd (omega (arith, none (omega arith)));
    complete = λ least low small shares. absurd (never shares.0 least shares.1);
  }
    where
      never : (sizes least : ℕ) → SharesBy may sizes least 0 (suc n) → ⊥
      never zero least none = omega (arith, none.1)
      never (suc sizes) least b = omega (arith, b.some, b.components)

  -- more components than atoms
  pub too_many : (c n : ℕ) → n < c → IsGreatestLeast may c n 0
  too_many c n more = record {
    sound = λ least low le. absurd (omega arith);
    complete = λ least low small shares. absurd (never least low (shares_atoms shares.0 least c n shares.1));
  }
    where
      never : (least : ℕ) → 1 ≤ least → c * least ≤ n → ⊥
      never least low all = omega (arith, mul-le-mul_left c low)

-- the same components where others may stand
pub shares_changed : (may also : ℕ → ℕ → Type 0) (most : ℕ) → ((d times : ℕ) → 1 ≤ d → d ≤ most → 1 ≤ times → times ≤ most → may d times → also d times)
    → (sizes least c n : ℕ) → 1 ≤ least → n ≤ most → SharesBy may sizes least c n → SharesBy also sizes least c n
shares_changed may also most each zero least c n low within none = none
shares_changed may also most each (suc sizes) least c n low within b =
    let all = begins_atoms may sizes least c n b in
    let one : 1 ≤ b.size = omega (arith, b.low) in
    record {
      size = b.size;
      times = b.times;
      low = b.low;
      some = b.some;
      may_stand = each b.size b.times one (omega (arith, size_within b.times b.size b.some, b.atoms)) b.some (few b.times b.size n one within b.atoms) b.may_stand;
      components = b.components;
      atoms = b.atoms;
      others = shares_changed may also most each sizes (suc b.size) (c - b.times) (n - b.times * b.size) (omega arith) (omega arith) b.others;
    }
  where
    few : (times size n : ℕ) → 1 ≤ size → n ≤ most → times * size ≤ n → times ≤ most
    few times size n one le atoms = omega (arith, mul-le-mul_left times one)

-- ---- the greatest least size of c components with n atoms

module _ (limits : List ℕ) (most : ℕ) (rows : List (List ℕ)) (totals : AreTotals limits most rows) (n : ℕ) (small : n ≤ 1000) (filled : length rows ≡ n) (c : ℕ) (low : 1 ≤ c) (high : c ≤ most) where
  begin_is : (value least : ℕ) → 1 ≤ least → least ≤ value → value * c ≤ n → CanBegin rows (get_or limits value 0) value c n → Shares (WithinLimit limits) least c n
  begin_is value least one le within b =
      let atoms = times_within b.times c value n b.components within in
      let size = size_within b.times value b.some in
      let shares = (totals.each (n - b.times * value) (c - b.times) (omega arith) (omega (arith, b.components))).sound (suc value) (omega arith) b.others in (
        suc shares.0,
        record {
          size = value;
          times = b.times;
          low = le;
          some = b.some;
          may_stand = b.within;
          components = b.components;
          atoms = atoms;
          others = shares.1;
        },
      )

  begins_there : (sizes least : ℕ) → 1 ≤ least → (b : Begins (WithinLimit limits) (SharesBy (WithinLimit limits) sizes) least c n) → CanBegin rows (get_or limits b.size 0) b.size c n
  begins_there sizes least one b =
      let size = size_within b.times b.size b.some in
      let tell = totals.each (n - b.times * b.size) (c - b.times) (omega (arith, size, b.low, b.atoms)) (omega (arith, b.components)) in
      record {
        times = b.times;
        some = b.some;
        within = b.may_stand;
        components = b.components;
        others = tell.complete (suc b.size) (omega arith) (omega (arith, size, b.atoms)) (sizes, b.others);
      }

  pub greatest_is : (value : ℕ) → (0 < value → (value * c ≤ n) × CanBegin rows (get_or limits value 0) value c n)
      → ((d : ℕ) → value < d → d * c ≤ n → CanBegin rows (get_or limits d 0) d c n → ⊥) → IsGreatestLeast (WithinLimit limits) c n value
  greatest_is value found none = record {
    sound = λ least one le. let there = found (omega arith) in begin_is value least one le there.0 there.1;
    complete = λ least one few shares. complete least one shares.0 shares.1;
  }
    where
      complete : (least : ℕ) → 1 ≤ least → (sizes : ℕ) → SharesBy (WithinLimit limits) sizes least c n → least ≤ value
      complete least one zero nothing = absurd (omega (arith, nothing.0))
      complete least one (suc sizes) b = by (cases_lt value b.size)
        where
          by : (value < b.size) ⊎ (b.size ≤ value) → least ≤ value
          by (inl greater) = absurd (none b.size greater (begins_atoms (WithinLimit limits) sizes least c n b) (begins_there sizes least one b))
          by (inr le) = omega (arith, b.low)

-- ---- rows

-- the row of n atoms up to so many components
pub record RowTo (limits : List ℕ) (so_far n : ℕ) (row : List ℕ) : Type 0 where
  pub filled : length row ≡ so_far + 1
  pub each : (c : ℕ) → c ≤ so_far → IsGreatestLeast (WithinLimit limits) c n (unwrap_or (slice_get row c) 0)

pub row_start : (limits : List ℕ) (n value : ℕ) (row : List ℕ) → (n ≡ 0 → value ≡ 2 ^ 32 - 1) → (0 < n → value ≡ 0) → row ≡ value ∷ [] → RowTo limits 0 n row
row_start limits n value row all none is = subst (RowTo limits 0 n) (sym is) (record {
  filled = refl;
  each = λ c le. subst (λ (k : ℕ). IsGreatestLeast (WithinLimit limits) k n (unwrap_or (slice_get (value ∷ []) k) 0)) (zero_is c le) (none_greatest (WithinLimit limits) n value all none);
})
  where
    zero_is : (c : ℕ) → c ≤ 0 → 0 ≡ c
    zero_is c le = omega arith

at_last : {X : Type 0} (xs : List X) (x : X) (i : ℕ) → i ≡ length xs → slice_get (xs ++ x ∷ []) i ≡ Some x
at_last xs x i is = get_right xs (x ∷ []) i 0 (omega arith)

at_left : {X : Type 0} (xs : List X) (x : X) (i : ℕ) → i < length xs → slice_get (xs ++ x ∷ []) i ≡ slice_get xs i
at_left xs x i within = let there = slice_some xs i within in get_left xs (x ∷ []) i there.0 there.1 ∙ sym there.1

pub row_more : (limits : List ℕ) (so_far n value : ℕ) (row more : List ℕ) → RowTo limits so_far n row → IsGreatestLeast (WithinLimit limits) (so_far + 1) n value → more ≡ row ++ value ∷ []
    → RowTo limits (so_far + 1) n more
row_more limits so_far n value row more to is pushed = subst (RowTo limits (so_far + 1) n) (sym pushed) (record {
  filled = length_push row value ∙ ap (λ (k : ℕ). k + 1) to.filled;
  each = λ c le. by c (cases_lt c (length row)) le;
})
  where
    by : (c : ℕ) → (c < length row) ⊎ (length row ≤ c) → c ≤ so_far + 1 → IsGreatestLeast (WithinLimit limits) c n (unwrap_or (slice_get (row ++ value ∷ []) c) 0)
    by c (inl less) le =
        subst (λ (found : Option ℕ). IsGreatestLeast (WithinLimit limits) c n (unwrap_or found 0)) (sym (at_left row value c less)) (to.each c (omega (arith, to.filled)))
    by c (inr at) le =
        let last : c ≡ so_far + 1 = omega (arith, to.filled) in
        subst (λ (found : Option ℕ). IsGreatestLeast (WithinLimit limits) c n (unwrap_or found 0)) (sym (at_last row value c (omega (arith, to.filled))))
        (subst (λ (k : ℕ). IsGreatestLeast (WithinLimit limits) k n value) (sym last) is)

pub row_all : (limits : List ℕ) (most so_far n : ℕ) (row : List ℕ) → RowTo limits so_far n row → min n most ≤ so_far → IsRow limits most n row
row_all limits most so_far n row to far = record { each = λ c high. by c (cases_lt so_far c) high }
  where
    by : (c : ℕ) → (so_far < c) ⊎ (c ≤ so_far) → c ≤ most → IsGreatestLeast (WithinLimit limits) c n (unwrap_or (slice_get row c) 0)
    by c (inl past) high =
        subst (λ (found : Option ℕ). IsGreatestLeast (WithinLimit limits) c n (unwrap_or found 0)) (sym (slice_get_past row c (omega (arith, to.filled)))) (too_many (WithinLimit limits) c n (omega arith))
    by c (inr le) high = to.each c le

pub no_totals : (limits : List ℕ) (most : ℕ) → AreTotals limits most []
no_totals limits most = record { each = λ n c within high. absurd (omega arith) }

pub totals_more : (limits : List ℕ) (most n : ℕ) (row : List ℕ) (rows more : List (List ℕ)) → AreTotals limits most rows → length rows ≡ n → IsRow limits most n row → more ≡ rows ++ row ∷ []
    → AreTotals limits most more
totals_more limits most n row rows more totals filled is pushed = subst (AreTotals limits most) (sym pushed) (record { each = λ m c within high. by m c (cases_lt m (length rows)) within high })
  where
    by : (m c : ℕ) → (m < length rows) ⊎ (length rows ≤ m) → m < length (rows ++ row ∷ []) → c ≤ most → IsGreatestLeast (WithinLimit limits) c m (cell (rows ++ row ∷ []) m c)
    by m c (inl less) within high =
        subst (λ (found : Option (List ℕ)). IsGreatestLeast (WithinLimit limits) c m (unwrap_or (slice_get (unwrap_or found []) c) 0)) (sym (at_left rows row m less)) (totals.each m c less high)
    by m c (inr at) within high =
        let last : n ≡ m = omega (arith, length_push rows row) in
        subst (λ (found : Option (List ℕ)). IsGreatestLeast (WithinLimit limits) c m (unwrap_or (slice_get (unwrap_or found []) c) 0)) (sym (at_last rows row m (omega arith)))
        (subst (λ (k : ℕ). IsGreatestLeast (WithinLimit limits) c k (unwrap_or (slice_get row c) 0)) last (is.each c high))
