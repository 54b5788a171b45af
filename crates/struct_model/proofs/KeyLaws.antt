-- The key from a label on is the first run, and then the key above its label.
use Rattle.std.proofs.Common.{◌≡◌, inl, inr, ℕ, suc, ◌+◌, ◌<◌, ◌≤◌, nat_le, List, [], ◌∷◌, ◌++◌, replicate, Option, Some, None, refl, sym, ap, ◌∙◌, subst, arith}
use Rattle.std.specs.List.{filter}
use Rattle.std.proofs.lemmas.Bool.{cases_lt, cases_order}
use Rattle.std.proofs.lemmas.Bool.Decides.{nat_tests}
use Rattle.struct_model.specs.declared.keys.Run.{Run}
use Rattle.lists.specs.Ascending.{inserted, ascending}
use Rattle.lists.proofs.Ascending.{inserted_after, inserted_before}
use Rattle.struct_model.specs.Runs.{lesser_run, merged, run_of, first_run, key_from}

-- the numbers from low on
abbrev pub from : ℕ → List ℕ → List ℕ
from low ns = filter (nat_le low) ns

from_keep : (low x : ℕ) (xs : List ℕ) → low ≤ x → from low (x ∷ xs) ≡ x ∷ from low xs
from_keep low x xs h = grind (arith, nat_tests)

from_skip : (low x : ℕ) (xs : List ℕ) → x < low → from low (x ∷ xs) ≡ from low xs
from_skip low x xs h = grind (arith, nat_tests)

-- where no number is at least low, none is at least a greater one
from_none : (low k : ℕ) (xs : List ℕ) → low ≤ k → from low xs ≡ [] → from k xs ≡ []
from_none low k [] h e = refl
from_none low k (x ∷ xs) h e =
    elim (cases_lt x low) [
      | inl below ↦ from_skip k x xs (omega arith) ∙ from_none low k xs h (sym (from_skip low x xs below) ∙ e)
      | inr above ↦ let f : x ∷ from low xs ≡ [] = sym (from_keep low x xs above) ∙ e in cc
    ]

-- the run is the first one of the numbers from low on
pub record IsFirst (low : ℕ) (xs : List ℕ) (run : Run) : Type 0 where
  pub above : low ≤ run.label
  pub some : 1 ≤ run.count
  pub none_between : (k : ℕ) → low ≤ k → k ≤ run.label → from k xs ≡ from low xs
  pub key : key_from low xs ≡ replicate run.count run.label ++ key_from (run.label + 1) xs

abbrev pub IsFirstRun : ℕ → List ℕ → Option Run → Type 0
IsFirstRun low xs None = from low xs ≡ []
IsFirstRun low xs (Some run) = IsFirst low xs run

-- ---- one more number in front

run_below : (low x : ℕ) → x < low → run_of low x ≡ None
run_below low x h = grind (arith, nat_tests)

run_above : (low x : ℕ) → low ≤ x → run_of low x ≡ Some (record { label = x; count = 1 })
run_above low x h = grind (arith, nat_tests)

lesser_left : (a b : Run) → a.label < b.label → lesser_run a b ≡ a
lesser_left a b h = grind (arith, nat_tests)

lesser_right : (a b : Run) → b.label < a.label → lesser_run a b ≡ b
lesser_right a b h = grind (arith, nat_tests)

lesser_both : (a b : Run) → a.label ≡ b.label → lesser_run a b ≡ record { label = a.label; count = a.count + b.count }
lesser_both a b h = grind (arith, nat_tests)

-- a number below low changes nothing
skip : (low x : ℕ) (xs : List ℕ) (first : Option Run) → x < low → IsFirstRun low xs first → IsFirstRun low (x ∷ xs) first
skip low x xs None h f = from_skip low x xs h ∙ f
skip low x xs (Some run) h f = record {
  above = f.above;
  some = f.some;
  none_between = λ k l g. from_skip k x xs (omega arith) ∙ f.none_between k l g ∙ sym (from_skip low x xs h);
  key = ap ascending (from_skip low x xs h) ∙ f.key ∙ ap (λ ns. replicate run.count run.label ++ ascending ns) (sym (from_skip (run.label + 1) x xs (omega (arith, f.above))));
}

-- a number with none after it from low on
alone : (low x : ℕ) (xs : List ℕ) → low ≤ x → from low xs ≡ [] → IsFirst low (x ∷ xs) (record { label = x; count = 1 })
alone low x xs h f = record {
  above = h;
  some = omega arith;
  none_between = λ k l g. from_keep k x xs g ∙ ap (λ ns. x ∷ ns) (from_none low k xs l f ∙ sym f) ∙ sym (from_keep low x xs h);
  key = ap ascending (from_keep low x xs h ∙ ap (λ ns. x ∷ ns) f) ∙ ap (λ ns. x ∷ ascending ns) (sym (from_skip (x + 1) x xs (omega arith) ∙ from_none low (x + 1) xs (omega arith) f));
}

-- a number below the first run of the others
lesser : (low x : ℕ) (xs : List ℕ) (run : Run) → low ≤ x → x < run.label → IsFirst low xs run → IsFirst low (x ∷ xs) (record { label = x; count = 1 })
lesser low x xs run h l f = record {
  above = h;
  some = omega arith;
  none_between = λ k p g. from_keep k x xs g ∙ ap (λ ns. x ∷ ns) (f.none_between k p (omega arith)) ∙ sym (from_keep low x xs h);
  key = ap ascending (from_keep low x xs h) ∙ ap (inserted x) f.key
      ∙ inserted_before x run.label run.count (key_from (run.label + 1) xs) f.some (omega arith)
      ∙ ap (λ ns. x ∷ ns) (sym f.key)
      ∙ ap (λ ns. x ∷ ascending ns) (sym (f.none_between (x + 1) (omega arith) (omega arith)) ∙ sym (from_skip (x + 1) x xs (omega arith)));
}

-- a number of the first run
equal : (low x : ℕ) (xs : List ℕ) (run : Run) → low ≤ x → x ≡ run.label → IsFirst low xs run → IsFirst low (x ∷ xs) (record { label = x; count = 1 + run.count })
equal low x xs run h e f =
    let one_more : 1 + run.count ≡ suc run.count = omega arith in
    let longer : replicate (1 + run.count) x ≡ x ∷ replicate run.count x = ap (λ n. replicate n x) one_more in
    record {
      above = h;
      some = omega arith;
      none_between = λ k p g. from_keep k x xs g ∙ ap (λ ns. x ∷ ns) (f.none_between k p (omega arith)) ∙ sym (from_keep low x xs h);
      key = ap ascending (from_keep low x xs h) ∙ ap (inserted x) f.key
          ∙ inserted_before x run.label run.count (key_from (run.label + 1) xs) f.some (omega arith)
          ∙ ap (λ m. x ∷ replicate run.count m ++ key_from (m + 1) xs) (sym e)
          ∙ ap (λ ns. x ∷ replicate run.count x ++ ascending ns) (sym (from_skip (x + 1) x xs (omega arith)))
          ∙ ap (λ ns. ns ++ key_from (x + 1) (x ∷ xs)) (sym longer);
    }

-- a number above the first run of the others
greater : (low x : ℕ) (xs : List ℕ) (run : Run) → run.label < x → IsFirst low xs run → IsFirst low (x ∷ xs) run
greater low x xs run l f = record {
  above = f.above;
  some = f.some;
  none_between = λ k p g.
      from_keep k x xs (omega arith) ∙ ap (λ ns. x ∷ ns) (f.none_between k p g) ∙ sym (from_keep low x xs (omega (arith, f.above)));
  key = ap ascending (from_keep low x xs (omega (arith, f.above))) ∙ ap (inserted x) f.key
      ∙ inserted_after x run.label run.count (key_from (run.label + 1) xs) l
      ∙ ap (λ ns. replicate run.count run.label ++ ascending ns) (sym (from_keep (run.label + 1) x xs (omega arith)));
}

more : (low x : ℕ) (xs : List ℕ) (first : Option Run) → low ≤ x → IsFirstRun low xs first → IsFirstRun low (x ∷ xs) (merged (Some (record { label = x; count = 1 })) first)
more low x xs None h f = alone low x xs h f
more low x xs (Some run) h f =
    let this : Run = record { label = x; count = 1 } in
    let P : Run → Type 0 = IsFirst low (x ∷ xs) in
    elim (cases_order x run.label) [
      | inl same ↦ subst P (sym (lesser_both this run same)) (equal low x xs run h same f)
      | inr (inl below) ↦ subst P (sym (lesser_left this run below)) (lesser low x xs run h below f)
      | inr (inr above) ↦ subst P (sym (lesser_right this run above)) (greater low x xs run above f)
    ]

pub first_run_is : (low : ℕ) (xs : List ℕ) → IsFirstRun low xs (first_run low xs)
first_run_is low [] = refl
first_run_is low (x ∷ xs) =
    let P : Option Run → Type 0 = λ own. IsFirstRun low (x ∷ xs) (merged own (first_run low xs)) in
    elim (cases_lt x low) [
      | inl below ↦ subst P (sym (run_below low x below)) (skip low x xs (first_run low xs) below (first_run_is low xs))
      | inr above ↦ subst P (sym (run_above low x above)) (more low x xs (first_run low xs) above (first_run_is low xs))
    ]

all_from_zero : (xs : List ℕ) → from 0 xs ≡ xs
all_from_zero [] = refl
all_from_zero (x ∷ xs) = from_keep 0 x xs (omega arith) ∙ ap (λ ns. x ∷ ns) (all_from_zero xs)

-- the key from 0 on is the whole key
pub key_from_zero : (xs : List ℕ) → key_from 0 xs ≡ ascending xs
key_from_zero xs = ap ascending (all_from_zero xs)
