-- The order of two keys, by their first runs.
use Rattle.std.proofs.Common.{◌≡◌, ℕ, zero, suc, ◌+◌, ◌<◌, ◌≤◌, true, false, List, [], ◌∷◌, ◌++◌, replicate, Option, Some, None, is_some, refl, sym, ap, ◌∙◌, subst, arith}
use Rattle.std.specs.declared.cmp.Ordering.{Ordering}
use Rattle.std.specs.declared.cmp.Ordering.TheVariants.{Less, Equal, Greater}
use Rattle.std.specs.Ordering.{nat_cmp, ordering_then, ordering_reverse}
use Rattle.std.specs.Cmp.Lexicographic.{slice_cmp}
use Rattle.std.proofs.lemmas.Cmp.{nat_cmp_total, nat_list_cmp_total, tied_itself, ranked, by_ranked}
use Rattle.std.proofs.lemmas.Bool.Decides.{nat_tests}
use Rattle.struct_model.specs.declared.keys.Run.{Run}
use Rattle.lists.specs.Ascending.{ascending}
use Rattle.struct_model.specs.Runs.{first_run, key_from}
use Rattle.struct_model.proofs.KeyLaws.{IsFirst, IsFirstRun, first_run_is}

abbrev number_order : List ℕ → List ℕ → Ordering
number_order = slice_cmp nat_cmp

abbrev pub order_from : ℕ → List ℕ → List ℕ → Ordering
order_from low xs ys = slice_cmp nat_cmp (key_from low xs) (key_from low ys)

-- no run is left: the key ends
ended : (low : ℕ) (xs : List ℕ) → first_run low xs ≡ None → key_from low xs ≡ []
ended low xs e = let P : Option Run → Type 0 = IsFirstRun low xs in ap ascending (subst P e (first_run_is low xs))

pub begins : (low : ℕ) (xs : List ℕ) (run : Run) → first_run low xs ≡ Some run → IsFirst low xs run
begins low xs run e = let P : Option Run → Type 0 = IsFirstRun low xs in subst P e (first_run_is low xs)

-- a run begins with its label
run_head : (n m : ℕ) (ms : List ℕ) → 1 ≤ n → (rest : List ℕ) × (replicate n m ++ ms ≡ m ∷ rest)
run_head zero m ms h = absurd (omega arith)
run_head (suc n) m ms h = (replicate n m ++ ms, refl)

-- a key goes on with a number of at least low
goes : (low : ℕ) (xs : List ℕ) (first : Option Run) → is_some first ≡ true → IsFirstRun low xs first → (n : ℕ) × (rest : List ℕ) × (key_from low xs ≡ n ∷ rest) × (low ≤ n)
goes low xs None h f = cc
goes low xs (Some run) h f =
    let head = run_head run.count run.label (key_from (run.label + 1) xs) f.some in
    (run.label, head.0, f.key ∙ head.1, f.above)

stops : (low : ℕ) (xs : List ℕ) (first : Option Run) → is_some first ≡ false → IsFirstRun low xs first → key_from low xs ≡ []
stops low xs None h f = ap ascending f
stops low xs (Some run) h f = cc

same_number : (m : ℕ) → nat_cmp m m ≡ Equal
same_number m = tied_itself nat_cmp_total m

greater_number : (m n : ℕ) → n < m → nat_cmp m n ≡ Greater
greater_number m n h = grind (arith, nat_tests)

other_number : (m n : ℕ) (o : Ordering) → (m ≡ n → ⊥) → ordering_then (nat_cmp m n) o ≡ nat_cmp m n
other_number m n o h = grind (arith, nat_tests)

-- runs as long as each other
same_runs : (n m : ℕ) (xs ys : List ℕ) → number_order (replicate n m ++ xs) (replicate n m ++ ys) ≡ number_order xs ys
same_runs zero m xs ys = refl
same_runs (suc n) m xs ys = ap (λ o. ordering_then o (number_order (replicate n m ++ xs) (replicate n m ++ ys))) (same_number m) ∙ same_runs n m xs ys

-- a shorter run, and nothing after it
shorter_end : (a b m : ℕ) (ys : List ℕ) → a < b → number_order (replicate a m ++ []) (replicate b m ++ ys) ≡ Less
shorter_end a zero m ys h = absurd (omega arith)
shorter_end zero (suc b) m ys h = refl
shorter_end (suc a) (suc b) m ys h = ap (λ o. ordering_then o (number_order (replicate a m ++ []) (replicate b m ++ ys))) (same_number m) ∙ shorter_end a b m ys (omega arith)

-- a shorter run, and a greater number after it
shorter_more : (a b m n : ℕ) (xs ys : List ℕ) → a < b → m < n → number_order (replicate a m ++ n ∷ xs) (replicate b m ++ ys) ≡ Greater
shorter_more a zero m n xs ys h l = absurd (omega arith)
shorter_more zero (suc b) m n xs ys h l = ap (λ o. ordering_then o (number_order xs (replicate b m ++ ys))) (greater_number n m l)
shorter_more (suc a) (suc b) m n xs ys h l =
    ap (λ o. ordering_then o (number_order (replicate a m ++ n ∷ xs) (replicate b m ++ ys))) (same_number m) ∙ shorter_more a b m n xs ys (omega arith) l

pub is_lesser : (m n : ℕ) → Less ≡ nat_cmp m n → m < n
is_lesser m n e = by_ranked (m < n) (m ≡ n) (n < m) (nat_cmp m n) (ranked m n (nat_cmp m n) refl) (λ f h. h) (λ f h. cc) (λ f h. cc)

pub is_same : (m n : ℕ) → Equal ≡ nat_cmp m n → m ≡ n
is_same m n e = by_ranked (m < n) (m ≡ n) (n < m) (nat_cmp m n) (ranked m n (nat_cmp m n) refl) (λ f h. cc) (λ f h. h) (λ f h. cc)

pub is_greater : (m n : ℕ) → Greater ≡ nat_cmp m n → n < m
is_greater m n e = by_ranked (m < n) (m ≡ n) (n < m) (nat_cmp m n) (ranked m n (nat_cmp m n) refl) (λ f h. cc) (λ f h. cc) (λ f h. h)

-- ---- the cases of two first runs

pub both_end : (low : ℕ) (xs ys : List ℕ) → first_run low xs ≡ None → first_run low ys ≡ None → order_from low xs ys ≡ Equal
both_end low xs ys f g = λ i. number_order (ended low xs f i) (ended low ys g i)

pub left_ends : (low : ℕ) (xs ys : List ℕ) (there : Run) → first_run low xs ≡ None → first_run low ys ≡ Some there → order_from low xs ys ≡ Less
left_ends low xs ys there f g =
    let t : IsFirst low ys there = begins low ys there g in
    let head = run_head there.count there.label (key_from (there.label + 1) ys) t.some in
    λ i. number_order (ended low xs f i) ((t.key ∙ head.1) i)

pub right_ends : (low : ℕ) (xs ys : List ℕ) (here : Run) → first_run low xs ≡ Some here → first_run low ys ≡ None → order_from low xs ys ≡ Greater
right_ends low xs ys here f g = nat_list_cmp_total.antisymm (key_from low xs) (key_from low ys) ∙ ap ordering_reverse (left_ends low ys xs here g f)

pub labels_differ : (low : ℕ) (xs ys : List ℕ) (here there : Run) → first_run low xs ≡ Some here → first_run low ys ≡ Some there → (here.label ≡ there.label → ⊥) → order_from low xs ys ≡ nat_cmp here.label there.label
labels_differ low xs ys here there f g ne =
    let s : IsFirst low xs here = begins low xs here f in
    let t : IsFirst low ys there = begins low ys there g in
    let head = run_head here.count here.label (key_from (here.label + 1) xs) s.some in
    let other = run_head there.count there.label (key_from (there.label + 1) ys) t.some in
    let heads : order_from low xs ys ≡ number_order (here.label ∷ head.0) (there.label ∷ other.0) = λ i. number_order ((s.key ∙ head.1) i) ((t.key ∙ other.1) i) in
    heads ∙ other_number here.label there.label (number_order head.0 other.0) ne

pub runs_alike : (low : ℕ) (xs ys : List ℕ) (here there : Run) → first_run low xs ≡ Some here → first_run low ys ≡ Some there → here.label ≡ there.label → here.count ≡ there.count → order_from (here.label + 1) xs ys ≡ order_from low xs ys
runs_alike low xs ys here there f g e c =
    let s : IsFirst low xs here = begins low xs here f in
    let t : IsFirst low ys there = begins low ys there g in
    let key : key_from low ys ≡ replicate here.count here.label ++ key_from (here.label + 1) ys = t.key ∙ (λ i. replicate (sym c i) (sym e i) ++ key_from (sym e i + 1) ys) in
    sym (same_runs here.count here.label (key_from (here.label + 1) xs) (key_from (here.label + 1) ys)) ∙ sym (λ i. number_order (s.key i) (key i))

pub left_goes_on : (low : ℕ) (xs ys : List ℕ) (here there : Run) → first_run low xs ≡ Some here → first_run low ys ≡ Some there → here.label ≡ there.label → here.count < there.count → is_some (first_run (here.label + 1) xs) ≡ true → order_from low xs ys ≡ Greater
left_goes_on low xs ys here there f g e c h =
    let s : IsFirst low xs here = begins low xs here f in
    let t : IsFirst low ys there = begins low ys there g in
    let rest = goes (here.label + 1) xs (first_run (here.label + 1) xs) h (first_run_is (here.label + 1) xs) in
    let key : key_from low ys ≡ replicate there.count here.label ++ key_from (there.label + 1) ys = t.key ∙ ap (λ m. replicate there.count m ++ key_from (there.label + 1) ys) (sym e) in
    (λ i. number_order ((s.key ∙ ap (λ ns. replicate here.count here.label ++ ns) rest.2) i) (key i))
    ∙ shorter_more here.count there.count here.label rest.0 rest.1 (key_from (there.label + 1) ys) c (omega (arith, rest.3))

pub left_stops : (low : ℕ) (xs ys : List ℕ) (here there : Run) → first_run low xs ≡ Some here → first_run low ys ≡ Some there → here.label ≡ there.label → here.count < there.count → is_some (first_run (here.label + 1) xs) ≡ false → order_from low xs ys ≡ Less
left_stops low xs ys here there f g e c h =
    let s : IsFirst low xs here = begins low xs here f in
    let t : IsFirst low ys there = begins low ys there g in
    let rest : key_from (here.label + 1) xs ≡ [] = stops (here.label + 1) xs (first_run (here.label + 1) xs) h (first_run_is (here.label + 1) xs) in
    let key : key_from low ys ≡ replicate there.count here.label ++ key_from (there.label + 1) ys = t.key ∙ ap (λ m. replicate there.count m ++ key_from (there.label + 1) ys) (sym e) in
    (λ i. number_order ((s.key ∙ ap (λ ns. replicate here.count here.label ++ ns) rest) i) (key i))
    ∙ shorter_end here.count there.count here.label (key_from (there.label + 1) ys) c

pub right_goes_on : (low : ℕ) (xs ys : List ℕ) (here there : Run) → first_run low xs ≡ Some here → first_run low ys ≡ Some there → here.label ≡ there.label → there.count < here.count → is_some (first_run (here.label + 1) ys) ≡ true → order_from low xs ys ≡ Less
right_goes_on low xs ys here there f g e c h =
    nat_list_cmp_total.antisymm (key_from low xs) (key_from low ys)
    ∙ ap ordering_reverse (left_goes_on low ys xs there here g f (sym e) c (ap (λ m. is_some (first_run (m + 1) ys)) (sym e) ∙ h))

pub right_stops : (low : ℕ) (xs ys : List ℕ) (here there : Run) → first_run low xs ≡ Some here → first_run low ys ≡ Some there → here.label ≡ there.label → there.count < here.count → is_some (first_run (here.label + 1) ys) ≡ false → order_from low xs ys ≡ Greater
right_stops low xs ys here there f g e c h =
    nat_list_cmp_total.antisymm (key_from low xs) (key_from low ys)
    ∙ ap ordering_reverse (left_stops low ys xs there here g f (sym e) c (ap (λ m. is_some (first_run (m + 1) ys)) (sym e) ∙ h))
