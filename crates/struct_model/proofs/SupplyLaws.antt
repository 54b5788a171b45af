-- Supplies ascend, atoms may carry their labels, and those of a size are as many as the size.
use Rattle.std.proofs.Common.{◌≡◌, ℕ, zero, suc, true, List, [], ◌∷◌, replicate, nat_eq, length, refl, sym, arith}
use Rattle.std.specs.List.{list_all}
use Rattle.std.proofs.lemmas.List.{length-replicate}
use Rattle.std.proofs.lemmas.Bool.{and_parts, lt-ltb, eqb-true, eq-eqb}
use Rattle.spec_syntax.specs.declared.statement.Universe.{Universe}
use Rattle.spec_syntax.specs.declared.statement.Universe.TheVariants.{Labelled, Unlabelled}
use Rattle.struct_model.specs.declared.supplies.Supply.{Supply}
use Rattle.struct_model.specs.declared.supplies.Supply.TheVariants.{Zeros, Labels}
use Rattle.struct_model.specs.SupplyView.{supply_labels, supply_universe, is_in_order}
use Rattle.struct_model.specs.Membership.{is_label, supply, is_supply}
use Rattle.lists.proofs.Ascending.{Each, AtLeast, Rises}
use Rattle.lists.proofs.AscendingAbove.{above_all, rises_above, one_to_ascends, one_to_size}

labelled_above : (u : List ℕ) → AtLeast 1 u → Each (λ l. is_label Labelled l ≡ true) u
labelled_above [] a = tt
labelled_above (n ∷ ns) a = (lt-ltb 0 n (omega (arith, a.0)), labelled_above ns a.1)

zeros_least : (n : ℕ) (u : List ℕ) → n ≡ 0 → list_all (nat_eq 0) u ≡ true → AtLeast n u
zeros_least n [] same h = tt
zeros_least n (m ∷ ms) same h = (omega arith, zeros_least n ms same (and_parts (nat_eq 0 m) (list_all (nat_eq 0) ms) h).1)

pub zeros_rise : (u : List ℕ) → list_all (nat_eq 0) u ≡ true → Rises u
zeros_rise [] h = tt
zeros_rise (n ∷ ns) h =
    let both = and_parts (nat_eq 0 n) (list_all (nat_eq 0) ns) h in
    (zeros_least n ns (sym (eqb-true 0 n both.0)) both.1, zeros_rise ns both.1)

zeros_allowed : (u : List ℕ) → list_all (nat_eq 0) u ≡ true → Each (λ l. is_label Unlabelled l ≡ true) u
zeros_allowed [] h = tt
zeros_allowed (n ∷ ns) h =
    let both = and_parts (nat_eq 0 n) (list_all (nat_eq 0) ns) h in
    (eq-eqb n 0 (sym (eqb-true 0 n both.0)), zeros_allowed ns both.1)

pub supply_rises : (universe : Universe) (u : List ℕ) → is_supply universe u ≡ true → Rises u
supply_rises Unlabelled u h = zeros_rise u h
supply_rises Labelled u h = rises_above 0 u h

pub supply_allowed : (universe : Universe) (u : List ℕ) → is_supply universe u ≡ true → Each (λ l. is_label universe l ≡ true) u
supply_allowed Unlabelled u h = zeros_allowed u h
supply_allowed Labelled u h = labelled_above u (above_all 0 u h)

-- ---- the labels of a size

zeros_supply : (n : ℕ) → list_all (nat_eq 0) (replicate n 0) ≡ true
zeros_supply zero = refl
zeros_supply (suc n) = zeros_supply n

-- the labels of a size are a supply
pub supply_is : (universe : Universe) (n : ℕ) → is_supply universe (supply universe n) ≡ true
supply_is Unlabelled n = zeros_supply n
supply_is Labelled n = one_to_ascends n

-- there are as many labels as the size
pub supply_size : (universe : Universe) (n : ℕ) → length (supply universe n) ≡ n
supply_size Unlabelled n = length-replicate {A = ℕ} n 0
supply_size Labelled n = one_to_size n

-- the labels of a supply of the code are a supply of its universe
pub in_order_is : (s : Supply) → is_in_order s ≡ true → is_supply (supply_universe s) (supply_labels s) ≡ true
in_order_is (Zeros n) h = zeros_supply n
in_order_is (Labels labels) h = h
