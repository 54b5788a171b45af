-- The labels of a structure as a part of a supply.
use Rattle.std.proofs.Common.{◌≡◌, ℕ, true, nat_eq, List, [], ◌∷◌, length, replicate, refl, sym, ap, ◌∙◌, subst, arith}
use Rattle.std.specs.Prelude.{IsTrue}
use Rattle.std.specs.List.{list_all}
use Rattle.std.proofs.lemmas.Bool.{and_parts}
use Rattle.std.proofs.lemmas.Bool.Decides.{nat_tests}
use Rattle.lists.specs.Ascending.{ascends_above}
use Rattle.lists.proofs.Ascending.{length-ascending}
use Rattle.struct_model.specs.Structure.{Structure, labels, size, key}
use Rattle.struct_model.specs.Membership.{is_supply}
use Rattle.struct_model.specs.declared.supplies.Supply.{Supply}
use Rattle.struct_model.specs.declared.supplies.Supply.TheVariants.{Zeros, Labels}
use Rattle.struct_model.specs.SupplyView.{supply_universe}

zero_is : (n : ℕ) → nat_eq 0 n ≡ true → 0 ≡ n
zero_is n h = grind (arith, nat_tests)

pub zeros_are : (u : List ℕ) → list_all (nat_eq 0) u ≡ true → replicate (length u) 0 ≡ u
zeros_are [] h = refl
zeros_are (n ∷ u) h =
    let both = and_parts (nat_eq 0 n) (list_all (nat_eq 0) u) h in
    let first : 0 ≡ n = zero_is n both.0 in
    let others : replicate (length u) 0 ≡ u = zeros_are u both.1 in
    λ i. first i ∷ others i

module _ (supply : Supply) (s : Structure) (supplied : IsTrue (is_supply (supply_universe supply) (key s))) where
  pub zeros_key : (n : ℕ) → supply ≡ Zeros n → replicate (size s) 0 ≡ key s
  zeros_key n is =
      ap (λ (k : ℕ). replicate k 0) (sym (length-ascending (labels s)))
      ∙ zeros_are (key s) (subst (λ (u : Supply). is_supply (supply_universe u) (key s) ≡ true) is supplied)

  pub labels_key : (found : List ℕ) → supply ≡ Labels found → IsTrue (ascends_above 0 (key s))
  labels_key found is = subst (λ (u : Supply). is_supply (supply_universe u) (key s) ≡ true) is supplied
