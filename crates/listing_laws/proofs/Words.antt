-- The listings of the words, Epsilon and Atom.
use Rattle.std.proofs.Common.{◌≡◌, ℕ, true, List, [], ◌∷◌, refl, sym, ap, true≢false}
use Rattle.std.proofs.lemmas.Bool.{and_parts, eqb-true}
use Rattle.spec_syntax.specs.Expression as expr
use Rattle.spec_syntax.specs.Grammar.{Grammar}
use Rattle.struct_model.specs.Structure.{Structure, Eps, Atom}
use Rattle.struct_model.specs.Membership.{is_supply}
use Rattle.struct_model.specs.Listing.{Before, IsOne, Lists}
use Rattle.listing_laws.specs.Lister.{list_epsilon, list_atom}
use Rattle.lists.proofs.Enumerated as enumerated
use Rattle.struct_model.proofs.SupplyLaws.{supply_allowed}

module _ (g : Grammar) where
  -- may atoms have these labels
  abbrev pub IsSupply : List ℕ → Type 0
  IsSupply u = is_supply g.universe u ≡ true

  pub epsilon_lists : (u : List ℕ) → Lists g expr.Epsilon u (list_epsilon u)
  epsilon_lists [] = enumerated.one Before (IsOne g expr.Epsilon []) (Eps 0) (refl, refl) only
    where
      only : (s : Structure) → IsOne g expr.Epsilon [] s → s ≡ Eps 0
      only (Eps x) p = ap Eps (eqb-true x 0 p.0)
      only s p = absurd (true≢false (sym p.0))
  epsilon_lists (label ∷ labels) = enumerated.none Before (IsOne g expr.Epsilon (label ∷ labels)) never
    where
      never : (s : Structure) → IsOne g expr.Epsilon (label ∷ labels) s → ⊥
      never (Eps x) p = cc
      never s p = true≢false (sym p.0)

  pub atom_lists : (u : List ℕ) → IsSupply u → Lists g expr.Atom u (list_atom u)
  atom_lists [] good = enumerated.none Before (IsOne g expr.Atom []) never
    where
      never : (s : Structure) → IsOne g expr.Atom [] s → ⊥
      never (Atom x l) p = cc
      never s p = true≢false (sym p.0)
  atom_lists (label ∷ []) good = enumerated.one Before (IsOne g expr.Atom (label ∷ [])) (Atom 0 label) ((supply_allowed g.universe (label ∷ []) good).0, refl) only
    where
      only : (s : Structure) → IsOne g expr.Atom (label ∷ []) s → s ≡ Atom 0 label
      only (Atom x l) p = let none : x ≡ 0 = eqb-true x 0 (and_parts _ _ p.0).0 in cc
      only s p = absurd (true≢false (sym p.0))
  atom_lists (label ∷ other ∷ labels) good = enumerated.none Before (IsOne g expr.Atom (label ∷ other ∷ labels)) never
    where
      never : (s : Structure) → IsOne g expr.Atom (label ∷ other ∷ labels) s → ⊥
      never (Atom x l) p = cc
      never s p = true≢false (sym p.0)
