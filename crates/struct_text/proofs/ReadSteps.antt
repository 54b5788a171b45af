-- What the loop of the reading keeps, and where it ends.
use Rattle.std.proofs.Common.{◌≡◌, ◌≤◌, ℕ, ◌+◌, Bool, List, [], ◌++◌, length, IsTrue, Result, Ok, Err, IfErr, refl, sym, ap, ◌∙◌, subst}
use Rattle.std.specs.Result.{IsErrAnd}
use Rattle.std.proofs.lemmas.List.{append-nil}
use Rattle.spec_syntax.specs.Expression as expr
use Rattle.spec_syntax.specs.Rules.{rule_name}
use Rattle.struct_model.specs.Structure.{Structure}
use Rattle.struct_model.specs.Membership.{is_of}
use Rattle.well_founded.specs.Checked.{Checked, grammar}
use Rattle.struct_text.specs.declared.holes.Hole.{Hole}
use Rattle.struct_text.specs.declared.holes.Place.{Place}
use Rattle.struct_text.specs.declared.reading.TextFault.{TextFault}
use Rattle.struct_text.specs.declared.reading.TextFault.TheVariants.{NotStructure}
use Rattle.struct_text.specs.Text.{tagged}
use Rattle.struct_text.specs.Labels.{are_small}
use Rattle.struct_text.specs.Reading.{written, atoms, AreHoles, IsPlace, CanBe, Ends, ahead}

-- is it a structure of the rule with this number
abbrev pub of_rule : Checked → ℕ → Structure → Bool
of_rule checked number s = is_of (grammar checked) (expr.Name (rule_name checked.rules number)) s

-- the text is what was read and what is left, and each structure of the rule with this text can still be the whole
pub record Reads (checked : Checked) (number : ℕ) (text : List ℕ) (holes : List Hole) (place : Place) (left : List ℕ) : Type 0 where
  pub same_text : text ≡ written checked.rules holes place ++ left
  pub room : atoms holes place + length left ≤ length text
  pub are_holes : AreHoles checked holes
  pub is_place : IsPlace checked place
  pub can_be : (t : Structure) → IsTrue (of_rule checked number t) → IsTrue (are_small t) → tagged checked.rules t ≡ text → CanBe checked holes place left t

module _ (checked : Checked) (number : ℕ) (text : List ℕ) where
  -- where the first step finds no structure, there is none
  pub first_none : (weight : ℕ) → ((t : Structure) → (ahead checked [] (of_rule checked number) weight text).can_be t → ⊥)
      → (t : Structure) → IsTrue (of_rule checked number t) → IsTrue (are_small t) → tagged checked.rules t ≡ text → ⊥
  first_none weight none t of small same =
      none t (record { inside = t; fit = of; small = small; rest = []; text = sym same ∙ sym (append-nil (tagged checked.rules t)); whole = (refl, refl) })

  -- no structure of the rule has the text
  abbrev pub IsNone : Type 0
  IsNone = (t : Structure) → IsTrue (of_rule checked number t) → IsTrue (are_small t) → tagged checked.rules t ≡ text → ⊥

  -- a refusal of the first step
  pub first_refused : (weight : ℕ) (holes holes' : List Hole) (left left' : List ℕ) (result : Result Place TextFault) (fault : TextFault) → holes ≡ [] → left ≡ text → result ≡ Err fault
      → Ends checked (ahead checked holes (of_rule checked number) weight left) result holes' left' → fault ≡ NotStructure → IsNone
  first_refused weight holes holes' left left' result fault none whole is ends refused =
      first_none weight
      (subst (λ (l : List ℕ). Ends checked (ahead checked [] (of_rule checked number) weight l) (Err NotStructure) holes' left') whole
      (subst (λ (hs : List Hole). Ends checked (ahead checked hs (of_rule checked number) weight left) (Err NotStructure) holes' left') none
      (subst (λ (r : Result Place TextFault). Ends checked (ahead checked holes (of_rule checked number) weight left) r holes' left') (is ∙ ap Err refused) ends)))

-- a fault that is passed on says the same
pub passed_on : {T : Type 0} {P : Type 0} (o : Result T TextFault) (fault : TextFault) → IsErrAnd o (λ other. other ≡ fault) → (fault ≡ NotStructure → P)
    → IfErr o (λ other. other ≡ NotStructure → P)
passed_on (Ok s) fault passed said = tt
passed_on (Err other) fault passed said = λ is. let same : fault ≡ NotStructure = cc in said same
