-- Laws of the search for a name without a rule.
use Rattle.std.proofs.Common.{◌≡◌, ℕ, ◌+◌, ◌<◌, Bool, List, [], ◌∷◌, ◌++◌, length, get_or, drop, drop-cons, find, Some, refl, sym, ap, ◌∙◌, add-one, suc}
use Rattle.std.specs.Option.{option_or}
use Rattle.std.specs.List.{flat_map}
use Rattle.std.proofs.lemmas.Grind.{flat_map-append}
use Rattle.std.proofs.lemmas.List.Folds.{find-append}
use Rattle.spec_syntax.specs.Expression.{Expression, preorder, preorder_of_all, expressions_of}
use Rattle.spec_syntax.specs.Rules.{Rules, right_side}
use Rattle.well_founded.specs.Names.{name_in, used_names, names_used_in}
use Rattle.well_founded.specs.UsedNames.{used_in_all}
use Rattle.spec_syntax.proofs.NodeSteps.{next_rule}

-- the names in the arguments of an expression are those in each of them
pub used_in-arguments : (es : List Expression) → flat_map name_in (preorder_of_all (expressions_of es)) ≡ used_in_all es
used_in-arguments [] = refl
used_in-arguments (e ∷ es) = flat_map-append name_in (preorder e) (preorder_of_all (expressions_of es)) ∙ ap (λ names. used_names e ++ names) (used_in-arguments es)

module _ (wanted : List ℕ → Bool) where
  -- the search goes on from one expression to the next
  pub find-used_in_all : (es : List Expression) (i : ℕ) (e : Expression) → i < length es → e ≡ get_or es i e
      → find wanted (used_in_all (drop i es)) ≡ option_or (find wanted (used_names e)) (find wanted (used_in_all (drop (i + 1) es)))
  find-used_in_all es i e within is =
      ap (λ left. find wanted (used_in_all left)) (drop-cons es i e within)
      ∙ find-append wanted (used_names (get_or es i e)) (used_in_all (drop (suc i) es))
      ∙ ap (λ x. option_or (find wanted (used_names x)) (find wanted (used_in_all (drop (suc i) es)))) (sym is)
      ∙ ap (λ j. option_or (find wanted (used_names e)) (find wanted (used_in_all (drop j es)))) (sym (add-one i))

  -- and from one rule to the next
  pub find-names_used_in : (rules : Rules) (place : ℕ) (right : Expression) → right_side rules (place + 1) ≡ Some right
      → find wanted (names_used_in (drop place rules)) ≡ option_or (find wanted (used_names right)) (find wanted (names_used_in (drop (place + 1) rules)))
  find-names_used_in rules place right at =
      ap (λ (others : Rules). find wanted (names_used_in others)) (next_rule rules place right at).split
      ∙ find-append wanted (used_names right) (names_used_in (drop (place + 1) rules))
