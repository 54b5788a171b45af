-- What the code that finds the graph of one size needs at each step.
use Rattle.std.proofs.Common.{◌≡◌, ◌⊎◌, inl, inr, ℕ, ◌+◌, ◌-◌, ◌<◌, ◌≤◌, Bool, true, false, ◌&&◌, List, [], ◌∷◌, ◌++◌, length, min, drop, get_or, is_some, refl, sym, ap, ◌∙◌, arith, append_assoc, Option, Some, None}
use Rattle.std.specs.List.{list_all}
use Rattle.std.specs.Option.{option_map_or, option_and_then}
use Rattle.std.proofs.lemmas.List.{drop_more, drop_all, append-nil}
use Rattle.std.proofs.lemmas.Bool.{cases_lt}
use Rattle.spec_syntax.specs.Expression as expr
use Rattle.spec_syntax.specs.Expression.{Expression, nodes, expressions_of}
use Rattle.spec_syntax.specs.Rules.{Rules, symbol, right_side}
use Rattle.spec_syntax.specs.Nodes.{right_node}
use Rattle.well_founded.specs.SameSize.{is_null, alone_from, is_told_inside, picked, followers}
use Rattle.spec_syntax.proofs.NodeSteps.{expressions_step}
use Rattle.spec_syntax.proofs.ExpressionLemmas.{list_of}

-- ---- what is picked

picked_cons : (flags : List Bool) (nodes : List ℕ) (i : ℕ) → i < length flags → i < length nodes
    → picked (drop i flags) (drop i nodes) ≡ picked (get_or flags i false ∷ drop (i + 1) flags) (get_or nodes i 0 ∷ drop (i + 1) nodes)
picked_cons flags nodes i in_flags in_nodes = λ k. picked (drop_more flags i false in_flags k) (drop_more nodes i 0 in_nodes k)

pub picked_with : (flags : List Bool) (nodes row : List ℕ) (i : ℕ) → i < length flags → i < length nodes → get_or flags i false ≡ true
    → row ++ picked (drop i flags) (drop i nodes) ≡ (row ++ get_or nodes i 0 ∷ []) ++ picked (drop (i + 1) flags) (drop (i + 1) nodes)
picked_with flags nodes row i in_flags in_nodes flag =
    ap (λ others. row ++ others) (picked_cons flags nodes i in_flags in_nodes ∙ ap (λ first. picked (first ∷ drop (i + 1) flags) (get_or nodes i 0 ∷ drop (i + 1) nodes)) flag)
    ∙ sym (append_assoc row (get_or nodes i 0 ∷ []) (picked (drop (i + 1) flags) (drop (i + 1) nodes)))

pub picked_without : (flags : List Bool) (nodes row : List ℕ) (i : ℕ) → i < length flags → i < length nodes → get_or flags i false ≡ false
    → row ++ picked (drop i flags) (drop i nodes) ≡ row ++ picked (drop (i + 1) flags) (drop (i + 1) nodes)
picked_without flags nodes row i in_flags in_nodes flag =
    ap (λ others. row ++ others) (picked_cons flags nodes i in_flags in_nodes ∙ ap (λ first. picked (first ∷ drop (i + 1) flags) (get_or nodes i 0 ∷ drop (i + 1) nodes)) flag)

no_nodes : (flags : List Bool) → picked flags [] ≡ []
no_nodes [] = refl
no_nodes (flag ∷ flags) = refl

pub picked_end : (flags : List Bool) (nodes row : List ℕ) (i : ℕ) → min (length flags) (length nodes) ≤ i → row ++ picked (drop i flags) (drop i nodes) ≡ row
picked_end flags nodes row i past = ap (λ others. row ++ others) (nothing (cases_lt i (length flags))) ∙ append-nil row
  where
    nothing : (i < length flags) ⊎ (length flags ≤ i) → picked (drop i flags) (drop i nodes) ≡ []
    nothing (inl within) = ap (picked (drop i flags)) (drop_all i nodes (omega arith)) ∙ no_nodes (drop i flags)
    nothing (inr beyond) = ap (λ fs. picked fs (drop i nodes)) (drop_all i flags beyond)

-- ---- flags

module _ (sizes : Expression → Option ℕ) where
  pub alone_step : (before : Bool) (es : List Expression) (i : ℕ) (e : Expression) → i < length es → e ≡ get_or es i e
      → alone_from sizes before (expressions_of (drop i es))
      ≡ (before && is_some (sizes e) && list_all (λ other. is_null (sizes other)) (drop (i + 1) es)) ∷ alone_from sizes (before && is_null (sizes e)) (expressions_of (drop (i + 1) es))
  alone_step before es i e within is =
      ap (λ others. alone_from sizes before (expressions_of others)) (expressions_step es i e within is)
      ∙ ap (λ others. (before && is_some (sizes e) && list_all (λ other. is_null (sizes other)) others) ∷ alone_from sizes (before && is_null (sizes e)) (expressions_of (drop (i + 1) es))) (list_of (drop (i + 1) es))

  -- one more component
  pub flags_step : (es : List Expression) (i : ℕ) (e : Expression) (size : Option ℕ) (before behind flag later : Bool) (all old new : List Bool) → i < length es → e ≡ get_or es i e
      → size ≡ sizes e → behind ≡ list_all (λ other. is_null (sizes other)) (drop (i + 1) es) → flag ≡ (before && is_some size && behind) → later ≡ (before && is_null size)
      → all ≡ old ++ alone_from sizes before (expressions_of (drop i es)) → new ≡ old ++ flag ∷ []
      → all ≡ new ++ alone_from sizes later (expressions_of (drop (i + 1) es))
  flags_step es i e size before behind flag later all old new within is size_is behind_is flag_is later_is so_far grown =
      let rest : Bool → List Bool = λ b. alone_from sizes b (expressions_of (drop (i + 1) es)) in
      so_far
      ∙ ap (λ flags. old ++ flags) (alone_step before es i e within is)
      ∙ (λ k. old ++ ((before && is_some (sym size_is k) && sym behind_is k) ∷ rest (before && is_null (sym size_is k))))
      ∙ (λ k. old ++ (sym flag_is k ∷ rest (sym later_is k)))
      ∙ sym (append_assoc old (flag ∷ []) (rest later))
      ∙ ap (λ flags. flags ++ rest later) (sym grown)

-- ---- the followers of a name

module _ (rules : Rules) (sizes : Expression → Option ℕ) where
  -- a name without a rule is followed by nothing
  pub no_rule : (name : List ℕ) → symbol rules name ≡ None → followers rules sizes 0 (expr.Name name) ≡ []
  no_rule name none =
      λ k. picked (option_map_or (λ right. is_told_inside right ∷ []) (option_and_then (right_side rules) (none k)) []) (option_map_or (λ sym. right_node rules sym ∷ []) (none k) [])

  pub with_rule : (name : List ℕ) (n : ℕ) (right : Expression) → symbol rules name ≡ Some n → right_side rules n ≡ Some right
      → followers rules sizes 0 (expr.Name name) ≡ picked (is_told_inside right ∷ []) (right_node rules n ∷ [])
  with_rule name n right numbered sided =
      (λ k. picked (option_map_or (λ right. is_told_inside right ∷ []) (option_and_then (right_side rules) (numbered k)) []) (option_map_or (λ sym. right_node rules sym ∷ []) (numbered k) []))
      ∙ ap (λ (o : Option Expression). picked (option_map_or (λ right. is_told_inside right ∷ []) o []) (right_node rules n ∷ [])) sided

  pub is_followed : (name : List ℕ) (n : ℕ) (right : Expression) → symbol rules name ≡ Some n → right_side rules n ≡ Some right → is_told_inside right ≡ true
      → followers rules sizes 0 (expr.Name name) ≡ right_node rules n ∷ []
  is_followed name n right numbered sided told = with_rule name n right numbered sided ∙ ap (λ flag. picked (flag ∷ []) (right_node rules n ∷ [])) told

  pub is_not_followed : (name : List ℕ) (n : ℕ) (right : Expression) → symbol rules name ≡ Some n → right_side rules n ≡ Some right → is_told_inside right ≡ false
      → followers rules sizes 0 (expr.Name name) ≡ []
  is_not_followed name n right numbered sided told = with_rule name n right numbered sided ∙ ap (λ flag. picked (flag ∷ []) (right_node rules n ∷ [])) told
