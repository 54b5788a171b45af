-- Where least sizes tell that one structure directly inside another can have all its atoms, the node of the one inside has a lower rank.
use Rattle.std.proofs.Common.{◌≡◌, ℕ, zero, suc, ◌<◌, Bool, true, ◌&&◌, [], ◌∷◌, length, slice_get, Option, Some, is_some, refl, sym, ap, ◌∙◌, inl, inr, arith, subst}
use Rattle.std.specs.Option.{option_map, option_map_or}
use Rattle.std.proofs.lemmas.Bool.{and_from}
use Rattle.std.proofs.lemmas.Option.{slice_get-map, same_Some}
use Rattle.spec_syntax.specs.Card.{admits}
use Rattle.spec_syntax.specs.Expression as expr
use Rattle.spec_syntax.specs.Expression.{Expression, Expressions, no_expressions, more_expressions, expression_list}
use Rattle.spec_syntax.specs.Grammar.{Grammar}
use Rattle.spec_syntax.specs.Nodes.{node_at, below, children_of}
use Rattle.struct_model.specs.Structure.{Structure, size}
use Rattle.lists.proofs.Places.{get_of_in}
use Rattle.lists.proofs.Tests.{all_from}
use Rattle.well_founded.specs.Checked.{Checked, IsChecked, grammar}
use Rattle.well_founded.specs.Least.{IsSize, least_with, size_of_name}
use Rattle.well_founded.specs.Rank.{CanFill, CanHaveAll, FallsBySizes}
use Rattle.well_founded.specs.SameSize.{is_null, alone_from, is_told_inside, fillable}
use Rattle.well_founded.specs.Sizes.{IsOf, IsLeast, no_least}
use Rattle.well_founded.specs.WellFounded.{may_hold_cycles}
use Rattle.well_founded.proofs.CyclesLaws.{node_allowed}
use Rattle.well_founded.proofs.LeastRounds.{sizes_exist}
use Rattle.well_founded.proofs.SameSizeLaws.{some_size, null_size, wraps}
use Rattle.well_founded.proofs.SameSizeSteps.{Inner, below_inner, inner_below}

-- an argument that has a structure, where all others can be empty, is told to be able to have all atoms
alone_told : (sizes : Expression → Option ℕ) (before : Bool) (es : Expressions) (place : ℕ) (f : Expression) → before ≡ true → slice_get (expression_list es) place ≡ Some f → is_some (sizes f) ≡ true
    → ((other : ℕ) (d : Expression) → slice_get (expression_list es) other ≡ Some d → (other ≡ place → ⊥) → is_null (sizes d) ≡ true)
    → slice_get (alone_from sizes before es) place ≡ Some true
alone_told sizes before no_expressions place f able at some others = absurd (cc)
alone_told sizes before (more_expressions e es) zero f able at some others =
    let this : f ≡ e = cc in
    let behind = all_from (λ other. is_null (sizes other)) (expression_list es) (λ d there. let k = get_of_in (expression_list es) d there in others (suc k.0) d k.1 (λ same. apart k.0 same)) in
    ap Some (and_from _ _ (and_from _ _ able (ap (λ d. is_some (sizes d)) (sym this) ∙ some)) behind)
  where
    apart : (k : ℕ) → suc k ≡ 0 → ⊥
    apart k same = omega arith
alone_told sizes before (more_expressions e es) (suc place) f able at some others =
    alone_told sizes (before && is_null (sizes e)) es place f (and_from _ _ able (others 0 e refl apart)) at some (λ other d there no. others (suc other) d there (λ same. no (back other same)))
  where
    apart : 0 ≡ suc place → ⊥
    apart same = omega arith

    back : (k : ℕ) → suc k ≡ suc place → k ≡ place
    back k same = omega arith

module _ (checked : Checked) (ok : IsChecked checked) where
  abbrev g : Grammar
  g = grammar checked

  abbrev sizes : Expression → Option ℕ
  sizes = least_with (size_of_name checked.rules (sizes_exist checked.rules).0)

  sized : (e : Expression) → may_hold_cycles g e ≡ true → IsSize g e (sizes e)
  sized e allowed = (sizes_exist checked.rules).1.each checked.universe e ok.well_founded.no_cycles allowed

  allowed_at : (n : ℕ) (e : Expression) → node_at checked.rules n ≡ Some e → may_hold_cycles g e ≡ true
  allowed_at n e at = node_allowed g n e ok.well_founded.no_cycles at

  -- a node whose least size can be asked for has a structure
  made : (e : Expression) (least : ℕ) → IsLeast g e least → least < no_least → (s : Structure) × IsOf g e s × (size s ≡ least)
  made e least (inl h) low = (h.1.smallest, h.1.is_of, h.1.has_size)
  made e least (inr h) low = absurd (omega (arith, h.0))

  made_at : (n least : ℕ) (e : Expression) → node_at checked.rules n ≡ Some e → slice_get checked.leasts n ≡ Some least → least < no_least → (s : Structure) × IsOf g e s × (size s ≡ least)
  made_at n least e at sized_is low = made e least (ok.least.each n least e at sized_is) low

  null_at : (n : ℕ) (e : Expression) → node_at checked.rules n ≡ Some e → slice_get checked.leasts n ≡ Some 0 → is_null (sizes e) ≡ true
  null_at n e at sized_is = let s = made_at n 0 e at sized_is (omega arith) in null_size g sizes sized e s.0 (allowed_at n e at) s.1 s.2

  -- the place is told to be filled
  told : (n place m : ℕ) (e : Expression) (in_there : Inner checked.rules e place m) → node_at checked.rules n ≡ Some e → is_some (sizes in_there.0) ≡ true
      → CanHaveAll checked.rules checked.leasts n e place m → slice_get (fillable checked.rules sizes e) place ≡ Some true
  told n place m expr.Epsilon f at some able = absurd able
  told n place m expr.Atom f at some able = absurd able
  told n zero m (expr.Name name) f at some able =
      ap (λ (o : Option Expression). slice_get (option_map_or (λ right. is_told_inside right ∷ []) o []) 0) f.1 ∙ ap Some (able f.0 f.2)
  told n (suc place) m (expr.Name name) f at some able = absurd (cc)
  told n place m (expr.Union es) f at some able =
      slice_get-map (λ e. is_some (sizes e)) (expression_list es) place ∙ ap (option_map (λ e. is_some (sizes e))) f.1 ∙ ap Some some
  told n place m (expr.Prod es) f at some able =
      alone_told sizes true es place f.0 refl f.1 some (λ other d there no.
      let k = inner_below checked.rules n (expr.Prod es) other d there in
      let inside = below_inner checked.rules n (expr.Prod es) other k.0 at k.1 in
      let same : inside.0 ≡ d = same_Some inside.0 d (sym inside.1 ∙ there) in
      subst (λ (h : Expression). is_null (sizes h) ≡ true) same (null_at k.0 inside.0 inside.2 (able other k.0 k.1 no)))
  told n zero m (expr.Many kind element card) f at some able =
      let same : element ≡ f.0 = same_Some element f.0 f.1 in
      ap Some (and_from (admits card 1) (is_some (sizes element)) able (ap (λ e. is_some (sizes e)) same ∙ some))
  told n (suc place) m (expr.Many kind element card) f at some able = absurd (cc)

  pub falls_by_sizes : (n rank : ℕ) (e : Expression) → node_at checked.rules n ≡ Some e → slice_get checked.ranks n ≡ Some rank
      → FallsBySizes checked.rules checked.leasts checked.ranks n e rank
  falls_by_sizes n rank e at ranked place m least r there sized_is lower low able =
      let inside = below_inner checked.rules n e place m at there in
      let t = made_at m least inside.0 inside.2 sized_is low in
      let flag = told n place m e inside at (some_size g sizes sized inside.0 t.0 (allowed_at m inside.0 inside.2) t.1) able in
      let around = wraps g sizes sized e place inside.0 t.0 (allowed_at n e at) flag inside.1 t.1 in
      let fill : CanFill g e place inside.0 = record { outer = around.0; inner = t.0; is_outer = around.1; is_inner = t.1; stands = around.2; same_size = ap length (sym around.3) } in
      (ok.ranked.each n rank e at ranked).falls place m r inside.0 there inside.2 lower fill
