-- What stands inside a structure of the same size goes along the graph of one size, and what the graph leads to can be
-- had inside.
use Rattle.std.proofs.Common.{◌≡◌, ◌⊎◌, ◌↔◌, inl, inr, ℕ, zero, suc, ◌≤◌, ◌<◌, true, false, not, ◌&&◌, ◌||◌, List, [], ◌∷◌, length, refl, sym, ap, ◌∙◌, subst, arith, true≢false, nat_eq, slice_get, Option, Some, None, length-append}
use Rattle.std.specs.Option.{option_map, option_map_or}
use Rattle.std.proofs.lemmas.Option.{same_Some}
use Rattle.std.proofs.lemmas.Bool.{and_parts, eqb-true}
use Rattle.spec_syntax.specs.Expression as expr
use Rattle.spec_syntax.specs.Expression.{Expression, preorder}
use Rattle.spec_syntax.specs.Rules.{Rules, symbol, right_side}
use Rattle.spec_syntax.specs.Grammar.{Grammar}
use Rattle.spec_syntax.proofs.RulesLemmas.{symbol-within, symbol_right}
use Rattle.struct_model.specs.declared.tree.Form5.{Form5}
use Rattle.struct_model.specs.declared.tree.Form5.TheVariants as form
use Rattle.struct_model.specs.Structure.{Structure, Eps, Atom, Named, Alt, Tup, Structures, no_parts, more_parts, part_list, labels, labels_of_parts, size}
use Rattle.lists.specs.Enumeration.{IsIn}
use Rattle.lists.proofs.Enumerated.{from_flat_map}
use Rattle.struct_model.specs.Membership.{is_of, is_epsilon, is_atom, is_label}
use Rattle.spec_syntax.proofs.NodeRanges.{child_is_no_root, roots_differ}
use Rattle.well_founded.specs.Sets.{all_with_sets, reading_sets}
use Rattle.well_founded.specs.Sizes.{IsOf, IsProductive}
use Rattle.well_founded.specs.Least.{IsSize, least_with, size_of_name}
use Rattle.well_founded.specs.Inside.{IsInside, IsAmong}
use Rattle.well_founded.specs.WellFounded.{may_hold_cycles, HoldsItself, HoldsCycle, HoldsNull, OfNone}
use Rattle.spec_syntax.specs.Nodes.{node_at, right_node, children_of, below}
use Rattle.well_founded.specs.Rank.{StandsAt}
use Rattle.graphs.specs.Graph.{Graph, next, LeadsBy, Leads}
use Rattle.well_founded.specs.SameSize.{is_told_inside, fillable, same_size_graph}
use Rattle.well_founded.proofs.SetsLaws.{symbol_reading}
use Rattle.well_founded.proofs.CyclesLaws.{node_allowed}
use Rattle.well_founded.proofs.ManyLaws.{form_of, many_is, within_stands}
use Rattle.lists.proofs.Places.{in_of_get, get_of_in}
use Rattle.graphs.proofs.Reached.{step_leads, leads_step, last_step}
use Rattle.well_founded.proofs.LeastRounds.{sizes_exist}
use Rattle.well_founded.proofs.LeastLaws.{rule_read, name_inside, name_is}
use Rattle.well_founded.proofs.SameSizeLaws.{IsFull, fills, wraps, no_argument_0, part_size, told}
use Rattle.well_founded.proofs.SameSizeSteps.{IsStep, from_step, step_at, to_step}
use Rattle.spec_syntax.proofs.NodesLemmas.{right_node_is, in_nodes}

-- ---- inside

mutual
  -- what stands inside has no more atoms
  pub inside_size : (t s : Structure) → IsInside t s → size t ≤ size s
  inside_size t (Eps x) h = absurd h
  inside_size t (Atom x l) h = absurd h
  inside_size t (Named x s) (inl same) = omega (arith, ap size same)
  inside_size t (Named x s) (inr h) = inside_size t s h
  inside_size t (Alt k s) (inl same) = omega (arith, ap size same)
  inside_size t (Alt k s) (inr h) = inside_size t s h
  inside_size t (Tup f ss) h = among_size t ss h

  among_size : (t : Structure) (ss : Structures) → IsAmong t ss → size t ≤ length (labels_of_parts ss)
  among_size t no_parts h = absurd h
  among_size t (more_parts s ss) (inl same) = omega (arith, ap size same, length-append (labels s) (labels_of_parts ss))
  among_size t (more_parts s ss) (inr (inl h)) = omega (arith, inside_size t s h, length-append (labels s) (labels_of_parts ss))
  among_size t (more_parts s ss) (inr (inr h)) = omega (arith, among_size t ss h, length-append (labels s) (labels_of_parts ss))

mutual
  pub inside_trans : (t u s : Structure) → IsInside t u → IsInside u s → IsInside t s
  inside_trans t u (Eps x) h k = absurd k
  inside_trans t u (Atom x l) h k = absurd k
  inside_trans t u (Named x s) h (inl same) = inr (subst (IsInside t) same h)
  inside_trans t u (Named x s) h (inr k) = inr (inside_trans t u s h k)
  inside_trans t u (Alt a s) h (inl same) = inr (subst (IsInside t) same h)
  inside_trans t u (Alt a s) h (inr k) = inr (inside_trans t u s h k)
  inside_trans t u (Tup f ss) h k = among_trans t u ss h k

  among_trans : (t u : Structure) (ss : Structures) → IsInside t u → IsAmong u ss → IsAmong t ss
  among_trans t u no_parts h k = absurd k
  among_trans t u (more_parts s ss) h (inl same) = inr (inl (subst (IsInside t) same h))
  among_trans t u (more_parts s ss) h (inr (inl k)) = inr (inl (inside_trans t u s h k))
  among_trans t u (more_parts s ss) h (inr (inr k)) = inr (inr (among_trans t u ss h k))

-- it is the one directly inside, or stands inside that
abbrev Directly : Structure → Structure → Type 0
Directly t s = (place : ℕ) × (u : Structure) × StandsAt s place u × ((t ≡ u) ⊎ IsInside t u)

among_directly : (t : Structure) (ss : Structures) → IsAmong t ss → (place : ℕ) × (u : Structure) × (slice_get (part_list ss) place ≡ Some u) × ((t ≡ u) ⊎ IsInside t u)
among_directly t no_parts h = absurd h
among_directly t (more_parts s ss) (inl same) = (0, s, refl, inl same)
among_directly t (more_parts s ss) (inr (inl h)) = (0, s, refl, inr h)
among_directly t (more_parts s ss) (inr (inr h)) = let found = among_directly t ss h in (suc found.0, found.1, found.2, found.3)

part_in : (f : Form5) (ss : Structures) (place : ℕ) (u : Structure) → StandsAt (Tup f ss) place u → IsIn u (part_list ss)
part_in form.Prod ss place u stands = in_of_get (part_list ss) place u stands
part_in form.Sequence ss place u stands = stands.1
part_in form.Set ss place u stands = stands.1
part_in form.PowerSet ss place u stands = stands.1
part_in form.Cycle ss place u stands = stands.1

pub in_size : (ss : Structures) (u : Structure) → IsIn u (part_list ss) → size u ≤ length (labels_of_parts ss)
in_size ss u there = let found = get_of_in (part_list ss) u there in part_size ss found.0 u found.1

-- what stands directly inside has no more atoms
pub direct_size : (s : Structure) (place : ℕ) (u : Structure) → StandsAt s place u → size u ≤ size s
direct_size (Eps x) place u stands = absurd stands
direct_size (Atom x l) place u stands = absurd stands
direct_size (Named x s) place u stands = omega (arith, ap size stands.1)
direct_size (Alt k s) place u stands = omega (arith, ap size stands.1)
direct_size (Tup f ss) place u stands = in_size ss u (part_in f ss place u stands)

or_inside_size : (t u : Structure) → (t ≡ u) ⊎ IsInside t u → size t ≤ size u
or_inside_size t u (inl same) = omega (arith, ap size same)
or_inside_size t u (inr h) = inside_size t u h

module _ (g : Grammar) where
  directly : (e : Expression) (s t : Structure) → IsOf g e s → IsInside t s → Directly t s
  directly (expr.Many kind element card) s t of h =
      let many = many_is g kind element card s of in
      let found = among_directly t many.parts (subst (IsInside t) many.is h) in
      (0, found.1, subst (λ (v : Structure). StandsAt v 0 found.1) (sym many.is) (within_stands kind many.parts found.1 (in_of_get (part_list many.parts) found.0 found.1 found.2)), found.3)
  directly e (Eps x) t of h = absurd h
  directly e (Atom x l) t of h = absurd h
  directly (expr.Name name) (Named x s) t of h = (0, s, (refl, refl), h)
  directly (expr.Union es) (Alt zero s) t of h =
      absurd (true≢false (sym of ∙ ap (λ o. option_map_or (λ e. is_of (reading_sets g) e s) o false) (no_argument_0 (all_with_sets es))))
  directly (expr.Union es) (Alt (suc k) s) t of h = (k, s, (refl, refl), h)
  directly (expr.Prod es) (Tup form.Prod ss) t of h = among_directly t ss h
  directly e s t of h = absurd (true≢false (sym of))

  -- no structure of the element of a container that is a node is empty
  pub node_full : (n : ℕ) (e : Expression) → OfNone (HoldsNull g) g.rules → node_at g.rules n ≡ Some e → IsFull g e
  node_full n (expr.Many kind element card) none at =
      let rule = from_flat_map (λ (rule : List ℕ × Expression). preorder rule.1) g.rules (expr.Many kind element card) (in_nodes g.rules n (expr.Many kind element card) at) in
      λ s of empty. none rule.0.0 rule.0.1 rule.1 (record { kind = kind; element = element; card = card; held = rule.2; empty = s; is_of = of; is_empty = empty })
  node_full n e none at = tt

  -- ---- names

  -- the number that a structure of a name is told by
  pub rule_of : Structure → ℕ
  rule_of (Eps x) = x
  rule_of (Atom x l) = x
  rule_of (Named x s) = x
  rule_of s = 0

  pub numbered_as : (name : List ℕ) (t : Structure) → IsOf g (expr.Name name) t → symbol g.rules name ≡ Some (rule_of t)
  unfolding rule_of
  numbered_as name (Eps x) of = (rule_read g name x is_epsilon of).numbered
  numbered_as name (Atom x l) of = (rule_read g name x is_atom (and_parts _ _ of).0).numbered
  numbered_as name (Named x s) of = (name_inside g name x s of).numbered
  numbered_as name t of = absurd (true≢false (sym of))

  no_rule_0 : (name : List ℕ) (n : ℕ) → symbol g.rules name ≡ Some n → n ≡ 0 → ⊥
  no_rule_0 name n numbered zero_is = omega (arith, (symbol-within g.rules name n numbered).0)

  -- a name has no list of components
  no_list : (name : List ℕ) (f : Form5) (ss : Structures) (t : Structure) → t ≡ Tup f ss → IsOf g (expr.Name name) t → ⊥
  no_list name f ss t is of = true≢false (sym (subst (λ (u : Structure). IsOf g (expr.Name name) u) is of))

  -- an expression with a structure of a rule's name is a name of the rule
  same_rule : (name : List ℕ) (r : ℕ) (f : Expression) (t : Structure) → symbol g.rules name ≡ Some r
      → IsOf g (expr.Name name) t → IsOf g f t → (y : List ℕ) × (f ≡ expr.Name y) × (symbol g.rules y ≡ Some r)
  unfolding rule_of
  same_rule name r (expr.Many kind element card) t numbered of other =
      let many = many_is g kind element card t other in
      absurd (no_list name (form_of kind) many.parts t many.is of)
  same_rule name r (expr.Name y) t numbered of other =
      (y, refl, numbered_as y t other ∙ sym (numbered_as name t of) ∙ numbered)
  same_rule name r expr.Epsilon (Eps x) numbered of other = absurd (no_rule_0 name x (numbered_as name (Eps x) of) (eqb-true x 0 other))
  same_rule name r expr.Atom (Atom x l) numbered of other = absurd (no_rule_0 name x (numbered_as name (Atom x l) of) (eqb-true x 0 (and_parts _ _ other).0))
  same_rule name r (expr.Union es) (Alt k s) numbered of other = absurd (true≢false (sym of))
  same_rule name r (expr.Prod es) (Tup f ss) numbered of other = absurd (true≢false (sym of))
  same_rule name r f t numbered of other = absurd (true≢false (sym other))

  -- two names of one rule have the same structures
  names_alike : (x y : List ℕ) (t : Structure) → symbol g.rules x ≡ symbol g.rules y → is_of g (expr.Name x) t ≡ is_of g (expr.Name y) t
  names_alike x y (Eps n) same = ap (λ o. option_map_or (nat_eq n) o false && option_map_or is_epsilon (right_side g.rules n) false) same
  names_alike x y (Atom n l) same = ap (λ o. (option_map_or (nat_eq n) o false && option_map_or is_atom (right_side g.rules n) false) && is_label g.universe l) same
  names_alike x y (Named n s) same =
      ap (λ o. option_map_or (nat_eq n) o false && option_map_or (λ right. not (is_epsilon right || is_atom right) && is_of g right s) (right_side g.rules n) false) same
  names_alike x y t same = refl

same_names : (g : Grammar) (x y : List ℕ) (t : Structure) → symbol g.rules x ≡ symbol g.rules y → IsOf g (expr.Name x) t → IsOf g (expr.Name y) t
same_names g x y t same of = sym (names_alike (reading_sets g) x y t (symbol_reading g x ∙ same ∙ sym (symbol_reading g y))) ∙ of

-- ---- right sides' nodes

side_within : (rules : Rules) (i : ℕ) (right : Expression) → option_map (λ (rule : List ℕ × Expression). rule.1) (slice_get rules i) ≡ Some right → i < length rules
side_within [] i right sided = absurd (cc)
side_within (rule ∷ rules) zero right sided = omega arith
side_within (rule ∷ rules) (suc i) right sided = omega (arith, side_within rules i right sided)

same_root : (rules : Rules) (n r : ℕ) (first second : Expression) → right_side rules n ≡ Some first → right_side rules r ≡ Some second → right_node rules n ≡ right_node rules r → n ≡ r
same_root rules zero r first second left right same = absurd (cc)
same_root rules (suc n) zero first second left right same = absurd (cc)
same_root rules (suc n) (suc r) first second left right same = ap suc (roots_differ rules n r (side_within rules n first left) (side_within rules r second right) same)

no_child : (rules : Rules) (m : ℕ) (e : Expression) (place r : ℕ) (right : Expression) → right_side rules r ≡ Some right → node_at rules m ≡ Some e
    → slice_get (children_of m e) place ≡ Some (right_node rules r) → ⊥
no_child rules m e place zero right sided at there = cc
no_child rules m e place (suc r) right sided at there = child_is_no_root rules m e place (right_node rules (suc r)) r at there refl

-- ---- ways

module _ (g : Grammar) (sizes : Expression → Option ℕ) (allows : OfNone (HoldsCycle g) g.rules)
    (sized : (e : Expression) → may_hold_cycles g e ≡ true → IsSize g e (sizes e)) where
  abbrev graph : Graph
  graph = same_size_graph g.rules sizes

  -- from a name there is a step to the right side of its rule, unless that is a word
  name_step : (n : ℕ) (name : List ℕ) (r : ℕ) (right : Expression) → node_at g.rules n ≡ Some (expr.Name name) → symbol g.rules name ≡ Some r → right_side g.rules r ≡ Some right
      → is_told_inside right ≡ true → IsIn (right_node g.rules r) (next graph n)
  name_step n name r right at numbered sided is_told =
      let told_is = told g sizes sized name r right numbered sided in
      step_at g.rules sizes n (expr.Name name) 0 (right_node g.rules r) at (ap (λ flags. slice_get flags 0) told_is.1 ∙ ap Some is_told)
      (ap (λ o. slice_get (option_map_or (λ number. right_node g.rules number ∷ []) o []) 0) numbered)

  -- ---- up

  -- a structure of the node's expression with this one inside it and no other label
  abbrev pub GoesUp : ℕ → Structure → Type 0
  GoesUp n t = (e : Expression) × (s : Structure) × (node_at g.rules n ≡ Some e) × IsOf g e s × IsInside t s × (labels s ≡ labels t)

  step_up : (n m : ℕ) (f : Expression) (t : Structure) → IsIn m (next graph n) → node_at g.rules m ≡ Some f → IsOf g f t → GoesUp n t
  step_up n m f t step at of =
      let found = from_step g.rules sizes n m step in
      let this : found.inside ≡ f = same_Some found.inside f (sym found.at_inside ∙ at) in
      let around = wraps g sizes sized found.outer found.place f t (node_allowed g n found.outer allows found.at_outer) found.filled (found.is_inner ∙ ap Some this) of in
      (found.outer, around.0, found.at_outer, around.1, around.4, around.3)

  way_up : (between n m : ℕ) (f : Expression) (t : Structure) → LeadsBy graph between n m → node_at g.rules m ≡ Some f → IsOf g f t → GoesUp n t
  way_up zero n m f t way at of = step_up n m f t way at of
  way_up (suc between) n m f t way at of =
      let rest = way_up between way.0 m f t way.2 at of in
      let this = step_up n way.0 rest.0 rest.1 way.1 rest.2 rest.3 in
      (this.0, this.1, this.2, this.3, inside_trans t rest.1 this.1 rest.4 this.4, this.5 ∙ rest.5)

  -- where one gets from a node to another, each structure of the other stands inside one of the first
  pub up : (n m : ℕ) (f : Expression) (t : Structure) → Leads graph n m → node_at g.rules m ≡ Some f → IsOf g f t → GoesUp n t
  up n m f t way at of = way_up way.0 n m f t way.1 at of

  -- ---- round

  -- a node with a step to a rule's right side is a name of the rule, whose structures are told inside
  record IsBefore (r : ℕ) (right : Expression) (m : ℕ) : Type 0 where
    pub name : List ℕ
    pub at : node_at g.rules m ≡ Some (expr.Name name)
    pub numbered : symbol g.rules name ≡ Some r
    pub is_told : is_told_inside right ≡ true

  into_right : (m r : ℕ) (right : Expression) → right_side g.rules r ≡ Some right → IsIn (right_node g.rules r) (next graph m) → IsBefore r right m
  into_right m r right sided step = by found.outer found.place found.at_outer found.filled found.there
    where
      found : IsStep g.rules sizes m (right_node g.rules r)
      found = from_step g.rules sizes m (right_node g.rules r) step

      named : (name : List ℕ) (o : Option ℕ) (place : ℕ) → node_at g.rules m ≡ Some (expr.Name name) → symbol g.rules name ≡ o
          → slice_get (fillable g.rules sizes (expr.Name name)) place ≡ Some true
          → slice_get (option_map_or (λ number. right_node g.rules number ∷ []) o []) place ≡ Some (right_node g.rules r) → IsBefore r right m
      named name None place at is filled there = absurd (cc)
      named name (Some n) (suc place) at is filled there = absurd (cc)
      named name (Some n) zero at is filled there =
          let root : right_node g.rules n ≡ right_node g.rules r = cc in
          let side = symbol_right g.rules name n is in
          let same : n ≡ r = same_root g.rules n r side.0 right side.1 sided root in
          let numbered : symbol g.rules name ≡ Some r = is ∙ ap Some same in
          let flags = told g sizes sized name r right numbered sided in
          record { name = name; at = at; numbered = numbered; is_told = same_Some (is_told_inside right) true (sym (ap (λ flags. slice_get flags 0) flags.1) ∙ filled) }

      child : (e : Expression) (place : ℕ) → node_at g.rules m ≡ Some e → slice_get (children_of m e) place ≡ Some (right_node g.rules r) → ⊥
      child e place at there = no_child g.rules m e place r right sided at there

      by : (e : Expression) (place : ℕ) → node_at g.rules m ≡ Some e → slice_get (fillable g.rules sizes e) place ≡ Some true
          → slice_get (below g.rules m e) place ≡ Some (right_node g.rules r) → IsBefore r right m
      by (expr.Name name) place at filled there = named name (symbol g.rules name) place at refl filled there
      by (expr.Union es) place at filled there = absurd (child (expr.Union es) place at there)
      by (expr.Prod es) place at filled there = absurd (child (expr.Prod es) place at there)
      by expr.Epsilon place at filled there = absurd (child expr.Epsilon place at there)
      by expr.Atom place at filled there = absurd (child expr.Atom place at there)
      by (expr.Many kind element card) place at filled there = absurd (child (expr.Many kind element card) place at there)

  -- where a rule's right side leads back to itself, each structure of the name stands inside another one with the same labels
  pub grow : (name : List ℕ) (r : ℕ) (t : Structure) → symbol g.rules name ≡ Some r → Leads graph (right_node g.rules r) (right_node g.rules r) → IsOf g (expr.Name name) t
      → (s : Structure) × IsOf g (expr.Name name) s × IsInside t s × (labels s ≡ labels t)
  grow name r t numbered way of =
      let right = symbol_right g.rules name r numbered in
      let at = right_node_is g.rules r right.0 right.1 in
      let last = last_step graph (right_node g.rules r) (right_node g.rules r) way in
      let before = into_right last.0 r right.0 right.1 last.2 in
      let of_before : IsOf g (expr.Name before.name) t = same_names g name before.name t (numbered ∙ sym before.numbered) of in
      let wrapped : (s : Structure) → IsOf g right.0 s → IsOf g (expr.Name name) (Named r s) = λ s of_s. name_is g name r right.0 s numbered right.1 before.is_told of_s in
      elim (last.1) [
        | inl same ↦
            let this : expr.Name before.name ≡ right.0 = same_Some (expr.Name before.name) right.0 (sym before.at ∙ ap (node_at g.rules) (sym same) ∙ at) in
            (Named r t, wrapped t (subst (λ (e : Expression). IsOf g e t) this of_before), inl refl, refl)
        | inr way ↦
            let around = up (right_node g.rules r) last.0 (expr.Name before.name) t way before.at of_before in
            let this : around.0 ≡ right.0 = same_Some around.0 right.0 (sym around.2 ∙ at) in
            (Named r around.1, wrapped around.1 (subst (λ (e : Expression). IsOf g e around.1) this around.3), inr around.4, around.5)
      ]

  -- where its right side leads back to itself, a rule with a structure holds itself
  pub leads_holds : (name : List ℕ) (r : ℕ) → symbol g.rules name ≡ Some r → IsProductive g (expr.Name name) → Leads graph (right_node g.rules r) (right_node g.rules r)
      → HoldsItself g name
  leads_holds name r numbered productive way =
      let grown = grow name r productive.0 numbered way productive.1 in
      record {
        outer = grown.0;
        inner = productive.0;
        is_outer = grown.1;
        is_inner = productive.1;
        inside = grown.2;
        same_size = ap length (sym grown.3);
      }

  module _ (full : OfNone (HoldsNull g) g.rules) where
    -- ---- down

    -- what stands inside it of the same size is a structure of a node that one gets to
    abbrev GoesDown : Structure → Type 0
    GoesDown s = (n : ℕ) (e : Expression) (t : Structure) → node_at g.rules n ≡ Some e → IsOf g e s → IsInside t s → size t ≡ size s
        → (m : ℕ) × (f : Expression) × Leads graph n m × (node_at g.rules m ≡ Some f) × IsOf g f t

    step_down : (s : Structure) → ((place : ℕ) (u : Structure) → StandsAt s place u → GoesDown u) → GoesDown s
    step_down s deeper n e t at of h same =
        let found = directly g e s t of h in
        let below_size = or_inside_size t found.1 found.3 in
        let above_size = direct_size s found.0 found.1 found.2 in
        let same_size : size found.1 ≡ size s = both_sizes (size found.1) below_size above_size in
        let flagged = fills g sizes sized e s found.0 found.1 (node_allowed g n e allows at) (node_full g n e full at) of found.2 same_size in
        let step = to_step g.rules sizes n e found.0 flagged.0 at flagged.3 flagged.1 in
        elim (found.3) [
          | inl itself ↦ (step.0, flagged.0, (zero, step.1), step.2, subst (λ (u : Structure). IsOf g flagged.0 u) (sym itself) flagged.2)
          | inr inside ↦
              let rest : (m : ℕ) × (f : Expression) × Leads graph step.0 m × (node_at g.rules m ≡ Some f) × IsOf g f t =
              deeper found.0 found.1 found.2 step.0 flagged.0 t step.2 flagged.2 inside (same ∙ sym same_size) in
              (rest.0, rest.1, step_leads graph n step.0 rest.0 step.1 rest.2, rest.3, rest.4)
        ]
      where
        both_sizes : (k : ℕ) → size t ≤ k → k ≤ size s → k ≡ size s
        both_sizes k a b = omega arith

    mutual
      pub down : (s : Structure) → GoesDown s
      down (Eps x) = step_down (Eps x) (λ place u stands. absurd stands)
      down (Atom x l) = step_down (Atom x l) (λ place u stands. absurd stands)
      down (Named x s) = step_down (Named x s) (λ place u stands. subst GoesDown stands.1 (down s))
      down (Alt k s) = step_down (Alt k s) (λ place u stands. subst GoesDown stands.1 (down s))
      down (Tup f ss) = step_down (Tup f ss) (λ place u stands. down_parts ss u (part_in f ss place u stands))

      down_parts : (ss : Structures) (u : Structure) → IsIn u (part_list ss) → GoesDown u
      down_parts no_parts u h = absurd h
      down_parts (more_parts s ss) u (inl same) = subst GoesDown (sym same) (down s)
      down_parts (more_parts s ss) u (inr there) = down_parts ss u there

    -- a structure of a name stands inside one of the right side or is it: there is a way back to the right side
    back_down : (name : List ℕ) (r : ℕ) (right : Expression) (s t : Structure) → symbol g.rules name ≡ Some r → right_side g.rules r ≡ Some right
        → is_told_inside right ≡ true → IsOf g right s → IsOf g (expr.Name name) t → size t ≡ size s → (t ≡ s) ⊎ IsInside t s
        → Leads graph (right_node g.rules r) (right_node g.rules r)
    back_down name r right s t numbered sided is_told of_s of_t same (inl itself) =
        let at = right_node_is g.rules r right sided in
        let other = same_rule g name r right t numbered of_t (subst (λ (u : Structure). IsOf g right u) (sym itself) of_s) in
        (zero, name_step (right_node g.rules r) other.0 r right (at ∙ ap Some other.1) other.2 sided is_told)
    back_down name r right s t numbered sided is_told of_s of_t same (inr inside) =
        let at = right_node_is g.rules r right sided in
        let found = down s (right_node g.rules r) right t at of_s inside same in
        let other = same_rule g name r found.1 t numbered of_t found.4 in
        leads_step graph (right_node g.rules r) found.0 (right_node g.rules r) found.2
        (name_step found.0 other.0 r right (found.3 ∙ ap Some other.1) other.2 sided is_told)

    holds_down : (name : List ℕ) (r : ℕ) (right : Expression) (outer t : Structure) → symbol g.rules name ≡ Some r → right_side g.rules r ≡ Some right
        → IsOf g (expr.Name name) outer → IsOf g (expr.Name name) t → IsInside t outer → size t ≡ size outer
        → Leads graph (right_node g.rules r) (right_node g.rules r)
    holds_down name r right (Eps x) t numbered sided of_outer of_t h same = absurd h
    holds_down name r right (Atom x l) t numbered sided of_outer of_t h same = absurd h
    holds_down name r right (Named x s) t numbered sided of_outer of_t h same =
        let inside = name_inside g name x s of_outer in
        let number : x ≡ r = same_Some x r (sym inside.numbered ∙ numbered) in
        let this : inside.right ≡ right = same_Some inside.right right (sym inside.sided ∙ ap (right_side g.rules) number ∙ sided) in
        back_down name r right s t numbered sided (subst (λ (e : Expression). is_told_inside e ≡ true) this inside.told) (subst (λ (e : Expression). IsOf g e s) this inside.is) of_t same h
    holds_down name r right s t numbered sided of_outer of_t h same = absurd (true≢false (sym of_outer))

    -- a rule that holds itself leads back to its right side
    pub holds_leads : (name : List ℕ) (r : ℕ) → symbol g.rules name ≡ Some r → HoldsItself g name → Leads graph (right_node g.rules r) (right_node g.rules r)
    holds_leads name r numbered h =
        let right = symbol_right g.rules name r numbered in
        holds_down name r right.0 h.outer h.inner numbered right.1 h.is_outer h.is_inner h.inside h.same_size

    -- a rule with a structure holds itself exactly where its right side's node leads to itself
    pub endless_is : (name : List ℕ) (r : ℕ) → symbol g.rules name ≡ Some r → IsProductive g (expr.Name name)
        → HoldsItself g name ↔ Leads graph (right_node g.rules r) (right_node g.rules r)
    endless_is name r numbered productive = (holds_leads name r numbered, leads_holds name r numbered productive)

-- in a grammar where a rule holds itself, and the other faults don't stand, each structure of its name stands inside another one
-- with the same labels
pub grows : (g : Grammar) (name : List ℕ) (t : Structure) → OfNone (HoldsCycle g) g.rules → OfNone (HoldsNull g) g.rules → HoldsItself g name → IsOf g (expr.Name name) t
    → (s : Structure) × IsOf g (expr.Name name) s × IsInside t s × (labels s ≡ labels t)
grows g name t allows full holds of =
    let table = sizes_exist g.rules in
    let sizes : Expression → Option ℕ = least_with (size_of_name g.rules table.0) in
    let sized : (e : Expression) → may_hold_cycles g e ≡ true → IsSize g e (sizes e) = λ e allowed. table.1.each g.universe e allows allowed in
    let numbered = numbered_as g name t of in
    let way = holds_leads g sizes allows sized full name (rule_of g t) numbered holds in
    grow g sizes allows sized name (rule_of g t) t numbered way of
