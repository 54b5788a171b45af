-- Where the rank falls on each way down on which the size stays, the structures of each node lie within the bounds.
use Rattle.std.proofs.Common.{◌≡◌, ℕ, zero, suc, ◌+◌, ◌*◌, ◌<◌, ◌≤◌, Bool, true, nat_eq, List, [], ◌∷◌, ◌++◌, length, refl, sym, ap, ◌∙◌, subst, inl, inr, arith, true≢false, length-append, Some, slice_get}
use Rattle.std.specs.Option.{option_map_or}
use Rattle.std.proofs.lemmas.Bool.{and_parts, eqb-true, cases_lt}
use Rattle.std.proofs.lemmas.Nat.{mul-le}
use Rattle.std.proofs.lemmas.Option.{slice_get_within}
use Rattle.spec_syntax.specs.declared.expr.Card.{Card}
use Rattle.spec_syntax.specs.declared.expr.Kind.{Kind}
use Rattle.spec_syntax.specs.Expression as expr
use Rattle.spec_syntax.specs.Expression.{Expression, Expressions, no_expressions, more_expressions, expression_list, expressions_of}
use Rattle.spec_syntax.specs.Rules.{Rules, symbol, right_side, all_nodes}
use Rattle.spec_syntax.specs.Grammar.{Grammar}
use Rattle.spec_syntax.proofs.RulesLemmas.{symbol-within, some_right}
use Rattle.struct_model.specs.declared.tree.Form5.{Form5}
use Rattle.struct_model.specs.declared.tree.Form5.TheVariants as form
use Rattle.struct_model.specs.Structure.{Structure, Eps, Atom, Named, Alt, Tup, Structures, no_parts, more_parts, part_list, labels, labels_of_parts, size}
use Rattle.struct_model.specs.Membership.{is_of, are_of, are_of_each, argument, names, is_epsilon, is_atom}
use Rattle.lists.specs.Enumeration.{IsIn}
use Rattle.struct_model.specs.Bounded.{Bounds, argument_count, up_to_height}
use Rattle.spec_syntax.specs.Nodes.{node_at, right_node, children_of, below, arguments_of}
use Rattle.spec_syntax.proofs.NodesLemmas.{in_nodes, node_of, child_node, length-children_of, right_node_is}
use Rattle.well_founded.specs.Rank.{StandsAt, AreRanks}
use Rattle.well_founded.specs.WellFounded.{HoldsNull, OfNone}
use Rattle.lists.proofs.Places.{get_right}
use Rattle.lists.proofs.Positions.{slice_some}
use Rattle.lists.proofs.Tests.{held}
use Rattle.well_founded.proofs.EndlessLaws.{in_size, node_full}
use Rattle.well_founded.proofs.ManyLaws.{component_is}
use Rattle.spec_syntax.proofs.ExpressionLemmas.{list_of}
use Rattle.listing_laws.specs.Laws.{IsNeverEmpty}
use Rattle.listing_laws.proofs.Containers.{list_is, no_list, container_is, component_stands}
use Rattle.listing_laws.proofs.SetsRead.{in_sets, size-in_sets, stands_in_sets, read_of}
use Rattle.lists.proofs.Ascending.{Each, each_left, each_right}
use Rattle.listing_laws.proofs.RuleLaws.{inside}
use Rattle.listing_laws.proofs.BuildingUp.{eps_within, atom_within, named_within, alt_within, list_within, EachIn, part_count, few_parts, in_part_lists, argument_number}

-- the expression whose structures stand at this place in those of the first: a name's right side, an argument, a component or
-- the element of a container
abbrev pub ArgumentAt : Rules → Expression → ℕ → Expression → Type 0
ArgumentAt rules (expr.Name name) place f = (place ≡ 0) × (x : ℕ) × (symbol rules name ≡ Some x) × (right_side rules x ≡ Some f)
ArgumentAt rules e place f = slice_get (arguments_of e) place ≡ Some f

argument_place : (es : Expressions) (k : ℕ) (e : Expression) → argument es k ≡ Some e → (place : ℕ) × (k ≡ suc place) × (slice_get (expression_list es) place ≡ Some e)
argument_place no_expressions k e found = absurd (cc)
argument_place (more_expressions first es) zero e found = absurd (cc)
argument_place (more_expressions first es) (suc zero) e found = (0, refl, found)
argument_place (more_expressions first es) (suc (suc k)) e found =
    let rest : (place : ℕ) × (suc k ≡ suc place) × (slice_get (expression_list es) place ≡ Some e) = argument_place es (suc k) e found in
    (suc rest.0, ap suc rest.1, rest.2)

-- where a size falls or stays with a lower rank, so does the measure
measure_falls : (total k m r q : ℕ) → k ≤ m → q < total → (k ≡ m → q < r) → k * total + q < m * total + r
measure_falls total k m r q low small falls = elim (cases_lt k m) [
  | inl less ↦ omega (arith, mul-le (suc k) total m total less (omega arith), one_more k total)
  | inr same ↦
      let equal : k ≡ m = omega arith in
      omega (arith, falls equal, ap (λ (n : ℕ). n * total) equal)
]
  where
    one_more : (k total : ℕ) → suc k * total ≡ k * total + total
    one_more k total = grind arith

pub one_less : (h k : ℕ) → k < h → (m : ℕ) × (h ≡ suc m) × (k ≤ m)
one_less zero k low = absurd (omega arith)
one_less (suc h) k low = (h, refl, omega arith)

pub child : (rules : Rules) (n place : ℕ) (e f : Expression) → node_at rules n ≡ Some e → slice_get (arguments_of e) place ≡ Some f
    → (m : ℕ) × (slice_get (children_of n e) place ≡ Some m) × (node_at rules m ≡ Some f)
child rules n place e f there at =
    let found = slice_some (children_of n e) place (omega (arith, slice_get_within (arguments_of e) place f at, length-children_of n e)) in
    (found.0, found.1, child_node rules n e place found.0 there found.1 ∙ at)

-- what stands at a place below a node is a node
below_node : (rules : Rules) (n place : ℕ) (e f : Expression) → node_at rules n ≡ Some e → ArgumentAt rules e place f
    → (m : ℕ) × (slice_get (below rules n e) place ≡ Some m) × (node_at rules m ≡ Some f)
below_node rules n place (expr.Name name) f there at = (
  right_node rules at.1,
  subst (λ (i : ℕ). slice_get (below rules n (expr.Name name)) i ≡ Some (right_node rules at.1)) (sym at.0)
      (ap (λ found. slice_get (option_map_or (λ number. right_node rules number ∷ []) found []) 0) at.2),
  right_node_is rules at.1 f at.3,
)
below_node rules n place (expr.Union es) f there at = child rules n place (expr.Union es) f there at
below_node rules n place (expr.Prod es) f there at = child rules n place (expr.Prod es) f there at
below_node rules n place (expr.Many kind e card) f there at = child rules n place (expr.Many kind e card) f there at
below_node rules n place e f there at = absurd (cc)

-- an argument of a node's expression is a node's expression
pub child_at : (rules : Rules) (e : Expression) (earlier : List Expression) (f : Expression) (later : List Expression) → IsIn e (all_nodes rules)
    → arguments_of e ≡ earlier ++ f ∷ later → IsIn f (all_nodes rules)
child_at rules e earlier f later there whole =
    let node = node_of rules e there in
    let place : slice_get (arguments_of e) (length earlier + 0) ≡ Some f = ap (λ es. slice_get es (length earlier + 0)) whole ∙ get_right earlier (f ∷ later) (length earlier + 0) 0 refl in
    let found = child rules node.0 (length earlier + 0) e f node.1 place in
    in_nodes rules found.0 f found.2

-- no structure of a container's element is empty
pub element_full : (g : Grammar) (kind : Kind) (e : Expression) (card : Card) → OfNone (HoldsNull g) g.rules → IsIn (expr.Many kind e card) (all_nodes g.rules) → IsNeverEmpty g e
element_full g kind e card full there s of empty =
    let node = node_of g.rules (expr.Many kind e card) there in
    node_full g node.0 (expr.Many kind e card) full node.1 (in_sets s) (read_of g s e of) (size-in_sets s ∙ empty)

module _ (g : Grammar) (full : OfNone (HoldsNull g) g.rules) (ranks : List ℕ) (ranked : AreRanks g ranks) where
  abbrev total : ℕ
  total = length (all_nodes g.rules)

  -- it is a node's expression with this rank
  pub record IsNode (r : ℕ) (e : Expression) : Type 0 where
    pub number : ℕ
    pub there : node_at g.rules number ≡ Some e
    pub has_rank : slice_get ranks number ≡ Some r

  pub rank_of : (n : ℕ) (e : Expression) → node_at g.rules n ≡ Some e → (r : ℕ) × (slice_get ranks n ≡ Some r) × (r < total)
  rank_of n e there =
      let short = slice_get_within (all_nodes g.rules) n e there in
      let found = slice_some ranks n (omega (arith, short, ranked.for_each)) in
      (found.0, found.1, (ranked.each n found.0 e there found.1).within)

  -- the expression at a place below a node is a node's, and where the size stays its rank is lower
  pub record Below (r : ℕ) (e : Expression) (place : ℕ) (f : Expression) : Type 0 where
    pub rank : ℕ
    pub is_node : IsNode rank f
    pub small : rank < total
    pub falls : (s t : Structure) → is_of g e s ≡ true → is_of g f t ≡ true → StandsAt s place t → size t ≡ size s → rank < r

  pub below_is : (r place : ℕ) (e f : Expression) → IsNode r e → ArgumentAt g.rules e place f → Below r e place f
  below_is r place e f node at =
      let found = below_node g.rules node.number place e f node.there at in
      let has = rank_of found.0 f found.2 in
      record {
        rank = has.0;
        is_node = record { number = found.0; there = found.2; has_rank = has.1 };
        small = has.2;
        falls = λ s t of_s of_t stands same.
            (ranked.each node.number r e node.there node.has_rank).falls place found.0 has.0 f found.1 found.2 has.1
            (record {
              outer = in_sets s;
              inner = in_sets t;
              is_outer = read_of g s e of_s;
              is_inner = read_of g t f of_t;
              stands = stands_in_sets s place t stands;
              same_size = size-in_sets t ∙ same ∙ sym (size-in_sets s);
            });
      }

  module _ (b : Bounds) (most : ℕ) (rules_fit : length g.rules ≤ b.number) (arguments_fit : most ≤ b.number) (components_fit : most ≤ b.width)
      (narrow : (n : ℕ) (e : Expression) → node_at g.rules n ≡ Some e → argument_count e ≤ most) where
    -- these labels lie within the bounds, and are no more than components may be
    abbrev Small : List ℕ → Type 0
    Small ls = Each (λ l. l ≤ b.label) ls × (length ls ≤ b.width)

    small_left : (ls ms : List ℕ) → Small (ls ++ ms) → Small ls
    small_left ls ms small = (each_left _ ls ms small.0, omega (arith, small.1, length-append ls ms))

    small_right : (ls ms : List ℕ) → Small (ls ++ ms) → Small ms
    small_right ls ms small = (each_right _ ls ms small.0, omega (arith, small.1, length-append ls ms))

    rule_number : (name : List ℕ) (x : ℕ) (has : Expression → Bool) → names g name x has ≡ true → x ≤ b.number
    rule_number name x has h =
        let found = held (nat_eq x) (symbol g.rules name) (and_parts _ _ h).0 in
        let bound = symbol-within g.rules name found.0 found.1 in
        omega (arith, bound.1, eqb-true x found.0 found.2, rules_fit)

    eps_number : (x : ℕ) (e : Expression) → is_of g e (Eps x) ≡ true → x ≤ b.number
    eps_number x expr.Epsilon h = omega (arith, eqb-true x 0 h)
    eps_number x (expr.Name name) h = rule_number name x is_epsilon h
    eps_number x (expr.Many kind element card) h = absurd (true≢false (sym h ∙ no_list g kind element card (Eps x) refl))
    eps_number x e h = absurd (true≢false (sym h))

    atom_number : (x l : ℕ) (e : Expression) → is_of g e (Atom x l) ≡ true → x ≤ b.number
    atom_number x l expr.Atom h = omega (arith, eqb-true x 0 (and_parts _ _ h).0)
    atom_number x l (expr.Name name) h = rule_number name x is_atom (and_parts _ _ h).0
    atom_number x l (expr.Many kind element card) h = absurd (true≢false (sym h ∙ no_list g kind element card (Atom x l) refl))
    atom_number x l e h = absurd (true≢false (sym h))

    component_count : (es : Expressions) (ps : Structures) → are_of_each g es ps ≡ true → part_count ps ≡ length (expression_list es)
    component_count no_expressions no_parts h = refl
    component_count no_expressions (more_parts s ps) h = absurd (true≢false (sym h))
    component_count (more_expressions e es) no_parts h = absurd (true≢false (sym h))
    component_count (more_expressions e es) (more_parts s ps) h = ap suc (component_count es ps (and_parts _ _ h).1)

    -- a structure inside a rule's number is one of the rule's right side
    record InsideRule (name : List ℕ) (x : ℕ) (s : Structure) : Type 0 where
      right : Expression
      fits : x ≤ b.number
      at : ArgumentAt g.rules (expr.Name name) 0 right
      of : is_of g right s ≡ true

    inside_rule : (name : List ℕ) (x : ℕ) (s : Structure) → is_of g (expr.Name name) (Named x s) ≡ true → InsideRule name x s
    inside_rule name x s h =
        let numbered = held (nat_eq x) (symbol g.rules name) (and_parts _ _ h).0 in
        let bound = symbol-within g.rules name numbered.0 numbered.1 in
        let side = some_right g.rules numbered.0 bound.0 bound.1 in
        let found = inside g name numbered.0 side.0 numbered.1 side.1 x s h in
        record {
          right = side.0;
          fits = omega (arith, found.0, bound.1, rules_fit);
          at = (refl, numbered.0, numbered.1, side.1);
          of = found.2;
        }

    -- a node's expression, of a rank and a size that together are below the height
    pub record IsLow (h : ℕ) (f : Expression) (t : Structure) : Type 0 where
      pub rank : ℕ
      pub is_node : IsNode rank f
      pub low : size t * total + rank < h

    record IsPart (f : Expression) (t : Structure) (ps : Structures) : Type 0 where
      of : is_of g f t ≡ true
      within : size t ≤ length (labels_of_parts ps)

    longer : (f : Expression) (t s : Structure) (ps : Structures) → IsPart f t ps → IsPart f t (more_parts s ps)
    longer f t s ps part = record { of = part.of; within = omega (arith, part.within, length-append (labels s) (labels_of_parts ps)) }

    part_is : (es : Expressions) (ps : Structures) (i : ℕ) (f : Expression) (t : Structure) → are_of_each g es ps ≡ true → slice_get (expression_list es) i ≡ Some f
        → slice_get (part_list ps) i ≡ Some t → IsPart f t ps
    part_is no_expressions ps i f t of e_at t_at = absurd (cc)
    part_is (more_expressions e es) no_parts i f t of e_at t_at = absurd (cc)
    part_is (more_expressions e es) (more_parts s ps) zero f t of e_at t_at =
        let same_e : e ≡ f = cc in
        let same_s : s ≡ t = cc in
        subst (λ (v : Structure). IsPart f v (more_parts s ps)) same_s (record {
          of = subst (λ (d : Expression). is_of g d s ≡ true) same_e (and_parts _ _ of).0;
          within = omega (arith, length-append (labels s) (labels_of_parts ps));
        })
    part_is (more_expressions e es) (more_parts s ps) (suc i) f t of e_at t_at =
        longer f t s ps (part_is es ps i f t (and_parts _ _ of).1 e_at t_at)

    -- each of the components is so low
    abbrev pub AreLow : ℕ → Expressions → Structures → Type 0
    AreLow h es ps = (i : ℕ) (f : Expression) (t : Structure) → slice_get (expression_list es) i ≡ Some f → slice_get (part_list ps) i ≡ Some t → IsLow h f t

    components_low : (r : ℕ) (es : Expressions) (ps : Structures) (h : ℕ) → IsNode r (expr.Prod es) → are_of_each g es ps ≡ true
        → length (labels_of_parts ps) * total + r ≤ h → AreLow h es ps
    components_low r es ps h node of high i f t f_at t_at =
        let part = part_is es ps i f t of f_at t_at in
        let low : Below r (expr.Prod es) i f = below_is r i (expr.Prod es) f node f_at in
        let falls = measure_falls total (size t) (length (labels_of_parts ps)) r low.rank part.within low.small (low.falls (Tup form.Prod ps) t of part.of t_at) in
        record { rank = low.rank; is_node = low.is_node; low = omega (arith, falls, high) }

    -- each of the components of a container is so low
    abbrev AllLow : ℕ → Expression → Structures → Type 0
    AllLow h e ps = (t : Structure) → IsIn t (part_list ps) → IsLow h e t

    elements_low : (r : ℕ) (kind : Kind) (e : Expression) (card : Card) (f : Form5) (ps : Structures) (h : ℕ) → IsNode r (expr.Many kind e card)
        → is_of g (expr.Many kind e card) (Tup f ps) ≡ true → length (labels_of_parts ps) * total + r ≤ h → AllLow h e ps
    elements_low r kind e card f ps h node of high t there =
        let container = container_is g kind e card f ps of in
        let low : Below r (expr.Many kind e card) 0 e = below_is r 0 (expr.Many kind e card) e node refl in
        let of_t = component_is g e ps t container.are there in
        let falls = measure_falls total (size t) (length (labels_of_parts ps)) r low.rank (in_size ps t there) low.small
        (low.falls (Tup f ps) t of of_t (component_stands g kind f ps t container.has_form there)) in
        record { rank = low.rank; is_node = low.is_node; low = omega (arith, falls, high) }

    -- there are at most as many components as labels
    few_components : (container kind : Kind) (e : Expression) (card other : Card) (f : Form5) (ps : Structures) → IsIn (expr.Many container e card) (all_nodes g.rules)
        → is_of g (expr.Many kind e other) (Tup f ps) ≡ true → Small (labels_of_parts ps) → part_count ps ≤ b.width
    few_components container kind e card other f ps there of small =
        omega (
          arith,
          small.1,
          few_parts ps (λ t at. element_full g container e card full there t (component_is g e ps t (container_is g kind e other f ps of).are at)),
        )

    mutual
      pub within : (s : Structure) (e : Expression) (r h : ℕ) → IsNode r e → is_of g e s ≡ true → Small (labels s) → size s * total + r < h → IsIn s (up_to_height b h)
      within (Eps x) e r h node of small high = eps_within b h x (eps_number x e of)
      within (Atom x l) e r h node of small high = atom_within b h x l (atom_number x l e of) small.0.0
      within (Named x s) (expr.Name name) r h node of small high =
          let rule : InsideRule name x s = inside_rule name x s of in
          let low : Below r (expr.Name name) 0 rule.right = below_is r 0 (expr.Name name) rule.right node rule.at in
          let falls = measure_falls total (size s) (size s) r low.rank (omega arith) low.small (λ same. low.falls (Named x s) s of rule.of (refl, refl) refl) in
          let less = one_less h (size s * total + r) high in
          subst (λ (n : ℕ). IsIn (Named x s) (up_to_height b n)) (sym less.1)
          (named_within b less.0 x s rule.fits (within s rule.right low.rank less.0 low.is_node rule.of small (omega (arith, falls, less.2))))
      within (Named x s) (expr.Many kind e card) r h node of small high = absurd (true≢false (sym of ∙ no_list g kind e card (Named x s) refl))
      within (Named x s) e r h node of small high = absurd (true≢false (sym of))
      within (Alt k s) (expr.Union es) r h node of small high =
          let found = held (λ e. is_of g e s) (argument es k) of in
          let place = argument_place es k found.0 found.1 in
          let low : Below r (expr.Union es) place.0 found.0 = below_is r place.0 (expr.Union es) found.0 node place.2 in
          let falls = measure_falls total (size s) (size s) r low.rank (omega arith) low.small (λ same. low.falls (Alt k s) s of found.2 (place.1, refl) refl) in
          let less = one_less h (size s * total + r) high in
          subst (λ (n : ℕ). IsIn (Alt k s) (up_to_height b n)) (sym less.1)
          (alt_within b less.0 k s (omega (arith, argument_number es k found.0 found.1, narrow node.number (expr.Union es) node.there, arguments_fit))
          (within s found.0 low.rank less.0 low.is_node found.2 small (omega (arith, falls, less.2))))
      within (Alt k s) (expr.Many kind e card) r h node of small high = absurd (true≢false (sym of ∙ no_list g kind e card (Alt k s) refl))
      within (Alt k s) e r h node of small high = absurd (true≢false (sym of))
      within (Tup f ps) (expr.Prod es) r h node of small high =
          let list = list_is g (expr.Prod es) f ps of in
          let is_prod : is_of g (expr.Prod es) (Tup form.Prod ps) ≡ true = list.1 in
          let less = one_less h (size (Tup f ps) * total + r) high in
          subst (λ (n : ℕ). IsIn (Tup f ps) (up_to_height b n)) (sym less.1)
          (list_within b less.0 f ps (in_part_lists b.width (up_to_height b less.0) ps
          (parts_within ps es less.0 (components_low r es ps less.0 node is_prod less.2) is_prod small)
          (omega (arith, component_count es ps is_prod, narrow node.number (expr.Prod es) node.there, components_fit))))
      within (Tup f ps) (expr.Many kind e card) r h node of small high =
          let less = one_less h (size (Tup f ps) * total + r) high in
          subst (λ (n : ℕ). IsIn (Tup f ps) (up_to_height b n)) (sym less.1)
          (list_within b less.0 f ps (in_part_lists b.width (up_to_height b less.0) ps
          (elements_within ps e less.0 (elements_low r kind e card f ps less.0 node of less.2) (container_is g kind e card f ps of).are small)
          (few_components kind kind e card card f ps (in_nodes g.rules node.number (expr.Many kind e card) node.there) of small)))
      within (Tup f ps) e r h node of small high = absurd (true≢false (sym of))

      parts_within : (ps : Structures) (es : Expressions) (h : ℕ) → AreLow h es ps → are_of_each g es ps ≡ true → Small (labels_of_parts ps) → EachIn (up_to_height b h) ps
      parts_within no_parts es h low of small = tt
      parts_within (more_parts s ps) no_expressions h low of small = absurd (true≢false (sym of))
      parts_within (more_parts s ps) (more_expressions e es) h low of small =
          let both = and_parts _ _ of in
          let first : IsLow h e s = low 0 e s refl refl in (
            within s e first.rank h first.is_node both.0 (small_left (labels s) (labels_of_parts ps) small) first.low,
            parts_within ps es h (λ i. low (suc i)) both.1 (small_right (labels s) (labels_of_parts ps) small),
          )

      elements_within : (ps : Structures) (e : Expression) (h : ℕ) → AllLow h e ps → are_of g e ps ≡ true → Small (labels_of_parts ps) → EachIn (up_to_height b h) ps
      elements_within no_parts e h low of small = tt
      elements_within (more_parts s ps) e h low of small =
          let both = and_parts _ _ of in
          let first : IsLow h e s = low s (inl refl) in (
            within s e first.rank h first.is_node both.0 (small_left (labels s) (labels_of_parts ps) small) first.low,
            elements_within ps e h (λ t there. low t (inr there)) both.1 (small_right (labels s) (labels_of_parts ps) small),
          )

    -- a structure of a name, whether or not the name is a node's expression
    pub name_within : (s : Structure) (name : List ℕ) (h : ℕ) → is_of g (expr.Name name) s ≡ true → Small (labels s) → size s * total + total ≤ h → IsIn s (up_to_height b (suc h))
    name_within (Eps x) name h of small high = eps_within b (suc h) x (eps_number x (expr.Name name) of)
    name_within (Atom x l) name h of small high = atom_within b (suc h) x l (atom_number x l (expr.Name name) of) small.0.0
    name_within (Named x s) name h of small high =
        let rule : InsideRule name x s = inside_rule name x s of in
        let there : node_at g.rules (right_node g.rules rule.at.1) ≡ Some rule.right = right_node_is g.rules rule.at.1 rule.right rule.at.3 in
        let has = rank_of (right_node g.rules rule.at.1) rule.right there in
        named_within b h x s rule.fits
        (within s rule.right has.0 h (record { number = right_node g.rules rule.at.1; there = there; has_rank = has.1 }) rule.of small (omega (arith, has.2, high)))
    name_within s name h of small high = absurd (true≢false (sym of))

    -- a component of a list with more room than it needs
    part_low : (rank : ℕ) (f : Expression) (t : Structure) (all h : ℕ) → IsNode rank f → rank < total → size t ≤ all → all * total + total ≤ h → IsLow h f t
    part_low rank f t all h node low within high = record {
      rank = rank;
      is_node = node;
      low = omega (arith, high, low, mul-le (size t) total all total within (omega arith));
    }

    suffix_low : (earlier later : List Expression) (ps : Structures) (n h : ℕ) → node_at g.rules n ≡ Some (expr.Prod (expressions_of (earlier ++ later)))
        → are_of_each g (expressions_of later) ps ≡ true → length (labels_of_parts ps) * total + total ≤ h → AreLow h (expressions_of later) ps
    suffix_low earlier later ps n h there of high i f t f_at t_at =
        let part = part_is (expressions_of later) ps i f t of f_at t_at in
        let has = rank_of n (expr.Prod (expressions_of (earlier ++ later))) there in
        let at : slice_get (expression_list (expressions_of (earlier ++ later))) (length earlier + i) ≡ Some f =
        ap (λ es. slice_get es (length earlier + i)) (list_of (earlier ++ later)) ∙ get_right earlier later (length earlier + i) i refl
        ∙ ap (λ es. slice_get es i) (sym (list_of later)) ∙ f_at in
        let low : Below has.0 (expr.Prod (expressions_of (earlier ++ later))) (length earlier + i) f =
        below_is has.0 (length earlier + i) (expr.Prod (expressions_of (earlier ++ later))) f (record { number = n; there = there; has_rank = has.1 }) at in
        part_low low.rank f t (length (labels_of_parts ps)) h low.is_node low.small part.within high

    -- a structure of the last components of a node's Prod
    pub suffix_within : (s : Structure) (earlier later : List Expression) (n h : ℕ) → node_at g.rules n ≡ Some (expr.Prod (expressions_of (earlier ++ later)))
        → is_of g (expr.Prod (expressions_of later)) s ≡ true → Small (labels s) → size s * total + total ≤ h → IsIn s (up_to_height b (suc h))
    suffix_within (Tup form.Prod ps) earlier later n h there of small high =
        list_within b h form.Prod ps (in_part_lists b.width (up_to_height b h) ps
        (parts_within ps (expressions_of later) h (suffix_low earlier later ps n h there of high) of small)
        (omega (
          arith,
          component_count (expressions_of later) ps of,
          narrow n (expr.Prod (expressions_of (earlier ++ later))) there,
          components_fit,
          length-append earlier later,
          ap (λ (es : List Expression). length es) (list_of later),
          ap (λ (es : List Expression). length es) (list_of (earlier ++ later)),
        )))
    suffix_within s earlier later n h there of small high = absurd (true≢false (sym of))

    -- a structure of a container of whatever kind, with any bound, over the element of a node's container
    pub bound_within : (s : Structure) (container kind : Kind) (e : Expression) (card other : Card) (n h : ℕ) → node_at g.rules n ≡ Some (expr.Many container e card)
        → is_of g (expr.Many kind e other) s ≡ true → Small (labels s) → size s * total + total ≤ h → IsIn s (up_to_height b (suc h))
    bound_within (Tup f ps) container kind e card other n h there of small high =
        let has = rank_of n (expr.Many container e card) there in
        let low : Below has.0 (expr.Many container e card) 0 e = below_is has.0 0 (expr.Many container e card) e (record { number = n; there = there; has_rank = has.1 }) refl in
        list_within b h f ps (in_part_lists b.width (up_to_height b h) ps
        (elements_within ps e h (λ t at. part_low low.rank e t (length (labels_of_parts ps)) h low.is_node low.small (in_size ps t at) high)
        (container_is g kind e other f ps of).are small)
        (few_components container kind e card other f ps (in_nodes g.rules n (expr.Many container e card) there) of small))
    bound_within s container kind e card other n h there of small high = absurd (true≢false (sym of ∙ no_list g kind e other s refl))
