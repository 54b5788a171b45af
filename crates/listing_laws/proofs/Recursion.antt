-- The listing of an expression by the listings of those inside it.
use Rattle.std.proofs.Common.{◌≡◌, ℕ, zero, suc, ◌<◌, ◌≤◌, true, List, [], ◌∷◌, ◌++◌, map, length, refl, sym, ap, ◌∙◌, subst, arith, true≢false, Some, None}
use Rattle.std.specs.Prelude.{if◌then◌else◌}
use Rattle.std.proofs.lemmas.Bool.{and_parts, eqb-true}
use Rattle.std.proofs.lemmas.List.{append_assoc}
use Rattle.spec_syntax.specs.declared.expr.Card.{Card}
use Rattle.spec_syntax.specs.declared.expr.Kind.TheVariants as kind
use Rattle.spec_syntax.specs.Expression as expr
use Rattle.spec_syntax.specs.Expression.{Expression, Expressions, no_expressions, more_expressions, expression_list, expressions_of}
use Rattle.spec_syntax.specs.Rules.{symbol, right_side, all_nodes}
use Rattle.spec_syntax.specs.Grammar.{Grammar}
use Rattle.struct_model.specs.declared.tree.Form5.{Form5}
use Rattle.struct_model.specs.declared.tree.Form5.TheVariants as form
use Rattle.struct_model.specs.Structure.{Structure, Eps, Atom, Tup, more_parts, parts_of}
use Rattle.struct_model.specs.Membership.{supply, is_supply}
use Rattle.lists.specs.Enumeration.{IsIn}
use Rattle.struct_model.specs.Listing.{IsOne}
use Rattle.struct_model.specs.Bounded.{bounds, bounded, listing}
use Rattle.spec_syntax.specs.Nodes.{right_node, arguments_of}
use Rattle.spec_syntax.proofs.NodesLemmas.{in_nodes, right_node_is}
use Rattle.well_founded.specs.Rank.{AreRanks}
use Rattle.well_founded.specs.WellFounded.{HoldsNull, OfNone}
use Rattle.spec_syntax.proofs.ExpressionLemmas.{list_of}
use Rattle.well_founded.proofs.RankLaws.{ranks_exist}
use Rattle.splits.specs.Splits.{Split, splits}
use Rattle.splits.specs.Parts.{has_length, parts}
use Rattle.listing_laws.specs.Lister.{list_epsilon, list_atom, alternatives, each_before, by_parts, after_one, admits_some, list_repeated, product, sequence, named}
use Rattle.listing_laws.specs.Recursion.{components_on, repeated_on}
use Rattle.listing_laws.specs.Relabelled.{relabelled, relabelled_parts}
use Rattle.listing_laws.specs.Laws.{IsListing, ListsEach, WellFoundedIsListed, ListingsRecur}
use Rattle.listing_laws.proofs.Alike.{supplies_are_alike}
use Rattle.listing_laws.proofs.Arguments.{union_is}
use Rattle.lists.proofs.FlatMaps.{same_made}
use Rattle.lists.proofs.Mapped.{same_mapped}
use Rattle.listing_laws.proofs.BuildingUp.{eps_within, atom_within}
use Rattle.listing_laws.proofs.Components.{same_components, ListsComponents, no_components_are, by_splits_are, products_are}
use Rattle.lists.proofs.Enumerated.{from_filter}
use Rattle.listing_laws.proofs.Words.{epsilon_lists, atom_lists}
use Rattle.listing_laws.proofs.Ranked.{child_at, element_full}
use Rattle.listing_laws.proofs.Repeated.{some_in, ListsRepeated, sequences_are, repeated_are}
use Rattle.listing_laws.proofs.RuleLaws.{rule_lists, no_rule_lists}
use Rattle.struct_model.proofs.SupplyLaws.{supply_is, supply_rises}
use Rattle.splits.proofs.SplitSupplies.{split_length, split_supplies}
use Rattle.listing_laws.proofs.WellFoundedListed.{listing_from, label_bound, node_lists, name_lists, suffix_lists, bound_lists}

-- ---- the words

module _ (g : Grammar) where
  epsilon_within : (u : List ℕ) (s : Structure) → IsOne g expr.Epsilon u s → IsIn s (bounded (bounds g u))
  epsilon_within u (Eps x) p = eps_within (bounds g u) (bounds g u).height x (omega (arith, eqb-true x 0 p.0))
  epsilon_within u s p = absurd (true≢false (sym p.0))

  atom_inside : (u : List ℕ) (s : Structure) → IsOne g expr.Atom u s → IsIn s (bounded (bounds g u))
  atom_inside u (Atom x l) p =
      atom_within (bounds g u) (bounds g u).height x l (omega (arith, eqb-true x 0 (and_parts _ _ p.0).0)) (label_bound g u (Atom x l) p.1).0
  atom_inside u s p = absurd (true≢false (sym p.0))

  pub epsilon : (u : List ℕ) → is_supply g.universe u ≡ true → listing g expr.Epsilon u ≡ list_epsilon u
  epsilon u supplied = sym ((listing_from g expr.Epsilon epsilon_within).only u (list_epsilon u) supplied (epsilon_lists g u))

  pub atom : (u : List ℕ) → is_supply g.universe u ≡ true → listing g expr.Atom u ≡ list_atom u
  atom u supplied = sym ((listing_from g expr.Atom atom_inside).only u (list_atom u) supplied (atom_lists g u supplied))

  pub no_rule : (name : List ℕ) (u : List ℕ) → is_supply g.universe u ≡ true → symbol g.rules name ≡ None → listing g (expr.Name name) u ≡ []
  no_rule name u supplied none =
      sym ((listing_from g (expr.Name name) (λ labels s p. absurd ((no_rule_lists g name labels none).complete s p))).only u [] supplied (no_rule_lists g name u none))

  -- ---- in terms of what is listed inside

  -- each of the expressions has a listing
  abbrev pub AreListings : List Expression → Type 0
  AreListings [] = Unit {0}
  AreListings (e ∷ es) = IsListing g e × AreListings es

  each_lists : (es : Expressions) (u : List ℕ) → is_supply g.universe u ≡ true → AreListings (expression_list es) → ListsEach g es u (map (λ e. listing g e u) (expression_list es))
  each_lists no_expressions u supplied h = tt
  each_lists (more_expressions e es) u supplied h = (h.0.lists u supplied, each_lists es u supplied h.1)

  components_lists : (es : Expressions) (u : List ℕ) → is_supply g.universe u ≡ true → AreListings (expression_list es) → ListsComponents g es u (components_on g es u)
  components_lists no_expressions u supplied h = no_components_are g u
  components_lists (more_expressions e es) u supplied h =
      by_splits_are g e es u (listing g e) (components_on g es) (supply_rises g.universe u supplied)
      (λ split s. h.0.lists split.part (split_supplies g.universe u supplied split s).0)
      (λ split s. components_lists es split.rest (split_supplies g.universe u supplied split s).1 h.1)

-- ---- Sequences

-- without a part that has a label, fewer labels remain
pub fewer_left : (u : List ℕ) (split : Split) → IsIn split (parts 1 (length u) u) → length split.rest < length u
fewer_left u split there =
    let found = from_filter (has_length 1 (length u)) split (splits u) there in
    omega (arith, split_length u split found.0, some_in (length u) split found.1)

same_others : (first : List ℕ → List Structure) (others also : List ℕ → List (List Structure)) (u : List ℕ)
    → ((v : List ℕ) → length v < length u → others v ≡ also v) → by_parts 1 (length u) first others u ≡ by_parts 1 (length u) first also u
same_others first others also u same =
    same_made (λ (split : Split). each_before (first split.part) (others split.rest)) (λ (split : Split). each_before (first split.part) (also split.rest)) (parts 1 (length u) u)
    (λ split there. ap (each_before (first split.part)) (same split.rest (fewer_left u split there)))

-- how many components may come at most doesn't matter, where it is no less than the labels
pub enough_repeated : (first : List ℕ → List Structure) (n m : ℕ) (card : Card) (u : List ℕ) → length u ≤ n → length u ≤ m → list_repeated first n card u ≡ list_repeated first m card u
enough_repeated first n m card [] h k = refl
enough_repeated first zero m card (label ∷ ls) h k = absurd (omega arith)
enough_repeated first (suc n) zero card (label ∷ ls) h k = absurd (omega arith)
enough_repeated first (suc n) (suc m) card (label ∷ ls) h k =
    ap (λ (some : List (List Structure)). if admits_some card then some else [])
    (same_others first (list_repeated first n (after_one card)) (list_repeated first m (after_one card)) (label ∷ ls)
    (λ v fewer. enough_repeated first n m (after_one card) v (omega (arith, fewer, h)) (omega (arith, fewer, k))))

pub repeated : (g : Grammar) (e : Expression) (card : Card) (u : List ℕ) → 0 < length u
    → repeated_on g e card u ≡ (if admits_some card then by_parts 1 (length u) (listing g e) (repeated_on g e (after_one card)) u else [])
repeated g e card [] some = absurd (omega arith)
repeated g e card (label ∷ ls) some =
    ap (λ (some : List (List Structure)). if admits_some card then some else [])
    (same_others (listing g e) (list_repeated (listing g e) (length ls) (after_one card)) (repeated_on g e (after_one card)) (label ∷ ls)
    (λ v fewer. enough_repeated (listing g e) (length ls) (length v) (after_one card) v (omega (arith, fewer)) (omega arith)))

-- ---- on any supply as on the first labels

pub alike : (g : Grammar) (e : Expression) (u : List ℕ) → is_supply g.universe u ≡ true → IsListing g e → listing g e u ≡ map (relabelled u) (listing g e (supply g.universe (length u)))
alike g e u supplied is_listing =
    let first : List ℕ = supply g.universe (length u) in
    sym (is_listing.only u (map (relabelled u) (listing g e first)) supplied
    (supplies_are_alike.lists g e u (listing g e first) supplied (is_listing.lists first (supply_is g.universe (length u)))))

relabelled_list : (u : List ℕ) (ss : List Structure) → relabelled_parts u (parts_of ss) ≡ parts_of (map (relabelled u) ss)
relabelled_list u [] = refl
relabelled_list u (s ∷ ss) = ap (more_parts (relabelled u s)) (relabelled_list u ss)

module _ (form : Form5) where
  abbrev together : List Structure → Structure
  together ss = Tup form (parts_of ss)

  relabelled_together : (u : List ℕ) (sss : List (List Structure)) → map (relabelled u) (map together sss) ≡ map together (map (map (relabelled u)) sss)
  relabelled_together u [] = refl
  relabelled_together u (ss ∷ sss) = λ i. Tup form (relabelled_list u ss i) ∷ relabelled_together u sss i

  same_lists : (sss others : List (List Structure)) → map together sss ≡ map together others → sss ≡ others
  same_lists sss others same = same_mapped together (same_components form) sss others same

  -- lists of components are alike where they are when put together
  pub alike_together : (u : List ℕ) (whole first : List Structure) (sss others : List (List Structure)) → whole ≡ map (relabelled u) first
      → whole ≡ map together sss → first ≡ map together others → sss ≡ map (map (relabelled u)) others
  alike_together u whole first sss others same is_whole is_first =
      same_lists sss (map (map (relabelled u)) others) (sym is_whole ∙ same ∙ ap (map (relabelled u)) is_first ∙ relabelled_together u others)

module _ (g : Grammar) (full : OfNone (HoldsNull g) g.rules) (ranks : List ℕ) (ranked : AreRanks g ranks) where
  pub name_recurs : (name : List ℕ) (n : ℕ) (right : Expression) (u : List ℕ) → symbol g.rules name ≡ Some n → right_side g.rules n ≡ Some right
      → is_supply g.universe u ≡ true → listing g (expr.Name name) u ≡ map (named n) (listing g right u)
  name_recurs name n right u numbered sided supplied =
      let there = in_nodes g.rules (right_node g.rules n) right (right_node_is g.rules n right sided) in
      sym ((name_lists g full ranks ranked name).only u (map (named n) (listing g right u)) supplied
      (rule_lists g name n right numbered sided u (listing g right u) ((node_lists g full ranks ranked right there).lists u supplied)))

  children_lists : (e : Expression) → IsIn e (all_nodes g.rules) → (earlier later : List Expression) → arguments_of e ≡ earlier ++ later → AreListings g later
  children_lists e there earlier [] whole = tt
  children_lists e there earlier (f ∷ later) whole = (
    node_lists g full ranks ranked f (child_at g.rules e earlier f later there whole),
    children_lists e there (earlier ++ f ∷ []) later (whole ∙ sym (append_assoc earlier (f ∷ []) later)),
  )

  pub union_recurs : (es : Expressions) (u : List ℕ) → IsIn (expr.Union es) (all_nodes g.rules) → is_supply g.universe u ≡ true
      → listing g (expr.Union es) u ≡ alternatives 1 (map (λ e. listing g e u) (expression_list es))
  union_recurs es u there supplied =
      sym ((node_lists g full ranks ranked (expr.Union es) there).only u (alternatives 1 (map (λ e. listing g e u) (expression_list es))) supplied
      (union_is g u es (map (λ e. listing g e u) (expression_list es)) (each_lists g es u supplied (children_lists (expr.Union es) there [] (expression_list es) refl))))

  pub prod_recurs : (earlier later : List Expression) (u : List ℕ) → IsIn (expr.Prod (expressions_of (earlier ++ later))) (all_nodes g.rules) → is_supply g.universe u ≡ true
      → listing g (expr.Prod (expressions_of later)) u ≡ map product (components_on g (expressions_of later) u)
  prod_recurs earlier later u there supplied =
      sym ((suffix_lists g full ranks ranked earlier later there).only u (map product (components_on g (expressions_of later) u)) supplied
      (products_are g (expressions_of later) u (components_on g (expressions_of later) u)
      (components_lists g (expressions_of later) u supplied
      (subst (AreListings g) (sym (list_of later))
      (children_lists (expr.Prod (expressions_of (earlier ++ later))) there earlier later (list_of (earlier ++ later)))))))

  repeated_lists : (e : Expression) (card other : Card) (u : List ℕ) → IsIn (expr.Many kind.Sequence e card) (all_nodes g.rules) → is_supply g.universe u ≡ true
      → ListsRepeated g e other u (repeated_on g e other u)
  repeated_lists e card other u there supplied =
      let is_listing = node_lists g full ranks ranked e (child_at g.rules (expr.Many kind.Sequence e card) [] e [] there refl) in
      repeated_are g e (element_full g kind.Sequence e card full there) (listing g e) is_listing.lists (length u) other u supplied (omega arith)

  pub sequence_recurs : (e : Expression) (card other : Card) (u : List ℕ) → IsIn (expr.Many kind.Sequence e card) (all_nodes g.rules) → is_supply g.universe u ≡ true
      → listing g (expr.Many kind.Sequence e other) u ≡ map sequence (repeated_on g e other u)
  sequence_recurs e card other u there supplied =
      sym ((bound_lists g full ranks ranked kind.Sequence kind.Sequence e card other there).only u (map sequence (repeated_on g e other u)) supplied
      (sequences_are g e other u (repeated_on g e other u) (repeated_lists e card other u there supplied)))

  pub components_alike : (earlier later : List Expression) (u : List ℕ) → IsIn (expr.Prod (expressions_of (earlier ++ later))) (all_nodes g.rules) → is_supply g.universe u ≡ true
      → components_on g (expressions_of later) u ≡ map (map (relabelled u)) (components_on g (expressions_of later) (supply g.universe (length u)))
  components_alike earlier later u there supplied =
      let prod : Expression = expr.Prod (expressions_of later) in
      let first : List ℕ = supply g.universe (length u) in
      alike_together form.Prod u (listing g prod u) (listing g prod first) (components_on g (expressions_of later) u) (components_on g (expressions_of later) first)
      (alike g prod u supplied (suffix_lists g full ranks ranked earlier later there)) (prod_recurs earlier later u there supplied)
      (prod_recurs earlier later first there (supply_is g.universe (length u)))

  pub repeated_alike : (e : Expression) (card other : Card) (u : List ℕ) → IsIn (expr.Many kind.Sequence e card) (all_nodes g.rules) → is_supply g.universe u ≡ true
      → repeated_on g e other u ≡ map (map (relabelled u)) (repeated_on g e other (supply g.universe (length u)))
  repeated_alike e card other u there supplied =
      let many : Expression = expr.Many kind.Sequence e other in
      let first : List ℕ = supply g.universe (length u) in
      alike_together form.Sequence u (listing g many u) (listing g many first) (repeated_on g e other u) (repeated_on g e other first)
      (alike g many u supplied (bound_lists g full ranks ranked kind.Sequence kind.Sequence e card other there)) (sequence_recurs e card other u there supplied)
      (sequence_recurs e card other first there (supply_is g.universe (length u)))

-- ---- the laws

pub well_founded_is_listed : WellFoundedIsListed
well_founded_is_listed = record {
  names = λ g name spec founded. let found = ranks_exist g founded in name_lists g founded.no_null_elements found.0 found.1 name;
  nodes = λ g e spec founded there. let found = ranks_exist g founded in node_lists g founded.no_null_elements found.0 found.1 e there;
  suffixes = λ g earlier later spec founded there. let found = ranks_exist g founded in suffix_lists g founded.no_null_elements found.0 found.1 earlier later there;
  containers = λ g container kind e card other spec founded there.
      let found = ranks_exist g founded in bound_lists g founded.no_null_elements found.0 found.1 container kind e card other there;
}

pub listings_recur : ListingsRecur
listings_recur = record {
  epsilon = epsilon;
  atom = atom;
  no_rule = no_rule;
  name = λ g name n right u spec founded numbered sided supplied.
      let found = ranks_exist g founded in name_recurs g founded.no_null_elements found.0 found.1 name n right u numbered sided supplied;
  union = λ g es u spec founded there supplied. let found = ranks_exist g founded in union_recurs g founded.no_null_elements found.0 found.1 es u there supplied;
  prod = λ g earlier later u spec founded there supplied.
      let found = ranks_exist g founded in prod_recurs g founded.no_null_elements found.0 found.1 earlier later u there supplied;
  sequence = λ g e card other u spec founded there supplied.
      let found = ranks_exist g founded in sequence_recurs g founded.no_null_elements found.0 found.1 e card other u there supplied;
  empty = λ g e card. refl;
  repeated = repeated;
  alike = alike;
  alike_components = λ g earlier later u spec founded there supplied.
      let found = ranks_exist g founded in components_alike g founded.no_null_elements found.0 found.1 earlier later u there supplied;
  alike_repeated = λ g e card other u spec founded there supplied.
      let found = ranks_exist g founded in repeated_alike g founded.no_null_elements found.0 found.1 e card other u there supplied;
}
