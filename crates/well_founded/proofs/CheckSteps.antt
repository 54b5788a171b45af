-- What the steps of the check find.
use Rattle.std.proofs.Common.{◌≡◌, ◌↔◌, inl, inr, ℕ, zero, suc, ◌+◌, ◌-◌, ◌<◌, ◌≤◌, Bool, true, false, not, List, [], ◌∷◌, length, take, refl, sym, ap, ◌∙◌, subst, arith, true≢false, slice_get, get_or, unwrap_or, Option, Some, None, option_map, All, IfSome}
use Rattle.std.specs.Prelude.{IsTrue, is_none, position}
use Rattle.std.specs.List.{position_from}
use Rattle.std.specs.Option.{option_or, option_map_or}
use Rattle.std.proofs.lemmas.List.{length-map, get_or_default}
use Rattle.std.proofs.lemmas.Iterator.Adapters.{position_from-zero}
use Rattle.std.proofs.lemmas.Bool.{not-false, not-true}
use Rattle.std.proofs.lemmas.Bool.Decides.{nat_tests}
use Rattle.std.proofs.lemmas.Option.{slice_get-map, slice_get_within, slice_get-get_or, same_Some}
use Rattle.spec_syntax.specs.Expression as expr
use Rattle.spec_syntax.specs.Expression.{Expression}
use Rattle.spec_syntax.specs.Rules.{Rules, symbol, rule_name, is_spec, all_nodes}
use Rattle.spec_syntax.specs.Grammar.{Grammar}
use Rattle.spec_syntax.proofs.RulesLemmas.{all_nodes-from_spec, symbol-within}
use Rattle.spec_syntax.proofs.RuleNames.{symbol_own, name_found}
use Rattle.lists.specs.Enumeration.{IsIn}
use Rattle.lists.proofs.Places.{in_of_get, get_of_in}
use Rattle.lists.proofs.Positions.{found_at, not_found, slice_some}
use Rattle.well_founded.specs.declared.refused.Refused.TheVariants.{CycleUnlabelled, Unproductive, NullElement, Endless}
use Rattle.well_founded.specs.Names.{name_without_rule, symbol_without_rule, undefined_name}
use Rattle.well_founded.specs.Sizes.{IsProductive, IsLeast, no_least}
use Rattle.well_founded.specs.Least.{IsSize, least_with, size_of_name, least_by, leasts_of}
use Rattle.spec_syntax.specs.Nodes.{node_at, right_node}
use Rattle.spec_syntax.specs.Nodes.{all_right_nodes}
use Rattle.graphs.specs.Graph.{Graph, Leads, IsGraph, AreCounts, IsFirstRound, IsNoRound}
use Rattle.well_founded.specs.SameSize.{same_size_graph}
use Rattle.well_founded.specs.Containers.{is_allowed, is_without_null}
use Rattle.well_founded.specs.Sized.{IsSized, IsAllButFinite}
use Rattle.well_founded.specs.Checked.{IsChecked, AreLeasts}
use Rattle.well_founded.specs.WellFounded.{may_hold_cycles, HoldsItself, OfRule, HoldsCycle, HasNoStructure, HoldsNull, IsEndless, OfNone, IsFirst, IsEachProductive, IsCulprit}
use Rattle.well_founded.proofs.CyclesLaws.{name_allowed, rule_allowed, node_allowed}
use Rattle.spec_syntax.proofs.NodesLemmas.{get-all_right_nodes, length-all_right_nodes}
use Rattle.well_founded.proofs.NodeTables.{length-right_table, table_right_within}
use Rattle.well_founded.proofs.EndlessLaws.{endless_is}
use Rattle.well_founded.proofs.RankLaws.{graph-length, is_graph, are_ranks}
use Rattle.well_founded.proofs.CheckExists.{null_where, no_null_where}

abbrev pub Rule : Type 0
Rule = List ℕ × Expression

-- the rule at a place is the first of which something is said, where it isn't said of those before it
pub first_at : (P : OfRule) (rules : Rules) (i : ℕ) (rule : Rule) → slice_get rules i ≡ Some rule → P rule.0 rule.1
    → ((j : ℕ) (other : Rule) → j < i → slice_get rules j ≡ Some other → P other.0 other.1 → ⊥) → IsFirst P rules rule.0
first_at P [] i rule at holds before = absurd (cc)
first_at P (head ∷ rules) zero rule at holds before =
    let same : head ≡ rule = cc in
    record { earlier = []; right = rule.1; later = rules; whole = ap (λ (r : Rule). r ∷ rules) same; none_before = λ name right there said. there; holds = holds }
first_at P (head ∷ rules) (suc i) rule at holds before =
    let rest = first_at P rules i rule at holds (λ j other less at_j said. before (suc j) other (omega (arith, less)) at_j said) in
    record {
      earlier = head ∷ rest.earlier;
      right = rest.right;
      later = rest.later;
      whole = ap (λ (others : Rules). head ∷ others) rest.whole;
      none_before = λ name right there said. none name right rest.earlier there said rest.none_before;
      holds = rest.holds;
    }
  where
    none : (name : List ℕ) (right : Expression) (earlier : Rules) → IsIn (name, right) (head ∷ earlier) → P name right → OfNone P earlier → ⊥
    none name right earlier (inl same) said others = before 0 head (omega arith) refl (subst (λ (r : Rule). P r.0 r.1) same said)
    none name right earlier (inr there) said others = others name right there said

-- the test passes the rules of which something is said
pub record Tells (P : OfRule) (test : Rule → Bool) (rules : Rules) : Type 0 where
  pub holds : (name : List ℕ) (right : Expression) → IsIn (name, right) rules → test (name, right) ≡ true → P name right
  pub fails : (name : List ℕ) (right : Expression) → IsIn (name, right) rules → test (name, right) ≡ false → P name right → ⊥

-- the rule that a search by the test stops at is the first
first_found : (P : OfRule) (test : Rule → Bool) (rules : Rules) (number : ℕ) (name : List ℕ) → Tells P test rules → position_from test 1 rules ≡ Some number → name ≡ rule_name rules number → IsFirst P rules name
first_found P test rules number name tells found is =
    let at = found_at test rules 1 number found in
    subst (IsFirst P rules) (sym (is ∙ name_found rules at.i number at.x (next at.i at.number) at.at))
    (first_at P rules at.i at.x at.at (tells.holds at.x.0 at.x.1 (in_of_get rules at.i at.x at.at) at.passes)
    (λ j other less there said. tells.fails other.0 other.1 (in_of_get rules j other there) (at.before j other less there) said))
  where
    next : (i : ℕ) → 1 + i ≡ number → i + 1 ≡ number
    next i same = omega arith

-- and where it stops at none, it is said of none
none_found : (P : OfRule) (test : Rule → Bool) (rules : Rules) → Tells P test rules → position_from test 1 rules ≡ None → OfNone P rules
none_found P test rules tells none name right there said =
    let at = get_of_in rules (name, right) there in
    tells.fails name right there (not_found test rules 1 at.0 (name, right) none at.1) said

-- ---- names

-- where no name is undefined, each name in the rules has one
pub no_undefined : (rules : Rules) (given : Option (List ℕ)) → undefined_name rules given ≡ None → name_without_rule rules ≡ None
no_undefined rules given h = by (name_without_rule rules) h
  where
    by : (first : Option (List ℕ)) → option_or first (symbol_without_rule rules given) ≡ None → first ≡ None
    by None h = refl
    by (Some name) h = absurd (cc)

-- ---- Cycles

cycles_told : (g : Grammar) → Tells (HoldsCycle g) (λ rule. not (is_allowed g.universe rule.1)) g.rules
cycles_told g = record {
  holds = λ name right there passes. not-true (is_allowed g.universe right) passes;
  fails = λ name right there fails holds. true≢false (sym (not-false (is_allowed g.universe right) fails) ∙ holds);
}

-- the rule with a Cycle that is found is refused
pub cycle_said : (g : Grammar) (number : ℕ) (name : List ℕ) → position_from (λ rule. not (is_allowed g.universe rule.1)) 1 g.rules ≡ Some number → name ≡ rule_name g.rules number
    → (given : Option (List ℕ)) → undefined_name g.rules given ≡ None → IsCulprit g given (CycleUnlabelled name)
cycle_said g number name found is given named = (named, first_found (HoldsCycle g) (λ rule. not (is_allowed g.universe rule.1)) g.rules number name (cycles_told g) found is)

pub none_with_cycle : (g : Grammar) → position_from (λ rule. not (is_allowed g.universe rule.1)) 1 g.rules ≡ None → OfNone (HoldsCycle g) g.rules
none_with_cycle g none = none_found (HoldsCycle g) (λ rule. not (is_allowed g.universe rule.1)) g.rules (cycles_told g) none

-- ---- sizes

none_is : (entry : Option ℕ) → is_none entry ≡ true → entry ≡ None
none_is None h = refl
none_is (Some n) h = absurd (true≢false (sym h))

some_is : (entry : Option ℕ) → is_none entry ≡ false → entry ≡ None → ⊥
some_is entry h is = true≢false (ap is_none (sym is) ∙ h)

position_none : (table : List (Option ℕ)) → position is_none table ≡ None → (i : ℕ) (entry : Option ℕ) → slice_get table i ≡ Some entry → entry ≡ None → ⊥
position_none table none i entry at is = some_is entry (not_found is_none table 0 i entry (sym (position_from-zero is_none table) ∙ none) at) is

position_some : (table : List (Option ℕ)) (place : ℕ) → position is_none table ≡ Some place → (slice_get table place ≡ Some None) × ((j : ℕ) (entry : Option ℕ) → j < place → slice_get table j ≡ Some entry → entry ≡ None → ⊥)
position_some table place found =
    let from = found_at is_none table 0 place (sym (position_from-zero is_none table) ∙ found) in
    let number : from.i ≡ place = omega (arith, from.number) in (
      subst (λ (j : ℕ). slice_get table j ≡ Some None) number (from.at ∙ ap Some (none_is from.x from.passes)),
      λ j entry less there is. some_is entry (from.before j entry (omega (arith, less, number)) there) is,
    )

module _ (g : Grammar) (table : List (Option ℕ)) (sized : IsSized g table) where
  abbrev sizes : Expression → Option ℕ
  sizes = least_with (size_of_name g.rules table)

  size_is : (e : Expression) → may_hold_cycles g e ≡ true → IsSize g e (sizes e)
  size_is e allowed = sized.sizes.each g.universe e sized.no_cycles allowed

  -- an entry for each rule
  entry_of : (i : ℕ) (rule : Rule) → slice_get g.rules i ≡ Some rule → (entry : Option ℕ) × (slice_get table i ≡ Some entry)
  entry_of i rule at = let within = slice_get_within g.rules i rule at in slice_some table i (omega (arith, within, sized.sizes.for_each))

  entry_size : (i : ℕ) (rule : Rule) (entry : Option ℕ) → slice_get g.rules i ≡ Some rule → slice_get table i ≡ Some entry → sizes (expr.Name rule.0) ≡ entry
  entry_size i rule entry at there =
      ap (λ (number : Option ℕ). option_map_or (λ n. unwrap_or (slice_get table (n - 1)) None) number None) (symbol_own g.rules i rule sized.spec at)
      ∙ ap (λ (j : ℕ). unwrap_or (slice_get table j) None) (number i)
      ∙ ap (λ (o : Option (Option ℕ)). unwrap_or o None) there
    where
      number : (n : ℕ) → suc n - 1 ≡ n
      number n = omega arith

  -- what the table says of a rule
  rule_size : (i : ℕ) (rule : Rule) (entry : Option ℕ) → slice_get g.rules i ≡ Some rule → slice_get table i ≡ Some entry → IsSize g (expr.Name rule.0) entry
  rule_size i rule entry at there = subst (λ (size : Option ℕ). IsSize g (expr.Name rule.0) size) (entry_size i rule entry at there) (size_is (expr.Name rule.0) (name_allowed g rule.0))

  productive_at : (i : ℕ) (rule : Rule) (entry : Option ℕ) → slice_get g.rules i ≡ Some rule → slice_get table i ≡ Some entry → (entry ≡ None → ⊥) → IsProductive g (expr.Name rule.0)
  productive_at i rule None at there some = absurd (some refl)
  productive_at i rule (Some n) at there some = (rule_size i rule (Some n) at there).0

  -- where no entry is none, each rule has a structure
  pub each_productive : position is_none table ≡ None → IsEachProductive g
  each_productive none name right there =
      let found = get_of_in g.rules (name, right) there in
      let entry = entry_of found.0 (name, right) found.1 in
      productive_at found.0 (name, right) entry.0 found.1 entry.1 (position_none table none found.0 entry.0 entry.1)

  -- the first entry that is none is that of the first rule without a structure, which is refused
  pub unproductive_said : (place : ℕ) (name : List ℕ) → position is_none table ≡ Some place → name ≡ rule_name g.rules (place + 1)
      → (given : Option (List ℕ)) → undefined_name g.rules given ≡ None → IsCulprit g given (Unproductive name)
  unproductive_said place name found is given named =
      let where_none = position_some table place found in
      let within = slice_get_within table place None where_none.0 in
      let rule = slice_some g.rules place (omega (arith, within, sized.sizes.for_each)) in (
        named,
        sized.no_cycles,
        subst (IsFirst (HasNoStructure g) g.rules) (sym (is ∙ name_found g.rules place (place + 1) rule.0 refl rule.1))
            (first_at (HasNoStructure g) g.rules place rule.0 rule.1 (rule_size place rule.0 None rule.1 where_none.0)
            (λ j other less at_j none.
            let entry = entry_of j other at_j in
            none (productive_at j other entry.0 at_j entry.1 (where_none.1 j entry.0 less entry.1)))),
      )

  -- ---- containers over one that can be empty

  nulls_told : Tells (HoldsNull g) (λ rule. not (is_without_null sizes rule.1)) g.rules
  nulls_told = record {
    holds = λ name right there passes. null_where g sizes size_is right (rule_allowed g name right sized.no_cycles there) (not-true (is_without_null sizes right) passes);
    fails = λ name right there fails. no_null_where g sizes size_is right (rule_allowed g name right sized.no_cycles there) (not-false (is_without_null sizes right) fails);
  }

  pub null_said : IsEachProductive g → (number : ℕ) (name : List ℕ) → position_from (λ rule. not (is_without_null sizes rule.1)) 1 g.rules ≡ Some number → name ≡ rule_name g.rules number
      → (given : Option (List ℕ)) → undefined_name g.rules given ≡ None → IsCulprit g given (NullElement name)
  null_said productive number name found is given named =
      (named, sized.no_cycles, productive, first_found (HoldsNull g) (λ rule. not (is_without_null sizes rule.1)) g.rules number name nulls_told found is)

  pub none_over_null : position_from (λ rule. not (is_without_null sizes rule.1)) 1 g.rules ≡ None → OfNone (HoldsNull g) g.rules
  none_over_null none = none_found (HoldsNull g) (λ rule. not (is_without_null sizes rule.1)) g.rules nulls_told none

  -- ---- the least sizes of the nodes

  least_when : (e : Expression) (size : Option ℕ) → IsSize g e size → IsLeast g e (unwrap_or size no_least)
  least_when e None none = inr (refl, λ s of. absurd (none (s, of)))
  least_when e (Some n) some = some.1

  are_leasts : AreLeasts g (leasts_of g.rules table)
  are_leasts = record { for_each = length-map (all_nodes g.rules) (least_by g.rules table); each = λ n l e at there. each n l e at there }
    where
      each : (n l : ℕ) (e : Expression) → node_at g.rules n ≡ Some e → slice_get (leasts_of g.rules table) n ≡ Some l → IsLeast g e l
      each n l e at there =
          let same : least_by g.rules table e ≡ l =
          same_Some (least_by g.rules table e) l (sym (slice_get-map (least_by g.rules table) (all_nodes g.rules) n ∙ ap (option_map (least_by g.rules table)) at) ∙ there) in
          subst (IsLeast g e) same (least_when e (sizes e) (size_is e (node_allowed g n e sized.no_cycles at)))

-- ---- the graph

module _ (g : Grammar) (table : List (Option ℕ)) where
  abbrev pub graph : Graph
  graph = same_size_graph g.rules (least_with (size_of_name g.rules table))

  pub graph_is : IsGraph graph
  graph_is = is_graph g (least_with (size_of_name g.rules table))

  pub graph_nodes : length graph ≡ length (all_nodes g.rules)
  graph_nodes = graph-length g (least_with (size_of_name g.rules table))

  pub graph_few : IsTrue (is_spec g.rules) → length graph ≤ 128
  graph_few spec = omega (arith, graph_nodes, all_nodes-from_spec g.rules spec)

  root_at : (i : ℕ) (rule : Rule) → slice_get g.rules i ≡ Some rule → slice_get (all_right_nodes g.rules) i ≡ Some (right_node g.rules (suc i))
  root_at i rule at = get-all_right_nodes g.rules i (slice_get_within g.rules i rule at)

  pub round_within : (place : ℕ) → IsFirstRound graph (all_right_nodes g.rules) place → place < length g.rules
  round_within place found = omega (arith, slice_get_within (all_right_nodes g.rules) place found.node found.at, length-all_right_nodes g.rules)

  module _ (all : IsAllButFinite g table) where
    sizes_are : (e : Expression) → may_hold_cycles g e ≡ true → IsSize g e (sizes g table all.sized e)
    sizes_are = size_is g table all.sized

    way : (i : ℕ) (rule : Rule) → slice_get g.rules i ≡ Some rule → HoldsItself g rule.0 ↔ Leads graph (right_node g.rules (suc i)) (right_node g.rules (suc i))
    way i rule at =
        endless_is g (least_with (size_of_name g.rules table)) all.sized.no_cycles sizes_are all.no_nulls rule.0 (suc i) (symbol_own g.rules i rule all.sized.spec at)
        (all.productive rule.0 rule.1 (in_of_get g.rules i rule at))

    -- the first root that leads to itself is that of the first rule that holds itself
    first_endless : (place : ℕ) (rule : Rule) → IsFirstRound graph (all_right_nodes g.rules) place → slice_get g.rules place ≡ Some rule → IsFirst (IsEndless g) g.rules rule.0
    first_endless place rule found at =
        let root : found.node ≡ right_node g.rules (suc place) = same_Some found.node (right_node g.rules (suc place)) (sym found.at ∙ root_at place rule at) in
        first_at (IsEndless g) g.rules place rule at ((way place rule at).1 (subst (λ (r : ℕ). Leads graph r r) root found.leads))
        (λ j other less at_j holds. found.before j (right_node g.rules (suc j)) less (root_at j other at_j) ((way j other at_j).0 holds))

    none_endless : IsNoRound graph (all_right_nodes g.rules) → OfNone (IsEndless g) g.rules
    none_endless none name right there holds =
        let found = get_of_in g.rules (name, right) there in
        none found.0 (right_node g.rules (suc found.0)) (root_at found.0 (name, right) found.1) ((way found.0 (name, right) found.1).0 holds)

    -- the rule of the root that is found is refused
    pub endless_said : (place : ℕ) → IsFirstRound graph (all_right_nodes g.rules) place → (given : Option (List ℕ)) → undefined_name g.rules given ≡ None
        → IsCulprit g given (Endless (rule_name g.rules (place + 1)) (unwrap_or (get_or table place None) no_least))
    endless_said place found given named =
        let within = round_within place found in
        let rule = slice_some g.rules place within in
        let same : rule.0.0 ≡ rule_name g.rules (place + 1) = sym (name_found g.rules place (place + 1) rule.0 refl rule.1) in
        let there : slice_get table place ≡ Some (get_or table place None) = slice_get-get_or table place None (omega (arith, within, all.sized.sizes.for_each)) in
        let least : IsLeast g (expr.Name rule.0.0) (unwrap_or (get_or table place None) no_least) =
        least_when g table all.sized (expr.Name rule.0.0) (get_or table place None) (rule_size g table all.sized place rule.0 (get_or table place None) rule.1 there) in (
          named,
          all.sized.no_cycles,
          all.productive,
          all.no_nulls,
          subst (IsFirst (IsEndless g) g.rules) same (first_endless place rule.0 found rule.1),
          subst (λ (own : List ℕ). IsLeast g (expr.Name own) (unwrap_or (get_or table place None) no_least)) same least,
        )

    -- where there is none, the grammar with its tables passes
    pub is_checked : IsNoRound graph (all_right_nodes g.rules) → (start : Option ℕ) (counts : List ℕ)
        → IfSome start (λ number. (1 ≤ number) × (number ≤ length g.rules)) → AreCounts graph counts
        → IsChecked (record { rules = g.rules; universe = g.universe; start = start; leasts = leasts_of g.rules table; ranks = counts })
    is_checked none start counts started counted = record {
      spec = all.sized.spec;
      well_founded = record {
        named = ap (λ (o : Option (List ℕ)). option_or o None) all.named;
        no_cycles = all.sized.no_cycles;
        productive = all.productive;
        no_null_elements = all.no_nulls;
        finite = none_endless none;
      };
      least = are_leasts g table all.sized;
      ranked = are_ranks g (least_with (size_of_name g.rules table)) all.sized.no_cycles sizes_are all.productive (none_endless none) all.no_nulls counts counted;
      started = started;
    }

-- each root is a node
pub roots_within : (rules : Rules) (roots : List ℕ) → roots ≡ all_right_nodes rules → All (λ root. root < length (all_nodes rules)) roots
roots_within rules roots is k d within =
    table_right_within rules roots is (suc k) (get_or roots k d) (omega arith) (omega (arith, within, length-right_table rules roots is))
    (get_or_default roots k d (get_or roots k d) within ∙ ap (λ (j : ℕ). get_or roots j (get_or roots k d)) (number k))
  where
    number : (n : ℕ) → n ≡ suc n - 1
    number n = omega arith

-- a specification has few rules
pub few_rules : (rules : Rules) → IsTrue (is_spec rules) → length rules ≤ 64
few_rules rules facts = grind (arith, nat_tests, facts)

-- what a search found, in other words
pub found_by : (graph other : Graph) (roots nodes : List ℕ) (found : Option ℕ) (place : ℕ) → graph ≡ other → roots ≡ nodes → found ≡ Some place
    → IfSome found (λ place. IsFirstRound graph roots place) → IsFirstRound other nodes place
found_by graph other roots nodes found place same_graph same_roots is h =
    subst (λ (g : Graph). IsFirstRound g nodes place) same_graph
    (subst (λ (rs : List ℕ). IsFirstRound graph rs place) same_roots (subst (λ (o : Option ℕ). IfSome o (λ place. IsFirstRound graph roots place)) is h))

pub none_by : (graph other : Graph) (roots nodes : List ℕ) (found : Option ℕ) → graph ≡ other → roots ≡ nodes → found ≡ None → (found ≡ None → IsNoRound graph roots) → IsNoRound other nodes
none_by graph other roots nodes found same_graph same_roots is h =
    subst (λ (g : Graph). IsNoRound g nodes) same_graph (subst (λ (rs : List ℕ). IsNoRound graph rs) same_roots (h is))

-- the number of a rule that is found is one
pub found_within : (rules : Rules) (name : List ℕ) (found : Option ℕ) → found ≡ symbol rules name → IfSome found (λ number. (1 ≤ number) × (number ≤ length rules))
found_within rules name None is = tt
found_within rules name (Some n) is = symbol-within rules name n (sym is)
