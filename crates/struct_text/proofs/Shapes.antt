-- The structures of a node, by what the node is.
use Rattle.std.proofs.Common.{◌≡◌, ◌≤◌, ◌<◌, ◌^◌, ℕ, zero, suc, ◌+◌, Bool, true, false, ◌&&◌, List, [], ◌∷◌, length, drop, nat_lt, slice_get, Option, Some, None, IsTrue, refl, sym, ap, ◌∙◌, arith, true≢false}
use Rattle.std.specs.List.{list_all}
use Rattle.std.specs.Option.{option_map, option_map_or}
use Rattle.std.proofs.lemmas.Bool.{and_parts, and_from}
use Rattle.std.proofs.lemmas.List.Folds.{list_all-append}
use Rattle.lists.proofs.Tests.{held, all_at}
use Rattle.lists.proofs.Places.{drop_at}
use Rattle.lists.proofs.Positions.{slice_some}
use Rattle.spec_syntax.specs.declared.expr.Kind.TheVariants as kind
use Rattle.spec_syntax.specs.Expression as expr
use Rattle.spec_syntax.specs.Expression.{Expression, Expressions, no_expressions, more_expressions, expression_list, expressions_of, preorder, preorder_of_all, has_some, is_well_formed, are_well_formed}
use Rattle.spec_syntax.specs.Rules.{Rules, is_spec, all_nodes}
use Rattle.spec_syntax.specs.Grammar.{Grammar}
use Rattle.spec_syntax.specs.Nodes.{node_at, arguments_of, arguments_at, children_at, children_of}
use Rattle.spec_syntax.specs.Word.{is_word}
use Rattle.spec_syntax.proofs.NodesLemmas.{length-children_of, all_of_rules}
use Rattle.struct_model.specs.declared.tree.Form5.{Form5}
use Rattle.struct_model.specs.declared.tree.Form5.TheVariants as form
use Rattle.struct_model.specs.Structure.{Structure, Alt, Tup, Structures, no_parts, more_parts, part_list, parts_of, labels, labels_of_parts}
use Rattle.struct_model.specs.Membership.{is_of, are_of, are_of_each, argument}
use Rattle.well_founded.specs.declared.node.NodeKind.TheVariants as told
use Rattle.well_founded.specs.NodeKinds.{kind_of}
use Rattle.well_founded.specs.Checked.{Checked, grammar}
use Rattle.struct_text.specs.Labels.{are_small}
use Rattle.struct_text.specs.Reading.{has_form, is_of_node, are_later, are_parts_small}
use Rattle.struct_text.proofs.Containers.{form_of, many_is}

pub parts_again : (ss : Structures) → parts_of (part_list ss) ≡ ss
parts_again no_parts = refl
parts_again (more_parts s ss) = ap (more_parts s) (parts_again ss)

arguments_again : (es : Expressions) → expressions_of (expression_list es) ≡ es
arguments_again no_expressions = refl
arguments_again (more_expressions e es) = ap (more_expressions e) (arguments_again es)

-- ---- a Union

-- the argument that a number counts
argument_place : (es : Expressions) (k : ℕ) (e : Expression) → argument es k ≡ Some e → (i : ℕ) × (k ≡ suc i) × (slice_get (expression_list es) i ≡ Some e)
argument_place no_expressions k e at = absurd (cc)
argument_place (more_expressions f es) zero e at = absurd (cc)
argument_place (more_expressions f es) (suc zero) e at = (0, refl, at)
argument_place (more_expressions f es) (suc (suc k)) e at =
    let place = argument_place es (suc k) e at in (suc place.0, ap suc place.1, place.2)

-- a structure of one argument, with its number
pub record IsChosen (g : Grammar) (arguments : List Expression) (s : Structure) : Type 0 where
  pub component : Structure
  pub place : ℕ
  pub is : s ≡ Alt (suc place) component
  pub e : Expression
  pub at : slice_get arguments place ≡ Some e
  pub of : is_of g e component ≡ true

pub of_union : (g : Grammar) (o : Option Expression) (s : Structure) → option_map kind_of o ≡ Some told.Union → option_map_or (λ e. is_of g e s) o false ≡ true
    → IsChosen g (option_map_or arguments_of o []) s
of_union g (Some (expr.Union es)) (Alt k s) kind of =
    let found = held (λ e. is_of g e s) (argument es k) of in
    let place = argument_place es k found.0 found.1 in
    record { component = s; place = place.0; is = ap (λ (n : ℕ). Alt n s) place.1; e = found.0; at = place.2; of = found.2 }
of_union g (Some (expr.Union es)) s kind of = absurd (true≢false (sym of))
of_union g (Some (expr.Many kind.Sequence e card)) s kind of = absurd (cc)
of_union g (Some (expr.Many kind.Set e card)) s kind of = absurd (cc)
of_union g (Some (expr.Many kind.PowerSet e card)) s kind of = absurd (cc)
of_union g (Some (expr.Many kind.Cycle e card)) s kind of = absurd (cc)
of_union g o s kind of = absurd (cc)

-- ---- a Prod

-- a list of this form whose components pass
pub record IsList (form : Form5) (pass : List Structure → Bool) (s : Structure) : Type 0 where
  pub parts : List Structure
  pub is : s ≡ Tup form (parts_of parts)
  pub of : pass parts ≡ true

pub of_prod : (g : Grammar) (o : Option Expression) (s : Structure) → option_map kind_of o ≡ Some told.Prod → option_map_or (λ e. is_of g e s) o false ≡ true
    → IsList form.Prod (λ ss. are_of_each g (expressions_of (option_map_or arguments_of o [])) (parts_of ss)) s
of_prod g (Some (expr.Prod es)) (Tup form.Prod ss) kind of =
    record {
      parts = part_list ss;
      is = ap (Tup form.Prod) (sym (parts_again ss));
      of = ap (λ (fs : Expressions). are_of_each g fs (parts_of (part_list ss))) (arguments_again es) ∙ ap (are_of_each g es) (parts_again ss) ∙ of;
    }
of_prod g (Some (expr.Prod es)) s kind of = absurd (true≢false (sym of))
of_prod g (Some (expr.Many kind.Sequence e card)) s kind of = absurd (cc)
of_prod g (Some (expr.Many kind.Set e card)) s kind of = absurd (cc)
of_prod g (Some (expr.Many kind.PowerSet e card)) s kind of = absurd (cc)
of_prod g (Some (expr.Many kind.Cycle e card)) s kind of = absurd (cc)
of_prod g o s kind of = absurd (cc)

-- the components behind some of a Prod begin with one of the next argument
pub record HasFirst (first : Structure → Bool) (others : List Structure → Bool) (ss : List Structure) : Type 0 where
  pub component : Structure
  pub later : List Structure
  pub is : ss ≡ component ∷ later
  pub of : first component ≡ true
  pub behind : others later ≡ true

later_begins : (g : Grammar) (e : Expression) (es : List Expression) (ss : List Structure) → are_of_each g (expressions_of (e ∷ es)) (parts_of ss) ≡ true
    → HasFirst (is_of g e) (λ later. are_of_each g (expressions_of es) (parts_of later)) ss
later_begins g e es [] of = absurd (true≢false (sym of))
later_begins g e es (s ∷ ss) of =
    let both = and_parts (is_of g e s) (are_of_each g (expressions_of es) (parts_of ss)) of in
    record { component = s; later = ss; is = refl; of = both.0; behind = both.1 }

module _ (checked : Checked) (node : ℕ) where
  abbrev g : Grammar
  g = grammar checked

  -- a structure of the child at a place
  pub of_child : (child place : ℕ) (e : Expression) (s : Structure) → node_at checked.rules child ≡ slice_get (arguments_at checked.rules node) place
      → slice_get (arguments_at checked.rules node) place ≡ Some e → is_of g e s ≡ true → is_of_node checked child s ≡ true
  of_child child place e s is at of = ap (λ o. option_map_or (λ e. is_of g e s) o false) (is ∙ at) ∙ of

  pub next_later : (child count : ℕ) (ss : List Structure) → count < length (arguments_at checked.rules node)
      → node_at checked.rules child ≡ slice_get (arguments_at checked.rules node) count → IsTrue (are_later checked node count ss)
      → HasFirst (is_of_node checked child) (are_later checked node (suc count)) ss
  next_later child count ss within is later =
      let all : List Expression = arguments_at checked.rules node in
      let at = slice_some all count within in
      let one : count + 1 ≡ suc count = omega arith in
      let cut : drop count all ≡ at.0 ∷ drop (suc count) all = drop_at all count at.0 at.1 ∙ ap (λ (n : ℕ). at.0 ∷ drop n all) one in
      let begins = later_begins g at.0 (drop (suc count) all) ss (sym (ap (λ (es : List Expression). are_of_each g (expressions_of es) (parts_of ss)) cut) ∙ later) in
      record { component = begins.component; later = begins.later; is = begins.is; of = of_child child count at.0 begins.component is at.1 begins.of; behind = begins.behind }

  -- nothing stands behind all components
  pub none_later : (count : ℕ) (ss : List Structure) → drop count (arguments_at checked.rules node) ≡ [] → IsTrue (are_later checked node count ss) → ss ≡ []
  none_later count [] none later = refl
  none_later count (s ∷ ss) none later =
      absurd (true≢false (sym later ∙ ap (λ (es : List Expression). are_of_each g (expressions_of es) (parts_of (s ∷ ss))) none))

  pub children_count : length (children_at checked.rules node) ≡ length (arguments_at checked.rules node)
  children_count = of_option (node_at checked.rules node)
    where
      of_option : (o : Option Expression) → length (option_map_or (children_of node) o []) ≡ length (option_map_or arguments_of o [])
      of_option None = refl
      of_option (Some e) = length-children_of node e

  pub within_arguments : (n : ℕ) → n < length (children_at checked.rules node) → n < length (arguments_at checked.rules node)
  within_arguments n within = omega (arith, within, children_count)

  pub past_arguments : (n : ℕ) → length (children_at checked.rules node) ≤ n → drop n (arguments_at checked.rules node) ≡ []
  past_arguments n past = drop_all (arguments_at checked.rules node) n (omega (arith, past, children_count))
    where
      drop_all : (xs : List Expression) (n : ℕ) → length xs ≤ n → drop n xs ≡ []
      drop_all [] zero low = refl
      drop_all [] (suc n) low = refl
      drop_all (x ∷ xs) zero low = absurd (omega (arith, low))
      drop_all (x ∷ xs) (suc n) low = drop_all xs n (omega (arith, low))

-- ---- a container

of_each : (g : Grammar) (e : Expression) (ss : List Structure) → are_of g e (parts_of ss) ≡ list_all (is_of g e) ss
of_each g e [] = refl
of_each g e (s ∷ ss) = ap (λ b. is_of g e s && b) (of_each g e ss)

list_of_many : (g : Grammar) (kind : _) (e : Expression) (card : _) (s : Structure) → is_of g (expr.Many kind e card) s ≡ true → IsList (form_of kind) (list_all (is_of g e)) s
list_of_many g kind e card s of =
    let many = many_is g kind e card s of in
    record {
      parts = part_list many.parts;
      is = many.is ∙ ap (Tup (form_of kind)) (sym (parts_again many.parts));
      of = sym (of_each g e (part_list many.parts)) ∙ ap (are_of g e) (parts_again many.parts) ∙ many.are;
    }

-- a container's form, its element, and its components
pub record IsMany (g : Grammar) (arguments : List Expression) (form : Form5) (s : Structure) : Type 0 where
  pub e : Expression
  pub at : arguments ≡ e ∷ []
  pub list : IsList form (list_all (is_of g e)) s

pub of_many : (g : Grammar) (form : Form5) (o : Option Expression) (s : Structure) → option_map_or (λ e. has_form e form) o false ≡ true → option_map_or (λ e. is_of g e s) o false ≡ true
    → IsMany g (option_map_or arguments_of o []) form s
of_many g form.Sequence (Some (expr.Many kind.Sequence e card)) s many of = record { e = e; at = refl; list = list_of_many g kind.Sequence e card s of }
of_many g form.Set (Some (expr.Many kind.Set e card)) s many of = record { e = e; at = refl; list = list_of_many g kind.Set e card s of }
of_many g form.PowerSet (Some (expr.Many kind.PowerSet e card)) s many of = record { e = e; at = refl; list = list_of_many g kind.PowerSet e card s of }
of_many g form.Cycle (Some (expr.Many kind.Cycle e card)) s many of = record { e = e; at = refl; list = list_of_many g kind.Cycle e card s of }
of_many g form.Prod (Some (expr.Many kind.Sequence e card)) s many of = absurd (true≢false (sym many))
of_many g form o s many of = absurd (true≢false (sym many))

-- ---- labels

pub small_parts : (s : Structure) (ss : List Structure) → IsTrue (are_parts_small (s ∷ ss)) → IsTrue (are_small s) × IsTrue (are_parts_small ss)
small_parts s ss small =
    and_parts (are_small s) (are_parts_small ss)
    (sym (list_all-append (λ (label : ℕ). nat_lt label (2 ^ 32)) (labels s) (labels_of_parts (parts_of ss))) ∙ small)

-- ---- a Prod has a component

abbrev has_argument : Expression → Bool
has_argument (expr.Prod es) = has_some es
has_argument expr.Epsilon = true
has_argument expr.Atom = true
has_argument (expr.Name name) = true
has_argument (expr.Union es) = true
has_argument (expr.Many kind e card) = true

mutual
  well_formed_has : (e : Expression) → is_well_formed e ≡ true → list_all has_argument (preorder e) ≡ true
  well_formed_has expr.Epsilon well = refl
  well_formed_has expr.Atom well = refl
  well_formed_has (expr.Name name) well = refl
  well_formed_has (expr.Union es) well = all_well_formed_have es (and_parts (has_some es) (are_well_formed es) well).1
  well_formed_has (expr.Prod es) well =
      let both = and_parts (has_some es) (are_well_formed es) well in and_from _ _ both.0 (all_well_formed_have es both.1)
  well_formed_has (expr.Many kind e card) well = well_formed_has e (and_parts _ (is_well_formed e) well).1

  all_well_formed_have : (es : Expressions) → are_well_formed es ≡ true → list_all has_argument (preorder_of_all es) ≡ true
  all_well_formed_have no_expressions well = refl
  all_well_formed_have (more_expressions e es) well =
      let both = and_parts (is_well_formed e) (are_well_formed es) well in
      list_all-append has_argument (preorder e) (preorder_of_all es) ∙ and_from _ _ (well_formed_has e both.0) (all_well_formed_have es both.1)

rules_well_formed : (rules : Rules) → list_all (λ rule. is_word rule.0 && is_well_formed rule.1) rules ≡ true
    → list_all (λ (rule : List ℕ × Expression). list_all has_argument (preorder rule.1)) rules ≡ true
rules_well_formed [] well = refl
rules_well_formed (rule ∷ rules) well =
    let both = and_parts (is_word rule.0 && is_well_formed rule.1) (list_all (λ rule. is_word rule.0 && is_well_formed rule.1) rules) well in
    and_from _ _ (well_formed_has rule.1 (and_parts (is_word rule.0) (is_well_formed rule.1) both.0).1) (rules_well_formed rules both.1)

some_of : (o : Option Expression) → option_map kind_of o ≡ Some told.Prod → option_map_or has_argument o true ≡ true → 0 < length (option_map_or arguments_of o [])
some_of (Some (expr.Prod (more_expressions e es))) kind has = omega arith
some_of (Some (expr.Prod no_expressions)) kind has = absurd (true≢false (sym has))
some_of (Some (expr.Many kind.Sequence e card)) kind has = absurd (cc)
some_of (Some (expr.Many kind.Set e card)) kind has = absurd (cc)
some_of (Some (expr.Many kind.PowerSet e card)) kind has = absurd (cc)
some_of (Some (expr.Many kind.Cycle e card)) kind has = absurd (cc)
some_of o kind has = absurd (cc)

pub prod_has_child : (checked : Checked) (node : ℕ) → IsTrue (is_spec checked.rules) → option_map kind_of (node_at checked.rules node) ≡ Some told.Prod
    → 0 < length (children_at checked.rules node)
prod_has_child checked node spec kind =
    let words : list_all (λ rule. is_word rule.0 && is_well_formed rule.1) checked.rules ≡ true = grind (arith, spec) in
    let all = all_of_rules has_argument checked.rules (rules_well_formed checked.rules words) in
    let some = some_of (node_at checked.rules node) kind (has (node_at checked.rules node) refl all) in
    omega (arith, some, children_count checked node)
  where
    has : (o : Option Expression) → node_at checked.rules node ≡ o → list_all has_argument (all_nodes checked.rules) ≡ true → option_map_or has_argument o true ≡ true
    has None at all = refl
    has (Some e) at all = all_at has_argument (all_nodes checked.rules) node e all at
