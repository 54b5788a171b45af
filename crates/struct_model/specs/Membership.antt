-- Which structures an expression has, and which a class has at a size.
use Rattle.std.specs.Prelude.{ℕ, zero, suc, Bool, true, false, not, ◌&&◌, ◌||◌, nat_eq, nat_lt, List, length, replicate, Option, Some, None}
use Rattle.std.specs.Option.{option_map_or}
use Rattle.std.specs.List.{list_all}
use Rattle.std.specs.Cmp.Lexicographic.{pointwise}
use Rattle.lists.specs.Ascending.{ascends_above, one_to}
use Rattle.spec_syntax.specs.declared.statement.Universe.{Universe}
use Rattle.spec_syntax.specs.declared.statement.Universe.TheVariants.{Labelled, Unlabelled}
use Rattle.spec_syntax.specs.declared.expr.Kind.TheVariants as kind
use Rattle.spec_syntax.specs.Card.{admits}
use Rattle.spec_syntax.specs.Expression as expr
use Rattle.spec_syntax.specs.Expression.{Expression, Expressions, no_expressions, more_expressions}
use Rattle.spec_syntax.specs.Rules.{symbol, right_side}
use Rattle.spec_syntax.specs.Grammar.{Grammar}
use Rattle.struct_model.specs.declared.tree.Form5.TheVariants as form
use Rattle.struct_model.specs.Structure.{Structure, Eps, Atom, Named, Alt, Tup, Structures, no_parts, more_parts, part_list, key}
use Rattle.struct_model.specs.Order.{is_sorted, is_strictly_sorted, is_least_rotation}

abbrev pub is_epsilon : Expression → Bool
is_epsilon expr.Epsilon = true
is_epsilon expr.Atom = false
is_epsilon (expr.Name name) = false
is_epsilon (expr.Union es) = false
is_epsilon (expr.Prod es) = false
is_epsilon (expr.Many container e card) = false

abbrev pub is_atom : Expression → Bool
is_atom expr.Epsilon = false
is_atom expr.Atom = true
is_atom (expr.Name name) = false
is_atom (expr.Union es) = false
is_atom (expr.Prod es) = false
is_atom (expr.Many container e card) = false

-- is n the number of the rule with the name, and has its right side the property
abbrev pub names : Grammar → List ℕ → ℕ → (Expression → Bool) → Bool
names g name n has_property = option_map_or (nat_eq n) (symbol g.rules name) false && option_map_or has_property (right_side g.rules n) false

-- 0 in the unlabelled universe, at least 1 in the labelled one
abbrev pub is_label : Universe → ℕ → Bool
is_label Unlabelled l = nat_eq l 0
is_label Labelled l = nat_lt 0 l

abbrev pub is_labelled : Universe → Bool
is_labelled Labelled = true
is_labelled Unlabelled = false

-- argument number k, from 1
abbrev pub argument : Expressions → ℕ → Option Expression
argument no_expressions k = None
argument (more_expressions e es) zero = None
argument (more_expressions e es) (suc zero) = Some e
argument (more_expressions e es) (suc (suc k)) = argument es (suc k)

abbrev mutual
  -- is the structure one of the expression; a structure that was made in another way isn't
  pub is_of : Grammar → Expression → Structure → Bool
  is_of g expr.Epsilon (Eps x) = nat_eq x 0
  is_of g expr.Atom (Atom x l) = nat_eq x 0 && is_label g.universe l
  is_of g (expr.Name name) (Eps x) = names g name x is_epsilon
  is_of g (expr.Name name) (Atom x l) = names g name x is_atom && is_label g.universe l
  is_of g (expr.Name name) (Named x s) = names g name x (λ right. not (is_epsilon right || is_atom right) && is_of g right s)
  is_of g (expr.Union es) (Alt k s) = option_map_or (λ e. is_of g e s) (argument es k) false
  is_of g (expr.Prod es) (Tup form.Prod ss) = are_of_each g es ss
  is_of g (expr.Many kind.Sequence e card) (Tup form.Sequence ss) = admits card (length (part_list ss)) && are_of g e ss
  is_of g (expr.Many kind.Set e card) (Tup form.Set ss) = admits card (length (part_list ss)) && is_sorted (part_list ss) && are_of g e ss
  is_of g (expr.Many kind.PowerSet e card) (Tup form.PowerSet ss) = admits card (length (part_list ss)) && is_strictly_sorted (part_list ss) && are_of g e ss
  is_of g (expr.Many kind.Cycle e card) (Tup form.Cycle ss) =
      is_labelled g.universe && admits card (length (part_list ss)) && nat_lt 0 (length (part_list ss)) && is_least_rotation (part_list ss) && are_of g e ss
  is_of g expr.Epsilon s = false
  is_of g expr.Atom s = false
  is_of g (expr.Name name) s = false
  is_of g (expr.Union es) s = false
  is_of g (expr.Prod es) s = false
  is_of g (expr.Many kind.Sequence e card) s = false
  is_of g (expr.Many kind.Set e card) s = false
  is_of g (expr.Many kind.PowerSet e card) s = false
  is_of g (expr.Many kind.Cycle e card) s = false

  -- is each component one of the expression
  pub are_of : Grammar → Expression → Structures → Bool
  are_of g e no_parts = true
  are_of g e (more_parts s ss) = is_of g e s && are_of g e ss

  -- are there as many components as expressions, and is each one of its expression
  pub are_of_each : Grammar → Expressions → Structures → Bool
  are_of_each g no_expressions no_parts = true
  are_of_each g (more_expressions e es) (more_parts s ss) = is_of g e s && are_of_each g es ss
  are_of_each g no_expressions (more_parts s ss) = false
  are_of_each g (more_expressions e es) no_parts = false

-- the labels of a structure of size n: n zeros, or 1 to n
abbrev pub supply : Universe → ℕ → List ℕ
supply Unlabelled n = replicate n 0
supply Labelled n = one_to n

-- may atoms of the universe carry these labels: zeros, or distinct labels of at least 1 in ascending order
abbrev pub is_supply : Universe → List ℕ → Bool
is_supply Unlabelled u = list_all (nat_eq 0) u
is_supply Labelled u = ascends_above 0 u

abbrev pub same_labels : List ℕ → List ℕ → Bool
same_labels = pointwise nat_eq

-- is the structure one of the class of the name at size n
abbrev pub is_member : Grammar → List ℕ → ℕ → Structure → Bool
is_member g name n s = is_of g (expr.Name name) s && same_labels (key s) (supply g.universe n)
