-- The structures within bounds, and the listing that is picked from them.
use Rattle.std.specs.Prelude.{ℕ, zero, suc, ◌+◌, ◌*◌, max, Bool, ◌&&◌, List, [], ◌∷◌, ◌++◌, length, map}
use Rattle.std.specs.List.{filter, flat_map}
use Rattle.std.specs.Ordering.{match_ordering}
use Rattle.spec_syntax.specs.Expression as expr
use Rattle.spec_syntax.specs.Expression.{Expression, expression_list}
use Rattle.spec_syntax.specs.Rules.{Rules, all_nodes}
use Rattle.spec_syntax.specs.Grammar.{Grammar}
use Rattle.struct_model.specs.declared.tree.Form5.{Form5}
use Rattle.struct_model.specs.declared.tree.Form5.TheVariants as form
use Rattle.struct_model.specs.Structure.{Structure, Eps, Atom, Named, Alt, Tup, Structures, no_parts, more_parts, key}
use Rattle.struct_model.specs.Order.{order}
use Rattle.struct_model.specs.Membership.{is_of, supply, same_labels}

-- the deepest nesting, the greatest number of a rule or an argument, the longest list of components and the greatest label
pub record Bounds : Type 0 where
  pub height : ℕ
  pub number : ℕ
  pub width : ℕ
  pub label : ℕ

abbrev pub greatest : List ℕ → ℕ
greatest [] = 0
greatest (n ∷ ns) = max n (greatest ns)

-- the number of arguments of a Union or a Prod
abbrev pub argument_count : Expression → ℕ
argument_count expr.Epsilon = 0
argument_count expr.Atom = 0
argument_count (expr.Name name) = 0
argument_count (expr.Union es) = length (expression_list es)
argument_count (expr.Prod es) = length (expression_list es)
argument_count (expr.Many container e card) = 0

-- the greatest number of arguments in the rules
abbrev pub most_arguments : Rules → ℕ
most_arguments rules = greatest (map argument_count (all_nodes rules))

-- the bounds of the structures with these labels
abbrev pub bounds : Grammar → List ℕ → Bounds
bounds g u = record {
  height = (length u + 2) * (length (all_nodes g.rules) + 2);
  number = max (length g.rules) (most_arguments g.rules);
  width = length u + most_arguments g.rules;
  label = max (length u) (greatest u);
}

-- the numbers from n down to 0
abbrev pub down_from : ℕ → List ℕ
down_from zero = 0 ∷ []
down_from (suc n) = suc n ∷ down_from n

abbrev pub forms : List Form5
forms = form.Prod ∷ form.Sequence ∷ form.Set ∷ form.PowerSet ∷ form.Cycle ∷ []

-- the lists of at most n of these structures
abbrev pub part_lists : ℕ → List Structure → List Structures
part_lists zero ss = no_parts ∷ []
part_lists (suc n) ss = no_parts ∷ flat_map (λ s. map (more_parts s) (part_lists n ss)) ss

-- the structures with nothing inside
abbrev pub leaves : Bounds → List Structure
leaves b = map Eps (down_from b.number) ++ flat_map (λ x. map (Atom x) (down_from b.label)) (down_from b.number)

-- the structures with these directly inside
abbrev pub around : Bounds → List Structure → List Structure
around b ss =
    flat_map (λ x. map (Named x) ss ++ map (Alt x) ss) (down_from b.number)
    ++ flat_map (λ f. map (Tup f) (part_lists b.width ss)) forms

-- the structures of height at most h within the other bounds
abbrev pub up_to_height : Bounds → ℕ → List Structure
up_to_height b zero = leaves b
up_to_height b (suc h) = leaves b ++ around b (up_to_height b h)

-- the structures within the bounds
abbrev pub bounded : Bounds → List Structure
bounded b = up_to_height b b.height

-- puts the structure in its place among ascending ones, unless it is there
abbrev pub put : Structure → List Structure → List Structure
put s [] = s ∷ []
put s (t ∷ ts) = match_ordering (order s t) (s ∷ t ∷ ts) (t ∷ ts) (t ∷ put s ts)

-- the structures in ascending order, each once
abbrev pub in_order : List Structure → List Structure
in_order [] = []
in_order (s ∷ ss) = put s (in_order ss)

-- is the structure one of the expression with these labels
abbrev pub is_one : Grammar → Expression → List ℕ → Structure → Bool
is_one g e u s = is_of g e s && same_labels (key s) u

-- the structures of the expression with these labels within the bounds, in ascending order
abbrev pub listing_within : Bounds → Grammar → Expression → List ℕ → List Structure
listing_within b g e u = in_order (filter (is_one g e u) (bounded b))

-- the listing of the expression on the labels
unfoldable pub listing : Grammar → Expression → List ℕ → List Structure
listing g e u = listing_within (bounds g u) g e u

-- the number of structures of the expression at size n
abbrev pub number : Grammar → Expression → ℕ → ℕ
number g e n = length (listing g e (supply g.universe n))
