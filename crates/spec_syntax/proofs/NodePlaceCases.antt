-- Worked cases of the places of nodes in their rules, by computing.
use Rattle.std.specs.Prelude.{◌≡◌, [], ◌∷◌, Some, None, refl, codes}
use Rattle.spec_syntax.specs.declared.expr.Kind.TheVariants.{Sequence}
use Rattle.spec_syntax.specs.Expression.{Epsilon, Atom, Name, Union, Prod, Many, expressions_of}
use Rattle.spec_syntax.specs.Rules.{Rules}
use Rattle.spec_syntax.specs.Nodes.{all_right_nodes, place_in_rule, places_in_rules, children_at}

-- A = Union(Epsilon, Prod(Z, A)), B = Z and C = Sequence(B)
abbrev three : Rules
three =
    (codes "A", Union (expressions_of (Epsilon ∷ Prod (expressions_of (Atom ∷ Name (codes "A") ∷ [])) ∷ [])))
    ∷ (codes "B", Atom)
    ∷ (codes "C", Many Sequence (Name (codes "B")) (record { low = 0; high = None }))
    ∷ []

places_of_three : places_in_rules three ≡ (1, 1) ∷ (1, 2) ∷ (1, 3) ∷ (1, 4) ∷ (1, 5) ∷ (2, 1) ∷ (3, 1) ∷ (3, 2) ∷ []
places_of_three = refl

right_sides_of_three : all_right_nodes three ≡ 0 ∷ 5 ∷ 6 ∷ []
right_sides_of_three = refl

children_of_the_prod : children_at three 2 ≡ 3 ∷ 4 ∷ []
children_of_the_prod = refl

place_of_an_element : place_in_rule three 7 ≡ Some (3, 2)
place_of_an_element = refl

no_ninth_node : place_in_rule three 8 ≡ None
no_ninth_node = refl
