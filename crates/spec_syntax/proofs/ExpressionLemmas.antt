-- Laws of expressions.
use Rattle.std.proofs.Common.{◌≡◌, List, [], ◌∷◌, refl, ap}
use Rattle.spec_syntax.specs.Expression.{Expression, expressions_of, expression_list}

pub list_of : (es : List Expression) → expression_list (expressions_of es) ≡ es
list_of [] = refl
list_of (e ∷ es) = ap (λ others. e ∷ others) (list_of es)
