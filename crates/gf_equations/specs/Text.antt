-- The texts of generating function equations, exponential ones in labelled grammars and ordinary ones in unlabelled grammars.
use Rattle.std.specs.Prelude.{ℕ, zero, suc, ◌-◌, true, false, List, [], ◌∷◌, ◌++◌, codes, decimal, if◌then◌else◌}
use Rattle.std.specs.List.{join_by}
use Rattle.spec_syntax.specs.declared.expr.Kind.{Kind}
use Rattle.spec_syntax.specs.declared.expr.Kind.TheVariants as kind
use Rattle.spec_syntax.specs.declared.statement.Universe.{Universe}
use Rattle.spec_syntax.specs.declared.statement.Universe.TheVariants.{Labelled, Unlabelled}
use Rattle.spec_syntax.specs.Expression.{Expression, Epsilon, Atom, Name, Union, Prod, Many, Expressions, no_expressions, more_expressions}
use Rattle.spec_syntax.specs.Grammar.{Grammar}
use Rattle.gf_equations.specs.declared.bound.Bound.{Bound}
use Rattle.gf_equations.specs.declared.bound.Bound.TheVariants.{Any, Exactly, AtMost, AtLeast}
use Rattle.gf_equations.specs.declared.term.Term.{Term}
use Rattle.gf_equations.specs.Bounds.{bound}

-- ---- terms: texts that can be factors as they are, and others

abbrev pub simple : List ℕ → Term
simple text = record { text = text; is_simple = true }

abbrev pub compound : List ℕ → Term
compound text = record { text = text; is_simple = false }

-- the text as a factor, in parentheses where it isn't simple
abbrev pub factor : Term → List ℕ
factor t = if t.is_simple then t.text else codes "(" ++ t.text ++ codes ")"

-- the sum of the terms; one alone is itself
abbrev pub sum_of : List Term → Term
sum_of [] = compound []
sum_of (t ∷ []) = t
sum_of (t ∷ s ∷ ts) = compound (join_by (λ r. r.text) (codes " + ") (t ∷ s ∷ ts))

-- their product
abbrev pub product_of : List Term → Term
product_of [] = compound []
product_of (t ∷ []) = t
product_of (t ∷ s ∷ ts) = compound (join_by factor (codes "*") (t ∷ s ∷ ts))

-- ---- the argument at a depth, that is inside so many sums over `j1`, `j2` and so on

abbrev pub index : ℕ → List ℕ
index number = codes "j" ++ decimal number

-- the product of the first indices
abbrev pub indices : ℕ → List ℕ
indices zero = []
indices (suc zero) = index 1
indices (suc (suc n)) = indices (suc n) ++ codes "*" ++ index (suc (suc n))

abbrev pub argument : List ℕ → ℕ → Term
argument variable zero = simple variable
argument variable (suc zero) = compound (variable ++ codes "^j1")
argument variable (suc (suc n)) = compound (variable ++ codes "^(" ++ indices (suc (suc n)) ++ codes ")")

-- a generating function of the argument
abbrev pub call : List ℕ → List ℕ → Term
call name text = simple (name ++ codes "(" ++ text ++ codes ")")

-- ---- containers

abbrev pub inverse : List ℕ → List ℕ
inverse x = codes "1/(1 - " ++ x ++ codes ")"

abbrev pub logarithm : List ℕ → List ℕ
logarithm x = codes "log(" ++ inverse x ++ codes ")"

abbrev pub exponential : List ℕ → List ℕ
exponential text = codes "exp(" ++ text ++ codes ")"

abbrev pub power : List ℕ → ℕ → List ℕ
power x k = x ++ codes "^" ++ decimal k

-- the sum of the powers from one to another, each divided as is told
abbrev pub powers : List ℕ → List ℕ → ℕ → ℕ → List ℕ
powers x divided first last = codes "Sum(" ++ x ++ codes "^i" ++ divided ++ codes ", i = " ++ decimal first ++ codes " .. " ++ decimal last ++ codes ")"

abbrev pub sequence : Bound → List ℕ → Term
sequence Any x = compound (inverse x)
sequence (Exactly k) x = compound (power x k)
sequence (AtMost k) x = simple (powers x [] 0 k)
sequence (AtLeast k) x = compound (power x k ++ codes "/(1 - " ++ x ++ codes ")")

abbrev pub labelled_set : Bound → Term → Term
labelled_set Any t = simple (exponential t.text)
labelled_set (Exactly k) t = compound (power (factor t) k ++ codes "/" ++ decimal k ++ codes "!")
labelled_set (AtMost k) t = simple (powers (factor t) (codes "/i!") 0 k)
labelled_set (AtLeast k) t = compound (exponential t.text ++ codes " - " ++ powers (factor t) (codes "/i!") 0 (k - 1))

-- each Cycle has a component, so `card >= 1` is no bound, and none has 0 components
abbrev pub labelled_cycle : Bound → List ℕ → Term
labelled_cycle Any x = simple (logarithm x)
labelled_cycle (Exactly zero) x = simple (codes "0")
labelled_cycle (Exactly (suc k)) x = compound (power x (suc k) ++ codes "/" ++ decimal (suc k))
labelled_cycle (AtMost k) x = simple (powers x (codes "/i") 1 k)
labelled_cycle (AtLeast zero) x = simple (logarithm x)
labelled_cycle (AtLeast (suc zero)) x = simple (logarithm x)
labelled_cycle (AtLeast (suc (suc k))) x = compound (logarithm x ++ codes " - " ++ powers x (codes "/i") 1 (suc k))

-- the exponential of the sum over the index, of each element's number of copies
abbrev pub unlabelled_set : List ℕ → List ℕ → List ℕ → Term
unlabelled_set sign j x = simple (codes "exp(Sum(" ++ sign ++ x ++ codes "/" ++ j ++ codes ", " ++ j ++ codes " = 1 .. infinity))")

-- the sign of a term in the sum of a PowerSet
abbrev pub sign : List ℕ → List ℕ
sign j = codes "(-1)^(" ++ j ++ codes " - 1)*"

-- a container at a depth over a term
abbrev pub container : Kind → Universe → ℕ → Bound → Term → Term
container kind.Sequence universe depth b t = sequence b (factor t)
container kind.Set Labelled depth b t = labelled_set b t
container kind.Set Unlabelled depth b t = unlabelled_set [] (index (suc depth)) (factor t)
container kind.PowerSet Labelled depth b t = labelled_set b t
container kind.PowerSet Unlabelled depth b t = unlabelled_set (sign (index (suc depth))) (index (suc depth)) (factor t)
container kind.Cycle universe depth b t = labelled_cycle b (factor t)

abbrev in_universe : Universe → ℕ → ℕ
in_universe Labelled depth = depth
in_universe Unlabelled depth = suc depth

-- the depth of the element of a container: without labels it stands inside one more sum, but in a Sequence
abbrev pub element_depth : Kind → Universe → ℕ → ℕ
element_depth kind.Sequence universe depth = depth
element_depth kind.Set universe depth = in_universe universe depth
element_depth kind.PowerSet universe depth = in_universe universe depth
element_depth kind.Cycle universe depth = in_universe universe depth

-- ---- expressions and rules

abbrev mutual
  -- what an expression says at a depth
  pub term : Universe → List ℕ → ℕ → Expression → Term
  term universe variable depth Epsilon = simple (codes "1")
  term universe variable depth Atom = argument variable depth
  term universe variable depth (Name name) = call name (argument variable depth).text
  term universe variable depth (Union arguments) = sum_of (terms universe variable depth arguments)
  term universe variable depth (Prod arguments) = product_of (terms universe variable depth arguments)
  term universe variable depth (Many kind element card) =
      container kind universe depth (bound card) (term universe variable (element_depth kind universe depth) element)

  pub terms : Universe → List ℕ → ℕ → Expressions → List Term
  terms universe variable depth no_expressions = []
  terms universe variable depth (more_expressions e es) = term universe variable depth e ∷ terms universe variable depth es

-- the equation of a rule
abbrev pub equation : Universe → List ℕ → List ℕ × Expression → List ℕ
equation universe variable rule = rule.0 ++ codes "(" ++ variable ++ codes ") = " ++ (term universe variable 0 rule.1).text

-- the equations of the rules in written order
abbrev pub equations : Grammar → List ℕ → List ℕ
equations g variable = codes "[" ++ join_by (equation g.universe variable) (codes ", ") g.rules ++ codes "]"
