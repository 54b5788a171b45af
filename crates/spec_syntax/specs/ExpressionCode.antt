-- An expression as a list of words: the steps that build it on a stack of lists of expressions.
use Rattle.std.specs.Prelude.{◌≡◌, ℕ, zero, suc, Option, Some, None, List, [], ◌∷◌, refl}
use Rattle.std.proofs.Common.{ap, ◌∙◌}
use Rattle.std.specs.Coded.{Coded, code_by, coded_list, coded_ℕ}
use Rattle.spec_syntax.specs.declared.expr.Kind.{Kind}
use Rattle.spec_syntax.specs.declared.expr.Kind.TheVariants.{Sequence, Set, PowerSet, Cycle}
use Rattle.spec_syntax.specs.declared.expr.Card.{Card}
use Rattle.spec_syntax.specs.Expression.{Expression, Epsilon, Atom, Name, Union, Prod, Many, Expressions, no_expressions, more_expressions}

abbrev pub high_word : Option ℕ → List ℕ
high_word None = []
high_word (Some high) = high ∷ []

abbrev pub high_at : List ℕ → Option ℕ
high_at [] = None
high_at (high ∷ _) = Some high

abbrev pub kind_number : Kind → ℕ
kind_number Sequence = 0
kind_number Set = 1
kind_number PowerSet = 2
kind_number Cycle = 3

abbrev pub kind_at : ℕ → Kind
kind_at zero = Sequence
kind_at (suc zero) = Set
kind_at (suc (suc zero)) = PowerSet
kind_at (suc (suc (suc _))) = Cycle

-- the steps: to begin a list, and to put an expression in front of the list on top
abbrev mutual
  pub steps : Expression → List (List ℕ) → List (List ℕ)
  steps Epsilon more = (1 ∷ []) ∷ more
  steps Atom more = (2 ∷ []) ∷ more
  steps (Name name) more = (3 ∷ name) ∷ more
  steps (Union arguments) more = (0 ∷ []) ∷ steps_of_all arguments ((4 ∷ []) ∷ more)
  steps (Prod arguments) more = (0 ∷ []) ∷ steps_of_all arguments ((5 ∷ []) ∷ more)
  steps (Many kind element card) more = (0 ∷ []) ∷ steps element ((6 ∷ kind_number kind ∷ card.low ∷ high_word card.high) ∷ more)

  pub steps_of_all : Expressions → List (List ℕ) → List (List ℕ)
  steps_of_all no_expressions more = more
  steps_of_all (more_expressions e es) more = steps_of_all es (steps e more)

abbrev pub put : Expression → List Expressions → List Expressions
put e [] = []
put e (es ∷ below) = more_expressions e es ∷ below

-- puts what is made of the list on top in front of the next list
abbrev pub wrap : (Expressions → Expression) → List Expressions → List Expressions
wrap f [] = []
wrap f (es ∷ below) = put (f es) below

abbrev pub first_of : Expressions → Expression
first_of no_expressions = Epsilon
first_of (more_expressions e _) = e

abbrev pub many : List ℕ → Expressions → Expression
many [] es = Epsilon
many (kind ∷ []) es = Epsilon
many (kind ∷ low ∷ high) es = Many (kind_at kind) (first_of es) (record { low = low; high = high_at high })

abbrev pub step : List ℕ → List Expressions → List Expressions
step [] stack = stack
step (zero ∷ _) stack = no_expressions ∷ stack
step (suc zero ∷ _) stack = put Epsilon stack
step (suc (suc zero) ∷ _) stack = put Atom stack
step (suc (suc (suc zero)) ∷ name) stack = put (Name name) stack
step (suc (suc (suc (suc zero))) ∷ _) stack = wrap (λ es. Union es) stack
step (suc (suc (suc (suc (suc zero)))) ∷ _) stack = wrap (λ es. Prod es) stack
step (suc (suc (suc (suc (suc (suc _))))) ∷ bound) stack = wrap (many bound) stack

abbrev pub run : List (List ℕ) → List Expressions → List Expressions
run [] stack = stack
run (word ∷ words) stack = run words (step word stack)

abbrev pub top : List Expressions → Expression
top [] = Epsilon
top (es ∷ _) = first_of es

abbrev pub joined : Expressions → Expressions → Expressions
joined no_expressions others = others
joined (more_expressions e es) others = more_expressions e (joined es others)

joined-none : (es : Expressions) → joined es no_expressions ≡ es
joined-none no_expressions = refl
joined-none (more_expressions e es) = λ i. more_expressions e (joined-none es i)

kind_back : (kind : Kind) → kind_at (kind_number kind) ≡ kind
kind_back Sequence = refl
kind_back Set = refl
kind_back PowerSet = refl
kind_back Cycle = refl

high_back : (high : Option ℕ) → high_at (high_word high) ≡ high
high_back None = refl
high_back (Some high) = refl

step-many : (kind : Kind) (e : Expression) (card : Card) (es : Expressions) (below : List Expressions)
    → step (6 ∷ kind_number kind ∷ card.low ∷ high_word card.high) (more_expressions e no_expressions ∷ es ∷ below) ≡ more_expressions (Many kind e card) es ∷ below
step-many kind e card es below = λ i. more_expressions (Many (kind_back kind i) e (record { low = card.low; high = high_back card.high i })) es ∷ below

mutual
  pub run-steps : (e : Expression) (more : List (List ℕ)) (es : Expressions) (below : List Expressions) → run (steps e more) (es ∷ below) ≡ run more (more_expressions e es ∷ below)
  run-steps Epsilon more es below = refl
  run-steps Atom more es below = refl
  run-steps (Name name) more es below = refl
  run-steps (Union arguments) more es below =
      run-steps_of_all arguments ((4 ∷ []) ∷ more) no_expressions (es ∷ below) ∙ ap (λ args. run more (more_expressions (Union args) es ∷ below)) (joined-none arguments)
  run-steps (Prod arguments) more es below =
      run-steps_of_all arguments ((5 ∷ []) ∷ more) no_expressions (es ∷ below) ∙ ap (λ args. run more (more_expressions (Prod args) es ∷ below)) (joined-none arguments)
  run-steps (Many kind element card) more es below =
      run-steps element ((6 ∷ kind_number kind ∷ card.low ∷ high_word card.high) ∷ more) no_expressions (es ∷ below) ∙ ap (run more) (step-many kind element card es below)

  pub run-steps_of_all : (args : Expressions) (more : List (List ℕ)) (es : Expressions) (below : List Expressions) → run (steps_of_all args more) (es ∷ below) ≡ run more (joined args es ∷ below)
  run-steps_of_all no_expressions more es below = refl
  run-steps_of_all (more_expressions e args) more es below = run-steps_of_all args (steps e more) es below ∙ run-steps e more (joined args es) below

abbrev pub expression_code : Coded Expression
expression_code = code_by (List (List ℕ)) (coded_list (coded_list coded_ℕ)) (λ e. steps e []) (λ words. top (run words (no_expressions ∷ []))) (λ e. ap top (run-steps e [] no_expressions []))
