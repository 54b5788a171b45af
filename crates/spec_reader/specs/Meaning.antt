-- What a statement that is written in the grammar says.
use Rattle.std.specs.Prelude.{ℕ, Bool, true, false, Option, Some, None, List, ◌∷◌, map, codes}
use Rattle.spec_syntax.specs.Expression as expression
use Rattle.spec_syntax.specs.Expression.{Expression, Expressions}
use Rattle.spec_syntax.specs.Rules.{Rules}
use Rattle.spec_syntax.specs.declared.expr.Card.{Card}
use Rattle.spec_syntax.specs.declared.statement.Universe.{Universe}
use Rattle.spec_syntax.specs.declared.statement.Universe.TheVariants as universe
use Rattle.spec_syntax.specs.declared.statement.RulesRef.TheVariants as rules_ref
use Rattle.spec_syntax.specs.declared.statement.ClassRef.{ClassRef}
use Rattle.spec_syntax.specs.declared.statement.ClassRef.TheVariants as class_ref
use Rattle.spec_syntax.specs.declared.statement.Job.{Job}
use Rattle.spec_syntax.specs.declared.statement.Job.TheVariants as job
use Rattle.spec_syntax.specs.declared.statement.Form.{Form}
use Rattle.spec_syntax.specs.declared.statement.Form.TheVariants as form
use Rattle.spec_syntax.specs.declared.statement.Statement.{Statement}
use Rattle.spec_reader.specs.declared.table.Command.{Command}
use Rattle.spec_reader.specs.declared.table.Command.TheVariants as command
use Rattle.spec_reader.specs.declared.table.Comparison.{Comparison}
use Rattle.spec_reader.specs.declared.table.Comparison.TheVariants as compare
use Rattle.spec_reader.specs.Tokens.{value}
use Rattle.spec_reader.specs.Grammar as tree
use Rattle.spec_reader.specs.Grammar.{BoundTree, ExprTree, ExprTrees, RuleTree, RulesTree, SymbolTree, UniverseTree, ClassTree, FormTree, EndTree, StatementTree}

-- the bounds `card = k`, `card <= k` and `card >= k`
abbrev pub card_by : Comparison → ℕ → Card
card_by compare.Equal k = record { low = k; high = Some k }
card_by compare.AtMost k = record { low = 0; high = Some k }
card_by compare.AtLeast k = record { low = k; high = None }

-- a comparison whose sides change places: `k <= card` says `card >= k`, and `k >= card` says `card <= k`
abbrev pub turned : Comparison → Comparison
turned compare.Equal = compare.Equal
turned compare.AtMost = compare.AtLeast
turned compare.AtLeast = compare.AtMost

-- where no bound is written each number of components keeps it
abbrev pub card_of : Option BoundTree → Card
card_of None = record { low = 0; high = None }
card_of (Some (tree.CardFirst compared digits)) = card_by compared (value digits)
card_of (Some (tree.NumberFirst digits compared)) = card_by (turned compared) (value digits)

-- Z and Atom are the same expression
abbrev mutual
  pub expression_of : ExprTree → Expression
  expression_of tree.Epsilon = expression.Epsilon
  expression_of tree.Atom = expression.Atom
  expression_of tree.Z = expression.Atom
  expression_of (tree.Named name) = expression.Name name
  expression_of (tree.Union first others) = expression.Union (expression.more_expressions (expression_of first) (expressions_of_all others))
  expression_of (tree.Prod first others) = expression.Prod (expression.more_expressions (expression_of first) (expressions_of_all others))
  expression_of (tree.Container of element bound) = expression.Many of (expression_of element) (card_of bound)

  pub expressions_of_all : ExprTrees → Expressions
  expressions_of_all tree.no_more = expression.no_expressions
  expressions_of_all (tree.more e es) = expression.more_expressions (expression_of e) (expressions_of_all es)

-- the rule for Z has the name Z
abbrev pub name_of : RuleTree → List ℕ
name_of (tree.Rule name right) = name
name_of (tree.RuleOfZ right) = codes "Z"

-- and its right side is the atom in both spellings
abbrev pub right_of : RuleTree → Expression
right_of (tree.Rule name right) = expression_of right
right_of (tree.RuleOfZ right) = expression.Atom

abbrev pub rule_of : RuleTree → List ℕ × Expression
rule_of rule = (name_of rule, right_of rule)

abbrev pub rules_of : RulesTree → Rules
rules_of rules = rule_of rules.first ∷ map rule_of rules.others

-- the symbol Z is the name Z
abbrev pub symbol_of : SymbolTree → List ℕ
symbol_of (tree.SymbolName name) = name
symbol_of tree.SymbolZ = codes "Z"

-- each universe has two spellings, and an omitted one is unlabelled
abbrev pub universe_of : Option UniverseTree → Universe
universe_of None = universe.Unlabelled
universe_of (Some tree.Labelled) = universe.Labelled
universe_of (Some tree.Unlabelled) = universe.Unlabelled
universe_of (Some tree.Labeled) = universe.Labelled
universe_of (Some tree.Unlabeled) = universe.Unlabelled

abbrev pub class_of : ClassTree → ClassRef
class_of class = class_ref.Written (symbol_of class.symbol) (rules_ref.Written (rules_of class.rules)) (universe_of class.universe)

-- what a command asks for
abbrev pub asks : Command → Job → Form
asks command.AllStructs work = form.List work
asks command.Count work = form.Count work

abbrev pub form_of : FormTree → Form
form_of (tree.About asked class digits) = asks asked (job.Grammar (class_of class) (value digits))

-- a statement that ends with a colon is quiet
abbrev pub is_quiet : EndTree → Bool
is_quiet tree.BySemicolon = false
is_quiet tree.ByColon = true

abbrev pub meaning : StatementTree → Statement
meaning (tree.Bare end) = record { form = form.Empty; quiet = is_quiet end }
meaning (tree.Asks f end) = record { form = form_of f; quiet = is_quiet end }
