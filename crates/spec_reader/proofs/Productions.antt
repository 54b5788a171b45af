-- The table and the grammar are one: each production is a row, and each row a production.
use Rattle.std.proofs.Common.{◌≡◌, ℕ, suc, Bool, true, false, Option, Some, None, List, [], ◌∷◌, ◌++◌, refl, sym, ap, ◌∙◌, subst, append_assoc, append-nil, inl, inr}
use Rattle.std.specs.Prelude.{if◌then◌else◌, is_some}
use Rattle.spec_syntax.specs.Expression as expression
use Rattle.spec_syntax.specs.Expression.{Expression, expressions_of}
use Rattle.spec_syntax.specs.declared.expr.Kind.{Kind}
use Rattle.spec_syntax.specs.declared.expr.Kind.TheVariants as kind
use Rattle.spec_syntax.specs.declared.statement.Universe.{Universe}
use Rattle.spec_syntax.specs.declared.statement.Universe.TheVariants as universe
use Rattle.spec_reader.specs.declared.token.Sign.{Sign}
use Rattle.spec_reader.specs.declared.token.Sign.TheVariants as sign
use Rattle.spec_reader.specs.declared.token.Keyword.TheVariants as word
use Rattle.spec_reader.specs.declared.table.Item.{Item}
use Rattle.spec_reader.specs.declared.table.Item.TheVariants as item
use Rattle.spec_reader.specs.declared.table.Head.{Head}
use Rattle.spec_reader.specs.declared.table.Head.TheVariants as head
use Rattle.spec_reader.specs.declared.table.Former.{Former}
use Rattle.spec_reader.specs.declared.table.Former.TheVariants as former
use Rattle.spec_reader.specs.declared.table.Command.{Command}
use Rattle.spec_reader.specs.declared.table.Command.TheVariants as command
use Rattle.spec_reader.specs.declared.table.Comparison.{Comparison}
use Rattle.spec_reader.specs.declared.table.Comparison.TheVariants as compare
use Rattle.spec_reader.specs.declared.table.Role.TheVariants.{Plain}
use Rattle.spec_reader.specs.declared.draft.BoundPart.TheVariants as part
use Rattle.spec_reader.specs.declared.draft.Compound.{Compound}
use Rattle.spec_reader.specs.declared.draft.Compound.TheVariants.{Several, Container}
use Rattle.spec_reader.specs.declared.draft.Draft.{Draft}
use Rattle.spec_reader.specs.Tokens.{Token, Mark, Reserved, Name, Number, text_of, value}
use Rattle.spec_reader.specs.Grammar as tree
use Rattle.spec_reader.specs.Grammar.{Marked, BoundTree, ExprTree, ExprTrees, AtomTree, RuleTree, RulesTree, SymbolTree, UniverseTree, ClassTree, FormTree, EndTree, StatementTree, command_word, container_word, end_sign, comparison, bound, container_end, expr, more_exprs, right_of_z, rule, more_rules, rules, symbol, class_end, class, form, statement}
use Rattle.spec_reader.specs.Meaning.{turned, expression_of, expressions_of_all, right_of, symbol_of, universe_of, is_quiet}
use Rattle.spec_reader.specs.Table.{is_mark, is_reserved, is_name, is_number, is_end, command_of, head_of, comparison_of, arguments, behind_command, only_if, more_or_end, step, role_of}
use Rattle.spec_reader.specs.Table as table
use Rattle.spec_reader.specs.Drafts.{put, close, unbounded, rebind}
use Rattle.spec_reader.proofs.TokenTests.{mark-is, reserved-is, name-is, digits_of, number-is, mark-same, reserved-same, end_of, end-is, Commands, command-is, Begins, head-begins, Compares, comparison-is, Names, universe-is}
use Rattle.spec_reader.proofs.Walks.{Walks, walk-append, walk-under}

-- what an item stands for
abbrev pub Tree : Item → Type 0
Tree item.Statement = StatementTree
Tree item.End = EndTree
Tree item.Class = ClassTree
Tree item.Symbol = SymbolTree
Tree item.ClassEnd = Option UniverseTree
Tree item.Universe = UniverseTree
Tree item.Rules = RulesTree
Tree item.Rule = RuleTree
Tree item.RightOfZ = AtomTree
Tree item.MoreRules = List RuleTree
Tree (item.Expr depth) = ExprTree
Tree (item.MoreExprs depth) = ExprTrees
Tree item.ContainerEnd = Option BoundTree
Tree item.BoundEnd = Unit {0}
Tree item.Bound = BoundTree
Tree item.Comparison = Comparison
Tree item.TurnedComparison = Comparison
Tree item.CardNumber = List ℕ
Tree item.Size = List ℕ
Tree (item.Mark s) = Unit {0}
Tree (item.Reserved k) = Unit {0}

-- how it is written
abbrev pub prints : (i : Item) → Tree i → List Marked
prints item.Statement t = statement t
prints item.End e = tree.sign (end_sign e) ∷ []
prints item.Class t = class t
prints item.Symbol t = symbol t
prints item.ClassEnd t = class_end t
prints item.Universe t = tree.universe t
prints item.Rules t = rules t
prints item.Rule t = rule t
prints item.RightOfZ t = right_of_z t
prints item.MoreRules t = more_rules t
prints (item.Expr depth) t = expr depth t
prints (item.MoreExprs depth) t = more_exprs depth t
prints item.ContainerEnd t = container_end t
prints item.BoundEnd t = tree.sign sign.CloseParen ∷ []
prints item.Bound t = bound t
prints item.Comparison t = comparison t ∷ []
prints item.TurnedComparison t = comparison t ∷ []
prints item.CardNumber digits = tree.size digits ∷ []
prints item.Size digits = tree.size digits ∷ []
prints (item.Mark s) t = tree.sign s ∷ []
prints (item.Reserved k) t = tree.word k ∷ []

-- one of the things that an item stands for
abbrev pub some : (i : Item) → Tree i
some item.Statement = tree.Bare tree.BySemicolon
some item.End = tree.BySemicolon
some item.Class = record { symbol = tree.SymbolZ; rules = record { first = tree.RuleOfZ tree.ByZ; others = [] }; universe = None }
some item.Symbol = tree.SymbolZ
some item.ClassEnd = None
some item.Universe = tree.Labelled
some item.Rules = record { first = tree.RuleOfZ tree.ByZ; others = [] }
some item.Rule = tree.RuleOfZ tree.ByZ
some item.RightOfZ = tree.ByZ
some item.MoreRules = []
some (item.Expr depth) = tree.Z
some (item.MoreExprs depth) = tree.no_more
some item.ContainerEnd = None
some item.BoundEnd = tt
some item.Bound = tree.CardFirst compare.Equal []
some item.Comparison = compare.Equal
some item.TurnedComparison = compare.Equal
some item.CardNumber = []
some item.Size = []
some (item.Mark s) = tt
some (item.Reserved k) = tt

-- what is built of it
abbrev pub effect_of_exprs : ExprTrees → Draft → Draft
effect_of_exprs tree.no_more d = close d
effect_of_exprs (tree.more e es) d = effect_of_exprs es (put (expression_of e) d)

abbrev pub effect_of_bound : BoundTree → Draft → Draft
effect_of_bound (tree.CardFirst c digits) d = rebind (part.Number (value digits)) (rebind (part.Comparison c) d)
effect_of_bound (tree.NumberFirst digits c) d = rebind (part.Comparison (turned c)) (rebind (part.Number (value digits)) d)

abbrev pub effect_of_container_end : Option BoundTree → Draft → Draft
effect_of_container_end None d = close d
effect_of_container_end (Some b) d = close (effect_of_bound b d)

abbrev pub effect_of_rules : List RuleTree → Draft → Draft
effect_of_rules [] d = d
effect_of_rules (r ∷ rs) d = effect_of_rules rs (put (right_of r) d)

abbrev pub effect_of_class_end : Option UniverseTree → Draft → Draft
effect_of_class_end None d = d
effect_of_class_end (Some u) d = record d { universe = universe_of (Some u) }

abbrev pub effect_of_class : ClassTree → Draft → Draft
effect_of_class c d = effect_of_class_end c.universe (effect_of_rules c.rules.others (put (right_of c.rules.first) (record d { symbol = symbol_of c.symbol })))

abbrev pub effect_of_form : FormTree → Draft → Draft
effect_of_form (tree.About k c digits) d = record (effect_of_class c (record d { command = Some k })) { size = value digits }

abbrev pub effect_of_end : EndTree → Draft → Draft
effect_of_end e d = record d { quiet = is_quiet e }

abbrev pub effect_of_statement : StatementTree → Draft → Draft
effect_of_statement (tree.Bare e) d = effect_of_end e d
effect_of_statement (tree.Asks f e) d = effect_of_end e (effect_of_form f d)

abbrev pub effect : (i : Item) → Tree i → Draft → Draft
effect item.Statement t d = effect_of_statement t d
effect item.End e d = effect_of_end e d
effect item.Class t d = effect_of_class t d
effect item.Symbol t d = record d { symbol = symbol_of t }
effect item.ClassEnd t d = effect_of_class_end t d
effect item.Universe t d = record d { universe = universe_of (Some t) }
effect item.Rules t d = effect_of_rules t.others (put (right_of t.first) d)
effect item.Rule t d = put (right_of t) d
effect item.RightOfZ t d = put expression.Atom d
effect item.MoreRules t d = effect_of_rules t d
effect (item.Expr depth) t d = put (expression_of t) d
effect (item.MoreExprs depth) t d = effect_of_exprs t d
effect item.ContainerEnd t d = effect_of_container_end t d
effect item.BoundEnd t d = close d
effect item.Bound t d = effect_of_bound t d
effect item.Comparison t d = rebind (part.Comparison t) d
effect item.TurnedComparison t d = rebind (part.Comparison (turned t)) d
effect item.CardNumber digits d = rebind (part.Number (value digits)) d
effect item.Size digits d = record d { size = value digits }
effect (item.Mark s) t d = d
effect (item.Reserved k) t d = d

-- the expressions of a list
abbrev list_of : ExprTrees → List Expression
list_of tree.no_more = []
list_of (tree.more e es) = expression_of e ∷ list_of es

list_of-all : (es : ExprTrees) → expressions_of (list_of es) ≡ expressions_of_all es
list_of-all tree.no_more = refl
list_of-all (tree.more e es) = ap (λ rest. expression.more_expressions (expression_of e) rest) (list_of-all es)

-- the expression that is made of several
abbrev several : Former → List Expression → Expression
several former.Union es = expression.Union (expressions_of es)
several former.Prod es = expression.Prod (expressions_of es)

closed : (f : Former) (es : List Expression) (pending : List Compound) (d : Draft)
    → close (record d { pending = Several f es ∷ pending }) ≡ put (several f es) (record d { pending = pending })
closed former.Union es pending d = refl
closed former.Prod es pending d = refl

-- an expression whose arguments go on is put where it stood
effect-pending : (es : ExprTrees) (f : Former) (args : List Expression) (pending : List Compound) (d : Draft)
    → effect_of_exprs es (record d { pending = Several f args ∷ pending }) ≡ put (several f (args ++ list_of es)) (record d { pending = pending })
effect-pending tree.no_more f args pending d =
    closed f args pending d ∙ ap (λ all. put (several f all) (record d { pending = pending })) (sym (append-nil args))
effect-pending (tree.more e es) f args pending d =
    effect-pending es f (args ++ expression_of e ∷ []) pending d
    ∙ ap (λ all. put (several f all) (record d { pending = pending })) (append_assoc args (expression_of e ∷ []) (list_of es))

effect-union : (first : ExprTree) (others : ExprTrees) (d : Draft)
    → effect_of_exprs others (put (expression_of first) (record d { pending = Several former.Union [] ∷ d.pending })) ≡ put (expression_of (tree.Union first others)) d
effect-union first others d =
    effect-pending others former.Union (expression_of first ∷ []) d.pending d
    ∙ ap (λ rest. put (expression.Union (expression.more_expressions (expression_of first) rest)) d) (list_of-all others)

effect-prod : (first : ExprTree) (others : ExprTrees) (d : Draft)
    → effect_of_exprs others (put (expression_of first) (record d { pending = Several former.Prod [] ∷ d.pending })) ≡ put (expression_of (tree.Prod first others)) d
effect-prod first others d =
    effect-pending others former.Prod (expression_of first ∷ []) d.pending d
    ∙ ap (λ rest. put (expression.Prod (expression.more_expressions (expression_of first) rest)) d) (list_of-all others)

-- a container is put where it stood
effect-container : (of : Kind) (element : ExprTree) (end : Option BoundTree) (d : Draft)
    → effect_of_container_end end (put (expression_of element) (record d { pending = Container of None unbounded ∷ d.pending }))
    ≡ put (expression_of (tree.Container of element end)) d
effect-container of element None d = refl
effect-container of element (Some (tree.CardFirst c digits)) d = refl
effect-container of element (Some (tree.NumberFirst digits c)) d = refl

-- a walk over one item's tokens, below which others are expected
over : (ms ns : List Marked) (i : Item) (ks js : List Item) (d e f : Draft) → Walks ms (i ∷ []) d [] e → Walks ns ks e js f → Walks (ms ++ ns) (i ∷ ks) d js f
over ms ns i ks js d e f first second = walk-append ms ns (i ∷ ks) ks js d e f (walk-under ms (i ∷ []) [] ks d e first) second

-- the table walks over a bound, and builds it
reads-comparison : (c : Comparison) (d : Draft) → Walks (comparison c ∷ []) (item.Comparison ∷ []) d [] (rebind (part.Comparison c) d)
reads-comparison compare.Equal d = ([], refl, refl, (refl, refl))
reads-comparison compare.AtMost d = ([], refl, refl, (refl, refl))
reads-comparison compare.AtLeast d = ([], refl, refl, (refl, refl))

reads-turned : (c : Comparison) (d : Draft) → Walks (comparison c ∷ []) (item.TurnedComparison ∷ []) d [] (rebind (part.Comparison (turned c)) d)
reads-turned compare.Equal d = ([], refl, refl, (refl, refl))
reads-turned compare.AtMost d = ([], refl, refl, (refl, refl))
reads-turned compare.AtLeast d = ([], refl, refl, (refl, refl))

reads-bound : (b : BoundTree) (d : Draft) → Walks (bound b) (item.Bound ∷ []) d [] (effect_of_bound b d)
reads-bound (tree.CardFirst c digits) d = (
  item.Comparison ∷ item.CardNumber ∷ [],
  refl,
  refl,
  over (comparison c ∷ []) (tree.size digits ∷ []) item.Comparison (item.CardNumber ∷ []) [] _ _ _ (reads-comparison c d) ([], refl, refl, (refl, refl)),
)
reads-bound (tree.NumberFirst digits c) d = (
  item.TurnedComparison ∷ item.Reserved word.Card ∷ [],
  refl,
  refl,
  over (comparison c ∷ []) (tree.word word.Card ∷ []) item.TurnedComparison (item.Reserved word.Card ∷ []) [] _ _ _
      (reads-turned c (rebind (part.Number (value digits)) d)) ([], refl, refl, (refl, refl)),
)

reads-container_end : (end : Option BoundTree) (d : Draft) → Walks (container_end end) (item.ContainerEnd ∷ []) d [] (effect_of_container_end end d)
reads-container_end None d = ([], refl, refl, (refl, refl))
reads-container_end (Some b) d = (
  item.Bound ∷ item.BoundEnd ∷ [],
  refl,
  refl,
  over (bound b) (tree.sign sign.CloseParen ∷ []) item.Bound (item.BoundEnd ∷ []) [] _ _ _ (reads-bound b d) ([], refl, refl, (refl, refl)),
)

-- the arguments in parentheses by the first one and the others
in_parentheses : (depth : ℕ) (first : ExprTree) (others : ExprTrees) (d e f : Draft) → Walks (expr (suc depth) first) (item.Expr (suc depth) ∷ []) d [] e
    → Walks (more_exprs (suc depth) others) (item.MoreExprs (suc depth) ∷ []) e [] f
    → Walks (tree.sign sign.OpenParen ∷ expr (suc depth) first ++ more_exprs (suc depth) others) (item.Mark sign.OpenParen ∷ item.Expr (suc depth) ∷ item.MoreExprs (suc depth) ∷ []) d [] f
in_parentheses depth first others d e f one rest =
    ([], refl, refl, over (expr (suc depth) first) (more_exprs (suc depth) others) (item.Expr (suc depth)) (item.MoreExprs (suc depth) ∷ []) [] d e f one rest)

-- what stands behind the word of a container
abbrev in_container : ℕ → ExprTree → Option BoundTree → List Marked
in_container depth element end = tree.sign sign.OpenParen ∷ expr (suc depth) element ++ container_end end

abbrev behind_container : ℕ → List Item
behind_container depth = item.Mark sign.OpenParen ∷ item.Expr (suc depth) ∷ item.ContainerEnd ∷ []

-- a container by what stands behind its word
by-word : (depth : ℕ) (of : Kind) (element : ExprTree) (end : Option BoundTree) (d e : Draft)
    → Walks (in_container depth element end) (behind_container depth) (record d { pending = Container of None unbounded ∷ d.pending }) [] e
    → Walks (expr depth (tree.Container of element end)) (item.Expr depth ∷ []) d [] e
by-word depth kind.Sequence element end d e walk = (behind_container depth, refl, refl, walk)
by-word depth kind.Set element end d e walk = (behind_container depth, refl, refl, walk)
by-word depth kind.PowerSet element end d e walk = (behind_container depth, refl, refl, walk)
by-word depth kind.Cycle element end d e walk = (behind_container depth, refl, refl, walk)

-- the table walks over each tree, and builds it
mutual
  pub reads-expr : (depth : ℕ) (t : ExprTree) (d : Draft) → Walks (expr depth t) (item.Expr depth ∷ []) d [] (put (expression_of t) d)
  reads-expr depth tree.Epsilon d = ([], refl, refl, (refl, refl))
  reads-expr depth tree.Atom d = ([], refl, refl, (refl, refl))
  reads-expr depth tree.Z d = ([], refl, refl, (refl, refl))
  reads-expr depth (tree.Named text) d = ([], refl, refl, (refl, refl))
  reads-expr depth (tree.Union first others) d = subst (λ e. Walks (expr depth (tree.Union first others)) (item.Expr depth ∷ []) d [] e) (effect-union first others d) (
    item.Mark sign.OpenParen ∷ item.Expr (suc depth) ∷ item.MoreExprs (suc depth) ∷ [],
    refl,
    refl,
    in_parentheses depth first others _ _ _ (reads-expr (suc depth) first _) (reads-more (suc depth) others _),
  )
  reads-expr depth (tree.Prod first others) d = subst (λ e. Walks (expr depth (tree.Prod first others)) (item.Expr depth ∷ []) d [] e) (effect-prod first others d) (
    item.Mark sign.OpenParen ∷ item.Expr (suc depth) ∷ item.MoreExprs (suc depth) ∷ [],
    refl,
    refl,
    in_parentheses depth first others _ _ _ (reads-expr (suc depth) first _) (reads-more (suc depth) others _),
  )
  reads-expr depth (tree.Container of element end) d = subst (λ e. Walks (expr depth (tree.Container of element end)) (item.Expr depth ∷ []) d [] e) (effect-container of element end d) (
      by-word depth of element end d _ (
        [],
        refl,
        refl,
        over (expr (suc depth) element) (container_end end) (item.Expr (suc depth)) (item.ContainerEnd ∷ []) [] _ _ _ (reads-expr (suc depth) element _) (reads-container_end end _),
      )
      )

  reads-more : (depth : ℕ) (es : ExprTrees) (d : Draft) → Walks (more_exprs depth es) (item.MoreExprs depth ∷ []) d [] (effect_of_exprs es d)
  reads-more depth tree.no_more d = ([], refl, refl, (refl, refl))
  reads-more depth (tree.more e es) d = (
    item.Expr depth ∷ item.MoreExprs depth ∷ [],
    refl,
    refl,
    over (expr depth e) (more_exprs depth es) (item.Expr depth) (item.MoreExprs depth ∷ []) [] _ _ _ (reads-expr depth e d) (reads-more depth es _),
  )

reads-right_of_z : (t : AtomTree) (d : Draft) → Walks (right_of_z t) (item.RightOfZ ∷ []) d [] (put expression.Atom d)
reads-right_of_z tree.ByZ d = ([], refl, refl, (refl, refl))
reads-right_of_z tree.ByAtom d = ([], refl, refl, (refl, refl))

reads-rule : (r : RuleTree) (d : Draft) → Walks (rule r) (item.Rule ∷ []) d [] (put (right_of r) d)
reads-rule (tree.Rule name right) d = (item.Mark sign.Equals ∷ item.Expr 1 ∷ [], refl, refl, ([], refl, refl, reads-expr 1 right d))
reads-rule (tree.RuleOfZ right) d = (item.Mark sign.Equals ∷ item.RightOfZ ∷ [], refl, refl, ([], refl, refl, reads-right_of_z right d))

reads-rules : (rs : List RuleTree) (d : Draft) → Walks (more_rules rs) (item.MoreRules ∷ []) d [] (effect_of_rules rs d)
reads-rules [] d = ([], refl, refl, (refl, refl))
reads-rules (r ∷ rs) d = (item.Rule ∷ item.MoreRules ∷ [], refl, refl, over (rule r) (more_rules rs) item.Rule (item.MoreRules ∷ []) [] _ _ _ (reads-rule r d) (reads-rules rs _))

reads-all-rules : (rs : RulesTree) (d : Draft) → Walks (rules rs) (item.Rules ∷ []) d [] (effect item.Rules rs d)
reads-all-rules rs d = (
  item.Rule ∷ item.MoreRules ∷ [],
  refl,
  refl,
  over (rule rs.first) (more_rules rs.others) item.Rule (item.MoreRules ∷ []) [] _ _ _ (reads-rule rs.first d) (reads-rules rs.others _),
)

reads-symbol : (t : SymbolTree) (d : Draft) → Walks (symbol t) (item.Symbol ∷ []) d [] (record d { symbol = symbol_of t })
reads-symbol (tree.SymbolName text) d = ([], refl, refl, (refl, refl))
reads-symbol tree.SymbolZ d = ([], refl, refl, (refl, refl))

reads-universe : (t : UniverseTree) (d : Draft) → Walks (tree.universe t) (item.Universe ∷ []) d [] (record d { universe = universe_of (Some t) })
reads-universe tree.Labelled d = ([], refl, refl, (refl, refl))
reads-universe tree.Unlabelled d = ([], refl, refl, (refl, refl))
reads-universe tree.Labeled d = ([], refl, refl, (refl, refl))
reads-universe tree.Unlabeled d = ([], refl, refl, (refl, refl))

reads-class_end : (end : Option UniverseTree) (d : Draft) → Walks (class_end end) (item.ClassEnd ∷ []) d [] (effect_of_class_end end d)
reads-class_end None d = ([], refl, refl, (refl, refl))
reads-class_end (Some t) d = (
  item.Universe ∷ item.Mark sign.CloseBracket ∷ [],
  refl,
  refl,
  over (tree.universe t) (tree.sign sign.CloseBracket ∷ []) item.Universe (item.Mark sign.CloseBracket ∷ []) [] _ _ _ (reads-universe t d) ([], refl, refl, (refl, refl)),
)

reads-class : (c : ClassTree) (d : Draft) → Walks (class c) (item.Class ∷ []) d [] (effect_of_class c d)
reads-class c d = (
  item.Symbol ∷ item.Mark sign.Comma ∷ item.Rules ∷ item.ClassEnd ∷ [],
  refl,
  refl,
  over (symbol c.symbol) (tree.sign sign.Comma ∷ rules c.rules ++ class_end c.universe) item.Symbol (item.Mark sign.Comma ∷ item.Rules ∷ item.ClassEnd ∷ []) [] _ _ _
      (reads-symbol c.symbol d) (
        [],
        refl,
        refl,
        over (rules c.rules) (class_end c.universe) item.Rules (item.ClassEnd ∷ []) [] _ _ _ (reads-all-rules c.rules _) (reads-class_end c.universe _),
      ),
)

-- what stands behind the word of a command
reads-behind : (c : ClassTree) (digits : List ℕ) (d : Draft)
    → Walks (tree.sign sign.OpenParen ∷ class c ++ tree.sign sign.Comma ∷ tree.word word.Size ∷ tree.sign sign.Equals ∷ tree.size digits ∷ tree.sign sign.CloseParen ∷ [])
    behind_command d (item.End ∷ []) (record (effect_of_class c d) { size = value digits })
reads-behind c digits d = (
  [],
  refl,
  refl,
  over (class c) (tree.sign sign.Comma ∷ tree.word word.Size ∷ tree.sign sign.Equals ∷ tree.size digits ∷ tree.sign sign.CloseParen ∷ [])
      item.Class (item.Mark sign.Comma ∷ item.Reserved word.Size ∷ item.Mark sign.Equals ∷ item.Size ∷ item.Mark sign.CloseParen ∷ item.End ∷ [])
      (item.End ∷ []) _ _ _
      (reads-class c d) ([], refl, refl, ([], refl, refl, ([], refl, refl, ([], refl, refl, ([], refl, refl, (refl, refl)))))),
)

reads-form : (f : FormTree) (d : Draft) → Walks (form f) (item.Statement ∷ []) d (item.End ∷ []) (effect_of_form f d)
reads-form (tree.About command.AllStructs c digits) d = (behind_command, refl, refl, reads-behind c digits (record d { command = Some command.AllStructs }))
reads-form (tree.About command.Count c digits) d = (behind_command, refl, refl, reads-behind c digits (record d { command = Some command.Count }))

reads-end : (e : EndTree) (d : Draft) → Walks (tree.sign (end_sign e) ∷ []) (item.End ∷ []) d [] (effect_of_end e d)
reads-end tree.BySemicolon d = ([], refl, refl, (refl, refl))
reads-end tree.ByColon d = ([], refl, refl, (refl, refl))

pub reads-statement : (t : StatementTree) (d : Draft) → Walks (statement t) (item.Statement ∷ []) d [] (effect_of_statement t d)
reads-statement (tree.Bare tree.BySemicolon) d = ([], refl, refl, (refl, refl))
reads-statement (tree.Bare tree.ByColon) d = ([], refl, refl, (refl, refl))
reads-statement (tree.Asks f e) d =
    walk-append (form f) (tree.sign (end_sign e) ∷ []) (item.Statement ∷ []) (item.End ∷ []) [] _ _ _ (reads-form f d) (reads-end e (effect_of_form f d))

-- the table walks over what an item stands for, and builds it
pub reads : (i : Item) (t : Tree i) (d : Draft) → Walks (prints i t) (i ∷ []) d [] (effect i t d)
reads item.Statement t d = reads-statement t d
reads item.End e d = reads-end e d
reads item.Class t d = reads-class t d
reads item.Symbol t d = reads-symbol t d
reads item.ClassEnd t d = reads-class_end t d
reads item.Universe t d = reads-universe t d
reads item.Rules t d = reads-all-rules t d
reads item.Rule t d = reads-rule t d
reads item.RightOfZ t d = reads-right_of_z t d
reads item.MoreRules t d = reads-rules t d
reads (item.Expr depth) t d = reads-expr depth t d
reads (item.MoreExprs depth) t d = reads-more depth t d
reads item.ContainerEnd t d = reads-container_end t d
reads item.BoundEnd t d = ([], refl, refl, (refl, refl))
reads item.Bound t d = reads-bound t d
reads item.Comparison t d = reads-comparison t d
reads item.TurnedComparison t d = reads-turned t d
reads item.CardNumber digits d = ([], refl, refl, (refl, refl))
reads item.Size digits d = ([], refl, refl, (refl, refl))
reads (item.Mark s) t d = ([], ap (λ b. only_if b []) (mark-same s), refl, (refl, refl))
reads (item.Reserved k) t d = ([], ap (λ b. only_if b []) (reserved-same k), refl, (refl, refl))

-- what a list of items stands for
abbrev pub Trees : List Item → Type 0
Trees [] = Unit {0}
Trees (i ∷ is) = Tree i × Trees is

abbrev pub prints_all : (is : List Item) → Trees is → List Marked
prints_all [] ts = []
prints_all (i ∷ is) ts = prints i ts.0 ++ prints_all is ts.1

abbrev pub TreesOf : Option (List Item) → Type 0
TreesOf None = ⊥
TreesOf (Some row) = Trees row

abbrev pub prints_of : (found : Option (List Item)) → TreesOf found → List Marked
prints_of None parts = []
prints_of (Some row) parts = prints_all row parts

abbrev pub marked : Item → Token → Marked
marked i t = record { role = role_of i; token = t }

-- the item's tree that begins with a token and goes on with these parts
pub record BuiltOf (i : Item) (t : Token) (rest : List Marked) : Type 0 where
  pub built : Tree i
  pub is : prints i built ≡ marked i t ∷ rest

with-token : (i : Item) (t u : Token) (rest : List Marked) (built : Tree i) → t ≡ u → prints i built ≡ marked i u ∷ rest → BuiltOf i t rest
with-token i t u rest built same is = record { built = built; is = is ∙ ap (λ v. marked i v ∷ rest) (sym same) }

-- one token or no row
builds-only : (i : Item) (fits : Bool) (row : List Item) (t u : Token) (f : Trees row → Tree i) → (fits ≡ true → t ≡ u)
    → ((parts : Trees row) → prints i (f parts) ≡ marked i u ∷ prints_all row parts)
    → (parts : TreesOf (only_if fits row)) → BuiltOf i t (prints_of (only_if fits row) parts)
builds-only i true row t u f same is parts = with-token i t u (prints_all row parts) (f parts) (same refl) (is parts)
builds-only i false row t u f same is parts = absurd parts

-- one token, or else another or no row
builds-either : (i : Item) (first second : Bool) (row other : List Item) (t u v : Token) (f : Trees row → Tree i) (g : Trees other → Tree i)
    → (first ≡ true → t ≡ u) → (second ≡ true → t ≡ v)
    → ((parts : Trees row) → prints i (f parts) ≡ marked i u ∷ prints_all row parts)
    → ((parts : Trees other) → prints i (g parts) ≡ marked i v ∷ prints_all other parts)
    → (parts : TreesOf (if first then Some row else only_if second other)) → BuiltOf i t (prints_of (if first then Some row else only_if second other) parts)
builds-either i true second row other t u v f g same alike is are parts = with-token i t u (prints_all row parts) (f parts) (same refl) (is parts)
builds-either i false second row other t u v f g same alike is are parts = builds-only i second other t v g alike are parts

builds-expr : (depth : ℕ) (found : Option Head) (t : Token) → Begins found t → (parts : TreesOf (arguments depth found)) → BuiltOf (item.Expr depth) t (prints_of (arguments depth found) parts)
builds-expr depth None t begins parts = absurd parts
builds-expr depth (Some head.Epsilon) t begins parts = with-token (item.Expr depth) t (Reserved word.Epsilon) [] tree.Epsilon begins refl
builds-expr depth (Some head.Atom) t (inl begins) parts = with-token (item.Expr depth) t (Reserved word.Atom) [] tree.Atom begins refl
builds-expr depth (Some head.Atom) t (inr begins) parts = with-token (item.Expr depth) t (Reserved word.Z) [] tree.Z begins refl
builds-expr depth (Some head.Name) t begins parts = with-token (item.Expr depth) t (Name (text_of t)) [] (tree.Named (text_of t)) begins refl
builds-expr depth (Some (head.Former former.Union)) t begins parts = with-token (item.Expr depth) t (Reserved word.Union) _ (tree.Union parts.1.0 parts.1.1.0) begins (simp append-nil)
builds-expr depth (Some (head.Former former.Prod)) t begins parts = with-token (item.Expr depth) t (Reserved word.Prod) _ (tree.Prod parts.1.0 parts.1.1.0) begins (simp append-nil)
builds-expr depth (Some (head.Container of)) t begins parts = with-token (item.Expr depth) t (Reserved (container_word of)) _ (tree.Container of parts.1.0 parts.1.1.0) begins (simp append-nil)

comparison-plain : (c : Comparison) → comparison c ∷ [] ≡ record { role = Plain; token = (comparison c).token } ∷ []
comparison-plain compare.Equal = refl
comparison-plain compare.AtMost = refl
comparison-plain compare.AtLeast = refl

builds-comparison : (i : Item) (tree_of : Comparison → Tree i) (found : Option Comparison) (t : Token) → Compares found t
    → ((c : Comparison) → prints i (tree_of c) ≡ marked i (comparison c).token ∷ [])
    → (parts : TreesOf (only_if (is_some found) [])) → BuiltOf i t (prints_of (only_if (is_some found) []) parts)
builds-comparison i tree_of None t compares is parts = absurd parts
builds-comparison i tree_of (Some compare.Equal) t compares is parts = with-token i t (Mark sign.Equals) [] (tree_of compare.Equal) compares (is compare.Equal)
builds-comparison i tree_of (Some compare.AtMost) t compares is parts = with-token i t (Mark sign.AtMost) [] (tree_of compare.AtMost) compares (is compare.AtMost)
builds-comparison i tree_of (Some compare.AtLeast) t compares is parts = with-token i t (Mark sign.AtLeast) [] (tree_of compare.AtLeast) compares (is compare.AtLeast)

builds-universe : (found : Option Universe) (t : Token) → Names found t → (parts : TreesOf (only_if (is_some found) []))
    → BuiltOf item.Universe t (prints_of (only_if (is_some found) []) parts)
builds-universe None t names parts = absurd parts
builds-universe (Some universe.Labelled) t (inl names) parts = with-token item.Universe t (Reserved word.Labelled) [] tree.Labelled names refl
builds-universe (Some universe.Labelled) t (inr names) parts = with-token item.Universe t (Reserved word.Labeled) [] tree.Labeled names refl
builds-universe (Some universe.Unlabelled) t (inl names) parts = with-token item.Universe t (Reserved word.Unlabelled) [] tree.Unlabelled names refl
builds-universe (Some universe.Unlabelled) t (inr names) parts = with-token item.Universe t (Reserved word.Unlabeled) [] tree.Unlabeled names refl

-- a comma and more, or the sign that closes
builds-more : (i : Item) (close : Sign) (row : List Item) (t : Token) (f : Trees row → Tree i) (end : Tree i)
    → ((parts : Trees row) → prints i (f parts) ≡ marked i (Mark sign.Comma) ∷ prints_all row parts) → prints i end ≡ marked i (Mark close) ∷ []
    → (parts : TreesOf (more_or_end close t row)) → BuiltOf i t (prints_of (more_or_end close t row) parts)
builds-more i close row t f end is ends parts = builds-either i (is_mark sign.Comma t) (is_mark close t) row [] t (Mark sign.Comma) (Mark close)
    f (λ none. end) (mark-is sign.Comma t) (mark-is close t) is (λ none. ends) parts

builds-command : (found : Option Command) (t : Token) → Commands found t → (parts : TreesOf (only_if (is_some found) behind_command))
    → BuiltOf item.Statement t (prints_of (only_if (is_some found) behind_command) parts)
builds-command None t commands parts = absurd parts
builds-command (Some k) t commands parts =
    with-token item.Statement t (Reserved (command_word k)) _ (tree.Asks (tree.About k parts.1.0 parts.1.1.1.1.1.0) parts.1.1.1.1.1.1.1.0) commands
    (ap (λ rest. tree.word (command_word k) ∷ tree.sign sign.OpenParen ∷ rest) (append_assoc (class parts.1.0) _ (tree.sign (end_sign parts.1.1.1.1.1.1.1.0) ∷ [])))

builds-statement : (ends : Bool) (t : Token) → (ends ≡ true → t ≡ Mark (end_sign (end_of t)))
    → (parts : TreesOf (if ends then Some [] else only_if (is_some (command_of t)) behind_command))
    → BuiltOf item.Statement t (prints_of (if ends then Some [] else only_if (is_some (command_of t)) behind_command) parts)
builds-statement true t same parts = with-token item.Statement t (Mark (end_sign (end_of t))) [] (tree.Bare (end_of t)) (same refl) refl
builds-statement false t same parts = builds-command (command_of t) t (command-is t) parts

-- each row of the table is of a production
pub builds : (i : Item) (t : Token) (parts : TreesOf (step i t)) → BuiltOf i t (prints_of (step i t) parts)
builds item.Statement t parts = builds-statement (is_end t) t (end-is t) parts
builds item.End t parts = builds-only item.End (is_end t) _ t (Mark (end_sign (end_of t))) (λ none. end_of t) (end-is t) (λ none. refl) parts
builds item.Class t parts = builds-only item.Class (is_mark sign.OpenBracket t) _ t (Mark sign.OpenBracket)
    (λ those. record { symbol = those.0; rules = those.1.1.0; universe = those.1.1.1.0 }) (mark-is sign.OpenBracket t) (λ those. simp append-nil) parts
builds item.Symbol t parts = builds-either item.Symbol (is_name t) (is_reserved word.Z t) _ _ t (Name (text_of t)) (Reserved word.Z)
    (λ none. tree.SymbolName (text_of t)) (λ none. tree.SymbolZ) (name-is t) (reserved-is word.Z t) (λ none. refl) (λ none. refl) parts
builds item.ClassEnd t parts = builds-more item.ClassEnd sign.CloseBracket _ t (λ those. Some those.0) None (λ those. refl) refl parts
builds item.Universe t parts = builds-universe (table.universe_of t) t (universe-is t) parts
builds item.Rules t parts = builds-only item.Rules (is_mark sign.OpenBrace t) _ t (Mark sign.OpenBrace)
    (λ those. record { first = those.0; others = those.1.0 }) (mark-is sign.OpenBrace t) (λ those. simp append-nil) parts
builds item.Rule t parts = builds-either item.Rule (is_name t) (is_reserved word.Z t) _ _ t (Name (text_of t)) (Reserved word.Z)
    (λ those. tree.Rule (text_of t) those.1.0) (λ those. tree.RuleOfZ those.1.0) (name-is t) (reserved-is word.Z t) (λ those. simp append-nil) (λ those. simp append-nil) parts
builds item.RightOfZ t parts = builds-either item.RightOfZ (is_reserved word.Z t) (is_reserved word.Atom t) _ _ t (Reserved word.Z) (Reserved word.Atom)
    (λ none. tree.ByZ) (λ none. tree.ByAtom) (reserved-is word.Z t) (reserved-is word.Atom t) (λ none. refl) (λ none. refl) parts
builds item.MoreRules t parts = builds-more item.MoreRules sign.CloseBrace _ t (λ those. those.0 ∷ those.1.0) [] (λ those. simp append-nil) refl parts
builds (item.Expr depth) t parts = builds-expr depth (head_of t) t (head-begins t) parts
builds (item.MoreExprs depth) t parts = builds-more (item.MoreExprs depth) sign.CloseParen _ t (λ those. tree.more those.0 those.1.0) tree.no_more (λ those. simp append-nil) refl parts
builds item.ContainerEnd t parts = builds-more item.ContainerEnd sign.CloseParen _ t (λ those. Some those.0) None (λ those. refl) refl parts
builds item.BoundEnd t parts = builds-only item.BoundEnd (is_mark sign.CloseParen t) _ t (Mark sign.CloseParen) (λ none. tt) (mark-is sign.CloseParen t) (λ none. refl) parts
builds item.Bound t parts = builds-either item.Bound (is_reserved word.Card t) (is_number t) _ _ t (Reserved word.Card) (Number (digits_of t))
    (λ those. tree.CardFirst those.0 those.1.0) (λ those. tree.NumberFirst (digits_of t) those.0) (reserved-is word.Card t) (number-is t) (λ those. refl) (λ those. refl) parts
builds item.Comparison t parts = builds-comparison item.Comparison (λ c. c) (comparison_of t) t (comparison-is t) comparison-plain parts
builds item.TurnedComparison t parts = builds-comparison item.TurnedComparison (λ c. c) (comparison_of t) t (comparison-is t) comparison-plain parts
builds item.CardNumber t parts = builds-only item.CardNumber (is_number t) _ t (Number (digits_of t)) (λ none. digits_of t) (number-is t) (λ none. refl) parts
builds item.Size t parts = builds-only item.Size (is_number t) _ t (Number (digits_of t)) (λ none. digits_of t) (number-is t) (λ none. refl) parts
builds (item.Mark s) t parts = builds-only (item.Mark s) (is_mark s t) _ t (Mark s) (λ none. tt) (mark-is s t) (λ none. refl) parts
builds (item.Reserved k) t parts = builds-only (item.Reserved k) (is_reserved k t) _ t (Reserved k) (λ none. tt) (reserved-is k t) (λ none. refl) parts
