-- What is built of a statement is what it says.
use Rattle.std.proofs.Common.{◌≡◌, ℕ, suc, Option, Some, None, Result, Ok, List, [], ◌∷◌, ◌++◌, map, reverse, refl, sym, ap, ◌∙◌, append_assoc, append-nil}
use Rattle.std.specs.Prelude.{zip, false}
use Rattle.std.proofs.lemmas.List.{reverse-append, reverse-reverse}
use Rattle.spec_syntax.specs.Expression.{Expression}
use Rattle.spec_syntax.specs.Rules.{Rules}
use Rattle.spec_syntax.specs.declared.statement.Universe.{Universe}
use Rattle.spec_syntax.specs.declared.statement.Universe.TheVariants as universe
use Rattle.spec_syntax.specs.declared.statement.RulesRef.TheVariants as rules_ref
use Rattle.spec_syntax.specs.declared.statement.ClassRef.TheVariants as class_ref
use Rattle.spec_syntax.specs.declared.statement.Job.TheVariants as job
use Rattle.spec_syntax.specs.declared.statement.Statement.{Statement}
use Rattle.spec_reader.specs.declared.refusal.Fault.{Fault}
use Rattle.spec_reader.specs.declared.token.Sign.TheVariants as sign
use Rattle.spec_reader.specs.declared.token.Keyword.TheVariants as word
use Rattle.spec_reader.specs.declared.table.Comparison.TheVariants as compare
use Rattle.spec_reader.specs.declared.table.Command.{Command}
use Rattle.spec_reader.specs.declared.draft.Draft.{Draft}
use Rattle.spec_reader.specs.Tokens.{value}
use Rattle.spec_reader.specs.Grammar as tree
use Rattle.spec_reader.specs.Grammar.{BoundTree, ExprTree, ExprTrees, RuleTree, RulesTree, SymbolTree, UniverseTree, ClassTree, EndTree, StatementTree, end_sign, container_end, expr, more_exprs, rule, more_rules, rules, symbol, class_end, class, statement}
use Rattle.spec_reader.specs.Meaning.{name_of, right_of, rule_of, rules_of, symbol_of, universe_of, asks, is_quiet, meaning}
use Rattle.spec_reader.specs.Drafts.{empty}
use Rattle.spec_reader.specs.Machine as machine
use Rattle.spec_reader.specs.Reading.{names_in}
use Rattle.spec_reader.proofs.Productions.{effect_of_rules, effect_of_class_end, effect_of_statement}
use Rattle.spec_reader.proofs.SeenLemmas.{seen_of, names_in-append}

-- an expression names no rule
names-container_end : (end : Option BoundTree) → names_in (container_end end) ≡ []
names-container_end None = refl
names-container_end (Some (tree.CardFirst compare.Equal digits)) = refl
names-container_end (Some (tree.CardFirst compare.AtMost digits)) = refl
names-container_end (Some (tree.CardFirst compare.AtLeast digits)) = refl
names-container_end (Some (tree.NumberFirst digits compare.Equal)) = refl
names-container_end (Some (tree.NumberFirst digits compare.AtMost)) = refl
names-container_end (Some (tree.NumberFirst digits compare.AtLeast)) = refl

mutual
  names-expr : (depth : ℕ) (t : ExprTree) → names_in (expr depth t) ≡ []
  names-expr depth tree.Epsilon = refl
  names-expr depth tree.Atom = refl
  names-expr depth tree.Z = refl
  names-expr depth (tree.Named text) = refl
  names-expr depth (tree.Union first others) =
      names_in-append (expr (suc depth) first) (more_exprs (suc depth) others) ∙ (λ k. names-expr (suc depth) first k ++ names-more-exprs (suc depth) others k)
  names-expr depth (tree.Prod first others) =
      names_in-append (expr (suc depth) first) (more_exprs (suc depth) others) ∙ (λ k. names-expr (suc depth) first k ++ names-more-exprs (suc depth) others k)
  names-expr depth (tree.Container of element end) =
      names_in-append (expr (suc depth) element) (container_end end) ∙ (λ k. names-expr (suc depth) element k ++ names-container_end end k)

  names-more-exprs : (depth : ℕ) (es : ExprTrees) → names_in (more_exprs depth es) ≡ []
  names-more-exprs depth tree.no_more = refl
  names-more-exprs depth (tree.more e es) =
      names_in-append (expr depth e) (more_exprs depth es) ∙ (λ k. names-expr depth e k ++ names-more-exprs depth es k)

names-rule : (r : RuleTree) → names_in (rule r) ≡ name_of r ∷ []
names-rule (tree.Rule name right) = ap (λ rest. name ∷ rest) (names-expr 1 right)
names-rule (tree.RuleOfZ tree.ByZ) = refl
names-rule (tree.RuleOfZ tree.ByAtom) = refl

names-rules : (rs : List RuleTree) → names_in (more_rules rs) ≡ map name_of rs
names-rules [] = refl
names-rules (r ∷ rs) = names_in-append (rule r) (more_rules rs) ∙ (λ k. names-rule r k ++ names-rules rs k)

names-all-rules : (rs : RulesTree) → names_in (rules rs) ≡ map name_of (rs.first ∷ rs.others)
names-all-rules rs = names_in-append (rule rs.first) (more_rules rs.others) ∙ (λ k. names-rule rs.first k ++ names-rules rs.others k)

names-symbol : (s : SymbolTree) → names_in (symbol s) ≡ []
names-symbol (tree.SymbolName text) = refl
names-symbol tree.SymbolZ = refl

names-class_end : (end : Option UniverseTree) → names_in (class_end end) ≡ []
names-class_end None = refl
names-class_end (Some tree.Labelled) = refl
names-class_end (Some tree.Unlabelled) = refl
names-class_end (Some tree.Labeled) = refl
names-class_end (Some tree.Unlabeled) = refl

names-class : (c : ClassTree) → names_in (class c) ≡ map name_of (c.rules.first ∷ c.rules.others)
names-class c =
    names_in-append (symbol c.symbol) (tree.sign sign.Comma ∷ rules c.rules ++ class_end c.universe)
    ∙ ap (λ front. front ++ names_in (rules c.rules ++ class_end c.universe)) (names-symbol c.symbol)
    ∙ names_in-append (rules c.rules) (class_end c.universe)
    ∙ ap (λ rest. names_in (rules c.rules) ++ rest) (names-class_end c.universe)
    ∙ append-nil (names_in (rules c.rules)) ∙ names-all-rules c.rules

names-statement : (k : Command) (c : ClassTree) (digits : List ℕ) (e : EndTree)
    → names_in (statement (tree.Asks (tree.About k c digits) e)) ≡ map name_of (c.rules.first ∷ c.rules.others)
names-statement k c digits e =
    names_in-append (tree.form (tree.About k c digits)) (tree.sign (end_sign e) ∷ []) ∙ append-nil (names_in (tree.form (tree.About k c digits)))
    ∙ names_in-append (class c) (tree.sign sign.Comma ∷ tree.word word.Size ∷ tree.sign sign.Equals ∷ tree.size digits ∷ tree.sign sign.CloseParen ∷ [])
    ∙ append-nil (names_in (class c)) ∙ names-class c

abbrev listed : Command → List ℕ → Universe → List Expression → Draft
listed k symbol named rights =
    record { command = Some k; symbol = symbol; universe = named; rights = rights; pending = []; size = 0; quiet = false }

rules-built : (rs : List RuleTree) (k : Command) (symbol : List ℕ) (named : Universe) (rights : List Expression)
    → effect_of_rules rs (listed k symbol named rights) ≡ listed k symbol named (reverse (map right_of rs) ++ rights)
rules-built [] k symbol named rights = refl
rules-built (r ∷ rs) k symbol named rights =
    rules-built rs k symbol named (right_of r ∷ rights)
    ∙ ap (λ those. listed k symbol named those)
    (sym (append_assoc (reverse (map right_of rs)) (right_of r ∷ []) rights) ∙ ap (λ those. those ++ rights) (sym (reverse-append (right_of r ∷ []) (map right_of rs))))

zip-map : (rs : List RuleTree) → zip (map name_of rs) (map right_of rs) ≡ map rule_of rs
zip-map [] = refl
zip-map (r ∷ rs) = ap (λ rest. rule_of r ∷ rest) (zip-map rs)

rules-are : (names : List (List ℕ)) (rs : RulesTree) → names ≡ map name_of (rs.first ∷ rs.others)
    → machine.rules_from (reverse names) (reverse (map right_of rs.others) ++ right_of rs.first ∷ []) ≡ rules_of rs
rules-are names rs same =
    let rights : reverse (reverse (map right_of rs.others) ++ right_of rs.first ∷ []) ≡ map right_of (rs.first ∷ rs.others) =
    reverse-append (reverse (map right_of rs.others)) (right_of rs.first ∷ []) ∙ ap (λ rest. right_of rs.first ∷ rest) (reverse-reverse (map right_of rs.others)) in
    (λ k. zip ((reverse-reverse names ∙ same) k) (rights k)) ∙ zip-map (rs.first ∷ rs.others)

-- where no universe is written it is unlabelled
class_end-built : (end : Option UniverseTree) (k : Command) (symbol : List ℕ) (rights : List Expression)
    → effect_of_class_end end (listed k symbol universe.Unlabelled rights) ≡ listed k symbol (universe_of end) rights
class_end-built None k symbol rights = refl
class_end-built (Some end) k symbol rights = refl

-- what is built of a statement is what it says
pub built-means : (t : StatementTree) (end : ℕ)
    → machine.finished [] end (record { expected = []; seen = seen_of (statement t); draft = effect_of_statement t empty }) ≡ Ok (meaning t)
built-means (tree.Bare e) end = refl
built-means (tree.Asks (tree.About k c digits) e) end =
    let t = tree.Asks (tree.About k c digits) e in
    let all = reverse (map right_of c.rules.others) ++ right_of c.rules.first ∷ [] in
    let drafts : effect_of_statement t empty ≡ record (listed k (symbol_of c.symbol) (universe_of c.universe) all) { size = value digits; quiet = is_quiet e } =
    ap {A = Draft} {B = Draft} (λ d. record (effect_of_class_end c.universe d) { size = value digits; quiet = is_quiet e })
    (rules-built c.rules.others k (symbol_of c.symbol) universe.Unlabelled (right_of c.rules.first ∷ []))
    ∙ ap {A = Draft} {B = Draft} (λ d. record d { size = value digits; quiet = is_quiet e }) (class_end-built c.universe k (symbol_of c.symbol) all) in
    ap {A = Draft} (λ d. machine.finished [] end (record { expected = []; seen = seen_of (statement t); draft = d })) drafts
    ∙ ap {A = Rules} {B = Result Statement Fault}
    (λ rs. Ok (record { form = asks k (job.Grammar (class_ref.Written (symbol_of c.symbol) (rules_ref.Written rs) (universe_of c.universe)) (value digits)); quiet = is_quiet e }))
    (rules-are (names_in (statement t)) c.rules (names-statement k c digits e))
