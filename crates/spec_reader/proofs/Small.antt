-- The size in a statement that is read is at most 1000.
use Rattle.std.proofs.lemmas.List.{append_assoc, append-nil}
use Rattle.std.proofs.lemmas.Bool.Decides.{nat_tests}
use Rattle.std.proofs.Common.{◌≡◌, ◌≤◌, ℕ, nat_lt, Bool, true, false, Option, None, List, [], ◌∷◌, ◌++◌, refl, sym, ap, ◌∙◌, subst, arith}
use Rattle.spec_syntax.specs.declared.statement.Statement.{Statement}
use Rattle.spec_reader.specs.declared.table.Command.{Command}
use Rattle.spec_reader.specs.declared.table.Command.TheVariants as command
use Rattle.spec_reader.specs.declared.table.Role.TheVariants.{SizeNumber}
use Rattle.spec_reader.specs.declared.token.Sign.TheVariants as sign
use Rattle.spec_reader.specs.declared.token.Keyword.TheVariants as keyword
use Rattle.spec_reader.specs.declared.refusal.Which.TheVariants as which
use Rattle.spec_reader.specs.Tokens.{Number, value}
use Rattle.spec_reader.specs.Grammar as tree
use Rattle.spec_reader.specs.Grammar.{Marked, ClassTree, EndTree, StatementTree, command_word, end_sign}
use Rattle.spec_reader.specs.Meaning.{meaning}
use Rattle.spec_reader.specs.Limits.{first_that_holds, limit_or, Reason, reason}
use Rattle.spec_reader.specs.Reading.{names_in, expressions_in, reason_after, pass_after}
use Rattle.spec_reader.specs.Laws.{FormIsSmall, ReadingsAreSmall}
use Rattle.spec_reader.proofs.SeenLemmas.{pass-first}

-- a token that passes is at fault after none of those before it
pass-at : (before front : List Marked) (m : Marked) (rest : List Marked) → pass_after before (front ++ m ∷ rest) ≡ true → reason_after (before ++ front) m ≡ None
pass-at before [] m rest pass = subst (λ (all : List Marked). reason_after all m ≡ None) (sym (append-nil before)) (pass-first before m rest pass).0
pass-at before (first ∷ front) m rest pass =
    subst (λ (all : List Marked). reason_after all m ≡ None) (append_assoc before (first ∷ []) front)
    (pass-at (before ++ first ∷ []) front m rest (pass-first before first (front ++ m ∷ rest) pass).1)

at_most : (n : ℕ) → nat_lt 1000 n ≡ false → n ≤ 1000
at_most n h = grind (arith, nat_tests, h)

no_second : (a b : Bool) (more : Option Reason) → limit_or (first_that_holds ((a, which.Number) ∷ (b, which.Size) ∷ [])) more ≡ None → b ≡ false
no_second true b more e = cc
no_second false true more e = cc
no_second false false more e = refl

-- a number that passes where a size stands is one that can be asked for
small : (names : List (List ℕ)) (expressions : ℕ) (digits : List ℕ) → reason names expressions SizeNumber (Number digits) ≡ None → value digits ≤ 1000
small names expressions digits none =
    at_most (value digits) (no_second (nat_lt 340282366920938463463374607431768211455 (value digits)) (nat_lt 1000 (value digits)) None none)

apart : (a b c d e : List Marked) → (a ++ (b ++ (c ++ d))) ++ e ≡ (a ++ (b ++ c)) ++ (d ++ e)
apart a b c d e =
    append_assoc a (b ++ (c ++ d)) e ∙ ap (λ rest. a ++ rest) (append_assoc b (c ++ d) e ∙ ap (λ rest. b ++ rest) (append_assoc c d e) ∙ sym (append_assoc b c (d ++ e)))
    ∙ sym (append_assoc a (b ++ c) (d ++ e))

small-about : (asked : Command) (class : ClassTree) (digits : List ℕ) (e : EndTree)
    → pass_after [] (tree.statement (tree.Asks (tree.About asked class digits) e)) ≡ true → value digits ≤ 1000
small-about asked class digits e pass =
    let before : List Marked = tree.word (command_word asked) ∷ tree.sign sign.OpenParen ∷ [] in
    let between : List Marked = tree.sign sign.Comma ∷ tree.word keyword.Size ∷ tree.sign sign.Equals ∷ [] in
    let after : List Marked = tree.sign sign.CloseParen ∷ [] in
    let end : List Marked = tree.sign (end_sign e) ∷ [] in
    let front : List Marked = before ++ (tree.class class ++ between) in
    small (names_in front) (expressions_in front) digits
    (pass-at [] front (tree.size digits) (after ++ end)
    (subst (λ (all : List Marked). pass_after [] all ≡ true) (apart before (tree.class class) between (tree.size digits ∷ after) end) pass))

small-meaning : (statement : StatementTree) → pass_after [] (tree.statement statement) ≡ true → FormIsSmall (meaning statement).form
small-meaning (tree.Bare e) pass = tt
small-meaning (tree.Asks (tree.About command.AllStructs class digits) e) pass = small-about command.AllStructs class digits e pass
small-meaning (tree.Asks (tree.About command.Count class digits) e) pass = small-about command.Count class digits e pass

pub readings-small : ReadingsAreSmall
readings-small piece read reads = subst (λ (s : Statement). FormIsSmall s.form) reads.reads.means (small-meaning reads.reads.tree reads.reads.pass)
