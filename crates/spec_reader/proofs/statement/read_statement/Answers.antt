use Rattle.std.proofs.Common.{inr}
use Rattle.spec_reader.proofs.Pieces.{read-as, syntax-at, repeats-by, passes-by}
use Rattle.spec_reader.proofs.statement.read_statement.Goals as goal

pub returns-in-Ok-read_tokens-clause-read : goal.returns-in-Ok-read_tokens-clause-read
returns-in-Ok-read_tokens-clause-read c =
    read-as c.args.piece.now c.in-Ok-read_tokens.statement c.if-piece-gt-PIECE_MAX.false c.in-Ok.ensures.cases.1 c.in-Ok-read_tokens.ensures.answer

pub returns-in-Err-Syntax-clause-refused : goal.returns-in-Err-Syntax-clause-refused
returns-in-Err-Syntax-clause-refused c =
    syntax-at (record { line = c.args.line; column = c.args.column }) c.args.piece.now c.in-Err-Syntax.at c.behind-place.result
    c.if-piece-gt-PIECE_MAX.false c.in-Ok.ensures.cases.1 (rw c.in-Err-Syntax.field-0-is at c.in-Err-Syntax.ensures.answer) c.behind-place.ensures.value

pub returns-in-Err-DuplicateRule-clause-refused : goal.returns-in-Err-DuplicateRule-clause-refused
returns-in-Err-DuplicateRule-clause-refused c =
    repeats-by c.args.piece.now c.in-Err-DuplicateRule.name c.if-piece-gt-PIECE_MAX.false c.in-Ok.ensures.cases.1 (rw c.in-Err-DuplicateRule.field-0-is at c.in-Err-DuplicateRule.ensures.answer)

pub returns-in-Err-Limit-clause-refused : goal.returns-in-Err-Limit-clause-refused
returns-in-Err-Limit-clause-refused c =
    inr (passes-by c.args.piece.now c.in-Err-Limit.which c.if-piece-gt-PIECE_MAX.false c.in-Ok.ensures.cases.1 (rw c.in-Err-Limit.field-0-is at c.in-Err-Limit.ensures.answer))
