use Rattle.std.proofs.Common.{◌≡◌, ◌+◌, ◌-◌, length, take, drop, ap, ◌∙◌, arith, length-drop}
use Rattle.std.proofs.lemmas.List.{take_all}
use Rattle.spec_reader.specs.declared.cut.Region.TheVariants.{Open}
use Rattle.spec_reader.specs.Cutting.{gap_len}
use Rattle.spec_reader.specs.Tokens.{front_at}
use Rattle.spec_reader.specs.TokenView.{plain}
use Rattle.spec_reader.proofs.TokenLemmas.{tokens_from-next, tokens_from-none}
use Rattle.spec_reader.proofs.token.next_token.Goals as goal

pub returns-then-start-piece-clause-end : goal.returns-then-start-piece-clause-end
returns-then-start-piece-clause-end c =
    let rest = drop c.args.from c.args.piece.now in
    let whole : take (length c.args.piece.now - c.args.from) rest ≡ rest = take_all _ _ (omega (arith, length-drop c.args.from c.args.piece.now)) in
    tokens_from-none c.args.from c.gap_len.result rest (c.gap_len.ensures.value ∙ ap (gap_len Open) whole) (omega (arith, length-drop c.args.from c.args.piece.now))

pub returns-clause-token : goal.returns-clause-token
returns-clause-token c =
    let rest = drop c.args.from c.args.piece.now in
    let whole : take (length c.args.piece.now - c.args.from) rest ≡ rest = take_all _ _ (omega (arith, length-drop c.args.from c.args.piece.now)) in
    let start = c.args.from + c.gap_len.result in
    let text = drop start c.args.piece.now in
    let all : take (length c.args.piece.now - start) text ≡ text = take_all _ _ (omega (arith, length-drop start c.args.piece.now)) in
    let front = c.front-front in
    tokens_from-next c.args.piece.now c.args.from c.gap_len.result front.result.at front.result.end (plain front.result.token)
    (c.gap_len.ensures.value ∙ ap (gap_len Open) whole) (omega arith)
    (front.ensures.token ∙ ap (λ bs. (front_at bs).token) all) (front.ensures.at ∙ ap (λ bs. (front_at bs).place) all)
    (front.ensures.end ∙ ap (λ bs. (front_at bs).len) all) front.ensures.forward
