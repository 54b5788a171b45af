use Rattle.std.specs.Prelude.{◌==◌}
use Rattle.std.proofs.Common.{◌≡◌, ◌≢◌, ◌-◌, ◌<◌, length, take, drop, sym, ap, ◌∙◌, arith, length-drop}
use Rattle.std.proofs.lemmas.Bool.{eqb-false}
use Rattle.std.proofs.lemmas.List.{take_all}
use Rattle.spec_reader.specs.declared.cut.Region.TheVariants.{Open}
use Rattle.spec_reader.specs.Cutting.{piece_len}
use Rattle.spec_reader.proofs.CutLemmas.{begins_piece-at, piece_len-some}
use Rattle.spec_reader.proofs.cut.first_piece.Goals as goal

pub returns-clause-begins : goal.returns-clause-begins
returns-clause-begins c =
    let rest = drop c.gap_len-start.result c.args.script.now in
    let all : take (length c.args.script.now - c.gap_len-start.result) rest ≡ rest = take_all _ _ (omega (arith, length-drop c.gap_len-start.result c.args.script.now)) in
    let some : length rest ≢ 0 = eqb-false (length rest) 0 (sym (c.if-is_empty.ensures ∙ ap (λ bs. length bs == 0) all)) in
    let more : 0 < piece_len Open rest = piece_len-some rest (omega arith) in
    begins_piece-at c.args.script.now c.gap_len-start.result c.piece_len.result c.gap_len-start.ensures.value (omega (arith, length-drop c.gap_len-start.result c.args.script.now))
    (rw (c.piece_len.ensures.value ∙ ap (piece_len Open) all) more)
