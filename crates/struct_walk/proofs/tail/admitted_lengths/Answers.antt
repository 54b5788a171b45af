use Rattle.std.proofs.Common.{◌≡◌, [], ◌∷◌, ◌++◌, sym, ◌∙◌, arith}
use Rattle.std.proofs.lemmas.List.FromFn.{map-range_with_len_more}
use Rattle.struct_walk.specs.Tails.{is_open}
use Rattle.struct_walk.proofs.tail.admitted_lengths.Goals as goal

pub loop-taken-preserved : goal.loop-taken-preserved
loop-taken-preserved c =
    let pushed : c.push.new.self.items ≡ c.loop-taken.lengths.items ++ c.is_open.result ∷ [] = c.in_ok-push.ensures.items in
    pushed ∙ (λ i. c.loop-taken.invariant i ++ c.is_open.ensures i ∷ [])
    ∙ sym (map-range_with_len_more (is_open c.args.counted.now.checked c.args.cut c.args.n) 0 c.loop-taken.taken c.loop-taken.taken (omega arith))
