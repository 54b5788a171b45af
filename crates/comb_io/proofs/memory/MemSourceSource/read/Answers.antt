use Rattle.std.proofs.Common.{arith, ap, ◌∙◌, sym}
use Rattle.comb_io.proofs.Parts.{rest_read, take-rest}
use Rattle.comb_io.proofs.memory.MemSourceSource.read.Goals as goal

pub returns-clause-bytes : goal.returns-clause-bytes
returns-clause-bytes c =
    let taken = c.self.inside.taken in
    let read =
    rest_read c.deref.result.now _ _ taken _ _ _ _ (take-rest taken c.deref.result.now) c.copy_front-count.ensures.copied c.min.ensures c.copy_front-count.ensures.count (omega arith) in
    let items = c.deref.ensures.value in
    let bytes = ap (λ view. view.bytes) c.self.view_is in
    (sym bytes ∙ (rw items at read.0), λ none room. (rw items at read.1) none (omega arith))
