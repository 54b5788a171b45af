-- Each comparison that finds a difference passes over one of the two places and what was compared behind it.
use Rattle.std.proofs.Common.{refl, sym, ◌∙◌, inl, inr, arith}
use Rattle.canon.proofs.LeastPlaces.{search_less, search_greater, search_end}
use Rattle.canon.proofs.rotation.least_rotation.Goals as goal

pub loop-other-preserved-in-Less : goal.loop-other-preserved-in-Less
loop-other-preserved-in-Less c =
    search_less _ _ _ _ _ c.around.result.now c.around-in-loop-other.result.now c.loop-other.invariant (omega arith) c.around.ensures c.around-in-loop-other.ensures
    (sym c.compare.ensures.order ∙ c.in-Less.is) refl

pub loop-other-preserved : goal.loop-other-preserved
loop-other-preserved c =
    search_greater _ _ _ _ _ c.around.result.now c.around-in-loop-other.result.now c.loop-other.invariant (omega arith) (omega arith) c.around.ensures c.around-in-loop-other.ensures
    (sym c.compare.ensures.order ∙ c.in-Greater.is) (λ t h g. omega arith) (omega arith)

pub returns-else-equal-length : goal.returns-else-equal-length
returns-else-equal-length c = search_end _ _ _ _ c.loop-other.invariant (inr (omega arith))

pub returns-after-loop-other : goal.returns-after-loop-other
returns-after-loop-other c = search_end _ _ _ _ c.loop-other.invariant (inl (omega arith))
