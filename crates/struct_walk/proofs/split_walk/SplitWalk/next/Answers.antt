use Rattle.struct_walk.proofs.SplitWalkLemmas.{first_leads}
use Rattle.struct_walk.proofs.split_walk.SplitWalk.next.Goals as goal

pub with_first-requires-clause-ascends : goal.with_first-requires-clause-ascends
with_first-requires-clause-ascends c =
    first_leads c.self.inside.least c.in-Some-least.label c.self.inside.walk c.in-Some.part c.in-Some.rest c.next.new.self.left c.in_ok-part.field-0 c.in-Some-least.is c.self.invariant
    c.in-Some.is c.in_ok-part.ensures.some
