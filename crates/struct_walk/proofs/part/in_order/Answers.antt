use Rattle.std.proofs.Common.{IfOk, List, ℕ, ◌≡◌, ap, ◌∙◌, subst}
use Rattle.lists.specs.Ascending.{ascending}
use Rattle.struct_walk.proofs.SortedLabels.{sorted_is}
use Rattle.struct_walk.proofs.part.in_order.Goals as goal

pub returns : goal.returns
returns c =
    let copied : c.in_ok-sorted.sorted.items ≡ c.args.found.now = c.in_ok-sorted.ensures.items ∙ c.as_slice.ensures in
    let in_order : c.as_slice-2.result.now ≡ ascending c.args.found.now =
    c.as_slice-2.ensures.value ∙ sorted_is c.in_ok-sorted.sorted.items c.sort.new.self.items c.in_ok-sort.ensures.permutation c.in_ok-sort.ensures.sorted ∙ ap ascending copied in
    subst (λ (ns : List ℕ). IfOk c.from_slice-2.result (λ labels. labels ≡ ns)) in_order c.from_slice-2.ensures
