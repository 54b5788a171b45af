-- Each comparison moves one of the two places to the middle; where they meet, the structure goes in.
use Rattle.std.proofs.Common.{◌≡◌, ◌⊎◌, ◌+◌, ◌-◌, ◌/◌, ◌<◌, false, length, refl, sym, ap, ◌∙◌, subst, inl, inr, arith}
use Rattle.std.specs.declared.cmp.Ordering.{Ordering}
use Rattle.std.specs.declared.cmp.Ordering.TheVariants.{Less, Equal}
use Rattle.std.specs.Ordering.{is_gt}
use Rattle.std.proofs.lemmas.Option.{slice_get_read}
use Rattle.canon.proofs.SortedLists.{IsParted, parted_high, parted_low, placed}
use Rattle.canon.proofs.sorted.place_of.Goals as goal

not_greater : (o : Ordering) → (o ≡ Less) ⊎ (o ≡ Equal) → is_gt o ≡ false
not_greater o (inl e) = ap is_gt e
not_greater o (inr e) = ap is_gt e

pub loop-low-preserved-in-Greater : goal.loop-low-preserved-in-Greater
loop-low-preserved-in-Greater c =
    let parted = c.loop-low.invariant in
    let middle = c.loop-low.low + (c.loop-low.high - c.loop-low.low) / 2 in
    let within : middle < length c.args.sorted.now = omega (arith, parted.within) in
    let at = slice_get_read c.args.sorted.now (length c.args.sorted.now) middle c.index-sorted-middle.result refl within c.index-sorted-middle.is in
    parted_high _ _ c.index-sorted-middle.result _ _ middle c.requires parted (omega arith) (omega arith) at (sym c.compare.ensures.order ∙ c.in-Greater.is)

pub loop-low-preserved : goal.loop-low-preserved
loop-low-preserved c =
    let parted = c.loop-low.invariant in
    let middle = c.loop-low.low + (c.loop-low.high - c.loop-low.low) / 2 in
    let within : middle < length c.args.sorted.now = omega (arith, parted.within) in
    let at = slice_get_read c.args.sorted.now (length c.args.sorted.now) middle c.index-sorted-middle.result refl within c.index-sorted-middle.is in
    parted_low _ _ c.index-sorted-middle.result _ _ middle c.requires parted (omega arith) (omega arith) at (ap is_gt (sym c.compare.ensures.order) ∙ not_greater _ c.in-Less.is)

pub returns-clause-place : goal.returns-clause-place
returns-clause-place c =
    let parted = c.loop-low.invariant in
    let same : c.loop-low.high ≡ c.loop-low.low = omega (arith, parted.ordered) in
    placed _ _ _ (subst (IsParted c.args.sorted.now c.args.item.now c.loop-low.low) same parted)
