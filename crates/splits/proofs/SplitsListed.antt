-- The splits of a supply, and those whose part has a length within bounds, are listed.
use Rattle.lists.proofs.Enumerated as enumerated
use Rattle.lists.proofs.Ascending.{Rises}
use Rattle.struct_model.proofs.SupplyLaws.{supply_rises}
use Rattle.splits.specs.Splits.{splits}
use Rattle.splits.specs.Parts.{has_length}
use Rattle.splits.specs.Laws.{IsSplit, PartBefore, SplitsAreListed, PartsAreListed}
use Rattle.splits.proofs.SplitLaws.{MakesUp, splits_are}
use Rattle.splits.proofs.SplitSupplies.{split_supplies}

pub splits_are_listed : SplitsAreListed
splits_are_listed universe u supplied =
    let rises : Rises u = supply_rises universe u supplied in
    enumerated.same_property PartBefore (MakesUp u) (IsSplit universe u) (splits u) (splits_are u rises)
    (λ split s.
    let both = split_supplies universe u supplied split s in
    record { part = both.0; rest = both.1; whole = s.whole })
    (λ split s. record { part = supply_rises universe split.part s.part; rest = supply_rises universe split.rest s.rest; whole = s.whole })

pub parts_are_listed : PartsAreListed
parts_are_listed universe u low high supplied =
    enumerated.filtered PartBefore (IsSplit universe u) (has_length low high) (splits u) (splits_are_listed universe u supplied)
