-- Lists of components on a split and on those to come.
use Rattle.std.proofs.Common.{◌≡◌, ◌<◌, List, ◌∷◌, ◌++◌, map, length, All, sym, ap, ◌∙◌, subst, arith}
use Rattle.std.specs.Prelude.{IsTrue}
use Rattle.std.proofs.lemmas.List.{append_assoc}
use Rattle.std.proofs.lemmas.List.Elements.{All-tail}
use Rattle.struct_model.specs.Structure.{Structure}
use Rattle.struct_model.specs.declared.supplies.Supply.{Supply}
use Rattle.struct_model.specs.SupplyView.{supply_labels, supply_universe, is_in_order}
use Rattle.splits.specs.Splits.{Split}
use Rattle.splits.specs.WalkView.{Walk, split_into}
use Rattle.listing_laws.specs.Lister.{each_before}
use Rattle.listing_laws.specs.NodeListing.{listing_on}
use Rattle.size_counts.specs.CountedView.{Counts}
use Rattle.struct_walk.specs.declared.later.Later.{Later}
use Rattle.struct_walk.specs.declared.later.LaterLists.{LaterLists}
use Rattle.struct_walk.specs.declared.later.Level.{Level}
use Rattle.struct_walk.specs.Tails.{tail_on, on_splits}
use Rattle.struct_walk.specs.After.{at_level, structures_after, lists_after, parts_after}
use Rattle.struct_walk.specs.Stands.{IsAsked, CanOpen, LevelStands}
use Rattle.struct_walk.specs.Opened.{OpensSplit, OpensParts}

pub holds_first : {X : Type 0} (P : X → Type 0) (x : X) (xs : List X) → All P (x ∷ xs) → P x
holds_first P x xs all = all 0 x (omega arith)

-- the first of the first components before the first list of the others, and then all that come later
pub first_at_level : (counts : Counts) (level : Level) (first : Later) (others : LaterLists) (firsts : List Structure) (s : Structure) (added : List Structure)
    → firsts ≡ s ∷ structures_after counts.checked first s → tail_on counts.checked level.cut.behind (supply_labels level.rest) ≡ added ∷ lists_after counts.checked others added
    → at_level counts.checked level firsts ≡ (s ∷ added) ∷ parts_after counts.checked level first others (s ∷ added)
first_at_level counts level first others firsts s added each_first each_other =
    ap (at_level counts.checked level) each_first
    ∙ append_assoc (map (λ rest. s ∷ rest) (tail_on counts.checked level.cut.behind (supply_labels level.rest)))
    (each_before (structures_after counts.checked first s) (tail_on counts.checked level.cut.behind (supply_labels level.rest))) (on_splits counts.checked level.cut level.splits.left)
    ∙ ap (λ lists. map (λ rest. s ∷ rest) lists ++ at_level counts.checked level (structures_after counts.checked first s)) each_other

-- the split that comes next is opened
module _ (counts : Counts) (level : Level) (stands : LevelStands counts level) (walk : Walk) (part rest : Supply) (splits : level.splits.left ≡ split_into part rest ∷ walk.left) where
  all_can : All (CanOpen counts level.cut) (split_into part rest ∷ walk.left)
  all_can = subst (λ (ss : List Split). All (CanOpen counts level.cut) ss) splits stands.splits

  pub next_can : CanOpen counts level.cut (split_into part rest)
  next_can = holds_first (CanOpen counts level.cut) (split_into part rest) walk.left all_can

  pub part_asked : IsTrue (is_in_order part) → supply_universe part ≡ level.splits.universe → IsAsked counts part
  part_asked in_order universe = record { in_order = in_order; universe = universe ∙ stands.universe; within = next_can.part }

  pub rest_asked : IsTrue (is_in_order rest) → supply_universe rest ≡ level.splits.universe → IsAsked counts rest
  rest_asked in_order universe = record { in_order = in_order; universe = universe ∙ stands.universe; within = next_can.rest }

  pub next_parts : (copied : Supply) (before after : List Structure) (first : Later) (others : LaterLists) → copied ≡ rest → walk.universe ≡ level.splits.universe → IsAsked counts rest
      → OpensSplit counts (listing_on counts.checked level.cut.first (supply_labels part)) (tail_on counts.checked level.cut.behind (supply_labels rest)) before after (first, others)
      → OpensParts counts (on_splits counts.checked level.cut level.splits.left) before (record { cut = level.cut; rest = copied; splits = walk }) first others after
  next_parts copied before after first others same universe asked opens = record {
    added = opens.first ∷ opens.added;
    put = opens.put;
    whole =
        ap (on_splits counts.checked level.cut) splits
        ∙ ap (λ (s : Supply). each_before (listing_on counts.checked level.cut.first (supply_labels part)) (tail_on counts.checked level.cut.behind (supply_labels s)) ++ on_splits counts.checked level.cut walk.left) (sym same)
        ∙ first_at_level counts (record { cut = level.cut; rest = copied; splits = walk }) first others (listing_on counts.checked level.cut.first (supply_labels part)) opens.first opens.added opens.each_first
        (ap (λ (s : Supply). tail_on counts.checked level.cut.behind (supply_labels s)) same ∙ opens.each_other);
    level_stands = record {
      cut = stands.cut;
      asked = subst (λ (s : Supply). IsAsked counts s) (sym same) asked;
      some = subst (λ (s : Supply). 0 < length (tail_on counts.checked level.cut.behind (supply_labels s))) (sym same) next_can.others;
      universe = universe ∙ stands.universe;
      splits = All-tail (CanOpen counts level.cut) (split_into part rest) walk.left all_can;
    };
    stand = (opens.first_stands, opens.others_stand);
  }
