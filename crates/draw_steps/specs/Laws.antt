-- The law that draws are fair.
use Rattle.std.specs.Prelude.{◌≡◌, ◌<◌, ◌≤◌, ℕ, ◌*◌, Bool, List, [], length, IsTrue, None}
use Rattle.std.specs.Option.{option_map_or}
use Rattle.std.specs.Ordering.{is_eq}
use Rattle.lists.specs.Enumeration.{IsIn}
use Rattle.struct_model.specs.Structure.{Structure}
use Rattle.struct_model.specs.Order.{order}
use Rattle.struct_model.specs.Membership.{is_supply}
use Rattle.listing_laws.specs.NodeListing.{listing_on, listing_of_rule}
use Rattle.size_counts.specs.CountedView.{Counts, IsCounted, IsReachedIn}
use Rattle.choice_laws.specs.Bits.{follow}
use Rattle.choice_laws.specs.Shares.{share}
use Rattle.choice_laws.specs.Even.{IsEnd, IsEven}
use Rattle.choice_laws.specs.Laws.{EndsWithMore}
use Rattle.draw_steps.specs.Choices.{choices, class_choices}
use Rattle.draw_steps.specs.Asked.{NoPowerSets}
use Rattle.draw_steps.specs.Draws.{member_number}
use Rattle.draw_steps.specs.Heights.{height}

-- the members of the class at the size, which are the listing of its name
abbrev pub members_of : Counts → List Structure
members_of counts = option_map_or (λ sym. listing_of_rule counts.checked sym counts.size) counts.checked.start []

-- none of the structures is as high as this
abbrev pub AreLower : ℕ → List Structure → Type 0
AreLower depth ss = (s : Structure) → IsIn s ss → height s < depth

-- is it this structure
abbrev pub is_same : Structure → Structure → Bool
is_same s t = is_eq (order s t)

-- In the choices of the class down to this depth each end holds a member, each member has the same share, one of as many as there
-- are members, and where bits lead to no member, some more bits lead to one: they end within a step.
pub record IsFair (counts : Counts) (depth : ℕ) : Type 0 where
  pub ends : (s : Structure) → IsEnd s (class_choices counts depth) → IsIn s (members_of counts)
  pub shares : (s : Structure) → IsIn s (members_of counts)
      → member_number counts * (share (is_same s) (class_choices counts depth)).0 ≡ (share (is_same s) (class_choices counts depth)).1
  pub positive : (s : Structure) → 0 < (share (is_same s) (class_choices counts depth)).1
  pub spent : (bits : List Bool) → follow (class_choices counts depth) bits ≡ None → EndsWithMore (class_choices counts depth) bits

-- the same from some depth of the choices on
pub record DrawsFairly (counts : Counts) : Type 0 where
  pub depth : ℕ
  pub always : (h : ℕ) → depth ≤ h → IsFair counts h

-- Where a node that the class reaches has structures with the labels of a supply, its choices are even over the listing of these,
-- down to each depth above their heights. So are the choices of a class that has members, and they are fair. All this holds
-- unless the class reaches a PowerSet without labels.
pub record DrawsAreFair : Type 0 where
  pub nodes : (counts : Counts) (node depth : ℕ) (u : List ℕ) → IsCounted counts → NoPowerSets counts → IsReachedIn counts node
      → IsTrue (is_supply counts.checked.universe u) → 0 < length (listing_on counts.checked node u) → AreLower depth (listing_on counts.checked node u)
      → IsEven (choices counts depth node u) (listing_on counts.checked node u)
  pub members : (counts : Counts) (depth : ℕ) → IsCounted counts → NoPowerSets counts → 0 < member_number counts → AreLower depth (members_of counts)
      → IsEven (class_choices counts depth) (members_of counts)
  pub fair : (counts : Counts) (depth : ℕ) → IsCounted counts → NoPowerSets counts → 0 < member_number counts → AreLower depth (members_of counts) → IsFair counts depth
  pub always : (counts : Counts) → IsCounted counts → NoPowerSets counts → 0 < member_number counts → DrawsFairly counts
