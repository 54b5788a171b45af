-- A step on the last component of a list.
use Rattle.std.proofs.Common.{◌≡◌, ℕ, ◌≤◌, ◌^◌, ◌<◌, List, [], ◌∷◌, ◌++◌, map, take, drop, length, sym, ap, ◌∙◌, subst, arith}
use Rattle.std.proofs.lemmas.List.{length-append, length-take-le, take-append-drop}
use Rattle.lists.specs.Enumeration.{IsIn}
use Rattle.lists.proofs.Enumerated.{in_map}
use Rattle.struct_model.specs.Structure.{Structure, labels}
use Rattle.size_counts.specs.CountedView.{Counts}
use Rattle.struct_walk.specs.declared.later.Later.{Later}
use Rattle.struct_walk.specs.declared.later.LaterLists as lists
use Rattle.struct_walk.specs.declared.later.LaterLists.{LaterLists}
use Rattle.struct_walk.specs.After.{structures_after, lists_after}
use Rattle.struct_walk.specs.Stands.{Stands, ListsStand, AreSmall, AreSmallLists}
use Rattle.struct_walk.proofs.StepParts.{last_same}

-- the one component that stands from the place on
record StandsAlone (counts : Counts) (inner : Later) (ss : List Structure) : Type 0 where
  s : Structure
  alone : ss ≡ s ∷ []
  stands : Stands counts inner s

stands_alone : (counts : Counts) (inner : Later) (ss : List Structure) → ListsStand counts (lists.Last inner) ss → StandsAlone counts inner ss
stands_alone counts inner [] stand = absurd stand
stands_alone counts inner (s ∷ ss) stand = record { s = s; alone = ap (λ more. s ∷ more) stand.1; stands = stand.0 }

module _ (counts : Counts) (whole : LaterLists) (inner : Later) (is : whole ≡ lists.Last inner) (before : List Structure) (place : ℕ) (within : place ≤ length before)
    (stand : ListsStand counts whole (drop place before)) where
  one : StandsAlone counts inner (drop place before)
  one = stands_alone counts inner (drop place before) (subst (λ w. ListsStand counts w (drop place before)) is stand)

  to_last : before ≡ take place before ++ one.s ∷ []
  to_last = sym (take-append-drop place before) ∙ ap (λ ss. take place before ++ ss) one.alone

  -- it is taken off
  module _ (popped : List Structure) (component : Structure) (taken : before ≡ popped ++ component ∷ []) where
    front : (popped ≡ take place before) × (component ≡ one.s)
    front = last_same popped (take place before) component one.s (sym taken ∙ to_last)

    popped_long : length popped ≡ place
    popped_long = ap length front.0 ∙ length-take-le place before within

    pub from_place : drop place before ≡ component ∷ []
    from_place = one.alone ∙ ap (λ s. s ∷ []) (sym front.1)

    later_are : lists_after counts.checked whole (drop place before) ≡ map (λ t. t ∷ []) (structures_after counts.checked inner component)
    later_are = λ i. lists_after counts.checked (is i) (from_place i)

    pub last_stands : Stands counts inner component
    last_stands = subst (λ s. Stands counts inner s) (sym front.1) one.stands

    pub last_small : AreSmallLists (lists_after counts.checked whole (drop place before)) → AreSmall (structures_after counts.checked inner component)
    last_small small t there =
        let alone : IsIn (t ∷ []) (lists_after counts.checked whole (drop place before)) =
        subst (λ sss. IsIn (t ∷ []) sss) (sym later_are) (in_map (λ t. t ∷ []) t (structures_after counts.checked inner component) there) in
        let few : length (labels t ++ []) < 2 ^ 32 = small (t ∷ []) alone in
        omega (arith, length-append (labels t) [])
