-- A step within a structure, as one of the whole.
use Rattle.std.proofs.Common.{◌≡◌, ◌⊎◌, ℕ, ◌<◌, ◌^◌, Bool, true, false, List, [], ◌∷◌, ◌++◌, map, drop, take, length, Result, IfOk, refl, sym, ap, ◌∙◌, subst, inl, inr}
use Rattle.std.proofs.lemmas.List.{append-nil, take-append-drop}
use Rattle.std.proofs.lemmas.Result.{IfOk-weaker}
use Rattle.lists.specs.Enumeration.{IsIn}
use Rattle.lists.proofs.Within.{in_left}
use Rattle.lists.proofs.Enumerated.{in_map}
use Rattle.struct_model.specs.declared.tree.Form5.{Form5}
use Rattle.struct_model.specs.declared.tree.Shape.{Shape}
use Rattle.struct_model.specs.declared.tree.Shape.TheVariants as shape
use Rattle.struct_model.specs.StructureView.{structure_of}
use Rattle.struct_model.specs.declared.supplies.Supply.{Supply}
use Rattle.struct_model.specs.Structure.{Structure, Eps, Atom, Named, Alt, Tup, part_list, parts_of, size, labels_of_parts}
use Rattle.struct_model.specs.SupplyView.{supply_labels}
use Rattle.well_founded.specs.Checked.{Checked}
use Rattle.listing_laws.proofs.Components.{list_back}
use Rattle.size_counts.specs.CountedView.{Counts}
use Rattle.struct_walk.specs.declared.later.Later as later
use Rattle.struct_walk.specs.declared.later.Later.{Later}
use Rattle.struct_walk.specs.declared.later.LaterLists as lists
use Rattle.struct_walk.specs.declared.later.LaterLists.{LaterLists}
use Rattle.struct_walk.specs.declared.later.LaterSorted.{LaterSorted}
use Rattle.struct_walk.specs.After.{arguments_behind, structures_after, lists_after, sorted_after}
use Rattle.struct_walk.specs.Stands.{CanGoOn, Stands, ListsStand, SortedStand, AreSmall, AreSmallLists}
use Rattle.struct_walk.specs.Opened.{Opens, Next, NextSorted, ListsStepOn, ListsEnd, SortedStepOn, SortedEnd}

-- each of these structures has fewer than 2^32 atoms, where each in a form has so many
small_within : (form : Structure → Structure) (ss : List Structure) → ((s : Structure) → size (form s) ≡ size s) → AreSmall (map form ss) → AreSmall ss
small_within form ss same small s there = subst (λ (n : ℕ). n < 2 ^ 32) (same s) (small (form s) (in_map form s ss there))

small_first : (ss ts : List Structure) → AreSmall (ss ++ ts) → AreSmall ss
small_first ss ts small s there = small s (in_left s ss ts there)

small_parts : (form : Form5) (lists : List (List Structure)) → AreSmall (map (λ ss. Tup form (parts_of ss)) lists) → AreSmallLists lists
small_parts form lists small ss there = small (Tup form (parts_of ss)) (in_map (λ ss. Tup form (parts_of ss)) ss lists there)

-- ---- rules

-- what comes later than a structure of a rule comes later inside
pub named_after : (checked : Checked) (later : Later) (number : ℕ) (s : Structure)
    → structures_after checked later (Named number s) ≡ map (Named number) (structures_after checked later s)
named_after checked later.Nothing number s = refl
named_after checked (later.Argument' node supply p inner) number s = refl
named_after checked (later.Components' p inner) number s = refl
named_after checked (later.Sorted' p inner) number s = refl

module _ (counts : Counts) (number : ℕ) where
  pub named_stands : (later : Later) (s : Structure) → Stands counts later s → Stands counts later (Named number s)
  named_stands later.Nothing s stands = stands
  named_stands (later.Argument' node supply p inner) s stands = stands
  named_stands (later.Components' p inner) s stands = stands
  named_stands (later.Sorted' p inner) s stands = stands

  stands_inside : (later : Later) (s : Structure) → Stands counts later (Named number s) → Stands counts later s
  stands_inside later.Nothing s stands = stands
  stands_inside (later.Argument' node supply p inner) s stands = stands
  stands_inside (later.Components' p inner) s stands = stands
  stands_inside (later.Sorted' p inner) s stands = stands

  -- what a step needs, for the step within the rule
  pub within_rule : (later : Later) (whole inside now : Structure) → Named number inside ≡ whole → now ≡ inside → Stands counts later whole
      → AreSmall (structures_after counts.checked later whole)
      → Stands counts later now × AreSmall (structures_after counts.checked later now)
  within_rule later whole inside now is same stands small =
      subst (λ (s : Structure). Stands counts later s × AreSmall (structures_after counts.checked later s)) (sym same) (
        stands_inside later inside (subst (λ (s : Structure). Stands counts later s) (sym is) stands),
        small_within (Named number) (structures_after counts.checked later inside) (λ _. refl)
            (subst (λ ss. AreSmall ss) (named_after counts.checked later number inside) (subst (λ (s : Structure). AreSmall (structures_after counts.checked later s)) (sym is) small)),
      )

  named_next : (old new : Later) (s t : Structure) (stepped : Bool) → Next counts (structures_after counts.checked old s) new t stepped
      → Next counts (structures_after counts.checked old (Named number s)) new (Named number t) stepped
  named_next old new s t true next = (
    named_after counts.checked old number s ∙ ap (map (Named number)) next.0 ∙ ap (λ ss. Named number t ∷ ss) (sym (named_after counts.checked new number t)),
    named_stands new t next.1,
  )
  named_next old new s t false none = named_after counts.checked old number s ∙ ap (map (Named number)) none

  pub named_stepped : {E : Type 0} (old new : Later) (whole inside now t : Structure) (r : Result Bool E) → Named number inside ≡ whole → now ≡ inside
      → IfOk r (Next counts (structures_after counts.checked old now) new t) → IfOk r (Next counts (structures_after counts.checked old whole) new (Named number t))
  named_stepped old new whole inside now t r is same steps =
      subst (λ (s : Structure). IfOk r (Next counts (structures_after counts.checked old s) new (Named number t))) (ap (Named number) same ∙ is)
      (IfOk-weaker r (Next counts (structures_after counts.checked old now) new t) (Next counts (structures_after counts.checked old (Named number now)) new (Named number t))
      (named_next old new now t) steps)

  pub named_opens : (all : List Structure) (later : Later) (s : Structure) → Opens counts all (later, s) → Opens counts (map (Named number) all) (later, Named number s)
  named_opens all later s opens = record {
    whole = ap (map (Named number)) opens.whole ∙ ap (λ ss. Named number s ∷ ss) (sym (named_after counts.checked later number s));
    stands = named_stands later s opens.stands;
  }

-- nothing comes later than a word
epsilon_after : (checked : Checked) (later : Later) (rule : ℕ) → structures_after checked later (Eps rule) ≡ []
epsilon_after checked later.Nothing rule = refl
epsilon_after checked (later.Argument' node supply p inner) rule = refl
epsilon_after checked (later.Components' p inner) rule = refl
epsilon_after checked (later.Sorted' p inner) rule = refl

atom_after : (checked : Checked) (later : Later) (rule label : ℕ) → structures_after checked later (Atom rule label) ≡ []
atom_after checked later.Nothing rule label = refl
atom_after checked (later.Argument' node supply p inner) rule label = refl
atom_after checked (later.Components' p inner) rule label = refl
atom_after checked (later.Sorted' p inner) rule label = refl

pub word_after : (checked : Checked) (later : Later) (at : Shape) (s : Structure) → structure_of at ≡ s
    → ((rule : ℕ) × at ≡ shape.Eps rule) ⊎ ((rule : ℕ) × (label : ℕ) × at ≡ shape.Atom rule label) → structures_after checked later s ≡ []
word_after checked later at s same (inl (rule, is)) = ap (structures_after checked later) (sym same ∙ ap structure_of is) ∙ epsilon_after checked later rule
word_after checked later at s same (inr (rule, label, is)) = ap (structures_after checked later) (sym same ∙ ap structure_of is) ∙ atom_after checked later rule label

-- ---- arguments

module _ (counts : Counts) (whole : Later) (node : ℕ) (supply : Supply) (p : _) (inner : Later) (is : whole ≡ later.Argument' node supply p inner) (k : ℕ) (s : Structure) where
  pub argument_stands : Stands counts whole (Alt k s) → Stands counts inner s × CanGoOn counts node supply
  argument_stands stands = subst (λ (w : Later). Stands counts w (Alt k s)) is stands

  pub argument_small : AreSmall (structures_after counts.checked whole (Alt k s)) → AreSmall (structures_after counts.checked inner s)
  argument_small small =
      small_within (Alt k) (structures_after counts.checked inner s) (λ _. refl)
      (small_first (map (Alt k) (structures_after counts.checked inner s)) (arguments_behind counts.checked node k (supply_labels supply))
      (subst (λ (w : Later). AreSmall (structures_after counts.checked w (Alt k s))) is small))

-- ---- components

module _ (counts : Counts) (whole : Later) (p : _) (inner now : LaterLists) (is : whole ≡ later.Components' p inner) (same : now ≡ inner) (form : Form5) (cs held : List Structure) (kept : held ≡ cs) where
  told : part_list (parts_of cs) ≡ held
  told = list_back cs ∙ sym kept

  is_now : whole ≡ later.Components' p now
  is_now = is ∙ ap (λ (l : LaterLists). later.Components' p l) (sym same)

  lists_are : structures_after counts.checked whole (Tup form (parts_of cs)) ≡ map (λ ss. Tup form (parts_of ss)) (lists_after counts.checked now held)
  lists_are =
      ap (λ (w : Later). structures_after counts.checked w (Tup form (parts_of cs))) is_now
      ∙ ap (λ (ss : List Structure). map (λ ss. Tup form (parts_of ss)) (lists_after counts.checked now ss)) told

  pub components_small : AreSmall (structures_after counts.checked whole (Tup form (parts_of cs))) → AreSmallLists (lists_after counts.checked now held)
  components_small small = small_parts form (lists_after counts.checked now held) (subst (λ ss. AreSmall ss) lists_are small)

  pub components_stand : Stands counts whole (Tup form (parts_of cs)) → ListsStand counts now held
  components_stand stands =
      subst (λ (ss : List Structure). ListsStand counts now ss) told (subst (λ (w : Later). Stands counts w (Tup form (parts_of cs))) is_now stands)

  pub components_next : (q : _) (new : LaterLists) (after : List Structure) → ListsStepOn counts 0 now held new after
      → Next counts (structures_after counts.checked whole (Tup form (parts_of cs))) (later.Components' q new) (Tup form (parts_of after)) true
  components_next q new after steps = (
    lists_are
        ∙ ap (map (λ ss. Tup form (parts_of ss))) steps.next
        ∙ ap (λ (ss : List Structure). Tup form (parts_of after) ∷ map (λ ss. Tup form (parts_of ss)) (lists_after counts.checked new ss)) (sym (list_back after)),
    subst (λ (ss : List Structure). ListsStand counts new ss) (sym (list_back after)) steps.stands,
  )

  pub components_end : (after : List Structure) → ListsEnd counts 0 now held after → structures_after counts.checked whole (Tup form (parts_of cs)) ≡ []
  components_end after ends = lists_are ∙ ap (map (λ ss. Tup form (parts_of ss))) ends.none

  -- the components that come next have few atoms
  pub components_few : (new : LaterLists) (after : List Structure) → AreSmall (structures_after counts.checked whole (Tup form (parts_of cs))) → ListsStepOn counts 0 now held new after
      → length (labels_of_parts (parts_of after)) < 2 ^ 32
  components_few new after small steps = components_small small after (subst (λ (lists : List (List Structure)). IsIn after lists) (sym steps.next) (inl refl))

-- where nothing comes later, no component stands from the place on
pub ended : (counts : Counts) (whole : LaterLists) (place : ℕ) (ss : List Structure) → whole ≡ lists.Nothing → ListsStand counts whole (drop place ss)
    → ListsEnd counts place whole ss ss
ended counts whole place ss is stand = record {
  kept =
      let none : drop place ss ≡ [] = subst (λ (w : LaterLists). ListsStand counts w (drop place ss)) is stand in
      sym (take-append-drop place ss) ∙ ap (λ rest. take place ss ++ rest) none ∙ append-nil (take place ss);
  none = ap (λ (w : LaterLists). lists_after counts.checked w (drop place ss)) is;
}

-- ---- sorted components

module _ (counts : Counts) (whole : Later) (p : _) (inner now : LaterSorted) (is : whole ≡ later.Sorted' p inner) (same : now ≡ inner) (form : Form5) (cs : List Structure) where
  now_sorted : whole ≡ later.Sorted' p now
  now_sorted = is ∙ ap (λ (l : LaterSorted). later.Sorted' p l) (sym same)

  sorted_are : structures_after counts.checked whole (Tup form (parts_of cs)) ≡ map (λ ss. Tup form (parts_of ss)) (sorted_after counts.checked now cs)
  sorted_are =
      ap (λ (w : Later). structures_after counts.checked w (Tup form (parts_of cs))) now_sorted
      ∙ ap (λ (ss : List Structure). map (λ ss. Tup form (parts_of ss)) (sorted_after counts.checked now ss)) (list_back cs)

  pub set_small : AreSmall (structures_after counts.checked whole (Tup form (parts_of cs))) → AreSmallLists (sorted_after counts.checked now cs)
  set_small small = small_parts form (sorted_after counts.checked now cs) (subst (λ ss. AreSmall ss) sorted_are small)

  pub set_stands : Stands counts whole (Tup form (parts_of cs)) → SortedStand counts now cs
  set_stands stands =
      subst (λ (ss : List Structure). SortedStand counts now ss) (list_back cs) (subst (λ (w : Later). Stands counts w (Tup form (parts_of cs))) now_sorted stands)

  pub set_next : (q : _) (new : LaterSorted) (after : List Structure) (stepped : Bool) → NextSorted counts (sorted_after counts.checked now cs) new after stepped
      → Next counts (structures_after counts.checked whole (Tup form (parts_of cs))) (later.Sorted' q new) (Tup form (parts_of after)) stepped
  set_next q new after true steps = (
    sorted_are
        ∙ ap (map (λ ss. Tup form (parts_of ss))) steps.0
        ∙ ap (λ (ss : List Structure). Tup form (parts_of after) ∷ map (λ ss. Tup form (parts_of ss)) (sorted_after counts.checked new ss)) (sym (list_back after)),
    subst (λ (ss : List Structure). SortedStand counts new ss) (sym (list_back after)) steps.1,
  )
  set_next q new after false none = sorted_are ∙ ap (map (λ ss. Tup form (parts_of ss))) none

-- all components from the first one on
module _ (counts : Counts) (old : LaterSorted) (held before : List Structure) (same : held ≡ before) (new : LaterSorted) (after : List Structure) where
  pub set_steps : SortedStepOn counts 0 old held new after → NextSorted counts (sorted_after counts.checked old before) new after true
  set_steps steps = (ap (sorted_after counts.checked old) (sym same) ∙ steps.next, steps.stands)

  pub set_ends : SortedEnd counts 0 old held after → sorted_after counts.checked old before ≡ []
  set_ends ends = ap (sorted_after counts.checked old) (sym same) ∙ ends.none

  -- they have few atoms
  pub set_few : AreSmallLists (sorted_after counts.checked old before) → SortedStepOn counts 0 old held new after → length (labels_of_parts (parts_of after)) < 2 ^ 32
  set_few small steps = small after (subst (λ (lists : List (List Structure)). IsIn after lists) (sym (set_steps steps).0) (inl refl))
