-- What comes later than a list of components.
use Rattle.std.proofs.Common.{◌≡◌, ℕ, ◌+◌, ◌<◌, true, List, [], ◌∷◌, ◌++◌, map, length, All, Bool, Option, Some, None, refl, sym, ap, ◌∙◌, subst, inl, inr, arith}
use Rattle.std.specs.Prelude.{IsTrue}
use Rattle.std.specs.Option.{option_map_or}
use Rattle.std.proofs.lemmas.List.{append_assoc, map-append}
use Rattle.std.proofs.lemmas.List.Elements.{All-filter}
use Rattle.std.proofs.lemmas.Grind.{flat_map-append}
use Rattle.lists.specs.Enumeration.{IsIn}
use Rattle.lists.proofs.Enumerated.{from_filter, from_map, from_flat_map}
use Rattle.spec_syntax.specs.declared.statement.Universe.{Universe}
use Rattle.spec_syntax.specs.Nodes.{node_at}
use Rattle.spec_syntax.specs.Expression.{Expression}
use Rattle.struct_model.specs.declared.tree.Form5.{Form5}
use Rattle.struct_model.specs.declared.tree.Shape.{Shape}
use Rattle.struct_model.specs.declared.tree.Shape.TheVariants as shape
use Rattle.struct_model.specs.StructureView.{structure_of}
use Rattle.struct_model.specs.Structure.{Structure, Tup, parts_of, key}
use Rattle.struct_model.specs.Membership.{is_supply}
use Rattle.struct_model.specs.Bounded.{listing}
use Rattle.struct_model.specs.declared.supplies.Supply.{Supply}
use Rattle.struct_model.specs.SupplyView.{supply_labels, supply_universe, is_in_order}
use Rattle.struct_model.proofs.SupplyLaws.{supply_rises}
use Rattle.well_founded.specs.Checked.{Checked, grammar}
use Rattle.splits.specs.Splits.{Split, splits}
use Rattle.splits.specs.Parts.{has_admitted, comes_before, after, IsPart}
use Rattle.splits.specs.WalkView.{Walk, split_into}
use Rattle.splits.proofs.SplitLaws.{splits_are}
use Rattle.splits.proofs.SplitSupplies.{split_length, split_supplies}
use Rattle.splits.proofs.PartLemmas.{part_in}
use Rattle.listing_laws.specs.Lister.{each_before}
use Rattle.listing_laws.specs.NodeListing.{listing_on}
use Rattle.listing_laws.proofs.Components.{list_back, same_components}
use Rattle.listing_laws.proofs.Listed.{listing_sound}
use Rattle.size_counts.specs.CountedView.{Counts, IsCounted}
use Rattle.struct_walk.specs.declared.tail.Tail.{Tail}
use Rattle.struct_walk.specs.declared.tail.Cut.{Cut}
use Rattle.struct_walk.specs.declared.later.Later as later
use Rattle.struct_walk.specs.declared.later.Later.{Later}
use Rattle.struct_walk.specs.declared.later.LaterLists as lists
use Rattle.struct_walk.specs.declared.later.LaterLists.{LaterLists}
use Rattle.struct_walk.specs.declared.later.Level.{Level}
use Rattle.struct_walk.specs.Tails.{IsTail, tail_on, on_splits, cut_of, is_end, open_lengths, first_splits, first_parts, HasFirst}
use Rattle.struct_walk.specs.After.{structures_after, lists_after, parts_after}
use Rattle.struct_walk.specs.Stands.{IsAsked, IsCut, CanOpen, LevelStands, ListsStand, PartsStand}
use Rattle.struct_walk.specs.Opened.{Resumes}
use Rattle.struct_walk.specs.Resumed.{ResumesLists}
use Rattle.struct_walk.proofs.TailLemmas.{cut_is, tail_cut, tail_end, last_first, last_splits, open_splits, can_open, first_there as first_label_there}
use Rattle.struct_walk.proofs.OpenLemmas.{asked_supply}
use Rattle.struct_walk.proofs.ResumedSplits.{split_among, same_split, first_within, first_ascend}

-- ---- shapes

-- the shape of a structure of components is that of components
pub only_components : (sh : Shape) (form : Form5) (ss : List Structure) → structure_of sh ≡ Tup form (parts_of ss) → ((f : Form5) (parts : List Structure) → sh ≡ shape.Tup f parts → ⊥) → ⊥
only_components (shape.Eps rule) form ss is left = absurd (cc)
only_components (shape.Atom rule label) form ss is left = absurd (cc)
only_components (shape.Named rule inside) form ss is left = absurd (cc)
only_components (shape.Alt argument inside) form ss is left = absurd (cc)
only_components (shape.Tup f parts) form ss is left = left f parts refl

pub not_components : (sh : Shape) (form : Form5) (lists : List (List Structure)) (whole : Structure) → structure_of sh ≡ whole
    → IsIn whole (map (λ ss. Tup form (parts_of ss)) lists) → ((f : Form5) (parts : List Structure) → sh ≡ shape.Tup f parts → ⊥) → ⊥
not_components sh form lists whole is there left =
    let found = from_map (λ ss. Tup form (parts_of ss)) whole lists there in
    only_components sh form found.0 (is ∙ found.2) left

-- ---- components in their form

-- the components of a structure of this form
pub components_in : (form other : Form5) (lists : List (List Structure)) (parts : List Structure) (whole : Structure) → Tup other (parts_of parts) ≡ whole
    → IsIn whole (map (λ ss. Tup form (parts_of ss)) lists) → IsIn parts lists × (other ≡ form)
components_in form other lists parts whole is there =
    let found = from_map (λ ss. Tup form (parts_of ss)) whole lists there in
    let same : Tup other (parts_of parts) ≡ Tup form (parts_of found.0) = is ∙ found.2 in
    let formed : other ≡ form = cc in
    let components : parts ≡ found.0 = same_components form parts found.0 (ap (λ (f : Form5). Tup f (parts_of parts)) (sym formed) ∙ same) in
    (subst (λ (ss : List Structure). IsIn ss lists) (sym components) found.1, formed)

pub components_resume : (counts : Counts) (form other : Form5) (all : List (List Structure)) (parts : List Structure) (whole : Structure) (opened now : LaterLists) (p : _)
    → Tup other (parts_of parts) ≡ whole → other ≡ form → now ≡ opened → ResumesLists counts all parts opened
    → Resumes counts (map (λ ss. Tup form (parts_of ss)) all) whole (later.Components' p now)
components_resume counts form other all parts whole opened now p is formed same resumes =
    subst (λ (s : Structure). Resumes counts (map (λ ss. Tup form (parts_of ss)) all) s (later.Components' p now)) (ap (λ (f : Form5). Tup f (parts_of parts)) (sym formed) ∙ is) (
      record {
        earlier = map (λ ss. Tup form (parts_of ss)) resumes.0.earlier;
        whole =
            ap (map (λ ss. Tup form (parts_of ss))) resumes.0.whole
            ∙ map-append (λ ss. Tup form (parts_of ss)) resumes.0.earlier (parts ∷ lists_after counts.checked opened parts)
            ∙ (λ i. map (λ ss. Tup form (parts_of ss)) resumes.0.earlier
            ++ Tup form (parts_of parts) ∷ map (λ ss. Tup form (parts_of ss)) (lists_after counts.checked (sym same i) (sym (list_back parts) i)));
      },
      subst (λ (ss : List Structure). ListsStand counts now ss) (sym (list_back parts)) (subst (λ (l : LaterLists). ListsStand counts l parts) (sym same) resumes.1),
    )

-- ---- lists

pub nested : {X : Type 0} (front mid near : List X) (x : X) (more next last : List X)
    → front ++ ((mid ++ ((near ++ x ∷ more) ++ next)) ++ last) ≡ (front ++ (mid ++ near)) ++ x ∷ (more ++ (next ++ last))
nested [] [] [] x more next last = ap (λ xs. x ∷ xs) (append_assoc more next last)
nested [] [] (y ∷ near) x more next last = ap (λ xs. y ∷ xs) (nested [] [] near x more next last)
nested [] (y ∷ mid) near x more next last = ap (λ xs. y ∷ xs) (nested [] mid near x more next last)
nested (y ∷ front) mid near x more next last = ap (λ xs. y ∷ xs) (nested front mid near x more next last)

some_there : {X : Type 0} (x : X) (xs : List X) → IsIn x xs → 0 < length xs
some_there x [] there = absurd there
some_there x (y ∷ xs) there = omega arith

-- the key of a structure of a node is the supply
pub node_key : (checked : Checked) (node : ℕ) (u : List ℕ) (s : Structure) → IsIn s (listing_on checked node u) → key s ≡ u
node_key checked node u s there = by (node_at checked.rules node) there
  where
    by : (o : Option Expression) → IsIn s (option_map_or (λ e. listing (grammar checked) e u) o []) → key s ≡ u
    by None there = absurd there
    by (Some e) there = (listing_sound (grammar checked) e u s there).1

module _ (counts : Counts) (is : IsCounted counts) (tail : Tail) (supply : Supply) (stands : IsTail counts tail) (asked : IsAsked counts supply) (ss : List Structure)
    (one : IsIn ss (tail_on counts.checked tail (supply_labels supply))) where
  abbrev pub labels : List ℕ
  labels = supply_labels supply

  supplied : is_supply counts.checked.universe (supply_labels supply) ≡ true
  supplied = asked_supply counts supply asked

  some : 0 < length (tail_on counts.checked tail (supply_labels supply))
  some = some_there ss (tail_on counts.checked tail (supply_labels supply)) one

  -- where no list has a component, nothing comes later
  pub end_resumes : cut_of counts.checked tail (length (supply_labels supply)) ≡ None → ResumesLists counts (tail_on counts.checked tail (supply_labels supply)) ss lists.Nothing
  end_resumes none =
      let only = tail_end counts is tail labels stands supplied none some in
      let empty : ss ≡ [] = elim (subst (λ (all : List (List Structure)). IsIn ss all) only one) [ inl here ↦ here | inr there ↦ absurd there ] in
      (record { earlier = []; whole = only ∙ ap (λ ss. ss ∷ []) (sym empty) }, empty)

  module _ (cut : Cut) (cuts : cut_of counts.checked tail (length (supply_labels supply)) ≡ Some cut) where
    pub cut_stands : IsCut counts cut
    cut_stands = cut_is counts is tail (length labels) cut stands cuts

    -- where the first component has the least label there is one
    pub label_there : HasFirst tail supply
    label_there = first_label_there counts is tail supply (length labels) cut asked.universe refl stands cuts

    -- ---- the split of the first component

    abbrev pub to_come : List Split
    to_come = first_parts tail (open_lengths counts.checked cut (length labels)) labels

    pub by_splits : tail_on counts.checked tail labels ≡ on_splits counts.checked cut to_come
    by_splits = tail_cut counts is tail labels cut stands supplied cuts some ∙ sym (open_splits counts is tail cut labels cut_stands supplied)

    pub record IsSplitAt : Type 0 where
      pub split : Split
      pub there : IsIn split (first_parts tail (open_lengths counts.checked cut (length (supply_labels supply))) (supply_labels supply))
      pub first : Structure
      pub others : List Structure
      pub is_list : ss ≡ first ∷ others
      pub firsts : IsIn first (listing_on counts.checked cut.first split.part)
      pub behind : IsIn others (tail_on counts.checked cut.behind split.rest)

    pub split_at : IsSplitAt
    split_at =
        let found = from_flat_map (λ (split : Split). each_before (listing_on counts.checked cut.first split.part) (tail_on counts.checked cut.behind split.rest)) to_come ss
        (subst (λ (all : List (List Structure)). IsIn ss all) by_splits one) in
        let chosen = from_flat_map (λ (first : Structure). map (λ rest. first ∷ rest) (tail_on counts.checked cut.behind found.0.rest)) (listing_on counts.checked cut.first found.0.part) ss found.2 in
        let put = from_map (λ (rest : List Structure). chosen.0 ∷ rest) ss (tail_on counts.checked cut.behind found.0.rest) chosen.2 in
        record { split = found.0; there = found.1; first = chosen.0; others = put.0; is_list = put.2; firsts = chosen.1; behind = put.1 }

    -- there is a component
    pub some_component : 0 < length ss
    some_component = omega (arith, ap length split_at.is_list)

    -- ---- the component, and those behind it

    module _ (c : Structure) (more : List Structure) (cuts_off : ss ≡ c ∷ more) where
      same_first : split_at.first ≡ c
      same_first = let same : split_at.first ∷ split_at.others ≡ c ∷ more = sym split_at.is_list ∙ cuts_off in cc

      same_others : split_at.others ≡ more
      same_others = let same : split_at.first ∷ split_at.others ≡ c ∷ more = sym split_at.is_list ∙ cuts_off in cc

      component_there : IsIn c (listing_on counts.checked cut.first split_at.split.part)
      component_there = subst (λ (s : Structure). IsIn s (listing_on counts.checked cut.first split_at.split.part)) same_first split_at.firsts

      others_there : IsIn more (tail_on counts.checked cut.behind split_at.split.rest)
      others_there = subst (λ (rest : List Structure). IsIn rest (tail_on counts.checked cut.behind split_at.split.rest)) same_others split_at.behind

      -- ---- the last component

      module _ (ends : is_end counts.checked cut.behind ≡ true) where
        alone : tail_on counts.checked tail (supply_labels supply) ≡ map (λ s. s ∷ []) (listing_on counts.checked cut.first (supply_labels supply))
        alone =
            tail_cut counts is tail labels cut stands supplied cuts some
            ∙ ap (on_splits counts.checked cut) (last_first counts is tail (length labels) cut labels cuts ends)
            ∙ last_splits counts is cut labels cut_stands ends

        last_found : (s : Structure) × IsIn s (listing_on counts.checked cut.first (supply_labels supply)) × (ss ≡ s ∷ [])
        last_found = from_map (λ (s : Structure). s ∷ []) ss (listing_on counts.checked cut.first (supply_labels supply)) (subst (λ (all : List (List Structure)). IsIn ss all) alone one)

        pub last_there : IsIn c (listing_on counts.checked cut.first (supply_labels supply))
        last_there =
            let same : last_found.0 ∷ [] ≡ c ∷ more = sym last_found.2 ∙ cuts_off in
            let first : last_found.0 ≡ c = cc in
            subst (λ (s : Structure). IsIn s (listing_on counts.checked cut.first (supply_labels supply))) first last_found.1

        pub none_behind : more ≡ []
        none_behind = let same : last_found.0 ∷ [] ≡ c ∷ more = sym last_found.2 ∙ cuts_off in cc

        pub last_resumes : (inner : Later) → Resumes counts (listing_on counts.checked cut.first (supply_labels supply)) c inner
            → ResumesLists counts (tail_on counts.checked tail (supply_labels supply)) ss (lists.Last inner)
        last_resumes inner resumes =
            subst (λ (now : List Structure). ResumesLists counts (tail_on counts.checked tail (supply_labels supply)) now (lists.Last inner)) (sym cuts_off) (
              record {
                earlier = map (λ s. s ∷ []) resumes.0.earlier;
                whole =
                    alone
                    ∙ ap (map (λ s. s ∷ [])) resumes.0.whole
                    ∙ map-append (λ s. s ∷ []) resumes.0.earlier (c ∷ structures_after counts.checked inner c)
                    ∙ ap (λ behind. map (λ s. s ∷ []) resumes.0.earlier ++ (c ∷ behind) ∷ map (λ s. s ∷ []) (structures_after counts.checked inner c)) (sym none_behind);
              },
              (resumes.1, none_behind),
            )

      -- ---- a component before others

      part_is : split_at.split.part ≡ key c
      part_is = sym (node_key counts.checked cut.first split_at.split.part c component_there)

      split_there : IsIn split_at.split (splits (supply_labels supply))
      split_there = first_within tail labels split_at.split (from_filter (has_admitted (open_lengths counts.checked cut (length labels))) split_at.split (first_splits tail labels) split_at.there).0

      both_supplied : IsTrue (is_supply counts.checked.universe split_at.split.part) × IsTrue (is_supply counts.checked.universe split_at.split.rest)
      both_supplied = split_supplies counts.checked.universe labels supplied split_at.split ((splits_are labels (supply_rises counts.checked.universe labels supplied)).sound split_at.split split_there)

      -- its labels are a supply
      pub key_supplied : IsTrue (is_supply (supply_universe supply) (key c))
      key_supplied =
          subst (λ (universe : Universe). is_supply universe (key c) ≡ true) (sym asked.universe) (subst (λ (part : List ℕ). is_supply counts.checked.universe part ≡ true) part_is both_supplied.0)

      module _ (part : Supply) (part_labels : supply_labels part ≡ key c) where
        pub same_part : split_at.split.part ≡ supply_labels part
        same_part = part_is ∙ sym part_labels

        -- they are the part of a split
        pub part_there : IsPart (supply_labels part) (splits (supply_labels supply))
        part_there = subst (λ (p : List ℕ). IsPart p (splits labels)) same_part (part_in (splits labels) split_at.split split_there)

        pub part_admitted : (n : ℕ) (marks : List Bool) → n ≡ length (supply_labels supply) → marks ≡ open_lengths counts.checked cut n
            → IsPart (supply_labels part) (first_parts tail marks (supply_labels supply))
        part_admitted n marks long lengths =
            subst (λ (p : List ℕ). IsPart p (first_parts tail marks labels)) same_part
            (subst (λ (ls : List Bool). IsPart split_at.split.part (first_parts tail ls labels)) (sym (lengths ∙ ap (open_lengths counts.checked cut) long)) (part_in to_come split_at.split split_at.there))

        pub first_there : IsIn c (listing_on counts.checked cut.first (supply_labels part))
        first_there = subst (λ (p : List ℕ). IsIn c (listing_on counts.checked cut.first p)) same_part component_there

        pub part_total : length split_at.split.part + length split_at.split.rest ≡ length (supply_labels supply)
        part_total = split_length labels split_at.split split_there

        pub first_asked : IsTrue (is_in_order part) → supply_universe part ≡ supply_universe supply → IsAsked counts part
        first_asked in_order universe = record {
          in_order = in_order;
          universe = universe ∙ asked.universe;
          within = omega (arith, part_total, asked.within, ap length same_part);
        }

        module _ (rest : Supply) (remains : IsIn (split_into part rest) (splits (supply_labels supply))) where
          same_rest : split_at.split ≡ split_into part rest
          same_rest = same_split split_at.split (split_into part rest) (splits labels) (splits_are labels (supply_rises counts.checked.universe labels supplied)).ascends split_there remains same_part

          pub rest_there : IsIn more (tail_on counts.checked cut.behind (supply_labels rest))
          rest_there = subst (λ (split : Split). IsIn more (tail_on counts.checked cut.behind split.rest)) same_rest others_there

          pub rest_asked : IsTrue (is_in_order rest) → supply_universe rest ≡ supply_universe supply → IsAsked counts rest
          rest_asked in_order universe = record {
            in_order = in_order;
            universe = universe ∙ asked.universe;
            within = omega (arith, part_total, asked.within, ap (λ (split : Split). length split.rest) same_rest);
          }

          pub among : (earlier : List Split)
              × (first_parts tail (open_lengths counts.checked cut (length (supply_labels supply))) (supply_labels supply)
              ≡ earlier ++ split_into part rest ∷ after (supply_labels part) (first_parts tail (open_lengths counts.checked cut (length (supply_labels supply))) (supply_labels supply)))
          among =
              split_among (split_into part rest) to_come (first_ascend tail (open_lengths counts.checked cut (length labels)) labels (supply_rises counts.checked.universe labels supplied))
              (subst (λ (split : Split). IsIn split to_come) same_rest split_at.there)

          module _ (n : ℕ) (marks : List Bool) (long : n ≡ length (supply_labels supply)) (lengths : marks ≡ open_lengths counts.checked cut n) (walk : Walk) (copied : Supply) (level : Level)
              (left : walk.left ≡ after (supply_labels part) (first_parts tail marks (supply_labels supply))) (universe : walk.universe ≡ supply_universe supply) (copy : copied ≡ rest)
              (same_level : level ≡ record { cut = cut; rest = copied; splits = walk }) (of_rest : IsAsked counts rest) where
            same_left : walk.left ≡ after (supply_labels part) (first_parts tail (open_lengths counts.checked cut (length (supply_labels supply))) (supply_labels supply))
            same_left = left ∙ ap (λ (ls : List Bool). after (supply_labels part) (first_parts tail ls labels)) (lengths ∙ ap (open_lengths counts.checked cut) long)

            pub level_stands : LevelStands counts level
            level_stands = subst (λ (l : Level). LevelStands counts l) (sym same_level) (record {
              cut = cut_stands;
              asked = subst (λ (s : Supply). IsAsked counts s) (sym copy) of_rest;
              some = subst (λ (s : Supply). 0 < length (tail_on counts.checked cut.behind (supply_labels s))) (sym copy)
                  (some_there more (tail_on counts.checked cut.behind (supply_labels rest)) rest_there);
              universe = universe ∙ asked.universe;
              splits = subst (All (CanOpen counts cut)) (sym same_left)
                  (All-filter (λ (split : Split). comes_before (supply_labels part) split.part) (CanOpen counts cut) to_come (can_open counts is tail cut labels cut_stands supplied asked.within));
            })

            module _ (first : Later) (others others_now : LaterLists) (same_later : others_now ≡ others)
                (first_resumes : Resumes counts (listing_on counts.checked cut.first (supply_labels part)) c first)
                (others_resume : ResumesLists counts (tail_on counts.checked cut.behind (supply_labels rest)) more others) where
              abbrev firsts : List Structure
              firsts = structures_after counts.checked first c

              abbrev behind : List (List Structure)
              behind = tail_on counts.checked cut.behind (supply_labels rest)

              on_split : each_before (listing_on counts.checked cut.first (supply_labels part)) (tail_on counts.checked cut.behind (supply_labels rest))
                  ≡ each_before first_resumes.0.earlier behind
                  ++ ((map (λ ts. c ∷ ts) others_resume.0.earlier ++ (c ∷ more) ∷ map (λ ts. c ∷ ts) (lists_after counts.checked others more)) ++ each_before firsts behind)
              on_split =
                  ap (λ fs. each_before fs behind) first_resumes.0.whole
                  ∙ flat_map-append (λ (s : Structure). map (λ ts. s ∷ ts) behind) first_resumes.0.earlier (c ∷ firsts)
                  ∙ ap (λ bs. each_before first_resumes.0.earlier behind ++ (bs ++ each_before firsts behind))
                  (ap (map (λ ts. c ∷ ts)) others_resume.0.whole ∙ map-append (λ ts. c ∷ ts) others_resume.0.earlier (more ∷ lists_after counts.checked others more))

              all_are : tail_on counts.checked tail (supply_labels supply)
                  ≡ (on_splits counts.checked cut among.0 ++ (each_before first_resumes.0.earlier behind ++ map (λ ts. c ∷ ts) others_resume.0.earlier))
                  ++ (c ∷ more) ∷ (map (λ ts. c ∷ ts) (lists_after counts.checked others more) ++ (each_before firsts behind ++ on_splits counts.checked cut walk.left))
              all_are =
                  by_splits
                  ∙ ap (on_splits counts.checked cut) among.1
                  ∙ flat_map-append (λ (split : Split). each_before (listing_on counts.checked cut.first split.part) (tail_on counts.checked cut.behind split.rest)) among.0
                  (split_into part rest ∷ after (supply_labels part) to_come)
                  ∙ (λ i. on_splits counts.checked cut among.0 ++ (on_split i ++ on_splits counts.checked cut (sym same_left i)))
                  ∙ nested (on_splits counts.checked cut among.0) (each_before first_resumes.0.earlier behind) (map (λ ts. c ∷ ts) others_resume.0.earlier) (c ∷ more)
                  (map (λ ts. c ∷ ts) (lists_after counts.checked others more)) (each_before firsts behind) (on_splits counts.checked cut walk.left)

              level_are : map (λ ts. c ∷ ts) (lists_after counts.checked others more) ++ (each_before firsts behind ++ on_splits counts.checked cut walk.left)
                  ≡ parts_after counts.checked level first others_now (c ∷ more)
              level_are =
                  (λ i. map (λ ts. c ∷ ts) (lists_after counts.checked (sym same_later i) more)
                  ++ (each_before firsts (tail_on counts.checked cut.behind (supply_labels (sym copy i))) ++ on_splits counts.checked cut walk.left))
                  ∙ ap (λ (l : Level). parts_after counts.checked l first others_now (c ∷ more)) (sym same_level)

              pub parts_resume : (later : LaterLists) → lists_after counts.checked later (c ∷ more) ≡ parts_after counts.checked level first others_now (c ∷ more)
                  → (LevelStands counts level × PartsStand counts first others_now (c ∷ more) → ListsStand counts later (c ∷ more))
                  → ResumesLists counts (tail_on counts.checked tail (supply_labels supply)) ss later
              parts_resume later same stand =
                  subst (λ (now : List Structure). ResumesLists counts (tail_on counts.checked tail (supply_labels supply)) now later) (sym cuts_off) (
                    record {
                      earlier = on_splits counts.checked cut among.0 ++ (each_before first_resumes.0.earlier behind ++ map (λ ts. c ∷ ts) others_resume.0.earlier);
                      whole =
                          all_are
                          ∙ ap (λ lists.
                          (on_splits counts.checked cut among.0 ++ (each_before first_resumes.0.earlier behind ++ map (λ ts. c ∷ ts) others_resume.0.earlier)) ++ (c ∷ more) ∷ lists)
                          (level_are ∙ sym same);
                    },
                    stand (level_stands, (first_resumes.1, subst (λ (l : LaterLists). ListsStand counts l more) (sym same_later) others_resume.1)),
                  )
