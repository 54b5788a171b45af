-- What comes later than a structure of a word, of a rule and of a Union.
use Rattle.std.proofs.Common.{Box, Global, IfOk, Result, Ok, Err, ◌≡◌, ◌⊎◌, ℕ, zero, suc, ◌+◌, ◌-◌, ◌≤◌, ◌<◌, List, [], ◌∷◌, ◌++◌, map, length, slice_get, true, Some, refl, sym, ap, ◌∙◌, subst, inl, inr, arith}
use Rattle.std.proofs.lemmas.List.{append_assoc, map-append, length-map}
use Rattle.lists.specs.Enumeration.{IsIn}
use Rattle.lists.proofs.Within.{in_either}
use Rattle.lists.proofs.Enumerated.{from_map}
use Rattle.lists.proofs.Positions.{slice_some}
use Rattle.spec_syntax.specs.Nodes.{children_at, right_node}
use Rattle.struct_model.specs.declared.tree.Struct.{Struct}
use Rattle.struct_model.specs.declared.tree.Shape.{Shape}
use Rattle.struct_model.specs.declared.tree.Shape.TheVariants as shape
use Rattle.struct_model.specs.StructureView.{structure_of}
use Rattle.struct_model.specs.Structure.{Structure, Named, Alt}
use Rattle.struct_model.specs.declared.supplies.Supply.{Supply}
use Rattle.struct_model.specs.SupplyView.{supply_labels}
use Rattle.struct_model.specs.Membership.{is_supply}
use Rattle.well_founded.specs.Checked.{Checked, IsChecked}
use Rattle.well_founded.specs.declared.node.NodeKind.{NodeKind}
use Rattle.well_founded.specs.declared.node.NodeKind.TheVariants as told
use Rattle.listing_laws.specs.Lister.{alternatives, list_epsilon, list_atom, named}
use Rattle.listing_laws.specs.NodeListing.{HasKind, listing_on, rule_on}
use Rattle.listing_laws.proofs.NodeLemmas.{nodes_are_listed}
use Rattle.size_counts.specs.CountedView.{Counts, IsCounted}
use Rattle.struct_walk.specs.declared.later.Later as later
use Rattle.struct_walk.specs.declared.later.Later.{Later}
use Rattle.struct_walk.specs.After.{arguments_behind, argument_after, structures_after}
use Rattle.struct_walk.specs.Stands.{IsAsked, Stands}
use Rattle.struct_walk.specs.Opened.{Resumes}
use Rattle.struct_walk.proofs.StepArguments.{behind_next}
use Rattle.struct_walk.proofs.OpenLemmas.{asked_supply}
use Rattle.struct_walk.proofs.StepForms.{named_after, named_stands}

-- ---- shapes

pub not_named : (sh : Shape) (number : ℕ) (ss : List Structure) (whole : Structure) → structure_of sh ≡ whole → IsIn whole (map (Named number) ss)
    → ((rule : ℕ) (inside : Box Struct Global) → sh ≡ shape.Named rule inside → ⊥) → ⊥
not_named sh number ss whole is there left = let found = from_map (Named number) whole ss there in by sh found.0 (is ∙ found.2) left
  where
    by : (sh : Shape) (s : Structure) → structure_of sh ≡ Named number s → ((rule : ℕ) (inside : Box Struct Global) → sh ≡ shape.Named rule inside → ⊥) → ⊥
    by (shape.Eps rule) s is left = absurd (cc)
    by (shape.Atom rule label) s is left = absurd (cc)
    by (shape.Named rule inside) s is left = left rule inside refl
    by (shape.Alt argument inside) s is left = absurd (cc)
    by (shape.Tup f parts) s is left = absurd (cc)

-- ---- words

-- nothing comes later than a structure that is the only one
pub alone_resumes : (counts : Counts) (all : List Structure) (s only : Structure) → all ≡ only ∷ [] → IsIn s all → Resumes counts all s later.Nothing
alone_resumes counts all s only is there = (record { earlier = []; whole = is ∙ ap (λ t. t ∷ []) (sym same) }, tt)
  where
    same : s ≡ only
    same = elim (subst (λ (ss : List Structure). IsIn s ss) is there) [ inl here ↦ here | inr none ↦ absurd none ]

-- the same of at most one
pub few_resumes : (counts : Counts) (all : List Structure) (s : Structure) → length all ≤ 1 → IsIn s all → Resumes counts all s later.Nothing
few_resumes counts [] s few there = absurd there
few_resumes counts (only ∷ []) s few there = alone_resumes counts (only ∷ []) s only refl there
few_resumes counts (one ∷ other ∷ all) s few there = absurd (omega arith)

few_epsilon : (u : List ℕ) → length (list_epsilon u) ≤ 1
few_epsilon [] = omega arith
few_epsilon (label ∷ labels) = omega arith

few_atom : (u : List ℕ) → length (list_atom u) ≤ 1
few_atom [] = omega arith
few_atom (label ∷ []) = omega arith
few_atom (label ∷ other ∷ labels) = omega arith

-- a word has at most one structure
word_few : (checked : Checked) → IsChecked checked → (node : ℕ) (u : List ℕ) (k : NodeKind) → is_supply checked.universe u ≡ true → HasKind checked node k
    → (k ≡ told.Epsilon) ⊎ (k ≡ told.Atom) → length (listing_on checked node u) ≤ 1
word_few checked passed node u k supplied has (inl is) =
    let few = few_epsilon u in
    omega (arith, few, ap length (nodes_are_listed.epsilon checked node u passed supplied (has ∙ ap (λ kind. Some kind) is)))
word_few checked passed node u k supplied has (inr is) =
    let few = few_atom u in
    omega (arith, few, ap length (nodes_are_listed.atom checked node u passed supplied (has ∙ ap (λ kind. Some kind) is)))

module _ (counts : Counts) (is : IsCounted counts) (supply : Supply) (asked : IsAsked counts supply) (k : NodeKind) (s : Structure) where
  pub word_resumes : (node : ℕ) → HasKind counts.checked node k → (k ≡ told.Epsilon) ⊎ (k ≡ told.Atom) → IsIn s (listing_on counts.checked node (supply_labels supply))
      → Resumes counts (listing_on counts.checked node (supply_labels supply)) s later.Nothing
  word_resumes node has word there =
      few_resumes counts (listing_on counts.checked node (supply_labels supply)) s
      (word_few counts.checked is.passed node (supply_labels supply) k (asked_supply counts supply asked) has word) there

  -- the same of a rule whose right side is a word
  pub word_rule_resumes : (number : ℕ) → 1 ≤ number → number ≤ length counts.checked.rules → HasKind counts.checked (right_node counts.checked.rules number) k
      → (k ≡ told.Epsilon) ⊎ (k ≡ told.Atom) → IsIn s (rule_on counts.checked number (supply_labels supply))
      → Resumes counts (rule_on counts.checked number (supply_labels supply)) s later.Nothing
  word_rule_resumes number low high has word there =
      let few = word_few counts.checked is.passed (right_node counts.checked.rules number) (supply_labels supply) k (asked_supply counts supply asked) has word in
      let listed = nodes_are_listed.rule counts.checked number (supply_labels supply) is.passed (asked_supply counts supply asked) low high in
      few_resumes counts (rule_on counts.checked number (supply_labels supply)) s
      (omega (arith, few, ap length listed, length-map (listing_on counts.checked (right_node counts.checked.rules number) (supply_labels supply)) (named number))) there

-- ---- rules

pub named_resumes : (counts : Counts) (number : ℕ) (all : List Structure) (later : Later) (s : Structure) → Resumes counts all s later
    → Resumes counts (map (Named number) all) (Named number s) later
named_resumes counts number all later s resumes = (
  record {
    earlier = map (Named number) resumes.0.earlier;
    whole =
        ap (map (Named number)) resumes.0.whole
        ∙ map-append (Named number) resumes.0.earlier (s ∷ structures_after counts.checked later s)
        ∙ ap (λ ss. map (Named number) resumes.0.earlier ++ Named number s ∷ ss) (sym (named_after counts.checked later number s));
  },
  named_stands counts number later s resumes.1,
)

-- what stands inside the rule
pub inside_named : (number : ℕ) (ss : List Structure) (whole : Structure) → IsIn whole (map (Named number) ss) → (inside : Structure) × IsIn inside ss × (whole ≡ Named number inside)
inside_named number ss whole there = from_map (Named number) whole ss there

pub named_inside : (number other : ℕ) (ss : List Structure) (s whole : Structure) → Named other s ≡ whole → IsIn whole (map (Named number) ss) → IsIn s ss × (other ≡ number)
named_inside number other ss s whole is there =
    let found = inside_named number ss whole there in
    let same : Named other s ≡ Named number found.0 = is ∙ found.2 in
    let inside : s ≡ found.0 = cc in
    (subst (λ (t : Structure). IsIn t ss) (sym inside) found.1, cc)

-- ---- Unions

-- a structure of an argument, by the argument's number
record IsAlternative (checked : Checked) (children : List ℕ) (u : List ℕ) (k number : ℕ) (s : Structure) : Type 0 where
  low : k ≤ number
  high : number < k + length children
  inside : (child : ℕ) → slice_get children (number - k) ≡ Some child → IsIn s (listing_on checked child u)

abbrev each_listing : Checked → List ℕ → List ℕ → List (List Structure)
each_listing checked children u = map (λ child. listing_on checked child u) children

alternative_is : (checked : Checked) (children : List ℕ) (u : List ℕ) (k number : ℕ) (s : Structure) → IsIn (Alt number s) (alternatives k (each_listing checked children u))
    → IsAlternative checked children u k number s
alternative_is checked [] u k number s there = absurd there
alternative_is checked (c ∷ cs) u k number s there =
    elim (in_either (Alt number s) (map (Alt k) (listing_on checked c u)) (alternatives (k + 1) (each_listing checked cs u)) there) [
      | inl here ↦ first (from_map (Alt k) (Alt number s) (listing_on checked c u) here)
      | inr behind ↦ later_one (alternative_is checked cs u (k + 1) number s behind)
    ]
  where
    first : (t : Structure) × IsIn t (listing_on checked c u) × (Alt number s ≡ Alt k t) → IsAlternative checked (c ∷ cs) u k number s
    first found =
        let same : Alt number s ≡ Alt k found.0 = found.2 in
        let numbered : number ≡ k = cc in
        let inside : s ≡ found.0 = cc in
        record {
          low = omega arith;
          high = omega arith;
          inside = λ child at.
              let here : Some c ≡ Some child = subst (λ (i : ℕ). slice_get (c ∷ cs) i ≡ Some child) (let e : number - k ≡ 0 = omega arith in e) at in
              let is : c ≡ child = cc in
              subst (λ (m : ℕ). IsIn s (listing_on checked m u)) is (subst (λ (t : Structure). IsIn t (listing_on checked c u)) (sym inside) found.1);
        }

    later_one : IsAlternative checked cs u (k + 1) number s → IsAlternative checked (c ∷ cs) u k number s
    later_one found = record {
      low = omega (arith, found.low);
      high = omega (arith, found.high);
      inside = λ child at.
          let behind : slice_get cs (number - (k + 1)) ≡ Some child =
          subst (λ (i : ℕ). slice_get (c ∷ cs) i ≡ Some child) (let e : number - k ≡ suc (number - (k + 1)) = omega (arith, found.low) in e) at in
          found.inside child behind;
    }

-- those of the arguments up to a place stand before those behind it
pub before_place : (checked : Checked) (node : ℕ) (u : List ℕ) (place : ℕ) → place ≤ length (children_at checked.rules node)
    → (earlier : List Structure) × (arguments_behind checked node 0 u ≡ earlier ++ arguments_behind checked node place u)
before_place checked node u zero within = ([], refl)
before_place checked node u (suc place) within =
    let before = before_place checked node u place (omega arith) in
    let child = slice_some (children_at checked.rules node) place (omega arith) in
    let own : List Structure = map (Alt (place + 1)) (listing_on checked child.0 u) in (
      before.0 ++ own,
      before.1
          ∙ ap (λ ss. before.0 ++ ss) (behind_next checked node place child.0 u child.1)
          ∙ sym (append_assoc before.0 own (arguments_behind checked node (place + 1) u))
          ∙ ap (λ (k : ℕ). (before.0 ++ own) ++ arguments_behind checked node k u) (let e : place + 1 ≡ suc place = omega arith in e),
    )

-- each is in some argument
some_argument : (k : ℕ) (sss : List (List Structure)) (whole : Structure) → IsIn whole (alternatives k sss) → (number : ℕ) × ((s : Structure) × (whole ≡ Alt number s))
some_argument k [] whole there = absurd there
some_argument k (ss ∷ sss) whole there = elim (in_either whole (map (Alt k) ss) (alternatives (k + 1) sss) there) [
  | inl here ↦ let found = from_map (Alt k) whole ss here in (k, (found.0, found.2))
  | inr behind ↦ some_argument (k + 1) sss whole behind
]

pub not_argument : (checked : Checked) (node : ℕ) (u : List ℕ) (sh : Shape) (all : List Structure) (whole : Structure) → structure_of sh ≡ whole
    → all ≡ arguments_behind checked node 0 u → IsIn whole all
    → ((argument : ℕ) (inside : Box Struct Global) → sh ≡ shape.Alt argument inside → ⊥) → ⊥
not_argument checked node u sh all whole is by_arguments there left =
    let found = some_argument 1 (each_listing checked (children_at checked.rules node) u) whole (subst (λ (ss : List Structure). IsIn whole ss) by_arguments there) in
    by sh found.0 found.1.0 (is ∙ found.1.1) left
  where
    by : (sh : Shape) (number : ℕ) (s : Structure) → structure_of sh ≡ Alt number s → ((argument : ℕ) (inside : Box Struct Global) → sh ≡ shape.Alt argument inside → ⊥) → ⊥
    by (shape.Eps rule) number s is left = absurd (cc)
    by (shape.Atom rule label) number s is left = absurd (cc)
    by (shape.Named rule inside) number s is left = absurd (cc)
    by (shape.Alt argument inside) number s is left = left argument inside refl
    by (shape.Tup f parts) number s is left = absurd (cc)

module _ (counts : Counts) (node number : ℕ) (supply : Supply) (all : List Structure) (s whole : Structure) (is : Alt number s ≡ whole)
    (by_arguments : all ≡ arguments_behind counts.checked node 0 (supply_labels supply)) (there : IsIn whole all) where
  one_of : IsAlternative counts.checked (children_at counts.checked.rules node) (supply_labels supply) 1 number s
  one_of =
      alternative_is counts.checked (children_at counts.checked.rules node) (supply_labels supply) 1 number s
      (subst (λ (ss : List Structure). IsIn (Alt number s) ss) by_arguments (subst (λ (t : Structure). IsIn t all) (sym is) there))

  pub argument_low : 1 ≤ number
  argument_low = one_of.low

  pub argument_high : number ≤ length (children_at counts.checked.rules node)
  argument_high = omega (arith, one_of.high)

  module _ (child : ℕ) (at : slice_get (children_at counts.checked.rules node) (number - 1) ≡ Some child) where
    pub argument_inside : IsIn s (listing_on counts.checked child (supply_labels supply))
    argument_inside = one_of.inside child at

    -- what comes later inside, and then the arguments behind
    pub argument_resumes : (inner later : Later) → Resumes counts (listing_on counts.checked child (supply_labels supply)) s inner
        → structures_after counts.checked later (Alt number s) ≡ argument_after counts.checked node supply (structures_after counts.checked inner) (Alt number s)
        → Stands counts later (Alt number s) → Resumes counts all whole later
    argument_resumes inner later resumes after stands =
        subst (λ (t : Structure). Resumes counts all t later) is (record { earlier = before.0 ++ map (Alt number) resumes.0.earlier; whole = cut }, stands)
      where
        before : (earlier : List Structure) × (arguments_behind counts.checked node 0 (supply_labels supply) ≡ earlier ++ arguments_behind counts.checked node (number - 1) (supply_labels supply))
        before = before_place counts.checked node (supply_labels supply) (number - 1) (omega (arith, argument_high))

        numbered : number - 1 + 1 ≡ number
        numbered = omega (arith, argument_low)

        own : arguments_behind counts.checked node (number - 1) (supply_labels supply)
            ≡ map (Alt number) (listing_on counts.checked child (supply_labels supply)) ++ arguments_behind counts.checked node number (supply_labels supply)
        own =
            behind_next counts.checked node (number - 1) child (supply_labels supply) at
            ∙ ap (λ (k : ℕ). map (Alt k) (listing_on counts.checked child (supply_labels supply)) ++ arguments_behind counts.checked node k (supply_labels supply)) numbered

        within : map (Alt number) (listing_on counts.checked child (supply_labels supply))
            ≡ map (Alt number) resumes.0.earlier ++ Alt number s ∷ map (Alt number) (structures_after counts.checked inner s)
        within = ap (map (Alt number)) resumes.0.whole ∙ map-append (Alt number) resumes.0.earlier (s ∷ structures_after counts.checked inner s)

        joined : (front mid more : List Structure) (t : Structure) (last : List Structure) → front ++ ((mid ++ t ∷ more) ++ last) ≡ (front ++ mid) ++ t ∷ (more ++ last)
        joined [] [] more t last = refl
        joined [] (m ∷ mid) more t last = ap (λ ss. m ∷ ss) (joined [] mid more t last)
        joined (f ∷ front) mid more t last = ap (λ ss. f ∷ ss) (joined front mid more t last)

        cut : all ≡ (before.0 ++ map (Alt number) resumes.0.earlier) ++ Alt number s ∷ structures_after counts.checked later (Alt number s)
        cut =
            by_arguments
            ∙ before.1
            ∙ ap (λ ss. before.0 ++ ss) own
            ∙ ap (λ ss. before.0 ++ (ss ++ arguments_behind counts.checked node number (supply_labels supply))) within
            ∙ joined before.0 (map (Alt number) resumes.0.earlier) (map (Alt number) (structures_after counts.checked inner s)) (Alt number s)
            (arguments_behind counts.checked node number (supply_labels supply))
            ∙ ap (λ ss. (before.0 ++ map (Alt number) resumes.0.earlier) ++ Alt number s ∷ ss) (sym after)

    pub argument_in_union : {E : Type 0} (inner : Later) → Resumes counts (listing_on counts.checked child (supply_labels supply)) s inner → (result : Result Later E)
        → IfOk result (λ later. structures_after counts.checked later (Alt number s) ≡ argument_after counts.checked node supply (structures_after counts.checked inner) (Alt number s))
        → IfOk result (λ later. Stands counts later (Alt number s)) → IfOk result (Resumes counts all whole)
    argument_in_union inner resumes (Ok later) after stands = argument_resumes inner later resumes after stands
    argument_in_union inner resumes (Err e) after stands = tt
