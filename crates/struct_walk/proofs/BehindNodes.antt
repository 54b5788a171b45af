-- What comes next behind a structure of a word, of a rule and of a Union.
use Rattle.std.proofs.Common.{◌≡◌, ◌⊎◌, ℕ, ◌+◌, ◌-◌, ◌≤◌, ◌<◌, true, List, [], ◌∷◌, ◌++◌, map, length, slice_get, Option, Some, None, refl, sym, ap, ◌∙◌, subst, inl, inr, arith}
use Rattle.std.specs.Prelude.{IsTrue}
use Rattle.std.proofs.lemmas.List.{append-nil, map-append, length-map}
use Rattle.lists.specs.Enumeration.{IsIn}
use Rattle.spec_syntax.specs.declared.statement.Universe.TheVariants.{Unlabelled}
use Rattle.spec_syntax.specs.Nodes.{children_at, right_node}
use Rattle.struct_model.specs.Structure.{Structure, Named, Alt}
use Rattle.struct_model.specs.Membership.{supply as labels_of_size, is_supply}
use Rattle.struct_model.specs.declared.supplies.Supply.{Supply}
use Rattle.struct_model.specs.declared.supplies.Supply.TheVariants.{Zeros}
use Rattle.struct_model.specs.SupplyView.{supply_labels}
use Rattle.struct_model.proofs.SupplyLaws.{supply_size}
use Rattle.well_founded.specs.Checked.{Checked, IsChecked}
use Rattle.well_founded.specs.declared.node.NodeKind.{NodeKind}
use Rattle.well_founded.specs.declared.node.NodeKind.TheVariants as told
use Rattle.listing_laws.specs.Lister.{list_epsilon, list_atom, named}
use Rattle.listing_laws.specs.NodeListing.{HasKind, listing_on, rule_on, number_of_node}
use Rattle.listing_laws.proofs.NodeLemmas.{nodes_are_listed}
use Rattle.size_counts.specs.CountedView.{Counts, IsCounted}
use Rattle.struct_walk.specs.declared.later.Later.{Later}
use Rattle.struct_walk.specs.After.{arguments_behind, structures_after}
use Rattle.struct_walk.specs.Stands.{IsAsked, Stands}
use Rattle.struct_walk.specs.Opened.{Opens, OpensBehind, Behind}
use Rattle.struct_walk.proofs.StepArguments.{behind_next}
use Rattle.struct_walk.proofs.StepForms.{named_after, named_stands}
use Rattle.struct_walk.proofs.OpenLemmas.{rule_inside, asked_supply}
use Rattle.struct_walk.proofs.TailLemmas.{listing_number}
use Rattle.struct_walk.proofs.PartLabels.{zeros_are}
use Rattle.struct_walk.proofs.ResumedNodes.{named_inside, before_place}

-- ---- lists

-- the only one
pub lone : {X : Type 0} (x : X) (xs : List X) → length xs ≤ 1 → IsIn x xs → xs ≡ x ∷ []
lone x [] few there = absurd there
lone x (y ∷ []) few (inl same) = ap (λ z. z ∷ []) (sym same)
lone x (y ∷ []) few (inr none) = absurd none
lone x (y ∷ z ∷ xs) few there = absurd (omega arith)

pub map_cut : {X Y : Type 0} (f : X → Y) (all earlier : List X) (x : X) (next : List X) → all ≡ earlier ++ x ∷ next → map f all ≡ map f earlier ++ f x ∷ map f next
map_cut f all earlier x next is = ap (map f) is ∙ map-append f earlier (x ∷ next)

pub within_front : {X : Type 0} (front mid : List X) (x : X) (more last : List X) → front ++ ((mid ++ x ∷ more) ++ last) ≡ (front ++ mid) ++ x ∷ (more ++ last)
within_front [] [] x more last = refl
within_front [] (y ∷ mid) x more last = ap (λ xs. y ∷ xs) (within_front [] mid x more last)
within_front (y ∷ front) mid x more last = ap (λ xs. y ∷ xs) (within_front front mid x more last)

pub one_there : {X : Type 0} (x : X) (xs : List X) → IsIn x xs → 0 < length xs
one_there x [] there = absurd there
one_there x (y ∷ xs) there = omega arith

-- ---- supplies

-- without labels a supply is told by its length
pub zeros_of : (counts : Counts) (supply : Supply) (n : ℕ) → IsAsked counts supply → counts.checked.universe ≡ Unlabelled → n ≡ length (supply_labels supply)
    → supply_labels supply ≡ labels_of_size Unlabelled n
zeros_of counts supply n asked unlabelled long =
    sym (zeros_are (supply_labels supply) (subst (λ universe. is_supply universe (supply_labels supply) ≡ true) unlabelled (asked_supply counts supply asked)))
    ∙ ap (labels_of_size Unlabelled) (sym long)

pub zeros_asked : (counts : Counts) (n : ℕ) → counts.checked.universe ≡ Unlabelled → n ≤ counts.size → IsAsked counts (Zeros n)
zeros_asked counts n unlabelled within = record { in_order = refl; universe = sym unlabelled; within = omega (arith, supply_size Unlabelled n) }

-- ---- structures

-- what was opened of those that come next
pub opens_behind : (counts : Counts) (all earlier : List Structure) (s : Structure) (next : List Structure) (opened : Later × Structure) → all ≡ earlier ++ s ∷ next
    → Opens counts next opened → OpensBehind counts all s (Some opened)
opens_behind counts all earlier s next opened whole opens = (record { earlier = earlier; whole = whole ∙ ap (λ ss. earlier ++ s ∷ ss) opens.whole }, opens.stands)

pub none_behind_lone : (counts : Counts) (all : List Structure) (s : Structure) → length all ≤ 1 → IsIn s all → OpensBehind counts all s None
none_behind_lone counts all s few there = record { earlier = []; whole = lone s all few there }

-- ---- words

few_epsilon : (u : List ℕ) → length (list_epsilon u) ≤ 1
few_epsilon [] = omega arith
few_epsilon (label ∷ labels) = omega arith

few_atom : (u : List ℕ) → length (list_atom u) ≤ 1
few_atom [] = omega arith
few_atom (label ∷ []) = omega arith
few_atom (label ∷ other ∷ labels) = omega arith

module _ (checked : Checked) (passed : IsChecked checked) (u : List ℕ) (supplied : is_supply checked.universe u ≡ true) where
  pub few_of_word : (node : ℕ) (k : NodeKind) → HasKind checked node k → (k ≡ told.Epsilon) ⊎ (k ≡ told.Atom) → length (listing_on checked node u) ≤ 1
  few_of_word node k h (inl is) =
      omega (arith, few_epsilon u, ap length (nodes_are_listed.epsilon checked node u passed supplied (subst (λ (kind : NodeKind). HasKind checked node kind) is h)))
  few_of_word node k h (inr is) =
      omega (arith, few_atom u, ap length (nodes_are_listed.atom checked node u passed supplied (subst (λ (kind : NodeKind). HasKind checked node kind) is h)))

  pub few_of_rule : (number : ℕ) (k : NodeKind) → 1 ≤ number → number ≤ length checked.rules → HasKind checked (right_node checked.rules number) k
      → (k ≡ told.Epsilon) ⊎ (k ≡ told.Atom) → length (rule_on checked number u) ≤ 1
  few_of_rule number k low high h is =
      omega (
        arith,
        few_of_word (right_node checked.rules number) k h is,
        ap length (nodes_are_listed.rule checked number u passed supplied low high),
        length-map (listing_on checked (right_node checked.rules number) u) (named number),
      )

-- ---- rules

module _ (counts : Counts) (is : IsCounted counts) (number : ℕ) (supply : Supply) (k : NodeKind) (asked : IsAsked counts supply) (low : 1 ≤ number) (high : number ≤ length counts.checked.rules)
    (h : HasKind counts.checked (right_node counts.checked.rules number) k) (no_word : (k ≡ told.Epsilon → ⊥) × (k ≡ told.Atom → ⊥))
    (s : Structure) (there : IsIn s (rule_on counts.checked number (supply_labels supply))) where
  pub all_named : rule_on counts.checked number (supply_labels supply) ≡ map (Named number) (listing_on counts.checked (right_node counts.checked.rules number) (supply_labels supply))
  all_named = rule_inside counts.checked is.passed k number (supply_labels supply) (asked_supply counts supply asked) low high h no_word.0 no_word.1

  among : IsIn s (map (Named number) (listing_on counts.checked (right_node counts.checked.rules number) (supply_labels supply)))
  among = subst (λ (ss : List Structure). IsIn s ss) all_named there

  module _ (other : ℕ) (inside : Structure) (told_as : Named other inside ≡ s) where
    own : IsIn inside (listing_on counts.checked (right_node counts.checked.rules number) (supply_labels supply)) × (other ≡ number)
    own = named_inside number other (listing_on counts.checked (right_node counts.checked.rules number) (supply_labels supply)) inside s told_as among

    pub inside_there : IsIn inside (listing_on counts.checked (right_node counts.checked.rules number) (supply_labels supply))
    inside_there = own.0

    whole_is : Named number inside ≡ s
    whole_is = ap (λ (n : ℕ). Named n inside) (sym own.1) ∙ told_as

    pub behind_named : (later : Later) (t : Structure) → OpensBehind counts (listing_on counts.checked (right_node counts.checked.rules number) (supply_labels supply)) inside (Some (later, t))
        → OpensBehind counts (rule_on counts.checked number (supply_labels supply)) s (Some (later, Named number t))
    behind_named later t opens = (
      record {
        earlier = map (Named number) opens.0.earlier;
        whole =
            all_named
            ∙ map_cut (Named number) (listing_on counts.checked (right_node counts.checked.rules number) (supply_labels supply)) opens.0.earlier inside (t ∷ structures_after counts.checked later t) opens.0.whole
            ∙ (λ i. map (Named number) opens.0.earlier ++ whole_is i ∷ Named number t ∷ sym (named_after counts.checked later number t) i);
      },
      named_stands counts number later t opens.1,
    )

    pub none_behind_named : OpensBehind counts (listing_on counts.checked (right_node counts.checked.rules number) (supply_labels supply)) inside None
        → OpensBehind counts (rule_on counts.checked number (supply_labels supply)) s None
    none_behind_named none = record {
      earlier = map (Named number) none.earlier;
      whole =
          all_named
          ∙ map_cut (Named number) (listing_on counts.checked (right_node counts.checked.rules number) (supply_labels supply)) none.earlier inside [] none.whole
          ∙ ap (λ t. map (Named number) none.earlier ++ t ∷ []) whole_is;
    }

-- ---- Unions

-- the structures of a Union by one of an argument: some before it, those behind it in the argument, and those of the arguments behind
pub argument_cut : (checked : Checked) (node number child : ℕ) (u : List ℕ) (s : Structure) (earlier next : List Structure) → 1 ≤ number
    → number ≤ length (children_at checked.rules node) → slice_get (children_at checked.rules node) (number - 1) ≡ Some child
    → listing_on checked child u ≡ earlier ++ s ∷ next
    → (before : List Structure) × (arguments_behind checked node 0 u ≡ before ++ Alt number s ∷ (map (Alt number) next ++ arguments_behind checked node number u))
argument_cut checked node number child u s earlier next low high at whole = (
  before.0 ++ map (Alt number) earlier,
  before.1
      ∙ ap (λ ss. before.0 ++ ss) own
      ∙ ap (λ ss. before.0 ++ (ss ++ arguments_behind checked node number u)) (map_cut (Alt number) (listing_on checked child u) earlier s next whole)
      ∙ within_front before.0 (map (Alt number) earlier) (Alt number s) (map (Alt number) next) (arguments_behind checked node number u),
)
  where
    before : (earlier : List Structure) × (arguments_behind checked node 0 u ≡ earlier ++ arguments_behind checked node (number - 1) u)
    before = before_place checked node u (number - 1) (omega (arith, high))

    own : arguments_behind checked node (number - 1) u ≡ map (Alt number) (listing_on checked child u) ++ arguments_behind checked node number u
    own =
        behind_next checked node (number - 1) child u at
        ∙ ap (λ (k : ℕ). map (Alt k) (listing_on checked child u) ++ arguments_behind checked node k u) (let e : number - 1 + 1 ≡ number = omega (arith, low) in e)

module _ (counts : Counts) (node number child : ℕ) (supply : Supply) (all : List Structure) (s whole : Structure) (is : Alt number s ≡ whole)
    (by_arguments : all ≡ arguments_behind counts.checked node 0 (supply_labels supply)) (low : 1 ≤ number) (high : number ≤ length (children_at counts.checked.rules node))
    (at : slice_get (children_at counts.checked.rules node) (number - 1) ≡ Some child) where
  abbrev rest : List Structure
  rest = arguments_behind counts.checked node number (supply_labels supply)

  -- the next one of the same argument
  pub behind_in_argument : (inner : Later) (t : Structure) (opened : Later × Structure) → OpensBehind counts (listing_on counts.checked child (supply_labels supply)) s (Some (inner, t))
      → Opens counts (Alt number t ∷ (map (Alt number) (structures_after counts.checked inner t) ++ arguments_behind counts.checked node number (supply_labels supply))) opened
      → OpensBehind counts all whole (Some opened)
  behind_in_argument inner t opened behind opens =
      let cut = argument_cut counts.checked node number child (supply_labels supply) s behind.0.earlier (t ∷ structures_after counts.checked inner t) low high at behind.0.whole in
      opens_behind counts all cut.0 whole (Alt number t ∷ (map (Alt number) (structures_after counts.checked inner t) ++ rest)) opened
      (by_arguments ∙ cut.1 ∙ ap (λ first. cut.0 ++ first ∷ Alt number t ∷ (map (Alt number) (structures_after counts.checked inner t) ++ rest)) is) opens

  module _ (last : OpensBehind counts (listing_on counts.checked child (supply_labels supply)) s None) where
    last_cut : (before : List Structure) × (arguments_behind counts.checked node 0 (supply_labels supply) ≡ before ++ Alt number s ∷ arguments_behind counts.checked node number (supply_labels supply))
    last_cut = argument_cut counts.checked node number child (supply_labels supply) s last.earlier [] low high at last.whole

    -- the first one of the arguments behind
    pub behind_argument : (opened : Later × Structure) → Opens counts (arguments_behind counts.checked node number (supply_labels supply)) opened → OpensBehind counts all whole (Some opened)
    behind_argument opened opens =
        opens_behind counts all last_cut.0 whole rest opened (by_arguments ∙ last_cut.1 ∙ ap (λ first. last_cut.0 ++ first ∷ rest) is) opens

    -- or there is none
    pub behind_arguments : arguments_behind counts.checked node number (supply_labels supply) ≡ [] → OpensBehind counts all whole None
    behind_arguments none = record { earlier = last_cut.0; whole = by_arguments ∙ last_cut.1 ∙ (λ i. last_cut.0 ++ is i ∷ none i) }

-- where a structure is there, the number tells so
pub some_there : (counts : Counts) (is : IsCounted counts) (node : ℕ) (u : List ℕ) (s : Structure) → is_supply counts.checked.universe u ≡ true → IsIn s (listing_on counts.checked node u)
    → 0 < number_of_node counts.checked node (length u)
some_there counts is node u s supplied there =
    subst (λ (m : ℕ). 0 < m) (listing_number counts.checked is.passed node u supplied) (one_there s (listing_on counts.checked node u) there)
