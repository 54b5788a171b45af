-- The counts at a size, filled in by rising rank.
use Rattle.std.proofs.Common.{◌≡◌, ◌⊎◌, ℕ, ◌+◌, ◌-◌, ◌<◌, ◌≤◌, Bool, true, false, true≢false, List, [], ◌∷◌, ◌++◌, length, map, replicate, Option, Some, None, slice_get, refl, sym, ap, ◌∙◌, subst, inl, inr, arith}
use Rattle.std.specs.Option.{option_map}
use Rattle.std.specs.List.{range_with_len}
use Rattle.std.proofs.Math.ListN.{set}
use Rattle.std.proofs.lemmas.Bool.{cases_lt}
use Rattle.std.proofs.lemmas.List.{length_push, length-set, length-replicate}
use Rattle.std.proofs.lemmas.Option.{slice_get_within}
use Rattle.lists.proofs.Places.{pushed_at}
use Rattle.spec_syntax.specs.declared.expr.Card.{Card}
use Rattle.spec_syntax.specs.declared.expr.Kind.{Kind}
use Rattle.spec_syntax.specs.declared.expr.Kind.TheVariants as kinds
use Rattle.spec_syntax.specs.declared.statement.Universe.TheVariants.{Labelled}
use Rattle.spec_syntax.specs.Expression.{Expression, Expressions, Prod, Many}
use Rattle.spec_syntax.specs.Rules.{all_nodes}
use Rattle.spec_syntax.specs.Nodes.{node_at}
use Rattle.spec_syntax.proofs.NodesLemmas.{in_nodes}
use Rattle.graphs.specs.Graph.{IsMarked}
use Rattle.struct_model.specs.Bounded.{number}
use Rattle.well_founded.specs.declared.node.NodeKind.{NodeKind}
use Rattle.well_founded.specs.declared.node.NodeKind.TheVariants as told
use Rattle.well_founded.specs.NodeKinds.{kind_of, container, is_container}
use Rattle.well_founded.specs.Checked.{Checked, IsChecked, grammar}
use Rattle.splits.specs.Capped.{Tells}
use Rattle.listing_laws.specs.ContainersRecur.{of_components}
use Rattle.size_counts.specs.declared.tables.Tables.{Tables}
use Rattle.size_counts.specs.Numbers.{most_components}
use Rattle.size_counts.specs.Told.{TellAll, TellNow}
use Rattle.size_counts.specs.Suffixes.{FirstsTold}
use Rattle.size_counts.specs.Turns.{LongerTold, BesideTold, AreBeside}
use Rattle.size_counts.proofs.Law.{recur}
use Rattle.size_counts.proofs.Containers.{cycle_labelled}
use Rattle.size_counts.proofs.ListLemmas.{kind_same}
use Rattle.size_counts.proofs.SumLemmas.{set_at, zeros_at}
use Rattle.size_counts.proofs.SuffixLemmas.{firsts_none}

-- of lower rank, of a least size above m, or of this rank and below node n
pub record TellSoFar (checked : Checked) (marks : List Bool) (m r n : ℕ) (now : List (Option ℕ)) : Type 0 where
  pub lower : TellNow checked marks m r now
  pub here : (node : ℕ) (e : Expression) (told : Option ℕ) → node < n → IsMarked marks node → node_at checked.rules node ≡ Some e → slice_get checked.ranks node ≡ Some r → slice_get now node ≡ Some told
      → Tells told (number (grammar checked) e m)

pub so_far_none : (checked : Checked) (marks : List Bool) (m r : ℕ) (now : List (Option ℕ)) → TellNow checked marks m r now → TellSoFar checked marks m r 0 now
so_far_none checked marks m r now lower = record { lower = lower; here = λ node e told below marked at ranked there. absurd (omega arith) }

-- a node that is passed over
pub so_far_pass : (checked : Checked) (marks : List Bool) (m r n : ℕ) (now : List (Option ℕ)) → TellSoFar checked marks m r n now → (IsMarked marks n → slice_get checked.ranks n ≡ Some r → ⊥)
    → TellSoFar checked marks m r (n + 1) now
so_far_pass checked marks m r n now before other = record {
  lower = before.lower;
  here = λ node e told below marked at ranked there. elim (cases_lt node n) [
    | inl earlier ↦ before.here node e told earlier marked at ranked there
    | inr past ↦ let same : node ≡ n = omega arith in
        absurd (other (subst (λ (k : ℕ). IsMarked marks k) same marked) (subst (λ (k : ℕ). slice_get checked.ranks k ≡ Some r) same ranked))
  ];
}

-- a node that is filled in
pub so_far_more : (checked : Checked) (marks : List Bool) (m r n : ℕ) (now : List (Option ℕ)) (one : Option ℕ) → TellSoFar checked marks m r n now
    → ((e : Expression) → node_at checked.rules n ≡ Some e → Tells one (number (grammar checked) e m)) → TellSoFar checked marks m r (n + 1) (set now n one)
so_far_more checked marks m r n now one before is = record {
  lower = record {
    for_each = length-set now n one ∙ before.lower.for_each;
    each = λ node least rank e told marked at least_is rank_is may there. elim (set_at now n node one told there) [
      | inl here ↦ filled node e told here at
      | inr other ↦ before.lower.each node least rank e told marked at least_is rank_is may other.1
    ];
  };
  here = λ node e told below marked at ranked there. elim (set_at now n node one told there) [
    | inl here ↦ filled node e told here at
    | inr other ↦ before.here node e told (omega (arith, below, other.0)) marked at ranked other.1
  ];
}
  where
    filled : (node : ℕ) (e : Expression) (told : Option ℕ) → (node ≡ n) × (told ≡ one) → node_at checked.rules node ≡ Some e → Tells told (number (grammar checked) e m)
    filled node e told here at =
        subst (λ (o : Option ℕ). Tells o (number (grammar checked) e m)) (sym here.1) (is e (subst (λ (k : ℕ). node_at checked.rules k ≡ Some e) here.0 at))

-- past all nodes the whole rank is told
pub so_far_all : (checked : Checked) (marks : List Bool) (m r n : ℕ) (now : List (Option ℕ)) → length (all_nodes checked.rules) ≤ n → TellSoFar checked marks m r n now → TellNow checked marks m (r + 1) now
so_far_all checked marks m r n now all before = record {
  for_each = before.lower.for_each;
  each = λ node least rank e told marked at least_is rank_is may there. elim (cases_lt rank r) [
    | inl less ↦ before.lower.each node least rank e told marked at least_is rank_is (inl less) there
    | inr past ↦ elim may [
      | inl within ↦ let same : rank ≡ r = omega arith in
          before.here node e told (omega (arith, slice_get_within (all_nodes checked.rules) node e at)) marked at (rank_is ∙ ap Some same) there
      | inr small ↦ before.lower.each node least rank e told marked at least_is rank_is (inr small) there
    ]
  ];
}

-- before any rank, 0 is told of what has no structure so small
pub tell_zeros : (checked : Checked) (marks : List Bool) (m n : ℕ) → IsChecked checked → n ≡ length (all_nodes checked.rules) → TellNow checked marks m 0 (replicate n (Some 0))
tell_zeros checked marks m n is_checked same = record {
  for_each = length-replicate n (Some 0) ∙ same;
  each = λ node least rank e told marked at least_is rank_is may there. elim may [
    | inl below ↦ absurd (omega arith)
    | inr small ↦ subst (λ (o : Option ℕ). Tells o (number (grammar checked) e m)) (sym (zeros_at n node told there)) (zero_told e least node at least_is small)
  ];
}
  where
    zero_told : (e : Expression) (least node : ℕ) → node_at checked.rules node ≡ Some e → slice_get checked.leasts node ≡ Some least → m < least → Tells (Some 0) (number (grammar checked) e m)
    zero_told e least node at least_is small =
        let none : number (grammar checked) e m ≡ 0 =
        recur.below_least (grammar checked) e least m is_checked.spec is_checked.well_founded (in_nodes checked.rules node e at) (is_checked.least.each node least e at least_is) small in
        subst (λ (k : ℕ). Tells (Some 0) k) (sym none) (refl, omega arith)

-- ---- what is told beside the count of each node

no_container : (kind : Kind) → is_container (container kind) ≡ false → ⊥
no_container kinds.Sequence is = absurd (cc)
no_container kinds.Set is = absurd (cc)
no_container kinds.PowerSet is = absurd (cc)
no_container kinds.Cycle is = absurd (cc)

-- the kind of a container by that of its node
pub kind_is : (kind other : Kind) → container kind ≡ container other → kind ≡ other
kind_is kinds.Sequence kinds.Sequence same = refl
kind_is kinds.Sequence kinds.Set same = absurd (cc)
kind_is kinds.Sequence kinds.PowerSet same = absurd (cc)
kind_is kinds.Sequence kinds.Cycle same = absurd (cc)
kind_is kinds.Set kinds.Sequence same = absurd (cc)
kind_is kinds.Set kinds.Set same = refl
kind_is kinds.Set kinds.PowerSet same = absurd (cc)
kind_is kinds.Set kinds.Cycle same = absurd (cc)
kind_is kinds.PowerSet kinds.Sequence same = absurd (cc)
kind_is kinds.PowerSet kinds.Set same = absurd (cc)
kind_is kinds.PowerSet kinds.PowerSet same = refl
kind_is kinds.PowerSet kinds.Cycle same = absurd (cc)
kind_is kinds.Cycle kinds.Sequence same = absurd (cc)
kind_is kinds.Cycle kinds.Set same = absurd (cc)
kind_is kinds.Cycle kinds.PowerSet same = absurd (cc)
kind_is kinds.Cycle kinds.Cycle same = refl

-- the numbers of what is known to be a container of this kind
pub told_of : (checked : Checked) (node m : ℕ) (known : Kind) (longer : List (Option ℕ)) → option_map kind_of (node_at checked.rules node) ≡ Some (container known)
    → ((element : Expression) (card : Card) → node_at checked.rules node ≡ Some (Many known element card)
    → TellAll longer (map (λ c. of_components (grammar checked) known element c m) (range_with_len 2 (most_components card m - 1)))) → LongerTold checked node m longer
told_of checked node m known longer is all kind element card at =
    by kind (kind_is kind known (sym (kind_same (node_at checked.rules node) kind element card (container known) at is))) at
  where
    by : (kind : Kind) → kind ≡ known → node_at checked.rules node ≡ Some (Many kind element card)
        → TellAll longer (map (λ c. of_components (grammar checked) kind element c m) (range_with_len 2 (most_components card m - 1)))
    by kind same here =
        subst (λ (k : Kind). TellAll longer (map (λ c. of_components (grammar checked) k element c m) (range_with_len 2 (most_components card m - 1)))) (sym same)
        (all element card (here ∙ ap (λ (k : Kind). Some (Many k element card)) same))

-- a Sequence or a Cycle has a first component
pub has_first : (checked : Checked) (node : ℕ) (kind : Kind) (element : Expression) (card : Card) (read : NodeKind) → IsChecked checked → option_map kind_of (node_at checked.rules node) ≡ Some read
    → (read ≡ told.Sequence) ⊎ (read ≡ told.Cycle) → node_at checked.rules node ≡ Some (Many kind element card) → (kind ≡ kinds.Sequence) ⊎ (checked.universe ≡ Labelled)
has_first checked node kind element card read is_checked is one at = elim one [
  | inl sequence ↦ inl (kind_is kind kinds.Sequence (sym (kind_same (node_at checked.rules node) kind element card read at is) ∙ sequence))
  | inr cycle ↦ inr (cycle_labelled (grammar checked) element card is_checked.spec is_checked.well_founded (in_nodes checked.rules node _
      (at ∙ ap (λ (k : Kind). Some (Many k element card)) (kind_is kind kinds.Cycle (sym (kind_same (node_at checked.rules node) kind element card read at is) ∙ cycle)))))
]

-- where nothing is, there is no container
pub beside_nothing : (checked : Checked) (node m : ℕ) (read : NodeKind) → option_map kind_of (node_at checked.rules node) ≡ Some read → is_container read ≡ false → BesideTold checked node m []
beside_nothing checked node m read is none = record {
  longer = λ kind element card at. absurd (no_container kind (ap is_container (sym (kind_same (node_at checked.rules node) kind element card read at is)) ∙ none));
  firsts = λ arguments at. firsts_none (grammar checked) arguments m;
}

pub beside_longer : (checked : Checked) (node m : ℕ) (longer : List (Option ℕ)) (read : NodeKind) → option_map kind_of (node_at checked.rules node) ≡ Some read → is_container read ≡ true → LongerTold checked node m longer
    → BesideTold checked node m longer
beside_longer checked node m longer read is container more = record {
  longer = more;
  firsts = λ arguments at.
      let same : Some told.Prod ≡ Some read = sym (ap (option_map kind_of) at) ∙ is in
      let prod : told.Prod ≡ read = cc in
      absurd (true≢false (sym container ∙ ap is_container (sym prod)));
}

pub beside_firsts : (checked : Checked) (node m : ℕ) (firsts : List (Option ℕ)) → option_map kind_of (node_at checked.rules node) ≡ Some told.Prod
    → ((arguments : Expressions) → node_at checked.rules node ≡ Some (Prod arguments) → FirstsTold (grammar checked) arguments m firsts) → BesideTold checked node m firsts
beside_firsts checked node m firsts is all = record {
  longer = λ kind element card at. absurd (no_container kind (ap is_container (sym (kind_same (node_at checked.rules node) kind element card told.Prod at is))));
  firsts = all;
}

pub beside_none : (tables : Tables) (m : ℕ) → AreBeside tables m 0 []
beside_none tables m = record { for_each = refl; each = λ node one there marked. let wrong : ◌≡◌ {A = Option (List (Option ℕ))} None (Some one) = there in absurd (cc) }

pub beside_more : (tables : Tables) (m n : ℕ) (beside more : List (List (Option ℕ))) (one : List (Option ℕ)) → AreBeside tables m n beside → more ≡ beside ++ one ∷ []
    → (IsMarked tables.marks.items n → BesideTold tables.grammar n m one) → AreBeside tables m (n + 1) more
beside_more tables m n beside more one before pushed is = subst (λ (items : List (List (Option ℕ))). AreBeside tables m (n + 1) items) (sym pushed) (record {
  for_each = length_push beside one ∙ ap (λ (k : ℕ). k + 1) before.for_each;
  each = λ node other there marked. elim (pushed_at beside one node other there) [
    | inl earlier ↦ before.each node other earlier marked
    | inr here ↦ let same : node ≡ n = here.0 ∙ before.for_each in
        subst (λ (k : ℕ). BesideTold tables.grammar k m other) (sym same) (subst (λ (items : List (Option ℕ)). BesideTold tables.grammar n m items) (sym here.1) (is (subst (λ (k : ℕ). IsMarked tables.marks.items k) same marked)))
  ];
})

pub beside_set : (tables : Tables) (m n node : ℕ) (beside : List (List (Option ℕ))) (one : List (Option ℕ)) → AreBeside tables m n beside → BesideTold tables.grammar node m one → AreBeside tables m n (set beside node one)
beside_set tables m n node beside one before is = record {
  for_each = length-set beside node one ∙ before.for_each;
  each = λ k other there marked. elim (set_at beside node k one other there) [
    | inl here ↦ subst (λ (j : ℕ). BesideTold tables.grammar j m other) (sym here.0) (subst (λ (items : List (Option ℕ)). BesideTold tables.grammar node m items) (sym here.1) is)
    | inr earlier ↦ before.each k other earlier.1 marked
  ];
}
