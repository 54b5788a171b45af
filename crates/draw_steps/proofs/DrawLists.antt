-- Draws that go on from one another, and how they end.
use Rattle.std.proofs.Common.{◌≡◌, ℕ, zero, suc, ◌-◌, ◌*◌, ◌≤◌, Bool, true≢false, List, [], ◌∷◌, ◌++◌, Option, Result, Ok, Err, refl, sym, ap, ◌∙◌, subst, arith, append_assoc}
use Rattle.std.specs.Result.{IsErr, IsErrAnd}
use Rattle.std.specs.Option.{option_map_or}
use Rattle.spec_syntax.specs.Expression.{Expression}
use Rattle.struct_model.specs.Structure.{Structure}
use Rattle.struct_model.specs.Membership.{supply}
use Rattle.spec_syntax.specs.declared.statement.Universe.TheVariants.{Unlabelled}
use Rattle.splits.specs.Splits.{Split}
use Rattle.well_founded.specs.declared.node.NodeKind.{NodeKind}
use Rattle.well_founded.specs.NodeKinds.{kind_of}
use Rattle.listing_laws.specs.NodeListing.{HasKind}
use Rattle.listing_laws.proofs.NodeLemmas.{kind_at}
use Rattle.size_counts.specs.CountedView.{Counts}
use Rattle.choice_laws.specs.Trees.{Tree, end, nothing, graft}
use Rattle.draw_steps.specs.declared.fault.StepFault.{StepFault}
use Rattle.draw_steps.specs.declared.fault.StepFault.TheVariants.{Memory}
use Rattle.draw_steps.specs.declared.missing.Lists.{Lists}
use Rattle.draw_steps.specs.declared.copies.Copies.{Copies}
use Rattle.draw_steps.specs.Steps.{ending, in_front}
use Rattle.draw_steps.specs.Choices.{first_of, split_step, list_choices, copies_step, repeated, repeated_choices, choices, choices_by}
use Rattle.draw_steps.specs.Draws.{Follows, Draws, DrawsList}
use Rattle.draw_steps.proofs.Following.{draws_always, draws_then, draws_fault, draws_ending, draws_memory, draws_deeper}

-- ---- faults that are passed on

module _ {X : Type 0} (tree : ℕ → Tree X) (before after : List Bool) where
  pub passed_on : (fault : StepFault) (r : Result X StepFault) → IsErr r × IsErrAnd r (λ e. e ≡ fault) → Draws tree before (Err fault) after → Draws tree before r after
  passed_on fault (Ok x) told d = absurd (true≢false (sym told.0))
  passed_on fault (Err e) told d = subst (λ (f : StepFault). Draws tree before (Err f) after) (sym told.1) d

  pub no_memory : (r : Result X StepFault) → IsErr r × IsErrAnd r (λ e. e ≡ Memory) → Draws tree before r after
  no_memory r told = passed_on Memory r told (draws_memory tree before after)

module _ {X U : Type 0} (tree : ℕ → Tree (List X)) (before : List Bool) (old new : List X) (after : List Bool) where
  pub list_passed_on : (fault : StepFault) (r : Result U StepFault) → IsErr r × IsErrAnd r (λ e. e ≡ fault) → Draws tree before (Err fault) after → DrawsList tree before r old new after
  list_passed_on fault (Ok x) told d = absurd (true≢false (sym told.0))
  list_passed_on fault (Err e) told d = subst (λ (f : StepFault). Draws tree before (Err f) after) (sym told.1) d

  pub list_no_memory : (r : Result U StepFault) → IsErr r × IsErrAnd r (λ e. e ≡ Memory) → DrawsList tree before r old new after
  list_no_memory r told = list_passed_on Memory r told (draws_memory tree before after)

-- ---- lists

-- a first choice, and then a list
pub list_then : {X Y U : Type 0} (next : ℕ → X → Tree (List Y)) (tree : ℕ → Tree X) (x : X) (before mid : List Bool) (r : Result U StepFault) (old new : List Y) (after : List Bool)
    → Draws tree before (Ok x) mid → DrawsList (λ h. next h x) mid r old new after → DrawsList (λ h. graft (next h) (tree h)) before r old new after
list_then next tree x before mid (Ok done) old new after first others =
    record { added = others.added; put = others.put; follows = draws_then next tree x before mid after (Ok others.added) first others.follows }
list_then next tree x before mid (Err fault) old new after first others = draws_then next tree x before mid after (Err fault) first others

-- some in front, and then a list
pub list_behind : {Y U : Type 0} (front : List Y) (tree : ℕ → Tree (List Y)) (before : List Bool) (r : Result U StepFault) (old mid new : List Y) (after : List Bool)
    → mid ≡ old ++ front → DrawsList tree before r mid new after → DrawsList (λ h. ending (λ ys. front ++ ys) (tree h)) before r old new after
list_behind front tree before (Ok done) old mid new after put others = record {
  added = front ++ others.added;
  put = others.put ∙ ap (λ ys. ys ++ others.added) put ∙ append_assoc old front others.added;
  follows = draws_ending (λ ys. front ++ ys) tree before after (Ok others.added) others.follows;
}
list_behind front tree before (Err fault) old mid new after put others = draws_ending (λ ys. front ++ ys) tree before after (Err fault) others

pub list_done : {X U : Type 0} (before : List Bool) (done : U) (old : List X) → DrawsList (λ h. end []) before (Ok done) old old before
list_done before done old = record { added = []; put = sym (all old); follows = draws_always (end []) before before (Ok []) refl }
  where
    all : {X : Type 0} (xs : List X) → xs ++ [] ≡ xs
    all [] = refl
    all (x ∷ xs) = ap (λ ys. x ∷ ys) (all xs)

pub list_same : {X U : Type 0} (tree other : ℕ → Tree (List X)) (before : List Bool) (r : Result U StepFault) (old new : List X) (after : List Bool) → tree ≡ other
    → DrawsList tree before r old new after → DrawsList other before r old new after
list_same tree other before r old new after same d = subst (λ t. DrawsList t before r old new after) same d

-- ---- the missing components

module _ (counts : Counts) (lists : Lists) (missing : ℕ) (u : List ℕ) (some : 1 ≤ missing) where
  abbrev pub each_split : ℕ → Split → Tree (List Structure)
  each_split h split = in_front (choices counts h (first_of counts lists missing) split.part) (list_choices counts (choices counts h) lists (missing - 1) split.rest)

  pub list_step : ◌≡◌ {A = ℕ → Tree (List Structure)} (λ (h : ℕ). graft (each_split h) (split_step counts lists missing u)) (λ h. list_choices counts (choices counts h) lists missing u)
  list_step = by missing some
    where
      by : (n : ℕ) → 1 ≤ n
          → ◌≡◌ {A = ℕ → Tree (List Structure)} (λ (h : ℕ). graft (λ split. in_front (choices counts h (first_of counts lists n) split.part) (list_choices counts (choices counts h) lists (n - 1) split.rest)) (split_step counts lists n u)) (λ h. list_choices counts (choices counts h) lists n u)
      by zero some = absurd (omega arith)
      by (suc n) some =
          ap (λ (k : ℕ). λ (h : ℕ). graft (λ split. in_front (choices counts h (first_of counts lists (suc n)) split.part) (list_choices counts (choices counts h) lists k split.rest)) (split_step counts lists (suc n) u))
          (let e : suc n - 1 ≡ n = omega arith in e)

  pub list_fault : {U : Type 0} (before after : List Bool) (old new : List Structure) (fault : StepFault) (r : Result U StepFault) → IsErr r × IsErrAnd r (λ e. e ≡ fault)
      → Follows (split_step counts lists missing u) before (Err fault) after → DrawsList (λ h. list_choices counts (choices counts h) lists missing u) before r old new after
  list_fault before after old new fault r told f =
      list_passed_on (λ h. list_choices counts (choices counts h) lists missing u) before old new after fault r told
      (subst (λ t. Draws t before (Err fault) after) list_step
      (draws_fault each_split (λ h. split_step counts lists missing u) before after fault (draws_always (split_step counts lists missing u) before after (Err fault) f)))

  module _ (split : Split) (before mid : List Bool) (cut : Follows (split_step counts lists missing u) before (Ok split) mid) where
    pub first_fault : {U : Type 0} (after : List Bool) (old new : List Structure) (fault : StepFault) (r : Result U StepFault) → IsErr r × IsErrAnd r (λ e. e ≡ fault)
        → Draws (λ h. choices counts h (first_of counts lists missing) split.part) mid (Err fault) after → DrawsList (λ h. list_choices counts (choices counts h) lists missing u) before r old new after
    first_fault after old new fault r told d =
        list_passed_on (λ h. list_choices counts (choices counts h) lists missing u) before old new after fault r told
        (subst (λ t. Draws t before (Err fault) after) list_step
        (draws_then each_split (λ h. split_step counts lists missing u) split before mid after (Err fault) (draws_always (split_step counts lists missing u) before mid (Ok split) cut)
        (draws_fault (λ h s. ending (λ ss. s ∷ ss) (list_choices counts (choices counts h) lists (missing - 1) split.rest)) (λ h. choices counts h (first_of counts lists missing) split.part) mid after fault d)))

    pub list_more : {U : Type 0} (s : Structure) (next after : List Bool) (old longer new : List Structure) (r : Result U StepFault)
        → Draws (λ h. choices counts h (first_of counts lists missing) split.part) mid (Ok s) next → longer ≡ old ++ s ∷ []
        → DrawsList (λ h. list_choices counts (choices counts h) lists (missing - 1) split.rest) next r longer new after
        → DrawsList (λ h. list_choices counts (choices counts h) lists missing u) before r old new after
    list_more s next after old longer new r first put others =
        list_same (λ h. graft (each_split h) (split_step counts lists missing u)) (λ h. list_choices counts (choices counts h) lists missing u) before r old new after list_step
        (list_then each_split (λ h. split_step counts lists missing u) split before mid r old new after (draws_always (split_step counts lists missing u) before mid (Ok split) cut)
        (list_then (λ h s. ending (λ ss. s ∷ ss) (list_choices counts (choices counts h) lists (missing - 1) split.rest)) (λ h. choices counts h (first_of counts lists missing) split.part) s mid next r old new after
        first (list_behind (s ∷ []) (λ h. list_choices counts (choices counts h) lists (missing - 1) split.rest) next r old longer new after put others)))

-- ---- copies

module _ (counts : Counts) (node element most missing m : ℕ) where
  abbrev pub each_copies : ℕ → Copies → Tree (List Structure)
  each_copies h copies =
      graft (λ s. ending (repeated copies.number s) (repeated_choices counts (choices counts h) node element (most - 1) (missing - copies.number) (m - copies.number * copies.size)))
      (choices counts h element (supply Unlabelled copies.size))

  pub copies_more : 1 ≤ missing → missing ≤ most
      → ◌≡◌ {A = ℕ → Tree (List Structure)} (λ (h : ℕ). graft (each_copies h) (copies_step counts node element missing m)) (λ h. repeated_choices counts (choices counts h) node element most missing m)
  copies_more some within = by most missing some within
    where
      by : (t n : ℕ) → 1 ≤ n → n ≤ t
          → ◌≡◌ {A = ℕ → Tree (List Structure)} (λ (h : ℕ). graft (λ copies. graft (λ s. ending (repeated copies.number s) (repeated_choices counts (choices counts h) node element (t - 1) (n - copies.number) (m - copies.number * copies.size)))
          (choices counts h element (supply Unlabelled copies.size))) (copies_step counts node element n m)) (λ h. repeated_choices counts (choices counts h) node element t n m)
      by t zero some within = absurd (omega arith)
      by zero (suc n) some within = absurd (omega arith)
      by (suc t) (suc n) some within =
          ap (λ (k : ℕ). λ (h : ℕ). graft (λ copies. graft (λ s. ending (repeated copies.number s) (repeated_choices counts (choices counts h) node element k (suc n - copies.number) (m - copies.number * copies.size)))
          (choices counts h element (supply Unlabelled copies.size))) (copies_step counts node element (suc n) m))
          (let e : suc t - 1 ≡ t = omega arith in e)

pub no_copies : (counts : Counts) (node element most m : ℕ) → ◌≡◌ {A = ℕ → Tree (List Structure)} (λ (h : ℕ). end []) (λ h. repeated_choices counts (choices counts h) node element most 0 m)
no_copies counts node element most m = refl

-- ---- nodes

choices_are : (counts : Counts) (node : ℕ) (u : List ℕ) (kind : NodeKind) → HasKind counts.checked node kind → (h : ℕ) → choices counts (suc h) node u ≡ choices_by counts (choices counts h) node u kind
choices_are counts node u kind is h =
    let there = kind_at counts.checked node kind is in
    ap (λ (o : Option Expression). option_map_or (λ e. choices_by counts (choices counts h) node u (kind_of e)) o nothing) there.1
    ∙ ap (choices_by counts (choices counts h) node u) there.2

pub by_kind : (counts : Counts) (node : ℕ) (u : List ℕ) (kind : NodeKind) (before after : List Bool) (r : Result Structure StepFault) → HasKind counts.checked node kind
    → Draws (λ h. choices_by counts (choices counts h) node u kind) before r after → Draws (λ h. choices counts h node u) before r after
by_kind counts node u kind before after r is d =
    draws_deeper (λ h. choices_by counts (choices counts h) node u kind) (λ h. choices counts h node u) before after r (choices_are counts node u kind is) d
