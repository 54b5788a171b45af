-- Where bits lead with more bits behind them.
use Rattle.std.proofs.Common.{◌≡◌, ◌⊎◌, ℕ, ◌+◌, ◌-◌, ◌<◌, ◌≤◌, Bool, true, false, cond, List, [], ◌++◌, Option, Some, None, nat_lt, refl, sym, ap, ◌∙◌, inl, inr, arith, append_assoc}
use Rattle.std.specs.Option.{option_and_then}
use Rattle.std.proofs.lemmas.Bool.{cond-true, cond-false, lt-ltb, le-ltb, ltb-true, ltb-false}
use Rattle.std.proofs.lemmas.List.{append-nil}
use Rattle.choice_laws.specs.Trees.{Tree, end, step, Branches, no_branches, more_branches, total}
use Rattle.choice_laws.specs.Bits.{picked, follow, follow_branch}
use Rattle.choice_laws.specs.Even.{IsEnd, IsEndOf, LeadsOn, AllLeadOn}
use Rattle.choice_laws.specs.Laws.{MoreBitsAreLeft, EndsWithMore, BitsEndWithinAStep}
use Rattle.choice_laws.proofs.Picked.{left_of, end_of, picked_alike, picked_below, PicksWithMore, picks_with_more}

abbrev Reached : Type 0 → Type 0
Reached X = Option (X × List Bool)

module _ {X : Type 0} where
  -- what is picked, and what it leads to
  record PicksFirst (bound : ℕ) (bits : List Bool) (lead : ℕ → List Bool → Reached X) (x : X) (left : List Bool) : Type 0 where
    pub value : ℕ
    pub middle : List Bool
    pub picks : ◌≡◌ {A = Option (ℕ × List Bool)} (picked bound bits) (Some (value, middle))
    pub leads : ◌≡◌ {A = Reached X} (lead value middle) (Some (x, left))

  picks_first : (bound : ℕ) (bits : List Bool) (lead : ℕ → List Bool → Reached X) (x : X) (left : List Bool)
      → ◌≡◌ {A = Reached X} (option_and_then (λ p. lead p.0 p.1) (picked bound bits)) (Some (x, left)) → PicksFirst bound bits lead x left
  picks_first bound bits lead x left is = by (picked bound bits) refl is
    where
      by : (found : Option (ℕ × List Bool)) → picked bound bits ≡ found → ◌≡◌ {A = Reached X} (option_and_then (λ p. lead p.0 p.1) found) (Some (x, left))
          → PicksFirst bound bits lead x left
      by None picks is = absurd (cc)
      by (Some (value, middle)) picks is = record { value = value; middle = middle; picks = picks; leads = is }

  alike_at : (small : Bool) (first later first_more later_more : Reached X) (x : X) (left more : List Bool) → ◌≡◌ {A = Reached X} (cond small first later) (Some (x, left))
      → (◌≡◌ {A = Reached X} first (Some (x, left)) → ◌≡◌ {A = Reached X} first_more (Some (x, left ++ more)))
      → (◌≡◌ {A = Reached X} later (Some (x, left)) → ◌≡◌ {A = Reached X} later_more (Some (x, left ++ more)))
      → ◌≡◌ {A = Reached X} (cond small first_more later_more) (Some (x, left ++ more))
  alike_at true first later first_more later_more x left more is on_first on_later = on_first is
  alike_at false first later first_more later_more x left more is on_first on_later = on_later is

  either_end : (small : Bool) (first later : Reached X) (x : X) (left : List Bool) (P Q : Type 0) → ◌≡◌ {A = Reached X} (cond small first later) (Some (x, left))
      → (◌≡◌ {A = Reached X} first (Some (x, left)) → P) → (◌≡◌ {A = Reached X} later (Some (x, left)) → Q) → P ⊎ Q
  either_end true first later x left P Q is on_first on_later = inl (on_first is)
  either_end false first later x left P Q is on_first on_later = inr (on_later is)

  mutual
    pub follow_alike : (tree : Tree X) (x : X) (bits left more : List Bool) → ◌≡◌ {A = Reached X} (follow tree bits) (Some (x, left)) → follow tree (bits ++ more) ≡ Some (x, left ++ more)
    follow_alike (end y) x bits left more is = λ i. Some (end_of y bits x left is i, left_of y bits x left is i ++ more)
    follow_alike (step no_branches) x bits left more is = absurd (cc)
    follow_alike (step (more_branches weight tree no_branches)) x bits left more is = follow_alike tree x bits left more is
    follow_alike (step (more_branches weight tree (more_branches w t others))) x bits left more is =
        let first = picks_first (weight + (w + total others)) bits (follow_branch (more_branches weight tree (more_branches w t others))) x left is in
        ap (option_and_then (λ p. follow_branch (more_branches weight tree (more_branches w t others)) p.0 p.1))
        (picked_alike (weight + (w + total others)) first.value bits first.middle more first.picks)
        ∙ branch_alike (more_branches weight tree (more_branches w t others)) first.value x first.middle left more first.leads

    branch_alike : (branches : Branches X) (value : ℕ) (x : X) (bits left more : List Bool) → ◌≡◌ {A = Reached X} (follow_branch branches value bits) (Some (x, left))
        → follow_branch branches value (bits ++ more) ≡ Some (x, left ++ more)
    branch_alike no_branches value x bits left more is = absurd (cc)
    branch_alike (more_branches weight tree others) value x bits left more is =
        alike_at (nat_lt value weight) (follow tree bits) (follow_branch others (value - weight) bits) (follow tree (bits ++ more)) (follow_branch others (value - weight) (bits ++ more)) x left more
        is (λ first. follow_alike tree x bits left more first) (λ later. branch_alike others (value - weight) x bits left more later)

  mutual
    -- bits lead to an end
    pub leads_within : (tree : Tree X) (x : X) (bits left : List Bool) → ◌≡◌ {A = Reached X} (follow tree bits) (Some (x, left)) → IsEnd x tree
    leads_within (end y) x bits left is = sym (end_of y bits x left is)
    leads_within (step no_branches) x bits left is = absurd (cc)
    leads_within (step (more_branches weight tree no_branches)) x bits left is = inl (leads_within tree x bits left is)
    leads_within (step (more_branches weight tree (more_branches w t others))) x bits left is =
        let first = picks_first (weight + (w + total others)) bits (follow_branch (more_branches weight tree (more_branches w t others))) x left is in
        branch_within (more_branches weight tree (more_branches w t others)) first.value x first.middle left first.leads

    branch_within : (branches : Branches X) (value : ℕ) (x : X) (bits left : List Bool) → ◌≡◌ {A = Reached X} (follow_branch branches value bits) (Some (x, left)) → IsEndOf x branches
    branch_within no_branches value x bits left is = absurd (cc)
    branch_within (more_branches weight tree others) value x bits left is =
        either_end (nat_lt value weight) (follow tree bits) (follow_branch others (value - weight) bits) x left (IsEnd x tree) (IsEndOf x others)
        is (λ first. leads_within tree x bits left first) (λ later. branch_within others (value - weight) x bits left later)

  -- ---- some more bits

  -- some more bits lead through the branches to an end
  record BranchEnds (branches : Branches X) (value : ℕ) (bits : List Bool) : Type 0 where
    pub more : List Bool
    pub reached : X
    pub left : List Bool
    pub follows : ◌≡◌ {A = Reached X} (follow_branch branches value (bits ++ more)) (Some (reached, left))

  first_ends : (weight : ℕ) (tree : Tree X) (others : Branches X) (value : ℕ) (bits : List Bool) → value < weight → EndsWithMore tree bits
      → BranchEnds (more_branches weight tree others) value bits
  first_ends weight tree others value bits small ends = record {
    more = ends.more;
    reached = ends.reached;
    left = ends.left;
    follows = cond-true (nat_lt value weight) (follow tree (bits ++ ends.more)) (follow_branch others (value - weight) (bits ++ ends.more)) (lt-ltb value weight small) ∙ ends.follows;
  }

  later_ends : (weight : ℕ) (tree : Tree X) (others : Branches X) (value : ℕ) (bits : List Bool) → weight ≤ value → BranchEnds others (value - weight) bits
      → BranchEnds (more_branches weight tree others) value bits
  later_ends weight tree others value bits large ends = record {
    more = ends.more;
    reached = ends.reached;
    left = ends.left;
    follows = cond-false (nat_lt value weight) (follow tree (bits ++ ends.more)) (follow_branch others (value - weight) (bits ++ ends.more)) (le-ltb value weight large) ∙ ends.follows;
  }

  either_ends : (weight : ℕ) (tree : Tree X) (others : Branches X) (value : ℕ) (bits : List Bool) → value < weight + total others
      → EndsWithMore tree bits → (value - weight < total others → BranchEnds others (value - weight) bits)
      → BranchEnds (more_branches weight tree others) value bits
  either_ends weight tree others value bits small first later = by (nat_lt value weight) refl
    where
      by : (is_first : Bool) → nat_lt value weight ≡ is_first → BranchEnds (more_branches weight tree others) value bits
      by true is = first_ends weight tree others value bits (ltb-true value weight is) first
      by false is = let large = ltb-false value weight is in later_ends weight tree others value bits large (later (omega (arith, small, large)))

  through_step : (weight : ℕ) (tree : Tree X) (w : ℕ) (t : Tree X) (others : Branches X) (bits : List Bool) (picks : PicksWithMore (weight + (w + total others)) bits)
      → BranchEnds (more_branches weight tree (more_branches w t others)) picks.value picks.left
      → EndsWithMore (step (more_branches weight tree (more_branches w t others))) bits
  through_step weight tree w t others bits picks ends =
      let branches = more_branches weight tree (more_branches w t others) in
      let bound : ℕ = weight + (w + total others) in
      record {
        more = picks.more ++ ends.more;
        reached = ends.reached;
        left = ends.left;
        follows =
            ap (λ found. option_and_then (λ p. follow_branch branches p.0 p.1) (picked bound found)) (sym (append_assoc bits picks.more ends.more))
            ∙ ap (option_and_then (λ p. follow_branch branches p.0 p.1)) (picked_alike bound picks.value (bits ++ picks.more) picks.left ends.more picks.picks)
            ∙ ends.follows;
      }

  mutual
    pub ends_with_more : (tree : Tree X) (bits : List Bool) → LeadsOn tree → EndsWithMore tree bits
    ends_with_more (end x) bits leads = record { more = []; reached = x; left = bits; follows = ap (λ left. Some (x, left)) (append-nil bits) }
    ends_with_more (step no_branches) bits leads = absurd leads
    ends_with_more (step (more_branches weight tree no_branches)) bits leads =
        let ends = ends_with_more tree bits leads.1.0 in record { more = ends.more; reached = ends.reached; left = ends.left; follows = ends.follows }
    ends_with_more (step (more_branches weight tree (more_branches w t others))) bits leads =
        let picks = picks_with_more (weight + (w + total others)) bits (omega (arith, leads.0, leads.1.1.0)) in
        through_step weight tree w t others bits picks
        (branch_ends (more_branches weight tree (more_branches w t others)) picks.value picks.left
        (picked_below (weight + (w + total others)) picks.value (bits ++ picks.more) picks.left picks.picks) leads)

    branch_ends : (branches : Branches X) (value : ℕ) (bits : List Bool) → value < total branches → AllLeadOn branches → BranchEnds branches value bits
    branch_ends no_branches value bits small lead = absurd (omega (arith, small))
    branch_ends (more_branches weight tree others) value bits small lead =
        either_ends weight tree others value bits small (ends_with_more tree bits lead.1.0) (λ smaller. branch_ends others (value - weight) bits smaller lead.1.1)

pub more_bits_are_left : (X : Type 0) → MoreBitsAreLeft X
more_bits_are_left X = record {
  picked_alike = picked_alike;
  follows_alike = follow_alike;
}

pub bits_end_within_a_step : (X : Type 0) → BitsEndWithinAStep X
bits_end_within_a_step X = record {
  ends = λ tree bits leads none. ends_with_more tree bits leads;
  lead_within = leads_within;
}
