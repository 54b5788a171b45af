-- Steps to a number of a range, by the place of its weight.
use Rattle.std.proofs.Common.{◌≡◌, ◌<◌, ◌+◌, ℕ, Bool, List, map, slice_get, slice_index_or, true≢false, Some, Result, Ok, Err, sym, ap, ◌∙◌, subst, arith}
use Rattle.std.specs.Result.{IsErr, IsErrAnd}
use Rattle.std.specs.List.{range_with_len}
use Rattle.choice_laws.specs.Trees.{Tree}
use Rattle.draw_steps.specs.declared.fault.StepFault.{StepFault}
use Rattle.draw_steps.specs.Steps.{among, by_weight}
use Rattle.draw_steps.specs.Draws.{Follows}
use Rattle.draw_steps.proofs.Among.{follows_among, place_within, weight_at, range_at, range_length}

-- a fault that is passed on
pub same_fault : {X : Type 0} (tree : Tree X) (before after : List Bool) (fault : StepFault) (r : Result X StepFault) → IsErr r × IsErrAnd r (λ e. e ≡ fault)
    → Follows tree before (Err fault) after → Follows tree before r after
same_fault tree before after fault (Ok x) told h = absurd (true≢false (sym told.0))
same_fault tree before after fault (Err e) told h = subst (λ (f : StepFault). Follows tree before (Err f) after) (sym told.1) h

module _ (f : ℕ → ℕ) (first count : ℕ) (weights : List ℕ) (are : weights ≡ map f (range_with_len first count)) where
  pub range_within : (i : ℕ) → 0 < slice_index_or weights i 0 → i < count
  range_within i some = omega (arith, place_within f (range_with_len first count) weights i are some, range_length first count)

  range_there : (i p : ℕ) → first + i ≡ p → 0 < slice_index_or weights i 0 → slice_get (range_with_len first count) i ≡ Some p
  range_there i p is some = range_at first count i (range_within i some) ∙ ap Some is

  pub range_positive : (i p : ℕ) → first + i ≡ p → 0 < slice_index_or weights i 0 → 0 < f p
  range_positive i p is some = subst (λ (n : ℕ). 0 < n) (weight_at f (range_with_len first count) weights i p are (range_there i p is some)) some

  pub range_follows : (i p : ℕ) (before after : List Bool) → first + i ≡ p → 0 < slice_index_or weights i 0 → Follows (by_weight weights) before (Ok i) after
      → Follows (among f (range_with_len first count)) before (Ok p) after
  range_follows i p before after is some h = follows_among f (range_with_len first count) weights i p before after are (range_there i p is some) h
