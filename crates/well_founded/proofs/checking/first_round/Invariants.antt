use Rattle.std.proofs.Common.{◌≡◌, ℕ, ◌<◌, Some, slice_get}
use Rattle.graphs.specs.Graph.{Leads}
use Rattle.well_founded.proofs.checking.first_round.Given as goal

abbrev pub invariant-loop-place : goal.invariant-loop-place
invariant-loop-place l = (i root : ℕ) → i < l.place → slice_get l.roots i ≡ Some root → Leads l.graph root root → ⊥
