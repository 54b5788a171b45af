use Rattle.std.proofs.Common.{◌≡◌, ℕ, List, length}
use Rattle.std.specs.Prelude.{IsTrue}
use Rattle.struct_model.specs.Membership.{is_supply}
use Rattle.struct_walk.specs.After.{arguments_behind}
use Rattle.struct_walk.proofs.arguments.next_argument.Given as goal

abbrev pub invariant-loop-place : goal.invariant-loop-place
invariant-loop-place l = (u : List ℕ) → IsTrue (is_supply l.counted.checked.universe u) → length u ≡ l.n
    → arguments_behind l.counted.checked l.node l.number u ≡ arguments_behind l.counted.checked l.node l.place u
