-- Ranks of nodes: the rank falls on each way down in a structure where the size stays.
use Rattle.std.specs.Prelude.{◌≡◌, ℕ, suc, ◌<◌, List, length, slice_get, Some, IsTrue}
use Rattle.spec_syntax.specs.Card.{admits}
use Rattle.spec_syntax.specs.Expression as expr
use Rattle.spec_syntax.specs.Expression.{Expression}
use Rattle.spec_syntax.specs.Rules.{Rules, all_nodes}
use Rattle.spec_syntax.specs.Grammar.{Grammar}
use Rattle.struct_model.specs.declared.tree.Form5.TheVariants as form
use Rattle.struct_model.specs.Structure.{Structure, Eps, Atom, Named, Alt, Tup, part_list, size}
use Rattle.lists.specs.Enumeration.{IsIn}
use Rattle.well_founded.specs.Sizes.{IsOf, no_least}
use Rattle.well_founded.specs.SameSize.{is_told_inside}
use Rattle.spec_syntax.specs.Nodes.{node_at, children_of, below}

-- the second stands directly inside the first, as a structure of the place from 0 among what can stand there: an argument of a
-- Union, a component of a Prod, the one right side of a name or the one element of a container
abbrev pub StandsAt : Structure → ℕ → Structure → Type 0
StandsAt (Eps rule) place t = ⊥
StandsAt (Atom rule label) place t = ⊥
StandsAt (Named rule s) place t = (place ≡ 0) × (s ≡ t)
StandsAt (Alt argument s) place t = (argument ≡ suc place) × (s ≡ t)
StandsAt (Tup form.Prod ss) place t = slice_get (part_list ss) place ≡ Some t
StandsAt (Tup form.Sequence ss) place t = (place ≡ 0) × IsIn t (part_list ss)
StandsAt (Tup form.Set ss) place t = (place ≡ 0) × IsIn t (part_list ss)
StandsAt (Tup form.PowerSet ss) place t = (place ≡ 0) × IsIn t (part_list ss)
StandsAt (Tup form.Cycle ss) place t = (place ≡ 0) × IsIn t (part_list ss)

-- a structure of f can stand directly inside one of e of the same size, at this place
pub record CanFill (g : Grammar) (e : Expression) (place : ℕ) (f : Expression) : Type 0 where
  pub outer : Structure
  pub inner : Structure
  pub is_outer : IsOf g e outer
  pub is_inner : IsOf g f inner
  pub stands : StandsAt outer place inner
  pub same_size : size inner ≡ size outer

-- below the number of nodes, and above the rank of each node whose structure can stand directly inside one of this
-- node's of the same size
pub record IsRank (g : Grammar) (ranks : List ℕ) (n : ℕ) (e : Expression) (rank : ℕ) : Type 0 where
  pub within : rank < length (all_nodes g.rules)
  pub falls : (place m r : ℕ) (f : Expression) → slice_get (below g.rules n e) place ≡ Some m → node_at g.rules m ≡ Some f → slice_get ranks m ≡ Some r
      → CanFill g e place f → r < rank

-- each node has a rank
pub record AreRanks (g : Grammar) (ranks : List ℕ) : Type 0 where
  pub for_each : length ranks ≡ length (all_nodes g.rules)
  pub each : (n r : ℕ) (e : Expression) → node_at g.rules n ≡ Some e → slice_get ranks n ≡ Some r → IsRank g ranks n e r

-- can a structure of node number m, at the place below the expression, which is node number n, have all the atoms of the
-- structure around it, as told by least sizes; of a name's structure it has them, where the right side isn't a word
abbrev pub CanHaveAll : Rules → List ℕ → ℕ → Expression → ℕ → ℕ → Type 0
CanHaveAll rules leasts n expr.Epsilon place m = ⊥
CanHaveAll rules leasts n expr.Atom place m = ⊥
CanHaveAll rules leasts n (expr.Name name) place m = (right : Expression) → node_at rules m ≡ Some right → IsTrue (is_told_inside right)
CanHaveAll rules leasts n (expr.Union arguments) place m = Unit {0}
CanHaveAll rules leasts n (expr.Prod arguments) place m =
    (other k : ℕ) → slice_get (children_of n (expr.Prod arguments)) other ≡ Some k → (other ≡ place → ⊥) → slice_get leasts k ≡ Some 0
CanHaveAll rules leasts n (expr.Many kind element card) place m = IsTrue (admits card 1)

-- above the rank of each node below this one that has a structure of a size that can be asked for, where such a structure can
-- have all the atoms
abbrev pub FallsBySizes : Rules → List ℕ → List ℕ → ℕ → Expression → ℕ → Type 0
FallsBySizes rules leasts ranks n e rank =
    (place m least r : ℕ) → slice_get (below rules n e) place ≡ Some m → slice_get leasts m ≡ Some least → slice_get ranks m ≡ Some r
    → least < no_least → CanHaveAll rules leasts n e place m → r < rank
