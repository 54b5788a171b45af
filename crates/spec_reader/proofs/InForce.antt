-- A statement that is read is in force.
use Rattle.std.proofs.Common.{subst}
use Rattle.spec_syntax.specs.declared.statement.Statement.{Statement}
use Rattle.spec_reader.specs.declared.table.Command.TheVariants as command
use Rattle.spec_reader.specs.Grammar as tree
use Rattle.spec_reader.specs.Grammar.{StatementTree}
use Rattle.spec_reader.specs.Meaning.{meaning}
use Rattle.spec_reader.specs.Laws.{FormIsInForce, ReadingsAreInForce}

meaning-in-force : (statement : StatementTree) → FormIsInForce (meaning statement).form
meaning-in-force (tree.Bare end) = tt
meaning-in-force (tree.Asks (tree.About command.AllStructs class digits) end) = tt
meaning-in-force (tree.Asks (tree.About command.Count class digits) end) = tt

pub readings-in-force : ReadingsAreInForce
readings-in-force piece read reads = subst (λ (s : Statement). FormIsInForce s.form) reads.reads.means (meaning-in-force reads.reads.tree)
