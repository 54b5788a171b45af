-- Grammars: rules in a universe.
use Rattle.spec_syntax.specs.declared.statement.Universe.{Universe}
use Rattle.spec_syntax.specs.Rules.{Rules}

pub record Grammar : Type 0 where
  pub rules : Rules
  pub universe : Universe
