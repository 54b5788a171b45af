use Rattle.std.proofs.Common.{◌∙◌}
use Rattle.indexmap.proofs.CallerLemmas.{insert_entry-new}
use Rattle.spec_syntax.specs.Rules.{is_same_name}
use Rattle.spec_syntax.proofs.spec.append.Goals as goal

pub returns-clause-ok : goal.returns-clause-ok
returns-clause-ok c = c.in_ok-insert.ensures.entries ∙ insert_entry-new is_same_name c.args.rules.now c.args.name c.args.right c.requires
