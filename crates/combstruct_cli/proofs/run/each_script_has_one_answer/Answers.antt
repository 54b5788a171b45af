use Rattle.std.specs.Prelude.{map, string_bytes}
use Rattle.combstruct_cli.proofs.Unique.{some-script, one-script}
use Rattle.combstruct_cli.proofs.run.each_script_has_one_answer.Goals as goal

pub returns-clause-some : goal.returns-clause-some
returns-clause-some c = some-script (map string_bytes c.args._words.now.items)

pub returns-clause-one : goal.returns-clause-one
returns-clause-one c = one-script (map string_bytes c.args._words.now.items)
