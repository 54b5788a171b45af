use Rattle.std.proofs.Common.{◌≡◌, ◌≤◌, ◌-◌, vec_len}
use Rattle.std.specs.Io.KnownBytes.{Consumes}
use Rattle.combstruct_cli.proofs.input.read_script.Given as goal

abbrev pub invariant-taking : goal.invariant-taking
invariant-taking g l =
    Consumes (g.S.Source.left l.initial.input) (g.S.Source.left l.input) l.script.items
    × (vec_len l.script ≤ 16777217)
    × (g.S.Source.faults l.input ≡ g.S.Source.faults l.initial.input)

abbrev pub decreases-taking : goal.decreases-taking
decreases-taking g l = 16777217 - vec_len l.script
