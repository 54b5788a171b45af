use Rattle.spec_reader.specs.TokenView.{plain}
use Rattle.spec_reader.proofs.SoundLemmas.{takes-sound}
use Rattle.spec_reader.proofs.read.Reader.take.Goals as goal

pub returns-clause-sound : goal.returns-clause-sound
returns-clause-sound c =
    takes-sound c.args.self.now c.in-Some.item c.pop.new.self c.expand.new.stack c.in_ok-expand.field-0 c.role.result (plain c.args.placed.now.token) c.admit.new.self c.act.new.self
    c.in-Some.ensures c.in_ok-expand.ensures c.if-not-branch.false c.role.ensures c.in_ok-admit.ensures.passes c.in_ok-admit.ensures.after c.in_ok-act.ensures c.requires.spelled c.requires.sound
