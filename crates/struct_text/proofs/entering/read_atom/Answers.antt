-- The word, and a label.
use Rattle.std.proofs.Common.{arith}
use Rattle.struct_text.proofs.Leaves.{atom_read, no_atom_label}
use Rattle.struct_text.proofs.entering.read_atom.Goals as goal

pub returns-in_default : goal.returns-in_default
returns-in_default c =
    λ rules spelled. no_atom_label rules c.args.universe c.args.rule c.args.left.now c.args.word.now c.take.new.self spelled
    (c.take.ensures.taken (grind (arith, c.if-not-take.false))) c.in_default.ensures

pub returns : goal.returns
returns c =
    λ rules spelled. atom_read rules c.args.universe c.args.rule c.in-Some.label c.args.left.now c.args.word.now c.take.new.self c.take_label.new.self c.requires spelled
    (c.take.ensures.taken (grind (arith, c.if-not-take.false))) c.in-Some.ensures
