use Rattle.std.proofs.Common.{◌≡◌, ◌≤◌, ◌-◌, length, drop, IsTrue}
use Rattle.spec_reader.specs.Tokens.{tokens, tokens_from}
use Rattle.spec_reader.specs.Machine.{run, start, is_sound}
use Rattle.spec_reader.proofs.read.read_tokens.Given as goal

abbrev pub invariant-loop-placed : goal.invariant-loop-placed
invariant-loop-placed l =
    (l.at ≤ length l.piece)
    × IsTrue (is_sound l.reader)
    × (run l.reader (length l.piece) (tokens_from 0 l.at (drop l.at l.piece)) ≡ run start (length l.piece) (tokens l.piece))

abbrev pub decreases-loop-placed : goal.decreases-loop-placed
decreases-loop-placed l = length l.piece - l.at
