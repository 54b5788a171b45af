use Rattle.std.proofs.Common.{◌≡◌, ◌++◌, reverse}
use Rattle.spec_reader.proofs.stack.Stack.push_all.Given as goal

abbrev pub invariant-loop-item : goal.invariant-loop-item
invariant-loop-item g l =
    l.item-iterator.iter.rest.now ++ reverse l.self-inside.items.items ≡ l.items ++ reverse l.initial.self-inside.items.items
