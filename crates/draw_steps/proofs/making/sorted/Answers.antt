-- At the end all components are there.
use Rattle.std.proofs.Common.{ℕ, ap, ◌∙◌, drop, arith, ◌≡◌}
use Rattle.draw_steps.specs.Containers.{atoms, sorted}
use Rattle.draw_steps.proofs.Atoms.{atoms_sorted}
use Rattle.draw_steps.proofs.making.sorted.Goals as goal

pub returns-clause-atoms : goal.returns-clause-atoms
returns-clause-atoms c =
    let done : c.loop-before.before ≡ 0 = let h = c.loop-before-test.false in omega arith in
    ap atoms c.loop-before.invariant.0 ∙ ap (λ (n : ℕ). atoms (sorted (drop n c.args.components.now))) done ∙ atoms_sorted c.args.components.now
