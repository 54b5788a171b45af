use Rattle.std.proofs.Common.{◌≤◌, ◌-◌, ℕ, Err, rules, refl, sym, subst, ◌∙◌}
use Rattle.std.specs.Io.KnownBytes.{Consumes}
use Rattle.std.proofs.KnownBytes.{Consumes-trans}
use Rattle.combstruct_cli.specs.Input.{TookWithin}
use Rattle.combstruct_cli.proofs.InputLemmas.{TookWithin-after}
use Rattle.combstruct_cli.proofs.RunLemmas.{HasRunCause-after}
use Rattle.combstruct_cli.proofs.input.read_script.Goals as goal

pub returns-in-Err-clause-front : goal.returns-in-Err-clause-front
returns-in-Err-clause-front g c =
    let before = g.S.Source.left c.args.input.now in
    let mid = g.S.Source.left c.taking.input in
    let after = g.S.Source.left c.read_more.new.input in
    let counts = c.taking.script.ok.0 in
    TookWithin-after 16777217 c.taking.script.items before mid after
    (subst (λ n. n ≤ 16777217) counts c.taking.invariant.1) c.taking.invariant.0
    (subst (λ n. TookWithin (16777217 - n) mid after) counts c.read_more.ensures.front)

pub returns-in-Err-clause-cause : goal.returns-in-Err-clause-cause
returns-in-Err-clause-cause g c =
    λ out err.
    HasRunCause-after {A = ℕ} (g.S.Source.faults c.args.input.now) (g.S.Source.faults c.taking.input) (g.S.Source.faults c.read_more.new.input) out out out err err err
    (Err c.in-Err.fault) (c.taking.invariant.2, refl, refl) (c.in-Err.ensures.cause out err)

pub returns-then-count-eq0-clause-cause : goal.returns-then-count-eq0-clause-cause
returns-then-count-eq0-clause-cause g c = λ out err. ((c.in-Ok.ensures.cause out err).0 ∙ c.taking.invariant.2, refl, refl)

pub returns-clause-cause : goal.returns-clause-cause
returns-clause-cause g c = λ out err. (c.taking.invariant.2, refl, refl)

pub taking-preserved : goal.taking-preserved
taking-preserved g c =
    let before = g.S.Source.left c.args.input.now in
    let after = g.S.Source.left c.read_more.new.input in
    let taken = c.in-Ok.ensures.taken in (
      subst (Consumes before after) (sym taken.grown) (Consumes-trans before (g.S.Source.left c.taking.input) after c.taking.script.items taken.piece c.taking.invariant.0 taken.taken),
      search rules,
      (c.in-Ok.ensures.cause 0 0).0 ∙ c.taking.invariant.2,
    )
