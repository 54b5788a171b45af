use Rattle.std.proofs.Common.{◌≡◌, ◌++◌, List, ℕ, None, IsTrue, sym, ◌∙◌, ap, subst}
use Rattle.std.specs.Map.{lookup}
use Rattle.spec_syntax.specs.Rules.{Rules, is_spec, is_same_name}
use Rattle.spec_syntax.proofs.RulesLemmas.{lookup-from_spec}
use Rattle.spec_syntax.proofs.spec.Spec.copy.Goals as goal

-- the names of a specification are distinct, so the next one is new to the copy
pub append-requires : goal.append-requires
append-requires c =
    let IsNew : List ℕ → Type 0 = λ name. lookup (is_same_name name) c.loop-name.rules.entries ≡ None in
    let Facts : Rules → Type 0 = λ rules. IsTrue (is_spec rules) in
    let split : c.args.self.now ≡ c.loop-name.rules.entries ++ c.loop-name.name-iterator = c.loop-name.invariant in
    subst IsNew (sym (c.in_ok-name.ensures ∙ c.as_slice.ensures))
    (lookup-from_spec c.args.self.now c.loop-name.rules.entries c.in-Some.name.now c.in-Some.right.now c.next.new.self
    (split ∙ ap (λ (rest : Rules). c.loop-name.rules.entries ++ rest) c.in-Some.ensures.steps)
    (subst Facts c.self.view_is c.self.invariant))
