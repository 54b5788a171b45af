use Rattle.std.proofs.Common.{◌++◌, [], ◌∷◌, sym, ap}
use Rattle.spec_syntax.specs.Rules.{Rules}
use Rattle.spec_syntax.proofs.RulesLemmas.{lookup-from_spec}
use Rattle.spec_syntax.proofs.spec.Spec.add.Goals as goal

pub append-requires : goal.append-requires
append-requires c =
    lookup-from_spec (c.args.self.now ++ (c.args.name, c.args.right) ∷ []) c.self.inside.rules.entries c.args.name c.args.right []
    (ap (λ (rules : Rules). rules ++ (c.args.name, c.args.right) ∷ []) (sym c.self.view_is)) c.requires
