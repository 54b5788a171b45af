use Rattle.std.proofs.Common.{◌≡◌, ◌<◌, ap, ◌∙◌, sym, refl, arith, subst, ℕ, List, Some, slice_get, get_or, length}
use Rattle.std.proofs.lemmas.Option.{slice_get_read, slice_get-get_or}
use Rattle.spec_syntax.specs.Expression.{Expression, Epsilon}
use Rattle.spec_syntax.specs.Rules.{all_nodes}
use Rattle.well_founded.specs.Checked.{Checked, IsChecked}
use Rattle.well_founded.proofs.RankFalls.{falls_by_sizes}
use Rattle.well_founded.proofs.grammar.Grammar.rank.Goals as goal

-- what is read is a rank
ranked : (checked : Checked) (items : List ℕ) (node rank : ℕ) → items ≡ checked.ranks → IsChecked checked → node < length (all_nodes checked.rules) → rank ≡ get_or items node rank
    → slice_get checked.ranks node ≡ Some rank
ranked checked items node rank is ok within read =
    ap (λ (xs : List ℕ). slice_get xs node) (sym is) ∙ slice_get_read items (length items) node rank refl (omega (arith, ap length is, ok.ranked.for_each)) read

pub returns-clause-rank : goal.returns-clause-rank
returns-clause-rank c e at =
    let ok : IsChecked c.args.self.now = subst IsChecked c.self.view_is c.self.invariant.checked in
    ok.ranked.each c.args.node c.index.result.now e at
    (ranked c.args.self.now c.self.inside.ranks.items c.args.node c.index.result.now (ap (λ checked. checked.ranks) c.self.view_is) ok c.requires c.index.ensures)

pub returns-clause-falls : goal.returns-clause-falls
returns-clause-falls c e at =
    let ok : IsChecked c.args.self.now = subst IsChecked c.self.view_is c.self.invariant.checked in
    falls_by_sizes c.args.self.now ok c.args.node c.index.result.now e at
    (ranked c.args.self.now c.self.inside.ranks.items c.args.node c.index.result.now (ap (λ checked. checked.ranks) c.self.view_is) ok c.requires c.index.ensures)

pub returns-clause-within : goal.returns-clause-within
returns-clause-within c =
    let ok : IsChecked c.args.self.now = subst IsChecked c.self.view_is c.self.invariant.checked in
    let e : Expression = get_or (all_nodes c.args.self.now.rules) c.args.node Epsilon in
    (ok.ranked.each c.args.node c.index.result.now e (slice_get-get_or (all_nodes c.args.self.now.rules) c.args.node Epsilon c.requires)
    (ranked c.args.self.now c.self.inside.ranks.items c.args.node c.index.result.now (ap (λ checked. checked.ranks) c.self.view_is) ok c.requires c.index.ensures)).within
