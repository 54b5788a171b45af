use Rattle.std.proofs.Common.{ap, ◌∙◌, inl, inr}
use Rattle.well_founded.specs.Checked.{grammar}
use Rattle.size_counts.proofs.CountLemmas.{kind_here}
use Rattle.size_counts.proofs.RowLemmas.{no_others, is_plain, tell_all_by}
use Rattle.size_counts.proofs.rows.others.Goals as goal

pub returns-in-Epsilon : goal.returns-in-Epsilon
returns-in-Epsilon c = λ e at.
    let kind = kind_here c.args.tables.now.grammar.rules c.args.node e c.kind.result at c.kind.ensures in
    tell_all_by c.new.result _ _ c.new.ensures
    (no_others (grammar c.args.tables.now.grammar) e c.args.m (ap is_plain kind ∙ elim c.in-Epsilon.is [
      | inl epsilon ↦ ap is_plain epsilon
      | inr a ↦ elim a [
        | inl atom ↦ ap is_plain atom
        | inr b ↦ elim b [ inl rule ↦ ap is_plain rule | inr union ↦ ap is_plain union ]
      ]
    ]))
