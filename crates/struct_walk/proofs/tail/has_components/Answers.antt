use Rattle.std.proofs.Common.{◌≡◌, ◌≤◌, length, sym, ap, ◌∙◌, subst}
use Rattle.spec_syntax.specs.Nodes.{children_at}
use Rattle.struct_walk.specs.declared.tail.Tail.TheVariants.{Components}
use Rattle.struct_walk.specs.Tails.{AreComponents, tail_number}
use Rattle.struct_walk.proofs.TailLemmas.{first_lists, later_lists, no_lists_left, tells_some, tells_none}
use Rattle.struct_walk.proofs.tail.has_components.Goals as goal

pub returns-then-place-eq0 : goal.returns-then-place-eq0
returns-then-place-eq0 c =
    let counts = c.args.counted.now in
    let start : c.args.place ≡ 0 = c.if-place-eq0.true in
    let first : AreComponents counts c.args.node 0 = subst (AreComponents counts c.args.node) start c.requires.components in
    tells_some c.number.result (tail_number counts.checked (Components c.args.node c.args.place) c.args.n)
    (c.number.ensures ∙ first_lists counts c.grammar-grammar.ensures.kept c.args.node c.args.n first
    ∙ ap (λ place. tail_number counts.checked (Components c.args.node place) c.args.n) (sym start))

pub returns-then-place-children : goal.returns-then-place-children
returns-then-place-children c =
    let counts = c.args.counted.now in
    tells_some c.suffix.result (tail_number counts.checked (Components c.args.node c.args.place) c.args.n)
    (c.suffix.ensures ∙ later_lists counts c.grammar-grammar.ensures.kept c.args.node c.args.place c.args.n c.requires.components)

pub returns-else-place-children : goal.returns-else-place-children
returns-else-place-children c =
    let counts = c.args.counted.now in
    let all : c.children.result ≡ length (children_at counts.checked.rules c.args.node) =
    c.children.ensures ∙ ap (λ checked. length (children_at checked.rules c.args.node)) c.grammar-grammar.ensures.value in
    tells_none c.args.n (tail_number counts.checked (Components c.args.node c.args.place) c.args.n)
    (no_lists_left counts c.grammar-grammar.ensures.kept c.args.node c.args.place c.args.n c.requires.components (subst (λ k. k ≤ c.args.place) all c.if-place-children.false))
