-- Walks of the table over marked tokens: what is expected after them, and what is built.
use Rattle.std.proofs.Common.{◌≡◌, Some, List, [], ◌∷◌, ◌++◌, refl, sym, ap, ◌∙◌, subst, append_assoc}
use Rattle.spec_reader.specs.declared.table.Item.{Item}
use Rattle.spec_reader.specs.declared.draft.Draft.{Draft}
use Rattle.spec_reader.specs.Tokens.{Token}
use Rattle.spec_reader.specs.Grammar.{Marked}
use Rattle.spec_reader.specs.Table.{step, role_of}
use Rattle.spec_reader.specs.Drafts.{act}
use Rattle.spec_reader.specs.Reading.{unmarked}

-- from these items and this draft the tokens lead to those
abbrev pub Walks : List Marked → List Item → Draft → List Item → Draft → Type 0
Walks [] is d js e = (is ≡ js) × (d ≡ e)
Walks (m ∷ ms) [] d js e = ⊥
Walks (m ∷ ms) (i ∷ is) d js e = (row : List Item) × (step i m.token ≡ Some row) × (m.role ≡ role_of i) × Walks ms (row ++ is) (act i m.token d) js e

-- one walk after another
pub walk-append : (ms ns : List Marked) (is js ks : List Item) (d e f : Draft) → Walks ms is d js e → Walks ns js e ks f → Walks (ms ++ ns) is d ks f
walk-append [] ns is js ks d e f first second = subst (λ (p : List Item × Draft). Walks ns p.0 p.1 ks f) (λ i. (sym first.0 i, sym first.1 i)) second
walk-append (m ∷ ms) ns [] js ks d e f first second = absurd first
walk-append (m ∷ ms) ns (i ∷ is) js ks d e f first second =
    (first.0, first.1, first.2, walk-append ms ns (first.0 ++ is) js ks (act i m.token d) e f first.3 second)

-- a walk over the top of the stack
pub walk-under : (ms : List Marked) (is js ks : List Item) (d e : Draft) → Walks ms is d js e → Walks ms (is ++ ks) d (js ++ ks) e
walk-under [] is js ks d e walk = (ap (λ items. items ++ ks) walk.0, walk.1)
walk-under (m ∷ ms) [] js ks d e walk = absurd walk
walk-under (m ∷ ms) (i ∷ is) js ks d e walk =
    let rest : Walks ms ((walk.0 ++ is) ++ ks) (act i m.token d) (js ++ ks) e = walk-under ms (walk.0 ++ is) js ks (act i m.token d) e walk.3 in
    (walk.0, walk.1, walk.2, subst (λ items. Walks ms items (act i m.token d) (js ++ ks) e) (append_assoc walk.0 is ks) rest)

-- where a walk stands after some of its tokens
pub record Stands (ms ns : List Marked) (is : List Item) (d : Draft) (ks : List Item) (f : Draft) : Type 0 where
  pub items : List Item
  pub draft : Draft
  pub first : Walks ms is d items draft
  pub second : Walks ns items draft ks f

pub walk-split : (ms ns : List Marked) (is ks : List Item) (d f : Draft) → Walks (ms ++ ns) is d ks f → Stands ms ns is d ks f
walk-split [] ns is ks d f walk = record { items = is; draft = d; first = (refl, refl); second = walk }
walk-split (m ∷ ms) ns [] ks d f walk = absurd walk
walk-split (m ∷ ms) ns (i ∷ is) ks d f walk =
    let rest = walk-split ms ns (walk.0 ++ is) ks (act i m.token d) f walk.3 in
    record { items = rest.items; draft = rest.draft; first = (walk.0, walk.1, walk.2, rest.first); second = rest.second }

-- the tokens decide a walk: their roles, and where it leads
pub record Same (ms ns : List Marked) (js ks : List Item) (e f : Draft) : Type 0 where
  pub marks : ms ≡ ns
  pub items : js ≡ ks
  pub drafts : e ≡ f

pub walk-same : (ms ns : List Marked) (is js ks : List Item) (d e f : Draft) → Walks ms is d js e → Walks ns is d ks f → unmarked ms ≡ unmarked ns → Same ms ns js ks e f
walk-same [] [] is js ks d e f first second same = record { marks = refl; items = sym first.0 ∙ second.0; drafts = sym first.1 ∙ second.1 }
walk-same [] (n ∷ ns) is js ks d e f first second same = cc
walk-same (m ∷ ms) [] is js ks d e f first second same = cc
walk-same (m ∷ ms) (n ∷ ns) [] js ks d e f first second same = absurd first
walk-same (m ∷ ms) (n ∷ ns) (i ∷ is) js ks d e f first second same =
    let token : n.token ≡ m.token = cc in
    let rest : unmarked ms ≡ unmarked ns = cc in
    let rows : second.0 ≡ first.0 = let step-same : step i n.token ≡ step i m.token = ap (step i) token in cc (step-same, first.1, second.1) in
    let next : Walks ns (first.0 ++ is) (act i m.token d) ks f =
    subst (λ (p : List Item × Token). Walks ns (p.0 ++ is) (act i p.1 d) ks f) (λ i. (rows i, token i)) second.3 in
    let tail = walk-same ms ns (first.0 ++ is) js ks (act i m.token d) e f first.3 next rest in
    let head : m ≡ n = λ k. record { role = (first.2 ∙ sym second.2) k; token = sym token k } in
    record { marks = λ k. head k ∷ tail.marks k; items = tail.items; drafts = tail.drafts }
