-- The walks of the table are those over trees.
use Rattle.std.proofs.Common.{◌≡◌, Some, List, [], ◌∷◌, ◌++◌, refl, sym, ap, ◌∙◌, subst, append_assoc}
use Rattle.spec_reader.specs.declared.table.Item.{Item}
use Rattle.spec_reader.specs.declared.draft.Draft.{Draft}
use Rattle.spec_reader.specs.Tokens.{Token}
use Rattle.spec_reader.specs.Grammar.{Marked}
use Rattle.spec_reader.specs.Table.{step}
use Rattle.spec_reader.specs.Drafts.{act}
use Rattle.spec_reader.proofs.Walks.{Walks, walk-append, walk-under}
use Rattle.spec_reader.proofs.Productions.{prints, some, effect, reads, Trees, prints_all, TreesOf, prints_of, marked, BuiltOf, builds}

-- trees of two lists of items
record Split (row is : List Item) (ts : Trees (row ++ is)) : Type 0 where
  pub first : Trees row
  pub rest : Trees is
  pub printed : prints_all (row ++ is) ts ≡ prints_all row first ++ prints_all is rest

split : (row is : List Item) (ts : Trees (row ++ is)) → Split row is ts
split [] is ts = record { first = tt; rest = ts; printed = refl }
split (i ∷ row) is ts =
    let tail = split row is ts.1 in
    record {
      first = (ts.0, tail.first);
      rest = tail.rest;
      printed = ap (λ ms. prints i ts.0 ++ ms) tail.printed ∙ sym (append_assoc (prints i ts.0) (prints_all row tail.first) (prints_all is tail.rest));
    }

-- the trees that tokens are printed from
pub record Printed (is : List Item) (ms : List Marked) : Type 0 where
  pub trees : Trees is
  pub is_so : prints_all is trees ≡ ms

builds-row : (i : Item) (t : Token) (row : List Item) → step i t ≡ Some row → (parts : Trees row) → BuiltOf i t (prints_all row parts)
builds-row i t row fits parts = subst (λ found. (those : TreesOf found) → BuiltOf i t (prints_of found those)) fits (builds i t) parts

-- where a walk ends with nothing expected, its tokens are those of trees
pub walk-trees : (ms : List Marked) (is : List Item) (d e : Draft) → Walks ms is d [] e → Printed is ms
walk-trees [] [] d e walk = record { trees = tt; is_so = refl }
walk-trees [] (i ∷ is) d e walk = cc (walk.0)
walk-trees (m ∷ ms) [] d e walk = absurd walk
walk-trees (m ∷ ms) (i ∷ is) d e walk =
    let row = walk.0 in
    let rest = walk-trees ms (row ++ is) (act i m.token d) e walk.3 in
    let parts = split row is rest.trees in
    let first = builds-row i m.token row walk.1 parts.first in
    let here : marked i m.token ≡ m = λ k. record { role = sym walk.2 k; token = m.token } in
    record {
      trees = (first.built, parts.rest);
      is_so = ap (λ printed. printed ++ prints_all is parts.rest) first.is ∙ (λ k. here k ∷ (sym parts.printed ∙ rest.is_so) k);
    }

-- a walk from what is expected to the end
pub record Completed (is : List Item) (d : Draft) : Type 0 where
  pub marks : List Marked
  pub draft : Draft
  pub walk : Walks marks is d [] draft

pub completes : (is : List Item) (d : Draft) → Completed is d
completes [] d = record { marks = []; draft = d; walk = (refl, refl) }
completes (i ∷ is) d =
    let e = effect i (some i) d in
    let rest = completes is e in
    record {
      marks = prints i (some i) ++ rest.marks;
      draft = rest.draft;
      walk = walk-append (prints i (some i)) rest.marks (i ∷ is) is [] d e rest.draft (walk-under (prints i (some i)) (i ∷ []) [] is d e (reads i (some i) d)) rest.walk;
    }
