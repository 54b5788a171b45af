-- A sorted list stays sorted with the structure.
use Rattle.std.proofs.Common.{◌≡◌, ℕ, true, List, insert, sym, ◌∙◌, ap}
use Rattle.std.proofs.lemmas.Result.{on_ok_weaker}
use Rattle.struct_model.specs.Structure.{Structure}
use Rattle.struct_model.specs.Order.{is_sorted}
use Rattle.canon.specs.Sorted.{with_item}
use Rattle.canon.proofs.SortedLists.{with_item_sorted}
use Rattle.canon.proofs.sorted.put_sorted.Goals as goal

stays_sorted : (before seen after : List Structure) (p : ℕ) (s : Structure) → seen ≡ before → is_sorted before ≡ true → insert seen p s ≡ with_item s seen → after ≡ insert before p s
    → is_sorted after ≡ true
stays_sorted before seen after p s same sorted place put =
    ap is_sorted (put ∙ ap (λ zs. insert zs p s) (sym same) ∙ place ∙ ap (with_item s) same) ∙ with_item_sorted s before sorted

pub returns-clause-sorted : goal.returns-clause-sorted
returns-clause-sorted c =
    on_ok_weaker c.insert.result (λ put. stays_sorted _ _ _ _ _ c.as_slice.ensures c.requires c.place_of-place.ensures.place put) c.insert.ensures.ok
