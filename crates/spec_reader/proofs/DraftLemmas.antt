-- What is built stays well formed, and holds no more expressions than were read.
use Rattle.std.proofs.Common.{◌≡◌, ℕ, ◌+◌, ◌-◌, ◌≤◌, true, Some, None, List, [], ◌∷◌, ◌++◌, length-append, refl, ◌∙◌, subst, arith}
use Rattle.std.specs.List.{list_all}
use Rattle.std.proofs.lemmas.Bool.Decides.{nat_tests}
use Rattle.std.proofs.lemmas.List.Sums.{sum_by-cons}
use Rattle.spec_syntax.specs.Card.{is_writable}
use Rattle.spec_syntax.specs.Expression.{Expression, Union, Prod, Many, preorder, preorder_of_all, expressions_of, nodes, nodes_of_all, has_some, is_well_formed, are_well_formed}
use Rattle.spec_syntax.specs.declared.expr.Kind.{Kind}
use Rattle.spec_reader.specs.declared.table.Item.{Item}
use Rattle.spec_reader.specs.declared.table.Item.TheVariants as item
use Rattle.spec_reader.specs.declared.table.Former.{Former}
use Rattle.spec_reader.specs.declared.table.Former.TheVariants as former
use Rattle.spec_reader.specs.declared.table.Comparison.{Comparison}
use Rattle.spec_reader.specs.declared.table.Comparison.TheVariants as compare
use Rattle.spec_reader.specs.declared.draft.Bound.{Bound}
use Rattle.spec_reader.specs.declared.draft.Compound.{Compound}
use Rattle.spec_reader.specs.declared.draft.Compound.TheVariants.{Several, Container}
use Rattle.spec_reader.specs.declared.draft.Draft.{Draft}
use Rattle.spec_reader.specs.Meaning.{card_by}
use Rattle.spec_reader.specs.Drafts.{put, close, unbounded, rebound, is_filled, is_ready, is_well_begun, begun, built}

pub nodes-push : (es : List Expression) (e : Expression) → nodes_of_all (expressions_of (es ++ e ∷ [])) ≡ nodes_of_all (expressions_of es) + nodes e
nodes-push [] e = omega (arith, length-append (preorder e) [])
nodes-push (first ∷ es) e =
    omega (arith, nodes-push es e, length-append (preorder first) (preorder_of_all (expressions_of es)), length-append (preorder first) (preorder_of_all (expressions_of (es ++ e ∷ []))))

pub well_formed-push : (es : List Expression) (e : Expression) → are_well_formed (expressions_of es) ≡ true → is_well_formed e ≡ true → are_well_formed (expressions_of (es ++ e ∷ [])) ≡ true
well_formed-push [] e all here = grind (arith, here)
well_formed-push (first ∷ es) e all here = grind (arith, well_formed-push es e)

pub some-push : (es : List Expression) (e : Expression) → has_some (expressions_of (es ++ e ∷ [])) ≡ true
some-push [] e = refl
some-push (first ∷ es) e = refl

-- a draft whose expressions are well formed, of so many
pub record Holds (n : ℕ) (draft : Draft) : Type 0 where
  pub rights : list_all is_well_formed draft.rights ≡ true
  pub pending : list_all is_well_begun draft.pending ≡ true
  pub count : built draft ≤ n

abbrev draft_of : Draft → List Expression → List Compound → Draft
draft_of draft rights pending = record draft { rights = rights; pending = pending }

put-parts : (n : ℕ) (e : Expression) (draft : Draft) (rights : List Expression) (pending : List Compound)
    → Holds n (draft_of draft rights pending) → is_well_formed e ≡ true → Holds (n + nodes e) (put e (draft_of draft rights pending))
put-parts n e draft rights [] holds whole = record {
  rights = grind (arith, whole, holds.rights);
  pending = refl;
  count = omega (arith, holds.count, sum_by-cons nodes e rights);
}
put-parts n e draft rights (Several f es ∷ pending) holds whole = record {
  rights = holds.rights;
  pending = grind (arith, holds.pending, well_formed-push es e);
  count = omega (arith, holds.count, nodes-push es e, sum_by-cons begun (Several f es) pending, sum_by-cons begun (Several f (es ++ e ∷ [])) pending);
}
put-parts n e draft rights (Container k element bound ∷ pending) holds whole = record {
  rights = holds.rights;
  pending = grind (arith, holds.pending, whole);
  count = omega (arith, holds.count, sum_by-cons begun (Container k element bound) pending, sum_by-cons begun (Container k (Some e) bound) pending);
}

-- one more expression that is whole
pub put-holds : (n : ℕ) (e : Expression) (draft : Draft) → Holds n draft → is_well_formed e ≡ true → Holds (n + nodes e) (put e draft)
put-holds n e draft holds whole = put-parts n e draft draft.rights draft.pending holds whole

-- what becomes whole is put in place of its parts
closed-holds : (n : ℕ) (compound : Compound) (e : Expression) (draft : Draft) (rights : List Expression) (pending : List Compound)
    → Holds n (draft_of draft rights (compound ∷ pending)) → is_well_formed e ≡ true → nodes e ≡ begun compound
    → Holds n (put e (draft_of draft rights pending))
closed-holds n compound e draft rights pending holds whole same =
    let less : Holds (n - nodes e) (draft_of draft rights pending) = record {
      rights = holds.rights;
      pending = grind (arith, holds.pending);
      count = omega (arith, holds.count, sum_by-cons begun compound pending);
    } in
    let all : n - nodes e + nodes e ≡ n = omega (arith, holds.count, sum_by-cons begun compound pending) in
    subst (λ m. Holds m (put e (draft_of draft rights pending))) all
    (put-holds (n - nodes e) e (draft_of draft rights pending) less whole)

-- each bound that is read can be written
card-writable : (c : Comparison) (k : ℕ) → is_writable (card_by c k) ≡ true
card-writable compare.Equal k = grind (arith, nat_tests)
card-writable compare.AtMost k = grind (arith, nat_tests)
card-writable compare.AtLeast k = refl

close-parts : (n : ℕ) (draft : Draft) (rights : List Expression) (pending : List Compound)
    → Holds n (draft_of draft rights pending) → is_filled pending ≡ true → Holds n (close (draft_of draft rights pending))
close-parts n draft rights [] holds filled = holds
close-parts n draft rights (Several former.Union es ∷ pending) holds filled =
    closed-holds n (Several former.Union es) (Union (expressions_of es)) draft rights pending holds (grind (arith, filled, holds.pending)) refl
close-parts n draft rights (Several former.Prod es ∷ pending) holds filled =
    closed-holds n (Several former.Prod es) (Prod (expressions_of es)) draft rights pending holds (grind (arith, filled, holds.pending)) refl
close-parts n draft rights (Container k None bound ∷ pending) holds filled = cc
close-parts n draft rights (Container k (Some e) bound ∷ pending) holds filled =
    closed-holds n (Container k (Some e) bound) (Many k e (card_by bound.comparison bound.number)) draft rights pending holds
    (grind (arith, holds.pending, card-writable bound.comparison bound.number)) refl

-- an expression becomes whole
pub close-holds : (n : ℕ) (draft : Draft) → Holds n draft → is_filled draft.pending ≡ true → Holds n (close draft)
close-holds n draft holds filled = close-parts n draft draft.rights draft.pending holds filled

put-filled-parts : (e : Expression) (draft : Draft) (rights : List Expression) (pending : List Compound)
    → is_filled (put e (draft_of draft rights pending)).pending ≡ true
put-filled-parts e draft rights [] = refl
put-filled-parts e draft rights (Several f es ∷ pending) = some-push es e
put-filled-parts e draft rights (Container k element bound ∷ pending) = refl

pub put-filled : (e : Expression) (draft : Draft) → is_filled (put e draft).pending ≡ true
put-filled e draft = put-filled-parts e draft draft.rights draft.pending

close-filled-parts : (draft : Draft) (rights : List Expression) (pending : List Compound)
    → is_filled pending ≡ true → is_filled (close (draft_of draft rights pending)).pending ≡ true
close-filled-parts draft rights [] filled = refl
close-filled-parts draft rights (Several former.Union es ∷ pending) filled = put-filled (Union (expressions_of es)) (draft_of draft rights pending)
close-filled-parts draft rights (Several former.Prod es ∷ pending) filled = put-filled (Prod (expressions_of es)) (draft_of draft rights pending)
close-filled-parts draft rights (Container k None bound ∷ pending) filled = cc
close-filled-parts draft rights (Container k (Some e) bound ∷ pending) filled =
    put-filled (Many k e (card_by bound.comparison bound.number)) (draft_of draft rights pending)

pub close-filled : (draft : Draft) → is_filled draft.pending ≡ true → is_filled (close draft).pending ≡ true
close-filled draft filled = close-filled-parts draft draft.rights draft.pending filled

-- where the innermost expression has an argument, anything may be expected
pub ready-filled : (items : List Item) (pending : List Compound) → is_filled pending ≡ true → is_ready items pending ≡ true
ready-filled [] pending filled = refl
ready-filled (item.RightOfZ ∷ items) pending filled = refl
ready-filled (item.Expr depth ∷ items) pending filled = refl
ready-filled (item.MoreExprs depth ∷ items) pending filled = filled
ready-filled (item.ContainerEnd ∷ items) pending filled = filled
ready-filled (item.BoundEnd ∷ items) pending filled = filled
ready-filled (_ ∷ items) pending filled = ready-filled items pending filled

-- an expression with arguments begins
pub begun-holds : (n : ℕ) (former : Former) (draft : Draft) → Holds n draft → Holds (n + 1) (record draft { pending = Several former [] ∷ draft.pending })
begun-holds n former draft holds = record {
  rights = holds.rights;
  pending = holds.pending;
  count = omega (arith, holds.count, sum_by-cons begun (Several former []) draft.pending);
}

-- a container begins
pub begun-container-holds : (n : ℕ) (k : Kind) (draft : Draft) → Holds n draft → Holds (n + 1) (record draft { pending = Container k None unbounded ∷ draft.pending })
begun-container-holds n k draft holds = record {
  rights = holds.rights;
  pending = holds.pending;
  count = omega (arith, holds.count, sum_by-cons begun (Container k None unbounded) draft.pending);
}

-- another bound changes nothing of that
rebound-filled : (change : Bound → Bound) (pending : List Compound) → is_filled (rebound change pending) ≡ is_filled pending
rebound-filled change [] = refl
rebound-filled change (Several f es ∷ pending) = refl
rebound-filled change (Container k element bound ∷ pending) = refl

pub rebound-ready : (change : Bound → Bound) (items : List Item) (pending : List Compound) → is_ready items pending ≡ true → is_ready items (rebound change pending) ≡ true
rebound-ready change [] pending ready = refl
rebound-ready change (item.RightOfZ ∷ items) pending ready = refl
rebound-ready change (item.Expr depth ∷ items) pending ready = refl
rebound-ready change (item.MoreExprs depth ∷ items) pending ready = rebound-filled change pending ∙ ready
rebound-ready change (item.ContainerEnd ∷ items) pending ready = rebound-filled change pending ∙ ready
rebound-ready change (item.BoundEnd ∷ items) pending ready = rebound-filled change pending ∙ ready
rebound-ready change (_ ∷ items) pending ready = rebound-ready change items pending ready

rebound-parts : (n : ℕ) (change : Bound → Bound) (draft : Draft) (rights : List Expression) (pending : List Compound)
    → Holds n (draft_of draft rights pending) → Holds n (draft_of draft rights (rebound change pending))
rebound-parts n change draft rights [] holds = holds
rebound-parts n change draft rights (Several f es ∷ pending) holds = holds
rebound-parts n change draft rights (Container k element bound ∷ pending) holds = record {
  rights = holds.rights;
  pending = holds.pending;
  count = omega (arith, holds.count, sum_by-cons begun (Container k element bound) pending, sum_by-cons begun (Container k element (change bound)) pending);
}

pub rebound-holds : (n : ℕ) (change : Bound → Bound) (draft : Draft) → Holds n draft → Holds n (record draft { pending = rebound change draft.pending })
rebound-holds n change draft holds = rebound-parts n change draft draft.rights draft.pending holds
