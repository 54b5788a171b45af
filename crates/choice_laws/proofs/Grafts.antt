-- Grafted trees: what bits reach in them, their means and their ends.
use Rattle.std.proofs.Common.{◌≡◌, ℕ, zero, suc, ◌+◌, ◌-◌, Bool, true, false, cond, List, [], ◌∷◌, map, nat_lt, Option, Some, None, refl, ap, ◌∙◌, inl, inr}
use Rattle.std.specs.Option.{option_and_then}
use Rattle.choice_laws.specs.Trees.{Tree, end, step, Branches, no_branches, more_branches, total, put_branch, branches_of, choose, graft, graft_branches}
use Rattle.choice_laws.specs.Bits.{picked, follow, follow_branch}
use Rattle.choice_laws.specs.Shares.{Fraction, mean, mean_of, plus, part_of}
use Rattle.choice_laws.specs.Even.{IsEnd, IsEndOf, LeadsOn, AllLeadOn}
use Rattle.choice_laws.specs.Laws.{GraftsHaveMeans, GraftsAreFollowed}

module _ {X Y : Type 0} (next : X → Tree Y) where
  -- what bits reach behind an end
  abbrev then_next : Option (X × List Bool) → Option (Y × List Bool)
  then_next reached = option_and_then (λ p. follow (next p.0) p.1) reached

  pub total_grafted : (branches : Branches X) → total (graft_branches next branches) ≡ total branches
  total_grafted no_branches = refl
  total_grafted (more_branches weight tree more) = ap (λ (others : ℕ). weight + others) (total_grafted more)

  then_picked : (found : Option (ℕ × List Bool)) (lead : ℕ → List Bool → Option (X × List Bool))
      → option_and_then (λ p. then_next (lead p.0 p.1)) found ≡ then_next (option_and_then (λ p. lead p.0 p.1) found)
  then_picked None lead = refl
  then_picked (Some p) lead = refl

  then_either : (b : Bool) (left right : Option (X × List Bool)) → cond b (then_next left) (then_next right) ≡ then_next (cond b left right)
  then_either true left right = refl
  then_either false left right = refl

  mutual
    pub follow_grafted : (tree : Tree X) (bits : List Bool) → follow (graft next tree) bits ≡ then_next (follow tree bits)
    follow_grafted (end x) bits = refl
    follow_grafted (step no_branches) bits = refl
    follow_grafted (step (more_branches weight tree no_branches)) bits = follow_grafted tree bits
    follow_grafted (step (more_branches weight tree (more_branches w t more))) bits =
        (λ i. option_and_then (λ p. branch_grafted (more_branches weight tree (more_branches w t more)) p.0 p.1 i) (picked (weight + (w + total_grafted more i)) bits))
        ∙ then_picked (picked (weight + (w + total more)) bits) (follow_branch (more_branches weight tree (more_branches w t more)))

    branch_grafted : (branches : Branches X) (value : ℕ) (bits : List Bool) → follow_branch (graft_branches next branches) value bits ≡ then_next (follow_branch branches value bits)
    branch_grafted no_branches value bits = refl
    branch_grafted (more_branches weight tree more) value bits =
        (λ i. cond (nat_lt value weight) (follow_grafted tree bits i) (branch_grafted more (value - weight) bits i))
        ∙ then_either (nat_lt value weight) (follow tree bits) (follow_branch more (value - weight) bits)

  module _ (f : Y → Fraction) where
    mutual
      pub mean_grafted : (tree : Tree X) → mean f (graft next tree) ≡ mean (λ x. mean f (next x)) tree
      mean_grafted (end x) = refl
      mean_grafted (step branches) =
          ap (λ (all : ℕ). mean_of f all (graft_branches next branches)) (total_grafted branches) ∙ mean_of_grafted (total branches) branches

      mean_of_grafted : (all : ℕ) (branches : Branches X) → mean_of f all (graft_branches next branches) ≡ mean_of (λ x. mean f (next x)) all branches
      mean_of_grafted all no_branches = refl
      mean_of_grafted all (more_branches weight tree more) = λ i. plus (part_of weight all (mean_grafted tree i)) (mean_of_grafted all more i)

  -- an end of the grafted tree, by one of the first tree
  pub record EndBehind (y : Y) (AtEnd : X → Type 0) : Type 0 where
    pub at : X
    pub is_end : AtEnd at
    pub behind : IsEnd y (next at)

  mutual
    pub ends_grafted : (tree : Tree X) (y : Y) → IsEnd y (graft next tree) → EndBehind y (λ x. IsEnd x tree)
    ends_grafted (end x) y there = record { at = x; is_end = refl; behind = there }
    ends_grafted (step branches) y there = ends_of_grafted branches y there

    ends_of_grafted : (branches : Branches X) (y : Y) → IsEndOf y (graft_branches next branches) → EndBehind y (λ x. IsEndOf x branches)
    ends_of_grafted no_branches y there = absurd there
    ends_of_grafted (more_branches weight tree more) y (inl there) =
        let found = ends_grafted tree y there in record { at = found.at; is_end = inl found.is_end; behind = found.behind }
    ends_of_grafted (more_branches weight tree more) y (inr there) =
        let found = ends_of_grafted more y there in record { at = found.at; is_end = inr found.is_end; behind = found.behind }

  mutual
    pub leads_on_grafted : (tree : Tree X) → LeadsOn tree → ((x : X) → IsEnd x tree → LeadsOn (next x)) → LeadsOn (graft next tree)
    leads_on_grafted (end x) leads behind = behind x refl
    leads_on_grafted (step no_branches) leads behind = leads
    leads_on_grafted (step (more_branches weight tree more)) leads behind = all_lead_on_grafted (more_branches weight tree more) leads behind

    all_lead_on_grafted : (branches : Branches X) → AllLeadOn branches → ((x : X) → IsEndOf x branches → LeadsOn (next x)) → AllLeadOn (graft_branches next branches)
    all_lead_on_grafted no_branches lead behind = lead
    all_lead_on_grafted (more_branches weight tree more) lead behind =
        (lead.0, (leads_on_grafted tree lead.1.0 (λ x there. behind x (inl there)), all_lead_on_grafted more lead.1.1 (λ x there. behind x (inr there))))

  grafted_put : (weight : ℕ) (tree : Tree X) (more : Branches X)
      → graft_branches next (put_branch weight tree more) ≡ put_branch weight (graft next tree) (graft_branches next more)
  grafted_put zero tree more = refl
  grafted_put (suc w) tree more = refl

  grafted_branches : (bs : List (ℕ × Tree X)) → graft_branches next (branches_of bs) ≡ branches_of (map (λ b. (b.0, graft next b.1)) bs)
  grafted_branches [] = refl
  grafted_branches (b ∷ bs) = grafted_put b.0 b.1 (branches_of bs) ∙ ap (put_branch b.0 (graft next b.1)) (grafted_branches bs)

  -- a choice that goes on is one between the trees that go on
  pub graft_choose : (bs : List (ℕ × Tree X)) → graft next (choose bs) ≡ choose (map (λ b. (b.0, graft next b.1)) bs)
  graft_choose bs = ap step (grafted_branches bs)

  -- the same of trees that are told of each element of a list
  pub graft_choose_of : {I : Type 0} (weight : I → ℕ) (tree : I → Tree X) (is : List I)
      → graft next (choose (map {B = ℕ × Tree X} (λ i. (weight i, tree i)) is)) ≡ choose (map (λ i. (weight i, graft next (tree i))) is)
  graft_choose_of {I} weight tree is = graft_choose (map {B = ℕ × Tree X} (λ i. (weight i, tree i)) is) ∙ ap choose (both is)
    where
      both : (is : List I) → map (λ (b : ℕ × Tree X). (b.0, graft next b.1)) (map {B = ℕ × Tree X} (λ i. (weight i, tree i)) is) ≡ map {B = ℕ × Tree Y} (λ i. (weight i, graft next (tree i))) is
      both [] = refl
      both (i ∷ is) = ap (λ others. (weight i, graft next (tree i)) ∷ others) (both is)

module _ {X Y Z : Type 0} (first : X → Tree Y) (second : Y → Tree Z) where
  mutual
    -- one graft after another, from either side
    pub graft_graft : (tree : Tree X) → graft second (graft first tree) ≡ graft (λ x. graft second (first x)) tree
    graft_graft (end x) = refl
    graft_graft (step branches) = ap step (graft_graft_branches branches)

    graft_graft_branches : (branches : Branches X) → graft_branches second (graft_branches first branches) ≡ graft_branches (λ x. graft second (first x)) branches
    graft_graft_branches no_branches = refl
    graft_graft_branches (more_branches weight tree more) = λ i. more_branches weight (graft_graft tree i) (graft_graft_branches more i)

module _ {X : Type 0} where
  mutual
    -- where each end stays as it is, so does the tree
    pub graft_end : (tree : Tree X) → graft (λ x. end x) tree ≡ tree
    graft_end (end x) = refl
    graft_end (step branches) = ap step (graft_end_branches branches)

    graft_end_branches : (branches : Branches X) → graft_branches (λ x. end x) branches ≡ branches
    graft_end_branches no_branches = refl
    graft_end_branches (more_branches weight tree more) = λ i. more_branches weight (graft_end tree i) (graft_end_branches more i)

module _ {X Y : Type 0} where
  mutual
    -- what agrees on each end makes the same tree
    pub same_grafted : (first second : X → Tree Y) (tree : Tree X) → ((x : X) → IsEnd x tree → first x ≡ second x) → graft first tree ≡ graft second tree
    same_grafted first second (end x) same = same x refl
    same_grafted first second (step branches) same = ap step (same_grafted_branches first second branches same)

    same_grafted_branches : (first second : X → Tree Y) (branches : Branches X) → ((x : X) → IsEndOf x branches → first x ≡ second x)
        → graft_branches first branches ≡ graft_branches second branches
    same_grafted_branches first second no_branches same = refl
    same_grafted_branches first second (more_branches weight tree more) same =
        λ i. more_branches weight (same_grafted first second tree (λ x there. same x (inl there)) i) (same_grafted_branches first second more (λ x there. same x (inr there)) i)

pub grafts_have_means : (X Y : Type 0) → GraftsHaveMeans X Y
grafts_have_means X Y = record {
  means = λ f next tree. mean_grafted next f tree;
  ends = λ next tree y there. let found = ends_grafted next tree y there in (found.at, found.is_end, found.behind);
}

pub grafts_are_followed : (X Y : Type 0) → GraftsAreFollowed X Y
grafts_are_followed X Y = record { follows = λ next tree bits. follow_grafted next tree bits }
