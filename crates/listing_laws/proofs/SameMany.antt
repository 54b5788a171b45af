-- Two lists that have the same elements once are as long.
use Rattle.std.proofs.Common.{◌≡◌, List, [], ◌∷◌, length, sym, subst, arith}
use Rattle.lists.specs.Enumeration.{Ascends, Enumerated}
use Rattle.lists.specs.Orders.{IsStrictTotalOrder}
use Rattle.lists.proofs.Distinct.{no_longer}

module _ {X : Type 0} where
  abbrev pub Differs : X → X → Type 0
  Differs x y = x ≡ y → ⊥

  also_ascends : (R S : X → X → Type 0) → ((x y : X) → R x y → S x y) → (xs : List X) → Ascends R xs → Ascends S xs
  also_ascends R S weaker [] a = tt
  also_ascends R S weaker (x ∷ xs) a = ((λ y there. weaker x y (a.0 y there)), also_ascends R S weaker xs a.1)

  -- what ascends has each element once
  pub each_once : (R : X → X → Type 0) (P : X → Type 0) (xs : List X) → IsStrictTotalOrder R → Enumerated R P xs → Enumerated Differs P xs
  each_once R P xs o e = record {
    ascends = also_ascends R Differs (λ x y before same. o.irreflexive x (subst (R x) (sym same) before)) xs e.ascends;
    sound = e.sound;
    complete = e.complete;
  }

  pub same_many : (P : X → Type 0) (xs ys : List X) → Enumerated Differs P xs → Enumerated Differs P ys → length xs ≡ length ys
  same_many P xs ys e f =
      let up = no_longer xs ys e.ascends (λ x there. f.complete x (e.sound x there)) in
      let down = no_longer ys xs f.ascends (λ x there. e.complete x (f.sound x there)) in
      omega (arith, up, down)
