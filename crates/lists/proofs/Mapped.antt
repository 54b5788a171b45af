-- Lists of what is made of each element.
use Rattle.std.proofs.Common.{◌≡◌, List, [], ◌∷◌, map, refl}

module _ {X Y : Type 0} (f : X → Y) where
  -- where what is made of two elements tells them apart, so does the list of what is made of each
  pub same_mapped : ((x y : X) → f x ≡ f y → x ≡ y) → (xs ys : List X) → map f xs ≡ map f ys → xs ≡ ys
  same_mapped apart [] [] same = refl
  same_mapped apart [] (y ∷ ys) same = cc
  same_mapped apart (x ∷ xs) [] same = cc
  same_mapped apart (x ∷ xs) (y ∷ ys) same =
      let heads : f x ≡ f y = cc in
      let tails : map f xs ≡ map f ys = cc in
      λ i. apart x y heads i ∷ same_mapped apart xs ys tails i
