-- Sums of products that come in so many equal parts.
use Rattle.std.proofs.Common.{◌≡◌, ℕ, ◌+◌, ◌-◌, ◌*◌, ◌/◌, ◌%◌, ◌<◌, ◌≤◌, ◌^◌, Option, Some, refl, sym, ap, ◌∙◌, subst, inl, inr, arith}
use Rattle.std.proofs.Math.Nat.{div-add-mod, div-le_self}
use Rattle.std.proofs.lemmas.Bool.{cases_lt}
use Rattle.std.proofs.lemmas.Nat.{mod_below}
use Rattle.splits.specs.Capped.{Tells}
use Rattle.size_counts.specs.declared.shared.Shared.{Shared}
use Rattle.size_counts.specs.Shared.{StandsFor}

-- what is left of a product is added to the rest
products : (parts each rest whole of_first from_second of_second more left : ℕ) → of_first * of_second + rest ≡ parts * more + left
    → (parts * each + rest) + (parts * whole + of_first) * (parts * from_second + of_second)
    ≡ parts * (each + (whole * (parts * from_second + of_second) + (of_first * from_second + more))) + left
products parts each rest whole of_first from_second of_second more left same = omega (arith, same)

-- the parts of a sum of products
pub product_added : (parts first second each rest n : ℕ) → n ≡ parts * each + rest
    → n + first * second ≡ parts * (each + (first / parts * second + (first % parts * (second / parts) + (first % parts * (second % parts) + rest) / parts))) + (first % parts * (second % parts) + rest) % parts
product_added parts first second each rest n is =
    (λ i. is i + sym (div-add-mod first parts) i * sym (div-add-mod second parts) i)
    ∙ products parts each rest (first / parts) (first % parts) (second / parts) (second % parts) ((first % parts * (second % parts) + rest) / parts) ((first % parts * (second % parts) + rest) % parts)
    (sym (div-add-mod (first % parts * (second % parts) + rest) parts))
    ∙ ap (λ (k : ℕ). parts * (each + (first / parts * k + (first % parts * (second / parts) + (first % parts * (second % parts) + rest) / parts))) + (first % parts * (second % parts) + rest) % parts) (div-add-mod second parts)

pub stands_more : (parts first second rest n : ℕ) (each whole of_rest more most after : Option ℕ) → rest < parts → first < 2 ^ 128 → second < 2 ^ 128 → parts ≤ 1000
    → ((x y : ℕ) → Tells (Some (first / parts)) x → Tells (Some second) y → Tells whole (x * y)) → ((x y : ℕ) → Tells (Some (first % parts)) x → Tells (Some (second / parts)) y → Tells of_rest (x * y))
    → ((x y : ℕ) → Tells of_rest x → Tells (Some ((first % parts * (second % parts) + rest) / parts)) y → Tells more (x + y)) → ((x y : ℕ) → Tells whole x → Tells more y → Tells most (x + y))
    → ((x y : ℕ) → Tells each x → Tells most y → Tells after (x + y)) → StandsFor (record { parts = parts; each = each; rest = rest }) n
    → StandsFor (record { parts = parts; each = after; rest = (first % parts * (second % parts) + rest) % parts }) (n + first * second)
stands_more parts first second rest n each whole of_rest more most after left first_small second_small few times_whole times_rest plus_more plus_most plus_after stands = record {
  each = stands.each + (first / parts * second + (first % parts * (second / parts) + (first % parts * (second % parts) + rest) / parts));
  told = plus_after _ _ stands.told (plus_most _ _ (times_whole _ _ (refl, first_quotient) (refl, second_small)) (plus_more _ _ (times_rest _ _ (refl, first_rest) (refl, second_quotient)) (refl, quotient_small)));
  sum = product_added parts first second stands.each rest n stands.sum;
  left = mod_below (first % parts * (second % parts) + rest) parts (omega arith);
}
  where
    first_quotient : first / parts < 2 ^ 128
    first_quotient = omega (arith, div-le_self first parts)

    second_quotient : second / parts < 2 ^ 128
    second_quotient = omega (arith, div-le_self second parts)

    first_below : first % parts < parts
    first_below = mod_below first parts (omega arith)

    second_below : second % parts < parts
    second_below = mod_below second parts (omega arith)

    first_rest : first % parts < 2 ^ 128
    first_rest = omega (arith, first_below)

    quotient_small : (first % parts * (second % parts) + rest) / parts < 2 ^ 128
    quotient_small = omega (arith, div-le_self (first % parts * (second % parts) + rest) parts, few_products (first % parts) (second % parts) (omega (arith, first_below)) (omega (arith, second_below)))
      where
        few_products : (a b : ℕ) → a ≤ 1000 → b ≤ 1000 → a * b ≤ 1000 * 1000
        few_products a b a_few b_few =
            let whole : a + (1000 - a) ≡ 1000 = omega arith in
            let product : (a + (1000 - a)) * b ≡ 1000 * b = ap (λ (k : ℕ). k * b) whole in
            omega (arith, product)

-- where all parts are equal, each is told
pub part_told : (shared : Shared) (n : ℕ) → StandsFor shared (shared.parts * n) → Tells shared.each n
part_told shared n stands = subst (λ (k : ℕ). Tells shared.each k) (one shared.parts stands.each n shared.rest stands.sum stands.left) stands.told
  where
    one : (parts each n rest : ℕ) → parts * n ≡ parts * each + rest → rest < parts → each ≡ n
    one parts each n rest same left = elim (cases_lt n each) [
      | inl less ↦ absurd (short parts each n rest same left less)
      | inr at_least ↦ elim (cases_lt each n) [
        | inl more ↦ absurd (long parts each n rest same left more)
        | inr past ↦ omega arith
      ]
    ]
      where
        short : (parts each n rest : ℕ) → parts * n ≡ parts * each + rest → rest < parts → n < each → ⊥
        short parts each n rest same left less =
            let whole : each ≡ n + 1 + (each - n - 1) = omega arith in
            let product : parts * each ≡ parts * (n + 1 + (each - n - 1)) = ap (λ (k : ℕ). parts * k) whole in
            omega (arith, product, same, left)

        long : (parts each n rest : ℕ) → parts * n ≡ parts * each + rest → rest < parts → each < n → ⊥
        long parts each n rest same left more =
            let whole : n ≡ each + 1 + (n - each - 1) = omega arith in
            let product : parts * n ≡ parts * (each + 1 + (n - each - 1)) = ap (λ (k : ℕ). parts * k) whole in
            omega (arith, product, same, left)
