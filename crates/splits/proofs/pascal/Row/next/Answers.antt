use Rattle.std.proofs.Common.{◌≡◌, ℕ, ◌+◌, ◌-◌, List, [], ◌∷◌, ◌++◌, length, length-append, sym, ap, subst, arith, Option, Some}
use Rattle.splits.specs.Pascal.{AreChoices}
use Rattle.splits.proofs.PascalLemmas.{next_choice, last_choice}
use Rattle.splits.proofs.pascal.Row.next.Goals as goal

pub loop-d-preserved : goal.loop-d-preserved
loop-d-preserved c =
    let row : List (Option ℕ) = c.self.inside.numbers.items in
    let numbers : List (Option ℕ) = c.loop-d.numbers.items in
    let number : Option ℕ = c.plus.result in
    let grown : c.push-in-loop-d.new.self.items ≡ numbers ++ number ∷ [] = c.in_ok-push-2.ensures.items in (
      omega (arith, ap length grown, length-append numbers (number ∷ [])),
      omega arith,
      omega arith,
      subst (AreChoices (length row)) (sym grown)
          (next_choice row numbers c.loop-d.d c.index.result.now c.index-in-loop-d.result.now number c.self.invariant.1 c.loop-d.invariant.3 c.loop-d.invariant.0
          (omega arith) (omega arith) c.index.ensures c.index-in-loop-d.ensures c.plus.ensures),
    )

pub invariant_of-result : goal.invariant_of-result
invariant_of-result c =
    let row : List (Option ℕ) = c.self.inside.numbers.items in
    let numbers : List (Option ℕ) = c.loop-d.numbers.items in
    let grown : c.push-2.new.self.items ≡ numbers ++ Some 1 ∷ [] = c.in_ok-push-3.ensures.items in
    let long : length numbers ≡ length row = omega arith in
    let longer : length c.push-2.new.self.items ≡ length row + 1 = omega (arith, ap length grown, length-append numbers (Some 1 ∷ [])) in
    let last : length row ≡ length c.push-2.new.self.items - 1 = omega arith in (
      omega arith,
      subst (λ (k : ℕ). AreChoices k c.push-2.new.self.items) last
          (subst (AreChoices (length row)) (sym grown) (last_choice (length row) numbers c.loop-d.invariant.3 long)),
    )
