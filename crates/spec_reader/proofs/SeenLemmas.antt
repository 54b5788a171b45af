-- What was seen is what stands before a token.
use Rattle.std.proofs.Common.{◌≡◌, ℕ, ◌+◌, true, cond, ◌&&◌, Option, Some, None, List, [], ◌∷◌, ◌++◌, reverse, refl, sym, ap, ◌∙◌, append_assoc, append-nil, add-zero, arith}
use Rattle.std.specs.Prelude.{is_none}
use Rattle.std.proofs.lemmas.Bool.{and_parts}
use Rattle.std.proofs.lemmas.List.{reverse-append, reverse-reverse}
use Rattle.std.proofs.lemmas.List.Sums.{fold_push}
use Rattle.spec_reader.specs.declared.table.Role.TheVariants as role
use Rattle.spec_reader.specs.declared.table.Role.{Role}
use Rattle.spec_reader.specs.declared.seen.Seen.{Seen}
use Rattle.spec_reader.specs.Tokens.{Token}
use Rattle.spec_reader.specs.Grammar.{Marked}
use Rattle.spec_reader.specs.Limits.{is_expr_start, Reason, reason}
use Rattle.spec_reader.specs.Seen.{seen_after, reason_in}
use Rattle.spec_reader.specs.Reading.{names_in, expressions_in, reason_after, pass_after}

-- what was seen behind tokens
abbrev pub seen_of : List Marked → Seen
seen_of before = record { names = reverse (names_in before); expressions = expressions_in before }

pub names_in-append : (ms ns : List Marked) → names_in (ms ++ ns) ≡ names_in ms ++ names_in ns
names_in-append [] ns = refl
names_in-append (m ∷ ms) ns = grind (arith, names_in-append ms ns)

expressions-push : (before : List Marked) (m : Marked) → expressions_in (before ++ m ∷ []) ≡ expressions_in before + cond (is_expr_start m.role) 1 0
expressions-push before m = fold_push (λ n other. n + cond (is_expr_start other.role) 1 0) 0 before m

name-push : (before : List Marked) (r : Role) (t : Token) → reverse (names_in (before ++ record { role = r; token = t } ∷ [])) ≡ reverse (names_in (record { role = r; token = t } ∷ [])) ++ reverse (names_in before)
name-push before r t =
    ap reverse (names_in-append before (record { role = r; token = t } ∷ [])) ∙ reverse-append (names_in before) (names_in (record { role = r; token = t } ∷ []))

both-parts : (names others : List (List ℕ)) (n k : ℕ) → names ≡ others → n ≡ k → ◌≡◌ {A = Seen} (record { names = names; expressions = n }) (record { names = others; expressions = k })
both-parts names others n k same alike = λ i. record { names = same i; expressions = alike i }

-- a token is taken note of
pub seen_of-push : (before : List Marked) (r : Role) (t : Token) → seen_after r t (seen_of before) ≡ seen_of (before ++ record { role = r; token = t } ∷ [])
seen_of-push before role.Plain t =
    both-parts _ _ _ _ (sym (name-push before role.Plain t)) (sym (expressions-push before (record { role = role.Plain; token = t }) ∙ add-zero (expressions_in before)))
seen_of-push before role.RuleName t =
    both-parts _ _ _ _ (sym (name-push before role.RuleName t)) (sym (expressions-push before (record { role = role.RuleName; token = t }) ∙ add-zero (expressions_in before)))
seen_of-push before (role.ExprStart depth) t =
    both-parts _ _ _ _ (sym (name-push before (role.ExprStart depth) t)) (sym (expressions-push before (record { role = role.ExprStart depth; token = t })))
seen_of-push before role.BoundStart t =
    both-parts _ _ _ _ (sym (name-push before role.BoundStart t)) (sym (expressions-push before (record { role = role.BoundStart; token = t }) ∙ add-zero (expressions_in before)))
seen_of-push before role.SizeNumber t =
    both-parts _ _ _ _ (sym (name-push before role.SizeNumber t)) (sym (expressions-push before (record { role = role.SizeNumber; token = t }) ∙ add-zero (expressions_in before)))

-- the tests look at what stands before
pub reason_in-seen_of : (before : List Marked) (r : Role) (t : Token) → reason_in (seen_of before) r t ≡ reason_after before (record { role = r; token = t })
reason_in-seen_of before r t = ap (λ names. reason names (expressions_in before) r t) (reverse-reverse (names_in before))

none-is : (o : Option Reason) → is_none o ≡ true → o ≡ None
none-is None e = refl
none-is (Some why) e = cc

-- the first token is at no fault, and the others are not
pub pass-first : (before : List Marked) (m : Marked) (ms : List Marked) → pass_after before (m ∷ ms) ≡ true → (reason_after before m ≡ None) × (pass_after (before ++ m ∷ []) ms ≡ true)
pass-first before m ms pass =
    let parts = and_parts (is_none (reason_after before m)) (pass_after (before ++ m ∷ []) ms) pass in
    (none-is (reason_after before m) parts.0, parts.1)

pub pass-push : (front before : List Marked) (m : Marked) → pass_after front before ≡ true → reason_after (front ++ before) m ≡ None → pass_after front (before ++ m ∷ []) ≡ true
pass-push front [] m pass none = let here : reason_after front m ≡ None = ap (λ before. reason_after before m) (sym (append-nil front)) ∙ none in ap (λ o. is_none o && true) here
pass-push front (b ∷ before) m pass none =
    let parts = pass-first front b before pass in
    let rest : pass_after (front ++ b ∷ []) (before ++ m ∷ []) ≡ true =
    pass-push (front ++ b ∷ []) before m parts.1 (ap (λ those. reason_after those m) (append_assoc front (b ∷ []) before) ∙ none) in
    λ k. is_none (parts.0 k) && rest k
