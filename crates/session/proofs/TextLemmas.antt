-- Texts that are made piece by piece.
use Rattle.std.proofs.Common.{◌≡◌, ℕ, List, ◌++◌, append_assoc, ap, ◌∙◌}

-- a text after four pieces
pub joined4 : (old first second third last a b c d : List ℕ) → first ≡ old ++ a → second ≡ first ++ b → third ≡ second ++ c → last ≡ third ++ d → last ≡ old ++ (a ++ b ++ c ++ d)
joined4 old first second third last a b c d p q r s =
    s ∙ ap (λ t. t ++ d) (r ∙ ap (λ t. t ++ c) (q ∙ ap (λ t. t ++ b) p)) ∙ simp append_assoc

-- a text after words around a name and five more pieces
pub joined_around : (old first second third fourth fifth last before name after a b c d e : List ℕ) → first ≡ old ++ (before ++ name ++ after) → second ≡ first ++ a → third ≡ second ++ b → fourth ≡ third ++ c
    → fifth ≡ fourth ++ d → last ≡ fifth ++ e → last ≡ old ++ (before ++ name ++ after ++ a ++ b ++ c ++ d ++ e)
joined_around old first second third fourth fifth last before name after a b c d e p q r s t u =
    u ∙ ap (λ text. text ++ e) (t ∙ ap (λ text. text ++ d) (s ∙ ap (λ text. text ++ c) (r ∙ ap (λ text. text ++ b) (q ∙ ap (λ text. text ++ a) p)))) ∙ simp append_assoc
