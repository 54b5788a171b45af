-- What the tests of a token say.
use Rattle.std.proofs.Common.{◌≡◌, ℕ, Bool, true, false, ◌||◌, cond, Option, Some, None, List, [], refl, sym, ap, ◌∙◌, inl, inr, ◌⊎◌}
use Rattle.std.specs.Option.{option_map}
use Rattle.std.specs.Str.{bytes_eq}
use Rattle.std.specs.Prelude.{find}
use Rattle.std.proofs.lemmas.Slice.Eq.{bytes_eq-Decides}
use Rattle.spec_syntax.specs.declared.expr.Kind.{Kind}
use Rattle.spec_syntax.specs.declared.expr.Kind.TheVariants as kind
use Rattle.spec_syntax.specs.declared.statement.Universe.{Universe}
use Rattle.spec_syntax.specs.declared.statement.Universe.TheVariants as universe
use Rattle.spec_reader.specs.declared.token.Sign.{Sign}
use Rattle.spec_reader.specs.declared.token.Sign.TheVariants as sign
use Rattle.spec_reader.specs.declared.token.Keyword.{Keyword}
use Rattle.spec_reader.specs.declared.token.Keyword.TheVariants as word
use Rattle.spec_reader.specs.declared.table.Head.{Head}
use Rattle.spec_reader.specs.declared.table.Head.TheVariants as head
use Rattle.spec_reader.specs.declared.table.Former.TheVariants as former
use Rattle.spec_reader.specs.declared.table.Command.{Command}
use Rattle.spec_reader.specs.declared.table.Command.TheVariants as command
use Rattle.spec_reader.specs.declared.table.Comparison.{Comparison}
use Rattle.spec_reader.specs.declared.table.Comparison.TheVariants as compare
use Rattle.spec_reader.specs.Tokens.{Token, Mark, Reserved, Name, Number, text_of, sign_text, signs, keyword_text, keyword_of}
use Rattle.spec_reader.specs.Grammar.{command_word, container_word, EndTree, BySemicolon, ByColon, end_sign}
use Rattle.spec_reader.specs.Table.{is_mark, is_reserved, is_name, is_number, is_end, command_of, kind_of, head_of, comparison_of, universe_of}

sign_back : List ℕ → Option Sign
sign_back text = find (λ s. bytes_eq (sign_text s) text) signs

sign_back-text : (s : Sign) → sign_back (sign_text s) ≡ Some s
unfolding sign_back
sign_back-text sign.Assign = refl
sign_back-text sign.AtMost = refl
sign_back-text sign.AtLeast = refl
sign_back-text sign.Equals = refl
sign_back-text sign.Semicolon = refl
sign_back-text sign.Colon = refl
sign_back-text sign.Comma = refl
sign_back-text sign.OpenParen = refl
sign_back-text sign.CloseParen = refl
sign_back-text sign.OpenBracket = refl
sign_back-text sign.CloseBracket = refl
sign_back-text sign.OpenBrace = refl
sign_back-text sign.CloseBrace = refl

keyword_back : List ℕ → Option Keyword
keyword_back text = keyword_of text

keyword_back-text : (k : Keyword) → keyword_back (keyword_text k) ≡ Some k
unfolding keyword_back
keyword_back-text word.Z = refl
keyword_back-text word.Epsilon = refl
keyword_back-text word.Atom = refl
keyword_back-text word.Union = refl
keyword_back-text word.Prod = refl
keyword_back-text word.Sequence = refl
keyword_back-text word.Set = refl
keyword_back-text word.PowerSet = refl
keyword_back-text word.Cycle = refl
keyword_back-text word.Subst = refl
keyword_back-text word.Card = refl
keyword_back-text word.Size = refl
keyword_back-text word.AllSizes = refl
keyword_back-text word.After = refl
keyword_back-text word.Labelled = refl
keyword_back-text word.Unlabelled = refl
keyword_back-text word.Labeled = refl
keyword_back-text word.Unlabeled = refl
keyword_back-text word.Count = refl
keyword_back-text word.Draw = refl
keyword_back-text word.AllStructs = refl
keyword_back-text word.IterStructs = refl
keyword_back-text word.NextStruct = refl
keyword_back-text word.Finished = refl
keyword_back-text word.Cursor = refl
keyword_back-text word.Rest = refl
keyword_back-text word.GfEqns = refl
keyword_back-text word.GfSeries = refl
keyword_back-text word.Labellings = refl
keyword_back-text word.MarkCounts = refl
keyword_back-text word.Combination = refl
keyword_back-text word.Subset = refl
keyword_back-text word.Permutation = refl
keyword_back-text word.Partition = refl
keyword_back-text word.Composition = refl

-- signs that are spelled alike are one
sign-same : (s other : Sign) → bytes_eq (sign_text s) (sign_text other) ≡ true → other ≡ s
sign-same s other e =
    let back : Some s ≡ Some other = sym (sign_back-text s) ∙ ap sign_back ((bytes_eq-Decides (sign_text s) (sign_text other)).0 e) ∙ sign_back-text other in
    cc

-- words that are spelled alike are one
keyword-same : (k other : Keyword) → bytes_eq (keyword_text k) (keyword_text other) ≡ true → other ≡ k
keyword-same k other e =
    let back : Some k ≡ Some other =
    sym (keyword_back-text k) ∙ ap keyword_back ((bytes_eq-Decides (keyword_text k) (keyword_text other)).0 e) ∙ keyword_back-text other in
    cc

pub mark-is : (s : Sign) (t : Token) → is_mark s t ≡ true → t ≡ Mark s
mark-is s (Mark other) e = ap (λ o. Mark o) (sign-same s other e)
mark-is s _ e = cc

pub reserved-is : (k : Keyword) (t : Token) → is_reserved k t ≡ true → t ≡ Reserved k
reserved-is k (Reserved other) e = ap (λ o. Reserved o) (keyword-same k other e)
reserved-is k _ e = cc

pub name-is : (t : Token) → is_name t ≡ true → t ≡ Name (text_of t)
name-is (Name text) e = refl
name-is _ e = cc

-- the digits of a number
abbrev pub digits_of : Token → List ℕ
digits_of (Number digits) = digits
digits_of _ = []

pub number-is : (t : Token) → is_number t ≡ true → t ≡ Number (digits_of t)
number-is (Number digits) e = refl
number-is _ e = cc

pub mark-same : (s : Sign) → is_mark s (Mark s) ≡ true
mark-same s = (bytes_eq-Decides (sign_text s) (sign_text s)).1 refl

pub reserved-same : (k : Keyword) → is_reserved k (Reserved k) ≡ true
reserved-same k = (bytes_eq-Decides (keyword_text k) (keyword_text k)).1 refl

-- the end that a sign writes
abbrev end_by : Bool → EndTree
end_by true = ByColon
end_by false = BySemicolon

abbrev pub end_of : Token → EndTree
end_of t = end_by (is_mark sign.Colon t)

end-tests : (semicolon colon : Bool) (t : Token) → (semicolon ≡ true → t ≡ Mark sign.Semicolon) → (colon ≡ true → t ≡ Mark sign.Colon)
    → (semicolon || colon) ≡ true → t ≡ Mark (end_sign (end_by colon))
end-tests _ true t s c ends = c refl
end-tests true false t s c ends = s refl
end-tests false false t s c ends = cc

pub end-is : (t : Token) → is_end t ≡ true → t ≡ Mark (end_sign (end_of t))
end-is t ends = end-tests (is_mark sign.Semicolon t) (is_mark sign.Colon t) t (mark-is sign.Semicolon t) (mark-is sign.Colon t) ends

-- the word of a command
abbrev pub Commands : Option Command → Token → Type 0
Commands None t = Unit {0}
Commands (Some asked) t = t ≡ Reserved (command_word asked)

command-tests : (all count : Bool) (t : Token) → (all ≡ true → t ≡ Reserved word.AllStructs) → (count ≡ true → t ≡ Reserved word.Count)
    → Commands (cond all (Some command.AllStructs) (cond count (Some command.Count) None)) t
command-tests true _ t a c = a refl
command-tests false true t a c = c refl
command-tests false false t a c = tt

pub command-is : (t : Token) → Commands (command_of t) t
command-is t = command-tests (is_reserved word.AllStructs t) (is_reserved word.Count t) t (reserved-is word.AllStructs t) (reserved-is word.Count t)

-- the word of a kind of container
abbrev pub Kinds : Option Kind → Token → Type 0
Kinds None t = Unit {0}
Kinds (Some of) t = t ≡ Reserved (container_word of)

kind-tests : (sequence set powerset cycle : Bool) (t : Token)
    → (sequence ≡ true → t ≡ Reserved word.Sequence) → (set ≡ true → t ≡ Reserved word.Set)
    → (powerset ≡ true → t ≡ Reserved word.PowerSet) → (cycle ≡ true → t ≡ Reserved word.Cycle)
    → Kinds (cond sequence (Some kind.Sequence) (cond set (Some kind.Set) (cond powerset (Some kind.PowerSet) (cond cycle (Some kind.Cycle) None)))) t
kind-tests true _ _ _ t a b c d = a refl
kind-tests false true _ _ t a b c d = b refl
kind-tests false false true _ t a b c d = c refl
kind-tests false false false true t a b c d = d refl
kind-tests false false false false t a b c d = tt

kind-is : (t : Token) → Kinds (kind_of t) t
kind-is t =
    kind-tests (is_reserved word.Sequence t) (is_reserved word.Set t) (is_reserved word.PowerSet t) (is_reserved word.Cycle t) t
    (reserved-is word.Sequence t) (reserved-is word.Set t) (reserved-is word.PowerSet t) (reserved-is word.Cycle t)

-- the token that an expression begins with
abbrev pub Begins : Option Head → Token → Type 0
Begins None t = Unit {0}
Begins (Some head.Epsilon) t = t ≡ Reserved word.Epsilon
Begins (Some head.Atom) t = (t ≡ Reserved word.Atom) ⊎ (t ≡ Reserved word.Z)
Begins (Some head.Name) t = t ≡ Name (text_of t)
Begins (Some (head.Former former.Union)) t = t ≡ Reserved word.Union
Begins (Some (head.Former former.Prod)) t = t ≡ Reserved word.Prod
Begins (Some (head.Container of)) t = t ≡ Reserved (container_word of)

container-begins : (found : Option Kind) (t : Token) → Kinds found t → Begins (option_map head.Container found) t
container-begins None t kinds = tt
container-begins (Some of) t kinds = kinds

head-tests : (epsilon atom z name union prod : Bool) (found : Option Kind) (t : Token)
    → (epsilon ≡ true → t ≡ Reserved word.Epsilon) → (atom ≡ true → t ≡ Reserved word.Atom) → (z ≡ true → t ≡ Reserved word.Z)
    → (name ≡ true → t ≡ Name (text_of t)) → (union ≡ true → t ≡ Reserved word.Union) → (prod ≡ true → t ≡ Reserved word.Prod)
    → Kinds found t
    → Begins (cond epsilon (Some head.Epsilon) (cond atom (Some head.Atom) (cond z (Some head.Atom) (cond name (Some head.Name)
    (cond union (Some (head.Former former.Union)) (cond prod (Some (head.Former former.Prod)) (option_map head.Container found))))))) t
head-tests true _ _ _ _ _ found t e a z n u p k = e refl
head-tests false true _ _ _ _ found t e a z n u p k = inl (a refl)
head-tests false false true _ _ _ found t e a z n u p k = inr (z refl)
head-tests false false false true _ _ found t e a z n u p k = n refl
head-tests false false false false true _ found t e a z n u p k = u refl
head-tests false false false false false true found t e a z n u p k = p refl
head-tests false false false false false false found t e a z n u p k = container-begins found t k

pub head-begins : (t : Token) → Begins (head_of t) t
head-begins t =
    head-tests (is_reserved word.Epsilon t) (is_reserved word.Atom t) (is_reserved word.Z t) (is_name t) (is_reserved word.Union t) (is_reserved word.Prod t)
    (kind_of t) t
    (reserved-is word.Epsilon t) (reserved-is word.Atom t) (reserved-is word.Z t) (name-is t) (reserved-is word.Union t) (reserved-is word.Prod t)
    (kind-is t)

-- the sign that a comparison is
abbrev pub Compares : Option Comparison → Token → Type 0
Compares None t = Unit {0}
Compares (Some compare.Equal) t = t ≡ Mark sign.Equals
Compares (Some compare.AtMost) t = t ≡ Mark sign.AtMost
Compares (Some compare.AtLeast) t = t ≡ Mark sign.AtLeast

comparison-tests : (equal at_most at_least : Bool) (t : Token)
    → (equal ≡ true → t ≡ Mark sign.Equals) → (at_most ≡ true → t ≡ Mark sign.AtMost) → (at_least ≡ true → t ≡ Mark sign.AtLeast)
    → Compares (cond equal (Some compare.Equal) (cond at_most (Some compare.AtMost) (cond at_least (Some compare.AtLeast) None))) t
comparison-tests true _ _ t e m l = e refl
comparison-tests false true _ t e m l = m refl
comparison-tests false false true t e m l = l refl
comparison-tests false false false t e m l = tt

pub comparison-is : (t : Token) → Compares (comparison_of t) t
comparison-is t =
    comparison-tests (is_mark sign.Equals t) (is_mark sign.AtMost t) (is_mark sign.AtLeast t) t
    (mark-is sign.Equals t) (mark-is sign.AtMost t) (mark-is sign.AtLeast t)

-- the word that names a universe
abbrev pub Names : Option Universe → Token → Type 0
Names None t = Unit {0}
Names (Some universe.Labelled) t = (t ≡ Reserved word.Labelled) ⊎ (t ≡ Reserved word.Labeled)
Names (Some universe.Unlabelled) t = (t ≡ Reserved word.Unlabelled) ⊎ (t ≡ Reserved word.Unlabeled)

universe-tests : (labelled labeled unlabelled unlabeled : Bool) (t : Token)
    → (labelled ≡ true → t ≡ Reserved word.Labelled) → (labeled ≡ true → t ≡ Reserved word.Labeled)
    → (unlabelled ≡ true → t ≡ Reserved word.Unlabelled) → (unlabeled ≡ true → t ≡ Reserved word.Unlabeled)
    → Names (cond labelled (Some universe.Labelled) (cond labeled (Some universe.Labelled)
    (cond unlabelled (Some universe.Unlabelled) (cond unlabeled (Some universe.Unlabelled) None)))) t
universe-tests true _ _ _ t a b c d = inl (a refl)
universe-tests false true _ _ t a b c d = inr (b refl)
universe-tests false false true _ t a b c d = inl (c refl)
universe-tests false false false true t a b c d = inr (d refl)
universe-tests false false false false t a b c d = tt

pub universe-is : (t : Token) → Names (universe_of t) t
universe-is t =
    universe-tests (is_reserved word.Labelled t) (is_reserved word.Labeled t) (is_reserved word.Unlabelled t) (is_reserved word.Unlabeled t) t
    (reserved-is word.Labelled t) (reserved-is word.Labeled t) (reserved-is word.Unlabelled t) (reserved-is word.Unlabeled t)
