-- A reader stays sound over a token that it takes.
use Rattle.std.specs.Prelude.{if◌then◌else◌, is_some}
use Rattle.std.specs.Option.{option_map_or}
use Rattle.std.proofs.Common.{◌≡◌, ℕ, ◌+◌, Bool, true, false, ◌||◌, nat_le, Option, Some, None, List, [], ◌∷◌, ◌++◌, length, reverse, refl, sym, ap, ◌∙◌, subst, arith}
use Rattle.std.specs.List.{list_all}
use Rattle.std.proofs.lemmas.Bool.{and_from}
use Rattle.std.proofs.lemmas.Bool.Decides.{nat_tests}
use Rattle.std.proofs.lemmas.List.{reverse-append, length-reverse}
use Rattle.std.proofs.lemmas.List.Folds.{list_all-append}
use Rattle.spec_syntax.specs.Word.{is_word}
use Rattle.spec_syntax.specs.Expression.{Epsilon, Atom, Name}
use Rattle.spec_syntax.specs.declared.statement.Universe.{Universe}
use Rattle.spec_syntax.specs.Rules.{is_same_name}
use Rattle.spec_reader.specs.declared.token.Sign.TheVariants as sign
use Rattle.spec_reader.specs.declared.token.Keyword.TheVariants as word
use Rattle.spec_reader.specs.declared.table.Item.{Item}
use Rattle.spec_reader.specs.declared.table.Item.TheVariants as item
use Rattle.spec_reader.specs.declared.table.Head.{Head}
use Rattle.spec_reader.specs.declared.table.Head.TheVariants as head
use Rattle.spec_reader.specs.declared.table.Former.TheVariants as former
use Rattle.spec_reader.specs.declared.table.Comparison.{Comparison}
use Rattle.spec_reader.specs.declared.table.Role.{Role}
use Rattle.spec_reader.specs.declared.table.Role.TheVariants as role
use Rattle.spec_reader.specs.declared.table.Command.{Command}
use Rattle.spec_reader.specs.declared.draft.Bound.{Bound}
use Rattle.spec_reader.specs.declared.draft.Compound.{Compound}
use Rattle.spec_reader.specs.declared.draft.Draft.{Draft}
use Rattle.spec_reader.specs.declared.seen.Seen.{Seen}
use Rattle.spec_reader.specs.Tokens as token
use Rattle.spec_reader.specs.Tokens.{Token, text_of, is_spelled}
use Rattle.spec_reader.specs.Limits.{is_deeper, repeats}
use Rattle.spec_reader.specs.Meaning.{turned}
use Rattle.spec_reader.specs.Seen.{reason_in, seen_after}
use Rattle.spec_reader.specs.Table.{is_mark, is_reserved, is_name, is_number, is_end, command_of, head_of, comparison_of, universe_of, arguments, only_if, step, is_shallow, role_of, Takes}
use Rattle.spec_reader.specs.Drafts.{put, close, rebound, number_in, act, begin_at, is_filled, is_ready, built}
use Rattle.spec_reader.specs.Machine.{are_distinct, is_sound_seen, is_sound}
use Rattle.spec_reader.specs.declared.read.Reader.{Reader}
use Rattle.spec_reader.proofs.LimitLemmas.{reason-none, fresh-name}
use Rattle.spec_reader.proofs.TokenTests.{reserved-is}
use Rattle.spec_reader.proofs.DraftLemmas.{Holds, begun-holds, begun-container-holds, put-holds, close-holds, put-filled, close-filled, ready-filled, rebound-ready, rebound-holds}

abbrev are_shallow : Option (List Item) → Bool
are_shallow None = true
are_shallow (Some row) = list_all is_shallow row

arguments-shallow : (depth : ℕ) (head : Option Head) → is_deeper 32 (role.ExprStart depth) ≡ false → are_shallow (arguments depth head) ≡ true
arguments-shallow depth None low = refl
arguments-shallow depth (Some head.Epsilon) low = refl
arguments-shallow depth (Some head.Atom) low = refl
arguments-shallow depth (Some head.Name) low = refl
arguments-shallow depth (Some (head.Former former)) low = grind (arith, nat_tests, low)
arguments-shallow depth (Some (head.Container k)) low = grind (arith, nat_tests, low)

-- what is expected after a token is no deeper than is looked at
pub step-shallow : (i : Item) (t : Token) → is_shallow i ≡ true → is_deeper 32 (role_of i) ≡ false → are_shallow (step i t) ≡ true
step-shallow (item.Expr depth) t shallow low = arguments-shallow depth (head_of t) low
step-shallow (item.MoreExprs depth) t shallow low = grind (arith, shallow)
step-shallow _ t shallow low = grind arith

abbrev row_ready : Option (List Item) → List Item → List Compound → Bool
row_ready None rest pending = true
row_ready (Some row) rest pending = is_ready (row ++ rest) pending

begin-ready : (depth : ℕ) (t : Token) (head : Option Head) (rest : List Item) (draft : Draft) → row_ready (arguments depth head) rest (begin_at t head draft).pending ≡ true
begin-ready depth t None rest draft = refl
begin-ready depth t (Some head.Epsilon) rest draft = ready-filled rest (put Epsilon draft).pending (put-filled Epsilon draft)
begin-ready depth t (Some head.Atom) rest draft = ready-filled rest (put Atom draft).pending (put-filled Atom draft)
begin-ready depth t (Some head.Name) rest draft = ready-filled rest (put (Name (text_of t)) draft).pending (put-filled (Name (text_of t)) draft)
begin-ready depth t (Some (head.Former former.Union)) rest draft = refl
begin-ready depth t (Some (head.Former former.Prod)) rest draft = refl
begin-ready depth t (Some (head.Container k)) rest draft = refl

-- where the innermost expression has an argument, any row may follow
filled-ready : (found : Option (List Item)) (rest : List Item) (pending : List Compound) → is_filled pending ≡ true → row_ready found rest pending ≡ true
filled-ready None rest pending filled = refl
filled-ready (Some row) rest pending filled = ready-filled (row ++ rest) pending filled

closing-filled : (b : Bool) (draft : Draft) → is_filled draft.pending ≡ true → is_filled (if b then close draft else draft).pending ≡ true
closing-filled true draft filled = close-filled draft filled
closing-filled false draft filled = filled

only_if-ready : (b : Bool) (row rest : List Item) (pending : List Compound) → is_ready (row ++ rest) pending ≡ true → row_ready (only_if b row) rest pending ≡ true
only_if-ready true row rest pending ready = ready
only_if-ready false row rest pending ready = refl

either-ready : (first second : Bool) (row other rest : List Item) (pending : List Compound) → is_ready (row ++ rest) pending ≡ true → is_ready (other ++ rest) pending ≡ true
    → row_ready (if first then Some row else only_if second other) rest pending ≡ true
either-ready true second row other rest pending ready also = ready
either-ready false second row other rest pending ready also = only_if-ready second other rest pending also

-- the bound of the innermost expression is changed by what was found, if anything was
abbrev changed : {A : Type 0} → (A → Bound → Bound) → Option A → Draft → Draft
changed change found draft = option_map_or (λ x. record draft { pending = rebound (change x) draft.pending }) found draft

changed-ready : {A : Type 0} (change : A → Bound → Bound) (found : Option A) (items : List Item) (draft : Draft) → is_ready items draft.pending ≡ true
    → is_ready items (changed change found draft).pending ≡ true
changed-ready change None items draft ready = ready
changed-ready change (Some x) items draft ready = rebound-ready (change x) items draft.pending ready

abbrev with_number : ℕ → Bound → Bound
with_number number bound = record bound { number = number }

abbrev with_comparison : Comparison → Bound → Bound
with_comparison comparison bound = record bound { comparison = comparison }

abbrev with_turned : Comparison → Bound → Bound
with_turned comparison bound = record bound { comparison = turned comparison }

named-pending : (found : Option Universe) (draft : Draft) → (option_map_or (λ named. record draft { universe = named }) found draft).pending ≡ draft.pending
named-pending None draft = refl
named-pending (Some named) draft = refl

sized-pending : (found : Option ℕ) (draft : Draft) → (option_map_or (λ size. record draft { size = size }) found draft).pending ≡ draft.pending
sized-pending None draft = refl
sized-pending (Some size) draft = refl

commanded-pending : (found : Option Command) (quiet : Bool) (draft : Draft)
    → (option_map_or (λ command. record draft { command = Some command }) found (record draft { quiet = quiet })).pending ≡ draft.pending
commanded-pending None quiet draft = refl
commanded-pending (Some command) quiet draft = refl

-- the table can go on after a token
pub step-ready : (i : Item) (t : Token) (rest : List Item) (draft : Draft) → is_ready (i ∷ rest) draft.pending ≡ true → row_ready (step i t) rest (act i t draft).pending ≡ true
step-ready item.Statement t rest draft ready =
    let after : is_ready rest (act item.Statement t draft).pending ≡ true = ap (is_ready rest) (commanded-pending (command_of t) (is_mark sign.Colon t) draft) ∙ ready in
    either-ready (is_end t) (is_some (command_of t)) _ _ rest (act item.Statement t draft).pending after after
step-ready item.End t rest draft ready = only_if-ready (is_end t) [] rest draft.pending ready
step-ready item.Universe t rest draft ready =
    only_if-ready (is_some (universe_of t)) [] rest (act item.Universe t draft).pending (ap (is_ready rest) (named-pending (universe_of t) draft) ∙ ready)
step-ready item.RightOfZ t rest draft ready = filled-ready (step item.RightOfZ t) rest (put Atom draft).pending (put-filled Atom draft)
step-ready (item.Expr depth) t rest draft ready = begin-ready depth t (head_of t) rest draft
step-ready (item.MoreExprs depth) t rest draft ready =
    filled-ready (step (item.MoreExprs depth) t) rest (act (item.MoreExprs depth) t draft).pending (closing-filled (is_mark sign.CloseParen t) draft ready)
step-ready item.ContainerEnd t rest draft ready =
    filled-ready (step item.ContainerEnd t) rest (act item.ContainerEnd t draft).pending (closing-filled (is_mark sign.CloseParen t) draft ready)
step-ready item.BoundEnd t rest draft ready =
    filled-ready (step item.BoundEnd t) rest (act item.BoundEnd t draft).pending (closing-filled (is_mark sign.CloseParen t) draft ready)
step-ready item.Bound t rest draft ready =
    let after : is_ready rest (act item.Bound t draft).pending ≡ true = changed-ready with_number (number_in t) rest draft ready in
    either-ready (is_reserved word.Card t) (is_number t) _ _ rest (act item.Bound t draft).pending after after
step-ready item.Comparison t rest draft ready =
    only_if-ready (is_some (comparison_of t)) [] rest (act item.Comparison t draft).pending (changed-ready with_comparison (comparison_of t) rest draft ready)
step-ready item.TurnedComparison t rest draft ready =
    only_if-ready (is_some (comparison_of t)) [] rest (act item.TurnedComparison t draft).pending (changed-ready with_turned (comparison_of t) rest draft ready)
step-ready item.CardNumber t rest draft ready =
    only_if-ready (is_number t) [] rest (act item.CardNumber t draft).pending (changed-ready with_number (number_in t) rest draft ready)
step-ready item.Size t rest draft ready =
    only_if-ready (is_number t) [] rest (act item.Size t draft).pending (ap (is_ready rest) (sized-pending (number_in t) draft) ∙ ready)
step-ready _ t rest draft ready = grind (arith, ready)

abbrev weight : Role → ℕ
weight (role.ExprStart depth) = 1
weight _ = 0

more-holds : (n : ℕ) (draft : Draft) → Holds n draft → Holds (n + 1) draft
more-holds n draft holds = record { rights = holds.rights; pending = holds.pending; count = omega (arith, holds.count) }

same-holds : (n : ℕ) (draft : Draft) → Holds n draft → Holds (n + 0) draft
same-holds n draft holds = record { rights = holds.rights; pending = holds.pending; count = omega (arith, holds.count) }

begin-holds : (n : ℕ) (t : Token) (head : Option Head) (draft : Draft) → Holds n draft → Holds (n + 1) (begin_at t head draft)
begin-holds n t None draft holds = more-holds n draft holds
begin-holds n t (Some head.Epsilon) draft holds = put-holds n Epsilon draft holds refl
begin-holds n t (Some head.Atom) draft holds = put-holds n Atom draft holds refl
begin-holds n t (Some head.Name) draft holds = put-holds n (Name (text_of t)) draft holds refl
begin-holds n t (Some (head.Former former)) draft holds = begun-holds n former draft holds
begin-holds n t (Some (head.Container k)) draft holds = begun-container-holds n k draft holds

sized-holds : (n : ℕ) (found : Option ℕ) (draft : Draft) → Holds n draft → Holds (n + 0) (option_map_or (λ size. record draft { size = size }) found draft)
sized-holds n None draft holds = same-holds n draft holds
sized-holds n (Some size) draft holds = same-holds n (record draft { size = size }) (record { rights = holds.rights; pending = holds.pending; count = holds.count })

named-holds : (n : ℕ) (found : Option Universe) (draft : Draft) → Holds n draft → Holds (n + 0) (option_map_or (λ named. record draft { universe = named }) found draft)
named-holds n None draft holds = same-holds n draft holds
named-holds n (Some named) draft holds = same-holds n (record draft { universe = named }) (record { rights = holds.rights; pending = holds.pending; count = holds.count })

changed-holds : {A : Type 0} (n : ℕ) (change : A → Bound → Bound) (found : Option A) (draft : Draft) → Holds n draft → Holds (n + 0) (changed change found draft)
changed-holds n change None draft holds = same-holds n draft holds
changed-holds n change (Some x) draft holds = same-holds n (record draft { pending = rebound (change x) draft.pending }) (rebound-holds n (change x) draft holds)

quiet-holds : (n : ℕ) (quiet : Bool) (draft : Draft) → Holds n draft → Holds (n + 0) (record draft { quiet = quiet })
quiet-holds n quiet draft holds = same-holds n (record draft { quiet = quiet }) (record { rights = holds.rights; pending = holds.pending; count = holds.count })

commanded-holds : (n : ℕ) (found : Option Command) (quiet : Bool) (draft : Draft) → Holds n draft
    → Holds (n + 0) (option_map_or (λ command. record draft { command = Some command }) found (record draft { quiet = quiet }))
commanded-holds n None quiet draft holds = quiet-holds n quiet draft holds
commanded-holds n (Some command) quiet draft holds =
    same-holds n (record draft { command = Some command }) (record { rights = holds.rights; pending = holds.pending; count = holds.count })

closing-holds : (n : ℕ) (b : Bool) (draft : Draft) → Holds n draft → is_filled draft.pending ≡ true → Holds (n + 0) (if b then close draft else draft)
closing-holds n true draft holds filled = same-holds n (close draft) (close-holds n draft holds filled)
closing-holds n false draft holds filled = same-holds n draft holds

-- what is built with a token is well formed, and has at most one expression more where an expression begins
pub act-holds : (n : ℕ) (i : Item) (t : Token) (rest : List Item) (draft : Draft) → Holds n draft → is_ready (i ∷ rest) draft.pending ≡ true → Holds (n + weight (role_of i)) (act i t draft)
act-holds n item.Statement t rest draft holds ready = commanded-holds n (command_of t) (is_mark sign.Colon t) draft holds
act-holds n item.End t rest draft holds ready = quiet-holds n (is_mark sign.Colon t) draft holds
act-holds n item.Symbol t rest draft holds ready = same-holds n (record draft { symbol = text_of t }) (record { rights = holds.rights; pending = holds.pending; count = holds.count })
act-holds n item.Universe t rest draft holds ready = named-holds n (universe_of t) draft holds
act-holds n item.RightOfZ t rest draft holds ready = put-holds n Atom draft holds refl
act-holds n (item.Expr depth) t rest draft holds ready = begin-holds n t (head_of t) draft holds
act-holds n (item.MoreExprs depth) t rest draft holds ready = closing-holds n (is_mark sign.CloseParen t) draft holds ready
act-holds n item.ContainerEnd t rest draft holds ready = closing-holds n (is_mark sign.CloseParen t) draft holds ready
act-holds n item.BoundEnd t rest draft holds ready = closing-holds n (is_mark sign.CloseParen t) draft holds ready
act-holds n item.Bound t rest draft holds ready = changed-holds n with_number (number_in t) draft holds
act-holds n item.Comparison t rest draft holds ready = changed-holds n with_comparison (comparison_of t) draft holds
act-holds n item.TurnedComparison t rest draft holds ready = changed-holds n with_turned (comparison_of t) draft holds
act-holds n item.CardNumber t rest draft holds ready = changed-holds n with_number (number_in t) draft holds
act-holds n item.Size t rest draft holds ready = sized-holds n (number_in t) draft holds
act-holds n _ t rest draft holds ready = same-holds n draft holds

same-sym : (a b : List ℕ) → is_same_name a b ≡ is_same_name b a
same-sym [] [] = refl
same-sym [] (y ∷ b) = refl
same-sym (x ∷ a) [] = refl
same-sym (x ∷ a) (y ∷ b) = grind (arith, nat_tests, same-sym a b)

repeats-push : (names : List (List ℕ)) (name text : List ℕ) → repeats (names ++ text ∷ []) name ≡ (repeats names name || is_same_name text name)
repeats-push [] name text = grind arith
repeats-push (first ∷ names) name text = grind (arith, repeats-push names name text)

distinct-push : (names : List (List ℕ)) (text : List ℕ) → are_distinct names ≡ true → repeats names text ≡ false → are_distinct (names ++ text ∷ []) ≡ true
distinct-push [] text distinct fresh = refl
distinct-push (name ∷ names) text distinct fresh = grind (arith, distinct-push names text, repeats-push names name text, same-sym text name)

name-step : (seen : Seen) (t : Token) → is_word (text_of t) ≡ true → is_sound_seen seen ≡ true → reason_in seen role.RuleName t ≡ None → is_sound_seen (seen_after role.RuleName t seen) ≡ true
name-step seen t spelled sound none =
    let text = text_of t in
    let passes = reason-none (reverse seen.names) seen.expressions role.RuleName t none in
    let fresh : repeats (reverse seen.names) text ≡ false = fresh-name (reverse seen.names) t passes.repeated in
    let joined : reverse (text ∷ seen.names) ≡ reverse seen.names ++ text ∷ [] = reverse-append (text ∷ []) seen.names in
    let distinct : are_distinct (reverse seen.names ++ text ∷ []) ≡ true = distinct-push (reverse seen.names) text (grind (arith, sound)) fresh in
    let words : list_all is_word (reverse seen.names ++ text ∷ []) ≡ true =
    list_all-append is_word (reverse seen.names) (text ∷ []) ∙ and_from _ _ (grind (arith, sound)) (and_from _ _ spelled refl) in
    let few : nat_le (length (text ∷ seen.names)) 64 ≡ true = grind (arith, nat_tests, passes.rules, length-reverse seen.names) in
    let small : nat_le seen.expressions 128 ≡ true = grind (arith, sound) in
    rw joined (grind (arith, distinct, words, few, small))

expr-step : (seen : Seen) (depth : ℕ) (t : Token) → is_sound_seen seen ≡ true → reason_in seen (role.ExprStart depth) t ≡ None → is_sound_seen (seen_after (role.ExprStart depth) t seen) ≡ true
expr-step seen depth t sound none =
    let passes = reason-none (reverse seen.names) seen.expressions (role.ExprStart depth) t none in
    let small : nat_le (seen.expressions + 1) 128 ≡ true = grind (arith, nat_tests, passes.nodes) in
    grind (arith, sound, small)

name-word : (t : Token) → is_name t ≡ true → is_spelled t ≡ true → is_word (text_of t) ≡ true
name-word (token.Name text) named spelled = spelled
name-word _ named spelled = cc

z-word : (t : Token) → is_reserved word.Z t ≡ true → is_word (text_of t) ≡ true
z-word t z = ap (λ u. is_word (text_of u)) (reserved-is word.Z t z)

either-fits : (first second : Bool) (row other found : List Item) (X : Type 0) → (first ≡ true → X) → (second ≡ true → X)
    → (if first then Some row else only_if second other) ≡ Some found → X
either-fits true second row other found X f g fits = f refl
either-fits false true row other found X f g fits = g refl
either-fits false false row other found X f g fits = cc

-- the left side of a rule is spelled as a word
rule-word : (t : Token) (row : List Item) → step item.Rule t ≡ Some row → is_spelled t ≡ true → is_word (text_of t) ≡ true
rule-word t row fits spelled =
    either-fits (is_name t) (is_reserved word.Z t) _ _ row (is_word (text_of t) ≡ true) (λ named. name-word t named spelled) (z-word t) fits

-- what was seen stays within the limits
pub seen-step : (seen : Seen) (i : Item) (t : Token) (row : List Item) → step i t ≡ Some row → is_spelled t ≡ true → is_sound_seen seen ≡ true → reason_in seen (role_of i) t ≡ None
    → is_sound_seen (seen_after (role_of i) t seen) ≡ true
seen-step seen item.Rule t row fits spelled sound none = name-step seen t (rule-word t row fits spelled) sound none
seen-step seen item.RightOfZ t row fits spelled sound none = expr-step seen 1 t sound none
seen-step seen (item.Expr depth) t row fits spelled sound none = expr-step seen depth t sound none
seen-step seen _ t row fits spelled sound none = sound

-- the parts of what a reader keeps
pub record Sound (expected : List Item) (seen : Seen) (draft : Draft) : Type 0 where
  pub shallow : list_all is_shallow expected ≡ true
  pub ready : is_ready expected draft.pending ≡ true
  pub within : is_sound_seen seen ≡ true
  pub holds : Holds seen.expressions draft

pub sound-parts : (reader : Reader) → is_sound reader ≡ true → Sound reader.expected reader.seen reader.draft
sound-parts reader sound = record {
  shallow = grind (arith, sound);
  ready = grind (arith, sound);
  within = grind (arith, sound);
  holds = record { rights = grind (arith, sound); pending = grind (arith, sound); count = grind (arith, nat_tests, sound) };
}

pub sound-whole : (reader : Reader) → Sound reader.expected reader.seen reader.draft → is_sound reader ≡ true
sound-whole reader sound =
    let enough : nat_le (built reader.draft) reader.seen.expressions ≡ true = grind (arith, nat_tests, sound.holds.count) in
    grind (arith, sound.shallow, sound.ready, sound.within, sound.holds.rights, sound.holds.pending, enough)

weighed : (i : Role) (t : Token) (seen : Seen) → (seen_after i t seen).expressions ≡ seen.expressions + weight i
weighed (role.ExprStart depth) t seen = refl
weighed _ t seen = omega arith

-- the parts stay so over a token that an item takes
pub row-sound : (i : Item) (rest : List Item) (found : Option (List Item)) (row : List Item) (t : Token) (seen : Seen) (draft : Draft) → step i t ≡ found → found ≡ Some row
    → reason_in seen (role_of i) t ≡ None → is_spelled t ≡ true → Sound (i ∷ rest) seen draft → Sound (row ++ rest) (seen_after (role_of i) t seen) (act i t draft)
row-sound i rest found row t seen draft is fits none spelled sound =
    let passes = reason-none (reverse seen.names) seen.expressions (role_of i) t none in
    let front : are_shallow (Some row) ≡ true = ap are_shallow (sym (is ∙ fits)) ∙ step-shallow i t (grind (arith, sound.shallow)) passes.depth in
    let ready : row_ready (Some row) rest (act i t draft).pending ≡ true = ap (λ o. row_ready o rest (act i t draft).pending) (sym (is ∙ fits)) ∙ step-ready i t rest draft sound.ready in
    record {
      shallow = list_all-append is_shallow row rest ∙ and_from _ _ front (grind (arith, sound.shallow));
      ready = ready;
      within = seen-step seen i t row (is ∙ fits) spelled sound.within none;
      holds = subst (λ n. Holds n (act i t draft)) (sym (weighed (role_of i) t seen)) (act-holds seen.expressions i t rest draft sound.holds sound.ready);
    }

takes-on : (i : Item) (rest after : List Item) (found : Option (List Item)) (t : Token) (seen : Seen) (draft : Draft) → step i t ≡ found → Takes found true rest after
    → reason_in seen (role_of i) t ≡ None → is_spelled t ≡ true → Sound (i ∷ rest) seen draft → Sound after (seen_after (role_of i) t seen) (act i t draft)
takes-on i rest after None t seen draft is takes none spelled sound = cc (takes.0)
takes-on i rest after (Some row) t seen draft is takes none spelled sound = rw takes.1 (row-sound i rest (Some row) row t seen draft is refl none spelled sound)

-- a reader stays sound over a token that it takes
pub takes-sound : (reader : Reader) (i : Item) (rest after : List Item) (fits : Bool) (r : Role) (t : Token) (seen : Seen) (draft : Draft)
    → reader.expected ≡ i ∷ rest → Takes (step i t) fits rest after → fits ≡ true → r ≡ role_of i → reason_in reader.seen r t ≡ None
    → seen ≡ seen_after r t reader.seen → draft ≡ act i t reader.draft → is_spelled t ≡ true → is_sound reader ≡ true
    → is_sound (record { expected = after; seen = seen; draft = draft }) ≡ true
takes-sound reader i rest after fits r t seen draft expected takes fit role_is none seen_is draft_is spelled sound =
    let before : Sound (i ∷ rest) reader.seen reader.draft = subst (λ items. Sound items reader.seen reader.draft) expected (sound-parts reader sound) in
    let taken : Takes (step i t) true rest after = subst (λ b. Takes (step i t) b rest after) fit takes in
    rw (seen_is, draft_is, role_is) (sound-whole (record { expected = after; seen = seen_after (role_of i) t reader.seen; draft = act i t reader.draft })
    (takes-on i rest after (step i t) t reader.seen reader.draft refl taken (rw (← role_is) none) spelled before))
