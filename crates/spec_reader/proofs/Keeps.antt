-- A statement that is read keeps what a specification keeps.
use Rattle.std.proofs.Common.{◌≡◌, ℕ, zero, suc, ◌+◌, ◌-◌, Bool, true, false, ◌&&◌, Option, Some, None, Result, Ok, List, [], ◌∷◌, ◌++◌, length, drop, refl, sym, ap, ◌∙◌, subst, arith}
use Rattle.std.specs.Prelude.{if◌then◌else◌, ◌==◌, nat_eq, codes}
use Rattle.std.specs.List.{list_all, prefix_len, take_while, starts_with}
use Rattle.std.specs.Option.{option_map_or}
use Rattle.std.proofs.lemmas.Bool.{and_parts}
use Rattle.spec_syntax.specs.Word.{is_word_start, is_word_byte, is_digit, is_word}
use Rattle.spec_syntax.specs.declared.statement.Statement.{Statement}
use Rattle.spec_reader.specs.declared.token.Sign.{Sign}
use Rattle.spec_reader.specs.declared.token.Keyword.{Keyword}
use Rattle.spec_reader.specs.declared.refusal.Fault.{Fault}
use Rattle.spec_reader.specs.declared.table.Item.{Item}
use Rattle.spec_reader.specs.declared.table.Command.{Command}
use Rattle.spec_reader.specs.declared.table.Command.TheVariants as command
use Rattle.spec_reader.specs.declared.read.Reader.{Reader}
use Rattle.spec_reader.specs.Tokens.{Token, Name, Reserved, Placed, Front, is_string_byte, keyword_of, string_of, sign_or_stray, sign_at, front_of, is_spelled, tokens_from, tokens}
use Rattle.spec_reader.specs.Limits.{Reason, Passes, Repeats}
use Rattle.spec_reader.specs.Seen.{seen_after, reason_in}
use Rattle.spec_reader.specs.Cutting.{is_skipped, gap_len, region_after}
use Rattle.spec_reader.specs.declared.cut.Region.TheVariants.{Open}
use Rattle.spec_reader.specs.Drafts.{act}
use Rattle.spec_reader.specs.Table.{step, role_of}
use Rattle.spec_reader.specs.Machine.{Advance, Goes, Unfit, Stops, start, pass, take_row, take_on, advance, form_of, finished, go_on, run, is_sound}
use Rattle.spec_reader.specs.Laws.{FormKeeps, ReadingsKeep}
use Rattle.spec_reader.proofs.WordLemmas.{is_word-front, digits-front}
use Rattle.spec_reader.proofs.SoundLemmas.{Sound, sound-parts, sound-whole, row-sound}
use Rattle.spec_reader.proofs.SpecLemmas.{sound-is_spec}
use Rattle.spec_reader.proofs.Agree.{agree}

-- are words and numbers among tokens spelled as such
abbrev are_spelled : List Placed → Bool
are_spelled placed = list_all (λ (p : Placed). is_spelled p.token) placed

word-spelled : (found : Option Keyword) (text : List ℕ) → is_word text ≡ true → is_spelled (option_map_or (λ k. Reserved k) found (Name text)) ≡ true
word-spelled None text word = word
word-spelled (Some k) text word = refl

sign-spelled : (found : Option Sign) → is_spelled (sign_or_stray found).token ≡ true
sign-spelled None = refl
sign-spelled (Some s) = refl

pick-spelled : (test : Bool) (x y : Front) → (test ≡ true → is_spelled x.token ≡ true) → is_spelled y.token ≡ true → is_spelled (let f : Front = if test then x else y in f).token ≡ true
pick-spelled true x y first second = first refl
pick-spelled false x y first second = second

string-spelled : (rest : List ℕ) → is_spelled (string_of rest).token ≡ true
string-spelled rest = pick-spelled (starts_with nat_eq (drop (prefix_len is_string_byte rest) rest) (codes "\"")) _ _ (λ closed. refl) refl

front_of-spelled : (b : ℕ) (rest : List ℕ) → is_spelled (front_of b rest).token ≡ true
front_of-spelled b rest =
    let word = take_while is_word_byte (b ∷ rest) in
    pick-spelled (is_word_start b) _ _ (λ start_is. word-spelled (keyword_of word) word (is_word-front (b ∷ rest) (prefix_len is_word_byte (b ∷ rest)) refl (omega arith) start_is))
    (pick-spelled (is_digit b) _ _ (λ digit. digits-front (b ∷ rest) (prefix_len is_digit (b ∷ rest)) refl)
    (pick-spelled (b == 34) _ _ (λ quote. string-spelled rest) (sign-spelled (sign_at (b ∷ rest)))))

pick-tokens : (test : Bool) (x y : List Placed) → are_spelled x ≡ true → are_spelled y ≡ true → are_spelled (if test then x else y) ≡ true
pick-tokens true x y first second = first
pick-tokens false x y first second = second

cons-spelled : (p : Placed) (ps : List Placed) → is_spelled p.token ≡ true → are_spelled ps ≡ true → are_spelled (p ∷ ps) ≡ true
cons-spelled p ps first rest = λ k. first k && rest k

-- the tokens of a piece are spelled as tokens are
tokens-spelled : (covered at : ℕ) (bs : List ℕ) → are_spelled (tokens_from covered at bs) ≡ true
tokens-spelled zero at [] = refl
tokens-spelled (suc covered) at [] = refl
tokens-spelled (suc covered) at (b ∷ bs) = tokens-spelled covered (suc at) bs
tokens-spelled zero at (b ∷ bs) =
    pick-tokens (is_skipped Open b) _ _ (tokens-spelled (gap_len (region_after Open b) bs) (suc at) bs)
    (cons-spelled (record { token = (front_of b bs).token; at = at + (front_of b bs).place }) (tokens_from ((front_of b bs).len - 1) (suc at) bs) (front_of-spelled b bs) (tokens-spelled ((front_of b bs).len - 1) (suc at) bs))

on-reason : (why : Option Reason) (i : Item) (is row : List Item) (r next : Reader) (t : Token) → step i t ≡ Some row → reason_in r.seen (role_of i) t ≡ why
    → pass why i (row ++ is) t r ≡ Goes next → is_spelled t ≡ true → Sound (i ∷ is) r.seen r.draft → is_sound next ≡ true
on-reason (Some why) i is row r next t fits passes goes spelled sound = cc
on-reason None i is row r next t fits passes goes spelled sound =
    let same : record { expected = row ++ is; seen = seen_after (role_of i) t r.seen; draft = act i t r.draft } ≡ next = cc in
    ap is_sound (sym same) ∙ sound-whole (record { expected = row ++ is; seen = seen_after (role_of i) t r.seen; draft = act i t r.draft })
    (row-sound i is (Some row) row t r.seen r.draft fits refl passes spelled sound)

on-row : (found : Option (List Item)) (i : Item) (is : List Item) (r next : Reader) (t : Token) → step i t ≡ found → take_row found i is t r ≡ Goes next → is_spelled t ≡ true
    → Sound (i ∷ is) r.seen r.draft → is_sound next ≡ true
on-row None i is r next t fits goes spelled sound = cc
on-row (Some row) i is r next t fits goes spelled sound = on-reason (reason_in r.seen (role_of i) t) i is row r next t fits refl goes spelled sound

on-items : (items : List Item) (r next : Reader) (t : Token) → r.expected ≡ items → take_on items t r ≡ Goes next → is_spelled t ≡ true → is_sound r ≡ true → is_sound next ≡ true
on-items [] r next t expected goes spelled sound = cc
on-items (i ∷ is) r next t expected goes spelled sound =
    on-row (step i t) i is r next t refl goes spelled (subst (λ items. Sound items r.seen r.draft) expected (sound-parts r sound))

-- a reader stays sound over a token that it goes on with
goes-sound : (r next : Reader) (t : Token) → advance r t ≡ Goes next → is_spelled t ≡ true → is_sound r ≡ true → is_sound next ≡ true
goes-sound r next t goes spelled sound = on-items r.expected r next t refl goes spelled sound

keeps-form : (c : Option Command) (r : Reader) → is_sound r ≡ true → FormKeeps (form_of c r)
keeps-form None r sound = tt
keeps-form (Some command.AllStructs) r sound = sound-is_spec r sound
keeps-form (Some command.Count) r sound = sound-is_spec r sound

ends-keeping : (items : List Item) (r : Reader) (end : ℕ) (read : Statement) → is_sound r ≡ true → finished items end r ≡ Ok read → FormKeeps read.form
ends-keeping (i ∷ is) r end read sound ends = cc
ends-keeping [] r end read sound ends =
    let same : record { form = form_of r.draft.command r; quiet = r.draft.quiet } ≡ read = cc in
    subst (λ (s : Statement). FormKeeps s.form) same (keeps-form r.draft.command r sound)

goes-on-keeping : (advanced : Advance) (at : ℕ) (more : Reader → Result Statement Fault) (read : Statement) → go_on advanced at more ≡ Ok read → (next : Reader) × (advanced ≡ Goes next) × (more next ≡ Ok read)
goes-on-keeping (Goes next) at more read answer = (next, refl, answer)
goes-on-keeping Unfit at more read answer = cc
goes-on-keeping (Stops (Passes w)) at more read answer = cc
goes-on-keeping (Stops (Repeats name)) at more read answer = cc

run-keeps : (ps : List Placed) (r : Reader) (end : ℕ) (read : Statement) → are_spelled ps ≡ true → is_sound r ≡ true → run r end ps ≡ Ok read → FormKeeps read.form
run-keeps [] r end read spelled sound answer = ends-keeping r.expected r end read sound answer
run-keeps (p ∷ ps) r end read spelled sound answer =
    let parts = and_parts (is_spelled p.token) (are_spelled ps) spelled in
    let next = goes-on-keeping (advance r p.token) p.at (λ after. run after end ps) read answer in
    run-keeps ps next.0 end read parts.1 (goes-sound r next.0 p.token next.1 parts.0 sound) next.2

pub readings-keep : ReadingsKeep
readings-keep piece read reads =
    run-keeps (tokens piece) start (length piece) read (tokens-spelled 0 0 piece) refl (agree (tokens piece) (length piece) (Ok read) reads.reads)
