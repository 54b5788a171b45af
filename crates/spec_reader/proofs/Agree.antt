-- Tokens have one answer: what they read as and their fault is what a reader answers.
use Rattle.std.proofs.Common.{◌≡◌, ℕ, true, Option, Some, None, Result, Ok, Err, List, [], ◌∷◌, ◌++◌, refl, sym, ap, ◌∙◌, subst, append_assoc, append-nil}
use Rattle.std.proofs.lemmas.List.{map-append}
use Rattle.spec_syntax.specs.declared.statement.Statement.{Statement}
use Rattle.spec_reader.specs.declared.refusal.Fault.{Fault}
use Rattle.spec_reader.specs.declared.refusal.Fault.TheVariants as fault
use Rattle.spec_reader.specs.declared.table.Item.{Item}
use Rattle.spec_reader.specs.declared.table.Item.TheVariants as item
use Rattle.spec_reader.specs.declared.draft.Draft.{Draft}
use Rattle.spec_reader.specs.Tokens.{Token, Placed}
use Rattle.spec_reader.specs.Grammar.{Marked, statement}
use Rattle.spec_reader.specs.Limits.{Reason, Passes, Repeats}
use Rattle.spec_reader.specs.Table.{step, role_of}
use Rattle.spec_reader.specs.Drafts.{act, empty}
use Rattle.spec_reader.specs.Seen.{reason_in}
use Rattle.spec_reader.specs.Machine.{Goes, start, pass, take_row, advance, go_on, run, fault_of}
use Rattle.spec_reader.specs.Reading.{unmarked, unplaced, reason_after, pass_after, ReadAs, InOrder, Opens, IsWhole, StopsAt, UnfitAt, FailsBy}
use Rattle.spec_reader.proofs.Walks.{Walks, walk-append, walk-split}
use Rattle.spec_reader.proofs.Productions.{effect_of_statement, reads-statement, marked}
use Rattle.spec_reader.proofs.Built.{built-means}
use Rattle.spec_reader.proofs.SeenLemmas.{seen_of, seen_of-push, reason_in-seen_of, pass-first}
use Rattle.spec_reader.proofs.Verdict.{Verdict, reader, whole, goes-on}

-- a token that the item on top takes and that passes its tests
took : (i : Item) (is row : List Item) (t : Token) (before : List Marked) (d : Draft) → step i t ≡ Some row → reason_in (seen_of before) (role_of i) t ≡ None
    → advance (reader (i ∷ is) before d) t ≡ Goes (reader (row ++ is) (before ++ marked i t ∷ []) (act i t d))
took i is row t before d fits none =
    ap (λ found. take_row found i is t (reader (i ∷ is) before d)) fits
    ∙ ap (λ why. pass why i (row ++ is) t (reader (i ∷ is) before d)) none
    ∙ (λ k. Goes (record { expected = row ++ is; seen = seen_of-push before (role_of i) t k; draft = act i t d }))

-- a reader goes along a walk whose tokens pass their tests
along : (ms : List Marked) (front rest : List Placed) (before : List Marked) (is js : List Item) (d e : Draft) (end : ℕ) → Walks ms is d js e → unmarked ms ≡ unplaced front
    → pass_after before ms ≡ true → run (reader is before d) end (front ++ rest) ≡ run (reader js (before ++ ms) e) end rest
along [] [] rest before is js d e end walk same passes = λ k. run (reader (walk.0 k) (sym (append-nil before) k) (walk.1 k)) end rest
along [] (p ∷ front) rest before is js d e end walk same passes = cc
along (m ∷ ms) [] rest before is js d e end walk same passes = cc
along (m ∷ ms) (p ∷ front) rest before [] js d e end walk same passes = absurd walk
along (m ∷ ms) (p ∷ front) rest before (i ∷ is) js d e end walk same passes =
    let here : m.token ≡ p.token = cc in
    let others : unmarked ms ≡ unplaced front = cc in
    let row = walk.0 in
    let parts = pass-first before m ms passes in
    let mark : m ≡ marked i p.token = λ k. record { role = walk.2 k; token = here k } in
    let none : reason_in (seen_of before) (role_of i) p.token ≡ None = reason_in-seen_of before (role_of i) p.token ∙ ap (reason_after before) (sym mark) ∙ parts.0 in
    let one = took i is row p.token before d (ap (step i) (sym here) ∙ walk.1) none in
    let next : Walks ms (row ++ is) (act i p.token d) js e = subst (λ t. Walks ms (row ++ is) (act i t d) js e) here walk.3 in
    let pass-rest : pass_after (before ++ marked i p.token ∷ []) ms ≡ true = subst (λ n. pass_after (before ++ n ∷ []) ms ≡ true) mark parts.1 in
    ap (λ advanced. go_on advanced p.at (λ after. run after end (front ++ rest))) one
    ∙ along ms front rest (before ++ marked i p.token ∷ []) (row ++ is) js (act i p.token d) e end next others pass-rest
    ∙ ap (λ those. run (reader js those e) end rest) (append_assoc before (marked i p.token ∷ []) ms ∙ ap (λ n. before ++ n ∷ ms) (sym mark))

-- what the tokens read as
agree-read : (placed : List Placed) (end : ℕ) (read : Statement) → ReadAs placed read → run start end placed ≡ Ok read
agree-read placed end read is_so =
    let t = is_so.tree in
    ap (run start end) (sym (append-nil placed))
    ∙ along (statement t) placed [] [] (item.Statement ∷ []) [] empty (effect_of_statement t empty) end (reads-statement t empty) is_so.spelled is_so.pass
    ∙ built-means t end ∙ ap (λ s. Ok s) is_so.means

-- where tokens in order lead
record Leads (front : List Placed) : Type 0 where
  pub marks : List Marked
  pub items : List Item
  pub draft : Draft
  pub walk : Walks marks (item.Statement ∷ []) empty items draft
  pub spelled : unmarked marks ≡ unplaced front
  pub pass : pass_after [] marks ≡ true

leads : (front : List Placed) → InOrder front → Leads front
leads front order =
    let walk : Walks (order.marks ++ order.rest) (item.Statement ∷ []) empty [] (effect_of_statement order.tree empty) =
    subst (λ ms. Walks ms (item.Statement ∷ []) empty [] (effect_of_statement order.tree empty)) order.whole (reads-statement order.tree empty) in
    let stands = walk-split order.marks order.rest (item.Statement ∷ []) [] empty (effect_of_statement order.tree empty) walk in
    record { marks = order.marks; items = stands.items; draft = stands.draft; walk = stands.first; spelled = order.spelled; pass = order.pass }

-- a statement with the tokens in front, where nothing more is expected
ended : (front : List Placed) (ms : List Marked) (d : Draft) → Walks ms (item.Statement ∷ []) empty [] d → unmarked ms ≡ unplaced front → IsWhole (unplaced front)
ended front ms d walk spelled = let all = whole ms d walk in (all.tree, ap unmarked all.is_so ∙ spelled)

-- with a token that the item on top takes, the tokens in front begin a statement
opened : (front : List Placed) (ms : List Marked) (i : Item) (is row : List Item) (d : Draft) (t : Token) → Walks ms (item.Statement ∷ []) empty (i ∷ is) d
    → unmarked ms ≡ unplaced front → step i t ≡ Some row → Opens (unplaced front ++ t ∷ [])
opened front ms i is row d t walk spelled fits =
    let m = marked i t in
    let more = goes-on (ms ++ m ∷ []) (row ++ is) (act i t d)
    (walk-append ms (m ∷ []) (item.Statement ∷ []) (i ∷ is) (row ++ is) empty d (act i t d) walk (row, fits, refl, (refl, refl))) in (
      more.tree,
      unmarked more.rest,
      ap unmarked more.is_so ∙ map-append (λ (n : Marked). n.token) (ms ++ m ∷ []) more.rest
          ∙ ap (λ those. those ++ unmarked more.rest) (map-append (λ (n : Marked). n.token) ms (m ∷ []) ∙ ap (λ those. those ++ t ∷ []) spelled),
    )

stops-row : (front rest : List Placed) (p : Placed) (ms : List Marked) (i : Item) (is : List Item) (d : Draft) (end at : ℕ) (found : Option (List Item))
    → Walks ms (item.Statement ∷ []) empty (i ∷ is) d → unmarked ms ≡ unplaced front → StopsAt (unplaced front) (p ∷ rest) end at → step i p.token ≡ found
    → go_on (take_row found i is p.token (reader (i ∷ is) ms d)) p.at (λ next. run next end rest) ≡ Err (fault.Syntax at)
stops-row front rest p ms i is d end at None walk spelled stops fits = ap (λ n. Err (fault.Syntax n)) (sym stops.1)
stops-row front rest p ms i is d end at (Some row) walk spelled stops fits = absurd (stops.0 (opened front ms i is row d p.token walk spelled fits))

-- the place where no statement goes on
stops-here : (front rest : List Placed) (ms : List Marked) (items : List Item) (d : Draft) (end at : ℕ) → Walks ms (item.Statement ∷ []) empty items d
    → unmarked ms ≡ unplaced front → StopsAt (unplaced front) rest end at → run (reader items ms d) end rest ≡ Err (fault.Syntax at)
stops-here front [] ms [] d end at walk spelled stops = absurd (stops.0 (ended front ms d walk spelled))
stops-here front [] ms (i ∷ is) d end at walk spelled stops = ap (λ n. Err (fault.Syntax n)) (sym stops.1)
stops-here front (p ∷ rest) ms [] d end at walk spelled stops = ap (λ n. Err (fault.Syntax n)) (sym stops.1)
stops-here front (p ∷ rest) ms (i ∷ is) d end at walk spelled stops = stops-row front rest p ms i is d end at (step i p.token) walk spelled stops refl

-- the place of the syntax fault
agree-unfit : (placed : List Placed) (end at : ℕ) → UnfitAt placed end at → run start end placed ≡ Err (fault.Syntax at)
agree-unfit placed end at unfit =
    let there = leads unfit.front unfit.in_order in
    ap (run start end) unfit.split
    ∙ along there.marks unfit.front unfit.rest [] (item.Statement ∷ []) there.items empty there.draft end there.walk there.spelled there.pass
    ∙ stops-here unfit.front unfit.rest there.marks there.items there.draft end at there.walk there.spelled unfit.stops

fails-here : (rest : List Placed) (p : Placed) (before after : List Marked) (m : Marked) (items : List Item) (d e : Draft) (end : ℕ) (why : Reason)
    → Walks (m ∷ after) items d [] e → m.token ≡ p.token → reason_after before m ≡ Some why → run (reader items before d) end (p ∷ rest) ≡ Err (fault_of why)
fails-here rest p before after m [] d e end why walk same fault = absurd walk
fails-here rest p before after m (i ∷ is) d e end why walk same fault =
    let r = reader (i ∷ is) before d in
    let fits : step i p.token ≡ Some walk.0 = ap (step i) (sym same) ∙ walk.1 in
    let mark : marked i p.token ≡ m = λ k. record { role = sym walk.2 k; token = sym same k } in
    let reason_is : reason_in (seen_of before) (role_of i) p.token ≡ Some why = reason_in-seen_of before (role_of i) p.token ∙ ap (reason_after before) mark ∙ fault in
    ap (λ found. go_on (take_row found i is p.token r) p.at (λ next. run next end rest)) fits
    ∙ ap (λ reason. go_on (pass reason i (walk.0 ++ is) p.token r) p.at (λ next. run next end rest)) reason_is

-- the limit that is passed, or the name that is repeated
agree-fails : (placed : List Placed) (end : ℕ) (why : Reason) → FailsBy placed why → run start end placed ≡ Err (fault_of why)
agree-fails placed end why fails =
    let e = effect_of_statement fails.tree empty in
    let walk : Walks (fails.before ++ fails.marked ∷ fails.after) (item.Statement ∷ []) empty [] e =
    subst (λ ms. Walks ms (item.Statement ∷ []) empty [] e) fails.whole (reads-statement fails.tree empty) in
    let stands = walk-split fails.before (fails.marked ∷ fails.after) (item.Statement ∷ []) [] empty e walk in
    ap (run start end) fails.split
    ∙ along fails.before fails.front (fails.here ∷ fails.rest) [] (item.Statement ∷ []) stands.items empty stands.draft end stands.first fails.spelled fails.pass
    ∙ fails-here fails.rest fails.here fails.before fails.after fails.marked stands.items stands.draft e end why stands.second fails.token fails.fault

-- what holds of tokens is the reader's answer
pub agree : (placed : List Placed) (end : ℕ) (answer : Result Statement Fault) → Verdict placed end answer → run start end placed ≡ answer
agree placed end (Ok read) is_so = agree-read placed end read is_so
agree placed end (Err (fault.Syntax at)) is_so = agree-unfit placed end at is_so
agree placed end (Err (fault.DuplicateRule name)) is_so = agree-fails placed end (Repeats name) is_so
agree placed end (Err (fault.Limit which)) is_so = agree-fails placed end (Passes which) is_so
agree placed end (Err fault.Memory) is_so = absurd is_so
