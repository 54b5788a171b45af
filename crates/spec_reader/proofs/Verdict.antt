-- A reader's answer to tokens is what they read as, or their fault.
use Rattle.std.proofs.Common.{◌≡◌, ℕ, true, Option, Some, None, Result, Ok, Err, List, [], ◌∷◌, ◌++◌, refl, sym, ap, ◌∙◌, subst, append_assoc, append-nil}
use Rattle.std.proofs.lemmas.List.{map-append}
use Rattle.spec_syntax.specs.declared.statement.Statement.{Statement}
use Rattle.spec_reader.specs.declared.refusal.Fault.{Fault}
use Rattle.spec_reader.specs.declared.refusal.Fault.TheVariants as fault
use Rattle.spec_reader.specs.declared.table.Item.{Item}
use Rattle.spec_reader.specs.declared.table.Item.TheVariants as item
use Rattle.spec_reader.specs.declared.draft.Draft.{Draft}
use Rattle.spec_reader.specs.declared.seen.Seen.{Seen}
use Rattle.spec_reader.specs.declared.read.Reader.{Reader}
use Rattle.spec_reader.specs.Tokens.{Token, Placed}
use Rattle.spec_reader.specs.Grammar.{Marked, StatementTree, statement}
use Rattle.spec_reader.specs.Meaning.{meaning}
use Rattle.spec_reader.specs.Limits.{Reason, Passes, Repeats}
use Rattle.spec_reader.specs.Table.{step, role_of}
use Rattle.spec_reader.specs.Drafts.{act, empty}
use Rattle.spec_reader.specs.Seen.{reason_in}
use Rattle.spec_reader.specs.Machine.{start, pass, take_row, go_on, finished, run}
use Rattle.spec_reader.specs.Reading.{unmarked, unplaced, pass_after, ReadAs, InOrder, Opens, IsWhole, UnfitAt, FailsBy}
use Rattle.spec_reader.proofs.Walks.{Walks, walk-append, walk-split, walk-same}
use Rattle.spec_reader.proofs.Productions.{effect_of_statement, reads-statement, marked}
use Rattle.spec_reader.proofs.Built.{built-means}
use Rattle.spec_reader.proofs.TreeWalks.{walk-trees, completes}
use Rattle.spec_reader.proofs.SeenLemmas.{seen_of, seen_of-push, reason_in-seen_of, pass-push}

abbrev pub reader : List Item → List Marked → Draft → Reader
reader is before d = record { expected = is; seen = seen_of before; draft = d }

-- what an answer says of tokens
abbrev pub Verdict : List Placed → ℕ → Result Statement Fault → Type 0
Verdict placed end (Ok read) = ReadAs placed read
Verdict placed end (Err (fault.Syntax at)) = UnfitAt placed end at
Verdict placed end (Err (fault.DuplicateRule name)) = FailsBy placed (Repeats name)
Verdict placed end (Err (fault.Limit which)) = FailsBy placed (Passes which)
Verdict placed end (Err fault.Memory) = ⊥

-- the tokens in front lead here, and are in order
pub record Here (front : List Placed) (before : List Marked) (is : List Item) (d : Draft) : Type 0 where
  pub walk : Walks before (item.Statement ∷ []) empty is d
  pub spelled : unmarked before ≡ unplaced front
  pub pass : pass_after [] before ≡ true

-- a walk to the end is over a statement
pub record Whole (ms : List Marked) : Type 0 where
  pub tree : StatementTree
  pub is_so : statement tree ≡ ms

pub whole : (ms : List Marked) (e : Draft) → Walks ms (item.Statement ∷ []) empty [] e → Whole ms
whole ms e walk =
    let printed = walk-trees ms (item.Statement ∷ []) empty e walk in
    record { tree = printed.trees.0; is_so = sym (append-nil (statement printed.trees.0)) ∙ printed.is_so }

-- what comes before goes on as a statement
pub record Goes_on (before : List Marked) : Type 0 where
  pub tree : StatementTree
  pub rest : List Marked
  pub is_so : statement tree ≡ before ++ rest

pub goes-on : (before : List Marked) (is : List Item) (d : Draft) → Walks before (item.Statement ∷ []) empty is d → Goes_on before
goes-on before is d walk =
    let rest = completes is d in
    let all = whole (before ++ rest.marks) rest.draft (walk-append before rest.marks (item.Statement ∷ []) is [] empty d rest.draft walk rest.walk) in
    record { tree = all.tree; rest = rest.marks; is_so = all.is_so }

in-order : (front : List Placed) (before : List Marked) (is : List Item) (d : Draft) → Here front before is d → InOrder front
in-order front before is d here =
    let more = goes-on before is d here.walk in
    record { tree = more.tree; marks = before; rest = more.rest; whole = more.is_so; spelled = here.spelled; pass = here.pass }

-- marked tokens in two parts
record Parted (ms : List Marked) (xs ys : List Token) : Type 0 where
  pub first : List Marked
  pub second : List Marked
  pub is_so : ms ≡ first ++ second
  pub front : unmarked first ≡ xs
  pub back : unmarked second ≡ ys

parted : (ms : List Marked) (xs ys : List Token) → unmarked ms ≡ xs ++ ys → Parted ms xs ys
parted ms [] ys same = record { first = []; second = ms; is_so = refl; front = refl; back = same }
parted [] (x ∷ xs) ys same = cc
parted (m ∷ ms) (x ∷ xs) ys same =
    let here : m.token ≡ x = cc in
    let rest = parted ms xs ys cc in
    record {
      first = m ∷ rest.first;
      second = rest.second;
      is_so = ap (λ those. m ∷ those) rest.is_so;
      front = λ k. here k ∷ rest.front k;
      back = rest.back;
    }

-- the item on top takes a token
abbrev TakesNext : List Item → Token → Type 0
TakesNext [] t = ⊥
TakesNext (i ∷ is) t = (row : List Item) × (step i t ≡ Some row)

next-of : (n : Marked) (ns : List Marked) (is : List Item) (t : Token) (d e : Draft) → Walks (n ∷ ns) is d [] e → n.token ≡ t → TakesNext is t
next-of n ns [] t d e walk same = absurd walk
next-of n ns (i ∷ is) t d e walk same = (walk.0, ap (step i) (sym same) ∙ walk.1)

second-of : (ns : List Marked) (ys : List Token) (is : List Item) (t : Token) (d e : Draft) → Walks ns is d [] e → unmarked ns ≡ t ∷ ys → TakesNext is t
second-of [] ys is t d e walk same = cc
second-of (n ∷ ns) ys is t d e walk same = let here : n.token ≡ t = cc in next-of n ns is t d e walk here

-- where some statement goes on with a token, the item on top takes it
takes-next : (front : List Placed) (before : List Marked) (is : List Item) (d : Draft) (t : Token) → Here front before is d → Opens (unplaced front ++ t ∷ []) → TakesNext is t
takes-next front before is d t here opens =
    let tokens = parted (statement opens.0) (unplaced front) (t ∷ opens.1) (opens.2 ∙ append_assoc (unplaced front) (t ∷ []) opens.1) in
    let walk : Walks (tokens.first ++ tokens.second) (item.Statement ∷ []) empty [] (effect_of_statement opens.0 empty) =
    subst (λ ms. Walks ms (item.Statement ∷ []) empty [] (effect_of_statement opens.0 empty)) tokens.is_so (reads-statement opens.0 empty) in
    let stands = walk-split tokens.first tokens.second (item.Statement ∷ []) [] empty (effect_of_statement opens.0 empty) walk in
    let same = walk-same before tokens.first (item.Statement ∷ []) is stands.items empty d stands.draft here.walk stands.first (here.spelled ∙ sym tokens.front) in
    second-of tokens.second opens.1 is t stands.draft (effect_of_statement opens.0 empty)
    (subst (λ items. Walks tokens.second items stands.draft [] (effect_of_statement opens.0 empty)) (sym same.items) stands.second) tokens.back

-- a statement with just the tokens in front leaves nothing to expect
nothing-left : (front : List Placed) (before : List Marked) (is : List Item) (d : Draft) → Here front before is d → IsWhole (unplaced front) → is ≡ []
nothing-left front before is d here all =
    (walk-same before (statement all.0) (item.Statement ∷ []) is [] empty d (effect_of_statement all.0 empty) here.walk (reads-statement all.0 empty) (here.spelled ∙ sym all.1)).items

-- the tokens so far and one more
push-here : (front : List Placed) (before : List Marked) (i : Item) (is row : List Item) (d : Draft) (p : Placed) → Here front before (i ∷ is) d → step i p.token ≡ Some row
    → reason_in (seen_of before) (role_of i) p.token ≡ None → Here (front ++ p ∷ []) (before ++ marked i p.token ∷ []) (row ++ is) (act i p.token d)
push-here front before i is row d p here fits none = record {
  walk = walk-append before (marked i p.token ∷ []) (item.Statement ∷ []) (i ∷ is) (row ++ is) empty d (act i p.token d) here.walk (row, fits, refl, (refl, refl));
  spelled = map-append (λ (m : Marked). m.token) before (marked i p.token ∷ []) ∙ (λ k. here.spelled k ++ p.token ∷ []) ∙ sym (map-append (λ (q : Placed). q.token) front (p ∷ []));
  pass = pass-push [] before (marked i p.token) here.pass (sym (reason_in-seen_of before (role_of i) p.token) ∙ none);
}

ends : (front : List Placed) (before : List Marked) (is : List Item) (d : Draft) (end : ℕ) → Here front before is d → Verdict (front ++ []) end (finished is end (reader is before d))
ends front before [] d end here =
    let all = whole before d here.walk in
    let same = walk-same before (statement all.tree) (item.Statement ∷ []) [] [] empty d (effect_of_statement all.tree empty) here.walk (reads-statement all.tree empty) (ap unmarked (sym all.is_so)) in
    let built : finished [] end (reader [] before d) ≡ Ok (meaning all.tree) = (λ k. finished [] end (reader [] (same.marks k) (same.drafts k))) ∙ built-means all.tree end in
    let read : ReadAs (front ++ []) (meaning all.tree) = record {
      tree = all.tree;
      spelled = ap unmarked all.is_so ∙ here.spelled ∙ ap unplaced (sym (append-nil front));
      pass = ap (pass_after []) all.is_so ∙ here.pass;
      means = refl;
    } in
    subst (λ answer. Verdict (front ++ []) end answer) (sym built) read
ends front before (i ∷ is) d end here = record {
  front = front;
  rest = [];
  split = refl;
  in_order = in-order front before (i ∷ is) d here;
  stops = (λ all. cc (nothing-left front before (i ∷ is) d here all), refl);
}

-- the token at fault goes on with a statement
fails : (front : List Placed) (before : List Marked) (i : Item) (is row : List Item) (d : Draft) (p : Placed) (ps : List Placed) (why : Reason) → Here front before (i ∷ is) d
    → step i p.token ≡ Some row → reason_in (seen_of before) (role_of i) p.token ≡ Some why → FailsBy (front ++ p ∷ ps) why
fails front before i is row d p ps why here fits fault =
    let m = marked i p.token in
    let walk : Walks (before ++ m ∷ []) (item.Statement ∷ []) empty (row ++ is) (act i p.token d) =
    walk-append before (m ∷ []) (item.Statement ∷ []) (i ∷ is) (row ++ is) empty d (act i p.token d) here.walk (row, fits, refl, (refl, refl)) in
    let more = goes-on (before ++ m ∷ []) (row ++ is) (act i p.token d) walk in
    record {
      front = front;
      here = p;
      rest = ps;
      split = refl;
      tree = more.tree;
      before = before;
      marked = m;
      after = more.rest;
      whole = more.is_so ∙ append_assoc before (m ∷ []) more.rest;
      spelled = here.spelled;
      token = refl;
      pass = here.pass;
      fault = sym (reason_in-seen_of before (role_of i) p.token) ∙ fault;
    }

-- what comes of the tokens behind one that is taken
abbrev Then : List Placed → List Marked → Item → List Item → List Item → Draft → Placed → List Placed → ℕ → Type 0
Then front before i is row d p ps end =
    Here (front ++ p ∷ []) (before ++ marked i p.token ∷ []) (row ++ is) (act i p.token d)
    → Verdict ((front ++ p ∷ []) ++ ps) end (run (reader (row ++ is) (before ++ marked i p.token ∷ []) (act i p.token d)) end ps)

on-reason : (front : List Placed) (before : List Marked) (i : Item) (is row : List Item) (d : Draft) (p : Placed) (ps : List Placed) (end : ℕ) (why : Option Reason)
    → Here front before (i ∷ is) d → step i p.token ≡ Some row → reason_in (seen_of before) (role_of i) p.token ≡ why → Then front before i is row d p ps end
    → Verdict (front ++ p ∷ ps) end (go_on (pass why i (row ++ is) p.token (reader (i ∷ is) before d)) p.at (λ next. run next end ps))
on-reason front before i is row d p ps end (Some (Passes which)) here fits why next = fails front before i is row d p ps (Passes which) here fits why
on-reason front before i is row d p ps end (Some (Repeats name)) here fits why next = fails front before i is row d p ps (Repeats name) here fits why
on-reason front before i is row d p ps end None here fits why next =
    let seen = seen_of-push before (role_of i) p.token in
    let rest = next (push-here front before i is row d p here fits why) in
    subst (λ (q : List Placed × Seen). Verdict q.0 end (run (record { expected = row ++ is; seen = q.1; draft = act i p.token d }) end ps))
    (λ k. (append_assoc front (p ∷ []) ps k, sym seen k)) rest

on-row : (front : List Placed) (before : List Marked) (i : Item) (is : List Item) (d : Draft) (p : Placed) (ps : List Placed) (end : ℕ) (found : Option (List Item))
    → Here front before (i ∷ is) d → step i p.token ≡ found → ((row : List Item) → Then front before i is row d p ps end)
    → Verdict (front ++ p ∷ ps) end (go_on (take_row found i is p.token (reader (i ∷ is) before d)) p.at (λ next. run next end ps))
on-row front before i is d p ps end None here fits next = record {
  front = front;
  rest = p ∷ ps;
  split = refl;
  in_order = in-order front before (i ∷ is) d here;
  stops = (λ opens. let taken = takes-next front before (i ∷ is) d p.token here opens in cc (fits, taken.1), refl);
}
on-row front before i is d p ps end (Some row) here fits next =
    on-reason front before i is row d p ps end (reason_in (seen_of before) (role_of i) p.token) here fits refl (next row)

-- what a reader that stands behind the tokens in front answers to the others
pub verdict-from : (ps front : List Placed) (before : List Marked) (is : List Item) (d : Draft) (end : ℕ) → Here front before is d → Verdict (front ++ ps) end (run (reader is before d) end ps)
verdict-from [] front before is d end here = ends front before is d end here
verdict-from (p ∷ ps) front before [] d end here = record {
  front = front;
  rest = p ∷ ps;
  split = refl;
  in_order = in-order front before [] d here;
  stops = (λ opens. takes-next front before [] d p.token here opens, refl);
}
verdict-from (p ∷ ps) front before (i ∷ is) d end here =
    on-row front before i is d p ps end (step i p.token) here refl
    (λ row there. verdict-from ps (front ++ p ∷ []) (before ++ marked i p.token ∷ []) (row ++ is) (act i p.token d) end there)

-- what the reader answers to tokens is what they are
pub verdict : (placed : List Placed) (end : ℕ) → Verdict placed end (run start end placed)
verdict placed end = verdict-from placed [] [] (item.Statement ∷ []) empty end (record { walk = (refl, refl); spelled = refl; pass = refl })
