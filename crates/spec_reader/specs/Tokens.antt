-- The tokens of a piece.
use Rattle.std.specs.Prelude.{ℕ, zero, suc, ◌+◌, ◌*◌, ◌-◌, Bool, true, ◌&&◌, not, ◌==◌, nat_le, nat_eq, if◌then◌else◌, List, [], ◌∷◌, length, drop, Option, Some, None, codes, find, fold}
use Rattle.std.specs.List.{starts_with, prefix_len, take_while, list_all}
use Rattle.std.specs.Option.{option_map_or}
use Rattle.std.specs.Str.{bytes_eq}
use Rattle.spec_syntax.specs.Word.{is_word_start, is_word_byte, is_digit, is_word}
use Rattle.spec_reader.specs.declared.cut.Region.TheVariants.{Open}
use Rattle.spec_reader.specs.declared.token.Sign.{Sign}
use Rattle.spec_reader.specs.declared.token.Sign.TheVariants as sign
use Rattle.spec_reader.specs.declared.token.Keyword.{Keyword}
use Rattle.spec_reader.specs.declared.token.Keyword.TheVariants as word
use Rattle.spec_reader.specs.Cutting.{gap_len, region_after, is_skipped}

-- what a token is: a sign, a reserved word, another word, a number by its digits, or a string by what stands between its
-- quotes. A byte that begins none of them is stray
pub data Token : Type 0 where
  Mark : (sign : Sign) → Token
  Reserved : (keyword : Keyword) → Token
  Name : (text : List ℕ) → Token
  Number : (digits : List ℕ) → Token
  Text : (text : List ℕ) → Token
  Stray : Token

-- how a sign is spelled
abbrev pub sign_text : Sign → List ℕ
sign_text sign.Assign = codes ":="
sign_text sign.AtMost = codes "<="
sign_text sign.AtLeast = codes ">="
sign_text sign.Equals = codes "="
sign_text sign.Semicolon = codes ";"
sign_text sign.Colon = codes ":"
sign_text sign.Comma = codes ","
sign_text sign.OpenParen = codes "("
sign_text sign.CloseParen = codes ")"
sign_text sign.OpenBracket = codes "["
sign_text sign.CloseBracket = codes "]"
sign_text sign.OpenBrace = codes "{"
sign_text sign.CloseBrace = codes "}"

-- the signs, those with two bytes first
abbrev pub signs : List Sign
signs =
    sign.Assign ∷ sign.AtMost ∷ sign.AtLeast ∷ sign.Equals ∷ sign.Semicolon ∷ sign.Colon ∷ sign.Comma ∷ sign.OpenParen ∷ sign.CloseParen
    ∷ sign.OpenBracket ∷ sign.CloseBracket ∷ sign.OpenBrace ∷ sign.CloseBrace ∷ []

-- the longest sign at the front
abbrev pub sign_at : List ℕ → Option Sign
sign_at text = find (λ sign. starts_with nat_eq text (sign_text sign)) signs

-- how a reserved word is spelled
abbrev pub keyword_text : Keyword → List ℕ
keyword_text word.Z = codes "Z"
keyword_text word.Epsilon = codes "Epsilon"
keyword_text word.Atom = codes "Atom"
keyword_text word.Union = codes "Union"
keyword_text word.Prod = codes "Prod"
keyword_text word.Sequence = codes "Sequence"
keyword_text word.Set = codes "Set"
keyword_text word.PowerSet = codes "PowerSet"
keyword_text word.Cycle = codes "Cycle"
keyword_text word.Subst = codes "Subst"
keyword_text word.Card = codes "card"
keyword_text word.Size = codes "size"
keyword_text word.AllSizes = codes "allsizes"
keyword_text word.After = codes "after"
keyword_text word.Labelled = codes "labelled"
keyword_text word.Unlabelled = codes "unlabelled"
keyword_text word.Labeled = codes "labeled"
keyword_text word.Unlabeled = codes "unlabeled"
keyword_text word.Count = codes "count"
keyword_text word.Draw = codes "draw"
keyword_text word.AllStructs = codes "allstructs"
keyword_text word.IterStructs = codes "iterstructs"
keyword_text word.NextStruct = codes "nextstruct"
keyword_text word.Finished = codes "finished"
keyword_text word.Cursor = codes "cursor"
keyword_text word.Rest = codes "rest"
keyword_text word.GfEqns = codes "gfeqns"
keyword_text word.GfSeries = codes "gfseries"
keyword_text word.Labellings = codes "labellings"
keyword_text word.MarkCounts = codes "markcounts"
keyword_text word.Combination = codes "Combination"
keyword_text word.Subset = codes "Subset"
keyword_text word.Permutation = codes "Permutation"
keyword_text word.Partition = codes "Partition"
keyword_text word.Composition = codes "Composition"

-- the bytes of a word
abbrev pub text_of : Token → List ℕ
text_of (Reserved keyword) = keyword_text keyword
text_of (Name text) = text
text_of (Mark sign) = []
text_of (Number digits) = []
text_of (Text text) = []
text_of Stray = []

-- the reserved words
abbrev pub keywords : List Keyword
keywords =
    word.Z ∷ word.Epsilon ∷ word.Atom ∷ word.Union ∷ word.Prod ∷ word.Sequence ∷ word.Set ∷ word.PowerSet ∷ word.Cycle ∷ word.Subst
    ∷ word.Card ∷ word.Size ∷ word.AllSizes ∷ word.After ∷ word.Labelled ∷ word.Unlabelled ∷ word.Labeled ∷ word.Unlabeled
    ∷ word.Count ∷ word.Draw ∷ word.AllStructs ∷ word.IterStructs ∷ word.NextStruct ∷ word.Finished ∷ word.Cursor ∷ word.Rest
    ∷ word.GfEqns ∷ word.GfSeries ∷ word.Labellings ∷ word.MarkCounts
    ∷ word.Combination ∷ word.Subset ∷ word.Permutation ∷ word.Partition ∷ word.Composition ∷ []

abbrev pub keyword_of : List ℕ → Option Keyword
keyword_of text = find (λ keyword. bytes_eq (keyword_text keyword) text) keywords

-- a word is a reserved word or a name
abbrev pub word_of : List ℕ → Token
word_of text = option_map_or (λ keyword. Reserved keyword) (keyword_of text) (Name text)

-- a byte from 32 to 126
abbrev pub is_printable : ℕ → Bool
is_printable b = nat_le 32 b && nat_le b 126

abbrev pub is_string_byte : ℕ → Bool
is_string_byte b = is_printable b && not (b == 34)

-- a token at the front of a text: its place there, or the place of the fault where it is stray, and its number of bytes
pub record Front : Type 0 where
  pub token : Token
  pub place : ℕ
  pub len : ℕ

abbrev whole : Token → ℕ → Front
whole token len = record { token = token; place = 0; len = len }

-- a string ends with the next `"`, and has bytes from 32 to 126 before that; else the fault stands at the first byte
-- after its `"` that is none of those
abbrev pub string_of : List ℕ → Front
string_of rest =
    if starts_with nat_eq (drop (prefix_len is_string_byte rest) rest) (codes "\"")
    then whole (Text (take_while is_string_byte rest)) (prefix_len is_string_byte rest + 2)
    else record { token = Stray; place = suc (prefix_len is_printable rest); len = 1 }

abbrev pub sign_or_stray : Option Sign → Front
sign_or_stray None = whole Stray 1
sign_or_stray (Some sign) = whole (Mark sign) (length (sign_text sign))

-- the longest token that begins with b and goes on in the rest
abbrev pub front_of : ℕ → List ℕ → Front
front_of b rest =
    if is_word_start b then whole (word_of (take_while is_word_byte (b ∷ rest))) (prefix_len is_word_byte (b ∷ rest))
    else (if is_digit b then whole (Number (take_while is_digit (b ∷ rest))) (prefix_len is_digit (b ∷ rest))
    else (if b == 34 then string_of rest else sign_or_stray (sign_at (b ∷ rest))))

abbrev pub front_at : List ℕ → Front
front_at [] = whole Stray 1
front_at (b ∷ rest) = front_of b rest

-- a token of a piece, and the place in the piece where it, or the fault, stands
pub record Placed : Type 0 where
  pub token : Token
  pub at : ℕ

-- the tokens of a piece from place `at` on, where the first bytes are still of the token or the gap before
abbrev pub tokens_from : ℕ → ℕ → List ℕ → List Placed
tokens_from covered at [] = []
tokens_from (suc covered) at (b ∷ rest) = tokens_from covered (suc at) rest
tokens_from zero at (b ∷ rest) =
    if is_skipped Open b
    then tokens_from (gap_len (region_after Open b) rest) (suc at) rest
    else record { token = (front_of b rest).token; at = at + (front_of b rest).place } ∷ tokens_from ((front_of b rest).len - 1) (suc at) rest

-- the tokens of a piece with their places
abbrev pub tokens : List ℕ → List Placed
tokens piece = tokens_from 0 0 piece

abbrev pub with_digit : ℕ → ℕ → ℕ
with_digit n digit = 10 * n + (digit - 48)

-- the number that digits write
abbrev pub value : List ℕ → ℕ
value digits = fold with_digit 0 digits

-- is a name spelled as a word, and a number as digits
abbrev pub is_spelled : Token → Bool
is_spelled (Name text) = is_word text
is_spelled (Number digits) = list_all is_digit digits
is_spelled (Mark sign) = true
is_spelled (Reserved keyword) = true
is_spelled (Text text) = true
is_spelled Stray = true
