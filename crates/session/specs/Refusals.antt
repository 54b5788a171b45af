-- Refusals: their numbers and texts, and the lines that tell them.
use Rattle.std.specs.Prelude.{ℕ, List, [], ◌++◌, codes, decimal}
use Rattle.spec_reader.specs.declared.refusal.Which.{Which}
use Rattle.spec_reader.specs.declared.refusal.Which.TheVariants as which
use Rattle.spec_reader.specs.declared.refusal.ReadRefused.{ReadRefused}
use Rattle.spec_reader.specs.declared.refusal.ReadRefused.TheVariants as read
use Rattle.well_founded.specs.declared.refused.Refused.{Refused}
use Rattle.well_founded.specs.declared.refused.Refused.TheVariants as grammar
use Rattle.size_counts.specs.declared.place.Group.{Group}
use Rattle.size_counts.specs.declared.place.Group.TheVariants as group
use Rattle.size_counts.specs.declared.place.Place.{Place}
use Rattle.session.specs.declared.refusal.Refusal.{Refusal}
use Rattle.session.specs.declared.refusal.Refusal.TheVariants as refusal

-- ---- want of memory is told by no line

abbrev pub ReadingIsTold : ReadRefused → Type 0
ReadingIsTold (read.Syntax line column) = Unit {0}
ReadingIsTold (read.DuplicateRule name) = Unit {0}
ReadingIsTold (read.Limit limit) = Unit {0}
ReadingIsTold read.NotText = Unit {0}
ReadingIsTold read.Memory = ⊥

abbrev pub CheckIsTold : Refused → Type 0
CheckIsTold (grammar.Undefined name) = Unit {0}
CheckIsTold (grammar.CycleUnlabelled name) = Unit {0}
CheckIsTold (grammar.Unproductive name) = Unit {0}
CheckIsTold (grammar.NullElement name) = Unit {0}
CheckIsTold (grammar.Endless name n) = Unit {0}
CheckIsTold grammar.Memory = ⊥

-- the refusal isn't want of memory in one of its parts
abbrev pub IsTold : Refusal → Type 0
IsTold (refusal.Read refused) = ReadingIsTold refused
IsTold (refusal.UnknownName name) = Unit {0}
IsTold (refusal.WrongKind name) = Unit {0}
IsTold refusal.Full = Unit {0}
IsTold (refusal.Finished name) = Unit {0}
IsTold (refusal.Grammar refused) = CheckIsTold refused
IsTold (refusal.TooLarge name place) = Unit {0}
IsTold refusal.ClassTooLarge = Unit {0}
IsTold (refusal.PowerSet name) = Unit {0}
IsTold refusal.NoStructure = Unit {0}
IsTold refusal.Spent = Unit {0}
IsTold refusal.NotMember = Unit {0}
IsTold (refusal.CardUnlabelled name) = Unit {0}

-- ---- numbers, where a refusal is told

abbrev pub reading_number : ReadRefused → ℕ
reading_number (read.Syntax line column) = 1
reading_number (read.DuplicateRule name) = 2
reading_number (read.Limit limit) = 3
reading_number read.NotText = 4
reading_number read.Memory = 0

abbrev pub check_number : Refused → ℕ
check_number (grammar.Undefined name) = 20
check_number (grammar.Unproductive name) = 22
check_number (grammar.NullElement name) = 23
check_number (grammar.Endless name n) = 24
check_number (grammar.CycleUnlabelled name) = 26
check_number grammar.Memory = 0

abbrev pub refusal_number : Refusal → ℕ
refusal_number (refusal.Read refused) = reading_number refused
refusal_number (refusal.UnknownName name) = 10
refusal_number (refusal.WrongKind name) = 11
refusal_number refusal.Full = 12
refusal_number (refusal.Finished name) = 13
refusal_number (refusal.Grammar refused) = check_number refused
refusal_number (refusal.TooLarge name place) = 30
refusal_number refusal.ClassTooLarge = 30
refusal_number (refusal.PowerSet name) = 40
refusal_number refusal.NoStructure = 41
refusal_number refusal.Spent = 42
refusal_number refusal.NotMember = 50
refusal_number (refusal.CardUnlabelled name) = 60

-- ---- texts, where a refusal is told

abbrev pub which_word : Which → List ℕ
which_word which.Statement = codes "statement"
which_word which.Script = codes "script"
which_word which.Rules = codes "rules"
which_word which.Nodes = codes "nodes"
which_word which.Depth = codes "depth"
which_word which.Name = codes "name"
which_word which.Number = codes "number"
which_word which.Size = codes "size"
which_word which.Items = codes "items"

abbrev pub reading_text : ReadRefused → List ℕ
reading_text (read.Syntax line column) = codes "syntax at line " ++ decimal line ++ codes " column " ++ decimal column
reading_text (read.DuplicateRule name) = codes "rule " ++ name ++ codes " is written twice"
reading_text (read.Limit limit) = codes "limit " ++ which_word limit
reading_text read.NotText = codes "not UTF-8"
reading_text read.Memory = []

abbrev pub check_text : Refused → List ℕ
check_text (grammar.Undefined name) = codes "no rule for " ++ name
check_text (grammar.Unproductive name) = codes "rule " ++ name ++ codes " has no structure"
check_text (grammar.NullElement name) = codes "rule " ++ name ++ codes " has a container over a class with a structure of size 0"
check_text (grammar.Endless name n) = codes "rule " ++ name ++ codes " has endlessly many structures of size " ++ decimal n
check_text (grammar.CycleUnlabelled name) = codes "Cycle in an unlabelled grammar, rule " ++ name
check_text grammar.Memory = []

-- a group of numbers, with the number's index in it
abbrev pub group_text : Group → ℕ → List ℕ
group_text group.Count index = codes "count"
group_text group.Suffix index = codes "suffix " ++ decimal index
group_text group.Lists index = codes "lists " ++ decimal index
group_text group.Sets index = codes "sets " ++ decimal index

-- which number of a node of the rule with the name is too large
abbrev pub place_text : List ℕ → Place → List ℕ
place_text name place =
    codes "a number passes 128 bits: " ++ name ++ codes ", node " ++ decimal place.node ++ codes ", " ++ group_text place.group place.index
    ++ codes ", size " ++ decimal place.size

abbrev pub refusal_text : Refusal → List ℕ
refusal_text (refusal.Read refused) = reading_text refused
refusal_text (refusal.UnknownName name) = codes "name " ++ name ++ codes " is not bound"
refusal_text (refusal.WrongKind name) = codes "name " ++ name ++ codes " is of another kind"
refusal_text refusal.Full = codes "64 names are bound"
refusal_text (refusal.Finished name) = codes "iterator " ++ name ++ codes " is finished"
refusal_text (refusal.Grammar refused) = check_text refused
refusal_text (refusal.TooLarge name place) = place_text name place
refusal_text refusal.ClassTooLarge = codes "a number passes 128 bits: the class"
refusal_text (refusal.PowerSet name) = codes "draw meets an unlabelled PowerSet, rule " ++ name
refusal_text refusal.NoStructure = codes "no structure to draw"
refusal_text refusal.Spent = codes "the bits are spent"
refusal_text refusal.NotMember = codes "the cursor is no member"
refusal_text (refusal.CardUnlabelled name) = codes "gfeqns of an unlabelled container with a card bound, rule " ++ name

-- the line that tells a refusal of a piece that begins in this line of the script
abbrev pub refusal_line : ℕ → Refusal → List ℕ
refusal_line line why = codes "line " ++ decimal line ++ codes ": error " ++ decimal (refusal_number why) ++ codes ": " ++ refusal_text why ++ codes "\n"
