-- How a text is read: the holes around what is read, from the inside, and what may still be read.
use Rattle.std.specs.Prelude.{◌≡◌, ℕ, suc, ◌+◌, ◌*◌, ◌<◌, ◌≤◌, ◌^◌, Bool, true, false, cond, ◌&&◌, nat_eq, nat_lt, List, [], ◌∷◌, ◌++◌, codes, length, drop, slice_get, unwrap_or, Option, Some, None, Result, Ok, Err, IsTrue}
use Rattle.std.specs.List.{list_all}
use Rattle.std.specs.Option.{option_map_or}
use Rattle.spec_syntax.specs.declared.statement.Universe.{Universe}
use Rattle.spec_syntax.specs.declared.expr.Kind.TheVariants as kind
use Rattle.spec_syntax.specs.Expression as expr
use Rattle.spec_syntax.specs.Expression.{Expression, expressions_of}
use Rattle.spec_syntax.specs.Rules.{Rules, right_side, all_nodes}
use Rattle.spec_syntax.specs.Nodes.{node_at, children_at, arguments_at, right_node}
use Rattle.struct_model.specs.declared.tree.Form5.{Form5}
use Rattle.struct_model.specs.declared.tree.Form5.TheVariants as form
use Rattle.struct_model.specs.Structure.{Structure, Eps, Atom, Named, Alt, Tup, parts_of, labels, labels_of_parts}
use Rattle.struct_model.specs.Membership.{is_label, is_of, are_of_each}
use Rattle.well_founded.specs.SameSize.{is_told_inside}
use Rattle.well_founded.specs.Checked.{Checked, grammar}
use Rattle.struct_text.specs.declared.holes.Hole.{Hole}
use Rattle.struct_text.specs.declared.holes.Hole.TheVariants as hole
use Rattle.struct_text.specs.declared.holes.Place.{Place}
use Rattle.struct_text.specs.declared.holes.Place.TheVariants.{Before, Behind}
use Rattle.struct_text.specs.declared.form.TextForm.TheVariants.{Tagged}
use Rattle.struct_text.specs.declared.reading.TextFault.{TextFault}
use Rattle.struct_text.specs.declared.reading.TextFault.TheVariants.{NotStructure, Memory}
use Rattle.struct_text.specs.Text.{tagged, argument_text, form_word, others_text}
use Rattle.struct_text.specs.Labels.{are_small}

-- ---- what was read

-- the texts of components that others follow
abbrev pub before_text : Rules → List Structure → List ℕ
before_text rules [] = []
before_text rules (s ∷ ss) = tagged rules s ++ codes ", " ++ before_text rules ss

-- the text in front of what fills the hole
abbrev pub hole_text : Rules → Hole → List ℕ
hole_text rules (hole.Named sym) = []
hole_text rules (hole.Alt number) = argument_text Tagged number
hole_text rules (hole.Factor node parts) = codes "Prod(" ++ before_text rules parts
hole_text rules (hole.Element form node parts) = form_word form ++ codes "(" ++ before_text rules parts

-- the text in front of what fills the innermost of the holes
abbrev pub front : Rules → List Hole → List ℕ
front rules [] = []
front rules (hole ∷ holes) = front rules holes ++ hole_text rules hole

-- the text of what was read
abbrev pub written : Rules → List Hole → Place → List ℕ
written rules holes (Before node) = front rules holes
written rules holes (Behind s) = front rules holes ++ tagged rules s

-- the number of atoms in the holes
abbrev pub atoms_in : List Hole → ℕ
atoms_in [] = 0
atoms_in (hole.Named sym ∷ holes) = atoms_in holes
atoms_in (hole.Alt number ∷ holes) = atoms_in holes
atoms_in (hole.Factor node parts ∷ holes) = length (labels_of_parts (parts_of parts)) + atoms_in holes
atoms_in (hole.Element form node parts ∷ holes) = length (labels_of_parts (parts_of parts)) + atoms_in holes

-- the number of atoms that were read
abbrev pub atoms : List Hole → Place → ℕ
atoms holes (Before node) = atoms_in holes
atoms holes (Behind s) = length (labels s) + atoms_in holes

-- the node is one of the grammar, and the Prod has a component behind these
abbrev pub IsHole : Checked → Hole → Type 0
IsHole checked (hole.Named sym) = Unit {0}
IsHole checked (hole.Alt number) = Unit {0}
IsHole checked (hole.Factor node parts) = (node < length (all_nodes checked.rules)) × (length parts < length (children_at checked.rules node))
IsHole checked (hole.Element form node parts) = node < length (all_nodes checked.rules)

abbrev pub AreHoles : Checked → List Hole → Type 0
AreHoles checked [] = Unit {0}
AreHoles checked (hole ∷ holes) = IsHole checked hole × AreHoles checked holes

abbrev pub IsPlace : Checked → Place → Type 0
IsPlace checked (Before node) = node < length (all_nodes checked.rules)
IsPlace checked (Behind s) = Unit {0}

-- ---- what may still be read

-- is the expression a container whose structures have this form
abbrev pub has_form : Expression → Form5 → Bool
has_form (expr.Many kind.Sequence e card) form.Sequence = true
has_form (expr.Many kind.Set e card) form.Set = true
has_form (expr.Many kind.PowerSet e card) form.PowerSet = true
has_form (expr.Many kind.Cycle e card) form.Cycle = true
has_form e f = false

-- is the structure one of the node
abbrev pub is_of_node : Checked → ℕ → Structure → Bool
is_of_node checked node s = option_map_or (λ e. is_of (grammar checked) e s) (node_at checked.rules node) false

-- is the node a container whose structures have this form
abbrev pub is_many_of : Checked → ℕ → Form5 → Bool
is_many_of checked node form = option_map_or (λ e. has_form e form) (node_at checked.rules node) false

-- can these components stand behind so many of the Prod that the node is
abbrev pub are_later : Checked → ℕ → ℕ → List Structure → Bool
are_later checked node count ss = are_of_each (grammar checked) (expressions_of (drop count (arguments_at checked.rules node))) (parts_of ss)

-- is each of these components a structure of the node
abbrev pub are_of_node : Checked → ℕ → List Structure → Bool
are_of_node checked node ss = list_all (is_of_node checked node) ss

-- is each label of the components small
abbrev pub are_parts_small : List Structure → Bool
are_parts_small ss = list_all (λ label. nat_lt label (2 ^ 32)) (labels_of_parts (parts_of ss))

-- what is left begins with the components that follow and a parenthesis, and the list with them fits in what is around it
pub record HasLater (rules : Rules) (can_follow : List Structure → Bool) (fits : List Structure → List ℕ → Type 0) (left : List ℕ) : Type 0 where
  pub later : List Structure
  pub follow : IsTrue (can_follow later)
  pub small : IsTrue (are_parts_small later)
  pub rest : List ℕ
  pub text : left ≡ others_text Tagged rules (parts_of later) ++ codes ")" ++ rest
  pub whole : fits later rest

-- with s in the innermost hole and the structures of the text that is left in the others, the whole is t
abbrev pub Fills : Checked → Structure → List Hole → Structure → List ℕ → Type 0
Fills checked t [] s left = (s ≡ t) × (left ≡ [])
Fills checked t (hole.Named sym ∷ holes) s left = Fills checked t holes (Named sym s) left
Fills checked t (hole.Alt number ∷ holes) s left = Fills checked t holes (Alt number s) left
Fills checked t (hole.Factor node parts ∷ holes) s left =
    HasLater checked.rules (are_later checked node (suc (length parts)))
    (λ later. Fills checked t holes (Tup form.Prod (parts_of (parts ++ s ∷ later)))) left
Fills checked t (hole.Element form node parts ∷ holes) s left =
    HasLater checked.rules (are_of_node checked node)
    (λ later. Fills checked t holes (Tup form (parts_of (parts ++ s ∷ later)))) left

-- the text that is left begins with a structure that fits, and with it in the innermost hole the whole is t
pub record Awaits (checked : Checked) (holes : List Hole) (fits : Structure → Bool) (left : List ℕ) (t : Structure) : Type 0 where
  pub inside : Structure
  pub fit : IsTrue (fits inside)
  pub small : IsTrue (are_small inside)
  pub rest : List ℕ
  pub text : left ≡ tagged checked.rules inside ++ rest
  pub whole : Fills checked t holes inside rest

-- the whole can be t
abbrev pub CanBe : Checked → List Hole → Place → List ℕ → Structure → Type 0
CanBe checked holes (Before node) left t = Awaits checked holes (is_of_node checked node) left t
CanBe checked holes (Behind s) left t = Fills checked t holes s left

-- ---- a step

abbrev pub rank_of : Checked → ℕ → ℕ
rank_of checked node = unwrap_or (slice_get checked.ranks node) 0

abbrev pub place_weight : Checked → Place → ℕ
place_weight checked (Before node) = 2 * rank_of checked node + 1
place_weight checked (Behind s) = 0

-- what a name may weigh: a right side that isn't a word stands in front of no byte
abbrev pub name_weight : Checked → ℕ → ℕ
name_weight checked sym = option_map_or (λ right. cond (is_told_inside right) (2 * rank_of checked (right_node checked.rules sym) + 3) 0) (right_side checked.rules sym) 0

-- it falls at each step
abbrev pub weight : Checked → List Hole → Place → List ℕ → ℕ
weight checked holes place left = 300 * length left + length holes + place_weight checked place

-- where a step begins: the structures that the whole can be, the text that was read with what is left of it, a number that
-- the atoms and the bytes that are left don't exceed, and one that the weight afterwards is below
pub record Start : Type 1 where
  pub can_be : Structure → Type 0
  pub text : List ℕ
  pub room : ℕ
  pub above : ℕ

-- where it comes to: it is still the same text, and each of the structures can still be the whole
pub record Moves (checked : Checked) (start : Start) (holes : List Hole) (place : Place) (left : List ℕ) : Type 0 where
  pub same_text : start.text ≡ written checked.rules holes place ++ left
  pub room : atoms holes place + length left ≤ start.room
  pub falls : weight checked holes place left < start.above
  pub are_holes : AreHoles checked holes
  pub is_place : IsPlace checked place
  pub can_be : (t : Structure) → start.can_be t → CanBe checked holes place left t

-- it comes to a place, or no structure has the text, or memory is wanting
abbrev pub Ends : Checked → Start → Result Place TextFault → List Hole → List ℕ → Type 0
Ends checked start (Ok place) holes left = Moves checked start holes place left
Ends checked start (Err NotStructure) holes left = (t : Structure) → start.can_be t → ⊥
Ends checked start (Err Memory) holes left = Unit {0}

-- in front of a structure that fits, which may weigh so much
abbrev pub ahead : Checked → List Hole → (Structure → Bool) → ℕ → List ℕ → Start
ahead checked holes fits weight left =
    record {
      can_be = Awaits checked holes fits left;
      text = front checked.rules holes ++ left;
      room = atoms_in holes + length left;
      above = 300 * length left + length holes + weight;
    }

-- behind a structure that stands in the hole
abbrev pub behind : Checked → Hole → List Hole → Structure → List ℕ → Start
behind checked hole holes s left =
    record {
      can_be = λ t. Fills checked t (hole ∷ holes) s left;
      text = written checked.rules (hole ∷ holes) (Behind s) ++ left;
      room = atoms (hole ∷ holes) (Behind s) + length left;
      above = weight checked (hole ∷ holes) (Behind s) left;
    }

-- ---- a structure without others inside

-- is it an Epsilon with this rule number
abbrev pub is_epsilon_of : ℕ → Structure → Bool
is_epsilon_of rule (Eps x) = nat_eq x rule
is_epsilon_of rule (Atom x l) = false
is_epsilon_of rule (Named x s) = false
is_epsilon_of rule (Alt k s) = false
is_epsilon_of rule (Tup f ss) = false

-- is it an atom with this rule number and a small label of the universe
abbrev pub is_atom_of : Universe → ℕ → Structure → Bool
is_atom_of universe rule (Eps x) = false
is_atom_of universe rule (Atom x l) = nat_eq x rule && is_label universe l && nat_lt l (2 ^ 32)
is_atom_of universe rule (Named x s) = false
is_atom_of universe rule (Alt k s) = false
is_atom_of universe rule (Tup f ss) = false

-- the text is that of this structure, and then what is left, and that of no other one among those
pub record IsLeafRead (rules : Rules) (among : Structure → Bool) (text : List ℕ) (s : Structure) (left : List ℕ) : Type 0 where
  pub whole : text ≡ tagged rules s ++ left
  pub shorter : length left < length text
  pub few : length (labels s) ≤ 1
  pub only : (other : Structure) (rest : List ℕ) → IsTrue (among other) → text ≡ tagged rules other ++ rest → (other ≡ s) × (rest ≡ left)

-- it was read, or the text begins with none of them
abbrev pub ReadsLeaf : Rules → (Structure → Bool) → List ℕ → Option Structure → List ℕ → Type 0
ReadsLeaf rules among text None left = (s : Structure) (rest : List ℕ) → IsTrue (among s) → text ≡ tagged rules s ++ rest → ⊥
ReadsLeaf rules among text (Some s) left = IsLeafRead rules among text s left
