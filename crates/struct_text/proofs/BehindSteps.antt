-- Steps behind a structure.
use Rattle.std.proofs.Common.{◌≡◌, ◌≤◌, ◌<◌, ℕ, suc, ◌+◌, Bool, List, [], ◌∷◌, ◌++◌, codes, length, slice_get, IsTrue, refl, sym, ap, ◌∙◌, arith, subst, append_assoc, length-append}
use Rattle.std.specs.List.{list_all}
use Rattle.std.proofs.lemmas.Bool.{and_parts}
use Rattle.std.proofs.lemmas.List.{append_cancel_left}
use Rattle.spec_syntax.specs.Rules.{Rules, all_nodes}
use Rattle.spec_syntax.specs.Nodes.{node_at, children_at, arguments_at}
use Rattle.struct_model.specs.declared.tree.Form5.{Form5}
use Rattle.struct_model.specs.declared.tree.Form5.TheVariants as form
use Rattle.struct_model.specs.Structure.{Structure, Tup, parts_of}
use Rattle.well_founded.specs.Checked.{Checked, IsChecked}
use Rattle.struct_text.specs.declared.holes.Hole.{Hole}
use Rattle.struct_text.specs.declared.holes.Hole.TheVariants as hole
use Rattle.struct_text.specs.declared.holes.Place.{Place}
use Rattle.struct_text.specs.declared.holes.Place.TheVariants.{Before, Behind}
use Rattle.struct_text.specs.declared.form.TextForm.TheVariants.{Tagged}
use Rattle.struct_text.specs.Text.{tagged, form_word, others_text}
use Rattle.struct_text.specs.Reading.{front, AreHoles, are_later, are_of_node, is_of_node, are_parts_small, HasLater, Fills, Awaits, Start, Moves, behind}
use Rattle.struct_text.proofs.Shapes.{HasFirst, next_later, none_later, within_arguments, past_arguments, small_parts}
use Rattle.struct_text.proofs.PartTexts.{tuple_closed, tuple_goes_on, atoms_last}
use Rattle.struct_text.proofs.Weights.{byte_falls}

pub length_last : (ps : List Structure) (s : Structure) → length (ps ++ s ∷ []) ≡ suc (length ps)
length_last ps s = let whole : length (ps ++ s ∷ []) ≡ length ps + 1 = length-append ps (s ∷ []) in omega (arith, whole)

-- what follows a word that has a byte is shorter
pub shortened : (text front left : List ℕ) → 0 < length front → text ≡ front ++ left → length left < length text
shortened text front left some whole = omega (arith, some, ap length whole ∙ length-append front left)

others_open : (rules : Rules) (s : Structure) (later : List Structure) (rest : List ℕ)
    → (others_text Tagged rules (parts_of (s ∷ later)) ++ codes ")") ++ rest ≡ codes ", " ++ (tagged rules s ++ ((others_text Tagged rules (parts_of later) ++ codes ")") ++ rest))
others_open rules s later rest = ap (λ (l : List ℕ). codes ", " ++ l) (split (tagged rules s) (others_text Tagged rules (parts_of later)))
  where
    split : (t o : List ℕ) → ((t ++ o) ++ codes ")") ++ rest ≡ t ++ ((o ++ codes ")") ++ rest)
    split t o = simp append_assoc

-- the holes and what is left by other names
pub moves_to : (checked : Checked) (start : Start) (holes other : List Hole) (place : Place) (left less : List ℕ) → other ≡ holes → less ≡ left → Moves checked start holes place left
    → Moves checked start other place less
moves_to checked start holes other place left less same_holes same_left moves =
    subst (λ (l : List ℕ). Moves checked start other place l) (sym same_left) (subst (λ (hs : List Hole). Moves checked start hs place left) (sym same_holes) moves)

module _ (checked : Checked) (ok : IsChecked checked) (holes : List Hole) (kept : AreHoles checked holes) (s : Structure) (text : List ℕ) where
  abbrev ahead_of : List ℕ
  ahead_of = front checked.rules holes

  -- the list is whole: nothing follows where a parenthesis is next
  nothing_follows : (later : List Structure) (rest left : List ℕ) → text ≡ codes ")" ++ left → text ≡ (others_text Tagged checked.rules (parts_of later) ++ codes ")") ++ rest
      → (later ≡ []) × (rest ≡ left)
  nothing_follows [] rest left next same = (refl, sym (append_cancel_left (codes ")") left rest (sym next ∙ same)))
  nothing_follows (t ∷ later) rest left next same =
      let both : codes ")" ++ left ≡ codes ", " ++ (tagged checked.rules t ++ ((others_text Tagged checked.rules (parts_of later) ++ codes ")") ++ rest)) =
      sym next ∙ same ∙ others_open checked.rules t later rest in
      let head : ◌≡◌ {A = ℕ} 41 44 = cc in absurd (omega (arith, head))

  -- the whole with a list that ends here
  closed : (f : Form5) (parts : List Structure) (left : List ℕ) (can_follow : List Structure → Bool) (t : Structure) → text ≡ codes ")" ++ left
      → HasLater checked.rules can_follow (λ later. Fills checked t holes (Tup f (parts_of (parts ++ s ∷ later)))) text
      → Fills checked t holes (Tup f (parts_of (parts ++ s ∷ []))) left
  closed f parts left can_follow t next has =
      let none = nothing_follows has.later has.rest left next has.text in
      subst (λ (r : List ℕ). Fills checked t holes (Tup f (parts_of (parts ++ s ∷ []))) r) none.1
      (subst (λ (later : List Structure). Fills checked t holes (Tup f (parts_of (parts ++ s ∷ later))) has.rest) none.0 has.whole)

  -- the list goes on with one more
  goes : (f : Form5) (child : ℕ) (parts : List Structure) (left : List ℕ) (can_follow follow_it : List Structure → Bool) (t component : Structure) (later : List Structure)
      (has : HasLater checked.rules can_follow (λ later. Fills checked t holes (Tup f (parts_of (parts ++ s ∷ later)))) text)
      → has.later ≡ component ∷ later → IsTrue (follow_it later) → IsTrue (is_of_node checked child component) → text ≡ codes ", " ++ left
      → (inside : Hole)
      → (HasLater checked.rules follow_it (λ later. Fills checked t holes (Tup f (parts_of ((parts ++ s ∷ []) ++ component ∷ later)))) ((others_text Tagged checked.rules (parts_of later) ++ codes ")") ++ has.rest)
      → Fills checked t (inside ∷ holes) component ((others_text Tagged checked.rules (parts_of later) ++ codes ")") ++ has.rest))
      → Awaits checked (inside ∷ holes) (is_of_node checked child) left t
  goes f child parts left can_follow follow_it t component later has is follows of next inside fill =
      let opened : text ≡ codes ", " ++ (tagged checked.rules component ++ ((others_text Tagged checked.rules (parts_of later) ++ codes ")") ++ has.rest)) =
      has.text ∙ ap (λ (ss : List Structure). (others_text Tagged checked.rules (parts_of ss) ++ codes ")") ++ has.rest) is ∙ others_open checked.rules component later has.rest in
      let small = small_parts component later (subst (λ (ss : List Structure). IsTrue (are_parts_small ss)) is has.small) in
      let whole : Fills checked t holes (Tup f (parts_of (parts ++ s ∷ component ∷ later))) has.rest =
      subst (λ (ss : List Structure). Fills checked t holes (Tup f (parts_of (parts ++ s ∷ ss))) has.rest) is has.whole in
      record {
        inside = component;
        fit = of;
        small = small.0;
        rest = (others_text Tagged checked.rules (parts_of later) ++ codes ")") ++ has.rest;
        text = append_cancel_left (codes ", ") left (tagged checked.rules component ++ ((others_text Tagged checked.rules (parts_of later) ++ codes ")") ++ has.rest)) (sym next ∙ opened);
        whole = fill (record {
          later = later;
          follow = follows;
          small = small.1;
          rest = has.rest;
          text = refl;
          whole = subst (λ (ss : List Structure). Fills checked t holes (Tup f (parts_of ss)) has.rest) (sym (append_assoc parts (s ∷ []) (component ∷ later))) whole;
        });
      }

  -- ---- in a Prod

  module _ (node : ℕ) (parts : List Structure) (within : node < length (all_nodes checked.rules)) where
    pub factor_closed : (left : List ℕ) → text ≡ codes ")" ++ left
        → Moves checked (behind checked (hole.Factor node parts) holes s text) holes (Behind (Tup form.Prod (parts_of (parts ++ s ∷ [])))) left
    factor_closed left next =
        let shorter = shortened text (codes ")") left (omega arith) next in
        record {
          same_text = tuple_closed checked.rules form.Prod ahead_of text left parts s next;
          room = omega (arith, shorter, atoms_last parts s);
          falls = omega (arith, shorter);
          are_holes = kept;
          is_place = tt;
          can_be = λ t has. closed form.Prod parts left (are_later checked node (suc (length parts))) t next has;
        }

    pub factor_open : (t : Structure) → length (children_at checked.rules node) ≤ suc (length parts) → ((rest : List ℕ) → text ≡ codes ")" ++ rest → ⊥)
        → Fills checked t (hole.Factor node parts ∷ holes) s text → ⊥
    factor_open t all none has =
        let nothing = none_later checked node (suc (length parts)) has.later (past_arguments checked node (suc (length parts)) all) has.follow in
        none has.rest (has.text ∙ ap (λ (ss : List Structure). (others_text Tagged checked.rules (parts_of ss) ++ codes ")") ++ has.rest) nothing)

    module _ (child : ℕ) (more : suc (length parts) < length (children_at checked.rules node))
        (is : node_at checked.rules child ≡ slice_get (arguments_at checked.rules node) (suc (length parts))) where
      first_of : (t : Structure) (has : Fills checked t (hole.Factor node parts ∷ holes) s text) → HasFirst (is_of_node checked child) (are_later checked node (suc (suc (length parts)))) has.later
      first_of t has = next_later checked node child (suc (length parts)) has.later (within_arguments checked node (suc (length parts)) more) is has.follow

      pub factor_goes : (left : List ℕ) → child < length (all_nodes checked.rules) → text ≡ codes ", " ++ left
          → Moves checked (behind checked (hole.Factor node parts) holes s text) (hole.Factor node (parts ++ s ∷ []) ∷ holes) (Before child) left
      factor_goes left child_within next =
          let shorter = shortened text (codes ", ") left (omega arith) next in
          let long = length_last parts s in
          let low = byte_falls checked ok child (length text) (length left) (suc (length holes)) (suc (length holes)) child_within shorter (omega arith) in
          record {
            same_text = tuple_goes_on checked.rules (codes "Prod(") ahead_of text left parts s next;
            room = omega (arith, shorter, atoms_last parts s);
            falls = omega (arith, low);
            are_holes = ((within, omega (arith, more, long)), kept);
            is_place = child_within;
            can_be = λ t has.
                let first = first_of t has in
                goes form.Prod child parts left (are_later checked node (suc (length parts))) (are_later checked node (suc (length (parts ++ s ∷ [])))) t first.component first.later has
                first.is (subst (λ (n : ℕ). IsTrue (are_later checked node (suc n) first.later)) (sym long) first.behind) first.of next (hole.Factor node (parts ++ s ∷ [])) (λ fills. fills);
          }

      pub factor_stuck : (t : Structure) → ((rest : List ℕ) → text ≡ codes ", " ++ rest → ⊥) → Fills checked t (hole.Factor node parts ∷ holes) s text → ⊥
      factor_stuck t none has =
          let first = first_of t has in
          none _ (has.text ∙ ap (λ (ss : List Structure). (others_text Tagged checked.rules (parts_of ss) ++ codes ")") ++ has.rest) first.is ∙ others_open checked.rules first.component first.later has.rest)

  -- ---- in a container

  module _ (f : Form5) (node : ℕ) (parts : List Structure) (within : node < length (all_nodes checked.rules)) where
    pub element_closed : (left : List ℕ) → text ≡ codes ")" ++ left
        → Moves checked (behind checked (hole.Element f node parts) holes s text) holes (Behind (Tup f (parts_of (parts ++ s ∷ [])))) left
    element_closed left next =
        let shorter = shortened text (codes ")") left (omega arith) next in
        record {
          same_text = tuple_closed checked.rules f ahead_of text left parts s next;
          room = omega (arith, shorter, atoms_last parts s);
          falls = omega (arith, shorter);
          are_holes = kept;
          is_place = tt;
          can_be = λ t has. closed f parts left (are_of_node checked node) t next has;
        }

    some_more : (t : Structure) (has : Fills checked t (hole.Element f node parts ∷ holes) s text) → ((rest : List ℕ) → text ≡ codes ")" ++ rest → ⊥)
        → (component : Structure) × (later : List Structure) × (has.later ≡ component ∷ later)
    some_more t has none = of_list has.later refl
      where
        of_list : (ss : List Structure) → has.later ≡ ss → (component : Structure) × (later : List Structure) × (has.later ≡ component ∷ later)
        of_list [] is = absurd (none has.rest (has.text ∙ ap (λ (ss : List Structure). (others_text Tagged checked.rules (parts_of ss) ++ codes ")") ++ has.rest) is))
        of_list (component ∷ later) is = (component, later, is)

    pub element_goes : (left : List ℕ) → ((rest : List ℕ) → text ≡ codes ")" ++ rest → ⊥) → text ≡ codes ", " ++ left
        → Moves checked (behind checked (hole.Element f node parts) holes s text) (hole.Element f node (parts ++ s ∷ []) ∷ holes) (Before node) left
    element_goes left none next =
        let shorter = shortened text (codes ", ") left (omega arith) next in
        let low = byte_falls checked ok node (length text) (length left) (suc (length holes)) (suc (length holes)) within shorter (omega arith) in
        record {
          same_text = tuple_goes_on checked.rules (form_word f ++ codes "(") ahead_of text left parts s next;
          room = omega (arith, shorter, atoms_last parts s);
          falls = omega (arith, low);
          are_holes = (within, kept);
          is_place = within;
          can_be = λ t has.
              let first = some_more t has none in
              let both = and_parts (is_of_node checked node first.0) (list_all (is_of_node checked node) first.1)
              (subst (λ (ss : List Structure). IsTrue (are_of_node checked node ss)) first.2 has.follow) in
              goes f node parts left (are_of_node checked node) (are_of_node checked node) t first.0 first.1 has first.2 both.1 both.0 next (hole.Element f node (parts ++ s ∷ [])) (λ fills. fills);
        }

    pub element_stuck : (t : Structure) → ((rest : List ℕ) → text ≡ codes ")" ++ rest → ⊥) → ((rest : List ℕ) → text ≡ codes ", " ++ rest → ⊥)
        → Fills checked t (hole.Element f node parts ∷ holes) s text → ⊥
    element_stuck t none stuck has =
        let first = some_more t has none in
        stuck _ (has.text ∙ ap (λ (ss : List Structure). (others_text Tagged checked.rules (parts_of ss) ++ codes ")") ++ has.rest) first.2 ∙ others_open checked.rules first.0 first.1 has.rest)
