-- Steps in front of a structure of a Union, a Prod or a container.
use Rattle.std.proofs.Common.{◌≡◌, ◌≤◌, ◌<◌, ◌^◌, ℕ, suc, ◌+◌, ◌-◌, true, false, List, [], ◌∷◌, ◌++◌, codes, length, slice_get, IsTrue, Option, Some, None, refl, sym, ap, ◌∙◌, arith, subst, append_assoc, true≢false, length-append}
use Rattle.std.specs.List.{list_all}
use Rattle.std.specs.Option.{option_map, option_map_or}
use Rattle.std.proofs.lemmas.Bool.{and_parts}
use Rattle.std.proofs.lemmas.List.{append_cancel_left, append-nil}
use Rattle.std.proofs.lemmas.Option.{slice_get_within}
use Rattle.spec_syntax.specs.Expression.{Expression}
use Rattle.spec_syntax.specs.Rules.{Rules, all_nodes}
use Rattle.spec_syntax.specs.Grammar.{Grammar}
use Rattle.spec_syntax.specs.Nodes.{node_at, children_at, arguments_at, children_of}
use Rattle.spec_syntax.specs.Word.{is_word_byte}
use Rattle.spec_syntax.proofs.RulesLemmas.{all_nodes-from_spec}
use Rattle.spec_syntax.proofs.NodesLemmas.{children_few}
use Rattle.struct_model.specs.declared.tree.Form5.{Form5}
use Rattle.struct_model.specs.declared.tree.Form5.TheVariants as form
use Rattle.struct_model.specs.Structure.{Structure, Alt, Tup, parts_of}
use Rattle.struct_model.specs.Membership.{is_of}
use Rattle.well_founded.specs.declared.node.NodeKind.TheVariants as told
use Rattle.well_founded.specs.NodeKinds.{kind_of}
use Rattle.well_founded.specs.Checked.{Checked, IsChecked, grammar}
use Rattle.struct_text.specs.declared.holes.Hole.{Hole}
use Rattle.struct_text.specs.declared.holes.Hole.TheVariants as hole
use Rattle.struct_text.specs.declared.holes.Place.TheVariants.{Before, Behind}
use Rattle.struct_text.specs.declared.form.TextForm.TheVariants.{Tagged}
use Rattle.struct_text.specs.Text.{tagged, numeral, form_word, others_text}
use Rattle.struct_text.specs.Lexing.{begins_no_digit}
use Rattle.struct_text.specs.Labels.{are_small}
use Rattle.struct_text.specs.Reading.{front, AreHoles, is_of_node, is_many_of, Fills, Awaits, Moves, ahead}
use Rattle.struct_text.proofs.Beginnings.{tagged_starts}
use Rattle.struct_text.proofs.FirstWords.{numbers_alike}
use Rattle.struct_text.proofs.Shapes.{IsChosen, of_union, of_prod, IsMany, of_many, next_later, of_child, children_count, within_arguments, small_parts}
use Rattle.struct_text.proofs.PartTexts.{moved, chosen_opened, tuple_opened}
use Rattle.struct_text.proofs.Weights.{byte_falls}
use Rattle.struct_text.proofs.BehindSteps.{shortened}

-- the text of a list that has a component, opened
list_opened : (rules : Rules) (f : Form5) (s : Structure) (later : List Structure) (text left rest : List ℕ) → text ≡ (form_word f ++ codes "(") ++ left
    → text ≡ tagged rules (Tup f (parts_of (s ∷ later))) ++ rest → left ≡ tagged rules s ++ ((others_text Tagged rules (parts_of later) ++ codes ")") ++ rest)
list_opened rules f s later text left rest first same =
    tuple_opened rules f (parts_of (s ∷ later)) text left rest first same ∙ split (tagged rules s) (others_text Tagged rules (parts_of later))
  where
    split : (t o : List ℕ) → ((t ++ o) ++ codes ")") ++ rest ≡ t ++ ((o ++ codes ")") ++ rest)
    split t o = simp append_assoc

-- a word and a parenthesis behind it
pub word_opened : (text word left left' : List ℕ) (f : Form5) → word ≡ form_word f → text ≡ word ++ left → left ≡ codes "(" ++ left' → text ≡ (form_word f ++ codes "(") ++ left'
word_opened text word left left' f is first second =
    first ∙ ap (λ (w : List ℕ). w ++ left) is ∙ ap (λ (l : List ℕ). form_word f ++ l) second ∙ sym (append_assoc (form_word f) (codes "(") left')

module _ (checked : Checked) (ok : IsChecked checked) (holes : List Hole) (kept : AreHoles checked holes) (node : ℕ) (text : List ℕ) where
  abbrev g : Grammar
  g = grammar checked

  abbrev awaits : Structure → Type 0
  awaits t = Awaits checked holes (is_of_node checked node) text t

  children_low : length (children_at checked.rules node) ≤ 128
  children_low = of_option (node_at checked.rules node) refl
    where
      of_option : (o : Option Expression) → node_at checked.rules node ≡ o → length (option_map_or (children_of node) o []) ≤ 128
      of_option None at = omega arith
      of_option (Some e) at = omega (arith, children_few checked.rules node e at, all_nodes-from_spec checked.rules ok.spec)

  -- ---- a Union

  module _ (kind : option_map kind_of (node_at checked.rules node) ≡ Some told.Union) where
    chosen : (t : Structure) (a : awaits t) → IsChosen g (arguments_at checked.rules node) a.inside
    chosen t a = of_union g (node_at checked.rules node) a.inside kind a.fit

    chosen_text : (t : Structure) (a : awaits t) → text ≡ numeral (suc (chosen t a).place) ++ 58 ∷ (tagged checked.rules (chosen t a).component ++ a.rest)
    chosen_text t a =
        let u = chosen t a in chosen_opened checked.rules (suc u.place) u.component text a.rest (a.text ∙ ap (λ (s : Structure). tagged checked.rules s ++ a.rest) u.is)

    chosen_low : (t : Structure) (a : awaits t) → suc (chosen t a).place ≤ length (children_at checked.rules node)
    chosen_low t a = omega (arith, slice_get_within (arguments_at checked.rules node) (chosen t a).place (chosen t a).e (chosen t a).at, children_count checked node)

    pub no_number : ((number : ℕ) (rest : List ℕ) → 1 ≤ number → number < 2 ^ 32 → IsTrue (begins_no_digit rest) → text ≡ numeral number ++ rest → ⊥) → (t : Structure) → awaits t → ⊥
    no_number none t a =
        none (suc (chosen t a).place) _ (omega arith) (omega (arith, chosen_low t a, children_low)) refl (chosen_text t a)

    module _ (number : ℕ) (left : List ℕ) (is : text ≡ numeral number ++ left) (ends : IsTrue (begins_no_digit left)) where
      alike : (t : Structure) (a : awaits t) → (number ≡ suc (chosen t a).place) × (left ≡ 58 ∷ (tagged checked.rules (chosen t a).component ++ a.rest))
      alike t a = numbers_alike text number (suc (chosen t a).place) left (tagged checked.rules (chosen t a).component ++ a.rest) 58 refl ends is (chosen_text t a)

      pub number_beyond : length (children_at checked.rules node) < number → (t : Structure) → awaits t → ⊥
      number_beyond beyond t a = let same = (alike t a).0 in omega (arith, beyond, chosen_low t a, same)

      pub no_colon : ((rest : List ℕ) → left ≡ codes ":" ++ rest → ⊥) → (t : Structure) → awaits t → ⊥
      no_colon none t a = none (tagged checked.rules (chosen t a).component ++ a.rest) (alike t a).1

      pub union_moves : (child : ℕ) (left' : List ℕ) → left ≡ codes ":" ++ left' → child < length (all_nodes checked.rules)
          → node_at checked.rules child ≡ slice_get (arguments_at checked.rules node) (number - 1)
          → Moves checked (ahead checked holes (is_of_node checked node) 0 text) (hole.Alt number ∷ holes) (Before child) left'
      union_moves child left' next within child_is =
          let shorter : length left' < length left = shortened left (codes ":") left' (omega arith) next in
          let long : length text ≡ length (numeral number) + length left = ap length is ∙ length-append (numeral number) left in
          let low = byte_falls checked ok child (length text) (length left') (length holes) (suc (length holes)) within (omega (arith, shorter, long)) (omega arith) in
          record {
            same_text = moved (front checked.rules holes) (numeral number ++ codes ":") left' (front checked.rules holes ++ text) text
                (is ∙ ap (λ (l : List ℕ). numeral number ++ l) next ∙ sym (append_assoc (numeral number) (codes ":") left')) refl;
            room = omega (arith, shorter, long);
            falls = omega (arith, low);
            are_holes = (tt, kept);
            is_place = within;
            can_be = λ t a. into t a;
          }
        where
          into : (t : Structure) → awaits t → Awaits checked (hole.Alt number ∷ holes) (is_of_node checked child) left' t
          into t a =
              let u = chosen t a in
              let same = alike t a in
              let place : number - 1 ≡ u.place = omega (arith, same.0) in
              record {
                inside = u.component;
                fit = of_child checked node child u.place u.e u.component (child_is ∙ ap (slice_get (arguments_at checked.rules node)) place) u.at u.of;
                small = subst (λ (s : Structure). IsTrue (are_small s)) u.is a.small;
                rest = a.rest;
                text = append_cancel_left (codes ":") left' (tagged checked.rules u.component ++ a.rest) (sym next ∙ same.1);
                whole = subst (λ (s : Structure). Fills checked t holes s a.rest) (u.is ∙ ap (λ (n : ℕ). Alt n u.component) (sym same.0)) a.whole;
              }

  -- ---- a Prod

  module _ (kind : option_map kind_of (node_at checked.rules node) ≡ Some told.Prod) where
    pub prod_moves : (child : ℕ) (left : List ℕ) → text ≡ codes "Prod(" ++ left → node < length (all_nodes checked.rules) → child < length (all_nodes checked.rules)
        → 0 < length (children_at checked.rules node) → node_at checked.rules child ≡ slice_get (arguments_at checked.rules node) 0
        → Moves checked (ahead checked holes (is_of_node checked node) 0 text) (hole.Factor node [] ∷ holes) (Before child) left
    prod_moves child left first node_within within some child_is =
        let shorter = shortened text (codes "Prod(") left (omega arith) first in
        let low = byte_falls checked ok child (length text) (length left) (length holes) (suc (length holes)) within shorter (omega arith) in
        record {
          same_text = moved (front checked.rules holes) (codes "Prod(") left (front checked.rules holes ++ text) text first refl;
          room = omega (arith, shorter);
          falls = omega (arith, low);
          are_holes = ((node_within, some), kept);
          is_place = within;
          can_be = λ t a. into t a;
        }
      where
        into : (t : Structure) → awaits t → Awaits checked (hole.Factor node [] ∷ holes) (is_of_node checked child) left t
        into t a =
            let list = of_prod g (node_at checked.rules node) a.inside kind a.fit in
            let begins = next_later checked node child 0 list.parts (within_arguments checked node 0 some) child_is list.of in
            let is : a.inside ≡ Tup form.Prod (parts_of (begins.component ∷ begins.later)) = list.is ∙ ap (λ (ss : List Structure). Tup form.Prod (parts_of ss)) begins.is in
            let small = small_parts begins.component begins.later (subst (λ (s : Structure). IsTrue (are_small s)) is a.small) in
            record {
              inside = begins.component;
              fit = begins.of;
              small = small.0;
              rest = (others_text Tagged checked.rules (parts_of begins.later) ++ codes ")") ++ a.rest;
              text = list_opened checked.rules form.Prod begins.component begins.later text left a.rest first (a.text ∙ ap (λ (s : Structure). tagged checked.rules s ++ a.rest) is);
              whole = record {
                later = begins.later;
                follow = begins.behind;
                small = small.1;
                rest = a.rest;
                text = refl;
                whole = subst (λ (s : Structure). Fills checked t holes s a.rest) is a.whole;
              };
            }

  -- ---- a container

  module _ (f : Form5) (many : IsTrue (is_many_of checked node f)) where
    listed : (t : Structure) (a : awaits t) → IsMany g (arguments_at checked.rules node) f a.inside
    listed t a = of_many g f (node_at checked.rules node) a.inside many a.fit

    module _ (left : List ℕ) (first : text ≡ (form_word f ++ codes "(") ++ left) where
      listed_text : (t : Structure) (a : awaits t) (ss : List Structure) → (listed t a).list.parts ≡ ss → text ≡ tagged checked.rules (Tup f (parts_of ss)) ++ a.rest
      listed_text t a ss is =
          a.text ∙ ap (λ (s : Structure). tagged checked.rules s ++ a.rest) ((listed t a).list.is ∙ ap (λ (ss : List Structure). Tup f (parts_of ss)) is)

      of_component : (t : Structure) (a : awaits t) (s : Structure) (later : List Structure) → (listed t a).list.parts ≡ s ∷ later
          → (is_of g (listed t a).e s ≡ true) × (list_all (is_of g (listed t a).e) later ≡ true)
      of_component t a s later is =
          and_parts (is_of g (listed t a).e s) (list_all (is_of g (listed t a).e) later) (sym (ap (list_all (is_of g (listed t a).e)) is) ∙ (listed t a).list.of)

      -- no component begins with a parenthesis
      none_inside : (t : Structure) (a : awaits t) (left' : List ℕ) (ss : List Structure) → left ≡ codes ")" ++ left' → (listed t a).list.parts ≡ ss
          → (a.inside ≡ Tup f (parts_of [])) × (a.rest ≡ left')
      none_inside t a left' [] next is = (
        (listed t a).list.is ∙ ap (λ (ss : List Structure). Tup f (parts_of ss)) is,
        append_cancel_left (codes ")") a.rest left' (sym (tuple_opened checked.rules f (parts_of []) text left a.rest first (listed_text t a [] is)) ∙ next),
      )
      none_inside t a left' (s ∷ later) next is =
          let starts = tagged_starts g ok.spec (listed t a).e s (of_component t a s later is).0 in
          let behind : List ℕ = (others_text Tagged checked.rules (parts_of later) ++ codes ")") ++ a.rest in
          let same : codes ")" ++ left' ≡ starts.byte ∷ (starts.bytes ++ behind) =
          sym next ∙ list_opened checked.rules f s later text left a.rest first (listed_text t a (s ∷ later) is) ∙ ap (λ (b : List ℕ). b ++ behind) starts.split in
          let head : 41 ≡ starts.byte = cc in
          let parenthesis : is_word_byte 41 ≡ true = ap is_word_byte head ∙ starts.allowed in absurd (true≢false (sym parenthesis))

      pub empty_moves : (left' : List ℕ) → left ≡ codes ")" ++ left' → Moves checked (ahead checked holes (is_of_node checked node) 0 text) holes (Behind (Tup f (parts_of []))) left'
      empty_moves left' next =
          let shorter = shortened left (codes ")") left' (omega arith) next in
          let long : length text ≡ length (form_word f ++ codes "(") + length left = ap length first ∙ length-append (form_word f ++ codes "(") left in
          record {
            same_text = moved (front checked.rules holes) (tagged checked.rules (Tup f (parts_of []))) left' (front checked.rules holes ++ text) text spelled refl;
            room = omega (arith, shorter, long);
            falls = omega (arith, shorter, long);
            are_holes = kept;
            is_place = tt;
            can_be = λ t a.
                let none = none_inside t a left' (listed t a).list.parts next refl in
                subst (λ (r : List ℕ). Fills checked t holes (Tup f (parts_of [])) r) none.1 (subst (λ (s : Structure). Fills checked t holes s a.rest) none.0 a.whole);
          }
        where
          split : (w l : List ℕ) → (w ++ codes "(") ++ (codes ")" ++ l) ≡ (((w ++ codes "(") ++ []) ++ codes ")") ++ l
          split w l = sym (append_assoc (w ++ codes "(") (codes ")") l) ∙ ap (λ (front : List ℕ). (front ++ codes ")") ++ l) (sym (append-nil (w ++ codes "(")))

          spelled : text ≡ tagged checked.rules (Tup f (parts_of [])) ++ left'
          spelled = first ∙ ap (λ (l : List ℕ). (form_word f ++ codes "(") ++ l) next ∙ split (form_word f) left'

      pub many_moves : (child : ℕ) → ((rest : List ℕ) → left ≡ codes ")" ++ rest → ⊥) → child < length (all_nodes checked.rules)
          → node_at checked.rules child ≡ slice_get (arguments_at checked.rules node) 0
          → Moves checked (ahead checked holes (is_of_node checked node) 0 text) (hole.Element f child [] ∷ holes) (Before child) left
      many_moves child none within child_is =
          let long : length text ≡ length (form_word f ++ codes "(") + length left = ap length first ∙ length-append (form_word f ++ codes "(") left in
          let some : length (form_word f ++ codes "(") ≡ length (form_word f) + 1 = length-append (form_word f) (codes "(") in
          let low = byte_falls checked ok child (length text) (length left) (length holes) (suc (length holes)) within (omega (arith, long, some)) (omega arith) in
          record {
            same_text = moved (front checked.rules holes) ((form_word f ++ codes "(") ++ []) left (front checked.rules holes ++ text) text
                (first ∙ ap (λ (w : List ℕ). w ++ left) (sym (append-nil (form_word f ++ codes "(")))) refl;
            room = omega (arith, long);
            falls = omega (arith, low);
            are_holes = (within, kept);
            is_place = within;
            can_be = λ t a. into t a (listed t a).list.parts refl;
          }
        where
          into : (t : Structure) (a : awaits t) (ss : List Structure) → (listed t a).list.parts ≡ ss → Awaits checked (hole.Element f child [] ∷ holes) (is_of_node checked child) left t
          into t a [] is = absurd (none a.rest (tuple_opened checked.rules f (parts_of []) text left a.rest first (listed_text t a [] is)))
          into t a (s ∷ later) is =
              let m = listed t a in
              let whole_is : a.inside ≡ Tup f (parts_of (s ∷ later)) = m.list.is ∙ ap (λ (ss : List Structure). Tup f (parts_of ss)) is in
              let of = of_component t a s later is in
              let small = small_parts s later (subst (λ (s : Structure). IsTrue (are_small s)) whole_is a.small) in
              let at : node_at checked.rules child ≡ Some m.e = child_is ∙ ap (λ (es : List Expression). slice_get es 0) m.at in
              record {
                inside = s;
                fit = ap (λ o. option_map_or (λ e. is_of g e s) o false) at ∙ of.0;
                small = small.0;
                rest = (others_text Tagged checked.rules (parts_of later) ++ codes ")") ++ a.rest;
                text = list_opened checked.rules f s later text left a.rest first (listed_text t a (s ∷ later) is);
                whole = record {
                  later = later;
                  follow = ap (λ o. list_all (λ t. option_map_or (λ e. is_of g e t) o false) later) at ∙ of.1;
                  small = small.1;
                  rest = a.rest;
                  text = refl;
                  whole = subst (λ (s : Structure). Fills checked t holes s a.rest) whole_is a.whole;
                };
              }
