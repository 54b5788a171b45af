-- Steps in front of a structure of a rule, and which place a step at a node takes.
use Rattle.std.proofs.Common.{◌≡◌, ◌⊎◌, inl, inr, ◌≤◌, ◌<◌, ◌^◌, ℕ, zero, suc, ◌+◌, ◌*◌, Bool, true, false, not, ◌&&◌, ◌||◌, cond, nat_lt, List, ◌∷◌, ◌++◌, length, IsTrue, Option, Some, None, Result, Ok, Err, refl, sym, ap, ◌∙◌, arith, subst, true≢false}
use Rattle.std.specs.Option.{option_map, option_map_or, option_and_then}
use Rattle.std.proofs.lemmas.Bool.{and_parts, and_from, or_left, or_right, eq-eqb}
use Rattle.std.proofs.lemmas.List.{append-nil}
use Rattle.spec_syntax.specs.declared.expr.Kind.TheVariants as kind
use Rattle.spec_syntax.specs.Expression as expr
use Rattle.spec_syntax.specs.Expression.{Expression}
use Rattle.spec_syntax.specs.Rules.{Rules, is_spec, symbol, right_side, rule_name, all_nodes}
use Rattle.spec_syntax.specs.Grammar.{Grammar}
use Rattle.spec_syntax.specs.Nodes.{node_at, right_node, name_of, name_at}
use Rattle.spec_syntax.proofs.RuleNames.{number_own, name_own}
use Rattle.struct_model.specs.Structure.{Structure, Eps, Atom, Named, Alt, Tup}
use Rattle.struct_model.specs.Membership.{is_of, is_epsilon, is_atom, is_label, names}
use Rattle.well_founded.specs.declared.node.NodeKind.{NodeKind}
use Rattle.well_founded.specs.declared.node.NodeKind.TheVariants as told
use Rattle.well_founded.specs.NodeKinds.{kind_of}
use Rattle.well_founded.specs.SameSize.{is_told_inside}
use Rattle.well_founded.specs.Checked.{Checked, IsChecked, grammar}
use Rattle.well_founded.proofs.LeastLaws.{rule_of}
use Rattle.struct_text.specs.declared.holes.Hole.{Hole}
use Rattle.struct_text.specs.declared.holes.Hole.TheVariants as hole
use Rattle.struct_text.specs.declared.holes.Place.{Place}
use Rattle.struct_text.specs.declared.holes.Place.TheVariants.{Before}
use Rattle.struct_text.specs.declared.reading.TextFault.{TextFault}
use Rattle.struct_text.specs.declared.reading.TextFault.TheVariants.{NotStructure, Memory}
use Rattle.struct_text.specs.Text.{tagged, word_or_name}
use Rattle.struct_text.specs.Labels.{are_small}
use Rattle.struct_text.specs.Reading.{front, AreHoles, is_of_node, rank_of, name_weight, Fills, Moves, Ends, ahead, is_epsilon_of, is_atom_of}
use Rattle.struct_text.proofs.Beginnings.{name_starts}
use Rattle.struct_text.proofs.Weights.{rank_falls}

-- ---- what a right side is, by its kind

pub epsilon_kind : (o : Option Expression) (e : Expression) → o ≡ Some e → option_map kind_of o ≡ Some told.Epsilon → e ≡ expr.Epsilon
epsilon_kind o e is told_is = of_expression e (sym (ap (option_map kind_of) is) ∙ told_is)
  where
    of_expression : (e : Expression) → Some (kind_of e) ≡ Some told.Epsilon → e ≡ expr.Epsilon
    of_expression expr.Epsilon same = refl
    of_expression (expr.Many kind.Sequence f card) same = absurd (cc)
    of_expression (expr.Many kind.Set f card) same = absurd (cc)
    of_expression (expr.Many kind.PowerSet f card) same = absurd (cc)
    of_expression (expr.Many kind.Cycle f card) same = absurd (cc)
    of_expression e same = absurd (cc)

pub atom_kind : (o : Option Expression) (e : Expression) → o ≡ Some e → option_map kind_of o ≡ Some told.Atom → e ≡ expr.Atom
atom_kind o e is told_is = of_expression e (sym (ap (option_map kind_of) is) ∙ told_is)
  where
    of_expression : (e : Expression) → Some (kind_of e) ≡ Some told.Atom → e ≡ expr.Atom
    of_expression expr.Atom same = refl
    of_expression (expr.Many kind.Sequence f card) same = absurd (cc)
    of_expression (expr.Many kind.Set f card) same = absurd (cc)
    of_expression (expr.Many kind.PowerSet f card) same = absurd (cc)
    of_expression (expr.Many kind.Cycle f card) same = absurd (cc)
    of_expression e same = absurd (cc)

pub inside_kind : (o : Option Expression) (e : Expression) (kind : NodeKind) → o ≡ Some e → option_map kind_of o ≡ Some kind → (kind ≡ told.Epsilon → ⊥) → (kind ≡ told.Atom → ⊥) → is_told_inside e ≡ true
inside_kind o e kind is told_is no_epsilon no_atom = of_expression e kind (sym (ap (option_map kind_of) is) ∙ told_is) no_epsilon no_atom
  where
    of_expression : (e : Expression) (kind : NodeKind) → Some (kind_of e) ≡ Some kind → (kind ≡ told.Epsilon → ⊥) → (kind ≡ told.Atom → ⊥) → is_told_inside e ≡ true
    of_expression expr.Epsilon kind same no_epsilon no_atom = absurd (no_epsilon (cc))
    of_expression expr.Atom kind same no_epsilon no_atom = absurd (no_atom (cc))
    of_expression (expr.Name name) kind same no_epsilon no_atom = refl
    of_expression (expr.Union es) kind same no_epsilon no_atom = refl
    of_expression (expr.Prod es) kind same no_epsilon no_atom = refl
    of_expression (expr.Many f e card) kind same no_epsilon no_atom = refl

-- the other kinds are no words
pub no_word : (kind : NodeKind)
    → (kind ≡ told.Rule) ⊎ ((kind ≡ told.Union) ⊎ ((kind ≡ told.Prod) ⊎ ((kind ≡ told.Sequence) ⊎ ((kind ≡ told.Set) ⊎ ((kind ≡ told.PowerSet) ⊎ (kind ≡ told.Cycle))))))
    → (kind ≡ told.Epsilon → ⊥) × (kind ≡ told.Atom → ⊥)
no_word kind (inl is) = (λ same. cc, λ same. cc)
no_word kind (inr (inl is)) = (λ same. cc, λ same. cc)
no_word kind (inr (inr (inl is))) = (λ same. cc, λ same. cc)
no_word kind (inr (inr (inr (inl is)))) = (λ same. cc, λ same. cc)
no_word kind (inr (inr (inr (inr (inl is))))) = (λ same. cc, λ same. cc)
no_word kind (inr (inr (inr (inr (inr (inl is)))))) = (λ same. cc, λ same. cc)
no_word kind (inr (inr (inr (inr (inr (inr is)))))) = (λ same. cc, λ same. cc)

-- ---- names

-- a rule's name has a byte
pub name_some : (rules : Rules) (number : ℕ) (name : List ℕ) → IsTrue (is_spec rules) → 1 ≤ number → number ≤ length rules → name ≡ rule_name rules number → 0 < length name
name_some rules number name spec low high is =
    let starts = name_starts rules (rule_name rules number) number spec (number_own rules number spec low high) in
    let long : length name ≡ suc (length starts.bytes) = ap length (is ∙ starts.split) in omega (arith, long)

-- and stands for the word
pub name_stands : (rules : Rules) (word name : List ℕ) (number : ℕ) → 1 ≤ number → name ≡ rule_name rules number → name ≡ word_or_name rules word number
name_stands rules word name zero low is = absurd (omega (arith, low))
name_stands rules word name (suc n) low is = is

-- ---- the structures of the rule with a number

module _ (checked : Checked) (ok : IsChecked checked) (number : ℕ) (low : 1 ≤ number) (high : number ≤ length checked.rules) (right : Expression) (sided : right_side checked.rules number ≡ Some right) where
  abbrev g : Grammar
  g = grammar checked

  abbrev of_name : Structure → Bool
  of_name s = is_of g (expr.Name (rule_name checked.rules number)) s

  same_number : (m : ℕ) → symbol checked.rules (rule_name checked.rules number) ≡ Some m → m ≡ number
  same_number m found = let both : Some m ≡ Some number = sym found ∙ number_own checked.rules number ok.spec low high in cc

  holds_right : (m : ℕ) (has : Expression → Bool) → names g (rule_name checked.rules number) m has ≡ true → (m ≡ number) × (has right ≡ true)
  holds_right m has h =
      let rule = rule_of g (rule_name checked.rules number) m has h in
      let same = same_number m rule.numbered in
      let both : Some rule.right ≡ Some right = sym rule.sided ∙ ap (right_side checked.rules) same ∙ sided in
      let right_is : rule.right ≡ right = cc in
      (same, sym (ap has right_is) ∙ rule.holds)

  pub rule_epsilon : right ≡ expr.Epsilon → (s : Structure) → IsTrue (of_name s) → IsTrue (are_small s) → IsTrue (is_epsilon_of number s)
  rule_epsilon is (Eps x) of small = eq-eqb x number (holds_right x is_epsilon of).0
  rule_epsilon is (Atom x l) of small = absurd (true≢false (sym (holds_right x is_atom (and_parts _ _ of).0).1 ∙ ap is_atom is))
  rule_epsilon is (Named x s) of small =
      absurd (true≢false (sym (and_parts _ _ (holds_right x (λ e. not (is_epsilon e || is_atom e) && is_of g e s) of).1).0 ∙ ap is_told_inside is))
  rule_epsilon is (Alt k s) of small = absurd (true≢false (sym of))
  rule_epsilon is (Tup f ss) of small = absurd (true≢false (sym of))

  pub rule_atom : right ≡ expr.Atom → (s : Structure) → IsTrue (of_name s) → IsTrue (are_small s) → IsTrue (is_atom_of checked.universe number s)
  rule_atom is (Atom x l) of small =
      let both = and_parts (names g (rule_name checked.rules number) x is_atom) (is_label checked.universe l) of in
      let label_small = and_parts (nat_lt l (2 ^ 32)) true small in
      and_from _ _ (and_from _ _ (eq-eqb x number (holds_right x is_atom both.0).0) both.1) label_small.0
  rule_atom is (Eps x) of small = absurd (true≢false (sym (holds_right x is_epsilon of).1 ∙ ap is_epsilon is))
  rule_atom is (Named x s) of small =
      absurd (true≢false (sym (and_parts _ _ (holds_right x (λ e. not (is_epsilon e || is_atom e) && is_of g e s) of).1).0 ∙ ap is_told_inside is))
  rule_atom is (Alt k s) of small = absurd (true≢false (sym of))
  rule_atom is (Tup f ss) of small = absurd (true≢false (sym of))

  rule_inside : is_told_inside right ≡ true → (s : Structure) → IsTrue (of_name s) → (t : Structure) × (s ≡ Named number t) × (is_of g right t ≡ true)
  rule_inside inside (Eps x) of = absurd (true≢false (sym inside ∙ ap not (or_left _ _ (holds_right x is_epsilon of).1)))
  rule_inside inside (Atom x l) of = absurd (true≢false (sym inside ∙ ap not (or_right _ _ (holds_right x is_atom (and_parts _ _ of).0).1)))
  rule_inside inside (Named x s) of =
      let holds = holds_right x (λ e. not (is_epsilon e || is_atom e) && is_of g e s) of in
      (s, ap (λ (n : ℕ). Named n s) holds.0, (and_parts _ _ holds.1).1)
  rule_inside inside (Alt k s) of = absurd (true≢false (sym of))
  rule_inside inside (Tup f ss) of = absurd (true≢false (sym of))

  -- in front of the right side, where it isn't a word
  pub name_moves : (holes : List Hole) → AreHoles checked holes → (text : List ℕ) (child : ℕ) → child ≡ right_node checked.rules number → is_told_inside right ≡ true
      → child < length (all_nodes checked.rules) → node_at checked.rules child ≡ Some right
      → Moves checked (ahead checked holes (λ s. is_of g (expr.Name (rule_name checked.rules number)) s) (name_weight checked number) text) (hole.Named number ∷ holes) (Before child) text
  name_moves holes kept text child is inside within at =
      let weighs : name_weight checked number ≡ 2 * rank_of checked child + 3 =
      ap (λ o. option_map_or (λ side. cond (is_told_inside side) (2 * rank_of checked (right_node checked.rules number) + 3) 0) o 0) sided
      ∙ ap (λ b. cond b (2 * rank_of checked (right_node checked.rules number) + 3) 0) inside
      ∙ ap (λ (n : ℕ). 2 * rank_of checked n + 3) (sym is) in
      record {
        same_text = ap (λ (f : List ℕ). f ++ text) (sym (append-nil (front checked.rules holes)));
        room = omega arith;
        falls = omega (arith, weighs);
        are_holes = (tt, kept);
        is_place = within;
        can_be = λ t a.
            let t' = rule_inside inside a.inside a.fit in
            record {
              inside = t'.0;
              fit = ap (λ o. option_map_or (λ e. is_of g e t'.0) o false) at ∙ t'.2;
              small = subst (λ (s : Structure). IsTrue (are_small s)) t'.1 a.small;
              rest = a.rest;
              text = a.text ∙ ap (λ (s : Structure). tagged checked.rules s ++ a.rest) t'.1;
              whole = subst (λ (s : Structure). Fills checked t holes s a.rest) t'.1 a.whole;
            };
      }

-- ---- the bare words

pub bare_epsilon : (checked : Checked) (node : ℕ) → option_map kind_of (node_at checked.rules node) ≡ Some told.Epsilon → (s : Structure) → IsTrue (is_of_node checked node s) → IsTrue (are_small s)
    → IsTrue (is_epsilon_of 0 s)
bare_epsilon checked node told_is s of small = of_option (node_at checked.rules node) told_is of
  where
    of_expression : (s : Structure) → is_of (grammar checked) expr.Epsilon s ≡ true → is_epsilon_of 0 s ≡ true
    of_expression (Eps x) of = of
    of_expression s of = absurd (true≢false (sym of))

    of_option : (o : Option Expression) → option_map kind_of o ≡ Some told.Epsilon → option_map_or (λ e. is_of (grammar checked) e s) o false ≡ true → is_epsilon_of 0 s ≡ true
    of_option None told_is of = absurd (cc)
    of_option (Some e) told_is of = of_expression s (ap (λ e. is_of (grammar checked) e s) (sym (epsilon_kind (Some e) e refl told_is)) ∙ of)

pub bare_atom : (checked : Checked) (node : ℕ) → option_map kind_of (node_at checked.rules node) ≡ Some told.Atom → (s : Structure) → IsTrue (is_of_node checked node s) → IsTrue (are_small s)
    → IsTrue (is_atom_of checked.universe 0 s)
bare_atom checked node told_is s of small = of_option (node_at checked.rules node) told_is of
  where
    of_expression : (s : Structure) → are_small s ≡ true → is_of (grammar checked) expr.Atom s ≡ true → is_atom_of checked.universe 0 s ≡ true
    of_expression (Atom x l) small of = and_from _ _ of (and_parts (nat_lt l (2 ^ 32)) true small).0
    of_expression s small of = absurd (true≢false (sym of))

    of_option : (o : Option Expression) → option_map kind_of o ≡ Some told.Atom → option_map_or (λ e. is_of (grammar checked) e s) o false ≡ true → is_atom_of checked.universe 0 s ≡ true
    of_option None told_is of = absurd (cc)
    of_option (Some e) told_is of = of_expression s small (ap (λ e. is_of (grammar checked) e s) (sym (atom_kind (Some e) e refl told_is)) ∙ of)

-- ---- from one start to another

-- what ends for more structures and less weight ends for these too
pub ends_from : (checked : Checked) (holes : List Hole) (fits other : Structure → Bool) (weight heavier : ℕ) (text : List ℕ) (result : Result Place TextFault) (holes' : List Hole) (left : List ℕ)
    → ((s : Structure) → IsTrue (fits s) → IsTrue (other s)) → weight ≤ heavier → Ends checked (ahead checked holes other weight text) result holes' left
    → Ends checked (ahead checked holes fits heavier text) result holes' left
ends_from checked holes fits other weight heavier text (Ok place) holes' left into less ends =
    record {
      same_text = ends.same_text;
      room = ends.room;
      falls = omega (arith, ends.falls, less);
      are_holes = ends.are_holes;
      is_place = ends.is_place;
      can_be = λ t a. ends.can_be t (record { inside = a.inside; fit = into a.inside a.fit; small = a.small; rest = a.rest; text = a.text; whole = a.whole });
    }
ends_from checked holes fits other weight heavier text (Err NotStructure) holes' left into less ends =
    λ t a. ends t (record { inside = a.inside; fit = into a.inside a.fit; small = a.small; rest = a.rest; text = a.text; whole = a.whole })
ends_from checked holes fits other weight heavier text (Err Memory) holes' left into less ends = tt

-- a name stands where its rule does
module _ (checked : Checked) (ok : IsChecked checked) (node number : ℕ) (within : node < length (all_nodes checked.rules)) (told_is : option_map kind_of (node_at checked.rules node) ≡ Some told.Rule)
    (found : option_and_then (symbol checked.rules) (name_at checked.rules node) ≡ Some number) where
  -- the name that stands at the node
  record HasName : Type 0 where
    name : List ℕ
    at : node_at checked.rules node ≡ Some (expr.Name name)
    numbered : symbol checked.rules name ≡ Some number

  named : HasName
  named = of_option (node_at checked.rules node) refl told_is found
    where
      of_option : (o : Option Expression) → node_at checked.rules node ≡ o → option_map kind_of o ≡ Some told.Rule → option_and_then (symbol checked.rules) (option_and_then name_of o) ≡ Some number → HasName
      of_option (Some (expr.Name name)) at told_is found = record { name = name; at = at; numbered = found }
      of_option (Some (expr.Many kind.Sequence e card)) at told_is found = absurd (cc)
      of_option (Some (expr.Many kind.Set e card)) at told_is found = absurd (cc)
      of_option (Some (expr.Many kind.PowerSet e card)) at told_is found = absurd (cc)
      of_option (Some (expr.Many kind.Cycle e card)) at told_is found = absurd (cc)
      of_option o at told_is found = absurd (cc)

  pub name_fits : (s : Structure) → IsTrue (is_of_node checked node s) → IsTrue (is_of (grammar checked) (expr.Name (rule_name checked.rules number)) s)
  name_fits s of =
      ap (λ (n : List ℕ). is_of (grammar checked) (expr.Name n) s) (name_own checked.rules named.name number named.numbered)
      ∙ sym (ap (λ o. option_map_or (λ e. is_of (grammar checked) e s) o false) named.at) ∙ of

  pub name_weighs : (right : Expression) → right_side checked.rules number ≡ Some right → node_at checked.rules (right_node checked.rules number) ≡ Some right
      → right_node checked.rules number < length (all_nodes checked.rules) → name_weight checked number ≤ 2 * rank_of checked node + 1
  name_weighs right sided at right_within =
      subst (λ (n : ℕ). n ≤ 2 * rank_of checked node + 1) (sym weighs) (of_test (is_told_inside right) refl)
    where
      weighs : name_weight checked number ≡ cond (is_told_inside right) (2 * rank_of checked (right_node checked.rules number) + 3) 0
      weighs = ap (λ o. option_map_or (λ side. cond (is_told_inside side) (2 * rank_of checked (right_node checked.rules number) + 3) 0) o 0) sided

      of_test : (b : Bool) → is_told_inside right ≡ b → cond b (2 * rank_of checked (right_node checked.rules number) + 3) 0 ≤ 2 * rank_of checked node + 1
      of_test true inside = omega (arith, rank_falls checked ok node number named.name right within named.at named.numbered sided at inside right_within)
      of_test false inside = omega arith
