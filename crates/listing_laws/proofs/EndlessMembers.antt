-- A rule holds itself exactly where some rule has endlessly many members of one size.
use Rattle.std.proofs.Common.{◌≡◌, ℕ, zero, suc, ◌<◌, ◌≤◌, true, List, [], ◌∷◌, length, refl, sym, ap, ◌∙◌, subst, inl, inr, arith, Some, None, Option}
use Rattle.std.specs.Cmp.Lexicographic.{bytes_decides}
use Rattle.std.proofs.lemmas.Bool.{and_parts, and_from}
use Rattle.spec_syntax.specs.Expression as expr
use Rattle.spec_syntax.specs.Grammar.{Grammar}
use Rattle.lists.specs.Ascending.{ascending}
use Rattle.struct_model.specs.Structure.{Structure, Eps, Atom, Named, Alt, Tup, Structures, no_parts, more_parts, nodes, nodes_of_parts, labels, size, key}
use Rattle.struct_model.specs.Membership.{supply, same_labels, is_member}
use Rattle.lists.specs.Enumeration.{IsIn, Ascends}
use Rattle.struct_model.specs.Listing.{IsOne}
use Rattle.struct_model.specs.Bounded.{listing}
use Rattle.well_founded.specs.declared.refused.Refused.{Refused}
use Rattle.well_founded.specs.declared.refused.Refused.TheVariants.{Undefined, CycleUnlabelled, Unproductive, NullElement, Endless, Memory}
use Rattle.well_founded.specs.Names.{undefined_name}
use Rattle.well_founded.specs.Sets.{reading_sets}
use Rattle.well_founded.specs.Inside.{IsInside, IsAmong}
use Rattle.well_founded.specs.Sizes.{IsOf, IsLeast, no_least}
use Rattle.well_founded.specs.WellFounded.{HoldsItself, HoldsCycle, HasNoStructure, HoldsNull, OfNone, IsEachProductive, IsWellFounded, IsCulprit, Checks}
use Rattle.well_founded.proofs.EndlessLaws.{grows}
use Rattle.well_founded.proofs.CheckLaws.{first_in, first_not_none}
use Rattle.well_founded.proofs.CheckExists.{some_check}
use Rattle.well_founded.proofs.RankLaws.{ranks_exist}
use Rattle.listing_laws.specs.Endless.{Differ, HasEndlesslyMany}
use Rattle.listing_laws.specs.Laws.{IsListing, EndlessByMembers}
use Rattle.lists.proofs.Distinct.{no_longer}
use Rattle.listing_laws.proofs.ReadTwice.{no_nulls_read, well_founded_read}
use Rattle.listing_laws.proofs.Relabel.{with_supply}
use Rattle.struct_model.proofs.SupplyLaws.{supply_is}
use Rattle.listing_laws.proofs.WellFoundedListed.{name_lists}

mutual
  -- what stands inside has fewer nodes
  inside_fewer : (t s : Structure) → IsInside t s → nodes t < nodes s
  inside_fewer t (Eps x) h = absurd h
  inside_fewer t (Atom x l) h = absurd h
  inside_fewer t (Named x s) (inl same) = omega (arith, ap nodes same)
  inside_fewer t (Named x s) (inr h) = omega (arith, inside_fewer t s h)
  inside_fewer t (Alt k s) (inl same) = omega (arith, ap nodes same)
  inside_fewer t (Alt k s) (inr h) = omega (arith, inside_fewer t s h)
  inside_fewer t (Tup f ps) h = omega (arith, among_fewer t ps h)

  among_fewer : (t : Structure) (ps : Structures) → IsAmong t ps → nodes t ≤ nodes_of_parts ps
  among_fewer t no_parts h = absurd h
  among_fewer t (more_parts s ps) (inl same) = omega (arith, ap nodes same)
  among_fewer t (more_parts s ps) (inr (inl h)) = omega (arith, inside_fewer t s h)
  among_fewer t (more_parts s ps) (inr (inr h)) = omega (arith, among_fewer t ps h)

module _ (g : Grammar) where
  member_from : (name : List ℕ) (n : ℕ) (s : Structure) → IsOf g (expr.Name name) s → key s ≡ supply g.universe n → is_member (reading_sets g) name n s ≡ true
  member_from name n s of same = and_from _ _ of ((bytes_decides (key s) (supply g.universe n)).1 same)

  from_member : (name : List ℕ) (n : ℕ) (s : Structure) → is_member (reading_sets g) name n s ≡ true → IsOne (reading_sets g) (expr.Name name) (supply g.universe n) s
  from_member name n s member =
      let both : IsOf g (expr.Name name) s × (same_labels (key s) (supply g.universe n) ≡ true) = and_parts _ _ member in
      (both.0, (bytes_decides (key s) (supply g.universe n)).0 both.1)

  -- a class with a listing of the size has no more different members than there are in it
  pub listed_ends : (name : List ℕ) (n : ℕ) → IsListing (reading_sets g) (expr.Name name) → HasEndlesslyMany g name n → ⊥
  listed_ends name n is_listing many =
      let u = supply g.universe n in
      let members = listing (reading_sets g) (expr.Name name) u in
      let ss = many (suc (length members)) in
      omega (
        arith,
        ss.1,
        no_longer ss.0 members ss.2 (λ s within. (is_listing.lists u (supply_is g.universe n)).complete s (from_member name n s (ss.3 s within))),
      )

  -- ---- one more, again and again

  module _ (name : List ℕ) (n : ℕ) (grown : (t : Structure) → IsOf g (expr.Name name) t → (s : Structure) × IsOf g (expr.Name name) s × IsInside t s × (labels s ≡ labels t)) where
    -- so many different members, and one that has more nodes than each of them
    record Tower (k : ℕ) : Type 0 where
      top : Structure
      below : List Structure
      top_of : IsOf g (expr.Name name) top
      top_key : key top ≡ supply g.universe n
      many : length below ≡ k
      differ : Ascends Differ below
      each_of : (s : Structure) → IsIn s below → is_member (reading_sets g) name n s ≡ true
      fewer : (s : Structure) → IsIn s below → nodes s < nodes top

    higher : (k : ℕ) → Tower k → Tower (suc k)
    higher k tower =
        let more = grown tower.top tower.top_of in
        let up : nodes tower.top < nodes more.0 = inside_fewer tower.top more.0 more.2 in
        record {
          top = more.0;
          below = tower.top ∷ tower.below;
          top_of = more.1;
          top_key = ap ascending more.3 ∙ tower.top_key;
          many = ap suc tower.many;
          differ = ((λ s within same. irreflexive s (ap nodes same) (tower.fewer s within)), tower.differ);
          each_of = λ s within. elim within [
            | inl same ↦ subst (λ (t : Structure). is_member (reading_sets g) name n t ≡ true) (sym same) (member_from name n tower.top tower.top_of tower.top_key)
            | inr there ↦ tower.each_of s there
          ];
          fewer = λ s within. elim within [
            | inl same ↦ subst (λ (t : Structure). nodes t < nodes more.0) (sym same) up
            | inr there ↦ less (nodes s) (tower.fewer s there) up
          ];
        }
      where
        irreflexive : (s : Structure) → nodes tower.top ≡ nodes s → nodes s < nodes tower.top → ⊥
        irreflexive s same less = omega arith

        less : (low : ℕ) → low < nodes tower.top → nodes tower.top < nodes (grown tower.top tower.top_of).0 → low < nodes (grown tower.top tower.top_of).0
        less low below up = omega arith

    tower_of : (k : ℕ) (first : Structure) → IsOf g (expr.Name name) first → key first ≡ supply g.universe n → Tower k
    tower_of zero first of same = record {
      top = first;
      below = [];
      top_of = of;
      top_key = same;
      many = refl;
      differ = tt;
      each_of = λ s within. absurd within;
      fewer = λ s within. absurd within;
    }
    tower_of (suc k) first of same = higher k (tower_of k first of same)

    pub endlessly : (first : Structure) → IsOf g (expr.Name name) first → key first ≡ supply g.universe n → HasEndlesslyMany g name n
    endlessly first of same k = let tower = tower_of k first of same in (tower.below, tower.many, tower.differ, tower.each_of)

  -- where a rule holds itself, and the other faults don't stand, it has endlessly many members of the size of any of its structures
  pub holds_many : (name : List ℕ) → OfNone (HoldsCycle g) g.rules → OfNone (HoldsNull g) g.rules → HoldsItself g name → (t : Structure) → IsOf g (expr.Name name) t
      → HasEndlesslyMany g name (size t)
  holds_many name cycles nulls holds t of =
      let first = with_supply (reading_sets g) (no_nulls_read g nulls) name t of in
      endlessly name (size t) (λ s of_s. grows g name s cycles nulls holds of_s) first.0 first.1 first.2

  -- and so it has of its least size, where that is told
  pub least_many : (name : List ℕ) (n : ℕ) → OfNone (HoldsCycle g) g.rules → OfNone (HoldsNull g) g.rules → HoldsItself g name → IsLeast g (expr.Name name) n → n < no_least
      → HasEndlesslyMany g name n
  least_many name n cycles nulls holds (inl exact) h = subst (HasEndlesslyMany g name) exact.1.has_size (holds_many name cycles nulls holds exact.1.smallest exact.1.is_of)
  least_many name n cycles nulls holds (inr over) h = absurd (omega (arith, over.0, h))

-- ---- the law

-- where a grammar is well founded, no class has endlessly many members of one size
none_endless : (g : Grammar) (x : List ℕ) (m : ℕ) → IsWellFounded g → HasEndlesslyMany g x m → ⊥
none_endless g x m founded many =
    let read = well_founded_read g founded in
    let ranks = ranks_exist (reading_sets g) read in
    listed_ends g x m (name_lists (reading_sets g) read.no_null_elements ranks.0 ranks.1 x) many

-- what the check says, where no other refusal holds and some class has endlessly many members, is that a rule is endless
said_endless : (g : Grammar) (start : Option (List ℕ)) (x : List ℕ) (m : ℕ) (said : Option Refused) → Checks g start said
    → undefined_name g.rules start ≡ None → OfNone (HoldsCycle g) g.rules → IsEachProductive g → OfNone (HoldsNull g) g.rules → HasEndlesslyMany g x m
    → (name : List ℕ) × (n : ℕ) × IsCulprit g start (Endless name n)
said_endless g start x m None checks undefined cycles productive nulls many = absurd (none_endless g x m checks.0 many)
said_endless g start x m (Some (Undefined name)) checks undefined cycles productive nulls many =
    absurd (let both : None ≡ Some name = sym undefined ∙ checks in cc)
said_endless g start x m (Some (CycleUnlabelled name)) checks undefined cycles productive nulls many =
    absurd (first_not_none (HoldsCycle g) g.rules name checks.1 cycles)
said_endless g start x m (Some (Unproductive name)) checks undefined cycles productive nulls many =
    absurd (checks.2.holds (productive name checks.2.right (first_in (HasNoStructure g) g.rules name checks.2)))
said_endless g start x m (Some (NullElement name)) checks undefined cycles productive nulls many =
    absurd (first_not_none (HoldsNull g) g.rules name checks.3 nulls)
said_endless g start x m (Some (Endless name n)) checks undefined cycles productive nulls many = (name, n, checks)
said_endless g start x m (Some Memory) checks undefined cycles productive nulls many = absurd checks

pub endless_by_members : EndlessByMembers
endless_by_members = record {
  many = λ g start name n culprit.
      let holds = culprit.4.holds in
      (name, size holds.inner, holds_many g name culprit.1 culprit.3 holds holds.inner holds.is_inner);
  told = λ g start name n culprit small. least_many g name n culprit.1 culprit.3 culprit.4.holds culprit.5 small;
  endless = λ g start x m undefined cycles productive nulls many.
      let check = some_check g start in
      said_endless g start x m check.0 check.1 undefined cycles productive nulls many;
}
