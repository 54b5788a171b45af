-- Draws are fair: each member of a class has the same share.
use Rattle.std.proofs.Common.{◌≡◌, ℕ, suc, ◌+◌, ◌*◌, ◌<◌, ◌≤◌, Bool, true, false, List, [], ◌∷◌, map, length, Option, Some, None, refl, sym, ap, ◌∙◌, subst, inl, inr, true≢false, arith}
use Rattle.std.specs.Prelude.{IfSome, IsSome}
use Rattle.std.specs.Option.{option_map_or}
use Rattle.std.specs.List.{sum}
use Rattle.std.specs.Ordering.{is_eq}
use Rattle.std.specs.declared.cmp.Ordering.{Ordering}
use Rattle.std.specs.declared.cmp.Ordering.TheVariants.{Less, Equal, Greater}
use Rattle.std.proofs.lemmas.List.{length-map}
use Rattle.lists.specs.Enumeration.{IsIn, Ascends}
use Rattle.lists.proofs.Enumerated.{in_map}
use Rattle.lists.proofs.Sums.{sum_more}
use Rattle.spec_syntax.specs.Expression.{Name}
use Rattle.spec_syntax.specs.Nodes.{right_node}
use Rattle.spec_syntax.specs.Rules.{rule_name}
use Rattle.struct_model.specs.Structure.{Structure}
use Rattle.struct_model.specs.Order.{order}
use Rattle.struct_model.specs.Membership.{supply}
use Rattle.struct_model.specs.Listing.{Before, IsOne}
use Rattle.struct_model.specs.Bounded.{number}
use Rattle.struct_model.proofs.OrderLaws.{order_equal, order_strict}
use Rattle.struct_model.proofs.SupplyLaws.{supply_is}
use Rattle.well_founded.specs.Checked.{Checked, grammar}
use Rattle.listing_laws.specs.Lister.{named}
use Rattle.listing_laws.specs.NodeListing.{listing_on, listing_of_rule}
use Rattle.listing_laws.proofs.NodeLemmas.{nodes_are_listed}
use Rattle.listing_laws.proofs.Recursion.{well_founded_is_listed}
use Rattle.size_counts.specs.CountedView.{Counts, IsCounted}
use Rattle.choice_laws.specs.Trees.{nothing}
use Rattle.choice_laws.specs.Shares.{one_if, share}
use Rattle.choice_laws.specs.Even.{IsEven}
use Rattle.choice_laws.proofs.Evens.{even_shares_are_equal}
use Rattle.choice_laws.proofs.Followed.{ends_with_more}
use Rattle.choice_laws.proofs.Rearranged.{Differs}
use Rattle.draw_steps.specs.Asked.{NoPowerSets}
use Rattle.draw_steps.specs.Choices.{choices, class_choices, rule_choices}
use Rattle.draw_steps.specs.Draws.{member_number}
use Rattle.draw_steps.specs.Heights.{height}
use Rattle.draw_steps.specs.Laws.{members_of, AreLower, is_same, IsFair, DrawsFairly, DrawsAreFair}
use Rattle.draw_steps.proofs.FairHeights.{named_height}
use Rattle.draw_steps.proofs.FairListings.{once_each}
use Rattle.draw_steps.proofs.FairNodes.{node_even}
use Rattle.draw_steps.proofs.FairTrees.{ending_even}

-- ---- one of a list

equal_of : (o : Ordering) → is_eq o ≡ true → o ≡ Equal
equal_of Less h = absurd (cc)
equal_of Equal h = refl
equal_of Greater h = absurd (cc)

other_is_not : (s t : Structure) → (s ≡ t → ⊥) → one_if (is_same s t) ≡ 0
other_is_not s t apart = by (is_same s t) refl
  where
    by : (b : Bool) → is_same s t ≡ b → one_if b ≡ 0
    by true is = absurd (apart (order_equal.same s t (equal_of (order s t) is)))
    by false is = refl

itself_is : (s : Structure) → one_if (is_same s s) ≡ 1
itself_is s = ap (λ o. one_if (is_eq o)) (order_equal.itself s)

none_is : (s : Structure) (ss : List Structure) → (IsIn s ss → ⊥) → sum (map (λ t. one_if (is_same s t)) ss) ≡ 0
none_is s [] never = refl
none_is s (t ∷ ts) never =
    let here = other_is_not s t (λ same. never (inl same)) in
    let later = none_is s ts (λ there. never (inr there)) in
    omega (arith, sum_more (one_if (is_same s t)) (map (λ u. one_if (is_same s u)) ts), here, later)

-- of a list without repeats one is the structure
one_is : (s : Structure) (ss : List Structure) → Ascends Differs ss → IsIn s ss → sum (map (λ t. one_if (is_same s t)) ss) ≡ 1
one_is s [] a there = absurd there
one_is s (t ∷ ts) a (inl same) =
    let here : one_if (is_same s t) ≡ 1 = ap (λ u. one_if (is_same s u)) (sym same) ∙ itself_is s in
    let later = none_is s ts (λ there. a.0 s there (sym same)) in
    omega (arith, sum_more (one_if (is_same s t)) (map (λ u. one_if (is_same s u)) ts), here, later)
one_is s (t ∷ ts) a (inr there) =
    let here = other_is_not s t (λ same. a.0 s there (sym same)) in
    let later = one_is s ts a.1 there in
    omega (arith, sum_more (one_if (is_same s t)) (map (λ u. one_if (is_same s u)) ts), here, later)

-- ---- the members of a class

-- each list is lower than something
pub lower_than : (ss : List Structure) → (depth : ℕ) × AreLower depth ss
lower_than [] = (0, λ s there. absurd there)
lower_than (s ∷ ss) =
    let others = lower_than ss in (
      suc (height s) + others.0,
      λ t there. elim there [
        | inl same ↦ (let is : height t ≡ height s = ap height same in omega (arith, is))
        | inr later ↦ (let low = others.1 t later in omega (arith, low))
      ],
    )

module _ (counts : Counts) (is : IsCounted counts) (no : NoPowerSets counts) where
  abbrev checked : Checked
  checked = counts.checked

  abbrev whole : List ℕ
  whole = supply checked.universe counts.size

  -- the rule of the class
  record StartsAt : Type 0 where
    pub sym : ℕ
    pub start : checked.start ≡ Some sym
    pub low : 1 ≤ sym
    pub high : sym ≤ length checked.rules

  starts : StartsAt
  starts = by checked.start refl is.started is.passed.started
    where
      by : (o : Option ℕ) → checked.start ≡ o → IsSome o → IfSome o (λ k. (1 ≤ k) × (k ≤ length checked.rules)) → StartsAt
      by None start some within = absurd (true≢false (sym some))
      by (Some k) start some within = record { sym = k; start = start; low = within.0; high = within.1 }

  of_rule : (at : StartsAt) → members_of counts ≡ listing_of_rule checked at.sym counts.size
  of_rule at = ap (λ o. option_map_or (λ k. listing_of_rule checked k counts.size) o []) at.start

  member_count : member_number counts ≡ length (members_of counts)
  member_count = by checked.start
    where
      by : (o : Option ℕ) → option_map_or (λ k. number (grammar checked) (Name (rule_name checked.rules k)) counts.size) o 0 ≡ length (option_map_or (λ k. listing_of_rule checked k counts.size) o [])
      by None = refl
      by (Some k) = refl

  members_differ : Ascends Differs (members_of counts)
  members_differ =
      subst (Ascends Differs) (sym (of_rule starts))
      (once_each Before (IsOne (grammar checked) (Name (rule_name checked.rules starts.sym)) whole) (listing_of_rule checked starts.sym counts.size) order_strict.irreflexive
      ((well_founded_is_listed.names (grammar checked) (rule_name checked.rules starts.sym) is.passed.spec is.passed.well_founded).lists whole (supply_is checked.universe counts.size))).ascends

  pub members_even : (depth : ℕ) → 0 < member_number counts → AreLower depth (members_of counts) → IsEven (class_choices counts depth) (members_of counts)
  members_even depth some lower = by starts
    where
      by : StartsAt → IsEven (class_choices counts depth) (members_of counts)
      by at =
          subst (λ tree. IsEven tree (members_of counts))
          (sym (ap (λ o. option_map_or (λ k. rule_choices counts (choices counts depth) k whole) o nothing) at.start))
          (subst (IsEven (rule_choices counts (choices counts depth) at.sym whole)) (sym are)
          (ending_even (named at.sym) (choices counts depth right whole) of_right
          (node_even counts is no depth right whole (record { sym = at.sym; start = at.start; reached = inl refl }) (supply_is checked.universe counts.size)
          (omega (arith, some, member_count, ap length are, length-map of_right (named at.sym)))
          (λ s stands.
          let low = lower (named at.sym s) (subst (IsIn (named at.sym s)) (sym are) (in_map (named at.sym) s of_right stands)) in
          omega (arith, low, named_height at.sym s at.low)))))
        where
          right : ℕ
          right = right_node checked.rules at.sym

          of_right : List Structure
          of_right = listing_on checked right whole

          are : members_of counts ≡ map (named at.sym) of_right
          are = of_rule at ∙ nodes_are_listed.rule checked at.sym whole is.passed (supply_is checked.universe counts.size) at.low at.high

  pub members_fair : (depth : ℕ) → 0 < member_number counts → AreLower depth (members_of counts) → IsFair counts depth
  members_fair depth some lower =
      let even = members_even depth some lower in
      let leads = even.leads_on (omega (arith, some, member_count)) in
      record {
        ends = λ s at. even.within s at;
        shares = λ s at.
            ap (λ (k : ℕ). k * (share (is_same s) (class_choices counts depth)).0) member_count
            ∙ (even_shares_are_equal Structure).shares (class_choices counts depth) (members_of counts) (is_same s) even (one_is s (members_of counts) members_differ at);
        positive = λ s. (even_shares_are_equal Structure).positive (class_choices counts depth) (is_same s) leads;
        spent = λ bits none. ends_with_more (class_choices counts depth) bits leads;
      }

  pub draws_fairly : 0 < member_number counts → DrawsFairly counts
  draws_fairly some =
      let lower = lower_than (members_of counts) in
      record { depth = lower.0; always = λ h deep. members_fair h some (λ s there. let low = lower.1 s there in omega (arith, low, deep)) }

pub draws_are_fair : DrawsAreFair
draws_are_fair = record {
  nodes = λ counts node depth u is no reached supplied some lower. node_even counts is no depth node u reached supplied some lower;
  members = λ counts depth is no some lower. members_even counts is no depth some lower;
  fair = λ counts depth is no some lower. members_fair counts is no depth some lower;
  always = λ counts is no some. draws_fairly counts is no some;
}
