-- Steps to one of some elements, each alike, and the parts of a supply.
use Rattle.std.proofs.Common.{◌≡◌, ℕ, zero, suc, ◌+◌, ◌-◌, ◌≤◌, ◌<◌, ◌^◌, Bool, true, true≢false, List, [], ◌∷◌, map, length, slice_get, nat_lt, nat_le, ◌&&◌, Option, Some, None, Result, Ok, Err, refl, sym, ap, ◌∙◌, subst, arith}
use Rattle.std.specs.Prelude.{if◌then◌else◌}
use Rattle.std.specs.Result.{IsErr, IsErrAnd}
use Rattle.std.specs.Option.{option_and_then}
use Rattle.std.proofs.lemmas.Bool.{cond-false, le-ltb}
use Rattle.std.proofs.lemmas.Bool.Decides.{nat_tests}
use Rattle.lists.proofs.Places.{in_of_get}
use Rattle.lists.proofs.Enumerated.{from_filter}
use Rattle.spec_syntax.specs.declared.statement.Universe.{Universe}
use Rattle.count_laws.specs.Choose.{choose}
use Rattle.struct_model.specs.declared.supplies.Supply.{Supply}
use Rattle.struct_model.specs.declared.supplies.Supply.TheVariants.{Zeros, Labels}
use Rattle.struct_model.specs.SupplyView.{supply_labels, supply_universe, is_in_order}
use Rattle.splits.specs.Splits.{Split, splits}
use Rattle.splits.specs.Parts.{has_length, parts, number_of_parts}
use Rattle.splits.proofs.NthPart.{parts_are_counted}
use Rattle.splits.proofs.SplitSupplies.{split_length}
use Rattle.listing_laws.specs.Numbers.{ways}
use Rattle.choice_laws.specs.Trees.{Tree, Branches, end, branches_of, total}
use Rattle.choice_laws.specs.Bits.{follow, follow_branch, block_length, picked_block, picked}
use Rattle.draw_steps.specs.declared.fault.StepFault.{StepFault}
use Rattle.draw_steps.specs.declared.fault.StepFault.TheVariants.{Spent, Memory}
use Rattle.draw_steps.specs.Steps.{among}
use Rattle.splits.specs.Capped.{Tells}
use Rattle.size_counts.specs.CountedView.{Counts, number_of}
use Rattle.draw_steps.specs.declared.missing.Lists.{Lists}
use Rattle.draw_steps.specs.Choices.{first_of, lists_number, length_weight, length_step, part_step, split_step}
use Rattle.draw_steps.specs.Draws.{Follows, Picks, told_as}
use Rattle.draw_steps.proofs.Following.{follows_then, follows_fault}
use Rattle.draw_steps.proofs.LengthLemmas.{ways_fit}
use Rattle.draw_steps.proofs.Places.{picked_below}

-- the bound 1 takes no bits
block_of_one : block_length 1 ≡ 0
unfolding block_length
block_of_one = refl

pub picked_one : (bits : List Bool) → picked 1 bits ≡ Some (0, bits)
unfolding picked
picked_one bits =
    ap (λ (k : ℕ). picked_block (suc (length bits)) k 1 bits) block_of_one
    ∙ ap (λ (b : Bool). if b then None else Some (0, bits)) (le-ltb (length bits) 0 (omega arith))

one_picked : (before : List Bool) (value : ℕ) (after : List Bool) → picked 1 before ≡ Some (value, after) → ◌≡◌ {A = ℕ × List Bool} (0, before) (value, after)
one_picked before value after h = inside (0, before) (value, after) (sym (picked_one before) ∙ h)
  where
    inside : (p q : ℕ × List Bool) → Some p ≡ Some q → p ≡ q
    inside p q same = cc

none_picked : (before : List Bool) → picked 1 before ≡ None → ⊥
none_picked before h = never (0, before) (sym (picked_one before) ∙ h)
  where
    never : (p : ℕ × List Bool) → Some p ≡ None → ⊥
    never p same = absurd (cc)

module _ {X : Type 0} where
  abbrev ones : List X → Branches X
  ones xs = branches_of (map (λ x. (1, end x)) xs)

  total_ones : (xs : List X) → total (ones xs) ≡ length xs
  total_ones [] = refl
  total_ones (x ∷ xs) = ap (λ (n : ℕ). 1 + n) (total_ones xs) ∙ one_more (length xs)
    where
      one_more : (n : ℕ) → 1 + n ≡ suc n
      one_more n = omega arith

  branch_one : (xs : List X) (value : ℕ) (x : X) (bits : List Bool) → slice_get xs value ≡ Some x → follow_branch (ones xs) value bits ≡ Some (x, bits)
  branch_one [] value x bits at = absurd (cc)
  branch_one (y ∷ ys) zero x bits at = let same : y ≡ x = cc in ap (λ (z : X). Some (z, bits)) same
  branch_one (y ∷ ys) (suc value) x bits at =
      cond-false (nat_lt (suc value) 1) _ _ (le-ltb (suc value) 1 (omega arith))
      ∙ ap (λ (n : ℕ). follow_branch (ones ys) n bits) (let e : suc value - 1 ≡ value = omega arith in e) ∙ branch_one ys value x bits at

  pub even_follows : (xs : List X) (before after : List Bool) (value : ℕ) (x : X) → picked (length xs) before ≡ Some (value, after) → slice_get xs value ≡ Some x
      → follow (among (λ (y : X). 1) xs) before ≡ Some (x, after)
  even_follows [] before after value x h at = absurd (cc)
  even_follows (y ∷ []) before after value x h at =
      let both : ◌≡◌ {A = ℕ × List Bool} (0, before) (value, after) = one_picked before value after h in
      let none : 0 ≡ value = ap (λ (p : ℕ × List Bool). p.0) both in
      let here : y ≡ x = let e : Some y ≡ Some x = ap (slice_get (y ∷ [])) none ∙ at in cc in
      ap (λ (z : X). Some (z, before)) here ∙ ap (λ (bits : List Bool). Some (x, bits)) (ap (λ (p : ℕ × List Bool). p.1) both)
  even_follows (y ∷ z ∷ xs) before after value x h at =
      ap (λ (n : ℕ). option_and_then (λ p. follow_branch (ones (y ∷ z ∷ xs)) p.0 p.1) (picked n before)) (total_ones (y ∷ z ∷ xs))
      ∙ ap (λ o. option_and_then (λ p. follow_branch (ones (y ∷ z ∷ xs)) p.0 p.1) o) h ∙ branch_one (y ∷ z ∷ xs) value x after at

  pub even_spent : (xs : List X) (before : List Bool) → 0 < length xs → picked (length xs) before ≡ None → follow (among (λ (y : X). 1) xs) before ≡ None
  even_spent [] before some h = absurd (omega arith)
  even_spent (y ∷ []) before some h = absurd (none_picked before h)
  even_spent (y ∷ z ∷ xs) before some h =
      ap (λ (n : ℕ). option_and_then (λ p. follow_branch (ones (y ∷ z ∷ xs)) p.0 p.1) (picked n before)) (total_ones (y ∷ z ∷ xs))
      ∙ ap (λ o. option_and_then (λ p. follow_branch (ones (y ∷ z ∷ xs)) p.0 p.1) o) h

-- ---- parts

some_choice : (n d : ℕ) → d ≤ n → 0 < choose n d
some_choice n zero h = omega arith
some_choice zero (suc d) h = absurd (omega arith)
some_choice (suc n) (suc d) h = omega (arith, some_choice n d (omega arith))

pub some_parts : (supply : Supply) (d : ℕ) → d ≤ length (supply_labels supply) → 0 < number_of_parts supply d
some_parts (Zeros n) d h = omega arith
some_parts (Labels labels) d h = some_choice (length labels) d h

pub bound_of : (supply : Supply) (labels : List ℕ) (d n bound : ℕ) → supply ≡ Labels labels → n ≡ length (supply_labels supply) → bound ≡ choose n d → bound ≡ number_of_parts supply d
bound_of supply labels d n bound is number told =
    told ∙ ap (λ (m : ℕ). choose m d) (number ∙ ap (λ (s : Supply). length (supply_labels s)) is) ∙ sym (ap (λ (s : Supply). number_of_parts s d) is)

pub parts_ways : (supply : Supply) (universe : Universe) (d : ℕ) → supply_universe supply ≡ universe → number_of_parts supply d ≡ ways universe (length (supply_labels supply)) d
parts_ways (Zeros n) universe d is = ap (λ (u : Universe). ways u (length (supply_labels (Zeros n))) d) is
parts_ways (Labels labels) universe d is = ap (λ (u : Universe). ways u (length labels) d) is

pub zeros_pick : (supply : Supply) (n d : ℕ) (bits : List Bool) → supply ≡ Zeros n → picked (number_of_parts supply d) bits ≡ Some (0, bits)
zeros_pick supply n d bits is = ap (λ (s : Supply). picked (number_of_parts s d) bits) is ∙ picked_one bits

module _ (supply : Supply) (d : ℕ) (h : is_in_order supply ≡ true) (within : d ≤ length (supply_labels supply)) where
  abbrev all : List Split
  all = parts d d (supply_labels supply)

  counted : length all ≡ number_of_parts supply d
  counted = parts_are_counted supply d h within

  pub part_follows : (before after : List Bool) (number : ℕ) (split : Split) → Picks (number_of_parts supply d) before (Ok number) after → slice_get all number ≡ Some split
      → follow (part_step (supply_labels supply) d) before ≡ Some (split, after)
  part_follows before after number split p at = even_follows all before after number split (ap (λ (n : ℕ). picked n before) counted ∙ p) at

  pub part_fault : (before after : List Bool) (fault : StepFault) → Picks (number_of_parts supply d) before (Err fault) after → Follows (part_step (supply_labels supply) d) before (Err fault) after
  part_fault before after Spent p =
      (even_spent all before (subst (λ (n : ℕ). 0 < n) (sym counted) (some_parts supply d within)) (ap (λ (n : ℕ). picked n before) counted ∙ p.0), p.1)
  part_fault before after Memory p = tt

  pub number_below : (before after : List Bool) (number : ℕ) → Picks (number_of_parts supply d) before (Ok number) after → number < number_of_parts supply d
  number_below before after number p = picked_below (number_of_parts supply d) before number after p

  -- the lengths of both lists
  pub part_lengths : (number : ℕ) (split : Split) → slice_get all number ≡ Some split → (length split.part ≡ d) × (length split.rest + d ≡ length (supply_labels supply))
  part_lengths number split at =
      let found = from_filter (has_length d d) split (splits (supply_labels supply)) (in_of_get all number split at) in
      let long : length split.part ≡ d = exact (length split.part) found.1 in
      (long, omega (arith, long, split_length (supply_labels supply) split found.0))
    where
      exact : (n : ℕ) → (nat_le d n && nat_le n d) ≡ true → n ≡ d
      exact n both = grind (arith, nat_tests)

-- a fault that is passed on, where the answer is seen as something else
pub same_told : {X Y : Type 0} (f : X → Y) (tree : Tree Y) (before after : List Bool) (fault : StepFault) (r : Result X StepFault) → IsErr r × IsErrAnd r (λ e. e ≡ fault)
    → Follows tree before (Err fault) after → Follows tree before (told_as f r) after
same_told f tree before after fault (Ok x) told h = absurd (true≢false (sym told.0))
same_told f tree before after fault (Err e) told h = subst (λ (f : StepFault). Follows tree before (Err f) after) (sym told.1) h

-- what a coefficient that is known tells
pub told_bound : (o : Option ℕ) (bound n : ℕ) → o ≡ Some bound → Tells o n → bound ≡ n
told_bound o bound n same told = (subst (λ (p : Option ℕ). Tells p n) same told).0

-- the number of atoms, and then the labels
module _ (counts : Counts) (lists : Lists) (missing : ℕ) (u : List ℕ) (n : ℕ) (long : n ≡ length u) where
  pub split_then : (d : ℕ) (before mid after : List Bool) (result : Result Split StepFault) → Follows (length_step counts lists missing n) before (Ok d) mid
      → Follows (part_step u d) mid result after → Follows (split_step counts lists missing u) before result after
  split_then d before mid after result first second =
      follows_then (part_step u) (length_step counts lists missing (length u)) d before mid after result
      (subst (λ (m : ℕ). Follows (length_step counts lists missing m) before (Ok d) mid) long first) second

  pub split_fault : (before after : List Bool) (fault : StepFault) → Follows (length_step counts lists missing n) before (Err fault) after
      → Follows (split_step counts lists missing u) before (Err fault) after
  split_fault before after fault first =
      follows_fault (part_step u) (length_step counts lists missing (length u)) before after fault
      (subst (λ (m : ℕ). Follows (length_step counts lists missing m) before (Err fault) after) long first)

  -- there are no more parts than the weight
  pub parts_fit : (supply : Supply) (d : ℕ) → supply_labels supply ≡ u → supply_universe supply ≡ counts.checked.universe → 0 < length_weight counts lists missing n d
      → length_weight counts lists missing n d < 2 ^ 128 → number_of_parts supply d < 2 ^ 128
  parts_fit supply d is universe some fits =
      subst (λ (w : ℕ). w < 2 ^ 128)
      (sym (parts_ways supply counts.checked.universe d universe ∙ ap (λ (m : ℕ). ways counts.checked.universe m d) (ap length is ∙ sym long)))
      (ways_fit (ways counts.checked.universe n d) (number_of counts (first_of counts lists missing) d) (lists_number counts lists (missing - 1) (n - d)) (2 ^ 128) some fits)
