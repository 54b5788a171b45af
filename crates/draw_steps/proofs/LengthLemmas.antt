-- The components that are missing, their numbers and their weights.
use Rattle.std.proofs.Common.{◌≡◌, ℕ, zero, suc, ◌+◌, ◌-◌, ◌*◌, ◌≤◌, ◌<◌, true, map, length, slice_get, Option, Some, None, refl, sym, ap, ◌∙◌, subst, arith}
use Rattle.std.specs.List.{sum, range_with_len}
use Rattle.std.proofs.lemmas.Bool.Decides.{nat_tests}
use Rattle.lists.proofs.Shares.{share_within}
use Rattle.spec_syntax.specs.Card.{is_within}
use Rattle.spec_syntax.specs.Rules.{all_nodes}
use Rattle.spec_syntax.specs.Nodes.{children_at}
use Rattle.listing_laws.specs.Numbers.{one_at}
use Rattle.listing_laws.specs.NodeListing.{number_from}
use Rattle.listing_laws.proofs.Joined.{at_size, at_other}
use Rattle.listing_laws.proofs.NodeLemmas.{nodes_are_counted}
use Rattle.size_counts.specs.CountedView.{Counts, IsCounted, IsReachedIn, number_of}
use Rattle.struct_walk.proofs.ReachedNodes.{reached_within, reached_child}
use Rattle.struct_walk.proofs.TailLemmas.{counted_number}
use Rattle.draw_steps.specs.declared.missing.Lists.{Lists}
use Rattle.draw_steps.specs.declared.missing.Lists.TheVariants.{Components, Elements, Members}
use Rattle.draw_steps.specs.Asked.{IsOver, AreComponents, AreElements, AreMembers, AreMissing}
use Rattle.draw_steps.specs.Choices.{lists_number, times_met}
use Rattle.draw_steps.proofs.Among.{range_at}
use Rattle.draw_steps.proofs.LengthSums.{suffix_is}

pub as_components : (counts : Counts) (lists : Lists) (node missing : ℕ) → lists ≡ Components node → AreMissing counts lists missing → AreComponents counts node missing
as_components counts lists node missing is h = subst (λ (l : Lists). AreMissing counts l missing) is h

pub as_elements : (counts : Counts) (lists : Lists) (node element missing : ℕ) → lists ≡ Elements node element → AreMissing counts lists missing → AreElements counts node element missing
as_elements counts lists node element missing is h = subst (λ (l : Lists). AreMissing counts l missing) is h

pub as_members : (counts : Counts) (lists : Lists) (node element missing : ℕ) → lists ≡ Members node element → AreMissing counts lists missing → AreMembers counts node element missing
as_members counts lists node element missing is h = subst (λ (l : Lists). AreMissing counts l missing) is h

-- with fewer of them missing
fewer_within : (high : Option ℕ) (c : ℕ) → is_within high c ≡ true → is_within high (c - 1) ≡ true
fewer_within None c h = refl
fewer_within (Some n) c h = grind (arith, nat_tests)

fewer_over : (counts : Counts) (node element missing : ℕ) → IsOver counts node element missing → IsOver counts node element (missing - 1)
fewer_over counts node element missing h = record { reached = h.reached; child = h.child; within = λ card own. fewer_within card.high missing (h.within card own) }

pub fewer : (counts : Counts) (lists : Lists) (missing : ℕ) → AreMissing counts lists missing → AreMissing counts lists (missing - 1)
fewer counts (Components node) missing h = record { reached = h.reached; prod = h.prod; few = omega (arith, h.few) }
fewer counts (Elements node element) missing h = record { over = fewer_over counts node element missing h.over; kind = h.kind }
fewer counts (Members node element) missing h = record { over = fewer_over counts node element missing h.over; kind = h.kind; labelled = h.labelled }

module _ (counts : Counts) (is : IsCounted counts) where
  pub reached_in : (lists : Lists) (node child i missing : ℕ) → lists ≡ Components node → AreMissing counts lists missing → slice_get (children_at counts.checked.rules node) i ≡ Some child → IsReachedIn counts child
  reached_in lists node child i missing same h at = reached_child counts is node i child (as_components counts lists node missing same h).reached at

  pub reached_element : (lists : Lists) (node element missing : ℕ) → lists ≡ Elements node element → AreMissing counts lists missing → IsReachedIn counts element
  reached_element lists node element missing same h = let e = as_elements counts lists node element missing same h in reached_child counts is node 0 element e.over.reached e.over.child

  pub reached_member : (lists : Lists) (node element missing : ℕ) → lists ≡ Members node element → AreMissing counts lists missing → IsReachedIn counts element
  reached_member lists node element missing same h = let e = as_members counts lists node element missing same h in reached_child counts is node 0 element e.over.reached e.over.child

  pub prod_within : (lists : Lists) (node missing : ℕ) → lists ≡ Components node → AreMissing counts lists missing → node < length (all_nodes counts.checked.rules)
  prod_within lists node missing same h = reached_within counts is node (as_components counts lists node missing same h).reached

  -- ---- numbers

  none_missing : (node missing m : ℕ) → AreComponents counts node missing → missing ≡ 0 → lists_number counts (Components node) missing m ≡ one_at 0 m
  none_missing node missing m h none =
      suffix_is counts is node missing m h
      ∙ nodes_are_counted.no_component counts.checked node (length (children_at counts.checked.rules node) - missing) m is.passed h.prod (omega arith)

  pub no_list_of_none : (lists : Lists) (node missing m : ℕ) → lists ≡ Components node → AreMissing counts lists missing → missing ≡ 0 → m ≡ 0 → 1 ≡ lists_number counts lists missing m
  no_list_of_none lists node missing m same h none empty =
      sym (ap (λ (l : Lists). lists_number counts l missing m) same ∙ none_missing node missing m (as_components counts lists node missing same h) none ∙ at_size 0 m empty)

  pub no_list_of_some : (lists : Lists) (node missing m : ℕ) → lists ≡ Components node → AreMissing counts lists missing → missing ≡ 0 → (m ≡ 0 → ⊥) → 0 ≡ lists_number counts lists missing m
  no_list_of_some lists node missing m same h none some =
      sym (ap (λ (l : Lists). lists_number counts l missing m) same ∙ none_missing node missing m (as_components counts lists node missing same h) none ∙ at_other 0 m some)

  pub whole_prod : (lists : Lists) (node missing m number : ℕ) → lists ≡ Components node → AreMissing counts lists missing → length (children_at counts.checked.rules node) - missing ≡ 0
      → number ≡ number_of counts node m → number ≡ lists_number counts lists missing m
  whole_prod lists node missing m number same h first told =
      let e = as_components counts lists node missing same h in
      told ∙ counted_number counts node m ∙ nodes_are_counted.prod counts.checked node m is.passed e.prod
      ∙ ap (λ (p : ℕ). number_from counts.checked node p m) (sym first) ∙ sym (suffix_is counts is node missing m e) ∙ ap (λ (l : Lists). lists_number counts l missing m) (sym same)

-- ---- weights

pub weight_fits : (f : ℕ → ℕ) (m d bound : ℕ) → d < m + 1 → sum (map f (range_with_len 0 (m + 1))) < bound → f d < bound
weight_fits f m d bound within fits =
    omega (arith, share_within f (range_with_len 0 (m + 1)) d d (range_at 0 (m + 1) d within ∙ ap Some (let e : 0 + d ≡ d = omega arith in e)), fits)

pub some_times : (lists : Lists) (missing n : ℕ) → 1 ≤ missing → 0 < n → 0 < times_met lists missing * n
some_times (Components node) missing n some n_some = omega arith
some_times (Elements node element) missing n some n_some = omega arith
some_times (Members node element) (suc c) (suc n) some n_some = more c n
  where
    more : (c n : ℕ) → 0 < suc c * suc n
    more c n = grind arith
some_times (Members node element) zero n some n_some = absurd (omega arith)
some_times (Members node element) (suc c) zero some n_some = absurd (omega arith)

pub factors : (w f o : ℕ) → 0 < w * (f * o) → (0 < f) × (0 < o)
factors w zero o some = absurd (omega (arith, none w o))
  where
    none : (a b : ℕ) → a * (0 * b) ≡ 0
    none a b = grind arith
factors w (suc f) zero some = absurd (omega (arith, none w (suc f)))
  where
    none : (a b : ℕ) → a * (b * 0) ≡ 0
    none a b = grind arith
factors w (suc f) (suc o) some = (omega arith, omega arith)

pub ways_fit : (w f o bound : ℕ) → 0 < w * (f * o) → w * (f * o) < bound → w < bound
ways_fit w f o bound some fits = omega (arith, fits, less w (f * o) (product f o some))
  where
    less : (a b : ℕ) → 0 < b → a ≤ a * b
    less a zero h = absurd (omega arith)
    less a (suc b) h = grind arith

    product : (a b : ℕ) → 0 < w * (a * b) → 0 < a * b
    product a b h = by (a * b) h
      where
        by : (p : ℕ) → 0 < w * p → 0 < p
        by zero h = absurd (omega (arith, h, none w))
          where
            none : (c : ℕ) → c * 0 ≡ 0
            none c = grind arith
        by (suc p) h = omega arith
