-- Where bits lead in grafted trees, and in steps by weights.
use Rattle.std.proofs.Common.{◌≡◌, ℕ, zero, suc, ◌+◌, ◌-◌, ◌≤◌, Bool, true, false, List, nat_lt, refl, sym, ap, ◌∙◌, subst, arith, Option, Some, None, Result, Ok, Err}
use Rattle.std.specs.Prelude.{if◌then◌else◌}
use Rattle.std.specs.Option.{option_and_then}
use Rattle.choice_laws.specs.Trees.{Tree, Branches, end, step, no_branches, more_branches, graft, graft_branches, total}
use Rattle.choice_laws.specs.Bits.{follow, follow_branch, picked}
use Rattle.draw_steps.specs.declared.fault.StepFault.{StepFault}
use Rattle.draw_steps.specs.declared.fault.StepFault.TheVariants.{Spent, Memory}
use Rattle.draw_steps.specs.Steps.{ending}
use Rattle.draw_steps.specs.Draws.{Follows, Draws, told_as}

-- ---- grafts

-- where bits lead, and then on
abbrev pub onward : {X Y : Type 0} → (X → Tree Y) → Option (X × List Bool) → Option (Y × List Bool)
onward next found = option_and_then (λ p. follow (next p.0) p.1) found

total_graft : {X Y : Type 0} (next : X → Tree Y) (branches : Branches X) → total (graft_branches next branches) ≡ total branches
total_graft next no_branches = refl
total_graft next (more_branches weight tree more) = ap (λ (n : ℕ). weight + n) (total_graft next more)

onward_if : {X Y : Type 0} (next : X → Tree Y) (b : Bool) (one other : Option (X × List Bool))
    → (if b then onward next one else onward next other) ≡ onward next (if b then one else other)
onward_if next true one other = refl
onward_if next false one other = refl

onward_picked : {X Y : Type 0} (next : X → Tree Y) (f : ℕ → List Bool → Option (X × List Bool)) (g : ℕ → List Bool → Option (Y × List Bool)) (o : Option (ℕ × List Bool))
    → ((value : ℕ) (bits : List Bool) → g value bits ≡ onward next (f value bits)) → option_and_then (λ p. g p.0 p.1) o ≡ onward next (option_and_then (λ p. f p.0 p.1) o)
onward_picked next f g None same = refl
onward_picked next f g (Some p) same = same p.0 p.1

-- of a step whose branches behind the first one are grafted so
grafted_step : {X Y : Type 0} (next : X → Tree Y) (weight : ℕ) (tree : Tree X) (more : Branches X) (bits : List Bool)
    → ((left : List Bool) → follow (graft next tree) left ≡ onward next (follow tree left))
    → ((value : ℕ) (left : List Bool) → follow_branch (graft_branches next more) value left ≡ onward next (follow_branch more value left))
    → follow (step (graft_branches next (more_branches weight tree more))) bits ≡ onward next (follow (step (more_branches weight tree more)) bits)
grafted_step next weight tree no_branches bits first others = first bits
grafted_step next weight tree (more_branches w t more) bits first others =
    ap (λ (n : ℕ). option_and_then (λ p. follow_branch (graft_branches next (more_branches weight tree (more_branches w t more))) p.0 p.1) (picked (weight + (w + n)) bits)) (total_graft next more)
    ∙ onward_picked next (follow_branch (more_branches weight tree (more_branches w t more))) (follow_branch (graft_branches next (more_branches weight tree (more_branches w t more))))
    (picked (weight + (w + total more)) bits) (λ value left.
    ap (λ o. if nat_lt value weight then o else follow_branch (graft_branches next (more_branches w t more)) (value - weight) left) (first left)
    ∙ ap (λ o. if nat_lt value weight then onward next (follow tree left) else o) (others (value - weight) left)
    ∙ onward_if next (nat_lt value weight) (follow tree left) (follow_branch (more_branches w t more) (value - weight) left))

mutual
  pub follow_graft : {X Y : Type 0} (next : X → Tree Y) (tree : Tree X) (bits : List Bool) → follow (graft next tree) bits ≡ onward next (follow tree bits)
  follow_graft next (end x) bits = refl
  follow_graft next (step branches) bits = follow_grafted next branches bits

  follow_grafted : {X Y : Type 0} (next : X → Tree Y) (branches : Branches X) (bits : List Bool) → follow (step (graft_branches next branches)) bits ≡ onward next (follow (step branches) bits)
  follow_grafted next no_branches bits = refl
  follow_grafted next (more_branches weight tree more) bits = grafted_step next weight tree more bits (follow_graft next tree) (follow_branches next more)

  follow_branches : {X Y : Type 0} (next : X → Tree Y) (branches : Branches X) (value : ℕ) (bits : List Bool)
      → follow_branch (graft_branches next branches) value bits ≡ onward next (follow_branch branches value bits)
  follow_branches next no_branches value bits = refl
  follow_branches next (more_branches weight tree more) value bits =
      ap (λ o. if nat_lt value weight then o else follow_branch (graft_branches next more) (value - weight) bits) (follow_graft next tree bits)
      ∙ ap (λ o. if nat_lt value weight then onward next (follow tree bits) else o) (follow_branches next more (value - weight) bits)
      ∙ onward_if next (nat_lt value weight) (follow tree bits) (follow_branch more (value - weight) bits)

-- ---- what follows

pub follows_end : {X : Type 0} (x : X) (bits : List Bool) → Follows (end x) bits (Ok x) bits
follows_end x bits = refl

-- a first choice, and then what goes on from it
pub follows_then : {X Y : Type 0} (next : X → Tree Y) (tree : Tree X) (x : X) (before mid after : List Bool) (result : Result Y StepFault)
    → Follows tree before (Ok x) mid → Follows (next x) mid result after → Follows (graft next tree) before result after
follows_then next tree x before mid after (Ok y) first second = follow_graft next tree before ∙ ap (onward next) first ∙ second
follows_then next tree x before mid after (Err Spent) first second = (follow_graft next tree before ∙ ap (onward next) first ∙ second.0, second.1)
follows_then next tree x before mid after (Err Memory) first second = tt

-- a first choice that came to no end
pub follows_fault : {X Y : Type 0} (next : X → Tree Y) (tree : Tree X) (before after : List Bool) (fault : StepFault)
    → Follows tree before (Err fault) after → Follows (graft next tree) before (Err fault) after
follows_fault next tree before after Spent first = (follow_graft next tree before ∙ ap (onward next) first.0, first.1)
follows_fault next tree before after Memory first = tt

pub follows_ending : {X Y : Type 0} (f : X → Y) (tree : Tree X) (before after : List Bool) (result : Result X StepFault)
    → Follows tree before result after → Follows (ending f tree) before (told_as f result) after
follows_ending f tree before after (Ok x) h = follows_then (λ x. end (f x)) tree x before after after (Ok (f x)) h (follows_end (f x) after)
follows_ending f tree before after (Err fault) h = follows_fault (λ x. end (f x)) tree before after fault h

pub follows_memory : {X : Type 0} (tree : Tree X) (before after : List Bool) → Follows tree before (Err Memory) after
follows_memory tree before after = tt

-- ---- from some depth on

pub draws_always : {X : Type 0} (tree : Tree X) (before after : List Bool) (result : Result X StepFault) → Follows tree before result after → Draws (λ h. tree) before result after
draws_always tree before after result h = record { depth = 0; always = λ d within. h }

pub draws_then : {X Y : Type 0} (next : ℕ → X → Tree Y) (tree : ℕ → Tree X) (x : X) (before mid after : List Bool) (result : Result Y StepFault)
    → Draws tree before (Ok x) mid → Draws (λ h. next h x) mid result after → Draws (λ h. graft (next h) (tree h)) before result after
draws_then next tree x before mid after result first second = record {
  depth = first.depth + second.depth;
  always = λ h within. follows_then (next h) (tree h) x before mid after result (first.always h (omega arith)) (second.always h (omega arith));
}

pub draws_fault : {X Y : Type 0} (next : ℕ → X → Tree Y) (tree : ℕ → Tree X) (before after : List Bool) (fault : StepFault)
    → Draws tree before (Err fault) after → Draws (λ h. graft (next h) (tree h)) before (Err fault) after
draws_fault next tree before after fault first = record { depth = first.depth; always = λ h within. follows_fault (next h) (tree h) before after fault (first.always h within) }

pub draws_ending : {X Y : Type 0} (f : X → Y) (tree : ℕ → Tree X) (before after : List Bool) (result : Result X StepFault)
    → Draws tree before result after → Draws (λ h. ending f (tree h)) before (told_as f result) after
draws_ending f tree before after result d = record { depth = d.depth; always = λ h within. follows_ending f (tree h) before after result (d.always h within) }

pub draws_memory : {X : Type 0} (tree : ℕ → Tree X) (before after : List Bool) → Draws tree before (Err Memory) after
draws_memory tree before after = record { depth = 0; always = λ h within. tt }

-- trees that are the same one depth further on
pub draws_deeper : {X : Type 0} (tree deeper : ℕ → Tree X) (before after : List Bool) (result : Result X StepFault)
    → ((h : ℕ) → deeper (suc h) ≡ tree h) → Draws tree before result after → Draws deeper before result after
draws_deeper tree deeper before after result same d = record { depth = suc d.depth; always = by }
  where
    by : (h : ℕ) → suc d.depth ≤ h → Follows (deeper h) before result after
    by zero within = absurd (omega arith)
    by (suc h) within = subst (λ t. Follows t before result after) (sym (same h)) (d.always h (omega arith))

pub draws_same : {X : Type 0} (tree other : ℕ → Tree X) (before after : List Bool) (result : Result X StepFault)
    → ((h : ℕ) → other h ≡ tree h) → Draws tree before result after → Draws other before result after
draws_same tree other before after result same d = record { depth = d.depth; always = λ h within. subst (λ t. Follows t before result after) (sym (same h)) (d.always h within) }
