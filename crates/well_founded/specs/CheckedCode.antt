-- What contracts see of a checked grammar, as the pair that stores it.
use Rattle.std.specs.Prelude.{◌≡◌, ℕ, Bool, true, false, List, Option, refl}
use Rattle.std.proofs.Common.{ap}
use Rattle.std.specs.Coded.{Coded, code_by, coded_list, coded_option, coded×, coded_bool, coded_ℕ}
use Rattle.spec_syntax.specs.declared.statement.Universe.{Universe}
use Rattle.spec_syntax.specs.declared.statement.Universe.TheVariants.{Labelled, Unlabelled}
use Rattle.spec_syntax.specs.Rules.{Rules, rules_code}
use Rattle.well_founded.specs.Checked.{Checked}

abbrev pub universe_bit : Universe → Bool
universe_bit Labelled = true
universe_bit Unlabelled = false

abbrev pub universe_at : Bool → Universe
universe_at true = Labelled
universe_at false = Unlabelled

universe_back : (universe : Universe) → universe_at (universe_bit universe) ≡ universe
universe_back Labelled = refl
universe_back Unlabelled = refl

abbrev pub Stored : Type 0
Stored = (Rules × Bool) × (Option ℕ × (List ℕ × List ℕ))

abbrev pub stored : Checked → Stored
stored checked = ((checked.rules, universe_bit checked.universe), (checked.start, (checked.leasts, checked.ranks)))

abbrev pub taken : Stored → Checked
taken parts = record { rules = parts.0.0; universe = universe_at parts.0.1; start = parts.1.0; leasts = parts.1.1.0; ranks = parts.1.1.1 }

pub taken_back : (checked : Checked) → taken (stored checked) ≡ checked
taken_back checked =
    ap (λ (universe : Universe). record { rules = checked.rules; universe = universe; start = checked.start; leasts = checked.leasts; ranks = checked.ranks }) (universe_back checked.universe)

abbrev pub checked_code : Coded Checked
checked_code =
    code_by Stored (coded× (coded× rules_code coded_bool) (coded× (coded_option coded_ℕ) (coded× (coded_list coded_ℕ) (coded_list coded_ℕ)))) stored taken taken_back
