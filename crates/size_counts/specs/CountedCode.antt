-- What contracts see of the numbers of a class, as the pair that stores it.
use Rattle.std.specs.Prelude.{ℕ, refl}
use Rattle.std.specs.Coded.{Coded, code_by, coded×, coded_ℕ}
use Rattle.well_founded.specs.Checked.{Checked}
use Rattle.well_founded.specs.CheckedCode.{checked_code}
use Rattle.size_counts.specs.CountedView.{Counts}

abbrev pub counts_code : Coded Counts
counts_code = code_by (Checked × ℕ) (coded× checked_code coded_ℕ) (λ counts. (counts.checked, counts.size)) (λ parts. record { checked = parts.0; size = parts.1 }) (λ counts. refl)
