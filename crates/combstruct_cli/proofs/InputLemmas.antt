-- Laws of what is taken from a source.
use Rattle.std.proofs.Common.{ℕ, ◌-◌, ◌≤◌, List, ◌++◌, length, length-append, Option, arith}
use Rattle.std.specs.Io.KnownBytes.{Consumes}
use Rattle.std.proofs.KnownBytes.{Consumes-trans}
use Rattle.combstruct_cli.specs.Input.{TookWithin}

-- these bytes were taken, and then more
pub TookWithin-after : (most : ℕ) (first : List ℕ) (left mid left' : Option (List ℕ)) → length first ≤ most → Consumes left mid first
    → TookWithin (most - length first) mid left' → TookWithin most left left'
TookWithin-after most first left mid left' within taken more = record {
  taken = first ++ more.taken;
  within = omega (arith, length-append first more.taken, within, more.within);
  took = Consumes-trans left mid left' first more.taken taken more.took;
}
