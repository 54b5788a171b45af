-- Places behind bytes, taken part by part.
use Rattle.std.proofs.Common.{◌≡◌, ℕ, ◌+◌, List, ◌++◌, take, drop, ap, ◌∙◌}
use Rattle.std.proofs.Math.Seq.{take-add}
use Rattle.std.proofs.lemmas.List.Sums.{fold-append}
use Rattle.spec_reader.specs.declared.place.Place.{Place}
use Rattle.spec_reader.specs.Places.{place_after, place_behind}

-- going on behind some bytes and others is going on behind the others from the place behind the first
pub place_behind-append : (start : Place) (bytes others : List ℕ) → place_behind start (bytes ++ others) ≡ place_behind (place_behind start bytes) others
place_behind-append start bytes others = fold-append place_after start bytes others

-- the place so many bytes further on in a script
pub place_behind-further : (start : Place) (script : List ℕ) (at more : ℕ)
    → place_behind start (take (at + more) script) ≡ place_behind (place_behind start (take at script)) (take more (drop at script))
place_behind-further start script at more =
    ap (place_behind start) (take-add at more script) ∙ place_behind-append start (take at script) (take more (drop at script))
