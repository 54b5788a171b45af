-- Lemmas on facts of one variant of a result.
use Rattle.std.proofs.Common.{Result, Ok, Err, OnOk, OnErr}

-- a fact that holds anyway holds at a success
pub OnOk-of : {A E : Type 0} (r : Result A E) (P : Type 0) → P → OnOk r P
OnOk-of (Ok x) P p = p
OnOk-of (Err e) P p = tt

-- and at an error
pub OnErr-of : {A E : Type 0} (r : Result A E) (P : Type 0) → P → OnErr r P
OnErr-of (Ok x) P p = tt
OnErr-of (Err e) P p = p
