-- Lemmas on lists of writes, for code that writes them part by part.
use Rattle.std.proofs.Common.{◌≡◌, ℕ, ◌+◌, ◌≤◌, zero, suc, List, [], ◌∷◌, ◌++◌, Option, length, take, refl, sym, ap, subst, arith, length-append}
use Rattle.std.proofs.Math.Seq.{take-append-add}
use Rattle.std.proofs.lemmas.List.{take-append-le}
use Rattle.std.proofs.KnownBytes.{Appends-nil, Appends-trans}
use Rattle.std.specs.Io.KnownBytes.{Appends}
use Rattle.comb_io.specs.Parts.{AppendsPart}
use Rattle.comb_io.specs.Writes.{Write, ToOut, ToErr, outpart, errpart, to_out, to_err, Wrote, WrotePart}

pub outpart-append : (ws vs : List Write) → outpart (ws ++ vs) ≡ outpart ws ++ outpart vs
outpart-append [] vs = refl
outpart-append (ToOut b ∷ ws) vs = ap (λ l. b ∷ l) (outpart-append ws vs)
outpart-append (ToErr b ∷ ws) vs = outpart-append ws vs

pub errpart-append : (ws vs : List Write) → errpart (ws ++ vs) ≡ errpart ws ++ errpart vs
errpart-append [] vs = refl
errpart-append (ToOut b ∷ ws) vs = errpart-append ws vs
errpart-append (ToErr b ∷ ws) vs = ap (λ l. b ∷ l) (errpart-append ws vs)

pub outpart-to_out : (bs : List ℕ) → outpart (to_out bs) ≡ bs
outpart-to_out [] = refl
outpart-to_out (b ∷ bs) = ap (λ l. b ∷ l) (outpart-to_out bs)

pub errpart-to_out : (bs : List ℕ) → errpart (to_out bs) ≡ []
errpart-to_out [] = refl
errpart-to_out (b ∷ bs) = errpart-to_out bs

pub outpart-to_err : (bs : List ℕ) → outpart (to_err bs) ≡ []
outpart-to_err [] = refl
outpart-to_err (b ∷ bs) = outpart-to_err bs

pub errpart-to_err : (bs : List ℕ) → errpart (to_err bs) ≡ bs
errpart-to_err [] = refl
errpart-to_err (b ∷ bs) = ap (λ l. b ∷ l) (errpart-to_err bs)

pub length-to_out : (bs : List ℕ) → length (to_out bs) ≡ length bs
length-to_out [] = refl
length-to_out (b ∷ bs) = ap suc (length-to_out bs)

pub length-to_err : (bs : List ℕ) → length (to_err bs) ≡ length bs
length-to_err [] = refl
length-to_err (b ∷ bs) = ap suc (length-to_err bs)

pub take-to_out : (n : ℕ) (bs : List ℕ) → take n (to_out bs) ≡ to_out (take n bs)
take-to_out zero bs = refl
take-to_out (suc n) [] = refl
take-to_out (suc n) (b ∷ bs) = ap (λ l. ToOut b ∷ l) (take-to_out n bs)

pub take-to_err : (n : ℕ) (bs : List ℕ) → take n (to_err bs) ≡ to_err (take n bs)
take-to_err zero bs = refl
take-to_err (suc n) [] = refl
take-to_err (suc n) (b ∷ bs) = ap (λ l. ToErr b ∷ l) (take-to_err n bs)

-- ---- both sinks, and lists of writes one after another

pub Wrote-nil : (out err : Option (List ℕ)) → Wrote out out err err []
Wrote-nil out err = record { to_output = Appends-nil out; to_errors = Appends-nil err }

pub Wrote-append : {a b c d e f : Option (List ℕ)} {ws vs : List Write} → Wrote a b d e ws → Wrote b c e f vs → Wrote a c d f (ws ++ vs)
Wrote-append {a = a} {b = b} {c = c} {d = d} {e = e} {f = f} {ws = ws} {vs = vs} so_far more = record {
  to_output = subst (Appends a c) (sym (outpart-append ws vs)) (Appends-trans a b c _ _ so_far.to_output more.to_output);
  to_errors = subst (Appends d f) (sym (errpart-append ws vs)) (Appends-trans d e f _ _ so_far.to_errors more.to_errors);
}

pub Wrote-to_out : (a b e : Option (List ℕ)) (bs : List ℕ) → Appends a b bs → Wrote a b e e (to_out bs)
Wrote-to_out a b e bs h = record {
  to_output = subst (Appends a b) (sym (outpart-to_out bs)) h;
  to_errors = subst (Appends e e) (sym (errpart-to_out bs)) (Appends-nil e);
}

pub Wrote-to_err : (a d e : Option (List ℕ)) (bs : List ℕ) → Appends d e bs → Wrote a a d e (to_err bs)
Wrote-to_err a d e bs h = record {
  to_output = subst (Appends a a) (sym (outpart-to_err bs)) (Appends-nil a);
  to_errors = subst (Appends d e) (sym (errpart-to_err bs)) h;
}

-- ---- a part from the front

-- what follows wasn't written either
pub WrotePart-append : {unwritten : ℕ} {a b d e : Option (List ℕ)} {ws : List Write} (vs : List Write) → WrotePart unwritten a b d e ws → WrotePart unwritten a b d e (ws ++ vs)
WrotePart-append {a = a} {b = b} {d = d} {e = e} {ws = ws} vs h = record {
  count = h.count;
  within = omega (arith, length-append ws vs, h.within);
  wrote = let written : h.count ≤ length ws = omega (arith, h.within) in subst (Wrote a b d e) (sym (take-append-le h.count ws vs written)) h.wrote;
}

-- all so far, and then a part of what follows
pub WrotePart-after : {unwritten : ℕ} {a b c d e f : Option (List ℕ)} {ws vs : List Write} → Wrote a b d e ws → WrotePart unwritten b c e f vs → WrotePart unwritten a c d f (ws ++ vs)
WrotePart-after {a = a} {b = b} {c = c} {d = d} {e = e} {f = f} {ws = ws} {vs = vs} so_far more = record {
  count = length ws + more.count;
  within = omega (arith, length-append ws vs, more.within);
  wrote = subst (Wrote a c d f) (sym (take-append-add ws vs more.count)) (Wrote-append so_far more.wrote);
}

pub WrotePart-to_out : {unwritten : ℕ} (a b e : Option (List ℕ)) (bs : List ℕ) → AppendsPart unwritten a b bs → WrotePart unwritten a b e e (to_out bs)
WrotePart-to_out a b e bs h = record {
  count = h.count;
  within = omega (arith, length-to_out bs, h.within);
  wrote = subst (Wrote a b e e) (sym (take-to_out h.count bs)) (Wrote-to_out a b e (take h.count bs) h.bytes);
}

pub WrotePart-to_err : {unwritten : ℕ} (a d e : Option (List ℕ)) (bs : List ℕ) → AppendsPart unwritten d e bs → WrotePart unwritten a a d e (to_err bs)
WrotePart-to_err a d e bs h = record {
  count = h.count;
  within = omega (arith, length-to_err bs, h.within);
  wrote = subst (Wrote a a d e) (sym (take-to_err h.count bs)) (Wrote-to_err a d e (take h.count bs) h.bytes);
}

-- at least fewer weren't written either
pub WrotePart-fewer : {fewer more : ℕ} {a b d e : Option (List ℕ)} {ws : List Write} → fewer ≤ more → WrotePart more a b d e ws → WrotePart fewer a b d e ws
WrotePart-fewer less h = record { count = h.count; within = omega (arith, less, h.within); wrote = h.wrote }
