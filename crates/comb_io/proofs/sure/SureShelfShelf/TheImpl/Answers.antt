use Rattle.std.proofs.Common.{ap, refl, Some}
use Rattle.comb_io.proofs.Results.{OnOk-of}
use Rattle.comb_io.proofs.sure.SureShelfShelf.TheImpl.Goals as goal

pub fetch-tells : goal.fetch-tells
fetch-tells g c = record {
  fetched = OnOk-of c.result _ (refl, ap Some c.ensures.fetched);
  failed = rw c.ensures.sure tt;
  cause = c.ensures.cause;
  files = ap (λ bytes. Some (λ _. Some bytes)) c.ensures.files;
}
