use Rattle.std.proofs.Common.{ap, Some}
use Rattle.comb_io.proofs.sure.SureShelfSource.TheImpl.Goals as goal

pub read-tells : goal.read-tells
read-tells g c = record {
  bound = c.ensures.bound;
  bytes = c.ensures.bytes;
  cause = c.ensures.cause;
  files = ap (λ bytes. Some (λ _. Some bytes)) c.ensures.files;
}
