-- What the callees make of each array.
use mathlib.Core.Path.{refl}
use Rattle.locator.proofs.turn.turn_dens.Goals as goal

pub returns : goal.returns
returns c = record {
  keys = (refl, refl, refl, refl);
  p_lifts = c.lift_den-s.ensures;
  a_mixes = c.mix_den-sa.ensures;
  b_mixes = c.mix_den-sb.ensures;
  c_mixes = c.mix_den-sc.ensures;
}
