-- Each factor is what its calls say.
use Prim.Native.Nat.{◌+◌}
use mathlib.Core.Path.{ap, ◌∙◌}
use lib.Bits.{bit_xor}
use lib.ListN.{get_or}
use Rattle.field.specs.Sum.{◌⊕◌}
use Rattle.field.specs.Galois.{product, inverse}
use Rattle.two_places.proofs.turn.find_factors.Goals as goal

pub returns : goal.returns
unfolding ◌⊕◌
returns c =
    let next = bit_xor (get_or c.args.u.now (c.args.i + 1) 0) in
    record {
      first = c.quotient-t.ensures;
      next = ap next c.product.ensures;
      second = c.quotient-s.ensures ∙ ap (λ r. product c.args.field.now.number r (inverse c.args.field.now.number (next c.product.result))) c.product-raised.ensures;
    }
