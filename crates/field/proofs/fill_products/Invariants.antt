-- The loop's invariant: the first i products are in place, and the rest of the buffer is as it was.
use mathlib.Core.Path.{◌≡◌}
use Rattle.basics.proofs.Loops.{filled}
use Rattle.field.specs.Products.{product_at}
use Rattle.field.proofs.fill_products.Given as goal

abbrev pub invariant-loop-i : goal.invariant-loop-i
invariant-loop-i l = l.out ≡ filled (product_at l.field.number l.a l.b) l.initial.out l.i
