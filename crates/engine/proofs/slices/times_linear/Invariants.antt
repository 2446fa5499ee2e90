-- The loop's invariant: what is done, and what the rest is to become, is the product.
use mathlib.Core.Path.{◌≡◌}
use Rattle.field.specs.Galois.{galois}
use Rattle.elliptic.specs.Pair.{times_linear}
use Rattle.engine.proofs.Laws.{product_from}
use Rattle.engine.proofs.slices.times_linear.Given as goal

abbrev pub invariant-loop-i : goal.invariant-loop-i
invariant-loop-i l = product_from l.field.number l.alpha l.a l.b l.i l.f ≡ times_linear (galois l.field.number) l.alpha l.fn.f
