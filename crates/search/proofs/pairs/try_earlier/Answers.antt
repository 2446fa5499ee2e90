use Prim.Native.Nat.{◌-◌}
use native.Mathlib.Omega.{arith}
use Rattle.field.proofs.Galois.{size_le}
use Rattle.code.specs.Shown.{shown}
use Rattle.codewords.specs.Code.{q}
use Rattle.search.proofs.Loops.{going_down, going_over, runs_over}
use Rattle.search.proofs.Pairing.{less_pair, square_few}
use Rattle.search.proofs.pairs.try_earlier.Goals.{then-rest-gt0, else-rest-gt0}
use Rattle.search.proofs.pairs.try_earlier.Goals as goal

pub overflow_mul-some : goal.overflow_mul-some
overflow_mul-some c =
    record { fits = omega (arith, square_few c.size-some.result (omega (arith, size_le c.args.code.now.field.now.tables.field))) }

pub loop-i-preserved : goal.loop-i-preserved
loop-i-preserved c =
    let code = shown c.args.code.now in
    going_down c.loop-i.i c.loop-i-test.true (less_pair c.loop-i.rest (q code) code.k c.args.late.0 c.size-some.ensures (c.loop-i.i - 1) c.saturating_sub-rest.ensures)
    (elim c.if-rest-gt0.branch [
      | then-rest-gt0 w ↦ rw w.best-is w.try_pair-best.ensures
      | else-rest-gt0 w ↦ rw w.best-is (runs_over c.loop-i.rest _ w.if-rest-gt0.false c.loop-i.invariant.is_try)
    ]) c.loop-i.invariant

pub returns : goal.returns
returns c = going_over c.loop-i.i c.loop-i-test.false c.loop-i.invariant
