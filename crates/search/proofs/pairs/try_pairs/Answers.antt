use Prim.Native.Nat.{◌-◌, ◌≤◌}
use native.Mathlib.Omega.{arith}
use Rattle.field.proofs.Galois.{size_le}
use Rattle.code.specs.Shown.{shown}
use Rattle.codewords.specs.Code.{q}
use Rattle.search.proofs.Loops.{going_down, going_over, runs_over}
use Rattle.search.proofs.Pairing.{pairs_start, less_earlier, square_few, product_few}
use Rattle.search.proofs.Settings.{accepted}
use Rattle.search.proofs.pairs.try_pairs.Goals.{then-rest-gt0, else-rest-gt0}
use Rattle.search.proofs.pairs.try_pairs.Goals as goal

pub loop-i-init : goal.loop-i-init
loop-i-init c = let code = shown c.args.code.now in pairs_start (q code) code.k c.requires.prepared.1

pub overflow_mul-some : goal.overflow_mul-some
overflow_mul-some c =
    record { fits = omega (arith, square_few c.size-some.result (omega (arith, size_le c.args.code.now.field.now.tables.field))) }

pub overflow_mul-i : goal.overflow_mul-i
overflow_mul-i c =
    let code = accepted c.requires.prepared.0.given in
    let few : c.size-some.result ≤ 256 = omega (arith, size_le c.args.code.now.field.now.tables.field) in
    record { fits = omega (arith, product_few (c.loop-i.i - 1) c.size-some.result (omega (arith, code.k_most, code.n_most)) few) }

pub loop-i-preserved : goal.loop-i-preserved
loop-i-preserved c =
    let code = shown c.args.code.now in
    going_down c.loop-i.i c.loop-i-test.true (less_earlier c.loop-i.rest (q code) code.k (c.loop-i.i - 1) c.size-some.ensures c.saturating_sub-rest.ensures)
    (elim c.if-rest-gt0.branch [
      | then-rest-gt0 w ↦ rw w.best-is w.try_late-best.ensures
      | else-rest-gt0 w ↦ rw w.best-is (runs_over c.loop-i.rest _ w.if-rest-gt0.false c.loop-i.invariant.is_try)
    ]) c.loop-i.invariant

pub returns : goal.returns
returns c = going_over c.loop-i.i c.loop-i-test.false c.loop-i.invariant
