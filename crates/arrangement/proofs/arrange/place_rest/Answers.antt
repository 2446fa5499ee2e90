use native.Mathlib.Omega.{arith}
use Rattle.arrangement.proofs.Arranged.{marks_long, point_left, arranged_turn, arranged_all}
use Rattle.arrangement.proofs.arrange.place_rest.Goals as goal

pub bounds-from-t : goal.bounds-from-t
bounds-from-t c = point_left c.requires.arrangeable c.loop-s.invariant c.loop-s-test.true

pub bounds-free-t : goal.bounds-free-t
bounds-free-t c =
    omega (arith, point_left c.requires.arrangeable c.loop-s.invariant c.loop-s-test.true, marks_long c.requires.arrangeable)

pub loop-s-smaller : goal.loop-s-smaller
loop-s-smaller c = omega (arith, point_left c.requires.arrangeable c.loop-s.invariant c.loop-s-test.true)

pub loop-s-preserved : goal.loop-s-preserved
loop-s-preserved c = arranged_turn c.requires.arrangeable c.loop-s.invariant c.loop-s-test.true c.from-s.ensures

pub returns : goal.returns
returns c = arranged_all c.requires.arrangeable c.loop-s.invariant c.loop-s-test.false
