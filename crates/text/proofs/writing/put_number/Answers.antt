-- One, two or three digits.
use Prim.Native.Nat.{◌+◌, ◌/◌, ◌%◌}
use mathlib.Core.Path.{refl}
use mathlib.Core.List.{[], ◌∷◌}
use native.Mathlib.Omega.{arith}
use Rattle.text.proofs.Appending.{leads_start, leads_on, leads_last}
use Rattle.text.proofs.Digits.{one_digit, two_digits, three_digits}
use Rattle.text.proofs.writing.put_number.Goals as goal

pub put-requires : goal.put-requires
put-requires c = omega (arith, rw (one_digit c.args.n c.if-n-lt10.true) at c.requires)

pub returns-then-n-lt10 : goal.returns-then-n-lt10
returns-then-n-lt10 c =
    rw (one_digit c.args.n c.if-n-lt10.true) c.put.ensures

pub put_two-requires : goal.put_two-requires
put_two-requires c = (omega arith, omega (arith, rw (two_digits c.args.n (omega arith) (omega arith)) at c.requires))

pub returns-then-n-lt100 : goal.returns-then-n-lt100
returns-then-n-lt100 c =
    rw (two_digits c.args.n (omega arith) (omega arith)) c.put_two.ensures

pub put-next-requires : goal.put-next-requires
put-next-requires c = omega (arith, rw (three_digits c.args.n (omega arith) (omega arith)) at c.requires)

pub put_two-requires-2 : goal.put_two-requires-2
put_two-requires-2 c = let r = rw (three_digits c.args.n (omega arith) (omega arith)) at c.requires in
    (omega arith, omega (arith, r, c.put-next.ensures.count, c.put-next.ensures.size))

pub returns : goal.returns
returns c =
    let a = (48 + c.args.n / 100) ∷ [] in
    let b = (48 + c.args.n % 100 / 10) ∷ (48 + c.args.n % 100 % 10) ∷ [] in
    let e = three_digits c.args.n (omega arith) (omega arith) in
    rw e (leads_last b [] (leads_on a b (leads_start (rw e at c.requires)) c.put-next.ensures) refl c.put_two-2.ensures)
