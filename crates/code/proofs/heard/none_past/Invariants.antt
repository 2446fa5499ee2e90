-- The loop's invariant: no place past n is heard up to bit `from` of word w.
use Prim.Native.Nat.{◌+◌, ◌*◌, ◌-◌, ◌≤◌, ◌<◌}
use mathlib.Core.Path.{◌≡◌}
use mathlib.Core.Bool.{true}
use Rattle.code.specs.Heard.{heard_at}
use Rattle.code.proofs.Words.{silent}
use Rattle.code.proofs.heard.none_past.Given as goal

abbrev pub invariant-loop-w : goal.invariant-loop-w
invariant-loop-w l = (silent (heard_at l.mask) l.n (64 * l.w + l.from - l.n) ≡ true) × (l.n ≤ 64 * l.w + l.from) × (64 * l.w + l.from ≤ 320) × (l.from < 64)
