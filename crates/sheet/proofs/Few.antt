-- A part of a buffer, from its front on.
use Prim.Native.Nat.{ℕ, ◌≤◌}
use mathlib.Core.Path.{◌≡◌}
use mathlib.Core.List.{List}
use native.Mathlib.Omega.{arith}
use lib.ListN.{length, take}
use lib.Seq.{length-take-le}
use Rattle.codewords.specs.Code.{Code}
use Rattle.codewords.proofs.Accepted.{accepted_done}
use Rattle.sheet.specs.Running.{Solvable}

pub record Part (size : ℕ) (l : List ℕ) : Type 0 where
  pub few : size ≤ 288
  pub within : size ≤ length l
  pub part : length (take size l) ≡ size
  pub short : length (take size l) ≤ 288

pub part : (size : ℕ) (l : List ℕ) → size ≤ 288 → length l ≡ 288 → Part size l
part size l h e =
    let p = length-take-le size l (omega (arith, h, e)) in
    record { few = h; within = omega (arith, h, e); part = p; short = omega (arith, p, h) }

-- a code that passed its test has at most 288 points, and fewer coefficients
module _ {code : Code} {J msg l : List ℕ} (s : Solvable code J msg) (e : length l ≡ 288) where
  pub function_part : Part code.k l
  function_part = let a = accepted_done code s.done in part code.k l (omega (arith, a.k_most, a.n_most)) e

  pub word_part : Part (length code.xs) l
  word_part = part (length code.xs) l (accepted_done code s.done).n_most e
