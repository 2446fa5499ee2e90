-- The coordinates at the first k places, as lists of their own: the pair of these points is the pair of the places.
use Prim.Native.Nat.{ℕ, ◌-◌, ◌<◌, ◌≤◌}
use mathlib.Core.Path.{◌≡◌, refl, sym, ◌∙◌, ap, ap₂}
use mathlib.Core.Bool.{Bool}
use mathlib.Core.List.{List, []}
use native.Mathlib.Omega.{arith}
use lib.Dec.{eqb}
use lib.ListN.{length, get_or}
use Rattle.basics.specs.Lists.{table}
use Rattle.basics.proofs.Lists.{length_table, get_or_table}
use Rattle.field.specs.Field.{Arithmetic}
use Rattle.elliptic.specs.Curve.{point}
use Rattle.elliptic.specs.Pair.{evaluate, after}
use Rattle.elliptic.proofs.Steps.{after_same}
use Rattle.codewords.specs.Code.{Code, arithmetic}
use Rattle.codewords.specs.Computed.{last_zero, points_of}
use Rattle.engine.specs.Places.{point_of, coordinate_at, value_at}
use Rattle.engine.proofs.Runs.{point_at_lem}
use Rattle.values.specs.Values.{Coordinates, RunsFirst, points_in}
use Rattle.solving.specs.Given.{Placed}
use Rattle.solving.proofs.Link.{accepted, no_symbols, pts, index_in, code_coordinates, small, zero_by}

module _ {code : Code} {J : List ℕ} (p : Placed code J) (h : code.k ≤ length J) {gx gy : List ℕ}
    (ex : gx ≡ table (coordinate_at code.xs J) code.k) (ey : gy ≡ table (coordinate_at code.ys J) code.k) where
  abbrev F : Arithmetic
  F = arithmetic code

  x_size : length gx ≡ code.k
  x_size = ap length ex ∙ length_table (coordinate_at code.xs J) code.k

  y_size : length gy ≡ code.k
  y_size = ap length ey ∙ length_table (coordinate_at code.ys J) code.k

  x_at : (i : ℕ) → i < code.k → get_or gx i 0 ≡ coordinate_at code.xs J i
  x_at i l = ap (λ g. get_or g i 0) ex ∙ get_or_table (coordinate_at code.xs J) code.k i 0 l

  y_at : (i : ℕ) → i < code.k → get_or gy i 0 ≡ coordinate_at code.ys J i
  y_at i l = ap (λ g. get_or g i 0) ey ∙ get_or_table (coordinate_at code.ys J) code.k i 0 l

  -- the points, and the pair of the first of them
  point_same : (i : ℕ) → i < code.k → point (get_or gx i 0) (get_or gy i 0) ≡ point_of code.xs code.ys (get_or J i 0)
  point_same i l = ap₂ point (x_at i l) (y_at i l)

  pair_same : (i : ℕ) → i ≤ code.k → after F (points_in gx gy) [] i ≡ after F (pts p) [] i
  pair_same i l =
      after_same F (points_in gx gy) (pts p) [] [] i
      (λ j b. get_or_table (λ i. point (get_or gx i 0) (get_or gy i 0)) (length gx) j (point 0 0) (omega (arith, x_size)) ∙ point_same j (omega arith) ∙ sym (point_at_lem code.xs code.ys J j (omega arith)))
      (λ j b. refl)

  pub gathered_coordinates : Coordinates code.field gx gy
  gathered_coordinates =
      record {
        as_many = y_size ∙ sym x_size;
        below = λ i l. rw (y_at i (omega (arith, x_size))) ((code_coordinates p).below (get_or J i 0 - 1) (index_in p i (omega (arith, x_size))));
      }

  pub gathered_runs : RunsFirst code.field gx gy (length gx - 1)
  gathered_runs =
      record {
        enough = omega arith;
        small = λ i l. rw (pair_same i (omega (arith, x_size))) (small p [] (no_symbols code) i (omega (arith, x_size)) (omega (arith, x_size)));
      }

  -- L at the last of them
  pub gathered_zero : {r : Bool} → r ≡ eqb (value_at code.field gx gy (after F (points_in gx gy) [] (length gx - 1)).low (length gx - 1)) 0
      → r ≡ last_zero F code.k (points_of code J) []
  gathered_zero e =
      let c = code.k - 1 in
      let last : c < code.k = omega (arith, (accepted p).k_least) in
      zero_by p [] (no_symbols code) h
      (ap (λ n. value_at code.field gx gy (after F (points_in gx gy) [] (n - 1)).low (n - 1)) x_size
      ∙ ap₂ (λ s P. evaluate F s.low P) (pair_same c (omega arith)) (point_same c last))
      e
