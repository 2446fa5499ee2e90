-- The points of a code by their coordinates, as the operations read them from the two lists.
use Prim.Native.Nat.{ℕ, zero, suc, ◌-◌}
use mathlib.Core.Path.{◌≡◌, refl, ◌∙◌, ap}
use mathlib.Core.List.{List, [], ◌∷◌, map}
use native.Mathlib.Omega.{arith}
use lib.ListN.{length, get_or, length-map}
use Rattle.basics.specs.Lists.{table}
use Rattle.basics.proofs.Lists.{is_table, get_or_map_in}
use Rattle.elliptic.specs.Curve.{point}
use Rattle.elliptic.specs.Pair.{evaluate}
use Rattle.codewords.specs.Code.{Code, arithmetic, n, points, points_at}
use Rattle.codewords.specs.Codewords.{place, point_at}
use Rattle.codewords.proofs.Places.{length_points_at}

pub points_get : (xs ys : List ℕ) → length xs ≡ length ys → (i : ℕ) → get_or (points_at xs ys) i (point 0 0) ≡ point (get_or xs i 0) (get_or ys i 0)
unfolding points_at
points_get [] [] e i = refl
points_get [] (y ∷ ys) e i = absurd (omega arith)
points_get (x ∷ xs) [] e i = absurd (omega arith)
points_get (x ∷ xs) (y ∷ ys) e zero = refl
points_get (x ∷ xs) (y ∷ ys) e (suc i) = points_get xs ys (omega arith) i

module _ (code : Code) (e : length code.xs ≡ length code.ys) where
  -- the point at a place, and the i-th chosen point
  pub point_at_lem : (p : ℕ) → point_at code (place p) ≡ point (get_or code.xs (p - 1) 0) (get_or code.ys (p - 1) 0)
  unfolding point_at
  point_at_lem p = points_get code.xs code.ys e (p - 1)

  -- all values of a function, as a loop over the coordinates fills them in
  pub values_table : (f : List ℕ) → map (evaluate (arithmetic code) f) (points code)
      ≡ table (λ i. evaluate (arithmetic code) f (point (get_or code.xs i 0) (get_or code.ys i 0))) (n code)
  values_table f =
      let size = length_points_at code.xs code.ys e in
      let l = map (evaluate (arithmetic code) f) (points code) in
      let long : length l ≡ n code = length-map (points code) (evaluate (arithmetic code) f) ∙ size in
      is_table (λ i. evaluate (arithmetic code) f (point (get_or code.xs i 0) (get_or code.ys i 0))) l 0
      (λ i h. get_or_map_in (evaluate (arithmetic code) f) (points code) i (point 0 0) 0 (omega (arith, long, size)) ∙ ap (evaluate (arithmetic code) f) (points_get code.xs code.ys e i))
      ∙ ap (table (λ i. evaluate (arithmetic code) f (point (get_or code.xs i 0) (get_or code.ys i 0)))) long
