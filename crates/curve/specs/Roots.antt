-- How Points finds the Y over an X: by a z with z² + z = c, from a table, and then the lesser Y first.
use Rattle.std.specs.Prelude.{ℕ, ◌<◌, ◌≡◌, cond, List, [], ◌∷◌, ltb, length, get_or}
use Rattle.basics.specs.Lists.{filter, table}
use Rattle.field.specs.Sum.{◌⊕◌}
use Rattle.field.specs.Galois.{product, size, galois}
use Rattle.elliptic.specs.declared.Curve.{Curve}
use Rattle.elliptic.specs.declared.Point.{Point}
use Rattle.elliptic.specs.Curve.{point, on_curve}

-- z² + z
abbrev pub square_plus : ℕ → ℕ → ℕ
square_plus m z = product m z (z ⊕ 1)

-- r has a place for each byte. An entry other than 0 is below n and goes to its place by f, and where a number below n other than 0 goes to, there is such an entry
pub record Inverts (f : ℕ → ℕ) (n : ℕ) (r : List ℕ) : Type 0 where
  pub bytes : length r ≡ 256
  pub back : (c : ℕ) → (get_or r c 0 ≡ 0 → ⊥) → (get_or r c 0 < n) × (f (get_or r c 0) ≡ c)
  pub met : (z : ℕ) → z < n → (z ≡ 0 → ⊥) → get_or r (f z) 0 ≡ 0 → ⊥

unfoldable pub lesser : ℕ → ℕ → ℕ
lesser a b = cond (ltb a b) a b

abbrev pub points_over : ℕ → Curve → ℕ → List Point
points_over m C x = filter (on_curve (galois m) C) (table (point x) (size m))

-- unless t = g1·x + g3 is 0: y is 0 and there is no point over x, or there are two, with y and y + t
pub record Found (m : ℕ) (C : Curve) (x y : ℕ) : Type 0 where
  pub no_point : {t : ℕ} → t ≡ product m C.g1 x ⊕ C.g3 → (t ≡ 0 → ⊥) → y ≡ 0 → points_over m C x ≡ []
  pub two_points : {t : ℕ} → t ≡ product m C.g1 x ⊕ C.g3 → (t ≡ 0 → ⊥) → (y ≡ 0 → ⊥) → points_over m C x ≡ point x (lesser y (y ⊕ t)) ∷ point x (lesser y (y ⊕ t) ⊕ t) ∷ []

-- so for each x below n
pub record AllFound (m : ℕ) (C : Curve) (n : ℕ) (ys : List ℕ) : Type 0 where
  pub bytes : length ys ≡ 256
  pub at : (x : ℕ) → x < n → Found m C x (get_or ys x 0)
