-- Over one first coordinate x the values of a function are a + y·b: a and b are found once for all points over x.
use Rattle.std.specs.Prelude.{ℕ, ◌+◌, ◌<◌, ◌≤◌, ◌≡◌, List, length, get_or, drop}
use Rattle.field.specs.Sum.{◌⊕◌}
use Rattle.field.specs.Galois.{galois, product}
use Rattle.field.specs.Tables.{logarithm}
use Rattle.elliptic.specs.Curve.{point}
use Rattle.elliptic.specs.Pair.{horner, evaluate}
use Rattle.evaluation.specs.declared.lanes.Lane.{Lane}
use Rattle.evaluation.specs.declared.lanes.Four.{Four}

-- x is one of the first d of a list
abbrev pub Among : List ℕ → ℕ → ℕ → Type 0
Among l d x = (j : ℕ) × (j < d) × (get_or l j 0 ≡ x)

-- all of xs are
pub record Lists (xs l : List ℕ) (d : ℕ) : Type 0 where
  pub few : d ≤ length xs
  pub listed : (i : ℕ) → i < length xs → Among l d (get_or xs i 0)

-- a and b have room for what is found over each byte
abbrev pub Bytes : List ℕ → List ℕ → Type 0
Bytes a b = (length a ≡ 256) × (length b ≡ 256)

module _ (m : ℕ) (f : List ℕ) where
  -- a and b have the two parts of f over x, each at index x
  abbrev pub Right : List ℕ → List ℕ → ℕ → Type 0
  Right a b x = (y : ℕ) → evaluate (galois m) f (point x y) ≡ get_or a x 0 ⊕ product m y (get_or b x 0)

  -- they do now, and still do over every other coordinate
  pub record Stored (a b a' b' : List ℕ) (x : ℕ) : Type 0 where
    pub room : Bytes a' b'
    pub right : Right a' b' x
    pub kept : (z : ℕ) → Right a b z → Right a' b' z

  pub record StoredFour (a b a' b' : List ℕ) (g : Four) : Type 0 where
    pub room : Bytes a' b'
    pub first : Right a' b' g.a.x
    pub second : Right a' b' g.b.x
    pub third : Right a' b' g.c.x
    pub fourth : Right a' b' g.d.x
    pub kept : (z : ℕ) → Right a b z → Right a' b' z

  -- a lane at x has passed the coefficients from i on
  pub record At (i x : ℕ) (l : Lane) : Type 0 where
    pub byte : x < 256
    pub is_x : l.x ≡ x
    pub is_log : l.log ≡ logarithm m x
    pub passed : ◌≡◌ {A = ℕ × ℕ} (l.r, l.s) (horner (galois m) x (drop i f))

  -- so have four, at the coordinates of the lanes o
  pub record AtFour (i : ℕ) (o g : Four) : Type 0 where
    pub first : At i o.a.x g.a
    pub second : At i o.b.x g.b
    pub third : At i o.c.x g.c
    pub fourth : At i o.d.x g.d

-- four lanes at the coordinates from j on
pub record Taken (xs : List ℕ) (j : ℕ) (g : Four) : Type 0 where
  pub first : g.a.x ≡ get_or xs j 0
  pub second : g.b.x ≡ get_or xs (j + 1) 0
  pub third : g.c.x ≡ get_or xs (j + 2) 0
  pub fourth : g.d.x ≡ get_or xs (j + 3) 0

-- the value at the point with index i, by the two parts
abbrev pub joined_at : ℕ → List ℕ → List ℕ → List ℕ → List ℕ → ℕ → ℕ
joined_at m xs ys a b i = get_or a (get_or xs i 0) 0 ⊕ product m (get_or ys i 0) (get_or b (get_or xs i 0) 0)
