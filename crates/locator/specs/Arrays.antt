-- A row in an array: in front the first coefficients of E, behind them its defects, of which those at the places to come count. N is nowhere: what a place
-- makes of the defects needs them alone. E grows by two coefficients a place at most while the defects dwindle by one, so that both have room.
use Rattle.std.specs.Prelude.{ℕ, suc, ◌+◌, ◌-◌, ◌%◌, ◌<◌, ◌≤◌, ◌≡◌, cond, not, ◌&&◌, List, [], ◌∷◌, ◌++◌, eqb, ltb, length, get_or, take, replicate}
use Rattle.basics.specs.Lists.{table}
use Rattle.field.specs.Sum.{◌⊕◌}
use Rattle.field.specs.Galois.{galois, product, inverse, size}
use Rattle.elliptic.specs.declared.Point.{Point}
use Rattle.elliptic.specs.Curve.{point}
use Rattle.elliptic.specs.Pair.{evaluate, add_scaled, times_linear}
use Rattle.codewords.specs.Code.{points_at}
use Rattle.decoding.specs.Rows.{Row, top, defect, lifted, mixed, rows_after, found}
pub use Rattle.locator.specs.declared.choose.Head.{Head}
pub use Rattle.locator.specs.declared.choose.Heads.{Heads}
pub use Rattle.locator.specs.declared.choose.Pivot.{Pivot}
pub use Rattle.locator.specs.declared.turn.Layout.{Layout}
pub use Rattle.locator.specs.declared.turn.Multiples.{Multiples}

abbrev pub longer : ℕ → ℕ → ℕ
longer a b = cond (ltb a b) b a

abbrev pub shorter : ℕ → ℕ → ℕ
shorter a b = cond (ltb a b) a b

-- ---- E

-- the coefficients of E, of which there are `room`, where the array has the first s
abbrev pub den_in : ℕ → ℕ → List ℕ → List ℕ
den_in room s row = take s row ++ replicate (room - s) 0

-- what stands from index d on is as it was
pub record Behind (d : ℕ) (old new : List ℕ) : Type 0 where
  pub size : length new ≡ length old
  pub kept : (j : ℕ) → d ≤ j → get_or new j 0 ≡ get_or old j 0

-- E has r coefficients in place of s, and is the same
pub record Widened (s r : ℕ) (old new : List ℕ) : Type 0 where
  pub behind : Behind r old new
  pub same : (room : ℕ) → s ≤ room → r ≤ room → den_in room r new ≡ den_in room s old

-- E gains a multiple of that of p
pub record MixesDen (m by sp : ℕ) (p : List ℕ) (s r : ℕ) (old new : List ℕ) : Type 0 where
  pub size_is : r ≡ longer s sp
  pub behind : Behind r old new
  pub mixed : (room : ℕ) → s ≤ room → sp ≤ room → den_in room r new ≡ add_scaled (galois m) by (den_in room sp p) (den_in room s old)

-- E becomes (X + α)·E
pub record LiftsDen (m α room s r : ℕ) (old new : List ℕ) : Type 0 where
  pub most : r ≤ room
  pub slow : r ≤ s + 2
  pub behind : Behind r old new
  pub lifted : den_in room r new ≡ times_linear (galois m) α (den_in room s old)

-- ---- rows

-- where the defects begin
abbrev pub head : ℕ
head = 74

-- the defect of a row at the place with index j
abbrev pub defect_at : ℕ → List ℕ → List ℕ → List ℕ → Row → ℕ → ℕ
defect_at m xs ys us w j = defect (galois m) (point (get_or xs j 0) (get_or ys j 0)) (get_or us j 0) w

-- what the array says of the row
pub record Live (m t : ℕ) (xs ys us : List ℕ) (i s : ℕ) (row : List ℕ) (w : Row) : Type 0 where
  pub den_is : w.den ≡ den_in (suc t) s row
  pub defects : (j : ℕ) → i ≤ j → j < length xs → get_or row (head + j) 0 ≡ defect_at m xs ys us w j

-- an array holds a row after i places. Where there is no room for its key it is never needed again
pub record Holds (m k t : ℕ) (xs ys us : List ℕ) (i : ℕ) (h : Head) (row : List ℕ) (w : Row) : Type 0 where
  pub size : length row ≡ head + length xs
  pub key_is : w.key ≡ h.key
  pub most : h.size ≤ suc t
  pub slow : h.size ≤ i + i + 3
  pub live : w.key ≤ top k t → Live m t xs ys us i h.size row w

-- no two of the keys are alike: X takes a key four further
pub record Classes (k : ℕ) (hs : Heads) : Type 0 where
  pub a_class : hs.a.key % 4 ≡ 0
  pub b_class : hs.b.key % 4 ≡ 2
  pub c_class : hs.c.key % 4 ≡ (k + k + 1) % 4
  pub d_class : hs.d.key % 4 ≡ (k + k + 3) % 4
  pub small : (hs.a.key ≤ 2000) × (hs.b.key ≤ 2000) × (hs.c.key ≤ 2000) × (hs.d.key ≤ 2000)

-- four arrays hold four rows
pub record HoldFour (m k t : ℕ) (xs ys us : List ℕ) (i : ℕ) (hs : Heads) (a b c d : List ℕ) (rows : List Row) : Type 0 where
  pub first : Row
  pub second : Row
  pub third : Row
  pub fourth : Row
  pub rows_are : rows ≡ first ∷ second ∷ third ∷ fourth ∷ []
  pub in_a : Holds m k t xs ys us i hs.a a first
  pub in_b : Holds m k t xs ys us i hs.b b second
  pub in_c : Holds m k t xs ys us i hs.c c third
  pub in_d : Holds m k t xs ys us i hs.d d fourth
  pub classes : Classes k hs

-- nothing is lost of (X + α) times a row that there is room for
abbrev pub Lifts : ℕ → ℕ → ℕ → Row → Type 0
Lifts m k t w = w.key + 4 ≤ top k t → (α : ℕ) (P : Point) (v : ℕ) → defect (galois m) P v (lifted (galois m) α w) ≡ (galois m).◌·◌ (P.x ⊕ α) (defect (galois m) P v w)

-- what is so of the elements from index d on, the others as they were
pub record From (d : ℕ) (rule : ℕ → ℕ) (old new : List ℕ) : Type 0 where
  pub size : length new ≡ length old
  pub before : (j : ℕ) → j < d → get_or new j 0 ≡ get_or old j 0
  pub at : (j : ℕ) → d ≤ j → j < length old → get_or new j 0 ≡ rule j

-- a defect of (X + α) times the row
abbrev pub lifted_at : ℕ → List ℕ → ℕ → List ℕ → ℕ → ℕ
lifted_at m xs α p j = product m (get_or xs (j - head) 0 ⊕ α) (get_or p j 0)

-- the multiples of p that the others gain, by the defects at index o
pub record Cancels (m o : ℕ) (p a b c : List ℕ) (ts : Multiples) : Type 0 where
  pub a_is : ts.a ≡ product m (get_or a o 0) (inverse m (get_or p o 0))
  pub b_is : ts.b ≡ product m (get_or b o 0) (inverse m (get_or p o 0))
  pub c_is : ts.c ≡ product m (get_or c o 0) (inverse m (get_or p o 0))

-- the arrays have room for E: p comes first
pub record SizesFit (room : ℕ) (hs : Heads) (p a b c : List ℕ) : Type 0 where
  pub some : 0 < room
  pub small : room ≤ 288
  pub p_most : hs.a.size ≤ room
  pub key_small : hs.a.key ≤ 2000
  pub p_room : hs.a.size + 2 ≤ length p
  pub a_room : (hs.a.size ≤ length a) × (hs.b.size ≤ length a)
  pub b_room : (hs.a.size ≤ length b) × (hs.c.size ≤ length b)
  pub c_room : (hs.a.size ≤ length c) × (hs.d.size ≤ length c)

-- what becomes of E of each row
pub record DensTurn (m α room : ℕ) (ts : Multiples) (hs : Heads) (p a b c : List ℕ) (rs : Heads) (p' a' b' c' : List ℕ) : Type 0 where
  pub keys : (rs.a.key ≡ hs.a.key + 4) × (rs.b.key ≡ hs.b.key) × (rs.c.key ≡ hs.c.key) × (rs.d.key ≡ hs.d.key)
  pub p_lifts : LiftsDen m α room hs.a.size rs.a.size p p'
  pub a_mixes : MixesDen m ts.a hs.a.size p hs.b.size rs.b.size a a'
  pub b_mixes : MixesDen m ts.b hs.a.size p hs.c.size rs.c.size b b'
  pub c_mixes : MixesDen m ts.c hs.a.size p hs.d.size rs.d.size c c'

-- the arrays' lengths, and that E and the defects to come stay apart
pub record TurnRoom (shape : Layout) (i : ℕ) (xs : List ℕ) (hs : Heads) (p a b c : List ℕ) : Type 0 where
  pub inside : i < length xs
  pub most : length xs ≤ 288
  pub few : shape.t ≤ 142
  pub key_small : hs.a.key ≤ 2000
  pub lengths : (length p ≡ head + length xs) × (length a ≡ head + length xs) × (length b ≡ head + length xs) × (length c ≡ head + length xs)
  pub sizes : (hs.a.size ≤ suc shape.t) × (hs.b.size ≤ suc shape.t) × (hs.c.size ≤ suc shape.t) × (hs.d.size ≤ suc shape.t)
  pub slow : (hs.a.size ≤ i + i + 3) × (hs.b.size ≤ i + i + 3) × (hs.c.size ≤ i + i + 3) × (hs.d.size ≤ i + i + 3)

-- a row that gains the multiple of w that makes it meet the symbol
abbrev pub Gains : ℕ → Layout → List ℕ → List ℕ → List ℕ → ℕ → Row → Head → List ℕ → Head → List ℕ → Type 0
Gains m shape xs ys us i w h row h' row' = (v : Row) → Holds m shape.k shape.t xs ys us i h row v
    → Holds m shape.k shape.t xs ys us (suc i) h' row' (mixed (galois m) ((galois m).◌·◌ (defect_at m xs ys us v i) ((galois m).inv (defect_at m xs ys us w i))) w v)

-- one place more for a pivot p and the others: whatever rows they hold, they hold the next ones
pub record Turns (m : ℕ) (shape : Layout) (xs : List ℕ) (i : ℕ) (hs : Heads) (p a b c : List ℕ) (rs : Heads) (p' a' b' c' : List ℕ) : Type 0 where
  pub keys : (rs.a.key ≡ hs.a.key + 4) × (rs.b.key ≡ hs.b.key) × (rs.c.key ≡ hs.c.key) × (rs.d.key ≡ hs.d.key)
  pub pivot : (ys us : List ℕ) (w : Row) → Holds m shape.k shape.t xs ys us i hs.a p w → w.key ≤ top shape.k shape.t → Lifts m shape.k shape.t w
      → Holds m shape.k shape.t xs ys us (suc i) rs.a p' (lifted (galois m) (get_or xs i 0) w)
  pub others : (ys us : List ℕ) (w : Row) → Holds m shape.k shape.t xs ys us i hs.a p w → w.key ≤ top shape.k shape.t
      → Gains m shape xs ys us i w hs.b a rs.b a' × Gains m shape xs ys us i w hs.c b rs.c b' × Gains m shape xs ys us i w hs.d c rs.d c'

-- the arrays hold the rows after i places
abbrev pub After : ℕ → Layout → List ℕ → List ℕ → List ℕ → ℕ → Heads → List ℕ → List ℕ → List ℕ → List ℕ → Type 0
After m shape xs ys us i hs a b c d = HoldFour m shape.k shape.t xs ys us i hs a b c d (rows_after shape.k shape.t (galois m) (points_at xs ys) us i)

-- the layout of a code with these points
pub record Laid (shape : Layout) (xs ys us : List ℕ) : Type 0 where
  pub some : 1 ≤ shape.k
  pub few : shape.t ≤ 142
  pub top_is : shape.top ≡ top shape.k shape.t
  pub top_small : shape.top ≤ 1000
  pub most : length xs ≤ 288
  pub as_many : length ys ≡ length xs
  pub symbols : length us ≡ length xs

-- arrays for n points
pub record FourLong (n : ℕ) (a b c d : List ℕ) : Type 0 where
  pub a_long : length a ≡ head + n
  pub b_long : length b ≡ head + n
  pub c_long : length c ≡ head + n
  pub d_long : length d ≡ head + n

-- a list of field elements
abbrev pub Below : ℕ → List ℕ → Type 0
Below m l = (i : ℕ) → i < length l → get_or l i 0 < size m

-- the values of a function at the points
abbrev pub values_in : ℕ → List ℕ → List ℕ → List ℕ → List ℕ
values_in m xs ys f = table (λ i. evaluate (galois m) f (point (get_or xs i 0) (get_or ys i 0))) (length xs)

-- E of the lightest row after all places
abbrev pub locator_of : ℕ → Layout → List ℕ → List ℕ → List ℕ → List ℕ
locator_of m shape xs ys us = (found shape.k shape.t (galois m) (points_at xs ys) us).den

-- ---- the pivot

-- the lighter of a pivot and a row that is not met by d, if that is not 0
abbrev pub lighter_of : Pivot → ℕ → ℕ → ℕ → Pivot
lighter_of b j κ d = cond (not (eqb d 0) && ltb κ b.key) (record { at = j; key = κ; defect = d }) b

-- the lightest of four keys whose number is not 0, if it is at most the limit
abbrev pub lightest_of : ℕ → Heads → ℕ → ℕ → ℕ → ℕ → Pivot
lightest_of limit hs p q r s =
    lighter_of (lighter_of (lighter_of (lighter_of (record { at = 4; key = limit + 1; defect = 0 }) 3 hs.d.key s) 2 hs.c.key r) 1 hs.b.key q) 0 hs.a.key p

-- the row with an index from 1 to 3 and the first exchanged
abbrev pub exchanged_at : ℕ → Heads → Heads
exchanged_at at hs =
    cond (eqb at 1) (record { a = hs.b; b = hs.a; c = hs.c; d = hs.d })
    (cond (eqb at 2) (record { a = hs.c; b = hs.b; c = hs.a; d = hs.d }) (record { a = hs.d; b = hs.b; c = hs.c; d = hs.a }))
