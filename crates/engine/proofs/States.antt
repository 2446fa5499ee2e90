-- What a step makes of the arrays: the pair in either order, and the state that they hold.
use Prim.Native.Nat.{ℕ, zero, suc, ◌≤◌}
use mathlib.Core.Path.{◌≡◌, refl, sym, ◌∙◌, ap}
use mathlib.Core.Bool.{Bool, true, false, cond}
use mathlib.Core.List.{List, [], ◌∷◌}
use native.Mathlib.Nat.{not-suc-le-zero, le_of_suc-le-suc}
use native.Mathlib.Omega.{arith}
use borrow.Author.Tests.{eq-eqb, ne_eqb}
use lib.Dec.{eqb, ltb}
use lib.ListN.{length, take, set}
use Rattle.basics.specs.Lists.{Holds}
use Rattle.basics.proofs.Lists.{holds_length, holds_as}
use Rattle.field.specs.Field.{Arithmetic}
use Rattle.field.specs.Galois.{galois, product, inverse}
use Rattle.elliptic.specs.declared.Point.{Point}
use Rattle.elliptic.specs.Pair.{State, evaluate, add_scaled, raised, held, start, corrected, cancelled, stepped, kept, step, after}
use Rattle.engine.specs.Arrays.{Sizes, Lengths, Pair, Filled, Room, WordRoom, Long, Small, Ordered, pair_in, state_in}

-- ---- the two cases of a step

module _ (F : Arithmetic) (P : Point) (v : ℕ) (s : State) {a : ℕ} (e : a ≡ evaluate F s.low P) where
  pub step_zero : a ≡ 0 → kept F P v s ≡ step F P v s
  unfolding step
  step_zero z = rw (eq-eqb (evaluate F s.low P) 0 (sym e ∙ z))

  pub step_other : (a ≡ 0 → ⊥) → stepped F P v s ≡ step F P v s
  unfolding step
  step_other z = rw (ne_eqb (evaluate F s.low P) 0 (λ h. z (e ∙ h)))

-- ---- L and U do not depend on the symbols

pub record SamePair (s t : State) : Type 0 where
  pub low : s.low ≡ t.low
  pub high : s.high ≡ t.high

pub state_as : {s t : State} → SamePair s t → s.word ≡ t.word → s ≡ t
state_as {s} {t} e h =
    ap (λ l. held false l s.high s.word) e.low ∙ ap (λ u. held false t.low u s.word) e.high ∙ ap (λ f. held false t.low t.high f) h

module _ (F : Arithmetic) (P : Point) where
  lists_same : (v w : ℕ) (l u f g : List ℕ) → SamePair (step F P v (held false l u f)) (step F P w (held false l u g))
  unfolding step stepped kept
  lists_same v w l u f g = go (eqb (evaluate F l P) 0) (ltb (length (cancelled F P l u)) (length (raised F P.x l)))
    where
      go : (b c : Bool)
          → SamePair
          (cond b (record { low = l; high = raised F P.x u; word = corrected F P v u f }) (held c (raised F P.x l) (cancelled F P l u) (corrected F P v l f)))
          (cond b (record { low = l; high = raised F P.x u; word = corrected F P w u g }) (held c (raised F P.x l) (cancelled F P l u) (corrected F P w l g)))
      go true c = record { low = refl; high = refl }
      go false true = record { low = refl; high = refl }
      go false false = record { low = refl; high = refl }

  pub step_same : (v w : ℕ) {s t : State} → SamePair s t → SamePair (step F P v s) (step F P w t)
  step_same v w {s} {t} e =
      let same : s ≡ held false t.low t.high s.word = state_as (record { low = e.low; high = e.high }) refl in
      rw same (lists_same v w t.low t.high s.word t.word)

pub after_pair : (F : Arithmetic) (points : List Point) (symbols symbols' : List ℕ) (i : ℕ) → SamePair (after F points symbols i) (after F points symbols' i)
unfolding after
after_pair F points symbols symbols' zero = record { low = refl; high = refl }
after_pair F points symbols symbols' (suc i) = step_same F _ _ _ (after_pair F points symbols symbols' i)

-- ---- what the arrays hold

pub pair_as : {a b : List ℕ} {n : Sizes} {s t : State} → SamePair s t → Pair a b n s → Pair a b n t
pair_as e p = record { low = holds_as p.low e.low; high = holds_as p.high e.high }

-- two functions, the shorter as L
pair_held : (t : Bool) {a b l u : List ℕ} {j k : ℕ} (w : List ℕ) (n : Sizes) → n.turned ≡ t → n.low ≡ cond t k j → n.high ≡ cond t j k
    → Holds a j l → Holds b k u → Pair a b n (held t l u w)
pair_held true w n e f g x y = record { low = rw (e, f) y; high = rw (e, g) x }
pair_held false w n e f g x y = record { low = rw (e, f) x; high = rw (e, g) y }

module _ (m : ℕ) (P : Point) (v : ℕ) (l u f : List ℕ) where
  -- L is raised and U cancelled
  pub stepped_pair : {a b : List ℕ} {j k at-l at-u t : ℕ} {n : Sizes} → at-l ≡ evaluate (galois m) l P → at-u ≡ evaluate (galois m) u P
      → t ≡ product m at-u (inverse m at-l) → Holds a j (raised (galois m) P.x l) → Holds b k (add_scaled (galois m) t l u) → Ordered j k n
      → Pair a b n (stepped (galois m) P v (held false l u f))
  unfolding stepped cancelled
  stepped_pair {t = t} {n} e h q x y o =
      let same : add_scaled (galois m) t l u ≡ cancelled (galois m) P l u = rw (q, e, h) in
      let z = holds_as y same in
      rw (holds_length x, holds_length z) (pair_held _ (corrected (galois m) P v l f) n o.turned o.low o.high x z)

  -- U is raised
  pub kept_pair : {a b : List ℕ} {n : Sizes} → n.turned ≡ false → Holds a n.low l → Holds b n.high (raised (galois m) P.x u)
      → Pair a b n (kept (galois m) P v (held false l u f))
  unfolding kept
  kept_pair {n = n} e x y = pair_held false (corrected (galois m) P v u f) n e refl refl x y

  -- the same with the interpolant
  pub stepped_filled : {a b w : List ℕ} {n : Lengths} → Pair a b n.pair (stepped (galois m) P 0 (held false l u [])) → Holds w n.word (corrected (galois m) P v l f)
      → Filled a b w n (stepped (galois m) P v (held false l u f))
  unfolding stepped
  stepped_filled {a} {b} {w} {n} p h = go (ltb (length (cancelled (galois m) P l u)) (length (raised (galois m) P.x l))) p
    where
      go : (t : Bool) → Pair a b n.pair (held t (raised (galois m) P.x l) (cancelled (galois m) P l u) (corrected (galois m) P 0 l []))
          → Filled a b w n (held t (raised (galois m) P.x l) (cancelled (galois m) P l u) (corrected (galois m) P v l f))
      go true q = record { pair = record { low = q.low; high = q.high }; word = h }
      go false q = record { pair = record { low = q.low; high = q.high }; word = h }

  pub kept_filled : {a b w : List ℕ} {n : Lengths} → n.pair.turned ≡ false → Holds a n.pair.low l → Holds b n.pair.high (raised (galois m) P.x u)
      → Holds w n.word (corrected (galois m) P v u f) → Filled a b w n (kept (galois m) P v (held false l u f))
  unfolding kept
  kept_filled e x y z = record { pair = kept_pair e x y; word = z }

module _ {a b : List ℕ} {n : Sizes} {s : State} (p : Pair a b n s) where
  pub in_pair : SamePair (pair_in a b n) s
  in_pair = record { low = p.low.first; high = p.high.first }

  -- the value of L where it stands
  pub low_value : (F : Arithmetic) (P : Point) → evaluate F (take n.low (cond n.turned b a)) P ≡ evaluate F s.low P
  low_value F P = ap (λ l. evaluate F l P) p.low.first

  pub room : Small s → Long a b → Room a b n
  room small long =
      record {
        some_low = omega (arith, holds_length p.low, small.some_low);
        some_high = omega (arith, holds_length p.high, small.some_high);
        low_room = omega (arith, holds_length p.low, small.low_room);
        high_room = omega (arith, holds_length p.high, small.high_room);
        long_first = long.0;
        long_second = long.1;
      }

  -- one more place
  pub pair_more : (F : Arithmetic) (P : Point) (w v : ℕ) {a' b' : List ℕ} {k : Sizes} → Pair a' b' k (step F P w (pair_in a b n)) → Pair a' b' k (step F P v s)
  pair_more F P w v q = pair_as (step_same F P w v in_pair) q

module _ {a b f : List ℕ} {n : Lengths} {s : State} (p : Filled a b f n s) where
  pub in_state : state_in a b f n ≡ s
  in_state = state_as (record { low = p.pair.low.first; high = p.pair.high.first }) p.word.first

  pub word_room : Small s → 292 ≤ length f → WordRoom f n
  word_room small long = record { word_room = omega (arith, holds_length p.word, small.word_room); long_word = long }

pub filled_as : {a b f : List ℕ} {n : Lengths} {s t : State} → s ≡ t → Filled a b f n s → Filled a b f n t
filled_as {a} {b} {f} {n} e p = rw e at p

-- the stores that begin
pub begun : (l u : List ℕ) → 1 ≤ length l → 3 ≤ length u → (take 1 (set l 0 1) ≡ start.low) × (take 3 (set (set (set u 0 0) 1 0) 2 1) ≡ start.high)
begun [] u h k = absurd (not-suc-le-zero h)
begun (a ∷ l) [] h k = absurd (not-suc-le-zero k)
begun (a ∷ l) (b ∷ []) h k = absurd (not-suc-le-zero (le_of_suc-le-suc k))
begun (a ∷ l) (b ∷ c ∷ []) h k = absurd (not-suc-le-zero (le_of_suc-le-suc (le_of_suc-le-suc k)))
begun (a ∷ l) (b ∷ c ∷ d ∷ u) h k = (refl, refl)

pub begins : {l u : List ℕ} {n : Sizes} → n.low ≡ 1 → n.high ≡ 3 → n.turned ≡ false → 1 ≤ length l → 3 ≤ length u → take 1 l ≡ start.low → take 3 u ≡ start.high → Pair l u n start
begins e f g h k p q = record { low = rw (e, g) (record { within = h; first = p }); high = rw (f, g) (record { within = k; first = q }) }
