-- A run over a list of places: its points, one more of them, and that every run over different points of a curve has room.
use Prim.Native.Nat.{ℕ, ◌+◌, ◌<◌, ◌≤◌}
use mathlib.Core.Path.{◌≡◌, refl, sym, ◌∙◌, ap}
use mathlib.Core.Bool.{Bool, true, false, ◌&&◌}
use mathlib.Core.List.{List, map}
use native.Mathlib.Numerals.{add-one}
use native.Mathlib.Omega.{arith}
use borrow.Author.Tests.{leb-true, ne_eqb}
use lib.Dec.{ltb, leb}
use lib.ListN.{length, get_or, length-map}
use Rattle.basics.specs.Lists.{all}
use Rattle.basics.proofs.Lists.{all_get, both_left, both_right, get_or_map_in}
use Rattle.field.specs.Field.{Arithmetic}
use Rattle.field.specs.Galois.{IsField, galois, size}
use Rattle.field.proofs.Galois.{galois_field}
use Rattle.elliptic.specs.declared.Point.{Point}
use Rattle.elliptic.specs.declared.Curve.{Curve}
use Rattle.elliptic.specs.Curve.{point}
use Rattle.elliptic.specs.Pair.{State, evaluate, raised, held, cancelled, corrected, stepped, step, after}
use Rattle.elliptic.proofs.Points.{Points, All}
use Rattle.elliptic.proofs.Steps as steps
use Rattle.engine.specs.Arrays.{Sizes, Lengths, Pair, Filled, Small, pair_in, state_in}
use Rattle.engine.specs.Places.{point_of, points_of, IsPlace, Within, Runs}
use Rattle.engine.proofs.States.{pair_more, in_state, filled_as}

module _ (xs ys places : List ℕ) (i : ℕ) (h : i < length places) where
  pub point_at_lem : get_or (points_of xs ys places) i (point 0 0) ≡ point_of xs ys (get_or places i 0)
  point_at_lem = get_or_map_in (point_of xs ys) places i 0 (point 0 0) h

  -- one more place
  pub after_more : (F : Arithmetic) (symbols : List ℕ) → step F (point_of xs ys (get_or places i 0)) (get_or symbols i 0) (after F (points_of xs ys places) symbols i) ≡ after F (points_of xs ys places) symbols (i + 1)
  unfolding after
  after_more F symbols = rw (add-one, point_at_lem)

  module _ (F : Arithmetic) (symbols : List ℕ) {P : Point} (e : P ≡ point_of xs ys (get_or places i 0)) where
    -- the arrays after it, without the interpolant and with it
    pub run_pair_more : {a b a' b' : List ℕ} {n k : Sizes} → Pair a b n (after F (points_of xs ys places) symbols i) → Pair a' b' k (step F P 0 (pair_in a b n))
        → Pair a' b' k (after F (points_of xs ys places) symbols (i + 1))
    run_pair_more p q = rw (← after_more F symbols, ← e) (pair_more p F P 0 (get_or symbols i 0) q)

    pub run_more : {a b f a' b' f' : List ℕ} {n k : Lengths} → Filled a b f n (after F (points_of xs ys places) symbols i)
        → Filled a' b' f' k (step F P (get_or symbols i 0) (state_in a b f n)) → Filled a' b' f' k (after F (points_of xs ys places) symbols (i + 1))
    run_more p q = rw (← after_more F symbols, ← e) (filled_as (ap (step F P (get_or symbols i 0)) (in_state p)) q)

  -- the value of f there
  module _ (F : Arithmetic) (f : List ℕ) where
    pub value_at_lem : {P : Point} {r : ℕ} → P ≡ point_of xs ys (get_or places i 0) → r ≡ evaluate F f P → get_or (map (evaluate F f) (points_of xs ys places)) i 0 ≡ r
    value_at_lem e q = get_or_map_in (evaluate F f) (points_of xs ys places) i (point 0 0) 0 (rw (length-map places (point_of xs ys)) h) ∙ ap (evaluate F f) (point_at_lem ∙ sym e) ∙ sym q

pub values_length : (xs ys places : List ℕ) (F : Arithmetic) (f : List ℕ) → length (map (evaluate F f) (points_of xs ys places)) ≡ length places
values_length xs ys places F f = length-map (points_of xs ys places) (evaluate F f) ∙ length-map places (point_of xs ys)

-- where L is not zero, the interpolant gains a multiple of L
pub step_word : (F : Arithmetic) (P : Point) (v : ℕ) (s : State) → (evaluate F s.low P ≡ 0 → ⊥) → (step F P v s).word ≡ corrected F P v s.low s.word
unfolding step stepped
step_word F P v s z = rw (ne_eqb (evaluate F s.low P) 0 z) (go (ltb (length (cancelled F P s.low s.high)) (length (raised F P.x s.low))))
  where
    go : (t : Bool) → (held t (raised F P.x s.low) (cancelled F P s.low s.high) (corrected F P v s.low s.word)).word ≡ corrected F P v s.low s.word
    go true = refl
    go false = refl

-- the functions of up to 287 places have room
sizes_small : {F : Arithmetic} {i : ℕ} {s : State} → i ≤ 287 → steps.Sizes F i s → Small s
sizes_small h z =
    record {
      some_low = z.low_some;
      some_high = z.high_some;
      low_room = omega (arith, z.low_length);
      high_room = omega (arith, z.high_length);
      word_room = omega (arith, z.word_length);
    }

-- places that the code tested
pub within_all : {xs ys places : List ℕ} (count : ℕ) → length ys ≡ length xs → all (λ p. leb 1 p && leb p (length xs)) places ≡ true → count ≤ length places → Within xs ys places count
within_all {xs} {ys} {places} count e h k = record { enough = k; each_is_place = each_is_place }
  where
    each_is_place : (i : ℕ) → i < count → IsPlace xs ys (get_or places i 0)
    each_is_place i l =
        let p = get_or places i 0 in
        let t = all_get (λ p. leb 1 p && leb p (length xs)) places 0 i h (omega arith) in
        record { one = leb-true 1 p (both_left (leb 1 p) (leb p (length xs)) t); most = leb-true p (length xs) (both_right (leb 1 p) (leb p (length xs)) t); coordinates = e }

-- runs over different points of a curve
module _ {m : ℕ} (f : IsField m) {C : Curve} (xs ys places : List ℕ) {symbols : List ℕ} (p : Points (galois m) C (points_of xs ys places)) (s : All (λ v. v < size m) symbols) where
  pub small_after : (i : ℕ) → i ≤ 287 → i ≤ length places → Small (after (galois m) (points_of xs ys places) symbols i)
  small_after i h k = sizes_small h (steps.after_sizes (galois_field f) p s i (omega (arith, length-map places (point_of xs ys))))

  pub runs : {count : ℕ} → count ≤ 287 → Within xs ys places count → Runs m xs ys places symbols count
  runs h w = record { within = w; small = λ i k. small_after i (omega arith) (omega (arith, w.enough)) }
