-- A run's state holds what the step and the rolling mean need of it: one hour further it is the longer run's state, and its codes have the run's last day.
use Prim.Native.Nat.{ℕ, zero, suc, ◌+◌, ◌^◌, ◌≤◌, ◌<◌}
use mathlib.Core.Path.{◌≡◌, refl, ap}
use mathlib.Core.Bool.{Bool, true, ◌&&◌}
use mathlib.Core.List.{List, [], ◌∷◌, ◌++◌, map}
use native.Mathlib.Omega.{arith}
use borrow.Author.Tests.{le-leb, lt-ltb, ltb-true, eqb-true, ne_eqb}
use lib.Dec.{ltb}
use lib.IntN.{ℤ}
use lib.ListN.{length, take, drop, replicate, length-map}
use lib.Seq.{take-take}
use Rattle.basics.specs.Lists.{all}
use Rattle.basics.proofs.Lists.{both_left, both_right, both_true, all_append, all_take, all_drop, all_replicate}
use Rattle.hours.specs.Packing.{valid, encode, is_code, decode}
use Rattle.hours.proofs.Numbers.{encode_code, decode_encode}
use Rattle.rolling.specs.Runs.{Hour, follows, run, present, day_mean, rolling_mean}
use Rattle.rolling.specs.State.{next_hour, held, state_of, absent_code, possible, continues, advanced, figure}

abbrev pub means : List Hour → List ℤ
means hs = map (λ h. h.mean) hs

-- ---- what a run says of its hours

module _ (h : Hour) (hs : List Hour) where
  -- the hour by itself
  abbrev fine : Bool
  fine = valid h.mean && ltb h.number (2 ^ 32)

  pub run_more : valid h.mean ≡ true → h.number < 2 ^ 32 → follows hs h.number ≡ true → run hs ≡ true → run (h ∷ hs) ≡ true
  run_more v s f r = rw (v, lt-ltb h.number (2 ^ 32) s, f, r)

  module _ (r : run (h ∷ hs) ≡ true) where
    front : (fine && follows hs h.number) ≡ true
    front = both_left (fine && follows hs h.number) (run hs) r

    pub run_before : run hs ≡ true
    run_before = both_right (fine && follows hs h.number) (run hs) r

    pub run_follows : follows hs h.number ≡ true
    run_follows = both_right fine (follows hs h.number) front

    pub run_valid : valid h.mean ≡ true
    run_valid = both_left (valid h.mean) (ltb h.number (2 ^ 32)) (both_left fine (follows hs h.number) front)

    pub run_small : h.number < 2 ^ 32
    run_small = ltb-true _ _ (both_right (valid h.mean) (ltb h.number (2 ^ 32)) (both_left fine (follows hs h.number) front))

run_means : (hs : List Hour) → run hs ≡ true → all valid (means hs) ≡ true
run_means [] r = refl
run_means (h ∷ hs) r = both_true (valid h.mean) (all valid (means hs)) (run_valid h hs r) (run_means hs (run_before h hs r))

-- hours rise by one from 0 or more, so there are no more of them than the next one's number
run_length : (hs : List Hour) → run hs ≡ true → length hs ≤ next_hour hs
run_length [] r = omega arith
run_length (h ∷ []) r = omega arith
run_length (h ∷ g ∷ hs) r =
    let next : h.number ≡ g.number + 1 = eqb-true _ _ (run_follows h (g ∷ hs) r) in
    omega (arith, run_length (g ∷ hs) (run_before h (g ∷ hs) r))

-- ---- a state that a run gives is possible

codes_of : (ms : List ℤ) → all valid ms ≡ true → all is_code (map encode ms) ≡ true
codes_of [] v = refl
codes_of (z ∷ ms) v =
    both_true (is_code (encode z)) (all is_code (map encode ms)) (encode_code z (both_left (valid z) (all valid ms) v)) (codes_of ms (both_right (valid z) (all valid ms) v))

-- behind the hours there are absent codes alone
behind : (l : List ℕ) (k n : ℕ) → length l ≤ n → all absent_code (drop n (l ++ replicate k 32767)) ≡ true
behind [] k n h = all_drop absent_code (replicate k 32767) n (all_replicate absent_code k 32767 refl)
behind (c ∷ l) k zero h = absurd (omega arith)
behind (c ∷ l) k (suc n) h = behind l k n (omega arith)

all_front : (p : ℕ → Bool) (l : List ℕ) (n m : ℕ) → all p (drop n l) ≡ true → all p (drop n (take m l)) ≡ true
all_front p l zero m e = all_take p l m e
all_front p l (suc n) zero e = refl
all_front p [] (suc n) (suc m) e = refl
all_front p (x ∷ l) (suc n) (suc m) e = all_front p l n m e

next_small : (hs : List Hour) → run hs ≡ true → next_hour hs ≤ 2 ^ 32
next_small [] r = omega arith
next_small (h ∷ hs) r = omega (arith, run_small h hs r)

pub possible_run : (hs : List Hour) → run hs ≡ true → possible (state_of hs) ≡ true
unfolding possible held
possible_run hs r =
    let codes = map encode (means hs) in
    let long : length codes ≤ next_hour hs = rw (length-map (means hs) encode, length-map hs (λ h. h.mean)) (run_length hs r) in
    rw (
      le-leb (next_hour hs) (2 ^ 32) (next_small hs r),
      all_take is_code (codes ++ replicate 24 32767) 24 (rw (all_append is_code codes (replicate 24 32767), codes_of (means hs) (run_means hs r))),
    )
    (all_front absent_code (codes ++ replicate 24 32767) (next_hour hs) 24 (behind codes 24 (next_hour hs) long))

-- ---- a step

pub continues_run : (hs : List Hour) (n : ℕ) → continues (next_hour hs) n ≡ follows hs n
continues_run [] n = refl
continues_run (h ∷ hs) n = rw (ne_eqb (h.number + 1) 0 (λ e. omega arith))

pub advanced_run : (hs : List Hour) (h : Hour) → advanced (state_of hs) h.number h.mean ≡ state_of (h ∷ hs)
unfolding advanced held
advanced_run hs h = rw (take-take 23 24 (map encode (means hs) ++ replicate 24 32767) (omega arith))

-- ---- the rolling mean

present_none : (n k : ℕ) → present (map decode (take n (replicate k 32767))) ≡ []
present_none zero k = refl
present_none (suc n) zero = refl
present_none (suc n) (suc k) = present_none n k

-- the first n means, of which those behind the last are absent
present_held : (n k : ℕ) (ms : List ℤ) → all valid ms ≡ true → present (map decode (take n (map encode ms ++ replicate k 32767))) ≡ present (take n ms)
present_held zero k ms v = refl
present_held (suc n) k [] v = present_none (suc n) k
present_held (suc n) k (z ∷ ms) v = rw (decode_encode z (both_left (valid z) (all valid ms) v), present_held n k ms (both_right (valid z) (all valid ms) v))

pub figure_run : (hs : List Hour) → run hs ≡ true → figure (held (means hs)) ≡ rolling_mean hs
unfolding figure held
figure_run hs r = ap day_mean (present_held 24 24 (means hs) (run_means hs r))
