-- The trace a + a² + a⁴ + .. of a field of 256 elements is the parity of some of a's digits, and it is 0 at every u² + u. How often the trace of an
-- inverse or of a cube agrees with an affine function of the digits is computed, for each such field.
use Prim.Native.Nat.{ℕ, zero, suc, ◌+◌, ◌-◌, ◌/◌, ◌%◌, ◌^◌, ◌≤◌, ◌<◌}
use mathlib.Core.Path.{◌≡◌, refl, sym, ◌∙◌, ap}
use mathlib.Core.Bool.{Bool, true, false, not, ◌&&◌, ◌||◌}
use mathlib.Core.List.{List, [], ◌∷◌, map, map-map}
use native.Mathlib.Omega.{arith}
use lib.Dec.{T, eqb, ltb}
use lib.ListN.{length, get_or}
use borrow.Author.Tests.{eqb-true, ltb-true, not-true}
use Rattle.basics.specs.Lists.{all, filter}
use Rattle.basics.proofs.Lists.{both}
use Rattle.field.specs.Sum.{◌⊕◌}
use Rattle.field.specs.Field.{Arithmetic, pow}
use Rattle.field.specs.Galois.{IsField, rows, size, width, product, generator, inverse, galois}
use Rattle.field.specs.Tables.{powers, position, logarithm}
use Rattle.field.proofs.Sum.{digit, zero_⊕, ⊕_digit, ⊕_shift, ⊕_swap}
use Rattle.field.proofs.Laws.{inv_unique}
use Rattle.field.proofs.Computed.{all_below, each_field}
use Rattle.field.proofs.Galois.{galois_field, remainder_small, log_none, pow_log}
use Rattle.field.proofs.Lookup.{none_inverse}
use Rattle.codewords.proofs.Tests.{in_all, all_true}
use Rattle.point_count.specs.Bound.{most}
use Rattle.point_count.proofs.Walsh.{◌⊻◌, once, from, in_from, small}

-- ---- what the count of a curve's points asks of a trace

-- no affine function of the digits agrees with this table at more than half as many places as a curve may have points
abbrev pub few : (ℕ → ℕ × ℕ) → List ℕ → Bool
few t l = small (most / 2) 8 (map t l)

-- f at s; the place of 0 counts always
abbrev pub at_inverse : (ℕ → Bool) → ℕ → ℕ × ℕ
at_inverse f zero = (1, 1)
at_inverse f (suc s) = once (f (suc s))

abbrev pub cube : (ℕ → ℕ → ℕ) → ℕ → ℕ
cube mul x = mul x (mul x x)

-- what is asked of a trace, over 256 elements of which all but 0 are powers of g
pub record Traced (F : Arithmetic) (g : ℕ) (trace : ℕ → Bool) : Type 0 where
  pub full : F.q ≡ 256
  pub inv_zero : F.inv 0 ≡ 0
  pub power : (a : ℕ) → a < F.q → (a ≡ 0 → ⊥) → (i : ℕ) × (pow F.◌·◌ g i ≡ a)
  pub add : (a b : ℕ) → trace (a ⊕ b) ≡ trace a ⊻ trace b
  pub still : (u : ℕ) → u < F.q → trace (F.◌·◌ u u ⊕ u) ≡ false
  pub inverses : few (at_inverse (λ s. trace (F.inv s))) (from 0 256) ≡ true
  pub cubes : (j : ℕ) → j < 3 → few (λ x. once (trace (F.◌·◌ (pow F.◌·◌ g j) (cube F.◌·◌ x)))) (from 0 256) ≡ true

-- ---- the parity of the digits at these places

shifts : List ℕ → ℕ → ℕ
shifts [] a = 0
shifts (k ∷ ks) a = a / 2 ^ k ⊕ shifts ks a

shifts_⊕ : (ks : List ℕ) (a b : ℕ) → shifts ks (a ⊕ b) ≡ shifts ks a ⊕ shifts ks b
unfolding shifts
shifts_⊕ [] a b = sym (zero_⊕ 0)
shifts_⊕ (k ∷ ks) a b = rw (⊕_shift k a b, shifts_⊕ ks a b) (⊕_swap (a / 2 ^ k) (b / 2 ^ k) (shifts ks a) (shifts ks b))

odd : ℕ → Bool
odd n = eqb (n % 2) 1

odd_⊕ : (a b : ℕ) → odd (a ⊕ b) ≡ odd a ⊻ odd b
unfolding odd ◌⊕◌
odd_⊕ a b =
    ap (λ t. eqb t 1) (⊕_digit a b) ∙
    digit (λ x. eqb (x ⊕ b % 2) 1 ≡ eqb x 1 ⊻ eqb (b % 2) 1) refl (digit (λ y. eqb (1 ⊕ y) 1 ≡ true ⊻ eqb y 1) refl refl b) a

-- ---- the trace: a + a² + a⁴ + .., which is 0 or 1, and additive; so its values at the powers of two tell it

conjugates : (ℕ → ℕ → ℕ) → ℕ → ℕ → ℕ
conjugates mul zero a = 0
conjugates mul (suc k) a = a ⊕ conjugates mul k (mul a a)

places : ℕ → List ℕ
unfolding conjugates powers
places m = filter (λ k. eqb (conjugates (product m) (width m) (2 ^ k)) 1) (from 0 (width m))

trace_by : List ℕ → ℕ → Bool
unfolding odd shifts
trace_by ks a = odd (shifts ks a)

pub trace : ℕ → ℕ → Bool
trace m = trace_by (places m)

-- ---- the tests

-- u² + u has no trace
square_test : ℕ → Bool
unfolding places trace_by
square_test m = let ks = places m in all (λ u. not (trace_by ks (product m u u ⊕ u))) (from 0 256)

-- the inverse of s, read from the powers of the generator
inverse_in : List ℕ → ℕ → ℕ
unfolding position
inverse_in ps s = get_or ps (255 - position 0 s ps) 0

read_test : ℕ → Bool
unfolding powers inverse_in
read_test m = let ps = powers m 256 in all (λ s. ltb (inverse_in ps s) 256 && eqb (product m s (inverse_in ps s)) 1) (from 1 255)

inverse_test : ℕ → Bool
unfolding places powers inverse_in trace_by small
inverse_test m = let ks = places m in let ps = powers m 256 in few (at_inverse (λ s. trace_by ks (inverse_in ps s))) (from 0 256)

cube_test : ℕ → Bool
unfolding places powers trace_by small pow
cube_test m =
    let ks = places m in
    let cs = map (cube (product m)) (from 0 256) in
    all (λ j. let r = pow (product m) (generator m) j in few (λ c. once (trace_by ks (product m r c))) cs) (from 0 3)

-- a test that passes at all fields of 256 elements passes at each
wide : (test : ℕ → Bool) → T (all_below (λ k. ltb (size (k + 2)) 256 || test (k + 2)) (length rows - 2)) → {m : ℕ} → IsField m → size m ≡ 256 → test m ≡ true
wide test t {m} h e = by (ltb (size m) 256) (test m) refl (each_field (λ m. ltb (size m) 256 || test m) t h)
  where
    by : (a b : Bool) → ltb (size m) 256 ≡ a → T (a || b) → b ≡ true
    by true b s u = absurd (omega (arith, ltb-true (size m) 256 s))
    by false true s u = refl
    by false false s u = absurd u

square_passes : {m : ℕ} → IsField m → size m ≡ 256 → square_test m ≡ true
unfolding all_below square_test size powers
square_passes = wide square_test tt

read_passes : {m : ℕ} → IsField m → size m ≡ 256 → read_test m ≡ true
unfolding all_below read_test size powers
read_passes = wide read_test tt

inverse_passes : {m : ℕ} → IsField m → size m ≡ 256 → inverse_test m ≡ true
unfolding all_below inverse_test size powers
inverse_passes = wide inverse_test tt

cube_passes : {m : ℕ} → IsField m → size m ≡ 256 → cube_test m ≡ true
unfolding all_below cube_test size powers
cube_passes = wide cube_test tt

-- ---- what they say

each_from : (p : ℕ → Bool) (i n : ℕ) → all p (from i n) ≡ true → (a : ℕ) → i ≤ a → a < i + n → p a ≡ true
each_from p i n t a l h = in_all (in_from a i n l h) (all_true p (from i n) t)

map_from : {A : Type 0} (f g : ℕ → A) (i n : ℕ) → ((a : ℕ) → i ≤ a → a < i + n → f a ≡ g a) → map f (from i n) ≡ map g (from i n)
map_from f g i zero h = refl
map_from f g i (suc n) h = rw (h i (omega arith) (omega arith), map_from f g (suc i) n (λ a l m. h a (omega arith) (omega arith)))

-- the place of c in the table for the j-th power of the generator
abbrev at_power : ℕ → ℕ → ℕ → ℕ × ℕ
at_power m j c = once (trace m (product m (pow (product m) (generator m) j) c))

module _ {m : ℕ} (h : IsField m) (full : size m ≡ 256) where
  read_is : (s : ℕ) → 1 ≤ s → s < 256 → inverse_in (powers m 256) s ≡ inverse m s
  unfolding read_test
  read_is s l k =
      let t = each_from (λ s. ltb (inverse_in (powers m 256) s) 256 && eqb (product m s (inverse_in (powers m 256) s)) 1) 1 255 (read_passes h full) s l k in
      let i = inverse_in (powers m 256) s in
      let (lt, one) = both (ltb i 256) (eqb (product m s i) 1) t in
      inv_unique (galois_field h) s i (omega arith) (omega (arith, ltb-true i 256 lt)) (eqb-true (product m s i) 1 one)

  at_read : (s : ℕ) → s < 256 → at_inverse (λ s. trace m (inverse_in (powers m 256) s)) s ≡ at_inverse (λ s. trace m (inverse m s)) s
  at_read zero l = refl
  at_read (suc s) l = rw (read_is (suc s) (omega arith) l)

  still : (u : ℕ) → u < 256 → trace m (product m u u ⊕ u) ≡ false
  unfolding square_test trace
  still u l = not-true _ (each_from (λ u. not (trace_by (places m) (product m u u ⊕ u))) 0 256 (square_passes h full) u (omega arith) (omega arith))

  inverses_tested : few (at_inverse (λ s. trace m (inverse_in (powers m 256) s))) (from 0 256) ≡ true
  unfolding inverse_test trace
  inverses_tested = inverse_passes h full

  cubes_tested : all (λ j. few (at_power m j) (map (cube (product m)) (from 0 256))) (from 0 3) ≡ true
  unfolding cube_test trace
  cubes_tested = cube_passes h full

  cubes : (j : ℕ) → j < 3 → few (λ x. at_power m j (cube (product m) x)) (from 0 256) ≡ true
  cubes j l =
      sym (ap (small (most / 2) 8) (map-map (at_power m j) (cube (product m)) (from 0 256)))
      ∙ each_from (λ j. few (at_power m j) (map (cube (product m)) (from 0 256))) 0 3 cubes_tested j (omega arith) (omega arith)

  add : (a b : ℕ) → trace m (a ⊕ b) ≡ trace m a ⊻ trace m b
  unfolding trace trace_by
  add a b = ap odd (shifts_⊕ (places m) a b) ∙ odd_⊕ (shifts (places m) a) (shifts (places m) b)

  -- THEOREM: the trace of a field of 256 elements is fit
  pub traced : Traced (galois m) (generator m) (trace m)
  traced = record {
    full = full;
    inv_zero = sym (none_inverse h 0 (omega arith) (log_none h 0 (omega arith) (remainder_small h 0 (omega arith))));
    power = λ a l n. (logarithm m a, pow_log h a (omega arith) (λ z. n (sym (remainder_small h a l) ∙ z)) ∙ remainder_small h a l);
    add = add;
    still = λ u l. still u (omega arith);
    inverses = sym (ap (small (most / 2) 8) (map_from _ _ 0 256 (λ s l. at_read s))) ∙ inverses_tested;
    cubes = cubes;
  }
