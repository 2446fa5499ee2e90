-- What a pass makes of the values of functions is the values of what a step makes of the functions: both are sums and multiples at each point.
use Prim.Native.Nat.{ℕ, ◌+◌, ◌<◌, ◌≤◌}
use mathlib.Core.Path.{◌≡◌, refl, sym, ◌∙◌, ap, ap₂}
use mathlib.Core.Bool.{Bool, true, false, not, cond}
use mathlib.Core.List.{List}
use native.Mathlib.Decide.{dec_lt}
use native.Mathlib.Nat.{le_trans}
use native.Mathlib.Omega.{arith}
use borrow.Author.Tests.{lt-ltb, le-ltb}
use lib.Dec.{ltb}
use lib.Bits.{bit_xor}
use lib.ListN.{length, get_or}
use Rattle.field.specs.Sum.{◌⊕◌}
use Rattle.field.specs.Galois.{IsField, galois, product, inverse}
use Rattle.field.proofs.Galois.{galois_field}
use Rattle.elliptic.specs.Curve.{point}
use Rattle.elliptic.specs.declared.Point.{Point}
use Rattle.elliptic.specs.Pair.{State, growth, evaluate, add_scaled, raised, held, corrected, cancelled, stepped, kept}
use Rattle.elliptic.proofs.Function.{evaluate_add, length_add, length_add_longer}
use Rattle.elliptic.proofs.Products.{evaluate_raised_some, length_raised}
use Rattle.engine.specs.declared.pair.Sizes.{Sizes}
use Rattle.engine.specs.Arrays.{Small, Ordered}
use Rattle.engine.proofs.States.{step_zero, step_other}
use Rattle.engine.proofs.Runs.{step_word}
use Rattle.values.specs.Values.{Swept, raised_at, gained_at, Shows, Shown, ShownIn, Steps, Passes, WordSteps}

-- ---- the values of one function

module _ {m : ℕ} (k : IsField m) (xs ys : List ℕ) where
  pub shows_later : {d e : ℕ} {f v : List ℕ} → d ≤ e → Shows m xs ys d f v → Shows m xs ys e f v
  shows_later h s = record { size = s.size; at = λ i a b. s.at i (le_trans h a) b }

  pub shows_raised : {d e : ℕ} (α : ℕ) {f v w : List ℕ} → d ≤ e → 0 < length f → Shows m xs ys d f v → Swept (raised_at m xs α v) e v w
      → Shows m xs ys e (raised (galois m) α f) w
  shows_raised α {f} h some s t =
      record {
        size = t.size ∙ s.size;
        at = λ i a b. t.at i a (omega (arith, s.size)) ∙ ap (product m (get_or xs i 0 ⊕ α)) (s.at i (le_trans h a) b) ∙ sym (evaluate_raised_some (galois_field k) α f some _);
      }

  pub shows_gained : {d e : ℕ} (t : ℕ) {h g v w z : List ℕ} → d ≤ e → Shows m xs ys d h v → Shows m xs ys d g w → Swept (gained_at m t v w) e w z
      → Shows m xs ys e (add_scaled (galois m) t h g) z
  shows_gained t {h} {g} l s r q =
      record {
        size = q.size ∙ r.size;
        at = λ i a b. q.at i a (omega (arith, r.size)) ∙ ap₂ (λ x y. x ⊕ product m t y) (r.at i (le_trans l a) b) (s.at i (le_trans l a) b)
            ∙ sym (evaluate_add (galois_field k) t h g _);
      }

-- ---- how many coefficients a sum has

pub longer_add : (F : _) (t : ℕ) (h f : List ℕ) → cond (ltb (length f) (length h)) (length h) (length f) ≡ length (add_scaled F t h f)
longer_add F t h f =
    elim (dec_lt (length f) (length h)) [
      | yes l ↦ rw (lt-ltb (length f) (length h) l) (sym (length_add_longer F t h f (omega arith)))
      | no g ↦ rw (le-ltb (length f) (length h) (omega arith)) (sym (length_add F t h f (omega arith)))
    ]

-- ---- the pair

-- two functions, the shorter as L
held_shown : {m e : ℕ} {xs ys a b f g : List ℕ} {r : Sizes} (w : List ℕ) → Shows m xs ys e f a → Shows m xs ys e g b → Ordered (length f) (length g) r
    → ShownIn m xs ys e a b r (held (ltb (length g) (length f)) f g w)
held_shown {m} {e} {xs} {ys} {a} {b} {f} {g} {r} w x y o = go (ltb (length g) (length f)) o.turned o.low o.high
  where
    go : (t : Bool) → r.turned ≡ t → r.low ≡ cond t (length g) (length f) → r.high ≡ cond t (length f) (length g) → ShownIn m xs ys e a b r (held t f g w)
    go true p q z = record { low_values = rw p y; high_values = rw p x; low_size = q; high_size = z }
    go false p q z = record { low_values = rw p x; high_values = rw p y; low_size = q; high_size = z }

module _ {m : ℕ} (k : IsField m) {xs : List ℕ} {j e : ℕ} (inside : j < length xs) {l u : List ℕ} (low high : ℕ) (first : length l ≡ length xs) (second : length u ≡ length xs) where
  module _ (ys : List ℕ) {d : ℕ} {s : State} (v : ℕ) (before : d ≤ j) (later : d ≤ e) (small : Small s) (h : Shown m xs ys d l u low high s) where
    abbrev P : Point
    P = point (get_or xs j 0) (get_or ys j 0)

    low_at : get_or l j 0 ≡ evaluate (galois m) s.low P
    low_at = h.low_values.at j before inside

    high_at : get_or u j 0 ≡ evaluate (galois m) s.high P
    high_at = h.high_values.at j before inside

    kept_shown : {w : List ℕ} → Swept (raised_at m xs (get_or xs j 0) u) e u w → Shown m xs ys e l w low (high + growth high) (kept (galois m) P v s)
    unfolding kept
    kept_shown q =
        record {
          low_values = shows_later k xs ys later h.low_values;
          high_values = shows_raised k xs ys (get_or xs j 0) later small.some_high h.high_values q;
          low_size = h.low_size;
          high_size = ap (λ n. n + growth n) h.high_size ∙ sym (length_raised (galois m) (get_or xs j 0) s.high);
        }

    stepped_shown : {t : ℕ} {a b : List ℕ} {r : Sizes} → t ≡ product m (get_or u j 0) (inverse m (get_or l j 0)) → Swept (raised_at m xs (get_or xs j 0) l) e l a → Swept (gained_at m t l u) e u b
        → Ordered (low + growth low) (cond (ltb high low) low high) r → ShownIn m xs ys e a b r (stepped (galois m) P v s)
    unfolding stepped cancelled
    stepped_shown {t} {a} {b} {r} q x y o =
        let L = raised (galois m) (get_or xs j 0) s.low in
        let U = add_scaled (galois m) t s.low s.high in
        let same : t ≡ product m (evaluate (galois m) s.high P) (inverse m (evaluate (galois m) s.low P)) = rw (← low_at, ← high_at) q in
        let shorter : low + growth low ≡ length L = ap (λ n. n + growth n) h.low_size ∙ sym (length_raised (galois m) (get_or xs j 0) s.low) in
        let longer : cond (ltb high low) low high ≡ length U = rw (h.low_size, h.high_size) (longer_add (galois m) t s.low s.high) in
        rw (← same) (held_shown {r = r} (corrected (galois m) P v s.low s.word) (shows_raised k xs ys (get_or xs j 0) later small.some_low h.low_values x) (shows_gained k xs ys t later h.low_values h.high_values y) (rw (← shorter, ← longer) o))

  -- L is zero at the point
  pub keeps : {w : List ℕ} {r : Sizes} → get_or l j 0 ≡ 0 → Swept (raised_at m xs (get_or xs j 0) u) e u w → r.turned ≡ false → r.low ≡ low → r.high ≡ high + growth high
      → Steps m xs j e l u low high l w r
  keeps {w} {r} z q t a b =
      record {
        first_size = first;
        second_size = q.size ∙ second;
        next = λ ys d s v before later small h.
            rw (← step_zero (galois m) (point (get_or xs j 0) (get_or ys j 0)) v s (low_at ys v before later small h) z, t, a, b) (kept_shown ys v before later small h q);
      }

  -- L is not
  pub steps : {t : ℕ} {a b : List ℕ} {r : Sizes} → (get_or l j 0 ≡ 0 → ⊥) → t ≡ product m (get_or u j 0) (inverse m (get_or l j 0)) → Swept (raised_at m xs (get_or xs j 0) l) e l a
      → Swept (gained_at m t l u) e u b → Ordered (low + growth low) (cond (ltb high low) low high) r → Steps m xs j e l u low high a b r
  steps z q x y o =
      record {
        first_size = x.size ∙ first;
        second_size = y.size ∙ second;
        next = λ ys d s v before later small h.
            rw (← step_other (galois m) (point (get_or xs j 0) (get_or ys j 0)) v s (low_at ys v before later small h) z) (stepped_shown ys v before later small h q x y o);
      }

-- ---- the same at each point

module _ {m : ℕ} {xs : List ℕ} {j e : ℕ} {l u : List ℕ} where
  pub keeps_passes : {w : List ℕ} → length u ≡ length xs → get_or l j 0 ≡ 0 → Swept (raised_at m xs (get_or xs j 0) u) e u w → Passes m xs j e l u l w
  keeps_passes h z q =
      record { kept_low = λ _ i a b. refl; raised_high = λ _ i a b. q.at i a (omega (arith, h)); raised_low = λ n. absurd (n z); cancelled_high = λ n. absurd (n z) }

  pub steps_passes : {t : ℕ} {a b : List ℕ} → length l ≡ length xs → length u ≡ length xs → (get_or l j 0 ≡ 0 → ⊥) → t ≡ product m (get_or u j 0) (inverse m (get_or l j 0))
      → Swept (raised_at m xs (get_or xs j 0) l) e l a → Swept (gained_at m t l u) e u b → Passes m xs j e l u a b
  steps_passes h k n q x y =
      record {
        kept_low = λ z. absurd (n z);
        raised_high = λ z. absurd (n z);
        raised_low = λ _ i a b. x.at i a (omega (arith, h));
        cancelled_high = λ _ i a b. y.at i a (omega (arith, k)) ∙ ap (λ t. gained_at m t l u i) q;
      }

-- ---- the arrays the other way round

module _ {m e : ℕ} {xs ys : List ℕ} (a b : List ℕ) (r k : Sizes) (h : (k.low ≡ r.low) × (k.high ≡ r.high) × (k.turned ≡ not r.turned)) where
  pub shown_round : {s : State} → ShownIn m xs ys e b a r s → ShownIn m xs ys e a b k s
  shown_round {s} p = rw (h.0, h.1, h.2) (go r.turned p)
    where
      go : (t : Bool) → Shown m xs ys e (cond t a b) (cond t b a) r.low r.high s → Shown m xs ys e (cond (not t) b a) (cond (not t) a b) r.low r.high s
      go true q = q
      go false q = q

pub steps_round : {m j e low high : ℕ} {xs l u a b : List ℕ} {r k : Sizes} → (k.low ≡ r.low) × (k.high ≡ r.high) × (k.turned ≡ not r.turned) → Steps m xs j e l u low high b a r → Steps m xs j e l u low high a b k
steps_round {a = a} {b} {r} {k} h p = record { first_size = p.second_size; second_size = p.first_size; next = λ ys d s v before later small q. shown_round a b r k h (p.next ys d s v before later small q) }

-- ---- the interpolant

-- it gains the multiple of g that makes it v at the point
pub corrects : {m : ℕ} (k : IsField m) (xs ys g w : List ℕ) {d j : ℕ} (v : ℕ) {n : ℕ} → d ≤ j → d ≤ n → j < length xs → {a f z : List ℕ} (e : ℕ)
    → e ≡ product m (bit_xor v (get_or f j 0)) (inverse m (get_or a j 0)) → Shows m xs ys d g a → Shows m xs ys d w f → Swept (gained_at m e a f) n f z
    → Shows m xs ys n (corrected (galois m) (point (get_or xs j 0) (get_or ys j 0)) v g w) z
unfolding corrected ◌⊕◌
corrects k xs ys g w {j = j} v before later inside e q x y s = rw (← x.at j before inside, ← y.at j before inside, ← q) (shows_gained k xs ys e later x y s)

module _ {m : ℕ} (k : IsField m) {xs : List ℕ} {j n : ℕ} (v : ℕ) (inside : j < length xs) {f : List ℕ} (size : length f ≡ length xs)
    {l u a b g : List ℕ} {low high : ℕ} {r : Sizes} (p : Steps m xs j n l u low high a b r) (e : ℕ) where
  pub word_keeps : get_or l j 0 ≡ 0 → e ≡ product m (bit_xor v (get_or f j 0)) (inverse m (get_or u j 0)) → Swept (gained_at m e u f) n f g → WordSteps m xs j n v l u f low high a b g r
  unfolding kept
  word_keeps z q s =
      record {
        pair = p;
        word_size = s.size ∙ size;
        next = λ ys d t before later h w.
            rw (← step_zero (galois m) (point (get_or xs j 0) (get_or ys j 0)) v t (h.low_values.at j before inside) z)
            (corrects k xs ys t.high t.word v before later inside e q h.high_values w s);
      }

  pub word_steps : (get_or l j 0 ≡ 0 → ⊥) → e ≡ product m (bit_xor v (get_or f j 0)) (inverse m (get_or l j 0)) → Swept (gained_at m e l f) n f g → WordSteps m xs j n v l u f low high a b g r
  word_steps z q s =
      record {
        pair = p;
        word_size = s.size ∙ size;
        next = λ ys d t before later h w.
            rw (step_word (galois m) (point (get_or xs j 0) (get_or ys j 0)) v t (λ y. z (h.low_values.at j before inside ∙ y)))
            (corrects k xs ys t.low t.word v before later inside e q h.low_values w s);
      }

pub words_round : {m j e v low high : ℕ} {xs l u f a b g : List ℕ} {r k : Sizes} → (k.low ≡ r.low) × (k.high ≡ r.high) × (k.turned ≡ not r.turned)
    → WordSteps m xs j e v l u f low high b a g r → WordSteps m xs j e v l u f low high a b g k
words_round h p = record { pair = steps_round h p.pair; word_size = p.word_size; next = p.next }
