-- What each loop does to the functions' lists: at its start, in a turn and at its end.
use mathlib.Core.Path.{◌≡◌, refl, sym, ap, ◌∙◌}
use mathlib.Core.List.{List, [], ◌∷◌, ◌++◌, append-nil}
use Prim.Native.Nat.{ℕ, zero, suc, ◌+◌, ◌-◌, ◌<◌, ◌≤◌}
use native.Mathlib.Nat.{not-suc-le-zero, suc-ne-zero, le_of_eq, add-suc}
use native.Mathlib.Omega.{arith}
use mathlib.Core.Bool.{Bool, true, false, cond}
use lib.Dec.{eqb}
use lib.Bits.{bit_xor}
use lib.ListN.{length, take, drop, get_or, set, replicate, drop_of_length-le, take-append-drop}
use lib.Seq.{take_all, drop-length, length-take-le, get_or-take}
use Rattle.basics.specs.Lists.{table}
use Rattle.basics.proofs.Lists.{is_table}
use Rattle.basics.proofs.Loops.{next, stored}
use Rattle.field.specs.Sum.{◌⊕◌}
use Rattle.field.specs.Galois.{IsField, galois, product, inverse}
use Rattle.field.specs.Tables.{IsLog, logarithm, product_by_log}
use Rattle.field.proofs.Lookup.{is_log, by_log}
use Rattle.elliptic.specs.declared.Point.{Point}
use Rattle.elliptic.specs.Curve.{point}
use Rattle.elliptic.specs.Pair.{growth, padded, horner, evaluate, add_scaled, shifted, times_linear, raised, corrected}

-- a factor's logarithm, looked up before the loop
module _ {m x l : ℕ} (h : IsField m) (x_lt : x < 256) (e : l ≡ logarithm m x) where
  pub logged : IsLog m l
  logged = rw e (is_log h x x_lt)

  pub by_logged : (b : ℕ) {p : ℕ} → p ≡ product_by_log m l b → p ≡ product m x b
  by_logged b q = q ∙ ap (λ k. product_by_log m k b) e ∙ by_log h x b x_lt

-- the elements of l one by one, up to n
pub table_take : (l : List ℕ) (n : ℕ) → n ≤ length l → table (λ i. get_or l i 0) n ≡ take n l
table_take l n h =
    let size : length (take n l) ≡ n = length-take-le n l h in
    let all : take n l ≡ table (λ i. get_or l i 0) (length (take n l)) = is_table (λ i. get_or l i 0) (take n l) 0 (λ i k. get_or-take n l i 0 (rw size at k)) in
    ap (table (λ i. get_or l i 0)) (sym size) ∙ sym all

-- the first n elements of f were copied to the front of out, and zeros put behind them
pub padded_as : (f c e : List ℕ) (n k : ℕ) → n ≤ length f → length c ≡ k → length e ≡ length c → take n c ≡ take n f
    → take (length c) e ≡ take n c ++ replicate (length c - n) 0 → e ≡ padded k (take n f)
padded_as f c e n k h lc le copied filled =
    sym (take_all (length c) e (le_of_eq le)) ∙ filled ∙ rw (copied, lc, length-take-le n f h)

pub growth_le : (n : ℕ) → growth n ≤ 2
growth_le n = go (eqb n 1)
  where
    go : (t : Bool) → cond t 1 2 ≤ 2
    go true = omega arith
    go false = omega arith

module _ (m : ℕ) where
  -- (r, s) is the pair of the coefficients from i on
  abbrev pub Passed : ℕ → List ℕ → ℕ → ℕ → ℕ → Type 0
  Passed x f r s i = ◌≡◌ {A = ℕ × ℕ} (r, s) (horner (galois m) x (drop i f))

  module _ (x : ℕ) (f : List ℕ) where
    pub horner_start : Passed x f 0 0 (length f)
    unfolding horner
    horner_start = rw drop-length

    pub horner_turn : (r s i p : ℕ) → 0 < i → i ≤ length f → p ≡ product m x s → Passed x f r s i → Passed x f (bit_xor (get_or f (i - 1) 0) p) r (i - 1)
    unfolding horner ◌⊕◌
    horner_turn r s i p h k prod e =
        let back : i - 1 + 1 ≡ i = omega arith in
        rw (prod, next f 0 (i - 1) (omega arith), back, ← e)

  pub value_none : (P : Point) (f : List ℕ) → length f ≡ 0 → 0 ≡ evaluate (galois m) f P
  unfolding evaluate
  value_none P [] e = refl
  value_none P (c ∷ cs) e = absurd (suc-ne-zero _ e)

  pub value_end : (x y : ℕ) (f : List ℕ) (r s p p' : ℕ) → 0 < length f → p ≡ product m x r → p' ≡ product m y s → Passed x f r s 1
      → bit_xor (bit_xor (get_or f 0 0) p) p' ≡ evaluate (galois m) f (point x y)
  unfolding evaluate ◌⊕◌
  value_end x y [] r s p p' h d d' e = absurd (not-suc-le-zero h)
  value_end x y (c ∷ cs) r s p p' h d d' e = rw (d, d', ← e)

  -- what is done of f, to i, and what the rest becomes with what is left of h
  abbrev pub sum_from_lem : ℕ → ℕ → List ℕ → List ℕ → List ℕ
  sum_from_lem t i h f = take i f ++ add_scaled (galois m) t (drop i h) (drop i f)

  module _ (t i : ℕ) (h f : List ℕ) where
    pub add_turn : (p : ℕ) → i < length h → i < length f → p ≡ product m t (get_or h i 0)
        → sum_from_lem t (i + 1) h (set f i (bit_xor (get_or f i 0) p)) ≡ sum_from_lem t i h f
    unfolding add_scaled ◌⊕◌
    add_turn p k l prod = stored (add_scaled (galois m) t (drop (i + 1) h)) f i _ l ∙ rw (prod, next h 0 i k, next f 0 i l)

    pub add_end : length h ≤ i → sum_from_lem t i h f ≡ f
    unfolding add_scaled
    add_end k = rw (drop_of_length-le h k, take-append-drop)

  -- zeros that bring f to the length of h change nothing
  add_zeros : (t k : ℕ) (h f : List ℕ) → length f + k ≡ length h → add_scaled (galois m) t h (f ++ replicate k 0) ≡ add_scaled (galois m) t h f
  unfolding add_scaled
  add_zeros t zero h f e = rw append-nil
  add_zeros t (suc k) [] f e = absurd (not-suc-le-zero (le_of_eq (sym (add-suc _ k) ∙ e)))
  add_zeros t (suc k) (c ∷ cs) [] e = ap (λ (l : List ℕ). (0 ⊕ product m t c) ∷ l) (add_zeros t k cs [] (omega arith))
  add_zeros t (suc k) (c ∷ cs) (d ∷ ds) e = ap (λ (l : List ℕ). (d ⊕ product m t c) ∷ l) (add_zeros t (suc k) cs ds (omega arith))

  -- so f may be extended first
  pub gained : (t n : ℕ) (h f f' : List ℕ) {e : List ℕ} → n ≤ length f → n ≤ length h → take (length h) f' ≡ take n f ++ replicate (length h - n) 0
      → e ≡ add_scaled (galois m) t h (take (length h) f') → e ≡ add_scaled (galois m) t h (take n f)
  gained t n h f f' k l x q = q ∙ rw x (add_zeros t (length h - n) h (take n f) (rw (length-take-le n f k) (omega arith)))

  -- what is done of f, to i, and what the rest becomes
  abbrev pub product_from : ℕ → ℕ → ℕ → ℕ → List ℕ → List ℕ
  product_from α a b i f = take i f ++ shifted (galois m) α a b (drop i f)

  pub linear_start : (α : ℕ) (f : List ℕ) (p : ℕ) → 0 < length f → p ≡ product m α (get_or f 0 0)
      → product_from α (get_or f 0 0) 0 1 (set f 0 p) ≡ times_linear (galois m) α f
  unfolding times_linear
  linear_start α [] p h prod = absurd (not-suc-le-zero h)
  linear_start α (c ∷ cs) p h prod = rw prod

  module _ (α a b i : ℕ) (f : List ℕ) where
    pub linear_turn : (p : ℕ) → i < length f → p ≡ product m α (get_or f i 0)
        → product_from α b (get_or f i 0) (i + 1) (set f i (bit_xor a p)) ≡ product_from α a b i f
    unfolding shifted ◌⊕◌
    linear_turn p h prod = stored (shifted (galois m) α b (get_or f i 0)) f i _ h ∙ rw (prod, next f 0 i h)

    pub linear_end : length f ≤ i → product_from α a b i f ≡ f
    unfolding shifted
    linear_end h = rw (drop_of_length-le f h, append-nil, take_all i f h)

  -- zeros that bring f to its new length, and the product there
  pub raised_as : (α n k : ℕ) (f : List ℕ) → n ≤ length f → k ≡ n + growth n → times_linear (galois m) α (take n f ++ replicate (k - n) 0) ≡ raised (galois m) α (take n f)
  unfolding raised
  raised_as α n k f h e =
      let more : k - n ≡ growth n = omega arith in
      rw (length-take-le n f h, more)

  -- the multiple of g that corrects f
  pub corrected_as : (P : Point) (v : ℕ) (g f : List ℕ) {a b t : ℕ} → a ≡ evaluate (galois m) f P → b ≡ evaluate (galois m) g P → t ≡ product m (bit_xor v a) (inverse m b)
      → add_scaled (galois m) t g f ≡ corrected (galois m) P v g f
  unfolding corrected ◌⊕◌
  corrected_as P v g f e h k = rw (k, e, h)
