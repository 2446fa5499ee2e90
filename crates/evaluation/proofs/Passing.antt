-- What a lane passes, and what is stored of it: the law of one lane, and four times the same.
use Prim.Native.Nat.{ℕ, ◌+◌, ◌-◌, ◌<◌, ◌≤◌}
use mathlib.Core.Path.{◌≡◌, refl, sym, subst, ◌∙◌}
use mathlib.Core.List.{List}
use native.Mathlib.Decide.{ℕ_discrete}
use native.Mathlib.Omega.{arith}
use lib.Bits.{bit_xor}
use lib.ListN.{length, get_or, set, length-set}
use lib.Seq.{get_or-set_same, get_or-set_other}
use Rattle.basics.specs.Lists.{table}
use Rattle.basics.proofs.Lists.{table_as}
use Rattle.field.specs.Sum.{◌⊕◌}
use Rattle.field.specs.Galois.{galois, product}
use Rattle.elliptic.specs.Curve.{point}
use Rattle.elliptic.specs.Pair.{evaluate}
use Rattle.engine.specs.Places.{value_at}
use Rattle.engine.proofs.Laws.{Passed, horner_turn, value_end}
use Rattle.evaluation.specs.declared.lanes.Lane.{Lane}
use Rattle.evaluation.specs.declared.lanes.Four.{Four}
use Rattle.evaluation.specs.Parts.{Among, Lists, Bytes, joined_at, Right, Stored, StoredFour, At, AtFour, Taken}

module _ (m : ℕ) (f : List ℕ) where
  pub passed_more : (x r s i p : ℕ) → i < length f → p ≡ product m x s → Passed m x f r s (i + 1) → Passed m x f (bit_xor (get_or f i 0) p) r i
  passed_more x r s i p h prod e =
      let back : i + 1 - 1 ≡ i = omega arith in
      rw back at (horner_turn m x f r s (i + 1) p (omega arith) (omega arith) prod e)

  -- the two parts over x are stored
  pub stored : (a b : List ℕ) (x r s p : ℕ) → Bytes a b → x < 256 → 0 < length f → p ≡ product m x r → Passed m x f r s 1
      → Stored m f a b (set a x (bit_xor (get_or f 0 0) p)) (set b x s) x
  unfolding ◌⊕◌
  stored a b x r s p (la, lb) l h prod e =
      record {
        room = (length-set a x _ ∙ la, length-set b x s ∙ lb);
        right = right;
        kept = λ z k y. kept z k y (ℕ_discrete z x);
      }
    where
      u : ℕ
      u = bit_xor (get_or f 0 0) p

      right : Right m f (set a x u) (set b x s) x
      right y =
          rw (get_or-set_same a x u 0 (omega (arith, la, l)), get_or-set_same b x s 0 (omega (arith, lb, l)))
          (sym (value_end m x y f r s p (product m y s) h prod refl e))

      kept : (z : ℕ) → Right m f a b z → (y : ℕ) → Dec (z ≡ x)
          → evaluate (galois m) f (point z y) ≡ get_or (set a x u) z 0 ⊕ product m y (get_or (set b x s) z 0)
      kept z k y (yes q) = rw q (right y)
      kept z k y (no n) = rw (get_or-set_other a x z u 0 n, get_or-set_other b x z s 0 n) (k y)

-- what holds below a, and at a
further : (P : ℕ → Type 0) (a b : ℕ) → b ≡ a + 1 → ((t : ℕ) → t < a → P t) → P a → (t : ℕ) → t < b → P t
further P a b e before at_a t l = go (ℕ_discrete t a)
  where
    go : Dec (t ≡ a) → P t
    go (yes q) = rw q at_a
    go (no n) = before t (omega (arith, e, l, n))

module _ {m : ℕ} {f : List ℕ} where
  -- a lane at x is at its own coordinate
  own : {i x : ℕ} {l : Lane} → At m f i x l → At m f i l.x l
  own {i} {x} {l} h = subst (λ (z : ℕ). At m f i z l) (sym h.is_x) h

  pub begun_four : {i j : ℕ} {xs : List ℕ} {g : Four} → At m f i (get_or xs j 0) g.a → At m f i (get_or xs (j + 1) 0) g.b
      → At m f i (get_or xs (j + 2) 0) g.c → At m f i (get_or xs (j + 3) 0) g.d → AtFour m f i g g × Taken xs j g
  begun_four h k l n = (
    record { first = own h; second = own k; third = own l; fourth = own n },
    record { first = h.is_x; second = k.is_x; third = l.is_x; fourth = n.is_x },
  )

  pub stored_four : {g : Four} {a₀ b₀ a₁ b₁ a₂ b₂ a₃ b₃ a₄ b₄ : List ℕ} → Stored m f a₀ b₀ a₁ b₁ g.a.x → Stored m f a₁ b₁ a₂ b₂ g.b.x
      → Stored m f a₂ b₂ a₃ b₃ g.c.x → Stored m f a₃ b₃ a₄ b₄ g.d.x → StoredFour m f a₀ b₀ a₄ b₄ g
  stored_four s t u v =
      record {
        room = v.room;
        first = v.kept _ (u.kept _ (t.kept _ s.right));
        second = v.kept _ (u.kept _ t.right);
        third = v.kept _ u.right;
        fourth = v.right;
        kept = λ z r. v.kept z (u.kept z (t.kept z (s.kept z r)));
      }

  -- four coordinates more
  pub split_more : {xs a b a' b' : List ℕ} {j : ℕ} {g : Four} → ((t : ℕ) → t < j → Right m f a b (get_or xs t 0)) → Taken xs j g
      → StoredFour m f a b a' b' g → (t : ℕ) → t < j + 4 → Right m f a' b' (get_or xs t 0)
  split_more {xs} {a} {b} {a'} {b'} {j} {g} before taken s =
      further P (j + 3) (j + 4) (omega arith)
      (further P (j + 2) (j + 3) (omega arith)
      (further P (j + 1) (j + 2) (omega arith)
      (further P j (j + 1) refl (λ t l. s.kept _ (before t l)) (rw (← taken.first) s.first))
      (rw (← taken.second) s.second))
      (rw (← taken.third) s.third))
      (rw (← taken.fourth) s.fourth)
    where
      P : ℕ → Type 0
      P t = Right m f a' b' (get_or xs t 0)

-- ---- the values at the points

pub joined : (m : ℕ) (xs ys a b : List ℕ) (i : ℕ) {w p : ℕ} → w ≡ get_or xs i 0 → p ≡ product m (get_or ys i 0) (get_or b w 0) → bit_xor (get_or a w 0) p ≡ joined_at m xs ys a b i
unfolding ◌⊕◌
joined m xs ys a b i e q = rw (q, e)

pub all_joined : (m : ℕ) (f xs ys a b : List ℕ) {l out : List ℕ} {d n : ℕ} → Lists xs l d → ((j : ℕ) → j < d → Right m f a b (get_or l j 0)) → n ≤ length xs
    → out ≡ table (joined_at m xs ys a b) n → out ≡ table (value_at m xs ys f) n
all_joined m f xs ys a b {l} {out} {d} {n} h right k e = e ∙ table_as (joined_at m xs ys a b) (value_at m xs ys f) n (λ i s. at i (h.listed i (omega arith)))
  where
    at : (i : ℕ) → Among l d (get_or xs i 0) → joined_at m xs ys a b i ≡ value_at m xs ys f i
    at i (j, s, q) = sym ((rw q at (right j s)) (get_or ys i 0))
