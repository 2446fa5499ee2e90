-- E by its first coefficients in front of an array: as those behind them are zero, zeros may be put into the array there, and then sums and the factor X + α
-- are made of the array's own coefficients.
use Prim.Native.Nat.{ℕ, zero, suc, ◌+◌, ◌-◌, ◌<◌, ◌≤◌}
use mathlib.Core.Path.{◌≡◌, refl, sym, ◌∙◌, ap, ap₂}
use mathlib.Core.List.{List, [], ◌∷◌, ◌++◌, append_assoc, append-nil}
use native.Mathlib.Decide.{dec_lt}
use native.Mathlib.Omega.{arith}
use lib.ListN.{length, get_or, take, drop, replicate, length-append, length-replicate, replicate-append-replicate, get_or-eq_default}
use lib.Seq.{length-take-le, length_front, take_at, get_or-take, get_or-drop, get_or-append-add, drop-drop, ext_get_or}
use borrow.Author.Tests.{lt-ltb, le-ltb}
use Rattle.basics.proofs.Lists.{part_length, extended, get_or_zeros}
use Rattle.field.specs.Sum.{◌⊕◌}
use Rattle.field.specs.Field.{Arithmetic, Field}
use Rattle.field.specs.Galois.{galois, IsField}
use Rattle.field.proofs.Laws.{ring, ·_zero}
use Rattle.field.proofs.Galois.{galois_field}
use Rattle.elliptic.specs.Pair.{add_scaled, shifted, times_linear}
use Rattle.elliptic.proofs.Function.{length_add}
use Rattle.elliptic.proofs.Products.{length_linear}
use Rattle.decoding.proofs.Weighted.{get_add}
use Rattle.locator.specs.Arrays.{den_in, longer, shorter, Behind, Widened, MixesDen, LiftsDen}

-- ---- how many coefficients

pub longer_right : (a b : ℕ) → b ≤ longer a b
longer_right a b = elim (dec_lt a b) [ yes h ↦ rw (lt-ltb a b h) (omega arith) | no h ↦ rw (le-ltb a b (omega arith)) (omega arith) ]

pub longer_most : (a b n : ℕ) → a ≤ n → b ≤ n → longer a b ≤ n
longer_most a b n f g = elim (dec_lt a b) [ yes h ↦ rw (lt-ltb a b h) g | no h ↦ rw (le-ltb a b (omega arith)) f ]

pub shorter_left : (a b : ℕ) → shorter a b ≤ a
shorter_left a b = elim (dec_lt a b) [ yes h ↦ rw (lt-ltb a b h) (omega arith) | no h ↦ rw (le-ltb a b (omega arith)) (omega arith) ]

pub shorter_right : (a b : ℕ) → shorter a b ≤ b
shorter_right a b = elim (dec_lt a b) [ yes h ↦ rw (lt-ltb a b h) (omega arith) | no h ↦ rw (le-ltb a b (omega arith)) (omega arith) ]

shorter_past : (a b : ℕ) → shorter a b < b → shorter a b ≡ a
shorter_past a b l = elim (dec_lt a b) [ yes h ↦ rw (lt-ltb a b h) | no h ↦ absurd (omega (arith, rw (le-ltb a b (omega arith)) at l)) ]

shorter_least : (a b n : ℕ) → n ≤ a → n ≤ b → n ≤ shorter a b
shorter_least a b n f g = elim (dec_lt a b) [ yes h ↦ rw (lt-ltb a b h) f | no h ↦ rw (le-ltb a b (omega arith)) g ]

longer_is : (a b : ℕ) → a ≤ b → longer a b ≡ b
longer_is a b l = elim (dec_lt a b) [ yes h ↦ rw (lt-ltb a b h) | no h ↦ rw (le-ltb a b (omega arith)) (omega arith) ]

-- how many coefficients (X + α)·E has
pub lift_size : (s room : ℕ) {r : ℕ} → s ≤ room → r ≡ longer s (shorter (s + 2) room) → r ≡ shorter (s + 2) room
lift_size s room h q = q ∙ longer_is s (shorter (s + 2) room) (shorter_least (s + 2) room s (omega arith) h)

pub lift_within : (s room : ℕ) {r : ℕ} {old new : List ℕ} → s ≤ room → shorter (s + 2) room ≤ length old → r ≡ longer s (shorter (s + 2) room) → Widened s r old new → r ≤ length new
lift_within s room h g q w = rw (w.behind.size, lift_size s room h q) g

-- ---- what stands behind

pub behind_same : (d : ℕ) (l : List ℕ) → Behind d l l
behind_same d l = record { size = refl; kept = λ j h. refl }

pub behind_trans : {d : ℕ} {a b c : List ℕ} → Behind d a b → Behind d b c → Behind d a c
behind_trans f g = record { size = g.size ∙ f.size; kept = λ j h. g.kept j h ∙ f.kept j h }

-- the first d were lent and came back
pub behind_lent : (d : ℕ) (l e : List ℕ) → d ≤ length l → length e ≡ d → Behind d l (e ++ drop d l)
behind_lent d l e h k = record { size = length_front l e d (k ∙ sym (length-take-le d l h)); kept = λ j g. at j (j - d) (omega arith) }
  where
    at : (j i : ℕ) → j ≡ d + i → get_or (e ++ drop d l) j 0 ≡ get_or l j 0
    at j i q = rw q (ap (λ n. get_or (e ++ drop d l) (n + i) 0) (sym k) ∙ get_or-append-add e (drop d l) i 0 ∙ get_or-drop d l i 0)

-- ---- coefficients behind those of the array

zeros_add : (l : List ℕ) (n k r : ℕ) → n + k ≡ r → (l ++ replicate n 0) ++ replicate k 0 ≡ l ++ replicate r 0
zeros_add l n k r e = append_assoc l (replicate n 0) (replicate k 0) ∙ ap (λ z. l ++ z) (replicate-append-replicate n k 0 ∙ ap (λ n. replicate n 0) e)

den_length : (room s : ℕ) (row : List ℕ) → s ≤ room → s ≤ length row → length (den_in room s row) ≡ room
den_length room s row h k = rw (length-append (take s row) (replicate (room - s) 0), length-take-le s row k, length-replicate {A = ℕ} (room - s) 0) (omega arith)

-- zeros from s to w
pub widened : (s w : ℕ) (row z : List ℕ) → s ≤ w → w ≤ length row → z ≡ replicate (length (take (w - s) (drop s row))) 0 → Widened s w row (take s row ++ (z ++ drop (w - s) (drop s row)))
widened s w row z h k e =
    record {
      behind = rw (drop-drop (w - s) s row, end, ← append_assoc (take s row) z (drop w row)) (behind_lent w row (take s row ++ z) k long);
      same = λ room f g. ap (λ l. l ++ replicate (room - w) 0) (extended row z _ s w h k (ap length e ∙ length-replicate {A = ℕ} _ 0) ∙ ap (λ z. take s row ++ z) zeros)
          ∙ zeros_add (take s row) (w - s) (room - w) (room - s) (omega arith);
    }
  where
    end : s + (w - s) ≡ w
    end = omega arith

    zeros : z ≡ replicate (w - s) 0
    zeros = e ∙ ap (λ n. replicate n 0) (part_length row s (w - s) (omega arith))

    long : length (take s row ++ z) ≡ w
    long = rw (length-append (take s row) z, zeros, length-replicate {A = ℕ} (w - s) 0, length-take-le s row (omega arith)) end

-- ---- a multiple of p

take_past : (n : ℕ) (l : List ℕ) (i : ℕ) → n ≤ length l → n ≤ i → get_or (take n l) i 0 ≡ 0
take_past n l i h k = get_or-eq_default (take n l) 0 (rw (length-take-le n l h) k)

module _ {F : Arithmetic} (K : Field F) where
  infixl 70 ◌·◌
  open F use {◌·◌}

  no_multiple : (t a : ℕ) → a ⊕ t · 0 ≡ a
  no_multiple t a = simp ring

  get_past : (t : ℕ) (h f : List ℕ) (i : ℕ) → get_or h i 0 ≡ 0 → get_or (add_scaled F t h f) i 0 ≡ get_or f i 0
  get_past t h f i e = get_add K t h f i ∙ ap (λ b. get_or f i 0 ⊕ t · b) e ∙ no_multiple t _

  den_add : (t sp r room : ℕ) (p row : List ℕ) → sp ≤ r → r ≤ room → sp ≤ length p → r ≤ length row
      → den_in room r (add_scaled F t (take sp p) row) ≡ add_scaled F t (den_in room sp p) (den_in room r row)
  den_add t sp r room p row h g k l =
      ext_get_or 0 _ _ (left ∙ sym right)
      (λ i n. get_or_zeros (take r new) (room - r) i ∙ at i (dec_lt i r)
      ∙ sym (get_add K t (den_in room sp p) (den_in room r row) i ∙ ap₂ (λ a b. a ⊕ t · b) (get_or_zeros (take r row) (room - r) i) (get_or_zeros (take sp p) (room - sp) i)))
    where
      new : List ℕ
      new = add_scaled F t (take sp p) row

      long : length new ≡ length row
      long = length_add F t (take sp p) row (rw (length-take-le sp p k) (omega arith))

      left : length (den_in room r new) ≡ room
      left = den_length room r new g (rw long l)

      right : length (add_scaled F t (den_in room sp p) (den_in room r row)) ≡ room
      right = length_add F t _ _ (omega (arith, den_length room sp p (omega arith) k, den_length room r row g l)) ∙ den_length room r row g l

      at : (i : ℕ) → Dec (i < r) → get_or (take r new) i 0 ≡ get_or (take r row) i 0 ⊕ t · get_or (take sp p) i 0
      at i (yes n) = get_or-take r new i 0 n ∙ get_add K t (take sp p) row i ∙ ap (λ a. a ⊕ t · get_or (take sp p) i 0) (sym (get_or-take r row i 0 n))
      at i (no n) =
          take_past r new i (rw long l) (omega arith)
          ∙ sym (ap₂ (λ a b. a ⊕ t · b) (take_past r row i l (omega arith)) (take_past sp p i k (omega arith)) ∙ no_multiple t 0)

  -- ---- the factor X + α

  zeros_shifted : (α k : ℕ) → shifted F α 0 0 (replicate k 0) ≡ replicate k 0
  unfolding shifted
  zeros_shifted α zero = refl
  zeros_shifted α (suc k) = ap₂ (λ (a : ℕ) (l : List ℕ). a ∷ l) (no_multiple α 0) (zeros_shifted α k)

  shifted_zeros : (α a b k : ℕ) (l : List ℕ) → shifted F α a b (l ++ 0 ∷ 0 ∷ []) ++ replicate k 0 ≡ shifted F α a b (l ++ 0 ∷ 0 ∷ [] ++ replicate k 0)
  unfolding shifted
  shifted_zeros α a b k [] = ap (λ (l : List ℕ). (a ⊕ α · 0) ∷ (b ⊕ α · 0) ∷ l) (sym (zeros_shifted α k))
  shifted_zeros α a b k (c ∷ l) = ap (λ (l : List ℕ). (a ⊕ α · c) ∷ l) (shifted_zeros α b c k l)

  linear_zeros : (α k : ℕ) (l : List ℕ) → times_linear F α (l ++ 0 ∷ 0 ∷ []) ++ replicate k 0 ≡ times_linear F α (l ++ 0 ∷ 0 ∷ [] ++ replicate k 0)
  unfolding times_linear shifted
  linear_zeros α k [] = ap (λ (l : List ℕ). (α · 0) ∷ (0 ⊕ α · 0) ∷ l) (sym (zeros_shifted α k))
  linear_zeros α k (c ∷ l) = ap (λ (l : List ℕ). (α · c) ∷ l) (shifted_zeros α c 0 k l)

  zeros_linear : (α k : ℕ) → times_linear F α (replicate k 0) ≡ replicate k 0
  unfolding times_linear
  zeros_linear α zero = refl
  zeros_linear α (suc k) = ap₂ (λ (a : ℕ) (l : List ℕ). a ∷ l) (·_zero K α) (zeros_shifted α k)

-- ---- rows in arrays

module _ {m : ℕ} (f : IsField m) where
  K : Field (galois m)
  K = galois_field f

  -- the array widened to r coefficients, with the multiple of p added
  pub mixes : (t sp : ℕ) (p : List ℕ) (s : ℕ) {r : ℕ} {old row new : List ℕ} → sp ≤ length p → sp ≤ length old → s ≤ length old → r ≡ longer s sp → Widened s r old row
      → new ≡ add_scaled (galois m) t (take sp p) row → MixesDen m t sp p s r old new
  mixes t sp p s {r} {old} {row} {new} k g h e w q =
      record {
        size_is = e;
        behind = behind_trans w.behind (rw q behind);
        mixed = λ room a b. rw q (den_add K t sp r room p row right (most room a b) k (rw w.behind.size (most (length old) h g))
            ∙ ap (add_scaled (galois m) t (den_in room sp p)) (w.same room a (most room a b)));
      }
    where
      right : sp ≤ r
      right = rw e (longer_right s sp)

      most : (n : ℕ) → s ≤ n → sp ≤ n → r ≤ n
      most n a b = rw e (longer_most s sp n a b)

      behind : Behind r row (add_scaled (galois m) t (take sp p) row)
      behind =
          record {
            size = length_add (galois m) t (take sp p) row (rw (length-take-le sp p k, w.behind.size) g);
            kept = λ j l. get_past K t (take sp p) row j (take_past sp p j k (omega (arith, right)));
          }

  -- nothing of E is in the array
  pub lifts_none : (α room s : ℕ) (row : List ℕ) → s ≡ 0 → LiftsDen m α room s 0 row row
  lifts_none α room s row e =
      record {
        most = omega arith;
        slow = omega arith;
        behind = behind_same 0 row;
        lifted = rw e (sym (zeros_linear K α (room - 0)));
      }

  -- the array widened to r coefficients, of which those of (X + α)·E came back
  pub lifts : (α room s : ℕ) {r : ℕ} {old row e : List ℕ} → s ≤ room → shorter (s + 2) room ≤ length old → r ≡ longer s (shorter (s + 2) room) → Widened s r old row
      → e ≡ times_linear (galois m) α (take r row) → LiftsDen m α room s r old (e ++ drop r row)
  lifts α room s {r} {old} {row} {e} h g q w t =
      record {
        most = most;
        slow = rw is (shorter_left (s + 2) room);
        behind = behind_trans w.behind (behind_lent r row e within size);
        lifted = ap (λ l. l ++ replicate (room - r) 0) (take_at e (drop r row) r size ∙ t) ∙ past (dec_lt r room) ∙ ap (times_linear (galois m) α) (w.same room h most);
      }
    where
      is : r ≡ shorter (s + 2) room
      is = lift_size s room h q

      most : r ≤ room
      most = rw is (shorter_right (s + 2) room)

      within : r ≤ length row
      within = lift_within s room h g q w

      size : length e ≡ r
      size = ap length t ∙ length_linear (galois m) α (take r row) ∙ length-take-le r row within

      -- there is room for more: the last two are zeros
      last : r < room → take r row ≡ take s old ++ 0 ∷ 0 ∷ []
      last n =
          let two : r ≡ s + 2 = is ∙ shorter_past (s + 2) room (omega (arith, is)) in
          let none : 0 ≡ r - r = omega arith in
          let gap : r - s ≡ 2 = omega arith in
          sym (append-nil (take r row)) ∙ ap (λ n. take r row ++ replicate n 0) none ∙ w.same r (omega arith) (omega arith) ∙ ap (λ n. take s old ++ replicate n 0) gap

      past : Dec (r < room) → times_linear (galois m) α (take r row) ++ replicate (room - r) 0 ≡ times_linear (galois m) α (take r row ++ replicate (room - r) 0)
      past (yes n) = rw (last n) (linear_zeros K α (room - r) (take s old))
      past (no n) = let none : room - r ≡ 0 = omega arith in
          rw none (append-nil (times_linear (galois m) α (take r row)) ∙ ap (times_linear (galois m) α) (sym (append-nil (take r row))))
