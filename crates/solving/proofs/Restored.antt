-- A free point's value is counted by the free ones before it, and the others stand in the order of the places.
use Prim.Native.Nat.{ℕ, ◌+◌, ◌-◌, ◌<◌, ◌≤◌}
use mathlib.Core.Path.{◌≡◌, sym, ◌∙◌, ap}
use mathlib.Core.List.{List}
use native.Mathlib.Numerals.{add-one}
use native.Mathlib.Decide.{ℕ_discrete}
use native.Mathlib.Omega.{arith}
use lib.ListN.{length, get_or, set, length-set}
use lib.Seq.{get_or-set_same, get_or-set_other}
use Rattle.basics.proofs.Lists.{length_table, get_or_table}
use Rattle.engine.specs.Places.{coordinate_at}
use Rattle.arrangement.specs.Arranged.{free_at, rank}
use Rattle.arrangement.proofs.Arranged.{free_one, rank_next, rank_all}
use Rattle.solving.specs.Restored.{Marked, Freed}

pub places_fit : {J w f : List ℕ} → Marked J w f → length J ≤ length w
places_fit {J} {w} h = omega (arith, rank_all (length w) J h.places h.apart)

-- ---- the values at the free points

-- those before t are put back, s is where the last of them was read, and the marks from t on still stand
pub record FreeTo (J w f : List ℕ) (t s : ℕ) : Type 0 where
  pub size : length f ≡ length w
  pub upto : t ≤ length w
  pub next : s + 1 ≡ length J + rank (free_at J) t
  pub done : (i : ℕ) → i < t → free_at J i ≡ 1 → get_or w (length J + rank (free_at J) i) 0 ≡ get_or f i 0
  pub left : (i : ℕ) → t ≤ i → i < length w → get_or f i 0 ≡ free_at J i

pub free_none : {J w f : List ℕ} → Marked J w f → FreeTo J w f 0 (length J - 1)
free_none {J} {w} h =
    record {
      size = ap length h.frees ∙ length_table (free_at J) (length w);
      upto = omega arith;
      next = omega (arith, h.some);
      done = λ i l. absurd (omega arith);
      left = λ i _ l. ap (λ f. get_or f i 0) h.frees ∙ get_or_table (free_at J) (length w) i 0 l;
    }

module _ {J w f₀ f : List ℕ} {t s : ℕ} (h : Marked J w f₀) (a : FreeTo J w f t s) (l : t < length w) where
  mark : get_or f t 0 ≡ free_at J t
  mark = a.left t (omega arith) l

  pub read_in : s + get_or f t 0 < length w
  read_in = omega (arith, a.next, mark, rank_next (free_at J) t (length w) l, rank_all (length w) J h.places h.apart)

  pub free_turn : FreeTo J w (set f t (get_or w (s + get_or f t 0) 0)) (t + 1) (s + get_or f t 0)
  free_turn =
      record {
        size = length-set f t _ ∙ a.size;
        upto = omega arith;
        next = rw (add-one t) (omega (arith, a.next, mark));
        done = λ i k e. done i k e (ℕ_discrete i t);
        left = λ i k q. get_or-set_other f t i _ 0 (λ e. omega arith) ∙ a.left i (omega arith) q;
      }
    where
      done : (i : ℕ) → i < t + 1 → free_at J i ≡ 1 → Dec (i ≡ t) → get_or w (length J + rank (free_at J) i) 0 ≡ get_or (set f t (get_or w (s + get_or f t 0) 0)) i 0
      done i k e (yes q) =
          let here : length J + rank (free_at J) t ≡ s + get_or f t 0 = omega (arith, a.next, mark, ap (free_at J) (sym q) ∙ e) in
          rw q (ap (λ r. get_or w r 0) here ∙ sym (get_or-set_same f t _ 0 (omega (arith, a.size))))
      done i k e (no q) = a.done i (omega arith) e ∙ sym (get_or-set_other f t i _ 0 q)

-- ---- the values at the places

-- those at the first j places are put back too
pub record PutTo (J w f : List ℕ) (j : ℕ) : Type 0 where
  pub freed : Freed J w f
  pub upto : j ≤ length J
  pub chosen : (i : ℕ) → i < j → get_or w i 0 ≡ coordinate_at f J i

pub put_none : {J w f : List ℕ} → Freed J w f → PutTo J w f 0
put_none h = record { freed = h; upto = omega arith; chosen = λ i l. absurd (omega arith) }

module _ {J w f₀ f : List ℕ} {j : ℕ} (h : Marked J w f₀) (a : PutTo J w f j) (l : j < length J) where
  pub put_in : get_or J j 0 - 1 < length f
  put_in = omega (arith, h.places j l, a.freed.size)

  pub put_turn : PutTo J w (set f (get_or J j 0 - 1) (get_or w j 0)) (j + 1)
  put_turn =
      record {
        freed = record {
          size = a.freed.size ∙ sym (length-set f c _);
          rest = λ t k e.
              a.freed.rest t (rw (length-set f c (get_or w j 0)) at k) e ∙ sym (get_or-set_other f c t _ 0 (λ q. free_one J t j e l (omega (arith, h.places j l))));
        };
        upto = omega arith;
        chosen = λ i k. by i k (ℕ_discrete i j);
      }
    where
      c : ℕ
      c = get_or J j 0 - 1

      by : (i : ℕ) → i < j + 1 → Dec (i ≡ j) → get_or w i 0 ≡ coordinate_at (set f c (get_or w j 0)) J i
      by i k (yes q) = rw q (sym (get_or-set_same f c (get_or w j 0) 0 put_in))
      by i k (no q) =
          a.chosen i (omega arith)
          ∙ sym (get_or-set_other f c (get_or J i 0 - 1) (get_or w j 0) 0 (λ e. h.apart i j (omega arith) l (omega (arith, h.places i (omega arith), h.places j l))))
