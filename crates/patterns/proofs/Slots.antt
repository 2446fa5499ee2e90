-- The costs of all multiples of a row at once: a place where the row is not zero is right for one multiple only, so one pass over the places gathers
-- for each multiple the trust of the places that it puts right.
use Prim.Native.Nat.{ℕ, ◌+◌, ◌<◌}
use mathlib.Core.Path.{◌≡◌, refl, sym, ◌∙◌, ap, ap₂}
use mathlib.Core.Bool.{Bool, true, false, cond}
use mathlib.Core.List.{List, [], ◌∷◌}
use native.Mathlib.Omega.{arith}
use native.Mathlib.Decide.{ℕ_discrete}
use lib.Dec.{eqb}
use lib.ListN.{length}
use borrow.Author.Tests.{eq-eqb, ne_eqb}
use Rattle.field.specs.Sum.{◌⊕◌}
use Rattle.field.specs.Field.{Arithmetic, Field}
use Rattle.field.proofs.Sum.{⊕_assoc, ⊕_self, ⊕_eq, ⊕_zero}
use Rattle.field.proofs.Laws.{·_comm, ·_zero, mul_one, inv_cancel}
use Rattle.elliptic.specs.Pair.{add_scaled}
use Rattle.elliptic.proofs.Points.{All, All.nil, All.cons}
use Rattle.patterns.specs.Cheapest.{differing, weigh}
use Rattle.patterns.specs.Slots.{always, saves, fixed, saved}
use Rattle.patterns.specs.Best.{changed, cost}
use Rattle.patterns.proofs.Changes.{changed_length, changed_twice, differing_changed}
use Rattle.patterns.proofs.Weights.{differing_none}

module _ {F : Arithmetic} (K : Field F) where
  infixl 70 ◌·◌
  open F use {q, ◌·◌, inv}
  open K use {mul_inv, mul_assoc}

  -- e times r takes x to 0 exactly if e is x / r
  slot_hit : (e r x : ℕ) → e < q → r < q → x < q → (r ≡ 0 → ⊥) → eqb 0 (x ⊕ e · r) ≡ eqb (x · inv r) e
  slot_hit e r x he hr hx n = by (ℕ_discrete 0 (x ⊕ e · r))
    where
      hit : 0 ≡ x ⊕ e · r → x · inv r ≡ e
      hit g = ap (λ y. y · inv r) (⊕_eq (sym g)) ∙ ·_comm K (e · r) (inv r) ∙ ap (λ y. inv r · y) (·_comm K e r) ∙ inv_cancel K r e hr n he

      back : x · inv r ≡ e → 0 ≡ x ⊕ e · r
      back g =
          let d : e · r ≡ x = ap (λ y. y · r) (sym g) ∙ mul_assoc x (inv r) r ∙ ap (λ y. x · y) (·_comm K (inv r) r ∙ mul_inv r hr n) ∙ mul_one K x hx in
          sym (ap (λ y. x ⊕ y) d ∙ ⊕_self x)

      by : Dec (0 ≡ x ⊕ e · r) → eqb 0 (x ⊕ e · r) ≡ eqb (x · inv r) e
      by (yes g) = eq-eqb 0 _ g ∙ sym (eq-eqb _ e (hit g))
      by (no g) = ne_eqb 0 _ g ∙ sym (ne_eqb _ e (λ h. g (back h)))

  place_cost : (e t r x : ℕ) → e < q → r < q → x < q → cond (eqb 0 (x ⊕ e · r)) 0 t + saves F e t r x ≡ always F t r x
  place_cost e t r x he hr hx = by (ℕ_discrete r 0)
    where
      sums : (b : Bool) → cond b 0 t + cond b t 0 ≡ t
      sums true = omega arith
      sums false = omega arith

      by : Dec (r ≡ 0) → cond (eqb 0 (x ⊕ e · r)) 0 t + saves F e t r x ≡ always F t r x
      by (yes z) = rw (z, ·_zero K e, ⊕_zero x) (omega arith)
      by (no n) = rw (slot_hit e r x he hr hx n, ne_eqb r 0 n) (sums (eqb (x · inv r) e))

  -- THEOREM: a difference with e times the row has the weight of what all multiples cost, less what e saves
  pub weight_saved : (e : ℕ) → e < q → (ts : List ℕ) {rs xs : List ℕ} → All (λ r. r < q) rs → All (λ x. x < q) xs → length rs ≡ length xs
      → weigh ts (add_scaled F e rs xs) + saved F e ts rs xs ≡ fixed F ts rs xs
  unfolding add_scaled
  weight_saved e he [] R X l = refl
  weight_saved e he (t ∷ ts) nil nil l = refl
  weight_saved e he (t ∷ ts) nil (cons k X) l = absurd (omega arith)
  weight_saved e he (t ∷ ts) (cons g R) nil l = absurd (omega arith)
  weight_saved e he (t ∷ ts) (cons {a = r} g R) (cons {a = x} k X) l = omega (arith, place_cost e t r x he g k, weight_saved e he ts R X (omega arith))

-- ---- costs by differences

-- a word costs the weight of its difference from what was received
pub cost_difference : (received trusts w : List ℕ) → length trusts ≡ length received → length received ≡ length w → cost received trusts w ≡ weigh trusts (changed received w)
unfolding cost
cost_difference received trusts w t l =
    ap (differing trusts received) (sym (changed_twice received w l)) ∙ sym (differing_changed trusts received (changed received w) (sym (changed_length received w)))
    ∙ differing_none (length received) trusts (changed received w) t

-- and a multiple of a row moves both alike
pub difference_add : (F : Arithmetic) (e : ℕ) (received rs ws : List ℕ) → length received ≡ length ws → length rs ≡ length ws
    → changed received (add_scaled F e rs ws) ≡ add_scaled F e rs (changed received ws)
unfolding changed add_scaled
difference_add F e [] [] [] h k = refl
difference_add F e [] [] (w ∷ ws) h k = absurd (omega arith)
difference_add F e [] (r ∷ rs) [] h k = absurd (omega arith)
difference_add F e [] (r ∷ rs) (w ∷ ws) h k = absurd (omega arith)
difference_add F e (s ∷ ss) [] [] h k = absurd (omega arith)
difference_add F e (s ∷ ss) [] (w ∷ ws) h k = absurd (omega arith)
difference_add F e (s ∷ ss) (r ∷ rs) [] h k = absurd (omega arith)
difference_add F e (s ∷ ss) (r ∷ rs) (w ∷ ws) h k = ap₂ ◌∷◌ (sym (⊕_assoc s w (F.◌·◌ e r))) (difference_add F e ss rs ws (omega arith) (omega arith))
