-- Three stores fill the list of figures, a field has 1 to 255 amounts, and an array whose part was lent is as long as before.
use Prim.Native.Nat.{ℕ, ◌+◌, ◌*◌, ◌-◌, ◌/◌, ◌≤◌, min}
use mathlib.Core.Path.{◌≡◌, refl, ◌∙◌, ap, ap₂}
use mathlib.Core.List.{List, [], ◌∷◌, ◌++◌}
use native.Mathlib.Omega.{arith}
use lib.ListN.{length, set, length-append}
use Rattle.field.specs.Galois.{IsField, size}
use Rattle.field.proofs.Galois.{size_le, size_ge}
use Rattle.patterns.specs.Best.{entries}
use Rattle.patterns.specs.Cheapest.{gap_to}
use Rattle.patterns.specs.Computed.{least_left}

three : (l : List ℕ) (a b c : ℕ) → length l ≡ 3 → set (set (set l 0 a) 1 b) 2 c ≡ a ∷ b ∷ c ∷ []
three [] a b c e = absurd (omega arith)
three (x ∷ []) a b c e = absurd (omega arith)
three (x ∷ y ∷ []) a b c e = absurd (omega arith)
three (x ∷ y ∷ z ∷ []) a b c e = refl
three (x ∷ y ∷ z ∷ w ∷ l) a b c e = absurd (omega arith)

-- r is the size that was computed
module _ {m r : ℕ} (h : IsField m) (e : r ≡ size m) where
  pub amounts_least : 1 ≤ r - 1
  amounts_least = omega (arith, size_ge h)

  pub amounts_most : r - 1 ≤ 255
  amounts_most = omega (arith, size_le h)

module _ (trusts places : List ℕ) (budget cost : ℕ) where
  abbrev made : ℕ → ℕ
  made s = min budget (1 + (length places * s + length places * (length places - 1) / 2 * (s * s)))

  abbrev gap : ℕ → ℕ
  gap s = gap_to cost (least_left (entries trusts places) (length places) s (budget - 1))

  pub all_stored : (m : ℕ) {r t g : ℕ} (l : List ℕ) → length l ≡ 3 → r ≡ size m → t ≡ made (r - 1) → g ≡ gap (r - 1)
      → set (set (set l 0 cost) 1 t) 2 g ≡ cost ∷ made (size m - 1) ∷ gap (size m - 1) ∷ []
  all_stored m {t = t} {g = g} l long e is-t is-g =
      three l cost t g long ∙ ap₂ (λ t g. cost ∷ t ∷ g ∷ []) (is-t ∙ ap (λ r. made (r - 1)) e) (is-g ∙ ap (λ r. gap (r - 1)) e)

-- ---- an array's part that was lent and came back

pub lent_again : {n : ℕ} (last rest : List ℕ) → length last ≡ n → n ≤ length (last ++ rest)
lent_again last rest e = omega (arith, e, length-append last rest)
