-- The loop over picked places goes on with the places before.
use Prim.Native.Nat.{ℕ, zero, suc, ◌-◌, ◌<◌, ◌≤◌}
use mathlib.Core.Path.{◌≡◌, refl, ◌∙◌, ap}
use mathlib.Core.List.{List}
use native.Mathlib.Omega.{arith}
use lib.ListN.{length, set, length-map}
use Rattle.codewords.specs.Code.{Code, q}
use Rattle.patterns.specs.Patterns.{down, amounts, none, singles}
use Rattle.patterns.proofs.Each.{length_amounts}
use Rattle.search.specs.declared.block.Found.{Found}
use Rattle.search.specs.Search.{values, IsTry, Runs}
use Rattle.search.proofs.Running.{Going, going_start, going_turn, going_end, runs_none}

-- ---- places from the last to the first

module _ {code : Code} {received trusts : List ℕ} {give : ℕ → List (List ℕ)} {f₀ : Found} {m₀ : ℕ} {whole : List (List ℕ)} where
  pub going_down : {f g : Found} {m less : ℕ} (i : ℕ) → 0 < i → less ≡ m - length (give (i - 1)) → Runs code received trusts f m (give (i - 1)) g
      → Going code received trusts give f₀ m₀ whole f m (down i) → Going code received trusts give f₀ m₀ whole g less (down (i - 1))
  unfolding down
  going_down zero h e t s = absurd (omega arith)
  going_down {m = m} (suc j) h e t s =
      let one : suc j - 1 ≡ j = omega arith in
      rw one (rw (e ∙ ap (λ i. m - length (give i)) one) (going_turn refl (rw one at t) s))

  pub going_over : {f : Found} {m : ℕ} (i : ℕ) → i ≤ 0 → Going code received trusts give f₀ m₀ whole f m (down i) → Runs code received trusts f₀ m₀ whole f
  unfolding down
  going_over zero h s = going_end s
  going_over (suc j) h s = absurd (omega arith)

-- none is left
pub runs_over : {code : Code} {received trusts : List ℕ} {f : Found} (m : ℕ) (l : List (List ℕ)) → m ≤ 0 → IsTry code received trusts f
    → Runs code received trusts f m l f
runs_over zero l h t = runs_none l t
runs_over (suc m) l h t = absurd (omega arith)

pub length_values : (q : ℕ) (c : List ℕ) (i : ℕ) → length (values q c i) ≡ q - 1
length_values q c i = length-map (amounts q) (λ e. set c i e) ∙ length_amounts q

pub singles_start : (code : Code) (received trusts : List ℕ) {f : Found} (m : ℕ) → IsTry code received trusts f
    → Going code received trusts (values (q code) (none code.k)) f m (singles (q code) code.k) f m (down code.k)
unfolding singles
singles_start code received trusts m t = going_start (down code.k) t
