-- Running through the tries: one list after another, a list of which no try is cheaper, and loops, which go on with what is left of the tries.
use Prim.Native.Nat.{ℕ, zero, suc, ◌-◌, ◌≤◌}
use mathlib.Core.Path.{◌≡◌, refl, sym, ◌∙◌, ap}
use mathlib.Core.List.{List, [], ◌∷◌, ◌++◌}
use lib.ListN.{length, take}
use Rattle.elliptic.proofs.Points.{All, All.nil, All.cons}
use Rattle.codewords.specs.Code.{Code}
use Rattle.patterns.specs.Patterns.{each}
use Rattle.patterns.specs.Cheapest.{cheapest}
use Rattle.patterns.proofs.Runs.{take_append, cheapest_append, none_cheaper}
use Rattle.search.specs.declared.block.Found.{Found}
use Rattle.search.specs.Found.{change_of}
use Rattle.search.specs.Search.{price, IsTry, Runs}

all_take : {A : Type 0} {P : A → Type 0} (m : ℕ) {l : List A} → All P l → All P (take m l)
all_take zero nil = nil
all_take zero (cons h hs) = nil
all_take (suc m) nil = nil
all_take (suc m) (cons h hs) = cons h (all_take m hs)

module _ {code : Code} {received trusts : List ℕ} where
  -- none is left
  pub runs_none : {f : Found} (l : List (List ℕ)) → IsTry code received trusts f → Runs code received trusts f 0 l f
  unfolding cheapest
  runs_none [] t = record { is_try = t; best = refl }
  runs_none (c ∷ l) t = record { is_try = t; best = refl }

  -- there are none
  pub runs_empty : {f : Found} (m : ℕ) → IsTry code received trusts f → Runs code received trusts f m [] f
  unfolding cheapest
  runs_empty zero t = record { is_try = t; best = refl }
  runs_empty (suc m) t = record { is_try = t; best = refl }

  -- no try is cheaper
  pub runs_past : {f : Found} (m : ℕ) {l : List (List ℕ)} → IsTry code received trusts f → All (λ c. f.cost ≤ price code received trusts c) l → Runs code received trusts f m l f
  runs_past {f} m t h =
      record {
        is_try = t;
        best = sym (none_cheaper (price code received trusts) (change_of code.k f) (all_take m (rw t.costs at h)));
      }

  -- one list, and then another with what is left
  pub runs_then : {f g r : Found} {m w : ℕ} {l s : List (List ℕ)} → length l ≡ w → Runs code received trusts f m l g → Runs code received trusts g (m - w) s r → Runs code received trusts f m (l ++ s) r
  runs_then {f} {g} {r} {m} {w} {l} {s} e a b =
      record {
        is_try = b.is_try;
        best =
            b.best ∙ ap (λ c. cheapest (price code received trusts) c (take (m - w) s)) a.best
            ∙ sym (cheapest_append (price code received trusts) (change_of code.k f) (take m l) (take (m - w) s))
            ∙ ap (λ n. cheapest (price code received trusts) (change_of code.k f) (take m l ++ take (m - n) s)) (sym e)
            ∙ sym (ap (cheapest (price code received trusts) (change_of code.k f)) (take_append m l s));
      }

-- a loop has the lists of l still to go: whatever they give is what all give
pub record Going (code : Code) (received trusts : List ℕ) {A : Type 0} (give : A → List (List ℕ)) (f₀ : Found) (m₀ : ℕ) (whole : List (List ℕ)) (f : Found) (m : ℕ) (l : List A) : Type 0 where
  pub is_try : IsTry code received trusts f
  pub on : (r : Found) → Runs code received trusts f m (each l give) r → Runs code received trusts f₀ m₀ whole r

module _ {code : Code} {received trusts : List ℕ} {A : Type 0} {give : A → List (List ℕ)} {f₀ : Found} {m₀ : ℕ} where
  pub going_start : (l : List A) → IsTry code received trusts f₀ → Going code received trusts give f₀ m₀ (each l give) f₀ m₀ l
  going_start l t = record { is_try = t; on = λ r x. x }

  pub going_turn : {whole : List (List ℕ)} {f g : Found} {m w : ℕ} {a : A} {l : List A} → length (give a) ≡ w → Runs code received trusts f m (give a) g
      → Going code received trusts give f₀ m₀ whole f m (a ∷ l) → Going code received trusts give f₀ m₀ whole g (m - w) l
  going_turn e t w = record { is_try = t.is_try; on = λ r x. w.on r (runs_then e t x) }

  pub going_end : {whole : List (List ℕ)} {f : Found} {m : ℕ} → Going code received trusts give f₀ m₀ whole f m [] → Runs code received trusts f₀ m₀ whole f
  going_end {f = f} {m} w = w.on f (runs_empty m w.is_try)
