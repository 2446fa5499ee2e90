-- The trusts of picked places never rise: Pick keeps the order of the ranking.
use Rattle.basics.specs.Outcome.{Done}
use Prim.Native.Nat.{ℕ, zero, suc, ◌-◌, ◌<◌, ◌≤◌}
use mathlib.Core.Path.{◌≡◌, sym, subst}
use mathlib.Core.Bool.{Bool, true, false, cond}
use mathlib.Core.Logic.{inl, inr}
use mathlib.Core.List.{List, [], ◌∷◌, ◌++◌, map}
use native.Mathlib.Omega.{arith}
use native.Mathlib.Nat.{le_of_suc-le-suc}
use lib.ListN.{length, get_or, take}
use Rattle.elliptic.proofs.Points.{All, All.nil, All.cons}
use Rattle.codewords.specs.Code.{Code, n, code_answer}
use Rattle.codewords.specs.Codewords.{usable, first_ranks, next_ranks}
use Rattle.codewords.proofs.Accepted.{accepted_done}
use Rattle.codewords.proofs.Picking.{all_join}
use Rattle.codewords.proofs.Places.{all_at}
use Rattle.patterns.specs.Ranking.{trust_at, ranking}
use Rattle.patterns.specs.Best.{entries, picked}
use Rattle.patterns.proofs.Parts.{all_take}
use Rattle.patterns.proofs.Ranking.{Before, Sorted, Sorted.empty, Sorted.more, sorted_ranking, ranking_length}
use Rattle.patterns.proofs.Words.{picked_is}

pub data Falling : List ℕ → Type 0 where
  level : Falling []
  fall : {t : ℕ} {ts : List ℕ} → All (λ u. u ≤ t) ts → Falling ts → Falling (t ∷ ts)

pub falling_at : {ts : List ℕ} → Falling ts → (i j : ℕ) → i ≤ j → j < length ts → get_or ts j 0 ≤ get_or ts i 0
falling_at level i j h k = absurd (omega arith)
falling_at (fall a f) zero zero h k = omega arith
falling_at (fall a f) zero (suc j) h k = all_at 0 a j (le_of_suc-le-suc k)
falling_at (fall a f) (suc i) zero h k = absurd (omega arith)
falling_at (fall a f) (suc i) (suc j) h k = falling_at f i j (le_of_suc-le-suc h) (le_of_suc-le-suc k)

module _ (trust : ℕ → ℕ) where
  falling_sorted : {l : List ℕ} → Sorted trust l → Falling (map trust l)
  falling_sorted empty = level
  falling_sorted (more {r} {l} a s) = fall (heads a) (falling_sorted s)
    where
      lower : (p : ℕ) → Before trust r p → trust p ≤ trust r
      lower p (inl h) = omega arith
      lower p (inr (e, _)) = omega arith

      heads : {l : List ℕ} → All (Before trust r) l → All (λ u. u ≤ trust r) (map trust l)
      heads nil = nil
      heads (cons {a = p} h hs) = cons (lower p h) (heads hs)

  sorted_take : (m : ℕ) {l : List ℕ} → Sorted trust l → Sorted trust (take m l)
  sorted_take zero s = empty
  sorted_take (suc m) empty = empty
  sorted_take (suc m) (more a s) = more (all_take m a) (sorted_take m s)

  -- the first m and a later one
  sorted_skip : (m j : ℕ) {l : List ℕ} → Sorted trust l → m ≤ j → j < length l → Sorted trust (take m l ++ get_or l j 0 ∷ [])
  sorted_skip zero j s h k = more nil empty
  sorted_skip (suc m) j empty h k = absurd (omega arith)
  sorted_skip (suc m) zero (more a s) h k = absurd (omega arith)
  sorted_skip (suc m) (suc j) (more a s) h k =
      more (all_join (all_take m a) (cons (all_at 0 a j (le_of_suc-le-suc k)) nil)) (sorted_skip m j s (le_of_suc-le-suc h) (le_of_suc-le-suc k))

module _ (code : Code) (done : code_answer code ≡ Done) (trusts : List ℕ) where
  sorted_picked : Sorted (trust_at trusts) (picked code trusts)
  unfolding picked first_ranks next_ranks
  sorted_picked = subst (λ l. Sorted (trust_at trusts) l) (sym (picked_is code done trusts).ranks) (by (usable code (first_ranks code ranked)))
    where
      ranked : List ℕ
      ranked = ranking (trust_at trusts) (n code)

      s : Sorted (trust_at trusts) ranked
      s = sorted_ranking (trust_at trusts) (n code)

      by : (b : Bool) → Sorted (trust_at trusts) (cond b (first_ranks code ranked) (next_ranks code ranked))
      by true = sorted_take (trust_at trusts) code.k s
      by false = sorted_skip (trust_at trusts) (code.k - 1) code.k s (omega arith) (omega (arith, ranking_length (trust_at trusts) (n code), (accepted_done code done).k_most))

  pub falling_picked : Falling (entries trusts (picked code trusts))
  unfolding entries
  falling_picked = falling_sorted (trust_at trusts) sorted_picked
