-- A pass from an index on: what is behind it is by the rule, what is before it as it was.
use Prim.Native.Nat.{ℕ, zero, suc, ◌+◌, ◌<◌, ◌≤◌}
use mathlib.Core.Path.{◌≡◌, refl, ◌∙◌}
use mathlib.Core.List.{List, [], ◌∷◌}
use native.Mathlib.Decide.{ℕ_discrete}
use native.Mathlib.Omega.{arith}
use lib.Bits.{bit_xor}
use lib.ListN.{length, get_or, set, length-set}
use lib.Seq.{get_or-set_same, get_or-set_other}
use Rattle.field.specs.Sum.{◌⊕◌}
use Rattle.field.specs.Galois.{galois, product}
use Rattle.elliptic.specs.Pair.{add_scaled}
use Rattle.elliptic.proofs.Function.{length_add}
use Rattle.values.specs.Values.{Swept, Sweeping, raised_at, gained_at}

module _ (rule : ℕ → ℕ) (d : ℕ) (old : List ℕ) where
  pub sweeping_none : Sweeping rule d d old old
  sweeping_none = record { size = refl; done = λ k h l. absurd (omega arith); rest = λ k h. refl }

  pub sweeping_turn : (i : ℕ) {new : List ℕ} {v : ℕ} → i < length old → Sweeping rule d i old new → v ≡ rule i → Sweeping rule d (i + 1) old (set new i v)
  sweeping_turn i {new} {v} h s e =
      record {
        size = length-set new i v ∙ s.size;
        done = λ k a b. done k a b (ℕ_discrete k i);
        rest = λ k a. get_or-set_other new i k v 0 (λ q. omega arith) ∙ s.rest k (omega arith);
      }
    where
      done : (k : ℕ) → d ≤ k → k < i + 1 → Dec (k ≡ i) → get_or (set new i v) k 0 ≡ rule k
      done k a b (yes q) = rw q (get_or-set_same new i v 0 (rw s.size h) ∙ e)
      done k a b (no q) = get_or-set_other new i k v 0 q ∙ s.done k a (omega arith)

  pub sweeping_all : {i : ℕ} {new : List ℕ} → length old ≤ i → Sweeping rule d i old new → Swept rule d old new
  sweeping_all h s = record { size = s.size; at = λ k a b. s.done k a (omega arith) }

-- what a turn computes is by the rule
module _ (m : ℕ) {old new : List ℕ} {rule : ℕ → ℕ} {d i : ℕ} (s : Sweeping rule d i old new) where
  pub raised_by : (xs : List ℕ) (α : ℕ) {p : ℕ} → p ≡ product m (bit_xor (get_or xs i 0) α) (get_or new i 0) → p ≡ raised_at m xs α old i
  unfolding ◌⊕◌
  raised_by xs α e = rw (← s.rest i (omega arith)) e

-- and of a gain: t·h is looked up by the logarithm of t, where h is as it was at i
pub gained_by : (m t : ℕ) (h : List ℕ) {i : ℕ} {old g : List ℕ} {rule : ℕ → ℕ} {d : ℕ} → Sweeping rule d i old g → {c p : ℕ} → c ≡ get_or h i 0 → p ≡ product m t c → bit_xor (get_or g i 0) p ≡ gained_at m t h old i
unfolding ◌⊕◌
gained_by m t h {i = i} s e q = rw (q, e, s.rest i (omega arith))

-- f + t·h of values is a gain at every point
pub swept_add : (m t d : ℕ) (h f : List ℕ) → length h ≡ length f → Swept (gained_at m t h f) d f (add_scaled (galois m) t h f)
unfolding add_scaled
swept_add m t d h f e = record { size = length_add (galois m) t h f (omega arith); at = λ i a b. go h f i e b }
  where
    go : (h f : List ℕ) (i : ℕ) → length h ≡ length f → i < length f → get_or (add_scaled (galois m) t h f) i 0 ≡ gained_at m t h f i
    go [] [] i e l = absurd (omega arith)
    go [] (d ∷ f) i e l = absurd (omega arith)
    go (c ∷ h) [] i e l = absurd (omega arith)
    go (c ∷ h) (d ∷ f) zero e l = refl
    go (c ∷ h) (d ∷ f) (suc i) e l = go h f i (omega arith) (omega arith)
