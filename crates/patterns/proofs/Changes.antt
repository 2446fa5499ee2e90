-- Changes of symbols: a change done twice is none, and the places where it changes a word are those where it is not 0.
use Prim.Native.Nat.{ℕ, suc, ◌+◌, ◌<◌}
use mathlib.Core.Path.{◌≡◌, refl, sym, ◌∙◌, ap, ap₂}
use mathlib.Core.Bool.{cond}
use mathlib.Core.List.{List, [], ◌∷◌}
use native.Mathlib.Omega.{arith}
use native.Mathlib.Decide.{ℕ_discrete}
use lib.Dec.{eqb}
use lib.ListN.{length}
use borrow.Author.Tests.{eq-eqb, ne_eqb}
use Rattle.field.specs.Sum.{◌⊕◌}
use Rattle.field.proofs.Sum.{⊕_zero, ⊕_cancel, ⊕_self}
use Rattle.elliptic.proofs.Points.{All, All.nil, All.cons}
use Rattle.patterns.specs.Patterns.{none}
use Rattle.patterns.specs.Cheapest.{differing}
use Rattle.patterns.specs.Best.{changed}

pub changed_length : (u c : List ℕ) → length (changed u c) ≡ length u
unfolding changed
changed_length [] c = refl
changed_length (a ∷ u) [] = refl
changed_length (a ∷ u) (d ∷ c) = ap suc (changed_length u c)

pub changed_twice : (u c : List ℕ) → length u ≡ length c → changed u (changed u c) ≡ c
unfolding changed
changed_twice [] [] e = refl
changed_twice [] (d ∷ c) e = absurd (omega arith)
changed_twice (a ∷ u) [] e = absurd (omega arith)
changed_twice (a ∷ u) (d ∷ c) e = ap₂ ◌∷◌ (⊕_cancel a d) (changed_twice u c (omega arith))

-- symbols stay symbols
pub changed_below : {q : ℕ} → ((a b : ℕ) → a < q → b < q → a ⊕ b < q) → {u c : List ℕ} → All (λ s. s < q) u → All (λ s. s < q) c → All (λ s. s < q) (changed u c)
unfolding changed
changed_below h nil c = nil
changed_below h (cons k ks) nil = cons k ks
changed_below h (cons {a} k ks) (cons {a = d} m ms) = cons (h a d k m) (changed_below h ks ms)

moved : (a d : ℕ) → eqb 0 d ≡ eqb a (a ⊕ d)
moved a d = by (ℕ_discrete d 0)
  where
    by : Dec (d ≡ 0) → eqb 0 d ≡ eqb a (a ⊕ d)
    by (yes e) = eq-eqb 0 d (sym e) ∙ sym (eq-eqb a (a ⊕ d) (sym (ap (λ d. a ⊕ d) e ∙ ⊕_zero a)))
    by (no n) = ne_eqb 0 d (λ e. n (sym e)) ∙ sym (ne_eqb a (a ⊕ d) (λ e. n (sym (⊕_cancel a d) ∙ ap (λ s. a ⊕ s) (sym e) ∙ ⊕_self a)))

-- THEOREM: a word and its change differ by the trust of the places that are changed
pub differing_changed : (ts u c : List ℕ) → length u ≡ length c → differing ts (none (length u)) c ≡ differing ts u (changed u c)
unfolding differing changed
differing_changed [] u c e = refl
differing_changed (t ∷ ts) [] c e = refl
differing_changed (t ∷ ts) (a ∷ u) [] e = absurd (omega arith)
differing_changed (t ∷ ts) (a ∷ u) (d ∷ c) e = ap₂ (λ b n. cond b 0 t + n) (moved a d) (differing_changed ts u c (omega arith))
