-- The loop's invariant: the first i agree, so the rest decides.
use Prim.Native.Nat.{ℕ, ◌-◌, ◌<◌}
use mathlib.Core.Path.{◌≡◌, sym, ◌∙◌, ap}
use mathlib.Core.List.{List, map}
use lib.ListN.{length, get_or, drop}
use Rattle.basics.specs.Lists.{same}
use Rattle.basics.proofs.Lists.{get_or_map_in}
use Rattle.codewords.specs.Codewords.{agrees}
use Rattle.solving.proofs.words.agrees_at.Given as goal

-- the symbol at a place, and what is read at its index
abbrev pub symbol : List ℕ → ℕ → ℕ
symbol f p = get_or f (p - 1) 0

pub read : (f places : List ℕ) (i : ℕ) {p j : ℕ} → i < length places → p ≡ get_or places i 0 → j ≡ p - 1 → get_or (map (symbol f) places) i 0 ≡ get_or f j 0
read f places i h e₁ e₂ = get_or_map_in (symbol f) places i 0 0 h ∙ ap (symbol f) (sym e₁) ∙ ap (λ j. get_or f j 0) (sym e₂)

abbrev pub invariant-loop-i : goal.invariant-loop-i
invariant-loop-i l = same (drop l.i (map (symbol l.f) l.places)) (drop l.i l.symbols) ≡ agrees l.f l.places l.symbols
