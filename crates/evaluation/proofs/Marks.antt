-- The list of different bytes: each byte that is marked is on the list.
use Prim.Native.Nat.{ℕ, ◌+◌, ◌<◌, ◌≤◌}
use mathlib.Core.Path.{◌≡◌, refl, sym, ap, ◌∙◌}
use mathlib.Core.Bool.{Bool, true, false, not}
use mathlib.Core.List.{List}
use native.Mathlib.Decide.{ℕ_discrete}
use native.Mathlib.Omega.{arith}
use mir.Val.{bool_byte}
use lib.ListN.{length, get_or, set, replicate, length-set, length-replicate, get_or-replicate}
use lib.Seq.{get_or-set_same, get_or-set_other}
use Rattle.evaluation.specs.Parts.{Among, Lists}

-- the first i of xs are listed
pub record Marked (xs : List ℕ) (seen : List Bool) (out : List ℕ) (d i : ℕ) : Type 0 where
  pub marks_size : length seen ≡ 256
  pub size : length out ≡ 292
  pub few : d ≤ i
  pub marks : (x : ℕ) → x < 256 → get_or seen x false ≡ true → Among out d x
  pub listed : (t : ℕ) → t < i → Among out d (get_or xs t 0)

pub marked_none : (xs : List ℕ) {seen : List Bool} {out : List ℕ} → seen ≡ replicate 256 false → length out ≡ 292 → Marked xs seen out 0 0
marked_none xs {seen} e s =
    record {
      marks_size = ap length e ∙ length-replicate {A = Bool} 256 false;
      size = s;
      few = omega arith;
      marks = λ x l q. let none : get_or seen x false ≡ false = rw e (get_or-replicate 256 x false false l) in absurd (false_true (sym none ∙ q));
      listed = λ t l. absurd (omega arith);
    }
  where
    false_true : false ≡ true → ⊥
    false_true e = cc

module _ {xs : List ℕ} {seen : List Bool} {out : List ℕ} {d i x : ℕ} (h : Marked xs seen out d i) (byte : x < 256) (inside : d < 292) (e : x ≡ get_or xs i 0) where
  keeps : (n z : ℕ) → d ≤ n → Among out d z → Among (set out d x) n z
  keeps n z l (j, k, q) = (j, omega arith, get_or-set_other out d j x 0 (λ s. omega arith) ∙ q)

  -- x is written behind those so far, and was among them where it was marked
  written : (s : Bool) → (s ≡ true → Among out d x) → (d ≤ d + bool_byte (not s)) × (d + bool_byte (not s) ≤ d + 1) × Among (set out d x) (d + bool_byte (not s)) x
  written true a = (omega arith, omega arith, keeps (d + 0) x (omega arith) (a refl))
  written false a = (omega arith, omega arith, (d, omega arith, get_or-set_same out d x 0 (omega (arith, h.size))))

  pub marked_more : {n : ℕ} → n ≡ d + bool_byte (not (get_or seen x false)) → Marked xs (set seen x true) (set out d x) n (i + 1)
  marked_more {n} f = rw f (more (written (get_or seen x false) (h.marks x byte)))
    where
      m : ℕ
      m = d + bool_byte (not (get_or seen x false))

      more : (d ≤ m) × (m ≤ d + 1) × Among (set out d x) m x → Marked xs (set seen x true) (set out d x) m (i + 1)
      more (l, u, there) =
          record {
            marks_size = length-set seen x true ∙ h.marks_size;
            size = length-set out d x ∙ h.size;
            few = omega (arith, h.few);
            marks = λ z k q. marks z k q (ℕ_discrete z x);
            listed = λ t k. listed t k (ℕ_discrete t i);
          }
        where
          marks : (z : ℕ) → z < 256 → get_or (set seen x true) z false ≡ true → Dec (z ≡ x) → Among (set out d x) m z
          marks z k q (yes s) = rw s there
          marks z k q (no s) = keeps m z l (h.marks z k (sym (get_or-set_other seen x z true false s) ∙ q))

          listed : (t : ℕ) → t < i + 1 → Dec (t ≡ i) → Among (set out d x) m (get_or xs t 0)
          listed t k (yes s) = rw (s, ← e) there
          listed t k (no s) = keeps m (get_or xs t 0) l (h.listed t (omega arith))

pub marked_all : {xs : List ℕ} {seen : List Bool} {out : List ℕ} {d i : ℕ} → Marked xs seen out d i → length xs ≡ i → Lists xs out d
marked_all h l = record { few = omega (arith, h.few); listed = λ i k. h.listed i (omega arith) }
