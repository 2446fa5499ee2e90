-- What the code's tests say of a step: a state that passes still holds means one hour further, and a call on the bytes answers as the step does.
use Prim.Native.Nat.{ℕ, ◌^◌, ◌≤◌}
use mathlib.Core.Path.{◌≡◌, refl, sym, ◌∙◌, ap}
use mathlib.Core.Logic.{◌⊎◌, inl, inr, ⊎_elim}
use native.Mathlib.Omega.{arith}
use mathlib.Core.Bool.{Bool, true, false, ◌&&◌}
use mathlib.Core.List.{List, [], ◌∷◌}
use borrow.Author.Tests.{leb-true, eqb-true, eq-eqb}
use lib.Dec.{leb, eqb}
use lib.IntN.{ℤ}
use lib.ListN.{length, take, drop, set}
use Rattle.basics.specs.Lists.{all}
use Rattle.basics.specs.Outcome.{Answer, Done, Refused, Outcome, refused, accepted, check, answer, left, Meets}
use Rattle.basics.specs.declared.Refusal.{Refusal}
use Rattle.basics.specs.declared.Refusal.TheVariants.{Reading, NoRun}
use Rattle.basics.proofs.Lists.{both_left, both_right, both_true, all_take}
use Rattle.basics.proofs.Outcomes.{pass, accept_pair, meets_as}
use Rattle.hours.specs.Means.{absent}
use Rattle.hours.specs.Packing.{valid, encode, is_code}
use Rattle.hours.proofs.Numbers.{encode_code}
use Rattle.rolling.specs.declared.state.RollingState.{RollingState}
use Rattle.rolling.specs.State.{absent_code, possible, continues, advanced, figure, tested, step_outcome}
use Rattle.rolling.specs.Bytes.{state_bytes, state_from, rolling_outcome}

unlike : {e : Refusal} → ◌≡◌ {A = Answer} Done (Refused e) → ⊥
unlike q = let z : ◌≡◌ {A = ℕ} 0 1 = cc in omega arith

-- two outcomes with the same tests: both end, the one in m and the other in q, or both refuse alike
module _ {M N : Type 0} where
  abbrev Alike : M → Outcome N → Outcome M → Outcome N → Type 0
  Alike m q o p = ((o ≡ accepted m) × (p ≡ q)) ⊎ ((e : Refusal) × (o ≡ refused e) × (p ≡ refused e))

  one_more : (b : Bool) (e : Refusal) (m : M) (q : Outcome N) (o : Outcome M) (p : Outcome N) → Alike m q o p → Alike m q (check b e o) (check b e p)
  unfolding check
  one_more true e m q o p h = h
  one_more false e m q o p h = inr (e, refl, refl)

  tested_alike : (s : RollingState) (n : ℕ) (z : ℤ) (m : M) (q : Outcome N) → Alike m q (tested s n z (accepted m)) (tested s n z q)
  tested_alike s n z m q =
      one_more (valid z) Reading m q _ _ (one_more (possible s) NoRun m q _ _ (one_more (continues s.next n) NoRun m q _ _ (inl (refl, refl))))

  both_end : (m : M) (q : Outcome N) {o : Outcome M} {p : Outcome N} {old new : M} → Alike m q o p → Meets o Done old new → (new ≡ m) × (p ≡ q)
  unfolding answer left
  both_end m q h t = ⊎_elim (λ k. (t.leaves ∙ ap (left _) k.0, k.1)) (λ k. absurd (unlike (t.answers ∙ ap answer k.1))) h

  both_stop : (m : M) (q : Outcome N) {o : Outcome M} {p : Outcome N} {e : Refusal} {old new : M} (old' : N) → Alike m q o p → Meets o (Refused e) old new
      → Meets p (Refused e) old' old'
  unfolding answer left
  both_stop m q old' h t =
      ⊎_elim (λ k. absurd (unlike (sym (t.answers ∙ ap answer k.0)))) (λ k. rw k.2 (record { answers = t.answers ∙ ap answer k.1; leaves = refl })) h

-- what the test of a state tells
pub record Possible (s : RollingState) : Type 0 where
  pub next_small : s.next ≤ 2 ^ 32
  pub spare_zero : s.spare ≡ 0
  pub all_codes : all is_code s.codes ≡ true
  pub none_before : all absent_code (drop s.next s.codes) ≡ true

pub possible_says : (s : RollingState) → possible s ≡ true → Possible s
unfolding possible
possible_says s p =
    let numbers = leb s.next (2 ^ 32) && eqb s.spare 0 in
    let front = both_left (numbers && all is_code s.codes) (all absent_code (drop s.next s.codes)) p in
    let both-numbers = both_left numbers (all is_code s.codes) front in
    record {
      next_small = leb-true s.next (2 ^ 32) (both_left (leb s.next (2 ^ 32)) (eqb s.spare 0) both-numbers);
      spare_zero = eqb-true s.spare 0 (both_right (leb s.next (2 ^ 32)) (eqb s.spare 0) both-numbers);
      all_codes = both_right numbers (all is_code s.codes) front;
      none_before = both_right (numbers && all is_code s.codes) (all absent_code (drop s.next s.codes)) p;
    }

pub advanced_codes : (s : RollingState) (n : ℕ) (z : ℤ) → possible s ≡ true → valid z ≡ true → all is_code (advanced s n z).codes ≡ true
unfolding advanced
advanced_codes s n z p v =
    both_true (is_code (encode z)) (all is_code (take 23 s.codes)) (encode_code z v) (all_take is_code s.codes 23 (possible_says s p).all_codes)

-- ---- a call on the bytes answers as the step from the state in them

-- a list of one, filled
only_one : (l : List ℤ) (z : ℤ) → length l ≡ 1 → set l 0 z ≡ z ∷ []
only_one [] z e = absurd (omega arith)
only_one (x ∷ []) z e = refl
only_one (x ∷ y ∷ l) z e = absurd (omega arith)

module _ (bytes : List ℕ) (n : ℕ) (z : ℤ) (out : List ℤ) (lengths : (length bytes ≡ 64) × (length out ≡ 1)) where
  abbrev old : RollingState
  old = state_from bytes

  abbrev written : List ℕ × List ℤ
  written = let new = advanced old n z in (state_bytes new, figure new.codes ∷ [])

  -- behind the tests of the lengths
  behind_lengths : {a : Answer} {m : List ℕ × List ℤ} → Meets (tested old n z (accepted written)) a (bytes, out) m → Meets (rolling_outcome bytes n z out) a (bytes, out) m
  behind_lengths met = pass _ (eq-eqb _ _ lengths.0) (pass _ (eq-eqb _ _ lengths.1) met)

  abbrev given : RollingState × ℤ
  given = let new = advanced old n z in (new, figure new.codes)

  pub call_stops : {e : Refusal} {new : RollingState × ℤ} → Meets (step_outcome old n z) (Refused e) (old, absent) new → Meets (rolling_outcome bytes n z out) (Refused e) (bytes, out) (bytes, out)
  call_stops met = behind_lengths (both_stop given (accepted written) (bytes, out) (tested_alike old n z given (accepted written)) met)

  pub call_ends : {new : RollingState} {m : ℤ} → Meets (step_outcome old n z) Done (old, absent) (new, m) → {bytes' : List ℕ} → bytes' ≡ state_bytes new
      → Meets (rolling_outcome bytes n z out) Done (bytes, out) (bytes', set out 0 m)
  call_ends {m = m} met stored =
      let end = both_end given (accepted written) (tested_alike old n z given (accepted written)) met in
      behind_lengths (meets_as end.1
      (accept_pair (stored ∙ ap (λ p. state_bytes p.0) end.0) (only_one out m lengths.1 ∙ ap (λ p. p.1 ∷ []) end.0)))
