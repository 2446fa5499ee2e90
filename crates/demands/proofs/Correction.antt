-- Request S-1: past its tests Correct is decided by whether a codeword lies within t, and by the theorem on words near a codeword there is at most one.
use Rattle.basics.specs.Outcome.{Answer, Counted, Done, Refused}
use Prim.Native.Nat.{ℕ, ◌≤◌}
use mathlib.Core.Path.{◌≡◌, refl, sym, ◌∙◌, ap, subst}
use mathlib.Core.Bool.{true, false}
use mathlib.Core.Logic.{inl, inr, ◌⊎◌}
use mathlib.Core.List.{List, [], ◌∷◌, Memᴰ as In}
use native.Mathlib.Omega.{arith}
use lib.ListN.{length}
use borrow.Author.Tests.{eq-eqb}
use Rattle.basics.specs.declared.Refusal.{Refusal}
use Rattle.basics.specs.declared.Refusal.TheVariants.{TooFar}
use Rattle.codewords.specs.Code.{Code, n, code_answer}
use Rattle.codewords.specs.Codewords.{symbols, codeword}
use Rattle.codewords.proofs.Tests.{not_both}
use Rattle.codewords.proofs.Demand2.{demand2 as on-codewords}
use Rattle.solving.specs.Tests.{Lent, cleared}
use Rattle.decoding.specs.Near.{distance, radius, near, correctable, corrected}
use Rattle.decoding.proofs.Decoding.{decoding}
use Rattle.correction.specs.Outcomes.{correct_outcome}
use Rattle.demands.specs.Call.{Call, Of, Fits}
use Rattle.demands.specs.Correction.{Correction, Corrected, Within, Written}
use Rattle.demands.proofs.Passing.{decides, code_on, length_on, symbols_on, fits_on}
use Rattle.demands.proofs.Ones.{in_one, codeword_length, is_recovered, within_near, within_correctable, the_within}

-- what stands in a list of one entry at most is that one
in_few : {A : Type 0} (l : List A) → length l ≤ 1 → {a b : A} → In a l → In b l → a ≡ b
in_few [] h i j = elim i [ ]
in_few (c ∷ []) h i j = in_one refl i ∙ sym (in_one refl j)
in_few (c ∷ d ∷ l) h i j = absurd (omega arith)

-- no answer is a count and a refusal
unlike : {a : Answer} {s : ℕ} {e : Refusal} → a ≡ Counted s → a ≡ Refused e → ⊥
unlike h g = let z : ◌≡◌ {A = ℕ} 0 1 = cc in omega arith

distance_same : (w : List ℕ) → distance w w ≡ 0
unfolding distance
distance_same [] = refl
distance_same (a ∷ w) = rw (eq-eqb a a refl) (distance_same w)

module _ (code : Code) (done : code_answer code ≡ Done) where
  only : (r w v : List ℕ) → length r ≡ n code → Within code r w → Within code r v → w ≡ v
  only r w v e h g = in_few (near code r) ((decoding code done).one_near r e) (within_near code r h) (within_near code r g)

  codeword_symbols : (w : List ℕ) → codeword code w ≡ true → symbols code w ≡ true
  codeword_symbols w h =
      subst (λ w. symbols code w ≡ true) ((on-codewords code done).word_recovered w h) ((on-codewords code done).word_symbols _ (is_recovered code done w h))

  module _ (r : List ℕ) (c : Call) (h : Of (correct_outcome code r) c) (s : symbols code r ≡ true) (e : length r ≡ n code) (f : Fits (n code) c) where
    -- one lies within t, and it is written; or none does
    abbrev Either : Type 0
    Either = (Within code r (corrected code r) × Written code r (corrected code r) c) ⊎ (((w : List ℕ) → Within code r w → ⊥) × (c.answer ≡ Refused TooFar))

    either : Either
    either = by (decides (correctable code r) (symbols_on code r s (fits_on f (length_on r e (code_on code done h)))))
      where
        by : ((correctable code r ≡ true) × (c.answer ≡ Counted (distance (corrected code r) r)) × (◌≡◌ {A = Lent} (c.out_after, c.work_after) (corrected code r, cleared c.work)))
            ⊎ ((correctable code r ≡ false) × (c.answer ≡ Refused TooFar)) → Either
        by (inl (t, a, m)) = inl (the_within code r t, record { counted = a; written = ap (λ (m : Lent). m.0) m; working = ap (λ (m : Lent). m.1) m })
        by (inr (t, a)) = inr (λ w g. not_both (within_correctable code r g) t, a)

    correct : Corrected code r c
    correct = by either
      where
        by : Either → Corrected code r c
        by (inl (g, w)) =
            record {
              accepts = (λ a. (corrected code r, g), λ v. (distance (corrected code r) r, w.counted));
              none_21 = (λ a. absurd (unlike w.counted a), λ none. absurd (none (corrected code r) g));
              is_within = λ s a. subst (Within code r) (sym w.written) g;
              gives = λ v u. subst (λ v. Written code r v c) (only r (corrected code r) v e g u) w;
            }
        by (inr (none, a)) =
            record {
              accepts = (λ (s, b). absurd (unlike b a), λ (w, g). absurd (none w g));
              none_21 = (λ b. none, λ n. a);
              is_within = λ s b. absurd (unlike b a);
              gives = λ v u. absurd (none v u);
            }

  mended : (w r : List ℕ) (c : Call) → codeword code w ≡ true → distance w r ≤ radius code → Of (correct_outcome code r) c → symbols code r ≡ true
      → length r ≡ n code → Fits (n code) c → Written code r w c
  mended w r c h d o s e f = (correct r c o s e f).gives w (record { is_codeword = h; close = d })

  same : (w : List ℕ) (c : Call) → codeword code w ≡ true → Of (correct_outcome code w) c → Fits (n code) c
      → (c.answer ≡ Counted 0) × (c.out_after ≡ w) × (c.work_after ≡ cleared c.work)
  same w c h o f =
      let m = mended w w c h (omega (arith, distance_same w)) o (codeword_symbols w h) (codeword_length code done w h) f in
      (m.counted ∙ ap Counted (distance_same w), m.written, m.working)

-- THEOREM
pub correction : (code : Code) → code_answer code ≡ Done → Correction code
unfolding radius
correction code done =
    record {
      radius_0 = λ e. omega (arith, e);
      radius_half = λ h. (omega (arith, h), omega (arith, h));
      one_near = (decoding code done).one_near;
      only = only code done;
      correct = correct code done;
      same = same code done;
      mended = mended code done;
    }
