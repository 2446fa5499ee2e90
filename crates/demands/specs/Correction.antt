-- Request S-1: "an operation that takes n symbols, lends working space as for Recover, and writes the codeword that differs from them in at most t places,
-- with the count of places changed." Each clause is of calls to which no number before 21 applies.
use Rattle.basics.specs.Outcome.{Counted, Refused}
use Rattle.std.specs.Prelude.{ℕ, ◌+◌, ◌*◌, ◌≤◌, ◌≡◌, true, ◌↔◌, List, length}
use Rattle.basics.specs.declared.Refusal.TheVariants.{TooFar}
use Rattle.codewords.specs.Code.{Code, n}
use Rattle.codewords.specs.Codewords.{symbols, codeword}
use Rattle.solving.specs.Tests.{cleared}
use Rattle.decoding.specs.Near.{distance, radius, near}
use Rattle.correction.specs.Outcomes.{correct_outcome}
use Rattle.demands.specs.Call.{Call, Of, Fits}

module _ (code : Code) where
  -- w is a codeword that differs from the symbols in at most t places
  pub record Within (r w : List ℕ) : Type 0 where
    pub is_codeword : codeword code w ≡ true
    pub close : distance w r ≤ radius code

  -- the call wrote w, counted the places where it differs from the symbols, and cleared the working space
  pub record Written (r w : List ℕ) (c : Call) : Type 0 where
    pub counted : c.answer ≡ Counted (distance w r)
    pub written : c.out_after ≡ w
    pub working : c.work_after ≡ cleared c.work

  -- a call of Correct
  pub record Corrected (r : List ℕ) (c : Call) : Type 0 where
    -- "the operation accepts exactly if there is one"
    pub accepts : ((s : ℕ) × (c.answer ≡ Counted s)) ↔ ((w : List ℕ) × Within r w)
    -- "it refuses with 21 .. if no codeword lies within t"
    pub none_21 : (c.answer ≡ Refused TooFar) ↔ ((w : List ℕ) → Within r w → ⊥)
    -- it "writes the codeword .. with the count of places changed": what is written is within t, and whatever is within t is written
    pub is_within : (s : ℕ) → c.answer ≡ Counted s → Within r c.out_after
    pub gives : (w : List ℕ) → Within r w → Written r w c

  pub record Correction : Type 0 where
    -- "t is (n − k − 2) div 2, and 0 where n − k is 1"
    pub radius_0 : n code ≡ code.k + 1 → radius code ≡ 0
    pub radius_half : code.k + 2 ≤ n code → (code.k + (2 * radius code + 2) ≤ n code) × (n code ≤ code.k + (2 * radius code + 3))
    -- "there is never more than one such codeword"
    pub one_near : (r : List ℕ) → length r ≡ n code → length (near code r) ≤ 1
    pub only : (r w v : List ℕ) → length r ≡ n code → Within r w → Within r v → w ≡ v
    pub correct : (r : List ℕ) (c : Call) → Of (correct_outcome code r) c → symbols code r ≡ true → length r ≡ n code → Fits (n code) c → Corrected r c
    -- a codeword comes back as it is, and no place is changed
    pub same : (w : List ℕ) (c : Call) → codeword code w ≡ true → Of (correct_outcome code w) c → Fits (n code) c
        → (c.answer ≡ Counted 0) × (c.out_after ≡ w) × (c.work_after ≡ cleared c.work)
    -- "symbols arrive changed": at most t changed symbols of a codeword come back to it, whatever the changes
    pub mended : (w r : List ℕ) (c : Call) → codeword code w ≡ true → distance w r ≤ radius code → Of (correct_outcome code r) c → symbols code r ≡ true
        → length r ≡ n code → Fits (n code) c → Written r w c
