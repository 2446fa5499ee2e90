-- An operation that begins with the code test: what a refusal of the test, and what an accepted code, say of its outcome. It goes on where the answer of
-- the test is Done, and else the answer is the operation's own.
use Prim.{Unit}
use Prim.Native.Nat.{ℕ, ◌≤◌}
use mathlib.Core.Bool.{Bool, true, false}
use mathlib.Core.List.{List}
use mathlib.Core.Path.{◌≡◌, refl, ap, ◌∙◌}
use Rattle.basics.specs.declared.Refusal.{Refusal}
use Rattle.basics.specs.declared.Refusal.TheVariants.{FieldNumber}
use borrow.Author.Tests.{leb-true}
use lib.Dec.{eqb, leb}
use lib.ListN.{length}
use Rattle.basics.specs.Outcome.{Answer, Done, Refused, Outcome, check, answer, left, counts, Meets}
use Rattle.basics.proofs.Outcomes.{refuse, meets_as, counts_check, counts_if}
use Rattle.basics.proofs.Lists.{both}
use Rattle.field.specs.Galois.{is_field}
use Rattle.codewords.specs.declared.Parameters.{Parameters}
use Rattle.codewords.specs.Code.{Code, n, right_count, code_of, check_code, code_answer}
use Rattle.codewords.proofs.Accepted.{check_done, check_refused}
use Rattle.code.specs.declared.accepted.Code.{Code as Accepted}
use Rattle.code.specs.Parts.{code_with}
use Rattle.code.specs.Shown.{shown}

-- a chain of tests before an accepted outcome answers Done, or refuses
data Answered (a : Answer) : Type 0 where
  done : a ≡ Done → Answered a
  stopped : (e : Refusal) → a ≡ Refused e → Answered a

answered : (b : Bool) (e : Refusal) (u : Outcome (Unit {0})) → Answered (answer u) → Answered (answer (check b e u))
unfolding check answer
answered true e u h = h
answered false e u h = stopped e refl

module _ (code : Code) where
  verdict : Answered (code_answer code)
  unfolding code_answer answer
  verdict = answered _ _ _ (answered _ _ _ (answered _ _ _ (answered _ _ _ (answered _ _ _ (answered _ _ _ (answered _ _ _ (done refl)))))))

  module _ {M : Type 0} (o : Outcome M) where
    pub go_on : {r : Answer} {old new : M} → code_answer code ≡ Done → Meets o r old new → Meets (check_code code o) r old new
    go_on h m = meets_as (check_done code h o) m

    pub stop : {r : Answer} {old : M} → r ≡ code_answer code → (r ≡ Done → ⊥) → Meets (check_code code o) r old old
    unfolding answer left
    stop {r} {old} e d = by verdict
      where
        by : Answered (code_answer code) → Meets (check_code code o) r old old
        by (done h) = absurd (d (e ∙ h))
        by (stopped x h) = meets_as (check_refused code h o) (record { answers = e ∙ h; leaves = refl })

module _ {M : Type 0} {old : M} where
  -- there is no field of this number
  pub no_field : (p : Parameters) (xs ys : List ℕ) (o : Outcome M) {e : Refusal} → (e ≡ FieldNumber) × (is_field p.field ≡ false)
      → Meets (check_code (code_of p xs ys) o) (Refused e) old old
  no_field p xs ys o h = rw h.0 (refuse _ h.1)

  -- the code test refused
  pub refused_code : (code : Code) (o : Outcome M) {e : Refusal} → code_answer code ≡ Refused e → Meets (check_code code o) (Refused e) old old
  unfolding answer left
  refused_code code o h = meets_as (check_refused code h o) (record { answers = refl; leaves = refl })

module _ (p : Parameters) (xs ys : List ℕ) {m : ℕ} (number : m ≡ p.field) where
  given : code_with m p.curve p.k xs ys ≡ code_of p xs ys
  given = ap (λ n. code_with n p.curve p.k xs ys) number

  pub no_code : {M : Type 0} {old : M} (o : Outcome M) {e : Refusal} → code_answer (code_with m p.curve p.k xs ys) ≡ Refused e
      → Meets (check_code (code_of p xs ys) o) (Refused e) old old
  no_code o h = refused_code _ o (rw given at h)

  -- the operation of the accepted code is that of the given one
  pub opened : {M : Type 0} {old new : M} {r : Answer} (o : Code → Outcome M) (c : Accepted) → shown c ≡ code_with m p.curve p.k xs ys
      → Meets (o (shown c)) r old new → Meets (check_code (code_of p xs ys) (o (code_of p xs ys))) r old new
  opened o c e h =
      let same = e ∙ given in
      go_on _ _ (rw same at c.accepted) (rw same at h)

-- the same of the answer of the code test alone
pub no_field_answer : (p : Parameters) (xs ys : List ℕ) {e : Refusal} → (e ≡ FieldNumber) × (is_field p.field ≡ false) → Refused e ≡ code_answer (code_of p xs ys)
unfolding code_answer check answer
no_field_answer p xs ys h = rw (h.0, h.1) refl

-- what an operation counts, where that is bounded for 288 points at most
module _ (code : Code) {M : Type 0} (o : Outcome M) where
  pub counts_code : (b : ℕ) → (n code ≤ 288 → counts (answer o) ≤ b) → counts (answer (check_code code o)) ≤ b
  unfolding right_count
  counts_code b h =
      counts_check b _ _ _ (counts_check b _ _ _ (counts_check b _ _ _ (counts_if b _ _ _
      (λ t. counts_check b _ _ _ (counts_check b _ _ _ (counts_check b _ _ _ (h (points t))))))))
    where
      points : right_count code ≡ true → n code ≤ 288
      points t =
          let u = both (eqb (length code.xs) (length code.ys)) _ t in
          leb-true (n code) 288 (both (leb 2 (n code)) _ u.1).1
