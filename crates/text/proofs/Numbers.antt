-- Numbers joined by commas: a turn of the loop that reads them, and its end.
use Prim.Native.Nat.{ℕ, suc, ◌+◌, ◌-◌, ◌≤◌, ◌<◌}
use mathlib.Core.Bool.{true, false}
use mathlib.Core.Path.{◌≡◌, refl, sym, ◌∙◌, ap}
use mathlib.Core.List.{List, [], ◌∷◌, ◌++◌, append_assoc}
use native.Mathlib.Omega.{arith}
use native.Mathlib.Nat.{sub-zero}
use native.Mathlib.Numerals.{add-one}
use lib.ListN.{length, take, drop, set, length-set}
use lib.Seq.{take-suc-set}
use Rattle.std.specs.Prelude.{Some, None}
use Rattle.text.specs.Text.{comma}
use Rattle.text.specs.Reading.{Read, bad, got, then, before, is_next, number, numbers}
use Rattle.text.specs.Stages.{Lists}

before_before : (l m : List ℕ) (r : Read (List ℕ)) → before l (before m r) ≡ before (l ++ m) r
unfolding before
before_before l m bad = refl
before_before l m (got k s) = ap (λ (n : List ℕ). got n s) (sym (append_assoc l m k))

-- l was read, and at most size − count more may follow
module _ (size count : ℕ) (l u : List ℕ) {r : Read (List ℕ)} (rest : before l (numbers (size - count) u) ≡ r) where
  pub full : size ≤ count → bad ≡ r
  unfolding numbers before
  full h = let e : size - count ≡ 0 = omega arith in rw e at rest

  module _ (h : count < size) where
    one_more : size - count ≡ suc (size - (count + 1))
    one_more = omega arith

    pub no_more : number u ≡ bad → bad ≡ r
    unfolding numbers before then
    no_more e = rw (one_more, e) at rest

    module _ (v : ℕ) (t : List ℕ) (e : number u ≡ got v t) where
      pub last_number : is_next comma t ≡ false → got (l ++ v ∷ []) t ≡ r
      unfolding numbers before then
      last_number q = rw (one_more, e, q) at rest

      pub next_number : is_next comma t ≡ true → before (l ++ v ∷ []) (numbers (size - (count + 1)) (drop 1 t)) ≡ r
      unfolding numbers then
      next_number q = sym (before_before l (v ∷ []) _) ∙ (rw (one_more, e, q) at rest)

-- ---- the numbers that were read stand at the front of a list

before_none : (r : Read (List ℕ)) → before [] r ≡ r
unfolding before
before_none bad = refl
before_none (got l s) = refl

pub start : (size : ℕ) (u : List ℕ) → before [] (numbers (size - 0) u) ≡ numbers size u
start size u = before_none _ ∙ rw (sub-zero size)

pub one_set : (out : List ℕ) (count v : ℕ) → count < length out → take (count + 1) (set out count v) ≡ take count out ++ v ∷ []
one_set out count v h = rw add-one (take-suc-set out count v h)

module _ (s out : List ℕ) {r : Read (List ℕ)} where
  pub lists_none : bad ≡ r → Lists s out None r
  lists_none e = record { reads = e; within = omega arith }

  pub lists_last : (count v next : ℕ) → count < length out → got (take count out ++ v ∷ []) (drop next s) ≡ r → Lists s (set out count v) (Some (record { count = count + 1; next = next })) r
  lists_last count v next h e = record { reads = rw (one_set out count v h) e; within = rw (length-set out count v) (omega arith) }
