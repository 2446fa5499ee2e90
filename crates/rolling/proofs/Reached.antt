-- The test accepts exactly the states that some run gives: the hours from 0 on, of which the newest have the state's codes, are such a run.
use Prim.Native.Nat.{ℕ, zero, suc, ◌^◌, ◌≤◌}
use mathlib.Core.Path.{◌≡◌, refl, ap}
use mathlib.Core.Bool.{true}
use mathlib.Core.Logic.{◌↔◌}
use mathlib.Core.List.{List, [], ◌∷◌, ◌++◌, map}
use native.Mathlib.Omega.{arith}
use native.Mathlib.Numerals.{add-one}
use borrow.Author.Tests.{eqb-true, eq-eqb}
use lib.ListN.{length, take, drop, replicate}
use Rattle.basics.specs.Lists.{all}
use Rattle.basics.proofs.Lists.{both_left, both_right}
use Rattle.hours.specs.Means.{absent}
use Rattle.hours.specs.Packing.{encode, is_code, decode}
use Rattle.hours.proofs.Numbers.{encode_decode, decode_valid}
use Rattle.rolling.specs.declared.state.RollingState.{RollingState}
use Rattle.rolling.specs.Runs.{Hour, follows, run}
use Rattle.rolling.specs.State.{next_hour, held, Given, absent_code, possible}
use Rattle.rolling.proofs.Steps.{possible_says}
use Rattle.rolling.proofs.Runs.{means, run_more, possible_run}

-- the hours n − 1 to 0, with the means of the codes and, behind these, none
abbrev back : ℕ → List ℕ → List Hour
back zero cs = []
back (suc n) [] = record { number = n; mean = absent } ∷ back n []
back (suc n) (c ∷ cs) = record { number = n; mean = decode c } ∷ back n cs

next_back : (n : ℕ) (cs : List ℕ) → next_hour (back n cs) ≡ n
next_back zero cs = refl
next_back (suc n) [] = add-one n
next_back (suc n) (c ∷ cs) = add-one n

follows_back : (n : ℕ) (cs : List ℕ) → follows (back n cs) n ≡ true
follows_back zero cs = refl
follows_back (suc n) [] = rw add-one (eq-eqb (suc n) (suc n) refl)
follows_back (suc n) (c ∷ cs) = rw add-one (eq-eqb (suc n) (suc n) refl)

run_back : (n : ℕ) (cs : List ℕ) → n ≤ 2 ^ 32 → all is_code cs ≡ true → run (back n cs) ≡ true
run_back zero cs h e = refl
run_back (suc n) [] h e = run_more (record { number = n; mean = absent }) (back n []) refl (omega arith) (follows_back n []) (run_back n [] (omega arith) refl)
run_back (suc n) (c ∷ cs) h e =
    run_more (record { number = n; mean = decode c }) (back n cs) (decode_valid c (both_left (is_code c) (all is_code cs) e)) (omega arith) (follows_back n cs)
    (run_back n cs (omega arith) (both_right (is_code c) (all is_code cs) e))

-- the newest hours have the codes again
codes_back : (n k : ℕ) (cs : List ℕ) → length cs ≤ k → all is_code cs ≡ true → all absent_code (drop n cs) ≡ true
    → take (length cs) (map encode (means (back n cs)) ++ replicate k 32767) ≡ cs
codes_back n k [] h e a = refl
codes_back n zero (c ∷ cs) h e a = absurd (omega arith)
codes_back zero (suc k) (c ∷ cs) h e a =
    rw (eqb-true c 32767 (both_left (absent_code c) (all absent_code cs) a))
    (ap (λ (l : List ℕ). 32767 ∷ l)
    (codes_back zero k cs (omega arith) (both_right (is_code c) (all is_code cs) e) (both_right (absent_code c) (all absent_code cs) a)))
codes_back (suc n) (suc k) (c ∷ cs) h e a =
    rw (encode_decode c (both_left (is_code c) (all is_code cs) e))
    (ap (λ (l : List ℕ). c ∷ l) (codes_back n (suc k) cs (omega arith) (both_right (is_code c) (all is_code cs) e) a))

-- THEOREM: of a state with 24 codes, as its type says
pub possible_exactly : (s : RollingState) → length s.codes ≡ 24 → (possible s ≡ true) ↔ Given s
unfolding held
possible_exactly s long = (λ p. given p, λ g. rw (← g.gives) (possible_run g.hours g.is_run))
  where
    held_back : all is_code s.codes ≡ true → all absent_code (drop s.next s.codes) ≡ true → held (means (back s.next s.codes)) ≡ s.codes
    held_back codes none = rw long at (codes_back s.next 24 s.codes (omega arith) codes none)

    given : possible s ≡ true → Given s
    given p =
        let q = possible_says s p in
        record {
          hours = back s.next s.codes;
          is_run = run_back s.next s.codes q.next_small q.all_codes;
          gives = rw (next_back s.next s.codes, q.spare_zero, held_back q.all_codes q.none_before);
        }
