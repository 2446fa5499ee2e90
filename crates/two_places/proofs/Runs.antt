-- A run goes on by one step, or by two, of which the first is made on lists that nothing holds.
use Prim.Native.Nat.{ℕ, ◌+◌, ◌<◌, ◌≤◌}
use mathlib.Core.Path.{◌≡◌}
use mathlib.Core.Bool.{true, not}
use mathlib.Core.List.{List}
use native.Mathlib.Omega.{arith}
use lib.ListN.{length, get_or}
use Rattle.engine.specs.declared.pair.Sizes.{Sizes}
use Rattle.values.specs.Values.{Steps}
use Rattle.values.proofs.Steps.{shown_round}
use Rattle.values.proofs.Runs.{first_more}
use Rattle.two_places.specs.Turns.{low_between, high_between, Twice, Advances}

module _ {m : ℕ} {xs : List ℕ} {i count : ℕ} (enough : count ≤ length xs) {l u : List ℕ} {low high : ℕ} {a b : List ℕ} {r : Sizes} where
  pub advances_one : i < count → Steps m xs i (i + 1) l u low high a b r → Advances m xs i count l u low high a b (i + 1) r
  advances_one h p =
      record {
        further = omega arith;
        within = omega arith;
        first_size = p.first_size;
        second_size = p.second_size;
        next = λ ys runs q. rw (first_more m xs ys i (omega arith)) at (p.next ys i _ 0 (omega arith) (omega arith) (runs.small i h) q);
      }

  pub advances_two : {t : ℕ} {z : Sizes} → i + 1 < count → z.turned ≡ true → Steps m xs i (i + 1) l u low high (low_between m xs (get_or xs i 0) l) (high_between m xs t l u) z
      → Twice m xs i t l u z.low z.high a b r → Advances m xs i count l u low high a b (i + 1 + 1) r
  advances_two h e p w =
      record {
        further = omega arith;
        within = omega arith;
        first_size = w.steps.first_size;
        second_size = w.steps.second_size;
        next = λ ys runs q.
            let one = rw (first_more m xs ys i (omega arith)) at (p.next ys i _ 0 (omega arith) (omega arith) (runs.small i (omega arith)) q) in
            rw (first_more m xs ys (i + 1) (omega arith)) at (w.steps.next ys (i + 1) _ 0 (omega arith) (omega arith) (runs.small (i + 1) h) (rw e at one));
      }

-- the arrays the other way round
pub advances_round : {m i count low high c : ℕ} {xs l u a b : List ℕ} {r k : Sizes} → (k.low ≡ r.low) × (k.high ≡ r.high) × (k.turned ≡ not r.turned)
    → Advances m xs i count l u low high b a c r → Advances m xs i count l u low high a b c k
advances_round {a = a} {b} {r} {k} h p =
    record { further = p.further; within = p.within; first_size = p.second_size; second_size = p.first_size; next = λ ys runs q. shown_round a b r k h (p.next ys runs q) }
