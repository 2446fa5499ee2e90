-- L of the first k − 1 places decides, and it is the relation.
use Prim.Native.Nat.{ℕ, ◌-◌}
use mathlib.Core.Path.{◌≡◌, ◌∙◌, ap}
use mathlib.Core.Bool.{Bool, cond}
use mathlib.Core.List.{List, []}
use native.Mathlib.Omega.{arith}
use lib.Dec.{eqb}
use lib.ListN.{length, get_or, take}
use Rattle.basics.proofs.Lists.{holds_length}
use Rattle.basics.proofs.Outcomes.{pass, refuse, accept_pair}
use Rattle.elliptic.specs.Pair.{after, evaluate, padded}
use Rattle.codewords.specs.Code.{Code, arithmetic}
use Rattle.codewords.specs.Codewords.{dependent}
use Rattle.engine.specs.declared.pair.Sizes.{Sizes}
use Rattle.engine.specs.Arrays.{Pair, Room, Long}
use Rattle.engine.specs.Places.{point_of, points_of}
use Rattle.engine.proofs.States.{room}
use Rattle.solving.specs.Given.{Placed}
use Rattle.solving.proofs.Link.{accepted, no_symbols, within, may_run, small, sizes, zero_last, is_dependent, relation_low}
use Rattle.coder.proofs.relation.relation_run.Goals as goal

-- the pair of the first k − 1 of k places
module _ {code : Code} {J : List ℕ} (p : Placed code J) (full : length J ≡ code.k) {l u : List ℕ} {z : Sizes}
    (q : Pair l u z (after (arithmetic code) (points_of code.xs code.ys J) [] (code.k - 1))) where
  -- it has room where it stands
  has_room : (a b : List ℕ) → Long a b → length l ≡ length a → length u ≡ length b → Room l u z
  has_room a b long e f = room q (small p [] (no_symbols code) (code.k - 1) (omega arith) (omega arith)) (omega (arith, long.0), omega (arith, long.1))

  -- and says whether the places are dependent
  says : {a : ℕ} {r : Bool} → a ≡ get_or J (code.k - 1) 0 → r ≡ eqb (evaluate (arithmetic code) (take z.low (cond z.turned u l)) (point_of code.xs code.ys a)) 0
      → dependent code J ≡ r
  says d e = is_dependent p [] (no_symbols code) full (zero_last p [] (no_symbols code) (omega arith) q d e)

pub overflow_sub-last : goal.overflow_sub-last
overflow_sub-last c = omega (arith, (accepted c.requires.placed.0).k_least)

pub run_pair-n-requires : goal.run_pair-n-requires
run_pair-n-requires c =
    record { runs = (may_run c.requires.placed.0 [] (no_symbols _) _ (omega arith) (omega (arith, c.requires.placed.2)), c.requires.placed.1) }

pub chosen_place-place-requires : goal.chosen_place-place-requires
chosen_place-place-requires c = omega (arith, c.requires.placed.2, (accepted c.requires.placed.0).k_least)

pub zero_at-dependent-requires : goal.zero_at-dependent-requires
zero_at-dependent-requires c =
    let p = c.requires.placed.0 in
    record {
      place = (
        rw c.chosen_place-place.ensures ((within p c.args.code.now.k (omega (arith, c.requires.placed.2))).each_is_place _ (omega (arith, (accepted p).k_least))),
        has_room p c.requires.placed.2 c.run_pair-n.ensures _ _ c.requires.placed.1 c.run_pair-n.auto.l c.run_pair-n.auto.u,
      );
    }

pub returns-then-not-dependent : goal.returns-then-not-dependent
returns-then-not-dependent c =
    refuse _ (says c.requires.placed.0 c.requires.placed.2 c.run_pair-n.ensures c.chosen_place-place.ensures c.zero_at-dependent.ensures ∙ c.if-not-dependent.true)

pub write_low-requires : goal.write_low-requires
write_low-requires c =
    let p = c.requires.placed.0 in (
      has_room p c.requires.placed.2 c.run_pair-n.ensures _ _ c.requires.placed.1 c.run_pair-n.auto.l c.run_pair-n.auto.u,
      omega (arith, holds_length c.run_pair-n.ensures.low, (sizes p [] (no_symbols _) (c.args.code.now.k - 1) (omega (arith, c.requires.placed.2))).low_length, c.requires.placed.3, (accepted p).k_least),
    )

pub returns : goal.returns
returns c =
    let d = says c.requires.placed.0 c.requires.placed.2 c.run_pair-n.ensures c.chosen_place-place.ensures c.zero_at-dependent.ensures ∙ c.if-not-dependent.false in
    pass _ d
    (accept_pair (c.write_low.ensures ∙ ap (λ k. padded k (take c.run_pair-n.result.low (cond c.run_pair-n.result.turned c.run_pair-n.new.u c.run_pair-n.new.l))) c.requires.placed.3 ∙ relation_low c.requires.placed.0 [] (no_symbols _) c.requires.placed.2 c.run_pair-n.ensures d) c.clear_room.ensures)
