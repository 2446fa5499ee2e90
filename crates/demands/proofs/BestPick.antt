-- Request S-6: rank for rank, no usable choice from the ranking comes before what Pick gives. The ranks of a choice rise, so the i-th is at least i; and where
-- ranks 1 to k are dependent no usable choice is made of these, so the last rank of each is past k.
use Rattle.basics.specs.Outcome.{Done}
use Prim.Native.Nat.{ℕ, suc, ◌-◌, ◌<◌, ◌≤◌}
use mathlib.Core.Path.{◌≡◌, refl, sym, ◌∙◌, ap, subst}
use mathlib.Core.Bool.{Bool, true, false, not, cond, ◌&&◌}
use mathlib.Core.Logic.{◌⊎◌, inl, inr}
use mathlib.Core.List.Memᴰ.{head as here}
use mathlib.Core.List.Memᴰ.{map as in_map}
use mathlib.Core.List.Memᴰ.{tail as there}
use mathlib.Core.List.{List, [], ◌∷◌, ◌++◌, Memᴰ as In}
use native.Mathlib.Omega.{arith}
use lib.Dec.{eqb, ltb}
use lib.ListN.{length, get_or, take, drop, length-map}
use lib.Seq.{take_all}
use borrow.Author.Tests.{eqb-true, eqb-false, leb-true, ltb-true, ltb-false}
use Rattle.basics.specs.Lists.{all}
use Rattle.basics.proofs.Lists.{both_left, both_right, both_true}
use Rattle.elliptic.specs.Functions.{nonzero, value}
use Rattle.codewords.specs.Code.{Code, arithmetic, code_answer}
use Rattle.codewords.specs.Codewords.{place, point_at, all_places, places_differ, places, choice, functions, zero_on, dependent, usable, pick, first_ranks, next_ranks}
use Rattle.codewords.proofs.Tests.{all_true, true_all, in_all, all_in_lem, true_any, any_false, filter_in, in_filter, not_both}
use Rattle.codewords.proofs.Counting.{Unique, unique_filter, sum_fits, fits, same_length}
use Rattle.codewords.proofs.Accepted.{Accepted, accepted_done}
use Rattle.codewords.proofs.Places.{places_true, choice_places, choice_length, true_choice}
use Rattle.codewords.proofs.Choice.{k_suc, usable_true, dependent_usable}
use Rattle.codewords.proofs.Demand3.{demand3 as on-codewords}
use Rattle.solving.specs.Tests.{cleared}
use Rattle.coder.specs.Outcomes.{pick_outcome}
use Rattle.demands.specs.Call.{Call, Of, Fits}
use Rattle.demands.specs.Order.{Test, first, pick_tests}
use Rattle.demands.specs.Ranking.{is_in, rank, never_rising, number_of, total, in_rank_order, ranks, earlier}
use Rattle.demands.specs.BestPick.{UsableFrom, BestChoice, BestPick}
use Rattle.demands.proofs.Order.{order_answer, code_held}
use Rattle.demands.proofs.Demand1.{demand1}
use Rattle.demands.proofs.Demand3.{demand3 as of_calls}
use Rattle.demands.proofs.RankLists.{NoLater, comes_first, larger_total, Rising, none_before, none_before_last}
use Rattle.demands.proofs.RankOrder.{in_true, true_in, Kept, kept_filter, kept_take, kept_next, kept_in_lem, kept_rising, ranks_take, ranks_next, rank_past, kept_order, same_ranks}

-- ---- places among which there is a usable choice are usable

module _ (code : Code) (J K : List ℕ) (inside : (p : ℕ) → In p J → In p K) where
  zero_there : (f : List ℕ) → zero_on code K f ≡ true → zero_on code J f ≡ true
  unfolding zero_on
  zero_there f z = true_all (all_in_lem J (λ p i. in_all (inside p i) (all_true (λ p. eqb (value (arithmetic code) f (point_at code (place p))) 0) K z)))

  usable_more : usable code J ≡ true → usable code K ≡ true
  unfolding dependent
  usable_more u =
      dependent_usable code K
      (any_false (λ f. nonzero f && zero_on code K f) (functions code)
      (λ f i b.
      let zeros = zero_there f (both_right (nonzero f) (zero_on code K f) b) in
      let found = true_any (λ f. nonzero f && zero_on code J f) i (both_true (nonzero f) (zero_on code J f) (both_left (nonzero f) (zero_on code K f) b) zeros) in
      not_both found (usable_true code J u)))

-- of places that do not all pass a test one fails
not_all : (t : ℕ → Bool) (l : List ℕ) → all t l ≡ false → (p : ℕ) × In p l × (t p ≡ false)
not_all t [] h = absurd (not_both refl h)
not_all t (p ∷ l) h = by (t p) refl (not_all t l) h
  where
    by : (b : Bool) → t p ≡ b → (all t l ≡ false → (r : ℕ) × In r l × (t r ≡ false)) → (b && all t l) ≡ false → (r : ℕ) × In r (p ∷ l) × (t r ≡ false)
    by true e r h = let (q, i, f) = r h in (q, there i, f)
    by false e r h = (p, here refl, e)

from_ranking : (code : Code) (ranked J : List ℕ) → UsableFrom code ranked J → (p : ℕ) → In p J → In p ranked
from_ranking code ranked J u p i = true_in ranked (in_all i (all_true (is_in ranked) J u.all_ranked))

module _ (code : Code) (ranked : List ℕ) (once : Unique ranked) where
  -- ---- a usable choice, written in rank order

  module _ (J : List ℕ) (u : UsableFrom code ranked J) where
    abbrev ordered : List ℕ
    ordered = in_rank_order ranked J

    in_ordered : (p : ℕ) → In p J → In p ordered
    in_ordered p i = in_filter (is_in J) (from_ranking code ranked J u p i) (in_true i)

    k_ranks : length (ranks ranked ordered) ≡ code.k
    k_ranks =
        length-map ordered (rank ranked)
        ∙ same_length (unique_filter (is_in J) once) (choice_places code J u.is_choice).unique (λ p i. true_in J (filter_in (is_in J) ranked i).1) in_ordered
        ∙ choice_length code J u.is_choice

    rises : Rising 1 (ranks ranked ordered)
    rises = kept_rising once (kept_filter (is_in J) ranked)

    -- ranks 1 to k are nowhere later
    after_first : code.k ≤ length ranked → NoLater (ranks ranked (first_ranks code ranked)) (ranks ranked ordered)
    unfolding first_ranks
    after_first enough = rw (ranks_take once code.k enough) (none_before 1 k_ranks rises)

    -- where they are dependent, it has a place past them, and ranks 1 to k − 1 and k + 1 are nowhere later
    module _ (more : code.k < length ranked) (fails : usable code (first_ranks code ranked) ≡ false) where
      past_k : (p : ℕ) × In p J × (code.k < rank ranked p)
      unfolding first_ranks
      past_k = by (all among J) refl
        where
          among : ℕ → Bool
          among = is_in (take code.k ranked)

          by : (b : Bool) → all among J ≡ b → (p : ℕ) × In p J × (code.k < rank ranked p)
          by true h = absurd (not_both (usable_more code J (take code.k ranked) (λ p i. true_in _ (in_all i (all_true among J h))) u.works) fails)
          by false h =
              let (p, i, out) = not_all among J h in
              (p, i, rank_past code.k ranked (omega arith) (λ j. not_both (in_true j) out))

      after_next : Accepted code → NoLater (ranks ranked (next_ranks code ranked)) (ranks ranked ordered)
      unfolding next_ranks
      after_next a =
          let (p, i, past) = past_k in
          rw (ranks_next once (code.k - 1) code.k (omega arith) more)
          (none_before_last 1 (ranks ranked ordered) (k_ranks ∙ k_suc code a) rises (in_map (rank ranked) (in_ordered p i)) past)

  -- ---- what comes before every usable choice is the best

  -- J is in rank order, and rank for rank no later than any usable choice from the ranking
  record Leads (J : List ℕ) : Type 0 where
    order : Kept J ranked
    no_later : (K : List ℕ) → UsableFrom code ranked K → NoLater (ranks ranked J) (ranks ranked (in_rank_order ranked K))

  module _ (J : List ℕ) (lead : Leads J) where
    -- numbers of any size
    none_larger : (numbers K : List ℕ) → never_rising numbers ≡ true → UsableFrom code ranked K → total ranked numbers K ≤ total ranked numbers J
    none_larger numbers K h u =
        let in_order = sum_fits (number_of ranked numbers) (choice_places code K u.is_choice).unique (in_ordered K u) in
        omega (arith, in_order, larger_total numbers h ranked J (in_rank_order ranked K) (lead.no_later K u))

    none_earlier : (K : List ℕ) → UsableFrom code ranked K
        → (in_rank_order ranked K ≡ J) ⊎ (earlier (ranks ranked J) (ranks ranked (in_rank_order ranked K)) ≡ true)
    none_earlier K u = by (comes_first (lead.no_later K u))
      where
        by : (ranks ranked J ≡ ranks ranked (in_rank_order ranked K)) ⊎ (earlier (ranks ranked J) (ranks ranked (in_rank_order ranked K)) ≡ true)
            → (in_rank_order ranked K ≡ J) ⊎ (earlier (ranks ranked J) (ranks ranked (in_rank_order ranked K)) ≡ true)
        by (inl e) = inl (sym (same_ranks lead.order (kept_filter (is_in K) ranked) e))
        by (inr h) = inr h

    best : choice code J ≡ true → usable code J ≡ true → BestChoice code ranked J
    best c works =
        record {
          one_of_them = record { is_choice = c; all_ranked = true_all (all_in_lem J (λ p i. in_true (kept_in_lem lead.order i))); works = works };
          picked_in_rank_order = kept_order once lead.order;
          largest_total = λ numbers K v. none_larger numbers K v.numbers_never_rise;
          first = none_earlier;
        }

  first_leads : code.k ≤ length ranked → Leads (first_ranks code ranked)
  unfolding first_ranks
  first_leads enough = record { order = kept_take code.k ranked; no_later = λ K u. after_first K u enough }

  next_leads : Accepted code → code.k < length ranked → usable code (first_ranks code ranked) ≡ false → Leads (next_ranks code ranked)
  unfolding next_ranks
  next_leads a more fails =
      let k : suc (code.k - 1) ≡ code.k = sym (k_suc code a) in
      record {
        order = subst (λ i. Kept (take (code.k - 1) ranked ++ get_or ranked i 0 ∷ []) ranked) k (kept_next (code.k - 1) ranked (omega (arith, k)));
        no_later = λ K u. after_next K u more fails a;
      }

-- ---- Pick gives the one or the other

module _ (code : Code) (done : code_answer code ≡ Done) (ranked : List ℕ) (are_places : places code ranked ≡ true) where
  once : Unique ranked
  once = (places_true code ranked are_places).unique

  best_more : code.k < length ranked → BestChoice code ranked (pick code ranked)
  best_more more =
      let p = (on-codewords code done).pick_more ranked are_places more in
      best code ranked once (pick code ranked) (by (usable code (first_ranks code ranked)) refl p.ranks) p.is_choice p.works
    where
      by : (b : Bool) → usable code (first_ranks code ranked) ≡ b → pick code ranked ≡ cond b (first_ranks code ranked) (next_ranks code ranked)
          → Leads code ranked once (pick code ranked)
      by true works e = rw e (first_leads code ranked once (omega arith))
      by false fails e = rw e (next_leads code ranked once (accepted_done code done) more fails)

  best_all : length ranked ≡ code.k → usable code ranked ≡ true → BestChoice code ranked (pick code ranked)
  unfolding first_ranks
  best_all full works =
      let c = true_choice code (places_true code ranked are_places) full in
      let all-picked = (on-codewords code done).pick_all ranked c ∙ ap (λ b. cond b ranked (take (code.k - 1) ranked)) works in
      let All-first = take_all code.k ranked (omega arith) in
      rw all-picked (best code ranked once ranked (subst (Leads code ranked once) All-first (first_leads code ranked once (omega arith))) c works)

-- ---- calls

module _ (code : Code) (ranked : List ℕ) (c : Call) (met : Of (pick_outcome code ranked) c) (d : c.answer ≡ Done) where
  abbrev tests : List Test
  tests = pick_tests code ranked c.out c.work

  all_hold : first tests ≡ Done
  all_hold = sym (order_answer tests (pick code ranked, cleared c.work)) ∙ sym met.answers ∙ d

  best_done : BestChoice code ranked c.out_after
  unfolding places usable
  best_done =
      -- seven tests are the code's
      let (done, (_, (_, (_, (in-range, (differ, (enough, (free, _)))))))) = code_held code (drop 7 tests) all_hold in
      let are_places = both_true (all_places code ranked) (places_differ code ranked) in-range differ in
      rw ((demand1.pick code ranked c met).accepted all_hold).output.written
      (by done are_places (leb-true _ _ enough) (eqb (length ranked) code.k) refl free)
    where
      by : code_answer code ≡ Done → places code ranked ≡ true → code.k ≤ length ranked → (b : Bool) → eqb (length ranked) code.k ≡ b
          → not (b && dependent code ranked) ≡ true → BestChoice code ranked (pick code ranked)
      by done p enough true e works = best_all code done ranked p (eqb-true _ _ e) works
      by done p enough false e free = let other = eqb-false (length ranked) code.k e in best_more code done ranked p (omega (arith, other))

-- of more than k places Pick accepts, and of k where these are usable, as they are where a choice from them is
done_if_any : (code : Code) (ranked J : List ℕ) (c : Call) → Of (pick_outcome code ranked) c → code_answer code ≡ Done → Fits code.k c → places code ranked ≡ true
    → UsableFrom code ranked J → c.answer ≡ Done
done_if_any code ranked J c met done f are_places u = by (ltb code.k (length ranked)) refl
  where
    inside : (p : ℕ) → In p J → In p ranked
    inside = from_ranking code ranked J u

    by : (b : Bool) → ltb code.k (length ranked) ≡ b → c.answer ≡ Done
    by true m = ((of_calls code done).pick_more ranked c met are_places (ltb-true _ _ m) f).done
    by false m =
        let enough = fits (choice_places code J u.is_choice).unique inside in
        let full : length ranked ≡ code.k = omega (arith, ltb-false code.k (length ranked) m, enough, choice_length code J u.is_choice) in
        ((of_calls code done).pick ranked c met (true_choice code (places_true code ranked are_places) full) f).usable_done.1 (usable_more code J ranked inside u.works)

-- THEOREM
pub best_pick : BestPick
best_pick = record { where_done = best_done; done_if_any = done_if_any }
