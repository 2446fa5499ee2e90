-- Request S-6, "the pick is the best there is": of all usable choices from its ranking, what Pick gives has the largest total and comes first.
use Rattle.basics.specs.Outcome.{Done}
use Rattle.std.specs.Prelude.{ℕ, ◌≤◌, ◌≡◌, true, ◌⊎◌, List, leb, length}
use Rattle.basics.specs.Lists.{all}
use Rattle.codewords.specs.Code.{Code, code_answer}
use Rattle.codewords.specs.Codewords.{places, choice, usable}
use Rattle.coder.specs.Outcomes.{pick_outcome}
use Rattle.demands.specs.Call.{Call, Of, Fits}
use Rattle.demands.specs.Ranking.{is_in, never_rising, total, in_rank_order, ranks, earlier}

-- "give each ranked place any whole number from 0 to 255, never rising along the ranking"
pub record Numbered (ranked numbers : List ℕ) : Type 0 where
  pub one_each : length numbers ≡ length ranked
  pub most_255 : all (λ v. leb v 255) numbers ≡ true
  pub numbers_never_rise : never_rising numbers ≡ true

module _ (code : Code) (ranked : List ℕ) where
  -- a "usable choice of k places from that ranking": k different places of it in any order, and not dependent
  pub record UsableFrom (J : List ℕ) : Type 0 where
    pub is_choice : choice code J ≡ true
    pub all_ranked : all (is_in ranked) J ≡ true
    pub works : usable code J ≡ true

  pub record BestChoice (picked : List ℕ) : Type 0 where
    -- it is one of them, written in rank order
    pub one_of_them : UsableFrom picked
    pub picked_in_rank_order : in_rank_order ranked picked ≡ picked
    -- "no usable choice of k places from that ranking has a larger total than Pick's"
    pub largest_total : (numbers J : List ℕ) → Numbered ranked numbers → UsableFrom J → total ranked numbers J ≤ total ranked numbers picked
    -- "Pick's list comes first among usable choices, each written in rank order, when lists are compared by rank from the front"
    pub first : (J : List ℕ) → UsableFrom J
        → (in_rank_order ranked J ≡ picked) ⊎ (earlier (ranks ranked picked) (ranks ranked (in_rank_order ranked J)) ≡ true)

pub record BestPick : Type 0 where
  -- "where Pick accepts"
  pub where_done : (code : Code) (ranked : List ℕ) (c : Call) → Of (pick_outcome code ranked) c → c.answer ≡ Done → BestChoice code ranked c.out_after
  -- and it accepts wherever there is such a choice, if no number before 13 applies
  pub done_if_any : (code : Code) (ranked J : List ℕ) (c : Call) → Of (pick_outcome code ranked) c → code_answer code ≡ Done → Fits code.k c
      → places code ranked ≡ true → UsableFrom code ranked J → c.answer ≡ Done
