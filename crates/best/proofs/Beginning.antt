-- The ranked places are those that Pick accepts, what is used of the working space lies in the room that is cleared in the end, and the figures by what
-- is computed.
use Prim.Native.Nat.{ℕ, ◌+◌, ◌*◌, ◌-◌, ◌/◌, ◌<◌, ◌≤◌, min}
use mathlib.Core.Path.{◌≡◌, sym, ◌∙◌, ap, ap₂}
use mathlib.Core.Bool.{true}
use mathlib.Core.List.{List, [], ◌∷◌, ◌++◌}
use native.Mathlib.Omega.{arith}
use lib.ListN.{length, drop, replicate}
use Rattle.basics.proofs.Lists.{both_left, both_right}
use Rattle.codewords.specs.Code.{Code, q, n}
use Rattle.codewords.specs.Codewords.{all_places, places_differ, places, pick}
use Rattle.codewords.proofs.Accepted.{accepted_done}
use Rattle.codewords.proofs.Places.{true_places}
use Rattle.solving.specs.Tests.{room, cleared}
use Rattle.solving.specs.Given.{Placed}
use Rattle.patterns.specs.Ranking.{trust_at, ranking}
use Rattle.patterns.specs.Best.{entries, picked, best_cost}
use Rattle.patterns.specs.Cheapest.{gap_to}
use Rattle.patterns.specs.Computed.{least_left}
use Rattle.patterns.proofs.Ranking.{ranking_places, ranking_length, unique_ranking}
use Rattle.patterns.proofs.Tried.{tries}
use Rattle.patterns.proofs.Computed.{computed}
use Rattle.patterns.proofs.Words.{k_places}
use Rattle.picked_rows.specs.Stored as stored
use Rattle.picked_rows.proofs.Stored.{drop_to}
use Rattle.best.specs.Given.{Given}
use Rattle.best.specs.Outcomes.{figures_of}

-- ---- all places, ranked

module _ {code : Code} {received trusts ranked : List ℕ} (g : Given code received trusts) (is : ranked ≡ ranking (trust_at trusts) (length trusts)) where
  abbrev all_ranked : List ℕ
  all_ranked = ranking (trust_at trusts) (n code)

  is_ranking : ranked ≡ all_ranked
  is_ranking = is ∙ ap (ranking (trust_at trusts)) g.trusted

  are_places : places code all_ranked ≡ true
  are_places = true_places code (record { spots = ranking_places (trust_at trusts) (n code); unique = unique_ranking (trust_at trusts) (n code) })

  pub ranked_placed : Placed code ranked
  unfolding places
  ranked_placed =
      rw is_ranking
      (record {
        done = g.done;
        are_all_places = both_left (all_places code all_ranked) (places_differ code all_ranked) are_places;
        differ = both_right (all_places code all_ranked) (places_differ code all_ranked) are_places;
      })

  pub ranked_size : length ranked ≡ n code
  ranked_size = ap length is_ranking ∙ ranking_length (trust_at trusts) (n code)

  pub ranked_more : code.k < length ranked
  ranked_more = omega (arith, ranked_size, (accepted_done code g.done).k_most)

  -- those that Pick keeps
  pub ranked_given : {J : List ℕ} → J ≡ pick code ranked → stored.Given code received trusts J
  unfolding picked
  ranked_given e = record { done = g.done; small = g.small; size = g.size; trusted = g.trusted; is_picked = e ∙ ap (pick code) is_ranking }

-- ---- the working space

pub room_spared : (size : ℕ) (work work' : List ℕ) → size ≤ 288 → stored.Spared size work work' → drop room work' ≡ drop room work
room_spared size work work' few same =
    let inside : 7 * size ≤ room = omega arith in
    sym (drop_to (7 * size) room work' inside) ∙ ap (drop (room - 7 * size)) same ∙ drop_to (7 * size) room work inside

pub cleared_same : (work work' : List ℕ) → drop room work' ≡ drop room work → cleared work' ≡ cleared work
cleared_same work work' same = ap (λ r. replicate room 0 ++ r) same

-- ---- the figures

module _ (code : Code) (received trusts : List ℕ) (budget : ℕ) where
  -- of a cost, and of k places J
  abbrev figures_at : ℕ → List ℕ → ℕ → List ℕ
  figures_at c J k =
      c ∷ min budget (1 + (k * (q code - 1) + k * (k - 1) / 2 * ((q code - 1) * (q code - 1))))
      ∷ gap_to c (least_left (entries trusts J) k (q code - 1) (budget - 1)) ∷ []

  pub figures_by : {J figures : List ℕ} {c : ℕ} → stored.Given code received trusts J → 1 ≤ budget → c ≡ best_cost code received trusts budget
      → figures ≡ figures_at c J (length J) → figures ≡ figures_of code received trusts budget
  figures_by {J} {figures} {c} g h e f =
      f ∙ ap (λ K. figures_at c K (length K)) g.is_picked ∙ ap (figures_at c (picked code trusts)) (k_places code g.done trusts)
      ∙ ap (λ y. figures_at y (picked code trusts) code.k) e
      ∙ ap₂ (λ y z. best_cost code received trusts budget ∷ y ∷ z ∷ []) (sym (tries code budget))
      (sym ((computed code g.done received trusts g.small g.size g.trusted).gap_by budget h))
