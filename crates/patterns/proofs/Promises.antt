-- What request S-7 promises holds of every accepted code, every received word of n symbols and every n trusts.
use Rattle.basics.specs.Outcome.{Done}
use Prim.Native.Nat.{ℕ, ◌<◌}
use mathlib.Core.Path.{◌≡◌, refl}
use mathlib.Core.Bool.{true}
use mathlib.Core.List.{List, [], Memᴰ as In}
use lib.Dec.{eqb}
use lib.ListN.{length, get_or}
use borrow.Author.Tests.{eqb-true, eq-eqb}
use Rattle.codewords.specs.Code.{Code, q, n, code_answer}
use Rattle.codewords.specs.Codewords.{symbols}
use Rattle.codewords.proofs.Tests.{true_any}
use Rattle.codewords.proofs.Counting.{unique_different}
use Rattle.codewords.proofs.Listing.{Listed}
use Rattle.codewords.proofs.Places.{all_at, true_message, message_listed}
use Rattle.patterns.specs.Ranking.{trust_at, ranking}
use Rattle.patterns.specs.Best.{tried, tries_made}
use Rattle.patterns.specs.Promises.{Ranked, Promises}
use Rattle.patterns.proofs.Ranking.{in_ranking, unique_ranking, ranking_length, sorted_ranking, sorted_at}
use Rattle.patterns.proofs.Words.{is_choice, is_usable, word_codeword, word_agrees, one_change}
use Rattle.patterns.proofs.Parts.{in_at}
use Rattle.patterns.proofs.Tried.{tries, tried_once, none_first, untried_some, tried_listed}
use Rattle.patterns.proofs.Best.{some, best_le, best_codeword, best_earliest, cost_least, no_cheaper, never_dearer, all_tried}

ranked : (trust : ℕ → ℕ) (n : ℕ) → Ranked trust n (ranking trust n)
ranked trust n =
    record {
      every = λ p h k. true_any (eqb p) (in_ranking trust n p h k) (eq-eqb p p refl);
      once = unique_different eqb eqb-true (unique_ranking trust n);
      size = ranking_length trust n;
      in_order = λ i j h k. sorted_at trust (sorted_ranking trust n) i j h (rw (ranking_length trust n) k);
    }

-- the tries, one by one
module _ (code : Code) (budget i : ℕ) (h : i < tries_made code budget) where
  made_listed : 0 < q code → Listed (q code) code.k (get_or (tried code budget) i [])
  unfolding tries_made
  made_listed s = all_at [] (tried_listed code s budget) i h

  made_in : In (get_or (tried code budget) i []) (tried code budget)
  unfolding tries_made
  made_in = in_at [] (tried code budget) i h

-- THEOREM
pub promises : (code : Code) → code_answer code ≡ Done → (received trusts : List ℕ) → symbols code received ≡ true → length received ≡ n code → length trusts ≡ n code
    → Promises code received trusts
promises code done received trusts small size trusted =
    record {
      ranked = ranked (trust_at trusts) (n code);
      picked_choice = is_choice code done trusts;
      picked_usable = is_usable code done trusts;
      word_codeword = λ c m. word_codeword code done received trusts small size (message_listed code c m);
      word_agrees = λ c m. word_agrees code done received trusts small size (message_listed code c m);
      one_change = one_change code done received trusts small size;
      tries = tries code;
      tried_once = tried_once code;
      none_first = none_first code;
      untried_some = untried_some code;
      tried_changes = λ budget i h. true_message code (made_listed code budget i h (some code done received trusts small size));
      best_codeword = best_codeword code done received trusts small size;
      best_cheapest = λ budget i h. best_le code received trusts budget (made_in code budget i h);
      best_earliest = best_earliest code received trusts;
      cost_least = cost_least code done received trusts small size trusted;
      no_cheaper = λ budget w c. no_cheaper code done received trusts small size trusted w c budget;
      never_dearer = never_dearer code received trusts;
      all_tried = λ budget e w c. all_tried code done received trusts small size trusted w c budget e;
    }
