-- The places that are kept, by a list that is not zero there.
use Rattle.basics.specs.Outcome.{Done}
use Rattle.std.specs.Prelude.{ℕ, suc, ◌-◌, ◌<◌, ◌≤◌, ◌≡◌, Bool, true, not, List, map, eqb, length, get_or}
use Rattle.basics.specs.Lists.{filter, table}
use Rattle.codewords.specs.Code.{Code, code_answer, n}
use Rattle.codewords.specs.Codewords.{place, symbol_at, symbols}

-- e is not zero at a place
abbrev pub keeps_place : List ℕ → ℕ → Bool
keeps_place e p = not (eqb (get_or e (p - 1) 0) 0)

-- of the first n places those that are kept, and all of them
unfoldable pub kept_before : List ℕ → ℕ → List ℕ
kept_before e n = filter (keeps_place e) (table suc n)

abbrev pub kept_in : List ℕ → List ℕ
kept_in e = kept_before e (length e)

-- the symbols at places
abbrev pub symbols_at : List ℕ → List ℕ → List ℕ
symbols_at r J = map (λ p. symbol_at r (place p)) J

-- r is the index of the first place that is kept from j on, or the length of e
pub record NextKept (e : List ℕ) (j r : ℕ) : Type 0 where
  pub from : j ≤ r
  pub within : r ≤ length e
  pub keeps : r < length e → get_or e r 0 ≡ 0 → ⊥
  pub none_between : kept_before e r ≡ kept_before e j

-- the received symbols r at the kept places decide a word of an accepted code: more than k places are kept
pub record Decided (code : Code) (r e : List ℕ) : Type 0 where
  pub done : code_answer code ≡ Done
  pub are_symbols : symbols code r ≡ true
  pub symbols_size : length r ≡ n code
  pub kept_size : length e ≡ n code
  pub enough : code.k < length (kept_in e)
