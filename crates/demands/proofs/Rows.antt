-- Rows of n that are joined stand in the parts of n one after the other; so do the rows of Matrix, each of which is a codeword.
use Rattle.basics.specs.Outcome.{Done}
use Prim.Native.Nat.{ℕ, zero, suc, ◌+◌, ◌*◌, ◌<◌}
use mathlib.Core.Path.{◌≡◌, sym, ◌∙◌, ap, subst}
use mathlib.Core.Bool.{true}
use mathlib.Core.List.{List, [], ◌∷◌, ◌++◌}
use native.Mathlib.Nat.{zero-mul, suc-mul}
use native.Mathlib.Omega.{arith}
use lib.ListN.{length, get_or, take, drop, length-append}
use lib.Seq.{take-append_seam, drop-append-add}
use Rattle.basics.proofs.Lists.{length_table}
use Rattle.elliptic.proofs.Points.{All, all_head, all_tail, all_of}
use Rattle.codewords.specs.Code.{Code, n, code_answer}
use Rattle.codewords.specs.Codewords.{index, unit_message, choice, usable, matrix, row}
use Rattle.codewords.proofs.Demand3.{demand3}
use Rattle.coder.specs.Outcomes.{joined}
use Rattle.demands.specs.Demand3.{OneWord, row_of}
use Rattle.demands.proofs.Ones.{one_word, codeword_length}

pub joined_row : (n : ℕ) (rows : List (List ℕ)) → All (λ r. length r ≡ n) rows → (i : ℕ) → i < length rows → row_of n i (joined rows) ≡ get_or rows i []
joined_row n [] h i l = absurd (omega arith)
joined_row n (r ∷ rows) h zero l =
    ap (λ m. take n (drop m (r ++ joined rows))) (zero-mul n) ∙ ap (λ m. take m (r ++ joined rows)) (sym (all_head h)) ∙ take-append_seam r (joined rows)
joined_row n (r ∷ rows) h (suc i) l =
    ap (λ m. take n (drop m (r ++ joined rows))) start ∙ ap (take n) (drop-append-add r (joined rows) (i * n)) ∙ joined_row n rows (all_tail h) i (omega arith)
  where
    start : suc i * n ≡ length r + i * n
    start = omega (arith, suc-mul i n, all_head h)

pub joined_length : (n : ℕ) (rows : List (List ℕ)) → All (λ r. length r ≡ n) rows → length (joined rows) ≡ length rows * n
joined_length n [] h = omega arith
joined_length n (r ∷ rows) h = omega (arith, length-append r (joined rows), all_head h, suc-mul (length rows) n, joined_length n rows (all_tail h))

-- the rows at a usable choice
module _ (code : Code) (done : code_answer code ≡ Done) (J : List ℕ) (j : choice code J ≡ true) (u : usable code J ≡ true) where
  row_word : (i : ℕ) → i < code.k → OneWord code J (unit_message code.k (index i)) (get_or (matrix code J) i [])
  row_word i l = one_word code J (unit_message code.k (index i)) ((demand3 code done).rows J j u i l)

  pub row_count : length (matrix code J) ≡ code.k
  unfolding matrix
  row_count = length_table (λ i. row code J (index i)) code.k

  pub row_lengths : All (λ r. length r ≡ n code) (matrix code J)
  row_lengths = all_of [] (matrix code J) (λ i l. codeword_length code done _ (row_word i (omega (arith, row_count))).is_codeword)

  pub the_rows : (i : ℕ) → i < code.k → OneWord code J (unit_message code.k (index i)) (row_of (n code) i (joined (matrix code J)))
  the_rows i l =
      subst (OneWord code J (unit_message code.k (index i)))
      (sym (joined_row (n code) (matrix code J) row_lengths i (omega (arith, row_count)))) (row_word i l)
