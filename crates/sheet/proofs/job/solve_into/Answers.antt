-- The function, and where it is accepted, the word: two parts are lent, and come back at the front.
use Prim.Native.Nat.{ℕ}
use mathlib.Core.Path.{sym, ◌∙◌}
use Rattle.std.proofs.lemmas.List.{length-replicate}
use Rattle.codewords.specs.Code.{code_of}
use Rattle.sheet.proofs.Few.{function_part, word_part}
use Rattle.sheet.proofs.Stops.{exit_ran, last_refused, last_done}
use Rattle.sheet.proofs.Jobs.{left_as, both_solved}
use Rattle.sheet.proofs.job.solve_into.Goals as goal

pub slice_bounds-systematic_function-end : goal.slice_bounds-systematic_function-end
slice_bounds-systematic_function-end c = (function_part c.requires.solvable c.requires.rooms.0).within

pub slice_bounds-systematic_function-end-2 : goal.slice_bounds-systematic_function-end-2
slice_bounds-systematic_function-end-2 c = sym (function_part c.requires.solvable c.requires.rooms.0).part

pub returns-in_err-systematic_function : goal.returns-in_err-systematic_function
returns-in_err-systematic_function c =
    let function = function_part c.requires.solvable c.requires.rooms.0 in
    exit_ran _ c.from_residual.ensures.1 (last_refused _ _ _ _ (rw (left_as _ _ _ _ _ _ c.requires.solvable (length-replicate {A = ℕ} 8192 0) function.part) at c.in_err-systematic_function.ensures))

pub slice_bounds-systematic_word-end : goal.slice_bounds-systematic_word-end
slice_bounds-systematic_word-end c = (word_part c.requires.solvable c.requires.rooms.1).within

pub slice_bounds-systematic_word-end-2 : goal.slice_bounds-systematic_word-end-2
slice_bounds-systematic_word-end-2 c = sym (word_part c.requires.solvable c.requires.rooms.1).part

pub returns-in_err-systematic_word : goal.returns-in_err-systematic_word
returns-in_err-systematic_word c =
    let word = word_part c.requires.solvable c.requires.rooms.1 in
    exit_ran _ c.from_residual-in_err-systematic_word.ensures.1 (last_refused _ _ _ _
    (rw (left_as _ _ _ _ _ _ c.requires.solvable c.systematic_function.auto.work word.part) at c.in_err-systematic_word.ensures))

pub returns : goal.returns
returns c =
    let function = function_part c.requires.solvable c.requires.rooms.0 in
    let word = word_part c.requires.solvable c.requires.rooms.1 in
    both_solved (code_of c.args.p c.args.xs.now c.args.ys.now) c.args.places.now c.args.symbols.now _ _ function.few word.few (c.systematic_function.auto.out ∙ function.part) (c.systematic_word.auto.out ∙ word.part)
    (last_done _ _ _ (rw (left_as _ _ _ _ _ _ c.requires.solvable (length-replicate {A = ℕ} 8192 0) function.part) at c.in_ok-systematic_function.ensures))
    (last_done _ _ _ (rw (left_as _ _ _ _ _ _ c.requires.solvable c.systematic_function.auto.work word.part) at c.in_ok-systematic_word.ensures))
