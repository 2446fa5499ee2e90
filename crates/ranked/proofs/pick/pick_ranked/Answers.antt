-- More than k places are ranked, so that the index of the last is always inside; its place is put behind the first k − 1.
use Prim.Native.Nat.{ℕ, suc, ◌-◌, ◌<◌, ◌≤◌}
use mathlib.Core.Path.{◌≡◌, sym, ◌∙◌, ap}
use mathlib.Core.Bool.{cond}
use mathlib.Core.List.{List, [], ◌∷◌, ◌++◌}
use native.Mathlib.Omega.{arith}
use lib.ListN.{length, get_or, take, set}
use lib.Seq.{take-suc-set}
use Rattle.solving.proofs.Link.{accepted, no_symbols}
use Rattle.solving.proofs.Free.{index_most, picked}
use Rattle.ranked.proofs.pick.pick_ranked.Goals as goal

put_last : (l : List ℕ) (k a : ℕ) → 1 ≤ k → k < length l → take k (set l (k - 1) a) ≡ take (k - 1) l ++ a ∷ []
put_last l k a h e = let back : suc (k - 1) ≡ k = omega arith in
    ap (λ j. take j (set l (k - 1) a)) (sym back) ∙ take-suc-set l (k - 1) a (omega arith)

pub last_index-last-requires : goal.last_index-last-requires
last_index-last-requires c = (accepted c.requires.placed.0).k_least

pub overflow_sub-ranked : goal.overflow_sub-ranked
overflow_sub-ranked c = (accepted c.requires.placed.0).k_least

pub returns : goal.returns
returns c =
    let k = c.args.code.now.k in
    let ranked = c.args.ranked.now in
    let inside : cond c.last_zero-zero.result k (k - 1) ≡ length ranked → ⊥ = λ e. omega (arith, e, index_most k c.last_zero-zero.result, c.requires.placed.1) in
    put_last ranked k c.chosen_place-place.result.0 (accepted c.requires.placed.0).k_least c.requires.placed.1
    ∙ ap (λ a. take (k - 1) ranked ++ a ∷ []) (c.chosen_place-place.ensures ∙ ap (λ i. get_or ranked i 0) c.last_index-last.ensures)
    ∙ sym (picked c.requires.placed.0 [] (no_symbols _) (omega (arith, c.requires.placed.1)) c.last_zero-zero.ensures inside)
