-- A picked place lies within the trusts.
use mathlib.Core.Path.{◌≡◌, sym, ◌∙◌, ap}
use mathlib.Core.List.{List}
use Prim.Native.Nat.{ℕ, ◌-◌, ◌<◌}
use native.Mathlib.Omega.{arith}
use lib.ListN.{length, get_or}
use Rattle.basics.proofs.Lists.{get_or_map_in}
use Rattle.codewords.specs.Codewords.{place, symbol_at}
use Rattle.patterns.specs.Best.{entries}
use Rattle.gap.proofs.trusts.trust_of.Goals as goal

entry_at : (trusts places : List ℕ) (i : ℕ) → i < length places → get_or (entries trusts places) i 0 ≡ get_or trusts (get_or places i 0 - 1) 0
unfolding entries symbol_at
entry_at trusts places i h = get_or_map_in (λ p. symbol_at trusts (place p)) places i 0 0 h

pub index_of-requires : goal.index_of-requires
index_of-requires c =
    omega (arith, c.chosen_place-place.ensures, c.requires.0 c.args.index.0 c.requires.1)

pub bounds-trusts-index_of : goal.bounds-trusts-index_of
bounds-trusts-index_of c =
    omega (arith, c.index_of.ensures, c.chosen_place-place.ensures, c.requires.0 c.args.index.0 c.requires.1)

pub returns : goal.returns
returns c =
    let index : c.index_of.result ≡ get_or c.args.places.now c.args.index.0 0 - 1
    = c.index_of.ensures ∙ ap (λ p. p - 1) c.chosen_place-place.ensures in
    (c.from.ensures ∙ ap (λ i. get_or c.args.trusts.now i 0) index ∙ sym (entry_at c.args.trusts.now c.args.places.now c.args.index.0 c.requires.1), omega (arith, (c.type_inv.trusts c.index_of.result).fits))
