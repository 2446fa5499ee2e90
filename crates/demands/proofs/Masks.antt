-- Request S-3: the places of 64 bits at a time are those found in one number, so five numbers have all that are heard.
use Prim.Native.Nat.{ℕ, zero, suc, ◌+◌, ◌*◌, ◌≤◌}
use mathlib.Core.Path.{◌≡◌, refl, sym, ◌∙◌, ap, ap₂}
use mathlib.Core.Bool.{true, ◌&&◌}
use mathlib.Core.List.{List, ◌++◌, map}
use native.Mathlib.Numerals.{add-one}
use native.Mathlib.Omega.{arith}
use borrow.Author.Tests.{eqb-true, leb-true}
use lib.Dec.{eqb, leb}
use lib.ListN.{length, take, length-append, length-map}
use Rattle.basics.specs.Outcome.{Answer, Done, Counted, Meets}
use Rattle.basics.specs.SetBits.{Bytes, found}
use Rattle.basics.proofs.Lists.{both_right}
use Rattle.basics.proofs.LittleEndian.{part_lt}
use Rattle.basics.proofs.SetBits.{finds}
use Rattle.bitset.specs.Places.{places_of}
use Rattle.codewords.specs.Code.{Code, n, right_count}
use Rattle.code.specs.Heard.{heard_places, heard_outcome}
use Rattle.code.specs.Words.{word_of}
use Rattle.code.proofs.Words.{places_more, set_places_lem}
use Rattle.demands.specs.Order.{first, heard_tests}
use Rattle.demands.specs.Masks.{places_found, ones_counted, Masks}
use Rattle.demands.proofs.Order.{first_hold}
use Rattle.demands.proofs.Demand1.{demand1}

module _ (mask : List ℕ) (bytes : Bytes mask) where
  places_found_lem : (i : ℕ) → heard_places mask (64 * i) ≡ places_found mask i
  unfolding places_found places_of
  places_found_lem zero = refl
  places_found_lem (suc i) =
      rw (← add-one i) (places_more mask bytes i)
      ∙ ap₂ ◌++◌ (places_found_lem i) (ap (map (λ j. 64 * i + j + 1)) (sym (finds 64 (word_of mask i) (part_lt mask (8 * i) 8 bytes)).all_set))

  ones_counted_lem : (i : ℕ) → length (places_found mask i) ≡ ones_counted mask i
  unfolding places_found ones_counted
  ones_counted_lem zero = refl
  ones_counted_lem (suc i) =
      let here = found 64 (word_of mask i) in
      length-append (places_found mask i) (map (λ j. 64 * i + j + 1) here)
      ∙ ap₂ ◌+◌ (ones_counted_lem i) (length-map here (λ j. 64 * i + j + 1) ∙ (finds 64 (word_of mask i) (part_lt mask (8 * i) 8 bytes)).as_many)

  -- the five numbers are the whole mask
  all_found : (i m : ℕ) → length mask ≡ 40 → i ≡ 5 → m ≡ 8 * length mask → heard_places mask m ≡ places_found mask i
  all_found i m long five all = let e : m ≡ 64 * i = omega arith in ap (heard_places mask) e ∙ places_found_lem i

few_points : (code : Code) → right_count code ≡ true → n code ≤ 288
unfolding right_count
few_points code h = leb-true (n code) 288 (both_right (leb 2 (n code)) (leb (n code) 288) (both_right (eqb (length code.xs) (length code.ys)) (leb 2 (n code) && leb (n code) 288) h))

masks_call : (code : Code) (mask : List ℕ) (r : Answer) (old new : List ℕ) → Bytes mask → Meets (heard_outcome code mask old) r old new
    → first (heard_tests code mask old) ≡ Done → (r ≡ Counted (ones_counted mask 5)) × (take (ones_counted mask 5) new ≡ places_found mask 5)
masks_call code mask r old new bytes m accepted =
    let held = first_hold (heard_tests code mask old) accepted in
    let own = held.1.1.1.1.1.1.1 in
    let long = eqb-true (length mask) 40 own.0 in
    let call = (demand1.heard code mask r old new m).accepted accepted in
    let same = sym (set_places_lem mask (n code) long (omega (arith, few_points code held.1.1.1.0)) own.1.1.0) ∙ all_found mask bytes 5 (8 * length mask) long refl refl in
    let many = ap length same ∙ ones_counted_lem mask bytes 5 in
    (call.counted ∙ ap Counted many, ap (λ k. take k new) (sym many) ∙ call.front ∙ same)

pub masks : Masks
masks = record { every_number = finds 64; by_numbers = masks_call }
