-- A packed block is a message; its word is a codeword that agrees with what is heard of it, and Rebuild gives the one codeword that does.
use Rattle.basics.specs.Outcome.{Answer, Done}
use Prim.Native.Nat.{ℕ, ◌-◌, ◌≤◌, ◌<◌}
use mathlib.Core.Path.{◌≡◌, refl, sym, ◌∙◌, ap, subst}
use mathlib.Core.Bool.{Bool, true, false}
use mathlib.Core.Logic.{⊎_elim}
use mathlib.Core.List.Memᴰ.{head as here}
use mathlib.Core.List.Memᴰ.{tail as there}
use mathlib.Core.List.{List, Memᴰ as In}
use native.Mathlib.Omega.{arith}
use lib.Dec.{eqb, ltb}
use lib.IntN.{ℤ}
use lib.ListN.{length, get_or, length-map}
use borrow.Author.Tests.{eqb-true, eqb-false, eq-eqb}
use Rattle.basics.proofs.Lists.{both_true, all_get, all_of, get_or_map_in, same_true, same_refl}
use Rattle.codewords.specs.Code.{Code, n, q, code_answer}
use Rattle.codewords.specs.Codewords.{place, symbol_at, agrees, places, choice, symbols, message, codeword, agreeing, count, usable}
use Rattle.codewords.proofs.Tests.{in_filter}
use Rattle.codewords.proofs.Places.{places_true, all_at}
use Rattle.codewords.proofs.Demand2.{demand2 as on-codewords}
use Rattle.coder.specs.Outcomes.{rebuild_outcome}
use Rattle.demands.specs.Call.{Call, Of, Fits}
use Rattle.demands.specs.Demand3.{OneWord}
use Rattle.demands.specs.Blocks.{Unpacks}
use Rattle.demands.specs.Day.{symbols_at, Sent, Heard, Back}
use Rattle.demands.proofs.Ones.{codeword_length, is_recovered, codeword_in}
use Rattle.demands.proofs.Blocks.{blocks, packed_message}
use Rattle.demands.proofs.Demand3.{demand3}

module _ (code : Code) (done : code_answer code ≡ Done) where
  -- what is heard of a codeword
  module _ (w : List ℕ) (h : codeword code w ≡ true) (J : List ℕ) (p : places code J ≡ true) where
    codeword_symbols : symbols code w ≡ true
    codeword_symbols = subst (λ w. symbols code w ≡ true) ((on-codewords code done).word_recovered w h) ((on-codewords code done).word_symbols _ (is_recovered code done w h))

    heard_length : length (symbols_at w J) ≡ length J
    heard_length = length-map J (λ p. symbol_at w (place p))

    heard_symbols : symbols code (symbols_at w J) ≡ true
    unfolding symbols symbol_at
    heard_symbols =
        all_of (λ u. ltb u (q code)) (symbols_at w J) 0
        (λ i l.
        let k : i < length J = omega (arith, heard_length) in
        let (least, most) = all_at 0 (places_true code J p).spots i k in
        ap (λ u. ltb u (q code)) (get_or_map_in (λ p. symbol_at w (place p)) J i 0 0 k)
        ∙ all_get (λ u. ltb u (q code)) w 0 (get_or J i 0 - 1) codeword_symbols (omega (arith, codeword_length code done w h)))

    heard_agrees : agrees w J (symbols_at w J) ≡ true
    unfolding agrees
    heard_agrees = same_refl (symbols_at w J)

    heard_counted : count code J (symbols_at w J) ≡ 0 → ⊥
    unfolding count agreeing
    heard_counted = in_some (in_filter (λ v. agrees v J (symbols_at w J)) (codeword_in code w h) heard_agrees)
      where
        in_some : {l : List (List ℕ)} → In w l → length l ≡ 0 → ⊥
        in_some (here e) z = omega (arith, z)
        in_some (there i) z = omega (arith, z)

    -- Rebuild of it, of k usable places or of more
    rebuilds : code.k ≤ length J → (length J ≡ code.k → usable code J ≡ true) → (c : Call) → Of (rebuild_outcome code J (symbols_at w J)) c → Fits (n code) c
        → (c.answer ≡ Done) × (c.out_after ≡ w)
    unfolding choice message
    rebuilds least works c o f = by (eqb (length J) code.k) refl
      where
        by : (b : Bool) → eqb (length J) code.k ≡ b → (c.answer ≡ Done) × (c.out_after ≡ w)
        by true e =
            let u = works (eqb-true _ _ e) in
            let size = eq-eqb (length (symbols_at w J)) code.k (heard_length ∙ eqb-true _ _ e) in
            let r = (demand3 code done).rebuild J (symbols_at w J) c o (both_true (places code J) _ p e) (both_true (symbols code (symbols_at w J)) _ heard_symbols size) f in
            (r.usable_done.1 u, sym ((r.gives u).only w h heard_agrees))
        by false e =
            let more : code.k < length J = omega (arith, eqb-false (length J) code.k e) in
            let r = (demand3 code done).rebuild_more J (symbols_at w J) c o p heard_symbols heard_length more f in
            let d = ⊎_elim (λ a. a) (λ a. absurd (heard_counted (r.none_14.0 a))) r.else_done in
            (d, sym ((r.gives d).only w h heard_agrees))

  -- what is sent
  module _ (means : List ℤ) (J : List ℕ) (c : Call) (s : Sent code means J c) where
    sent_word : OneWord code J s.block c.out_after
    sent_word =
        let r = (demand3 code done).of_systematic_word J s.block c s.coded s.chosen (packed_message code done means s.old s.block s.packed) s.fits in
        r.gives (r.usable_done.0 s.done)

    at_chosen : symbols_at c.out_after J ≡ s.block
    unfolding agrees
    at_chosen = same_true (symbols_at c.out_after J) s.block sent_word.agreeing

-- THEOREM: whatever k usable places or more are heard, the means that were packed come back
pub day : (code : Code) → code_answer code ≡ Done → (means : List ℤ) (J heard : List ℕ) (c d : Call) (r : Answer) (new : List ℤ)
    → Sent code means J c → Heard code means J c.out_after heard d r new → Back code means J c.out_after d r new
day code done means J heard c d r new s h =
    let w = sent_word code done means J c s in
    let (a, e) = rebuilds code done c.out_after w.is_codeword heard h.are_places h.enough h.usable_if d h.rebuilt h.fits in
    let block = ap (λ v. symbols_at v J) e ∙ at_chosen code done means J c s in
    let u = subst (λ l. Unpacks code l r h.old new) block h.unpacked in
    let (b, m) = (blocks code done).unpacked means s.old s.block r h.old new s.packed u h.hours in
    record { rebuilt_done = a; same_word = e; unpacked_done = b; same_means = m }
