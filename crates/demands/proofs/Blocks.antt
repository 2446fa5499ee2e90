-- Pack and Unpack of an accepted code are those of its width, of which the crate hours has shown that they undo each other.
use Prim.Native.Nat.{ℕ, ◌+◌, ◌*◌, ◌^◌, ◌≤◌}
use mathlib.Core.Path.{◌≡◌, refl, sym, ◌∙◌, ap, subst}
use mathlib.Core.Bool.{true}
use mathlib.Core.Logic.{◌↔◌}
use mathlib.Core.List.{List, [], ◌∷◌}
use native.Mathlib.Nat.{zero-mul}
use native.Mathlib.Omega.{arith}
use lib.Dec.{eqb}
use lib.IntN.{ℤ}
use lib.ListN.{length, replicate, drop, length-replicate}
use borrow.Author.Tests.{eqb-true, eq-eqb}
use Rattle.basics.specs.declared.Refusal.TheVariants.{Length, Symbol, Reading, NeverPacked}
use Rattle.basics.specs.Bits.{value, word, is_word, is_zero}
use Rattle.basics.specs.Lists.{all, table}
use Rattle.basics.specs.Outcome.{Answer, Done, Refused, Outcome, refused, accepted, counted, answer, left, Meets}
use Rattle.basics.proofs.BitLists.{zero_join}
use Rattle.basics.proofs.Lists.{both_left, both_right, both_true, all_replicate, all_take, all_drop, length_table, table_as, is_table, get_or_zeros}
use Rattle.basics.proofs.Outcomes.{passed}
use Rattle.field.specs.Galois.{width, size}
use Rattle.field.proofs.Galois.{row_facts}
use Rattle.codewords.specs.Code.{Code, code_answer}
use Rattle.codewords.specs.Codewords.{symbols, message}
use Rattle.codewords.proofs.Tests.{fails, not_both}
use Rattle.codewords.proofs.Accepted.{accepted_done}
use Rattle.hours.specs.Packing.{capacity, pack_outcome, unpack_outcome, packed, unpacked, clean, stream, Writes}
use Rattle.hours.proofs.Unpacking.{packed_words, unpack_pack, pack_unpack, clean_exactly}
use Rattle.demands.specs.Blocks.{Blocks, Packs, Unpacks}
use Rattle.demands.proofs.Fields.{width_low, elements_9}
use Rattle.demands.proofs.Passing.{Decided, decided, accepted_on, on, code_on}

-- a call that is done leaves what is accepted
pub done_accepted : {M : Type 0} (o : Outcome M) {old new : M} → Meets o Done old new → o ≡ accepted new
unfolding answer left
done_accepted (refused e) m = let z = m.answers in cc
done_accepted (accepted l) m = ap accepted (sym m.leaves)
done_accepted (counted k l) m = let z = m.answers in cc

-- ---- no hours: a stream of zeros

value_zero : (l : List ℕ) → all is_zero l ≡ true → value l ≡ 0
unfolding value
value_zero [] h = refl
value_zero (b ∷ l) h =
    let z = eqb-true b 0 (both_left (is_zero b) (all is_zero l) h) in
    ap (λ b. b * 2 ^ length l + value l) z ∙ zero_mul_add (2 ^ length l) (value l) ∙ value_zero l (both_right (is_zero b) (all is_zero l) h)
  where
    zero_mul_add : (a b : ℕ) → 0 * a + b ≡ b
    zero_mul_add a b = omega (arith, zero-mul a)

zeros_packed : (w k : ℕ) → packed w [] k ≡ replicate k 0
unfolding word
zeros_packed w k =
    table_as (word w s) (λ i. 0) k (λ i h. value_zero _ (all_take is_zero (drop (w * i) s) w (all_drop is_zero s (w * i) zero)))
    ∙ ap (table (λ i. 0)) (sym (length-replicate {A = ℕ} k 0)) ∙ sym (is_table (λ i. 0) (replicate k 0) 0 (λ i h. get_or_zeros [] k i))
  where
    s : List ℕ
    s = stream [] k

    zero : all is_zero s ≡ true
    zero = zero_join 15 (replicate k 0) (all_replicate (is_word 15) k 0 refl) ∙ all_replicate is_zero k 0 refl

-- ---- the calls

module _ (code : Code) (done : code_answer code ≡ Done) where
  abbrev w : ℕ
  w = width code.field

  small : w ≤ 15
  small = omega (arith, (row_facts (accepted_done code done).field).narrow)

  -- what Pack was given and gave, and Unpack
  packed_by : (means : List ℤ) (old block : List ℕ) → Packs code means Done old block
      → (eqb (length old) code.k ≡ true) × (pack_outcome w means (length old) ≡ accepted block)
  packed_by means old block m = passed Length (done_accepted _ (code_on code done m))

  unpacked_by : (block : List ℕ) (old means : List ℤ) → Unpacks code block Done old means
      → (eqb (length block) code.k ≡ true) × (unpack_outcome w block (length old) ≡ accepted means)
  unpacked_by block old means m = passed Length (done_accepted _ (code_on code done m))

  block_length : (means : List ℤ) (k : ℕ) (block : List ℕ) → pack_outcome w means k ≡ accepted block → length block ≡ k
  block_length means k block e =
      let (a, b) = passed Length e in
      let (c, d) = passed Reading b in
      let same : packed w means k ≡ block = cc d in
      ap length (sym same) ∙ length_table (word w (stream means k)) k

  -- the block is a message
  pub packed_message : (means : List ℤ) (old block : List ℕ) → Packs code means Done old block → message code block ≡ true
  unfolding message symbols size
  packed_message means old block p =
      let (long, out) = packed_by means old block p in
      let (fit, b) = passed Length out in
      let (va, d) = passed Reading b in
      let same : packed w means (length old) ≡ block = cc d in
      both_true (symbols code block) (eqb (length block) code.k)
      (subst (λ l. all (is_word w) l ≡ true) same (packed_words w means (length old) small fit va)) (ap (λ n. eqb n code.k) (block_length means (length old) block out) ∙ long)

  unpacks : (means : List ℤ) (old block : List ℕ) (r : Answer) (old' new : List ℤ) → Packs code means Done old block → Unpacks code block r old' new
      → length old' ≡ length means → (r ≡ Done) × (new ≡ means)
  unpacks means old block r old' new p u e =
      let (size, out) = packed_by means old block p in
      let l = block_length means (length old) block out in
      accepted_on
      (subst (λ o. Meets o r old' new) (ap (unpack_outcome w block) e ∙ unpack_pack w small means (length old) block out)
      (on Length (ap (λ n. eqb n code.k) l ∙ size) (code_on code done u)))

  packs : (block : List ℕ) (old means : List ℤ) (r : Answer) (old' new : List ℕ) → Unpacks code block Done old means → Packs code means r old' new
      → length old' ≡ length block → (r ≡ Done) × (new ≡ block)
  packs block old means r old' new u p e =
      let (size, out) = unpacked_by block old means u in
      accepted_on
      (subst (λ o. Meets o r old' new) (ap (pack_outcome w means) e ∙ pack_unpack w small block (length old) means out)
      (on Length (ap (λ n. eqb n code.k) e ∙ size) (code_on code done p)))

  never : (block : List ℕ) (r : Answer) (old new : List ℤ) → Unpacks code block r old new → length block ≡ code.k → length old ≡ capacity w code.k
      → all (is_word w) block ≡ true → (r ≡ Refused NeverPacked) ↔ (Writes w block (length old) → ⊥)
  never block r old new u e l s = (
    λ a p. not_both (exactly.1 p) (d.refuses.0 a),
    λ h. d.refuses.1 (fails (clean w block (length old)) (λ c. h (exactly.0 c))),
  )
    where
      fit : eqb (length old) (capacity w (length block)) ≡ true
      fit = eq-eqb _ _ (l ∙ ap (capacity w) (sym e))

      d : Decided (clean w block (length old)) NeverPacked (unpacked w block (length old)) r new
      d = decided (clean w block (length old)) (on Symbol s (on Length fit (on Length (eq-eqb _ _ e) (code_on code done u))))

      exactly : (clean w block (length old) ≡ true → Writes w block (length old)) × (Writes w block (length old) → clean w block (length old) ≡ true)
      exactly = clean_exactly w small block (length old) fit s

  none : (r : Answer) (old new : List ℕ) → Packs code [] r old new → r ≡ Done → new ≡ replicate code.k 0
  none r old new p a =
      let (size, out) = packed_by [] old new (subst (λ r. Packs code [] r old new) a p) in
      let (c, b) = passed Length out in
      let (v, d) = passed Reading b in
      let same : packed w [] (length old) ≡ new = cc d in
      sym same ∙ zeros_packed w (length old) ∙ ap (λ k. replicate k 0) (eqb-true (length old) code.k size)

-- THEOREM
pub blocks : (code : Code) → code_answer code ≡ Done → Blocks code
blocks code done =
    record {
      bits_m = width_low (accepted_done code done).field;
      bits_8 = λ e. ap width e ∙ elements_9.0;
      unpacked = unpacks code done;
      packed = packs code done;
      never_17 = never code done;
      no_hours = none code done;
    }
