-- Pack and Unpack as calls: each undoes the other, 17 is what Pack never writes, and a symbol of field m takes m bits, of field 9 it takes 8.
use Rattle.std.specs.Prelude.{ℕ, ◌≤◌, ◌≡◌, true, ◌↔◌, List, [], ℤ, length, replicate}
use Rattle.basics.specs.declared.Refusal.TheVariants.{NeverPacked}
use Rattle.basics.specs.Lists.{all}
use Rattle.basics.specs.Bits.{is_word}
use Rattle.basics.specs.Outcome.{Answer, Done, Refused, Meets}
use Rattle.field.specs.Galois.{width}
use Rattle.codewords.specs.Code.{Code}
use Rattle.hours.specs.Packing.{capacity, Writes}
use Rattle.blocks.specs.Outcomes.{pack_block_outcome, unpack_block_outcome}

module _ (code : Code) where
  -- a call of Pack, and one of Unpack
  abbrev pub Packs : List ℤ → Answer → List ℕ → List ℕ → Type 0
  Packs means r old new = Meets (pack_block_outcome code means (length old)) r old new

  abbrev pub Unpacks : List ℕ → Answer → List ℤ → List ℤ → Type 0
  Unpacks block r old new = Meets (unpack_block_outcome code block (length old)) r old new

  pub record Blocks : Type 0 where
    -- "symbols take m bits each", and of field number 9 "m is 8 for it"
    pub bits_m : code.field ≤ 8 → width code.field ≡ code.field
    pub bits_8 : code.field ≡ 9 → width code.field ≡ 8
    -- "Unpack: the reverse": of a block that Pack wrote, and the other way
    pub unpacked : (means : List ℤ) (old block : List ℕ) (r : Answer) (old' new : List ℤ) → Packs means Done old block → Unpacks block r old' new
        → length old' ≡ length means → (r ≡ Done) × (new ≡ means)
    pub packed : (block : List ℕ) (old means : List ℤ) (r : Answer) (old' new : List ℕ) → Unpacks block Done old means → Packs means r old' new
        → length old' ≡ length block → (r ≡ Done) × (new ≡ block)
    -- "17 (bits that Pack never writes)", where no number before it applies
    pub never_17 : (block : List ℕ) (r : Answer) (old new : List ℤ) → Unpacks block r old new → length block ≡ code.k
        → length old ≡ capacity (width code.field) code.k → all (is_word (width code.field)) block ≡ true
        → (r ≡ Refused NeverPacked) ↔ (Writes (width code.field) block (length old) → ⊥)
    -- "H = 0 gives k zeros"
    pub no_hours : (r : Answer) (old new : List ℕ) → Packs [] r old new → r ≡ Done → new ≡ replicate code.k 0
