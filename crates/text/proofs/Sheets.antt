-- The lines of a sheet, one after the other.
use Prim.Native.Nat.{ℕ, ◌≤◌, ◌<◌}
use mathlib.Core.Path.{◌≡◌}
use mathlib.Core.List.{List, []}
use native.Mathlib.Omega.{arith}
use borrow.Author.Tests.{eq-eqb, ne_eqb, le-leb, lt-leb}
use lib.ListN.{length}
use Rattle.text.specs.declared.sheet.Head.{Head}
use Rattle.std.specs.Prelude.{None}
use Rattle.text.specs.Stages.{Parses}
use Rattle.text.specs.Text.{field_key, curve_key, dimension_key, places_key, message_key}
use Rattle.text.specs.Reading.{Read, bad, got, then, line, exactly, head_of, header, Sheet, lists, sheet}

pub none : (J msg : List ℕ) {r : Read Sheet} → bad ≡ r → Parses J msg None r
none J msg e = record { reads = e; places_within = omega arith; symbols_within = omega arith }

module _ (s : List ℕ) where
  pub no_field : exactly field_key 1 s ≡ bad → bad ≡ header s
  unfolding header then
  no_field e = rw e

  module _ (f t : List ℕ) (e₁ : exactly field_key 1 s ≡ got f t) where
    pub no_curve : exactly curve_key 5 t ≡ bad → bad ≡ header s
    unfolding header then
    no_curve e = rw (e₁, e)

    module _ (c u : List ℕ) (e₂ : exactly curve_key 5 t ≡ got c u) where
      pub no_dimension : exactly dimension_key 1 u ≡ bad → bad ≡ header s
      unfolding header then
      no_dimension e = rw (e₁, e₂, e)

      pub whole_header : (k v : List ℕ) → exactly dimension_key 1 u ≡ got k v → got (head_of f c k) v ≡ header s
      unfolding header then
      whole_header k v e = rw (e₁, e₂, e)

  module _ (h : Head) where
    pub no_places : line places_key 288 s ≡ bad → bad ≡ lists h s
    unfolding lists then
    no_places e = rw e

    module _ (J t : List ℕ) (e₁ : line places_key 288 s ≡ got J t) where
      pub no_message : line message_key 288 t ≡ bad → bad ≡ lists h s
      unfolding lists then
      no_message e = rw (e₁, e)

      module _ (msg u : List ℕ) (e₂ : line message_key 288 t ≡ got msg u) where
        pub more_text : (length u ≡ 0 → ⊥) → bad ≡ lists h s
        unfolding lists then
        more_text n = rw (e₁, e₂, ne_eqb (length u) 0 n)

        pub all_read : length u ≡ 0 → got (record { head = h; places = J; message = msg }) [] ≡ lists h s
        unfolding lists then
        all_read n = rw (e₁, e₂, eq-eqb (length u) 0 n)

  pub too_long : 4096 < length s → bad ≡ sheet s
  unfolding sheet
  too_long h = rw (lt-leb (length s) 4096 h)

  module _ (h : length s ≤ 4096) where
    pub no_header : header s ≡ bad → bad ≡ sheet s
    unfolding sheet then
    no_header e = rw (le-leb (length s) 4096 h, e)

    pub as_lists : (top : Head) (t : List ℕ) → header s ≡ got top t → lists top t ≡ sheet s
    unfolding sheet then
    as_lists top t e = rw (le-leb (length s) 4096 h, e)
