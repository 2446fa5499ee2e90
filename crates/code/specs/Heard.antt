-- Heard: the places whose bits are set in a mask.
use Rattle.std.specs.Prelude.{ℕ, suc, ◌+◌, ◌-◌, ◌/◌, ◌%◌, ◌^◌, Bool, not, List, eqb, length, get_or}
use Rattle.basics.specs.declared.Place.{Place as PlaceNumber}
use Rattle.basics.specs.declared.Refusal.TheVariants.{Length, Place}
use Rattle.basics.specs.Lists.{all, filter, table, written}
use Rattle.basics.specs.Outcome.{Outcome, counted, check}
use Rattle.codewords.specs.Code.{Code, n, check_code}
use Rattle.codewords.specs.Codewords.{place}

-- place p at bit (p − 1) mod 8, lowest bit 0, of byte (p − 1) div 8
abbrev pub is_heard : List ℕ → PlaceNumber → Bool
is_heard mask p = eqb (get_or mask ((p.0 - 1) / 8) 0 / 2 ^ ((p.0 - 1) % 8) % 2) 1

abbrev pub heard_at : List ℕ → ℕ → Bool
heard_at mask p = is_heard mask (place p)

-- the heard places of 1 to n, ascending
abbrev pub heard_places : List ℕ → ℕ → List ℕ
heard_places mask n = filter (heard_at mask) (table suc n)

-- no bit is set past n: 40 bytes have 320 bits
abbrev pub none_past : List ℕ → ℕ → Bool
none_past mask n = all (λ p. not (heard_at mask p)) (table (λ i. n + suc i) (320 - n))

-- of a code of n points that passed the code test
abbrev pub heard_tested : ℕ → List ℕ → List ℕ → Outcome (List ℕ)
heard_tested n mask out =
    check (eqb (length mask) 40) Length
    (check (eqb (length out) 288) Length
    (check (none_past mask n) Place
    (counted (length (heard_places mask n)) (written (heard_places mask n) out))))

abbrev pub heard_outcome : Code → List ℕ → List ℕ → Outcome (List ℕ)
heard_outcome code mask out = check_code code (heard_tested (n code) mask out)
