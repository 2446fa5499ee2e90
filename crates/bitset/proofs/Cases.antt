-- The known cases, by computation.
use mathlib.Core.Path.{refl}
use lib.Count.{ones, ones_in, count_trailing_zeros}
use Rattle.basics.specs.SetBits.{little_endian, set_bits, found_in}
use Rattle.bitset.specs.Places.{places_of}
use Rattle.bitset.specs.Cases.{Cases}

pub cases : Cases
unfolding little_endian set_bits found_in ones ones_in count_trailing_zeros places_of
cases =
    record {
      two_bytes = refl;
      eight_bytes = refl;
      bits_of_178 = refl;
      found_in_178 = refl;
      ones_of_178 = refl;
      found_in_0 = refl;
      lowest_and_highest = refl;
      places_of_5 = refl;
    }
