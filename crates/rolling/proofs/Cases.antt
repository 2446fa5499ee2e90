-- The known cases, by computation.
use mathlib.Core.Path.{refl}
use Rattle.basics.specs.SetBits.{little_endian}
use Rattle.hours.specs.Means.{nearest}
use Rattle.rolling.specs.State.{held, possible}
use Rattle.rolling.specs.Bytes.{bytes_of, in_bytes, state_bytes, numbers, state_from}
use Rattle.rolling.specs.Cases.{Cases}

pub cases : Cases
unfolding nearest held possible bytes_of in_bytes state_bytes numbers state_from little_endian
cases =
    record {
      seventeen = refl;
      eighteen = refl;
      seventeen_of_24 = refl;
      eighteen_of_24 = refl;
      none_present = refl;
      hour_24 = refl;
      hour_25 = refl;
      half_up = refl;
      below_half = refl;
      half_down = refl;
      first_hour = refl;
      first_too_late = refl;
      later_hour = refl;
      hour_left_out = refl;
      no_mean = refl;
      after_last = refl;
      highest = refl;
      too_high = refl;
      before_0 = refl;
      after_all = refl;
      beyond = refl;
      one_hour = refl;
      fresh_bytes = refl;
      zeros = refl;
    }
