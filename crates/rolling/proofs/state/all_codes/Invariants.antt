-- The loop's invariant: what the codes passed say, and the rest.
use mathlib.Core.Path.{◌≡◌}
use mathlib.Core.Bool.{◌&&◌}
use lib.ListN.{drop}
use Rattle.basics.specs.Lists.{all}
use Rattle.hours.specs.Packing.{is_code}
use Rattle.rolling.proofs.state.all_codes.Given as goal

abbrev pub invariant-loop-code : goal.invariant-loop-code
invariant-loop-code l = (l.good && all is_code (drop l.code-index l.codes)) ≡ all is_code l.codes
