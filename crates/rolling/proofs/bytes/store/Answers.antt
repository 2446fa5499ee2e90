-- Each callee fills its part of the buffer.
use mathlib.Core.Path.{sym}
use native.Mathlib.Omega.{arith}
use lib.Seq.{length-take-le}
use Rattle.rolling.proofs.InBytes.{state_stored}
use Rattle.rolling.proofs.bytes.store.Goals as goal

pub slice_bounds-store_codes-end-2 : goal.slice_bounds-store_codes-end-2
slice_bounds-store_codes-end-2 c = sym (length-take-le 48 c.args.out.now (omega arith))

pub returns : goal.returns
returns c =
    state_stored c.args.state c.args.out.now _ _ _ c.requires c.store_codes.auto.out
    c.store_codes.ensures c.store_number.ensures c.store_number-2.ensures
